-- `crc::crc_update` meets its contract: both of the ways to take the octets do.
use Prim.Native.Nat.{ℕ, ◌-◌, ◌*◌, ◌/◌, ◌≤◌}
use mathlib.Core.Path.{◌≡◌}
use mathlib.Core.List.{List}
use native.Mathlib.Omega.{arith}
use lib.ListN.{length, take, drop, length-drop, take-append-drop}
use lib.Seq.{take_all}
use Rattle.crc.proofs.Words.{spreads_end}
use Rattle.crc.proofs.crc_update.Goals as goal

pub returns : goal.returns
returns c =
    let bytes : List ℕ = c.args.bytes.now in
    let n : ℕ = (length bytes - 40) / 8 * 8 in
    let p = c.spread-p in
    let behind : take (length bytes - n) (drop n bytes) ≡ drop n bytes = take_all (length bytes - n) (drop n bytes) (simp length-drop (omega arith)) in
    let last : 40 ≤ length (drop n bytes) = simp length-drop (omega (arith, c.if-bytes-lt48.false)) in
    rw (take-append-drop n bytes) at
    (spreads_end c.args.value p.result c.ended.result (take n bytes) (drop n bytes) last p.ensures (rw behind at c.ended.ensures))
