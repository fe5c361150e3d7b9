-- `crc::crc_few` meets its contract: at each turn the register has taken the octets of the turns before, four each, and at the end those that are left.
use Prim.Native.Nat.{ℕ, ◌-◌, ◌+◌, ◌*◌, ◌/◌}
use mathlib.Core.Path.{◌≡◌, refl}
use mathlib.Core.List.{List}
use native.Mathlib.Omega.{arith}
use lib.ListN.{length, take, drop, length-drop, take-append-drop}
use lib.Seq.{take_all, take-add}
use Rattle.crc.specs.Fcs.{message}
use Rattle.crc.specs.Register.{Takes}
use Rattle.crc.proofs.Laws.{takes_append, takes_four}
use Rattle.crc.proofs.crc_few.Goals as goal

pub loop-turn-init : goal.loop-turn-init
unfolding Takes message
loop-turn-init c = (omega (arith, c.ranges.value), λ m. refl)

pub loop-turn-preserved : goal.loop-turn-preserved
loop-turn-preserved c =
    let loop = c.loop-turn in
    let i : ℕ = loop.turn * 4 in
    let bytes : List ℕ = c.args.bytes.now in
    let four : List ℕ = take 4 (drop i bytes) in
    let next : (loop.turn + 1) * 4 ≡ i + 4 = omega arith in (
      omega (arith, c.crc_four-c.type_inv),
      rw (next, take-add i 4 bytes)
          (takes_append c.args.value loop.c c.crc_four-c.result (take i bytes) four loop.invariant.1
          (takes_four loop.c c.four_at.result c.crc_four-c.result four loop.invariant.0 c.four_at.ensures c.crc_four-c.ensures)),
    )

pub returns : goal.returns
returns c =
    let bytes : List ℕ = c.args.bytes.now in
    let i : ℕ = length bytes / 4 * 4 in
    let all : c.loop-turn.turn ≡ length bytes / 4 = omega arith in
    let before = rw all at c.loop-turn.invariant.1 in
    let behind : take (length bytes - i) (drop i bytes) ≡ drop i bytes = take_all (length bytes - i) (drop i bytes) (simp length-drop (omega arith)) in
    rw (take-append-drop i bytes) at
    (takes_append c.args.value c.loop-turn.c c.crc_octets.result (take i bytes) (drop i bytes) before
    (rw behind at c.crc_octets.ensures))
