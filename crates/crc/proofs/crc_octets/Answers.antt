-- `crc::crc_octets` meets its contract: at each turn the register has taken the octets before this one.
use Prim.Native.Nat.{ℕ}
use mathlib.Core.Path.{◌≡◌, refl, ap}
use mathlib.Core.List.{List, [], ◌∷◌}
use lib.ListN.{take, drop, get_or}
use lib.Seq.{drop-cons, take-add}
use Rattle.crc.specs.Fcs.{message}
use Rattle.crc.specs.Register.{Takes}
use Rattle.crc.proofs.Laws.{takes_append}
use Rattle.crc.proofs.crc_octets.Goals as goal

pub loop-octet-init : goal.loop-octet-init
unfolding Takes message
loop-octet-init c = λ m. refl

pub loop-octet-preserved : goal.loop-octet-preserved
loop-octet-preserved c =
    let i : ℕ = c.loop-octet.octet-index in
    let bytes : List ℕ = c.args.bytes.now in
    let one : take 1 (drop i bytes) ≡ get_or bytes i 0 ∷ [] = ap (take 1) (drop-cons bytes i 0 c.loop-octet-test.true) in
    rw (take-add i 1 bytes, one)
    (takes_append c.args.value c.loop-octet.c c.crc_octet-c.result (take i bytes) (get_or bytes i 0 ∷ []) c.loop-octet.invariant
    c.crc_octet-c.ensures)
