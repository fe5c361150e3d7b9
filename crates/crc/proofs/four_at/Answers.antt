-- `crc::four_at` meets its contract: four octets one behind the other.
use Prim.Native.Nat.{ℕ, zero, suc, ◌+◌, ◌*◌, ◌≤◌, ◌<◌}
use mathlib.Core.Path.{◌≡◌, refl, sym, ap, ◌∙◌}
use mathlib.Core.Bool.{Bool}
use mathlib.Core.List.{List, [], ◌∷◌, ◌++◌, append-nil}
use native.Mathlib.Omega.{arith}
use lib.ListN.{length, take, drop, get_or}
use lib.Seq.{drop-cons}
use Rattle.crc.specs.Fcs.{bits, message}
use Rattle.crc.proofs.Laws.{bits_join}
use Rattle.crc.proofs.four_at.Goals as goal

-- the n octets from i on
abbrev places : ℕ → ℕ → List ℕ → List ℕ
places zero i os = []
places (suc n) i os = get_or os i 0 ∷ places n (suc i) os

taken_places : (n i : ℕ) (os : List ℕ) → i + n ≤ length os → take n (drop i os) ≡ places n i os
taken_places zero i os h = refl
taken_places (suc n) i os h =
    ap (take (suc n)) (drop-cons os i 0 (omega arith)) ∙ ap (λ (l : List ℕ). get_or os i 0 ∷ l) (taken_places n (suc i) os (omega arith))

-- four octets as one number, the first one lowest
four : (w x y z : ℕ) → w < 256 → x < 256 → y < 256 → z < 256 → bits 32 (w + (x + (y + z * 256) * 256) * 256) ≡ message (w ∷ x ∷ y ∷ z ∷ [])
unfolding message
four w x y z a b c d =
    bits_join 24 8 w (x + (y + z * 256) * 256) a
    ∙ ap (λ (l : List Bool). bits 8 w ++ l)
    (bits_join 16 8 x (y + z * 256) b
    ∙ ap (λ (l : List Bool). bits 8 x ++ l)
    (bits_join 8 8 y z c ∙ ap (λ (l : List Bool). bits 8 y ++ l) (sym (append-nil _))))

pub returns : goal.returns
returns c =
    let os : List ℕ = c.args.bytes.now in
    let i : ℕ = c.args.i in
    let e1 : i + 1 ≡ suc i = omega arith in
    let e2 : i + 2 ≡ suc (suc i) = omega arith in
    let e3 : i + 3 ≡ suc (suc (suc i)) = omega arith in
    let w : ℕ = get_or os i 0 in
    let x : ℕ = get_or os (suc i) 0 in
    let y : ℕ = get_or os (suc (suc i)) 0 in
    let z : ℕ = get_or os (suc (suc (suc i))) 0 in
    let read = rw (e1, e2, e3) at c.from_le_bytes.ensures in
    let is : c.from_le_bytes.result ≡ w + (x + (y + z * 256) * 256) * 256 = omega (arith, read) in
    let fits = c.type_inv.bytes in
    rw (taken_places 4 i os (omega arith), is)
    (four w x y z (omega (arith, (fits i).fits)) (omega (arith, (fits (suc i)).fits)) (omega (arith, (fits (suc (suc i))).fits)) (omega (arith, (fits (suc (suc (suc i)))).fits)))
