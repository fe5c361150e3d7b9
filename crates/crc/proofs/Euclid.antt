-- The remainder is the remainder: a polynomial is its quotient times the generator plus the remainder, and no other 32 terms are.
use Prim.Native.Nat.{ℕ, zero, suc, ◌+◌, ◌≤◌}
use mathlib.Core.Path.{◌≡◌, refl, sym, ap, ap₂, ◌∙◌}
use mathlib.Core.Bool.{Bool, true, false}
use mathlib.Core.List.{List, [], ◌∷◌, ◌++◌}
use native.Mathlib.Omega.{arith}
use lib.ListN.{length, length-append}
use Rattle.crc.specs.Fcs.{add, lower, generator, divide, zeros}
use Rattle.crc.proofs.Laws.{add_assoc, add-zeros, add-length, lower-length, zeros-length, linear, divide-zeros}

-- q times the generator: 32 terms more than q
unfoldable pub times : List Bool → List Bool
times [] = zeros 32
times (false ∷ q) = false ∷ times q
times (true ∷ q) = add generator (false ∷ times q)

unfoldable pub quotient : ℕ → List Bool → List Bool
quotient zero p = []
quotient (suc k) [] = []
quotient (suc k) (false ∷ p) = false ∷ quotient k p
quotient (suc k) (true ∷ p) = true ∷ quotient k (add lower p)

twice : (g p : List Bool) → length g ≤ length p → add g (add g p) ≡ p
unfolding add
twice [] p h = refl
twice (a ∷ g) [] h = absurd (omega arith)
twice (false ∷ g) (b ∷ p) h = ap (λ (l : List Bool). b ∷ l) (twice g p (omega arith))
twice (true ∷ g) (true ∷ p) h = ap (λ (l : List Bool). true ∷ l) (twice g p (omega arith))
twice (true ∷ g) (false ∷ p) h = ap (λ (l : List Bool). false ∷ l) (twice g p (omega arith))

pub division : (k : ℕ) (p : List Bool) → k + 32 ≤ length p → length p ≤ k + 32 → p ≡ add (times (quotient k p)) (zeros k ++ divide k p)
unfolding times quotient divide zeros add
division zero p h l = sym (add-zeros 32 p h)
division (suc k) [] h l = absurd (omega arith)
division (suc k) (false ∷ p) h l = ap (λ (x : List Bool). false ∷ x) (division k p (omega arith) (omega arith))
division (suc k) (true ∷ p) h l =
    let n : length (add lower p) ≡ length p = add-length lower p (omega (arith, lower-length)) in
    ap (λ (x : List Bool). true ∷ x)
    (sym (twice lower p (omega (arith, lower-length)))
    ∙ ap (add lower) (division k (add lower p) (omega arith) (omega arith))
    ∙ sym (add_assoc lower (times (quotient k (add lower p))) (zeros k ++ divide k (add lower p))))

times-length : (q : List Bool) → length (times q) ≡ length q + 32
unfolding times add
times-length [] = zeros-length 32
times-length (false ∷ q) = let e = times-length q in omega arith
times-length (true ∷ q) = let e = times-length q in omega (arith, add-length lower (times q) (omega (arith, lower-length)))

times_gone : (q : List Bool) → divide (length q) (times q) ≡ zeros 32
unfolding times divide add
times_gone [] = refl
times_gone (false ∷ q) = times_gone q
times_gone (true ∷ q) = ap (divide (length q)) (twice lower (times q) (omega (arith, lower-length, times-length q))) ∙ times_gone q

pub only : (q r : List Bool) → length r ≡ 32 → divide (length q) (add (times q) (zeros (length q) ++ r)) ≡ r
only q r e =
    linear (length q) (times q) (zeros (length q) ++ r) (omega (arith, times-length q)) (omega (arith, length-append (zeros (length q)) r, zeros-length (length q)))
    ∙ ap₂ add (times_gone q) (divide-zeros (length q) r)
    ∙ add-zeros 32 r (omega arith)
