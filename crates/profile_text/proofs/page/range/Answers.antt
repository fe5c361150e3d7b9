-- `range` meets its contract. The loop's invariant: from what was found so far, the rest of the list has the lowest and the highest of all.
use Prim.Native.Nat.{ℕ, ◌+◌, ◌<◌}
use mathlib.Core.Path.{◌≡◌, refl, sym, ap, ◌∙◌}
use mathlib.Core.List.{List, [], ◌∷◌}
use native.Mathlib.Numerals.{add-one}
use native.Mathlib.Omega.{arith}
use lib.ListN.{length, drop, get_or}
use lib.Seq.{drop-cons, drop-length}
use lib.IntN.{ℤ, pos}
use mir.Facts.{to_z-of_z}
use mir.Syntax.{w16}
use mir.Val.{SFits}
use Rattle.std.proofs.Common.{rules}
use Rattle.profile_text.specs.Page.{lowest, highest, lowest_of, highest_of, lesser, greater}
use Rattle.profile_text.proofs.page.range.Goals as goal
use Rattle.profile_text.proofs.page.range.Invariants.{Ranged}

next : (zs rest : List ℤ) (low high : ℤ) (i : ℕ) → i < length rest → Ranged zs rest low high i → Ranged zs rest (lesser low (get_or rest i (pos 0))) (greater high (get_or rest i (pos 0))) (i + 1)
unfolding lowest_of highest_of
next zs rest low high i h r =
    let step : drop i rest ≡ get_or rest i (pos 0) ∷ drop (i + 1) rest = drop-cons rest i (pos 0) h ∙ ap (λ k. get_or rest i (pos 0) ∷ drop k rest) (sym (add-one i)) in
    record { lows = ap (lowest_of low) (sym step) ∙ r.lows; highs = ap (highest_of high) (sym step) ∙ r.highs }

last : (zs rest : List ℤ) (low high : ℤ) (i : ℕ) → i ≡ length rest → Ranged zs rest low high i → (low ≡ lowest zs) × (high ≡ highest zs)
unfolding lowest_of highest_of
last zs rest low high i end r =
    let none : drop i rest ≡ [] = ap (λ k. drop k rest) end ∙ drop-length rest in
    (ap (lowest_of low) (sym none) ∙ r.lows, ap (highest_of high) (sym none) ∙ r.highs)

lowest_none : (zs : List ℤ) → length zs ≡ 0 → pos 0 ≡ lowest zs
unfolding lowest
lowest_none [] e = refl
lowest_none (z ∷ zs) e = absurd (omega arith)

highest_none : (zs : List ℤ) → length zs ≡ 0 → pos 0 ≡ highest zs
unfolding highest
highest_none [] e = refl
highest_none (z ∷ zs) e = absurd (omega arith)

first : (zs rest : List ℤ) (z : ℤ) → zs ≡ z ∷ rest → Ranged zs rest z z 0
unfolding lowest highest
first zs rest z e = rw e (record { lows = refl; highs = refl })

pub returns-in_default : goal.returns-in_default
returns-in_default c = record {
  lowest = lowest_none _ c.in_default.ensures.cases;
  highest = highest_none _ c.in_default.ensures.cases;
}

pub loop-z-init : goal.loop-z-init
loop-z-init c =
    let f : SFits w16 c.in-Some.first.now = search rules in
    rw (to_z-of_z f) (first _ _ _ c.in-Some.ensures.cases.0)

pub loop-z-preserved : goal.loop-z-preserved
loop-z-preserved c =
    let l = c.loop-z in
    let rest = c.in-Some.rest.now in
    let low : SFits w16 l.r.low = search rules in
    let high : SFits w16 l.r.high = search rules in
    let z : SFits w16 (get_or rest l.z-index (pos 0)) = search rules in
    rw (
      to_z-of_z {w = w16} (record { sfits = c.min.type_inv }),
      to_z-of_z {w = w16} (record { sfits = c.max.type_inv }),
      c.min.ensures.value,
      c.max.ensures.value,
      to_z-of_z low,
      to_z-of_z high,
      to_z-of_z z,
    )
    (next _ rest l.r.low l.r.high l.z-index c.loop-z-test.true l.invariant)

pub returns : goal.returns
returns c =
    let found = last _ c.in-Some.rest.now c.loop-z.r.low c.loop-z.r.high c.loop-z.z-index (omega arith) c.loop-z.invariant in
    record { lowest = found.0; highest = found.1 }
