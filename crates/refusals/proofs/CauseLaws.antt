-- The law of a list of causes: a call that tests them one after another is refused with the number of the first that is there (`refuses`, `tests`). The
-- lines of the table cite it.
use Prim.Native.Nat.{ℕ, zero, suc, ◌<◌}
use mathlib.Core.Path.{◌≡◌, refl, sym, ap, ◌∙◌, subst}
use mathlib.Core.Bool.{Bool, true, false, ◌&&◌, cond}
use mathlib.Core.List.{List, [], ◌∷◌}
use native.Mathlib.Omega.{arith}
use Rattle.std.specs.Prelude.{Result, Ok, Err}
use Rattle.refusal.specs.Refusal.{number_of, number_of_result}
use Rattle.refusal.specs.Refusal as Refusals
use Rattle.refusal.specs.declared.Refusal.{Refusal}
use Rattle.refusal.specs.declared.Refusal.TheVariants.{Media, PastPack, Unsupported, Corrupt, NotLoaded, NoStart, PastTile, OutOfRange, OutsideGrid, BadStart, NotAsked, BadState, BadValue, NoRoom}
use Rattle.refusals.specs.Causes.{Cause, first_of, Refuses, Tests, NothingLent}

-- the tests one after another, as the definitions write them
abbrev pub tested : {A : Type 0} → List Cause → (Refusal → A) → A → A
tested [] refused core = core
tested (c ∷ cs) refused core = cond c.asked (tested cs refused core) (refused c.refusal)

-- no refusal has number 0
pub number_positive : (e : Refusal) → 0 < number_of e
number_positive Media = omega arith
number_positive PastPack = omega arith
number_positive Unsupported = omega arith
number_positive Corrupt = omega arith
number_positive NotLoaded = omega arith
number_positive NoStart = omega arith
number_positive PastTile = omega arith
number_positive OutOfRange = omega arith
number_positive OutsideGrid = omega arith
number_positive BadStart = omega arith
number_positive NotAsked = omega arith
number_positive BadState = omega arith
number_positive BadValue = omega arith
number_positive NoRoom = omega arith

module _ {A : Type 0} (refused : Refusal → A) where
  -- what a first cause gives: its refusal
  record There (first : ℕ) (answer : A) : Type 0 where
    refusal : Refusal
    number : first ≡ number_of refusal
    is : answer ≡ refused refusal

  either_there : (b : Bool) (e : Refusal) (f : ℕ) (rest : A) → (0 < f → There f rest) → 0 < cond b f (number_of e)
      → There (cond b f (number_of e)) (cond b rest (refused e))
  either_there true e f rest later some = later some
  either_there false e f rest later some = record { refusal = e; number = refl; is = refl }

  first_there : (core : A) (cs : List Cause) → 0 < first_of cs → There (first_of cs) (tested cs refused core)
  unfolding first_of
  first_there core [] some = absurd (omega (arith, some))
  first_there core (c ∷ cs) some = either_there c.asked c.refusal (first_of cs) _ (first_there core cs) some

  neither_there : (b : Bool) (e : Refusal) (f : ℕ) (core rest : A) → (f ≡ 0 → rest ≡ core) → cond b f (number_of e) ≡ 0 → cond b rest (refused e) ≡ core
  neither_there true e f core rest later none = later none
  neither_there false e f core rest later none = absurd (omega (arith, number_positive e, none))

  none_there : (core : A) (cs : List Cause) → first_of cs ≡ 0 → tested cs refused core ≡ core
  unfolding first_of
  none_there core [] none = refl
  none_there core (c ∷ cs) none = neither_there c.asked c.refusal (first_of cs) core _ (none_there core cs) none

-- a call whose number and what it leaves are read off its whole result
module _ {A : Type 0} (number : A → ℕ) (Kept : A → Type 0) (refused : Refusal → A) (core call : A) (cs : List Cause) where
  pub tests : call ≡ tested cs refused core → ((e : Refusal) → number (refused e) ≡ number_of e) → ((e : Refusal) → Kept (refused e))
      → Tests cs (number call) (Kept call) (call ≡ core)
  tests q is kept = record {
    is = λ some. let first = first_there refused core cs some in ap number (q ∙ first.is) ∙ (is first.refusal ∙ sym first.number);
    as_it_was = λ some. let first = first_there refused core cs some in subst Kept (sym (q ∙ first.is)) (kept first.refusal);
    goes_on = λ none. q ∙ none_there refused core cs none;
  }

  -- where the core is not refused
  pub refuses : call ≡ tested cs refused core → ((e : Refusal) → number (refused e) ≡ number_of e) → ((e : Refusal) → Kept (refused e))
      → (first_of cs ≡ 0 → number core ≡ 0) → Refuses cs (number call) (Kept call) (call ≡ core)
  refuses q is kept runs =
      let t : Tests cs (number call) (Kept call) (call ≡ core) = tests q is kept in
      record { is = by (first_of cs) refl; as_it_was = t.as_it_was; goes_on = t.goes_on }
    where
      by : (f : ℕ) → first_of cs ≡ f → number call ≡ first_of cs
      by zero e = ap number (q ∙ none_there refused core cs e) ∙ (runs e ∙ sym e)
      by (suc k) e = (tests q is kept).is (omega (arith, e))

-- and is lent nothing
module _ {A : Type 0} (number : A → ℕ) (refused : Refusal → A) (core call : A) (cs : List Cause) where
  pub plainly : call ≡ tested cs refused core → ((e : Refusal) → number (refused e) ≡ number_of e) → (first_of cs ≡ 0 → number core ≡ 0)
      → Refuses cs (number call) NothingLent (call ≡ core)
  plainly q is runs = refuses number (λ (r : A). NothingLent) refused core call cs q is (λ (e : Refusal). tt) runs

-- a call that answers a `Result`
module _ {T : Type 0} (value : T) (call : Result T Refusal) (cs : List Cause) where
  pub by_result : call ≡ tested cs Err (Ok value) → Refuses cs (number_of_result call) NothingLent (call ≡ Ok value)
  by_result q = plainly number_of_result Err (Ok value) call cs q (λ e. refl) (λ z. refl)

-- ---- tests in one, one after another

module _ {A : Type 0} (x y : A) where
  pub both : (a b : Bool) → cond (a && b) x y ≡ cond a (cond b x y) y
  both true b = refl
  both false b = refl

  pub three : (a b c : Bool) → cond (a && (b && c)) x y ≡ cond a (cond b (cond c x y) y) y
  three true b c = both b c
  three false b c = refl

-- ---- what is asked, where no cause is there

-- the k-th of what is asked; past the last nothing is
abbrev pub asked_at : ℕ → List Cause → Bool
asked_at k [] = true
asked_at zero (c ∷ cs) = c.asked
asked_at (suc k) (c ∷ cs) = asked_at k cs

met : (b : Bool) (e : Refusal) (f : ℕ) → cond b f (number_of e) ≡ 0 → (b ≡ true) × (f ≡ 0)
met true e f none = (refl, none)
met false e f none = absurd (omega (arith, number_positive e, none))

pub asked_at_lem : (k : ℕ) (cs : List Cause) → first_of cs ≡ 0 → asked_at k cs ≡ true
unfolding first_of
asked_at_lem k [] none = refl
asked_at_lem zero (c ∷ cs) none = (met c.asked c.refusal (first_of cs) none).0
asked_at_lem (suc k) (c ∷ cs) none = asked_at_lem k cs (met c.asked c.refusal (first_of cs) none).1

-- ---- a list of tests that answers a `Result`

abbrev pub pairs : List Cause → List (Bool × Refusal)
pairs [] = []
pairs (c ∷ cs) = (c.asked, c.refusal) ∷ pairs cs

either_number : (b : Bool) (e : Refusal) (x : Result Unit Refusal) (f : ℕ) → number_of_result x ≡ f
    → number_of_result (cond b x (Err e)) ≡ cond b f (number_of e)
either_number true e x f q = q
either_number false e x f q = refl

pub number_first : (cs : List Cause) → number_of_result (Refusals.first_of (pairs cs)) ≡ first_of cs
unfolding first_of
number_first [] = refl
number_first (c ∷ cs) = either_number c.asked c.refusal (Refusals.first_of (pairs cs)) (first_of cs) (number_first cs)
