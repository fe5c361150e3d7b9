-- What an arm of a `match` on several variants knows: the value is one of them. An ending of such an arm doesn't go on (`ended`), and a lookup
-- of one asks for its tile (`asked`). The idea: the number of the variant tells it.
use Prim.Native.Nat.{ℕ}
use mathlib.Core.Path.{◌≡◌, refl}
use mathlib.Core.Bool.{false}
use mathlib.Core.Logic.{◌⊎◌, inl, inr, ⊎_elim}
use native.Mathlib.Omega.{arith}
use denote.Enum.Declared.{tag_of}
use Rattle.cache.specs.declared.Lookup.{Lookup}
use Rattle.cache.specs.contracts.Lookup as Lookups
use Rattle.predict.specs.declared.Ending.{Ending}
use Rattle.predict.specs.contracts.Ending as Endings
use Rattle.predict.specs.Walk.{goes_on}

abbrev ending_tag : Ending → ℕ
ending_tag e = tag_of Endings.the_type e

abbrev lookup_tag : Lookup → ℕ
lookup_tag l = tag_of Lookups.the_type l

pub ended : (e : Ending) → (ending_tag e ≡ 1) ⊎ ((ending_tag e ≡ 2) ⊎ (ending_tag e ≡ 3)) → goes_on e ≡ false
ended Ending.Going h = absurd (⊎_elim (λ z. omega arith) (λ t. ⊎_elim (λ z. omega arith) (λ z. omega arith) t) h)
ended (Ending.Stops end) h = refl
ended (Ending.Need key) h = refl
ended Ending.Stale h = refl

-- no bytes
pub asked : (l : Lookup) → (lookup_tag l ≡ 1) ⊎ (lookup_tag l ≡ 2) → (l ≡ Lookup.Missing) ⊎ (l ≡ Lookup.Absent)
asked (Lookup.Ready first len) h = absurd (⊎_elim (λ z. omega arith) (λ z. omega arith) h)
asked Lookup.Missing h = inl refl
asked Lookup.Absent h = inr refl
