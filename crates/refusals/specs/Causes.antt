-- A call and its causes of refusal, each tested in turn: the first that is there gives the number.
use Rattle.refusal.specs.Refusal.{number_of}
use Rattle.refusal.specs.declared.Refusal.{Refusal}
use Rattle.std.specs.Prelude.{ℕ, ◌<◌, ◌≡◌, Bool, true, ◌||◌, cond, List, [], ◌∷◌, eqb}

-- a refusal, and what is asked: the cause is there where this is not so
pub record Cause : Type 0 where
  pub refusal : Refusal
  pub asked : Bool

infix 68 ◌unless◌
abbrev pub ◌unless◌ : Refusal → Bool → Cause
e unless b = record { refusal = e; asked = b }

-- the number of the first cause that is there, 0 where none is
unfoldable pub first_of : List Cause → ℕ
first_of [] = 0
first_of (c ∷ cs) = cond c.asked (first_of cs) (number_of c.refusal)

-- A call, of which these are all the causes: the number of its answer; what is to hold where it is refused, that all lent is as it was; and what
-- it does where it is not.
pub record Refuses (causes : List Cause) (number : ℕ) (AsItWas Does : Type 0) : Type 0 where
  pub is : number ≡ first_of causes
  pub as_it_was : 0 < first_of causes → AsItWas
  pub goes_on : first_of causes ≡ 0 → Does

-- A call that tests these before its work, which may be refused in turn: what it does where none of them is there tells with which number.
pub record Tests (causes : List Cause) (number : ℕ) (AsItWas Does : Type 0) : Type 0 where
  pub is : 0 < first_of causes → number ≡ first_of causes
  pub as_it_was : 0 < first_of causes → AsItWas
  pub goes_on : first_of causes ≡ 0 → Does

-- 0, or one of these numbers
abbrev pub among : List ℕ → ℕ → Bool
among [] n = eqb n 0
among (k ∷ ks) n = eqb n k || among ks n

-- What such work is refused with, and what is then as it was.
pub record Works (numbers : List ℕ) (number : ℕ) (AsItWas : Type 0) : Type 0 where
  pub is : among numbers number ≡ true
  pub as_it_was : 0 < number → AsItWas

-- of a call that is lent nothing that it could change, and whose refusal has no value but its number
abbrev pub NothingLent : Type 0
NothingLent = Unit

-- of a line that says no more of a call that is not refused
abbrev pub NothingMore : Type 0
NothingMore = Unit
