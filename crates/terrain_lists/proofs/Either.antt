-- What holds of both sides of a test holds of the test; where one side counts only if the test says so, that may be used.
use mathlib.Core.Path.{◌≡◌, refl}
use mathlib.Core.Bool.{Bool, true, false, cond}

pub either : {A : Type 0} (P : A → Type 0) (t : Bool) (a b : A) → P a → P b → P (cond t a b)
either P true a b p q = p
either P false a b p q = q

pub either_true : {A : Type 0} (P : A → Type 0) (t : Bool) (a b : A) → (t ≡ true → P a) → P b → P (cond t a b)
either_true P true a b p q = p refl
either_true P false a b p q = q

pub either_false : {A : Type 0} (P : A → Type 0) (t : Bool) (a b : A) → P a → (t ≡ false → P b) → P (cond t a b)
either_false P true a b p q = p
either_false P false a b p q = q refl
