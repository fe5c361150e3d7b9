-- A loop over the numbers below a bound: each step takes what is so far and the number.
use Rattle.std.specs.Prelude.{ℕ, zero, suc}

unfoldable pub up_to : {A : Type 0} → (A → ℕ → A) → A → ℕ → A
up_to step start zero = start
up_to step start (suc n) = step (up_to step start n) n
