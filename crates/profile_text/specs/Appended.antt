-- What the private writers promise: text put behind what a buffer holds so far.
use Rattle.std.specs.Prelude.{ℕ, ◌+◌, ◌≡◌, List, ◌++◌, length, take, drop}

-- the text stands at `at` and ends at `next`; what was before `at` and what is from `next` on is as it was
pub record Appended (before : List ℕ) (at : ℕ) (text after : List ℕ) (next : ℕ) : Type 0 where
  pub ends : next ≡ at + length text
  pub stands : take next after ≡ take at before ++ text
  pub rest : drop next after ≡ drop next before
