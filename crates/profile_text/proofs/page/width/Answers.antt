-- `width` meets its contract. The loop's invariant: the digits counted and those of what is left are one more than n has. The measure is what is left.
use Prim.Native.Nat.{ℕ, ◌+◌, ◌/◌, ◌≤◌, ◌<◌}
use mathlib.Core.Path.{◌≡◌, ap, ◌∙◌}
use native.Mathlib.Omega.{arith}
use lib.ListN.{length, length-append}
use Rattle.profile_text.specs.Text.{decimal}
use Rattle.profile_text.proofs.Laws.{decimal_one, decimal_more, decimal_some, length-decimal}
use Rattle.profile_text.proofs.page.width.Goals as goal

one_less : (n : ℕ) → 10 ≤ n → n < 4294967296 → length (decimal n) ≡ length (decimal (n / 10)) + 1
one_less n l h = ap length (decimal_more n l (omega arith)) ∙ simp length-append (omega arith)

one : (n : ℕ) → n < 10 → length (decimal n) ≡ 1
one n h = ap length (decimal_one n h)

pub overflow_add-digits : goal.overflow_add-digits
overflow_add-digits c = let n = c.args.n in omega (arith, length-decimal 9 n (omega arith), decimal_some c.loop-left.left, c.loop-left.invariant.1)

pub loop-left-preserved : goal.loop-left-preserved
loop-left-preserved c = (omega arith, omega (arith, one_less c.loop-left.left (omega arith) (omega arith), c.loop-left.invariant.1))

pub returns : goal.returns
returns c = omega (arith, one c.loop-left.left (omega arith), c.loop-left.invariant.1)
