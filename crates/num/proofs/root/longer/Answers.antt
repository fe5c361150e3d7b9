-- `root::longer` meets its contract: the remainder with the number's next digits, divided by twice the root, and one taken back where it is one too many.
use Rattle.std.proofs.Common.{ℕ, ◌+◌, ◌*◌, ◌/◌, ◌%◌, ◌<◌, mod-lt, arith}
use native.Mathlib.Nat.{div-add-mod}
use Rattle.num.proofs.RootLaws.{Bounds, bounds, Below, Longer, longer_is}
use Rattle.num.proofs.root.longer.Goals as goal

module _ (at : goal.After-below-extra) where
  abbrev r : ℕ
  r = at.args.p.whole

  abbrev b : ℕ
  b = at.args.b

  abbrev part : ℕ
  part = at.args.p.rest * b + at.args.high

  some : 0 < r * 2
  some = omega arith

  -- the laws of the step, of the quotient and what the division leaves
  fit : Bounds r at.args.p.rest b at.args.low (part / (r * 2)) (part % (r * 2))
  fit = bounds r at.args.p.rest b at.args.high at.args.low (part / (r * 2)) (part % (r * 2)) at.requires (div-add-mod part (r * 2)) (mod-lt part some)

  found : (d : ℕ) → Below (part % (r * 2) * b + at.args.low) (part / (r * 2) * (part / (r * 2))) d
      → Longer r at.args.p.rest b at.args.high at.args.low (part / (r * 2)) (part % (r * 2)) d
  found = longer_is r at.args.p.rest b at.args.high at.args.low (part / (r * 2)) (part % (r * 2)) at.requires (div-add-mod part (r * 2)) (mod-lt part some)

pub overflow_sub-result-3 : goal.overflow_sub-result-3
overflow_sub-result-3 c = (found c c.below-extra.result c.below-extra.ensures).enough

pub returns : goal.returns
returns c = (found c c.below-extra.result c.below-extra.ensures).digits
