-- `roads::same` meets its contract. The loop's invariant: the words that are left decide.
use mathlib.Core.Path.{sym, ◌∙◌}
use native.Mathlib.Omega.{arith}
use Rattle.words.proofs.MatcherLaws.{same_length}
use Rattle.words.proofs.SameLaws.{same_on, same_miss, same_end}
use Rattle.terrain.proofs.roads.same.Goals as goal

pub returns-then-a-b : goal.returns-then-a-b
returns-then-a-b c = sym (same_length _ _ c.if-a-b.true)

pub returns-then-a-i : goal.returns-then-a-i
returns-then-a-i c =
    sym (same_miss c.args.a.now c.args.b.now c.loop-i.i c.loop-i-test.true (omega (arith, c.loop-i-test.true, c.if-a-b.false)) c.if-a-i.true) ∙ c.loop-i.invariant

pub loop-i-preserved : goal.loop-i-preserved
loop-i-preserved c = (same_on c.args.a.now c.args.b.now c.loop-i.i c.loop-i-test.true (omega (arith, c.loop-i-test.true, c.if-a-b.false)) c.if-a-i.false) ∙ c.loop-i.invariant

pub returns : goal.returns
returns c =
    sym (same_end c.args.a.now c.args.b.now c.loop-i.i (omega (arith, c.loop-i-test.false)) (omega (arith, c.loop-i-test.false, c.if-a-b.false))) ∙ c.loop-i.invariant
