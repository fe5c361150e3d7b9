-- `matcher::settle::missed` meets its contract: one miss more on either side of the first test, and each return by the second.
use mathlib.Core.Path.{◌≡◌}
use borrow.Author.Tests.{lt-ltb, le-ltb}
use Rattle.matcher.specs.Settle.{more, missed}
use Rattle.matcher.proofs.settle.missed.Goals as goal
use Rattle.matcher.proofs.settle.missed.Goals.{then-m-lt255, else-m-lt255}

pub returns-then-misses-lt3 : goal.returns-then-misses-lt3
unfolding missed
returns-then-misses-lt3 c =
    let e : c.if-m-lt255.misses ≡ more c.args.m.misses =
    elim c.if-m-lt255.branch [
      | then-m-lt255 w ↦ rw (w.misses-is, lt-ltb c.args.m.misses 255 w.if-m-lt255.true)
      | else-m-lt255 w ↦ rw (w.misses-is, le-ltb c.args.m.misses 255 w.if-m-lt255.false)
    ] in
    rw (← e, lt-ltb _ _ c.if-misses-lt3.true)

pub returns : goal.returns
unfolding missed
returns c =
    let e : c.if-m-lt255.misses ≡ more c.args.m.misses =
    elim c.if-m-lt255.branch [
      | then-m-lt255 w ↦ rw (w.misses-is, lt-ltb c.args.m.misses 255 w.if-m-lt255.true)
      | else-m-lt255 w ↦ rw (w.misses-is, le-ltb c.args.m.misses 255 w.if-m-lt255.false)
    ] in
    rw (← e, le-ltb _ _ c.if-misses-lt3.false)
