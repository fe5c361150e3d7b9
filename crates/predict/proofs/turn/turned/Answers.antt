-- `predict::turn::turned` meets its contract: each return by whether the edge is of a roundabout, and whether the walk already was on one.
use mathlib.Core.Path.{sym, ◌∙◌}
use borrow.Author.Tests.{not-true, not-false}
use Rattle.predict.specs.Walk.{with_entry, turned}
use Rattle.predict.proofs.turn.turned.Goals as goal

pub returns-then-not-has : goal.returns-then-not-has
unfolding turned
returns-then-not-has c = rw (c.with_entry.ensures, sym c.has.ensures ∙ not-true _ c.if-not-has.true-raw)

pub returns-in-Degrees : goal.returns-in-Degrees
unfolding turned with_entry
returns-in-Degrees c = rw (sym c.has.ensures ∙ not-false _ c.if-not-has.false-raw, c.in-Degrees.is)

pub returns-in-Nothing : goal.returns-in-Nothing
unfolding turned
returns-in-Nothing c = rw (c.with_entry-in-Nothing.ensures, sym c.has.ensures ∙ not-false _ c.if-not-has.false-raw, c.in-Nothing.is)
