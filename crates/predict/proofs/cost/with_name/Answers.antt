-- `predict::cost::with_name` meets its contract: each return by the pair of tests, with the literal read as a whole number.
use borrow.Author.Tests.{ne_eqb}
use Rattle.predict.proofs.CostLiterals.{literal_3}
use Rattle.predict.proofs.cost.with_name.Goals as goal

pub returns-then-next-road : goal.returns-then-next-road
returns-then-next-road c = rw (ne_eqb _ _ c.if-road-ne0.true, c.if-next-road.true-raw, literal_3)
