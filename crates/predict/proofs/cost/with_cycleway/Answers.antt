-- `predict::cost::with_cycleway` meets its contract: each return by the pair of tests, with the literal read as a whole number.
use borrow.Author.Tests.{eq-eqb}
use Rattle.geo.proofs.Literals.{literal_1}
use Rattle.predict.proofs.cost.with_cycleway.Goals as goal

pub returns-then-road-ne-CYCLEWAY : goal.returns-then-road-ne-CYCLEWAY
returns-then-road-ne-CYCLEWAY c = rw (eq-eqb _ _ c.if-next-eq-CYCLEWAY.true, c.if-road-ne-CYCLEWAY.true-raw, literal_1)
