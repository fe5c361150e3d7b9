-- `matcher::score::aimed` meets its contract: each return by the answers of the callees, in the definition's order.
use mathlib.Core.Path.{◌≡◌}
use mathlib.Core.Bool.{true, ◌||◌}
use Rattle.geo.proofs.Literals.{literal_0, literal_180}
use Rattle.matcher.specs.Score.{aimed}
use Rattle.matcher.proofs.score.aimed.Goals as goal
use Rattle.matcher.proofs.score.aimed.Goals.{then-keeps-via-then-keeps, then-keeps-via-else-keeps+then-oneway}

pub returns-then-keeps : goal.returns-then-keeps
unfolding aimed
returns-then-keeps c =
    let forward : (c.keeps_forward-keeps.result || c.args.oneway) ≡ true =
    elim c.then-keeps.branch [
      | then-keeps-via-then-keeps w ↦ rw w.if-keeps.true
      | then-keeps-via-else-keeps+then-oneway w ↦ rw (w.if-keeps.false, w.if-oneway.true)
    ] in
    rw (
      c.heading_cost.ensures,
      c.penalty.ensures,
      c.limited-error.ensures,
      ← literal_180,
      ← c.turn.ensures,
      ← c.fabsf-ahead.ensures,
      ← c.keeps_forward-keeps.ensures,
      forward,
    )

pub returns : goal.returns
unfolding aimed
returns c =
    rw (
      c.heading_cost-2.ensures,
      c.limited-error-2.ensures,
      literal_0,
      ← literal_180,
      ← c.turn.ensures,
      ← c.fabsf-ahead.ensures,
      ← c.keeps_forward-keeps.ensures,
      c.if-keeps.false,
      c.if-oneway.false,
    )
