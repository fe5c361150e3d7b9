-- `predict::consider::is_way_on` meets its contract: each return by the pairs of tests before it.
use Rattle.std.proofs.Common.{◌≡◌, ◌&&◌, false, eqb}
use mathlib.Core.Path.{sym, ◌∙◌}
use borrow.Author.Tests.{eq-eqb, ne_eqb}
use Rattle.tile.specs.Layout as Layout
use Rattle.cache.specs.Keys.{same_key}
use Rattle.predict.proofs.WayLaws.{not_both, not_first}
use Rattle.predict.specs.Consider.{is_way_on}
use Rattle.predict.specs.Cost.{has_flag}
use Rattle.predict.proofs.consider.is_way_on.Goals as goal
use Rattle.predict.proofs.consider.is_way_on.Goals.{then-entry+else-has_flag, else-entry, then-entry-way+else-same_key, else-entry-way}

pub returns-then-same_key : goal.returns-then-same_key
unfolding is_way_on
returns-then-same_key c = rw (eq-eqb _ _ c.if-entry-way.true, sym c.same_key.ensures ∙ c.if-same_key.true)

pub returns-then-has_flag : goal.returns-then-has_flag
unfolding is_way_on
returns-then-has_flag c =
    let other : (eqb c.args.entry.edge c.args.a.way.edge && same_key c.args.key c.args.a.way.tile) ≡ false =
    elim c.if-entry-way.branch [
      | then-entry-way+else-same_key w ↦ not_both (eq-eqb _ _ w.if-entry-way.true) (sym w.same_key.ensures ∙ w.if-same_key.false)
      | else-entry-way w ↦ not_first _ (ne_eqb _ _ w.if-entry-way.false)
    ] in
    rw (other, c.if-entry.true, sym c.has_flag.ensures ∙ c.if-has_flag.true)

pub returns : goal.returns
unfolding is_way_on
returns c =
    let other : (eqb c.args.entry.edge c.args.a.way.edge && same_key c.args.key c.args.a.way.tile) ≡ false =
    elim c.if-entry-way.branch [
      | then-entry-way+else-same_key w ↦ not_both (eq-eqb _ _ w.if-entry-way.true) (sym w.same_key.ensures ∙ w.if-same_key.false)
      | else-entry-way w ↦ not_first _ (ne_eqb _ _ w.if-entry-way.false)
    ] in
    let past : (c.args.entry.ends && has_flag (Layout.edge_of c.args.bytes.now c.args.entry.edge).flags 1) ≡ false =
    elim c.if-entry.branch [
      | then-entry+else-has_flag w ↦ not_both w.if-entry.true (sym w.has_flag.ensures ∙ w.if-has_flag.false)
      | else-entry w ↦ not_first _ w.if-entry.false
    ] in
    rw (other, past, c.was_visited.ensures)
