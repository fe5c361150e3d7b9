-- `roads::terrain_matcher_update` meets its contract: each return by what the words and the heading are.
use borrow.Author.Tests.{le-leb}
use mathlib.Core.Path.{sym, ◌∙◌}
use Rattle.terrain.specs.Records.{header_of, point_of}
use Rattle.terrain.proofs.HostLaws.{update_words, update_matcher, update_engine}
use Rattle.terrain.proofs.roads.terrain_matcher_update.Goals as goal

pub returns : goal.returns
returns c =
    let args = c.args in
    let is = sym c.is_matcher.ensures ∙ c.if-not-is_matcher.false in
    let known = le-leb _ _ c.if-heading-gt1.false in
    let called_1 = rw (c.header_of-h.ensures, c.point_of-p.ensures, c.matcher_in-m.ensures, c.heading_of.ensures) at c.update-u.ensures.answer_value in
    let called_2 = rw (c.header_of-h.ensures, c.point_of-p.ensures, c.matcher_in-m.ensures, c.heading_of.ensures) at c.update-u.ensures.matcher_value in
    let called_3 = rw (c.header_of-h.ensures, c.point_of-p.ensures, c.matcher_in-m.ensures, c.heading_of.ensures) at c.update-u.ensures.ws_after in
    record {
      value = rw (c.updated_out.ensures, called_1, update_words args.matcher.now args.engine.now args.arena.now (header_of args.header) (point_of args.fix) args.heading is known);
      matcher_after = rw called_2 at c.put_matcher.ensures ∙ sym (update_matcher args.matcher.now args.engine.now args.arena.now (header_of args.header) (point_of args.fix) args.heading is known);
      engine_after = called_3 ∙ sym (update_engine args.matcher.now args.engine.now args.arena.now (header_of args.header) (point_of args.fix) args.heading is known);
    }
