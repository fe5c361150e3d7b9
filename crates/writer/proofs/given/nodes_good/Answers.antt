-- `writer::given::nodes_good` meets its contract: `all` over the numbers is the definition's, every node is good.
use Rattle.std.proofs.Common.{◌-◌, rules, tests, refl, ◌∙◌}
use Rattle.std.proofs.lemmas.Iterator.{YieldsList-from_range}
use Rattle.std.proofs.lemmas.Iterator.Search.{all_from_yields_List}
use Rattle.writer.specs.Steps.{node_good}
use Rattle.writer.specs.TileWritten.{places_in}
use Rattle.writer.proofs.GivenLaws.{all_range}
use Rattle.writer.proofs.given.nodes_good.Goals as goal

pub returns : goal.returns
returns c =
    let test = node_good c.args.size c.args.nodes.now in
    let last = places_in c.args.nodes.now in
    all_from_yields_List test _ _ c.all.result c.all.ensures.ran (YieldsList-from_range 0 last (last - 0) refl refl) (λ x b q k. search (rules, tests)) ∙ all_range test last
