-- `writer::given::edges_good` meets its contract: `all` over the numbers is the definition's, every edge is good.
use Rattle.std.proofs.Common.{◌-◌, rules, tests, refl, ◌∙◌}
use Rattle.std.proofs.lemmas.Iterator.{YieldsList-from_range}
use Rattle.std.proofs.lemmas.Iterator.Search.{all_from_yields_List}
use Rattle.writer.specs.TileWritten.{edge_good, edges_in}
use Rattle.writer.proofs.GivenLaws.{all_range}
use Rattle.writer.proofs.given.edges_good.Goals as goal

pub returns : goal.returns
returns c =
    let test = edge_good c.args.nodes c.args.vertices c.args.edges.now in
    let last = edges_in c.args.edges.now in
    all_from_yields_List test _ _ c.all.result c.all.ensures.ran (YieldsList-from_range 0 last (last - 0) refl refl) (λ x b q k. search (rules, tests)) ∙ all_range test last
