-- `writer::tile` meets its contract: the three answers.
use Rattle.std.proofs.Common.{rules, tests, arith, ◌≡◌, true, false, refl, length, take, ◌∙◌}
use lib.Seq.{length-take-le}
use Rattle.writer.specs.TileWritten.{given, tile_good}
use Rattle.writer.proofs.GivenLaws.{any_key, good_length, good_entries}
use Rattle.writer.proofs.TileMade.{any_size, is_13, is_14, is_written}
use Rattle.writer.proofs.tile.Goals as goal

pub returns-then-not-good : goal.returns-then-not-good
returns-then-not-good c =
    let a = c.args in
    let g = given a.key a.size a.lon_um a.nodes.now a.edges.now a.vertices.now in
    let bad : tile_good g ≡ false = any_key a.key a.size a.lon_um a.nodes.now a.edges.now a.vertices.now ∙ search (rules, tests) in
    rw (is_13 g a.out.now bad) (record { value = refl; out_after = refl })

pub length_of-length-requires : goal.length_of-length-requires
length_of-length-requires c =
    let a = c.args in
    let g = given a.key a.size a.lon_um a.nodes.now a.edges.now a.vertices.now in
    let good : tile_good g ≡ true = any_key a.key a.size a.lon_um a.nodes.now a.edges.now a.vertices.now ∙ search (rules, tests) in
    let short = good_length g good in
    record { nodes_bound = omega arith; edges_bound = omega arith; vertices_bound = omega arith }

pub returns-then-out-length : goal.returns-then-out-length
returns-then-out-length c =
    let a = c.args in
    let g = given a.key a.size a.lon_um a.nodes.now a.edges.now a.vertices.now in
    let good : tile_good g ≡ true = any_key a.key a.size a.lon_um a.nodes.now a.edges.now a.vertices.now ∙ search (rules, tests) in
    rw (is_14 g a.out.now good (omega (arith, c.length_of-length.ensures))) (record { value = refl; out_after = refl })

pub fill-requires : goal.fill-requires
fill-requires c =
    let a = c.args in
    let g = given a.key a.size a.lon_um a.nodes.now a.edges.now a.vertices.now in
    let good : tile_good g ≡ true = any_key a.key a.size a.lon_um a.nodes.now a.edges.now a.vertices.now ∙ search (rules, tests) in
    let long = c.length_of-length.result in
    let size : length (take long a.out.now) ≡ long = length-take-le long a.out.now (omega arith) in
    record {
      tile_short = omega (arith, size, c.length_of-length.ensures, good_length g good);
      tile_length = size ∙ c.length_of-length.ensures;
      entries_whole = good_entries g good;
    }

pub overflow_cast-result : goal.overflow_cast-result
overflow_cast-result c =
    let a = c.args in
    let g = given a.key a.size a.lon_um a.nodes.now a.edges.now a.vertices.now in
    let good : tile_good g ≡ true = any_key a.key a.size a.lon_um a.nodes.now a.edges.now a.vertices.now ∙ search (rules, tests) in
    omega (arith, c.length_of-length.ensures, good_length g good)

pub returns : goal.returns
returns c =
    let a = c.args in
    let g = given a.key a.size a.lon_um a.nodes.now a.edges.now a.vertices.now in
    let good : tile_good g ≡ true = any_key a.key a.size a.lon_um a.nodes.now a.edges.now a.vertices.now ∙ search (rules, tests) in
    let long = c.length_of-length.ensures in
    rw (is_written g a.out.now good (omega (arith, long)), c.fill.ensures, long, any_size a.key a.size a.lon_um a.nodes.now a.edges.now a.vertices.now)
    (record { value = refl; out_after = refl })
