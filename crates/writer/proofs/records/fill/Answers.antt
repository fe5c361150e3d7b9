-- `writer::records::fill` meets its contract: the parts one after the other are the fields of the definition, and the CRC is of them all.
use Rattle.writer.specs.TileWritten.{given}
use Rattle.writer.proofs.TileMade.{summed}
use Rattle.writer.proofs.records.fill.Goals as goal

pub returns : goal.returns
returns c =
    let put = c.put in
    let crc32 = c.crc32-sum in
    let all_vertices = c.all_vertices in
    let all_edges = c.all_edges in
    let all_nodes = c.all_nodes in
    let head = c.head in
    let fill = c.fill in
    let pre = c.requires in
    let args = c.args in
    rw (put.ensures, crc32.ensures, all_vertices.ensures, all_edges.ensures, all_nodes.ensures, head.ensures, fill.ensures.after (λ y e. e), pre.tile_length) (summed (given args.key 0 args.lon_um args.nodes.now args.edges.now args.vertices.now))
