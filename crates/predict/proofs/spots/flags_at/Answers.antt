-- `predict::spots::flags_at` meets its contract: the byte of the edge's record that holds them.
use Rattle.tile.specs.Layout.{edge_of}
use Rattle.predict.proofs.spots.flags_at.Goals as goal

pub returns : goal.returns
unfolding edge_of
returns c = rw (c.byte_at.ensures, c.u16_at-edges.ensures, c.u16_at-nodes.ensures)
