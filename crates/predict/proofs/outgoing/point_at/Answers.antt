-- `predict::outgoing::point_at` meets its contract: by the answers of `node_at` and of `geo::flat::point`.
use Rattle.predict.specs.Outgoing.{point_at}
use Rattle.predict.specs.Vertex.{node_at}
use Rattle.predict.proofs.outgoing.point_at.Goals as goal

pub returns : goal.returns
unfolding point_at node_at
returns c = rw (c.point.ensures, c.node_at-node.ensures)
