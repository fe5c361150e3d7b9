-- `matcher::scan::point_of` meets its contract: by the answers of the tile's reader and of `geo::flat::point`.
use Rattle.matcher.specs.Scan.{point_of}
use Rattle.matcher.proofs.scan.point_of.Goals as goal

pub returns : goal.returns
unfolding point_of
returns c = rw (c.point.ensures, c.point-node.ensures)
