-- `crossing::place_at` meets its contract: the calls, and how far a point of a tile reaches.
use mathlib.Core.Path.{◌≡◌}
use Rattle.crossing.specs.Sides.{place_at}
use Rattle.crossing.proofs.Reach.{point_reach}
use Rattle.crossing.proofs.place_at.Goals as goal

pub returns : goal.returns
returns c =
    let args = c.args in
    let is : c.place.result ≡ place_at args.header args.key args.bytes.now args.edge args.index = rw (c.place.ensures, c.point.ensures, c.point-node.ensures) in
    record {
      is = is;
      small = rw is (point_reach args.bytes.now (λ i. (c.shared_slice_known-1.given i).fits) args.header args.key c.requires args.edge args.index).small;
    }
