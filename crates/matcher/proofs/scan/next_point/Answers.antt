-- `matcher::scan::next_point` meets its contract: by the answers of the callees, and where the point stands (`next_is`).
use Rattle.matcher.proofs.StandLaws.{next_is}
use Rattle.matcher.proofs.scan.next_point.Goals as goal

pub returns : goal.returns
returns c =
    let args = c.args in
    rw (c.point.ensures, c.xy_at-node.ensures, c.next_at-at.ensures.value)
    (next_is args.header args.bytes.now args.key args.edge args.base args.i c.requires.base_value)
