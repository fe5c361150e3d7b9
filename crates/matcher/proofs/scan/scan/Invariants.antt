-- `matcher::scan::scan` meets its contract. The loop's invariant: the scan so far is the definition's after as many turns; the turn that
-- leaves is the one at the edge's last segment.
use mathlib.Core.Path.{◌≡◌}
use Rattle.matcher.specs.Scan.{scanned}
use Rattle.matcher.proofs.scan.scan.Given as goal

abbrev pub invariant-loop-i : goal.invariant-loop-i
invariant-loop-i l = l.s ≡ scanned l.header l.bytes l.key l.edge l.fix l.lon_um l.i
