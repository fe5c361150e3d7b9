-- `matcher::scan::scan` meets its contract. The loop's invariant: the scan so far is the definition's after as many turns; the turn that
-- leaves is the one at the edge's last segment.
use Rattle.std.specs.Prelude.{None}
use Prim.Native.Nat.{ℕ, ◌+◌}
use mathlib.Core.Path.{◌≡◌, ap, ◌∙◌}
use mathlib.Core.List.{List}
use native.Mathlib.Omega.{arith}
use Rattle.pack.specs.declared.Header.{Header}
use Rattle.pack.specs.declared.TileKey.{TileKey}
use Rattle.tile.specs.declared.Edge.{Edge}
use Rattle.geo.specs.declared.Point.{Point}
use Rattle.geo.specs.Flat.{metres_of}
use Rattle.matcher.specs.declared.scan.Scanned.{Scanned}
use Rattle.matcher.specs.Scan.{point_of, segment_step, scanned, scan}
use Rattle.num.proofs.FoldLaws.{up_start, up_turn}
use Rattle.matcher.proofs.scan.scan.Goals as goal

-- the definition's start, one turn of it, and the scan after the last
module _ (h : Header) (bs : List ℕ) (key : TileKey) (e : Edge) (fix : Point) (lon_um : ℕ) where
  scan_start : scanned h bs key e fix lon_um 0 ≡ record { at = metres_of (point_of h bs key e 0) fix lon_um; nearest = None }
  unfolding scanned
  scan_start = up_start _ _

  scan_turn : (i : ℕ)
      → scanned h bs key e fix lon_um (i + 1)
      ≡ segment_step (scanned h bs key e fix lon_um i) (metres_of (point_of h bs key e (i + 1)) fix lon_um) i
  unfolding scanned
  scan_turn i = up_turn _ _ i

  scan_end : (i : ℕ) (s : Scanned) → i ≡ e.vertices → s ≡ scanned h bs key e fix lon_um (i + 1) → s.nearest ≡ scan h bs key e fix lon_um
  scan_end i s end so_far = ap (λ (x : Scanned). x.nearest) (so_far ∙ ap (λ (n : ℕ). scanned h bs key e fix lon_um (n + 1)) end)

pub loop-i-init : goal.loop-i-init
loop-i-init c = rw (scan_start, c.metres-first.ensures, c.point_of.ensures)

pub loop-i-preserved : goal.loop-i-preserved
loop-i-preserved c = rw (scan_turn, c.segment_step-s.ensures, c.metres-b.ensures, c.next_point.ensures, c.loop-i.invariant)

pub returns-2 : goal.returns-2
returns-2 c =
    let at_loop = c.loop-i in
    let args = c.args in
    let end : at_loop.i ≡ args.edge.vertices = omega arith in
    scan_end args.header args.bytes.now args.key args.edge args.fix args.lon_um at_loop.i c.segment_step-s.result end
    (rw (scan_turn, c.segment_step-s.ensures, c.metres-b.ensures, c.next_point.ensures, at_loop.invariant))
