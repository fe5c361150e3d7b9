-- `crossing::in_edge` meets its contract. The loop's invariant: `from` is the edge's place at this segment's number, and no segment before it meets the transect.
use Prim.Native.Nat.{ℕ, ◌+◌}
use mathlib.Core.Bool.{Bool}
use mathlib.Core.List.{List}
use mathlib.Core.Path.{◌≡◌}
use native.Mathlib.Omega.{arith}
use borrow.Author.Count.{below_more}
use Rattle.pack.specs.declared.Header.{Header}
use Rattle.pack.specs.declared.TileKey.{TileKey}
use Rattle.tile.specs.declared.Edge.{Edge}
use Rattle.crossing.specs.Sides.{place_at, meets, meets_at}
use Rattle.crossing.specs.declared.Place.{Place}
use Rattle.crossing.proofs.in_edge.Goals as goal

-- one segment, as the code tries it
tried :
    (a b : Place) (h : Header) (k : TileKey) (bs : List ℕ) (e : Edge) (s : ℕ) {from to : Place} {r t : Bool} →
    from ≡ place_at h k bs e s → to ≡ place_at h k bs e (s + 1) → r ≡ meets a b from to → r ≡ t → meets_at a b h k bs e s ≡ t
unfolding meets_at
tried a b h k bs e s p q u v = rw (← p, ← q, ← u) v

pub returns-then-meets : goal.returns-then-meets
returns-then-meets c =
    let args = c.args in
    let met =
    tried args.a args.b args.header args.key args.bytes.now args.edge c.loop-segment.segment
    c.loop-segment.invariant.is c.place_at-to.ensures.is c.meets.ensures c.if-meets.true in
    (omega arith, met)

pub loop-segment-preserved : goal.loop-segment-preserved
loop-segment-preserved c =
    let args = c.args in
    let missed =
    tried args.a args.b args.header args.key args.bytes.now args.edge c.loop-segment.segment
    c.loop-segment.invariant.is c.place_at-to.ensures.is c.meets.ensures c.if-meets.false in
    record {
      is = c.place_at-to.ensures.is;
      small = c.place_at-to.ensures.small;
      missed = below_more _ _ c.loop-segment.invariant.missed missed;
    }
