-- `crossing::in_edge` meets its contract. The loop's invariant: `from` is the edge's place at this segment's number, and no segment before it meets the transect.
use Prim.Native.Nat.{ℕ, ◌<◌}
use mathlib.Core.Bool.{false}
use mathlib.Core.List.{List}
use mathlib.Core.Path.{◌≡◌}
use Rattle.pack.specs.declared.Header.{Header}
use Rattle.pack.specs.declared.TileKey.{TileKey}
use Rattle.tile.specs.declared.Edge.{Edge}
use Rattle.crossing.specs.Sides.{Small, place_at, meets_at}
use Rattle.crossing.specs.declared.Place.{Place}
use Rattle.crossing.proofs.in_edge.Given as goal

pub record Reached (a b : Place) (h : Header) (k : TileKey) (bs : List ℕ) (e : Edge) (segment : ℕ) (from : Place) : Type 0 where
  pub is : from ≡ place_at h k bs e segment
  pub small : Small from
  pub missed : (s : ℕ) → s < segment → meets_at a b h k bs e s ≡ false

abbrev pub invariant-loop-segment : goal.invariant-loop-segment
invariant-loop-segment l = Reached l.a l.b l.header l.key l.bytes l.edge l.segment l.from
