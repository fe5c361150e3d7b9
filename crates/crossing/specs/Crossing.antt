-- Does a leg cross a transect: document 02, request 4. The transect is given by its two ends, the tile by header, key and bytes.
-- Which of the meeting segments is named stays open, as the request says: `Crosses` limits the answer and does not fix it.
use Rattle.std.specs.Prelude.{ℕ, ◌+◌, ◌≤◌, ◌<◌, ◌≡◌, List, [], ◌∷◌, Option, Some, None, Result, Ok, Err}
use Rattle.pack.specs.Sector.{rules}
use Rattle.pack.specs.Grid.{is_point, in_grid}
use Rattle.pack.specs.declared.Header.{Header}
use Rattle.pack.specs.declared.TileKey.{TileKey}
use Rattle.tile.specs.Layout as Layout
use Rattle.tile.specs.Parse.{accepts}
use Rattle.geo.specs.Points as Points
use Rattle.geo.specs.declared.Point.{Point}
use Rattle.crossing.specs.Segments.{Meet}
use Rattle.refusal.specs.Refusal.{first_of}
use Rattle.refusal.specs.declared.Refusal.{Refusal}

-- ---- the segments of a tile

-- an edge with v vertices has the segments 0 to v
pub record IsSegment (bs : List ℕ) (edge segment : ℕ) : Type 0 where
  pub edge_there : edge < Layout.edges_of bs
  pub segment_there : segment ≤ (Layout.edge_of bs edge).vertices

-- segment s of an edge joins the edge's points s and s + 1: the exact ones of the tile in its grid
abbrev pub point_at : Header → TileKey → List ℕ → ℕ → ℕ → Point
point_at h k bs edge index = Points.point_of h k (Layout.point_of bs (Layout.edge_of bs edge) index)

abbrev pub MeetsTransect : Point → Point → Header → TileKey → List ℕ → ℕ → ℕ → Type 0
MeetsTransect first second h k bs edge segment = Meet first second (point_at h k bs edge segment) (point_at h k bs edge (segment + 1))

-- ---- refusals, each tested in this order

unfoldable pub refusal : Point → Point → Header → TileKey → List ℕ → Result Unit Refusal
refusal first second h k bs =
    first_of
    ((rules h, Refusal.BadState)
    ∷ (is_point first.lat first.lon, Refusal.OutOfRange)
    ∷ (is_point second.lat second.lon, Refusal.OutOfRange)
    ∷ (in_grid h k, Refusal.OutsideGrid)
    ∷ (accepts bs k h.tile, Refusal.Corrupt)
    ∷ [])

-- ---- the answer

pub record Named (first second : Point) (h : Header) (k : TileKey) (bs : List ℕ) (edge segment : ℕ) : Type 0 where
  pub accepted : refusal first second h k bs ≡ Ok tt
  pub there : IsSegment bs edge segment
  pub meets : MeetsTransect first second h k bs edge segment

pub record NoneMeets (first second : Point) (h : Header) (k : TileKey) (bs : List ℕ) : Type 0 where
  pub accepted : refusal first second h k bs ≡ Ok tt
  pub none : (edge segment : ℕ) → IsSegment bs edge segment → MeetsTransect first second h k bs edge segment → ⊥

abbrev pub Crosses : Point → Point → Header → TileKey → List ℕ → Result (Option (ℕ × ℕ)) Refusal → Type 0
Crosses first second h k bs (Ok (Some (edge, segment))) = Named first second h k bs edge segment
Crosses first second h k bs (Ok None) = NoneMeets first second h k bs
Crosses first second h k bs (Err e) = refusal first second h k bs ≡ Err e
