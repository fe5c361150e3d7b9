-- The candidates of a tile: `matcher.rs`, `search`.
use Rattle.matcher.specs.declared.Nearest.{Nearest}
use Rattle.std.specs.Prelude.{Option, Some, None, ℕ, List}
use Rattle.tile.specs.Layout as Layout
use Rattle.tile.specs.declared.TileId.{TileId}
use Rattle.matcher.specs.declared.Kept.{Kept}
use Rattle.matcher.specs.declared.Query.{Query}
use Rattle.num.specs.Fold.{up_to}
use Rattle.matcher.specs.Scan.{scan}
use Rattle.matcher.specs.Score.{candidate_at}
use Rattle.matcher.specs.Keeping.{insert}

abbrev pub kept_with : Option Nearest → Kept → Query → TileId → ℕ → List ℕ → ℕ → Kept
kept_with None k q id lon_um bs number = k
kept_with (Some n) k q id lon_um bs number = insert k (candidate_at q id lon_um bs number n)

-- one edge more: a candidate, if it is in reach
unfoldable pub edge_step : Kept → Query → TileId → ℕ → List ℕ → ℕ → Kept
edge_step k q id lon_um bs number =
    kept_with (scan q.header bs id.key (Layout.edge_of bs number) q.fix lon_um) k q id lon_um bs number

-- the tile's edges, in order
unfoldable pub search : Kept → Query → List ℕ → Kept
search k q bs =
    up_to (λ (d : Kept) (number : ℕ). edge_step d q (Layout.id_of bs) (Layout.head_of bs).lon_um bs number) k (Layout.edges_of bs)
