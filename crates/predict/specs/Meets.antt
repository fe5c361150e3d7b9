-- The tiles that the road touches: "Memory is answered when a 97th tile is met, or when pages pass max(1, page count - 12)" (document 01;
-- `predict.rs`, `tiles` and `page_budget`). A tile counts once. They stand in 194 numbers: at place i the row + 1, 0 where none stands yet, and at
-- 96 + i the column; at 192 how many tiles they are, at 193 the pages that they take.
use Rattle.std.specs.Prelude.{is_some, ℕ, ◌+◌, ◌-◌, max, Bool, true, false, ◌&&◌, cond, List, eqb, ltb, leb, get_or, set, replicate}
use Rattle.pack.specs.declared.TileKey.{TileKey}
use Rattle.cache.specs.Search.{lowest}

abbrev pub nothing_met : List ℕ
nothing_met = replicate 194 0

abbrev pub tiles_of : List ℕ → ℕ
tiles_of m = get_or m 192 0

abbrev pub pages_of : List ℕ → ℕ
pages_of m = get_or m 193 0

-- room for two of the largest tiles, six pages each, is kept
abbrev pub budget : ℕ → ℕ
budget count = max 1 (count - 12)

abbrev pub is_met : List ℕ → ℕ → TileKey → Bool
is_met m i key = eqb (get_or m i 0) (key.row + 1) && eqb (get_or m (96 + i) 0) key.col

-- `tiles.contains(..)`; no place past the 96th holds a tile
unfoldable pub has_met : List ℕ → TileKey → Bool
has_met m key = is_some (lowest (λ (i : ℕ). ltb i 96 && is_met m i key) (tiles_of m))

-- MAX_TILES is 96
abbrev pub has_room : List ℕ → ℕ → ℕ → Bool
has_room m pages budget = ltb (tiles_of m) 96 && leb (pages_of m + pages) budget

abbrev pub added : List ℕ → TileKey → ℕ → List ℕ
added m key pages =
    set (set (set (set m (tiles_of m) (key.row + 1)) (96 + tiles_of m) key.col) 192 (tiles_of m + 1)) 193 (pages_of m + pages)

-- the tiles met, and whether the last one had room
pub record Meeting : Type 0 where
  pub met : List ℕ
  pub fits : Bool

unfoldable pub meet : List ℕ → ℕ → TileKey → ℕ → Meeting
meet m budget key pages =
    cond (has_met m key) (record { met = m; fits = true })
    (cond (has_room m pages budget) (record { met = added m key pages; fits = true }) (record { met = m; fits = false }))
