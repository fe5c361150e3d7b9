-- The edges followed last: `predict.rs`, `visited`. VISITED is 128: past it the oldest goes. They stand in 386 numbers: at place i the edge + 1, 0
-- where none stands yet; at 128 + i and 256 + i its tile's row and column; at 384 the place that the next one takes; at 385 how many places are taken, the first ones.
use Rattle.std.specs.Prelude.{is_some, ℕ, ◌+◌, ◌%◌, max, Bool, ◌&&◌, List, eqb, ltb, get_or, set, replicate}
use Rattle.pack.specs.declared.TileKey.{TileKey}
use Rattle.cache.specs.Search.{lowest}

abbrev pub nothing_visited : List ℕ
nothing_visited = replicate 386 0

-- in the next place, and the place after it next, round the array
unfoldable pub visit : List ℕ → TileKey → ℕ → List ℕ
visit d key edge =
    let at = get_or d 384 0 % 128 in
    set (set (set (set (set d at (edge + 1)) (128 + at) key.row) (256 + at) key.col) 384 ((at + 1) % 128)) 385 (max (get_or d 385 0) (at + 1))

abbrev pub is_followed : List ℕ → ℕ → TileKey → ℕ → Bool
is_followed d i key edge = eqb (get_or d i 0) (edge + 1) && (eqb (get_or d (128 + i) 0) key.row && eqb (get_or d (256 + i) 0) key.col)

-- `visited.contains(..)`, among the places taken, which are 128 at most: the same of all 128 is `visited_all` (proofs/VisitLaws)
unfoldable pub was_visited : List ℕ → TileKey → ℕ → Bool
was_visited d key edge = is_some (lowest (λ (i : ℕ). ltb i 128 && is_followed d i key edge) (get_or d 385 0))
