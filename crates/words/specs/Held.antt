-- How the code compares pieces of words with those that stand at their places. No contract that a host sees names it.
use Rattle.std.specs.Prelude.{ℕ, ◌+◌, ◌*◌, ◌%◌, Bool, true, ◌&&◌, List, [], ◌∷◌, length, ◌==◌, slice_index}
use Rattle.num.specs.Cast.{bits32}
use Rattle.tile.specs.Below.{all_below}
use Rattle.words.specs.Words.{from, low_word, float_word, float_of, height_of, phase_word, phase_of, header_words, header_by, slot_words, slot_by, maybe_key_words, place_by, ring_words, ring_of, loading_words, loading_by, pending_words, pending_of, point_words, point_by, end_word, end_of, follower_words, follower_of}

-- a piece is the words from `at` on
unfoldable pub held_at : ℕ → List ℕ → List ℕ → Bool
held_at at [] ws = true
held_at at (x ∷ xs) ws = x == slice_index ws at && held_at (at + 1) xs ws

-- what is read from the words at a place is written as they are: a slot, a place of the ring, a point, a height
abbrev pub slot_held : List ℕ → ℕ → Bool
slot_held ws at = held_at at (slot_words (slot_by (from ws at))) ws

abbrev pub place_held : List ℕ → ℕ → Bool
place_held ws at = held_at at (maybe_key_words (place_by (from ws at))) ws

abbrev pub point_held : List ℕ → ℕ → Bool
point_held ws at = held_at at (point_words (point_by (from ws at))) ws

abbrev pub height_held : ℕ → Bool
height_held w = bits32 (height_of w) == w

-- each of so many
abbrev pub slots_held : List ℕ → ℕ → Bool
slots_held ws n = all_below (λ (j : ℕ). slot_held ws (15 + 3 * j)) n

abbrev pub keys_held : List ℕ → ℕ → Bool
keys_held ws n = all_below (λ (j : ℕ). place_held ws (401 + 2 * j)) n

abbrev pub points_held : List ℕ → ℕ → Bool
points_held ws n = all_below (λ (j : ℕ). point_held ws (544 + 2 * j)) n

abbrev pub heights_held : List ℕ → ℕ → ℕ → Bool
heights_held ws at n = all_below (λ (j : ℕ). height_held (slice_index ws (at + j))) n

-- what stands behind the heights, and they with it
abbrev pub end_held : List ℕ → Bool
end_held ws =
    held_at
    1142
    (low_word (slice_index ws 1142)
    ∷ float_word (float_of (slice_index ws 1143))
    ∷ end_word (end_of (slice_index ws 1144))
    ∷ float_word (float_of (slice_index ws 1145))
    ∷ slice_index ws 1146 % 256
    ∷ [])
    ws

abbrev pub road_held : List ℕ → Bool
road_held ws =
    heights_held ws 629 501 && (held_at 1130 (low_word (slice_index ws 1130) ∷ []) ws && (heights_held ws 1131 11 && end_held ws))

-- ---- the whole but for its slots, which number 12's pass over the pages tests with their runs

abbrev pub beside_cache : List ℕ → Bool
beside_cache ws =
    held_at 399 (low_word (slice_index ws 399) ∷ slice_index ws 400 ∷ []) ws
    && (held_at 401 (ring_words (ring_of ws 401)) ws
    && (held_at 530 (loading_words (loading_by (from ws 530))) ws
    && (held_at 536 (pending_words (pending_of (slice_index ws 536) (slice_index ws 537))) ws && held_at 538 (slice_index ws 538 ∷ []) ws)))

abbrev pub beside_shared : List ℕ → Bool
beside_shared ws =
    held_at 0 (1 ∷ phase_word (phase_of (slice_index ws 1)) ∷ []) ws && (held_at 2 (header_words (header_by (from ws 2))) ws && beside_cache ws)

unfoldable pub beside : List ℕ → Bool
beside ws = length ws == 1150 && (beside_shared ws && held_at 539 (follower_words (follower_of ws)) ws)
