-- Which candidate the match goes to: `matcher.rs`, `update`, from the cheapest on.
use Rattle.tile.specs.declared.TileId.{TileId}
use Rattle.std.specs.Prelude.{Option, Some, None, ℕ, ◌+◌, Bool, true, ◌&&◌, ◌||◌, not, cond, eqb, ltb, Float}
use Rattle.std.specs.Float.{binary32}
use Rattle.std.specs.Float.Ieee.{add, le}
use Rattle.num.specs.Order.{total_cmp}
use Rattle.geo.specs.Flat.{whole}
use Rattle.cache.specs.Search.{lowest}
use Rattle.num.specs.Fold.{up_to}
use Rattle.matcher.specs.Keeping.{candidate_in, is_less}
use Rattle.matcher.specs.Score.{same_id, is_on}
use Rattle.matcher.specs.declared.Candidate.{Candidate}
use Rattle.matcher.specs.declared.Kept.{Kept}
use Rattle.matcher.specs.declared.Matched.{Matched}
use Rattle.matcher.specs.declared.choose.Which.{Which}
use Rattle.matcher.specs.declared.choose.Least.{Least}
use Rattle.matcher.specs.declared.choose.Choice.{Choice}

-- ---- the cheapest

-- all; or those that go on past a node: joined to the match, beside the rider, and not dearer than the limit
abbrev pub counts : Which → Candidate → Bool
counts Which.All c = true
counts (Which.Past limit) c = c.joined && (not c.at_node && le c.cost limit)

-- by `total_cmp`
abbrev pub is_cheaper : Float → Float → Bool
is_cheaper a b = is_less (total_cmp a b)

abbrev pub lesser_by : Option ℕ → Least → ℕ → Float → Least
lesser_by None l i cost = record { at = Some i; cost = cost }
lesser_by (Some j) l i cost = cond (is_cheaper cost l.cost) (record { at = Some i; cost = cost }) l

-- candidate i in place of the cheapest so far, where it is cheaper: of equals the first
abbrev pub lesser : Least → ℕ → Float → Least
lesser l i cost = lesser_by l.at l i cost

-- of the n that are kept
abbrev pub least_step : Least → ℕ → ℕ → Candidate → Which → Least
least_step l n i c which = cond (ltb i n && counts which c) (lesser l i c.cost) l

unfoldable pub least_to : Kept → Which → ℕ → Least
least_to k which n =
    up_to (λ (l : Least) (i : ℕ). least_step l k.len i (candidate_in k i) which) (record { at = None; cost = whole 0 }) n

abbrev pub least_of : Kept → Which → Option ℕ
least_of k which = (least_to k which 8).at

-- ---- the edge already matched

-- the candidate is the match's edge
abbrev pub same_edge : Candidate → Matched → Bool
same_edge c m = is_on c.found m.tile m.edge

-- the first candidate on it
unfoldable pub kept_at : Kept → Matched → Option ℕ
kept_at k m = lowest (λ (i : ℕ). ltb i 8 && same_edge (candidate_in k i) m) k.len

-- ---- hysteresis

abbrev pub beaten_by : Bool → ℕ → ℕ
beaten_by again count = cond again (cond (ltb count 255) (count + 1) 255) 1

-- on how many fixes in a row the candidate has beaten the match, with this one
abbrev pub beaten : Option (TileId × ℕ × ℕ) → Candidate → ℕ
beaten None top = 1
beaten (Some (tile, edge, count)) top = beaten_by (same_id tile top.found.tile && eqb edge top.found.edge) count

abbrev pub contested_by : ℕ → Candidate → Candidate → Choice
contested_by n top kept =
    cond (ltb n 2) (record { chosen = kept; challenger = Some (top.found.tile, top.found.edge, n) })
    (record { chosen = top; challenger = None })

-- another edge is clearly cheaper: SWITCH_FIXES is 2
unfoldable pub contested : Candidate → Candidate → Option (TileId × ℕ × ℕ) → Choice
contested top kept challenger = contested_by (beaten challenger top) top kept

-- the current edge is in reach: an edge joined to it takes over at once; it stays unless the cheapest beats it by more than SWITCH, 1
unfoldable pub held : Candidate → Candidate → Matched → Option (TileId × ℕ × ℕ) → Choice
held top kept m challenger =
    cond (top.joined && not (same_edge top m)) (record { chosen = top; challenger = None })
    (cond (same_edge top m || le kept.cost (add binary32 top.cost (whole 1))) (record { chosen = kept; challenger = None })
    (contested top kept challenger))

abbrev pub kept_by : Option ℕ → Kept → Candidate → Matched → Option (TileId × ℕ × ℕ) → Choice
kept_by None k top m challenger = record { chosen = top; challenger = challenger }
kept_by (Some i) k top m challenger = held top (candidate_in k i) m challenger

-- the cheapest, or the edge already matched
abbrev pub chosen_by : Option Matched → Kept → Candidate → Option (TileId × ℕ × ℕ) → Choice
chosen_by None k top challenger = record { chosen = top; challenger = challenger }
chosen_by (Some m) k top challenger = kept_by (kept_at k m) k top m challenger

-- ---- past the end of the edge

abbrev pub past_by : Option ℕ → Choice → Kept → Choice
past_by None choice k = choice
past_by (Some i) choice k = record { chosen = candidate_in k i; challenger = None }

-- the road goes on along an edge joined to it, if the rider is beside one and riding along it: PAST_NODE is 2
unfoldable pub past_node : Choice → Kept → Choice
past_node choice k =
    cond choice.chosen.at_node (past_by (least_of k (Which.Past (add binary32 choice.chosen.cost (whole 2)))) choice k) choice
