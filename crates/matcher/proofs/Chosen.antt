-- The candidate that the match goes to is one of those kept (`chosen_kept`): what holds of all of them holds of it. The idea: the cheapest
-- and the first on the matched edge are found below the count of those kept, and every choice is between such.
use Rattle.tile.specs.declared.TileId.{TileId}
use Rattle.std.specs.Prelude.{Option, Some, None}
use Prim.Native.Nat.{ℕ, ◌<◌}
use mathlib.Core.Path.{◌≡◌, refl}
use mathlib.Core.Bool.{Bool, true, false, ◌&&◌, ◌||◌, not, cond}
use lib.Dec.{ltb}
use lib.Ieee.{binary32, add, le}
use borrow.Author.Tests.{ltb-true}
use Rattle.geo.specs.Flat.{whole}
use Rattle.pack.proofs.Laws.{and_left}
use Rattle.cache.proofs.SearchLaws.{lowest_at}
use Rattle.matcher.specs.Keeping.{candidate_in}
use Rattle.matcher.specs.declared.Candidate.{Candidate}
use Rattle.matcher.specs.declared.Kept.{Kept}
use Rattle.matcher.specs.declared.Matched.{Matched}
use Rattle.num.proofs.FoldLaws.{up_keeps}
use Rattle.matcher.specs.declared.choose.Which.{Which}
use Rattle.matcher.specs.declared.choose.Least.{Least}
use Rattle.matcher.specs.declared.choose.Choice.{Choice}
use Rattle.matcher.specs.Choose.{counts, is_cheaper, lesser_by, lesser, least_step, least_to, least_of, same_edge, kept_at, beaten, contested, held, kept_by, chosen_by, past_by, past_node}

-- ---- a number below the bound, or none

abbrev pub IsBelow : ℕ → Option ℕ → Type 0
IsBelow n None = Unit
IsBelow n (Some i) = i < n

lesser_below : (n : ℕ) (at : Option ℕ) (l : Least) (i : ℕ) (c : Candidate) → IsBelow n l.at → i < n
    → IsBelow n (lesser_by at l i c.cost).at
lesser_below n None l i c was h = h
lesser_below n (Some j) l i c was h = by (is_cheaper c.cost l.cost)
  where
    by : (t : Bool) → IsBelow n (cond t (record { at = Some i; cost = c.cost }) l).at
    by true = h
    by false = was

step_below : (l : Least) (n i : ℕ) (c : Candidate) (which : Which) → IsBelow n l.at → IsBelow n (least_step l n i c which).at
step_below l n i c which was = by (ltb i n && counts which c) refl
  where
    by : (t : Bool) → (ltb i n && counts which c) ≡ t → IsBelow n (cond t (lesser l i c.cost) l).at
    by true e = lesser_below n l.at l i c was (ltb-true i n (and_left (ltb i n) (counts which c) e))
    by false e = was

pub least_below : (k : Kept) (which : Which) → IsBelow k.len (least_of k which)
unfolding least_to
least_below k which =
    up_keeps (λ (l : Least) (i : ℕ). least_step l k.len i (candidate_in k i) which) (record { at = None; cost = whole 0 })
    (λ (l : Least). IsBelow k.len l.at) 8 tt
    (λ (i : ℕ) (h : i < 8) (l : Least). step_below l k.len i (candidate_in k i) which)

pub kept_below : (k : Kept) (m : Matched) → IsBelow k.len (kept_at k m)
unfolding kept_at
kept_below k m = by (kept_at k m) refl
  where
    by : (x : Option ℕ) → kept_at k m ≡ x → IsBelow k.len x
    by None e = tt
    by (Some i) e = (lowest_at (λ (i : ℕ). ltb i 8 && same_edge (candidate_in k i) m) k.len i e).0

-- ---- the choices

module _ (P : Candidate → Type 0) where
  cond_of : (t : Bool) (a b : Choice) → P a.chosen → P b.chosen → P (cond t a b).chosen
  cond_of true a b p q = p
  cond_of false a b p q = q

  held_of : (top kept : Candidate) (m : Matched) (challenger : Option (TileId × ℕ × ℕ)) → P top → P kept → P (held top kept m challenger).chosen
  unfolding held contested
  held_of top kept m challenger p q =
      cond_of (top.joined && not (same_edge top m)) _ _ p
      (cond_of (same_edge top m || le kept.cost (add binary32 top.cost (whole 1))) _ _ q (cond_of (ltb (beaten challenger top) 2) _ _ q p))

  module _ (k : Kept) (all : (i : ℕ) → i < k.len → P (candidate_in k i)) where
    kept_of : (x : Option ℕ) (top : Candidate) (m : Matched) (challenger : Option (TileId × ℕ × ℕ)) → IsBelow k.len x → P top
        → P (kept_by x k top m challenger).chosen
    kept_of None top m challenger h p = p
    kept_of (Some i) top m challenger h p = held_of top (candidate_in k i) m challenger p (all i h)

    chosen_of : (current : Option Matched) (top : Candidate) (challenger : Option (TileId × ℕ × ℕ)) → P top → P (chosen_by current k top challenger).chosen
    chosen_of None top challenger p = p
    chosen_of (Some m) top challenger p = kept_of (kept_at k m) top m challenger (kept_below k m) p

    past_of : (x : Option ℕ) (choice : Choice) → IsBelow k.len x → P choice.chosen → P (past_by x choice k).chosen
    past_of None choice h p = p
    past_of (Some i) choice h p = all i h

    past_node_of : (choice : Choice) → P choice.chosen → P (past_node choice k).chosen
    unfolding past_node
    past_node_of choice p =
        cond_of choice.chosen.at_node _ _
        (past_of (least_of k (Which.Past (add binary32 choice.chosen.cost (whole 2)))) choice (least_below k _) p) p

    -- from the cheapest, number i
    pub chosen_kept : (current : Option Matched) (challenger : Option (TileId × ℕ × ℕ)) (i : ℕ) → i < k.len
        → P (past_node (chosen_by current k (candidate_in k i) challenger) k).chosen
    chosen_kept current challenger i h =
        past_node_of (chosen_by current k (candidate_in k i) challenger) (chosen_of current (candidate_in k i) challenger (all i h))
