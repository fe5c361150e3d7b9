-- A matcher that number 12 doesn't name stays one after a match (`update_kept`), and a tile that the match needs lies in the grid
-- (`update_needs`). The idea: each candidate kept lies in a tile of the grid, on one of its edges; the match is made of one of them, and so is a
-- challenger that is new.
use Rattle.refusal.specs.declared.Refusal.{Refusal}
use Rattle.tile.specs.declared.TileId.{TileId}
use Rattle.std.specs.Prelude.{Result, Ok, Err, Option, Some, None}
use Prim.Native.Nat.{ℕ, ◌<◌}
use mathlib.Core.Path.{◌≡◌, refl, ap, ◌∙◌}
use mathlib.Core.Bool.{Bool, true, false, ◌&&◌, ◌||◌, not, cond}
use mathlib.Core.List.{List}
use native.Mathlib.Omega.{arith}
use lib.Dec.{ltb}
use lib.Ieee.{binary32, add, le}
use borrow.Author.Tests.{ltb-true, lt-ltb, le-leb}
use Rattle.num.proofs.FoldLaws.{up_keeps}
use Rattle.pack.specs.Grid.{in_grid}
use Rattle.pack.specs.declared.Header.{Header}
use Rattle.pack.specs.declared.TileKey.{TileKey}
use Rattle.tile.specs.Layout.{edges_of}
use Rattle.tile.specs.Parse.{accepts}
use Rattle.tile.proofs.Within.{key_is}
use Rattle.geo.specs.Flat.{whole}
use Rattle.geo.specs.declared.Point.{Point}
use Rattle.cache.specs.Direct.{Look, ready, missing, absent, stale, look_at, look}
use Rattle.cache.specs.Lookups.{lands_on, run_bytes, passes, len_at}
use Rattle.cache.specs.declared.Cache.{Cache}
use Rattle.cache.specs.declared.look.Landing.{Landing}
use Rattle.cache.proofs.LookLaws.{passes_accepted}
use Rattle.matcher.specs.Keeping.{candidate_in}
use Rattle.matcher.specs.Within.{Within, AllKept}
use Rattle.matcher.specs.declared.Candidate.{Candidate}
use Rattle.matcher.specs.declared.Heading.{Heading}
use Rattle.matcher.specs.declared.Kept.{Kept}
use Rattle.matcher.specs.declared.Matched.{Matched}
use Rattle.matcher.specs.declared.Query.{Query}
use Rattle.matcher.proofs.ScanWithin.{KeptGood, none_good, search_all}
use Rattle.matcher.specs.Choose.{least_of, same_edge, kept_at, beaten, contested_by, contested, held, kept_by, chosen_by, past_by, past_node}
use Rattle.matcher.specs.Gather.{Run, look_step, key_step, run_step, no_run, run_to, outcome, matching_by, query_of, run_over, update_over}
use Rattle.matcher.specs.Near.{key_at, near_of}
use Rattle.matcher.specs.Relied.{Accepted}
use Rattle.matcher.specs.Settle.{settled, more, missed, matched_by, matched}
use Rattle.matcher.specs.State.{challenger_ok}
use Rattle.matcher.specs.declared.Matcher.{Matcher}
use Rattle.matcher.specs.declared.NearKeys.{NearKeys}
use Rattle.matcher.specs.declared.Outcome.{Outcome}
use Rattle.matcher.specs.declared.choose.Choice.{Choice}
use Rattle.matcher.specs.declared.choose.Which.TheVariants as Which
use Rattle.matcher.specs.declared.gather.Ending.{Ending}
use Rattle.matcher.proofs.Chosen.{IsBelow, least_below, chosen_kept}
use Rattle.matcher.proofs.NearGrid.{InGrid, AllIn, near_in_grid}

-- ---- what the cache's look answers is accepted

pub look_accepted : (c : Cache) (arena : List ℕ) (h : Header) → Accepted (look c arena h.tile) h
unfolding look
look_accepted c arena h key bs e = by (lands_on c key) e
  where
    run : (i : ℕ) (ok : Bool) → passes arena i (len_at c i) key h.tile ≡ ok
        → cond ok (ready (run_bytes arena i (len_at c i))) stale ≡ ready bs → accepts bs key h.tile ≡ true
    run i true p e = let same : run_bytes arena i (len_at c i) ≡ bs = cc in rw (← same) (passes_accepted arena i (len_at c i) key h.tile p)
    run i false p e = let z : ◌≡◌ {A = ℕ} 0 1 = cc in absurd (omega arith)

    by : (l : Landing) → look_at l c.pages.slots arena h.tile key ≡ ready bs → accepts bs key h.tile ≡ true
    by Landing.Missing e = let z : ◌≡◌ {A = ℕ} 0 1 = cc in absurd (omega arith)
    by Landing.Nothing e = let z : ◌≡◌ {A = ℕ} 0 1 = cc in absurd (omega arith)
    by (Landing.At i) e = run i (passes arena i (len_at c i) key h.tile) refl e

-- ---- a match in a tile of the grid, on one of its edges

pub record Placed (h : Header) (m : Matched) : Type 0 where
  pub grid : in_grid h m.tile.key ≡ true
  pub edge : ltb m.edge m.tile.edges ≡ true

abbrev pub PlacedIn : Header → Option Matched → Type 0
PlacedIn h None = Unit
PlacedIn h (Some m) = Placed h m

-- of a matcher: its match, and its challenger's count and edge
pub record Standing (h : Header) (m : Matcher) : Type 0 where
  pub current : PlacedIn h m.current
  pub challenger : challenger_ok m.challenger ≡ true

-- ---- the challenger

either_challenger : (t : Bool) (a b : Choice) → challenger_ok a.challenger ≡ true → challenger_ok b.challenger ≡ true
    → challenger_ok (cond t a b).challenger ≡ true
either_challenger true a b p q = p
either_challenger false a b p q = q

contested_challenger : (n : ℕ) (top kept : Candidate) → ltb top.found.edge top.found.tile.edges ≡ true
    → challenger_ok (contested_by n top kept).challenger ≡ true
contested_challenger n top kept edge = by (ltb n 2) refl
  where
    by : (t : Bool) → ltb n 2 ≡ t
        → challenger_ok (cond {A = Choice} t (record { chosen = kept; challenger = Some (top.found.tile, top.found.edge, n) })
        (record { chosen = top; challenger = None })).challenger ≡ true
    by true e = rw (le-leb n 1 (omega (arith, ltb-true n 2 e)), edge)
    by false e = refl

module _ (k : Kept) (top : Candidate) (edge : ltb top.found.edge top.found.tile.edges ≡ true)
    (was : Option (TileId × ℕ × ℕ)) (ok : challenger_ok was ≡ true) where
  kept_challenger : (x : Option ℕ) (m : Matched) → challenger_ok (kept_by x k top m was).challenger ≡ true
  unfolding held contested
  kept_challenger None m = ok
  kept_challenger (Some i) m =
      either_challenger (top.joined && not (same_edge top m)) _ _ refl
      (either_challenger (same_edge top m || le (candidate_in k i).cost (add binary32 top.cost (whole 1))) _ _ refl
      (contested_challenger (beaten was top) top (candidate_in k i) edge))

  chosen_challenger : (current : Option Matched) → challenger_ok (chosen_by current k top was).challenger ≡ true
  chosen_challenger None = ok
  chosen_challenger (Some m) = kept_challenger (kept_at k m) m

past_challenger : (x : Option ℕ) (choice : Choice) (k : Kept) → challenger_ok choice.challenger ≡ true
    → challenger_ok (past_by x choice k).challenger ≡ true
past_challenger None choice k ok = ok
past_challenger (Some i) choice k ok = refl

node_challenger : (choice : Choice) (k : Kept) → challenger_ok choice.challenger ≡ true → challenger_ok (past_node choice k).challenger ≡ true
unfolding past_node
node_challenger choice k ok =
    either_challenger choice.chosen.at_node _ _
    (past_challenger (least_of k (Which.Past (add binary32 choice.chosen.cost (whole 2)))) choice k ok) ok

-- ---- the matcher afterwards

module _ (h : Header) where
  settled_kept : (m : Matcher) (k : Kept) (choice : Choice) (heading : Heading) → Placed h choice.chosen.found
      → challenger_ok choice.challenger ≡ true → Standing h (settled m k choice heading)
  unfolding settled
  settled_kept m k choice heading p ok = record { current = record { grid = p.grid; edge = p.edge }; challenger = ok }

  missed_kept : (m : Matcher) → Standing h m → Standing h (missed m)
  unfolding missed
  missed_kept m ok = record { current = by (ltb (more m.misses) 3) m.current ok.current; challenger = refl }
    where
      by : (t : Bool) (current : Option Matched) → PlacedIn h current → PlacedIn h (cond t current None)
      by true current p = p
      by false current p = tt

  matched_kept : (x : Option ℕ) (m : Matcher) (k : Kept) (heading : Heading) → AllKept (Placed h) k → IsBelow k.len x → Standing h m
      → Standing h (matched_by x m k heading)
  matched_kept None m k heading all below ok = missed_kept m ok
  matched_kept (Some i) m k heading all below ok =
      settled_kept m k (past_node (chosen_by m.current k (candidate_in k i) m.challenger) k) heading
      (chosen_kept (λ (c : Candidate). Placed h c.found) k all m.current m.challenger i below)
      (node_challenger (chosen_by m.current k (candidate_in k i) m.challenger) k
      (chosen_challenger k (candidate_in k i) (all i below).edge m.challenger ok.challenger m.current))

  -- ---- the lookups

  abbrev EndIn : Ending → Type 0
  EndIn Ending.All = Unit
  EndIn (Ending.Need key) = in_grid h key ≡ true
  EndIn Ending.Stale = Unit

  record RunIn (r : Run) : Type 0 where
    kept : KeptGood (Placed h) r.kept
    end : EndIn r.end

  within_placed : (key : TileKey) (bs : List ℕ) → accepts bs key h.tile ≡ true → in_grid h key ≡ true
      → (m : Matched) → Within bs m → Placed h m
  within_placed key bs accepted is_in_grid m within =
      let same : m.tile.key ≡ key = ap (λ t. t.key) within.tile ∙ key_is bs key h.tile accepted in
      let count : m.tile.edges ≡ edges_of bs = ap (λ t. t.edges) within.tile in
      record { grid = rw same is_in_grid; edge = rw count (lt-ltb m.edge (edges_of bs) within.edge) }

  module _ (at : TileKey → Look) (accepted : Accepted at h) (q : Query) where
    look_in : (x : Look) (r : Run) (key : TileKey) → at key ≡ x → in_grid h key ≡ true → RunIn r → RunIn (look_step x r q key)
    look_in (ready bs) r key e is_in_grid good = record {
      kept = search_all (Placed h) q bs (within_placed key bs (accepted key bs e) is_in_grid) r.kept good.kept;
      end = tt;
    }
    look_in missing r key e is_in_grid good = good
    look_in absent r key e is_in_grid good = record { kept = good.kept; end = is_in_grid }
    look_in stale r key e is_in_grid good = record { kept = good.kept; end = tt }

    key_in : (m : Option TileKey) (r : Run) → InGrid h m → RunIn r → RunIn (key_step m at r q)
    key_in None r is_in_grid good = good
    key_in (Some key) r is_in_grid good = look_in (at key) r key refl is_in_grid good

    step_in : (end : Ending) (m : Option TileKey) (r : Run) → InGrid h m → RunIn r → RunIn (run_step end m at r q)
    step_in Ending.All m r is_in_grid good = key_in m r is_in_grid good
    step_in (Ending.Need key) m r is_in_grid good = good
    step_in Ending.Stale m r is_in_grid good = good

    run_in : (near : NearKeys) → AllIn h near → (n : ℕ) → RunIn (run_to at near q n)
    unfolding run_to
    run_in near is_in_grid n =
        up_keeps (λ (r : Run) (i : ℕ). run_step r.end (key_at near i) at r q) no_run RunIn n (record { kept = none_good (Placed h); end = tt })
        (λ (i : ℕ) (below : i < n) (r : Run). step_in r.end (key_at near i) r (is_in_grid i))

  -- ---- the match

  -- a needed key lies in the grid
  abbrev pub NeedIn : Result Outcome Refusal → Type 0
  NeedIn (Ok (Outcome.Found m)) = Unit
  NeedIn (Ok Outcome.Nothing) = Unit
  NeedIn (Ok (Outcome.Need key)) = in_grid h key ≡ true
  NeedIn (Err number) = Unit

  outcome_in : (current : Option Matched) → NeedIn (outcome current)
  outcome_in None = tt
  outcome_in (Some m) = tt

  matching_kept : (end : Ending) (k : Kept) (m : Matcher) (heading : Heading) → AllKept (Placed h) k → Standing h m
      → Standing h (matching_by end k m heading).matcher
  unfolding matched
  matching_kept Ending.All k m heading all ok = matched_kept (least_of k Which.All) m k heading all (least_below k Which.All) ok
  matching_kept (Ending.Need key) k m heading all ok = ok
  matching_kept Ending.Stale k m heading all ok = ok

  matching_needs : (end : Ending) (k : Kept) (m : Matcher) (heading : Heading) → EndIn end → NeedIn (matching_by end k m heading).answer
  matching_needs Ending.All k m heading is_in_grid = outcome_in (matched m k heading).current
  matching_needs (Ending.Need key) k m heading is_in_grid = is_in_grid
  matching_needs Ending.Stale k m heading is_in_grid = tt

  module _ (at : TileKey → Look) (accepted : Accepted at h) (m : Matcher) (fix : Point) (heading : Heading) where
    run_kept : RunIn (run_over at m h fix heading)
    run_kept = run_in at accepted (query_of m h fix heading) (near_of h fix) (near_in_grid h fix) 4

    pub update_kept : Standing h m → Standing h (update_over at m h fix heading).matcher
    unfolding update_over
    update_kept ok =
        let r : Run = run_over at m h fix heading in matching_kept r.end r.kept m heading run_kept.kept.all ok

    pub update_needs : NeedIn (update_over at m h fix heading).answer
    unfolding update_over
    update_needs = let r : Run = run_over at m h fix heading in matching_needs r.end r.kept m heading run_kept.end
