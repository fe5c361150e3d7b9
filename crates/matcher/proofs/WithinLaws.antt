-- A match found lies within a tile that was looked up, in the grid; or it is the one that was there before (`update_within`). The idea: whatever
-- a tile's search keeps lies within the tile, the match is made of one of those, and a miss makes none.
use Rattle.refusal.specs.declared.Refusal.{Refusal}
use Rattle.std.specs.Prelude.{Result, Ok, Some, None}
use Rattle.std.proofs.Common.{Option}
use Prim.Native.Nat.{ℕ, ◌<◌}
use mathlib.Core.Path.{◌≡◌, refl, ap, subst, ◌∙◌}
use mathlib.Core.Bool.{Bool, true, false, cond}
use mathlib.Core.List.{List}
use mathlib.Core.Logic.{◌⊎◌, inl, inr}
use native.Mathlib.Omega.{arith}
use lib.Dec.{ltb}
use lib.Ieee.{Float}
use Rattle.pack.specs.Grid.{in_grid}
use Rattle.pack.specs.declared.Header.{Header}
use Rattle.pack.specs.declared.TileKey.{TileKey}
use Rattle.tile.proofs.Within.{key_is}
use Rattle.cache.specs.Direct.{Look, ready, missing, absent, stale}
use Rattle.matcher.specs.Within.{Within, AllKept}
use Rattle.matcher.specs.Keeping.{candidate_in}
use Rattle.matcher.specs.declared.Candidate.{Candidate}
use Rattle.matcher.specs.declared.Kept.{Kept}
use Rattle.matcher.specs.declared.Matched.{Matched}
use Rattle.matcher.specs.declared.Query.{Query}
use Rattle.matcher.specs.declared.Heading.{Heading}
use Rattle.num.proofs.FoldLaws.{up_keeps}
use Rattle.matcher.proofs.ScanWithin.{KeptGood, none_good, search_all}
use Rattle.matcher.specs.declared.Matcher.{Matcher}
use Rattle.matcher.specs.declared.NearKeys.{NearKeys}
use Rattle.matcher.specs.declared.Outcome.{Outcome}
use Rattle.matcher.specs.declared.choose.Which.TheVariants as Which
use Rattle.matcher.specs.declared.choose.Choice.{Choice}
use Rattle.matcher.specs.declared.gather.Ending.{Ending}
use Rattle.matcher.specs.Near.{key_at, near_of}
use Rattle.matcher.specs.Choose.{least_of, chosen_by, past_node}
use Rattle.matcher.specs.Settle.{with_figures, settled, more, missed, matched_by, matched}
use Rattle.matcher.specs.Gather.{Run, look_step, key_step, run_step, no_run, run_to, outcome, matching_by, query_of, run_over, update_over}
use Rattle.matcher.specs.Relied.{Accepted, FoundIn, UpdateWithin}
use Rattle.matcher.proofs.NearGrid.{InGrid, AllIn, near_in_grid}
use Rattle.matcher.proofs.Chosen.{IsBelow, least_below, chosen_kept}

found_same : {x y : Matched} → ◌≡◌ {A = Result Outcome Refusal} (Ok (Outcome.Found x)) (Ok (Outcome.Found y)) → x ≡ y
found_same e = cc

module _ (at : TileKey → Look) (h : Header) where
  -- ---- what is kept

  -- a match within the bytes looked up under a key of the grid
  found_in : (key : TileKey) (bs : List ℕ) → Accepted at h → at key ≡ ready bs → in_grid h key ≡ true → (m : Matched) → Within bs m
      → FoundIn at h m
  found_in key bs accepted e is_in_grid m within =
      let same : m.tile.key ≡ key = ap (λ t. t.key) within.tile ∙ key_is bs key h.tile (accepted key bs e) in
      record { bytes = bs; looked = rw same e; within = within; grid = rw same is_in_grid }

  module _ (accepted : Accepted at h) (q : Query) where
    look_good : (x : Look) (r : Run) (key : TileKey) → at key ≡ x → in_grid h key ≡ true → KeptGood (FoundIn at h) r.kept
        → KeptGood (FoundIn at h) (look_step x r q key).kept
    look_good (ready bs) r key e is_in_grid good = search_all (FoundIn at h) q bs (found_in key bs accepted e is_in_grid) r.kept good
    look_good missing r key e is_in_grid good = good
    look_good absent r key e is_in_grid good = good
    look_good stale r key e is_in_grid good = good

    key_good : (m : Option TileKey) (r : Run) → InGrid h m → KeptGood (FoundIn at h) r.kept → KeptGood (FoundIn at h) (key_step m at r q).kept
    key_good None r is_in_grid good = good
    key_good (Some key) r is_in_grid good = look_good (at key) r key refl is_in_grid good

    step_good : (end : Ending) (m : Option TileKey) (r : Run) → InGrid h m → KeptGood (FoundIn at h) r.kept
        → KeptGood (FoundIn at h) (run_step end m at r q).kept
    step_good Ending.All m r is_in_grid good = key_good m r is_in_grid good
    step_good (Ending.Need key) m r is_in_grid good = good
    step_good Ending.Stale m r is_in_grid good = good

    run_good : (near : NearKeys) → AllIn h near → (n : ℕ) → KeptGood (FoundIn at h) (run_to at near q n).kept
    unfolding run_to
    run_good near is_in_grid n =
        up_keeps (λ (r : Run) (i : ℕ). run_step r.end (key_at near i) at r q) no_run (λ (r : Run). KeptGood (FoundIn at h) r.kept) n
        (none_good (FoundIn at h))
        (λ (i : ℕ) (below : i < n) (r : Run). step_good r.end (key_at near i) r (is_in_grid i))

  -- ---- what the match is made of

  -- the figures that are set at the end are none that a place in a tile has
  figures_in : (m : Matched) (forward : Option Bool) (sure : ℕ) (gone : Float) → FoundIn at h m → FoundIn at h (with_figures m forward sure gone)
  figures_in m forward sure gone f = record {
    bytes = f.bytes;
    looked = f.looked;
    within = record {
      tile = f.within.tile;
      edge = f.within.edge;
      segment = f.within.segment;
      at_least = f.within.at_least;
      at_most = f.within.at_most;
      not_below = f.within.not_below;
      not_above = f.within.not_above;
    };
    grid = f.grid;
  }

  settled_in : (m : Matcher) (k : Kept) (choice : Choice) (heading : Heading) (f : Matched) → FoundIn at h choice.chosen.found
      → outcome (settled m k choice heading).current ≡ Ok (Outcome.Found f) → FoundIn at h f
  unfolding settled
  settled_in m k choice heading f good e =
      subst (FoundIn at h) (found_same e) (figures_in choice.chosen.found _ _ _ good)

  missed_held : (m : Matcher) (f : Matched) → outcome (missed m).current ≡ Ok (Outcome.Found f) → m.current ≡ Some f
  unfolding missed
  missed_held m f e = by (ltb (more m.misses) 3) m.current e
    where
      by : (t : Bool) (current : Option Matched) → outcome (cond t current None) ≡ Ok (Outcome.Found f) → current ≡ Some f
      by true None e = let z : ◌≡◌ {A = ℕ} 0 1 = cc in absurd (omega arith)
      by true (Some p) e = cc
      by false current e = let z : ◌≡◌ {A = ℕ} 0 1 = cc in absurd (omega arith)

  matched_in : (x : Option ℕ) (m : Matcher) (k : Kept) (heading : Heading) (f : Matched) → AllKept (FoundIn at h) k → IsBelow k.len x
      → outcome (matched_by x m k heading).current ≡ Ok (Outcome.Found f) → FoundIn at h f ⊎ (m.current ≡ Some f)
  matched_in None m k heading f all below e = inr (missed_held m f e)
  matched_in (Some i) m k heading f all below e =
      inl
      (settled_in m k (past_node (chosen_by m.current k (candidate_in k i) m.challenger) k) heading f
      (chosen_kept (λ (c : Candidate). FoundIn at h c.found) k all m.current m.challenger i below) e)

  -- ---- the match

  matching_in : (end : Ending) (k : Kept) (m : Matcher) (heading : Heading) (f : Matched) → AllKept (FoundIn at h) k
      → (matching_by end k m heading).answer ≡ Ok (Outcome.Found f) → FoundIn at h f ⊎ (m.current ≡ Some f)
  unfolding matched
  matching_in Ending.All k m heading f all e = matched_in (least_of k Which.All) m k heading f all (least_below k Which.All) e
  matching_in (Ending.Need key) k m heading f all e = let z : ◌≡◌ {A = ℕ} 0 1 = cc in absurd (omega arith)
  matching_in Ending.Stale k m heading f all e = let z : ◌≡◌ {A = ℕ} 0 1 = cc in absurd (omega arith)

pub update_within : UpdateWithin
unfolding update_over
update_within at m h accepted fix heading f e =
    let r : Run = run_over at m h fix heading in
    matching_in at h r.end r.kept m heading f
    (run_good at h accepted (query_of m h fix heading) (near_of h fix) (near_in_grid h fix) 4).all e
