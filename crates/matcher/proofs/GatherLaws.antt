-- The code's loop over the tiles around a fix: where it starts (`gather_start`), a place without a tile (`gather_none`), one tile more
-- (`gather_turn`), a lookup that ends the match (`gather_over`), and that it goes through four tiles at most (`searched_tiles`). Over what the
-- lookups of a cache land on it is the run over the cache's look, and the ages of the tiles gone through are those that the run leaves
-- (`gathered_run`), so that the match made of it is `updated` (`made_by_cache`). The idea: the lookups so far changed clock and ages alone, so that
-- `get` in the cache that they left answers as in the cache given (`updated_uses`); and a lookup that lands on a run either passes and uses it, or
-- ends the match before it is gone through.
use Rattle.std.specs.Prelude.{Option, Some, None, Result, Ok, Err}
use Prim.Native.Nat.{ℕ, zero, suc, ◌+◌, ◌-◌, ◌*◌, ◌<◌, ◌≤◌}
use mathlib.Core.Path.{◌≡◌, refl, sym, ap, ◌∙◌}
use mathlib.Core.Bool.{Bool, true, false, true≢false}
use mathlib.Core.List.{List, [], ◌∷◌, ◌++◌}
use native.Mathlib.Numerals.{add-one}
use native.Mathlib.Omega.{arith}
use borrow.Author.Tests.{le-leb}
use lib.ListN.{length, length-set}
use Rattle.pack.specs.declared.Header.{Header}
use Rattle.pack.specs.declared.TileKey.{TileKey}
use Rattle.geo.specs.declared.Point.{Point}
use Rattle.cache.specs.declared.Aging.{Aging}
use Rattle.cache.specs.declared.Cache.{Cache}
use Rattle.cache.specs.declared.Lookup.{Lookup}
use Rattle.cache.specs.declared.Slot.{Slot}
use Rattle.cache.specs.Runs.{slot_at}
use Rattle.cache.specs.declared.look.Landing.{Landing}
use Rattle.cache.specs.Ages.{bytes_of}
use Rattle.cache.specs.Lookups.{lands_on, run_bytes, passes, len_at, after, landed_by, landed, checked}
use Rattle.cache.specs.Direct.{look_at, look, looked, Aged}
use Rattle.cache.specs.Uses.{uses_of, used_at, with_uses}
use Rattle.cache.proofs.LookLaws.{passes_inside, looked_aged, looked_more, got-touched, aged_lands, aged_uses, touched_uses}
use Rattle.num.specs.Fold.{up_to}
use Rattle.num.proofs.FoldLaws.{up_start, up_turn, up_keeps}
use Rattle.matcher.specs.Keeping.{none_kept}
use Rattle.matcher.specs.declared.Heading.{Heading}
use Rattle.matcher.specs.declared.Kept.{Kept}
use Rattle.matcher.specs.declared.Landings.{Landings}
use Rattle.matcher.specs.declared.Matcher.{Matcher}
use Rattle.matcher.specs.declared.Query.{Query}
use Rattle.matcher.specs.declared.gather.Ending.{Ending}
use Rattle.matcher.specs.declared.NearKeys.{NearKeys}
use Rattle.matcher.specs.Near.{key_at, near_of}
use Rattle.matcher.specs.Gather.{Run, Gathered, look_step, run_step, run_to, matching_by, query_of, run_over, update_over, cache_after, updated, gathered_with, so_far, finished, ended_by, land, landings, landed_at, gather_key, gather_step, gathered_to, searched, used_by, uses_after, made_of, made_by}

-- a run that passes lies in the arena, so its bytes are all there
pub bytes_are : (arena : List ℕ) (first len : ℕ) (key : TileKey) (size : ℕ) → passes arena first len key size ≡ true
    → bytes_of arena first len ≡ run_bytes arena first len
unfolding bytes_of
bytes_are arena first len key size e = rw (le-leb (first * 8192 + len) (length arena) (passes_inside arena first len key size e))

abbrev pub is_over : Ending → Bool
is_over Ending.All = false
is_over (Ending.Need key) = true
is_over Ending.Stale = true

-- ---- the loop, over what the lookups land on

module _ (at : Landings) (arena : List ℕ) (q : Query) (near : NearKeys) where
  abbrev so : ℕ → Gathered
  so i = gathered_to at arena q near i

  abbrev step : Gathered → ℕ → Gathered
  step g i = gather_step g.end (key_at near i) (landed_at at i) g arena q

  pub gather_start : gathered_to at arena q near 0 ≡ so_far none_kept 0
  unfolding gathered_to
  gather_start = up_start step (so_far none_kept 0)

  gather_more : (i : ℕ) → so (i + 1) ≡ step (so i) i
  unfolding gathered_to
  gather_more i = up_turn step (so_far none_kept 0) i

  -- one tile more, while no lookup ended the match
  gather_next : (i : ℕ) (key : Option TileKey) (kept : Kept) (tiles : ℕ) → key_at near i ≡ key → so_far kept tiles ≡ so i
      → gather_key key (landed_at at i) (so_far kept tiles) arena q ≡ so (i + 1)
  gather_next i key kept tiles k is =
      ap (λ (m : Option TileKey). gather_key m (landed_at at i) (so_far kept tiles) arena q) (sym k)
      ∙ ap (λ (g : Gathered). step g i) is
      ∙ sym (gather_more i)

  pub gather_none : (i : ℕ) (kept : Kept) (tiles : ℕ) → key_at near i ≡ None → so_far kept tiles ≡ gathered_to at arena q near i
      → so_far kept (tiles + 1) ≡ gathered_to at arena q near (i + 1)
  gather_none i kept tiles k is = gather_next i None kept tiles k is

  pub gather_turn : (i : ℕ) (key : TileKey) (answer : Result Lookup ℕ) (kept : Kept) (tiles : ℕ) → key_at near i ≡ Some key
      → answer ≡ checked (landed_at at i) arena q.header.tile key
      → so_far kept tiles ≡ gathered_to at arena q near i
      → gathered_with (so_far kept tiles) answer arena q key ≡ gathered_to at arena q near (i + 1)
  gather_turn i key answer kept tiles k told is =
      ap (λ (a : Result Lookup ℕ). gathered_with (so_far kept tiles) a arena q key) told ∙ gather_next i (Some key) kept tiles k is

  -- once a lookup ended the match nothing is added
  over_step : (end : Ending) (m : Option TileKey) (l : Result Lookup ℕ) (g : Gathered) → is_over end ≡ true → gather_step end m l g arena q ≡ g
  over_step Ending.All m l g e = absurd (true≢false (sym e))
  over_step (Ending.Need key) m l g e = refl
  over_step Ending.Stale m l g e = refl

  gather_stays : (i d n : ℕ) → n ≡ i + d → is_over (so i).end ≡ true → so n ≡ so i
  gather_stays i zero n e over = ap so (omega (arith, e))
  gather_stays i (suc d) n e over =
      ap so (omega (arith, e))
      ∙ gather_more (i + d)
      ∙ ap (λ (g : Gathered). step g (i + d)) (gather_stays i d (i + d) refl over)
      ∙ over_step (so i).end (key_at near (i + d)) (landed_at at (i + d)) (so i) over

  pub gather_over : (i : ℕ) (g : Gathered) → i < 4 → is_over g.end ≡ true → g ≡ gathered_to at arena q near (i + 1)
      → g ≡ gathered_to at arena q near 4
  gather_over i g h over is =
      is ∙ sym (gather_stays (i + 1) (3 - i) 4 (omega (arith, h)) (ap (λ (x : Gathered). is_over x.end) (sym is) ∙ over))

  -- ---- a tile that is not gone through is not counted

  with_tiles : (g : Gathered) (answer : Result Lookup ℕ) (key : TileKey) → (gathered_with g answer arena q key).tiles ≤ g.tiles + 1
  with_tiles g (Ok (Lookup.Ready first len)) key = omega arith
  with_tiles g (Ok Lookup.Missing) key = omega arith
  with_tiles g (Ok Lookup.Absent) key = omega arith
  with_tiles g (Err number) key = omega arith

  step_tiles : (end : Ending) (m : Option TileKey) (l : Result Lookup ℕ) (g : Gathered) → (gather_step end m l g arena q).tiles ≤ g.tiles + 1
  step_tiles Ending.All None l g = omega arith
  step_tiles Ending.All (Some key) l g = with_tiles g (checked l arena q.header.tile key) key
  step_tiles (Ending.Need key) m l g = omega arith
  step_tiles Ending.Stale m l g = omega arith

  gather_tiles : (n : ℕ) → (so n).tiles ≤ n
  unfolding gathered_to up_to
  gather_tiles zero = omega arith
  gather_tiles (suc n) = omega (arith, gather_tiles n, step_tiles (so n).end (key_at near n) (landed_at at n) (so n))

module _ (m : Matcher) (at : Landings) (arena : List ℕ) (h : Header) (fix : Point) (heading : Heading) (near : NearKeys) where
  ended_tiles : (end : Ending) (g : Gathered) → g.tiles ≤ 4 → (ended_by end m heading g).tiles ≤ 4
  unfolding finished
  ended_tiles Ending.All g few = omega arith
  ended_tiles (Ending.Need key) g few = few
  ended_tiles Ending.Stale g few = omega arith

  pub searched_tiles : (searched m at arena h fix heading near).tiles ≤ 4
  unfolding searched
  searched_tiles =
      let g : Gathered = gathered_to at arena (query_of m h fix heading) near 4 in
      ended_tiles g.end g (gather_tiles at arena (query_of m h fix heading) near 4)

-- ---- clock and ages, tile by tile

pub uses_start : (at : Landings) (from : Aging) → uses_after at from 0 ≡ from
unfolding uses_after
uses_start at from = up_start (λ (a : Aging) (i : ℕ). used_by (landed_at at i) a) from

pub uses_turn : (at : Landings) (from : Aging) (i : ℕ) → uses_after at from (i + 1) ≡ used_by (landed_at at i) (uses_after at from i)
unfolding uses_after
uses_turn at from i = up_turn (λ (a : Aging) (i : ℕ). used_by (landed_at at i) a) from i

used_size : (l : Result Lookup ℕ) (a : Aging) (n : ℕ) → length a.used ≡ n → length (used_by l a).used ≡ n
used_size (Ok (Lookup.Ready first len)) a n e = length-set a.used first (after a.clock) ∙ e
used_size (Ok Lookup.Missing) a n e = e
used_size (Ok Lookup.Absent) a n e = e
used_size (Err number) a n e = e

-- there are as many ages as before
pub uses_size : (at : Landings) (from : Aging) (n m : ℕ) → length from.used ≡ m → length (uses_after at from n).used ≡ m
unfolding uses_after
uses_size at from n m e =
    up_keeps (λ (a : Aging) (i : ℕ). used_by (landed_at at i) a) from (λ (a : Aging). length a.used ≡ m) n e
    (λ (i : ℕ) (h : i < n) (a : Aging) (l : length a.used ≡ m). used_size (landed_at at i) a m l)

-- ---- at a cache: what is gathered from what its lookups land on is the run over its look

module _ (c : Cache) (arena : List ℕ) (q : Query) (near : NearKeys) where
  abbrev size : ℕ
  size = q.header.tile

  abbrev at : Landings
  at = landings c near

  -- what was gathered over n tiles is the run: the candidates, the ending, and clock and ages; each of the n was gone through if none ended the match
  record Follows (n : ℕ) (g : Gathered) (r : Run) : Type 0 where
    kept : g.kept ≡ r.kept
    end : g.end ≡ r.end
    all : is_over g.end ≡ false → g.tiles ≡ n
    uses : uses_after at (uses_of c) g.tiles ≡ uses_of (looked c arena size r.found)

  landed_at_lem : (i : ℕ) → i < 4 → landed_at at i ≡ (land (key_at near i) c).lookup
  unfolding landings
  landed_at_lem zero h = refl
  landed_at_lem (suc zero) h = refl
  landed_at_lem (suc (suc zero)) h = refl
  landed_at_lem (suc (suc (suc zero))) h = refl
  landed_at_lem (suc (suc (suc (suc i)))) h = absurd (omega (arith, h))

  module _ (n : ℕ) (below : n < 4) (g : Gathered) (r : Run) (is_so_far : Follows n g r) where
    -- the cache as the lookups so far left it
    abbrev now : Cache
    now = looked c arena q.header.tile r.found

    aged : Aged c now
    aged = looked_aged arena q.header.tile r.found c

    -- ---- no lookup ended the match so far

    module _ (on : g.end ≡ Ending.All) where
      gone : g.tiles ≡ n
      gone = is_so_far.all (ap is_over on)

      -- clock and ages once this tile too was gone through
      used_more : (l : Result Lookup ℕ) → (land (key_at near n) c).lookup ≡ l → uses_after at (uses_of c) (g.tiles + 1) ≡ used_by l (uses_of now)
      used_more l e =
          uses_turn at (uses_of c) g.tiles
          ∙ ap (used_by (landed_at at g.tiles)) is_so_far.uses
          ∙ ap (λ (x : Result Lookup ℕ). used_by x (uses_of now)) (ap (landed_at at) gone ∙ landed_at_lem n below ∙ e)

      module _ (key : TileKey) (here : (land (key_at near n) c).lookup ≡ Ok (landed c key)) where
        ready_turn : (i : ℕ) → lands_on c key ≡ Landing.At i → ◌≡◌ {A = Result Lookup ℕ} (Ok (landed c key)) (Ok (Lookup.Ready i (len_at c i))) → (ok : Bool)
            → passes arena i (len_at c i) key size ≡ ok
            → Follows (n + 1) (gathered_with g (checked (Ok (Lookup.Ready i (len_at c i))) arena size key) arena q key)
            (look_step (look_at (Landing.At i) c.pages.slots arena size key) r q key)
        ready_turn i e l true p =
            let same : len_at now i ≡ len_at c i = ap (λ (s : List Slot). (slot_at s i).len) aged.slots in
            let lands : lands_on now key ≡ Landing.At i = aged_lands c now key aged ∙ e in
            let later : uses_of (looked c arena size (r.found ++ (key ∷ []))) ≡ used_at (uses_of now) i
            = ap uses_of (looked_more arena size r.found c key ∙ got-touched arena size now key i lands (rw same p)) ∙ touched_uses now i in
            rw p
            (record {
              kept = rw (bytes_are arena i (len_at c i) key size p, is_so_far.kept);
              end = refl;
              all = λ x. ap (λ (t : ℕ). t + 1) gone;
              uses = used_more (Ok (Lookup.Ready i (len_at c i))) (here ∙ l) ∙ sym later;
            })
        ready_turn i e l false p =
            rw p (record { kept = is_so_far.kept; end = refl; all = λ x. absurd (true≢false x); uses = is_so_far.uses })

        land_turn : (l : Landing) → lands_on c key ≡ l → ◌≡◌ {A = Result Lookup ℕ} (Ok (landed c key)) (Ok (landed_by l c))
            → Follows (n + 1) (gathered_with g (checked (Ok (landed_by l c)) arena size key) arena q key)
            (look_step (look_at l c.pages.slots arena size key) r q key)
        land_turn Landing.Missing e l =
            record {
              kept = is_so_far.kept;
              end = sym on ∙ is_so_far.end;
              all = λ x. ap (λ (t : ℕ). t + 1) gone;
              uses = used_more (Ok Lookup.Missing) (here ∙ l);
            }
        land_turn Landing.Nothing e l =
            record { kept = is_so_far.kept; end = refl; all = λ x. absurd (true≢false x); uses = is_so_far.uses }
        land_turn (Landing.At i) e l = ready_turn i e l (passes arena i (len_at c i) key size) refl

        key_turn : Follows (n + 1) (gathered_with g (checked (Ok (landed c key)) arena size key) arena q key) (look_step (look c arena size key) r q key)
        unfolding landed look
        key_turn = land_turn (lands_on c key) refl refl

      tile_turn : (m : Option TileKey) → key_at near n ≡ m
          → Follows (n + 1) (gather_key m (land m c).lookup g arena q) (run_step Ending.All m (look c arena size) r q)
      tile_turn None e =
          record {
            kept = is_so_far.kept;
            end = sym on ∙ is_so_far.end;
            all = λ x. ap (λ (t : ℕ). t + 1) gone;
            uses = used_more (Ok Lookup.Missing) (rw e);
          }
      tile_turn (Some key) e = key_turn key (rw e)

    -- once a lookup ended the match nothing changes
    over_turn : is_over g.end ≡ true → Follows (n + 1) g r
    over_turn over =
        record { kept = is_so_far.kept; end = is_so_far.end; all = λ x. absurd (true≢false (sym over ∙ x)); uses = is_so_far.uses }

    turn : (end : Ending) → g.end ≡ end
        → Follows (n + 1) (gather_step end (key_at near n) (land (key_at near n) c).lookup g arena q) (run_step end (key_at near n) (look c arena size) r q)
    turn Ending.All e = tile_turn e (key_at near n) refl
    turn (Ending.Need key) e = over_turn (ap is_over e)
    turn Ending.Stale e = over_turn (ap is_over e)

  -- ---- the first n

  abbrev run : ℕ → Run
  run n = run_to (look c arena q.header.tile) near q n

  run_more : (n : ℕ) → run (n + 1) ≡ run_step (run n).end (key_at near n) (look c arena size) (run n) q
  unfolding run_to
  run_more n = up_turn _ _ n

  gathered_none : Follows 0 (gathered_to (landings c near) arena q near 0) (run 0)
  unfolding gathered_to run_to up_to looked
  gathered_none = record { kept = refl; end = refl; all = λ x. refl; uses = uses_start at (uses_of c) }

  gathered_more : (n : ℕ) → n < 4 → Follows n (gathered_to (landings c near) arena q near n) (run n)
      → Follows (n + 1) (gathered_to (landings c near) arena q near (n + 1)) (run (n + 1))
  gathered_more n below before =
      let g : Gathered = gathered_to (landings c near) arena q near n in
      let more : gathered_to (landings c near) arena q near (n + 1)
      ≡ gather_step (run n).end (key_at near n) (land (key_at near n) c).lookup g arena q
      = gather_more (landings c near) arena q near n
      ∙ ap (λ (end : Ending). gather_step end (key_at near n) (landed_at (landings c near) n) g arena q) before.end
      ∙ ap (λ (l : Result Lookup ℕ). gather_step (run n).end (key_at near n) l g arena q) (landed_at_lem n below) in
      rw (more, run_more n) (turn n below g (run n) before (run n).end before.end)

  gathered_run : (n : ℕ) → n ≤ 4 → Follows n (gathered_to (landings c near) arena q near n) (run n)
  gathered_run zero h = gathered_none
  gathered_run (suc n) h = rw (← add-one n) (gathered_more n (omega (arith, h)) (gathered_run n (omega (arith, h))))

-- ---- what a match leaves of the cache is the cache given, with its clock and ages

module _ (m : Matcher) (c : Cache) (arena : List ℕ) (h : Header) (fix : Point) (heading : Heading) where
  aged_by : (end : Ending) (keys : List TileKey) → Aged c (cache_after end c (looked c arena h.tile keys))
  unfolding looked
  aged_by Ending.All keys = looked_aged arena h.tile keys c
  aged_by (Ending.Need key) keys = looked_aged arena h.tile keys c
  aged_by Ending.Stale keys = looked_aged arena h.tile [] c

  pub updated_uses : with_uses c (uses_of (updated m c arena h fix heading).cache) ≡ (updated m c arena h fix heading).cache
  unfolding updated
  updated_uses =
      let r : Run = run_over (look c arena h.tile) m h fix heading in
      aged_uses c (cache_after r.end c (looked c arena h.tile r.found)) (aged_by r.end r.found)

  -- ---- and what it makes, from what the lookups land on, is the match

  abbrev near : NearKeys
  near = near_of h fix

  by_run : (end : Ending) (g : Gathered) (r : Run) → Follows c arena (query_of m h fix heading) near 4 g r → g.end ≡ end
      → made_by (landings c near) (uses_of c) (ended_by end m heading g) ≡ record {
        answer = (matching_by end r.kept m heading).answer;
        matcher = (matching_by end r.kept m heading).matcher;
        uses = uses_of (cache_after end c (looked c arena h.tile r.found));
      }
  unfolding finished
  by_run Ending.All g r same e =
      let four : uses_after (landings c near) (uses_of c) 4 ≡ uses_of (looked c arena h.tile r.found)
      = ap (uses_after (landings c near) (uses_of c)) (sym (same.all (ap is_over e))) ∙ same.uses in
      rw (four, same.kept)
  by_run (Ending.Need key) g r same e = rw same.uses
  by_run Ending.Stale g r same e = rw (uses_start (landings c near) (uses_of c))

  pub made_by_cache : made_by (landings c near) (uses_of c) (searched m (landings c near) arena h fix heading near) ≡ made_of (updated m c arena h fix heading)
  unfolding searched updated update_over
  made_by_cache =
      let r : Run = run_over (look c arena h.tile) m h fix heading in
      let g : Gathered = gathered_to (landings c near) arena (query_of m h fix heading) near 4 in
      let same : Follows c arena (query_of m h fix heading) near 4 g r = gathered_run c arena (query_of m h fix heading) near 4 (omega arith) in
      rw (← same.end) (by_run g.end g r same refl)
