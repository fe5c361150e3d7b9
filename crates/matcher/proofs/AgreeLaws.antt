-- Two looks that agree give the same match where it finishes at the first (`update_agrees`). The idea: a match finishes only where every lookup
-- was ready or missing, so that the second look answers the same at each of them.
use Rattle.std.specs.Prelude.{Option, Some, None}
use Prim.Native.Nat.{ℕ}
use mathlib.Core.Path.{◌≡◌, refl, sym}
use mathlib.Core.Bool.{true, true≢false}
use native.Mathlib.Omega.{arith}
use Rattle.pack.specs.declared.TileKey.{TileKey}
use Rattle.cache.specs.Direct.{Look, ready, missing, absent, stale, settled, Agree}
use Rattle.matcher.specs.declared.Heading.{Heading}
use Rattle.matcher.specs.declared.Kept.{Kept}
use Rattle.matcher.specs.declared.Query.{Query}
use Rattle.num.proofs.FoldLaws.{up_agrees}
use Rattle.matcher.specs.declared.Matcher.{Matcher}
use Rattle.matcher.specs.declared.NearKeys.{NearKeys}
use Rattle.matcher.specs.declared.gather.Ending.{Ending}
use Rattle.matcher.specs.Near.{key_at, near_of}
use Rattle.matcher.specs.Gather.{Run, look_step, run_step, no_run, run_to, matching_by, query_of, run_over, update_over}
use Rattle.matcher.specs.Relied.{is_finished, UpdateAgrees}

-- ---- one tile

look_agrees : (x y : Look) → (settled x ≡ true → y ≡ x) → (r : Run) (q : Query) (key : TileKey) → (look_step x r q key).end ≡ Ending.All
    → look_step y r q key ≡ look_step x r q key
look_agrees (ready bs) y same r q key e = rw (same refl)
look_agrees missing y same r q key e = rw (same refl)
look_agrees absent y same r q key e = let z : ◌≡◌ {A = ℕ} 0 1 = cc in absurd (omega arith)
look_agrees stale y same r q key e = let z : ◌≡◌ {A = ℕ} 0 1 = cc in absurd (omega arith)

module _ (one two : TileKey → Look) (agree : Agree one two) where
  -- all was found after the tile: then before it too, and the second look takes the same step
  step_agrees : (end : Ending) (m : Option TileKey) (r : Run) (q : Query) → r.end ≡ end → (run_step end m one r q).end ≡ Ending.All
      → (r.end ≡ Ending.All) × (run_step end m two r q ≡ run_step end m one r q)
  step_agrees Ending.All None r q was e = (was, refl)
  step_agrees Ending.All (Some key) r q was e = (was, look_agrees (one key) (two key) (agree key) r q key e)
  step_agrees (Ending.Need key) m r q was e = (e, refl)
  step_agrees Ending.Stale m r q was e = (e, refl)

  -- ---- the tiles around the fix

  pub run_agrees : (near : NearKeys) (q : Query) (n : ℕ) → (run_to one near q n).end ≡ Ending.All → run_to two near q n ≡ run_to one near q n
  unfolding run_to
  run_agrees near q n e =
      up_agrees (λ (r : Run) (i : ℕ). run_step r.end (key_at near i) one r q) (λ (r : Run) (i : ℕ). run_step r.end (key_at near i) two r q) no_run
      (λ (r : Run). r.end ≡ Ending.All) (λ (r : Run) (i : ℕ). step_agrees r.end (key_at near i) r q refl) n e

-- ---- the match

finished_all : (end : Ending) (k : Kept) (m : Matcher) (heading : Heading) → is_finished (matching_by end k m heading).answer ≡ true → end ≡ Ending.All
finished_all Ending.All k m heading e = refl
finished_all (Ending.Need key) k m heading e = absurd (true≢false (sym e))
finished_all Ending.Stale k m heading e = absurd (true≢false (sym e))

pub update_agrees : UpdateAgrees
unfolding update_over
update_agrees one two agree m h fix heading e =
    let r : Run = run_over one m h fix heading in
    rw (run_agrees one two agree (near_of h fix) (query_of m h fix heading) 4 (finished_all r.end r.kept m heading e))
