-- What an arm of a `match` on several variants knows: the value is one of them, so that what the definition makes of each of them is what the
-- arm does. The idea: the number of the variant tells it. A road refuses the step just where its number does (`refused_just_where`), and by the
-- refusal of that number (`refused_by_number`, `refused_by_its_number`), which is one alone (`number_tells`). And the limit on asked tiles is a
-- small number (`limit_small`).
use Rattle.refusal.specs.declared.Refusal.{Refusal}
use Rattle.std.specs.Prelude.{Result, Err, Ok, Some, None, is_some}
use Rattle.refusal.specs.Refusal.{number_of}
use Rattle.std.proofs.Common.{◌≡◌, ℕ, ◌+◌, ◌≤◌, Bool, true, false, cond, not, eqb, ltb, leb, ◌⊎◌, List, sym, refl, ap, ◌∙◌, ⊎_elim, true≢false, arith, ltb-false, ltb-true, le-leb}
use borrow.Author.Tests.{lt-leb}
use native.Mathlib.Nat.{min-le_right}
use denote.Enum.Declared.{tag_of}
use Rattle.cache.specs.Lookups.{by_number}
use Rattle.cache.specs.declared.Cache.{Cache}
use Rattle.cache.specs.declared.Progress.{Progress}
use Rattle.cache.specs.declared.Pending.{Pending}
use Rattle.cache.specs.contracts.Pending as Pendings
use Rattle.matcher.specs.declared.Matched.{Matched}
use Rattle.predict.specs.Predict.{After}
use Rattle.predict.specs.declared.Outcome as RoadOutcome
use Rattle.predict.specs.declared.Outcome.TheVariants as Road
use Rattle.engine.specs.declared.Fix.{Fix}
use Rattle.engine.specs.declared.Follower.{Follower}
use Rattle.engine.specs.declared.Engine.{Engine}
use Rattle.engine.specs.declared.Status.{Status}
use Rattle.engine.specs.State.{reload_limit, refused}
use Rattle.engine.specs.Work.{counted, ended, rematch, with_heights, road_ended_by}
use Rattle.engine.specs.Deliver.{failing, failed_pack, arrived, load_failed, loaded_by, need_came, delivered_by}
use Rattle.engine.specs.Plans.{road_leaves, road_refusal, road_fails, road_number, load_leaves, fails_pack, load_phase, load_tells}
use Rattle.engine.specs.Steps.{repeated, stepped_by}

abbrev pending_tag : Pending → ℕ
pending_tag p = tag_of Pendings.the_type p

-- ---- a refusal is told by its number

abbrev refusal_of : ℕ → Refusal
refusal_of n =
    cond (eqb n 1) Refusal.Media (cond (eqb n 2) Refusal.PastPack (cond (eqb n 3) Refusal.Unsupported (cond (eqb n 4) Refusal.Corrupt (cond (eqb n 5) Refusal.NotLoaded (cond (eqb n 6) Refusal.NoStart (cond (eqb n 7) Refusal.PastTile (cond (eqb n 8) Refusal.OutOfRange (cond (eqb n 9) Refusal.OutsideGrid (cond (eqb n 10) Refusal.BadStart (cond (eqb n 11) Refusal.NotAsked (cond (eqb n 12) Refusal.BadState (cond (eqb n 13) Refusal.BadValue Refusal.NoRoom))))))))))))

number_back : (refusal : Refusal) → refusal_of (number_of refusal) ≡ refusal
number_back Refusal.Media = refl
number_back Refusal.PastPack = refl
number_back Refusal.Unsupported = refl
number_back Refusal.Corrupt = refl
number_back Refusal.NotLoaded = refl
number_back Refusal.NoStart = refl
number_back Refusal.PastTile = refl
number_back Refusal.OutOfRange = refl
number_back Refusal.OutsideGrid = refl
number_back Refusal.BadStart = refl
number_back Refusal.NotAsked = refl
number_back Refusal.BadState = refl
number_back Refusal.BadValue = refl
number_back Refusal.NoRoom = refl

pub number_tells : (a b : Refusal) → number_of a ≡ number_of b → a ≡ b
number_tells a b e = sym (number_back a) ∙ ap refusal_of e ∙ number_back b

-- ---- a road that ended

-- a step is refused just where `road_fails` of the road's answer, by its number
pub refused_just_where : (o : Result RoadOutcome.Outcome Refusal) → is_some (road_refusal o) ≡ road_fails (by_number o)
refused_just_where (Ok outcome) = refl
refused_just_where (Err told) = by (road_fails (Err (number_of told)))
  where
    by : (t : Bool) → is_some (cond t (Some told) None) ≡ t
    by true = refl
    by false = refl

-- and then by the refusal whose number is `road_number` of it
pub refused_by_number : (o : Result RoadOutcome.Outcome Refusal) (refusal : Refusal) → road_refusal o ≡ Some refusal
    → road_number (by_number o) ≡ number_of refusal
refused_by_number (Ok outcome) refusal q = let z : ◌≡◌ {A = ℕ} 0 1 = cc in absurd (omega arith)
refused_by_number (Err told) refusal q = by (road_fails (Err (number_of told))) q
  where
    by : (t : Bool) → cond t (Some told) None ≡ Some refusal → number_of told ≡ number_of refusal
    by true q = let same : told ≡ refusal = cc in rw same
    by false q = let z : ◌≡◌ {A = ℕ} 0 1 = cc in absurd (omega arith)

pub refused_by_its_number : (o : Result RoadOutcome.Outcome Refusal) (refusal : Refusal) → road_fails (by_number o) ≡ true
    → road_number (by_number o) ≡ number_of refusal → road_refusal o ≡ Some refusal
refused_by_its_number (Ok outcome) refusal fails q = absurd (true≢false (sym fails))
refused_by_its_number (Err told) refusal fails q = by (road_fails (Err (number_of told))) fails
  where
    by : (t : Bool) → t ≡ true → cond t (Some told) None ≡ Some refusal
    by true f = ap (λ (r : Refusal). Some r) (number_tells told refusal q)
    by false f = absurd (true≢false (sym f))

pub road_refused : (o : Result RoadOutcome.Outcome Refusal) (refusal : Refusal) → road_refusal o ≡ Some refusal
    → (e : Engine) (f : Follower) (fix : Fix) (found : Matched) (x : After) → road_ended_by o e f fix found x ≡ refused e refusal
road_refused (Ok outcome) refusal q e f fix found x = let z : ◌≡◌ {A = ℕ} 0 1 = cc in absurd (omega arith)
road_refused (Err told) refusal q e f fix found x = by (eqb (number_of told) 10) q
  where
    by : (t : Bool) → cond (not t) (Some told) None ≡ Some refusal
        → cond t (ended e x.predicted.cache (rematch f) (Ok Status.Working)) (refused e told) ≡ refused e refusal
    by true q = let z : ◌≡◌ {A = ℕ} 0 1 = cc in absurd (omega arith)
    by false q = let same : told ≡ refusal = cc in rw same

pub road_ended : (o : Result RoadOutcome.Outcome Refusal) → road_refusal o ≡ None → (e : Engine) (f : Follower) (fix : Fix) (found : Matched) (x : After)
    → road_ended_by o e f fix found x
    ≡ ended e x.predicted.cache (road_leaves o f (with_heights f.ahead x.samples x.behind) x.predicted.cache.pages.count fix found) (Ok Status.Working)
road_ended (Ok (Road.Road r)) q e f fix found x = refl
road_ended (Ok (Road.Need key)) q e f fix found x = refl
road_ended (Ok Road.Rematch) q e f fix found x = refl
road_ended (Err told) q e f fix found x = by (eqb (number_of told) 10) q
  where
    by : (t : Bool) → cond (not t) (Some told) None ≡ None
        → cond t (ended e x.predicted.cache (rematch f) (Ok Status.Working)) (refused e told) ≡ ended e x.predicted.cache (rematch f) (Ok Status.Working)
    by true q = refl
    by false q = let z : ◌≡◌ {A = ℕ} 0 1 = cc in absurd (omega arith)

-- ---- a step of a load that ended

pub load_ended : (p : Progress) (e : Engine) (c : Cache)
    → loaded_by (Ok p) e c
    ≡ record {
      answer = Ok (load_tells (fails_pack p e.follower.failures));
      engine = record {
        shared = record { phase = load_phase e.shared.phase (fails_pack p e.follower.failures); header = e.shared.header; cache = c };
        follower = load_leaves p e.follower;
      };
    }
unfolding arrived load_failed
load_ended Progress.Done e c = refl
load_ended Progress.More e c = refl
load_ended (Progress.Failed refusal) e c = by e.follower.failures (ltb e.follower.failures 7) refl
  where
    by : (n : ℕ) (t : Bool) → ltb n 7 ≡ t
        → cond t (ended e c (failing (counted e.follower) (n + 1)) (Ok Status.Working)) (failed_pack e c (failing (counted e.follower) 8))
        ≡ record {
          answer = Ok (load_tells (leb 7 n));
          engine = record {
            shared = record { phase = load_phase e.shared.phase (leb 7 n); header = e.shared.header; cache = c };
            follower = failing (counted e.follower) (cond t (n + 1) 8);
          };
        }
    by n true q = rw (lt-leb 7 n (ltb-true n 7 q))
    by n false q = rw (le-leb 7 n (ltb-false n 7 q))

-- ---- an open fetch

pub part_delivered : (p : Pending) → (pending_tag p ≡ 2) ⊎ (pending_tag p ≡ 3) → (e : Engine) (arena : List ℕ) (failure : ℕ) (bs : List ℕ)
    → delivered_by p e arena failure bs ≡ need_came e arena failure bs
part_delivered Pending.Nothing h e arena failure bs = absurd (⊎_elim (λ z. omega arith) (λ z. omega arith) h)
part_delivered Pending.Header h e arena failure bs = absurd (⊎_elim (λ z. omega arith) (λ z. omega arith) h)
part_delivered (Pending.Entry key) h e arena failure bs = refl
part_delivered Pending.Chunk h e arena failure bs = refl

pub fetch_repeated : (p : Pending) → (pending_tag p ≡ 1) ⊎ ((pending_tag p ≡ 2) ⊎ (pending_tag p ≡ 3)) → (e : Engine) (arena : List ℕ)
    → stepped_by p e arena ≡ repeated e p
fetch_repeated Pending.Nothing h e arena =
    absurd (⊎_elim (λ z. omega arith) (λ t. ⊎_elim (λ z. omega arith) (λ z. omega arith) t) h)
fetch_repeated Pending.Header h e arena = refl
fetch_repeated (Pending.Entry key) h e arena = refl
fetch_repeated Pending.Chunk h e arena = refl

-- ---- the limit on asked tiles

pub limit_small : (pages : ℕ) → reload_limit pages ≤ 208
limit_small pages = omega (arith, min-le_right pages 96)
