-- Every run that a lookup of a match or of a road answers lies in the arena and passes `Tile::parse` for its key. The idea: what is found is what
-- the look answers, and that is tested first. For a road, a walk over a reader is compared with itself, what it carries holding more.
use Rattle.std.specs.Prelude.{Option, Some, None}
use Prim.Native.Nat.{ℕ, ◌<◌}
use mathlib.Core.Path.{◌≡◌, refl, ap}
use mathlib.Core.Bool.{Bool, true, false, cond}
use mathlib.Core.List.{List, [], ◌∷◌, ◌++◌}
use native.Mathlib.Omega.{arith}
use lib.Ieee.{Float}
use lib.IntN.{ℤ}
use Rattle.num.proofs.FoldLaws.{up_keeps}
use Rattle.pack.specs.declared.Header.{Header}
use Rattle.pack.specs.declared.TileKey.{TileKey}
use Rattle.geo.specs.declared.Point.{Point}
use Rattle.cache.specs.Direct.{Look, ready, missing, absent, stale, look_at, look}
use Rattle.cache.specs.Lookups.{lands_on, run_bytes, passes, len_at}
use Rattle.cache.specs.declared.Cache.{Cache}
use Rattle.cache.specs.declared.look.Landing.{Landing}
use Rattle.cache.proofs.LookLaws.{passes_inside, passes_accepted}
use Rattle.matcher.specs.declared.Heading.{Heading}
use Rattle.matcher.specs.declared.Matched.{Matched}
use Rattle.matcher.specs.declared.Query.{Query}
use Rattle.matcher.specs.Near.{key_at, near_of}
use Rattle.matcher.specs.Gather.{Run, look_step, key_step, run_step, no_run, run_to, query_of, run_over}
use Rattle.matcher.specs.declared.Matcher.{Matcher}
use Rattle.matcher.specs.declared.NearKeys.{NearKeys}
use Rattle.matcher.specs.declared.gather.Ending.{Ending}
use Rattle.cache.specs.Reader.{plain}
use Rattle.predict.specs.Predict.{predict_over}
use Rattle.predict.proofs.RoadLaws.{forecast_simulates}
use Rattle.direct.specs.Claims.{AllOf, HandsOut, match_keys, road_keys}

-- ---- lists of keys

all_more : (R : TileKey → Type 0) (keys : List TileKey) (key : TileKey) → AllOf R keys → R key → AllOf R (keys ++ (key ∷ []))
unfolding AllOf
all_more R [] key all r = (r, tt)
all_more R (k ∷ keys) key all r = (all.0, all_more R keys key all.1 r)

module _ (at : TileKey → Look) (R : TileKey → Type 0) (is : (key : TileKey) (bs : List ℕ) → at key ≡ ready bs → R key) where
  -- ---- a match

  module _ (q : Query) where
    look_all : (x : Look) (r : Run) (key : TileKey) → at key ≡ x → AllOf R r.found → AllOf R (look_step x r q key).found
    look_all (ready bs) r key e all = all_more R r.found key all (is key bs e)
    look_all missing r key e all = all
    look_all absent r key e all = all
    look_all stale r key e all = all

    key_all : (m : Option TileKey) (r : Run) → AllOf R r.found → AllOf R (key_step m at r q).found
    key_all None r all = all
    key_all (Some key) r all = look_all (at key) r key refl all

    step_all : (end : Ending) (m : Option TileKey) (r : Run) → AllOf R r.found → AllOf R (run_step end m at r q).found
    step_all Ending.All m r all = key_all m r all
    step_all (Ending.Need key) m r all = all
    step_all Ending.Stale m r all = all

    run_all : (near : NearKeys) (n : ℕ) → AllOf R (run_to at near q n).found
    unfolding run_to AllOf
    run_all near n =
        up_keeps (λ (r : Run) (i : ℕ). run_step r.end (key_at near i) at r q) no_run (λ (r : Run). AllOf R r.found) n tt
        (λ (i : ℕ) (below : i < n) (r : Run). step_all r.end (key_at near i) r)

  pub match_all : (m : Matcher) (h : Header) (fix : Point) (heading : Heading) → AllOf R (run_over at m h fix heading).found
  match_all m h fix heading = run_all (query_of m h fix heading) (near_of h fix) 4

  -- ---- a road

  pub road_all : (n : ℕ) (h : Header) (m : Matched) (horizon : Float) (samples behind : List ℤ) → AllOf R (predict_over at n h m horizon samples behind).carried
  unfolding AllOf
  road_all n h m horizon samples behind =
      (forecast_simulates (plain at) (plain at) Holding (λ s t key r. refl) found n h m horizon [] [] (refl, tt) samples behind).carried.1
    where
      Holding : List TileKey → List TileKey → Type 0
      Holding s t = (t ≡ s) × AllOf R s

      found : (s t : List TileKey) (key : TileKey) (bs : List ℕ) → Holding s t → at key ≡ ready bs → Holding (s ++ (key ∷ [])) (t ++ (key ∷ []))
      found s t key bs r e = (ap (λ (x : List TileKey). x ++ (key ∷ [])) r.0, all_more R s key r.1 (is key bs e))

-- ---- at the cache's look

module _ (c : Cache) (arena : List ℕ) (h : Header) where
  hands_by : (key : TileKey) (x : Landing) (bs : List ℕ) → lands_on c key ≡ x → look_at x c.pages.slots arena h.tile key ≡ ready bs
      → HandsOut c arena h key
  hands_by key Landing.Missing bs l e = let z : ◌≡◌ {A = ℕ} 0 1 = cc in absurd (omega arith)
  hands_by key Landing.Nothing bs l e = let z : ◌≡◌ {A = ℕ} 0 1 = cc in absurd (omega arith)
  hands_by key (Landing.At i) bs l e = by (passes arena i (len_at c i) key h.tile) refl e
    where
      by : (t : Bool) → passes arena i (len_at c i) key h.tile ≡ t → cond t (ready (run_bytes arena i (len_at c i))) stale ≡ ready bs → HandsOut c arena h key
      by true p e = record {
        first = i;
        lands = l;
        passed = record {
          inside = passes_inside arena i (len_at c i) key h.tile p;
          accepted = passes_accepted arena i (len_at c i) key h.tile p;
        };
      }
      by false p e = let z : ◌≡◌ {A = ℕ} 0 1 = cc in absurd (omega arith)

  hands_out : (key : TileKey) (bs : List ℕ) → look c arena h.tile key ≡ ready bs → HandsOut c arena h key
  unfolding look
  hands_out key bs e = hands_by key (lands_on c key) bs refl e

  pub match_hands : (m : Matcher) (fix : Point) (heading : Heading) → AllOf (HandsOut c arena h) (match_keys m c arena h fix heading)
  match_hands m fix heading = match_all (look c arena h.tile) (HandsOut c arena h) hands_out m h fix heading

  pub road_hands : (m : Matched) (horizon : Float) (samples behind : List ℤ) → AllOf (HandsOut c arena h) (road_keys c arena h m horizon samples behind)
  road_hands m horizon samples behind = road_all (look c arena h.tile) (HandsOut c arena h) hands_out c.pages.count h m horizon samples behind
