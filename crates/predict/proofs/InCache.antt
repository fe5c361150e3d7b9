-- What the code answers, at its lookups in the cache, is the definition's answer at the cache's look (`looks_predict`). The idea: the road is
-- the same by both readers, and the clock and the ages that the code carries are those that the keys found leave.
use Prim.Native.Nat.{ℕ}
use mathlib.Core.Path.{◌≡◌, sym, ◌∙◌}
use mathlib.Core.List.{List, []}
use lib.IntN.{ℤ}
use lib.Ieee.{Float}
use Rattle.pack.specs.declared.Header.{Header}
use Rattle.pack.specs.declared.TileKey.{TileKey}
use Rattle.cache.specs.declared.Cache.{Cache}
use Rattle.cache.specs.Direct.{ready, look, looked}
use Rattle.cache.specs.Ages.{lookups_of}
use Rattle.cache.specs.Reader.{plain, in_looks}
use Rattle.cache.specs.Stands.{Sized, Stands}
use Rattle.cache.proofs.ReaderLaws.{stands_start, stands_at, stands_found}
use Rattle.matcher.specs.declared.Matched.{Matched}
use Rattle.predict.specs.Predict.{Forecast, forecast_over, predict_over, After, cache_after, predicted_in, after_of, from_looks}
use Rattle.predict.proofs.RoadLaws.{AlikeForecast, forecast_simulates}

-- the code's lookups give the road over the cache's look, with the clock and ages that its keys leave
pub forecast_in_cache : (c : Cache) → Sized c → (arena : List ℕ) (n : ℕ) (h : Header) (m : Matched) (horizon : Float) (samples behind : List ℤ)
    → AlikeForecast (Stands c arena h.tile) (forecast_over (in_looks arena h.tile) n h m horizon (lookups_of c) samples behind)
    (predict_over (look c arena h.tile) n h m horizon samples behind)
forecast_in_cache c sized arena n h m horizon samples behind =
    forecast_simulates (in_looks arena h.tile) (plain (look c arena h.tile)) (Stands c arena h.tile) at found n h m horizon (lookups_of c) []
    (stands_start c arena h.tile sized) samples behind
  where
    at : (looks : List ℕ) (keys : List TileKey) (key : TileKey) → Stands c arena h.tile looks keys
        → look c arena h.tile key ≡ (in_looks arena h.tile).at looks key
    at looks keys key r = sym (stands_at c arena h.tile looks keys r key)

    found : (looks : List ℕ) (keys : List TileKey) (key : TileKey) (bs : List ℕ) → Stands c arena h.tile looks keys
        → (in_looks arena h.tile).at looks key ≡ ready bs
        → Stands c arena h.tile ((in_looks arena h.tile).found looks key) ((plain (look c arena h.tile)).found keys key)
    found looks keys key bs r e = stands_found c arena h.tile looks keys r key bs (at looks keys key r ∙ e)

module _ (c : Cache) (sized : Sized c) (arena : List ℕ) (h : Header) (m : Matched) (horizon : Float) (samples behind : List ℤ) where
  -- the state after a forecast over the look
  abbrev looked_after : Forecast (List TileKey) → After
  looked_after g = record {
    predicted = record { answer = g.answer; cache = cache_after g.answer c (looked c arena h.tile g.carried) };
    samples = g.samples;
    behind = g.behind;
  }

  alike_after : (f : Forecast (List ℕ)) (g : Forecast (List TileKey)) → AlikeForecast (Stands c arena h.tile) f g → after_of c f ≡ looked_after g
  alike_after f g a = rw (a.answer, a.samples, a.behind, ← a.carried.same)

  pub looks_predict : after_of c (from_looks (lookups_of c) arena c.pages.count h m horizon samples behind) ≡ predicted_in c arena h m horizon samples behind
  unfolding from_looks predicted_in
  looks_predict = alike_after _ _ (forecast_in_cache c sized arena c.pages.count h m horizon samples behind)
