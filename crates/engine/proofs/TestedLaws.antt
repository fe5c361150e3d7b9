-- What number 12's test of the engine tells the functions behind it: the cache's state is a good one, the tile needed and the match lie in the grid
-- of the header that was read, the fix is a point and the heading one that number 8 accepts.
use Rattle.matcher.specs.declared.Matched.{Matched}
use Rattle.std.specs.Prelude.{Option, None, Some}
use Rattle.std.proofs.Common.{◌≡◌, ℕ, Bool, true, ◌&&◌, leb, List, [], ◌∷◌, refl}
use Rattle.pack.specs.Grid.{is_point, in_grid}
use Rattle.pack.specs.declared.TileKey.{TileKey}
use Rattle.pack.proofs.Laws.{and_left, and_right, clause}
use Rattle.cache.specs.State.{state_ok}
use Rattle.matcher.specs.State.{key_ok, counts_ok, heading_ok}
use Rattle.engine.specs.declared.Engine.{Engine}
use Rattle.engine.specs.declared.Fix.{Fix}
use Rattle.engine.specs.declared.Phase.TheVariants as Phase
use Rattle.engine.specs.State.{need_ok, matched_ok, shared_ok, pending_ok, fix_ok, places_ok, sight_ok, ahead_ok, failures_ok, matcher_ok, reload_limit, due_ok, engine_ok}

module _ (e : Engine) (n : ℕ) (ok : engine_ok e n ≡ true) where
  abbrev pub causes : List Bool
  causes =
      shared_ok e.shared n ∷ due_ok e.shared e.follower.due ∷ sight_ok e.follower.sight ∷ matcher_ok e.shared e.follower.matcher
      ∷ ahead_ok e.shared e.follower.ahead ∷ failures_ok e.shared.phase e.follower.failures
      ∷ pending_ok e.shared e.follower.due.need ∷ []

  pub state_in : state_ok e.shared.cache ≡ true
  unfolding engine_ok shared_ok
  state_in = and_left (state_ok e.shared.cache) _ (clause 0 causes ok)

  due_in : need_ok e.shared e.follower.due.need ≡ true
  unfolding engine_ok
  due_in = and_right (leb e.follower.due.reloads (reload_limit e.shared.cache.pages.count)) _ (clause 1 causes ok)

  pub need_in : (key : TileKey) → e.shared.phase ≡ Phase.Ready → e.follower.due.need ≡ Some key → in_grid e.shared.header key ≡ true
  need_in key ready need = rw (ready, need) at due_in

  sight_in : sight_ok e.follower.sight ≡ true
  unfolding engine_ok
  sight_in = clause 2 causes ok

  pub fix_in : (fix : Fix) → e.follower.sight.fix ≡ Some fix → (is_point fix.lat fix.lon && heading_ok e.follower.sight.heading) ≡ true
  fix_in fix q =
      let point : is_point fix.lat fix.lon ≡ true = rw q at (and_left (fix_ok e.follower.sight.fix) _ sight_in) in
      let heading : heading_ok e.follower.sight.heading ≡ true
      = and_right (places_ok e.follower.sight.history) _ (and_right (fix_ok e.follower.sight.fix) _ sight_in) in
      rw (point, heading)

  matched_in : matched_ok e.shared e.follower.matcher.current ≡ true
  unfolding engine_ok
  matched_in = and_right (counts_ok e.follower.matcher) _ (clause 3 causes ok)

  pub current_in : e.shared.phase ≡ Phase.Ready → key_ok e.follower.matcher.current e.shared.header ≡ true
  current_in ready = by e.follower.matcher.current matched_in
    where
      by : (x : Option Matched) → matched_ok e.shared x ≡ true → key_ok x e.shared.header ≡ true
      by None q = refl
      by (Some m) q = rw ready at q
