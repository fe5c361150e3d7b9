-- The public cores do no harm: where no call is refused with 12, each does what its public call does. Of a key outside the grid no run is held, since
-- each ready run holds what the pack has for its key.
use Prim.Native.Nat.{ℕ}
use mathlib.Core.Path.{◌≡◌, refl, sym, ◌∙◌}
use mathlib.Core.Bool.{Bool, true, false, cond}
use mathlib.Core.List.{List, [], ◌∷◌}
use native.Mathlib.Omega.{arith}
use lib.Dec.{eqb}
use lib.Ieee.{Float}
use Rattle.pack.specs.Grid.{in_grid}
use Rattle.pack.specs.declared.Header.{Header}
use Rattle.pack.specs.declared.TileKey.{TileKey}
use Rattle.cache.specs.declared.Cache.{Cache}
use Rattle.cache.specs.declared.Aging.{Aging}
use Rattle.cache.specs.declared.look.Landing.{Landing}
use Rattle.cache.specs.Ages as Ages
use Rattle.cache.specs.Calls as CacheCalls
use Rattle.cache.specs.Direct.{ready, missing, direct}
use Rattle.cache.specs.Lookups.{lands_on, got_at, got}
use Rattle.cache.proofs.UnreadLaws.{settled_leaves}
use Rattle.cache_lists.specs.Claims.{Parsed}
use Rattle.cache_lists.specs.Lists as Cached
use Rattle.cache_lists.proofs.Lookups.{LandingIs, landing, ReadyAt, ready_at_lem}
use Rattle.cache_lists.proofs.Same.{given, lent_is}
use Rattle.matcher.specs.Calls as Matching
use Rattle.matcher.specs.State.{call_ok}
use Rattle.predict.specs.Predict as Predict
use Rattle.engine.specs.Follow as Followers
use Rattle.direct.specs.Lists as Calls
use Rattle.direct.specs.Lists.{World, Call, exec, start}
use Rattle.direct.specs.Direct.{pack_after}
use Rattle.direct.specs.Claims.{told_of, AllFair}
use Rattle.direct.specs.Cores.{Core, loaded, settled, cleared, updated, predicted, NoRun, Outside, Public, Harmless, Throughout, AllCores}
use Rattle.direct.specs.Cores as Cores
use Rattle.direct.proofs.Fit.{fit_start}
use Rattle.direct.proofs.Sound.{start_sound}
use Rattle.direct.proofs.Opened.{Stays, reset_fits}
use Rattle.direct.proofs.Always.{cache_is, entry_of_pack, stays_after}

-- the pack has no tile for a key outside the grid
outside_missing : (P : List ℕ) (h : Header) (n : ℕ) (key : TileKey) → in_grid h key ≡ false → direct P h n key ≡ missing
unfolding direct
outside_missing P h n key e = rw e (by (eqb n 0))
  where
    by : (t : Bool) → cond t missing missing ≡ missing
    by true = refl
    by false = refl

module _ (P : List ℕ) (n : ℕ) (horizon : Float) (w : World) (s : Stays P n horizon w) where
  abbrev c₁ : Cache
  c₁ = w.engine.shared.cache

  module _ (h : Header) (parsed : Parsed P h) where
    outside_by : (key : TileKey) (x : Landing) → LandingIs c₁ key x → in_grid h key ≡ false
        → ((got_at x c₁ w.arena h.tile key).cache ≡ c₁) × NoRun (got_at x c₁ w.arena h.tile key).answer
    outside_by key Landing.Missing l e = (refl, tt)
    outside_by key Landing.Nothing l e = (refl, tt)
    outside_by key (Landing.At i) l e =
        let r : ReadyAt c₁.pages key i = ready_at_lem c₁.pages key i l in
        let held = (given P n parsed s.fit.shared.cache).slots i key r.ready r.key_is in
        let none : missing ≡ ready _ = sym (outside_missing P h n key e) ∙ held in
        let z : ◌≡◌ {A = ℕ} 0 1 = cc in
        absurd (omega arith)

    outside_is : (key : TileKey) → in_grid h key ≡ false → Outside w h key
    unfolding got
    outside_is key e =
        let x = outside_by key (lands_on c₁ key) (landing c₁ key) e in record { cache = x.0; answer = x.1 }

    public_is : (k : Core) → Public w h k
    unfolding exec Cached.exec CacheCalls.get CacheCalls.load CacheCalls.clear Matching.update call_ok Predict.predict
    public_is (Cores.got key) = ((λ e. rw (cache_is P n horizon w s h parsed key, e)), outside_is key)
    public_is (loaded key failure bs) = rw (cache_is P n horizon w s h parsed key)
    public_is (settled key) = rw (cache_is P n horizon w s h parsed key, settled_leaves c₁ w.arena h key)
    public_is cleared = rw (lent_is P n (Calls.cache_of w) s.fit.shared.cache s.long (entry_of_pack P n horizon w s))
    public_is (updated m p heading) = λ ok. rw (cache_is P n horizon w s h parsed (record { row = 0; col = 0 }), ok)
    public_is (predicted m reach samples behind) = rw (cache_is P n horizon w s h parsed m.tile.key)

  harmless : Harmless P w
  unfolding Ages.aged
  harmless = record {
    cores = public_is;
    aged = λ (looks : List ℕ). record { slots = refl; count = refl; missing = refl; loading = refl; pending = refl; loads = refl };
    uses = λ (a : Aging). record { slots = refl; count = refl; missing = refl; loading = refl; pending = refl; loads = refl };
  }

cores_along : (n : ℕ) (horizon : Float) (cs : List Call) (P : List ℕ) (w : World) → Stays P n horizon w → AllFair P cs w → Throughout Harmless P cs w
unfolding Throughout AllFair
cores_along n horizon [] P w s fair = harmless P n horizon w s
cores_along n horizon (c ∷ cs) P w s fair = (
  harmless P n horizon w s,
  cores_along n horizon cs (pack_after P c (told_of w c)) (exec c w).world (stays_after P n horizon w s c fair.0) fair.1,
)

pub all_cores : AllCores
unfolding Followers.fresh
all_cores n few horizon arena long P cs fair =
    cores_along n horizon cs P (start n horizon arena)
    (record { fit = fit_start P n horizon arena few; ok = start_sound n horizon arena few long; long = long; found = reset_fits P n }) fair
