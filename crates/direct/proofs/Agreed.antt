-- What the cache's look settles, the pack has there, and so has every lookup that gives what the direct one does where that has an answer.
use Prim.Native.Nat.{ℕ}
use mathlib.Core.Path.{◌≡◌, sym, ap, subst, ◌∙◌}
use mathlib.Core.Bool.{Bool, true, false, cond, true≢false}
use mathlib.Core.List.{List}
use Rattle.pack.specs.declared.Header.{Header}
use Rattle.pack.specs.declared.TileKey.{TileKey}
use Rattle.cache.specs.Direct.{ready, stale, settled, Agree, look_at, look, direct}
use Rattle.cache.specs.Lookups.{lands_on, run_bytes, passes, len_at}
use Rattle.cache.specs.declared.Cache.{Cache}
use Rattle.cache.specs.declared.look.Landing.{Landing}
use Rattle.cache_lists.specs.Claims.{Parsed}
use Rattle.cache_lists.proofs.Lookups.{in_ring_lem, ReadyAt, ready_at_lem, LandingIs, landing}
use Rattle.cache_lists.proofs.Kept.{Kept}
use Rattle.cache_lists.proofs.Same.{header_is}
use Rattle.direct.specs.Direct.{Lookup, header_of, directly}
use Rattle.direct.specs.Claims.{Answers}

module _ (P : List ℕ) (h : Header) (n : ℕ) (c : Cache) (arena : List ℕ) (k : Kept P h n c arena) where
  at_agrees : (key : TileKey) (x : Landing) → LandingIs c key x → settled (look_at x c.pages.slots arena h.tile key) ≡ true
      → direct P h n key ≡ look_at x c.pages.slots arena h.tile key
  at_agrees key Landing.Missing l s = in_ring_lem c.missing key l (λ (i : ℕ). k.ring i key)
  at_agrees key Landing.Nothing l s = absurd (true≢false (sym s))
  at_agrees key (Landing.At i) l s = by (passes arena i (len_at c i) key h.tile) s
    where
      by : (t : Bool) → settled (cond t (ready (run_bytes arena i (len_at c i))) stale) ≡ true
          → direct P h n key ≡ cond t (ready (run_bytes arena i (len_at c i))) stale
      by true s = let r : ReadyAt c.pages key i = ready_at_lem c.pages key i l in k.slots i key r.ready r.key_is
      by false s = absurd (true≢false (sym s))

  pub kept_agrees : Agree (look c arena h.tile) (direct P h n)
  unfolding look
  kept_agrees key s = at_agrees key (lands_on c key) (landing c key) s

-- the header being the pack's
pub look_agrees : (P : List ℕ) (n : ℕ) (c : Cache) (arena : List ℕ) (h : Header) → Parsed P h → Kept P (header_of P) n c arena → (at : Lookup) → Answers n at
    → Agree (look c arena h.tile) (at P)
look_agrees P n c arena h parsed k at answers key s =
    let same : Agree (look c arena h.tile) (directly n P)
    = subst (λ (x : Header). Agree (look c arena x.tile) (directly n P)) (header_is parsed) (kept_agrees P (header_of P) n c arena k) in
    let e : directly n P key ≡ look c arena h.tile key = same key s in
    answers P key (ap settled e ∙ s) ∙ e
