-- A tile that is ready or known missing (`Settled`): a lookup of its key lands on something. So of a key that was found, of a key forgotten,
-- which the ring then has in the place that was next, and of a load's key once its run is ready.
use Rattle.std.specs.Prelude.{Option, Some, None}
use Rattle.std.specs.Prelude.{is_some}
use Prim.Native.Nat.{ℕ, ◌<◌}
use mathlib.Core.Path.{◌≡◌, ap, ◌∙◌}
use mathlib.Core.Bool.{Bool, true, false, cond}
use native.Mathlib.Omega.{arith}
use lib.Seq.{get_or-set_same}
use Rattle.pack.specs.declared.TileKey.{TileKey}
use Rattle.cache.specs.declared.Slot.{Slot}
use Rattle.cache.specs.Runs.{empty_slot, slot_at}
use Rattle.cache.proofs.RunLaws.{span_pos}
use Rattle.cache.specs.declared.Cache.{Cache}
use Rattle.cache.specs.declared.Loading.{Loading}
use Rattle.cache.specs.declared.look.Landing.TheVariants as Landing
use Rattle.cache.specs.Keys.{holds, empty_place, key_at, in_ring, forgotten, is_ready, ready_at}
use Rattle.cache.specs.Lookups.{landed_on, lands_on, touched}
use Rattle.cache.specs.Loads.{moved, forgot, ready_slot, readied}
use Rattle.cache_lists.proofs.Lookups.{key_same, lowest_found}
use Rattle.cache_lists.proofs.Inv.{Loads, Inv, loads_within}

abbrev pub Settled : Cache → TileKey → Type 0
Settled c key = lands_on c key ≡ Landing.Nothing → ⊥

-- ---- in the ring, or a ready run

lands : (t : Bool) (x : Option ℕ) → is_some x ≡ true → cond t Landing.Missing (landed_on x) ≡ Landing.Nothing → ⊥
lands true x e q = let z : ◌≡◌ {A = ℕ} 0 1 = cc in omega arith
lands false (Some i) e q = let z : ◌≡◌ {A = ℕ} 0 1 = cc in omega arith
lands false None e q = let z : ◌≡◌ {A = ℕ} 0 1 = cc in omega arith

ready_settled : (c : Cache) (key : TileKey) → is_some (ready_at c.pages key) ≡ true → Settled c key
unfolding lands_on
ready_settled c key e q = lands (in_ring c.missing key) (ready_at c.pages key) e q

pub ring_settled : (c : Cache) (key : TileKey) → in_ring c.missing key ≡ true → Settled c key
unfolding lands_on
ring_settled c key e q = let z : ◌≡◌ {A = ℕ} 0 1 = cc (rw e at q) in omega arith

-- clock and ages say nothing of it
pub touched_settled : (c : Cache) (i : ℕ) (key : TileKey) → ready_at c.pages key ≡ Some i → Settled (touched c i) key
unfolding touched ready_at
touched_settled c i key e = ready_settled (touched c i) key (rw e)

-- ---- a key forgotten

module _ (c : Cache) (key : TileKey) (f : Inv c) where
  -- the place that was next holds it
  next_holds : holds (key_at (forgotten c.missing key) c.missing.next) key ≡ true
  unfolding forgotten
  next_holds =
      ap (λ (x : Option TileKey). holds x key)
      (get_or-set_same c.missing.keys c.missing.next (Some key) empty_place (omega (arith, f.places, f.ring)))
      ∙ key_same key

  pub forgot_settled : Settled (forgot c key) key
  unfolding forgot in_ring
  forgot_settled =
      ring_settled (forgot c key) key (lowest_found (λ (i : ℕ). holds (key_at (forgotten c.missing key) i) key) 64 c.missing.next f.ring next_holds)

-- ---- the load's run ready

module _ (c : Cache) (l : Loading) (f : Inv c) (e : c.loading ≡ Some l) where
  r : Loads c.pages.slots l
  r = rw e at f.load

  below : l.slot < c.pages.count
  below = omega (arith, loads_within c.pages l f.pages r, span_pos l.len)

  abbrev now : Slot
  now = ready_slot (slot_at c.pages.slots l.slot)

  now_ready : is_ready l.key now ≡ true
  unfolding is_ready
  now_ready = rw r.key (key_same l.key)

  pub readied_settled : Settled (readied c l) l.key
  unfolding readied touched moved ready_at
  readied_settled =
      ready_settled (readied c l) l.key
      (lowest_found (λ (i : ℕ). is_ready l.key (slot_at (readied c l).pages.slots i)) c.pages.count l.slot below
      (rw (get_or-set_same c.pages.slots l.slot now empty_slot (omega (arith, below, f.pages.size, f.pages.small))) now_ready))
