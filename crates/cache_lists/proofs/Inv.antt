-- The state's own invariant, with no premise on what was delivered (`Inv`): well-formed pages of which none is ready but the first of a run, a ring of 64 places and a place in it, a
-- load that has its run, no run that is neither ready nor the load's, an open fetch that the state makes. It has in it what number 12 tests
-- (`inv_ok`), a fresh cache has it, and each change of the state keeps it. So live runs lie within the pages and apart (`inv_apart`).
use Rattle.std.specs.Prelude.{Option, Some, None}
use Prim.Native.Nat.{ℕ, ◌+◌, ◌-◌, ◌<◌, ◌≤◌}
use mathlib.Core.Path.{◌≡◌, refl, ap, ◌∙◌}
use mathlib.Core.Bool.{Bool, true, false, cond}
use mathlib.Core.List.{List}
use mathlib.Core.Logic.{inl, ⊎_elim}
use native.Mathlib.Omega.{arith}
use borrow.Author.Tests.{ltb-false, lt-ltb, eq-eqb}
use lib.Dec.{ltb}
use lib.ListN.{length, replicate, length-replicate, length-set}
use Rattle.pack.specs.declared.TileKey.{TileKey}
use Rattle.cache.specs.declared.Slot.{Slot}
use Rattle.cache.specs.declared.Pages.{Pages}
use Rattle.cache.specs.Runs.{span, empty_slot, slot_at, run, kind_of, kind_at, Good, Sound}
use Rattle.cache.specs.Evict.{evicted, head_slot}
use Rattle.cache.specs.Begin.{replaced}
use Rattle.cache.proofs.RunLaws.{span_pos, sound_ok, inside, apart}
use Rattle.cache.proofs.EvictLaws.{SameOrEmpty, evicted_count, sound_evicted, evicted_either, placed_head, sound_set}
use Rattle.cache.proofs.BeginLaws.{sound_replaced}
use Rattle.cache.specs.declared.Cache.{Cache}
use Rattle.cache.specs.declared.Loading.{Loading}
use Rattle.cache.specs.declared.Pending.{Pending}
use Rattle.cache.specs.declared.look.Landing.{Landing}
use Rattle.cache.specs.declared.next.Next.TheVariants as Next
use Rattle.cache.specs.Keys.{empty_place, is_ready, ready_at, forgotten}
use Rattle.cache.specs.Lookups.{lands_on, touched, next_at, next_step}
use Rattle.cache.specs.State.{fresh, cleared, tile_loads, loads_ok, wants_chunk_of, pending_fits, pending_ok, is_entry, is_chunk, state_ok}
use Rattle.cache.specs.Loads.{chunk_len, withdrawn, moved, forgot, without_run, dropped, new_load, ready_slot, with_ready, readied, further}
use Rattle.cache_lists.specs.Claims.{LoadsAt, Live, Apart, ShortLoad}
use Rattle.cache_lists.proofs.Lookups.{key_same, lowest_found, chunk_unready}
use Rattle.cache_lists.proofs.Stores.{get_d_same}
use Rattle.cache_lists.proofs.Live.{LiveIn, none_live, evicted_live, replaced_live, ready_live, MarksIn, none_marked, evicted_marked, replaced_marked, ready_marked, SlotReady, OnceIn, Fewer, Freshly, none_once, fewer_once, either_fewer, evicted_fewer, replaced_fewer, ready_once, ready_freshly}

-- ---- the invariant

-- the load has its run, not ready, with the load's key and length, of 49,152 bytes at most, and has not all of it
pub record Loads (s : List Slot) (l : Loading) : Type 0 where
  pub run : kind_at s l.slot ≡ run
  pub key : (slot_at s l.slot).key ≡ Some l.key
  pub len : (slot_at s l.slot).len ≡ l.len
  pub waits : (slot_at s l.slot).ready ≡ false
  pub below : l.done < l.len
  pub short : l.len ≤ 49152

abbrev pub LoadIn : List Slot → Option Loading → Type 0
LoadIn s None = Unit
LoadIn s (Some l) = Loads s l

-- well-formed, a page that is marked ready starts a run, and a key has one ready run. Number 12 doesn't ask the last two, and no call leaves anything else
pub record InvPages (g : Pages) : Type 0 where
  pub size : length g.slots ≡ 96
  pub small : g.count ≤ 96
  pub good : Good g.slots g.count
  pub marks : MarksIn g.slots
  pub once : OnceIn g.slots

pub sound_in : (g : Pages) → InvPages g → Sound g
sound_in g f = record { size = f.size; small = f.small; good = f.good }

pages_in : (g : Pages) → Sound g → MarksIn g.slots → OnceIn g.slots → InvPages g
pages_in g f m o = record { size = f.size; small = f.small; good = f.good; marks = m; once = o }

pub record Inv (c : Cache) : Type 0 where
  pub pages : InvPages c.pages
  pub places : length c.missing.keys ≡ 64
  pub ring : c.missing.next < 64
  pub live : LiveIn c.pages.slots c.loading
  pub load : LoadIn c.pages.slots c.loading
  pub pending : pending_ok c ≡ true

-- the load's length
pub inv_short : (c : Cache) → Inv c → ShortLoad c.loading
inv_short c f = by c.loading f.load
  where
    by : (x : Option Loading) → LoadIn c.pages.slots x → ShortLoad x
    by None l = tt
    by (Some l) r = r.short

-- ---- it is what number 12 tests

loads_ok_lem : (g : Pages) (x : Option Loading) → LoadIn g.slots x → loads_ok g x ≡ true
unfolding tile_loads
loads_ok_lem g None f = refl
loads_ok_lem g (Some l) f = rw (f.run, f.key, key_same l.key, eq-eqb _ _ f.len, f.waits, lt-ltb l.done l.len f.below)

pub inv_ok : (c : Cache) → Inv c → state_ok c ≡ true
unfolding state_ok
inv_ok c f = rw (sound_ok c.pages (sound_in c.pages f.pages), lt-ltb c.missing.next 64 f.ring, loads_ok_lem c.pages c.loading f.load, f.pending)

-- ---- live runs

pub ready_run : (g : Pages) → InvPages g → (p : ℕ) → (slot_at g.slots p).ready ≡ true → kind_at g.slots p ≡ run
ready_run g f p e = f.marks p e

loads_run : (s : List Slot) (x : Option Loading) (h : ℕ) → LoadIn s x → LoadsAt x h → kind_at s h ≡ run
loads_run s None h f e = absurd e
loads_run s (Some l) h f e = rw (← e) f.run

live_run : (c : Cache) → Inv c → (h : ℕ) → Live c h → kind_at c.pages.slots h ≡ run
live_run c f h o = ⊎_elim (ready_run c.pages f.pages h) (loads_run c.pages.slots c.loading h f.load) o

pub inv_apart : (c : Cache) → Inv c → Apart c
inv_apart c f = record {
  within = λ (h : ℕ) (o : Live c h). inside c.pages.slots c.pages.count f.pages.good h (live_run c f h o);
  apart = λ (h1 h2 : ℕ) (o : Live c h1) (p : Live c h2) (l : h1 < h2).
      apart c.pages.slots c.pages.count f.pages.good h1 h2 (live_run c f h1 o) (live_run c f h2 p) l;
}

-- ---- nothing in it

pages_empty : (used : List ℕ) (count clock : ℕ) → count ≤ 96 → InvPages (record { slots = replicate 96 empty_slot; used = used; count = count; clock = clock })
pages_empty used count clock h = record {
  size = length-replicate 96 empty_slot;
  small = h;
  good = λ (p : ℕ). let z : slot_at (replicate 96 empty_slot) p ≡ empty_slot = get_d_same 96 p empty_slot in rw z tt;
  marks = none_marked;
  once = none_once;
}

pub inv_fresh : (n : ℕ) → n ≤ 96 → Inv (fresh n)
unfolding fresh
inv_fresh n h = record {
  pages = pages_empty (replicate 96 0) n 0 h;
  places = length-replicate 64 empty_place;
  ring = omega arith;
  live = none_live None;
  load = tt;
  pending = refl;
}

pub inv_cleared : (c : Cache) → Inv c → Inv (cleared c)
unfolding cleared
inv_cleared c f = record {
  pages = pages_empty c.pages.used c.pages.count c.pages.clock f.pages.small;
  places = length-replicate 64 empty_place;
  ring = f.ring;
  live = none_live None;
  load = tt;
  pending = refl;
}

-- ---- clock and ages: the next step towards a tile is as before, so an open fetch is still the state's

touched_at : (c : Cache) (i : ℕ) (key : TileKey) (x : Landing) → next_at x (touched c i) key ≡ next_at x c key
unfolding touched
touched_at c i key (Landing.At j) = refl
touched_at c i key Landing.Missing = refl
touched_at c i key Landing.Nothing = refl

touched_next : (c : Cache) (i : ℕ) (key : TileKey) → next_step (touched c i) key ≡ next_step c key
unfolding next_step lands_on ready_at touched
touched_next c i key = touched_at c i key (lands_on c key)

touched_chunk : (c : Cache) (i : ℕ) (x : Option Loading) → wants_chunk_of x (touched c i) ≡ wants_chunk_of x c
touched_chunk c i None = refl
touched_chunk c i (Some l) = ap is_chunk (touched_next c i l.key)

touched_fits : (c : Cache) (i : ℕ) (p : Pending) → pending_fits p (touched c i) ≡ pending_fits p c
unfolding touched
touched_fits c i Pending.Nothing = refl
touched_fits c i Pending.Header = refl
touched_fits c i (Pending.Entry key) = ap is_entry (touched_next c i key)
touched_fits c i Pending.Chunk = touched_chunk c i c.loading

pub inv_touched : (c : Cache) (i : ℕ) → Inv c → Inv (touched c i)
unfolding touched
inv_touched c i f = record {
  pages = record { size = f.pages.size; small = f.pages.small; good = f.pages.good; marks = f.pages.marks; once = f.pages.once };
  places = f.places;
  ring = f.ring;
  live = f.live;
  load = f.load;
  pending = touched_fits c i c.pending ∙ f.pending;
}

-- ---- any other change ends an open fetch, but the header's, which every state makes

withdrawn_fits : (p : Pending) (c : Cache) → pending_fits (withdrawn p) c ≡ true
withdrawn_fits Pending.Nothing c = refl
withdrawn_fits Pending.Header c = refl
withdrawn_fits (Pending.Entry key) c = refl
withdrawn_fits Pending.Chunk c = refl

pub inv_forgot : (c : Cache) (key : TileKey) → Inv c → Inv (forgot c key)
unfolding forgot forgotten
inv_forgot c key f = record {
  pages = f.pages;
  places = length-set c.missing.keys c.missing.next _ ∙ f.places;
  ring = omega arith;
  live = f.live;
  load = f.load;
  pending = withdrawn_fits c.pending (forgot c key);
}

inv_moved : (c : Cache) (g : Pages) (x : Option Loading) → Inv c → InvPages g → LiveIn g.slots x → LoadIn g.slots x → Inv (moved c g x)
unfolding moved
inv_moved c g x f s a l = record {
  pages = s;
  places = f.places;
  ring = f.ring;
  live = a;
  load = l;
  pending = withdrawn_fits c.pending (moved c g x);
}

-- ---- a load dropped, begun, gone on with, ended

-- the load's run lies within the pages
pub loads_within : (g : Pages) (l : Loading) → InvPages g → Loads g.slots l → l.slot + span l.len ≤ g.count
loads_within g l f r = rw r.len at (inside g.slots g.count f.good l.slot r.run)

module _ (g : Pages) where
  pub without_count : (x : Option Loading) → (without_run x g).count ≡ g.count
  without_count None = refl
  without_count (Some l) = evicted_count 1 l.slot g

  first_within : (l : Loading) → InvPages g → Loads g.slots l → l.slot + 1 ≤ g.count
  first_within l f r = omega (arith, loads_within g l f r, span_pos l.len)

  pages_without : (x : Option Loading) → InvPages g → LoadIn g.slots x → InvPages (without_run x g)
  pages_without None f r = f
  pages_without (Some l) f r =
      let s : Sound g = sound_in g f in
      let b : l.slot + 1 ≤ g.count = first_within l f r in
      pages_in (evicted 1 l.slot g) (sound_evicted 1 l.slot g s b) (evicted_marked 1 l.slot g s b f.marks)
      (fewer_once g.slots (evicted 1 l.slot g).slots (evicted_fewer 1 l.slot g s b) f.once)

  live_without : (x : Option Loading) → InvPages g → LoadIn g.slots x → LiveIn g.slots x → LiveIn (without_run x g).slots None
  live_without None f r a = a
  live_without (Some l) f r a = evicted_live g l (sound_in g f) (first_within l f r) a

  pub without_either : (x : Option Loading) → InvPages g → LoadIn g.slots x → (i : ℕ) → SameOrEmpty g (without_run x g) i
  without_either None f r i = inl refl
  without_either (Some l) f r i = evicted_either 1 l.slot g (sound_in g f) (first_within l f r) i

pub inv_dropped : (c : Cache) → Inv c → Inv (dropped c)
unfolding dropped
inv_dropped c f =
    inv_moved c (without_run c.loading c.pages) None f
    (pages_without c.pages c.loading f.pages f.load)
    (live_without c.pages c.loading f.pages f.load f.live)
    tt

-- what is ready then was ready before
pub dropped_fewer : (c : Cache) → Inv c → Fewer c.pages.slots (dropped c).pages.slots
unfolding dropped moved
dropped_fewer c f h r = either_fewer (slot_at c.pages.slots h) _ (without_either c.pages c.loading f.pages f.load h) r

pub dropped_load : (c : Cache) → (dropped c).loading ≡ None
unfolding dropped moved
dropped_load c = refl

module _ (g : Pages) (s : ℕ) (key : TileKey) (len : ℕ) (f : Sound g) (fits : s + span len ≤ g.count) where
  pub replaced_head : slot_at (replaced g s key len).slots s ≡ head_slot key len
  replaced_head = placed_head (evicted (span len) s g) s key len (omega (arith, (sound_evicted (span len) s g f fits).size, span_pos len, f.small))

  loads_new : (offset : ℕ) → 0 < len → len ≤ 49152 → Loads (replaced g s key len).slots (new_load key s offset len)
  loads_new offset h b =
      record { run = ap kind_of replaced_head; key = rw replaced_head; len = rw replaced_head; waits = rw replaced_head; below = h; short = b }

-- where no load is
pub inv_began : (c : Cache) (s : ℕ) (key : TileKey) (offset len : ℕ) → Inv c → c.loading ≡ None → s + span len ≤ c.pages.count → 0 < len
    → len ≤ 49152 → Inv (moved c (replaced c.pages s key len) (Some (new_load key s offset len)))
inv_began c s key offset len f e fits h b =
    let sound : Sound c.pages = sound_in c.pages f.pages in
    inv_moved c (replaced c.pages s key len) (Some (new_load key s offset len)) f
    (pages_in (replaced c.pages s key len) (sound_replaced c.pages s key len sound fits) (replaced_marked c.pages s key len sound fits f.pages.marks)
    (fewer_once c.pages.slots (replaced c.pages s key len).slots (replaced_fewer c.pages s key len sound fits) f.pages.once))
    (replaced_live c.pages s key offset len sound fits (rw e at f.live))
    (loads_new c.pages s key len sound fits offset h b)

-- a chunk is part of what is left
chunk_by : (l : Loading) (t : Bool) → ltb (l.len - l.done) 2048 ≡ t → l.done < l.len → l.done + cond t (l.len - l.done) 2048 ≤ l.len
chunk_by l true e b = omega arith
chunk_by l false e b = omega (arith, ltb-false (l.len - l.done) 2048 e)

pub chunk_room : (l : Loading) → l.done < l.len → l.done + chunk_len l ≤ l.len
unfolding chunk_len
chunk_room l b = chunk_by l (ltb (l.len - l.done) 2048) refl b

-- with the load that the state has
module _ (c : Cache) (l : Loading) (f : Inv c) (e : c.loading ≡ Some l) where
  r : Loads c.pages.slots l
  r = rw e at f.load

  live : LiveIn c.pages.slots (Some l)
  live = rw e at f.live

  pub inv_further : (come : ℕ) → come < l.len → Inv (further c l come)
  unfolding further
  inv_further come h =
      inv_moved c c.pages _ f f.pages live (record { run = r.run; key = r.key; len = r.len; waits = r.waits; below = h; short = r.short })

  below : l.slot < length c.pages.slots
  below = omega (arith, first_within c.pages l f.pages r, f.pages.size, f.pages.small)

  sound_ready : Sound (with_ready c.pages l.slot)
  sound_ready =
      sound_set c.pages l.slot (ready_slot (slot_at c.pages.slots l.slot)) (sound_in c.pages f.pages)
      (omega (arith, first_within c.pages l f.pages r))
      r.run r.run refl

  -- the key of a load that goes on is not ready
  unready : next_step c l.key ≡ Next.Chunk l → (i : ℕ) → SlotReady (slot_at c.pages.slots i) l.key → ⊥
  unfolding ready_at is_ready
  unready q i ready =
      let run : kind_at c.pages.slots i ≡ run = ready_run c.pages f.pages i ready.0 in
      chunk_unready c l.key l q
      (lowest_found (λ (j : ℕ). is_ready l.key (slot_at c.pages.slots j)) c.pages.count i
      (omega (arith, inside c.pages.slots c.pages.count f.pages.good i run, span_pos (slot_at c.pages.slots i).len))
      (rw (ready.0, ready.1) (key_same l.key)))

  pub readied_freshly : next_step c l.key ≡ Next.Chunk l → Freshly c.pages.slots (readied c l).pages.slots
  unfolding readied touched moved
  readied_freshly q = ready_freshly c.pages.slots l below r.key (unready q)

  pub inv_readied : next_step c l.key ≡ Next.Chunk l → Inv (readied c l)
  unfolding readied touched moved
  inv_readied q = record {
    pages = record {
      size = sound_ready.size;
      small = sound_ready.small;
      good = sound_ready.good;
      marks = ready_marked c.pages.slots l below r.run f.pages.marks;
      once = ready_once c.pages.slots l below r.key (unready q) f.pages.once;
    };
    places = f.places;
    ring = f.ring;
    live = ready_live c.pages.slots l below live;
    load = tt;
    pending = withdrawn_fits c.pending (readied c l);
  }
