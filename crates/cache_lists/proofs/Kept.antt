-- The invariant under the premises of one pack (`Kept`): beside the state's own, each ready run holds what the direct lookup gives, each key
-- of the ring is missing there, and what has come of the load is the pack's. Each change of state and arena keeps it. A chunk is written
-- within its load's run, and runs are apart, so that what other runs hold stays.
use Rattle.std.specs.Prelude.{Option, Some, None}
use Prim.Native.Nat.{ℕ, ◌+◌, ◌*◌, ◌<◌, ◌≤◌}
use mathlib.Core.Path.{◌≡◌, refl, sym, ap, ◌∙◌}
use mathlib.Core.Bool.{true, false, true≢false}
use mathlib.Core.List.{List}
use mathlib.Core.Logic.{◌⊎◌, ⊎_elim}
use native.Mathlib.Omega.{arith}
use borrow.Author.Tests.{le-leb}
use lib.ListN.{length, take, drop, get_or, replicate}
use lib.Seq.{paste, take-add, drop-drop}
use Rattle.pack.specs.declared.TileKey.{TileKey}
use Rattle.pack.specs.declared.Header.{Header}
use Rattle.cache.specs.declared.Slot.{Slot}
use Rattle.cache.specs.declared.Pages.{Pages}
use Rattle.cache.specs.Runs.{span, empty_slot, slot_at, Sound}
use Rattle.cache.specs.Evict.{evicted, head_slot, piece_slot}
use Rattle.cache.specs.Begin.{replaced}
use Rattle.cache.proofs.Below.{same_or}
use Rattle.cache.proofs.RunLaws.{span_holds}
use Rattle.cache.proofs.FillLaws.{Out, out_or}
use Rattle.cache.proofs.EvictLaws.{evicted_count, sound_evicted, evicted_either, placed_same, placed_piece}
use Rattle.tile.specs.Parse.{accepts}
use Rattle.cache.specs.declared.Cache.{Cache}
use Rattle.cache.specs.declared.Loading.{Loading}
use Rattle.cache.specs.Keys.{empty_place, key_at, forgotten}
use Rattle.cache.specs.declared.next.Next.TheVariants as Next
use Rattle.cache.specs.Lookups.{run_bytes, passes, touched, next_step}
use Rattle.cache.specs.State.{fresh, cleared}
use Rattle.cache.specs.Direct.{ready, missing, direct_tile, direct}
use Rattle.cache.specs.Loads.{chunk_len, moved, forgot, dropped, new_load, put, ready_slot, readied, further}
use Rattle.cache_lists.proofs.Stores.{set_cases, get_d_same, paste_size, bytes_same, bytes_before}
use Rattle.cache_lists.proofs.Inv.{Loads, sound_in, Inv, loads_within, without_count, without_either, chunk_room, replaced_head, inv_fresh, inv_cleared, inv_touched, inv_forgot, inv_dropped, inv_began, inv_further, inv_readied}
use Rattle.cache_lists.proofs.Chunk.{put_written, ready_kept}
use Rattle.cache_lists.proofs.Direct.{tile_ready, tile_missing}

-- ---- the invariant

module _ (P : List ℕ) (h : Header) (n : ℕ) where
  -- a ready run from page i on holds what the direct lookup gives for its key
  abbrev pub SlotHolds : List ℕ → ℕ → Slot → Type 0
  SlotHolds arena i s = (k : TileKey) → s.ready ≡ true → s.key ≡ Some k → direct P h n k ≡ ready (run_bytes arena i s.len)

  abbrev pub RingHolds : Option TileKey → Type 0
  RingHolds m = (k : TileKey) → m ≡ Some k → direct P h n k ≡ missing

  -- the load is of the tile that the direct lookup reads, and what has come of it is the pack's
  pub record LoadHolds (arena : List ℕ) (l : Loading) : Type 0 where
    pub is : direct P h n l.key ≡ direct_tile P h l.key l.offset l.len
    pub bytes : take l.done (drop (l.slot * 8192) arena) ≡ take l.done (drop l.offset P)

  abbrev pub LoadKept : List ℕ → Option Loading → Type 0
  LoadKept arena None = Unit
  LoadKept arena (Some l) = LoadHolds arena l

  pub record Kept (c : Cache) (arena : List ℕ) : Type 0 where
    pub inv : Inv c
    pub count : c.pages.count ≡ n
    pub slots : (i : ℕ) → SlotHolds arena i (slot_at c.pages.slots i)
    pub ring : (i : ℕ) → RingHolds (key_at c.missing i)
    pub load : LoadKept arena c.loading

  -- ---- nothing in it

  -- what is not ready says nothing
  waits : (arena : List ℕ) (i : ℕ) (s : Slot) → s.ready ≡ false → SlotHolds arena i s
  waits arena i s e k r q = absurd (true≢false (sym r ∙ e))

  empty_slots : (arena : List ℕ) (i : ℕ) → SlotHolds arena i (slot_at (replicate 96 empty_slot) i)
  empty_slots arena i = rw (get_d_same 96 i empty_slot) (waits arena i empty_slot refl)

  empty_place_lem : RingHolds empty_place
  empty_place_lem k e = let z : ◌≡◌ {A = ℕ} 0 1 = cc in absurd (omega arith)

  empty_ring : (i : ℕ) → RingHolds (get_or (replicate 64 empty_place) i empty_place)
  empty_ring i = rw (get_d_same 64 i empty_place) empty_place_lem

  pub kept_fresh : (arena : List ℕ) → n ≤ 96 → Kept (fresh n) arena
  unfolding fresh
  kept_fresh arena b = record { inv = inv_fresh n b; count = refl; slots = empty_slots arena; ring = empty_ring; load = tt }

  pub kept_cleared : (c : Cache) (arena : List ℕ) → Kept c arena → Kept (cleared c) arena
  unfolding cleared
  kept_cleared c arena f = record { inv = inv_cleared c f.inv; count = f.count; slots = empty_slots arena; ring = empty_ring; load = tt }

  -- ---- clock and ages; a key known missing; a load dropped or begun

  pub kept_touched : (c : Cache) (arena : List ℕ) (i : ℕ) → Kept c arena → Kept (touched c i) arena
  unfolding touched
  kept_touched c arena i f = record { inv = inv_touched c i f.inv; count = f.count; slots = f.slots; ring = f.ring; load = f.load }

  pub kept_forgot : (c : Cache) (arena : List ℕ) (key : TileKey) → direct P h n key ≡ missing → Kept c arena → Kept (forgot c key) arena
  unfolding forgot forgotten
  kept_forgot c arena key m f = record {
    inv = inv_forgot c key f.inv;
    count = f.count;
    slots = f.slots;
    ring = λ (i : ℕ). set_cases (λ (x : Option TileKey). RingHolds x) c.missing.keys c.missing.next i (Some key) empty_place
        (λ (e : i ≡ c.missing.next) (k : TileKey) (q : Some key ≡ Some k). let same : key ≡ k = cc in rw same at m)
        (f.ring i)
        empty_place_lem;
    load = f.load;
  }

  -- a page that is as before or empty holds what it held
  held_or_empty : (arena : List ℕ) (i : ℕ) (s t : Slot) → SlotHolds arena i s → (t ≡ s) ⊎ (t ≡ empty_slot) → SlotHolds arena i t
  held_or_empty arena i s t f o = ⊎_elim (λ e. rw e f) (λ e. rw e (waits arena i empty_slot refl)) o

  pub kept_dropped : (c : Cache) (arena : List ℕ) → Kept c arena → Kept (dropped c) arena
  unfolding dropped moved
  kept_dropped c arena f = record {
    inv = inv_dropped c f.inv;
    count = without_count c.pages c.loading ∙ f.count;
    slots = λ (i : ℕ). held_or_empty arena i (slot_at c.pages.slots i) _ (f.slots i) (without_either c.pages c.loading f.inv.pages f.inv.load i);
    ring = f.ring;
    load = tt;
  }

  module _ (g : Pages) (s : ℕ) (key : TileKey) (len : ℕ) (f : Sound g) (fits : s + span len ≤ g.count) (arena : List ℕ) where
    replaced_holds : ((i : ℕ) → SlotHolds arena i (slot_at g.slots i)) → (i : ℕ) → SlotHolds arena i (slot_at (replaced g s key len).slots i)
    replaced_holds held i = ⊎_elim beside (λ b. ⊎_elim head (piece b) (same_or i s)) (out_or s (s + span len) i)
      where
        beside : Out s (s + span len) i → SlotHolds arena i (slot_at (replaced g s key len).slots i)
        beside o =
            rw (placed_same (evicted (span len) s g) s key len i o)
            (held_or_empty arena i (slot_at g.slots i) _ (held i) (evicted_either (span len) s g f fits i))

        head : i ≡ s → SlotHolds arena i (slot_at (replaced g s key len).slots i)
        head e = rw (e, replaced_head g s key len f fits) (waits arena s (head_slot key len) refl)

        piece : (s ≤ i) × (i < s + span len) → (i ≡ s → ⊥) → SlotHolds arena i (slot_at (replaced g s key len).slots i)
        piece b e =
            rw (placed_piece (evicted (span len) s g) s key len i (omega (arith, e)) b.1 (omega (arith, (sound_evicted (span len) s g f fits).size, f.small)))
            (waits arena i (piece_slot s) refl)

  pub kept_began : (c : Cache) (arena : List ℕ) (s : ℕ) (key : TileKey) (offset len : ℕ) → Kept c arena → c.loading ≡ None → s + span len ≤ c.pages.count → 0 < len
      → len ≤ 49152 → direct P h n key ≡ direct_tile P h key offset len
      → Kept (moved c (replaced c.pages s key len) (Some (new_load key s offset len))) arena
  unfolding moved
  kept_began c arena s key offset len f e fits pos short d = record {
    inv = inv_began c s key offset len f.inv e fits pos short;
    count = evicted_count (span len) s c.pages ∙ f.count;
    slots = replaced_holds c.pages s key len (sound_in c.pages f.inv.pages) fits arena f.slots;
    ring = f.ring;
    load = record { is = d; bytes = refl };
  }

  -- ---- a chunk written

  -- the load l with the bytes of its next chunk, which are the pack's, over an arena that holds the pages
  module _ (c : Cache) (arena : List ℕ) (l : Loading) (bs : List ℕ) (f : Kept c arena) (is : c.loading ≡ Some l)
      (holds : c.pages.count * 8192 ≤ length arena) (size : length bs ≡ chunk_len l)
      (within : l.offset + l.done + chunk_len l ≤ length P) (fair : bs ≡ take (chunk_len l) (drop (l.offset + l.done) P)) where
    abbrev filled : List ℕ
    filled = put arena l.slot l.done bs

    abbrev at : ℕ
    at = l.slot * 8192 + l.done

    loads : Loads c.pages.slots l
    loads = rw is at f.inv.load

    load : LoadHolds arena l
    load = rw is at f.load

    room : l.done + chunk_len l ≤ l.len
    room = chunk_room l loads.below

    -- the load's run lies in the arena
    long : l.slot * 8192 + l.len ≤ length arena
    long = omega (arith, loads_within c.pages l f.inv.pages loads, span_holds l.len)

    fits : at + chunk_len l ≤ length arena
    fits = omega (arith, long, room)

    filled_is : filled ≡ paste arena at bs (chunk_len l)
    unfolding put
    filled_is = rw (size, le-leb (at + chunk_len l) (length arena) fits)

    -- what had come of it, and what has come then
    old_bytes : take l.done (drop (l.slot * 8192) filled) ≡ take l.done (drop l.offset P)
    old_bytes = rw filled_is (bytes_before arena at bs (chunk_len l) fits size (l.slot * 8192) l.done (omega arith)) ∙ load.bytes

    new_bytes : take (chunk_len l) (drop l.done (drop (l.slot * 8192) filled)) ≡ take (chunk_len l) (drop l.done (drop l.offset P))
    new_bytes = rw (drop-drop, drop-drop, filled_is) (bytes_same arena at bs (chunk_len l) fits size ∙ fair)

    come_bytes : take (l.done + chunk_len l) (drop (l.slot * 8192) filled) ≡ take (l.done + chunk_len l) (drop l.offset P)
    come_bytes = rw (take-add l.done (chunk_len l) (drop (l.slot * 8192) filled), take-add l.done (chunk_len l) (drop l.offset P), old_bytes, new_bytes)

    -- a ready run holds what it held
    ready_bytes : (i : ℕ) → (slot_at c.pages.slots i).ready ≡ true
        → run_bytes filled i (slot_at c.pages.slots i).len ≡ run_bytes arena i (slot_at c.pages.slots i).len
    ready_bytes = ready_kept c f.inv arena filled (rw is (put_written l arena bs size))

    kept_put : Kept c filled
    kept_put = record {
      inv = f.inv;
      count = f.count;
      slots = λ (i : ℕ) (k : TileKey) (e : (slot_at c.pages.slots i).ready ≡ true) (q : (slot_at c.pages.slots i).key ≡ Some k).
          f.slots i k e q ∙ ap ready (sym (ready_bytes i e));
      ring = f.ring;
      load = rw is (record { is = load.is; bytes = old_bytes });
    }

    pub kept_further : l.done + chunk_len l < l.len → Kept (further c l (l.done + chunk_len l)) filled
    unfolding further moved
    kept_further b = record {
      inv = inv_further c l f.inv is (l.done + chunk_len l) b;
      count = f.count;
      slots = kept_put.slots;
      ring = f.ring;
      load = record { is = load.is; bytes = come_bytes };
    }

    -- the last chunk came: the tile is the pack's, and `passes` asks what the direct lookup does
    module _ (last : l.len ≤ l.done + chunk_len l) where
      all_bytes : run_bytes filled l.slot l.len ≡ take l.len (drop l.offset P)
      all_bytes = let e : l.done + chunk_len l ≡ l.len = omega (arith, room) in rw e at come_bytes

      passes_is : passes filled l.slot l.len l.key h.tile ≡ accepts (take l.len (drop l.offset P)) l.key h.tile
      unfolding passes
      passes_is = rw (all_bytes, filled_is, paste_size arena at bs (chunk_len l) fits size, le-leb (l.slot * 8192 + l.len) (length arena) long)

      pub kept_readied : next_step c l.key ≡ Next.Chunk l → passes filled l.slot l.len l.key h.tile ≡ true → Kept (readied c l) filled
      unfolding readied touched moved
      kept_readied next p = record {
        inv = inv_readied c l f.inv is next;
        count = f.count;
        slots = λ (i : ℕ). set_cases (SlotHolds filled i) c.pages.slots l.slot i (ready_slot (slot_at c.pages.slots l.slot)) empty_slot
            (now i) (kept_put.slots i) (waits filled i empty_slot refl);
        ring = f.ring;
        load = tt;
      }
        where
          now : (i : ℕ) → i ≡ l.slot → SlotHolds filled i (ready_slot (slot_at c.pages.slots l.slot))
          now i e k r q =
              let same : l.key ≡ k = cc loads.key in
              rw (← same, e, loads.len, all_bytes)
              (load.is ∙ tile_ready P h n l.key l.offset l.len (omega (arith, within, last)) (sym passes_is ∙ p))

      pub kept_spoiled : passes filled l.slot l.len l.key h.tile ≡ false → Kept (forgot (dropped c) l.key) filled
      kept_spoiled p =
          kept_forgot (dropped c) filled l.key
          (load.is ∙ tile_missing P h n l.key l.offset l.len (omega (arith, within, last)) (sym passes_is ∙ p))
          (kept_dropped c filled kept_put)
