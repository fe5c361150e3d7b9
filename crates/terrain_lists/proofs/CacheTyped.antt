-- What the cache's calls leave stays within its types, over an arena that stays bytes (`stepped_typed`, `load_typed`, `load_from_typed`, `got_typed`, `looked_typed`, `cleared_typed`). The
-- idea: a new key is one that was given or is held already, a new length is at most 49,152, and a new run begins on one of at most 96 pages.
use Prim.Native.Nat.{ℕ, zero, suc, ◌+◌, ◌-◌, ◌*◌, ◌<◌, ◌≤◌}
use mathlib.Core.Path.{◌≡◌, refl, subst, ◌∙◌}
use mathlib.Core.Bool.{Bool, true, false, cond}
use mathlib.Core.List.{List, [], ◌∷◌, ◌++◌}
use native.Mathlib.Omega.{arith}
use borrow.Author.Tests.{ltb-false}
use lib.Dec.{eqb, ltb, leb}
use lib.ListN.{length, set, take, drop, replicate, length-set, length-replicate}
use lib.Seq.{paste}
use Rattle.std.specs.Prelude.{Option, Some, None, Result, Ok, Err}
use Rattle.refusal.specs.declared.Refusal.{Refusal}
use Rattle.pack.specs.Grid.{in_grid, locate_of, read}
use Rattle.pack.specs.declared.Header.{Header}
use Rattle.pack.specs.declared.TileKey.{TileKey}
use Rattle.cache.specs.Begin.{replaced, begun_at}
use Rattle.cache.specs.Calls as Calls
use Rattle.cache.specs.Direct.{looked}
use Rattle.cache.specs.Evict.{head_of, whole_of, room_of, clear_at, evicted_page, evicted, piece_slot, head_slot, placed}
use Rattle.cache.specs.Keys.{empty_place, forgotten}
use Rattle.cache.specs.Loads.{After, done, refused, chunk_len, withdrawn, moved, forgot, without_run, dropped, new_load, began_at, began, located, entry_step, put, ready_slot, readied, ended, further, chunk_step, stepped, pack_bytes, takes}
use Rattle.cache.specs.Lookups.{lands_on, passes, len_at, touched, got_ready, got_at, got, next_step}
use Rattle.cache.specs.Runs.{empty_slot, slot_at, kind_at, span}
use Rattle.cache.specs.State.{fresh, cleared, lent_ok, cache_ok}
use Rattle.cache.specs.Victim.{victim, victim_in}
use Rattle.cache.proofs.FromLaws.{next_chunk}
use Rattle.cache.proofs.VictimLaws.{victim_is}
use Rattle.cache.specs.declared.Cache.{Cache}
use Rattle.cache.specs.declared.Cleared.{Cleared}
use Rattle.cache.specs.declared.Loaded.{Loaded}
use Rattle.cache.specs.declared.Loading.{Loading}
use Rattle.cache.specs.declared.Pages.{Pages}
use Rattle.cache.specs.declared.Pending.{Pending}
use Rattle.cache.specs.declared.Ring.{Ring}
use Rattle.cache.specs.declared.Slot.{Slot}
use Rattle.cache.specs.declared.look.Landing.{Landing}
use Rattle.cache.specs.declared.next.Next.{Next}
use Rattle.words.specs.Typed.{Word, Byte, Short, TypedKey, TypedMaybe, TypedSlot, TypedPages, TypedRing, TypedLoading, TypedPending, TypedCache}
use Rattle.terrain_lists.specs.Calls.{Bytes}
use Rattle.terrain_lists.proofs.Everywhere.{All, all_set, all_drop, all_take, all_append, all_replicate, all_fill, beyond, length-fill}
use Rattle.terrain_lists.proofs.Either.{either, either_false}

-- ---- bytes

pub bytes_none : Bytes []
bytes_none i = omega arith

pub bytes_take : (n : ℕ) (bs : List ℕ) → Bytes bs → Bytes (take n bs)
bytes_take n bs b = all_take Byte 0 n bs (omega arith) b

pub bytes_drop : (n : ℕ) (bs : List ℕ) → Bytes bs → Bytes (drop n bs)
bytes_drop n bs b = all_drop Byte 0 n bs b

pub bytes_of_pack : (pack : List ℕ) (offset n : ℕ) → Bytes pack → Bytes (pack_bytes pack offset n)
bytes_of_pack pack offset n b = bytes_take n (drop offset pack) (bytes_drop offset pack b)

bytes_put : (arena : List ℕ) (slot come : ℕ) (bs : List ℕ) → Bytes arena → Bytes bs → Bytes (put arena slot come bs)
unfolding put
bytes_put arena slot come bs a b = by (leb (slot * 8192 + come + length bs) (length arena))
  where
    by : (t : Bool) → Bytes (cond t (paste arena (slot * 8192 + come) bs (length bs)) arena)
    by true =
        let at = slot * 8192 + come in
        all_append Byte 0 (take at arena ++ take (length bs) bs) (drop (at + length bs) arena)
        (all_append Byte 0 (take at arena) (take (length bs) bs) (bytes_take at arena a) (bytes_take (length bs) bs b))
        (bytes_drop (at + length bs) arena a)
    by false = a

-- ---- slots

empty_typed : TypedSlot empty_slot
empty_typed = record { key = tt; len = omega arith; part = tt }

abbrev SlotsTyped : List Slot → Type 0
SlotsTyped s = All TypedSlot empty_slot s

pub slots_typed : (g : Pages) → TypedPages g → SlotsTyped g.slots
slots_typed g t = beyond TypedSlot empty_slot 96 g.slots t.slots empty_typed t.slot

pages_typed : (g : Pages) → length g.slots ≡ 96 → SlotsTyped g.slots → length g.used ≡ 96 → Word g.count → TypedPages g
pages_typed g l s u c = record { slots = l; slot = λ (i : ℕ) (h : i < 96). s i; used = u; count = c }

-- ---- the ring

keys_typed : (r : Ring) → TypedRing r → All (λ (p : Option TileKey). TypedMaybe p) empty_place r.keys
keys_typed r t = beyond (λ (p : Option TileKey). TypedMaybe p) empty_place 64 r.keys t.keys tt t.key

forgotten_typed : (r : Ring) (key : TileKey) → TypedRing r → TypedKey key → TypedRing (forgotten r key)
unfolding forgotten
forgotten_typed r key t k = record {
  keys = length-set r.keys r.next _ ∙ t.keys;
  key = λ (i : ℕ) (h : i < 64).
      all_set (λ (p : Option TileKey). TypedMaybe p) empty_place r.keys r.next (Some key) (keys_typed r t) k i;
  next = omega arith;
}

-- ---- what is open

pub withdrawn_typed : (p : Pending) → TypedPending (withdrawn p)
withdrawn_typed Pending.Nothing = tt
withdrawn_typed Pending.Header = tt
withdrawn_typed (Pending.Entry key) = tt
withdrawn_typed Pending.Chunk = tt

-- ---- changes of the state

pub touched_typed : (c : Cache) (i : ℕ) → TypedCache c → TypedCache (touched c i)
unfolding touched
touched_typed c i t = record {
  pages = record { slots = t.pages.slots; slot = t.pages.slot; used = length-set c.pages.used i _ ∙ t.pages.used; count = t.pages.count };
  missing = t.missing;
  loading = t.loading;
  pending = t.pending;
}

forgot_typed : (c : Cache) (key : TileKey) → TypedKey key → TypedCache c → TypedCache (forgot c key)
unfolding forgot
forgot_typed c key k t = record {
  pages = t.pages;
  missing = forgotten_typed c.missing key t.missing k;
  loading = t.loading;
  pending = withdrawn_typed c.pending;
}

moved_typed : (c : Cache) (g : Pages) (l : Option Loading) → TypedPages g → TypedLoading l → TypedCache c → TypedCache (moved c g l)
unfolding moved
moved_typed c g l p q t = record { pages = p; missing = t.missing; loading = q; pending = withdrawn_typed c.pending }

-- ---- evicting

page_typed : (g : Pages) (p : ℕ) → TypedPages g → TypedPages (evicted_page g p)
unfolding evicted_page
page_typed g p t =
    let h = head_of p (kind_at g.slots p) in
    let n = room_of h (whole_of (slot_at g.slots h)) g.count in
    pages_typed (clear_at g h) (length-fill n h empty_slot g.slots ∙ t.slots)
    (all_fill TypedSlot empty_slot n h empty_slot g.slots (slots_typed g t) empty_typed)
    (length-fill n h 0 g.used ∙ t.used) t.count

evicted_typed : (n first : ℕ) (g : Pages) → TypedPages g → TypedPages (evicted n first g)
unfolding evicted
evicted_typed zero first g t = t
evicted_typed (suc n) first g t = evicted_typed n (first + 1) (evicted_page g first) (page_typed g first t)

without_typed : (x : Option Loading) (g : Pages) → TypedPages g → TypedPages (without_run x g)
without_typed None g t = t
without_typed (Some l) g t = evicted_typed 1 l.slot g t

dropped_typed : (c : Cache) → TypedCache c → TypedCache (dropped c)
unfolding dropped
dropped_typed c t = moved_typed c (without_run c.loading c.pages) None (without_typed c.loading c.pages t.pages) tt t

-- ---- placing

placed_typed : (g : Pages) (slot : ℕ) (key : TileKey) (len : ℕ) → Byte slot → TypedKey key → Short len → TypedPages g → TypedPages (placed g slot key len)
placed_typed g slot key len s k l t =
    let head : List Slot = set g.slots slot (head_slot key len) in
    pages_typed (placed g slot key len)
    (length-fill (span len - 1) (slot + 1) (piece_slot slot) head ∙ (length-set g.slots slot (head_slot key len) ∙ t.slots))
    (all_fill TypedSlot empty_slot (span len - 1) (slot + 1) (piece_slot slot) head
    (all_set TypedSlot empty_slot g.slots slot (head_slot key len) (slots_typed g t) (record { key = k; len = l; part = tt }))
    (record { key = tt; len = omega arith; part = s }))
    t.used t.count

victim_small : (g : Pages) (n s : ℕ) → victim g n ≡ Some s → g.count ≤ 96
victim_small g n s e = by (ltb 96 g.count) refl e
  where
    by : (b : Bool) → ltb 96 g.count ≡ b → cond b None (victim_in g n) ≡ Some s → g.count ≤ 96
    by true q e = let z : ◌≡◌ {A = ℕ} 0 1 = cc in absurd (omega arith)
    by false q e = ltb-false 96 g.count q

-- ---- a step of a load

abbrev In : Loaded → Type 0
In x = TypedCache x.cache

module _ (key : TileKey) (k : TypedKey key) where
  begun_typed : (x : Option ℕ) (c : Cache) (offset len : ℕ) → victim c.pages (span len) ≡ x → len ≤ 49152 → TypedCache c
      → In (began_at (begun_at c.pages key len x).at c (begun_at c.pages key len x).pages key offset len)
  begun_typed None c offset len e h t = forgot_typed c key k t
  begun_typed (Some s) c offset len e h t =
      let small : s + span len ≤ 96 = omega (arith, (victim_is c.pages (span len) s e).within, victim_small c.pages (span len) s e) in
      moved_typed c (replaced c.pages s key len) (Some (new_load key s offset len))
      (placed_typed (evicted (span len) s c.pages) s key len (omega arith) k (omega arith) (evicted_typed (span len) s c.pages t.pages))
      (k, omega arith) t

  began_typed : (c : Cache) (offset len : ℕ) → TypedCache c → In (began c key offset len)
  unfolding began
  began_typed c offset len t =
      either_false In (ltb 49152 len) _ _ (forgot_typed c key k t)
      (λ (e : ltb 49152 len ≡ false). begun_typed (victim c.pages (span len)) c offset len refl (ltb-false 49152 len e) t)

  located_typed : (x : Result (Option (ℕ × ℕ)) Refusal) (c : Cache) → TypedCache c → In (located x c key)
  located_typed (Ok None) c t = forgot_typed c key k t
  located_typed (Err number) c t = t
  located_typed (Ok (Some (offset, len))) c t = began_typed c offset len t

  entry_typed : (c : Cache) (h : Header) (failure : ℕ) (bs : List ℕ) → TypedCache c → In (entry_step c h key failure bs)
  unfolding entry_step
  entry_typed c h failure bs t =
      either In (eqb failure 0) _ _ (located_typed (locate_of h bs) (dropped c) (dropped_typed c t)) (dropped_typed c t)

module _ (c : Cache) (l : Loading) (e : c.loading ≡ Some l) (t : TypedCache c) where
  load_held : TypedKey l.key × Word l.slot
  load_held = subst TypedLoading e t.loading

  ready_typed : TypedCache (readied c l)
  unfolding readied touched moved
  ready_typed = record {
    pages = pages_typed _ (length-set c.pages.slots l.slot _ ∙ t.pages.slots)
        (all_set TypedSlot empty_slot c.pages.slots l.slot (ready_slot (slot_at c.pages.slots l.slot)) (slots_typed c.pages t.pages)
        (let s : TypedSlot (slot_at c.pages.slots l.slot) = slots_typed c.pages t.pages l.slot in
        record { key = s.key; len = s.len; part = s.part }))
        (length-set c.pages.used l.slot _ ∙ t.pages.used) t.pages.count;
    missing = t.missing;
    loading = tt;
    pending = withdrawn_typed c.pending;
  }

  further_typed : (come : ℕ) → TypedCache (further c l come)
  unfolding further
  further_typed come = moved_typed c c.pages _ t.pages (load_held.0, load_held.1) t

  ended_typed : (arena : List ℕ) (size : ℕ) → TypedCache (ended c arena l size)
  unfolding ended
  ended_typed arena size =
      either TypedCache (passes arena l.slot l.len l.key size) _ _ ready_typed (forgot_typed (dropped c) l.key load_held.0 (dropped_typed c t))

-- the cache within its types, and the arena bytes
pub record TypedAfter (x : After) : Type 0 where
  pub cache : TypedCache x.cache
  pub arena : Bytes x.arena

module _ (key : TileKey) (k : TypedKey key) (c : Cache) (t : TypedCache c) (arena : List ℕ) (a : Bytes arena) (h : Header) where
  chunk_typed : (l : Loading) → c.loading ≡ Some l → (failure : ℕ) (bs : List ℕ) → Bytes bs → TypedAfter (chunk_step c l arena h.tile failure bs)
  unfolding chunk_step
  chunk_typed l e failure bs b =
      let wrote : Bytes (put arena l.slot l.done bs) = bytes_put arena l.slot l.done bs a b in
      either TypedAfter (eqb failure 0) _ _
      (either TypedAfter (ltb (l.done + chunk_len l) l.len) _ _
      (record { cache = further_typed c l e t (l.done + chunk_len l); arena = wrote })
      (record { cache = ended_typed c l e t (put arena l.slot l.done bs) h.tile; arena = wrote }))
      (record { cache = dropped_typed c t; arena = a })

  pub stepped_typed : (failure : ℕ) (bs : List ℕ) → Bytes bs → TypedAfter (stepped c (next_step c key) arena h key failure bs)
  stepped_typed failure bs b = by (next_step c key) refl
    where
      by : (n : Next) → next_step c key ≡ n → TypedAfter (stepped c n arena h key failure bs)
      by (Next.Ready i) e = record {
        cache = either In (passes arena i (len_at c i) key h.tile) (done (touched c i)) (refused c Refusal.BadState) (touched_typed c i t) t;
        arena = a;
      }
      by Next.Missing e = record { cache = t; arena = a }
      by Next.NoPages e = record { cache = forgot_typed c key k t; arena = a }
      by Next.Entry e = record { cache = entry_typed key k c h failure bs t; arena = a }
      by (Next.Chunk l) e = chunk_typed l (next_chunk key l c e) failure bs b

  -- past number 12's test
  pub tested_typed : (failure : ℕ) (bs : List ℕ) → Bytes bs → TypedAfter (Calls.load_tested c arena h key failure bs)
  tested_typed failure bs b =
      either TypedAfter (takes (next_step c key) h key failure (length bs)) _ _
      (either TypedAfter (in_grid h key) _ _ (stepped_typed failure bs b) (record { cache = t; arena = a }))
      (record { cache = t; arena = a })

  pub load_typed : (failure : ℕ) (bs : List ℕ) → Bytes bs → TypedAfter (Calls.load c arena h key failure bs)
  unfolding Calls.load
  load_typed failure bs b = either TypedAfter (cache_ok c h (length arena)) _ _ (tested_typed failure bs b) (record { cache = t; arena = a })

  by_range : (r : Result ℕ Refusal) (n : ℕ) (pack : List ℕ) → Bytes pack → TypedAfter (Calls.load_by r c arena h key n pack)
  by_range (Ok offset) n pack b = load_typed 0 (pack_bytes pack offset n) (bytes_of_pack pack offset n b)
  by_range (Err number) n pack b = load_typed 2 [] bytes_none

  by_request : (r : Result (Option (ℕ × ℕ)) Refusal) (pack : List ℕ) → Bytes pack → TypedAfter (Calls.request_load r c arena h key pack)
  by_request (Ok None) pack b = load_typed 0 [] bytes_none
  by_request (Err number) pack b = record { cache = t; arena = a }
  by_request (Ok (Some (offset, n))) pack b = by_range (read pack offset n) n pack b

  pub load_from_typed : (pack : List ℕ) → Bytes pack → TypedAfter (Calls.load_from c arena h key pack)
  unfolding Calls.load_from
  load_from_typed pack b = by_request (Calls.fetch c arena h key) pack b

-- ---- lookups

got_at_typed : (x : Landing) (c : Cache) (arena : List ℕ) (size : ℕ) (key : TileKey) → TypedCache c → TypedCache (got_at x c arena size key).cache
got_at_typed Landing.Missing c arena size key t = t
got_at_typed Landing.Nothing c arena size key t = t
got_at_typed (Landing.At i) c arena size key t = by (passes arena i (len_at c i) key size)
  where
    by : (b : Bool) → TypedCache (got_ready b c i).cache
    by true = touched_typed c i t
    by false = t

got_typed : (c : Cache) (arena : List ℕ) (size : ℕ) (key : TileKey) → TypedCache c → TypedCache (got c arena size key).cache
unfolding got
got_typed c arena size key t = got_at_typed (lands_on c key) c arena size key t

pub looked_typed : (arena : List ℕ) (size : ℕ) (keys : List TileKey) (c : Cache) → TypedCache c → TypedCache (looked c arena size keys)
unfolding looked
looked_typed arena size [] c t = t
looked_typed arena size (key ∷ keys) c t = looked_typed arena size keys (got c arena size key).cache (got_typed c arena size key t)

pub get_typed : (c : Cache) (arena : List ℕ) (h : Header) (key : TileKey) → TypedCache c → TypedCache (Calls.get c arena h key).cache
unfolding Calls.get
get_typed c arena h key t = by (cache_ok c h (length arena)) (in_grid h key)
  where
    by : (p q : Bool) → TypedCache (cond p (cond q (got c arena h.tile key) (Calls.got_nothing c Refusal.OutsideGrid)) (Calls.got_nothing c Refusal.BadState)).cache
    by true true = got_typed c arena h.tile key t
    by true false = t
    by false q = t

-- ---- empty

ring_empty : (next : ℕ) → Word next → TypedRing (record { keys = replicate 64 empty_place; next = next })
ring_empty next w = record {
  keys = length-replicate 64 empty_place;
  key = λ (i : ℕ) (h : i < 64). all_replicate (λ (p : Option TileKey). TypedMaybe p) empty_place 64 empty_place tt tt i;
  next = w;
}

slots_empty : SlotsTyped (replicate 96 empty_slot)
slots_empty = all_replicate TypedSlot empty_slot 96 empty_slot empty_typed empty_typed

pub cleared_typed : (c : Cache) → TypedCache c → TypedCache (cleared c)
unfolding cleared
cleared_typed c t = record {
  pages = pages_typed _ (length-replicate 96 empty_slot) slots_empty t.pages.used t.pages.count;
  missing = ring_empty c.missing.next t.missing.next;
  loading = tt;
  pending = tt;
}

pub fresh_typed : (n : ℕ) → Word n → TypedCache (fresh n)
unfolding fresh
fresh_typed n w = record {
  pages = pages_typed _ (length-replicate 96 empty_slot) slots_empty (length-replicate {A = ℕ} 96 0) w;
  missing = ring_empty 0 (omega arith);
  loading = tt;
  pending = tt;
}

pub clear_typed : (c : Cache) (arena : List ℕ) → TypedCache c → TypedCache (Calls.clear c arena).cache
unfolding Calls.clear
clear_typed c arena t = by (lent_ok c (length arena))
  where
    by : (p : Bool) → TypedCache (cond {A = Cleared} p (record { answer = Ok tt; cache = cleared c }) (record { answer = Err Refusal.BadState; cache = c })).cache
    by true = cleared_typed c t
    by false = t
