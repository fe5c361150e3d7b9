-- Every run of pages is ready or the load's (`LiveIn`), of a list of slots, and a page that is marked ready starts a run (`MarksIn`): so where
-- there is no run, and kept when pages are evicted, when a run is begun in place of others, and when the load's run is made ready. A key has one ready run
-- (`OnceIn`), kept likewise; what is ready then is as it was (`Fewer`), or of a key that was not ready (`Freshly`).
use Rattle.std.specs.Prelude.{Option, Some, None}
use Prim.Native.Nat.{ℕ, ◌+◌, ◌<◌, ◌≤◌}
use mathlib.Core.Path.{◌≡◌, refl, sym, ap, ◌∙◌}
use mathlib.Core.Bool.{true, false, true≢false}
use mathlib.Core.List.{List}
use mathlib.Core.Logic.{◌⊎◌, inl, inr, ⊎_elim}
use native.Mathlib.Omega.{arith}
use lib.ListN.{length, set, replicate}
use lib.Seq.{get_or-set_same, get_or-set_other}
use Rattle.pack.specs.declared.TileKey.{TileKey}
use Rattle.cache.specs.declared.Slot.{Slot}
use Rattle.cache.specs.declared.Pages.{Pages}
use Rattle.cache.specs.Runs.{span, empty_slot, slot_at, run, kind_of, kind_at, Sound}
use Rattle.cache.specs.Evict.{evicted, head_slot, piece_slot}
use Rattle.cache.specs.Begin.{replaced}
use Rattle.cache.proofs.Below.{same_or}
use Rattle.cache.proofs.RunLaws.{span_pos}
use Rattle.cache.proofs.FillLaws.{Out, out_or}
use Rattle.cache.proofs.EvictLaws.{sound_evicted, evicted_either, evicted_empty, placed_same, placed_head, placed_piece}
use Rattle.cache.specs.declared.Loading.{Loading}
use Rattle.cache.specs.Loads.{new_load, ready_slot}
use Rattle.cache_lists.specs.Claims.{LoadsAt}
use Rattle.cache_lists.proofs.Stores.{get_d_same}

-- the slot of page h, if it starts a run, is ready or the load's
abbrev pub SlotLive : Slot → Option Loading → ℕ → Type 0
SlotLive s x h = kind_of s ≡ run → (s.ready ≡ true) ⊎ LoadsAt x h

abbrev pub LiveIn : List Slot → Option Loading → Type 0
LiveIn s x = (h : ℕ) → SlotLive (slot_at s h) x h

-- ---- a page that starts no run

empty_live : (x : Option Loading) (h : ℕ) → SlotLive empty_slot x h
empty_live x h e = let z : ◌≡◌ {A = ℕ} 0 1 = cc in absurd (omega arith)

piece_live : (x : Option Loading) (a h : ℕ) → SlotLive (piece_slot a) x h
piece_live x a h e = let z : ◌≡◌ {A = ℕ} 0 1 = cc in absurd (omega arith)

pub none_live : (x : Option Loading) → LiveIn (replicate 96 empty_slot) x
none_live x h = rw (get_d_same 96 h empty_slot) (empty_live x h)

-- ---- pages evicted

-- a page that is as before or empty
either_live : (s t : Slot) (x : Option Loading) (h : ℕ) → SlotLive s x h → (t ≡ s) ⊎ (t ≡ empty_slot) → SlotLive t x h
either_live s t x h f o = ⊎_elim (λ e. rw e f) (λ e. rw e (empty_live x h)) o

-- with no load all is ready, and so live with any
with_live : (s : Slot) (x : Option Loading) (h : ℕ) → SlotLive s None h → SlotLive s x h
with_live s x h f e = ⊎_elim (λ r. inl r) (λ z. absurd z) (f e)

-- a page that is not the load's first is live without the load
other_live : (s : Slot) (l : Loading) (h : ℕ) → SlotLive s (Some l) h → (h ≡ l.slot → ⊥) → SlotLive s None h
other_live s l h f ne e = ⊎_elim (λ r. inl r) (λ z. absurd (ne (sym z))) (f e)

-- the load's own run evicted: what is left was ready
pub evicted_live : (g : Pages) (l : Loading) → Sound g → l.slot + 1 ≤ g.count → LiveIn g.slots (Some l)
    → LiveIn (evicted 1 l.slot g).slots None
evicted_live g l f fits live h = ⊎_elim here there (same_or h l.slot)
  where
    here : h ≡ l.slot → SlotLive (slot_at (evicted 1 l.slot g).slots h) None h
    here e = rw (evicted_empty 1 l.slot g f fits h (omega arith) (omega arith)) (empty_live None h)

    there : (h ≡ l.slot → ⊥) → SlotLive (slot_at (evicted 1 l.slot g).slots h) None h
    there ne =
        either_live (slot_at g.slots h) _ None h (other_live (slot_at g.slots h) l h (live h) ne) (evicted_either 1 l.slot g f fits h)

-- ---- a run begun where there was no load: it is the load's, and the others are ready

module _ (g : Pages) (s : ℕ) (key : TileKey) (offset len : ℕ) (f : Sound g) (fits : s + span len ≤ g.count) where
  pub replaced_live : LiveIn g.slots None → LiveIn (replaced g s key len).slots (Some (new_load key s offset len))
  replaced_live live h = ⊎_elim beside (λ b. ⊎_elim head (piece b) (same_or h s)) (out_or s (s + span len) h)
    where
      new : Option Loading
      new = Some (new_load key s offset len)

      beside : Out s (s + span len) h → SlotLive (slot_at (replaced g s key len).slots h) new h
      beside o =
          rw (placed_same (evicted (span len) s g) s key len h o)
          (either_live (slot_at g.slots h) _ new h (with_live (slot_at g.slots h) new h (live h)) (evicted_either (span len) s g f fits h))

      head : h ≡ s → SlotLive (slot_at (replaced g s key len).slots h) new h
      head e r = inr (sym e)

      piece : (s ≤ h) × (h < s + span len) → (h ≡ s → ⊥) → SlotLive (slot_at (replaced g s key len).slots h) new h
      piece b ne =
          rw (placed_piece (evicted (span len) s g) s key len h (omega (arith, ne)) b.1 (omega (arith, (sound_evicted (span len) s g f fits).size, f.small)))
          (piece_live new s h)

-- ---- the load's run made ready

pub ready_live : (s : List Slot) (l : Loading) → l.slot < length s → LiveIn s (Some l)
    → LiveIn (set s l.slot (ready_slot (slot_at s l.slot))) None
ready_live s l b live h = ⊎_elim here there (same_or h l.slot)
  where
    now : Slot
    now = ready_slot (slot_at s l.slot)

    here : h ≡ l.slot → SlotLive (slot_at (set s l.slot now) h) None h
    here e = rw (e, get_or-set_same s l.slot now empty_slot b) (λ r. inl refl)

    there : (h ≡ l.slot → ⊥) → SlotLive (slot_at (set s l.slot now) h) None h
    there ne = rw (get_or-set_other s l.slot h now empty_slot ne) (other_live (slot_at s h) l h (live h) ne)

-- ---- a page that is marked ready starts a run

abbrev pub SlotMarked : Slot → Type 0
SlotMarked s = s.ready ≡ true → kind_of s ≡ run

abbrev pub MarksIn : List Slot → Type 0
MarksIn s = (h : ℕ) → SlotMarked (slot_at s h)

-- a page without the mark
waits_marked : (s : Slot) → s.ready ≡ false → SlotMarked s
waits_marked s w e = absurd (true≢false (sym e ∙ w))

pub none_marked : MarksIn (replicate 96 empty_slot)
none_marked h = rw (get_d_same 96 h empty_slot) (waits_marked empty_slot refl)

either_marked : (s t : Slot) → SlotMarked s → (t ≡ s) ⊎ (t ≡ empty_slot) → SlotMarked t
either_marked s t f o = ⊎_elim (λ e. rw e f) (λ e. rw e (waits_marked empty_slot refl)) o

pub evicted_marked : (n first : ℕ) (g : Pages) → Sound g → first + n ≤ g.count → MarksIn g.slots → MarksIn (evicted n first g).slots
evicted_marked n first g f fits m h = either_marked (slot_at g.slots h) _ (m h) (evicted_either n first g f fits h)

-- a new run is not ready yet
pub replaced_marked : (g : Pages) (s : ℕ) (key : TileKey) (len : ℕ) → Sound g → s + span len ≤ g.count → MarksIn g.slots → MarksIn (replaced g s key len).slots
replaced_marked g s key len f fits m h = ⊎_elim beside (λ b. ⊎_elim head (piece b) (same_or h s)) (out_or s (s + span len) h)
  where
    room : length (evicted (span len) s g).slots ≡ 96
    room = (sound_evicted (span len) s g f fits).size

    beside : Out s (s + span len) h → SlotMarked (slot_at (replaced g s key len).slots h)
    beside o = rw (placed_same (evicted (span len) s g) s key len h o) (evicted_marked (span len) s g f fits m h)

    head : h ≡ s → SlotMarked (slot_at (replaced g s key len).slots h)
    head e = rw (e, placed_head (evicted (span len) s g) s key len (omega (arith, room, span_pos len, f.small))) (waits_marked (head_slot key len) refl)

    piece : (s ≤ h) × (h < s + span len) → (h ≡ s → ⊥) → SlotMarked (slot_at (replaced g s key len).slots h)
    piece b ne =
        rw (placed_piece (evicted (span len) s g) s key len h (omega (arith, ne)) b.1 (omega (arith, room, f.small)))
        (waits_marked (piece_slot s) refl)

pub ready_marked : (s : List Slot) (l : Loading) → l.slot < length s → kind_at s l.slot ≡ run → MarksIn s
    → MarksIn (set s l.slot (ready_slot (slot_at s l.slot)))
ready_marked s l b r m h = ⊎_elim here there (same_or h l.slot)
  where
    now : Slot
    now = ready_slot (slot_at s l.slot)

    here : h ≡ l.slot → SlotMarked (slot_at (set s l.slot now) h)
    here e = rw (e, get_or-set_same s l.slot now empty_slot b) (λ z. r)

    there : (h ≡ l.slot → ⊥) → SlotMarked (slot_at (set s l.slot now) h)
    there ne = rw (get_or-set_other s l.slot h now empty_slot ne) (m h)

-- ---- one ready run for a key

-- marked ready, with this key
abbrev pub SlotReady : Slot → TileKey → Type 0
SlotReady s key = (s.ready ≡ true) × (s.key ≡ Some key)

abbrev pub OnceIn : List Slot → Type 0
OnceIn s = (key : TileKey) (i j : ℕ) → SlotReady (slot_at s i) key → SlotReady (slot_at s j) key → i ≡ j

-- each page that is ready then is as it was
abbrev pub Fewer : List Slot → List Slot → Type 0
Fewer s t = (h : ℕ) → (slot_at t h).ready ≡ true → slot_at t h ≡ slot_at s h

-- or it is of a key that was not
abbrev pub Freshly : List Slot → List Slot → Type 0
Freshly s t = (key : TileKey) (h : ℕ) → SlotReady (slot_at t h) key → (slot_at t h ≡ slot_at s h) ⊎ ((i : ℕ) → SlotReady (slot_at s i) key → ⊥)

pub none_once : OnceIn (replicate 96 empty_slot)
none_once key i j p q = absurd (true≢false (sym (rw (get_d_same 96 i empty_slot) at p.0)))

pub fewer_once : (s t : List Slot) → Fewer s t → OnceIn s → OnceIn t
fewer_once s t less once key i j p q =
    let a : SlotReady (slot_at s i) key = rw (← less i p.0) p in
    let b : SlotReady (slot_at s j) key = rw (← less j q.0) q in
    once key i j a b

pub fewer_freshly : (s t : List Slot) → Fewer s t → Freshly s t
fewer_freshly s t less key h r = inl (less h r.0)

pub fewer_then : (r s t : List Slot) → Fewer r s → Fewer s t → Fewer r t
fewer_then r s t p q h e = let same : slot_at t h ≡ slot_at s h = q h e in same ∙ p h (rw (← same) e)

pub either_fewer : (s t : Slot) → (t ≡ s) ⊎ (t ≡ empty_slot) → t.ready ≡ true → t ≡ s
either_fewer s t o r = ⊎_elim (λ e. e) (λ e. absurd (true≢false (sym (ap (λ (x : Slot). x.ready) (sym e) ∙ r)))) o

pub evicted_fewer : (n first : ℕ) (g : Pages) → Sound g → first + n ≤ g.count → Fewer g.slots (evicted n first g).slots
evicted_fewer n first g f fits h r = either_fewer (slot_at g.slots h) _ (evicted_either n first g f fits h) r

pub replaced_fewer : (g : Pages) (s : ℕ) (key : TileKey) (len : ℕ) → Sound g → s + span len ≤ g.count → Fewer g.slots (replaced g s key len).slots
replaced_fewer g s key len f fits h = ⊎_elim beside (λ b. ⊎_elim head (piece b) (same_or h s)) (out_or s (s + span len) h)
  where
    room : length (evicted (span len) s g).slots ≡ 96
    room = (sound_evicted (span len) s g f fits).size

    As : Slot → Type 0
    As x = x.ready ≡ true → x ≡ slot_at g.slots h

    waits : (x : Slot) → x.ready ≡ false → As x
    waits x w e = absurd (true≢false (sym e ∙ w))

    beside : Out s (s + span len) h → As (slot_at (replaced g s key len).slots h)
    beside o = rw (placed_same (evicted (span len) s g) s key len h o) (evicted_fewer (span len) s g f fits h)

    head : h ≡ s → As (slot_at (replaced g s key len).slots h)
    head e =
        rw (e, placed_head (evicted (span len) s g) s key len (omega (arith, room, span_pos len, f.small)))
        (λ z. absurd (true≢false (sym z)))

    piece : (s ≤ h) × (h < s + span len) → (h ≡ s → ⊥) → As (slot_at (replaced g s key len).slots h)
    piece b ne =
        rw (placed_piece (evicted (span len) s g) s key len h (omega (arith, ne)) b.1 (omega (arith, room, f.small)))
        (λ z. absurd (true≢false (sym z)))

-- the load's run made ready, where its key was not
module _ (s : List Slot) (l : Loading) (b : l.slot < length s) (key_is : (slot_at s l.slot).key ≡ Some l.key)
    (unready : (i : ℕ) → SlotReady (slot_at s i) l.key → ⊥) where
  abbrev made : List Slot
  made = set s l.slot (ready_slot (slot_at s l.slot))

  made_here : slot_at made l.slot ≡ ready_slot (slot_at s l.slot)
  made_here = get_or-set_same s l.slot (ready_slot (slot_at s l.slot)) empty_slot b

  made_there : (h : ℕ) → (h ≡ l.slot → ⊥) → slot_at made h ≡ slot_at s h
  made_there h ne = get_or-set_other s l.slot h (ready_slot (slot_at s l.slot)) empty_slot ne

  -- what is ready on the load's page has its key
  own_key : (key : TileKey) → SlotReady (slot_at made l.slot) key → l.key ≡ key
  own_key key r =
      let is : (slot_at s l.slot).key ≡ Some key = sym (ap (λ (x : Slot). x.key) made_here) ∙ r.1 in
      let same : Some l.key ≡ Some key = sym key_is ∙ is in
      cc

  other_key : (key : TileKey) (h : ℕ) → SlotReady (slot_at made l.slot) key → SlotReady (slot_at made h) key → (h ≡ l.slot → ⊥) → ⊥
  other_key key h p q ne =
      let r : SlotReady (slot_at s h) key = rw (made_there h ne) at q in
      let same : l.key ≡ key = own_key key p in
      unready h (rw same r)

  pub ready_once : OnceIn s → OnceIn made
  ready_once once key i j p q = ⊎_elim first (λ ne. ⊎_elim (second ne) (neither ne) (same_or j l.slot)) (same_or i l.slot)
    where
      first : i ≡ l.slot → i ≡ j
      first e =
          let here : SlotReady (slot_at made l.slot) key = rw e at p in
          ⊎_elim (λ k. e ∙ sym k) (λ ne. absurd (other_key key j here q ne)) (same_or j l.slot)

      second : (i ≡ l.slot → ⊥) → j ≡ l.slot → i ≡ j
      second ne e = let here : SlotReady (slot_at made l.slot) key = rw e at q in absurd (other_key key i here p ne)

      neither : (i ≡ l.slot → ⊥) → (j ≡ l.slot → ⊥) → i ≡ j
      neither ni nj =
          let a : SlotReady (slot_at s i) key = rw (made_there i ni) at p in
          let b : SlotReady (slot_at s j) key = rw (made_there j nj) at q in
          once key i j a b

  pub ready_freshly : Freshly s made
  ready_freshly key h r = ⊎_elim here (λ ne. inl (made_there h ne)) (same_or h l.slot)
    where
      here : h ≡ l.slot → (slot_at made h ≡ slot_at s h) ⊎ ((i : ℕ) → SlotReady (slot_at s i) key → ⊥)
      here e =
          let own : SlotReady (slot_at made l.slot) key = rw e at r in
          let same : l.key ≡ key = own_key key own in
          inr (λ i p. unready i (rw same p))
