-- A load that begins, on words. What is read of a page: its head, whether it starts a run, its age (`head_own`, .., `age_bare`), the pages of its run (`room_none`, .., `room_all`). What a turn
-- of each loop leaves: words of the same engine with other pages, from which the definition goes on to the same end (`Standing`; `clear_on`, `evict_on`, `piece_on`). What the whole leaves
-- (`begun_in`, `begun_left`), and that an entry which begins a load does nothing else (`entry_begins`).
use Rattle.cache.specs.declared.Loading.{Loading}
use Rattle.std.specs.Prelude.{Option, Some, None, Result, Ok, Err}
use Rattle.refusal.specs.declared.Refusal.{Refusal}
use Rattle.std.proofs.Common.{◌≡◌, ℕ, zero, suc, ◌+◌, ◌-◌, ◌*◌, ◌/◌, ◌%◌, ◌<◌, ◌≤◌, Bool, true, false, cond, ◌&&◌, eqb, ltb, ◌≢◌, List, [], ◌∷◌, length, get_or, set, sym, refl, ap, ◌∙◌, ⊎_elim, true≢false, add-zero, arith, length-set, get_or-set_other, get_or-set_same, ltb-true, le-ltb, lt-ltb, eq-eqb, ne_eqb, eqb-true}
use Rattle.pack.specs.Grid.{in_grid, locate_of}
use Rattle.pack.specs.declared.Header.{Header}
use Rattle.pack.specs.declared.TileKey.{TileKey}
use Rattle.pack.proofs.Laws.{and_left, and_right, clause}
use Rattle.cache.specs.Begin.{replaced}
use Rattle.cache.specs.Evict.{fill, head_of, whole_of, room_of, clear_run, evicted_page, evicted, piece_slot, head_slot, with_slots, piece_run}
use Rattle.cache.specs.Keys.{same_key, holds}
use Rattle.cache.specs.Loads.{new_load, entry_step, began, dropped, moved}
use Rattle.cache.specs.Loads as Loads
use Rattle.cache.specs.Lookups.{after, next_step}
use Rattle.cache.specs.Runs.{span, empty_slot, slot_at, kind_of, kind_at, is_run}
use Rattle.cache.specs.State.{state_ok, runs_ok, ring_ok, load_ok, is_entry}
use Rattle.cache.specs.State as Caches
use Rattle.cache.specs.Victim.{since, age, Aged, victim, oldest}
use Rattle.cache.specs.declared.Cache.{Cache}
use Rattle.cache.specs.declared.Pages.{Pages}
use Rattle.cache.specs.declared.Pending.{Pending}
use Rattle.cache.specs.declared.Slot.{Slot}
use Rattle.cache.specs.declared.next.Next.{Next}
use Rattle.cache.proofs.Below.{same_or}
use Rattle.cache.proofs.FillLaws.{fill-length}
use Rattle.cache.proofs.Turns.{Full, clear_one, piece_one, head_self, clear_turn, clear_none, clear_past, piece_turn, piece_none, piece_past, evict_turn, evict_none, evict_past, place_past}
use Rattle.engine.specs.Deliver.{After, over, loaded, need_came, need_came_by}
use Rattle.engine.specs.State.{engine_ok, is_ready, refused}
use Rattle.engine.specs.declared.Engine.{Engine}
use Rattle.engine.specs.declared.Phase.{Phase}
use Rattle.engine.specs.declared.Status.TheVariants as Status
use Rattle.engine.proofs.NeedLaws.{part_is}
use Rattle.engine.proofs.TestedLaws.{causes, state_in, need_in}
use Rattle.words.specs.Came.{with_pages, begins_in, begins_by, begins_for, begins_over, begins, begun}
use Rattle.words.specs.Opens.{opened_as}
use Rattle.words.specs.Put.{put}
use Rattle.words.specs.Typed.{TypedKey}
use Rattle.words.specs.Words.{from, key_word, maybe_key_of, header_by, due_of, loading_words, pending_words, slot_words, pages_of, cache_of, shared_of, follower_of, words, engine_of, accepted}
use Rattle.words.proofs.BackLaws.{SlotBack, PagesBack, typed_slot}
use Rattle.cache.proofs.VictimLaws.{oldest_is}
use Rattle.words.proofs.PageSetLaws.{slot_put, age_put, loading_there, pages_read, pages_again, accepted_again, engine_own, own_pages}
use Rattle.words.proofs.PagesLaws.{slot_at_lem, slot_past, count_is, run_is}
use Rattle.words.proofs.PieceLaws.{words-length}
use Rattle.words.proofs.SetLaws.{set-put, loading_put, pending_put, steps_put}
use Rattle.words.proofs.TripLaws.{table_at}
use Rattle.words.proofs.WordsLaws.{words_engine}

-- ---- what is read of a page

module _ (ws : List ℕ) (p : ℕ) (h : p < 96) where
  abbrev tag : ℕ
  tag = get_or ws (15 + 3 * p) 0

  pub head_own : tag / 4 ≡ 0 → p ≡ head_of p (kind_at (pages_of ws 15).slots p)
  head_own e =
      let w : ℕ → ℕ = from ws (15 + 3 * p) in
      let first : eqb (w 0 / 4) 0 ≡ true = rw (add-zero (15 + 3 * p)) (eq-eqb (tag / 4) 0 e) in
      rw (slot_at_lem ws 15 p h, first) (head_self p (maybe_key_of (w 0 % 2) (w 1)))

  pub head_other : tag / 4 ≢ 0 → (tag / 4 - 1) % 256 ≡ head_of p (kind_at (pages_of ws 15).slots p)
  head_other e = rw (slot_at_lem ws 15 p h, add-zero (15 + 3 * p), ne_eqb (tag / 4) 0 e)

  pub starts_run : is_run (kind_at (pages_of ws 15).slots p) ≡ (eqb (tag / 4) 0 && eqb (tag % 2) 1)
  starts_run = ap (λ (s : Slot). is_run (kind_of s)) (slot_at_lem ws 15 p h) ∙ run_is (from ws (15 + 3 * p)) ∙ rw (add-zero (15 + 3 * p))

  pub starts_none : 4 ≤ tag → is_run (kind_at (pages_of ws 15).slots p) ≡ false
  starts_none l = starts_run ∙ rw (ne_eqb (tag / 4) 0 (λ e. omega (arith, e, l)))

  pub starts_by : tag < 4 → is_run (kind_at (pages_of ws 15).slots p) ≡ eqb (tag % 2) 1
  starts_by l = starts_run ∙ rw (eq-eqb (tag / 4) 0 (omega (arith, l)))

  pub len_in : (slot_at (pages_of ws 15).slots p).len ≡ get_or ws (17 + 3 * p) 0 % 65536
  len_in =
      let far : 15 + 3 * p + 2 ≡ 17 + 3 * p = omega arith in
      ap (λ (s : Slot). s.len) (slot_at_lem ws 15 p h) ∙ rw far

  pub used_in : get_or (pages_of ws 15).used p 0 ≡ get_or ws (303 + p) 0
  unfolding pages_of
  used_in = table_at (λ (i : ℕ). get_or ws (303 + i) 0) 0 96 p h

clock_in : (ws : List ℕ) → (pages_of ws 15).clock ≡ get_or ws 400 0
unfolding pages_of
clock_in ws = refl

-- the age of the run that a page is of, by its head
module _ (ws : List ℕ) (p : ℕ) {head : ℕ} (e : head ≡ head_of p (kind_at (pages_of ws 15).slots p)) where
  pub age_past : 96 ≤ head → 4294967295 ≡ age (pages_of ws 15) p
  unfolding age
  age_past l = rw (← e, slot_past ws 15 head l)

  pub age_bare : is_run (kind_at (pages_of ws 15).slots head) ≡ false → 4294967295 ≡ age (pages_of ws 15) p
  unfolding age
  age_bare q = rw (← e, q)

  pub age_run : head < 96 → is_run (kind_at (pages_of ws 15).slots head) ≡ true → since (get_or ws 400 0) (get_or ws (303 + head) 0) ≡ age (pages_of ws 15) p
  unfolding age
  age_run l q = rw (← e, q, used_in ws head l, clock_in ws)

-- the victim by the ages
pub victim_by : (ws v : List ℕ) (pages : ℕ) {count : ℕ} {r : Option ℕ} → count ≡ get_or ws 399 0 → Aged (pages_of ws 15) v count → r ≡ oldest v count pages
    → r ≡ victim (pages_of ws 15) pages
victim_by ws v pages {count} c a q =
    let all : count ≡ (pages_of ws 15).count = c ∙ sym (count_is ws 15) in
    q
    ∙ ap (λ (n : ℕ). oldest v n pages) all
    ∙ oldest_is (pages_of ws 15) v (λ (i : ℕ) (l : i < (pages_of ws 15).count). a i (omega (arith, l, all))) pages

-- ---- the pages of a run

module _ (h : ℕ) {count m : ℕ} (c : count ≡ m) where
  pub room_none : (n : ℕ) → count ≤ h → 0 ≡ room_of h n m
  room_none n l = rw (← c) (by (ltb n (count - h)) refl)
    where
      by : (t : Bool) → ltb n (count - h) ≡ t → 0 ≡ cond t n (count - h)
      by true e = absurd (omega (arith, ltb-true n (count - h) e))
      by false e = omega arith

  pub room_some : {n k : ℕ} → n ≡ k → n < count - h → n ≡ room_of h k m
  room_some {n} e l = rw (← c, ← e, lt-ltb n (count - h) l)

  pub room_rest : {n k : ℕ} → n ≡ k → count - h ≤ n → count - h ≡ room_of h k m
  room_rest {n} e l = rw (← c, ← e, le-ltb n (count - h) l)

-- the pages of the run that starts at a page, one where none does
module _ (ws : List ℕ) (h : ℕ) where
  pub whole_past : 96 ≤ h → whole_of (slot_at (pages_of ws 15).slots h) ≡ 1
  whole_past l = rw (slot_past ws 15 h l)

  pub whole_bare : is_run (kind_at (pages_of ws 15).slots h) ≡ false → whole_of (slot_at (pages_of ws 15).slots h) ≡ 1
  whole_bare q = rw q

  pub whole_run : h < 96 → is_run (kind_at (pages_of ws 15).slots h) ≡ true → whole_of (slot_at (pages_of ws 15).slots h) ≡ span (get_or ws (17 + 3 * h) 0 % 65536)
  whole_run l q = rw (q, len_in ws h l)

-- ---- pages that are read back stay so

abbrev SlotsBack : List Slot → Type 0
SlotsBack l = (length l ≡ 96) × ((i : ℕ) → i < 96 → SlotBack (slot_at l i))

same_slot : (s t : Slot) → s ≡ t → SlotBack t → SlotBack s
same_slot s t e b = rw e b

set_back : (l : List Slot) (at : ℕ) (v : Slot) → SlotBack v → SlotsBack l → SlotsBack (set l at v)
set_back l at v b f = (
  length-set l at v ∙ f.0,
  λ (i : ℕ) (h : i < 96).
      ⊎_elim
      (λ e. same_slot (slot_at (set l at v) i) v (rw e (get_or-set_same l at v empty_slot (omega (arith, h, e, f.0)))) b)
      (λ e. same_slot (slot_at (set l at v) i) (slot_at l i) (get_or-set_other l at i v empty_slot e) (f.1 i h))
      (same_or i at),
)

fill_back : (n at : ℕ) (v : Slot) → SlotBack v → (l : List Slot) → SlotsBack l → SlotsBack (fill n at v l)
unfolding fill
fill_back zero at v b l f = f
fill_back (suc n) at v b l f = fill_back n (at + 1) v b (set l at v) (set_back l at v b f)

slots_of : (g : Pages) → PagesBack g → SlotsBack g.slots
slots_of g b = (b.slots, b.slot)

slot_back_in : (g : Pages) (at : ℕ) (v : Slot) → SlotBack v → PagesBack g → PagesBack (with_slots (set g.slots at v) g)
slot_back_in g at v s b =
    let new : SlotsBack (set g.slots at v) = set_back g.slots at v s (slots_of g b) in
    record { slots = new.0; slot = new.1; used = b.used; count = b.count }

cleared_back : (n at : ℕ) (g : Pages) → PagesBack g → PagesBack (clear_run n at g)
cleared_back n at g b =
    let new : SlotsBack (fill n at empty_slot g.slots) = fill_back n at empty_slot refl g.slots (slots_of g b) in
    record { slots = new.0; slot = new.1; used = fill-length 0 n at g.used ∙ b.used; count = b.count }

one_back : (at : ℕ) (g : Pages) → PagesBack g → PagesBack (clear_one at g)
one_back at g b =
    let new : SlotsBack (set g.slots at empty_slot) = set_back g.slots at empty_slot refl (slots_of g b) in
    record { slots = new.0; slot = new.1; used = length-set g.used at 0 ∙ b.used; count = b.count }

page_back : (g : Pages) (p : ℕ) → PagesBack g → PagesBack (evicted_page g p)
unfolding evicted_page
page_back g p b = cleared_back _ _ g b

evicted_back : (n at : ℕ) (g : Pages) → PagesBack g → PagesBack (evicted n at g)
unfolding evicted
evicted_back zero at g b = b
evicted_back (suc n) at g b = evicted_back n (at + 1) (evicted_page g at) (page_back g at b)

full : (g : Pages) → PagesBack g → Full g
full g b = record { slots = b.slots; used = b.used }

-- ---- the loops

-- words of the engine with other pages, from which f goes to its end
pub record Standing (e : Engine) (ws : List ℕ) (f : Pages → Pages) (end : Pages) : Type 0 where
  pub g : Pages
  pub is : ws ≡ words (with_pages e g)
  pub back : PagesBack g
  pub left : f g ≡ end

pub starts : (ws : List ℕ) → accepted ws ≡ true → (f : Pages → Pages) → Standing (engine_of ws) ws f (f (pages_of ws 15))
unfolding engine_of shared_of cache_of
starts ws h f = record { g = pages_of ws 15; is = sym (words_engine ws h); back = own_pages ws h; left = refl }

pub standing_long : {e : Engine} {ws : List ℕ} {f : Pages → Pages} {end : Pages} → Standing e ws f end → length ws ≡ 1150
standing_long {e} s = ap length s.is ∙ words-length (with_pages e s.g)

ends : (e : Engine) (ws : List ℕ) (f : Pages → Pages) (end : Pages) (s : Standing e ws f end) → f s.g ≡ s.g → ws ≡ words (with_pages e end)
ends e ws f end s q = s.is ∙ ap (λ (x : Pages). words (with_pages e x)) (sym q ∙ s.left)

module _ (e : Engine) (ws : List ℕ) (left at : ℕ) (end : Pages) where
  pub clear_done : left ≤ 0 → Standing e ws (clear_run left at) end → ws ≡ words (with_pages e end)
  clear_done h s = ends e ws (clear_run left at) end s (clear_none left at s.g h)

  pub clear_out : 96 ≤ at → Standing e ws (clear_run left at) end → ws ≡ words (with_pages e end)
  clear_out h s = ends e ws (clear_run left at) end s (clear_past left at s.g (full s.g s.back) h)

  pub clear_on : 0 < left → at < 96 → Standing e ws (clear_run left at) end → {us : List ℕ} → us ≡ put (15 + 3 * at) (0 ∷ 0 ∷ 0 ∷ []) ws → length us ≡ 1150
      → Standing e (set us (303 + at) 0) (clear_run (left - 1) (at + 1)) end
  clear_on m l s {us} q n =
      let g = s.g in
      let bare = with_slots (set g.slots at empty_slot) g in
      record {
        g = clear_one at g;
        is = set-put us (303 + at) 0 (omega (arith, n, l))
            ∙ ap (put (303 + at) (0 ∷ [])) (q ∙ ap (put (15 + 3 * at) (0 ∷ 0 ∷ 0 ∷ [])) s.is ∙ slot_put (with_pages e g) at l empty_slot s.back.slots)
            ∙ age_put (with_pages e bare) at l 0 s.back.used;
        back = one_back at g s.back;
        left = sym (clear_turn left at g m) ∙ s.left;
      }

  pub piece_done : (head : ℕ) → left ≤ 0 → Standing e ws (piece_run left at head) end → ws ≡ words (with_pages e end)
  piece_done head h s = ends e ws (piece_run left at head) end s (piece_none left at s.g head h)

  pub piece_out : (head : ℕ) → 96 ≤ at → Standing e ws (piece_run left at head) end → ws ≡ words (with_pages e end)
  piece_out head h s = ends e ws (piece_run left at head) end s (piece_past left at s.g head (omega (arith, s.back.slots, h)))

  pub piece_on : (head : ℕ) → head < 96 → 0 < left → at < 96 → Standing e ws (piece_run left at head) end
      → {us : List ℕ} {tag : ℕ} → us ≡ put (15 + 3 * at) (tag ∷ 0 ∷ 0 ∷ []) ws → tag ≡ 4 * head + 4 → Standing e us (piece_run (left - 1) (at + 1) head) end
  piece_on head k m l s {us} {tag} q t =
      let g = s.g in
      let first : tag ≡ 0 + 4 * (head + 1) = omega (arith, t) in
      record {
        g = piece_one head at g;
        is = q ∙ ap (λ (n : ℕ). put (15 + 3 * at) (n ∷ 0 ∷ 0 ∷ []) ws) first
            ∙ ap (put (15 + 3 * at) (slot_words (piece_slot head))) s.is
            ∙ slot_put (with_pages e g) at l (piece_slot head) s.back.slots;
        back = slot_back_in g at (piece_slot head) (typed_slot (piece_slot head) (record { key = tt; len = omega arith; part = omega (arith, k) })) s.back;
        left = sym (piece_turn left at g head m) ∙ s.left;
      }

-- words of accepted ones with other pages
module _ (ws₀ : List ℕ) (h : accepted ws₀ ≡ true) (g : Pages) (b : PagesBack g) {us : List ℕ} (is : us ≡ words (with_pages (engine_of ws₀) g)) where
  pub still_accepted : accepted us ≡ true
  still_accepted = ap accepted is ∙ accepted_again (engine_of ws₀) g b (engine_own ws₀ h)

  still_engine : engine_of us ≡ with_pages (engine_of ws₀) g
  still_engine = ap engine_of is ∙ pages_again (engine_of ws₀) g b (engine_own ws₀ h)

  still_pages : pages_of us 15 ≡ g
  still_pages = ap (λ (x : List ℕ). pages_of x 15) is ∙ pages_read (with_pages (engine_of ws₀) g) b

  -- what a function makes of the pages of these words is made of g
  still_words : (f : Pages → Pages) → words (with_pages (engine_of us) (f (pages_of us 15))) ≡ words (with_pages (engine_of ws₀) (f g))
  still_words f = rw (still_pages, still_engine)

module _ (ws₀ : List ℕ) (h : accepted ws₀ ≡ true) (ws : List ℕ) (left at : ℕ) (end : Pages) (s : Standing (engine_of ws₀) ws (evicted left at) end) where
  pub evict_accepted : accepted ws ≡ true
  evict_accepted = still_accepted ws₀ h s.g s.back s.is

  pub evict_done : left ≤ 0 → ws ≡ words (with_pages (engine_of ws₀) end)
  evict_done l = ends (engine_of ws₀) ws (evicted left at) end s (evict_none left at s.g l)

  pub evict_out : 96 ≤ at → ws ≡ words (with_pages (engine_of ws₀) end)
  evict_out l = ends (engine_of ws₀) ws (evicted left at) end s (evict_past left at s.g (full s.g s.back) l)

  pub evict_on : 0 < left → {us : List ℕ} {head room : ℕ} → head ≡ head_of at (kind_at (pages_of ws 15).slots at)
      → room ≡ room_of head (whole_of (slot_at (pages_of ws 15).slots head)) (pages_of ws 15).count
      → us ≡ words (with_pages (engine_of ws) (clear_run room head (pages_of ws 15))) → Standing (engine_of ws₀) us (evicted (left - 1) (at + 1)) end
  unfolding evicted_page
  evict_on m {us} {head} {room} a r q =
      let cleared : clear_run room head (pages_of ws 15) ≡ evicted_page (pages_of ws 15) at = rw (r, a) in
      record {
        g = evicted_page s.g at;
        is = q
            ∙ ap (λ (x : Pages). words (with_pages (engine_of ws) x)) cleared
            ∙ still_words ws₀ h s.g s.back s.is (λ (x : Pages). evicted_page x at);
        back = page_back s.g at s.back;
        left = sym (evict_turn left at s.g m) ∙ s.left;
      }

-- ---- the run placed

module _ (ws : List ℕ) (h : accepted ws ≡ true) (at : ℕ) (key : TileKey) (len : ℕ) where
  abbrev emptied : Pages
  emptied = evicted (span len) at (pages_of ws 15)

  abbrev headed : Pages
  headed = with_slots (set emptied.slots at (head_slot key len)) emptied

  emptied_back : PagesBack emptied
  emptied_back = evicted_back (span len) at (pages_of ws 15) (own_pages ws h)

  module _ {n : ℕ} {us : List ℕ} (pages : n ≡ span len) (left : us ≡ words (with_pages (engine_of ws) (evicted n at (pages_of ws 15)))) where
    emptied_is : us ≡ words (with_pages (engine_of ws) emptied)
    emptied_is = left ∙ ap (λ (k : ℕ). words (with_pages (engine_of ws) (evicted k at (pages_of ws 15)))) pages

    -- past the last page nothing is placed
    pub begun_past : 96 ≤ at → us ≡ words (with_pages (engine_of ws) (replaced (pages_of ws 15) at key len))
    begun_past l = emptied_is ∙ ap (λ (x : Pages). words (with_pages (engine_of ws) x)) (sym (place_past emptied at key len (omega (arith, emptied_back.slots, l))))

    module _ (l : at < 96) (t : TypedKey key) (short : len < 65536) {word : ℕ} {vs : List ℕ} (w : word ≡ key_word key)
        (p : vs ≡ put (15 + 3 * at) (1 ∷ word ∷ len ∷ []) us) where
      headed_back : PagesBack headed
      headed_back = slot_back_in emptied at (head_slot key len) (typed_slot (head_slot key len) (record { key = t; len = short; part = tt })) emptied_back

      headed_is : vs ≡ words (with_pages (engine_of ws) headed)
      headed_is =
          p
          ∙ ap (λ (k : ℕ). put (15 + 3 * at) (1 ∷ k ∷ len ∷ []) us) w
          ∙ ap (put (15 + 3 * at) (1 ∷ key_word key ∷ len ∷ [])) emptied_is
          ∙ slot_put (with_pages (engine_of ws) emptied) at l (head_slot key len) emptied_back.slots

      pub headed_accepted : accepted vs ≡ true
      headed_accepted = still_accepted ws h headed headed_back headed_is

      pub begun_in : {xs : List ℕ} → xs ≡ words (with_pages (engine_of vs) (piece_run (n - 1) (at + 1) at (pages_of vs 15)))
          → xs ≡ words (with_pages (engine_of ws) (replaced (pages_of ws 15) at key len))
      begun_in r =
          r
          ∙ ap (λ (k : ℕ). words (with_pages (engine_of vs) (piece_run (k - 1) (at + 1) at (pages_of vs 15)))) pages
          ∙ still_words ws h headed headed_back headed_is (piece_run (span len - 1) (at + 1) at)

-- the load, no fetch open, and the step counted
pub begun_left : (ws : List ℕ) (key : TileKey) (slot offset len : ℕ) {us : List ℕ}
    → us ≡ words (with_pages (engine_of ws) (replaced (pages_of ws 15) slot key len))
    → put 1149 (after (get_or ws 1149 0) ∷ []) (put 536 (pending_words Pending.Nothing) (put 530 (loading_words (Some (new_load key slot offset len))) us))
    ≡ words (begun (engine_of ws) key slot offset len)
unfolding engine_of shared_of cache_of follower_of
begun_left ws key slot offset len q =
    let load = Some (new_load key slot offset len) in
    let next = after (get_or ws 1149 0) ∷ [] in
    ap (λ (r : List ℕ). put 1149 next (put 536 (pending_words Pending.Nothing) (put 530 (loading_words load) r))) q
    ∙ ap (λ (r : List ℕ). put 1149 next (put 536 (pending_words Pending.Nothing) r)) (loading_put _ load)
    ∙ ap (put 1149 next) (pending_put _ Pending.Nothing)
    ∙ steps_put _ (after (get_or ws 1149 0))

-- ---- what an entry begins, by the words

pub pages_in : (ws : List ℕ) → (engine_of ws).shared.cache.pages ≡ pages_of ws 15
unfolding engine_of shared_of cache_of
pages_in ws = refl

header_in : (ws : List ℕ) → (engine_of ws).shared.header ≡ header_by (from ws 2)
unfolding engine_of shared_of
header_in ws = refl

need_in_words : (ws : List ℕ) → (engine_of ws).follower.due.need ≡ maybe_key_of (get_or ws 608 0) (get_or ws 609 0)
unfolding engine_of follower_of due_of
need_in_words ws = refl

idle_in : (ws : List ℕ) → get_or ws 530 0 ≡ 0 → (engine_of ws).shared.cache.loading ≡ None
unfolding engine_of shared_of cache_of
idle_in ws z = rw z

module _ (ws : List ℕ) (failure : ℕ) (bs : List ℕ) where
  abbrev made_of : Option (TileKey × ℕ × ℕ × ℕ)
  made_of = begins (engine_of ws) failure bs

  pub begins_unread : eqb failure 0 ≡ false → None ≡ made_of
  unfolding begins
  begins_unread q = rw q

  pub begins_short : eqb failure 0 ≡ true → eqb (length bs) 8 ≡ false → None ≡ made_of
  unfolding begins
  begins_short q r = rw (q, r)

  -- another tile is being loaded
  pub begins_busy : accepted ws ≡ true → get_or ws 530 0 ≢ 0 → None ≡ made_of
  unfolding begins
  begins_busy h z = by (eqb failure 0 && eqb (length bs) 8) (engine_of ws).shared.cache.loading refl
    where
      by : (t : Bool) (m : Option Loading) → (engine_of ws).shared.cache.loading ≡ m → None ≡ cond t (begins_over m (engine_of ws) bs) None
      by true (Some l) q = refl
      by true None q = absurd (z (ap (λ (x : List ℕ). get_or x 530 0) (sym (words_engine ws h)) ∙ loading_there (engine_of ws) ∙ rw q))
      by false m q = refl

  pub begins_free : eqb failure 0 ≡ true → eqb (length bs) 8 ≡ true → get_or ws 530 0 ≡ 0 → {need : Option TileKey} → need ≡ maybe_key_of (get_or ws 608 0) (get_or ws 609 0)
      → begins_for need (engine_of ws) bs ≡ made_of
  unfolding begins
  begins_free q r z n = rw (q, r, idle_in ws z, need_in_words ws, n)

  -- the located entry of the needed tile
  pub begins_there : eqb failure 0 ≡ true → eqb (length bs) 8 ≡ true → get_or ws 530 0 ≡ 0 → {need : Option TileKey} {key : TileKey} → need ≡ maybe_key_of (get_or ws 608 0) (get_or ws 609 0)
      → need ≡ Some key → {h : Header} {at : Result (Option (ℕ × ℕ)) Refusal} → h ≡ header_by (from ws 2) → at ≡ locate_of h bs → begins_by at (engine_of ws) key ≡ made_of
  begins_there q r z {key = key} n k {h} a l =
      ap (λ (x : Result (Option (ℕ × ℕ)) Refusal). begins_by x (engine_of ws) key) (l ∙ ap (λ (x : Header). locate_of x bs) (a ∙ sym (header_in ws)))
      ∙ begins_free q r z (sym k ∙ n)

-- ---- an entry that begins a load

-- what it asks
pub record Beginning (e : Engine) (failure : ℕ) (bs : List ℕ) (key : TileKey) (slot offset len : ℕ) : Type 0 where
  pub read : (eqb failure 0 && eqb (length bs) 8) ≡ true
  pub idle : e.shared.cache.loading ≡ None
  pub needed : e.follower.due.need ≡ Some key
  pub there : locate_of e.shared.header bs ≡ Ok (Some (offset, len))
  pub small : ltb 49152 len ≡ false
  pub room : victim e.shared.cache.pages (span len) ≡ Some slot

abbrev is_at : Option (TileKey × ℕ × ℕ × ℕ) → Bool
is_at None = false
is_at (Some (k, s, o, l)) = true

module _ (e : Engine) (failure : ℕ) (bs : List ℕ) (key : TileKey) (slot offset len : ℕ) where
  abbrev At : Option (TileKey × ℕ × ℕ × ℕ)
  At = Some (key, slot, offset, len)

  none_not : None ≡ At → ⊥
  none_not q = true≢false (sym (ap is_at q))

  module _ (k : TileKey) (o l : ℕ) (read : (eqb failure 0 && eqb (length bs) 8) ≡ true) (idle : e.shared.cache.loading ≡ None)
      (needed : e.follower.due.need ≡ Some k) (there : locate_of e.shared.header bs ≡ Ok (Some (o, l))) where
    by_found : ltb 49152 l ≡ false → (f : Option ℕ) → victim e.shared.cache.pages (span l) ≡ f → begins_in f k o l ≡ At → Beginning e failure bs key slot offset len
    by_found small None room q = absurd (none_not q)
    by_found small (Some s) room q =
        let same : ◌≡◌ {A = TileKey × ℕ × ℕ × ℕ} (k, s, o, l) (key, slot, offset, len) = cc in
        let a = ap (λ (t : TileKey × ℕ × ℕ × ℕ). t.0) same in
        let b = ap (λ (t : TileKey × ℕ × ℕ × ℕ). t.1) same in
        let c = ap (λ (t : TileKey × ℕ × ℕ × ℕ). t.2) same in
        let d = ap (λ (t : TileKey × ℕ × ℕ × ℕ). t.3) same in
        record {
          read = read;
          idle = idle;
          needed = needed ∙ ap Some a;
          there = there ∙ rw (c, d);
          small = ap (ltb 49152) (sym d) ∙ small;
          room = ap (λ (n : ℕ). victim e.shared.cache.pages (span n)) (sym d) ∙ room ∙ ap Some b;
        }

    by_len : (t : Bool) → ltb 49152 l ≡ t → cond t None (begins_in (victim e.shared.cache.pages (span l)) k o l) ≡ At
        → Beginning e failure bs key slot offset len
    by_len true large q = absurd (none_not q)
    by_len false small q = by_found small (victim e.shared.cache.pages (span l)) refl q

  by_place : (k : TileKey) → (eqb failure 0 && eqb (length bs) 8) ≡ true → e.shared.cache.loading ≡ None → e.follower.due.need ≡ Some k
      → (x : Result (Option (ℕ × ℕ)) Refusal) → locate_of e.shared.header bs ≡ x → begins_by x e k ≡ At → Beginning e failure bs key slot offset len
  by_place k read idle needed (Ok None) there q = absurd (none_not q)
  by_place k read idle needed (Err n) there q = absurd (none_not q)
  by_place k read idle needed (Ok (Some (o, l))) there q = by_len k o l read idle needed there (ltb 49152 l) refl q

  by_need : (eqb failure 0 && eqb (length bs) 8) ≡ true → e.shared.cache.loading ≡ None
      → (n : Option TileKey) → e.follower.due.need ≡ n → begins_for n e bs ≡ At → Beginning e failure bs key slot offset len
  by_need read idle None needed q = absurd (none_not q)
  by_need read idle (Some k) needed q = by_place k read idle needed (locate_of e.shared.header bs) refl q

  by_load : (eqb failure 0 && eqb (length bs) 8) ≡ true → (m : Option Loading) → e.shared.cache.loading ≡ m → begins_over m e bs ≡ At
      → Beginning e failure bs key slot offset len
  by_load read None idle q = by_need read idle e.follower.due.need refl q
  by_load read (Some l) idle q = absurd (none_not q)

  by_answer : (t : Bool) → (eqb failure 0 && eqb (length bs) 8) ≡ t → cond t (begins_over e.shared.cache.loading e bs) None ≡ At
      → Beginning e failure bs key slot offset len
  by_answer true read q = by_load read e.shared.cache.loading refl q
  by_answer false read q = absurd (none_not q)

  pub beginning : begins e failure bs ≡ At → Beginning e failure bs key slot offset len
  unfolding begins
  beginning q = by_answer (eqb failure 0 && eqb (length bs) 8) refl q

-- the next step towards a key whose entry is fetched
entry_next : (n : Next) → is_entry n ≡ true → n ≡ Next.Entry
entry_next Next.Entry t = refl
entry_next (Next.Chunk l) t = absurd (true≢false (sym t))
entry_next (Next.Ready i) t = absurd (true≢false (sym t))
entry_next Next.Missing t = absurd (true≢false (sym t))
entry_next Next.NoPages t = absurd (true≢false (sym t))

same_keys : (a b : TileKey) → same_key a b ≡ true → a ≡ b
same_keys a b e =
    let row : a.row ≡ b.row = eqb-true a.row b.row (and_left (eqb a.row b.row) _ e) in
    let col : a.col ≡ b.col = eqb-true a.col b.col (and_right (eqb a.row b.row) _ e) in
    λ i. record { row = row i; col = col i }

phase_ready : (p : Phase) → is_ready p ≡ true → p ≡ Phase.Ready
phase_ready Phase.Ready q = refl
phase_ready Phase.Unread q = absurd (true≢false (sym q))
phase_ready Phase.Failed q = absurd (true≢false (sym q))

module _ (e : Engine) (arena bs : List ℕ) (failure : ℕ) (k : TileKey) (ok : engine_ok (opened_as e (Pending.Entry k)) (length arena) ≡ true)
    (key : TileKey) (slot offset len : ℕ) (b : Beginning e failure bs key slot offset len) where
  abbrev e₁ : Engine
  e₁ = opened_as e (Pending.Entry k)

  abbrev c₁ : Cache
  c₁ = e₁.shared.cache

  open_ok : (is_ready e.shared.phase && holds e.follower.due.need k) ≡ true
  unfolding engine_ok
  open_ok = clause 6 (causes e₁ (length arena) ok) ok

  fetched_key : key ≡ k
  fetched_key =
      same_keys key k
      (sym (ap (λ (m : Option TileKey). holds m k) b.needed) ∙ and_right (is_ready e.shared.phase) _ open_ok)

  inside : in_grid e.shared.header key ≡ true
  inside = need_in e₁ (length arena) ok key (phase_ready e.shared.phase (and_left (is_ready e.shared.phase) _ open_ok)) b.needed

  next_entry : next_step c₁ key ≡ Next.Entry
  unfolding state_ok
  next_entry =
      ap (next_step c₁) fetched_key
      ∙ entry_next (next_step c₁ k) (clause 3 (runs_ok c₁ ∷ ring_ok c₁ ∷ load_ok c₁ ∷ Caches.pending_ok c₁ ∷ []) (state_in e₁ (length arena) ok))

  entry_made : Loads.stepped c₁ Next.Entry arena e.shared.header key failure bs
      ≡ Loads.over (Loads.more (record {
        pages = replaced c₁.pages slot key len;
        missing = c₁.missing;
        loading = Some (new_load key slot offset len);
        pending = Pending.Nothing;
        loads = c₁.loads;
      })) arena
  unfolding entry_step began dropped moved
  entry_made = rw (and_left (eqb failure 0) _ b.read, b.there, b.idle, b.small, b.room)

  abbrev left_by : Loads.After → After
  left_by x = over (loaded e₁ (Loads.told x)) x.arena

  abbrev made : Next → Bool → After
  made n taken = cond taken (left_by (Loads.stepped c₁ n arena e.shared.header key failure bs)) (over (refused e₁ Refusal.NotAsked) arena)

  entry_taken : Loads.takes Next.Entry e.shared.header key failure (length bs) ≡ true
  entry_taken = rw (inside, and_left (eqb failure 0) _ b.read, and_right (eqb failure 0) _ b.read)

  pub entry_begins : need_came e₁ arena failure bs ≡ over (record { answer = Ok Status.Working; engine = begun e key slot offset len }) arena
  entry_begins =
      ap (λ (n : Option TileKey). need_came_by n e₁ arena failure bs) b.needed
      ∙ part_is e₁ arena key failure bs inside
      ∙ ap (λ (n : Next). made n (Loads.takes n e.shared.header key failure (length bs))) next_entry
      ∙ ap (made Next.Entry) entry_taken
      ∙ ap left_by entry_made
