-- Evicting and placing keep the pages well-formed. A range that is evicted is empty (`evicted_empty`), each page is then as before or
-- empty (`evicted_either`), and a run beside the range is as before, slots and ages (`evicted_kept`). Placing on empty pages writes the
-- head, its pieces and nothing else. The idea: one page evicted clears a range that no link crosses (`Step`), and a range of pages is an
-- induction over single ones.
use Rattle.std.proofs.Common.{◌≡◌, ℕ, zero, suc, ◌+◌, ◌-◌, ◌<◌, ◌≤◌, Bool, true, false, cond, ltb, ◌⊎◌, List, length, set, sym, refl, ap, ◌∙◌, inl, inr, ⊎_elim, arith, length-set, get_or-set_other, get_or-set_same, ltb-false}
use Rattle.pack.specs.declared.TileKey.{TileKey}
use Rattle.cache.specs.declared.Slot.{Slot}
use Rattle.cache.specs.declared.Pages.{Pages}
use Rattle.cache.specs.Runs.{span, empty_slot, slot_at, Kind, bare, run, piece, kind_of, kind_at, end_of, PieceGood, Sound}
use Rattle.cache.specs.Evict.{head_of, room_of, head_slot, piece_slot, clear_run, clear_at, evicted_page, evicted, with_slots, placed, Same}
use Rattle.cache.proofs.Below.{below_or, same_or}
use Rattle.cache.proofs.RunLaws.{span_pos, run_at, piece_at, apart}
use Rattle.cache.proofs.FillLaws.{Out, out_or, out, not_out, fill-length, fill_out, fill_in}
use Rattle.cache.proofs.Range.{Closed, closed_bare, closed_run, good_cleared, good_placed, Alike, good_same}

room_all : (h n count : ℕ) → h + n ≤ count → room_of h n count ≡ n
room_all h n count e = by (ltb n (count - h)) refl
  where
    by : (t : Bool) → ltb n (count - h) ≡ t → cond t n (count - h) ≡ n
    by true q = refl
    by false q = omega (arith, ltb-false n (count - h) q)

-- page q is in d as it is in g, or empty
abbrev pub SameOrEmpty : Pages → Pages → ℕ → Type 0
SameOrEmpty g d q = (slot_at d.slots q ≡ slot_at g.slots q) ⊎ (slot_at d.slots q ≡ empty_slot)

-- so an empty page stays empty
stays : (g d : Pages) (q : ℕ) → SameOrEmpty g d q → slot_at g.slots q ≡ empty_slot → slot_at d.slots q ≡ empty_slot
stays g d q o e = ⊎_elim (λ h. h ∙ e) (λ h. h) o

-- ---- one page

pub page_count : (g : Pages) (p : ℕ) → (evicted_page g p).count ≡ g.count
unfolding evicted_page
page_count g p = refl

-- what evicting page p clears: n pages from a on
record Step (g : Pages) (p : ℕ) : Type 0 where
  a : ℕ
  n : ℕ
  is : evicted_page g p ≡ clear_run n a g
  low : a ≤ p
  high : p < a + n
  fits : a + n ≤ g.count
  closed : Closed g.slots a (a + n)
  away : (h q : ℕ) → kind_at g.slots h ≡ run → Out h (end_of g.slots h) p → h ≤ q → q < end_of g.slots h → Out a (a + n) q

module _ (g : Pages) (f : Sound g) (p : ℕ) (b : p < g.count) where
  -- a run that page p is not of lies beside the run that it is of
  beside : (a h q : ℕ) → kind_at g.slots a ≡ run → kind_at g.slots h ≡ run → a ≤ p → p < end_of g.slots a
      → Out h (end_of g.slots h) p → h ≤ q → q < end_of g.slots h → Out a (end_of g.slots a) q
  beside a h q r t l k o i j =
      ⊎_elim
      (λ u. inr (omega (arith, apart g.slots g.count f.good a h r t u)))
      (λ u.
      ⊎_elim
      (λ v. inl (omega (arith, apart g.slots g.count f.good h a t r v)))
      (λ v. let e : a ≡ h = omega arith in absurd (not_out o (omega arith) (rw e at k)))
      (below_or h a))
      (below_or a h)

  step_run : (a : ℕ) → kind_at g.slots a ≡ run → evicted_page g p ≡ clear_at g a → a ≤ p → p < end_of g.slots a → Step g p
  step_run a r e l k =
      let within : end_of g.slots a ≤ g.count = (run_at g.slots g.count f.good a r).within in
      record {
        a = a;
        n = span (slot_at g.slots a).len;
        is = e ∙ rw (r, room_all a (span (slot_at g.slots a).len) g.count within);
        low = l;
        high = k;
        fits = within;
        closed = closed_run g.slots g.count a f.good r;
        away = λ (h q : ℕ) (t : kind_at g.slots h ≡ run) (o : Out h (end_of g.slots h) p) (i : h ≤ q) (j : q < end_of g.slots h).
            beside a h q r t l k o i j;
      }

  step_by : (k : Kind) → kind_at g.slots p ≡ k → Step g p
  unfolding evicted_page
  step_by run r = step_run p r (ap (λ (k : Kind). clear_at g (head_of p k)) r) (omega arith) (omega (arith, span_pos (slot_at g.slots p).len))
  step_by (piece h) r =
      let c : PieceGood g.slots p h = piece_at g.slots g.count f.good p h r in
      step_run h c.head (ap (λ (k : Kind). clear_at g (head_of p k)) r) (omega (arith, c.later)) c.inside
  step_by bare r = record {
    a = p;
    n = 1;
    is = ap (λ (k : Kind). clear_at g (head_of p k)) r ∙ rw (r, room_all p 1 g.count (omega arith));
    low = omega arith;
    high = omega arith;
    fits = omega arith;
    closed = closed_bare g.slots p (p + 1) (λ (q : ℕ) (l : p ≤ q) (k : q < p + 1). let e : q ≡ p = omega arith in rw e r);
    away = λ (h q : ℕ) (t : kind_at g.slots h ≡ run) (o : Out h (end_of g.slots h) p) (i : h ≤ q) (j : q < end_of g.slots h).
        out p (p + 1) q (λ (l : p ≤ q) (k : q < p + 1). not_out o (omega arith) (omega arith));
  }

  step : Step g p
  step = step_by (kind_at g.slots p) refl

  outside : (q : ℕ) → Out step.a (step.a + step.n) q → Same g (evicted_page g p) q
  outside q o = rw step.is (record { slot = fill_out empty_slot empty_slot step.n step.a g.slots q o; age = fill_out 0 0 step.n step.a g.used q o })

  emptied : (q : ℕ) → step.a ≤ q → q < step.a + step.n → slot_at (evicted_page g p).slots q ≡ empty_slot
  emptied q l k = rw step.is (fill_in empty_slot empty_slot step.n step.a g.slots q l k (omega (arith, f.size, f.small, step.fits)))

  sound_page : Sound (evicted_page g p)
  sound_page = record {
    size = rw step.is (fill-length empty_slot step.n step.a g.slots ∙ f.size);
    small = rw page_count f.small;
    good = rw page_count
        (good_cleared g.slots (evicted_page g p).slots g.count step.a (step.a + step.n) f.good step.closed
        (λ (q : ℕ) (o : Out step.a (step.a + step.n) q). (outside q o).slot)
        emptied);
  }

  page_empty : slot_at (evicted_page g p).slots p ≡ empty_slot
  page_empty = emptied p step.low step.high

  page_either : (q : ℕ) → SameOrEmpty g (evicted_page g p) q
  page_either q = ⊎_elim (λ o. inl (outside q o).slot) (λ h. inr (emptied q h.0 h.1)) (out_or step.a (step.a + step.n) q)

  -- a run that page p is not of stays
  page_kept : (h q : ℕ) → kind_at g.slots h ≡ run → Out h (end_of g.slots h) p → h ≤ q → q < end_of g.slots h → Same g (evicted_page g p) q
  page_kept h q r o i j = outside q (step.away h q r o i j)

-- ---- a range of pages

next_fits : (n first : ℕ) (g : Pages) → first + suc n ≤ g.count → first + 1 + n ≤ (evicted_page g first).count
next_fits n first g h = rw page_count (omega arith)

pub evicted_count : (n first : ℕ) (g : Pages) → (evicted n first g).count ≡ g.count
unfolding evicted
evicted_count zero first g = refl
evicted_count (suc n) first g = evicted_count n (first + 1) (evicted_page g first) ∙ page_count g first

pub sound_evicted : (n first : ℕ) (g : Pages) → Sound g → first + n ≤ g.count → Sound (evicted n first g)
unfolding evicted
sound_evicted zero first g f h = f
sound_evicted (suc n) first g f h = sound_evicted n (first + 1) (evicted_page g first) (sound_page g f first (omega arith)) (next_fits n first g h)

-- each page is as before, or empty
pub evicted_either : (n first : ℕ) (g : Pages) → Sound g → first + n ≤ g.count → (q : ℕ) → SameOrEmpty g (evicted n first g) q
unfolding evicted
evicted_either zero first g f h q = inl refl
evicted_either (suc n) first g f h q =
    ⊎_elim
    (λ e. ⊎_elim (λ k. inl (e ∙ k)) (λ k. inr (e ∙ k)) (page_either g f first (omega arith) q))
    (λ e. inr e)
    (evicted_either n (first + 1) (evicted_page g first) (sound_page g f first (omega arith)) (next_fits n first g h) q)

-- every page of the range is empty
pub evicted_empty : (n first : ℕ) (g : Pages) → Sound g → first + n ≤ g.count → (q : ℕ) → first ≤ q → q < first + n → slot_at (evicted n first g).slots q ≡ empty_slot
unfolding evicted
evicted_empty zero first g f h q l k = absurd (omega arith)
evicted_empty (suc n) first g f h q l k =
    let d : Pages = evicted_page g first in
    let s : Sound d = sound_page g f first (omega arith) in
    ⊎_elim
    (λ e. stays d (evicted n (first + 1) d) q (evicted_either n (first + 1) d s (next_fits n first g h) q) (rw e (page_empty g f first (omega arith))))
    (λ e. evicted_empty n (first + 1) d s (next_fits n first g h) q (omega (arith, e)) (omega arith))
    (same_or q first)

-- a run that lies beside the range is as before, each page of it
pub evicted_kept : (n first : ℕ) (g : Pages) → Sound g → first + n ≤ g.count → (h : ℕ) → kind_at g.slots h ≡ run → (end_of g.slots h ≤ first) ⊎ (first + n ≤ h)
    → (q : ℕ) → h ≤ q → q < end_of g.slots h → Same g (evicted n first g) q
unfolding evicted
evicted_kept zero first g f b h r o q i j = record { slot = refl; age = refl }
evicted_kept (suc n) first g f b h r o q i j =
    let one : (p : ℕ) → h ≤ p → p < end_of g.slots h → Same g (evicted_page g first) p
    = λ (p : ℕ) (l : h ≤ p) (k : p < end_of g.slots h). page_kept g f first (omega arith) h p r (turn o) l k in
    let head : slot_at (evicted_page g first).slots h ≡ slot_at g.slots h = (one h (omega arith) (omega (arith, span_pos (slot_at g.slots h).len))).slot in
    let rest : Same (evicted_page g first) (evicted n (first + 1) (evicted_page g first)) q
    = evicted_kept n (first + 1) (evicted_page g first) (sound_page g f first (omega arith)) (next_fits n first g b)
    h (ap kind_of head ∙ r) (rw head (next o)) q i (rw head j) in
    record { slot = rest.slot ∙ (one q i j).slot; age = rest.age ∙ (one q i j).age }
  where
    turn : (end_of g.slots h ≤ first) ⊎ (first + suc n ≤ h) → Out h (end_of g.slots h) first
    turn (inl l) = inr l
    turn (inr l) = inl (omega arith)

    next : (end_of g.slots h ≤ first) ⊎ (first + suc n ≤ h) → (end_of g.slots h ≤ first + 1) ⊎ (first + 1 + n ≤ h)
    next (inl l) = inl (omega arith)
    next (inr l) = inr (omega arith)

-- ---- placing

module _ (g : Pages) (slot : ℕ) (key : TileKey) (len : ℕ) where
  abbrev headed : List Slot
  headed = set g.slots slot (head_slot key len)

  -- the pages beside the run are as before
  pub placed_same : (q : ℕ) → Out slot (slot + span len) q → slot_at (placed g slot key len).slots q ≡ slot_at g.slots q
  placed_same q o =
      fill_out (piece_slot slot) empty_slot (span len - 1) (slot + 1) headed q (rest o)
      ∙ get_or-set_other g.slots slot q (head_slot key len) empty_slot (λ (e : q ≡ slot). not_out o (omega arith) (omega (arith, span_pos len)))
    where
      rest : Out slot (slot + span len) q → Out (slot + 1) (slot + 1 + (span len - 1)) q
      rest (inl h) = inl (omega arith)
      rest (inr h) = inr (omega (arith, span_pos len))

  pub placed_head : slot < length g.slots → slot_at (placed g slot key len).slots slot ≡ head_slot key len
  placed_head h =
      fill_out (piece_slot slot) empty_slot (span len - 1) (slot + 1) headed slot (inl (omega arith))
      ∙ get_or-set_same g.slots slot (head_slot key len) empty_slot h

  pub placed_piece : (q : ℕ) → slot < q → q < slot + span len → q < length g.slots → slot_at (placed g slot key len).slots q ≡ piece_slot slot
  placed_piece q i j h = fill_in (piece_slot slot) empty_slot (span len - 1) (slot + 1) headed q (omega arith) (omega arith) (rw length-set h)

  pub sound_placed : Sound g → slot + span len ≤ g.count → ((q : ℕ) → slot ≤ q → q < slot + span len → slot_at g.slots q ≡ empty_slot) → Sound (placed g slot key len)
  sound_placed f b free = record {
    size = fill-length (piece_slot slot) (span len - 1) (slot + 1) headed ∙ length-set g.slots slot (head_slot key len) ∙ f.size;
    small = f.small;
    good = good_placed g.slots (placed g slot key len).slots g.count slot key len f.good
        (λ (q : ℕ) (i : slot ≤ q) (j : q < slot + span len). ap kind_of (free q i j))
        b
        placed_same
        (placed_head (omega (arith, f.size, f.small, span_pos len)))
        (λ (q : ℕ) (i : slot < q) (j : q < slot + span len). placed_piece q i j (omega (arith, f.size, f.small)));
  }

-- ---- a run's slot changed in what the runs do not say: its key, its mark that it is ready

pub sound_set : (g : Pages) (i : ℕ) (v : Slot) → Sound g → i < g.count → kind_at g.slots i ≡ run → kind_of v ≡ run
    → v.len ≡ (slot_at g.slots i).len → Sound (with_slots (set g.slots i v) g)
sound_set g i v f b r k l = record {
  size = length-set g.slots i v ∙ f.size;
  small = f.small;
  good = good_same g.slots (set g.slots i v) g.count f.good (λ (q : ℕ). ⊎_elim (here q) (there q) (same_or q i));
}
  where
    here : (q : ℕ) → q ≡ i → Alike (slot_at (set g.slots i v) q) (slot_at g.slots q)
    here q e =
        rw (e, get_or-set_same g.slots i v empty_slot (omega (arith, f.size, f.small)))
        (record { kind = k ∙ sym r; len = l; keyless = λ (n : kind_of (slot_at g.slots i) ≡ run → ⊥). absurd (n r) })

    there : (q : ℕ) → (q ≡ i → ⊥) → Alike (slot_at (set g.slots i v) q) (slot_at g.slots q)
    there q e = rw (get_or-set_other g.slots i q v empty_slot e) (record { kind = refl; len = refl; keyless = λ (n : kind_of (slot_at g.slots q) ≡ run → ⊥). refl })
