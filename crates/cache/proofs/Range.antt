-- A change within a range that no link crosses keeps the pages outside well-formed (`kept_page`). So do emptying such a range
-- (`good_cleared`), placing a run on bare pages (`good_placed`), and a change in what the runs do not say (`good_same`).
use Rattle.std.proofs.Common.{◌≡◌, ℕ, ◌+◌, ◌<◌, ◌≤◌, List, refl, ap, ◌∙◌, ⊎_elim, arith}
use Rattle.pack.specs.declared.TileKey.{TileKey}
use Rattle.cache.specs.declared.Slot.{Slot}
use Rattle.cache.specs.Runs.{span, empty_slot, slot_at, Kind, bare, run, piece, kind_of, kind_at, end_of, no_key, PieceGood, KindGood, PageGood, Good}
use Rattle.cache.specs.Evict.{head_slot, piece_slot}
use Rattle.cache.proofs.Below.{same_or}
use Rattle.cache.proofs.RunLaws.{run_at, piece_at}
use Rattle.cache.proofs.FillLaws.{Out, out_or, out, not_out}

-- a page of the range is bare, or has the rest of its run in it
abbrev pub KindIn : List Slot → ℕ → ℕ → ℕ → Kind → Type 0
KindIn s a e q bare = Unit
KindIn s a e q run = end_of s q ≤ e
KindIn s a e q (piece h) = a ≤ h

-- no link crosses the ends of the range from a to e
abbrev pub Closed : List Slot → ℕ → ℕ → Type 0
Closed s a e = (q : ℕ) → a ≤ q → q < e → KindIn s a e q (kind_at s q)

pub closed_bare : (s : List Slot) (a e : ℕ) → ((q : ℕ) → a ≤ q → q < e → kind_at s q ≡ bare) → Closed s a e
closed_bare s a e f q h k = rw (f q h k) tt

pub closed_run : (s : List Slot) (count h : ℕ) → Good s count → kind_at s h ≡ run → Closed s h (end_of s h)
closed_run s count h f r q l k =
    ⊎_elim
    (λ (e : q ≡ h). rw (e, r) (omega arith))
    (λ e. rw ((run_at s count f h r).pieces q (omega (arith, e)) k) (omega arith))
    (same_or q h)

-- ---- the pages outside

module _ (s t : List Slot) (count a e : ℕ) (f : Good s count) (closed : Closed s a e) (same : (q : ℕ) → Out a e q → slot_at t q ≡ slot_at s q) where
  run_away : (p q : ℕ) → Out a e p → kind_at s p ≡ run → p < q → q < end_of s p → Out a e q
  run_away p q o r h k = out a e q (λ (l : a ≤ q) (m : q < e).
      let i : a ≤ p = rw ((run_at s count f p r).pieces q h k) at (closed q l m) in
      not_out o i (omega arith))

  piece_away : (p h : ℕ) → Out a e p → kind_at s p ≡ piece h → Out a e h
  piece_away p h o r = out a e h (λ (l : a ≤ h) (m : h < e).
      let g : PieceGood s p h = piece_at s count f p h r in
      let i : end_of s h ≤ e = rw g.head at (closed h l m) in
      not_out o (omega arith) (omega arith))

  kept_by : (p : ℕ) (k : Kind) → Out a e p → kind_at s p ≡ k → KindGood s count p k → KindGood t count p k
  kept_by p run o r g = record {
    within = rw (same p o) g.within;
    pieces = λ (q : ℕ) (h : p < q) (k : q < end_of t p).
        let k2 : q < end_of s p = rw (same p o) at k in
        ap kind_of (same q (run_away p q o r h k2)) ∙ g.pieces q h k2;
  }
  kept_by p (piece h) o r g = record {
    later = g.later;
    head = ap kind_of (same h (piece_away p h o r)) ∙ g.head;
    inside = rw (same h (piece_away p h o r)) g.inside;
    keyless = rw (same p o) g.keyless;
  }
  kept_by p bare o r g = tt

  pub kept_page : (p : ℕ) → Out a e p → PageGood t count p
  kept_page p o = rw (same p o) (kept_by p (kind_at s p) o refl (f p))

  -- the range emptied
  pub good_cleared : ((q : ℕ) → a ≤ q → q < e → slot_at t q ≡ empty_slot) → Good t count
  good_cleared empty p =
      ⊎_elim
      (λ o. kept_page p o)
      (λ h. rw (empty p h.0 h.1) tt)
      (out_or a e p)

-- ---- a run placed on bare pages

module _ (s t : List Slot) (count a : ℕ) (key : TileKey) (len : ℕ) (f : Good s count)
    (free : (q : ℕ) → a ≤ q → q < a + span len → kind_at s q ≡ bare)
    (fits : a + span len ≤ count)
    (same : (q : ℕ) → Out a (a + span len) q → slot_at t q ≡ slot_at s q)
    (head : slot_at t a ≡ head_slot key len)
    (pieces : (q : ℕ) → a < q → q < a + span len → slot_at t q ≡ piece_slot a) where
  placed_head : PageGood t count a
  placed_head = rw head (record {
    within = rw head fits;
    pieces = λ (q : ℕ) (h : a < q) (k : q < end_of t a). ap kind_of (pieces q h (rw head at k));
  })

  placed_piece : (p : ℕ) → a < p → p < a + span len → PageGood t count p
  placed_piece p h k = rw (pieces p h k) (record {
    later = h;
    head = ap kind_of head;
    inside = rw head k;
    keyless = rw (pieces p h k);
  })

  pub good_placed : Good t count
  good_placed p =
      ⊎_elim
      (λ o. kept_page s t count a (a + span len) f (closed_bare s a (a + span len) free) same p o)
      (λ h. ⊎_elim (λ i. rw i placed_head) (λ i. placed_piece p (omega (arith, i)) h.1) (same_or p a))
      (out_or a (a + span len) p)

-- ---- slots that differ in what the runs do not say

pub record Alike (v u : Slot) : Type 0 where
  pub kind : kind_of v ≡ kind_of u
  pub len : v.len ≡ u.len
  pub keyless : (kind_of u ≡ run → ⊥) → no_key v.key ≡ no_key u.key

module _ (s t : List Slot) (count : ℕ) (f : Good s count) (same : (q : ℕ) → Alike (slot_at t q) (slot_at s q)) where
  alike_by : (p : ℕ) (k : Kind) → kind_at s p ≡ k → KindGood s count p k → KindGood t count p k
  alike_by p run r g = record {
    within = rw (same p).len g.within;
    pieces = λ (q : ℕ) (h : p < q) (k : q < end_of t p). (same q).kind ∙ g.pieces q h (rw (same p).len at k);
  }
  alike_by p (piece h) r g = record {
    later = g.later;
    head = (same h).kind ∙ g.head;
    inside = rw (same h).len g.inside;
    keyless = (same p).keyless (λ (e : kind_at s p ≡ run). let z : ◌≡◌ {A = ℕ} 0 1 = cc in omega arith) ∙ g.keyless;
  }
  alike_by p bare r g = tt

  pub good_same : Good t count
  good_same p = rw (same p).kind (alike_by p (kind_at s p) refl (f p))
