-- The pass of `runs_ok` answers whether the runs are well-formed. What it carries is the last run, and of the pages passed all is known but
-- what lies ahead of that run (`Passed`): no run ends behind the last, and a later page lies in its run. A page that fits keeps it (`passed`);
-- where the runs are well-formed every page fits, so one that does not settles the answer (`pass_fails`), and so does the end
-- (`pass_ends`).
use Rattle.std.proofs.Common.{◌≡◌, ℕ, ◌+◌, ◌<◌, ◌≤◌, Bool, true, false, cond, ◌&&◌, eqb, ltb, leb, List, length, sym, refl, ap, ◌∙◌, ⊎_elim, true≢false, arith, ltb-true, lt-ltb, eq-eqb, eqb-true, le-leb, leb-true}
use Rattle.cache.specs.declared.Slot.{Slot}
use Rattle.cache.specs.declared.Pages.{Pages}
use Rattle.cache.specs.declared.runs.LastRun.{LastRun}
use Rattle.cache.specs.Runs.{slot_at, Kind, bare, run, piece, kind_at, end_of, is_run, no_key, runs_ok, PieceGood, KindGood, Good}
use Rattle.cache.specs.Pass.{fits_by, fits, after}
use Rattle.cache.proofs.Below.{below_or, same_or, and_left, and_right}
use Rattle.cache.proofs.RunLaws.{past_good, ok_is_good, good_is_ok, run_at}

-- ---- what is known

-- the last run, where page p lies in it
pub record Under (s : List Slot) (p : ℕ) (l : LastRun) : Type 0 where
  pub head : kind_at s l.head ≡ run
  pub before : l.head < p
  pub end : end_of s l.head ≡ l.end

-- of the pages before p
pub record Passed (s : List Slot) (count p : ℕ) (l : LastRun) : Type 0 where
  pub within : l.end ≤ count
  pub ends : (q : ℕ) → q < p → kind_at s q ≡ run → end_of s q ≤ l.end
  pub under : p < l.end → Under s p l
  pub pieces : (q h : ℕ) → q < p → kind_at s q ≡ piece h → PieceGood s q h
  pub parts : (q r : ℕ) → kind_at s q ≡ run → q < r → r < p → r < end_of s q → kind_at s r ≡ piece q

pub pass_starts : (s : List Slot) (count : ℕ) → Passed s count 0 (record { head = 0; end = 0 })
pass_starts s count = record {
  within = omega arith;
  ends = λ (q : ℕ) (h : q < 0) (r : kind_at s q ≡ run). absurd (omega arith);
  under = λ (h : 0 < 0). absurd (omega arith);
  pieces = λ (q h : ℕ) (i : q < 0) (r : kind_at s q ≡ piece h). absurd (omega arith);
  parts = λ (q r : ℕ) (a : kind_at s q ≡ run) (i : q < r) (j : r < 0) (m : r < end_of s q). absurd (omega arith);
}

run-piece : {k : Kind} {h : ℕ} → k ≡ run → k ≡ piece h → ⊥
run-piece a b = let z : ◌≡◌ {A = ℕ} 0 1 = cc in omega arith

run-bare : {k : Kind} → k ≡ run → k ≡ bare → ⊥
run-bare a b = let z : ◌≡◌ {A = ℕ} 0 1 = cc in omega arith

bare-piece : {k : Kind} {h : ℕ} → k ≡ bare → k ≡ piece h → ⊥
bare-piece a b = let z : ◌≡◌ {A = ℕ} 0 1 = cc in omega arith

same_head : {k : Kind} (h i : ℕ) → k ≡ piece h → k ≡ piece i → h ≡ i
same_head h i a b = cc

module _ (s : List Slot) (count p : ℕ) (l : LastRun) (f : Passed s count p l) where
  -- ---- one page more

  -- past the end of the last run no run reaches page p
  parts_past : l.end ≤ p → (q r : ℕ) → kind_at s q ≡ run → q < r → r < p + 1 → r < end_of s q → kind_at s r ≡ piece q
  parts_past b q r a i j m =
      ⊎_elim
      (λ (z : r ≡ p). absurd (omega (arith, z, f.ends q (omega (arith, z)) a)))
      (λ z. f.parts q r a i (omega (arith, z)) m)
      (same_or r p)

  passed_bare : kind_at s p ≡ bare → l.end ≤ p → Passed s count (p + 1) l
  passed_bare k b = record {
    within = f.within;
    ends = λ (q : ℕ) (i : q < p + 1) (r : kind_at s q ≡ run).
        ⊎_elim (λ (z : q ≡ p). absurd (run-bare (rw z at r) k)) (λ z. f.ends q (omega (arith, z)) r) (same_or q p);
    under = λ (h : p + 1 < l.end). absurd (omega arith);
    pieces = λ (q h : ℕ) (i : q < p + 1) (r : kind_at s q ≡ piece h).
        ⊎_elim (λ (z : q ≡ p). absurd (bare-piece k (rw z at r))) (λ z. f.pieces q h (omega (arith, z)) r) (same_or q p);
    parts = parts_past b;
  }

  passed_run : kind_at s p ≡ run → l.end ≤ p → end_of s p ≤ count → Passed s count (p + 1) (record { head = p; end = end_of s p })
  passed_run k b c = record {
    within = c;
    ends = λ (q : ℕ) (i : q < p + 1) (r : kind_at s q ≡ run).
        ⊎_elim (λ (z : q ≡ p). rw z (omega arith)) (λ z. omega (arith, f.ends q (omega (arith, z)) r)) (same_or q p);
    under = λ (h : p + 1 < end_of s p). record { head = k; before = omega arith; end = refl };
    pieces = λ (q h : ℕ) (i : q < p + 1) (r : kind_at s q ≡ piece h).
        ⊎_elim (λ (z : q ≡ p). absurd (run-piece k (rw z at r))) (λ z. f.pieces q h (omega (arith, z)) r) (same_or q p);
    parts = parts_past b;
  }

  module _ (b : p < l.end) where
    u : Under s p l
    u = f.under b

    -- no other run reaches page p
    only : (q : ℕ) → kind_at s q ≡ run → q < p → p < end_of s q → q ≡ l.head
    only q a i m =
        ⊎_elim
        (λ (z : q < l.head). absurd (run-piece u.head (f.parts q l.head a z u.before (omega (arith, u.before)))))
        (λ (z : l.head ≤ q).
        ⊎_elim
        (λ (y : l.head < q). absurd (run-piece a (f.parts l.head q u.head y i (omega (arith, u.end)))))
        (λ (y : q ≤ l.head). omega (arith, y, z))
        (below_or l.head q))
        (below_or q l.head)

    piece_now : no_key (slot_at s p).key ≡ true → PieceGood s p l.head
    piece_now n = record { later = u.before; head = u.head; inside = omega (arith, u.end); keyless = n }

    passed_piece : kind_at s p ≡ piece l.head → no_key (slot_at s p).key ≡ true → Passed s count (p + 1) l
    passed_piece k n = record {
      within = f.within;
      ends = λ (q : ℕ) (i : q < p + 1) (r : kind_at s q ≡ run).
          ⊎_elim (λ (z : q ≡ p). absurd (run-piece (rw z at r) k)) (λ z. f.ends q (omega (arith, z)) r) (same_or q p);
      under = λ (h : p + 1 < l.end). record { head = u.head; before = omega (arith, u.before); end = u.end };
      pieces = λ (q h : ℕ) (i : q < p + 1) (r : kind_at s q ≡ piece h).
          ⊎_elim
          (λ (z : q ≡ p). let y : h ≡ l.head = same_head h l.head (rw z at r) k in rw (z, y) (piece_now n))
          (λ z. f.pieces q h (omega (arith, z)) r)
          (same_or q p);
      parts = λ (q r : ℕ) (a : kind_at s q ≡ run) (i : q < r) (j : r < p + 1) (m : r < end_of s q).
          ⊎_elim
          (λ (z : r ≡ p). rw (z, only q a (omega (arith, z)) (omega (arith, z))) k)
          (λ z. f.parts q r a i (omega (arith, z)) m)
          (same_or r p);
    }

  after_is : (k : Kind) → kind_at s p ≡ k → after (slot_at s p) p l ≡ cond (is_run k) (record { head = p; end = end_of s p }) l
  unfolding after
  after_is k e = ap (λ (x : Kind). cond (is_run x) (record { head = p; end = end_of s p }) l) e

  passed_by : (k : Kind) → kind_at s p ≡ k → fits_by k (slot_at s p) p l count ≡ true → Passed s count (p + 1) (after (slot_at s p) p l)
  passed_by bare k e = rw (after_is bare k) (passed_bare k (leb-true l.end p e))
  passed_by run k e =
      rw (after_is run k)
      (passed_run k (leb-true l.end p (and_left (leb l.end p) _ e)) (leb-true (end_of s p) count (and_right (leb l.end p) _ e)))
  passed_by (piece h) k e =
      let r : (ltb p l.end && eqb h l.head) ≡ true = and_right (no_key (slot_at s p).key) _ e in
      rw (after_is (piece h) k)
      (passed_piece (ltb-true p l.end (and_left (ltb p l.end) _ r))
      (k ∙ ap piece (eqb-true h l.head (and_right (ltb p l.end) _ r)))
      (and_left (no_key (slot_at s p).key) _ e))

  pub passed : fits (slot_at s p) p l count ≡ true → Passed s count (p + 1) (after (slot_at s p) p l)
  unfolding fits
  passed e = passed_by (kind_at s p) refl e

  -- ---- where the runs are well-formed a page fits

  module _ (good : Good s count) where
    reached : p < l.end → kind_at s p ≡ piece l.head
    reached b = let u : Under s p l = f.under b in (run_at s count good l.head u.head).pieces p u.before (omega (arith, u.end))

    past : ((h : ℕ) → kind_at s p ≡ piece h → ⊥) → l.end ≤ p
    past other = ⊎_elim (λ b. absurd (other l.head (reached b))) (λ b. b) (below_or p l.end)

    fits_by_lem : (k : Kind) → kind_at s p ≡ k → KindGood s count p k → fits_by k (slot_at s p) p l count ≡ true
    fits_by_lem bare k g = le-leb l.end p (past (λ (h : ℕ) (e : kind_at s p ≡ piece h). bare-piece k e))
    fits_by_lem run k g =
        rw (le-leb l.end p (past (λ (h : ℕ) (e : kind_at s p ≡ piece h). run-piece k e))) (le-leb (end_of s p) count g.within)
    fits_by_lem (piece h) k g =
        let b : p < l.end = omega (arith, g.inside, f.ends h g.later g.head) in
        rw (g.keyless, lt-ltb p l.end b) (eq-eqb h l.head (same_head h l.head k (reached b)))

    good_fits : fits (slot_at s p) p l count ≡ true
    unfolding fits
    good_fits = fits_by_lem (kind_at s p) refl (good p)

  -- ---- all pages

  good_by : count ≤ p → (q : ℕ) → q < p → (k : Kind) → kind_at s q ≡ k → KindGood s count q k
  good_by c q h bare k = tt
  good_by c q h run k = record {
    within = omega (arith, f.ends q h k, f.within);
    pieces = λ (r : ℕ) (i : q < r) (j : r < end_of s q). f.parts q r k i (omega (arith, f.ends q h k, f.within)) j;
  }
  good_by c q h (piece x) k = f.pieces q x h k

  passed_good : count ≤ p → length s ≤ p → Good s count
  passed_good c n q = ⊎_elim (λ h. good_by c q h (kind_at s q) refl) (λ h. past_good s count q (omega (arith, h))) (below_or q p)

-- ---- the answer

module _ (g : Pages) (p : ℕ) (l : LastRun) (n : length g.slots ≡ 96) (f : Passed g.slots g.count p l) where
  pub pass_fails : fits (slot_at g.slots p) p l g.count ≡ false → false ≡ runs_ok g
  pass_fails e = by (runs_ok g) refl
    where
      by : (t : Bool) → runs_ok g ≡ t → false ≡ t
      by true q = absurd (true≢false (sym (good_fits g.slots g.count p l f (ok_is_good g n q)) ∙ e))
      by false q = refl

  pub pass_ends : g.count ≤ 96 → p ≡ 96 → true ≡ runs_ok g
  pass_ends c e = sym (good_is_ok g c (passed_good g.slots g.count p l f (omega arith) (omega arith)))
