-- The numbers of the lookups of one call: the turns of the loops that take them out of the cache, that put the ages back and that look for a
-- key among them; what stands at each place once they are taken, and once a run is marked; and that the run found last is on a page.
use Rattle.std.specs.Prelude.{Option, Some, None}
use Rattle.std.proofs.Common.{◌≡◌, ℕ, zero, suc, ◌+◌, ◌<◌, ◌≤◌, Bool, true, false, cond, ◌&&◌, eqb, ltb, List, length, get_or, set, replicate, sym, refl, ◌∙◌, ⊎_elim, add-one, arith, length-set, get_or-set_other, get_or-set_same, ext_get_or, ltb-true, eq-eqb, ne_eqb, eqb-true}
use borrow.Author.Tests.{eqb-false}
use lib.ListN.{length-replicate}
use Rattle.pack.specs.declared.TileKey.{TileKey}
use Rattle.pack.proofs.Laws.{and_left}
use Rattle.cache.specs.declared.Cache.{Cache}
use Rattle.cache.specs.declared.Pages.{Pages}
use Rattle.cache.specs.declared.Ring.{Ring}
use Rattle.cache.specs.declared.Slot.{Slot}
use Rattle.cache.specs.Runs.{slot_at}
use Rattle.cache.specs.Keys.{holds, key_at, is_ready}
use Rattle.cache.specs.Lookups.{after}
use Rattle.cache.proofs.Below.{same_or}
use Rattle.cache.specs.Ages.{row_of, col_of, ready_key, page_in, pages_in, place_in, ring_in, ages_to, uses_from, aged, marked, was_found}
use Rattle.cache.specs.Uses.{with_uses}

-- ---- one page or place more

pub pages_none : (looks : List ℕ) (g : Pages) → pages_in looks g 0 ≡ looks
unfolding pages_in
pages_none looks g = refl

pub pages_more : (looks : List ℕ) (g : Pages) (n : ℕ)
    → pages_in looks g (n + 1) ≡ page_in (pages_in looks g n) n (get_or g.used n 0) (slot_at g.slots n)
unfolding pages_in
pages_more looks g n = rw add-one

pub ring_none : (looks : List ℕ) (r : Ring) → ring_in looks r 0 ≡ looks
unfolding ring_in
ring_none looks r = refl

pub ring_more : (looks : List ℕ) (r : Ring) (n : ℕ) → ring_in looks r (n + 1) ≡ place_in (ring_in looks r n) n (key_at r n)
unfolding ring_in
ring_more looks r n = rw add-one

pub ages_none : (looks : List ℕ) → ages_to looks 0 ≡ replicate 96 0
unfolding ages_to
ages_none looks = refl

pub ages_more : (looks : List ℕ) (n : ℕ) → ages_to looks (n + 1) ≡ set (ages_to looks n) n (get_or looks n 0)
unfolding ages_to
ages_more looks n = rw add-one

-- ---- two numbers that tell a key

pub both : (a b d e : ℕ) → a ≡ b → d ≡ e → (eqb a b && eqb d e) ≡ true
both a b d e p q = rw (eq-eqb a b p, eq-eqb d e q)

pub not_col : (a b d e : ℕ) → a ≡ b → (d ≡ e → ⊥) → (eqb a b && eqb d e) ≡ false
not_col a b d e p q = rw (eq-eqb a b p, ne_eqb d e q)

eqb_one : (a b : ℕ) → eqb (a + 1) (b + 1) ≡ eqb a b
eqb_one a b = by (eqb a b) refl
  where
    by : (t : Bool) → eqb a b ≡ t → eqb (a + 1) (b + 1) ≡ t
    by true e = eq-eqb (a + 1) (b + 1) (omega (arith, eqb-true a b e))
    by false e = ne_eqb (a + 1) (b + 1) (λ (q : a + 1 ≡ b + 1). eqb-false a b e (omega (arith, q)))

pub key_tells : (m : Option TileKey) (key : TileKey) → (eqb (row_of m) (key.row + 1) && eqb (col_of m) key.col) ≡ holds m key
key_tells None key = rw (ne_eqb 0 (key.row + 1) (λ (q : 0 ≡ key.row + 1). omega (arith, q)))
key_tells (Some k) key = rw (eqb_one k.row key.row)

pub ready_tells : (s : Slot) (key : TileKey) → (eqb (row_of (ready_key s)) (key.row + 1) && eqb (col_of (ready_key s)) key.col) ≡ is_ready key s
unfolding is_ready
ready_tells s key = by s.ready
  where
    by : (t : Bool)
        → (eqb (row_of (cond t s.key None)) (key.row + 1) && eqb (col_of (cond t s.key None)) key.col) ≡ (t && holds s.key key)
    by true = key_tells s.key key
    by false = key_tells None key

-- ---- what stands at each place of the pages

module _ (looks : List ℕ) (i age : ℕ) (s : Slot) where
  abbrev one : List ℕ
  one = set looks i age

  abbrev two : List ℕ
  two = set one (192 + i) (row_of (ready_key s))

  abbrev three : List ℕ
  three = set two (288 + i) (col_of (ready_key s))

  page_length : length (page_in looks i age s) ≡ length looks
  page_length =
      length-set three (384 + i) s.len
      ∙ (length-set two (288 + i) (col_of (ready_key s)) ∙ (length-set one (192 + i) (row_of (ready_key s)) ∙ length-set looks i age))

  page_other : (j : ℕ) → (j ≡ i → ⊥) → (j ≡ 192 + i → ⊥) → (j ≡ 288 + i → ⊥) → (j ≡ 384 + i → ⊥) → get_or (page_in looks i age s) j 0 ≡ get_or looks j 0
  page_other j a b d e =
      get_or-set_other three (384 + i) j s.len 0 e
      ∙ (
      get_or-set_other two (288 + i) j (col_of (ready_key s)) 0 d
      ∙ (get_or-set_other one (192 + i) j (row_of (ready_key s)) 0 b ∙ get_or-set_other looks i j age 0 a)
      )

  module _ (h : i < 96) (size : length looks ≡ 611) where
    size_one : length one ≡ 611
    size_one = length-set looks i age ∙ size

    size_two : length two ≡ 611
    size_two = length-set one (192 + i) (row_of (ready_key s)) ∙ size_one

    size_three : length three ≡ 611
    size_three = length-set two (288 + i) (col_of (ready_key s)) ∙ size_two

    page_age : get_or (page_in looks i age s) i 0 ≡ age
    page_age =
        get_or-set_other three (384 + i) i s.len 0 (λ (e : i ≡ 384 + i). omega (arith, e))
        ∙ (
        get_or-set_other two (288 + i) i (col_of (ready_key s)) 0 (λ (e : i ≡ 288 + i). omega (arith, e))
        ∙ (
        get_or-set_other one (192 + i) i (row_of (ready_key s)) 0 (λ (e : i ≡ 192 + i). omega (arith, e))
        ∙ get_or-set_same looks i age 0 (omega (arith, h, size))
        )
        )

    page_row : get_or (page_in looks i age s) (192 + i) 0 ≡ row_of (ready_key s)
    page_row =
        get_or-set_other three (384 + i) (192 + i) s.len 0 (λ (e : 192 + i ≡ 384 + i). omega (arith, e))
        ∙ (
        get_or-set_other two (288 + i) (192 + i) (col_of (ready_key s)) 0 (λ (e : 192 + i ≡ 288 + i). omega (arith, e))
        ∙ get_or-set_same one (192 + i) (row_of (ready_key s)) 0 (omega (arith, h, size_one))
        )

    page_col : get_or (page_in looks i age s) (288 + i) 0 ≡ col_of (ready_key s)
    page_col =
        get_or-set_other three (384 + i) (288 + i) s.len 0 (λ (e : 288 + i ≡ 384 + i). omega (arith, e))
        ∙ get_or-set_same two (288 + i) (col_of (ready_key s)) 0 (omega (arith, h, size_two))

    page_len : get_or (page_in looks i age s) (384 + i) 0 ≡ s.len
    page_len = get_or-set_same three (384 + i) s.len 0 (omega (arith, h, size_three))

module _ (looks : List ℕ) (g : Pages) where
  pub pages_length : (n : ℕ) → length (pages_in looks g n) ≡ length looks
  unfolding pages_in
  pages_length zero = refl
  pages_length (suc n) = page_length (pages_in looks g n) n (get_or g.used n 0) (slot_at g.slots n) ∙ pages_length n

  -- the marks are as they were
  pub pages_marks : (n j : ℕ) → n ≤ 96 → 96 ≤ j → j < 192 → get_or (pages_in looks g n) j 0 ≡ get_or looks j 0
  unfolding pages_in
  pages_marks zero j h a b = refl
  pages_marks (suc n) j h a b =
      page_other (pages_in looks g n) n (get_or g.used n 0) (slot_at g.slots n) j
      (λ (e : j ≡ n). omega (arith, e, h, a))
      (λ (e : j ≡ 192 + n). omega (arith, e, b))
      (λ (e : j ≡ 288 + n). omega (arith, e, b))
      (λ (e : j ≡ 384 + n). omega (arith, e, b))
      ∙ pages_marks n j (omega (arith, h)) a b

  module _ (size : length looks ≡ 611) where
    pub pages_age : (n i : ℕ) → n ≤ 96 → i < n → get_or (pages_in looks g n) i 0 ≡ get_or g.used i 0
    unfolding pages_in
    pages_age zero i h k = absurd (omega (arith, k))
    pages_age (suc n) i h k =
        ⊎_elim
        (λ (q : i ≡ n). rw q (page_age (pages_in looks g n) n (get_or g.used n 0) (slot_at g.slots n) (omega (arith, h)) (pages_length n ∙ size)))
        (λ (q : i ≡ n → ⊥).
        page_other (pages_in looks g n) n (get_or g.used n 0) (slot_at g.slots n) i q
        (λ (e : i ≡ 192 + n). omega (arith, e, h, k))
        (λ (e : i ≡ 288 + n). omega (arith, e, h, k))
        (λ (e : i ≡ 384 + n). omega (arith, e, h, k))
        ∙ pages_age n i (omega (arith, h)) (omega (arith, k, q)))
        (same_or i n)

    pub pages_row : (n i : ℕ) → n ≤ 96 → i < n → get_or (pages_in looks g n) (192 + i) 0 ≡ row_of (ready_key (slot_at g.slots i))
    unfolding pages_in
    pages_row zero i h k = absurd (omega (arith, k))
    pages_row (suc n) i h k =
        ⊎_elim
        (λ (q : i ≡ n). rw q (page_row (pages_in looks g n) n (get_or g.used n 0) (slot_at g.slots n) (omega (arith, h)) (pages_length n ∙ size)))
        (λ (q : i ≡ n → ⊥).
        page_other (pages_in looks g n) n (get_or g.used n 0) (slot_at g.slots n) (192 + i)
        (λ (e : 192 + i ≡ n). omega (arith, e, h))
        (λ (e : 192 + i ≡ 192 + n). q (omega (arith, e)))
        (λ (e : 192 + i ≡ 288 + n). omega (arith, e, h, k))
        (λ (e : 192 + i ≡ 384 + n). omega (arith, e, h, k))
        ∙ pages_row n i (omega (arith, h)) (omega (arith, k, q)))
        (same_or i n)

    pub pages_col : (n i : ℕ) → n ≤ 96 → i < n → get_or (pages_in looks g n) (288 + i) 0 ≡ col_of (ready_key (slot_at g.slots i))
    unfolding pages_in
    pages_col zero i h k = absurd (omega (arith, k))
    pages_col (suc n) i h k =
        ⊎_elim
        (λ (q : i ≡ n). rw q (page_col (pages_in looks g n) n (get_or g.used n 0) (slot_at g.slots n) (omega (arith, h)) (pages_length n ∙ size)))
        (λ (q : i ≡ n → ⊥).
        page_other (pages_in looks g n) n (get_or g.used n 0) (slot_at g.slots n) (288 + i)
        (λ (e : 288 + i ≡ n). omega (arith, e, h))
        (λ (e : 288 + i ≡ 192 + n). omega (arith, e, h, k))
        (λ (e : 288 + i ≡ 288 + n). q (omega (arith, e)))
        (λ (e : 288 + i ≡ 384 + n). omega (arith, e, h, k))
        ∙ pages_col n i (omega (arith, h)) (omega (arith, k, q)))
        (same_or i n)

    pub pages_len : (n i : ℕ) → n ≤ 96 → i < n → get_or (pages_in looks g n) (384 + i) 0 ≡ (slot_at g.slots i).len
    unfolding pages_in
    pages_len zero i h k = absurd (omega (arith, k))
    pages_len (suc n) i h k =
        ⊎_elim
        (λ (q : i ≡ n). rw q (page_len (pages_in looks g n) n (get_or g.used n 0) (slot_at g.slots n) (omega (arith, h)) (pages_length n ∙ size)))
        (λ (q : i ≡ n → ⊥).
        page_other (pages_in looks g n) n (get_or g.used n 0) (slot_at g.slots n) (384 + i)
        (λ (e : 384 + i ≡ n). omega (arith, e, h))
        (λ (e : 384 + i ≡ 192 + n). omega (arith, e, h, k))
        (λ (e : 384 + i ≡ 288 + n). omega (arith, e, h, k))
        (λ (e : 384 + i ≡ 384 + n). q (omega (arith, e)))
        ∙ pages_len n i (omega (arith, h)) (omega (arith, k, q)))
        (same_or i n)

-- ---- what stands at each place of the ring

module _ (looks : List ℕ) (r : Ring) where
  pub ring_length : (n : ℕ) → length (ring_in looks r n) ≡ length looks
  unfolding ring_in
  ring_length zero = refl
  ring_length (suc n) =
      length-set (set (ring_in looks r n) (480 + n) (row_of (key_at r n))) (544 + n) (col_of (key_at r n))
      ∙ (length-set (ring_in looks r n) (480 + n) (row_of (key_at r n)) ∙ ring_length n)

  -- one place more changes two numbers
  place_other : (n j : ℕ) → (j ≡ 480 + n → ⊥) → (j ≡ 544 + n → ⊥) → get_or (place_in (ring_in looks r n) n (key_at r n)) j 0 ≡ get_or (ring_in looks r n) j 0
  place_other n j a b =
      get_or-set_other (set (ring_in looks r n) (480 + n) (row_of (key_at r n))) (544 + n) j (col_of (key_at r n)) 0 b
      ∙ get_or-set_other (ring_in looks r n) (480 + n) j (row_of (key_at r n)) 0 a

  pub ring_below : (n j : ℕ) → j < 480 → get_or (ring_in looks r n) j 0 ≡ get_or looks j 0
  unfolding ring_in
  ring_below zero j h = refl
  ring_below (suc n) j h =
      place_other n j (λ (e : j ≡ 480 + n). omega (arith, e, h)) (λ (e : j ≡ 544 + n). omega (arith, e, h)) ∙ ring_below n j h

  module _ (size : length looks ≡ 611) where
    pub ring_row : (n i : ℕ) → n ≤ 64 → i < n → get_or (ring_in looks r n) (480 + i) 0 ≡ row_of (key_at r i)
    unfolding ring_in
    ring_row zero i h k = absurd (omega (arith, k))
    ring_row (suc n) i h k =
        ⊎_elim
        (λ (q : i ≡ n).
        rw q (get_or-set_other (set (ring_in looks r n) (480 + n) (row_of (key_at r n))) (544 + n) (480 + n) (col_of (key_at r n)) 0
        (λ (e : 480 + n ≡ 544 + n). omega (arith, e))
        ∙ get_or-set_same (ring_in looks r n) (480 + n) (row_of (key_at r n)) 0 (omega (arith, h, ring_length n, size))))
        (λ (q : i ≡ n → ⊥).
        place_other n (480 + i) (λ (e : 480 + i ≡ 480 + n). q (omega (arith, e))) (λ (e : 480 + i ≡ 544 + n). omega (arith, e, h, k))
        ∙ ring_row n i (omega (arith, h)) (omega (arith, k, q)))
        (same_or i n)

    pub ring_col : (n i : ℕ) → n ≤ 64 → i < n → get_or (ring_in looks r n) (544 + i) 0 ≡ col_of (key_at r i)
    unfolding ring_in
    ring_col zero i h k = absurd (omega (arith, k))
    ring_col (suc n) i h k =
        ⊎_elim
        (λ (q : i ≡ n).
        rw q (get_or-set_same (set (ring_in looks r n) (480 + n) (row_of (key_at r n))) (544 + n) (col_of (key_at r n)) 0
        (omega (arith, h, length-set (ring_in looks r n) (480 + n) (row_of (key_at r n)), ring_length n, size))))
        (λ (q : i ≡ n → ⊥).
        place_other n (544 + i) (λ (e : 544 + i ≡ 480 + n). omega (arith, e, h, k)) (λ (e : 544 + i ≡ 544 + n). q (omega (arith, e)))
        ∙ ring_col n i (omega (arith, h)) (omega (arith, k, q)))
        (same_or i n)

-- ---- the ages that are put back

module _ (looks : List ℕ) where
  pub ages_length : (n : ℕ) → length (ages_to looks n) ≡ 96
  unfolding ages_to
  ages_length zero = length-replicate {A = ℕ} 96 0
  ages_length (suc n) = length-set (ages_to looks n) n (get_or looks n 0) ∙ ages_length n

  pub ages_at : (n i : ℕ) → n ≤ 96 → i < n → get_or (ages_to looks n) i 0 ≡ get_or looks i 0
  unfolding ages_to
  ages_at zero i h k = absurd (omega (arith, k))
  ages_at (suc n) i h k =
      ⊎_elim
      (λ (q : i ≡ n). rw q (get_or-set_same (ages_to looks n) n (get_or looks n 0) 0 (omega (arith, h, ages_length n))))
      (λ (q : i ≡ n → ⊥). get_or-set_other (ages_to looks n) n i (get_or looks n 0) 0 q ∙ ages_at n i (omega (arith, h)) (omega (arith, k, q)))
      (same_or i n)

-- they are the list that has the same numbers
pub ages_are : (looks used : List ℕ) → length used ≡ 96 → ((i : ℕ) → i < 96 → get_or looks i 0 ≡ get_or used i 0) → ages_to looks 96 ≡ used
ages_are looks used size same =
    ext_get_or 0 (ages_to looks 96) used (ages_length looks 96 ∙ sym size)
    (λ (i : ℕ) (h : i < length (ages_to looks 96)).
    let k : i < 96 = omega (arith, h, ages_length looks 96) in
    let j : 96 ≤ 96 = omega arith in
    ages_at looks 96 i j k ∙ same i k)

-- with their clock they are put back beside the cache, or into it
pub with_uses_from : (c : Cache) (looks : List ℕ) → with_uses c (uses_from looks) ≡ aged c looks
unfolding aged
with_uses_from c looks = refl

-- ---- the run found last

pub last_below : (looks : List ℕ) (i : ℕ) (key : TileKey) → was_found looks i key ≡ true → i < 96
unfolding was_found
last_below looks i key e = ltb-true i 96 (and_left (ltb i 96) _ e)

-- ---- a run marked

module _ (looks : List ℕ) (i : ℕ) where
  abbrev age : ℕ
  age = after (get_or looks 608 0)

  abbrev timed : List ℕ
  timed = set looks 608 age

  abbrev used : List ℕ
  used = set timed i age

  abbrev checked : List ℕ
  checked = set used (96 + i) 1

  pub marked-length : length (marked looks i) ≡ length looks
  unfolding marked
  marked-length = length-set checked 610 i ∙ (length-set used (96 + i) 1 ∙ (length-set timed i age ∙ length-set looks 608 age))

  pub marked_other : (j : ℕ) → (j ≡ 608 → ⊥) → (j ≡ i → ⊥) → (j ≡ 96 + i → ⊥) → (j ≡ 610 → ⊥) → get_or (marked looks i) j 0 ≡ get_or looks j 0
  unfolding marked
  marked_other j a b d e =
      get_or-set_other checked 610 j i 0 e
      ∙ (get_or-set_other used (96 + i) j 1 0 d ∙ (get_or-set_other timed i j age 0 b ∙ get_or-set_other looks 608 j age 0 a))

  module _ (h : i < 96) (size : length looks ≡ 611) where
    pub marked_clock : get_or (marked looks i) 608 0 ≡ after (get_or looks 608 0)
    unfolding marked
    marked_clock =
        get_or-set_other checked 610 608 i 0 (λ (e : 608 ≡ 610). omega (arith, e))
        ∙ (
        get_or-set_other used (96 + i) 608 1 0 (λ (e : 608 ≡ 96 + i). omega (arith, e, h))
        ∙ (get_or-set_other timed i 608 age 0 (λ (e : 608 ≡ i). omega (arith, e, h)) ∙ get_or-set_same looks 608 age 0 (omega (arith, size)))
        )

    pub marked_age : get_or (marked looks i) i 0 ≡ after (get_or looks 608 0)
    unfolding marked
    marked_age =
        get_or-set_other checked 610 i i 0 (λ (e : i ≡ 610). omega (arith, e, h))
        ∙ (
        get_or-set_other used (96 + i) i 1 0 (λ (e : i ≡ 96 + i). omega (arith, e))
        ∙ get_or-set_same timed i age 0 (omega (arith, h, size, length-set looks 608 age))
        )

    pub marked_ages : ages_to (marked looks i) 96 ≡ set (ages_to looks 96) i (after (get_or looks 608 0))
    marked_ages =
        ages_are (marked looks i) (set (ages_to looks 96) i age) (length-set (ages_to looks 96) i age ∙ ages_length looks 96)
        (λ (j : ℕ) (k : j < 96).
        ⊎_elim
        (λ (q : j ≡ i). rw q (marked_age ∙ sym (get_or-set_same (ages_to looks 96) i age 0 (omega (arith, h, ages_length looks 96)))))
        (λ (q : j ≡ i → ⊥).
        marked_other j (λ (e : j ≡ 608). omega (arith, e, k)) q (λ (e : j ≡ 96 + i). omega (arith, e, k)) (λ (e : j ≡ 610). omega (arith, e, k))
        ∙ sym (get_or-set_other (ages_to looks 96) i j age 0 q ∙ ages_at looks 96 j (omega arith) k))
        (same_or j i))
