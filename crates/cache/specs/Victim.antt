-- The run to replace: `cache.rs`, victim (document 01: "the run whose youngest page is oldest, lowest start among equals"), a greatest
-- over the starts of a least over the pages. Empty pages count as oldest; ages are wrapping differences of the clock. No victim where
-- the count is less than the pages wanted, or above the 96 slots, which number 12 refuses before.
use Rattle.std.specs.Prelude.{Option, Some, None}
use Rattle.std.specs.Prelude.{◌≡◌, ℕ, zero, suc, ◌+◌, ◌-◌, ◌%◌, ◌<◌, ◌≤◌, cond, List, nat_lt, slice_index}
use Rattle.cache.specs.declared.Slot.{Slot}
use Rattle.cache.specs.declared.Pages.{Pages}
use Rattle.cache.specs.declared.victim.Best.{Best}
use Rattle.cache.specs.Runs.{slot_at, kind_of, kind_at, is_run}
use Rattle.cache.specs.Evict.{head_of}

-- ---- ages

-- `now.wrapping_sub(then)` of two clocks
unfoldable pub since : ℕ → ℕ → ℕ
since now then = (now + 0x1_0000_0000 - then) % 0x1_0000_0000

-- the age of the run of slot s, last used at `used`; `u32::MAX` where it starts none. On well-formed runs a page has a key just where a run
-- starts (`key_is_run`)
abbrev pub slot_age : Slot → ℕ → ℕ → ℕ
slot_age s clock used = cond (is_run (kind_of s)) (since clock used) 0xffff_ffff

-- of the run at h
abbrev pub head_age : Pages → ℕ → ℕ
head_age g h = slot_age (slot_at g.slots h) g.clock (slice_index g.used h)

-- the age of the run that page p is of
unfoldable pub age : Pages → ℕ → ℕ
age g p = head_age g (head_of p (kind_at g.slots p))

abbrev pub lesser : ℕ → ℕ → ℕ
lesser a b = cond (nat_lt a b) a b

-- the least of f below the bound, `u32::MAX` of none
unfoldable pub least_of : (ℕ → ℕ) → ℕ → ℕ
least_of f zero = 0xffff_ffff
least_of f (suc n) = lesser (f n) (least_of f n)

-- the age of the youngest of n pages from `start` on
abbrev pub youngest : Pages → ℕ → ℕ → ℕ
youngest g n start = least_of (λ (i : ℕ). age g (start + i)) n

-- ---- the victim

-- the start `at` in place of the best so far, where it is older
abbrev pub better : Best → ℕ → ℕ → Best
better b at age = cond (nat_lt b.age age) (record { at = at; age = age }) b

-- the first greatest of f up to the bound, with it
unfoldable pub best_of : (ℕ → ℕ) → ℕ → Best
best_of f zero = record { at = 0; age = f 0 }
best_of f (suc n) = better (best_of f n) (suc n) (f (suc n))

-- among the starts whose pages lie below the count
abbrev pub victim_in : Pages → ℕ → Option ℕ
victim_in g pages = cond (nat_lt g.count pages) None (Some (best_of (youngest g pages) (g.count - pages)).at)

abbrev pub victim : Pages → ℕ → Option ℕ
victim g pages = cond (nat_lt 96 g.count) None (victim_in g pages)

-- b is the first greatest of f up to n
pub record First (f : ℕ → ℕ) (n : ℕ) (b : Best) : Type 0 where
  pub within : b.at ≤ n
  pub age : b.age ≡ f b.at
  pub most : (j : ℕ) → j ≤ n → f j ≤ b.age
  pub first : (j : ℕ) → j < b.at → f j < b.age

-- what is said of a victim: it lies below the count, no other start has an older youngest page, and none below it one as old
pub record Chosen (g : Pages) (pages s : ℕ) : Type 0 where
  pub within : s + pages ≤ g.count
  pub most : (j : ℕ) → j + pages ≤ g.count → youngest g pages j ≤ youngest g pages s
  pub first : (j : ℕ) → j < s → youngest g pages j < youngest g pages s

-- ---- ages taken once: this restates private code

-- the age of the run at h, of slot s and last used at `used`; past the last page there is none
abbrev pub age_at : Slot → ℕ → ℕ → ℕ → ℕ
age_at s h clock used = cond (nat_lt h 96) (slot_age s clock used) 0xffff_ffff

-- l holds the age of each page below n
abbrev pub Aged : Pages → List ℕ → ℕ → Type 0
Aged g l n = (i : ℕ) → i < n → slice_index l i ≡ age g i

-- the least of n elements of l from `start` on
abbrev pub youngest_in : List ℕ → ℕ → ℕ → ℕ
youngest_in l n start = least_of (λ (i : ℕ). slice_index l (start + i)) n

-- the victim by the ages of the pages, for the crates above (`oldest_is`)
abbrev pub oldest : List ℕ → ℕ → ℕ → Option ℕ
oldest l count pages =
    cond (nat_lt 96 count) None (cond (nat_lt count pages) None (Some (best_of (youngest_in l pages) (count - pages)).at))
