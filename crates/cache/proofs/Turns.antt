-- The turns of the loops that clear, evict and write runs: one page and the rest, none left, and past the last page.
use Rattle.std.specs.Prelude.{Option, Some, None}
use Rattle.std.proofs.Common.{◌≡◌, ℕ, zero, suc, ◌+◌, ◌-◌, ◌<◌, ◌≤◌, List, length, set, refl, ap, ◌∙◌, arith, length-set}
use lib.ListN.{get_or-eq_default}
use lib.Seq.{set_out}
use Rattle.pack.specs.declared.TileKey.{TileKey}
use Rattle.cache.specs.declared.Slot.{Slot}
use Rattle.cache.specs.declared.Pages.{Pages}
use Rattle.cache.specs.declared.Part.TheVariants as Part
use Rattle.cache.specs.Runs.{span, empty_slot, kind_by, kind_of}
use Rattle.cache.specs.Evict.{head_of, clear_run, clear_at, evicted_page, evicted, piece_run, piece_slot, head_slot, with_slots, placed}
use Rattle.cache.proofs.FillLaws.{less_one, fill-length, fill_turn, fill_none, fill_past}

-- a page that points at none is its own head
pub head_self : (p : ℕ) (m : Option TileKey) → p ≡ head_of p (kind_by Part.Head m)
head_self p None = refl
head_self p (Some k) = refl

-- both arrays have 96 elements
pub record Full (g : Pages) : Type 0 where
  pub slots : length g.slots ≡ 96
  pub used : length g.used ≡ 96

abbrev pub clear_one : ℕ → Pages → Pages
clear_one at g = record { slots = set g.slots at empty_slot; used = set g.used at 0; count = g.count; clock = g.clock }

abbrev pub piece_one : ℕ → ℕ → Pages → Pages
piece_one h at g = with_slots (set g.slots at (piece_slot h)) g

pub full_cleared : (n at : ℕ) (g : Pages) → Full g → Full (clear_run n at g)
full_cleared n at g f = record { slots = fill-length empty_slot n at g.slots ∙ f.slots; used = fill-length 0 n at g.used ∙ f.used }

pub full_one : (at : ℕ) (g : Pages) → Full g → Full (clear_one at g)
full_one at g f = record { slots = length-set g.slots at empty_slot ∙ f.slots; used = length-set g.used at 0 ∙ f.used }

pub full_page : (g : Pages) (p : ℕ) → Full g → Full (evicted_page g p)
unfolding evicted_page
full_page g p f = full_cleared _ _ g f

module _ (n at : ℕ) (g : Pages) where
  pub clear_turn : 0 < n → clear_run n at g ≡ clear_run (n - 1) (at + 1) (clear_one at g)
  clear_turn h = rw (fill_turn empty_slot n at g.slots h, fill_turn 0 n at g.used h)

  pub clear_none : n ≤ 0 → clear_run n at g ≡ g
  clear_none h = rw (fill_none empty_slot n at g.slots h, fill_none 0 n at g.used h)

  pub clear_past : Full g → 96 ≤ at → clear_run n at g ≡ g
  clear_past f h = rw (fill_past empty_slot n at g.slots (omega (arith, f.slots)), fill_past 0 n at g.used (omega (arith, f.used)))

  pub piece_turn : (k : ℕ) → 0 < n → piece_run n at k g ≡ piece_run (n - 1) (at + 1) k (piece_one k at g)
  piece_turn k h = rw (fill_turn (piece_slot k) n at g.slots h)

  pub piece_none : (k : ℕ) → n ≤ 0 → piece_run n at k g ≡ g
  piece_none k h = rw (fill_none (piece_slot k) n at g.slots h)

  pub piece_past : (k : ℕ) → length g.slots ≤ at → piece_run n at k g ≡ g
  piece_past k h = rw (fill_past (piece_slot k) n at g.slots h)

pub page_past : (p : ℕ) (g : Pages) → Full g → 96 ≤ p → evicted_page g p ≡ g
unfolding evicted_page
page_past p g f h =
    let e : length g.slots ≤ p = omega (arith, f.slots) in
    ap (λ (s : Slot). clear_at g (head_of p (kind_of s))) (get_or-eq_default g.slots empty_slot e) ∙ clear_past _ p g f h

pub evict_turn : (n at : ℕ) (g : Pages) → 0 < n → evicted n at g ≡ evicted (n - 1) (at + 1) (evicted_page g at)
unfolding evicted
evict_turn zero at g h = absurd (omega arith)
evict_turn (suc n) at g h = rw (less_one n)

pub evict_none : (n at : ℕ) (g : Pages) → n ≤ 0 → evicted n at g ≡ g
unfolding evicted
evict_none zero at g h = refl
evict_none (suc n) at g h = absurd (omega arith)

pub evict_past : (n at : ℕ) (g : Pages) → Full g → 96 ≤ at → evicted n at g ≡ g
unfolding evicted
evict_past zero at g f h = refl
evict_past (suc n) at g f h = ap (evicted n (at + 1)) (page_past at g f h) ∙ evict_past n (at + 1) g f (omega arith)

pub place_past : (g : Pages) (slot : ℕ) (key : TileKey) (len : ℕ) → length g.slots ≤ slot → placed g slot key len ≡ g
place_past g slot key len h =
    ap (λ (l : List Slot). with_slots l g)
    (
    fill_past (piece_slot slot) (span len - 1) (slot + 1) (set g.slots slot (head_slot key len)) (rw length-set (omega arith))
    ∙ set_out g.slots slot (head_slot key len) h
    )
