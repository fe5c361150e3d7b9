-- Evicting and placing: `cache.rs`, evict ("empty every tile overlapping the `pages` pages from `first`": the slots and their ages, as
-- far as they lie below the count), and in load the writing of a new run. A page past the last changes nothing: `set` past the end of a
-- list is the list. On well-formed runs the pages of a new run were emptied before, so that to point them at the head, as the Rust does,
-- and to write them whole is the same.
use Rattle.std.specs.Prelude.{Some, None}
use Rattle.std.specs.Prelude.{◌≡◌, ℕ, zero, suc, ◌+◌, ◌-◌, false, cond, List, nat_lt, slice_index, slice_index_or, slice_set}
use Rattle.pack.specs.declared.TileKey.{TileKey}
use Rattle.cache.specs.declared.Slot.{Slot}
use Rattle.cache.specs.declared.Pages.{Pages}
use Rattle.cache.specs.declared.Part.TheVariants as Part
use Rattle.cache.specs.Runs.{span, empty_slot, slot_at, Kind, bare, run, piece, kind_of, kind_at, is_run}

-- n elements of a list from `at` on set to v
unfoldable pub fill : {A : Type 0} → ℕ → ℕ → A → List A → List A
fill zero at v l = l
fill (suc n) at v l = fill n (at + 1) v (slice_set l at v)

-- ---- evicting

-- the first page of the run that page p is of: `part_of.unwrap_or(page)`
abbrev pub head_of : ℕ → Kind → ℕ
head_of p (piece h) = h
head_of p run = p
head_of p bare = p

-- pages of the run that starts with this slot; one where none does
abbrev pub whole_of : Slot → ℕ
whole_of s = cond (is_run (kind_of s)) (span s.len) 1

-- of n pages from h on those below the count
abbrev pub room_of : ℕ → ℕ → ℕ → ℕ
room_of h n count = cond (nat_lt n (count - h)) n (count - h)

-- n pages from `from` on emptied, and their ages
abbrev pub clear_run : ℕ → ℕ → Pages → Pages
clear_run n from g = record { slots = fill n from empty_slot g.slots; used = fill n from 0 g.used; count = g.count; clock = g.clock }

-- the run at h emptied, as far as it lies below the count
abbrev pub clear_at : Pages → ℕ → Pages
clear_at g h = clear_run (room_of h (whole_of (slot_at g.slots h)) g.count) h g

-- the whole run that page p is of emptied
unfoldable pub evicted_page : Pages → ℕ → Pages
evicted_page g p = clear_at g (head_of p (kind_at g.slots p))

-- each run that has one of n pages from `first` on emptied, page by page
unfoldable pub evicted : ℕ → ℕ → Pages → Pages
evicted zero first g = g
evicted (suc n) first g = evicted n (first + 1) (evicted_page g first)

-- page q is in d as it is in g, slot and age
pub record Same (g d : Pages) (q : ℕ) : Type 0 where
  pub slot : slot_at d.slots q ≡ slot_at g.slots q
  pub age : slice_index_or d.used q 0 ≡ slice_index g.used q

-- ---- placing

-- a later page of the run at h
abbrev pub piece_slot : ℕ → Slot
piece_slot h = record { key = None; len = 0; ready = false; part = Part.Of h }

-- the first page of a tile of len bytes that is not loaded yet
abbrev pub head_slot : TileKey → ℕ → Slot
head_slot key len = record { key = Some key; len = len; ready = false; part = Part.Head }

abbrev pub with_slots : List Slot → Pages → Pages
with_slots v g = record { slots = v; used = g.used; count = g.count; clock = g.clock }

-- n pages from `from` on written as pieces of the run at h
abbrev pub piece_run : ℕ → ℕ → ℕ → Pages → Pages
piece_run n from h g = with_slots (fill n from (piece_slot h) g.slots) g

-- a run of span len pages written from `slot` on: the head, then its pieces; ages stay
abbrev pub placed : Pages → ℕ → TileKey → ℕ → Pages
placed g slot key len = piece_run (span len - 1) (slot + 1) slot (with_slots (slice_set g.slots slot (head_slot key len)) g)
