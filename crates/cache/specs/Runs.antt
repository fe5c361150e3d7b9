-- Page runs: `cache.rs`, Slot and span ("the first of a tile's pages holds its key and length, the rest point back at it"), and when
-- they are well-formed: document 01's number 12 for "page runs that overlap, pass the page count or lack a part". A later page whose run
-- does not reach it is of a run that lacks its first part. The test stands here twice, as the Bool that `runs_ok` answers, page by page, and
-- as facts of each page (`Good`). Every page has a slot: past the last stands the empty one.
use Rattle.std.specs.Prelude.{Option, Some, None}
use Rattle.pack.specs.declared.TileKey.{TileKey}
use Rattle.std.specs.Prelude.{◌≡◌, ℕ, ◌+◌, ◌-◌, ◌/◌, ◌<◌, ◌≤◌, Bool, true, false, ◌&&◌, List, length, ◌==◌, nat_le, nat_lt, slice_index_or}
unfoldable pub use Rattle.tile.specs.Below.{all_below}
use Rattle.cache.specs.declared.Slot.{Slot}
use Rattle.cache.specs.declared.Pages.{Pages}
use Rattle.cache.specs.declared.Part.{Part}

-- ---- a page

-- pages that a tile of len bytes takes: len / 8192 rounded up, and 1 for no bytes
unfoldable pub span : ℕ → ℕ
span len = (len - 1) / 8192 + 1

-- the Rust's `Slot::default()`
abbrev pub empty_slot : Slot
empty_slot = record { key = None; len = 0; ready = false; part = Part.Head }

-- the slot of page i; past the last page the empty one
abbrev pub slot_at : List Slot → ℕ → Slot
slot_at s i = slice_index_or s i empty_slot

-- what a page is: nothing, the first of a run, or a later page of the run at h
pub data Kind : Type 0 where
  bare : Kind
  run : Kind
  piece : ℕ → Kind

-- a page that points at another is a piece, whatever its key; a first page is a run where it has a key
abbrev pub kind_by : Part → Option TileKey → Kind
kind_by (Part.Of h) k = piece h
kind_by Part.Head (Some k) = run
kind_by Part.Head None = bare

abbrev pub kind_of : Slot → Kind
kind_of s = kind_by s.part s.key

abbrev pub kind_at : List Slot → ℕ → Kind
kind_at s p = kind_of (slot_at s p)

-- the page after the last of the run at p
abbrev pub end_of : List Slot → ℕ → ℕ
end_of s p = p + span (slot_at s p).len

-- ---- tests of a page

abbrev pub is_run : Kind → Bool
is_run run = true
is_run bare = false
is_run (piece h) = false

-- a later page of the run at p
abbrev pub is_piece : ℕ → Kind → Bool
is_piece p run = false
is_piece p bare = false
is_piece p (piece h) = h == p

abbrev pub no_key : Option TileKey → Bool
no_key None = true
no_key (Some k) = false

-- ---- well-formed, as a test

-- the n pages after p are pieces of the run at p
abbrev pub pieces_ok : List Slot → ℕ → ℕ → Bool
pieces_ok s p n = all_below (λ (i : ℕ). is_piece p (kind_at s (p + 1 + i))) n

-- the run at p lies within the count and has all its pieces
unfoldable pub run_ok : List Slot → ℕ → ℕ → Bool
run_ok s count p = nat_lt p count && (nat_le (span (slot_at s p).len) (count - p) && pieces_ok s p (span (slot_at s p).len - 1))

-- page p, which points at h, is of a run at h, before it: one that reaches it, and it has no key, which would be a run over another. What
-- else stands in such a page nobody reads
unfoldable pub piece_ok : List Slot → ℕ → ℕ → Bool
piece_ok s p h = nat_lt h p && (is_run (kind_at s h) && (nat_lt (p - h) (span (slot_at s h).len) && no_key (slot_at s p).key))

-- a bare page is of no run, whatever its length and its mark are
abbrev pub kind_ok : List Slot → ℕ → ℕ → Kind → Bool
kind_ok s count p run = run_ok s count p
kind_ok s count p (piece h) = piece_ok s p h
kind_ok s count p bare = true

abbrev pub page_ok : List Slot → ℕ → ℕ → Bool
page_ok s count p = kind_ok s count p (kind_at s p)

-- the count is at most 96, and each of the 96 pages is as it must be
abbrev pub runs_ok : Pages → Bool
runs_ok g = nat_le g.count 96 && all_below (page_ok g.slots g.count) 96

-- ---- well-formed, as facts

-- the run at p lies within the count, and each later page of it points at p
pub record RunGood (s : List Slot) (count p : ℕ) : Type 0 where
  pub within : end_of s p ≤ count
  pub pieces : (q : ℕ) → p < q → q < end_of s p → kind_at s q ≡ piece p

-- page p, which points at h, lies in a run that starts at h and has no key
pub record PieceGood (s : List Slot) (p h : ℕ) : Type 0 where
  pub later : h < p
  pub head : kind_at s h ≡ run
  pub inside : p < end_of s h
  pub keyless : no_key (slot_at s p).key ≡ true

abbrev pub KindGood : List Slot → ℕ → ℕ → Kind → Type 0
KindGood s count p run = RunGood s count p
KindGood s count p (piece h) = PieceGood s p h
KindGood s count p bare = Unit

abbrev pub PageGood : List Slot → ℕ → ℕ → Type 0
PageGood s count p = KindGood s count p (kind_at s p)

-- every page, those past the last too
abbrev pub Good : List Slot → ℕ → Type 0
Good s count = (p : ℕ) → PageGood s count p

-- well-formed pages: 96 slots, no more of them in use, and the runs good
pub record Sound (g : Pages) : Type 0 where
  pub size : length g.slots ≡ 96
  pub small : g.count ≤ 96
  pub good : Good g.slots g.count
