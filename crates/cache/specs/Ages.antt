-- The lookups of one call that makes many: "A call checks each run it lands on once" (document 01, "Refused"). Each is `Lookups.got`'s, but that a
-- marked run is not read again, and that the run found last is tried first. This restates private code: what a road means by its lookups is
-- `Reader.plain` of the cache's look, and that these give the same is `stands_at`, `stands_found` (`Stands`). What they read and change is taken
-- out of the cache once, as 611 numbers:
--   i, 96 + i             the age of page i; 1 where its run was checked
--   192 + i, 288 + i      row + 1 and column of the ready tile on page i; row 0 where there is none
--   384 + i               the length of the run that begins there
--   480 + i, 544 + i      row + 1 and column of the ring's key i; row 0 where there is none
--   608, 609              the clock; how many pages there are, at most 96
--   610                   the page of the run that was found last
use Rattle.refusal.specs.declared.Refusal.{Refusal}
use Rattle.std.specs.Prelude.{Option, Some, None, Result, Ok, Err}
use Rattle.std.specs.Prelude.{is_some}
use Rattle.std.specs.Prelude.{ℕ, zero, suc, ◌+◌, ◌*◌, min, Bool, cond, ◌&&◌, List, [], length, replicate, ◌==◌, nat_le, nat_lt, slice_index, slice_index_or, slice_set}
use Rattle.pack.specs.declared.TileKey.{TileKey}
use Rattle.cache.specs.declared.Aging.{Aging}
use Rattle.cache.specs.declared.Cache.{Cache}
use Rattle.cache.specs.declared.Pages.{Pages}
use Rattle.cache.specs.declared.Ring.{Ring}
use Rattle.cache.specs.declared.Slot.{Slot}
use Rattle.cache.specs.declared.Lookup.{Lookup}
use Rattle.cache.specs.Runs.{slot_at}
use Rattle.cache.specs.Search.{lowest}
use Rattle.cache.specs.Keys.{key_at}
use Rattle.cache.specs.Lookups.{run_bytes, passes, after}

-- ---- before the first lookup

abbrev pub row_of : Option TileKey → ℕ
row_of None = 0
row_of (Some key) = key.row + 1

abbrev pub col_of : Option TileKey → ℕ
col_of None = 0
col_of (Some key) = key.col

-- the key of the tile that is ready on a page
abbrev pub ready_key : Slot → Option TileKey
ready_key s = cond s.ready s.key None

abbrev pub page_in : List ℕ → ℕ → ℕ → Slot → List ℕ
page_in looks i age s =
    slice_set (slice_set (slice_set (slice_set looks i age) (192 + i) (row_of (ready_key s))) (288 + i) (col_of (ready_key s))) (384 + i) s.len

-- the first n pages
unfoldable pub pages_in : List ℕ → Pages → ℕ → List ℕ
pages_in looks g zero = looks
pages_in looks g (suc n) = page_in (pages_in looks g n) n (slice_index g.used n) (slot_at g.slots n)

abbrev pub place_in : List ℕ → ℕ → Option TileKey → List ℕ
place_in looks i k = slice_set (slice_set looks (480 + i) (row_of k)) (544 + i) (col_of k)

-- the first n places of the ring
unfoldable pub ring_in : List ℕ → Ring → ℕ → List ℕ
ring_in looks r zero = looks
ring_in looks r (suc n) = place_in (ring_in looks r n) n (key_at r n)

abbrev pub most : ℕ → ℕ
most count = min count 96

-- no run is marked
unfoldable pub lookups_of : Cache → List ℕ
lookups_of c =
    slice_set (slice_set (ring_in (pages_in (replicate 611 0) c.pages 96) c.missing 64) 608 c.pages.clock) 609 (most c.pages.count)

-- ---- afterwards

-- the ages of the first n pages, 0 for the others
unfoldable pub ages_to : List ℕ → ℕ → List ℕ
ages_to looks zero = replicate 96 0
ages_to looks (suc n) = slice_set (ages_to looks n) n (slice_index looks n)

abbrev pub ages_of : List ℕ → List ℕ
ages_of looks = ages_to looks 96

abbrev pub uses_from : List ℕ → Aging
uses_from looks = record { clock = slice_index looks 608; used = ages_of looks }

-- the cache with that clock and those ages
unfoldable pub aged : Cache → List ℕ → Cache
aged c looks = record {
  pages = record { slots = c.pages.slots; used = ages_of looks; count = c.pages.count; clock = slice_index looks 608 };
  missing = c.missing;
  loading = c.loading;
  pending = c.pending;
  loads = c.loads;
}

-- ---- a lookup

-- row + 1 and column of a key stand at two places
abbrev pub is_key_at : List ℕ → ℕ → ℕ → TileKey → Bool
is_key_at looks row col key = slice_index looks row == key.row + 1 && slice_index looks col == key.col

unfoldable pub in_ring : List ℕ → TileKey → Bool
in_ring looks key = is_some (lowest (λ (i : ℕ). is_key_at looks (480 + i) (544 + i) key) 64)

abbrev pub or_past : Option ℕ → ℕ
or_past (Some i) = i
or_past None = 96

-- the lowest page on which the tile is ready; 96 where there is none
unfoldable pub page_of : List ℕ → TileKey → ℕ
page_of looks key = or_past (lowest (λ (i : ℕ). nat_lt i 96 && is_key_at looks (192 + i) (288 + i) key) (slice_index looks 609))

-- the run lies in the arena
abbrev pub inside : List ℕ → ℕ → ℕ → Bool
inside arena first len = nat_le (first * 8192 + len) (length arena)

-- a mark spares the check, and not the test that the run is there
abbrev pub known : List ℕ → List ℕ → ℕ → ℕ → TileKey → ℕ → Bool
known looks arena i len key size = cond (slice_index looks (96 + i) == 1) (inside arena i len) (passes arena i len key size)

-- the run from page i on is the most recently used, checked, and found last
unfoldable pub marked : List ℕ → ℕ → List ℕ
marked looks i = let age = after (slice_index looks 608) in slice_set (slice_set (slice_set (slice_set looks 608 age) i age) (96 + i) 1) 610 i

-- an answer, and the numbers after it
pub record Hit : Type 0 where
  pub answer : Result Lookup Refusal
  pub looks : List ℕ

abbrev pub hit_run : Bool → List ℕ → ℕ → Hit
hit_run ok looks i =
    cond ok (record { answer = Ok (Lookup.Ready i (slice_index looks (384 + i))); looks = marked looks i }) (record { answer = Err Refusal.BadState; looks = looks })

-- on the run from page i on
abbrev pub hit_here : List ℕ → List ℕ → ℕ → TileKey → ℕ → Hit
hit_here looks arena size key i = hit_run (known looks arena i (slice_index looks (384 + i)) key size) looks i

abbrev pub hit_page : List ℕ → List ℕ → ℕ → TileKey → ℕ → Hit
hit_page looks arena size key i = cond (nat_le 96 i) (record { answer = Ok Lookup.Absent; looks = looks }) (hit_here looks arena size key i)

-- the run from page i on is the key's, and was found before: a run that is marked was found, so that its key is not in the ring and is ready on no
-- lower page
unfoldable pub was_found : List ℕ → ℕ → TileKey → Bool
was_found looks i key = nat_lt i 96 && (slice_index looks (96 + i) == 1 && is_key_at looks (192 + i) (288 + i) key)

-- the run that was found last, if it is the key's; else the ring first, then the lowest ready run
unfoldable pub look_up : List ℕ → List ℕ → ℕ → TileKey → Hit
look_up looks arena size key =
    let last = slice_index_or looks 610 0 in
    cond (was_found looks last key) (hit_here looks arena size key last)
    (cond (in_ring looks key) (record { answer = Ok Lookup.Missing; looks = looks }) (hit_page looks arena size key (page_of looks key)))

-- the bytes of a run; none where it would pass the arena's end, which a run that a lookup answered never does
unfoldable pub bytes_of : List ℕ → ℕ → ℕ → List ℕ
bytes_of arena first len = cond (inside arena first len) (run_bytes arena first len) []
