-- Keys, the ring of missing tiles and the ready run of a key: `cache.rs`, `forget`, and the two searches of `get`.
use Rattle.std.specs.Prelude.{Option, Some, None}
use Rattle.std.specs.Prelude.{is_some}
use Rattle.std.specs.Prelude.{ℕ, ◌+◌, ◌%◌, Bool, false, ◌&&◌, ◌==◌, slice_index_or, slice_set}
use Rattle.pack.specs.declared.TileKey.{TileKey}
use Rattle.cache.specs.declared.Slot.{Slot}
use Rattle.cache.specs.declared.Pages.{Pages}
use Rattle.cache.specs.Runs.{slot_at}
use Rattle.cache.specs.declared.Ring.{Ring}
use Rattle.cache.specs.Search.{lowest}

abbrev pub same_key : TileKey → TileKey → Bool
same_key a b = a.row == b.row && a.col == b.col

-- `slot.key == Some(key)`
abbrev pub holds : Option TileKey → TileKey → Bool
holds (Some k) key = same_key k key
holds None key = false

-- ---- the ring

-- a place that no key has taken yet
abbrev pub empty_place : Option TileKey
empty_place = None

-- the key at place i; past the last place none
abbrev pub key_at : Ring → ℕ → Option TileKey
key_at r i = slice_index_or r.keys i empty_place

-- whether one of the 64 places holds the key
unfoldable pub in_ring : Ring → TileKey → Bool
in_ring r key = is_some (lowest (λ (i : ℕ). holds (key_at r i) key) 64)

-- the key in the ring's next place, and the place after it next, round the ring
unfoldable pub forgotten : Ring → TileKey → Ring
forgotten r key = record { keys = slice_set r.keys r.next (Some key); next = (r.next + 1) % 64 }

-- ---- the ready run

-- `slot.ready && slot.key == Some(key)`
unfoldable pub is_ready : TileKey → Slot → Bool
is_ready key s = s.ready && holds s.key key

-- the lowest page below the count that starts a ready run of the key
unfoldable pub ready_at : Pages → TileKey → Option ℕ
ready_at g key = lowest (λ (i : ℕ). is_ready key (slot_at g.slots i)) g.count
