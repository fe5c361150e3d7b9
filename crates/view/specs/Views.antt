-- The tile view: a record that holds the lent bytes of a tile beside the numbers of its head.
use Rattle.std.specs.Prelude.{Option, is_some, Result, Ok, Err}
use Rattle.refusal.specs.declared.Refusal.{Refusal}
use Rattle.std.specs.Prelude.{ℕ, Bool, false, List}
use Rattle.std.specs.Borrow.{Bor}
use Rattle.pack.specs.declared.TileKey.{TileKey}
use Rattle.tile.specs.declared.Head.{Head}
use Rattle.tile.specs.Layout.{head_of}
use Rattle.tile.specs.Parse as Parse
use Rattle.tile.specs.Readers as Readers
use Rattle.view.specs.declared.Tile.{Tile}

-- the bytes as they were lent, the pointer with them, beside the numbers of their head
abbrev pub view_of : Bor (List ℕ) → Tile
view_of bs = record { bytes = bs; head = head_of bs.now }

-- ---- from bytes that may be no tile: `Tile::parse`, then `node_at`

abbrev pub node_at_in : Result Head Refusal → List ℕ → ℕ → ℕ → Result (Option ℕ) Refusal
node_at_in (Err e) bs x y = Err e
node_at_in (Ok h) bs x y = Ok (Readers.node_at bs x y)

abbrev pub node_at : List ℕ → TileKey → ℕ → ℕ → ℕ → Result (Option ℕ) Refusal
node_at bs key size x y = node_at_in (Parse.parse bs key size) bs x y

-- a node is found
abbrev pub is_at : Result (Option ℕ) Refusal → Bool
is_at (Ok found) = is_some found
is_at (Err e) = false
