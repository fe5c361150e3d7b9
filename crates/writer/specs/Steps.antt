-- What the tile writer's private functions answer and put, in the definitions' terms. It restates private code: nothing that a caller must believe rests on it.
use Rattle.std.specs.Prelude.{ℕ, ◌+◌, ◌*◌, ◌/◌, ◌%◌, Bool, ◌&&◌, cond, List, [], ◌∷◌, ◌++◌, eqb, leb, get_or}
use Rattle.pack.specs.Sector.{all_of}
use Rattle.tile.specs.Layout.{length}
use Rattle.tile.specs.Order.{follows}
use Rattle.writer.specs.Fields.{Field}
use Rattle.writer.specs.TileWritten.{field, Given, given, place_given, node_within}

-- ---- number 13

-- a tile of any key
abbrev pub anywhere : ℕ → ℕ → List ℕ → List ℕ → List ℕ → Given
anywhere size lon_um ns es vs = given (record { row = 0; col = 0 }) size lon_um ns es vs

-- by how many numbers nodes, edges and vertices have: counts that fit, in a tile that is short enough
abbrev pub short_of : ℕ → ℕ → ℕ → Bool
short_of nodes edges vertices =
    all_of (leb (nodes / 3) 0xffff ∷ leb (edges / 7) 0xffff ∷ leb (vertices / 3) 0xffff_ffff ∷ [])
    && leb (length (nodes / 3) (edges / 7) (vertices / 3)) 49152

abbrev pub sized_of : ℕ → ℕ → ℕ → Bool
sized_of nodes edges vertices =
    all_of (eqb (nodes % 3) 0 ∷ eqb (edges % 7) 0 ∷ eqb (vertices % 3) 0 ∷ []) && short_of nodes edges vertices

abbrev pub node_good : ℕ → List ℕ → ℕ → Bool
node_good size ns i = node_within size ns i && follows (place_given ns) i

-- ---- adjacency entries, put one behind the other

-- the entry of one end of an edge, where that end is the node
abbrev pub entry_if : ℕ → ℕ → ℕ → List ℕ
entry_if end node value = cond (eqb end node) (value ∷ []) []

-- the entries of an edge at a node
abbrev pub entries_of : List ℕ → ℕ → ℕ → List ℕ
entries_of es node i = entry_if (get_or es (i * 7) 0) node (i * 2) ++ entry_if (get_or es (i * 7 + 1) 0) node (i * 2 + 1)

-- fields of entries from number j on
unfoldable pub entry_fields : ℕ → ℕ → List ℕ → List Field
entry_fields base j [] = []
entry_fields base j (v ∷ vs) = field (base + j * 2) 2 v ∷ entry_fields base (j + 1) vs
