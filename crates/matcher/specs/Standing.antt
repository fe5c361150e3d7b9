-- Where the points of an edge stand in the tile's bytes, as a scan goes over them, and what it reads of them: this restates private code, and nothing public is
-- stated by it. That the point behind a segment, made of what is read, is `Scan.point_of`'s is proved (`next_is` of StandLaws).
use Rattle.std.specs.Prelude.{ℕ, ◌+◌, ◌*◌, cond, List, ltb}
use Rattle.pack.specs.Bytes.{u16_at}
use Rattle.tile.specs.declared.Edge.{Edge}
use Rattle.tile.specs.declared.Node.{Node}

-- the point behind segment i, the first vertex being at base: a vertex of 6 bytes, and past the vertices the end node
abbrev pub next_at : ℕ → Edge → ℕ → ℕ
next_at base e i = cond (ltb i e.vertices) (base + i * 6) (32 + e.to * 8)

-- x and y of the node or the vertex that stands at `at`, with no elevation
abbrev pub xy_at : List ℕ → ℕ → Node
xy_at bs at = record { x = u16_at bs at; y = u16_at bs (at + 2); z = 0 }
