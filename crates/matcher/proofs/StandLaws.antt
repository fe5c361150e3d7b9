-- The points that a scan reads where they stand are the definition's: the one behind segment i is point i + 1 (`next_is`).
use Prim.Native.Nat.{ℕ, ◌+◌, ◌*◌, ◌<◌, ◌≤◌}
use mathlib.Core.Path.{◌≡◌, refl, ap, ◌∙◌}
use mathlib.Core.Bool.{Bool, true, false, cond}
use mathlib.Core.List.{List}
use native.Mathlib.Omega.{arith}
use lib.Dec.{ltb}
use borrow.Author.Tests.{lt-ltb, le-ltb, ne_eqb, ltb-true, ltb-false}
use Rattle.pack.specs.declared.Header.{Header}
use Rattle.pack.specs.declared.TileKey.{TileKey}
use Rattle.tile.specs.Layout as Layout
use Rattle.tile.specs.declared.Edge.{Edge}
use Rattle.geo.specs.Points as Points
use Rattle.matcher.specs.Scan.{point_of}
use Rattle.matcher.specs.Standing.{next_at, xy_at}

-- the place of point i + 1
place_by : (bs : List ℕ) (e : Edge) (i : ℕ) (t : Bool) → ltb i e.vertices ≡ t
    → Layout.place_at bs (cond t (Layout.vertex_start bs e.first_vertex + i * 6) (32 + e.to * 8)) ≡ Layout.point_of bs e (i + 1)
unfolding Layout.point_of
place_by bs e i true h =
    let below : i < e.vertices = ltb-true i e.vertices h in
    rw (ne_eqb (i + 1) 0 (omega arith), le-ltb e.vertices (i + 1) (omega (arith, below))) (ap (Layout.place_at bs) (omega arith))
place_by bs e i false h =
    let past : e.vertices ≤ i = ltb-false i e.vertices h in
    rw (ne_eqb (i + 1) 0 (omega arith), lt-ltb e.vertices (i + 1) (omega (arith, past)))

-- no elevation goes into a point
flat : (h : Header) (key : TileKey) (bs : List ℕ) (at : ℕ)
    → Points.point_of h key (xy_at bs at) ≡ Points.point_of h key (Layout.place_at bs at)
unfolding Points.point_of Layout.place_at
flat h key bs at = refl

pub next_is : (h : Header) (bs : List ℕ) (key : TileKey) (e : Edge) (base i : ℕ) → base ≡ Layout.vertex_start bs e.first_vertex
    → Points.point_of h key (xy_at bs (next_at base e i)) ≡ point_of h bs key e (i + 1)
unfolding point_of
next_is h bs key e base i is =
    flat h key bs (next_at base e i)
    ∙ ap (λ (b : ℕ). Points.point_of h key (Layout.place_at bs (next_at b e i))) is
    ∙ ap (Points.point_of h key) (place_by bs e i (ltb i e.vertices) refl)
