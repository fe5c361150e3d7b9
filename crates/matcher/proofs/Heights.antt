-- The height of a match is the Rust's: what `height` holds back, to ±1,000,000, is never reached between two points of a tile, at any fraction that a
-- projection gives (`height_exact`). The idea: heights lie from -5,000 to 126,070, so that two are at most 131,070 apart, and a part of that is no more.
use Prim.Native.Nat.{ℕ, ◌+◌, ◌-◌, ◌≤◌, ◌<◌}
use mathlib.Core.Path.{◌≡◌}
use mathlib.Core.Bool.{Bool, true, false, cond}
use mathlib.Core.List.{List}
use native.Mathlib.Omega.{arith}
use lib.Dec.{ltb, eqb}
use lib.IntN.{ℤ, pos, negsuc}
use lib.Ieee.{Float}
use lib.ListN.{get_or}
use Rattle.num.proofs.PartLaws.{IsPart}
use Rattle.pack.proofs.Laws.{u16_below}
use Rattle.pack.proofs.Signed.{up, dn, lt_no}
use Rattle.tile.specs.Layout as Layout
use Rattle.tile.specs.declared.Node.{Node}
use Rattle.tile.specs.declared.Edge.{Edge}
use Rattle.geo.specs.Points.{z_dm}
use Rattle.geo.specs.Flat.{project_of}
use Rattle.geo.specs.declared.Metres.{Metres}
use Rattle.geo.proofs.FractionLaws.{project_part}
use Rattle.geo.proofs.PartWay.{part_way_of, Above, part_way_bounds, height_least, height_most}
use Rattle.matcher.specs.Score.{height, held_height}

-- within ±1,000,000 nothing is held
held_idle : (z : ℤ) → up z ≤ dn z + 1000000 → dn z ≤ up z + 1000000 → held_height z ≡ z
held_idle z p q = rw (lt_no z (negsuc 999999) (omega arith), lt_no (pos 1000000) z (omega arith))

pub nodes_height_exact : (p q : Node) (t : Float) → p.z ≤ 65535 → q.z ≤ 65535 → IsPart t → height (z_dm p) (z_dm q) t ≡ part_way_of (z_dm p) (z_dm q) t
unfolding height
nodes_height_exact p q t p_fits q_fits part =
    let bounds : Above (part_way_of (z_dm p) (z_dm q) t) (z_dm p) 131070 × Above (z_dm p) (part_way_of (z_dm p) (z_dm q) t) 131070
    = part_way_bounds (z_dm p) (z_dm q) t 131070 0 (omega arith) (omega arith)
    (omega (arith, height_least p, height_most p p_fits, height_least q, height_most q q_fits))
    (omega (arith, height_least p, height_most p p_fits, height_least q, height_most q q_fits)) part in
    held_idle (part_way_of (z_dm p) (z_dm q) t) (omega (arith, bounds, height_most p p_fits)) (omega (arith, bounds, height_least p))

-- ---- of a tile's bytes

module _ (bs : List ℕ) (bytes : (i : ℕ) → get_or bs i 0 < 256) where
  place_fits : (at : ℕ) → (Layout.place_at bs at).z ≤ 65535
  unfolding Layout.place_at
  place_fits at = omega (arith, u16_below bs bytes (at + 4))

  point_fits : (e : Edge) (index : ℕ) → (Layout.point_of bs e index).z ≤ 65535
  unfolding Layout.point_of
  point_fits e index = by (eqb index 0) (ltb e.vertices index)
    where
      by : (first past : Bool)
          → (cond first (Layout.node_of bs e.from) (cond past (Layout.node_of bs e.to) (Layout.vertex_of bs (e.first_vertex + index - 1)))).z ≤ 65535
      by true past = place_fits (Layout.node_start e.from)
      by false true = place_fits (Layout.node_start e.to)
      by false false = place_fits (Layout.vertex_start bs (e.first_vertex + index - 1))

  -- the points i and k of any edge, and the fraction of any projection
  pub height_exact : (e : Edge) (i k : ℕ) (p a b : Metres)
      → height (z_dm (Layout.point_of bs e i)) (z_dm (Layout.point_of bs e k)) (project_of p a b).fraction
      ≡ part_way_of (z_dm (Layout.point_of bs e i)) (z_dm (Layout.point_of bs e k)) (project_of p a b).fraction
  height_exact e i k p a b =
      nodes_height_exact (Layout.point_of bs e i) (Layout.point_of bs e k) (project_of p a b).fraction (point_fits e i) (point_fits e k) (project_part p a b)
