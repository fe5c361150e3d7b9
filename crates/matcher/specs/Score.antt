-- What an edge in reach of the fix costs, and the candidate that it makes: `matcher.rs`, `search`, after the scan of its points. Each float
-- operation is rounded once, in the Rust's order.
use Rattle.std.specs.Prelude.{ℕ, ◌+◌, Bool, true, false, ◌&&◌, ◌||◌, not, cond, List, eqb, ℤ, pos, negsuc, ◌+ℤ◌, ◌-ℤ◌, Float, Option, Some, None}
use Rattle.std.specs.Float.{binary32}
use Rattle.std.specs.Float.Ieee.{of_bits, of_int, to_signed, add, sub, mul, div, lt, le}
use Rattle.std.specs.Int.Bits.{bit_and}
use Rattle.std.specs.Int.Signed.{lt_z}
use Rattle.num.specs.Order as Order
use Rattle.tile.specs.Layout as Layout
use Rattle.tile.specs.declared.Edge.{Edge}
use Rattle.tile.specs.declared.TileId.{TileId}
use Rattle.geo.specs.Points as Points
use Rattle.geo.specs.Flat.{whole, turn_of, bearing_of}
use Rattle.cache.specs.Keys.{same_key}
use Rattle.matcher.specs.declared.Heading.{Heading}
use Rattle.matcher.specs.declared.Matched.{Matched}
use Rattle.matcher.specs.declared.Nearest.{Nearest}
use Rattle.matcher.specs.declared.Candidate.{Candidate}
use Rattle.matcher.specs.declared.Query.{Query}
use Rattle.matcher.specs.declared.score.AimCost.{AimCost}
use Rattle.matcher.specs.declared.score.BonusCost.{BonusCost}
use Rattle.matcher.specs.Scan.{along_of}

-- ---- the same tile, the same edge

abbrev pub same_id : TileId → TileId → Bool
same_id a b = same_key a.key b.key && (eqb a.crc b.crc && eqb a.edges b.edges)

abbrev pub is_on : Matched → TileId → ℕ → Bool
is_on m id edge = same_id m.tile id && eqb m.edge edge

-- ---- the heading

-- the direction held on the edge already matched
abbrev pub held_on : Option Matched → TileId → ℕ → Option Bool
held_on None id edge = None
held_on (Some m) id edge = cond (is_on m id edge) m.forward None

-- REVERSE_DEG is 135: near a hairpin a heading taken over the last 15 m cuts the corner by up to 90 degrees
abbrev pub keeps_forward : Option Bool → Float → Float → Bool
keeps_forward None ahead back = le ahead back
keeps_forward (Some forward) ahead back = cond forward (le ahead (whole 135)) (lt (whole 135) back)

-- HELD_DEG is 60
abbrev pub limited : Option Bool → Float → Float
limited None error = error
limited (Some forward) error = Order.min error (whole 60)

-- WRONG_WAY is 4
abbrev pub penalty : Bool → Float → Float
penalty oneway ahead = cond (oneway && lt (whole 90) ahead) (whole 4) (whole 0)

-- HEADING_DEG is 35
abbrev pub heading_cost : Float → Float → Float
heading_cost error extra = add binary32 (mul binary32 (div binary32 error (whole 35)) (div binary32 error (whole 35))) extra

abbrev pub aimed_by : Bool → Float → Float → Bool → Option Bool → Float → AimCost
aimed_by forward ahead back oneway held cost =
    cond forward
    (record { cost = add binary32 cost (heading_cost (limited held ahead) (penalty oneway ahead)); forward = Some true })
    (record { cost = add binary32 cost (heading_cost (limited held back) (whole 0)); forward = Some false })

unfoldable pub aimed : Float → Float → Bool → Option Bool → Float → AimCost
aimed degrees bearing oneway held cost =
    let ahead = Order.fabsf (turn_of degrees bearing) in
    let back = sub binary32 (whole 180) ahead in
    aimed_by (keeps_forward held ahead back || oneway) ahead back oneway held cost

abbrev pub aim : Heading → Float → Bool → Option Bool → Float → AimCost
aim Heading.Nothing bearing oneway held cost = record { cost = cost; forward = None }
aim (Heading.Degrees d) bearing oneway held cost = aimed d bearing oneway held cost

-- ---- the bonus

abbrev pub shares_node : Edge → Edge → Bool
shares_node a b = eqb a.from b.from || (eqb a.from b.to || (eqb a.to b.from || eqb a.to b.to))

-- 0.5
abbrev pub half : Float
half = of_bits binary32 0x3f000000

-- SAME_BONUS is 1, JOINED_BONUS 0.5
unfoldable pub bonus_of : Matched → TileId → ℕ → List ℕ → Edge → Float → BonusCost
bonus_of m id number bs e cost =
    cond (same_id m.tile id)
    (cond (eqb m.edge number) (record { cost = sub binary32 cost (whole 1); joined = false })
    (cond (shares_node (Layout.edge_of bs m.edge) e) (record { cost = sub binary32 cost half; joined = true }) (record { cost = cost; joined = false })))
    (record { cost = cost; joined = false })

abbrev pub bonus : Option Matched → TileId → ℕ → List ℕ → Edge → Float → BonusCost
bonus None id number bs e cost = record { cost = cost; joined = false }
bonus (Some m) id number bs e cost = bonus_of m id number bs e cost

-- ---- the candidate

-- the nearest point is one of the edge's end nodes
abbrev pub at_node : Nearest → ℕ → Bool
at_node n vertices = (eqb n.segment 0 && le n.fraction (whole 0)) || (eqb n.segment vertices && le (whole 1) n.fraction)

-- held to ±1,000,000, number 10's bound, which no height of a tile reaches: they lie from -5,000 to 126,070
abbrev pub held_height : ℤ → ℤ
held_height z = cond (lt_z z (negsuc 999999)) (negsuc 999999) (cond (lt_z (pos 1000000) z) (pos 1000000) z)

-- za, and the part of the way to zb cut toward zero
unfoldable pub height : ℤ → ℤ → Float → ℤ
height za zb fraction = held_height (za +ℤ to_signed 31 (mul binary32 (of_int binary32 (zb -ℤ za)) fraction))

-- the elevation of the projected point
abbrev pub height_at : List ℕ → Edge → Nearest → ℤ
height_at bs e n =
    height (Points.z_dm (Layout.point_of bs e n.segment)) (Points.z_dm (Layout.point_of bs e (n.segment + 1))) n.fraction

-- edges that may be ridden one way only
abbrev pub is_oneway : Edge → Bool
is_oneway e = not (eqb (bit_and e.flags 1) 0)

-- DISTANCE_M is 15
abbrev pub distance_cost : Float → Float
distance_cost d = mul binary32 (div binary32 d (whole 15)) (div binary32 d (whole 15))

unfoldable pub aim_at : Query → TileId → ℕ → Edge → Nearest → AimCost
aim_at q id number e n =
    aim q.heading (bearing_of (sub binary32 n.b.east n.a.east) (sub binary32 n.b.north n.a.north))
    (is_oneway e) (held_on q.current id number) (distance_cost n.distance)

abbrev pub matched_at : TileId → ℕ → Edge → Nearest → Option Bool → ℤ → Matched
matched_at id number e n forward z = record {
  tile = id;
  edge = number;
  segment = n.segment;
  fraction = n.fraction;
  forward = forward;
  offset_m = n.distance;
  z_dm = z;
  class = e.class;
  flags = e.flags;
  confidence = 0;
  ridden_m = whole 0;
}

abbrev pub candidate_by : Query → TileId → ℕ → List ℕ → ℕ → Edge → Nearest → AimCost → BonusCost → Candidate
candidate_by q id lon_um bs number e n aimed eased = record {
  found = matched_at id number e n aimed.forward (height_at bs e n);
  cost = eased.cost;
  joined = eased.joined;
  at_node = at_node n e.vertices;
  along_m = along_of q.header bs id.key e n lon_um;
}

-- the candidate of an edge whose closest segment is n: its cost by distance, then heading, then bonus
unfoldable pub candidate_at : Query → TileId → ℕ → List ℕ → ℕ → Nearest → Candidate
candidate_at q id lon_um bs number n =
    let e = Layout.edge_of bs number in
    let aimed = aim_at q id number e n in
    candidate_by q id lon_um bs number e n aimed (bonus q.current id number bs e aimed.cost)
