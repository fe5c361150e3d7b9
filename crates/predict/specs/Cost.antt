-- What a way on costs: `predict.rs`, the closure `consider`: "The cost of a choice is built in the Rust's order, each operation rounded once"
-- (document 01). Its own comments name other figures; the function decides.
use Rattle.std.specs.Prelude.{ℕ, Bool, ◌&&◌, ◌||◌, not, cond, eqb, ℤ, pos, ◌-ℤ◌, Float}
use Rattle.std.specs.Int.Bits.{bit_and}
use Rattle.std.specs.Float.{binary32}
use Rattle.std.specs.Float.Ieee.{of_bits, of_int, add, sub, mul, div}
use Rattle.std.specs.Int.Signed.{lt_z}
use Rattle.num.specs.Order as Order
use Rattle.tile.specs.declared.Edge.{Edge}
use Rattle.geo.specs.Flat.{whole, turn_of}
use Rattle.predict.specs.declared.cost.Road.{Road}
use Rattle.predict.specs.declared.cost.Bound.{Bound}

abbrev pub has_flag : ℕ → ℕ → Bool
has_flag flags flag = not (eqb (bit_and flags flag) 0)

-- the turn over 30 degrees, MAX_TURN_COST 4 at most; going on round a roundabout 1.2. ROUNDABOUT is 8
unfoldable pub turn_cost : Bound → Float → Edge → Float
turn_cost bound heading next =
    cond (bound.round && has_flag next.flags 8) (of_bits binary32 0x3f99999a)
    (Order.min (div binary32 (Order.fabsf (turn_of bound.heading heading)) (whole 30)) (whole 4))

-- SAME_ROAD is 3; group 0 is no name
abbrev pub with_name : Float → Road → Edge → Float
with_name cost road next = cond (not (eqb road.group 0) && eqb next.group road.group) (sub binary32 cost (whole 3)) cost

abbrev pub class_step : Road → Edge → ℤ
class_step road next = pos next.class -ℤ pos road.class

-- a class more minor 0.8, more major 0.2
unfoldable pub with_class : Float → Road → Edge → Float
with_class cost road next =
    let step = class_step road next in
    add binary32 cost
    (cond (lt_z (pos 0) step) (mul binary32 (of_bits binary32 0x3f4ccccd) (of_int binary32 step)) (mul binary32 (of_bits binary32 0x3e4ccccd) (of_int binary32 step)))

-- a slip road from a road that is none: 1.5. LINK is 2
abbrev pub with_link : Float → Road → Edge → Float
with_link cost road next =
    cond (has_flag next.flags 2 && eqb (bit_and road.flags 2) 0) (add binary32 cost (of_bits binary32 0x3fc00000)) cost

-- TRACK is 8, PATH 10
abbrev pub off_road : ℕ → Bool
off_road class = eqb class 8 || eqb class 10

abbrev pub with_track : Float → Road → Edge → Float
with_track cost road next = cond (off_road next.class && not (off_road road.class)) (add binary32 cost (whole 2)) cost

-- CYCLEWAY is 9
abbrev pub with_cycleway : Float → Road → Edge → Float
with_cycleway cost road next = cond (eqb next.class 9 && not (eqb road.class 9)) (add binary32 cost (whole 1)) cost

unfoldable pub cost_of : Bound → Road → Float → Edge → Float
cost_of bound road heading next =
    with_cycleway (with_track (with_link (with_class (with_name (turn_cost bound heading next) road next) road next) road next) road next) road next
