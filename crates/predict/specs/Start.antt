-- Where a road starts: number 10 (document 01, "Refused": "start's edge or segment outside the tile, fraction outside 0 to 1 or not a number,
-- height beyond ±1,000,000"), and the start's place: `predict.rs`, `predict`, its first lines. Each float operation is rounded once. Assumes
-- nothing.
use Rattle.std.specs.Prelude.{ℕ, ◌+◌, ◌-◌, Bool, ◌&&◌, cond, List, ltb, leb, ℤ, pos, negsuc, ◌+ℤ◌, ◌-ℤ◌, Float}
use Rattle.std.specs.Float.{binary32}
use Rattle.std.specs.Float.Ieee.{of_int, to_signed, mul, le}
use Rattle.std.specs.Int.Signed.{lt_z, le_z}
use Rattle.pack.specs.declared.Header.{Header}
use Rattle.tile.specs.Layout as Layout
use Rattle.tile.specs.declared.Edge.{Edge}
use Rattle.geo.specs.declared.Point.{Point}
use Rattle.geo.specs.Points as Points
use Rattle.geo.specs.Flat.{whole}
use Rattle.matcher.specs.declared.Matched.{Matched}
use Rattle.predict.specs.declared.outgoing.Leg.{Leg}
use Rattle.predict.specs.Outgoing.{last_of}

-- held to 32 bits, which nothing that a start within the rules leads to reaches
abbrev pub held : ℤ → ℤ
held z = cond (lt_z z (negsuc 0x7fff_ffff)) (negsuc 0x7fff_ffff) (cond (lt_z (pos 0x7fff_ffff) z) (pos 0x7fff_ffff) z)

abbrev pub less : ℤ → ℤ → ℤ
less a b = held (a -ℤ b)

-- a, and the part t of the way to b, cut toward zero
unfoldable pub part_way : ℤ → ℤ → Float → ℤ
part_way a b t = held (a +ℤ to_signed 31 (mul binary32 (of_int binary32 (b -ℤ a)) t))

abbrev pub between : Point → Point → Float → Point
between a b t = record { lat = part_way a.lat b.lat t; lon = part_way a.lon b.lon t }

-- number 10: an edge of the tile; a segment of that edge, of which there are as many as vertices and one; a fraction from 0 to 1, which
-- not-a-number is not; a height within ±1,000,000
unfoldable pub start_ok : List ℕ → Matched → Bool
start_ok bs m =
    ltb m.edge (Layout.edges_of bs)
    && (leb m.segment (Layout.edge_of bs m.edge).vertices
    && (le (whole 0) m.fraction && (le m.fraction (whole 1) && (le_z (negsuc 999999) m.z_dm && le_z m.z_dm (pos 1000000)))))

-- the number along a leg of the first point past a segment: in its own direction the segment's end, against it the segment's start
abbrev pub first_of : Leg → ℕ → ℕ
first_of leg segment = cond leg.forward (segment + 1) (last_of leg - segment)

-- the start's place on its segment
unfoldable pub place : Header → List ℕ → Edge → Matched → Point
place h bs e m =
    between (Points.point_of h m.tile.key (Layout.point_of bs e m.segment)) (Points.point_of h m.tile.key (Layout.point_of bs e (m.segment + 1)))
    m.fraction
