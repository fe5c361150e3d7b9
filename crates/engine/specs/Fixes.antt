-- The fixes, and the heading of travel that they give: `engine.rs`, `Fix::from_e7`, `fix` and `lost`: "from the newest earlier fix at least
-- HEADING_MOVE_M away". Each float operation is rounded once, in the Rust's order.
use Rattle.std.specs.Prelude.{Option, Some, None, ℕ, ◌+◌, ◌-◌, Bool, false, cond, ◌&&◌, ◌++◌, take, drop, replicate, ℤ, pos, int_div, int_le, nat_lt, slice_index_or, slice_set}
use Rattle.std.specs.Float.Ieee.{le}
use Rattle.geo.specs.declared.Point.{Point}
use Rattle.geo.specs.Flat.{whole, metres_of, length_of, bearing_of}
use Rattle.angle.specs.Cosine.{lon_scale_um}
use Rattle.matcher.specs.declared.Heading.{Heading}
use Rattle.predict.specs.Incoming.{highest}
use Rattle.engine.specs.declared.Fix.{Fix}
use Rattle.engine.specs.declared.Places.{Places}
use Rattle.engine.specs.declared.Sight.{Sight}
use Rattle.engine.specs.declared.fixes.Course.{Course}

-- "`from_e7` cuts toward zero" (document 01)
abbrev pub from_e7 : ℤ → ℤ → ℕ → Fix
from_e7 lat lon at = record { lat = int_div lat (pos 10); lon = int_div lon (pos 10); at_ms = at }

abbrev pub no_point : Point
no_point = record { lat = pos 0; lon = pos 0 }

-- no fix yet
abbrev pub nothing_seen : Sight
nothing_seen = record {
  fix = None;
  history = record { v = replicate 16 no_point; len = 0 };
  heading = Heading.Nothing;
  heading_at = 0;
}

abbrev pub same_number : ℤ → ℤ → Bool
same_number a b = int_le a b && int_le b a

-- "A fix at the same place is ignored, its time too" (document 01)
abbrev pub is_same_place : Option Fix → Fix → Bool
is_same_place None fix = false
is_same_place (Some f) fix = same_number f.lat fix.lat && same_number f.lon fix.lon

-- ---- the places of the last fixes: HISTORY is 16

abbrev pub place_at : Places → ℕ → Point
place_at h i = slice_index_or h.v i no_point

-- each place takes the next one's, and the last keeps its own
unfoldable pub shifted : Places → Places
shifted h = record { v = drop 1 (take 16 h.v) ++ drop 15 h.v; len = h.len }

-- one place more; past the sixteenth the oldest goes
unfoldable pub push : Places → Point → Places
push h here = cond (nat_lt h.len 16) (record { v = slice_set h.v h.len here; len = h.len + 1 }) (record { v = slice_set (shifted h).v 15 here; len = 16 })

-- ---- the heading

-- HEADING_MOVE_M is 15
abbrev pub is_move : Places → Point → ℕ → ℕ → Bool
is_move h here lon_um i = let m = metres_of here (place_at h i) lon_um in le (whole 15) (length_of m.east m.north)

-- the newest place that lies that far away
unfoldable pub moved_from : Places → Point → ℕ → Option ℕ
moved_from h here lon_um = highest (λ (i : ℕ). is_move h here lon_um i) h.len

abbrev pub place_of : Fix → Point
place_of fix = record { lat = fix.lat; lon = fix.lon }

abbrev pub course_by : Option ℕ → Sight → Fix → ℕ → Course
course_by None s fix lon_um = record { heading = s.heading; at_ms = s.heading_at }
course_by (Some i) s fix lon_um =
    let m = metres_of (place_of fix) (place_at s.history i) lon_um in
    record { heading = Heading.Degrees (bearing_of m.east m.north); at_ms = fix.at_ms }

-- the bearing from that place, or the heading before
unfoldable pub course_of : Sight → Fix → Course
course_of s fix = let lon_um = lon_scale_um fix.lat in course_by (moved_from s.history (place_of fix) lon_um) s fix lon_um

-- HEADING_MAX_AGE_MS is 120,000
abbrev pub fresh : Course → ℕ → Heading
fresh c now = cond (nat_lt 120000 (now - c.at_ms)) Heading.Nothing c.heading

-- ---- a new fix at another place

unfoldable pub seen : Sight → Fix → Sight
seen s fix =
    let c = course_of s fix in record {
      fix = Some fix;
      history = push s.history (place_of fix);
      heading = fresh c fix.at_ms;
      heading_at = c.at_ms;
    }

-- ---- the fixes stopped

abbrev pub lost : Sight → Sight
lost s = record {
  fix = None;
  history = record { v = s.history.v; len = 0 };
  heading = Heading.Nothing;
  heading_at = s.heading_at;
}
