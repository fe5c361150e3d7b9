-- Where two segments meet: document 02, request 4, "meeting it, touching included .. in whole millionths of a degree, exactly". No float and no
-- sign test stands here: two closed segments meet where they have a common point.
use Rattle.std.specs.Prelude.{ℕ, ◌-◌, ◌≤◌, ◌<◌, ◌≡◌, ℤ, pos, ◌+ℤ◌, ◌*ℤ◌}
use Rattle.geo.specs.declared.Point.{Point}

-- one coordinate of the point that lies i of `parts` equal parts of the way along a segment, times `parts`, so that it is a whole number
unfoldable pub along : ℕ → ℕ → ℤ → ℤ → ℤ
along parts i from to = from *ℤ pos (parts - i) +ℤ to *ℤ pos i

-- A point of the segment from a to b, i of `parts` equal parts along it, is a point of the segment from c to e, j of as many parts along it.
-- There may be as many parts as it takes; ends count, and a segment of no length is its one point.
pub record Meet (a b c e : Point) : Type 0 where
  pub parts : ℕ
  pub i : ℕ
  pub j : ℕ
  pub some : 0 < parts
  pub first : i ≤ parts
  pub second : j ≤ parts
  pub lat : along parts i a.lat b.lat ≡ along parts j c.lat e.lat
  pub lon : along parts i a.lon b.lon ≡ along parts j c.lon e.lon
