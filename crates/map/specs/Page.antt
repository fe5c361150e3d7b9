-- Where a place of the grid lies on the page: micro-degrees east and north of the grid's south-west corner, in hundredths of a millimetre from the
-- page's upper left corner. One unit of the page is `over` + 1 micrometres of the ground.
use Rattle.std.specs.Prelude.{ℕ, ◌+◌, ◌-◌, ◌*◌, ◌/◌, min}

-- no grid reaches so far: 720,000,000 and a tile
abbrev pub reach : ℕ
reach = 0xffff_ffff

-- micrometres of ground along so many micro-degrees, in units of the page
abbrev pub units : ℕ → ℕ → ℕ → ℕ
units um over degrees = min degrees reach * um / (over + 1)

-- from the left margin, which is 2,000 wide, by the micrometres of a micro-degree of longitude in the middle of the grid
abbrev pub across : ℕ → ℕ → ℕ → ℕ
across lon_um over east = 2000 + units lon_um over east

-- from the grid's lower edge up, and no further than the page's upper edge; a micro-degree of latitude has 111,195 micrometres
abbrev pub down : ℕ → ℕ → ℕ → ℕ
down bottom over north = bottom - units 111195 over north
