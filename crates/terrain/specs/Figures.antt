-- How the geometry's answers cross to C: structs by value that begin with a number, 0 where the result follows, else the refusal's, and zeros follow.
use Rattle.geo.specs.declared.Point.{Point}
use Rattle.geo.specs.declared.Metres.{Metres}
use Rattle.geo.specs.declared.Projected.{Projected}
use Rattle.refusal.specs.Refusal.{number_of}
use Rattle.refusal.specs.declared.Refusal.{Refusal}
use Rattle.std.specs.Prelude.{ℤ, Float, Result, Ok, Err, pos}
use Rattle.terrain.specs.Records.{zero, point_out, metres_out, no_point, no_metres}
use Rattle.terrain.specs.declared.figures.TerrainEdgePoint.{TerrainEdgePoint}
use Rattle.terrain.specs.declared.figures.TerrainMetresRead.{TerrainMetresRead}
use Rattle.terrain.specs.declared.figures.TerrainFigure.{TerrainFigure}
use Rattle.terrain.specs.declared.figures.TerrainProjectedRead.{TerrainProjectedRead}

abbrev pub edge_point_out : Result (Point × ℤ) Refusal → TerrainEdgePoint
edge_point_out (Ok (p, z)) = record { number = 0; point = point_out p; z_dm = z }
edge_point_out (Err n) = record { number = number_of n; point = no_point; z_dm = pos 0 }

abbrev pub metres_read_out : Result Metres Refusal → TerrainMetresRead
metres_read_out (Ok m) = record { number = 0; metres = metres_out m }
metres_read_out (Err n) = record { number = number_of n; metres = no_metres }

abbrev pub figure_out : Result Float Refusal → TerrainFigure
figure_out (Ok x) = record { number = 0; value = x }
figure_out (Err n) = record { number = number_of n; value = zero }

abbrev pub projected_read_out : Result Projected Refusal → TerrainProjectedRead
projected_read_out (Ok r) = record { number = 0; fraction = r.fraction; distance = r.distance }
projected_read_out (Err n) = record { number = number_of n; fraction = zero; distance = zero }
