-- How the format's answers cross to C: structs by value that begin with a number, 0 where the result follows, 256 where there is none, else the refusal's. Where there is no
-- result its fields are zero.
use Rattle.pack.specs.declared.TileKey.{TileKey}
use Rattle.pack.specs.declared.Header.{Header}
use Rattle.pack.specs.declared.Corner.{Corner}
use Rattle.tile.specs.declared.Head.{Head}
use Rattle.tile.specs.declared.Node.{Node}
use Rattle.tile.specs.declared.Edge.{Edge}
use Rattle.tile.specs.declared.Entries.{Entries}
use Rattle.tile.specs.declared.Incident.{Incident}
use Rattle.refusal.specs.Refusal.{number_of, number_of_result}
use Rattle.refusal.specs.declared.Refusal.{Refusal}
use Rattle.std.specs.Prelude.{Option, Some, None, Result, Ok, Err, ℕ, false, pos}
use Rattle.pack.specs.Sector.{header_in}
use Rattle.terrain.specs.Records.{header_out, key_out, node_out, edge_out, no_key, no_node, no_edge}
use Rattle.terrain.specs.declared.format.TerrainRange.{TerrainRange}
use Rattle.terrain.specs.declared.format.TerrainHeaderParsed.{TerrainHeaderParsed}
use Rattle.terrain.specs.declared.format.TerrainKeyed.{TerrainKeyed}
use Rattle.terrain.specs.declared.format.TerrainOrigin.{TerrainOrigin}
use Rattle.terrain.specs.declared.format.TerrainOffset.{TerrainOffset}
use Rattle.terrain.specs.declared.format.TerrainLocated.{TerrainLocated}
use Rattle.terrain.specs.declared.format.TerrainTileParsed.{TerrainTileParsed}
use Rattle.terrain.specs.declared.format.TerrainNodeRead.{TerrainNodeRead}
use Rattle.terrain.specs.declared.format.TerrainEdgeRead.{TerrainEdgeRead}
use Rattle.terrain.specs.declared.format.TerrainEntries.{TerrainEntries}
use Rattle.terrain.specs.declared.format.TerrainEntryRead.{TerrainEntryRead}
use Rattle.terrain.specs.declared.format.TerrainFound.{TerrainFound}

-- ---- the pack

abbrev pub range_out : Result ℕ Refusal → TerrainRange
range_out (Ok at) = record { number = 0; at = at }
range_out (Err n) = record { number = number_of n; at = 0 }

-- a refused header is all zeros
abbrev pub header_parsed_out : Result Header Refusal → TerrainHeaderParsed
header_parsed_out r = record { number = number_of_result r; header = header_out (header_in r) }

abbrev pub keyed_out : Result (Option TileKey) Refusal → TerrainKeyed
keyed_out (Ok (Some k)) = record { number = 0; key = key_out k }
keyed_out (Ok None) = record { number = 256; key = no_key }
keyed_out (Err n) = record { number = number_of n; key = no_key }

abbrev pub origin_out : Result Corner Refusal → TerrainOrigin
origin_out (Ok c) = record { number = 0; south = c.south; west = c.west }
origin_out (Err n) = record { number = number_of n; south = pos 0; west = pos 0 }

abbrev pub offset_out : Result ℕ Refusal → TerrainOffset
offset_out (Ok at) = record { number = 0; at = at }
offset_out (Err n) = record { number = number_of n; at = 0 }

abbrev pub located_out : Result (Option (ℕ × ℕ)) Refusal → TerrainLocated
located_out (Ok (Some (offset, length))) = record { number = 0; offset = offset; length = length }
located_out (Ok None) = record { number = 256; offset = 0; length = 0 }
located_out (Err n) = record { number = number_of n; offset = 0; length = 0 }

-- ---- a tile

abbrev pub tile_parsed_out : Result Head Refusal → TerrainTileParsed
tile_parsed_out (Ok h) = record { number = 0; key = key_out h.key; nodes = h.nodes; edges = h.edges; vertices = h.vertices; lon_um = h.lon_um }
tile_parsed_out (Err n) = record { number = number_of n; key = no_key; nodes = 0; edges = 0; vertices = 0; lon_um = 0 }

abbrev pub node_read_out : Result Node Refusal → TerrainNodeRead
node_read_out (Ok n) = record { number = 0; node = node_out n }
node_read_out (Err n) = record { number = number_of n; node = no_node }

abbrev pub edge_read_out : Result Edge Refusal → TerrainEdgeRead
edge_read_out (Ok e) = record { number = 0; edge = edge_out e }
edge_read_out (Err n) = record { number = number_of n; edge = no_edge }

abbrev pub entries_out : Result Entries Refusal → TerrainEntries
entries_out (Ok entries) = record { number = 0; start = entries.start; end = entries.end }
entries_out (Err n) = record { number = number_of n; start = 0; end = 0 }

abbrev pub entry_read_out : Result Incident Refusal → TerrainEntryRead
entry_read_out (Ok i) = record { number = 0; edge = i.edge; ends = i.ends }
entry_read_out (Err n) = record { number = number_of n; edge = 0; ends = false }

abbrev pub found_out : Option ℕ → TerrainFound
found_out (Some i) = record { number = 0; index = i }
found_out None = record { number = 256; index = 0 }
