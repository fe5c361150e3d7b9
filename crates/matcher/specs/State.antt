-- Number 12 for a matcher (document 01, "Refused": a challenger above 1, a matcher's edge past its tile's count, a matched key outside the
-- grid), beside the cache's causes; and the headings that number 8 refuses.
use Rattle.refusal.specs.declared.Refusal.{Refusal}
use Rattle.tile.specs.declared.TileId.{TileId}
use Rattle.matcher.specs.declared.Matched.{Matched}
use Rattle.std.specs.Prelude.{Option, Some, None, Err, ℕ, Bool, true, ◌&&◌, ltb, leb}
use Rattle.pack.specs.Grid.{in_grid}
use Rattle.pack.specs.declared.Header.{Header}
use Rattle.geo.specs.Flat.{is_heading}
use Rattle.cache.specs.State.{cache_ok}
use Rattle.cache.specs.declared.Cache.{Cache}
use Rattle.matcher.specs.declared.Heading.{Heading}
use Rattle.matcher.specs.declared.Matcher.{Matcher}
use Rattle.matcher.specs.declared.Updated.{Updated}

abbrev pub edge_ok : Option Matched → Bool
edge_ok None = true
edge_ok (Some m) = ltb m.edge m.tile.edges

abbrev pub challenger_ok : Option (TileId × ℕ × ℕ) → Bool
challenger_ok None = true
challenger_ok (Some (tile, edge, count)) = leb count 1 && ltb edge tile.edges

-- the matcher's own
abbrev pub counts_ok : Matcher → Bool
counts_ok m = edge_ok m.current && challenger_ok m.challenger

abbrev pub key_ok : Option Matched → Header → Bool
key_ok None h = true
key_ok (Some m) h = in_grid h m.tile.key

-- and those of one beside a header
abbrev pub matcher_ok : Matcher → Header → Bool
matcher_ok m h = counts_ok m && key_ok m.current h

-- and those of a call that is given cache, header and an arena of `size` bytes beside it
unfoldable pub call_ok : Matcher → Cache → Header → ℕ → Bool
call_ok m c h size = cache_ok c h size && matcher_ok m h

abbrev pub heading_ok : Heading → Bool
heading_ok Heading.Nothing = true
heading_ok (Heading.Degrees d) = is_heading d

abbrev pub refused : Matcher → Cache → Refusal → Updated
refused m c e = record { answer = Err e; matcher = m; cache = c }
