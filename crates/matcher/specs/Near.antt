-- The tiles that a search around a fix needs: `matcher.rs`, `nearby`.
use Rattle.std.specs.Prelude.{is_some, Option, Some, None, ℕ, ◌+◌, Bool, cond, leb, ℤ, pos, negsuc, ◌+ℤ◌, ◌-ℤ◌, get_or, set, replicate}
use Rattle.std.specs.Int.Signed.{lt_z}
use Rattle.pack.specs.Grid.{corner_of, checked_of, key_of}
use Rattle.pack.specs.declared.Header.{Header}
use Rattle.pack.specs.declared.TileKey.{TileKey}
use Rattle.geo.specs.declared.Point.{Point}
use Rattle.cache.specs.Search.{lowest}
use Rattle.cache.specs.Keys.{holds}
use Rattle.matcher.specs.declared.NearKey.{NearKey}
use Rattle.matcher.specs.declared.NearKeys.{NearKeys}

abbrev pub no_place : NearKey
no_place = record { key = None }

abbrev pub no_keys : NearKeys
no_keys = record { keys = replicate 4 no_place; len = 0 }

abbrev pub key_at : NearKeys → ℕ → Option TileKey
key_at n i = (get_or n.keys i no_place).key

-- `out.contains(&Some(k))`
unfoldable pub has : NearKeys → TileKey → Bool
has n key = is_some (lowest (λ (i : ℕ). holds (key_at n i) key) 4)

unfoldable pub push : NearKeys → TileKey → NearKeys
push n key = cond (leb 4 n.len) n (record { keys = set n.keys n.len (record { key = Some key }); len = n.len + 1 })

abbrev pub add_key : NearKeys → Option TileKey → NearKeys
add_key n (Some k) = cond (has n k) n (push n k)
add_key n None = n

-- a row and a column, where they lie in the grid and are new
unfoldable pub add : NearKeys → Header → ℤ → ℤ → NearKeys
add n h row col = add_key n (checked_of h row col)

-- the neighbour whose boundary is within reach: -1 the one before, 1 the one after, 0 none
abbrev pub side : ℤ → ℤ → ℕ → ℤ → ℤ
side at from size reach =
    let into = at -ℤ from in cond (lt_z into reach) (negsuc 0) (cond (lt_z (pos size -ℤ into) reach) (pos 1) (pos 0))

-- the point's own tile, its neighbour by row, by column, and the one across the corner. 40 m are 359 whole micro-degrees of latitude
-- (`reach_is`); longitude degrees shrink towards the poles, and twice that is what 60 degrees wants
unfoldable pub around : Header → Point → TileKey → NearKeys
around h p key =
    let corner = corner_of h key in
    let down = side p.lat corner.south h.tile (pos 359) in
    let across = side p.lon corner.west h.tile (pos 718) in
    let row = pos key.row in
    let col = pos key.col in
    add (add (add (add no_keys h row col) h (row +ℤ down) col) h row (col +ℤ across)) h (row +ℤ down) (col +ℤ across)

abbrev pub near_by : Option TileKey → Header → Point → NearKeys
near_by (Some k) h p = around h p k
near_by None h p = no_keys

unfoldable pub near_of : Header → Point → NearKeys
near_of h p = near_by (key_of h p.lat p.lon) h p
