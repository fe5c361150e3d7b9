-- A direct lookup of each key given finds that tile, and of any other key none: the entry locates the tile's bytes, which passed `Tile::parse` when the
-- pack was made.
use Prim.Native.Nat.{ℕ, ◌+◌, ◌≤◌, ◌<◌}
use mathlib.Core.Path.{◌≡◌, refl, ap}
use mathlib.Core.Bool.{Bool, true, false, cond}
use mathlib.Core.List.{List}
use native.Mathlib.Omega.{arith}
use lib.Dec.{eqb}
use lib.ListN.{length}
use borrow.Author.Tests.{ne_eqb, le-leb, le-ltb, leb-true}
use Rattle.pack.specs.Grid.{in_grid, entry_of}
use Rattle.pack.specs.declared.TileKey.{TileKey}
use Rattle.std.specs.Prelude.{Ok}
use Rattle.pack.proofs.Laws.{entry_within}
use Rattle.cache.specs.Runs.{span}
use Rattle.cache.proofs.RunLaws.{span_pos}
use Rattle.tile.specs.Parse.{accepts}
use Rattle.tile.proofs.Laws.{clause}
use Rattle.cache.specs.Direct.{direct, direct_entry, missing}
use Rattle.writer.specs.PackWritten.{GivenPack, pack_bytes, tiles_of, tile_of, key_in, has_key, header_of, tile_rules}
use Rattle.writer.specs.PackSteps.{numbered}
use Rattle.writer.proofs.PlaceLaws.{rule, good_at}
use Rattle.writer.proofs.TileSums.{no_tile}
use Rattle.writer.proofs.WriteLaws.{tile_long}
use Rattle.writer.proofs.SectorReads.{rules_good, pack_parses}
use Rattle.writer.proofs.PackReads.{start, entry_none, entry_tile, tile_there, length_pack, numbered_found, ends}
use Rattle.written_lookups.specs.Written.{Made, header_in, FindsEach, FindsNoOther}

module _ (g : GivenPack) (made : Made g) where
  header_is : header_in (pack_bytes g) ≡ Ok (header_of g)
  header_is = pack_parses g made.good made.rows made.cols made.fits

  within : (key : TileKey) → in_grid (header_of g) key ≡ true → entry_of (header_of g) key + 8 ≤ length (pack_bytes g)
  within key grid =
      omega (
        arith,
        entry_within (header_of g) key (rules_good g made.good made.rows made.cols made.fits) grid,
        length_pack g made.good made.fits key grid,
      )

  -- a key in the grid that no tile has
  outside : (key : TileKey) (pages : ℕ) → has_key key (tiles_of g) ≡ false → direct (pack_bytes g) (header_of g) pages key ≡ missing
  unfolding direct
  outside key pages e = go (eqb pages 0) (in_grid (header_of g) key) refl
    where
      none : length (tile_of (tiles_of g) key) ≡ 0
      none = ap length (no_tile key (tiles_of g) e)

      go : (b c : Bool) → in_grid (header_of g) key ≡ c
          → cond b missing (cond c (direct_entry (pack_bytes g) (header_of g) pages key) missing) ≡ missing
      go true c q = refl
      go false false q = refl
      go false true q = rw (le-leb _ _ (within key q), entry_none g made.good made.fits key q none)

pub finds_no_other : FindsNoOther
finds_no_other g made key pages e = rw (header_is g made) (outside g made key pages e)

pub finds_each : FindsEach
unfolding direct
finds_each g made i pages h enough =
    let bytes : List ℕ = numbered g.lengths g.tiles i in
    let key : TileKey = key_in bytes in
    let good = good_at g g.lengths g.tiles i h (rule g made.good 2) in
    let grid : in_grid (header_of g) key ≡ true = clause 2 (tile_rules g bytes) good in
    let short : length bytes ≤ 49152 = leb-true _ _ (clause 0 (tile_rules g bytes) good) in
    let parsed : accepts bytes key g.size ≡ true = clause 1 (tile_rules g bytes) good in
    let found : tile_of (tiles_of g) key ≡ bytes = numbered_found g made.good i h in
    let some : 0 < length bytes = omega (arith, tile_long g made.good i h) in
    let pages_some : eqb pages 0 ≡ false = ne_eqb pages 0 (λ e. omega (arith, span_pos (length bytes))) in
    let located = rw found at (entry_tile g made.good made.fits key grid (rw found some)) in
    let stands = rw found at (tile_there g made.good made.fits key grid) in
    let inside = rw found at (ends g made.good made.fits key grid) in
    let whole = length_pack g made.good made.fits key grid in
    rw (
      header_is g made,
      pages_some,
      grid,
      le-leb _ _ (within g made key grid),
      located,
      le-ltb 49152 (length bytes) short,
      le-ltb pages (span (length bytes)) enough,
      le-leb (start g made.good made.fits key grid + length bytes) (length (pack_bytes g)) (omega (arith, inside, whole)),
      stands,
      parsed,
    )
