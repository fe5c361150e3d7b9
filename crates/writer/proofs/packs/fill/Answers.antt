-- `writer::packs::fill` meets its contract: the sector in the first 512 bytes, the rest behind them.
use Rattle.std.proofs.Common.{rules, arith, ◌≡◌, true, length}
use mir.Syntax.{w32}
use Rattle.pack.proofs.Signed.{got}
use Rattle.writer.specs.PackSteps.{given}
use Rattle.writer.specs.PackWritten.{pack_good, pack_bytes, total}
use Rattle.writer.proofs.PlaceLaws.{sum_is}
use Rattle.writer.proofs.WriteLaws.{count_fits}
use Rattle.writer.proofs.packs.fill.Goals as goal

pub overflow_cast-header-4 : goal.overflow_cast-header-4
overflow_cast-header-4 c =
    let made = c.args.made.now in
    let g = given made.grid made.tiles.bytes.now made.tiles.lengths.now in
    let good : pack_good g ≡ true = search rules in
    omega (arith, count_fits g good, c.requires.out_len, c.requires.out_len_bound)

pub returns : goal.returns
unfolding pack_bytes
returns c =
    let made = c.args.made.now in
    let g = given made.grid made.tiles.bytes.now made.tiles.lengths.now in
    let good : pack_good g ≡ true = search rules in
    let ends : length c.args.out.now ≡ total g = omega (arith, c.requires.out_len, sum_is g good) in
    rw (c.sector.ensures, c.body.ensures, got w32 {z = made.grid.south} (search rules), got w32 {z = made.grid.west} (search rules), ends)
