-- `writer::packs::sector` meets its contract: zeros, the fields, and the CRC of the first 508 bytes.
use mathlib.Core.Path.{sym}
use lib.Seq.{length-take-le}
use borrow.Author.Rules.{rules}
use Rattle.writer.specs.Fields.{puts, holding}
use Rattle.writer.specs.PackWritten.{sector_bytes, sector_fields}
use Rattle.writer.proofs.packs.sector.Goals as goal

pub slice_bounds-crc32-end-2 : goal.slice_bounds-crc32-end-2
slice_bounds-crc32-end-2 c =
    let part_fields = c.part_fields in
    sym (length-take-le 508 part_fields.new.out (search rules))

pub returns : goal.returns
unfolding sector_bytes sector_fields holding puts
returns c =
    let put = c.put in
    let crc32 = c.crc32-sum in
    let part_fields = c.part_fields in
    let grid_fields = c.grid_fields in
    let mark = c.mark in
    let fill = c.fill in
    let pre = c.requires in
    rw (put.ensures, crc32.ensures, part_fields.ensures, grid_fields.ensures, mark.ensures, fill.ensures.after (λ y e. e), pre)
