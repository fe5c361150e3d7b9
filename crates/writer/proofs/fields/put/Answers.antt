-- `writer::fields::put` meets its contract: the low bytes of the number, in their place.
use Rattle.std.proofs.Common.{◌∙◌, ap, take}
use Rattle.writer.proofs.Putting.{put_low}
use Rattle.writer.proofs.fields.put.Goals as goal

pub returns : goal.returns
returns g c =
    put_low c.args.out.now c.copy_from_slice.new.self c.args.at g.row.WIDTH c.args.value c.requires.width
    (c.copy_from_slice.ensures.after ∙ ap (take g.row.WIDTH) c.to_le_bytes.ensures)
