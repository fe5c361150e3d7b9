-- `writer::packs::body` meets its contract. The loop's invariant: the places passed are done, of whatever pack the bytes began as.
use mathlib.Core.Path.{◌≡◌}
use lib.ListN.{length, drop}
use Rattle.writer.proofs.LayLaws.{AllLaid}
use Rattle.writer.proofs.packs.body.Given as goal

abbrev pub invariant-loop-place : goal.invariant-loop-place
invariant-loop-place l =
    (length l.out ≡ length l.initial.out) × AllLaid l.made.tiles.bytes.now l.places (drop l.last l.initial.out) l.initial.out l.place l.out l.at
