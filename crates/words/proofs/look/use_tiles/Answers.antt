-- `look::use_tiles` meets its contract. The loop's invariant: the words have clock and ages once as many tiles were gone through, and all else as before.
use Rattle.words.proofs.UsesLaws.{tiles_start, tiles_accepted, tiles_more}
use Rattle.words.proofs.look.use_tiles.Goals as goal

pub loop-i-init : goal.loop-i-init
loop-i-init c = tiles_start c.args.ws.now c.requires.ws_value _

pub use_landed-requires : goal.use_landed-requires
use_landed-requires c = rw c.loop-i.invariant (tiles_accepted _ c.requires.ws_value _ _)

pub loop-i-preserved : goal.loop-i-preserved
loop-i-preserved c = rw c.use_landed.ensures (tiles_more _ c.requires.ws_value _ _ _ c.loop-i.invariant)
