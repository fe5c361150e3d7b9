-- `decode::ring` meets its contract. The loop's invariant: the places so far are those of as many turns.
use Rattle.std.specs.Prelude.{Option}
use Rattle.pack.specs.declared.TileKey.{TileKey}
use Rattle.words.specs.Words.{ring_of}
use Rattle.words.proofs.ArrayLaws.{ring_read}
use Rattle.num.proofs.FoldLaws.{up_start, up_turn}
use Rattle.std.proofs.Common.{◌≡◌, sym, arith, rules}
use lib.ListN.{length-replicate}
use Rattle.cache.specs.Keys.{empty_place}
use Rattle.words.proofs.decode.ring.Goals as goal

pub loop-i-init : goal.loop-i-init
loop-i-init c = (search rules, sym (up_start _ _))

pub loop-i-preserved : goal.loop-i-preserved
loop-i-preserved c = (search rules, rw (c.place-k.ensures, up_turn) (rw c.loop-i.invariant.1))

pub returns : goal.returns
unfolding ring_of
returns c = let end : c.loop-i.i ≡ 64 = omega arith in rw (c.loop-i.invariant.1, end) (ring_read c.args.ws.now _ (length-replicate {A = Option TileKey} 64 empty_place) c.size.ensures)
