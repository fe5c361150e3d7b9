-- `decode::places` meets its contract. The loop's invariant: the places so far are those of as many turns.
use Rattle.words.proofs.ArrayLaws.{places_read}
use Rattle.num.proofs.FoldLaws.{up_start, up_turn}
use Rattle.std.proofs.Common.{◌≡◌, sym, arith, rules}
use lib.ListN.{length-replicate}
use Rattle.words.specs.Words.{places_of, no_point}
use Rattle.geo.specs.declared.Point.{Point}
use Rattle.words.proofs.decode.places.Goals as goal

pub loop-i-init : goal.loop-i-init
loop-i-init c = (search rules, sym (up_start _ _))

pub loop-i-preserved : goal.loop-i-preserved
loop-i-preserved c = (search rules, rw (c.point-p.ensures, up_turn) (rw c.loop-i.invariant.1))

pub returns : goal.returns
unfolding places_of
returns c = let end : c.loop-i.i ≡ 16 = omega arith in rw (c.loop-i.invariant.1, end) (places_read c.args.ws.now _ (length-replicate {A = Point} 16 no_point) c.size.ensures)
