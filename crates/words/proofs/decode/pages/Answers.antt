-- `decode::pages` meets its contract. The loop's invariant: slots and ages so far are those of as many turns.
use Rattle.words.specs.Words.{pages_of}
use Rattle.words.proofs.ArrayLaws.{pages_read}
use Rattle.num.proofs.FoldLaws.{up_start, up_turn}
use Rattle.std.proofs.Common.{◌≡◌, ℕ, sym, refl, arith, rules}
use lib.ListN.{length-replicate}
use Rattle.cache.specs.Runs.{empty_slot}
use Rattle.cache.specs.declared.Slot.{Slot}
use Rattle.words.proofs.decode.pages.Goals as goal

pub loop-i-init : goal.loop-i-init
loop-i-init c = (search rules, (search rules, sym (up_start _ _)))

pub loop-i-preserved : goal.loop-i-preserved
loop-i-preserved c = (search rules, (search rules, rw (c.slot-s.ensures, up_turn) (rw c.loop-i.invariant.1.1)))

pub returns : goal.returns
unfolding pages_of
returns c = let end : c.loop-i.i ≡ 96 = omega arith in rw (c.loop-i.invariant.1.1, end) (pages_read c.args.ws.now _ (length-replicate {A = Slot} 96 empty_slot) (length-replicate {A = ℕ} 96 0) c.size.ensures refl)
