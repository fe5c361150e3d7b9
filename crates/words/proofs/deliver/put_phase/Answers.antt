-- `deliver::put_phase` meets its contract: piece by piece.
use Rattle.words.proofs.CameLaws.{phase_left}
use Rattle.words.proofs.deliver.put_phase.Goals as goal

pub returns : goal.returns
returns c =
    let args = c.args in
    rw (c.put_word-2.ensures.out_after, c.byte.ensures, c.put_pending.ensures.out_after, c.put_word.ensures.out_after, c.phase.ensures) (phase_left args.ws.now c.requires args.phase args.failures)
