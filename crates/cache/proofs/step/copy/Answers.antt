-- `step::copy` meets its contract. The loop's invariant: the first i bytes are in place.
use Rattle.std.proofs.Common.{ℕ, ◌+◌, List, get_or, set, sym, ap, ◌∙◌, add-one, arith, length-set}
use lib.Seq.{paste, paste-suc}
use Rattle.cache.proofs.step.copy.Goals as goal

pub loop-i-preserved : goal.loop-i-preserved
loop-i-preserved c =
    let l = c.loop-i in
    let a = c.args in (
      simp length-set l.invariant.0,
      ap (λ (d : List ℕ). set d (a.at + l.i) (get_or a.bytes.now l.i 0)) l.invariant.1
          ∙ paste-suc a.arena.now a.at a.bytes.now l.i 0 (omega arith) (omega arith)
          ∙ ap (paste a.arena.now a.at a.bytes.now) (sym (add-one l.i)),
    )
