-- `roads::matcher_out` meets its contract: what the callee ensures, of the records it is given.
use mathlib.Core.List.{[], ◌∷◌}
use Rattle.words.specs.Words.{float_word, matcher_words}
use Rattle.words.proofs.MatcherLaws.{taken_all}
use Rattle.terrain.proofs.roads.matcher_out.Goals as goal

pub returns : goal.returns
unfolding matcher_words
returns c =
    let m = c.args.m in
    rw (c.current-c.ensures, c.challenger-d.ensures, c.byte-misses.ensures, c.pattern-run.ensures) (taken_all m.current m.challenger (m.misses ∷ float_word m.run_from_m ∷ []))
