-- `roads::same` meets its contract. The loop's invariant: the words that are left decide.
use mathlib.Core.Path.{◌≡◌}
use lib.ListN.{drop}
use Rattle.words.specs.Words.{same_words}
use Rattle.terrain.proofs.roads.same.Given as goal

abbrev pub invariant-loop-i : goal.invariant-loop-i
invariant-loop-i l = same_words (drop l.i l.a) (drop l.i l.b) ≡ same_words l.a l.b
