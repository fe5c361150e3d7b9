-- `predict::cross::cross` meets its contract. The loop's invariant: the ways on so far are the definition's after as many tiles; once no tile
-- is left, the definition's further steps change nothing.
use mathlib.Core.Path.{◌≡◌}
use Rattle.cache.specs.Reader.{in_looks}
use Rattle.predict.specs.Cross.{ways_of, cross_to}
use Rattle.predict.proofs.cross.cross.Given as goal

abbrev pub invariant-loop-i : goal.invariant-loop-i
invariant-loop-i l =
    ways_of l.x l.looks ≡ cross_to (in_looks l.arena l.a.header.tile) l.a l.visited (ways_of l.initial.x l.initial.looks) l.twins l.i
