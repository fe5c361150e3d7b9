-- `begin::piece_run` meets its contract. The loop's invariant: the words are those of the engine with other pages, and writing what is left of these, from where the loop stands, is writing all from the start.
use Rattle.cache.specs.Evict.{piece_run}
use Rattle.words.specs.Words.{pages_of, engine_of}
use Rattle.words.proofs.BeginLaws.{Standing}
use Rattle.words.proofs.begin.piece_run.Given as goal

abbrev pub invariant-loop-left : goal.invariant-loop-left
invariant-loop-left l = Standing (engine_of l.initial.ws) l.ws (piece_run l.left l.at l.head) (piece_run l.n l.from l.head (pages_of l.initial.ws 15))

abbrev pub decreases-loop-left : goal.decreases-loop-left
decreases-loop-left l = l.left
