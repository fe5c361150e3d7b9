-- `begin::clear_run` meets its contract. The loop's invariant: the words are those of the engine with other pages, and clearing what is left of these, from where the loop stands, is clearing all from the start.
use Rattle.cache.specs.Evict.{clear_run}
use Rattle.words.specs.Words.{pages_of, engine_of}
use Rattle.words.proofs.BeginLaws.{Standing}
use Rattle.words.proofs.begin.clear_run.Given as goal

abbrev pub invariant-loop-left : goal.invariant-loop-left
invariant-loop-left l = Standing (engine_of l.initial.ws) l.ws (clear_run l.left l.at) (clear_run l.n l.from (pages_of l.initial.ws 15))

abbrev pub decreases-loop-left : goal.decreases-loop-left
decreases-loop-left l = l.left
