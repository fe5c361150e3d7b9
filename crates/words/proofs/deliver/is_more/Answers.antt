-- `deliver::is_more` meets its contract: each return by its tests; a chunk is part of what is left of the tile (`chunk_less`).
use Rattle.std.proofs.Common.{arith}
use Rattle.cache.proofs.StepLaws.{chunk_less}
use Rattle.words.proofs.deliver.is_more.Goals as goal

pub overflow_add-result : goal.overflow_add-result
overflow_add-result c = omega (arith, c.chunk_len-n.ensures, chunk_less c.args.l)
