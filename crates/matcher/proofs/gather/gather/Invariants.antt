-- `matcher::gather::gather` meets its contract. The loop's invariant: what was gathered so far is the definition's over as many tiles, and no lookup
-- ended the match. A place without a key adds nothing; a lookup that ends the match leaves the rest of the tiles out (`gather_over`).
use mathlib.Core.Path.{◌≡◌}
use Rattle.matcher.specs.Gather.{gathered_to, so_far}
use Rattle.matcher.proofs.gather.gather.Given as goal

abbrev pub invariant-loop-tiles : goal.invariant-loop-tiles
invariant-loop-tiles l = so_far l.kept l.tiles ≡ gathered_to l.at l.arena l.q l.near l.tiles
