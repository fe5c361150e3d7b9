-- `engine::deliver::short_sector` meets its contract. The loop's invariant: the sector so far is the definition's after as many bytes. Assumes
-- nothing.
use Rattle.std.proofs.Common.{◌≡◌, ℕ, List, set}
use Rattle.num.specs.Fold.{up_to}
use Rattle.pack.specs.Bytes.{byte_at}
use Rattle.engine.proofs.deliver.short_sector.Given as goal

abbrev pub invariant-loop-i : goal.invariant-loop-i
invariant-loop-i l = l.out ≡ up_to (λ (o : List ℕ) (j : ℕ). set o j (byte_at l.bytes j)) l.initial.out l.i
