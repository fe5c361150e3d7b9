-- `crc::crc_four` meets its contract: the eight entries are the sum that the remainder is.
use Prim.Native.Nat.{ℕ}
use mathlib.Core.Path.{◌≡◌, sym, ◌∙◌}
use mathlib.Core.List.{◌++◌}
use lib.Pow.{shr-shr}
use Rattle.crc.specs.Fcs.{bits, remainder, zeros}
use Rattle.crc.proofs.Laws.{bits_xor, halves, halves_are}
use Rattle.crc.proofs.crc_four.Goals as goal

by_halves : (r v : ℕ) → bits 32 r ≡ halves 7 v → bits 32 r ≡ remainder (bits 32 v ++ zeros 32)
by_halves r v e = e ∙ sym (halves_are 7 v)

pub returns : goal.returns
unfolding halves
returns c =
    let v : ℕ = c.args.v in
    by_halves _ v (simp (
      bits_xor,
      shr-shr v 4 4,
      shr-shr v 8 4,
      shr-shr v 12 4,
      shr-shr v 16 4,
      shr-shr v 20 4,
      shr-shr v 24 4,
      c.entry.ensures,
      c.entry-t-7.ensures,
      c.entry-t-6.ensures,
      c.entry-t-5.ensures,
      c.entry-t-4.ensures,
      c.entry-t-3.ensures,
      c.entry-t-2.ensures,
      c.entry-t.ensures,
    ))
