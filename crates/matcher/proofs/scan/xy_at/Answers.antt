-- `matcher::scan::xy_at` meets its contract: a number read out of a slice is the one that stands where the slice does (`u16_slice`).
use Prim.Native.Nat.{ℕ, ◌+◌, ◌-◌}
use native.Mathlib.Omega.{arith}
use Rattle.pack.proofs.Laws.{u16_slice}
use Rattle.matcher.proofs.scan.xy_at.Goals as goal

pub returns : goal.returns
returns c =
    let args = c.args in
    let n : ℕ = args.at + 4 - args.at in
    rw (
      c.u16_at-2.ensures,
      c.u16_at-3.ensures,
      u16_slice args.bytes.now args.at n 0 args.at (omega arith) (omega arith),
      u16_slice args.bytes.now args.at n 2 (args.at + 2) (omega arith) (omega arith),
    )
