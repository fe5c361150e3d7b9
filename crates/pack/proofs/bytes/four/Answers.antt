-- `pack::bytes::four` meets its contract: four bytes are two halves of two.
use native.Mathlib.Omega.{arith}
use Prim.Native.Nat.{ℕ, ◌+◌, ◌*◌}
use mathlib.Core.List.{List}
use mathlib.Core.Path.{◌≡◌}
use Rattle.pack.specs.Bytes.{byte_at, u16_at, u32_at}
use Rattle.pack.proofs.bytes.four.Goals as goal

-- four bytes are two halves of two
halves : (bs : List ℕ) (at : ℕ) → byte_at bs at + byte_at bs (at + 1) * 256 + byte_at bs (at + 2) * 65536 + byte_at bs (at + 3) * 16777216 ≡ u32_at bs at
unfolding u16_at u32_at
halves bs at =
    let next : at + 2 + 1 ≡ at + 3 = omega arith in
    rw next (omega arith)

pub returns : goal.returns
returns c =
    rw (
      c.wide_32.ensures.value,
      c.wide_32-2.ensures.value,
      c.wide_32-3.ensures.value,
      c.wide_32-4.ensures.value,
    )
    (halves c.args.bytes.now c.args.at)
