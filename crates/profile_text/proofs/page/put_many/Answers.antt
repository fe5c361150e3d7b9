-- `put_many` meets its contract: the part is filled with the byte.
use Prim.Native.Nat.{ℕ, ◌+◌, ◌-◌}
use borrow.Rule.Slice.PartMut.{mid_of}
use mathlib.Core.Path.{◌≡◌}
use native.Mathlib.Omega.{arith}
use lib.ListN.{length, replicate, length-replicate, length-take, length-drop}
use Rattle.profile_text.proofs.Laws.{append_part}
use Rattle.profile_text.proofs.page.put_many.Goals as goal

pub returns : goal.returns
returns c =
    let out = c.args.out.now in
    let count : length (mid_of c.args.at (c.args.at + c.args.n - c.args.at) out) ≡ c.args.n = simp (length-take, length-drop) (omega arith) in
    let full = rw count at (c.fill.ensures.after (λ (y : ℕ) h. cc)) in
    rw full (append_part out (replicate c.args.n c.args.b) _ _ _ (simp length-replicate) (simp length-replicate (omega arith)) (omega arith))
