-- `put_number` meets its contract. The loop's invariant: n's digits are those of what is left, and then those that stand from `first` on.
-- As n has at most five and what is left has one, there is room for another (`room`). The measure is `first`.
use Prim.Native.Nat.{ℕ, suc, ◌+◌, ◌-◌, ◌/◌, ◌%◌, ◌<◌, ◌≤◌}
use mathlib.Core.Path.{◌≡◌, ap, ◌∙◌}
use mathlib.Core.List.{List, ◌∷◌, ◌++◌, append_assoc}
use native.Mathlib.Omega.{arith}
use lib.ListN.{length, take, drop, set, length-append, length-drop, length-set}
use lib.Seq.{take_all, drop-cons, get_or-set_same, drop-set-lt}
use Rattle.profile_text.specs.Text.{decimal}
use Rattle.profile_text.proofs.Laws.{decimal_one, decimal_more, decimal_some, length-decimal}
use Rattle.profile_text.proofs.put_number.Goals as goal
use Rattle.profile_text.proofs.put_number.Invariants.{Written}

-- a digit before those from `first` on
put_before : (ds : List ℕ) (at first v : ℕ) → first ≡ suc at → at < length ds → drop at (set ds at v) ≡ v ∷ drop first ds
put_before ds at first v e h = rw (e, drop-cons (set ds at v) at 0 (simp length-set h), get_or-set_same ds at v 0 h, drop-set-lt (suc at) ds at v (omega arith))

-- the digits after one more
abbrev next : List ℕ → ℕ → ℕ → List ℕ
next ds first left = set ds (first - 1) (48 + left % 10)

module _ (n : ℕ) (ds : List ℕ) (first left : ℕ) (inv : Written n ds first left) (small : n < 100000) where
  room : 1 ≤ first
  room = omega (arith, length-decimal 4 n (omega arith), decimal_some left, simp (length-append, length-drop) at (ap length inv.all))

  written : drop (first - 1) (next ds first left) ≡ (48 + left % 10) ∷ drop first ds
  written = put_before ds (first - 1) first (48 + left % 10) (omega (arith, room)) (omega (arith, room))

  last : left / 10 ≡ 0 → take (5 - (first - 1)) (drop (first - 1) (next ds first left)) ≡ decimal n
  last e =
      let one : left % 10 ≡ left = omega arith in
      take_all (5 - (first - 1)) (drop (first - 1) (next ds first left)) (simp (length-drop, length-set) (omega arith)) ∙ rw (written, inv.all, decimal_one left (omega arith), one)

  more : (left / 10 ≡ 0 → ⊥) → decimal n ≡ decimal (left / 10) ++ drop (first - 1) (next ds first left)
  more e = inv.all ∙ rw (written, decimal_more left (omega arith) (omega arith), append_assoc)

pub overflow_sub-first : goal.overflow_sub-first
overflow_sub-first c = room _ _ _ _ c.loop-left.invariant c.requires.0

pub loop-left-smaller : goal.loop-left-smaller
loop-left-smaller c = omega (arith, room _ _ _ _ c.loop-left.invariant c.requires.0)

pub loop-left-preserved : goal.loop-left-preserved
loop-left-preserved c =
    let l = c.loop-left in
    record {
      within = omega arith;
      five = simp length-set l.invariant.five;
      less = omega arith;
      all = more _ _ _ _ l.invariant c.requires.0 c.if-left-eq0.false;
    }

pub returns : goal.returns
returns c =
    let l = c.loop-left in
    let pre = c.requires in
    let ended = c.if-left-eq0.true in
    rw (last _ _ _ _ l.invariant pre.0 ended) at c.put_bytes.ensures
