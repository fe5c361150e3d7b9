-- `put_page` meets its contract. The loop's invariant: behind the heading stand the lines of the samples up to i, 41 bytes each. The measure is how many are left.
use Prim.Native.Nat.{ℕ, suc, ◌+◌, ◌-◌, ◌≤◌, ◌<◌}
use mathlib.Core.Path.{◌≡◌}
use mathlib.Core.List.{List, ◌++◌}
use native.Mathlib.Omega.{arith}
use lib.ListN.{length, take, drop, get_or, length-drop}
use lib.Seq.{get_or-drop}
use lib.IntN.{ℤ, pos}
use mir.Facts.{to_z-of_z}
use mir.Syntax.{w16}
use mir.Val.{SFits}
use Rattle.std.proofs.Common.{rules}
use Rattle.profile_text.specs.Codes.{codes}
use Rattle.profile_text.specs.Appended.{Appended}
use Rattle.profile_text.specs.Text.{lines_by}
use Rattle.profile_text.specs.Page.{page_heading, page_of, right_in, left_in, bar}
use Rattle.profile_text.proofs.Laws.{append_none, append_more, lines_more}
use Rattle.profile_text.proofs.Order.{lowest_each, highest_each}
use Rattle.profile_text.proofs.page.put_page.Goals as goal
use Rattle.profile_text.proofs.page.put_page.Invariants.{Lined, row}

start : (zs : List ℤ) (from to : ℕ) (old : List ℕ) (at : ℕ) → from ≤ to → Lined zs from to old at old at from
unfolding lines_by
start zs from to old at h =
    let none : from - from ≡ 0 = omega arith in
    record { after = omega arith; within = h; ends = omega arith; text = rw none (append_none old at) }

one_more : (zs : List ℤ) (from i : ℕ) → from ≤ i → i < length zs → lines_by (row zs) from (take (i + 1 - from) (drop from zs)) ≡ lines_by (row zs) from (take (i - from) (drop from zs)) ++ row zs i (get_or zs i (pos 0))
one_more zs from i a h =
    let count : i + 1 - from ≡ suc (i - from) = omega arith in
    let here : from + (i - from) ≡ i = omega arith in
    rw (count, lines_more (row zs) from (i - from) (drop from zs) (pos 0) (simp length-drop (omega arith)), get_or-drop from zs (i - from) (pos 0), here)

next : (zs : List ℤ) (from to : ℕ) (old : List ℕ) (first : ℕ) (out new : List ℕ) (at i r : ℕ) → i < to → to ≤ length zs → Lined zs from to old first out at i → Appended out at (row zs i (get_or zs i (pos 0))) new r → r ≡ at + 41 → Lined zs from to old first new r (i + 1)
next zs from to old first out new at i r l m inv h e =
    record {
      after = omega (arith, inv.after);
      within = omega arith;
      ends = omega (arith, inv.ends, inv.after);
      text = rw (one_more zs from i inv.after (omega arith)) (append_more inv.text h);
    }

done : (zs : List ℤ) (from to : ℕ) (old : List ℕ) (first : ℕ) (out : List ℕ) (at i : ℕ) → to ≤ i → Lined zs from to old first out at i → Appended old first (lines_by (row zs) from (take (to - from) (drop from zs))) out at
done zs from to old first out at i h inv = let end : to ≡ i = omega (arith, inv.within) in rw end inv.text

pub loop-i-init : goal.loop-i-init
loop-i-init c = start _ _ _ _ _ c.requires.0

pub put_page_line-at-requires : goal.put_page_line-at-requires
put_page_line-at-requires c =
    let l = c.loop-i in
    let zs = c.args.samples.now in
    let h = c.range-r in
    let z : SFits w16 (get_or zs l.i (pos 0)) = search rules in
    let there : l.i < length zs = omega (arith, c.requires) in
    record {
      sample_number = omega arith;
      line_fits = omega (arith, l.invariant.ends, l.invariant.within, c.put_bytes-at.ensures.ends, c.requires);
      height_between = rw (to_z-of_z z, h.ensures.lowest, h.ensures.highest) (lowest_each zs l.i there, highest_each zs l.i there);
    }

pub loop-i-preserved : goal.loop-i-preserved
loop-i-preserved c =
    let l = c.loop-i in
    let h = c.range-r in
    let z : SFits w16 (get_or c.args.samples.now l.i (pos 0)) = search rules in
    let line = rw (to_z-of_z z, h.ensures.lowest, h.ensures.highest) at c.put_page_line-at.ensures.appended in
    next _ _ _ _ _ _ _ _ _ _ c.loop-i-test.true c.requires.1.1.0 l.invariant line c.put_page_line-at.ensures.value

pub returns : goal.returns
unfolding page_of page_heading right_in left_in bar codes
returns c = let l = c.loop-i in append_more c.put_bytes-at.ensures (done _ _ _ _ _ _ _ l.i c.loop-i-test.false l.invariant)
