-- `matcher::choose::kept_at` meets its contract. The loop's invariant: no candidate passed is on the edge. Past the eighth none counts.
use Prim.Native.Nat.{ℕ, ◌<◌, ◌≤◌}
use mathlib.Core.Path.{◌≡◌, sym, ◌∙◌}
use mathlib.Core.Logic.{⊎_elim}
use native.Mathlib.Omega.{arith}
use Rattle.cache.proofs.Below.{below_or}
use lib.ListN.{length}
use borrow.Author.Tests.{lt-ltb, le-ltb}
use Rattle.cache.proofs.SearchLaws.{lowest_start, lowest_hit, lowest_miss, lowest_past}
use Rattle.matcher.specs.Keeping.{no_candidate}
use Rattle.matcher.proofs.KeepLaws.{at_any}
use Rattle.matcher.specs.Choose.{kept_at}
use Rattle.matcher.proofs.choose.kept_at.Goals as goal

pub loop-i-init : goal.loop-i-init
loop-i-init c = lowest_start _

pub returns-then-same_edge : goal.returns-then-same_edge
unfolding kept_at
returns-then-same_edge c =
    let at_loop = c.loop-i in
    let v = c.args.k.v in
    let size : length v ≡ 8 = c.well_formed.0.1.1.0.1.0.1 in
    let below : at_loop.i < 8 = omega arith in
    sym (lowest_hit _ at_loop.i c.args.k.len (omega arith) at_loop.invariant
    (rw (lt-ltb at_loop.i 8 below) (rw (at_any v at_loop.i _ no_candidate (omega arith)) at (sym c.same_edge.ensures ∙ c.if-same_edge.true))))

pub loop-i-preserved : goal.loop-i-preserved
loop-i-preserved c =
    let at_loop = c.loop-i in
    let v = c.args.k.v in
    let size : length v ≡ 8 = c.well_formed.0.1.1.0.1.0.1 in
    let below : at_loop.i < 8 = omega arith in
    lowest_miss _ at_loop.i at_loop.invariant
    (rw (lt-ltb at_loop.i 8 below) (rw (at_any v at_loop.i _ no_candidate (omega arith)) at (sym c.same_edge.ensures ∙ c.if-same_edge.false)))

pub returns : goal.returns
unfolding kept_at
returns c =
    let at_loop = c.loop-i in
    let len = c.args.k.len in
    ⊎_elim
    (λ (h : 8 < len).
    sym (lowest_past _ at_loop.i len (omega arith) (λ (j : ℕ) (g : at_loop.i ≤ j). rw (le-ltb j 8 (omega arith))) at_loop.invariant))
    (λ (h : len ≤ 8). let end : at_loop.i ≡ len = omega arith in sym (rw end at at_loop.invariant))
    (below_or 8 len)
