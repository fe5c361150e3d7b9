-- `predict::ridden::go_back` meets its contract. The loop's invariant: what was done is the definition's loop up to here; once the road is over
-- it stays so.
use Prim.Native.Nat.{◌+◌, ◌-◌}
use mathlib.Core.Path.{◌≡◌, refl, sym, ap, ◌∙◌}
use native.Mathlib.Omega.{arith}
use Rattle.predict.specs.Ridden.{Backs, backs}
use Rattle.predict.proofs.BackLaws.{both, backs_start, backs_on, backs_over}
use Rattle.predict.proofs.ridden.go_back.Goals as goal

pub loop-i-init : goal.loop-i-init
loop-i-init c =
    let args = c.args in
    let none : args.from - args.from ≡ 0 = omega arith in
    let start = backs_start args.trip args.leg args.bytes.now args.lon_um args.reach args.from _ in
    (omega arith, (omega arith, (refl, rw none (sym start))))

pub shape_of-heights-then-d : goal.shape_of-heights-then-d
shape_of-heights-then-d c = omega arith

pub returns-then-d : goal.returns-then-d
unfolding backs
returns-then-d c =
    let l = c.loop-i in
    let args = c.args in
    let e =
    sym (backs_over args.trip args.leg args.bytes.now args.lon_um args.reach args.from _ (l.i - args.from)
    (args.leg.edge.vertices + 1 + 1 - args.from) _ l.invariant.1.1.1 c.if-d.true (omega (arith, l.invariant.1.0))) in
    record {
      value = ap (λ (x : Backs). x.back) e;
      heights_after = ap (λ (x : Backs). x.heights) e;
    }

pub overflow_add-i : goal.overflow_add-i
overflow_add-i c = omega arith

pub loop-i-smaller : goal.loop-i-smaller
loop-i-smaller c = omega arith

pub loop-i-preserved : goal.loop-i-preserved
loop-i-preserved c =
    let step = c.back_step-d in
    let l = c.loop-i in
    let args = c.args in
    let next : l.i - args.from + 1 ≡ l.i + 1 - args.from = omega arith in
    let here : args.from + (l.i - args.from) ≡ l.i = omega arith in
    let on =
    rw (next, here) at
    (backs_on args.trip args.leg args.bytes.now args.lon_um args.reach args.from _ (l.i - args.from) _ l.invariant.1.1.1
    c.if-d.false) in
    (omega arith, (omega arith, (omega arith, both _ _ _ step.ensures.value step.ensures.heights_after ∙ sym on)))

pub shape_of-heights : goal.shape_of-heights
shape_of-heights c = omega arith

pub returns : goal.returns
unfolding backs
returns c =
    let l = c.loop-i in
    let args = c.args in
    let done : l.i - args.from ≡ args.leg.edge.vertices + 1 + 1 - args.from = omega arith in
    let e = rw done at l.invariant.1.1.1 in
    record {
      value = ap (λ (x : Backs). x.back) e;
      heights_after = ap (λ (x : Backs). x.heights) e;
    }
