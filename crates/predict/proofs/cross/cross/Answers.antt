-- `predict::cross::cross` meets its contract. The loop's invariant: the ways on so far are the definition's after as many tiles; once no tile
-- is left, the definition's further steps change nothing.
use Prim.Native.Nat.{ℕ, zero, suc, ◌+◌, ◌≤◌}
use mathlib.Core.Path.{◌≡◌, sym, ap, ◌∙◌}
use mathlib.Core.List.{List}
use mathlib.Core.Logic.{⊎_elim}
use native.Mathlib.Omega.{arith}
use lib.ListN.{get_or}
use borrow.Author.Tests.{le-ltb}
use Rattle.num.specs.Fold.{up_to}
use Rattle.num.proofs.FoldLaws.{up_start, up_turn}
use Rattle.cache.proofs.Below.{same_or}
use Rattle.cache.specs.Reader.{Reader}
use Rattle.predict.specs.declared.twins.TwinList.{TwinList}
use Rattle.predict.specs.Twins.{no_twin}
use Rattle.predict.specs.declared.Arrival.{Arrival}
use Rattle.predict.specs.declared.Crossing.{Crossing}
use Rattle.predict.specs.Cross.{Ways, crossing, ways_of, step_over, cross_to, cross_step, cross}
use Rattle.predict.proofs.cross.cross.Goals as goal

-- the ways on and the numbers lent, by their two equations
joined : {x : Crossing} {s : List ℕ} (w : Ways (List ℕ)) → x ≡ crossing w → s ≡ w.carried → ways_of x s ≡ w
joined w e f = rw (e, f)

module _ (rd : Reader (List ℕ)) (a : Arrival) (v : List ℕ) (x : Ways (List ℕ)) (twins : TwinList) where
  -- one tile more
  turn : (i : ℕ) {y : Ways (List ℕ)} → y ≡ cross_to rd a v x twins i
      → step_over rd a v y (get_or twins.v i no_twin) i twins.len ≡ cross_to rd a v x twins (i + 1)
  unfolding cross_to
  turn i e = rw (e, up_turn)

  -- no tile is left from number i on
  none_left : (n i : ℕ) → i ≤ n → twins.len ≤ i → cross_to rd a v x twins n ≡ cross_to rd a v x twins i
  unfolding cross_to up_to
  none_left zero i h l = let z : i ≡ 0 = omega arith in rw z
  none_left (suc n) i h l =
      ⊎_elim
      (λ (q : i ≡ suc n). rw q)
      (λ q. rw (le-ltb n twins.len (omega (arith, q))) (none_left n i (omega (arith, q)) l))
      (same_or i (suc n))

pub loop-i-init : goal.loop-i-init
unfolding cross_to
loop-i-init c = rw up_start

pub returns-then-twins-i : goal.returns-then-twins-i
unfolding cross
returns-then-twins-i c =
    let at_loop = c.loop-i in
    let all = at_loop.invariant ∙ sym (none_left _ _ _ _ _ 8 at_loop.i (omega arith) c.if-twins-i.true) in
    record {
      value = ap crossing all;
      looks_after = ap (λ (w : Ways (List ℕ)). w.carried) all;
    }

pub loop-i-preserved : goal.loop-i-preserved
unfolding cross_step
loop-i-preserved c =
    let step = c.cross_step-x.ensures in
    let at_loop = c.loop-i in
    joined _ step.value step.looks_after ∙ turn _ _ _ _ _ at_loop.i at_loop.invariant

pub returns : goal.returns
unfolding cross
returns c =
    let at_loop = c.loop-i in
    let end : at_loop.i ≡ 8 = omega (arith, c.loop-i-test.false) in
    let all = rw end at at_loop.invariant in
    record {
      value = ap crossing all;
      looks_after = ap (λ (w : Ways (List ℕ)). w.carried) all;
    }
