-- `predict::outgoing::far_point` meets its contract. The loop's invariant: the definition from here on is the definition from the start.
use Prim.Native.Nat.{ℕ, zero, suc, ◌+◌}
use mathlib.Core.Path.{◌≡◌, refl, sym, ◌∙◌}
use mathlib.Core.Bool.{true, false}
use mathlib.Core.List.{List}
use native.Mathlib.Omega.{arith}
use Rattle.predict.specs.declared.outgoing.Leg.{Leg}
use Rattle.predict.specs.Outgoing.{point_at, reaches, far_from}
use Rattle.predict.proofs.outgoing.far_point.Goals as goal

-- the definition at its last point, at one that lies far enough, and past one that doesn't
module _ (leg : Leg) (bs : List ℕ) (lon_um : ℕ) where
  far_last : (left i : ℕ) → left ≡ 0 → far_from left leg bs lon_um i ≡ point_at leg bs i
  unfolding far_from
  far_last zero i e = refl
  far_last (suc left) i e = absurd (omega arith)

  far_hit : (left i : ℕ) → reaches (point_at leg bs i) (point_at leg bs 0) lon_um ≡ true → far_from left leg bs lon_um i ≡ point_at leg bs i
  unfolding far_from
  far_hit zero i e = refl
  far_hit (suc left) i e = rw e

  far_on : (more left i : ℕ) → more + 1 ≡ left → reaches (point_at leg bs i) (point_at leg bs 0) lon_um ≡ false
      → far_from more leg bs lon_um (i + 1) ≡ far_from left leg bs lon_um i
  unfolding far_from
  far_on more zero i e r = absurd (omega arith)
  far_on more (suc left) i e r = let same : more ≡ left = omega arith in rw (r, same)

pub returns-then-i-last : goal.returns-then-i-last
returns-then-i-last c =
    let args = c.args in
    let at_loop = c.loop-i in
    c.point_at-far.ensures ∙ sym (far_last args.leg args.bytes.now args.lon_um _ at_loop.i (omega (arith, c.if-i-last.true)))
    ∙ at_loop.invariant.1.1

pub returns-then-reaches : goal.returns-then-reaches
returns-then-reaches c =
    let args = c.args in
    let at_loop = c.loop-i in
    let hit = sym c.reaches.ensures ∙ c.if-reaches.true in
    let far = rw (c.point_at-far.ensures, c.requires.origin_value) at hit in
    c.point_at-far.ensures ∙ sym (far_hit args.leg args.bytes.now args.lon_um _ at_loop.i far) ∙ at_loop.invariant.1.1

pub loop-i-preserved : goal.loop-i-preserved
loop-i-preserved c =
    let args = c.args in
    let at_loop = c.loop-i in
    let missed = sym c.reaches.ensures ∙ c.if-reaches.false in
    let near = rw (c.point_at-far.ensures, c.requires.origin_value) at missed in (
      omega arith,
      (
        omega (arith, c.if-i-last.false),
        far_on args.leg args.bytes.now args.lon_um _ _ at_loop.i (omega (arith, c.if-i-last.false)) near
            ∙ at_loop.invariant.1.1,
      ),
    )
