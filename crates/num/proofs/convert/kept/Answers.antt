-- `num::convert::kept` meets its contract: the digit below those that are kept, and what lies under it, by the laws of `Closest`.
-- `more << (cut - 1)` loses nothing, so it is m without that.
use Rattle.std.proofs.Common.{◌≡◌, ℕ, ◌+◌, ◌-◌, ◌*◌, ◌/◌, ◌%◌, ◌^◌, ◌<◌, ap, ◌∙◌, mod-eq_of_lt, arith}
use lib.Pow.{split}
use Rattle.num.proofs.Closest.{closest_below, closest_above, closest_tie}
use Rattle.num.proofs.convert.kept.Goals as goal

back : (m c : ℕ) → m < 2 ^ 64 → m / 2 ^ c * 2 ^ c % 2 ^ 64 + m % 2 ^ c ≡ m
back m c h =
    let l : m / 2 ^ c * 2 ^ c < 2 ^ 64 = omega (arith, split m c) in
    ap (λ (x : ℕ). x + m % 2 ^ c) (mod-eq_of_lt l) ∙ split m c

pub returns-then-more-eq0 : goal.returns-then-more-eq0
returns-then-more-eq0 c =
    let cut : ℕ = c.args.cut in
    closest_below c.args.m (cut - 1) cut (omega (arith, c.requires)) c.if-more-eq0.true

pub returns-then-more-cut : goal.returns-then-more-cut
returns-then-more-cut c =
    let m : ℕ = c.args.m in
    let cut : ℕ = c.args.cut in
    closest_above m (cut - 1) cut (omega (arith, c.requires)) (omega (arith, c.if-more-eq0.false)) (omega (arith, c.if-more-cut.true, back m (cut - 1) c.ranges.m.fits))

pub returns : goal.returns
returns c =
    let m : ℕ = c.args.m in
    let cut : ℕ = c.args.cut in
    closest_tie m (cut - 1) cut (omega (arith, c.requires)) (omega (arith, c.if-more-eq0.false)) (omega (arith, c.if-more-cut.false, back m (cut - 1) c.ranges.m.fits))
