-- `circle::arc` meets its contract: each term is one step of the series, each at most its coefficient, and q's square is at most 1.
use Rattle.std.proofs.Common.{◌≡◌, ◌∙◌, ◌*◌, ◌/◌, ◌^◌}
use Rattle.angle.specs.Bearing.{coefficients, series}
use Rattle.angle.proofs.Arc.{arc_is}
use Rattle.angle.proofs.circle.arc.Goals as goal

pub returns : goal.returns
unfolding series
returns c =
    let q = c.args.q in
    let sum : c.term-p0.result ≡ series (q * q / 2 ^ 31) coefficients =
    rw (c.term-p0.ensures.0, c.term-p1.ensures.0, c.term-p2.ensures.0, c.term-p3.ensures.0, c.term-p4.ensures.0, c.term-p5.ensures.0, c.term-p6.ensures.0, c.term-p7.ensures.0, c.term-p8.ensures.0) in
    c.min.ensures ∙ arc_is _ _ sum
