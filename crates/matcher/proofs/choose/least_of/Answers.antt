-- `matcher::choose::least_of` meets its contract: place by place the cheapest so far is the definition's after as many turns. Each place read is
-- one of the eight.
use mathlib.Core.Path.{◌≡◌}
use native.Mathlib.Omega.{arith}
use lib.ListN.{length}
use Rattle.geo.proofs.Literals.{literal_0}
use Rattle.matcher.specs.Choose.{least_to}
use Rattle.matcher.proofs.PlaceLaws.{least_start, least_next}
use Rattle.matcher.proofs.choose.least_of.Goals as goal

pub returns : goal.returns
returns c =
    let k = c.args.k in
    let which = c.args.which in
    let size : length k.v ≡ 8 = c.well_formed.0.1.1.0.1.0.1 in
    let s1 : c.least_step-l.result ≡ least_to k which 1 = least_next k which 0 _ _ _ (omega (arith, size)) c.least_step-l.ensures (least_start k which _ literal_0) in
    let s2 : c.least_step-l-2.result ≡ least_to k which 2 = least_next k which 1 _ _ _ (omega (arith, size)) c.least_step-l-2.ensures s1 in
    let s3 : c.least_step-l-3.result ≡ least_to k which 3 = least_next k which 2 _ _ _ (omega (arith, size)) c.least_step-l-3.ensures s2 in
    let s4 : c.least_step-l-4.result ≡ least_to k which 4 = least_next k which 3 _ _ _ (omega (arith, size)) c.least_step-l-4.ensures s3 in
    let s5 : c.least_step-l-5.result ≡ least_to k which 5 = least_next k which 4 _ _ _ (omega (arith, size)) c.least_step-l-5.ensures s4 in
    let s6 : c.least_step-l-6.result ≡ least_to k which 6 = least_next k which 5 _ _ _ (omega (arith, size)) c.least_step-l-6.ensures s5 in
    let s7 : c.least_step-l-7.result ≡ least_to k which 7 = least_next k which 6 _ _ _ (omega (arith, size)) c.least_step-l-7.ensures s6 in
    let s8 : c.least_step-l-8.result ≡ least_to k which 8 = least_next k which 7 _ _ _ (omega (arith, size)) c.least_step-l-8.ensures s7 in
    rw s8
