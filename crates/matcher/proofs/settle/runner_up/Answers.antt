-- `matcher::settle::runner_up` meets its contract: place by place the least cost so far is the definition's after as many turns. Each place read is
-- one of the eight.
use mathlib.Core.Path.{◌≡◌}
use native.Mathlib.Omega.{arith}
use lib.ListN.{length}
use Rattle.matcher.specs.Settle.{runner_to}
use Rattle.matcher.proofs.Literals.{infinite}
use Rattle.matcher.proofs.PlaceLaws.{runner_start, runner_next}
use Rattle.matcher.proofs.settle.runner_up.Goals as goal

pub returns : goal.returns
returns c =
    let k = c.args.k in
    let chosen = c.args.chosen in
    let left = c.args.left in
    let size : length k.v ≡ 8 = c.well_formed.0.1.1.0.1.0.1 in
    let s1 : c.rival_step-least.result ≡ runner_to k chosen left 1 = runner_next k chosen left 0 _ _ _ (omega (arith, size)) c.rival_step-least.ensures (runner_start k chosen left _ infinite) in
    let s2 : c.rival_step-least-2.result ≡ runner_to k chosen left 2 = runner_next k chosen left 1 _ _ _ (omega (arith, size)) c.rival_step-least-2.ensures s1 in
    let s3 : c.rival_step-least-3.result ≡ runner_to k chosen left 3 = runner_next k chosen left 2 _ _ _ (omega (arith, size)) c.rival_step-least-3.ensures s2 in
    let s4 : c.rival_step-least-4.result ≡ runner_to k chosen left 4 = runner_next k chosen left 3 _ _ _ (omega (arith, size)) c.rival_step-least-4.ensures s3 in
    let s5 : c.rival_step-least-5.result ≡ runner_to k chosen left 5 = runner_next k chosen left 4 _ _ _ (omega (arith, size)) c.rival_step-least-5.ensures s4 in
    let s6 : c.rival_step-least-6.result ≡ runner_to k chosen left 6 = runner_next k chosen left 5 _ _ _ (omega (arith, size)) c.rival_step-least-6.ensures s5 in
    let s7 : c.rival_step-least-7.result ≡ runner_to k chosen left 7 = runner_next k chosen left 6 _ _ _ (omega (arith, size)) c.rival_step-least-7.ensures s6 in
    let s8 : c.rival_step-least-8.result ≡ runner_to k chosen left 8 = runner_next k chosen left 7 _ _ _ (omega (arith, size)) c.rival_step-least-8.ensures s7 in
    rw s8
