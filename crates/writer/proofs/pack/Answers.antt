-- `writer::pack` meets its contract: 13, 14 for the total and for the output, and a pack written.
use Rattle.std.proofs.Common.{rules, tests, arith, ap, ◌≡◌, true, false, eqb, length, refl}
use Rattle.writer.specs.PackSteps.{given}
use Rattle.writer.specs.PackWritten.{sum_of, total, pack_good}
use Rattle.writer.proofs.PackRules.{pack_broken}
use Rattle.writer.proofs.PlaceLaws.{sum_is}
use Rattle.writer.proofs.WriteLaws.{refused_13, over_14, short_14, written}
use Rattle.writer.proofs.pack.Goals as goal

pub returns-in_default : goal.returns-in_default
returns-in_default c =
    let g = given c.args.grid c.args.tiles.now c.args.lengths.now in
    let over : eqb (sum_of c.args.lengths.now) (length c.args.tiles.now) ≡ false = search (rules, tests) in
    rw (refused_13 g c.args.out.now (pack_broken g 1 over)) (record { value = refl; out_after = refl })

pub returns-then-not-pack_good : goal.returns-then-not-pack_good
returns-then-not-pack_good c =
    let g = given c.args.grid c.args.tiles.now c.args.lengths.now in
    let same = c.in-Some.ensures.same in
    let bad : pack_good g ≡ false = rw (← same.0, ← same.1) (search (rules, tests)) in
    rw (refused_13 g c.args.out.now bad) (record { value = refl; out_after = refl })

pub returns-then-total-gt4294967295 : goal.returns-then-total-gt4294967295
returns-then-total-gt4294967295 c =
    let g = given c.args.grid c.args.tiles.now c.args.lengths.now in
    let same = c.in-Some.ensures.same in
    let good : pack_good g ≡ true = rw (← same.0, ← same.1) (search (rules, tests)) in
    rw (over_14 g c.args.out.now good (omega (arith, ap length same.0, sum_is g good))) (record { value = refl; out_after = refl })

pub returns-then-out-total : goal.returns-then-out-total
returns-then-out-total c =
    let g = given c.args.grid c.args.tiles.now c.args.lengths.now in
    let same = c.in-Some.ensures.same in
    let good : pack_good g ≡ true = rw (← same.0, ← same.1) (search (rules, tests)) in
    rw (short_14 g c.args.out.now good (omega (arith, ap length same.0, sum_is g good))) (record { value = refl; out_after = refl })

pub returns : goal.returns
returns c =
    let g = given c.args.grid c.args.tiles.now c.args.lengths.now in
    let same = c.in-Some.ensures.same in
    let good : pack_good g ≡ true = rw (← same.0, ← same.1) (search (rules, tests)) in
    let long : c.saturating_add-total.result ≡ total g = omega (arith, ap length same.0, sum_is g good) in
    rw (written g c.args.out.now good c.saturating_add-total.result c.fill.new.out long (omega arith) (omega arith) (rw (← same.0, ← same.1) c.fill.ensures))
    (record { value = refl; out_after = refl })
