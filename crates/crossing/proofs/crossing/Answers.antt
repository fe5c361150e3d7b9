-- `crossing::crossing` meets its contract: what is refused is what `refusal` says, and the search by sign tests answers the request.
use mathlib.Core.Path.{sym, ◌∙◌}
use Rattle.crossing.proofs.Reach.{end_reach}
use Rattle.crossing.proofs.Answer.{accepted, answered}
use Rattle.crossing.proofs.crossing.Goals as goal

pub in_tile-requires : goal.in_tile-requires
in_tile-requires c =
    let args = c.args in
    let a = accepted args.first args.second args.header args.key args.bytes.now (sym c.checked.ensures ∙ c.in_ok-checked.was) in
    (a.passed, (rw c.place.ensures (end_reach args.first a.first_in).small, rw c.place-2.ensures (end_reach args.second a.second_in).small))

pub returns : goal.returns
returns c =
    let args = c.args in
    let passed = sym c.checked.ensures ∙ c.in_ok-checked.was in
    let a = accepted args.first args.second args.header args.key args.bytes.now passed in
    answered args.first args.second args.header args.key args.bytes.now a (λ i. (c.shared_slice_known-1.given i).fits) passed c.in_tile.result
    (rw (c.place.ensures, c.place-2.ensures) at c.in_tile.ensures)
