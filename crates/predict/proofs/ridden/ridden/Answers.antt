-- `predict::ridden::ridden` meets its contract: by the answers of its callees, in the definition's order, with the literals read as whole
-- numbers.
use mathlib.Core.Path.{◌≡◌, refl}
use lib.Ieee.{binary32, of_bits, of_int}
use Rattle.geo.specs.Flat.{whole}
use Rattle.geo.proofs.Literals.{literal_0}
use Rattle.predict.specs.Ridden.{ridden}
use Rattle.predict.proofs.ridden.ridden.Goals as goal

literal_200 : of_bits binary32 1128792064 ≡ whole 200
unfolding of_bits of_int
literal_200 = refl

pub returns : goal.returns
unfolding ridden
returns c =
    let written_value = rw (
      c.go_back-d.ensures.value,
      c.go_back-d.ensures.heights_after,
      c.first_of-from.ensures,
      c.push_on-mark.ensures.value,
      c.push_on-mark.ensures.heights_after,
      c.min-reach.ensures,
      literal_0,
      literal_200,
    ) at c.last_sample.ensures.value in
    let written_heights_after = rw (
      c.go_back-d.ensures.value,
      c.go_back-d.ensures.heights_after,
      c.first_of-from.ensures,
      c.push_on-mark.ensures.value,
      c.push_on-mark.ensures.heights_after,
      c.min-reach.ensures,
      literal_0,
      literal_200,
    ) at c.last_sample.ensures.heights_after in
    record {
      value = written_value;
      heights_after = written_heights_after;
    }
