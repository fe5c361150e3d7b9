-- `predict::samples::sample_at` meets its contract: the literal read as a whole number.
use Rattle.predict.proofs.SampleLiterals.{literal_20}
use Rattle.predict.proofs.samples.sample_at.Goals as goal

pub returns : goal.returns
returns c = rw (c.f32_of_usize.ensures, literal_20)
