-- `predict::road::started_by` meets its contract: each return by the lookup's answer. The start's height is read back from its bits.
use Rattle.std.proofs.Common.{ap, ◌∙◌}
use Rattle.cache.specs.declared.Lookup.{Lookup}
use Rattle.std.specs.Prelude.{Ok}
use mir.Syntax.{w32}
use Rattle.pack.proofs.Signed.{got}
use Rattle.predict.specs.Predict.{started_by}
use Rattle.predict.proofs.road.started_by.Goals as goal

pub returns-in-Ok-Missing : goal.returns-in-Ok-Missing
unfolding started_by
returns-in-Ok-Missing c =
    let told = (c.in-Ok-Missing.is ∙ ap (λ (l : Lookup). Ok l) (rw c.in-Ok-Missing.is at c.in-Ok-Missing.field-0-is)) in
    record {
      value = rw told;
      looks_after = rw told;
      samples_after = rw told;
      behind_after = rw told;
    }

pub returns-in-Ok-Absent : goal.returns-in-Ok-Absent
unfolding started_by
returns-in-Ok-Absent c =
    let told = (c.in-Ok-Absent.is ∙ ap (λ (l : Lookup). Ok l) (rw c.in-Ok-Absent.is at c.in-Ok-Absent.field-0-is)) in
    record {
      value = rw told;
      looks_after = rw told;
      samples_after = rw told;
      behind_after = rw told;
    }

pub returns-in-Err : goal.returns-in-Err
unfolding started_by
returns-in-Err c =
    let told = c.in-Err.is in
    record {
      value = rw told;
      looks_after = rw told;
      samples_after = rw told;
      behind_after = rw told;
    }

pub returns-in-Ok-Ready : goal.returns-in-Ok-Ready
unfolding started_by
returns-in-Ok-Ready c =
    let args = c.args in
    let height = got w32 {z = args.start.z_dm} c.struct_told-1.given.1.1.1.1.1.1.0.1 in
    record {
      value = rw (c.in-Ok-Ready.is ∙ ap (λ (l : Lookup). Ok l) (rw c.in-Ok-Ready.is at c.in-Ok-Ready.field-0-is)) (rw (c.run_bytes-bytes.ensures, height) at c.from_tile.ensures.value);
      looks_after = rw (c.in-Ok-Ready.is ∙ ap (λ (l : Lookup). Ok l) (rw c.in-Ok-Ready.is at c.in-Ok-Ready.field-0-is)) (rw (c.run_bytes-bytes.ensures, height) at c.from_tile.ensures.looks_after);
      samples_after = rw (c.in-Ok-Ready.is ∙ ap (λ (l : Lookup). Ok l) (rw c.in-Ok-Ready.is at c.in-Ok-Ready.field-0-is)) (rw (c.run_bytes-bytes.ensures, height) at c.from_tile.ensures.samples_after);
      behind_after = rw (c.in-Ok-Ready.is ∙ ap (λ (l : Lookup). Ok l) (rw c.in-Ok-Ready.is at c.in-Ok-Ready.field-0-is)) (rw (c.run_bytes-bytes.ensures, height) at c.from_tile.ensures.behind_after);
    }
