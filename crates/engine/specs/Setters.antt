-- A follower, and what is due of it, with one field changed: one setter a field.
use Rattle.pack.specs.declared.TileKey.{TileKey}
use Rattle.std.specs.Prelude.{Option, ℕ, Bool}
use Rattle.matcher.specs.declared.Matcher.{Matcher}
use Rattle.engine.specs.declared.Ahead.{Ahead}
use Rattle.engine.specs.declared.Due.{Due}
use Rattle.engine.specs.declared.Follower.{Follower}
use Rattle.engine.specs.declared.Sight.{Sight}

-- ---- a follower

abbrev pub with_sight : Follower → Sight → Follower
with_sight f sight = record {
  sight = sight;
  matcher = f.matcher;
  due = f.due;
  ahead = f.ahead;
  failures = f.failures;
  horizon_m = f.horizon_m;
  steps = f.steps;
}

abbrev pub with_matcher : Follower → Matcher → Follower
with_matcher f m = record {
  sight = f.sight;
  matcher = m;
  due = f.due;
  ahead = f.ahead;
  failures = f.failures;
  horizon_m = f.horizon_m;
  steps = f.steps;
}

abbrev pub with_due : Follower → Due → Follower
with_due f due = record {
  sight = f.sight;
  matcher = f.matcher;
  due = due;
  ahead = f.ahead;
  failures = f.failures;
  horizon_m = f.horizon_m;
  steps = f.steps;
}

abbrev pub with_ahead : Follower → Ahead → Follower
with_ahead f ahead = record {
  sight = f.sight;
  matcher = f.matcher;
  due = f.due;
  ahead = ahead;
  failures = f.failures;
  horizon_m = f.horizon_m;
  steps = f.steps;
}

abbrev pub with_failures : Follower → ℕ → Follower
with_failures f n = record {
  sight = f.sight;
  matcher = f.matcher;
  due = f.due;
  ahead = f.ahead;
  failures = n;
  horizon_m = f.horizon_m;
  steps = f.steps;
}

abbrev pub with_steps : Follower → ℕ → Follower
with_steps f n = record {
  sight = f.sight;
  matcher = f.matcher;
  due = f.due;
  ahead = f.ahead;
  failures = f.failures;
  horizon_m = f.horizon_m;
  steps = n;
}

-- ---- what is due

abbrev pub with_matching : Due → Bool → Due
with_matching d b = record { matching = b; road = d.road; last_road = d.last_road; need = d.need; reloads = d.reloads }

abbrev pub with_road : Due → Bool → Due
with_road d b = record { matching = d.matching; road = b; last_road = d.last_road; need = d.need; reloads = d.reloads }

abbrev pub with_last_road : Due → Option ℕ → Due
with_last_road d at = record { matching = d.matching; road = d.road; last_road = at; need = d.need; reloads = d.reloads }

abbrev pub with_need : Due → Option TileKey → Due
with_need d key = record { matching = d.matching; road = d.road; last_road = d.last_road; need = key; reloads = d.reloads }

abbrev pub with_reloads : Due → ℕ → Due
with_reloads d n = record { matching = d.matching; road = d.road; last_road = d.last_road; need = d.need; reloads = n }
