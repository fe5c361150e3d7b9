-- The road ahead that is published: `engine.rs`, `Ahead` and `publish`.
use Rattle.std.specs.Prelude.{Option, Some, None, ℕ, Bool, false, replicate, pos, nat_lt}
use Rattle.geo.specs.Flat.{whole}
use Rattle.cache.specs.Lookups.{after}
use Rattle.matcher.specs.declared.Matched.{Matched}
use Rattle.predict.specs.declared.End.{End}
use Rattle.predict.specs.declared.Prediction.{Prediction}
use Rattle.engine.specs.declared.Ahead.{Ahead}

abbrev pub on_road_by : Option Matched → ℕ → Bool
on_road_by None len = false
on_road_by (Some m) len = nat_lt 1 len

-- on a mapped road, and more than the rider's own height is known
abbrev pub on_road : Ahead → Bool
on_road a = on_road_by a.matched a.len

-- `Ahead::default()`, with the generation given
unfoldable pub nothing_ahead : ℕ → Ahead
nothing_ahead generation = record {
  generation = generation;
  at_ms = 0;
  matched = None;
  start_z_dm = pos 0;
  samples = replicate 501 (pos 0);
  len = 0;
  behind = replicate 11 (pos 0);
  behind_len = 0;
  behind_m = whole 0;
  end = End.Uncertain;
  end_m = whole 0;
  confidence = 0;
}

-- the generation counts on in 32 bits
abbrev pub forgotten : Ahead → Ahead
forgotten a = nothing_ahead (after a.generation)

-- no match: lengths, distances and confidence 0; the heights stay where they stand
unfoldable pub without_match : Ahead → ℕ → End → Ahead
without_match a at end = record {
  generation = after a.generation;
  at_ms = at;
  matched = None;
  start_z_dm = pos 0;
  samples = a.samples;
  len = 0;
  behind = a.behind;
  behind_len = 0;
  behind_m = whole 0;
  end = end;
  end_m = whole 0;
  confidence = 0;
}

-- the road of a match
unfoldable pub with_match : Ahead → ℕ → Matched → Prediction → Ahead
with_match a at m p = record {
  generation = after a.generation;
  at_ms = at;
  matched = Some m;
  start_z_dm = m.z_dm;
  samples = a.samples;
  len = p.len;
  behind = a.behind;
  behind_len = p.behind;
  behind_m = p.behind_m;
  end = p.end;
  end_m = p.end_m;
  confidence = p.confidence;
}
