-- The table of bench lines holds: every line is computed from the definitions.
use Rattle.refusal.specs.declared.Refusal.{Refusal}
use Rattle.std.specs.Prelude.{Ok, Err}
use mathlib.Core.Path.{◌≡◌, refl}
use mathlib.Core.List.{[]}
use lib.Ieee.{Float, of_int, of_bits, to_bits, units}
use Rattle.crc.specs.Fcs.{add, lower, divide, remainder, zeros, bits, number, message, fcs, crc32}
use Rattle.num.specs.Root.{root_in, whole_root, near_root, square_root}
use Rattle.pack.specs.Sector.{rules}
use Rattle.pack.specs.Grid.{key, entry, key_of, checked_of, entry_of}
use Rattle.cache.specs.Runs.{span}
use Rattle.cache.specs.Victim.{age, least_of, best_of}
use Rattle.num.specs.Fold.{up_to}
use Rattle.predict.specs.Twins.{push, twin_step, twins_to}
use Rattle.engine.specs.Calls.{new, fix}
use Rattle.engine.proofs.StateLaws.{new_ok}
use Rattle.bench.specs.Lines.{Lines, fix_at}

-- a new engine is no state that number 12 names, so that the point alone is tested
at_limit : (horizon : Float) → (fix (new [] horizon) [] (fix_at 360000000)).answer ≡ Ok tt
unfolding fix
at_limit horizon = rw (new_ok [] horizon)

past_limit : (horizon : Float) → (fix (new [] horizon) [] (fix_at 360000001)).answer ≡ Err Refusal.OutOfRange
unfolding fix
past_limit horizon = rw (new_ok [] horizon)

pub lines : Lines
unfolding add lower divide remainder zeros bits number message fcs crc32 of_int root_in whole_root near_root square_root of_bits to_bits units rules key entry key_of checked_of entry_of span age least_of best_of up_to push twin_step twins_to
lines = record {
  crc_of_digits = refl;
  crc_of_nothing = refl;
  float_below = refl;
  float_above = refl;
  root_of_two = refl;
  row_below = refl;
  row_first = refl;
  row_last = refl;
  row_above = refl;
  entry_offset = refl;
  tile_length = refl;
  pages_of_none = refl;
  pages_of_one = refl;
  pages_of_two = refl;
  pages_of_six = refl;
  one_wanted = refl;
  five_wanted = refl;
  corner_twins = refl;
  cut_toward_zero = refl;
  fix_at_limit = at_limit;
  fix_past_limit = past_limit;
}
