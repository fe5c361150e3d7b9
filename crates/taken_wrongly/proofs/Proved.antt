-- Each case is computed from the definitions, or follows from one of their tests.
use Prim.Native.Nat.{ℕ, ◌-◌}
use mathlib.Core.Path.{refl}
use mathlib.Core.List.{List}
use native.Mathlib.Nat.{le-max_left}
use borrow.Author.Tests.{le-leb}
use lib.Ieee as Ieee
use lib.Ieee.{Float}
use Rattle.num.specs.Fold.{up_to}
use Rattle.pack.specs.declared.TileKey.{TileKey}
use Rattle.cache.specs.Search.{lowest}
use Rattle.cache.specs.Lookups.{touched}
use Rattle.cache.specs.Victim.{age, least_of, best_of}
use Rattle.cache.specs.Loads as Loads
use Rattle.cache.specs.declared.Cache.{Cache}
use Rattle.cache.specs.declared.Loading.{Loading}
use Rattle.matcher.specs.Keeping.{dearest_of, insert}
use Rattle.predict.specs.Choose.{pick_step, pick_to, push}
use Rattle.predict.specs.Decide.{decide}
use Rattle.predict.specs.Meets.{budget, meet, has_met}
use Rattle.predict.specs.Ridden.{last_sample}
use Rattle.predict.specs.Samples.{height_at, push_from}
use Rattle.predict.specs.Vertex.{passed}
use Rattle.matcher.specs.declared.Matched.{Matched}
use Rattle.predict.specs.declared.End.{End}
use Rattle.predict.specs.declared.Prediction.{Prediction}
use Rattle.predict.specs.declared.Track.{Track}
use Rattle.writer.specs.TileWritten.{entries_from, entries_below}
use Rattle.writer.specs.PackWritten.{sum_of}
use Rattle.engine.specs.Publish.{nothing_ahead, with_match, without_match}
use Rattle.engine.specs.declared.Ahead.{Ahead}
use Rattle.taken_wrongly.specs.Cases.{Cases}

pub cases : Cases
unfolding Ieee.span Ieee.climb Ieee.size Ieee.odd Ieee.units Ieee.round Ieee.neg Ieee.sum Ieee.add Ieee.sub Ieee.mul Ieee.div Ieee.lt Ieee.eq Ieee.le Ieee.is_nan Ieee.of_int Ieee.to_unsigned Ieee.to_signed Ieee.of_fields Ieee.of_bits up_to age least_of best_of dearest_of insert pick_step pick_to push decide Loads.chunk_step Loads.readied Loads.moved Loads.further Loads.forgot Loads.dropped touched lowest has_met meet last_sample height_at push_from passed nothing_ahead with_match without_match entries_from entries_below sum_of
cases = record {
  lowest_start = refl;
  equal_costs_fork = λ (confidence : Float). refl;
  as_dear_dropped = refl;
  cheaper_kept = refl;
  low_bits_kept = refl;
  others_clamped = refl;
  chunk_leaves_more = λ (c : Cache) (l : Loading) (arena : List ℕ) (size : ℕ) (bs : List ℕ) e. rw e (refl, (refl, (refl, refl)));
  first_tile_fits = λ (count : ℕ) (key : TileKey). rw (le-leb 1 (budget count) (le-max_left 1 (count - 12)));
  road_rises = λ (t : Track) e. rw e;
  loads_by_one = λ (c : Cache) (l : Loading). refl;
  no_load_missing = λ (c : Cache) (key : TileKey). refl;
  generation_by_one = λ (a : Ahead). refl;
  generation_published = λ (a : Ahead) (at : ℕ) (m : Matched) (p : Prediction). refl;
  generation_emptied = λ (a : Ahead) (at : ℕ) (end : End). refl;
  start_before_end = refl;
  second_place = refl;
  total_at_the_end = refl;
  total_at_the_data = refl;
  y_before_x = refl;
  then_x = refl;
  equal_allowed = refl;
  rounded_down = refl;
  rounded_below_zero = refl;
  half_away = refl;
}
