-- Document 01, "Easily taken wrongly", of "These fail" the programs that answer otherwise in one place, and what requests 1, 3 and 7 of document 02 fix of orders, totals and rounding: each as a case of the
-- definitions in which the wrong answer shows. The rest of both lists stands elsewhere: `from_e7` and `key` in the bench lines, engines that are always Working, always NoPack or hand the state
-- back in `new_steps` of engine_states, and a whole road, computed, which is neither flat nor Memory, in `finished` of direct_witness.
use Rattle.std.specs.Prelude.{Some, Ok}
use Rattle.std.specs.Prelude.{ℕ, ◌+◌, ◌%◌, ◌^◌, ◌≡◌, true, false, List, [], ◌∷◌, ltb, pos, negsuc, Float, replicate, get_or}
use Rattle.pack.specs.declared.TileKey.{TileKey}
use Rattle.profile_text.specs.Text.{whole_metres}
use Rattle.tile.specs.Order.{is_below}
use Rattle.tile.specs.declared.Node.{Node}
use Rattle.geo.specs.Flat.{whole}
use Rattle.cache.specs.Runs.{empty_slot}
use Rattle.cache.specs.Victim.{victim}
use Rattle.cache.specs.Loads as Loads
use Rattle.cache.specs.declared.Cache.{Cache}
use Rattle.cache.specs.declared.Loading.{Loading}
use Rattle.cache.specs.declared.Pages.{Pages}
use Rattle.cache.specs.declared.Progress.TheVariants as Progress
use Rattle.matcher.specs.Keeping.{no_candidate, insert}
use Rattle.matcher.specs.declared.Candidate.{Candidate}
use Rattle.matcher.specs.declared.Kept.{Kept}
use Rattle.matcher.specs.declared.Matched.{Matched}
use Rattle.predict.specs.Choose.{no_choice, no_choices, push}
use Rattle.predict.specs.Decide.{decide}
use Rattle.predict.specs.Meets.{budget, meet, nothing_met}
use Rattle.predict.specs.Ridden.{last_sample}
use Rattle.predict.specs.Samples.{height_at}
use Rattle.predict.specs.Vertex.{passed}
use Rattle.predict.specs.declared.Choice.{Choice}
use Rattle.predict.specs.declared.End as End
use Rattle.predict.specs.declared.End.TheVariants as Ends
use Rattle.predict.specs.declared.Ending.TheVariants as Ending
use Rattle.predict.specs.declared.Mark.{Mark}
use Rattle.predict.specs.declared.Prediction.{Prediction}
use Rattle.predict.specs.declared.Track.{Track}
use Rattle.predict.specs.declared.ridden.Back.{Back}
use Rattle.writer.specs.TileWritten.{entries_below}
use Rattle.writer.specs.PackWritten.{GivenPack, key_at, total}
use Rattle.writer.specs.PackWritten as PackWritten
use Rattle.engine.specs.Publish.{forgotten, with_match, without_match}
use Rattle.engine.specs.declared.Ahead.{Ahead}

-- four pages, all empty and so of one age
abbrev four_empty : Pages
four_empty = record { slots = replicate 96 empty_slot; used = replicate 96 0; count = 4; clock = 0 }

-- a choice, and a candidate, of this cost
abbrev choice_of : ℕ → Choice
choice_of cost = record { way = no_choice.way; cost = whole cost }

abbrev pub candidate_of : ℕ → Candidate
candidate_of cost = record {
  found = no_candidate.found;
  cost = whole cost;
  joined = false;
  at_node = false;
  along_m = whole 0;
}

-- eight candidates of cost 5
abbrev pub eight : Kept
eight = record { v = replicate 8 (candidate_of 5); len = 8 }

-- a candidate of cost 5 that none of the eight is
abbrev pub ninth : Candidate
ninth = record { found = no_candidate.found; cost = whole 5; joined = true; at_node = false; along_m = whole 0 }

-- a ride of 10 m with one sample, that ends 4,000 m up
abbrev pub ride_up : Back
ride_up = record {
  here = record { lat = pos 0; lon = pos 0 };
  distance = whole 10;
  mark = record { len = 1; distance = whole 10; z = pos 40000 };
  over = true;
}

-- one sample set, at 0 m and at the start's height
abbrev pub at_start : Mark
at_start = record { len = 1; distance = whole 0; z = pos 0 }

-- a grid of these rows and columns with tiles of these lengths
abbrev grid_of : ℕ → ℕ → List ℕ → GivenPack
grid_of rows cols lengths = PackWritten.given (pos 0) (pos 0) 1000 rows cols [] lengths

-- a node at x, y
abbrev node_at : ℕ → ℕ → Node
node_at x y = record { x = x; y = y; z = 0 }

pub record Cases : Type 0 where
  -- "Last of equal maxima over a reversed range is the lowest start."
  pub lowest_start : victim four_empty 1 ≡ Some 0
  -- "Two equal lowest costs are a Fork, not the first of them."
  pub equal_costs_fork : (confidence : Float) → (decide (push (push no_choices (choice_of 3)) (choice_of 3)) false confidence).ending ≡ Ending.Stops Ends.Fork
  -- "Once eight are kept, a candidate as dear as the worst of them is dropped."
  pub as_dear_dropped : insert eight ninth ≡ eight
  -- and a cheaper one takes the place of the last of the dearest
  pub cheaper_kept : get_or (insert eight (candidate_of 4)).v 7 no_candidate ≡ candidate_of 4
  -- "The extra last sample of `ridden` keeps the low 16 bits; others are clamped.": 40,000 is -25,536 there, and 32,767 elsewhere
  pub low_bits_kept : get_or (last_sample ride_up (replicate 11 (pos 0))).heights 1 (pos 0) ≡ negsuc 25535
  pub others_clamped : height_at at_start (whole 20) (whole 20) (pos 40000) ≡ pos 32767
  -- "a load that marks the tile ready after its first chunk .., or Missing": a chunk that is not the last has more to come; no slot and no place of the ring changes, and no load is counted
  pub chunk_leaves_more : (c : Cache) (l : Loading) (arena : List ℕ) (size : ℕ) (bs : List ℕ) → ltb (l.done + Loads.chunk_len l) l.len ≡ true
      → let r = Loads.chunk_step c l arena size 0 bs in
      (r.answer ≡ Ok Progress.More) × ((r.cache.pages ≡ c.pages) × ((r.cache.missing ≡ c.missing) × (r.cache.loads ≡ c.loads)))
  -- "Memory for every road before an edge is walked": the first tile of one page fits, whatever the page count is
  pub first_tile_fits : (count : ℕ) (key : TileKey) → (meet nothing_met (budget count) key 1).fits ≡ true
  -- "one flat road for every match": a point 20 m on and 5 m up sets that height, where the sample at 0 m was set before
  pub road_rises : (t : Track) → t.mark ≡ at_start → get_or (passed t (whole 20) t.here (pos 50) (replicate 501 (pos 0))).heights 1 (pos 0) ≡ pos 50
  -- "invented `loads` or generation": a load that ends ready counts one, in 32 bits, and one that ends missing none; a road that is published, emptied or lost is one generation on
  pub loads_by_one : (c : Cache) (l : Loading) → (Loads.readied c l).loads ≡ (c.loads + 1) % 2 ^ 32
  pub no_load_missing : (c : Cache) (key : TileKey) → (Loads.forgot (Loads.dropped c) key).loads ≡ c.loads
  pub generation_by_one : (a : Ahead) → (forgotten a).generation ≡ (a.generation + 1) % 2 ^ 32
  pub generation_published : (a : Ahead) (at : ℕ) (m : Matched) (p : Prediction) → (with_match a at m p).generation ≡ (a.generation + 1) % 2 ^ 32
  pub generation_emptied : (a : Ahead) (at : ℕ) (end : End.End) → (without_match a at end).generation ≡ (a.generation + 1) % 2 ^ 32
  -- Document 02, request 1, "adjacency by node, then edge, start before end": the entries of an edge from node 0 to itself
  pub start_before_end : entries_below (0 ∷ 0 ∷ 0 ∷ 0 ∷ 0 ∷ 0 ∷ 0 ∷ []) 1 ≡ 0 ∷ 1 ∷ []
  -- "tiles in row order": the second place of two rows and three columns
  pub second_place : key_at (grid_of 2 3 []) 1 ≡ record { row = 0; col = 1 }
  -- "total where the last ends or, with none, at the data"
  pub total_at_the_end : total (grid_of 1 1 (40 ∷ [])) ≡ 560
  pub total_at_the_data : total (grid_of 1 1 []) ≡ 520
  -- Requests 1 and 7, "in order of y, then x, equal ones allowed"
  pub y_before_x : is_below (node_at 0 1) (node_at 1 0) ≡ false
  pub then_x : is_below (node_at 0 1) (node_at 1 1) ≡ true
  pub equal_allowed : is_below (node_at 1 1) (node_at 1 1) ≡ false
  -- Request 3, "rounded to nearest, halves away from zero": 14, -6 and 25 decimetres
  pub rounded_down : whole_metres (pos 14) ≡ pos 1
  pub rounded_below_zero : whole_metres (negsuc 5) ≡ negsuc 0
  pub half_away : whole_metres (pos 25) ≡ pos 3
