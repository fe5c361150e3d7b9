-- The engine's calls on words. Words that are no engine's are refused with 12, and then nothing lent is changed; else the call is the engine's own (`Calls` of the engine), on the
-- engine that the words are, and what it leaves is written as words again.
use Rattle.refusal.specs.Refusal.{number_of, number_of_result}
use Rattle.refusal.specs.declared.Refusal.{Refusal}
use Rattle.std.specs.Prelude.{Option, Some, None, Result, Ok, Err, Bool, true, false, ℕ, cond, List, ℤ, pos, Float}
use Rattle.std.specs.Float.{binary32}
use Rattle.std.specs.Float.Ieee.{of_bits}
use Rattle.pack.specs.declared.Header.{Header}
use Rattle.matcher.specs.declared.Matched.{Matched}
use Rattle.engine.specs.Calls as Calls
use Rattle.engine.specs.Deliver.{After}
use Rattle.engine.specs.Publish.{on_road, nothing_ahead}
use Rattle.engine.specs.State.{no_header}
use Rattle.engine.specs.declared.Ahead.{Ahead}
use Rattle.engine.specs.declared.Changed.{Changed}
use Rattle.engine.specs.declared.Fix.{Fix}
use Rattle.engine.specs.declared.Status.{Status}
use Rattle.engine.specs.declared.Stepped.{Stepped}
use Rattle.terrain.specs.declared.host.AheadTold.{AheadTold}
use Rattle.terrain.specs.declared.host.CountTold.{CountTold}
use Rattle.terrain.specs.declared.host.FixGiven.{FixGiven}
use Rattle.terrain.specs.declared.host.HeaderTold.{HeaderTold}
use Rattle.terrain.specs.declared.host.HeadingTold.{HeadingTold}
use Rattle.terrain.specs.declared.host.MatchTold.{MatchTold}
use Rattle.terrain.specs.declared.host.StepTold.{StepTold}
use Rattle.words.specs.Words.{words, engine_of, accepted, bit, end_word, forward_word}

-- ---- how answers cross

abbrev pub taken_number : Result Unit Refusal → ℕ
taken_number r = number_of_result r

abbrev pub told : ℕ → ℕ → StepTold
told number status = record { number = number; status = status; offset = 0; len = 0 }

-- 0 Idle, 1 Working, 2 NoPack, 3 OffMap, 4 Fetch, 5 refused
abbrev pub status_told : Result Status Refusal → StepTold
status_told (Ok Status.Idle) = told 0 0
status_told (Ok Status.Working) = told 0 1
status_told (Ok Status.NoPack) = told 0 2
status_told (Ok Status.OffMap) = told 0 3
status_told (Ok (Status.Fetch offset len)) = record { number = 0; status = 4; offset = offset; len = len }
status_told (Err e) = told (number_of e) 5

abbrev pub count_told : Result ℕ Refusal → CountTold
count_told (Ok n) = record { number = 0; count = n }
count_told (Err e) = record { number = number_of e; count = 0 }

-- of an answer of which a list of calls keeps only whether it has what was asked for: the number, and 1 where it has
abbrev pub known_told : Result Bool Refusal → CountTold
known_told (Ok false) = record { number = 0; count = 0 }
known_told (Ok true) = record { number = 0; count = 1 }
known_told (Err e) = record { number = number_of e; count = 0 }

abbrev pub heading_told : Result (Option Float) Refusal → HeadingTold
heading_told (Ok None) = record { number = 0; known = 0; degrees = of_bits binary32 0 }
heading_told (Ok (Some d)) = record { number = 0; known = 1; degrees = d }
heading_told (Err e) = record { number = number_of e; known = 0; degrees = of_bits binary32 0 }

abbrev pub header_record : ℕ → ℕ → Header → HeaderTold
header_record number known h = record {
  number = number;
  known = known;
  tile = h.tile;
  south = h.south;
  west = h.west;
  rows = h.rows;
  cols = h.cols;
  directory = h.directory;
  «data» = h.«data»;
  total = h.total;
  tiles = h.tiles;
  created = h.created;
  attribution_offset = h.attribution_offset;
  attribution_len = h.attribution_len;
}

-- zeros stand beside a refusal, and where the header is not read yet
abbrev pub header_told : Result (Option Header) Refusal → HeaderTold
header_told (Ok None) = header_record 0 0 no_header
header_told (Ok (Some h)) = header_record 0 1 h
header_told (Err e) = header_record (number_of e) 0 no_header

-- a match; zeros where there is none
abbrev pub matched_told : Matched → MatchTold
matched_told m = record {
  matched = 1;
  row = m.tile.key.row;
  col = m.tile.key.col;
  crc = m.tile.crc;
  edges = m.tile.edges;
  edge = m.edge;
  segment = m.segment;
  fraction = m.fraction;
  forward = forward_word m.forward;
  offset_m = m.offset_m;
  z_dm = m.z_dm;
  class = m.class;
  flags = m.flags;
  confidence = m.confidence;
  ridden_m = m.ridden_m;
}

abbrev pub unmatched : MatchTold
unmatched = record {
  matched = 0;
  row = 0;
  col = 0;
  crc = 0;
  edges = 0;
  edge = 0;
  segment = 0;
  fraction = of_bits binary32 0;
  forward = 0;
  offset_m = of_bits binary32 0;
  z_dm = pos 0;
  class = 0;
  flags = 0;
  confidence = 0;
  ridden_m = of_bits binary32 0;
}

abbrev pub current_told : Option Matched → MatchTold
current_told None = unmatched
current_told (Some m) = matched_told m

unfoldable pub road_told : ℕ → Ahead → AheadTold
road_told number a = record {
  number = number;
  generation = a.generation;
  at_ms = a.at_ms;
  matched = current_told a.matched;
  start_z_dm = a.start_z_dm;
  samples = a.samples;
  len = a.len;
  behind = a.behind;
  behind_len = a.behind_len;
  behind_m = a.behind_m;
  end = end_word a.end;
  end_m = a.end_m;
  confidence = a.confidence;
  on_road = bit (on_road a);
}

-- ---- what a call answers, and the words and the arena that it leaves

pub record Called : Type 0 where
  pub answer : ℕ
  pub words : List ℕ

pub record Moved : Type 0 where
  pub answer : StepTold
  pub words : List ℕ

pub record Delivered : Type 0 where
  pub answer : StepTold
  pub words : List ℕ
  pub arena : List ℕ

abbrev pub changed : Changed → Called
changed c = record { answer = taken_number c.answer; words = words c.engine }

abbrev pub moved : Stepped → Moved
moved s = record { answer = status_told s.answer; words = words s.engine }

abbrev pub delivered : After → Delivered
delivered a = record { answer = status_told (Calls.told a).answer; words = words (Calls.told a).engine; arena = a.arena }

abbrev pub stays : List ℕ → Called
stays ws = record { answer = 12; words = ws }

abbrev pub rests : List ℕ → Moved
rests ws = record { answer = told 12 5; words = ws }

abbrev pub keeps : List ℕ → List ℕ → Delivered
keeps ws arena = record { answer = told 12 5; words = ws; arena = arena }

-- ---- the calls

unfoldable pub new : List ℕ → Float → List ℕ
new arena horizon = words (Calls.new arena horizon)

abbrev pub fix_of : ℤ → ℤ → ℕ → Fix
fix_of lat lon at = record { lat = lat; lon = lon; at_ms = at }

abbrev pub given : Fix → FixGiven
given f = record { lat = f.lat; lon = f.lon; at_ms = f.at_ms }

unfoldable pub fix : List ℕ → List ℕ → Fix → Called
fix ws arena f = cond (accepted ws) (changed (Calls.fix (engine_of ws) arena f)) (stays ws)

unfoldable pub lost : List ℕ → List ℕ → Called
lost ws arena = cond (accepted ws) (changed (Calls.lost (engine_of ws) arena)) (stays ws)

unfoldable pub reset : List ℕ → List ℕ → Called
reset ws arena = cond (accepted ws) (changed (Calls.reset (engine_of ws) arena)) (stays ws)

unfoldable pub step : List ℕ → List ℕ → Moved
step ws arena = cond (accepted ws) (moved (Calls.step (engine_of ws) arena)) (rests ws)

unfoldable pub deliver : List ℕ → List ℕ → ℕ → List ℕ → Delivered
deliver ws arena failure bs = cond (accepted ws) (delivered (Calls.deliver (engine_of ws) arena failure bs)) (keeps ws arena)

unfoldable pub step_from : List ℕ → List ℕ → List ℕ → Delivered
step_from ws arena pack = cond (accepted ws) (delivered (Calls.step_from (engine_of ws) arena pack)) (keeps ws arena)

-- ---- what is held

-- an empty road stands beside a refusal
abbrev pub ahead_told : Result Ahead Refusal → AheadTold
ahead_told (Ok a) = road_told 0 a
ahead_told (Err e) = road_told (number_of e) (nothing_ahead 0)

unfoldable pub ahead : List ℕ → List ℕ → AheadTold
ahead ws arena = cond (accepted ws) (ahead_told (Calls.ahead (engine_of ws) arena)) (ahead_told (Err Refusal.BadState))

unfoldable pub header : List ℕ → List ℕ → HeaderTold
header ws arena = cond (accepted ws) (header_told (Calls.header (engine_of ws) arena)) (header_told (Err Refusal.BadState))

unfoldable pub heading : List ℕ → List ℕ → HeadingTold
heading ws arena = cond (accepted ws) (heading_told (Calls.heading (engine_of ws) arena)) (heading_told (Err Refusal.BadState))

unfoldable pub loads : List ℕ → List ℕ → CountTold
loads ws arena = cond (accepted ws) (count_told (Calls.loads (engine_of ws) arena)) (count_told (Err Refusal.BadState))

unfoldable pub steps : List ℕ → List ℕ → CountTold
steps ws arena = cond (accepted ws) (count_told (Calls.steps (engine_of ws) arena)) (count_told (Err Refusal.BadState))
