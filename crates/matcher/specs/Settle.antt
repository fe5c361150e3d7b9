-- The match that is made of the candidate chosen, or a miss: `matcher.rs`, `update`, its confidence, direction and ridden metres. Each float
-- operation is rounded once, in the Rust's order.
use Rattle.std.specs.Prelude.{ℕ, ◌+◌, Bool, true, false, ◌&&◌, not, cond, ltb, Float, Option, Some, None}
use Rattle.std.specs.Float.{binary32, inf}
use Rattle.std.specs.Float.Ieee.{of_bits, to_unsigned, sub, mul, div}
use Rattle.num.specs.Order as Order
use Rattle.geo.specs.Flat.{whole}
use Rattle.num.specs.Fold.{up_to}
use Rattle.matcher.specs.Keeping.{candidate_in}
use Rattle.matcher.specs.Score.{is_on}
use Rattle.matcher.specs.declared.Candidate.{Candidate}
use Rattle.matcher.specs.declared.Kept.{Kept}
use Rattle.matcher.specs.declared.Matched.{Matched}
use Rattle.matcher.specs.declared.Heading.{Heading}
use Rattle.matcher.specs.declared.Matcher.{Matcher}
use Rattle.matcher.specs.declared.choose.Which.TheVariants as Which
use Rattle.matcher.specs.declared.choose.Choice.{Choice}
use Rattle.matcher.specs.Choose.{least_of, same_edge, chosen_by, past_node}

-- ---- confidence

-- the edge just left, where the match goes over to one joined to it
abbrev pub left_of : Option Matched → Candidate → Option Matched
left_of None chosen = None
left_of (Some p) chosen = cond (chosen.joined && not (same_edge chosen p)) (Some p) None

abbrev pub not_left : Option Matched → Candidate → Bool
not_left None c = true
not_left (Some p) c = not (same_edge c p)

-- another road beside the rider, and not the one just left
abbrev pub is_rival : Candidate → Matched → Option Matched → Bool
is_rival c chosen left = not (same_edge c chosen) && (not c.at_node && not_left left c)

abbrev pub rival_step : Float → ℕ → ℕ → Candidate → Matched → Option Matched → Float
rival_step least n i c chosen left = cond (ltb i n && is_rival c chosen left) (Order.min least c.cost) least

unfoldable pub runner_to : Kept → Matched → Option Matched → ℕ → Float
runner_to k chosen left n = up_to (λ (least : Float) (i : ℕ). rival_step least k.len i (candidate_in k i) chosen left) (inf false) n

-- the cost of the cheapest rival, infinite where there is none
abbrev pub runner_up : Kept → Matched → Option Matched → Float
runner_up k chosen left = runner_to k chosen left 8

-- 0.3 and 0.7
abbrev pub three_tenths : Float
three_tenths = of_bits binary32 0x3e99999a

abbrev pub seven_tenths : Float
seven_tenths = of_bits binary32 0x3f333333

abbrev pub steadiness : Heading → Float
steadiness Heading.Nothing = seven_tenths
steadiness (Heading.Degrees d) = whole 1

-- near the road, and clearly cheaper than any other: 0 to 100
unfoldable pub confidence : Float → Float → Float → Heading → ℕ
confidence offset cost runner heading =
    let near = Order.clamp (sub binary32 (whole 1) (div binary32 offset (whole 40))) (whole 0) (whole 1) in
    let clear = Order.clamp (div binary32 (sub binary32 runner cost) (whole 2)) three_tenths (whole 1) in
    to_unsigned 8 (mul binary32 (mul binary32 (mul binary32 near clear) (steadiness heading)) (whole 100))

-- ---- direction and ridden metres

abbrev pub direction_from : Option Matched → Matched → Option Bool
direction_from None found = None
direction_from (Some p) found = cond (is_on p found.tile found.edge) p.forward None

abbrev pub direction_by : Option Bool → Matched → Option Matched → Option Bool
direction_by (Some b) found previous = Some b
direction_by None found previous = direction_from previous found

-- the candidate's own, or without one that of the match so far on the same edge
abbrev pub direction : Matched → Option Matched → Option Bool
direction found previous = direction_by found.forward found previous

abbrev pub same_bool : Bool → Bool → Bool
same_bool true b = b
same_bool false b = not b

-- unknown before, or the same now
abbrev pub goes_on : Option Bool → Option Bool → Bool
goes_on None forward = true
goes_on (Some a) None = false
goes_on (Some a) (Some b) = same_bool a b

abbrev pub same_run : Option Matched → Matched → Option Bool → Bool
same_run None found forward = false
same_run (Some p) found forward = is_on p found.tile found.edge && goes_on p.forward forward

-- where the run along the edge began: here, unless it goes on
abbrev pub run_from : Matcher → Candidate → Option Bool → Float
run_from m chosen forward = cond (same_run m.current chosen.found forward) m.run_from_m chosen.along_m

abbrev pub ridden : Option Bool → Float → Float → Float
ridden None along from = whole 0
ridden (Some b) along from = Order.max (cond b (sub binary32 along from) (sub binary32 from along)) (whole 0)

abbrev pub with_figures : Matched → Option Bool → ℕ → Float → Matched
with_figures m forward sure gone = record {
  tile = m.tile;
  edge = m.edge;
  segment = m.segment;
  fraction = m.fraction;
  forward = forward;
  offset_m = m.offset_m;
  z_dm = m.z_dm;
  class = m.class;
  flags = m.flags;
  confidence = sure;
  ridden_m = gone;
}

-- ---- the matcher afterwards

abbrev pub settled_with : Matcher → Kept → Choice → Heading → Option Bool → Float → Matcher
settled_with m k choice heading forward from =
    let chosen = choice.chosen in record {
      current = Some
          (with_figures chosen.found forward
          (confidence chosen.found.offset_m chosen.cost (runner_up k chosen.found (left_of m.current chosen)) heading)
          (ridden forward chosen.along_m from));
      challenger = choice.challenger;
      misses = 0;
      run_from_m = from;
    }

unfoldable pub settled : Matcher → Kept → Choice → Heading → Matcher
settled m k choice heading =
    let forward = direction choice.chosen.found m.current in settled_with m k choice heading forward (run_from m choice.chosen forward)

abbrev pub more : ℕ → ℕ
more n = cond (ltb n 255) (n + 1) 255

-- no road in reach: LOST_FIXES is 3
unfoldable pub missed : Matcher → Matcher
missed m = record {
  current = cond (ltb (more m.misses) 3) m.current None;
  challenger = None;
  misses = more m.misses;
  run_from_m = m.run_from_m;
}

abbrev pub matched_by : Option ℕ → Matcher → Kept → Heading → Matcher
matched_by None m k heading = missed m
matched_by (Some i) m k heading = settled m k (past_node (chosen_by m.current k (candidate_in k i) m.challenger) k) heading

-- the matcher after a search that kept these candidates
unfoldable pub matched : Matcher → Kept → Heading → Matcher
matched m k heading = matched_by (least_of k Which.All) m k heading
