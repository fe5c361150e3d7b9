-- The matcher's and predict's calls for C, decoded, the library's own definition, encoded. A matcher is 22 words of its own, laid out as an engine's (specs/Words); a match goes by value,
-- and is refused with 12 where its flag does not say one or its direction is none of the three. Words that nothing has are refused with 12 and stay as they were.
use Rattle.refusal.specs.Refusal.{number_of, number_of_result}
use Rattle.refusal.specs.declared.Refusal.{Refusal}
use Rattle.pack.specs.declared.TileKey.{TileKey}
use Rattle.std.specs.Prelude.{Option, Some, None, Result, Ok, Err, ℕ, Bool, ◌&&◌, cond, List, [], ◌∷◌, eqb, leb, ltb, ℤ, Float}
use Rattle.pack.specs.declared.Header.{Header}
use Rattle.geo.specs.declared.Point.{Point}
use Rattle.matcher.specs.Calls as Calls
use Rattle.matcher.specs.State as State
use Rattle.matcher.specs.Near.{key_at}
use Rattle.matcher.specs.declared.Heading.{Heading}
use Rattle.matcher.specs.declared.Matched.{Matched}
use Rattle.matcher.specs.declared.NearKey.{NearKey}
use Rattle.matcher.specs.declared.NearKeys.{NearKeys}
use Rattle.matcher.specs.declared.NearRead.{NearRead}
use Rattle.matcher.specs.declared.Outcome as Matching
use Rattle.matcher.specs.declared.Outcome.TheVariants as Matching'
use Rattle.matcher.specs.declared.Updated.{Updated}
use Rattle.predict.specs.Predict as Predict
use Rattle.predict.specs.declared.Outcome as Road
use Rattle.predict.specs.declared.Outcome.TheVariants as Road'
use Rattle.predict.specs.declared.Prediction.{Prediction}
use Rattle.terrain.specs.Records.{zero, key_out, no_key}
use Rattle.words.specs.Words.{accepted, same_words, matcher_of, matcher_words, forward_of, end_word}
use Rattle.terrain.specs.Host.{matched_told, unmatched}
use Rattle.terrain.specs.Parts.{cache_of, after}
use Rattle.terrain.specs.declared.host.MatchTold.{MatchTold}
use Rattle.terrain.specs.declared.records.TerrainKey.{TerrainKey}
use Rattle.terrain.specs.declared.roads.TerrainNear.{TerrainNear}
use Rattle.terrain.specs.declared.roads.TerrainCurrent.{TerrainCurrent}
use Rattle.terrain.specs.declared.roads.TerrainHeading.{TerrainHeading}
use Rattle.terrain.specs.declared.roads.TerrainUpdated.{TerrainUpdated}
use Rattle.terrain.specs.declared.roads.TerrainPredicted.{TerrainPredicted}

-- ---- a match

unfoldable pub is_given : MatchTold → Bool
is_given m = eqb m.matched 1 && ltb m.forward 3

abbrev pub given : MatchTold → Matched
given m = record {
  tile = record { key = record { row = m.row; col = m.col }; crc = m.crc; edges = m.edges };
  edge = m.edge;
  segment = m.segment;
  fraction = m.fraction;
  forward = forward_of m.forward;
  offset_m = m.offset_m;
  z_dm = m.z_dm;
  class = m.class;
  flags = m.flags;
  confidence = m.confidence;
  ridden_m = m.ridden_m;
}

-- ---- a matcher's words, as those of an engine: accepted where what is read from them has the same words again

unfoldable pub is_matcher : List ℕ → Bool
is_matcher ms = same_words (matcher_words (matcher_of ms 0)) ms

-- ---- answers: a number; which answer it is, counted from 0, the refusal last; and what it holds

abbrev pub answer_number : Result Unit Refusal → ℕ
answer_number r = number_of_result r

abbrev pub near_key_by : Option TileKey → TerrainKey
near_key_by None = no_key
near_key_by (Some k) = key_out k

abbrev pub near_key : NearKey → TerrainKey
near_key place = near_key_by place.key

abbrev pub near_keys : NearKeys → List TerrainKey
near_keys n = near_key_by (key_at n 0) ∷ near_key_by (key_at n 1) ∷ near_key_by (key_at n 2) ∷ near_key_by (key_at n 3) ∷ []

abbrev pub near_out : NearRead → TerrainNear
near_out r = record { number = answer_number r.answer; len = r.near.len; keys = near_keys r.near }

abbrev pub current_out : Result (Option Matched) Refusal → TerrainCurrent
current_out (Ok None) = record { number = 256; matched = unmatched }
current_out (Ok (Some m)) = record { number = 0; matched = matched_told m }
current_out (Err e) = record { number = number_of e; matched = unmatched }

abbrev pub no_match : ℕ → ℕ → TerrainKey → TerrainUpdated
no_match number outcome key = record { number = number; outcome = outcome; matched = unmatched; key = key }

abbrev pub updated_out : Result Matching.Outcome Refusal → TerrainUpdated
updated_out (Ok (Matching'.Found m)) = record { number = 0; outcome = 0; matched = matched_told m; key = no_key }
updated_out (Ok Matching'.Nothing) = no_match 256 1 no_key
updated_out (Ok (Matching'.Need k)) = no_match 5 2 (key_out k)
updated_out (Err e) = no_match (number_of e) 3 no_key

abbrev pub no_road : ℕ → ℕ → TerrainKey → TerrainPredicted
no_road number outcome key = record {
  number = number;
  outcome = outcome;
  key = key;
  len = 0;
  behind = 0;
  behind_m = zero;
  end = 0;
  end_m = zero;
  confidence = 0;
}

abbrev pub road : Prediction → TerrainPredicted
road p = record {
  number = 0;
  outcome = 0;
  key = no_key;
  len = p.len;
  behind = p.behind;
  behind_m = p.behind_m;
  end = end_word p.end;
  end_m = p.end_m;
  confidence = p.confidence;
}

abbrev pub predicted_out : Result Road.Outcome Refusal → TerrainPredicted
predicted_out (Ok (Road'.Road p)) = road p
predicted_out (Ok (Road'.Need k)) = no_road 5 1 (key_out k)
predicted_out (Ok Road'.Rematch) = no_road 6 2 no_key
predicted_out (Err e) = no_road (number_of e) 3 no_key

-- ---- the calls

abbrev pub current : List ℕ → Result (Option Matched) Refusal
current ms = cond (is_matcher ms) (Calls.current (matcher_of ms 0)) (Err Refusal.BadState)

abbrev pub heading_of : TerrainHeading → Heading
heading_of h = cond (eqb h.known 1) (Heading.Degrees h.degrees) Heading.Nothing

-- a matcher's words, a heading that is none or degrees, and an engine's words
abbrev pub can_match : List ℕ → List ℕ → TerrainHeading → Bool
can_match ms ws heading = is_matcher ms && (leb heading.known 1 && accepted ws)

abbrev pub update : List ℕ → List ℕ → List ℕ → Header → Point → TerrainHeading → Updated
update ms ws arena h fix heading =
    cond (can_match ms ws heading) (Calls.update (matcher_of ms 0) (cache_of ws) arena h fix (heading_of heading)) (State.refused (matcher_of ms 0) (cache_of ws) Refusal.BadState)

abbrev pub matcher_after : List ℕ → List ℕ → List ℕ → Header → Point → TerrainHeading → List ℕ
matcher_after ms ws arena h fix heading = cond (can_match ms ws heading) (matcher_words (update ms ws arena h fix heading).matcher) ms

abbrev pub engine_after : List ℕ → List ℕ → List ℕ → Header → Point → TerrainHeading → List ℕ
engine_after ms ws arena h fix heading = cond (can_match ms ws heading) (after ws (update ms ws arena h fix heading).cache) ws

abbrev pub predict : List ℕ → List ℕ → Header → MatchTold → Float → List ℤ → List ℤ → Predict.After
predict ws arena h start horizon samples behind =
    cond (is_given start && accepted ws)
    (Predict.predict (cache_of ws) arena h (given start) horizon samples behind)
    (record { predicted = record { answer = Err Refusal.BadState; cache = cache_of ws }; samples = samples; behind = behind })

abbrev pub predict_after : List ℕ → List ℕ → Header → MatchTold → Float → List ℤ → List ℤ → List ℕ
predict_after ws arena h start horizon samples behind =
    cond (is_given start && accepted ws) (after ws (predict ws arena h start horizon samples behind).predicted.cache) ws
