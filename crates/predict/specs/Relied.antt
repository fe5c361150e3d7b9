-- What is claimed of a road over a look.
use Rattle.refusal.specs.declared.Refusal.{Refusal}
use Rattle.refusal.specs.Refusal.{number_of}
use Rattle.std.specs.Prelude.{Result, Ok, Err, ◌==◌, ℕ, ◌≡◌, Bool, true, false, not, List, ℤ, Float}
use Rattle.pack.specs.declared.Header.{Header}
use Rattle.pack.specs.declared.TileKey.{TileKey}
use Rattle.cache.specs.Direct.{Look, Agree}
use Rattle.matcher.specs.declared.Matched.{Matched}
use Rattle.predict.specs.declared.Outcome.{Outcome}
use Rattle.predict.specs.Predict.{predict_over}

-- ended with a road, by 6 or by 10 (document 01: "a road is finished where working it out ends other than by 5, 12")
abbrev pub is_finished : Result Outcome Refusal → Bool
is_finished (Ok (Outcome.Road p)) = true
is_finished (Ok (Outcome.Need key)) = false
is_finished (Ok Outcome.Rematch) = true
is_finished (Err e) = not (number_of e == 12)

-- where it finishes at one look, it gives the same answer and heights, and finds the same keys, at every look that agrees with it
abbrev pub PredictAgrees : Type 0
PredictAgrees =
    (one two : TileKey → Look) → Agree one two → (n : ℕ) (h : Header) (m : Matched) (horizon : Float) (samples behind : List ℤ) →
    is_finished (predict_over one n h m horizon samples behind).answer ≡ true →
    predict_over two n h m horizon samples behind ≡ predict_over one n h m horizon samples behind
