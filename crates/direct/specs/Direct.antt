-- The direct engine (document 01): "has no cache. It holds fix, history, heading, matcher and last match (the held state), starts new, is fed the
-- pack, the state's page count, whatever else the engine was made with and the calls with their arguments, and is told which were refused, left a
-- fetch open, or finished a match or road." It is written over `at`, which says how a tile of a pack is looked up; `directly` is document 01's
-- direct lookup.
use Rattle.refusal.specs.Refusal.{number_of}
use Rattle.refusal.specs.declared.Refusal.{Refusal}
use Rattle.std.specs.Prelude.{Result, Ok, Err, Option, Some, None, ℕ, Bool, ◌&&◌, cond, List, [], ◌∷◌, ◌++◌, eqb, Float, ℤ, pos, take, replicate}
use Rattle.num.specs.Order.{min}
use Rattle.pack.specs.Sector.{parse, header_in}
use Rattle.pack.specs.Grid.{is_point, in_grid, key_of}
use Rattle.pack.specs.declared.Header.{Header}
use Rattle.pack.specs.declared.TileKey.{TileKey}
use Rattle.geo.specs.Flat.{whole}
use Rattle.geo.specs.declared.Point.{Point}
use Rattle.cache.specs.Direct.{Look, direct}
use Rattle.matcher.specs.declared.Heading.{Heading}
use Rattle.matcher.specs.declared.Matched.{Matched}
use Rattle.matcher.specs.Calls as Matching
use Rattle.matcher.specs.Gather as Gather
use Rattle.matcher.specs.State.{heading_ok}
use Rattle.matcher.specs.declared.Matcher.{Matcher}
use Rattle.matcher.specs.declared.Outcome as MatchOutcome
use Rattle.matcher.specs.declared.Outcome.TheVariants as Match
use Rattle.predict.specs.declared.End.{End}
use Rattle.predict.specs.Predict as Predict
use Rattle.predict.specs.declared.Outcome as RoadOutcome
use Rattle.predict.specs.declared.Outcome.TheVariants as Roads
use Rattle.engine.specs.Fixes as Fixes
use Rattle.engine.specs.Publish.{nothing_ahead, with_match, without_match}
use Rattle.engine.specs.declared.Fix.{Fix}
use Rattle.engine.specs.declared.Sight.{Sight}
use Rattle.engine.specs.Work.{with_heights}
use Rattle.direct.specs.Lists.{Call, fix, lost, reset, step, deliver, step_from, read, on_cache, nearby, current, update, predict}
use Rattle.direct.specs.Finished.{Shown, nothing, matched, unmatched, published, again, emptied, updated, predicted, unanswered, Road, road_of, update_shown, predict_shown}

-- ---- what it is fed and told

-- what the engine was made with
pub record Made : Type 0 where
  pub pages : ℕ
  pub horizon : Float

-- of a call: refused; a fetch is open after it; it finished a match; it finished a road
pub record Told : Type 0 where
  pub refused : Bool
  pub fetching : Bool
  pub match : Bool
  pub road : Bool

-- the header of a pack, its first 512 bytes parsed; all 0 where they are refused
abbrev pub header_of : List ℕ → Header
header_of P = header_in (parse (take 512 P))

-- how a tile of a pack is looked up
abbrev pub Lookup : Type 0
Lookup = List ℕ → TileKey → Look

abbrev pub directly : ℕ → Lookup
directly n P key = direct P (header_of P) n key

-- ---- the held state: fix, history and heading; the matcher; the last match

pub record Held : Type 0 where
  pub sight : Sight
  pub matcher : Matcher
  pub last : Option Matched

abbrev pub new_held : Held
new_held = record { sight = Fixes.nothing_seen; matcher = Matching.reset; last = None }

abbrev pub with_matcher : Held → Matcher → Held
with_matcher d m = record { sight = d.sight; matcher = m; last = d.last }

-- `fix`, `lost` and `reset` do to it what their definitions say
abbrev pub fixed : Held → Fix → Held
fixed d f = cond (Fixes.is_same_place d.sight.fix f) d (record { sight = Fixes.seen d.sight f; matcher = d.matcher; last = d.last })

abbrev pub lost_held : Held → Held
lost_held d = record { sight = Fixes.lost d.sight; matcher = Matching.reset; last = None }

abbrev pub forgotten : Held → Held
forgotten d = record { sight = d.sight; matcher = Matching.reset; last = None }

-- ---- what it works out

-- what a call leaves held, and what it shows
pub record Worked : Type 0 where
  pub held : Held
  pub shown : Shown

abbrev pub idle : Held → Worked
idle d = record { held = d; shown = nothing }

-- no finished match or road rests on a lookup without an answer
abbrev pub stuck : Held → Worked
stuck d = record { held = d; shown = unanswered }

-- a road that is emptied
abbrev pub no_road : Fix → End → Road
no_road f end = road_of (without_match (nothing_ahead 0) f.at_ms end)

-- a match that was finished; with a road beside it, which was emptied, where none was found
abbrev pub match_worked : Result MatchOutcome.Outcome Refusal → Bool → Held → Fix → Matcher → Worked
match_worked (Ok (Match.Found m)) road d f next = record { held = with_matcher d next; shown = matched next }
match_worked (Ok Match.Nothing) road d f next =
    cond road
    (record { held = record { sight = d.sight; matcher = next; last = None }; shown = unmatched next (no_road f End.Uncertain) })
    (record { held = with_matcher d next; shown = matched next })
match_worked (Ok (Match.Need key)) road d f next = stuck d
match_worked (Err e) road d f next = stuck d

-- a road that was finished: published with the held fix's time; by 6 or 10 the matcher is cleared
abbrev pub road_worked : Result RoadOutcome.Outcome Refusal → Held → Fix → Matched → List ℤ → List ℤ → Worked
road_worked (Ok (Roads.Road p)) d f found samples behind = record {
  held = record { sight = d.sight; matcher = d.matcher; last = Some found };
  shown = published (road_of (with_match (with_heights (nothing_ahead 0) samples behind) f.at_ms found p));
}
road_worked (Ok (Roads.Need key)) d f found samples behind = stuck d
road_worked (Ok Roads.Rematch) d f found samples behind = record { held = with_matcher d Matching.reset; shown = again 6 Matching.reset }
road_worked (Err e) d f found samples behind =
    cond (eqb (number_of e) 10) (record { held = with_matcher d Matching.reset; shown = again 10 Matching.reset }) (stuck d)

-- off the map a published road is emptied, and the match goes with it: because it was told so
abbrev pub empty_worked : Held → Fix → Worked
empty_worked d f = record { held = forgotten d; shown = emptied Matching.reset (no_road f End.MapEdge) }

-- a lookup without an answer shows nothing that was finished
abbrev pub or_unanswered : Shown → Shown
or_unanswered nothing = unanswered
or_unanswered unanswered = unanswered
or_unanswered (matched m) = matched m
or_unanswered (unmatched m r) = unmatched m r
or_unanswered (published r) = published r
or_unanswered (again number m) = again number m
or_unanswered (emptied m r) = emptied m r
or_unanswered (updated a m) = updated a m
or_unanswered (predicted a samples behind) = predicted a samples behind

module _ (at : Lookup) (made : Made) (P : List ℕ) where
  -- by the definition of a match, from what is held
  abbrev pub match_held : Held → Fix → Gather.Matching
  match_held d f = Gather.update_over (at P) d.matcher (header_of P) (Fixes.place_of f) d.sight.heading

  -- by the definition of a road, over fresh heights of 0
  abbrev pub road_held : Matched → Predict.Forecast (List TileKey)
  road_held found =
      Predict.predict_over (at P) made.pages (header_of P) found (min made.horizon (whole 10000)) (replicate 501 (pos 0)) (replicate 11 (pos 0))

  abbrev pub current_worked : Option Matched → Held → Fix → Worked
  current_worked None d f = stuck d
  current_worked (Some found) d f = let r = road_held found in road_worked r.answer d f found r.samples r.behind

  abbrev pub key_worked : Option TileKey → Held → Fix → Worked
  key_worked (Some key) d f = current_worked d.matcher.current d f
  key_worked None d f = empty_worked d f

  abbrev pub fix_worked : Told → Held → Fix → Worked
  fix_worked t d f =
      cond t.match (let u = match_held d f in match_worked u.answer t.road d f u.matcher)
      (cond t.road (key_worked (key_of (header_of P) f.lat f.lon) d f) (idle d))

  abbrev pub step_worked_by : Option Fix → Told → Held → Worked
  step_worked_by None t d = idle d
  step_worked_by (Some f) t d = fix_worked t d f

  -- what a step finished, at the held fix
  unfoldable pub step_worked : Told → Held → Worked
  step_worked t d = step_worked_by d.sight.fix t d

  -- "for a direct call, from arguments and lookups alone": 8 and 9 first, as the call has them; number 12 is not tested
  unfoldable pub update_worked : Matcher → Header → Point → Heading → Shown
  update_worked m h p heading =
      let u = Gather.update_over (at P) m h p heading in
      cond (is_point p.lat p.lon && heading_ok heading) (or_unanswered (update_shown u.answer u.matcher)) (updated (Err Refusal.OutOfRange) m)

  unfoldable pub predict_worked : Header → Matched → Float → List ℤ → List ℤ → Shown
  predict_worked h m horizon samples behind =
      let r = Predict.predict_over (at P) made.pages h m horizon samples behind in
      cond (in_grid h m.tile.key) (or_unanswered (predict_shown r.answer r.samples r.behind)) (predicted (Err Refusal.OutsideGrid) [] [])

  -- "What a call finishes it works out by the definition"; "All else, refusals too, changes nothing"
  unfoldable pub worked : Call → Told → Held → Worked
  worked step t d = step_worked t d
  worked (step_from Q) t d = step_worked t d
  worked (update m h p heading) t d = record { held = d; shown = cond t.match (update_worked m h p heading) nothing }
  worked (predict h m horizon samples behind) t d =
      record { held = d; shown = cond t.road (predict_worked h m horizon samples behind) nothing }
  worked (fix f) t d = idle d
  worked lost t d = idle d
  worked (reset Q) t d = idle d
  worked (deliver failure bs) t d = idle d
  worked (read r) t d = idle d
  worked (on_cache c) t d = idle d
  worked (nearby h p) t d = idle d
  worked (current m) t d = idle d

-- ---- fixes and losses made while a fetch is open

pub data Waiting : Type 0 where
  a_fix : Fix → Waiting
  a_loss : Waiting

pub record Direct : Type 0 where
  pub held : Held
  pub waiting : List Waiting

abbrev pub new_direct : Direct
new_direct = record { held = new_held; waiting = [] }

abbrev pub acted : Waiting → Held → Held
acted (a_fix f) d = fixed d f
acted a_loss d = lost_held d

-- in the order in which they were made
unfoldable pub applied : List Waiting → Held → Held
applied [] d = d
applied (x ∷ xs) d = applied xs (acted x d)

abbrev pub queued : Direct → Waiting → Direct
queued d x = record { held = d.held; waiting = d.waiting ++ (x ∷ []) }

abbrev pub flushed : Direct → Direct
flushed d = record { held = applied d.waiting d.held; waiting = [] }

-- "does so only once that fetch has ended"
abbrev pub settled : Bool → Direct → Direct
settled fetching d = cond fetching d (flushed d)

-- ---- a call

-- what a call leaves, and what it shows
pub record Turn : Type 0 where
  pub direct : Direct
  pub shown : Shown

abbrev pub received : Told → Direct → Waiting → Turn
received t d x = record { direct = settled t.fetching (cond t.refused d (queued d x)); shown = nothing }

-- "or just before the reset that withdraws it"
abbrev pub cleared : Told → Direct → Turn
cleared t d = record {
  direct = cond t.refused (settled t.fetching d) (record { held = forgotten (flushed d).held; waiting = [] });
  shown = nothing;
}

abbrev pub turned : Told → Direct → Worked → Turn
turned t d x = record { direct = settled t.fetching (record { held = x.held; waiting = d.waiting }); shown = x.shown }

module _ (at : Lookup) (made : Made) where
  unfoldable pub direct_exec : List ℕ → Call → Told → Direct → Turn
  direct_exec P (fix f) t d = received t d (a_fix f)
  direct_exec P lost t d = received t d a_loss
  direct_exec P (reset Q) t d = cleared t d
  direct_exec P step t d = turned t d (worked at made P step t d.held)
  direct_exec P (deliver failure bs) t d = turned t d (worked at made P (deliver failure bs) t d.held)
  direct_exec P (step_from Q) t d = turned t d (worked at made P (step_from Q) t d.held)
  direct_exec P (read r) t d = turned t d (worked at made P (read r) t d.held)
  direct_exec P (on_cache c) t d = turned t d (worked at made P (on_cache c) t d.held)
  direct_exec P (nearby h p) t d = turned t d (worked at made P (nearby h p) t d.held)
  direct_exec P (current m) t d = turned t d (worked at made P (current m) t d.held)
  direct_exec P (update m h p heading) t d = turned t d (worked at made P (update m h p heading) t d.held)
  direct_exec P (predict h m horizon samples behind) t d = turned t d (worked at made P (predict h m horizon samples behind) t d.held)

-- "only the engine's `reset`, not refused, changes the pack"
abbrev pub pack_after : List ℕ → Call → Told → List ℕ
pack_after P (reset Q) t = cond t.refused P Q
pack_after P (fix f) t = P
pack_after P lost t = P
pack_after P step t = P
pack_after P (deliver failure bs) t = P
pack_after P (step_from Q) t = P
pack_after P (read r) t = P
pack_after P (on_cache c) t = P
pack_after P (nearby h p) t = P
pack_after P (current m) t = P
pack_after P (update m h p heading) t = P
pack_after P (predict h m horizon samples behind) t = P

-- what it shows of each call of a list, from what it is told of each
unfoldable pub direct_shows : Lookup → Made → List ℕ → List Call → List Told → Direct → List Shown
direct_shows at made P [] ts d = []
direct_shows at made P (c ∷ cs) [] d = []
direct_shows at made P (c ∷ cs) (t ∷ ts) d =
    let x = direct_exec at made P c t d in x.shown ∷ direct_shows at made (pack_after P c t) cs ts x.direct
