-- The table of refusals holds: each line by the law of its causes, which its function's definition tests one after another.
use Prim.Native.Nat.{ℕ}
use mathlib.Core.Path.{◌≡◌, refl, sym, ap, ◌∙◌}
use mathlib.Core.Bool.{Bool, true, false, ◌&&◌, not, cond}
use mathlib.Core.List.{List, [], ◌∷◌, ◌++◌}
use native.Mathlib.Omega.{arith}
use borrow.Author.Tests.{ltb-true, ltb-false, le-leb, lt-leb}
use lib.Dec.{ltb, leb}
use lib.ListN.{length, drop}
use Rattle.std.specs.Prelude.{Option, Some, None, Result, Ok, Err, is_ok}
use Rattle.refusal.specs.declared.Refusal.{Refusal}
use Rattle.refusal.specs.Refusal.{number_of_result}
use Rattle.refusal.specs.declared.Refusal.TheVariants.{Unsupported, Corrupt, OutOfRange, OutsideGrid, NotAsked, BadState, BadValue, NoRoom}
use Rattle.pack.specs.Sector.{rules, is_sum, is_magic, is_version, header_at}
use Rattle.pack.specs.Sector as Sector
use Rattle.pack.specs.Grid.{is_point, in_grid, within}
use Rattle.pack.specs.Grid as Grid
use Rattle.pack.specs.declared.Header.{Header}
use Rattle.pack.specs.declared.TileKey.{TileKey}
use Rattle.tile.specs.Parse as Tile
use Rattle.tile.specs.Parse.{accepts}
use Rattle.tile.specs.Readers as Readers
use Rattle.tile.specs.declared.Head.{Head}
use Rattle.angle.specs.Bearing as Bearing
use Rattle.num.specs.Order.{is_finite}
use Rattle.geo.specs.Flat.{are_finite, is_heading}
use Rattle.geo.specs.Flat as Flat
use Rattle.geo.specs.Points as Points
use Rattle.geo.specs.declared.Point.{Point}
use Rattle.crossing.specs.Crossing.{Crosses, refusal}
use Rattle.view.specs.Views as Views
use Rattle.cache.specs.Lookups.{next_step}
use Rattle.cache.specs.Direct.{look}
use Rattle.cache.specs.State.{cache_ok}
use Rattle.cache.specs.Loads.{takes, over, refused}
use Rattle.cache.specs.Loads as Loads
use Rattle.cache.specs.Calls as Cached
use Rattle.cache.specs.declared.Cache.{Cache}
use Rattle.cache.specs.declared.Got.{Got}
use Rattle.cache.specs.declared.Cleared.{Cleared}
use Rattle.matcher.specs.State as Matchers
use Rattle.matcher.specs.Near as Near
use Rattle.matcher.specs.Calls as Matched
use Rattle.matcher.specs.Numbers.{number_of_outcome as number_of_match}
use Rattle.matcher.specs.declared.Heading.{Heading}
use Rattle.matcher.specs.declared.NearRead.{NearRead}
use Rattle.matcher.specs.declared.Updated.{Updated}
use Rattle.predict.specs.Predict as Predict
use Rattle.predict.specs.Numbers.{number_of_outcome as number_of_road}
use Rattle.engine.specs.declared.Ahead.{Ahead}
use Rattle.engine.specs.State.{engine_ok}
use Rattle.engine.specs.State as Engines
use Rattle.engine.specs.Publish.{nothing_ahead}
use Rattle.engine.specs.Steps as Steps
use Rattle.engine.specs.Deliver as Deliver
use Rattle.engine.specs.Calls as Engined
use Rattle.engine.specs.declared.Changed.{Changed}
use Rattle.engine.specs.declared.Engine.{Engine}
use Rattle.engine.specs.declared.Stepped.{Stepped}
use Rattle.writer.specs.TileWritten as TileWritten
use Rattle.writer.specs.PackWritten as PackWritten
use Rattle.profile_text.specs.Page as Page
use Rattle.refusals.specs.Causes.{◌unless◌, first_of, Refuses}
use Rattle.refusals.specs.Refusals.{still_passes, Refusals}
use Rattle.refusals.proofs.CauseLaws.{tests, refuses, plainly, by_result, number_first, both, three, asked_at_lem}
use Rattle.refusals.proofs.LoadLaws.{step_fails, from_fails, entry_refused, entry_number, got_refused, got_number, still_next, fetched_refused, fetched_number, stepped-refused, stepped_runs, from_tested, from_refused, from_runs}
use Rattle.refusals.proofs.DeliverLaws.{deliver_tested, deliver_number}
use Rattle.refusals.proofs.WorkLaws.{update_works, predict_uncertain, predict_start, predict_works, step_works, step_from_works}

-- ---- cores that refuse nothing

heading_number : (x : Heading) → number_of_result (Engined.heading_of x) ≡ 0
heading_number Heading.Nothing = refl
heading_number (Heading.Degrees d) = refl

-- ---- the sector

sector_tests : (s : List ℕ) → Sector.parse s
    ≡ cond (is_sum s) (cond (is_magic s) (cond (is_version s) (cond (rules (header_at s)) (Ok (header_at s)) (Err Unsupported)) (Err Unsupported)) (Err Unsupported)) (Err Corrupt)
unfolding Sector.parse
sector_tests s = by (is_sum s) (is_magic s) (is_version s) (rules (header_at s)) _ _ _
  where
    by : (a b c d : Bool) (x y z : Result Header Refusal) → cond a (cond (b && (c && (d && true))) x y) z ≡ cond a (cond b (cond c (cond d x y) y) y) z
    by false b c d x y z = refl
    by true false c d x y z = refl
    by true true false d x y z = refl
    by true true true true x y z = refl
    by true true true false x y z = refl

-- ---- a crossing, a view

asked_first : (first second : Point) (h : Header) (k : TileKey) (bs : List ℕ) → number_of_result (refusal first second h k bs)
    ≡ first_of
    (BadState unless rules h
    ∷ OutOfRange unless is_point first.lat first.lon
    ∷ OutOfRange unless is_point second.lat second.lon
    ∷ OutsideGrid unless in_grid h k
    ∷ Corrupt unless accepts bs k h.tile
    ∷ [])
unfolding refusal
asked_first first second h k bs = number_first _

crossed : (first second : Point) (h : Header) (k : TileKey) (bs : List ℕ) (r : Result (Option (ℕ × ℕ)) Refusal) → Crosses first second h k bs r
    → number_of_result r
    ≡ first_of
    (BadState unless rules h
    ∷ OutOfRange unless is_point first.lat first.lon
    ∷ OutOfRange unless is_point second.lat second.lon
    ∷ OutsideGrid unless in_grid h k
    ∷ Corrupt unless accepts bs k h.tile
    ∷ [])
crossed first second h k bs (Ok (Some (edge, segment))) x = sym (ap number_of_result x.accepted) ∙ asked_first first second h k bs
crossed first second h k bs (Ok None) x = sym (ap number_of_result x.accepted) ∙ asked_first first second h k bs
crossed first second h k bs (Err e) x = sym (ap number_of_result x) ∙ asked_first first second h k bs

through : (t : Bool) (bs : List ℕ) (x y : ℕ) (head : Head) → Views.node_at_in (cond t (Ok head) (Err Corrupt)) bs x y
    ≡ cond t (Ok (Readers.node_at bs x y)) (Err Corrupt)
through true bs x y head = refl
through false bs x y head = refl

-- ---- a lookup and a load, with the late 12

abbrev Kept : Cache → List ℕ → Loads.After → Type 0
Kept c arena r = (r.cache ≡ c) × (r.arena ≡ arena)

module _ (c : Cache) (arena : List ℕ) (h : Header) (k : TileKey) where
  fetch_late : Loads.fetched c (next_step c k) arena h k
      ≡ cond (still_passes (look c arena h.tile k)) (Loads.fetched c (next_step c k) arena h k) (Err BadState)
  fetch_late = fetched_refused c arena h k (next_step c k)
      ∙ ap (λ t. cond t (Loads.fetched c (next_step c k) arena h k) (Err BadState)) (sym (still_next c arena h.tile k))

  load_late : (failure : ℕ) (bs : List ℕ) → Loads.stepped c (next_step c k) arena h k failure bs
      ≡ cond (still_passes (look c arena h.tile k)) (Loads.stepped c (next_step c k) arena h k failure bs) (over (refused c BadState) arena)
  load_late failure bs = stepped-refused c arena h k failure bs (next_step c k)
      ∙ ap (λ t. cond t (Loads.stepped c (next_step c k) arena h k failure bs) (over (refused c BadState) arena)) (sym (still_next c arena h.tile k))

  from_late : (pack : List ℕ) → Loads.stepped_from c (next_step c k) arena h k pack
      ≡ cond (still_passes (look c arena h.tile k)) (Loads.stepped_from c (next_step c k) arena h k pack) (over (refused c BadState) arena)
  from_late pack = from_refused c arena h k pack (next_step c k)
      ∙ ap (λ t. cond t (Loads.stepped_from c (next_step c k) arena h k pack) (over (refused c BadState) arena)) (sym (still_next c arena h.tile k))

-- ---- a step over a lent pack

abbrev Same : Engine → List ℕ → Deliver.After → Type 0
Same e arena r = (r.engine ≡ e) × (r.arena ≡ arena)

from_step : (e : Engine) (arena pack : List ℕ) (t : Bool) (s : Stepped)
    → Engined.step_from_by (cond t s (Engines.refused e BadState)).answer (cond t s (Engines.refused e BadState)) arena pack
    ≡ cond t (Engined.step_from_by s.answer s arena pack) (Deliver.over (Engines.refused e BadState) arena)
from_step e arena pack true s = refl
from_step e arena pack false s = refl

-- ---- the page

at_most : (a b : ℕ) → not (ltb b a) ≡ leb a b
at_most a b = by (ltb b a) refl
  where
    by : (t : Bool) → ltb b a ≡ t → not t ≡ leb a b
    by true q = sym (lt-leb a b (ltb-true b a q))
    by false q = sym (le-leb a b (ltb-false b a q))

page_by : (a b : Bool) (n : ℕ) (text out : List ℕ) → let f = cond {A = Result Unit Refusal} a (Err BadState) (cond b (Err NoRoom) (Ok tt)) in
    Refuses (BadState unless not a ∷ NoRoom unless not b ∷ []) (number_of_result (Page.answer f n)) (cond (is_ok f) text out ≡ out)
    ((Page.answer f n ≡ Ok n) × (cond (is_ok f) text out ≡ text))
unfolding first_of
page_by true b n text out = record { is = refl; as_it_was = λ some. refl; goes_on = λ none. absurd (omega (arith, none)) }
page_by false true n text out = record { is = refl; as_it_was = λ some. refl; goes_on = λ none. absurd (omega (arith, none)) }
page_by false false n text out = record { is = refl; as_it_was = λ some. absurd (omega (arith, some)); goes_on = λ none. (refl, refl) }

-- ---- the table

pub lines : Refusals
unfolding Grid.read Grid.key Grid.checked Grid.origin Grid.entry Grid.locate Tile.parse Readers.node Readers.edge Readers.incident Readers.incident_entry Readers.point Bearing.bearing Points.point Points.edge_point Flat.metres_from Flat.length Flat.turn Flat.project Cached.capacity Cached.loads Cached.pages Cached.get Cached.clear Cached.fetch Cached.load Matched.nearby Matched.current Matched.update Predict.predict Engined.fix Engined.lost Engined.reset Engined.ahead Engined.header Engined.heading Engined.loads Engined.steps Engined.step Engined.step_from Engines.forgotten TileWritten.tile PackWritten.pack Page.refusal Page.printed Page.written
lines = record {
  read = λ pack offset len. by_result _ _ _ refl;
  parse = λ s. refuses number_of_result (λ (r : Result Header Refusal). Sector.header_in r ≡ Sector.no_header) Err _ _ _ (sector_tests s) (λ e. refl) (λ e. refl) (λ z. refl);
  key = λ h lat lon. by_result _ _ _ refl;
  checked = λ h row col. by_result _ _ _ refl;
  origin = λ h k. by_result _ _ _ refl;
  entry = λ h k. by_result _ _ _ refl;
  locate = λ h e. plainly number_of_result Err _ _ _
      (ap (λ x. cond (rules h) x (Err BadState)) (entry_refused h e)) (λ n. refl) (λ z. entry_number h e (asked_at_lem 1 _ z));
  tile_parse = λ bs k size. by_result _ _ _ refl;
  node = λ bs i. by_result _ _ _ refl;
  edge = λ bs i. by_result _ _ _ refl;
  incident = λ bs i. by_result _ _ _ refl;
  incident_entry = λ bs j. by_result _ _ _ refl;
  point = λ bs e i. by_result _ _ _ refl;
  bearing = λ east north. by_result _ _ _ (both _ _ (is_finite east) (is_finite north));
  point_of = λ h k n. by_result _ _ _ refl;
  metres_from = λ p o lon_um. by_result _ _ _ (both _ _ (is_point p.lat p.lon) (is_point o.lat o.lon));
  line_length = λ east north. by_result _ _ _ (both _ _ (is_finite east) (is_finite north));
  turn = λ from to. by_result _ _ _ (both _ _ (is_heading from) (is_heading to));
  project = λ p a b. by_result _ _ _ (three _ _ (are_finite p) (are_finite a) (are_finite b));
  edge_point = λ h bs e i. by_result _ _ _ refl;
  crossing = crossed;
  node_at = λ bs k size x y. by_result _ _ _ (through (accepts bs k size) bs x y _);
  capacity = λ c arena. by_result _ _ _ refl;
  loads = λ c arena. by_result _ _ _ refl;
  pages = λ c arena h k. by_result _ _ _ refl;
  get = λ c arena h k. refuses (λ (r : Got). number_of_result r.answer) (λ (r : Got). r.cache ≡ c) (Cached.got_nothing c) _ _ _
      (ap (λ x. cond (cache_ok c h (length arena)) (cond (in_grid h k) x (Cached.got_nothing c OutsideGrid)) (Cached.got_nothing c BadState)) (got_refused c arena h.tile k))
      (λ n. refl) (λ n. refl) (λ z. got_number c arena h.tile k (asked_at_lem 2 _ z));
  clear = λ c arena. refuses (λ (r : Cleared). number_of_result r.answer) (λ (r : Cleared). r.cache ≡ c)
      (λ e. record { answer = Err e; cache = c }) _ _ _ refl (λ n. refl) (λ n. refl) (λ z. refl);
  fetch = λ c arena h k. plainly number_of_result Err _ _ _
      (ap (λ x. cond (cache_ok c h (length arena)) (cond (in_grid h k) x (Err OutsideGrid)) (Err BadState)) (fetch_late c arena h k))
      (λ n. refl) (λ z. fetched_number c arena h k (next_step c k) (sym (still_next c arena h.tile k) ∙ asked_at_lem 2 _ z));
  load = λ c arena h k failure bs. refuses (λ (r : Loads.After). number_of_result r.answer) (Kept c arena) (λ e. over (refused c e) arena) _ _ _
      (ap (λ x. cond (cache_ok c h (length arena)) (cond (takes (next_step c k) h k failure (length bs)) (cond (in_grid h k) x (over (refused c OutsideGrid) arena)) (over (refused c NotAsked) arena)) (over (refused c BadState) arena))
      (load_late c arena h k failure bs))
      (λ n. refl) (λ n. (refl, refl)) (λ z. stepped_runs c arena h k failure bs (next_step c k) (sym (still_next c arena h.tile k) ∙ asked_at_lem 3 _ z));
  loaded = λ c arena h k failure bs. refuses (λ (r : Loads.After). number_of_result r.answer) (Kept c arena) (λ e. over (refused c e) arena) _ _ _
      (ap (λ x. cond (takes (next_step c k) h k failure (length bs)) (cond (in_grid h k) x (over (refused c OutsideGrid) arena)) (over (refused c NotAsked) arena))
      (load_late c arena h k failure bs))
      (λ n. refl) (λ n. (refl, refl)) (λ z. stepped_runs c arena h k failure bs (next_step c k) (sym (still_next c arena h.tile k) ∙ asked_at_lem 2 _ z));
  load_from = λ c arena h k pack. refuses (λ (r : Loads.After). number_of_result r.answer) (Kept c arena) (λ e. over (refused c e) arena) _ _ _
      (from_tested c arena h k pack
      ∙ ap (λ x. cond (cache_ok c h (length arena)) (cond (in_grid h k) x (over (refused c OutsideGrid) arena)) (over (refused c BadState) arena)) (from_late c arena h k pack))
      (λ n. refl) (λ n. (refl, refl)) (λ z. from_runs c arena h k pack (next_step c k) (sym (still_next c arena h.tile k) ∙ asked_at_lem 2 _ z));
  load_fails = step_fails;
  load_from_fails = from_fails;
  nearby = λ h p. refuses (λ (r : NearRead). number_of_result r.answer) (λ (r : NearRead). r.near ≡ Near.no_keys)
      (λ e. record { answer = Err e; near = Near.no_keys }) _ _ _ refl (λ n. refl) (λ n. refl) (λ z. refl);
  current = λ m. by_result _ _ _ refl;
  update = λ m c arena h p heading. tests (λ (r : Updated). number_of_match r.answer) (λ (r : Updated). (r.matcher ≡ m) × (r.cache ≡ c))
      (Matchers.refused m c) _ _ _
      (ap (λ x. cond (Matchers.call_ok m c h (length arena)) x (Matchers.refused m c BadState)) (both _ _ (is_point p.lat p.lon) (Matchers.heading_ok heading)))
      (λ n. refl) (λ n. (refl, refl));
  updated = λ m c arena h p heading. tests (λ (r : Updated). number_of_match r.answer) (λ (r : Updated). (r.matcher ≡ m) × (r.cache ≡ c))
      (Matchers.refused m c) _ _ _ (both _ _ (is_point p.lat p.lon) (Matchers.heading_ok heading)) (λ n. refl) (λ n. (refl, refl));
  update_works = update_works;
  predict = λ c arena h m horizon samples behind. tests (λ (r : Predict.After). number_of_road r.predicted.answer)
      (λ (r : Predict.After). (r.predicted.cache ≡ c) × ((r.samples ≡ samples) × (r.behind ≡ behind)))
      (λ e. Predict.untouched (Predict.refused c e) samples behind) _ _ _ refl (λ n. refl) (λ n. (refl, (refl, refl)));
  predicted = λ c arena h m horizon samples behind. tests (λ (r : Predict.After). number_of_road r.predicted.answer)
      (λ (r : Predict.After). (r.predicted.cache ≡ c) × ((r.samples ≡ samples) × (r.behind ≡ behind)))
      (λ e. Predict.untouched (Predict.refused c e) samples behind) _ _ _ refl (λ n. refl) (λ n. (refl, (refl, refl)));
  predict_uncertain = predict_uncertain;
  predict_start = predict_start;
  predict_works = predict_works;
  fix = λ e arena f. refuses (λ (r : Changed). number_of_result r.answer) (λ (r : Changed). r.engine ≡ e) (Engines.unchanged e) _ _ _ refl (λ n. refl)
      (λ n. refl) (λ z. refl);
  lost = λ e arena. refuses (λ (r : Changed). number_of_result r.answer) (λ (r : Changed). r.engine ≡ e) (Engines.unchanged e) _ _ _ refl (λ n. refl)
      (λ n. refl) (λ z. refl);
  reset = λ e arena. refuses (λ (r : Changed). number_of_result r.answer) (λ (r : Changed). r.engine ≡ e) (Engines.unchanged e) _ _ _ refl (λ n. refl)
      (λ n. refl) (λ z. refl);
  ahead = λ e arena. refuses number_of_result (λ (r : Result Ahead Refusal). Engined.ahead_in r ≡ nothing_ahead 0) Err _ _ _ refl (λ n. refl) (λ n. refl) (λ z. refl);
  header = λ e arena. refuses number_of_result (λ (r : Result (Option Header) Refusal). Engined.header_read r ≡ Engines.no_header) Err _ _ _ refl (λ n. refl) (λ n. refl) (λ z. refl);
  heading = λ e arena. plainly number_of_result Err _ _ _ refl (λ n. refl) (λ z. heading_number e.follower.sight.heading);
  engine_loads = λ e arena. by_result _ _ _ refl;
  steps = λ e arena. by_result _ _ _ refl;
  step = λ e arena. tests (λ (r : Stepped). number_of_result r.answer) (λ (r : Stepped). r.engine ≡ e) (Engines.refused e) _ _ _ refl (λ n. refl) (λ n. refl);
  step_works = step_works;
  deliver = λ e arena failure bs. refuses (λ (r : Deliver.After). number_of_result r.answer) (Same e arena) (λ n. Deliver.over (Engines.refused e n) arena) _ _ _
      (deliver_tested e arena failure bs) (λ n. refl) (λ n. (refl, refl))
      (λ z. deliver_number e arena failure bs (asked_at_lem 0 _ z) (asked_at_lem 1 _ z));
  step_from = λ e arena pack. tests (λ (r : Deliver.After). number_of_result r.answer) (Same e arena) (λ n. Deliver.over (Engines.refused e n) arena) _ _ _
      (from_step e arena pack (engine_ok e (length arena)) (Steps.stepped e arena)) (λ n. refl) (λ n. (refl, refl));
  step_from_works = step_from_works;
  write_tile = λ g out. refuses (λ (r : TileWritten.Written). number_of_result r.answer) (λ (r : TileWritten.Written). r.out ≡ out)
      (λ n. record { answer = Err n; out = out }) _ _ _ refl (λ n. refl) (λ n. refl) (λ z. refl);
  write_pack = λ g out. refuses (λ (r : TileWritten.Written). number_of_result r.answer) (λ (r : TileWritten.Written). r.out ≡ out)
      (λ n. record { answer = Err n; out = out }) _ _ _
      (ap (λ x. cond (PackWritten.pack_good g) x (record { answer = Err BadValue; out = out }))
      (both _ _ (leb (PackWritten.total g) 0xffff_ffff) (leb (PackWritten.total g) (length out)))) (λ n. refl) (λ n. refl) (λ z. refl);
  page = λ zs p out. rw (← at_most (length zs) 501, ← at_most (length (Page.page p zs)) (length out))
      (page_by (ltb 501 (length zs)) (ltb (length out) (length (Page.page p zs))) (length (Page.page p zs)) (Page.page p zs ++ drop (length (Page.page p zs)) out) out);
}
