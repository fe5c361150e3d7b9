-- What a road over any reader answers: a tile that it needs lies in the grid (`road_need`), it has at most as many samples as the arrays have
-- places (`road_lengths`), and where no lookup is stale it is not refused with 12 (`road_not_stale`). The idea: each edge that is walked lies in
-- a tile of the grid, since a tile beside it is checked before it is looked up and every choice is of a tile looked up; a sample is counted only
-- where it is written; and only a stale lookup ends a walk with 12. One pass shows all three (`forecast_in`), of any property of keys in the
-- grid's place.
use Rattle.refusal.specs.Refusal.{number_of}
use Rattle.refusal.specs.declared.Refusal.{Refusal}
use Rattle.std.specs.Prelude.{Result, Ok, Err}
use Rattle.std.proofs.Common.{Option, Some, None}
use Prim.Native.Nat.{ℕ, zero, suc, ◌+◌, ◌-◌, ◌<◌, ◌≤◌}
use mathlib.Core.Path.{◌≡◌, refl, subst, ◌∙◌}
use mathlib.Core.Bool.{Bool, true, false, ◌&&◌, cond}
use mathlib.Core.List.{List, []}
use mathlib.Core.Logic.{⊎_elim}
use native.Mathlib.Omega.{arith}
use lib.Dec.{ltb, leb}
use lib.IntN.{ℤ, pos, ◌+ℤ◌}
use lib.Ieee.{Float, binary32, of_bits, add, sub, lt, le}
use lib.ListN.{length, get_or, set, replicate, length-set}
use lib.Seq.{set_out, get_or-set_same, get_or-set_other}
use borrow.Author.Tests.{ltb-true, lt-ltb}
use Rattle.num.specs.Order.{is_finite}
use Rattle.num.proofs.FoldLaws.{up_keeps}
use Rattle.pack.specs.Grid.{in_grid, checked_of}
use Rattle.pack.specs.declared.Header.{Header}
use Rattle.pack.specs.declared.TileKey.{TileKey}
use Rattle.pack.proofs.Laws.{row_below, col_below, checked_in_grid}
use Rattle.cache.specs.Runs.{span}
use Rattle.cache.proofs.Below.{below_or, same_or}
use Rattle.tile.specs.Layout as Layout
use Rattle.tile.specs.Readers.{node_at}
use Rattle.tile.specs.declared.Edge.{Edge}
use Rattle.geo.specs.Flat.{whole}
use Rattle.geo.specs.declared.Point.{Point}
use Rattle.cache.specs.Direct.{Look, ready, missing, absent, stale}
use Rattle.matcher.specs.Score.{same_id}
use Rattle.matcher.specs.declared.Matched.{Matched}
use Rattle.predict.specs.Samples.{Pushed, sample_at, push_from, pushed}
use Rattle.predict.specs.declared.Mark.{Mark}
use Rattle.predict.specs.Choose.{no_choice, no_choices, choice_in, push, pick_step, no_pick, pick_to, pick}
use Rattle.predict.specs.Outgoing.{last_of}
use Rattle.predict.specs.Twins.{no_twin}
use Rattle.predict.specs.declared.Choice.{Choice}
use Rattle.predict.specs.declared.Choices.{Choices}
use Rattle.predict.specs.declared.choose.Picked.{Picked}
use Rattle.predict.specs.declared.outgoing.Leg.{Leg}
use Rattle.predict.specs.declared.twins.Twin.{Twin}
use Rattle.predict.specs.declared.twins.TwinList.{TwinList}
use Rattle.cache.specs.Reader.{Reader, plain}
use Rattle.predict.specs.Ridden.{Backs, Written, back_step, back_next, backs_to, backs, last_sample, no_mark, ridden}
use Rattle.predict.specs.Start.{start_ok}
use Rattle.predict.specs.Vertex as Vertex
use Rattle.predict.specs.Vertex.{Along, step_of, passed, advanced, vertex_step, vertices, to_end}
use Rattle.predict.specs.declared.Track.{Track}
use Rattle.predict.specs.declared.Trip.{Trip}
use Rattle.predict.specs.declared.ridden.Back.{Back}
use Rattle.predict.specs.declared.ridden.Behind.{Behind}
use Rattle.predict.specs.Consider.{choice_of, is_way_on, consider_step, consider_to, consider}
use Rattle.predict.specs.Cross.{Ways, consider_by, twin_look, twin_key, going_over, step_over, cross_to, cross_over}
use Rattle.predict.specs.Decide.{lowered, decide}
use Rattle.predict.specs.Visits.{visit}
use Rattle.predict.specs.Meets.{meet, budget}
use Rattle.predict.specs.declared.Arrival.{Arrival}
use Rattle.predict.specs.declared.Decision.{Decision}
use Rattle.predict.specs.declared.End.TheVariants as End
use Rattle.predict.specs.declared.Ending.{Ending}
use Rattle.predict.specs.Walk.{with_ending, reached, taken, on_road, with_entry, Onto, entered, is_round, turned, incoming_of, node_of, arrival_of, next_look, Run, taken_by, decided_over, onward_by, onward_over, ways_over, crossed_over, goes_on, leg_of, along, stopped, run_of, begun, driven, edge_look, edge_step, walk_to}
use Rattle.predict.specs.declared.Walk.{Walk}
use Rattle.predict.specs.Predict.{track_from, walk_from, prediction, outcome_by, outcome, Forecast, trip_of, road_over, start_look, directed_over, forecast_over, predict_over}
use Rattle.predict.specs.declared.Outcome.{Outcome}
use Rattle.predict.specs.declared.Prediction.{Prediction}

-- ---- the samples

-- no more than the n places are counted
record Filled (n : ℕ) (m : Mark) (hs : List ℤ) : Type 0 where
  most : m.len ≤ n
  long : length hs ≡ n

module _ (n : ℕ) where
  either_pushed : (t : Bool) (a b : Pushed) → Filled n a.mark a.heights → Filled n b.mark b.heights
      → Filled n (cond t a b).mark (cond t a b).heights
  either_pushed true a b p q = p
  either_pushed false a b p q = q

  push_fills : (room : ℕ) (m : Mark) (d : Float) (z : ℤ) (len : ℕ) (hs : List ℤ) → len + room ≤ n → length hs ≡ n
      → Filled n (push_from room m d z len hs).mark (push_from room m d z len hs).heights
  unfolding push_from
  push_fills zero m d z len hs few long = record { most = omega arith; long = long }
  push_fills (suc room) m d z len hs few long =
      either_pushed (lt d (sample_at len)) _ _ (record { most = omega arith; long = long })
      (push_fills room m d z (len + 1) _ (omega arith) (length-set hs len _ ∙ long))

  pushed_fills : (m : Mark) (hs : List ℤ) (d : Float) (z : ℤ) → Filled n m hs → Filled n (pushed m hs d z).mark (pushed m hs d z).heights
  pushed_fills m hs d z f = push_fills (length hs - m.len) m d z m.len hs (omega (arith, f.most, f.long)) f.long

  -- ---- along an edge

  abbrev AlongFills : Along → Type 0
  AlongFills a = Filled n a.track.mark a.heights

  either_along : (t : Bool) (a b : Along) → AlongFills a → AlongFills b → AlongFills (cond t a b)
  either_along true a b p q = p
  either_along false a b p q = q

  advanced_fills : (trip : Trip) (leg : Leg) (bs : List ℕ) (lon_um : ℕ) (t : Track) (i : ℕ) (hs : List ℤ) → Filled n t.mark hs
      → AlongFills (advanced trip leg bs lon_um t i hs)
  unfolding advanced Vertex.reached passed
  advanced_fills trip leg bs lon_um t i hs f =
      either_along (le trip.horizon_m (add binary32 t.distance (step_of t.here _ lon_um))) _ _ (pushed_fills t.mark hs _ _ f)
      (pushed_fills t.mark hs _ _ f)

  to_end_fills : (trip : Trip) (leg : Leg) (bs : List ℕ) (lon_um from : ℕ) (a : Along) → AlongFills a → AlongFills (to_end trip leg bs lon_um from a)
  unfolding vertices
  to_end_fills trip leg bs lon_um from a f =
      up_keeps (vertex_step trip leg bs lon_um from) a AlongFills (last_of leg + 1 - from) f
      (λ (i : ℕ) (below : i < last_of leg + 1 - from) (b : Along) (g : AlongFills b).
      either_along b.track.over b _ g (advanced_fills trip leg bs lon_um b.track (from + i) b.heights g))

  -- ---- behind the rider

  abbrev BackFills : Backs → Type 0
  BackFills b = Filled n b.back.mark b.heights

  either_back : (t : Bool) (a b : Backs) → BackFills a → BackFills b → BackFills (cond t a b)
  either_back true a b p q = p
  either_back false a b p q = q

  back_fills : (trip : Trip) (leg : Leg) (bs : List ℕ) (lon_um : ℕ) (reach : Float) (b : Back) (i : ℕ) (hs : List ℤ) → Filled n b.mark hs
      → BackFills (back_step trip leg bs lon_um reach b i hs)
  unfolding back_step
  back_fills trip leg bs lon_um reach b i hs f =
      either_back (le reach (add binary32 b.distance (step_of b.here _ lon_um))) _ _ (pushed_fills b.mark hs _ _ f)
      (pushed_fills b.mark hs _ _ f)

  backs_fill : (trip : Trip) (leg : Leg) (bs : List ℕ) (lon_um : ℕ) (reach : Float) (from : ℕ) (b : Back) (hs : List ℤ) → Filled n b.mark hs
      → BackFills (backs trip leg bs lon_um reach from b hs)
  unfolding backs backs_to
  backs_fill trip leg bs lon_um reach from b hs f =
      up_keeps (back_next trip leg bs lon_um reach from) (record { back = b; heights = hs }) BackFills (last_of leg + 1 - from) f
      (λ (i : ℕ) (below : i < last_of leg + 1 - from) (c : Backs) (g : BackFills c).
      either_back c.back.over c _ g (back_fills trip leg bs lon_um reach c.back (from + i) c.heights g))

  last_fits : (b : Back) (hs : List ℤ) → Filled n b.mark hs → (last_sample b hs).behind.len ≤ n
  unfolding last_sample
  last_fits b hs f = by (le (whole 1) (sub binary32 b.distance (sample_at (b.mark.len - 1)))) (ltb b.mark.len (length hs)) refl _ _ refl refl
    where
      by : (s t : Bool) → ltb b.mark.len (length hs) ≡ t → (x y : Written) → x.behind.len ≡ b.mark.len + 1 → y.behind.len ≡ b.mark.len
          → (cond (s && t) x y).behind.len ≤ n
      by true true e x y p q = omega (arith, p, ltb-true b.mark.len (length hs) e, f.long)
      by true false e x y p q = omega (arith, q, f.most)
      by false t e x y p q = omega (arith, q, f.most)

  ridden_fits : (trip : Trip) (leg : Leg) (bs : List ℕ) (lon_um : ℕ) (m : Matched) (here : Point) (hs : List ℤ) → length hs ≡ n
      → (ridden trip leg bs lon_um m here hs).behind.len ≤ n
  unfolding ridden
  ridden_fits trip leg bs lon_um m here hs long =
      last_fits _ _ (backs_fill trip leg bs lon_um _ _ _ _ (pushed_fills no_mark hs (whole 0) (pos 0) (record { most = omega arith; long = long })))

-- ---- how a road ends

-- a road of at most a samples ahead and b behind; a needed key that has the property In; 12 only where Never holds
abbrev Ends : (TileKey → Type 0) → Type 0 → ℕ → ℕ → Result Outcome Refusal → Type 0
Ends In Never a b (Ok (Outcome.Road p)) = (p.len ≤ a) × (p.behind ≤ b)
Ends In Never a b (Ok (Outcome.Need key)) = In key
Ends In Never a b (Ok Outcome.Rematch) = Unit
Ends In Never a b (Err refusal) = number_of refusal ≡ 12 → Never

-- ---- the choices of a junction

-- In: a property of the start's key and of every key in the grid, and so of each that is looked up. Never: what holds where a lookup is stale
module _ (In : TileKey → Type 0) (Never : Type 0) (origin_in : (key : TileKey) → In key → In no_choice.way.tile) where
  abbrev NeedIn : Ending → Type 0
  NeedIn Ending.Going = Unit
  NeedIn (Ending.Stops end) = Unit
  NeedIn (Ending.Need key) = In key
  NeedIn Ending.Stale = Never

  -- a key in the grid has the property
  abbrev Checked : Header → Type 0
  Checked h = (row col : ℤ) (key : TileKey) → checked_of h row col ≡ Some key → In key

  abbrev NotStale : {S : Type 0} → Reader S → Type 0
  NotStale {S} rd = (s : S) (key : TileKey) → rd.at s key ≡ stale → Never

  -- whether or not a place was taken
  abbrev ChoicesIn : Choices → Type 0
  ChoicesIn c = (i : ℕ) → In (choice_in c i).way.tile

  either_choices : (t : Bool) (a b : Choices) → ChoicesIn a → ChoicesIn b → ChoicesIn (cond t a b)
  either_choices true a b p q = p
  either_choices false a b p q = q

  set_in : (v : List Choice) (at : ℕ) (new : Choice) → ((i : ℕ) → In (get_or v i no_choice).way.tile) → In new.way.tile
      → (i : ℕ) → In (get_or (set v at new) i no_choice).way.tile
  set_in v at new all is_in_grid i =
      ⊎_elim
      (λ (e : i ≡ at). rw e
      (⊎_elim
      (λ (below : at < length v). rw (get_or-set_same v at new no_choice below) is_in_grid)
      (λ (past : length v ≤ at). rw (set_out v at new past) (all at))
      (below_or at (length v))))
      (λ (e : i ≡ at → ⊥). rw (get_or-set_other v at i new no_choice e) (all i))
      (same_or i at)

  push_in : (c : Choices) (new : Choice) → ChoicesIn c → In new.way.tile → ChoicesIn (push c new)
  unfolding push
  push_in c new all is_in_grid = either_choices (leb 12 c.len) c _ all (set_in c.v c.len new all is_in_grid)

  consider_in : (c : Choices) (a : Arrival) (v : List ℕ) (bs : List ℕ) (key : TileKey) (node : ℕ) → ChoicesIn c → In key
      → ChoicesIn (consider c a v bs key node)
  unfolding consider consider_to consider_step choice_of
  consider_in c a v bs key node all is_in_grid =
      up_keeps (λ (d : Choices) (i : ℕ). consider_step d a v bs key (Layout.entry_of bs (Layout.adjacency_start bs node + i))) c ChoicesIn
      (Layout.adjacency_end bs node - Layout.adjacency_start bs node) all
      (λ (i : ℕ) (below : i < Layout.adjacency_end bs node - Layout.adjacency_start bs node) (d : Choices) (good : ChoicesIn d).
      let entry = Layout.entry_of bs (Layout.adjacency_start bs node + i) in
      either_choices (is_way_on a v bs key entry) _ d (push_in d (choice_of a bs key entry) good is_in_grid) good)

  at_in : (x : Option ℕ) (c : Choices) (a : Arrival) (v : List ℕ) (bs : List ℕ) (key : TileKey) → ChoicesIn c → In key
      → ChoicesIn (consider_by x c a v bs key)
  at_in (Some node) c a v bs key all is_in_grid = consider_in c a v bs key node all is_in_grid
  at_in None c a v bs key all is_in_grid = all

  -- ---- the tiles that share the node

  record WaysIn {S : Type 0} (x : Ways S) : Type 0 where
    choices : ChoicesIn x.choices
    need : NeedIn x.ending

  module _ {S : Type 0} (rd : Reader S) (fresh : NotStale rd) (a : Arrival) (checked : Checked a.header) (v : List ℕ) where
    twin_look_in : (l : Look) (x : Ways S) (key : TileKey) (twin : Twin) → (l ≡ stale → Never) → In key → WaysIn x
        → WaysIn (twin_look rd a v l x key twin)
    twin_look_in (ready bs) x key twin never is_in_grid good =
        record { choices = at_in (node_at bs twin.x twin.y) x.choices a v bs key good.choices is_in_grid; need = good.need }
    twin_look_in missing x key twin never is_in_grid good = record { choices = good.choices; need = good.need }
    twin_look_in absent x key twin never is_in_grid good = record { choices = good.choices; need = is_in_grid }
    twin_look_in stale x key twin never is_in_grid good = record { choices = good.choices; need = never refl }

    twin_key_in : (k : Option TileKey) (row col : ℤ) (x : Ways S) (twin : Twin) → checked_of a.header row col ≡ k → WaysIn x → WaysIn (twin_key rd a v k x twin)
    twin_key_in (Some key) row col x twin e good =
        twin_look_in (rd.at x.carried key) x key twin (fresh x.carried key) (checked row col key e) good
    twin_key_in None row col x twin e good = record { choices = good.choices; need = good.need }

    going_in : (ending : Ending) (x : Ways S) (twin : Twin) → WaysIn x → WaysIn (going_over rd a v ending x twin)
    going_in Ending.Going x twin good =
        let row = pos a.way.tile.row +ℤ twin.row in
        let col = pos a.way.tile.col +ℤ twin.col in
        twin_key_in (checked_of a.header row col) row col x twin refl good
    going_in (Ending.Stops end) x twin good = good
    going_in (Ending.Need key) x twin good = good
    going_in Ending.Stale x twin good = good

    either_ways : (t : Bool) (x y : Ways S) → WaysIn x → WaysIn y → WaysIn (cond t x y)
    either_ways true x y p q = p
    either_ways false x y p q = q

    cross_in : (s : S) (choices : Choices) (twins : TwinList) → ChoicesIn choices → WaysIn (cross_over rd a v s choices twins)
    unfolding cross_to
    cross_in s choices twins all =
        up_keeps (λ (y : Ways S) (i : ℕ). step_over rd a v y (get_or twins.v i no_twin) i twins.len)
        (record { choices = choices; blocked = false; ending = Ending.Going; carried = s }) WaysIn 8 (record { choices = all; need = tt })
        (λ (i : ℕ) (below : i < 8) (y : Ways S) (good : WaysIn y).
        either_ways (ltb i twins.len) _ y (going_in y.ending y (get_or twins.v i no_twin) good) good)

  -- ---- the way that is taken

  abbrev PickIn : Picked → Type 0
  PickIn p = In p.best.way.tile

  either_pick : (t : Bool) (a b : Picked) → PickIn a → PickIn b → PickIn (cond t a b)
  either_pick true a b p q = p
  either_pick false a b p q = q

  pick_in : (c : Choices) → ChoicesIn c → In no_choice.way.tile → PickIn (pick c)
  unfolding pick_to pick_step
  pick_in c all origin =
      up_keeps (λ (p : Picked) (i : ℕ). pick_step p c.len i (choice_in c i)) no_pick PickIn 12 origin
      (λ (i : ℕ) (below : i < 12) (p : Picked) (good : PickIn p).
      either_pick (ltb i c.len) _ p
      (either_pick p.any _ _ (either_pick (le p.best.cost (choice_in c i).cost) _ _ good (all i)) (all i)) good)

  record DecisionIn (d : Decision) : Type 0 where
    grid : In d.way.tile
    need : NeedIn d.ending

  either_decision : (t : Bool) (a b : Decision) → DecisionIn a → DecisionIn b → DecisionIn (cond t a b)
  either_decision true a b p q = p
  either_decision false a b p q = q

  decide_in : (c : Choices) (blocked : Bool) (confidence : Float) → ChoicesIn c → In no_choice.way.tile
      → DecisionIn (decide c blocked confidence)
  unfolding decide
  decide_in c blocked confidence all origin =
      let p : Picked = pick c in
      let grid : In p.best.way.tile = pick_in c all origin in
      let margin = sub binary32 p.second p.best.cost in
      either_decision p.any _ _
      (either_decision (is_finite p.second) _ _
      (either_decision (lt margin (whole 1)) _ _ (record { grid = grid; need = tt })
      (either_decision (lt (lowered confidence margin) (of_bits binary32 0x3e99999a)) _ _ (record { grid = grid; need = tt }) (record { grid = grid; need = tt })))
      (record { grid = grid; need = tt }))
      (either_decision blocked _ _ (record { grid = grid; need = tt }) (record { grid = grid; need = tt }))

  -- ---- at the junction

  -- a walk in the grid
  record WalkIn (w : Walk) : Type 0 where
    grid : In w.way.tile
    need : NeedIn w.ending

  none_in : In no_choice.way.tile → (n i : ℕ) → In (get_or (replicate n no_choice) i no_choice).way.tile
  none_in origin zero i = origin
  none_in origin (suc n) zero = origin
  none_in origin (suc n) (suc i) = none_in origin n i

  end_in : (w : Walk) (ending : Ending) → WalkIn w → NeedIn ending → WalkIn (with_ending w ending)
  unfolding with_ending
  end_in w ending good need = record { grid = good.grid; need = need }

  next_in : (l : Look) (w : Walk) → (l ≡ stale → Never) → WalkIn w → WalkIn (next_look l w)
  unfolding on_road
  next_in (ready bs) w never good = record { grid = good.grid; need = good.need }
  next_in missing w never good = end_in w (Ending.Need w.way.tile) good good.grid
  next_in absent w never good = end_in w (Ending.Need w.way.tile) good good.grid
  next_in stale w never good = end_in w Ending.Stale good (never refl)

  either_walk : (b : Bool) (v w : Walk) → WalkIn v → WalkIn w → WalkIn (cond b v w)
  either_walk true v w p q = p
  either_walk false v w p q = q

  turned_in : (w : Walk) (e : Edge) (incoming : Float) → WalkIn w → WalkIn (turned w e incoming)
  unfolding turned with_entry
  turned_in w e incoming good =
      either_walk (is_round e) _ _ (record { grid = good.grid; need = good.need }) (record { grid = good.grid; need = good.need })

  module _ {S : Type 0} (rd : Reader S) (fresh : NotStale rd) where
    taken_by_in : (ending : Ending) (w : Walk) (s : S) → WalkIn w → WalkIn (taken_by rd ending w s).walk
    taken_by_in Ending.Going w s good = next_in (rd.at s w.way.tile) w (fresh s w.way.tile) good
    taken_by_in (Ending.Stops end) w s good = good
    taken_by_in (Ending.Need key) w s good = good
    taken_by_in Ending.Stale w s good = good

    decided_in : (w : Walk) (s : S) (d : Decision) → WalkIn w → DecisionIn d → WalkIn (decided_over rd w s d).walk
    unfolding taken
    decided_in w s d good by = taken_by_in d.ending (taken w d) s (record { grid = by.grid; need = by.need })

    onward_in : (ending : Ending) (w : Walk) (x : Ways S) → WalkIn w → WaysIn x → NeedIn ending → WalkIn (onward_by rd ending w x).walk
    onward_in Ending.Going w x good ways need =
        decided_in w x.carried _ good (decide_in x.choices x.blocked w.confidence ways.choices (origin_in w.way.tile good.grid))
    onward_in (Ending.Stops end) w x good ways need = end_in w (Ending.Stops end) good tt
    onward_in (Ending.Need key) w x good ways need = end_in w (Ending.Need key) good need
    onward_in Ending.Stale w x good ways need = end_in w Ending.Stale good need

    onward_of : (w : Walk) (x : Ways S) → WalkIn w → WaysIn x → WalkIn (onward_over rd w x).walk
    onward_of w x good ways = onward_in x.ending w x good ways ways.need

    ways_in : (h : Header) → Checked h → (v : List ℕ) (w : Walk) (s : S) (bs : List ℕ) (leg : Leg) (incoming : Float) → WalkIn w
        → WaysIn (ways_over rd h v w s bs leg incoming)
    ways_in h checked v w s bs leg incoming good =
        cross_in rd fresh (arrival_of h w incoming) checked v s _ _
        (consider_in no_choices (arrival_of h w incoming) v bs w.way.tile (node_of leg)
        (none_in (origin_in w.way.tile good.grid) 12) good.grid)

    crossed_in : (h : Header) → Checked h → (v : List ℕ) (w : Walk) (t : Track) (s : S) (bs : List ℕ) (leg : Leg) → WalkIn w
        → WalkIn (crossed_over rd h v w t s bs leg).walk
    unfolding crossed_over
    crossed_in h checked v w t s bs leg good =
        let incoming = incoming_of t w.approach (Layout.head_of bs).lon_um in
        let next : WalkIn (turned w leg.edge incoming) = turned_in w leg.edge incoming good in
        onward_of (turned w leg.edge incoming) _ next (ways_in h checked v (turned w leg.edge incoming) s bs leg incoming next)

  -- ---- the walk

  module _ {S : Type 0} (rd : Reader S) (fresh : NotStale rd) (trip : Trip) (checked : Checked trip.header) (budget n : ℕ) where
    record RunIn (r : Run S) : Type 0 where
      grid : In r.walk.way.tile
      need : NeedIn r.walk.ending
      filled : Filled n r.track.mark r.heights

    either_run : (b : Bool) (x y : Run S) → RunIn x → RunIn y → RunIn (cond b x y)
    either_run true x y p q = p
    either_run false x y p q = q

    driven_in : (o : Onto) (t : Track) (s : S) (bs : List ℕ) (hs : List ℤ) → WalkIn o.walk → Filled n t.mark hs
        → RunIn (driven rd trip budget o t s bs hs)
    unfolding along reached with_ending
    driven_in o t s bs hs good filled =
        let w : Walk = o.walk in
        let a : Along = along trip w t bs hs in
        let fills : Filled n a.track.mark a.heights
        = to_end_fills n trip (leg_of trip.header w.way bs) bs (Layout.head_of bs).lon_um w.from (record { track = t; heights = hs }) filled in
        let next = crossed_in rd fresh trip.header checked o.visited w a.track s bs (leg_of trip.header w.way bs) good in
        either_run a.track.over _ _ (record { grid = good.grid; need = tt; filled = fills })
        (record { grid = next.grid; need = next.need; filled = fills })

    entered_in : (v m : List ℕ) (w : Walk) (pages : ℕ) → WalkIn w → WalkIn (entered v m w budget pages).walk
    entered_in v m w pages good = by (meet m budget w.way.tile pages).fits
      where
        by : (t : Bool) → WalkIn (cond t (record { walk = w; visited = visit v w.way.tile w.way.edge; met = (meet m budget w.way.tile pages).met })
            (stopped v (meet m budget w.way.tile pages).met w (Ending.Stops End.Memory))).walk
        by true = good
        by false = end_in w (Ending.Stops End.Memory) good tt

    walk_of : (r : Run S) → RunIn r → WalkIn r.walk
    walk_of r good = record { grid = good.grid; need = good.need }

    ended_in : (r : Run S) (ending : Ending) → RunIn r → NeedIn ending
        → RunIn (run_of (stopped r.visited r.met r.walk ending) r.track r.carried r.heights)
    ended_in r ending good need =
        let w = end_in r.walk ending (walk_of r good) need in record { grid = w.grid; need = w.need; filled = good.filled }

    look_in : (l : Look) (r : Run S) → (l ≡ stale → Never) → RunIn r → RunIn (edge_look rd trip budget l r)
    look_in (ready bs) r never good =
        let o : Onto = entered r.visited r.met r.walk budget (span (length bs)) in
        let in_tile : WalkIn o.walk = entered_in r.visited r.met r.walk (span (length bs)) (walk_of r good) in
        either_run (goes_on o.walk.ending) _ _
        (driven_in o r.track (rd.found r.carried r.walk.way.tile) bs r.heights in_tile good.filled)
        (record { grid = in_tile.grid; need = in_tile.need; filled = good.filled })
    look_in missing r never good = ended_in r (Ending.Need r.walk.way.tile) good good.grid
    look_in absent r never good = ended_in r (Ending.Need r.walk.way.tile) good good.grid
    look_in stale r never good = ended_in r Ending.Stale good (never refl)

    walk_in : (r : Run S) → RunIn r → (edges : ℕ) → RunIn (walk_to rd trip budget r edges)
    unfolding walk_to
    walk_in r good edges =
        up_keeps (λ (x : Run S) (i : ℕ). edge_step rd trip budget x) r RunIn edges good
        (λ (i : ℕ) (below : i < edges) (x : Run S) (was : RunIn x).
        either_run (goes_on x.walk.ending) _ x (look_in (rd.at x.carried x.walk.way.tile) x (fresh x.carried x.walk.way.tile) was) was)

  -- ---- the road

  outcome_in : (a b : ℕ) (ending : Ending) (w : Walk) (t : Track) (behind : Behind) → NeedIn ending → t.mark.len ≤ a → behind.len ≤ b
      → Ends In Never a b (outcome_by ending w t behind)
  unfolding prediction
  outcome_in a b Ending.Going w t behind need p q = (p, q)
  outcome_in a b (Ending.Stops end) w t behind need p q = (p, q)
  outcome_in a b (Ending.Need key) w t behind need p q = need
  outcome_in a b Ending.Stale w t behind need p q = λ e. need

  module _ {S : Type 0} (rd : Reader S) (fresh : NotStale rd) (n a b : ℕ) (samples behind : List ℤ)
      (ahead_long : length samples ≡ a) (behind_long : length behind ≡ b) where
    either_road : (t : Bool) (x y : Forecast S) → Ends In Never a b x.answer → Ends In Never a b y.answer → Ends In Never a b (cond t x y).answer
    either_road true x y p q = p
    either_road false x y p q = q

    run_road : (trip : Trip) (checked : Checked trip.header) (r : Run S) (x : Behind) → RunIn rd fresh trip checked (budget n) a r → x.len ≤ b
        → Ends In Never a b (outcome r.walk r.track x)
    run_road trip checked r x good few = outcome_in a b r.walk.ending r.walk r.track x good.need good.filled.most few

    road_in : (trip : Trip) → Checked trip.header → (m : Matched) (forward : Bool) (s : S) (bs : List ℕ) → In m.tile.key
        → Ends In Never a b (road_over rd n trip m forward s bs samples behind).answer
    unfolding road_over walk_from track_from
    road_in trip checked m forward s bs is_in_grid =
        let first = pushed_fills a no_mark samples (whole 0) (pos 0) (record { most = omega arith; long = ahead_long }) in
        run_road trip checked _ _ (walk_in rd fresh trip checked (budget n) a _ (record { grid = is_in_grid; need = tt; filled = first }) 2000)
        (ridden_fits b trip _ bs _ m _ behind behind_long)

    look_road : (l : Look) → (l ≡ stale → Never) → (h : Header) → Checked h → (m : Matched) (forward : Bool) (horizon : Float) (s : S) → In m.tile.key
        → Ends In Never a b (start_look rd n l h m forward horizon s samples behind).answer
    look_road (ready bs) never h checked m forward horizon s is_in_grid =
        either_road (same_id (Layout.id_of bs) m.tile) _ _
        (either_road (start_ok bs m) _ _ (road_in (trip_of h m horizon) checked m forward _ bs is_in_grid) (λ e. absurd (omega (arith, e)))) tt
    look_road missing never h checked m forward horizon s is_in_grid = tt
    look_road absent never h checked m forward horizon s is_in_grid = is_in_grid
    look_road stale never h checked m forward horizon s is_in_grid = λ e. never refl

    directed_road : (forward : Option Bool) (h : Header) → Checked h → (m : Matched) (horizon : Float) (s : S) → In m.tile.key
        → Ends In Never a b (directed_over rd n forward h m horizon s samples behind).answer
    directed_road None h checked m horizon s is_in_grid = (omega arith, omega arith)
    directed_road (Some forward) h checked m horizon s is_in_grid =
        look_road (rd.at s m.tile.key) (fresh s m.tile.key) h checked m forward horizon s is_in_grid

    forecast_in : (h : Header) → Checked h → (m : Matched) (horizon : Float) (s : S) → In m.tile.key
        → Ends In Never a b (forecast_over rd n h m horizon s samples behind).answer
    unfolding forecast_over
    forecast_in h checked m horizon s is_in_grid = directed_road m.forward h checked m horizon s is_in_grid

-- ---- in the grid

abbrev InGrid : Header → TileKey → Type 0
InGrid h key = in_grid h key ≡ true

grid_origin : (h : Header) (k : TileKey) → InGrid h k → InGrid h no_choice.way.tile
grid_origin h k e = rw (lt-ltb 0 h.rows (omega (arith, row_below h k e)), lt-ltb 0 h.cols (omega (arith, col_below h k e)))

-- a needed key of the grid, or lengths of at most a ahead and b behind
abbrev pub RoadIn : Header → ℕ → ℕ → Result Outcome Refusal → Type 0
RoadIn h a b x = Ends (InGrid h) Unit a b x

module _ (at : TileKey → Look) (n : ℕ) (h : Header) (m : Matched) (horizon : Float) (samples behind : List ℤ)
    (is_in_grid : in_grid h m.tile.key ≡ true) (ahead_long : length samples ≡ 501) (behind_long : length behind ≡ 11) where
  pub predict_in : RoadIn h 501 11 (predict_over at n h m horizon samples behind).answer
  predict_in =
      forecast_in (InGrid h) Unit (grid_origin h) (plain at) (λ keys key e. tt) n 501 11 samples behind ahead_long behind_long
      h (λ row col key e. checked_in_grid h row col e) m horizon [] is_in_grid

  pub road_need : (key : TileKey) → (predict_over at n h m horizon samples behind).answer ≡ Ok (Outcome.Need key) → in_grid h key ≡ true
  road_need key e = subst (RoadIn h 501 11) e predict_in

  pub road_lengths : (p : Prediction) → (predict_over at n h m horizon samples behind).answer ≡ Ok (Outcome.Road p) → (p.len ≤ 501) × (p.behind ≤ 11)
  road_lengths p e = subst (RoadIn h 501 11) e predict_in

-- ---- with no stale lookup

-- wherever the start and the lookups are, and however long the arrays are
abbrev Anywhere : TileKey → Type 0
Anywhere key = Unit

pub road_not_stale : (at : TileKey → Look) → ((key : TileKey) → at key ≡ stale → ⊥)
    → (n : ℕ) (h : Header) (m : Matched) (horizon : Float) (samples behind : List ℤ)
    → (predict_over at n h m horizon samples behind).answer ≡ Err Refusal.BadState → ⊥
road_not_stale at never n h m horizon samples behind e =
    let ends : Ends Anywhere ⊥ (length samples) (length behind) (predict_over at n h m horizon samples behind).answer
    = forecast_in Anywhere ⊥ (λ key x. tt) (plain at) (λ keys key. never key) n (length samples) (length behind) samples behind refl refl
    h (λ row col key x. tt) m horizon [] tt in
    subst (Ends Anywhere ⊥ (length samples) (length behind)) e ends refl

-- ---- the tile of each edge

-- a road before its first edge
abbrev pub begun_of : {S : Type 0} → Matched → Leg → Point → S → List ℤ → Run S
begun_of m leg here s samples =
    let p = pushed no_mark samples (whole 0) (pos 0) in begun (walk_from m leg) (track_from here p.mark) s p.heights

-- of a road from a start in the grid, after each of its edges
pub road_grid : {S : Type 0} (rd : Reader S) (trip : Trip) (room : ℕ) (m : Matched) (leg : Leg) (here : Point) (s : S) (samples : List ℤ)
    → in_grid trip.header leg.key ≡ true → (n : ℕ)
    → in_grid trip.header (walk_to rd trip room (begun_of m leg here s samples) n).walk.way.tile ≡ true
unfolding walk_from track_from
road_grid rd trip room m leg here s samples is_in_grid n =
    let h : Header = trip.header in
    let filled = pushed_fills (length samples) no_mark samples (whole 0) (pos 0) (record { most = omega arith; long = refl }) in
    (walk_in (InGrid h) Unit (grid_origin h) rd (λ t key e. tt) trip (λ row col key e. checked_in_grid h row col e) room (length samples) _
    (record { grid = is_in_grid; need = tt; filled = filled }) n).grid
