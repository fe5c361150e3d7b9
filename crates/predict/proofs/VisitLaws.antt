-- The edges followed last. `was_visited` looks at the places that are taken alone, and answers as a look at all 128 does, which is the Rust's
-- `visited.contains`: a place that isn't taken holds 0, which is no edge + 1 (`Taken`). So it is at the start (`taken_nothing`), `visit` leaves it
-- so (`taken_visit`), and so it is after any edges of a road, over whatever the tiles are read from (`visited_all`).
use Rattle.std.specs.Prelude.{is_some}
use Prim.Native.Nat.{ℕ, ◌+◌, ◌<◌, ◌≤◌, ◌%◌, max}
use mathlib.Core.Path.{◌≡◌, sym, ap, ◌∙◌}
use mathlib.Core.Bool.{Bool, true, false, ◌&&◌, cond}
use mathlib.Core.List.{List}
use mathlib.Core.Logic.{⊎_elim}
use native.Mathlib.Omega.{arith}
use borrow.Author.Tests.{lt-ltb, le-ltb, ne_eqb}
use lib.Dec.{ltb}
use lib.IntN.{ℤ}
use lib.ListN.{length, get_or, set, length-set, length-replicate, get_or-replicate}
use lib.Seq.{get_or-set_same, get_or-set_other}
use Rattle.num.proofs.FoldLaws.{up_keeps}
use Rattle.pack.specs.declared.TileKey.{TileKey}
use Rattle.cache.specs.Direct.{Look, ready, missing, absent, stale}
use Rattle.cache.specs.Reader.{Reader}
use Rattle.cache.specs.Runs.{span}
use Rattle.cache.specs.Search.{lowest}
use Rattle.cache.proofs.Below.{below_or}
use Rattle.cache.proofs.SearchLaws.{lowest_same, lowest_end}
use Rattle.predict.specs.declared.Track.{Track}
use Rattle.predict.specs.declared.Trip.{Trip}
use Rattle.predict.specs.declared.Walk.{Walk}
use Rattle.predict.specs.Meets.{meet}
use Rattle.predict.specs.Visits.{nothing_visited, visit, is_followed, was_visited}
use Rattle.predict.specs.Walk.{Onto, Run, entered, enter_look, along, begun, driven, edge_look, goes_on, edge_step, walk_to}

-- at most all the places are taken, and each one from the taken ones on holds 0
pub record Taken (d : List ℕ) : Type 0 where
  pub long : length d ≡ 386
  pub few : get_or d 385 0 ≤ 128
  pub rest : (i : ℕ) → get_or d 385 0 ≤ i → i < 128 → get_or d i 0 ≡ 0

pub taken_nothing : Taken nothing_visited
taken_nothing = record {
  long = length-replicate {A = ℕ} 386 0;
  few = omega (arith, get_or-replicate {A = ℕ} 386 385 0 0 (omega arith));
  rest = λ (i : ℕ) (past : get_or nothing_visited 385 0 ≤ i) (h : i < 128). get_or-replicate {A = ℕ} 386 i 0 0 (omega (arith, h));
}

-- ---- one edge more

module _ (d : List ℕ) (key : TileKey) (edge : ℕ) where
  abbrev place : ℕ
  place = get_or d 384 0 % 128

  -- after each of its stores but the last
  abbrev one : List ℕ
  one = set d place (edge + 1)

  abbrev two : List ℕ
  two = set one (128 + place) key.row

  abbrev three : List ℕ
  three = set two (256 + place) key.col

  abbrev four : List ℕ
  four = set three 384 ((place + 1) % 128)

  four_long : length four ≡ length d
  four_long =
      length-set three 384 ((place + 1) % 128)
      ∙ (length-set two (256 + place) key.col ∙ (length-set one (128 + place) key.row ∙ length-set d place (edge + 1)))

  count_after : length d ≡ 386 → get_or (visit d key edge) 385 0 ≡ max (get_or d 385 0) (place + 1)
  unfolding visit
  count_after long = get_or-set_same four 385 (max (get_or d 385 0) (place + 1)) 0 (omega (arith, long, four_long))

  count_kept : get_or four 385 0 ≡ get_or d 385 0
  count_kept =
      get_or-set_other three 384 385 ((place + 1) % 128) 0 (λ (e : 385 ≡ 384). omega (arith, e))
      ∙ (
      get_or-set_other two (256 + place) 385 key.col 0 (λ (e : 385 ≡ 256 + place). omega (arith, e))
      ∙ (
      get_or-set_other one (128 + place) 385 key.row 0 (λ (e : 385 ≡ 128 + place). omega (arith, e))
      ∙ get_or-set_other d place 385 (edge + 1) 0 (λ (e : 385 ≡ place). omega (arith, e))
      )
      )

  -- the code reads how many are taken after its other stores
  pub visit_stores : set four 385 (max (get_or four 385 0) (place + 1)) ≡ visit d key edge
  unfolding visit
  visit_stores = ap (λ (n : ℕ). set four 385 (max n (place + 1))) count_kept

  place_kept : (i : ℕ) → i < 128 → place < i → get_or (visit d key edge) i 0 ≡ get_or d i 0
  unfolding visit
  place_kept i h past =
      get_or-set_other four 385 i (max (get_or d 385 0) (place + 1)) 0 (λ (e : i ≡ 385). omega (arith, e, h))
      ∙ (
      get_or-set_other three 384 i ((place + 1) % 128) 0 (λ (e : i ≡ 384). omega (arith, e, h))
      ∙ (
      get_or-set_other two (256 + place) i key.col 0 (λ (e : i ≡ 256 + place). omega (arith, e, h))
      ∙ (
      get_or-set_other one (128 + place) i key.row 0 (λ (e : i ≡ 128 + place). omega (arith, e, h))
      ∙ get_or-set_other d place i (edge + 1) 0 (λ (e : i ≡ place). omega (arith, e, past))
      )
      )
      )

  visit_long : length (visit d key edge) ≡ length d
  unfolding visit
  visit_long = length-set four 385 (max (get_or d 385 0) (place + 1)) ∙ four_long

  pub taken_visit : Taken d → Taken (visit d key edge)
  taken_visit t =
      let count = count_after t.long in record {
        long = visit_long ∙ t.long;
        few = omega (arith, count, t.few);
        rest = λ (i : ℕ) (past : get_or (visit d key edge) 385 0 ≤ i) (h : i < 128).
            place_kept i h (omega (arith, past, count)) ∙ t.rest i (omega (arith, past, count)) h;
      }

-- ---- a look at the places taken

module _ (d : List ℕ) (key : TileKey) (edge : ℕ) (t : Taken d) where
  abbrev stands_at : ℕ → Bool
  stands_at i = ltb i 128 && is_followed d i key edge

  none_past : (i : ℕ) → get_or d 385 0 ≤ i → stands_at i ≡ false
  none_past i past =
      ⊎_elim
      (λ (h : i < 128). rw (lt-ltb i 128 h, ne_eqb (get_or d i 0) (edge + 1) (λ (e : get_or d i 0 ≡ edge + 1). omega (arith, e, t.rest i past h))))
      (λ (h : 128 ≤ i). rw (le-ltb i 128 h))
      (below_or i 128)

  taken_all : was_visited d key edge ≡ is_some (lowest (λ (i : ℕ). is_followed d i key edge) 128)
  unfolding was_visited
  taken_all =
      ap is_some
      (sym (lowest_end stands_at (get_or d 385 0) 128 t.few none_past)
      ∙ lowest_same stands_at (λ (i : ℕ). is_followed d i key edge) 128 (λ (i : ℕ) (h : i < 128). rw (lt-ltb i 128 h)))

-- ---- over the edges of a road

of_either : {A : Type 0} (P : A → Type 0) (t : Bool) {x y : A} → P x → P y → P (cond t x y)
of_either P true a b = a
of_either P false a b = b

module _ {S : Type 0} (rd : Reader S) (trip : Trip) (budget : ℕ) where
  abbrev TakenRun : Run S → Type 0
  TakenRun r = Taken r.visited

  taken_entered : (v m : List ℕ) (w : Walk) (pages : ℕ) → Taken v → Taken (entered v m w budget pages).visited
  taken_entered v m w pages t =
      of_either (λ (o : Onto). Taken o.visited) (meet m budget w.way.tile pages).fits (taken_visit v w.way.tile w.way.edge t) t

  -- along an edge and over its junction no edge more counts as followed
  taken_driven : (o : Onto) (t : Track) (s : S) (bs : List ℕ) (hs : List ℤ) → Taken o.visited → TakenRun (driven rd trip budget o t s bs hs)
  taken_driven o t s bs hs h = of_either TakenRun (along trip o.walk t bs hs).track.over h h

  taken_look : (k : Look) (r : Run S) → TakenRun r → TakenRun (edge_look rd trip budget k r)
  taken_look (ready bs) r h =
      let o = enter_look (ready bs) r.visited r.met r.walk budget in
      let onto : Taken o.visited = taken_entered r.visited r.met r.walk (span (length bs)) h in
      of_either TakenRun (goes_on o.walk.ending) (taken_driven o r.track (rd.found r.carried r.walk.way.tile) bs r.heights onto) onto
  taken_look missing r h = h
  taken_look absent r h = h
  taken_look stale r h = h

  taken_step : (r : Run S) → TakenRun r → TakenRun (edge_step rd trip budget r)
  taken_step r h =
      of_either TakenRun (goes_on r.walk.ending) (taken_look (rd.at r.carried r.walk.way.tile) r h) h

  -- the numbers after the first n edges are those that the junction of the last of them is crossed with
  module _ (w : Walk) (t : Track) (s : S) (hs : List ℤ) (n : ℕ) where
    abbrev road : Run S
    road = walk_to rd trip budget (begun w t s hs) n

    taken_road : TakenRun road
    unfolding walk_to
    taken_road =
        up_keeps (λ (x : Run S) (i : ℕ). edge_step rd trip budget x) (begun w t s hs) TakenRun n taken_nothing (λ (i : ℕ) (h : i < n). taken_step)

    pub visited_all : (key : TileKey) (edge : ℕ)
        → was_visited road.visited key edge ≡ is_some (lowest (λ (i : ℕ). is_followed road.visited i key edge) 128)
    visited_all key edge = taken_all road.visited key edge taken_road
