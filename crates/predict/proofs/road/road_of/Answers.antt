-- `predict::road::road_of` meets its contract: by the answers of its callees, in the definition's order (`road_is`), with the literal read as a
-- whole number.
use Prim.Native.Nat.{ℕ}
use mathlib.Core.Path.{◌≡◌, ◌∙◌}
use mathlib.Core.Bool.{Bool, not}
use mathlib.Core.List.{List}
use lib.IntN.{ℤ, pos}
use lib.Ieee.{Float}
use Rattle.tile.specs.Layout as Layout
use Rattle.tile.specs.declared.Edge.{Edge}
use Rattle.tile.specs.declared.Head.{Head}
use Rattle.geo.specs.declared.Point.{Point}
use Rattle.geo.specs.Flat.{whole as whole_of}
use Rattle.geo.proofs.Literals.{literal_0}
use Rattle.matcher.specs.declared.Matched.{Matched}
use Rattle.predict.specs.declared.Followed.{Followed}
use Rattle.predict.specs.declared.Mark.{Mark}
use Rattle.predict.specs.declared.Track.{Track}
use Rattle.predict.specs.declared.Trip.{Trip}
use Rattle.predict.specs.declared.Walk.{Walk}
use Rattle.predict.specs.declared.outgoing.Leg.{Leg}
use Rattle.predict.specs.declared.ridden.Behind.{Behind}
use Rattle.predict.specs.Samples.{pushed}
use Rattle.predict.specs.Start.{place}
use Rattle.predict.specs.Ridden as Ridden
use Rattle.predict.specs.Visits.{nothing_visited}
use Rattle.predict.specs.Meets.{nothing_met, budget}
use Rattle.predict.specs.Walk.{follow, followed}
use Rattle.predict.specs.Predict.{leg_of, no_mark, track_from, walk_from, outcome, road_over, road_of}
use Rattle.predict.proofs.road.road_of.Goals as goal

module _ (looks arena : List ℕ) (n : ℕ) (trip : Trip) (m : Matched) (forward : Bool) (bs : List ℕ) (samples behind : List ℤ) where
  road_is : {head : Head} {edge : Edge} {here : Point} {back leg : Leg} {b : Behind} {back_heights heights : List ℤ} {none mark : Mark} {zero : Float} {w : Walk}
      {t : Track} {room : ℕ} {f : Followed} {looks_left : List ℕ} {all : List ℤ}
      → head ≡ Layout.head_of bs
      → edge ≡ Layout.edge_of bs m.edge
      → here ≡ place trip.header bs edge m
      → back ≡ leg_of trip.header m edge (not forward)
      → b ≡ (Ridden.ridden trip back bs head.lon_um m here behind).behind
      → back_heights ≡ (Ridden.ridden trip back bs head.lon_um m here behind).heights
      → none ≡ no_mark
      → zero ≡ whole_of 0
      → mark ≡ (pushed none samples zero (pos 0)).mark
      → heights ≡ (pushed none samples zero (pos 0)).heights
      → leg ≡ leg_of trip.header m edge forward
      → w ≡ walk_from m leg
      → t ≡ track_from here mark
      → room ≡ budget n
      → f ≡ followed (follow looks nothing_visited nothing_met arena trip room w t heights)
      → looks_left ≡ (follow looks nothing_visited nothing_met arena trip room w t heights).carried
      → all ≡ (follow looks nothing_visited nothing_met arena trip room w t heights).heights
      → (outcome f.walk f.track b ≡ (road_of looks arena n trip m forward bs samples behind).answer)
      × ((looks_left ≡ (road_of looks arena n trip m forward bs samples behind).carried)
      × ((all ≡ (road_of looks arena n trip m forward bs samples behind).samples)
      × (back_heights ≡ (road_of looks arena n trip m forward bs samples behind).behind)))
  unfolding road_of road_over follow
  road_is heads edges places backs rides written nones zeros marks fills legs walks tracks rooms follows leaves ends = (
    rw (follows, rides, rooms, tracks, walks, legs, fills, marks, zeros, nones, backs, places, edges, heads),
    (
      rw (leaves, rooms, tracks, walks, legs, fills, marks, zeros, nones, places, edges),
      (rw (ends, rooms, tracks, walks, legs, fills, marks, zeros, nones, places, edges), rw (written, backs, places, edges, heads)),
    ),
  )

pub returns : goal.returns
returns c =
    let args = c.args in
    let walked = c.follow-f in
    let pushed = c.push_on-mark in
    let ridden = c.ridden-b in
    let whole =
    road_is args.looks.now args.arena.now args.pages args.trip args.start args.forward args.bytes.now args.samples.now
    args.behind.now c.head-head.ensures c.edge-edge.ensures c.place-here.ensures c.leg_of-back.ensures ridden.ensures.value ridden.ensures.heights_after
    c.no_mark-none.ensures literal_0 pushed.ensures.value pushed.ensures.heights_after c.leg_of-leg.ensures c.walk_from-w.ensures c.track_from-t.ensures
    c.budget.ensures walked.ensures.value walked.ensures.looks_after walked.ensures.heights_after in
    record {
      value = c.outcome.ensures ∙ whole.0;
      looks_after = whole.1.0;
      samples_after = whole.1.1.0;
      behind_after = whole.1.1.1;
    }
