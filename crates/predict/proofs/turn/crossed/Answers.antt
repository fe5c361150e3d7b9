-- `predict::turn::crossed` meets its contract: by the answers of the callees, one after the other.
use Prim.Native.Nat.{ℕ, ◌%◌}
use mathlib.Core.Path.{◌≡◌, ap, ◌∙◌}
use mathlib.Core.List.{List}
use lib.Ieee.{Float}
use Rattle.pack.specs.declared.Header.{Header}
use Rattle.tile.specs.Layout as Layout
use Rattle.tile.specs.declared.Head.{Head}
use Rattle.tile.specs.declared.Node.{Node}
use Rattle.predict.specs.declared.Choices.{Choices}
use Rattle.predict.specs.declared.cost.Bound.{Bound}
use Rattle.predict.specs.declared.outgoing.Leg.{Leg}
use Rattle.predict.specs.declared.twins.TwinList.{TwinList}
use Rattle.predict.specs.Choose.{no_choices}
use Rattle.predict.specs.Twins.{boundary_twins}
use Rattle.predict.specs.declared.Crossing.{Crossing}
use Rattle.predict.specs.Consider.{consider}
use Rattle.predict.specs.Cross.{crossing, cross}
use Rattle.predict.specs.declared.Walk.{Walk}
use Rattle.predict.specs.declared.Track.{Track}
use Rattle.predict.specs.Vertex.{track_of}
use Rattle.predict.specs.Walk.{Stride, turned, bound_of, incoming_of, node_of, crossed_over, onward, crossed}
use Rattle.predict.proofs.turn.crossed.Goals as goal

module _ (looks v arena : List ℕ) (h : Header) (w : Walk) (t : Track) (bs : List ℕ) (leg : Leg) where
  crossed_is : {head : Head} {incoming : Float} {d : Walk} {bound : Bound} {node : ℕ} {none choices : Choices} {at : Node} {twins : TwinList} {x : Crossing} {s : List ℕ}
      → head ≡ Layout.head_of bs
      → incoming ≡ incoming_of t w.approach head.lon_um
      → d ≡ turned w leg.edge incoming
      → bound ≡ bound_of d.entry incoming
      → node ≡ node_of leg
      → none ≡ no_choices
      → choices ≡ consider none (record { header = h; way = d.way; bound = bound; road = d.road }) v bs d.way.tile node
      → at ≡ Layout.node_of bs node
      → twins ≡ boundary_twins at.x at.y (h.tile % 65536)
      → x ≡ crossing (cross arena (record { header = h; way = d.way; bound = bound; road = d.road }) v looks choices twins)
      → s ≡ (cross arena (record { header = h; way = d.way; bound = bound; road = d.road }) v looks choices twins).carried
      → onward s arena h.tile d x ≡ crossed looks v arena h w t bs leg
  unfolding onward crossed_over crossed cross
  crossed_is heads comes turns binds nodes nones chosen stands twinned crosses carries =
      rw (crosses, carries, twinned, stands, chosen, nones, nodes, binds, turns, comes, heads)

pub returns : goal.returns
returns c =
    let args = c.args in
    let whole =
    crossed_is args.looks.now args.visited.now args.arena.now args.leg.header args.w
    (track_of args.t args.lats.now args.lons.now args.distances.now) args.bytes.now args.leg
    c.head-head.ensures
    c.incoming_of-incoming.ensures
    c.turned-d.ensures
    c.bound_of-bound.ensures
    c.node_of-node.ensures
    c.no_choices-none.ensures
    c.consider-choices.ensures
    c.node-at.ensures
    c.boundary_twins-twins.ensures
    c.cross-x.ensures.value
    c.cross-x.ensures.looks_after in
    record {
      value = c.onward.ensures.value ∙ ap (λ (x : Stride (List ℕ)). x.walk) whole;
      looks_after = c.onward.ensures.looks_after ∙ ap (λ (x : Stride (List ℕ)). x.carried) whole;
    }
