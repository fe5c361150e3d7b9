-- The ways on that one tile has at a node: `predict.rs`, `consider`: "Wrong-way oneways and the road just ridden are not candidates", nor an
-- edge that was followed before. Adjacency entries aren't checked to touch their node.
use Rattle.std.specs.Prelude.{ℕ, ◌+◌, ◌-◌, Bool, ◌&&◌, not, cond, List, eqb}
use Rattle.num.specs.Fold.{up_to}
use Rattle.pack.specs.declared.TileKey.{TileKey}
use Rattle.tile.specs.Layout as Layout
use Rattle.tile.specs.declared.Incident.{Incident}
use Rattle.cache.specs.Keys.{same_key}
use Rattle.predict.specs.declared.Choice.{Choice}
use Rattle.predict.specs.declared.Choices.{Choices}
use Rattle.predict.specs.declared.outgoing.Leg.{Leg}
use Rattle.predict.specs.Choose.{push}
use Rattle.predict.specs.Cost.{has_flag, cost_of}
use Rattle.predict.specs.Outgoing.{outgoing_of}
use Rattle.predict.specs.declared.Arrival.{Arrival}
use Rattle.predict.specs.Visits.{was_visited}

-- the edge from the node: an edge that ends there is followed against its direction
abbrev pub leg_of : Arrival → List ℕ → TileKey → Incident → Leg
leg_of a bs key entry = record { header = a.header; key = key; edge = Layout.edge_of bs entry.edge; forward = not entry.ends }

unfoldable pub choice_of : Arrival → List ℕ → TileKey → Incident → Choice
choice_of a bs key entry = record {
  way = record { tile = key; edge = entry.edge; forward = not entry.ends };
  cost = cost_of a.bound a.road (outgoing_of (leg_of a bs key entry) bs (Layout.head_of bs).lon_um) (Layout.edge_of bs entry.edge);
}

-- ONEWAY is 1
unfoldable pub is_way_on : Arrival → List ℕ → List ℕ → TileKey → Incident → Bool
is_way_on a v bs key entry =
    not (eqb entry.edge a.way.edge && same_key key a.way.tile)
    && (not (entry.ends && has_flag (Layout.edge_of bs entry.edge).flags 1) && not (was_visited v key entry.edge))

unfoldable pub consider_step : Choices → Arrival → List ℕ → List ℕ → TileKey → Incident → Choices
consider_step c a v bs key entry = cond (is_way_on a v bs key entry) (push c (choice_of a bs key entry)) c

-- the first n entries of the node
unfoldable pub consider_to : Choices → Arrival → List ℕ → List ℕ → TileKey → ℕ → ℕ → Choices
consider_to c a v bs key node n =
    up_to (λ (d : Choices) (i : ℕ). consider_step d a v bs key (Layout.entry_of bs (Layout.adjacency_start bs node + i))) c n

-- all of them: where starts fall there are none
unfoldable pub consider : Choices → Arrival → List ℕ → List ℕ → TileKey → ℕ → Choices
consider c a v bs key node = consider_to c a v bs key node (Layout.adjacency_end bs node - Layout.adjacency_start bs node)
