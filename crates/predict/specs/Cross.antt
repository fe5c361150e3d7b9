-- The ways on from every tile that shares the junction's node: `predict.rs`, `predict`, the loop over `boundary_twins`. A tile outside the grid
-- or missing blocks the road; one that is not loaded ends it with its key, and one that no longer passes with 12. `cross_over` is written over
-- any reader.
use Rattle.refusal.specs.declared.Refusal.{Refusal}
use Rattle.std.specs.Prelude.{Result, Option, Some, None, ℕ, Bool, true, false, cond, List, ltb, pos, ◌+ℤ◌, get_or}
use Rattle.num.specs.Fold.{up_to}
use Rattle.pack.specs.Grid.{checked_of}
use Rattle.pack.specs.declared.TileKey.{TileKey}
use Rattle.tile.specs.Readers.{node_at}
use Rattle.cache.specs.Direct.{Look, ready, missing, absent, stale}
use Rattle.cache.specs.declared.Lookup.{Lookup}
use Rattle.cache.specs.Reader.{Reader, in_bytes, in_looks}
use Rattle.predict.specs.declared.Choices.{Choices}
use Rattle.predict.specs.declared.twins.Twin.{Twin}
use Rattle.predict.specs.declared.twins.TwinList.{TwinList}
use Rattle.predict.specs.Twins.{no_twin}
use Rattle.predict.specs.declared.Arrival.{Arrival}
use Rattle.predict.specs.declared.Crossing.{Crossing}
use Rattle.predict.specs.declared.Ending.{Ending}
use Rattle.predict.specs.Consider.{consider}

-- the ways on so far, whether one may lie off the map, how the lookups ended, and what they carry
pub record Ways (S : Type 0) : Type 0 where
  pub choices : Choices
  pub blocked : Bool
  pub ending : Ending
  pub carried : S

abbrev pub consider_by : Option ℕ → Choices → Arrival → List ℕ → List ℕ → TileKey → Choices
consider_by (Some node) c a v bs key = consider c a v bs key node
consider_by None c a v bs key = c

-- the tile's own node at the same point, if it has one
abbrev pub consider_at : Choices → Arrival → List ℕ → List ℕ → TileKey → Twin → Choices
consider_at c a v bs key twin = consider_by (node_at bs twin.x twin.y) c a v bs key

abbrev pub block : {S : Type 0} → Ways S → Ways S
block x = record { choices = x.choices; blocked = true; ending = x.ending; carried = x.carried }

abbrev pub ended : {S : Type 0} → Ways S → Ending → Ways S
ended x ending = record { choices = x.choices; blocked = x.blocked; ending = ending; carried = x.carried }

module _ {S : Type 0} (rd : Reader S) (a : Arrival) (v : List ℕ) where
  abbrev pub twin_look : Look → Ways S → TileKey → Twin → Ways S
  twin_look (ready bs) x key twin = record {
    choices = consider_at x.choices a v bs key twin;
    blocked = x.blocked;
    ending = x.ending;
    carried = rd.found x.carried key;
  }
  twin_look missing x key twin = block x
  twin_look absent x key twin = ended x (Ending.Need key)
  twin_look stale x key twin = ended x Ending.Stale

  abbrev pub twin_key : Option TileKey → Ways S → Twin → Ways S
  twin_key (Some key) x twin = twin_look (rd.at x.carried key) x key twin
  twin_key None x twin = block x

  -- the tile a twin stands in, by its step in rows and columns
  abbrev pub twin_over : Ways S → Twin → Ways S
  twin_over x twin = twin_key (checked_of a.header (pos a.way.tile.row +ℤ twin.row) (pos a.way.tile.col +ℤ twin.col)) x twin

  -- nothing more once the lookups ended
  abbrev pub going_over : Ending → Ways S → Twin → Ways S
  going_over Ending.Going x twin = twin_over x twin
  going_over (Ending.Stops end) x twin = x
  going_over (Ending.Need key) x twin = x
  going_over Ending.Stale x twin = x

  -- number i of the n that there are
  abbrev pub step_over : Ways S → Twin → ℕ → ℕ → Ways S
  step_over x twin i n = cond (ltb i n) (going_over x.ending x twin) x

  unfoldable pub cross_to : Ways S → TwinList → ℕ → Ways S
  cross_to x twins n = up_to (λ (y : Ways S) (i : ℕ). step_over y (get_or twins.v i no_twin) i twins.len) x n

  abbrev pub cross_over : S → Choices → TwinList → Ways S
  cross_over s choices twins = cross_to (record { choices = choices; blocked = false; ending = Ending.Going; carried = s }) twins 8

-- ---- the code's

abbrev pub crossing : Ways (List ℕ) → Crossing
crossing x = record { choices = x.choices; blocked = x.blocked; ending = x.ending }

abbrev pub ways_of : Crossing → List ℕ → Ways (List ℕ)
ways_of x s = record { choices = x.choices; blocked = x.blocked; ending = x.ending; carried = s }

abbrev pub ended_by : Crossing → Ending → Crossing
ended_by x ending = record { choices = x.choices; blocked = x.blocked; ending = ending }

-- by the answer of a lookup: what `twin_look` gives, but for what is carried
abbrev pub found_by : Look → Crossing → Arrival → List ℕ → TileKey → Twin → Crossing
found_by (ready bs) x a v key twin = record { choices = consider_at x.choices a v bs key twin; blocked = x.blocked; ending = x.ending }
found_by missing x a v key twin = record { choices = x.choices; blocked = true; ending = x.ending }
found_by absent x a v key twin = ended_by x (Ending.Need key)
found_by stale x a v key twin = ended_by x Ending.Stale

abbrev pub twin_found : Crossing → Result Lookup Refusal → List ℕ → Arrival → List ℕ → TileKey → Twin → Crossing
twin_found x answer arena a v key twin = found_by (in_bytes answer arena) x a v key twin

module _ (x : Crossing) (arena : List ℕ) (a : Arrival) (v : List ℕ) (s : List ℕ) (twin : Twin) where
  unfoldable pub twin_step : Ways (List ℕ)
  twin_step = twin_over (in_looks arena a.header.tile) a v (ways_of x s) twin

  unfoldable pub cross_step : ℕ → ℕ → Ways (List ℕ)
  cross_step i n = step_over (in_looks arena a.header.tile) a v (ways_of x s) twin i n

unfoldable pub cross : List ℕ → Arrival → List ℕ → List ℕ → Choices → TwinList → Ways (List ℕ)
cross arena a v s choices twins = cross_over (in_looks arena a.header.tile) a v s choices twins
