-- `predict::cross::twin_step` meets its contract: each return by where the tile lies; what its lookup gives and leaves is what the reader
-- gives and carries.
use Rattle.refusal.specs.declared.Refusal.{Refusal}
use Prim.Native.Nat.{ℕ}
use mathlib.Core.Path.{◌≡◌, refl, sym, ◌∙◌}
use mathlib.Core.List.{List}
use lib.IntN.{pos, ◌+ℤ◌}
use Rattle.std.specs.Prelude.{Result, Some}
use Rattle.pack.specs.Grid.{checked_of}
use Rattle.pack.specs.declared.TileKey.{TileKey}
use Rattle.cache.specs.Direct.{Look, ready, missing, absent, stale}
use Rattle.cache.specs.declared.Lookup.{Lookup}
use Rattle.cache.specs.Ages.{look_up}
use Rattle.cache.specs.Reader.{Reader, in_looks}
use Rattle.predict.specs.declared.twins.Twin.{Twin}
use Rattle.predict.specs.declared.Arrival.{Arrival}
use Rattle.predict.specs.declared.Crossing.{Crossing}
use Rattle.predict.specs.Cross.{found_by, ways_of, crossing, twin_look, twin_found, twin_step}
use Rattle.predict.specs.Walk.{carried_by}
use Rattle.predict.proofs.Looks.{look_carried}
use Rattle.predict.proofs.cross.twin_step.Goals as goal

-- the ways on are those of the reader, and carried is what any look carries
module _ (rd : Reader (List ℕ)) (x : Crossing) (a : Arrival) (v s : List ℕ) (key : TileKey) (twin : Twin) where
  look_same : (look : Look) → found_by look x a v key twin ≡ crossing (twin_look rd a v look (ways_of x s) key twin)
  look_same (ready bs) = refl
  look_same missing = refl
  look_same absent = refl
  look_same stale = refl

  look_leaves : (look : Look) → carried_by look rd s key ≡ (twin_look rd a v look (ways_of x s) key twin).carried
  look_leaves (ready bs) = refl
  look_leaves missing = refl
  look_leaves absent = refl
  look_leaves stale = refl

-- the tile in the grid, and what its lookup gives and leaves
module _ (x : Crossing) (arena : List ℕ) (a : Arrival) (v s : List ℕ) (twin : Twin) (key : TileKey)
    (g : Some key ≡ checked_of a.header (pos a.way.tile.row +ℤ twin.row) (pos a.way.tile.col +ℤ twin.col)) where
  found_is : {r : Crossing} {answer : Result Lookup Refusal} → r ≡ twin_found x answer arena a v key twin → answer ≡ (look_up s arena a.header.tile key).answer
      → r ≡ crossing (twin_step x arena a v s twin)
  unfolding twin_step
  found_is e f = rw (e, f, ← g) (look_same (in_looks arena a.header.tile) x a v s key twin ((in_looks arena a.header.tile).at s key))

  left_is : {t : List ℕ} → t ≡ (look_up s arena a.header.tile key).looks → t ≡ (twin_step x arena a v s twin).carried
  unfolding twin_step
  left_is e =
      let rd = in_looks arena a.header.tile in
      rw (e, ← g) (sym (look_carried s arena a.header.tile key) ∙ look_leaves rd x a v s key twin (rd.at s key))

pub returns-in-Some : goal.returns-in-Some
returns-in-Some c =
    let args = c.args in
    let key = c.in-Some.key in
    let inside = sym c.in-Some.is ∙ c.key_of.ensures in
    record {
      value = found_is args.x args.arena.now args.a args.visited.now args.looks.now args.twin key inside c.twin_found.ensures
          c.look_up-answer.ensures.value;
      looks_after = left_is args.x args.arena.now args.a args.visited.now args.looks.now args.twin key inside c.look_up-answer.ensures.looks_after;
    }

pub returns-in-None : goal.returns-in-None
unfolding twin_step
returns-in-None c = let outside = sym c.key_of.ensures ∙ c.in-None.is in
    record {
      value = rw outside;
      looks_after = rw outside;
    }
