-- `matcher::search` meets its contract. The loop's invariant: the candidates kept so far are the definition's after as many turns, in eight places. An
-- edge out of reach adds nothing (`skips`), and neither does one that is too dear.
use Rattle.std.specs.Prelude.{Some, None}
use Prim.Native.Nat.{ℕ}
use mathlib.Core.Path.{◌≡◌, sym, ap, ◌∙◌}
use mathlib.Core.List.{List}
use native.Mathlib.Omega.{arith}
use lib.ListN.{length-set}
use Rattle.tile.specs.Layout as Layout
use Rattle.tile.specs.declared.TileId.{TileId}
use Rattle.matcher.specs.declared.Kept.{Kept}
use Rattle.matcher.specs.declared.Nearest.{Nearest}
use Rattle.matcher.specs.declared.Query.{Query}
use Rattle.matcher.specs.Scan.{scan}
use Rattle.matcher.specs.Keeping.{insert}
use Rattle.matcher.specs.Tile as Tile
use Rattle.num.proofs.FoldLaws.{up_start, up_turn}
use Rattle.matcher.proofs.PlaceLaws.{insert-written, insert_dropped}
use Rattle.matcher.proofs.search.Goals as goal

module _ (k : Kept) (q : Query) (id : TileId) (lon_um : ℕ) (bs : List ℕ) (number : ℕ) where
  skips : scan q.header bs id.key (Layout.edge_of bs number) q.fix lon_um ≡ None → Tile.edge_step k q id lon_um bs number ≡ k
  unfolding Tile.edge_step
  skips e = rw e

  keeps : (n : Nearest) → scan q.header bs id.key (Layout.edge_of bs number) q.fix lon_um ≡ Some n
      → Tile.edge_step k q id lon_um bs number ≡ Tile.kept_with (Some n) k q id lon_um bs number
  unfolding Tile.edge_step
  keeps n e = rw e

pub loop-number-init : goal.loop-number-init
loop-number-init c =
    let v = c.args.k.v in
    (c.well_formed.0.1.1.0.1.0.1, sym (up_start _ _))

pub loop-number-preserved-in_default : goal.loop-number-preserved-in_default
loop-number-preserved-in_default c =
    let at_loop = c.loop-number in
    let id = c.id-id.result in
    let head = c.head-head.result in
    let args = c.args in
    let told = sym c.reached.ensures ∙ c.in_default.is in (
      at_loop.invariant.0,
      rw (up_turn, ← at_loop.invariant.1, skips at_loop.d args.q id head.lon_um args.bytes.now at_loop.number told),
    )

pub loop-number-preserved-then-place-ge8 : goal.loop-number-preserved-then-place-ge8
loop-number-preserved-then-place-ge8 c =
    let at_loop = c.loop-number in
    let id = c.id-id.result in
    let head = c.head-head.result in
    let args = c.args in
    let told = sym c.reached.ensures ∙ c.in-Some.is in (
      at_loop.invariant.0,
      rw (up_turn, ← at_loop.invariant.1, keeps at_loop.d args.q id head.lon_um args.bytes.now at_loop.number _ told)
          (insert_dropped at_loop.d c.candidate_at-c.result at_loop.invariant.0 (rw c.place_of-place.ensures at c.if-place-ge8.true)
          ∙ ap (insert at_loop.d) c.candidate_at-c.ensures),
    )

pub loop-number-preserved : goal.loop-number-preserved
loop-number-preserved c =
    let place = c.place_of-place in
    let at_loop = c.loop-number in
    let id = c.id-id.result in
    let head = c.head-head.result in
    let args = c.args in
    let told = sym c.reached.ensures ∙ c.in-Some.is in (
      length-set at_loop.d.v place.result c.candidate_at-c.result ∙ at_loop.invariant.0,
      rw (
        up_turn,
        ← at_loop.invariant.1,
        keeps at_loop.d args.q id head.lon_um args.bytes.now at_loop.number _ told,
        c.len_after.ensures,
        place.ensures,
      )
          (insert-written at_loop.d c.candidate_at-c.result at_loop.invariant.0 (rw place.ensures at c.if-place-ge8.false)
          ∙ ap (insert at_loop.d) c.candidate_at-c.ensures),
    )

pub returns : goal.returns
unfolding Tile.search
returns c =
    let at_loop = c.loop-number in
    let end : at_loop.number ≡ c.head-head.result.edges = omega arith in
    rw (at_loop.invariant.1, end, c.id-id.ensures, c.head-head.ensures)
