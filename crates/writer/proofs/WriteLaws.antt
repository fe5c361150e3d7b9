-- The writer's answers by their tests: 13, 14 for a total past 32 bits or past the output, and a pack written; that the count of tiles fits 32 bits.
use Prim.Native.Nat.{ℕ, suc, ◌+◌, ◌≤◌, ◌<◌}
use mathlib.Core.Path.{◌≡◌, refl}
use mathlib.Core.Bool.{true, false}
use mathlib.Core.List.{List, [], ◌∷◌, ◌++◌}
use native.Mathlib.Omega.{arith}
use lib.Dec.{leb}
use lib.ListN.{length, drop, get_or}
use borrow.Author.Tests.{le-leb, lt-leb, leb-true}
use Rattle.tile.specs.Parse.{accepts, clauses}
use Rattle.tile.proofs.Laws.{clause}
use Rattle.std.specs.Prelude.{Ok, Err}
use Rattle.refusal.specs.declared.Refusal.{Refusal}
use Rattle.writer.specs.PackWritten.{GivenPack, sum_of, total, key_in, tile_rules, pack_good, pack_bytes, pack}
use Rattle.writer.specs.PackSteps.{numbered}
use Rattle.pack.proofs.Laws.{and_not}
use Rattle.writer.proofs.PlaceLaws.{rule, sum_is, good_at, full}

module _ (g : GivenPack) (out : List ℕ) where
  pub refused_13 : pack_good g ≡ false → pack g out ≡ record { answer = Err Refusal.BadValue; out = out }
  unfolding pack
  refused_13 e = rw e

  module _ (good : pack_good g ≡ true) where
    pub over_14 : 0xffff_ffff < total g → pack g out ≡ record { answer = Err Refusal.NoRoom; out = out }
    unfolding pack
    over_14 h = rw (good, lt-leb (total g) 0xffff_ffff h)

    pub short_14 : length out < total g → pack g out ≡ record { answer = Err Refusal.NoRoom; out = out }
    unfolding pack
    short_14 h = rw (good, and_not (leb (total g) 0xffff_ffff) (leb (total g) (length out)) (lt-leb (total g) (length out) h))

    pub written : (n : ℕ) (new : List ℕ) → n ≡ total g → n ≤ 0xffff_ffff → n ≤ length out → new ≡ pack_bytes g
        → pack g out ≡ record { answer = Ok n; out = new ++ drop n out }
    unfolding pack
    written n new e h k b =
        let small : total g ≤ 0xffff_ffff = omega arith in
        let fits : total g ≤ length out = omega arith in
        rw (good, le-leb (total g) 0xffff_ffff small, le-leb (total g) (length out) fits, e, b)

-- ---- the count of tiles

counted : (ns : List ℕ) → ((i : ℕ) → i < length ns → 1 ≤ get_or ns i 0) → length ns ≤ sum_of ns
unfolding sum_of
counted [] e = omega arith
counted (n ∷ ns) e = omega (arith, e 0 (omega arith), counted ns (λ i h. e (suc i) (omega arith)))

module _ (g : GivenPack) (good : pack_good g ≡ true) where
  pub tile_long : (i : ℕ) → i < length g.lengths → 32 ≤ length (numbered g.lengths g.tiles i)
  unfolding accepts
  tile_long i h =
      leb-true 32 _ (clause 0 (clauses (numbered g.lengths g.tiles i) (key_in (numbered g.lengths g.tiles i)) g.size)
      (clause 1 (tile_rules g (numbered g.lengths g.tiles i)) (good_at g g.lengths g.tiles i h (rule g good 2))))

  pub count_fits : length g.lengths ≤ length g.tiles
  count_fits = omega (arith, counted g.lengths (λ i h. omega (arith, tile_long i h, full g good i (i + 1) refl h)), sum_is g good)
