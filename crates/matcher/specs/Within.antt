-- What the caller of a match may rely on: the match lies within the tile that it was found in, so that number 10 never refuses it as a start
-- (document 01: "start's edge or segment outside the tile, fraction outside 0 to 1 or not a number, height beyond ±1,000,000").
use Rattle.std.specs.Prelude.{ℕ, ◌<◌, ◌≤◌, ◌≡◌, true, List, pos, negsuc}
use Rattle.std.specs.Float.Ieee.{le}
use Rattle.std.specs.Int.Signed.{le_z}
use Rattle.tile.specs.Layout.{id_of, edges_of, edge_of}
use Rattle.geo.specs.Flat.{whole}
use Rattle.matcher.specs.declared.Matched.{Matched}
use Rattle.matcher.specs.declared.Kept.{Kept}
use Rattle.matcher.specs.Keeping.{candidate_in}

-- of the tile whose bytes these are
pub record Within (bs : List ℕ) (m : Matched) : Type 0 where
  pub tile : m.tile ≡ id_of bs
  pub edge : m.edge < edges_of bs
  pub segment : m.segment ≤ (edge_of bs m.edge).vertices
  pub at_least : le (whole 0) m.fraction ≡ true
  pub at_most : le m.fraction (whole 1) ≡ true
  pub not_below : le_z (negsuc 999999) m.z_dm ≡ true
  pub not_above : le_z m.z_dm (pos 1000000) ≡ true

-- each candidate kept has Q of its match
abbrev pub AllKept : (Matched → Type 0) → Kept → Type 0
AllKept Q k = (i : ℕ) → i < k.len → Q (candidate_in k i).found
