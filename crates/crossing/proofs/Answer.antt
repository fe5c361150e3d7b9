-- What the search finds, by its sign tests, is what document 02's request 4 asks for: by proofs/Meeting.antt, for points in reach.
use Prim.Native.Nat.{ℕ, ◌+◌, ◌<◌}
use mathlib.Core.Path.{◌≡◌, refl, sym, ◌∙◌}
use mathlib.Core.Bool.{Bool, true, false, true≢false}
use mathlib.Core.List.{List, [], ◌∷◌}
use lib.ListN.{get_or}
use Rattle.pack.specs.Sector.{rules}
use Rattle.pack.specs.Grid.{is_point, in_grid}
use Rattle.pack.specs.declared.Header.{Header}
use Rattle.pack.specs.declared.TileKey.{TileKey}
use Rattle.tile.specs.Layout.{edge_of}
use Rattle.tile.specs.Parse.{accepts}
use Rattle.geo.specs.declared.Point.{Point}
use Rattle.crossing.specs.Crossing.{refusal, MeetsTransect, point_at, Crosses}
use Rattle.crossing.specs.Sides.{place_of, Passed, meets_at, InTile}
use Rattle.refusal.specs.Refusal.{first_of}
use Rattle.refusal.specs.declared.Refusal.{Refusal}
use Rattle.std.specs.Prelude.{Option, Some, None, Result, Ok}
use Rattle.crossing.proofs.Reach.{end_reach, point_reach}
use Rattle.crossing.proofs.Meeting.{meets_meet, meet_meets}

-- what has passed where nothing is refused
pub record Accepted (first second : Point) (h : Header) (k : TileKey) : Type 0 where
  pub passed : Passed h k
  pub first_in : is_point first.lat first.lon ≡ true
  pub second_in : is_point second.lat second.lon ≡ true

module _ (first second : Point) (h : Header) (k : TileKey) (bs : List ℕ) where
  pub accepted : refusal first second h k bs ≡ Ok tt → Accepted first second h k
  unfolding refusal
  accepted e = go (rules h) (is_point first.lat first.lon) (is_point second.lat second.lon) (in_grid h k) refl refl refl refl e
    where
      listed : Bool → Bool → Bool → Bool → Result Unit Refusal
      listed r p q g = first_of ((r, Refusal.BadState) ∷ (p, Refusal.OutOfRange) ∷ (q, Refusal.OutOfRange) ∷ (g, Refusal.OutsideGrid) ∷ (accepts bs k h.tile, Refusal.Corrupt) ∷ [])

      go :
          (r p q g : Bool) →
          rules h ≡ r →
          is_point first.lat first.lon ≡ p →
          is_point second.lat second.lon ≡ q →
          in_grid h k ≡ g →
          listed r p q g ≡ Ok tt →
          Accepted first second h k
      go true true true true u v w x z = record { passed = record { ruled = u; gridded = x }; first_in = v; second_in = w }
      go true true true false u v w x z = absurd (cc)
      go true true false g u v w x z = absurd (cc)
      go true false q g u v w x z = absurd (cc)
      go false p q g u v w x z = absurd (cc)

  module _ (a : Accepted first second h k) (bytes : (i : ℕ) → get_or bs i 0 < 256) where
    tells : (edge s : ℕ) → meets_at (place_of first) (place_of second) h k bs (edge_of bs edge) s ≡ true → MeetsTransect first second h k bs edge s
    unfolding meets_at
    tells edge s =
        meets_meet first second (point_at h k bs edge s) (point_at h k bs edge (s + 1)) (end_reach first a.first_in).near (end_reach second a.second_in).near
        (point_reach bs bytes h k a.passed (edge_of bs edge) s).near (point_reach bs bytes h k a.passed (edge_of bs edge) (s + 1)).near

    told : (edge s : ℕ) → MeetsTransect first second h k bs edge s → meets_at (place_of first) (place_of second) h k bs (edge_of bs edge) s ≡ true
    unfolding meets_at
    told edge s =
        meet_meets first second (point_at h k bs edge s) (point_at h k bs edge (s + 1)) (end_reach first a.first_in).near (end_reach second a.second_in).near
        (point_reach bs bytes h k a.passed (edge_of bs edge) s).near (point_reach bs bytes h k a.passed (edge_of bs edge) (s + 1)).near

    pub answered : refusal first second h k bs ≡ Ok tt → (r : Option (ℕ × ℕ)) → InTile (place_of first) (place_of second) h k bs r → Crosses first second h k bs (Ok r)
    answered e (Some (edge, s)) f = record { accepted = e; there = f.0; meets = tells edge s f.1 }
    answered e None f = record { accepted = e; none = λ edge s there g. true≢false (sym (told edge s g) ∙ f edge s there) }
