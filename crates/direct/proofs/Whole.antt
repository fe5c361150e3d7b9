-- The compared fields of a road are all of it but the generation and the heights past its lengths (document 01: "all its fields but `loads`, generation and
-- heights past its length"): two roads that agree in these too are one. So no field can be left out of `Road` unnoticed.
use Prim.Native.Nat.{ℕ}
use mathlib.Core.Path.{◌≡◌, sym, ap, ◌∙◌}
use mathlib.Core.List.{List, ◌++◌}
use lib.IntN.{ℤ}
use lib.ListN.{take, drop, take-append-drop}
use Rattle.engine.specs.declared.Ahead.{Ahead}
use Rattle.direct.specs.Finished.{Road, road_of}

-- a list by its first places and the rest
joined : (n m : ℕ) (x y : List ℤ) → m ≡ n → take m y ≡ take n x → drop m y ≡ drop n x → y ≡ x
joined n m x y e p q = sym (take-append-drop m y) ∙ ap (λ (z : List ℤ). z ++ drop m y) p ∙ ap (λ (z : List ℤ). take n x ++ z) q ∙ take-append-drop n x

pub road_whole : (a b : Ahead) → road_of b ≡ road_of a → b.generation ≡ a.generation → drop b.len b.samples ≡ drop a.len a.samples
    → drop b.behind_len b.behind ≡ drop a.behind_len a.behind → b ≡ a
road_whole a b r g s t =
    let samples : b.samples ≡ a.samples
    = joined a.len b.len a.samples b.samples (ap (λ (x : Road). x.len) r) (ap (λ (x : Road). x.samples) r) s in
    let behind : b.behind ≡ a.behind
    = joined a.behind_len b.behind_len a.behind b.behind (ap (λ (x : Road). x.behind_len) r) (ap (λ (x : Road). x.behind) r) t in
    λ i. record {
      generation = g i;
      at_ms = (r i).at_ms;
      matched = (r i).matched;
      start_z_dm = (r i).start_z_dm;
      samples = samples i;
      len = (r i).len;
      behind = behind i;
      behind_len = (r i).behind_len;
      behind_m = (r i).behind_m;
      end = (r i).end;
      end_m = (r i).end_m;
      confidence = (r i).confidence;
    }
