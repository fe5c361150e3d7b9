-- A lookup as a definition reads it: what stands at a key, and what is carried on once a tile was found there. A walk is defined over any
-- reader. `plain` is a look that knows no cache and carries the keys found, in order; `in_looks` is what the code does.
use Rattle.refusal.specs.declared.Refusal.{Refusal}
use Rattle.std.specs.Prelude.{Result, Ok, Err}
use Rattle.std.specs.Prelude.{ℕ, List, [], ◌∷◌, ◌++◌}
use Rattle.pack.specs.declared.TileKey.{TileKey}
use Rattle.cache.specs.declared.Lookup.{Lookup}
use Rattle.cache.specs.Direct.{Look, ready, missing, absent, stale}
use Rattle.cache.specs.Ages.{look_up, bytes_of}

pub record Reader (S : Type 0) : Type 0 where
  pub at : S → TileKey → Look
  pub found : S → TileKey → S

abbrev pub plain : (TileKey → Look) → Reader (List TileKey)
plain look = record { at = λ (keys : List TileKey) (key : TileKey). look key; found = λ (keys : List TileKey) (key : TileKey). keys ++ (key ∷ []) }

-- an answer in pages, as bytes
abbrev pub in_bytes : Result Lookup Refusal → List ℕ → Look
in_bytes (Ok (Lookup.Ready first len)) arena = ready (bytes_of arena first len)
in_bytes (Ok Lookup.Missing) arena = missing
in_bytes (Ok Lookup.Absent) arena = absent
in_bytes (Err e) arena = stale

abbrev pub in_looks : List ℕ → ℕ → Reader (List ℕ)
in_looks arena size = record {
  at = λ (looks : List ℕ) (key : TileKey). in_bytes (look_up looks arena size key).answer arena;
  found = λ (looks : List ℕ) (key : TileKey). (look_up looks arena size key).looks;
}
