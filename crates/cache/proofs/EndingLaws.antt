-- What the last chunk of a load leaves is its parts (`ended-parts`): by whether the tile passes. A fetch that is withdrawn is withdrawn once.
use Rattle.std.specs.Prelude.{None}
use Rattle.std.proofs.Common.{◌≡◌, ℕ, Bool, true, false, cond, List, sym, refl, ap}
use Rattle.cache.specs.declared.Cache.{Cache}
use Rattle.cache.specs.declared.Loading.{Loading}
use Rattle.cache.specs.declared.Pending.{Pending}
use Rattle.cache.specs.Endings.{ended_pages, ended_ring, ended_loads}
use Rattle.cache.specs.Loads.{withdrawn, moved, forgot, dropped, readied, ended}
use Rattle.cache.specs.Lookups.{passes, touched}

withdrawn_once : (p : Pending) → withdrawn (withdrawn p) ≡ withdrawn p
withdrawn_once Pending.Nothing = refl
withdrawn_once Pending.Header = refl
withdrawn_once (Pending.Entry key) = refl
withdrawn_once Pending.Chunk = refl

module _ (c : Cache) (arena : List ℕ) (l : Loading) (size : ℕ) where
  abbrev parts : Bool → Pending → Cache
  parts ok p = record {
    pages = ended_pages ok c.pages c.loading l.slot;
    missing = ended_ring ok c.missing l.key;
    loading = None;
    pending = p;
    loads = ended_loads ok c.loads;
  }

  by : (ok : Bool) → parts ok (withdrawn c.pending) ≡ cond ok (readied c l) (forgot (dropped c) l.key)
  unfolding readied touched moved forgot dropped
  by true = refl
  by false = ap (parts false) (sym (withdrawn_once c.pending))

  pub ended-parts : parts (passes arena l.slot l.len l.key size) (withdrawn c.pending) ≡ ended c arena l size
  unfolding ended
  ended-parts = by (passes arena l.slot l.len l.key size)
