-- The clock and the ages by themselves, which a match moves: this restates private code. A lookup is `Lookups.got`'s, and what it does to the cache is
-- done to these.
use Rattle.std.specs.Prelude.{ℕ, slice_set}
use Rattle.cache.specs.declared.Aging.{Aging}
use Rattle.cache.specs.declared.Cache.{Cache}
use Rattle.cache.specs.Lookups.{after}

abbrev pub uses_of : Cache → Aging
uses_of c = record { clock = c.pages.clock; used = c.pages.used }

-- the run from page i on is the most recently used
abbrev pub used_at : Aging → ℕ → Aging
used_at a i = record { clock = after a.clock; used = slice_set a.used i (after a.clock) }

-- the cache with that clock and those ages
abbrev pub with_uses : Cache → Aging → Cache
with_uses c a = record {
  pages = record { slots = c.pages.slots; used = a.used; count = c.pages.count; clock = a.clock };
  missing = c.missing;
  loading = c.loading;
  pending = c.pending;
  loads = c.loads;
}
