-- The pass of `runs_ok` over the pages: what it carries and what it tests of each page. It restates private code and nothing public is
-- stated by it; that it answers `runs_ok` is proved (`PassLaws`).
use Rattle.std.specs.Prelude.{ℕ, ◌+◌, Bool, cond, ◌&&◌, ◌==◌, nat_le, nat_lt}
use Rattle.cache.specs.declared.Slot.{Slot}
use Rattle.cache.specs.declared.runs.LastRun.{LastRun}
use Rattle.cache.specs.Runs.{span, Kind, bare, run, piece, kind_of, is_run, no_key}

-- page p, below the end of the last run, is one of its later pages and has no key; past it, it is bare or a run that ends by the count
abbrev pub fits_by : Kind → Slot → ℕ → LastRun → ℕ → Bool
fits_by (piece h) s p l count = no_key s.key && (nat_lt p l.end && h == l.head)
fits_by run s p l count = nat_le l.end p && nat_le (p + span s.len) count
fits_by bare s p l count = nat_le l.end p

unfoldable pub fits : Slot → ℕ → LastRun → ℕ → Bool
fits s p l count = fits_by (kind_of s) s p l count

-- the last run after page p
unfoldable pub after : Slot → ℕ → LastRun → LastRun
after s p l = cond (is_run (kind_of s)) (record { head = p; end = p + span s.len }) l
