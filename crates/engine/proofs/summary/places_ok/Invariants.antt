-- `engine::summary::places_ok` meets its contract. The loop's invariant: every place passed is a point.
use Rattle.std.specs.Prelude.{None}
use Rattle.std.proofs.Common.{◌≡◌, ℕ, Bool, not}
use Rattle.pack.specs.Grid.{is_point}
use Rattle.cache.specs.Search.{lowest}
use Rattle.engine.specs.Fixes.{place_at}
use Rattle.engine.specs.declared.Places.{Places}
use Rattle.engine.proofs.summary.places_ok.Given as goal

abbrev pub is_none : Places → ℕ → Bool
is_none h i = not (is_point (place_at h i).lat (place_at h i).lon)

abbrev pub invariant-loop-i : goal.invariant-loop-i
invariant-loop-i l = lowest (λ (j : ℕ). is_none l.h j) l.i ≡ None
