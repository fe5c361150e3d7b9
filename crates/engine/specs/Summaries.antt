-- What number 12 asks of an engine beside the cache's own state, and what the plan of a step is made of. `SummaryLaws` says that with the cache's own test it is number 12's.
use Rattle.std.specs.Prelude.{ℕ, ◌*◌, Bool, ◌&&◌, [], ◌∷◌, nat_le}
use Rattle.pack.specs.Sector.{all_of}
use Rattle.engine.specs.Plans.{of_state}
use Rattle.engine.specs.State.{header_by, due_by, matcher_by, ahead_by, pending_in, sight_ok, failures_ok}
use Rattle.engine.specs.declared.Engine.{Engine}
use Rattle.engine.specs.declared.plan.Plan.{Plan}
use Rattle.engine.specs.declared.summary.Summary.{Summary}

unfoldable pub summary_of : Engine → Summary
summary_of e =
    let s = e.shared in
    let f = e.follower in
    record {
      phase = s.phase;
      header = s.header;
      count = s.cache.pages.count;
      loading = s.cache.loading;
      pending = s.cache.pending;
      sight = f.sight;
      matcher = f.matcher;
      due = f.due;
      published = f.ahead.matched;
      len = f.ahead.len;
      behind_len = f.ahead.behind_len;
      failures = f.failures;
    }

-- the arena holds the pages, and in phase Ready the header is one
abbrev pub shared_in : Summary → ℕ → Bool
shared_in s size = nat_le (s.count * 8192) size && header_by s.phase s.header

-- what is due, the fixes, the match, the published road, the failures
unfoldable pub follower_in : Summary → Bool
follower_in s =
    all_of
    (due_by s.phase s.header s.count s.due
    ∷ sight_ok s.sight
    ∷ matcher_by s.phase s.header s.matcher
    ∷ ahead_by s.phase s.header s.len s.behind_len s.published
    ∷ failures_ok s.phase s.failures
    ∷ [])

-- the causes of number 12 beside those of the cache's own state
unfoldable pub passes : Summary → ℕ → Bool
passes s size = shared_in s size && (follower_in s && pending_in s.pending s.phase s.loading s.due.need)

-- what a step is to do where no fetch is open
abbrev pub plan : Summary → Plan
plan s = of_state s.phase s.header s.sight.fix s.due s.matcher.current
