-- An engine before its pack is read, and the states that number 12 names (document 01, "Refused", beside the cache's and the matcher's causes),
-- each by name: a count above its array (`places_ok`, `ahead_ok`), failures above 8, or 8 with a pack not failed (`failures_ok`), a held place or
-- heading that 8 would refuse (`sight_ok`), a needed or matched key outside the read header's grid or held while the header is unread
-- (`held_ok`), reloads above their limit (`due_ok`), an open fetch that the state would not make (`pending_ok`), a header that `Header::parse`
-- would refuse, an arena shorter than its pages (`shared_ok`). A pack that failed keeps what is needed and matched.
use Rattle.refusal.specs.declared.Refusal.{Refusal}
use Rattle.engine.specs.declared.Fix.{Fix}
use Rattle.matcher.specs.declared.Matched.{Matched}
use Rattle.cache.specs.declared.Loading.{Loading}
use Rattle.std.specs.Prelude.{Ok, Err, Option, Some, None, is_some, ℕ, ◌+◌, ◌*◌, min, Bool, true, false, cond, not, ◌&&◌, [], ◌∷◌, ◌==◌, nat_le, nat_lt}
use Rattle.pack.specs.Sector.{all_of, rules}
use Rattle.pack.specs.Sector as Sector
use Rattle.pack.specs.Grid.{in_grid, is_point}
use Rattle.pack.specs.declared.Header.{Header}
use Rattle.pack.specs.declared.TileKey.{TileKey}
use Rattle.cache.specs.Keys.{holds}
use Rattle.cache.specs.Search.{lowest}
use Rattle.cache.specs.State.{state_ok, arena_ok, cleared}
use Rattle.cache.specs.declared.Cache.{Cache}
use Rattle.cache.specs.declared.Pending.{Pending}
use Rattle.matcher.specs.State.{counts_ok, heading_ok}
use Rattle.matcher.specs.declared.Matcher.{Matcher}
use Rattle.engine.specs.Fixes.{place_at}
use Rattle.engine.specs.Follow as Followers
use Rattle.engine.specs.declared.Ahead.{Ahead}
use Rattle.engine.specs.declared.Due.{Due}
use Rattle.engine.specs.declared.Follower.{Follower}
use Rattle.engine.specs.declared.Places.{Places}
use Rattle.engine.specs.declared.Sight.{Sight}
use Rattle.engine.specs.declared.Changed.{Changed}
use Rattle.engine.specs.declared.Engine.{Engine}
use Rattle.engine.specs.declared.Phase.{Phase}
use Rattle.engine.specs.declared.Shared.{Shared}
use Rattle.engine.specs.declared.Stepped.{Stepped}

-- ---- before the header is read

abbrev pub no_header : Header
no_header = Sector.no_header

abbrev pub unread : Cache → Shared
unread c = record { phase = Phase.Unread; header = no_header; cache = c }

-- ---- answers

abbrev pub refused : Engine → Refusal → Stepped
refused e refusal = record { answer = Err refusal; engine = e }

abbrev pub unchanged : Engine → Refusal → Changed
unchanged e refusal = record { answer = Err refusal; engine = e }

abbrev pub followed : Engine → Follower → Changed
followed e f = record { answer = Ok tt; engine = record { shared = e.shared; follower = f } }

-- another pack
unfoldable pub forgotten : Engine → Changed
forgotten e = record {
  answer = Ok tt;
  engine = record { shared = unread (cleared e.shared.cache); follower = Followers.reset e.follower };
}

-- ---- phases

abbrev pub is_ready : Phase → Bool
is_ready Phase.Ready = true
is_ready Phase.Unread = false
is_ready Phase.Failed = false

abbrev pub is_unread : Phase → Bool
is_unread Phase.Unread = true
is_unread Phase.Ready = false
is_unread Phase.Failed = false

abbrev pub is_failed : Phase → Bool
is_failed Phase.Failed = true
is_failed Phase.Ready = false
is_failed Phase.Unread = false

-- ---- the causes of number 12

-- a key that is held
abbrev pub held_by : Phase → Header → TileKey → Bool
held_by Phase.Unread h key = false
held_by Phase.Failed h key = true
held_by Phase.Ready h key = in_grid h key

abbrev pub held_ok : Shared → TileKey → Bool
held_ok s key = held_by s.phase s.header key

abbrev pub need_by : Phase → Header → Option TileKey → Bool
need_by phase h None = true
need_by phase h (Some key) = held_by phase h key

abbrev pub need_ok : Shared → Option TileKey → Bool
need_ok s need = need_by s.phase s.header need

abbrev pub matched_by : Phase → Header → Option Matched → Bool
matched_by phase h None = true
matched_by phase h (Some m) = held_by phase h m.tile.key

abbrev pub matched_ok : Shared → Option Matched → Bool
matched_ok s current = matched_by s.phase s.header current

-- the header counts in phase Ready alone
abbrev pub header_by : Phase → Header → Bool
header_by phase h = cond (is_ready phase) (rules h) true

abbrev pub header_ok : Shared → Bool
header_ok s = header_by s.phase s.header

unfoldable pub shared_ok : Shared → ℕ → Bool
shared_ok s size = state_ok s.cache && (arena_ok s.cache size && header_ok s)

abbrev pub loads_needed : Option Loading → Option TileKey → Bool
loads_needed None need = false
loads_needed (Some l) need = holds need l.key

-- beside what the cache asks of an open fetch: the header's is open while it is unread, any other in phase Ready and for the tile needed
abbrev pub pending_in : Pending → Phase → Option Loading → Option TileKey → Bool
pending_in Pending.Nothing phase loading need = true
pending_in Pending.Header phase loading need = is_unread phase
pending_in (Pending.Entry key) phase loading need = is_ready phase && holds need key
pending_in Pending.Chunk phase loading need = is_ready phase && loads_needed loading need

abbrev pub pending_by : Pending → Shared → Option TileKey → Bool
pending_by pending s need = pending_in pending s.phase s.cache.loading need

abbrev pub pending_ok : Shared → Option TileKey → Bool
pending_ok s need = pending_by s.cache.pending s need

abbrev pub fix_ok : Option Fix → Bool
fix_ok None = true
fix_ok (Some f) = is_point f.lat f.lon

-- at most sixteen places, each a point
unfoldable pub places_ok : Places → Bool
places_ok h = nat_le h.len 16 && not (is_some (lowest (λ (i : ℕ). not (is_point (place_at h i).lat (place_at h i).lon)) h.len))

abbrev pub sight_ok : Sight → Bool
sight_ok s = fix_ok s.fix && (places_ok s.history && heading_ok s.heading)

-- 501 samples, 11 behind
abbrev pub ahead_by : Phase → Header → ℕ → ℕ → Option Matched → Bool
ahead_by phase h len behind published = nat_le len 501 && (nat_le behind 11 && matched_by phase h published)

abbrev pub ahead_ok : Shared → Ahead → Bool
ahead_ok s a = ahead_by s.phase s.header a.len a.behind_len a.matched

abbrev pub failures_ok : Phase → ℕ → Bool
failures_ok phase failures = cond (nat_lt failures 8) true (failures == 8 && is_failed phase)

abbrev pub matcher_by : Phase → Header → Matcher → Bool
matcher_by phase h m = counts_ok m && matched_by phase h m.current

abbrev pub matcher_ok : Shared → Matcher → Bool
matcher_ok s m = matcher_by s.phase s.header m

-- 2 × pages + 16, of at most 96 pages
abbrev pub reload_limit : ℕ → ℕ
reload_limit pages = 2 * min pages 96 + 16

abbrev pub due_by : Phase → Header → ℕ → Due → Bool
due_by phase h pages due = nat_le due.reloads (reload_limit pages) && need_by phase h due.need

abbrev pub due_ok : Shared → Due → Bool
due_ok s due = due_by s.phase s.header s.cache.pages.count due

-- all of them, over an arena of `size` bytes: what is shared, what a follower holds, and the open fetch against the follower whose it is
unfoldable pub engine_ok : Engine → ℕ → Bool
engine_ok e size =
    let s = e.shared in
    let f = e.follower in
    all_of
    (shared_ok s size ∷ due_ok s f.due ∷ sight_ok f.sight ∷ matcher_ok s f.matcher ∷ ahead_ok s f.ahead ∷ failures_ok s.phase f.failures
    ∷ pending_ok s f.due.need ∷ [])
