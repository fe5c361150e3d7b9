-- A match over a lookup: `matcher.rs`, `update`. The tiles around the fix are looked up in order; each that is found is searched; one that is
-- not loaded ends the match with its key, and one that no longer passes with 12. `update_over` knows no cache: the direct engine shares it.
-- `updated` is it at the cache's look, with what the lookups did to clock and ages.
use Rattle.matcher.specs.declared.Matched.{Matched}
use Rattle.refusal.specs.declared.Refusal.{Refusal}
use Rattle.std.specs.Prelude.{Option, Some, None, Result, Ok, Err, ℕ, ◌+◌, List, [], ◌∷◌, ◌++◌, get_or}
use Rattle.pack.specs.declared.TileKey.{TileKey}
use Rattle.pack.specs.declared.Header.{Header}
use Rattle.geo.specs.declared.Point.{Point}
use Rattle.cache.specs.declared.Aging.{Aging}
use Rattle.cache.specs.declared.Cache.{Cache}
use Rattle.cache.specs.declared.Lookup.{Lookup}
use Rattle.cache.specs.Ages.{bytes_of}
use Rattle.cache.specs.Lookups.{landed, checked}
use Rattle.cache.specs.Direct.{Look, ready, missing, absent, stale, look, looked}
use Rattle.cache.specs.Uses.{uses_of, used_at}
use Rattle.num.specs.Fold.{up_to}
use Rattle.matcher.specs.Keeping.{none_kept}
use Rattle.matcher.specs.Tile.{search}
use Rattle.matcher.specs.declared.Kept.{Kept}
use Rattle.matcher.specs.declared.Query.{Query}
use Rattle.matcher.specs.declared.Heading.{Heading}
use Rattle.matcher.specs.declared.Landed.{Landed}
use Rattle.matcher.specs.declared.Landings.{Landings}
use Rattle.matcher.specs.declared.Made.{Made}
use Rattle.matcher.specs.declared.Matcher.{Matcher}
use Rattle.matcher.specs.declared.NearKeys.{NearKeys}
use Rattle.matcher.specs.declared.Outcome.{Outcome}
use Rattle.matcher.specs.declared.Searched.{Searched}
use Rattle.matcher.specs.declared.Updated.{Updated}
use Rattle.matcher.specs.declared.gather.Ending.{Ending}
use Rattle.matcher.specs.Near.{key_at, near_of}
use Rattle.matcher.specs.Settle.{matched}

-- ---- over a lookup

-- the candidates so far, the keys found so far, and how the lookups ended
pub record Run : Type 0 where
  pub kept : Kept
  pub found : List TileKey
  pub end : Ending

abbrev pub look_step : Look → Run → Query → TileKey → Run
look_step (ready bs) r q key = record { kept = search r.kept q bs; found = r.found ++ (key ∷ []); end = Ending.All }
look_step missing r q key = r
look_step absent r q key = record { kept = r.kept; found = r.found; end = Ending.Need key }
look_step stale r q key = record { kept = r.kept; found = r.found; end = Ending.Stale }

abbrev pub key_step : Option TileKey → (TileKey → Look) → Run → Query → Run
key_step None at r q = r
key_step (Some key) at r q = look_step (at key) r q key

-- nothing more once they ended
abbrev pub run_step : Ending → Option TileKey → (TileKey → Look) → Run → Query → Run
run_step Ending.All m at r q = key_step m at r q
run_step (Ending.Need key) m at r q = r
run_step Ending.Stale m at r q = r

abbrev pub no_run : Run
no_run = record { kept = none_kept; found = []; end = Ending.All }

-- the first n tiles around the fix
unfoldable pub run_to : (TileKey → Look) → NearKeys → Query → ℕ → Run
run_to at near q n = up_to (λ (r : Run) (i : ℕ). run_step r.end (key_at near i) at r q) no_run n

abbrev pub outcome : Option Matched → Result Outcome Refusal
outcome None = Ok Outcome.Nothing
outcome (Some m) = Ok (Outcome.Found m)

-- an answer, and the matcher after it
pub record Matching : Type 0 where
  pub answer : Result Outcome Refusal
  pub matcher : Matcher

abbrev pub matching_by : Ending → Kept → Matcher → Heading → Matching
matching_by Ending.All k m heading = let next = matched m k heading in record { answer = outcome next.current; matcher = next }
matching_by (Ending.Need key) k m heading = record { answer = Ok (Outcome.Need key); matcher = m }
matching_by Ending.Stale k m heading = record { answer = Err Refusal.BadState; matcher = m }

abbrev pub query_of : Matcher → Header → Point → Heading → Query
query_of m h fix heading = record { header = h; fix = fix; heading = heading; current = m.current }

abbrev pub run_over : (TileKey → Look) → Matcher → Header → Point → Heading → Run
run_over at m h fix heading = run_to at (near_of h fix) (query_of m h fix heading) 4

unfoldable pub update_over : (TileKey → Look) → Matcher → Header → Point → Heading → Matching
update_over at m h fix heading = let r = run_over at m h fix heading in matching_by r.end r.kept m heading

-- ---- at the cache's look

-- on the late 12 the state is the one given
abbrev pub cache_after : Ending → Cache → Cache → Cache
cache_after Ending.All c d = d
cache_after (Ending.Need key) c d = d
cache_after Ending.Stale c d = c

unfoldable pub updated : Matcher → Cache → List ℕ → Header → Point → Heading → Updated
updated m c arena h fix heading =
    let at = look c arena h.tile in
    let r = run_over at m h fix heading in
    let u = update_over at m h fix heading in
    record { answer = u.answer; matcher = u.matcher; cache = cache_after r.end c (looked c arena h.tile r.found) }

-- ---- the code's steps: this restates private code. A match is made from what the lookups of the tiles around the fix land on, which a caller that
-- keeps the cache in a form of its own has found; what it does to clock and ages follows from how many of them it went through

-- the candidates so far, how many tiles were gone through, and how the lookups ended
pub record Gathered : Type 0 where
  pub kept : Kept
  pub tiles : ℕ
  pub end : Ending

abbrev pub land : Option TileKey → Cache → Landed
land None c = record { lookup = Ok Lookup.Missing }
land (Some key) c = record { lookup = Ok (landed c key) }

unfoldable pub landings : Cache → NearKeys → Landings
landings c near = record { v = land (key_at near 0) c ∷ land (key_at near 1) c ∷ land (key_at near 2) c ∷ land (key_at near 3) c ∷ [] }

-- past the fourth stands the record of first variants, as the checker reads an array; no step asks there
abbrev pub landed_at : Landings → ℕ → Result Lookup ℕ
landed_at at i = (get_or at.v i (record { lookup = Ok (Lookup.Ready 0 0) })).lookup

-- what was gathered while no lookup ended the match
abbrev pub so_far : Kept → ℕ → Gathered
so_far kept tiles = record { kept = kept; tiles = tiles; end = Ending.All }

abbrev pub gathered_with : Gathered → Result Lookup ℕ → List ℕ → Query → TileKey → Gathered
gathered_with g (Ok (Lookup.Ready first len)) arena q key = so_far (search g.kept q (bytes_of arena first len)) (g.tiles + 1)
gathered_with g (Ok Lookup.Missing) arena q key = so_far g.kept (g.tiles + 1)
gathered_with g (Ok Lookup.Absent) arena q key = record { kept = g.kept; tiles = g.tiles; end = Ending.Need key }
gathered_with g (Err number) arena q key = record { kept = g.kept; tiles = g.tiles; end = Ending.Stale }

abbrev pub gather_key : Option TileKey → Result Lookup ℕ → Gathered → List ℕ → Query → Gathered
gather_key None l g arena q = so_far g.kept (g.tiles + 1)
gather_key (Some key) l g arena q = gathered_with g (checked l arena q.header.tile key) arena q key

-- nothing more once they ended
abbrev pub gather_step : Ending → Option TileKey → Result Lookup ℕ → Gathered → List ℕ → Query → Gathered
gather_step Ending.All k l g arena q = gather_key k l g arena q
gather_step (Ending.Need key) k l g arena q = g
gather_step Ending.Stale k l g arena q = g

-- the first n tiles around the fix
unfoldable pub gathered_to : Landings → List ℕ → Query → NearKeys → ℕ → Gathered
gathered_to at arena q near n =
    up_to (λ (g : Gathered) (i : ℕ). gather_step g.end (key_at near i) (landed_at at i) g arena q) (so_far none_kept 0) n

unfoldable pub finished : Matcher → Kept → Heading → Searched
finished m kept heading = let next = matched m kept heading in record { answer = outcome next.current; matcher = next; tiles = 4 }

-- of the tiles gone through those that were found are used: all four; those before the one that is not loaded; none on the late 12
abbrev pub ended_by : Ending → Matcher → Heading → Gathered → Searched
ended_by Ending.All m heading g = finished m g.kept heading
ended_by (Ending.Need key) m heading g = record { answer = Ok (Outcome.Need key); matcher = m; tiles = g.tiles }
ended_by Ending.Stale m heading g = record { answer = Err Refusal.BadState; matcher = m; tiles = 0 }

-- what a match makes of what was gathered
abbrev pub ended : Matcher → Heading → Gathered → Searched
ended m heading g = ended_by g.end m heading g

unfoldable pub searched : Matcher → Landings → List ℕ → Header → Point → Heading → NearKeys → Searched
searched m at arena h fix heading near = ended m heading (gathered_to at arena (query_of m h fix heading) near 4)

-- ---- clock and ages

-- the run that a lookup landed on is the most recently used
abbrev pub used_by : Result Lookup ℕ → Aging → Aging
used_by (Ok (Lookup.Ready first len)) a = used_at a first
used_by (Ok Lookup.Missing) a = a
used_by (Ok Lookup.Absent) a = a
used_by (Err number) a = a

-- once the first n tiles were gone through; `from` has clock and ages before the first
unfoldable pub uses_after : Landings → Aging → ℕ → Aging
uses_after at from n = up_to (λ (a : Aging) (i : ℕ). used_by (landed_at at i) a) from n

-- a match with clock and ages in place of the cache
abbrev pub made_of : Updated → Made
made_of u = record { answer = u.answer; matcher = u.matcher; uses = uses_of u.cache }

abbrev pub made_by : Landings → Aging → Searched → Made
made_by at from s = record { answer = s.answer; matcher = s.matcher; uses = uses_after at from s.tiles }
