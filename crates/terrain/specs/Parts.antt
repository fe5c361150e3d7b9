-- The cache's calls on the cache in an engine's words: decoded, the library's own definition, encoded. Words that no engine has are refused with 12 and stay as they were.
use Rattle.refusal.specs.Refusal.{number_of, number_of_result}
use Rattle.refusal.specs.declared.Refusal.{Refusal}
use Rattle.std.specs.Prelude.{Option, Some, None, Result, Ok, Err, ℕ, cond, List}
use Rattle.pack.specs.declared.Header.{Header}
use Rattle.pack.specs.declared.TileKey.{TileKey}
use Rattle.cache.specs.Calls as Calls
use Rattle.cache.specs.Loads as Loads
use Rattle.cache.specs.declared.Cache.{Cache}
use Rattle.cache.specs.declared.Lookup.{Lookup}
use Rattle.cache.specs.declared.Got.{Got}
use Rattle.cache.specs.declared.Cleared.{Cleared}
use Rattle.cache.specs.declared.Progress.{Progress}
use Rattle.engine.specs.declared.Engine.{Engine}
use Rattle.words.specs.Words.{words, engine_of, accepted}
use Rattle.terrain.specs.declared.parts.TerrainCount.{TerrainCount}
use Rattle.terrain.specs.declared.parts.TerrainLookup.{TerrainLookup}
use Rattle.terrain.specs.declared.parts.TerrainRequest.{TerrainRequest}
use Rattle.terrain.specs.declared.parts.TerrainProgress.{TerrainProgress}

-- ---- answers: a number, the variant's place in its enum, and the variant's fields

abbrev pub count_out : Result ℕ Refusal → TerrainCount
count_out (Ok n) = record { number = 0; count = n }
count_out (Err e) = record { number = number_of e; count = 0 }

abbrev pub lookup : ℕ → ℕ → TerrainLookup
lookup number tag = record { number = number; lookup = tag; first = 0; len = 0 }

abbrev pub lookup_out : Result Lookup Refusal → TerrainLookup
lookup_out (Ok (Lookup.Ready first len)) = record { number = 0; lookup = 0; first = first; len = len }
lookup_out (Ok Lookup.Missing) = lookup 0 1
lookup_out (Ok Lookup.Absent) = lookup 0 2
lookup_out (Err e) = lookup (number_of e) 3

abbrev pub request : ℕ → ℕ → TerrainRequest
request number tag = record { number = number; request = tag; offset = 0; len = 0 }

abbrev pub request_out : Result (Option (ℕ × ℕ)) Refusal → TerrainRequest
request_out (Ok None) = request 0 0
request_out (Ok (Some (offset, len))) = record { number = 0; request = 1; offset = offset; len = len }
request_out (Err e) = request (number_of e) 2

abbrev pub progress : ℕ → ℕ → TerrainProgress
progress number tag = record { number = number; progress = tag }

-- the number of a failed step is why it failed: 1 or 2 for the read, 4 for the entry
abbrev pub progress_out : Result Progress Refusal → TerrainProgress
progress_out (Ok Progress.Done) = progress 0 0
progress_out (Ok Progress.More) = progress 0 1
progress_out (Ok (Progress.Failed e)) = progress (number_of e) 2
progress_out (Err e) = progress (number_of e) 3

abbrev pub clearing_out : Result Unit Refusal → ℕ
clearing_out r = number_of_result r

-- ---- the words

abbrev pub cache_in : Engine → Cache
cache_in e = e.shared.cache

abbrev pub with_cache : Cache → Engine → Engine
with_cache c e = record { shared = record { phase = e.shared.phase; header = e.shared.header; cache = c }; follower = e.follower }

-- the cache that the words hold
abbrev pub cache_of : List ℕ → Cache
cache_of ws = cache_in (engine_of ws)

-- the words after a call that left the cache c
abbrev pub after : List ℕ → Cache → List ℕ
after ws c = cond (accepted ws) (words (with_cache c (engine_of ws))) ws

-- ---- the calls

abbrev pub capacity : List ℕ → List ℕ → Result ℕ Refusal
capacity ws arena = cond (accepted ws) (Calls.capacity (cache_of ws) arena) (Err Refusal.BadState)

abbrev pub loads : List ℕ → List ℕ → Result ℕ Refusal
loads ws arena = cond (accepted ws) (Calls.loads (cache_of ws) arena) (Err Refusal.BadState)

abbrev pub pages : List ℕ → List ℕ → Header → TileKey → Result ℕ Refusal
pages ws arena h key = cond (accepted ws) (Calls.pages (cache_of ws) arena h key) (Err Refusal.BadState)

abbrev pub get : List ℕ → List ℕ → Header → TileKey → Got
get ws arena h key = cond (accepted ws) (Calls.get (cache_of ws) arena h key) (Calls.got_nothing (cache_of ws) Refusal.BadState)

abbrev pub clear : List ℕ → List ℕ → Cleared
clear ws arena = cond (accepted ws) (Calls.clear (cache_of ws) arena) (record { answer = Err Refusal.BadState; cache = cache_of ws })

abbrev pub fetch : List ℕ → List ℕ → Header → TileKey → Result (Option (ℕ × ℕ)) Refusal
fetch ws arena h key = cond (accepted ws) (Calls.fetch (cache_of ws) arena h key) (Err Refusal.BadState)

abbrev pub refused_load : List ℕ → List ℕ → Loads.After
refused_load ws arena = Loads.over (Loads.refused (cache_of ws) Refusal.BadState) arena

abbrev pub load : List ℕ → List ℕ → Header → TileKey → ℕ → List ℕ → Loads.After
load ws arena h key failure bs = cond (accepted ws) (Calls.load (cache_of ws) arena h key failure bs) (refused_load ws arena)

abbrev pub load_from : List ℕ → List ℕ → Header → TileKey → List ℕ → Loads.After
load_from ws arena h key pack = cond (accepted ws) (Calls.load_from (cache_of ws) arena h key pack) (refused_load ws arena)
