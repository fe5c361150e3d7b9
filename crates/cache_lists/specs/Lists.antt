-- The public calls on the cache as data, and what a list of them does to the state and the arena, by the functions' own definitions. Each
-- call gets the state and the arena that the last one left (demand 3); header, key, bytes and pack are its own arguments.
use Rattle.refusal.specs.declared.Refusal.{Refusal}
use Rattle.std.specs.Prelude.{Option, Result}
use Rattle.std.specs.Prelude.{ℕ, List, [], ◌∷◌}
use Rattle.pack.specs.declared.TileKey.{TileKey}
use Rattle.pack.specs.declared.Header.{Header}
use Rattle.cache.specs.declared.Cache.{Cache}
use Rattle.cache.specs.declared.Lookup.{Lookup}
use Rattle.cache.specs.State.{fresh}
use Rattle.cache.specs.Calls as Cached
use Rattle.cache.specs.declared.Progress.{Progress}
use Rattle.cache.specs.Loads.{After}

-- what the calls work on
pub record World : Type 0 where
  pub cache : Cache
  pub arena : List ℕ

pub data Call : Type 0 where
  capacity : Call
  loads : Call
  pages : Header → TileKey → Call
  get : Header → TileKey → Call
  fetch : Header → TileKey → Call
  load : Header → TileKey → ℕ → List ℕ → Call
  load_from : Header → TileKey → List ℕ → Call
  clear : Call

pub data Answer : Type 0 where
  counted : Result ℕ Refusal → Answer
  found : Result Lookup Refusal → Answer
  asked : Result (Option (ℕ × ℕ)) Refusal → Answer
  stepped : Result Progress Refusal → Answer
  cleared : Result Unit Refusal → Answer

-- what a call leaves, and what it answers
pub record Done : Type 0 where
  pub world : World
  pub answer : Answer

abbrev pub same : World → Answer → Done
same w a = record { world = w; answer = a }

abbrev pub in_cache : World → Cache → Answer → Done
in_cache w c a = record { world = record { cache = c; arena = w.arena }; answer = a }

abbrev pub loaded : After → Done
loaded r = record { world = record { cache = r.cache; arena = r.arena }; answer = stepped r.answer }

unfoldable pub exec : Call → World → Done
exec capacity w = same w (counted (Cached.capacity w.cache w.arena))
exec loads w = same w (counted (Cached.loads w.cache w.arena))
exec (pages h key) w = same w (counted (Cached.pages w.cache w.arena h key))
exec (get h key) w = let r = Cached.get w.cache w.arena h key in in_cache w r.cache (found r.answer)
exec (fetch h key) w = same w (asked (Cached.fetch w.cache w.arena h key))
exec (load h key failure bs) w = loaded (Cached.load w.cache w.arena h key failure bs)
exec (load_from h key pack) w = loaded (Cached.load_from w.cache w.arena h key pack)
exec clear w = let r = Cached.clear w.cache w.arena in in_cache w r.cache (cleared r.answer)

-- a fresh cache of n pages over an arena
abbrev pub start : ℕ → List ℕ → World
start n arena = record { cache = fresh n; arena = arena }

-- Q of each call of a list, in the world that the calls before it left
unfoldable pub Along : (World → Call → Type 0) → List Call → World → Type 0
Along Q [] w = Unit
Along Q (c ∷ cs) w = Q w c × Along Q cs (exec c w).world
