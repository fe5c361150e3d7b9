-- What is claimed of every list of calls through C, and of every list of demand 3's calls within their types.
use Rattle.std.specs.Prelude.{ℕ, ◌≤◌, ◌≡◌, Bool, true, ◌&&◌, List, [], ◌∷◌, eqb, Float, get_or}
use Rattle.pack.specs.declared.Header.{Header}
use Rattle.geo.specs.declared.Point.{Point}
use Rattle.matcher.specs.Calls as Matching
use Rattle.terrain.specs.Roads as Roads
use Rattle.words.specs.Typed.{Word, Single, Typed}
use Rattle.words.specs.Words.{engine_of, accepted, matcher_words}
use Rattle.terrain.specs.declared.roads.TerrainHeading.{TerrainHeading}
use Rattle.direct.specs.Story.{after}
use Rattle.direct.specs.Lists.{World, Call, exec, number, start, Along}
use Rattle.terrain_lists.specs.Calls.{HostWorld, HostCall, HostAnswer, numbered, stepped, road_read, header_read, heading_read, count_read, counted, looked_up, requested, progressed, near_read, current_read, updated, predicted, host_exec, Meant, call, at_interface, meant, calls_of, host_told, Bytes, TypedCall, AllTyped, AllGiven, calls_in, host_left, host_answers, host_tolds, words_of, host_start, pages_in}

-- ---- within their types

-- an engine whose numbers are within their types, over an arena of bytes
pub record TypedWorld (w : World) : Type 0 where
  pub engine : Typed w.engine
  pub arena : Bytes w.arena

abbrev pub TypedKept : Type 0
TypedKept = (c : Call) (w : World) → TypedCall c → TypedWorld w → TypedWorld (exec c w).world

-- of every list from a fresh engine: before each call, and after the last
abbrev pub TypedAlways : Type 0
TypedAlways =
    (n : ℕ) → n ≤ 96 → (horizon : Float) → Single horizon → (arena : List ℕ) → Bytes arena → (cs : List Call) → AllTyped cs →
    Along (λ (w : World) (c : Call). TypedWorld w) cs (start n horizon arena) × TypedWorld (after cs (start n horizon arena))

-- ---- calls through C

-- Q of each call of a list, on the words that the calls before it left, and of what the last one left
unfoldable pub HostAlong : (HostWorld → Type 0) → List HostCall → HostWorld → Type 0
HostAlong Q [] v = Q v
HostAlong Q (c ∷ cs) v = Q v × HostAlong Q cs (host_exec c v).world

-- a refusal with 12
abbrev pub is_twelve : HostAnswer → Bool
is_twelve (numbered n) = eqb n 12
is_twelve (stepped s) = eqb s.status 5 && eqb s.number 12
is_twelve (road_read a) = eqb a.number 12
is_twelve (header_read h) = eqb h.number 12
is_twelve (heading_read h) = eqb h.number 12
is_twelve (count_read c) = eqb c.number 12
is_twelve (counted c) = eqb c.number 12
is_twelve (looked_up x) = eqb x.number 12
is_twelve (requested r) = eqb r.number 12
is_twelve (progressed p) = eqb p.progress 3 && eqb p.number 12
is_twelve (near_read n) = eqb n.number 12
is_twelve (current_read c) = eqb c.number 12
is_twelve (updated u ms) = eqb u.outcome 3 && eqb u.number 12
is_twelve (predicted p samples behind) = eqb p.outcome 3 && eqb p.number 12

-- the call of demand 3 is itself refused with 12; or there is none, since it is refused at the interface
abbrev pub OwnTwelve : Meant → World → Type 0
OwnTwelve (call c) w = number (exec c w).answer ≡ 12
OwnTwelve (at_interface a) w = Unit

unfoldable pub OwnTwelves : List HostCall → World → Type 0
OwnTwelves [] w = Unit
OwnTwelves (c ∷ cs) w = (is_twelve (host_told c w) ≡ true → OwnTwelve (meant c) w) × OwnTwelves cs (after (calls_of c) w)

-- calls through C from words v beside demand 3's calls from a world w: they leave its engine's words and its arena, answer what its calls answer, meet accepted words alone, and answer 12 only
-- at the interface or where the call itself is refused with 12
pub record SameList (cs : List HostCall) (v : HostWorld) (w : World) : Type 0 where
  pub world : host_left cs v ≡ words_of (after (calls_in cs) w)
  pub answers : host_answers cs v ≡ host_tolds cs w
  pub accepted : HostAlong (λ (x : HostWorld). accepted x.words ≡ true) cs v
  pub twelves : OwnTwelves cs w

-- with no premise but that arguments, arena and horizon are of their C types
abbrev pub WordsList : Type 0
WordsList =
    (arena : List ℕ) → Bytes arena → (horizon : Float) → Single horizon → (cs : List HostCall) → AllGiven cs →
    SameList cs (host_start arena horizon) (start (pages_in arena) horizon arena)

-- ---- from words that a host kept

-- `uint32_t`
abbrev pub AreWords : List ℕ → Type 0
AreWords ws = (i : ℕ) → Word (get_or ws i 0)

-- the engine that is read from the words, over the arena
abbrev pub read_from : HostWorld → World
read_from v = record { engine = engine_of v.words; arena = v.arena }

-- from any words that are accepted, whoever wrote them, the calls are those of the engine that is read from them
abbrev pub WordsFrom : Type 0
WordsFrom = (v : HostWorld) → AreWords v.words → accepted v.words ≡ true → Bytes v.arena → (cs : List HostCall) → AllGiven cs → SameList cs v (read_from v)

-- the words that `terrain_matcher_reset` writes are a matcher's, and those that `update` leaves of a matcher's are again
pub record MatcherWords : Type 0 where
  pub fresh : Roads.is_matcher (matcher_words Matching.reset) ≡ true
  pub again : (ms ws arena : List ℕ) (h : Header) (p : Point) (way : TerrainHeading) → AreWords ms → Bytes arena
      → Roads.is_matcher ms ≡ true → Roads.is_matcher (Roads.matcher_after ms ws arena h p way) ≡ true
