-- The functions of include/terrain.h on an engine's words as data, each with its arguments, and what a list of them does to the words and the arena: by the definitions that their contracts name
-- (Host, Parts and Roads of crate terrain), and no others. Each call gets the words and the arena that the last one left. Beside each call the call of demand 3 that it is (`meant`).
-- `terrain_new` and `terrain_matcher_reset` take no state and make one, and `terrain_from_e7` takes none: they are no calls of a list.
use Rattle.std.specs.Prelude.{ℕ, ◌/◌, min, ◌&&◌, cond, List, [], ◌∷◌, ◌++◌, leb, ℤ, Float, length, get_or}
use Rattle.cache_lists.specs.Lists as Cached
use Rattle.matcher.specs.Calls as Matching
use Rattle.engine.specs.Calls as Engines
use Rattle.terrain.specs.Host as Host
use Rattle.terrain.specs.Parts as Parts
use Rattle.terrain.specs.Records.{header_of, key_of, point_of, no_key}
use Rattle.terrain.specs.Roads as Roads
use Rattle.words.specs.Typed.{Byte, Signed, TypedKey}
use Rattle.words.specs.Words.{words, matcher_of, matcher_words}
use Rattle.terrain.specs.declared.host.AheadTold.{AheadTold}
use Rattle.terrain.specs.declared.host.CountTold.{CountTold}
use Rattle.terrain.specs.declared.host.HeaderTold.{HeaderTold}
use Rattle.terrain.specs.declared.host.HeadingTold.{HeadingTold}
use Rattle.terrain.specs.declared.host.MatchTold.{MatchTold}
use Rattle.terrain.specs.declared.host.StepTold.{StepTold}
use Rattle.terrain.specs.declared.parts.TerrainCount.{TerrainCount}
use Rattle.terrain.specs.declared.parts.TerrainLookup.{TerrainLookup}
use Rattle.terrain.specs.declared.parts.TerrainProgress.{TerrainProgress}
use Rattle.terrain.specs.declared.parts.TerrainRequest.{TerrainRequest}
use Rattle.terrain.specs.declared.records.TerrainHeader.{TerrainHeader}
use Rattle.terrain.specs.declared.records.TerrainKey.{TerrainKey}
use Rattle.terrain.specs.declared.records.TerrainPoint.{TerrainPoint}
use Rattle.terrain.specs.declared.roads.TerrainCurrent.{TerrainCurrent}
use Rattle.terrain.specs.declared.roads.TerrainHeading.{TerrainHeading}
use Rattle.terrain.specs.declared.roads.TerrainNear.{TerrainNear}
use Rattle.terrain.specs.declared.roads.TerrainPredicted.{TerrainPredicted}
use Rattle.terrain.specs.declared.roads.TerrainUpdated.{TerrainUpdated}
use Rattle.direct.specs.Lists as Direct
use Rattle.direct.specs.Story.{after}
use Rattle.direct.specs.Lists.{World, Call, Answer, its_ahead, its_header, its_heading, its_loads, its_steps, exec}

-- ---- the calls

-- what they work on
pub record HostWorld : Type 0 where
  pub words : List ℕ
  pub arena : List ℕ

-- in the order of include/terrain.h. A reset names the pack that is read from then on, as in demand 3: no argument of the function. `current` and `update` are given a matcher's words;
-- `predict` a match by value and the heights of both arrays
pub data HostCall : Type 0 where
  fix : ℤ → ℤ → ℕ → HostCall
  lost : HostCall
  reset : List ℕ → HostCall
  step : HostCall
  deliver : ℕ → List ℕ → HostCall
  step_from : List ℕ → HostCall
  ahead : HostCall
  header : HostCall
  heading : HostCall
  loads : HostCall
  steps : HostCall
  cache_capacity : HostCall
  cache_loads : HostCall
  cache_pages : TerrainHeader → TerrainKey → HostCall
  cache_get : TerrainHeader → TerrainKey → HostCall
  cache_clear : HostCall
  cache_fetch : TerrainHeader → TerrainKey → HostCall
  cache_load : TerrainHeader → TerrainKey → ℕ → List ℕ → HostCall
  cache_load_from : TerrainHeader → TerrainKey → List ℕ → HostCall
  nearby : TerrainHeader → TerrainPoint → HostCall
  current : List ℕ → HostCall
  update : List ℕ → TerrainHeader → TerrainPoint → TerrainHeading → HostCall
  predict : TerrainHeader → MatchTold → Float → List ℤ → List ℤ → HostCall

-- what they answer; `update` writes the matcher's words and `predict` both arrays beside it
pub data HostAnswer : Type 0 where
  numbered : ℕ → HostAnswer
  stepped : StepTold → HostAnswer
  road_read : AheadTold → HostAnswer
  header_read : HeaderTold → HostAnswer
  heading_read : HeadingTold → HostAnswer
  count_read : CountTold → HostAnswer
  counted : TerrainCount → HostAnswer
  looked_up : TerrainLookup → HostAnswer
  requested : TerrainRequest → HostAnswer
  progressed : TerrainProgress → HostAnswer
  near_read : TerrainNear → HostAnswer
  current_read : TerrainCurrent → HostAnswer
  updated : TerrainUpdated → List ℕ → HostAnswer
  predicted : TerrainPredicted → List ℤ → List ℤ → HostAnswer

-- what a call leaves, and what it answers
pub record HostDone : Type 0 where
  pub world : HostWorld
  pub answer : HostAnswer

-- ---- what a call does

abbrev pub leaves : List ℕ → List ℕ → HostAnswer → HostDone
leaves ws arena a = record { world = record { words = ws; arena = arena }; answer = a }

abbrev pub called : HostWorld → Host.Called → HostDone
called v c = leaves c.words v.arena (numbered c.answer)

abbrev pub moved : HostWorld → Host.Moved → HostDone
moved v m = leaves m.words v.arena (stepped m.answer)

abbrev pub delivered : Host.Delivered → HostDone
delivered d = leaves d.words d.arena (stepped d.answer)

abbrev pub same : HostWorld → HostAnswer → HostDone
same v a = leaves v.words v.arena a

unfoldable pub host_exec : HostCall → HostWorld → HostDone
host_exec (fix lat lon at) v = called v (Host.fix v.words v.arena (Host.fix_of lat lon at))
host_exec lost v = called v (Host.lost v.words v.arena)
host_exec (reset P) v = called v (Host.reset v.words v.arena)
host_exec step v = moved v (Host.step v.words v.arena)
host_exec (deliver failure bs) v = delivered (Host.deliver v.words v.arena failure bs)
host_exec (step_from Q) v = delivered (Host.step_from v.words v.arena Q)
host_exec ahead v = same v (road_read (Host.ahead v.words v.arena))
host_exec header v = same v (header_read (Host.header v.words v.arena))
host_exec heading v = same v (heading_read (Host.heading v.words v.arena))
host_exec loads v = same v (count_read (Host.loads v.words v.arena))
host_exec steps v = same v (count_read (Host.steps v.words v.arena))
host_exec cache_capacity v = same v (counted (Parts.count_out (Parts.capacity v.words v.arena)))
host_exec cache_loads v = same v (counted (Parts.count_out (Parts.loads v.words v.arena)))
host_exec (cache_pages h key) v = same v (counted (Parts.count_out (Parts.pages v.words v.arena (header_of h) (key_of key))))
host_exec (cache_get h key) v =
    let r = Parts.get v.words v.arena (header_of h) (key_of key) in leaves (Parts.after v.words r.cache) v.arena (looked_up (Parts.lookup_out r.answer))
host_exec cache_clear v =
    let r = Parts.clear v.words v.arena in leaves (Parts.after v.words r.cache) v.arena (numbered (Parts.clearing_out r.answer))
host_exec (cache_fetch h key) v = same v (requested (Parts.request_out (Parts.fetch v.words v.arena (header_of h) (key_of key))))
host_exec (cache_load h key failure bs) v =
    let r = Parts.load v.words v.arena (header_of h) (key_of key) failure bs in
    leaves (Parts.after v.words r.cache) r.arena (progressed (Parts.progress_out r.answer))
host_exec (cache_load_from h key Q) v =
    let r = Parts.load_from v.words v.arena (header_of h) (key_of key) Q in
    leaves (Parts.after v.words r.cache) r.arena (progressed (Parts.progress_out r.answer))
host_exec (nearby h p) v = same v (near_read (Roads.near_out (Matching.nearby (header_of h) (point_of p))))
host_exec (current ms) v = same v (current_read (Roads.current_out (Roads.current ms)))
host_exec (update ms h p way) v =
    leaves (Roads.engine_after ms v.words v.arena (header_of h) (point_of p) way) v.arena
    (updated (Roads.updated_out (Roads.update ms v.words v.arena (header_of h) (point_of p) way).answer)
    (Roads.matcher_after ms v.words v.arena (header_of h) (point_of p) way))
host_exec (predict h start horizon samples behind) v =
    let x = Roads.predict v.words v.arena (header_of h) start horizon samples behind in
    leaves (Roads.predict_after v.words v.arena (header_of h) start horizon samples behind) v.arena
    (predicted (Roads.predicted_out x.predicted.answer) x.samples x.behind)

-- ---- the call of demand 3 that it is

-- or, where it is refused at the interface before there is a call, its answer: 12, and what was lent stays as it was
pub data Meant : Type 0 where
  call : Call → Meant
  at_interface : HostAnswer → Meant

-- at the interface: words that are no matcher's, a heading that is neither none nor degrees, a match that is none
unfoldable pub meant : HostCall → Meant
meant (fix lat lon at) = call (Direct.fix (Host.fix_of lat lon at))
meant lost = call Direct.lost
meant (reset P) = call (Direct.reset P)
meant step = call Direct.step
meant (deliver failure bs) = call (Direct.deliver failure bs)
meant (step_from Q) = call (Direct.step_from Q)
meant ahead = call (Direct.read its_ahead)
meant header = call (Direct.read its_header)
meant heading = call (Direct.read its_heading)
meant loads = call (Direct.read its_loads)
meant steps = call (Direct.read its_steps)
meant cache_capacity = call (Direct.on_cache Cached.capacity)
meant cache_loads = call (Direct.on_cache Cached.loads)
meant (cache_pages h key) = call (Direct.on_cache (Cached.pages (header_of h) (key_of key)))
meant (cache_get h key) = call (Direct.on_cache (Cached.get (header_of h) (key_of key)))
meant cache_clear = call (Direct.on_cache Cached.clear)
meant (cache_fetch h key) = call (Direct.on_cache (Cached.fetch (header_of h) (key_of key)))
meant (cache_load h key failure bs) = call (Direct.on_cache (Cached.load (header_of h) (key_of key) failure bs))
meant (cache_load_from h key Q) = call (Direct.on_cache (Cached.load_from (header_of h) (key_of key) Q))
meant (nearby h p) = call (Direct.nearby (header_of h) (point_of p))
meant (current ms) =
    cond (Roads.is_matcher ms) (call (Direct.current (matcher_of ms 0))) (at_interface (current_read (record { number = 12; matched = Host.unmatched })))
meant (update ms h p way) =
    cond (Roads.is_matcher ms && leb way.known 1) (call (Direct.update (matcher_of ms 0) (header_of h) (point_of p) (Roads.heading_of way)))
    (at_interface (updated (Roads.no_match 12 3 no_key) ms))
meant (predict h start horizon samples behind) =
    cond (Roads.is_given start) (call (Direct.predict (header_of h) (Roads.given start) horizon samples behind))
    (at_interface (predicted (Roads.no_road 12 3 no_key) samples behind))

abbrev pub calls_by : Meant → List Call
calls_by (call c) = c ∷ []
calls_by (at_interface a) = []

-- one call, or none
abbrev pub calls_of : HostCall → List Call
calls_of c = calls_by (meant c)

-- ---- its answer, as C is told it

abbrev pub cache_told : Cached.Answer → HostAnswer
cache_told (Cached.counted n) = counted (Parts.count_out n)
cache_told (Cached.found x) = looked_up (Parts.lookup_out x)
cache_told (Cached.asked r) = requested (Parts.request_out r)
cache_told (Cached.stepped p) = progressed (Parts.progress_out p)
cache_told (Cached.cleared c) = numbered (Parts.clearing_out c)

abbrev pub answer_told : Answer → HostAnswer
answer_told (Direct.taken t) = numbered (Host.taken_number t)
answer_told (Direct.status s) = stepped (Host.status_told s)
answer_told (Direct.known k) = count_read (Host.known_told k)
answer_told (Direct.headed x) = heading_read (Host.heading_told x)
answer_told (Direct.counted n) = count_read (Host.count_told n)
answer_told (Direct.cached a) = cache_told a
answer_told (Direct.around a) = numbered (Roads.answer_number a)
answer_told (Direct.holding c) = current_read (Roads.current_out c)
answer_told (Direct.matched x m) = updated (Roads.updated_out x) (matcher_words m)
answer_told (Direct.predicted x samples behind) = predicted (Roads.predicted_out x) samples behind

-- of the road, the header and the keys nearby the function answers more than demand 3's list keeps: that is told
unfoldable pub told : Call → World → HostAnswer
told (Direct.read its_ahead) w = road_read (Host.ahead_told (Engines.ahead w.engine w.arena))
told (Direct.read its_header) w =
    header_read (Host.header_told (Engines.header w.engine w.arena))
told (Direct.nearby h p) w = near_read (Roads.near_out (Matching.nearby h p))
told (Direct.read its_heading) w = answer_told (exec (Direct.read its_heading) w).answer
told (Direct.read its_loads) w = answer_told (exec (Direct.read its_loads) w).answer
told (Direct.read its_steps) w = answer_told (exec (Direct.read its_steps) w).answer
told (Direct.fix f) w = answer_told (exec (Direct.fix f) w).answer
told Direct.lost w = answer_told (exec Direct.lost w).answer
told (Direct.reset P) w = answer_told (exec (Direct.reset P) w).answer
told Direct.step w = answer_told (exec Direct.step w).answer
told (Direct.deliver failure bs) w = answer_told (exec (Direct.deliver failure bs) w).answer
told (Direct.step_from Q) w = answer_told (exec (Direct.step_from Q) w).answer
told (Direct.on_cache c) w = answer_told (exec (Direct.on_cache c) w).answer
told (Direct.current m) w = answer_told (exec (Direct.current m) w).answer
told (Direct.update m h p way) w = answer_told (exec (Direct.update m h p way) w).answer
told (Direct.predict h m horizon samples behind) w = answer_told (exec (Direct.predict h m horizon samples behind) w).answer

abbrev pub told_by : Meant → World → HostAnswer
told_by (call c) w = told c w
told_by (at_interface a) w = a

-- what a call through C is to answer in a world
abbrev pub host_told : HostCall → World → HostAnswer
host_told c w = told_by (meant c) w

-- ---- within their types

abbrev pub Bytes : List ℕ → Type 0
Bytes bs = (i : ℕ) → Byte (get_or bs i 0)

abbrev pub TypedCached : Cached.Call → Type 0
TypedCached (Cached.load h key failure bs) = TypedKey key × Bytes bs
TypedCached (Cached.load_from h key Q) = TypedKey key × Bytes Q
TypedCached Cached.capacity = Unit
TypedCached Cached.loads = Unit
TypedCached (Cached.pages h key) = Unit
TypedCached (Cached.get h key) = Unit
TypedCached (Cached.fetch h key) = Unit
TypedCached Cached.clear = Unit

-- of a call of demand 3: those of its arguments that it can leave in the engine or the arena
abbrev pub TypedCall : Call → Type 0
TypedCall (Direct.fix f) = Signed f.lat × Signed f.lon
TypedCall (Direct.deliver failure bs) = Bytes bs
TypedCall (Direct.step_from Q) = Bytes Q
TypedCall (Direct.on_cache c) = TypedCached c
TypedCall Direct.lost = Unit
TypedCall (Direct.reset P) = Unit
TypedCall Direct.step = Unit
TypedCall (Direct.read r) = Unit
TypedCall (Direct.nearby h p) = Unit
TypedCall (Direct.current m) = Unit
TypedCall (Direct.update m h p way) = Unit
TypedCall (Direct.predict h m horizon samples behind) = Unit

abbrev pub GivenBy : Meant → Type 0
GivenBy (call c) = TypedCall c
GivenBy (at_interface a) = Unit

-- what the C types say of those arguments: `int32_t` of a fix, `uint8_t` of bytes, `uint16_t` of a key. Nothing rests on what they say of the others
abbrev pub Given : HostCall → Type 0
Given c = GivenBy (meant c)

-- ---- lists

unfoldable pub AllTyped : List Call → Type 0
AllTyped [] = Unit
AllTyped (c ∷ cs) = TypedCall c × AllTyped cs

unfoldable pub AllGiven : List HostCall → Type 0
AllGiven [] = Unit
AllGiven (c ∷ cs) = Given c × AllGiven cs

-- the list of demand 3 that a list of calls through C is
unfoldable pub calls_in : List HostCall → List Call
calls_in [] = []
calls_in (c ∷ cs) = calls_of c ++ calls_in cs

-- what a list of calls through C leaves and answers
unfoldable pub host_left : List HostCall → HostWorld → HostWorld
host_left [] v = v
host_left (c ∷ cs) v = host_left cs (host_exec c v).world

unfoldable pub host_answers : List HostCall → HostWorld → List HostAnswer
host_answers [] v = []
host_answers (c ∷ cs) v = (host_exec c v).answer ∷ host_answers cs (host_exec c v).world

-- what it is to answer, each in the world that the calls before it left
unfoldable pub host_tolds : List HostCall → World → List HostAnswer
host_tolds [] w = []
host_tolds (c ∷ cs) w = host_told c w ∷ host_tolds cs (after (calls_of c) w)

-- the words of a world's engine, and its arena
abbrev pub words_of : World → HostWorld
words_of w = record { words = words w.engine; arena = w.arena }

-- an engine just made through C, over an arena
abbrev pub host_start : List ℕ → Float → HostWorld
host_start arena horizon = record { words = Host.new arena horizon; arena = arena }

-- as many pages as the arena has, up to 96
abbrev pub pages_in : List ℕ → ℕ
pages_in arena = min (length arena / 8192) 96
