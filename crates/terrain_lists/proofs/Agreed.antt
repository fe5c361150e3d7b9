-- One call through C, on the words of an engine within its types, is the call of demand 3 on that engine, and leaves the words of what that leaves (`agreed`). The idea: such words are accepted,
-- and the engine that is read from them is the one whose words they are. A refusal with 12 is one at the interface or the call's own (`twelve_own`).
use Rattle.refusal.specs.declared.Refusal.{Refusal}
use Rattle.std.specs.Prelude.{Option, Result, Some, None, Ok, Err}
use Prim.Native.Nat.{ℕ}
use mathlib.Core.Path.{◌≡◌, refl, sym}
use mathlib.Core.Bool.{Bool, true, false, true≢false}
use mathlib.Core.List.{List}
use borrow.Author.Tests.{eqb-true}
use lib.Dec.{eqb, leb}
use lib.Ieee.{Float}
use lib.IntN.{ℤ}
use Rattle.refusal.specs.Refusal.{number_of_result, number_of}
use Rattle.cache.specs.declared.Lookup.{Lookup}
use Rattle.cache.specs.declared.Progress.{Progress}
use Rattle.cache_lists.specs.Claims as CacheClaims
use Rattle.cache_lists.specs.Lists as Cached
use Rattle.matcher.specs.Calls as Matching
use Rattle.matcher.specs.declared.Outcome.TheVariants as Matched'
use Rattle.predict.specs.declared.Outcome.TheVariants as Road'
use Rattle.engine.specs.declared.Ahead.{Ahead}
use Rattle.pack.specs.declared.Header.{Header}
use Rattle.engine.specs.Calls as Engines
use Rattle.engine.specs.declared.Status.{Status}
use Rattle.terrain.specs.Host as Host
use Rattle.terrain.specs.Roads as Roads
use Rattle.words.specs.Words.{words, engine_of, accepted}
use Rattle.terrain.specs.declared.host.MatchTold.{MatchTold}
use Rattle.terrain.specs.declared.records.TerrainHeader.{TerrainHeader}
use Rattle.terrain.specs.declared.records.TerrainKey.{TerrainKey}
use Rattle.terrain.specs.declared.records.TerrainPoint.{TerrainPoint}
use Rattle.terrain.specs.declared.roads.TerrainHeading.{TerrainHeading}
use Rattle.words.proofs.BackLaws.{engine_words, accepted-words}
use Rattle.direct.specs.Lists as Direct
use Rattle.direct.specs.Story.{after}
use Rattle.direct.specs.Lists.{World, Call, Answer, exec, number}
use Rattle.terrain_lists.specs.Calls as Calls
use Rattle.terrain_lists.specs.Calls.{HostCall, host_exec, Meant, call, at_interface, meant, calls_of, answer_told, cache_told, told, told_by, host_told, words_of}
use Rattle.terrain_lists.specs.Claims.{TypedWorld, is_twelve, OwnTwelve}

-- ---- a call

abbrev Agrees : HostCall → World → Type 0
Agrees c w = host_exec c (words_of w) ≡ record { world = words_of (after (calls_of c) w); answer = host_told c w }

module _ (w : World) (t : TypedWorld w) where
  taken : accepted (words w.engine) ≡ true
  taken = accepted-words w.engine t.engine

  read : engine_of (words w.engine) ≡ w.engine
  read = engine_words w.engine t.engine

  fix_agreed : (lat lon : ℤ) (at : ℕ) → Agrees (Calls.fix lat lon at) w
  unfolding host_exec meant told after exec Host.fix
  fix_agreed lat lon at = rw (taken, read)

  lost_agreed : Agrees Calls.lost w
  unfolding host_exec meant told after exec Host.lost
  lost_agreed = rw (taken, read)

  reset_agreed : (P : List ℕ) → Agrees (Calls.reset P) w
  unfolding host_exec meant told after exec Host.reset
  reset_agreed P = rw (taken, read)

  step_agreed : Agrees Calls.step w
  unfolding host_exec meant told after exec Host.step
  step_agreed = rw (taken, read)

  deliver_agreed : (failure : ℕ) (bs : List ℕ) → Agrees (Calls.deliver failure bs) w
  unfolding host_exec meant told after exec Host.deliver
  deliver_agreed failure bs = rw (taken, read)

  step_from_agreed : (Q : List ℕ) → Agrees (Calls.step_from Q) w
  unfolding host_exec meant told after exec Host.step_from
  step_from_agreed Q = rw (taken, read)

  ahead_agreed : Agrees Calls.ahead w
  unfolding host_exec meant told after exec Host.ahead
  ahead_agreed = rw (taken, read)

  header_agreed : Agrees Calls.header w
  unfolding host_exec meant told after exec Host.header
  header_agreed = rw (taken, read)

  heading_agreed : Agrees Calls.heading w
  unfolding host_exec meant told after exec Host.heading
  heading_agreed = rw (taken, read)

  loads_agreed : Agrees Calls.loads w
  unfolding host_exec meant told after exec Host.loads
  loads_agreed = rw (taken, read)

  steps_agreed : Agrees Calls.steps w
  unfolding host_exec meant told after exec Host.steps
  steps_agreed = rw (taken, read)

  -- ---- of the cache

  capacity_agreed : Agrees Calls.cache_capacity w
  unfolding host_exec meant told after exec Cached.exec
  capacity_agreed = rw (taken, read)

  cache_loads_agreed : Agrees Calls.cache_loads w
  unfolding host_exec meant told after exec Cached.exec
  cache_loads_agreed = rw (taken, read)

  pages_agreed : (h : TerrainHeader) (key : TerrainKey) → Agrees (Calls.cache_pages h key) w
  unfolding host_exec meant told after exec Cached.exec
  pages_agreed h key = rw (taken, read)

  get_agreed : (h : TerrainHeader) (key : TerrainKey) → Agrees (Calls.cache_get h key) w
  unfolding host_exec meant told after exec Cached.exec
  get_agreed h key = rw (taken, read)

  clear_agreed : Agrees Calls.cache_clear w
  unfolding host_exec meant told after exec Cached.exec
  clear_agreed = rw (taken, read)

  fetch_agreed : (h : TerrainHeader) (key : TerrainKey) → Agrees (Calls.cache_fetch h key) w
  unfolding host_exec meant told after exec Cached.exec
  fetch_agreed h key = rw (taken, read)

  load_agreed : (h : TerrainHeader) (key : TerrainKey) (failure : ℕ) (bs : List ℕ) → Agrees (Calls.cache_load h key failure bs) w
  unfolding host_exec meant told after exec Cached.exec
  load_agreed h key failure bs = rw (taken, read)

  load_from_agreed : (h : TerrainHeader) (key : TerrainKey) (Q : List ℕ) → Agrees (Calls.cache_load_from h key Q) w
  unfolding host_exec meant told after exec Cached.exec
  load_from_agreed h key Q = rw (taken, read)

  -- ---- of the matcher and of the road

  nearby_agreed : (h : TerrainHeader) (p : TerrainPoint) → Agrees (Calls.nearby h p) w
  unfolding host_exec meant told after exec
  nearby_agreed h p = refl

  current_agreed : (ms : List ℕ) → Agrees (Calls.current ms) w
  unfolding host_exec meant told after exec
  current_agreed ms = by (Roads.is_matcher ms) refl
    where
      by : (b : Bool) → Roads.is_matcher ms ≡ b → Agrees (Calls.current ms) w
      by true e = rw e
      by false e = rw e

  update_agreed : (ms : List ℕ) (h : TerrainHeader) (p : TerrainPoint) (way : TerrainHeading) → Agrees (Calls.update ms h p way) w
  unfolding host_exec meant told after exec
  update_agreed ms h p way = by (Roads.is_matcher ms) (leb way.known 1) refl refl
    where
      by : (b c : Bool) → Roads.is_matcher ms ≡ b → leb way.known 1 ≡ c → Agrees (Calls.update ms h p way) w
      by true true e f = rw (e, f, taken, read)
      by true false e f = rw (e, f)
      by false c e f = rw e

  predict_agreed : (h : TerrainHeader) (start : MatchTold) (horizon : Float) (samples behind : List ℤ) → Agrees (Calls.predict h start horizon samples behind) w
  unfolding host_exec meant told after exec
  predict_agreed h start horizon samples behind = by (Roads.is_given start) refl
    where
      by : (b : Bool) → Roads.is_given start ≡ b → Agrees (Calls.predict h start horizon samples behind) w
      by true e = rw (e, taken, read)
      by false e = rw e

  pub agreed : (c : HostCall) → Agrees c w
  agreed (Calls.fix lat lon at) = fix_agreed lat lon at
  agreed Calls.lost = lost_agreed
  agreed (Calls.reset P) = reset_agreed P
  agreed Calls.step = step_agreed
  agreed (Calls.deliver failure bs) = deliver_agreed failure bs
  agreed (Calls.step_from Q) = step_from_agreed Q
  agreed Calls.ahead = ahead_agreed
  agreed Calls.header = header_agreed
  agreed Calls.heading = heading_agreed
  agreed Calls.loads = loads_agreed
  agreed Calls.steps = steps_agreed
  agreed Calls.cache_capacity = capacity_agreed
  agreed Calls.cache_loads = cache_loads_agreed
  agreed (Calls.cache_pages h key) = pages_agreed h key
  agreed (Calls.cache_get h key) = get_agreed h key
  agreed Calls.cache_clear = clear_agreed
  agreed (Calls.cache_fetch h key) = fetch_agreed h key
  agreed (Calls.cache_load h key failure bs) = load_agreed h key failure bs
  agreed (Calls.cache_load_from h key Q) = load_from_agreed h key Q
  agreed (Calls.nearby h p) = nearby_agreed h p
  agreed (Calls.current ms) = current_agreed ms
  agreed (Calls.update ms h p way) = update_agreed ms h p way
  agreed (Calls.predict h start horizon samples behind) = predict_agreed h start horizon samples behind

-- ---- a refusal with 12

-- of a number that is told as it is
twelve : (n : ℕ) → eqb n 12 ≡ true → n ≡ 12
twelve n e = eqb-true n 12 e

not_zero : {A : Type 0} → eqb 0 12 ≡ true → A
not_zero e = absurd (true≢false (sym e))

cached_twelve : (a : Cached.Answer) → is_twelve (cache_told a) ≡ true → CacheClaims.number a ≡ 12
cached_twelve (Cached.counted (Ok n)) e = not_zero e
cached_twelve (Cached.counted (Err n)) e = twelve (number_of n) e
cached_twelve (Cached.found (Ok (Lookup.Ready first len))) e = not_zero e
cached_twelve (Cached.found (Ok Lookup.Missing)) e = not_zero e
cached_twelve (Cached.found (Ok Lookup.Absent)) e = not_zero e
cached_twelve (Cached.found (Err n)) e = twelve (number_of n) e
cached_twelve (Cached.asked (Ok None)) e = not_zero e
cached_twelve (Cached.asked (Ok (Some (offset, len)))) e = not_zero e
cached_twelve (Cached.asked (Err n)) e = twelve (number_of n) e
cached_twelve (Cached.stepped (Ok Progress.Done)) e = not_zero e
cached_twelve (Cached.stepped (Ok Progress.More)) e = not_zero e
cached_twelve (Cached.stepped (Ok (Progress.Failed n))) e = absurd (true≢false (sym e))
cached_twelve (Cached.stepped (Err n)) e = twelve (number_of n) e
cached_twelve (Cached.cleared (Ok tt)) e = not_zero e
cached_twelve (Cached.cleared (Err n)) e = twelve (number_of n) e

answer_twelve : (a : Answer) → is_twelve (answer_told a) ≡ true → number a ≡ 12
answer_twelve (Direct.taken (Ok tt)) e = not_zero e
answer_twelve (Direct.taken (Err n)) e = twelve (number_of n) e
answer_twelve (Direct.status (Ok Status.Idle)) e = not_zero e
answer_twelve (Direct.status (Ok Status.Working)) e = not_zero e
answer_twelve (Direct.status (Ok Status.NoPack)) e = not_zero e
answer_twelve (Direct.status (Ok Status.OffMap)) e = not_zero e
answer_twelve (Direct.status (Ok (Status.Fetch offset len))) e = not_zero e
answer_twelve (Direct.status (Err n)) e = twelve (number_of n) e
answer_twelve (Direct.known (Ok false)) e = not_zero e
answer_twelve (Direct.known (Ok true)) e = not_zero e
answer_twelve (Direct.known (Err n)) e = twelve (number_of n) e
answer_twelve (Direct.headed (Ok None)) e = not_zero e
answer_twelve (Direct.headed (Ok (Some d))) e = not_zero e
answer_twelve (Direct.headed (Err n)) e = twelve (number_of n) e
answer_twelve (Direct.counted (Ok n)) e = not_zero e
answer_twelve (Direct.counted (Err n)) e = twelve (number_of n) e
answer_twelve (Direct.cached a) e = cached_twelve a e
answer_twelve (Direct.around (Ok tt)) e = not_zero e
answer_twelve (Direct.around (Err n)) e = twelve (number_of n) e
answer_twelve (Direct.holding (Ok None)) e = absurd (true≢false (sym e))
answer_twelve (Direct.holding (Ok (Some m))) e = not_zero e
answer_twelve (Direct.holding (Err n)) e = twelve (number_of n) e
answer_twelve (Direct.matched (Ok (Matched'.Found f)) m) e = absurd (true≢false (sym e))
answer_twelve (Direct.matched (Ok Matched'.Nothing) m) e = absurd (true≢false (sym e))
answer_twelve (Direct.matched (Ok (Matched'.Need key)) m) e = absurd (true≢false (sym e))
answer_twelve (Direct.matched (Err n) m) e = twelve (number_of n) e
answer_twelve (Direct.predicted (Ok (Road'.Road p)) samples behind) e = absurd (true≢false (sym e))
answer_twelve (Direct.predicted (Ok (Road'.Need key)) samples behind) e = absurd (true≢false (sym e))
answer_twelve (Direct.predicted (Ok Road'.Rematch) samples behind) e = absurd (true≢false (sym e))
answer_twelve (Direct.predicted (Err n) samples behind) e = twelve (number_of n) e

ahead_twelve : (x : Result Ahead Refusal) → eqb (Host.ahead_told x).number 12 ≡ true → number_of_result (Direct.tells x) ≡ 12
unfolding Host.road_told
ahead_twelve (Ok a) e = not_zero e
ahead_twelve (Err n) e = twelve (number_of n) e

header_twelve : (x : Result (Option Header) Refusal) → eqb (Host.header_told x).number 12 ≡ true → number_of_result (Direct.tells_some x) ≡ 12
header_twelve (Ok None) e = not_zero e
header_twelve (Ok (Some h)) e = not_zero e
header_twelve (Err n) e = twelve (number_of n) e

near_twelve : (a : Result Unit Refusal) → eqb (Roads.answer_number a) 12 ≡ true → number_of_result a ≡ 12
near_twelve (Ok tt) e = not_zero e
near_twelve (Err n) e = twelve (number_of n) e

told_twelve : (c : Call) (w : World) → is_twelve (told c w) ≡ true → number (exec c w).answer ≡ 12
unfolding told exec Host.road_told
told_twelve (Direct.read Direct.its_ahead) w e = ahead_twelve (Engines.ahead w.engine w.arena) e
told_twelve (Direct.read Direct.its_header) w e = header_twelve (Engines.header w.engine w.arena) e
told_twelve (Direct.read Direct.its_heading) w e = answer_twelve (exec (Direct.read Direct.its_heading) w).answer e
told_twelve (Direct.read Direct.its_loads) w e = answer_twelve (exec (Direct.read Direct.its_loads) w).answer e
told_twelve (Direct.read Direct.its_steps) w e = answer_twelve (exec (Direct.read Direct.its_steps) w).answer e
told_twelve (Direct.nearby h p) w e = near_twelve (Matching.nearby h p).answer e
told_twelve (Direct.fix f) w e = answer_twelve (exec (Direct.fix f) w).answer e
told_twelve Direct.lost w e = answer_twelve (exec Direct.lost w).answer e
told_twelve (Direct.reset P) w e = answer_twelve (exec (Direct.reset P) w).answer e
told_twelve Direct.step w e = answer_twelve (exec Direct.step w).answer e
told_twelve (Direct.deliver failure bs) w e = answer_twelve (exec (Direct.deliver failure bs) w).answer e
told_twelve (Direct.step_from Q) w e = answer_twelve (exec (Direct.step_from Q) w).answer e
told_twelve (Direct.on_cache c) w e = answer_twelve (exec (Direct.on_cache c) w).answer e
told_twelve (Direct.current m) w e = answer_twelve (exec (Direct.current m) w).answer e
told_twelve (Direct.update m h p way) w e = answer_twelve (exec (Direct.update m h p way) w).answer e
told_twelve (Direct.predict h m horizon samples behind) w e = answer_twelve (exec (Direct.predict h m horizon samples behind) w).answer e

own_by : (m : Meant) (w : World) → is_twelve (told_by m w) ≡ true → OwnTwelve m w
own_by (call c) w e = told_twelve c w e
own_by (at_interface a) w e = tt

pub twelve_own : (c : HostCall) (w : World) → is_twelve (host_told c w) ≡ true → OwnTwelve (meant c) w
twelve_own c w e = own_by (meant c) w e
