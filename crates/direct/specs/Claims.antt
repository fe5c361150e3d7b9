-- What is claimed of every list of calls, from a fresh engine of any page count and horizon over any arena: demand 3. `AllFair` are its premises,
-- and there are no others. `AllSafe` is claimed with none.
use Rattle.refusal.specs.declared.Refusal.{Refusal}
use Rattle.std.specs.Prelude.{Result, Ok, Err, ℕ, ◌+◌, ◌*◌, ◌≤◌, ◌≡◌, Bool, false, ◌&&◌, not, List, [], ◌∷◌, eqb, Float, ℤ, pos, length, take, drop, replicate}
use Rattle.pack.specs.declared.Header.{Header}
use Rattle.pack.specs.declared.TileKey.{TileKey}
use Rattle.geo.specs.declared.Point.{Point}
use Rattle.cache.specs.declared.Cache.{Cache}
use Rattle.cache.specs.declared.look.Landing.TheVariants as Landing
use Rattle.cache.specs.Direct.{Agree, look}
use Rattle.cache.specs.Lookups.{lands_on, len_at}
use Rattle.cache_lists.specs.Lists as CacheCalls
use Rattle.cache_lists.specs.Claims as Cached
use Rattle.cache_lists.specs.Claims.{Parsed, Apart, AllLive, Passed, Kind, keeps, brings, MayWrite, Written, SameBytes, ShortLoad, Read}
use Rattle.matcher.specs.declared.Heading.{Heading}
use Rattle.matcher.specs.declared.Matched.{Matched}
use Rattle.matcher.specs.Gather as Gather
use Rattle.matcher.specs.State.{counts_ok, key_ok}
use Rattle.matcher.specs.declared.Matcher.{Matcher}
use Rattle.predict.specs.Predict as Predict
use Rattle.engine.specs.Fixes.{place_of}
use Rattle.engine.specs.Calls as Engines
use Rattle.engine.specs.declared.Engine.{Engine}
use Rattle.engine.specs.declared.Status.{Status}
pub use Rattle.engine_states.specs.Tasks.{is_open, open_read}
use Rattle.direct.specs.Lists.{World, Call, fix, lost, reset, step, deliver, step_from, read, on_cache, nearby, current, update, predict, cache_of, number, exec, start, Along}
use Rattle.direct.specs.Finished.{Shown, again, is_match, is_road, shown, Task, none, off_map, match, road, task_of}
use Rattle.direct.specs.Direct.{Made, Told, Lookup, directly, new_direct, pack_after, direct_shows}

-- ---- what the direct engine is told

abbrev pub is_fetching : Engine → Bool
is_fetching e = is_open e.shared.cache.pending

abbrev pub told_of : World → Call → Told
told_of w c =
    let d = exec c w in record {
      refused = not (eqb (number d.answer) 0);
      fetching = is_fetching d.world.engine;
      match = is_match (shown w c);
      road = is_road (shown w c);
    }

unfoldable pub tolds : List Call → World → List Told
tolds [] w = []
tolds (c ∷ cs) w = told_of w c ∷ tolds cs (exec c w).world

unfoldable pub shows : List Call → World → List Shown
shows [] w = []
shows (c ∷ cs) w = shown w c ∷ shows cs (exec c w).world

-- ---- demand 3's premises, for the pack P: "each delivery that succeeds, the lent-pack form's own included, holds what the open fetch asks for in
-- one pack, which changes only at a reset; a header, entry or tile given to a call is that pack's"

-- bytes that answer a fetch are what the pack has there
abbrev pub FairBytes : List ℕ → Result Status Refusal → List ℕ → Type 0
FairBytes P (Ok (Status.Fetch offset len)) bs = length bs ≡ len → (offset + len ≤ length P) × (bs ≡ take len (drop offset P))
FairBytes P (Ok Status.Idle) bs = Unit
FairBytes P (Ok Status.Working) bs = Unit
FairBytes P (Ok Status.NoPack) bs = Unit
FairBytes P (Ok Status.OffMap) bs = Unit
FairBytes P (Err e) bs = Unit

-- what a lent pack yields for a fetch is what the pack has there
abbrev pub FairLent : List ℕ → Result Status Refusal → List ℕ → Type 0
FairLent P (Ok (Status.Fetch offset len)) Q =
    offset + len ≤ length Q → (offset + len ≤ length P) × (take len (drop offset Q) ≡ take len (drop offset P))
FairLent P (Ok Status.Idle) Q = Unit
FairLent P (Ok Status.Working) Q = Unit
FairLent P (Ok Status.NoPack) Q = Unit
FairLent P (Ok Status.OffMap) Q = Unit
FairLent P (Err e) Q = Unit

-- nothing is asked of a call that gives nothing, of a read that failed, nor of a delivery that is refused
abbrev pub Fair : List ℕ → World → Call → Type 0
Fair P w (deliver failure bs) = number (exec (deliver failure bs) w).answer ≡ 0 → failure ≡ 0 → FairBytes P (open_read w.engine) bs
Fair P w (step_from Q) = FairLent P (Engines.step w.engine w.arena).answer Q
Fair P w (on_cache c) = Cached.Fair P (cache_of w) c
Fair P w (nearby h p) = Parsed P h
Fair P w (update m h p heading) = Parsed P h
Fair P w (predict h m horizon samples behind) = Parsed P h
Fair P w (fix f) = Unit
Fair P w lost = Unit
Fair P w (reset Q) = Unit
Fair P w step = Unit
Fair P w (read r) = Unit
Fair P w (current m) = Unit

-- along a list, each in the world that the calls before it left, for the pack of that time
unfoldable pub AllFair : List ℕ → List Call → World → Type 0
AllFair P [] w = Unit
AllFair P (c ∷ cs) w = Fair P w c × AllFair (pack_after P c (told_of w c)) cs (exec c w).world

-- ---- 1: finished matches and roads are the direct engine's

abbrev pub made_of : ℕ → Float → Made
made_of n horizon = record { pages = n; horizon = horizon }

-- a lookup that gives what the direct one does wherever that has an answer
abbrev pub Answers : ℕ → Lookup → Type 0
Answers n at = (P : List ℕ) → Agree (directly n P) (at P)

-- what the direct engine shows of each call is what the call finished. It is so whatever a lookup without an answer is taken to give: so no
-- finished match or road rests on one
abbrev pub AllSame : Type 0
AllSame =
    (n : ℕ) → n ≤ 96 → (horizon : Float) (arena P : List ℕ) (cs : List Call) → AllFair P cs (start n horizon arena) → (at : Lookup) → Answers n at →
    direct_shows at (made_of n horizon) P cs (tolds cs (start n horizon arena)) new_direct ≡ shows cs (start n horizon arena)

-- document 01's direct engine itself
abbrev pub AllDirect : Type 0
AllDirect =
    (n : ℕ) → n ≤ 96 → (horizon : Float) (arena P : List ℕ) (cs : List Call) → AllFair P cs (start n horizon arena) →
    direct_shows (directly n) (made_of n horizon) P cs (tolds cs (start n horizon arena)) new_direct ≡ shows cs (start n horizon arena)

-- ---- 2: with no premise

unfoldable pub AllOf : (TileKey → Type 0) → List TileKey → Type 0
AllOf Q [] = Unit
AllOf Q (key ∷ keys) = Q key × AllOf Q keys

-- a lookup of the key answers a run that lies in the arena and passes `Tile::parse` for it
pub record HandsOut (c : Cache) (arena : List ℕ) (h : Header) (key : TileKey) : Type 0 where
  pub first : ℕ
  pub lands : lands_on c key ≡ Landing.At first
  pub passed : Passed arena h key first (len_at c first)

-- the keys of the tiles that a match found, and a road
abbrev pub match_keys : Matcher → Cache → List ℕ → Header → Point → Heading → List TileKey
match_keys m c arena h p heading = (Gather.run_over (look c arena h.tile) m h p heading).found

abbrev pub road_keys : Cache → List ℕ → Header → Matched → Float → List ℤ → List ℤ → List TileKey
road_keys c arena h m horizon samples behind = (Predict.predict_over (look c arena h.tile) c.pages.count h m horizon samples behind).carried

abbrev pub task_hands : Task → Engine → List ℕ → Type 0
task_hands none e arena = Unit
task_hands (off_map f) e arena = Unit
task_hands (match f) e arena =
    let c = e.shared.cache in
    let h = e.shared.header in
    AllOf (HandsOut c arena h) (match_keys e.follower.matcher c arena h (place_of f) e.follower.sight.heading)
task_hands (road f found) e arena =
    let c = e.shared.cache in
    let h = e.shared.header in
    AllOf (HandsOut c arena h) (road_keys c arena h found e.follower.horizon_m (replicate 501 (pos 0)) (replicate 11 (pos 0)))

-- "hands out a tile that fails `Tile::parse` for its key": every run that a lookup of the call answers, inside steps too
abbrev pub HandedOut : World → Call → Type 0
HandedOut w step = task_hands (task_of w.engine) w.engine w.arena
HandedOut w (step_from Q) = task_hands (task_of w.engine) w.engine w.arena
HandedOut w (on_cache c) = Cached.HandedOut (cache_of w) c
HandedOut w (update m h p heading) =
    let c = w.engine.shared.cache in AllOf (HandsOut c w.arena h) (match_keys m c w.arena h p heading)
HandedOut w (predict h m horizon samples behind) =
    let c = w.engine.shared.cache in AllOf (HandsOut c w.arena h) (road_keys c w.arena h m horizon samples behind)
HandedOut w (fix f) = Unit
HandedOut w lost = Unit
HandedOut w (reset P) = Unit
HandedOut w (deliver failure bs) = Unit
HandedOut w (read r) = Unit
HandedOut w (nearby h p) = Unit
HandedOut w (current m) = Unit

abbrev pub reads_of : Result Status Refusal → List Read
reads_of (Ok (Status.Fetch offset len)) = record { offset = offset; len = len } ∷ []
reads_of (Ok Status.Idle) = []
reads_of (Ok Status.Working) = []
reads_of (Ok Status.NoPack) = []
reads_of (Ok Status.OffMap) = []
reads_of (Err e) = []

-- of the lent-pack form: what its step asks for, and what is asked for still once that was delivered
abbrev pub lent_reads : Result Status Refusal → Result Status Refusal → List Read
lent_reads (Ok (Status.Fetch offset len)) after = record { offset = offset; len = len } ∷ reads_of after
lent_reads (Ok Status.Idle) after = []
lent_reads (Ok Status.Working) after = []
lent_reads (Ok Status.NoPack) after = []
lent_reads (Ok Status.OffMap) after = []
lent_reads (Err e) after = []

-- the reads that a call asks for, or makes of a lent pack
abbrev pub reads : World → Call → List Read
reads w step = reads_of (Engines.step w.engine w.arena).answer
reads w (deliver failure bs) = reads_of (Engines.deliver w.engine w.arena failure bs).answer
reads w (step_from Q) = lent_reads (Engines.step w.engine w.arena).answer (Engines.step_from w.engine w.arena Q).answer
reads w (on_cache c) = Cached.reads (cache_of w) c
reads w (fix f) = []
reads w lost = []
reads w (reset P) = []
reads w (read r) = []
reads w (nearby h p) = []
reads w (current m) = []
reads w (update m h p heading) = []
reads w (predict h m horizon samples behind) = []

abbrev pub SameFor : Result Status Refusal → List ℕ → List ℕ → Type 0
SameFor (Ok (Status.Fetch offset len)) Q R = Cached.SameAt offset len Q R
SameFor (Ok Status.Idle) Q R = Unit
SameFor (Ok Status.Working) Q R = Unit
SameFor (Ok Status.NoPack) Q R = Unit
SameFor (Ok Status.OffMap) Q R = Unit
SameFor (Err e) Q R = Unit

-- "fetches twice in a step" by values: of a lent pack a call sees the one read that its step asks for, or its `fetch` tells, and nothing else; and a
-- delivery asks for none
pub record LentOnly (w : World) (c : Call) : Type 0 where
  pub step : (Q R : List ℕ) → c ≡ step_from Q → SameFor (Engines.step w.engine w.arena).answer Q R → exec (step_from R) w ≡ exec c w
  pub load : (x : CacheCalls.Call) → c ≡ on_cache x → Cached.LentOnly (cache_of w) x
  pub delivery : (failure : ℕ) (bs : List ℕ) → c ≡ deliver failure bs → reads w c ≡ []

abbrev pub HasLen : Result Status Refusal → ℕ → Type 0
HasLen (Ok (Status.Fetch offset len)) n = n ≡ len
HasLen (Ok Status.Idle) n = ⊥
HasLen (Ok Status.Working) n = ⊥
HasLen (Ok Status.NoPack) n = ⊥
HasLen (Ok Status.OffMap) n = ⊥
HasLen (Err e) n = ⊥

-- bytes that a delivery takes are those of the open fetch: with any other number of them it is refused
abbrev pub TakesOnly : World → Call → Type 0
TakesOnly w (deliver failure bs) = failure ≡ 0 → number (exec (deliver failure bs) w).answer ≡ 0 → HasLen (open_read w.engine) (length bs)
TakesOnly w (on_cache c) = Cached.TakesOnly (cache_of w) c
TakesOnly w (fix f) = Unit
TakesOnly w lost = Unit
TakesOnly w (reset P) = Unit
TakesOnly w step = Unit
TakesOnly w (step_from Q) = Unit
TakesOnly w (read r) = Unit
TakesOnly w (nearby h p) = Unit
TakesOnly w (current m) = Unit
TakesOnly w (update m h p heading) = Unit
TakesOnly w (predict h m horizon samples behind) = Unit

-- what a call may do to the arena: a delivery, the lent-pack form's own included, and a direct `load` or `load_from` bring a chunk
abbrev pub kind_of : Call → Kind
kind_of (deliver failure bs) = brings
kind_of (step_from Q) = brings
kind_of (on_cache c) = Cached.kind_of c
kind_of (fix f) = keeps
kind_of lost = keeps
kind_of (reset P) = keeps
kind_of step = keeps
kind_of (read r) = keeps
kind_of (nearby h p) = keeps
kind_of (current m) = keeps
kind_of (update m h p heading) = keeps
kind_of (predict h m horizon samples behind) = keeps

-- a key that is ready before and after the call has the same bytes, wherever its run lies
abbrev pub KeptBytes : World → Call → Type 0
KeptBytes w c =
    SameBytes w.engine.shared.cache.pages.slots w.arena (exec c w).world.engine.shared.cache.pages.slots (exec c w).world.arena

-- of each call: live runs, the unfinished load's included, lie apart and within the pages, and every run is live; what is handed out passes;
-- one read at most, and nothing else of a lent pack is seen; only bytes that a call of its kind may write are written, those of the load's next chunk or
-- none; and no tile that stays ready changes
pub record Safe (w : World) (c : Call) : Type 0 where
  pub apart : Apart (exec c w).world.engine.shared.cache
  pub all_live : AllLive (exec c w).world.engine.shared.cache
  pub handed_out : HandedOut w c
  pub one_read : length (reads w c) ≤ 1
  pub lent_only : LentOnly w c
  pub takes_only : TakesOnly w c
  pub written : Written (MayWrite (kind_of c) w.engine.shared.cache) w.arena (exec c w).world.arena
  pub kept : KeptBytes w c

-- whatever is delivered or given
abbrev pub AllSafe : Type 0
AllSafe = (n : ℕ) → n ≤ 96 → (horizon : Float) (arena : List ℕ) (cs : List Call) → Along Safe cs (start n horizon arena)

-- the unfinished load is of 49,152 bytes at most after each call
abbrev pub LeavesShort : World → Call → Type 0
LeavesShort w c = ShortLoad (exec c w).world.engine.shared.cache.loading

abbrev pub AllShort : Type 0
AllShort = (n : ℕ) → n ≤ 96 → (horizon : Float) (arena : List ℕ) (cs : List Call) → Along LeavesShort cs (start n horizon arena)

-- ---- 3: number 12 and the start's 6 and 10

-- a matcher that the caller gives can be one that 12 names; nothing else of a call is
abbrev pub Blamed : Call → Type 0
Blamed (update m h p heading) = (counts_ok m && key_ok m.current h) ≡ false
Blamed (current m) = counts_ok m ≡ false
Blamed (fix f) = ⊥
Blamed lost = ⊥
Blamed (reset P) = ⊥
Blamed step = ⊥
Blamed (deliver failure bs) = ⊥
Blamed (step_from Q) = ⊥
Blamed (read r) = ⊥
Blamed (on_cache c) = ⊥
Blamed (nearby h p) = ⊥
Blamed (predict h m horizon samples behind) = ⊥

pub record Open (w : World) (c : Call) : Type 0 where
  pub accepted : number (exec c w).answer ≡ 12 → Blamed c
  pub matches : (k : ℕ) (m : Matcher) → shown w c ≡ again k m → ⊥

-- with an arena as long as its pages
abbrev pub AllOpen : Type 0
AllOpen =
    (n : ℕ) → n ≤ 96 → (horizon : Float) (arena : List ℕ) → n * 8192 ≤ length arena → (P : List ℕ) (cs : List Call) →
    AllFair P cs (start n horizon arena) → Along Open cs (start n horizon arena)
