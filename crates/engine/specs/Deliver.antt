-- The open fetch answered: `engine.rs`, `step`, after its read. All that a step that reads changes, changes here. The header: a missed read is
-- tried again up to the eighth, which fails the pack with the count at 7; 2, 3 and 4 fail it at once. A part of the needed tile: 1, 2 and 4
-- count, and the eighth fails the pack. Number 11: no fetch is open, or the answer doesn't fit it (document 01, "Refused").
use Rattle.std.specs.Prelude.{Option, Some, None, Result, Ok, Err, ℕ, ◌+◌, Bool, cond, ◌&&◌, List, length, replicate, ◌==◌, nat_le, nat_lt, slice_set}
use Rattle.pack.specs.Bytes.{byte_at}
use Rattle.pack.specs.Sector.{parse}
use Rattle.refusal.specs.Refusal.{number_of}
use Rattle.refusal.specs.declared.Refusal.{Refusal}
use Rattle.pack.specs.declared.Header.{Header}
use Rattle.pack.specs.declared.TileKey.{TileKey}
use Rattle.cache.specs.declared.Cache.{Cache}
use Rattle.cache.specs.declared.Pending.{Pending}
use Rattle.cache.specs.Loads as Loads
use Rattle.cache.specs.Calls.{load_tested}
use Rattle.cache.specs.declared.Loaded.{Loaded}
use Rattle.cache.specs.declared.Progress.{Progress}
use Rattle.num.specs.Fold.{up_to}
use Rattle.engine.specs.Setters as Setters
use Rattle.engine.specs.declared.Due.{Due}
use Rattle.engine.specs.declared.Follower.{Follower}
use Rattle.engine.specs.declared.Engine.{Engine}
use Rattle.engine.specs.declared.Phase.{Phase}
use Rattle.engine.specs.declared.Shared.{Shared}
use Rattle.engine.specs.declared.Status.{Status}
use Rattle.engine.specs.declared.Stepped.{Stepped}
use Rattle.engine.specs.State.{refused}
use Rattle.engine.specs.Work.{with_due, counted, ended}

-- an answer, the engine and the arena
pub record After : Type 0 where
  pub answer : Result Status Refusal
  pub engine : Engine
  pub arena : List ℕ

abbrev pub told : After → Stepped
told a = record { answer = a.answer; engine = a.engine }

abbrev pub over : Stepped → List ℕ → After
over s arena = record { answer = s.answer; engine = s.engine; arena = arena }

-- ---- the header

abbrev pub with_pending : Cache → Pending → Cache
with_pending c pending = record { pages = c.pages; missing = c.missing; loading = c.loading; pending = pending; loads = c.loads }

abbrev pub with_phase : Shared → Phase → Header → Shared
with_phase s phase h = record { phase = phase; header = h; cache = with_pending s.cache Pending.Nothing }

abbrev pub failing : Follower → ℕ → Follower
failing f failures = Setters.with_failures f failures

abbrev pub with_failures : Engine → Shared → ℕ → Result Status Refusal → Stepped
with_failures e s failures answer = record { answer = answer; engine = record { shared = s; follower = failing e.follower failures } }

-- the first 512 bytes of an answer, 0 where it is shorter
unfoldable pub sector_of : List ℕ → List ℕ
sector_of bs = up_to (λ (out : List ℕ) (i : ℕ). slice_set out i (byte_at bs i)) (replicate 512 0) 512

-- READ_FAILURES is 8
unfoldable pub header_failed : Engine → ℕ → Stepped
header_failed e failure =
    cond (failure == 1 && nat_lt e.follower.failures 7)
    (with_failures e (with_phase e.shared Phase.Unread e.shared.header) (e.follower.failures + 1) (Ok Status.Working))
    (with_failures e (with_phase e.shared Phase.Failed e.shared.header) e.follower.failures (Ok Status.NoPack))

abbrev pub header_parsed : Result Header Refusal → Engine → Stepped
header_parsed (Ok h) e = with_failures e (with_phase e.shared Phase.Ready h) 0 (Ok Status.Working)
header_parsed (Err refusal) e = header_failed e (number_of refusal)

unfoldable pub header_came : Engine → ℕ → List ℕ → Stepped
header_came e failure bs =
    cond (failure == 0) (header_parsed (parse (sector_of bs)) e) (header_failed e failure)

-- ---- a part of the tile that is needed

abbrev pub needless : Due → Due
needless d = Setters.with_need d None

-- the tile is settled
unfoldable pub arrived : Engine → Cache → Stepped
arrived e c = let f = counted e.follower in ended e c (failing (with_due f (needless f.due)) 0) (Ok Status.Working)

abbrev pub failed_pack : Engine → Cache → Follower → Stepped
failed_pack e c f = record {
  answer = Ok Status.NoPack;
  engine = record { shared = record { phase = Phase.Failed; header = e.shared.header; cache = c }; follower = f };
}

unfoldable pub load_failed : Engine → Cache → Stepped
load_failed e c =
    let f = counted e.follower in
    cond (nat_lt f.failures 7) (ended e c (failing f (f.failures + 1)) (Ok Status.Working)) (failed_pack e c (failing f 8))

abbrev pub loaded_by : Result Progress Refusal → Engine → Cache → Stepped
loaded_by (Ok Progress.Done) e c = arrived e c
loaded_by (Ok Progress.More) e c = ended e c (counted e.follower) (Ok Status.Working)
loaded_by (Ok (Progress.Failed refusal)) e c = load_failed e c
loaded_by (Err refusal) e c = refused e refusal

abbrev pub loaded : Engine → Loaded → Stepped
loaded e l = loaded_by l.answer e l.cache

-- the cache's step with that answer, past number 12's test
unfoldable pub part_came : Engine → List ℕ → TileKey → ℕ → List ℕ → After
part_came e arena key failure bs =
    let x = load_tested e.shared.cache arena e.shared.header key failure bs in over (loaded e (Loads.told x)) x.arena

-- ---- the delivery

-- 512 bytes, or failure 1 or 2
abbrev pub fits_header : ℕ → ℕ → Bool
fits_header failure len = cond (failure == 0) (len == 512) (nat_le failure 2)

abbrev pub need_came_by : Option TileKey → Engine → List ℕ → ℕ → List ℕ → After
need_came_by None e arena failure bs = over (refused e Refusal.NotAsked) arena
need_came_by (Some key) e arena failure bs = part_came e arena key failure bs

abbrev pub need_came : Engine → List ℕ → ℕ → List ℕ → After
need_came e arena failure bs = need_came_by e.follower.due.need e arena failure bs

abbrev pub delivered_by : Pending → Engine → List ℕ → ℕ → List ℕ → After
delivered_by Pending.Nothing e arena failure bs = over (refused e Refusal.NotAsked) arena
delivered_by Pending.Header e arena failure bs =
    cond (fits_header failure (length bs)) (over (header_came e failure bs) arena) (over (refused e Refusal.NotAsked) arena)
delivered_by (Pending.Entry key) e arena failure bs = need_came e arena failure bs
delivered_by Pending.Chunk e arena failure bs = need_came e arena failure bs

unfoldable pub delivered : Engine → List ℕ → ℕ → List ℕ → After
delivered e arena failure bs = delivered_by e.shared.cache.pending e arena failure bs
