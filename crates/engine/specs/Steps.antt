-- A step: `engine.rs`, `step`, with its read in the host's hands. While a fetch is open a step repeats it and changes nothing; opening one
-- changes nothing but that it is open.
use Rattle.refusal.specs.Refusal.{number_of}
use Rattle.refusal.specs.declared.Refusal.{Refusal}
use Rattle.cache.specs.declared.Loading.{Loading}
use Rattle.std.specs.Prelude.{Option, Some, None, Result, Ok, Err, ℕ, Bool, false, cond, List, [], ◌==◌}
use Rattle.pack.specs.Grid.{entry_of}
use Rattle.pack.specs.declared.Header.{Header}
use Rattle.pack.specs.declared.TileKey.{TileKey}
use Rattle.cache.specs.declared.Pending.{Pending}
use Rattle.cache.specs.Keys.{same_key}
use Rattle.cache.specs.Loads.{chunk_len, chunk_offset, told}
use Rattle.cache.specs.Calls.{load_tested}
use Rattle.cache.specs.declared.Progress.{Progress}
use Rattle.engine.specs.declared.Engine.{Engine}
use Rattle.engine.specs.declared.Phase.{Phase}
use Rattle.engine.specs.declared.Shared.{Shared}
use Rattle.engine.specs.declared.Status.{Status}
use Rattle.engine.specs.declared.Stepped.{Stepped}
use Rattle.engine.specs.Work.{worked}
use Rattle.engine.specs.Deliver as Deliver
pub use Rattle.engine.specs.Deliver.{with_pending}

-- ---- a fetch

abbrev pub chunk_request : Option Loading → Result Status Refusal
chunk_request None = Err Refusal.BadState
chunk_request (Some l) = Ok (Status.Fetch (chunk_offset l) (chunk_len l))

-- the read that an open fetch asks for, worked out from it, the header and the load; the header is the pack's first 512 bytes
abbrev pub request_by : Header → Option Loading → Pending → Result Status Refusal
request_by h loading Pending.Nothing = Err Refusal.BadState
request_by h loading Pending.Header = Ok (Status.Fetch 0 512)
request_by h loading (Pending.Entry key) = Ok (Status.Fetch (entry_of h key) 8)
request_by h loading Pending.Chunk = chunk_request loading

abbrev pub request_of : Shared → Pending → Result Status Refusal
request_of s pending = request_by s.header s.cache.loading pending

-- the engine with that fetch open, and its read
abbrev pub opened : Engine → Pending → Stepped
opened e pending = record {
  answer = request_of e.shared pending;
  engine = record {
    shared = record { phase = e.shared.phase; header = e.shared.header; cache = with_pending e.shared.cache pending };
    follower = e.follower;
  };
}

-- ---- the tile that is needed

-- the cache can't settle it without a read: 11
abbrev pub awaits_read : Result Progress Refusal → Bool
awaits_read (Ok Progress.Done) = false
awaits_read (Ok Progress.More) = false
awaits_read (Ok (Progress.Failed refusal)) = false
awaits_read (Err refusal) = number_of refusal == 11

-- the read towards it: a chunk where the load under way is of that tile, else its entry
abbrev pub pending_for : Option Loading → TileKey → Pending
pending_for None key = Pending.Entry key
pending_for (Some l) key = cond (same_key l.key key) Pending.Chunk (Pending.Entry key)

-- settled without a read, or the fetch opened
unfoldable pub need_step : Engine → List ℕ → TileKey → Stepped
need_step e arena key =
    let l = told (load_tested e.shared.cache arena e.shared.header key 0 []) in
    cond (awaits_read l.answer) (opened e (pending_for e.shared.cache.loading key)) (Deliver.loaded e l)

abbrev pub ready_by : Option TileKey → Engine → List ℕ → Stepped
ready_by (Some key) e arena = need_step e arena key
ready_by None e arena = worked e arena

abbrev pub ready_step : Engine → List ℕ → Stepped
ready_step e arena = ready_by e.follower.due.need e arena

-- ---- the step

abbrev pub started_by : Phase → Engine → List ℕ → Stepped
started_by Phase.Failed e arena = record { answer = Ok Status.NoPack; engine = e }
started_by Phase.Unread e arena = opened e Pending.Header
started_by Phase.Ready e arena = ready_step e arena

unfoldable pub started : Engine → List ℕ → Stepped
started e arena = started_by e.shared.phase e arena

abbrev pub repeated : Engine → Pending → Stepped
repeated e pending = record { answer = request_of e.shared pending; engine = e }

abbrev pub stepped_by : Pending → Engine → List ℕ → Stepped
stepped_by Pending.Nothing e arena = started e arena
stepped_by Pending.Header e arena = repeated e Pending.Header
stepped_by (Pending.Entry key) e arena = repeated e (Pending.Entry key)
stepped_by Pending.Chunk e arena = repeated e Pending.Chunk

unfoldable pub stepped : Engine → List ℕ → Stepped
stepped e arena = stepped_by e.shared.cache.pending e arena
