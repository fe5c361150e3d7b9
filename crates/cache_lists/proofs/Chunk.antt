-- A chunk written: the arena changes in the chunk's own bytes alone (`put_written`), and none of these is of a run that is ready, since the
-- load's run is not and runs are apart. So each ready run holds what it held (`ready_kept`), and a key that is ready before and after has the same bytes
-- (`bytes_kept`), since it has one ready run.
use Rattle.std.specs.Prelude.{Option, Some, None}
use Prim.Native.Nat.{ℕ, ◌+◌, ◌*◌, ◌<◌, ◌≤◌}
use mathlib.Core.Path.{◌≡◌, refl, sym, ap, ◌∙◌}
use mathlib.Core.Bool.{true, true≢false}
use mathlib.Core.List.{List}
use mathlib.Core.Logic.{⊎_elim}
use native.Mathlib.Omega.{arith}
use lib.ListN.{length}
use Rattle.cache.specs.declared.Pages.{Pages}
use Rattle.cache.specs.declared.Slot.{Slot}
use Rattle.cache.specs.Runs.{slot_at, run, kind_at}
use Rattle.cache.proofs.Below.{below_or}
use Rattle.cache.proofs.RunLaws.{span_holds, apart}
use Rattle.cache.proofs.FillLaws.{out}
use Rattle.cache.specs.declared.Cache.{Cache}
use Rattle.cache.specs.declared.Loading.{Loading}
use Rattle.cache.specs.Lookups.{run_bytes, len_at}
use Rattle.cache.specs.Loads.{chunk_len, put}
use Rattle.cache_lists.specs.Claims.{OfChunk, Kind, keeps, brings, MayWrite, Written, SameBytes}
use Rattle.cache_lists.proofs.Stores.{part_same, put_size, put_same}
use Rattle.cache_lists.proofs.Live.{SlotReady, Freshly}
use Rattle.cache_lists.proofs.Inv.{LoadIn, InvPages, Inv, ready_run, chunk_room}

pub not_written : (may : ℕ → Type 0) (arena : List ℕ) → Written may arena arena
not_written may arena = record { size = refl; others = λ b o. refl }

-- whatever the kind of call, no byte but of the load's chunk
pub chunk_only : (k : Kind) (c : Cache) {before after : List ℕ} → Written (MayWrite k c) before after → Written (OfChunk c.loading) before after
chunk_only keeps c w = record { size = w.size; others = λ b o. w.others b (λ z. z) }
chunk_only brings c w = w

pub put_written : (l : Loading) (arena bs : List ℕ) → length bs ≡ chunk_len l → Written (OfChunk (Some l)) arena (put arena l.slot l.done bs)
put_written l arena bs size = record {
  size = put_size arena l.slot l.done bs;
  others = λ (b : ℕ) (o : OfChunk (Some l) b → ⊥). put_same arena l.slot l.done bs b (out _ _ b (λ p q. o (p, rw size at q)));
}

-- byte b of a ready run, the one from page i on
module _ (g : Pages) (f : InvPages g) (i b : ℕ) (ready : (slot_at g.slots i).ready ≡ true) (from : i * 8192 ≤ b) (below : b < i * 8192 + (slot_at g.slots i).len) where
  chunk_apart : (x : Option Loading) → LoadIn g.slots x → OfChunk x b → ⊥
  chunk_apart None r o = o
  chunk_apart (Some l) r o = ⊎_elim before (λ k. after (omega (arith, k, other))) (below_or i l.slot)
    where
      starts : kind_at g.slots i ≡ run
      starts = ready_run g f i ready

      other : i ≡ l.slot → ⊥
      other q = true≢false (sym (rw q at ready) ∙ r.waits)

      before : i < l.slot → ⊥
      before k = omega (arith, apart g.slots g.count f.good i l.slot starts r.run k, span_holds (slot_at g.slots i).len)

      after : l.slot < i → ⊥
      after k =
          omega (
            arith,
            rw r.len at (apart g.slots g.count f.good l.slot i r.run starts k),
            span_holds l.len,
            chunk_room l r.below,
          )

pub ready_kept : (c : Cache) → Inv c → (before after : List ℕ) → Written (OfChunk c.loading) before after → (i : ℕ) → (slot_at c.pages.slots i).ready ≡ true
    → run_bytes after i (len_at c i) ≡ run_bytes before i (len_at c i)
ready_kept c f before after w i ready =
    part_same after before (i * 8192) (len_at c i) w.size
    (λ (j : ℕ) (k : j < len_at c i). w.others (i * 8192 + j) (chunk_apart c.pages f.pages i (i * 8192 + j) ready (omega arith) (omega arith) c.loading f.load))

-- by key: what is ready then is as it was, or of a key that was not ready
module _ (c : Cache) (f : Inv c) (before after : List ℕ) (w : Written (OfChunk c.loading) before after) (t : List Slot) (fresh : Freshly c.pages.slots t) where
  pub bytes_kept : SameBytes c.pages.slots before t after
  bytes_kept key x y p q = ⊎_elim same (λ none. absurd (none p.first there)) (fresh key q.first now)
    where
      there : SlotReady (slot_at c.pages.slots p.first) key
      there = (p.ready, p.key_is)

      now : SlotReady (slot_at t q.first) key
      now = (q.ready, q.key_is)

      same : slot_at t q.first ≡ slot_at c.pages.slots q.first → y ≡ x
      same e =
          let was : SlotReady (slot_at c.pages.slots q.first) key = rw (← e) now in
          let here : p.first ≡ q.first = f.pages.once key p.first q.first there was in
          sym q.bytes
          ∙ ap (λ (s : Slot). run_bytes after q.first s.len) e
          ∙ ready_kept c f before after w q.first was.0
          ∙ ap (λ (i : ℕ). run_bytes before i (len_at c i)) (sym here)
          ∙ p.bytes
