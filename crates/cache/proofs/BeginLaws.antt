-- A load begun leaves well-formed pages (`sound_begun`; by the test, `ok_begun`), and each run that does not touch the new one as it was
-- (`kept_begun`).
use Rattle.std.specs.Prelude.{Option, Some, None}
use Rattle.std.proofs.Common.{◌≡◌, ℕ, ◌+◌, ◌<◌, ◌≤◌, true, ◌⊎◌, length, refl, ◌∙◌, inl, inr, arith}
use Rattle.pack.specs.declared.TileKey.{TileKey}
use Rattle.cache.specs.declared.Pages.{Pages}
use Rattle.cache.specs.Runs.{span, run, kind_at, end_of, runs_ok, Sound}
use Rattle.cache.specs.Evict.{evicted, Same}
use Rattle.cache.specs.Victim.{victim}
use Rattle.cache.specs.Begin.{replaced, begun_at, begun}
use Rattle.cache.proofs.RunLaws.{sound, sound_ok}
use Rattle.cache.proofs.FillLaws.{Out}
use Rattle.cache.proofs.EvictLaws.{evicted_count, sound_evicted, evicted_empty, evicted_kept, placed_same, sound_placed}
use Rattle.cache.proofs.VictimLaws.{victim_is}

module _ (g : Pages) (s : ℕ) (key : TileKey) (len : ℕ) (f : Sound g) (b : s + span len ≤ g.count) where
  pub sound_replaced : Sound (replaced g s key len)
  sound_replaced =
      sound_placed (evicted (span len) s g) s key len
      (sound_evicted (span len) s g f b)
      (rw (evicted_count (span len) s g) b)
      (evicted_empty (span len) s g f b)

  -- a run beside the new one is as before, each page of it
  pub replaced_kept : (h : ℕ) → kind_at g.slots h ≡ run → (end_of g.slots h ≤ s) ⊎ (s + span len ≤ h)
      → (q : ℕ) → h ≤ q → q < end_of g.slots h → Same g (replaced g s key len) q
  replaced_kept h r o q i j =
      let k : Same g (evicted (span len) s g) q = evicted_kept (span len) s g f b h r o q i j in
      record { slot = placed_same (evicted (span len) s g) s key len q (turn o) ∙ k.slot; age = k.age }
    where
      turn : (end_of g.slots h ≤ s) ⊎ (s + span len ≤ h) → Out s (s + span len) q
      turn (inl l) = inl (omega arith)
      turn (inr l) = inr (omega arith)

module _ (g : Pages) (key : TileKey) (len : ℕ) where
  sound_by : Sound g → (x : Option ℕ) → victim g (span len) ≡ x → Sound (begun_at g key len x).pages
  sound_by f None e = f
  sound_by f (Some s) e = sound_replaced g s key len f (victim_is g (span len) s e).within

  pub sound_begun : Sound g → Sound (begun g key len).pages
  sound_begun f = sound_by f (victim g (span len)) refl

  pub ok_begun : length g.slots ≡ 96 → runs_ok g ≡ true → runs_ok (begun g key len).pages ≡ true
  ok_begun n e = sound_ok (begun g key len).pages (sound_begun (sound g n e))

  pub kept_begun : Sound g → (s h : ℕ) → victim g (span len) ≡ Some s → kind_at g.slots h ≡ run → (end_of g.slots h ≤ s) ⊎ (s + span len ≤ h)
      → (q : ℕ) → h ≤ q → q < end_of g.slots h → Same g (begun g key len).pages q
  kept_begun f s h e r o q i j = rw e (replaced_kept g s key len f (victim_is g (span len) s e).within h r o q i j)
