-- A lookup by the numbers as the reader of a walk has it: one that found no tile leaves the numbers as they were (`missed`), so that what is
-- carried on is what the lookup leaves, found or not (`look_carried`). And a walk that ended, at the decision (`taken_ended`) or at the
-- junction's lookups (`onward_ended`), stays so.
use Rattle.refusal.specs.declared.Refusal.{Refusal}
use Rattle.std.specs.Prelude.{Result, Ok, Err}
use Prim.Native.Nat.{ℕ, ◌+◌}
use mathlib.Core.Path.{◌≡◌, refl, sym, ap}
use mathlib.Core.Bool.{Bool, true, false, cond, true≢false}
use mathlib.Core.List.{List}
use lib.Dec.{leb}
use lib.ListN.{get_or}
use Rattle.pack.specs.declared.TileKey.{TileKey}
use Rattle.cache.specs.declared.Lookup.{Lookup}
use Rattle.cache.specs.Ages.{in_ring, page_of, known, Hit, hit_run, hit_page, was_found, look_up}
use Rattle.cache.specs.Reader.{Reader, in_bytes, in_looks}
use Rattle.predict.specs.declared.Ending.{Ending}
use Rattle.predict.specs.Cross.{Ways}
use Rattle.predict.specs.declared.Walk.{Walk}
use Rattle.predict.specs.Walk.{with_ending, carried_by, taken_by, onward_by, goes_on}

abbrev pub is_ready : Result Lookup Refusal → Bool
is_ready (Ok (Lookup.Ready first len)) = true
is_ready (Ok Lookup.Missing) = false
is_ready (Ok Lookup.Absent) = false
is_ready (Err number) = false

module _ (looks arena : List ℕ) (size : ℕ) (key : TileKey) where
  run_missed : (ok : Bool) (i : ℕ) → is_ready (hit_run ok looks i).answer ≡ false → (hit_run ok looks i).looks ≡ looks
  run_missed true i e = absurd (true≢false e)
  run_missed false i e = refl

  page_missed : (past : Bool) (i : ℕ) (ok : Bool)
      → is_ready (cond past (record { answer = Ok Lookup.Absent; looks = looks }) (hit_run ok looks i)).answer ≡ false
      → (cond past (record { answer = Ok Lookup.Absent; looks = looks }) (hit_run ok looks i)).looks ≡ looks
  page_missed true i ok e = refl
  page_missed false i ok e = run_missed ok i e

  ring_missed : (is_in_ring : Bool) (i : ℕ) → is_ready (cond is_in_ring (record { answer = Ok Lookup.Missing; looks = looks }) (hit_page looks arena size key i)).answer ≡ false
      → (cond is_in_ring (record { answer = Ok Lookup.Missing; looks = looks }) (hit_page looks arena size key i)).looks ≡ looks
  ring_missed true i e = refl
  ring_missed false i e = page_missed (leb 96 i) i (known looks arena i (get_or looks (384 + i) 0) key size) e

  abbrev searched : Hit
  searched = cond (in_ring looks key) (record { answer = Ok Lookup.Missing; looks = looks }) (hit_page looks arena size key (page_of looks key))

  last_missed : (last ok : Bool) (i : ℕ) → is_ready (cond last (hit_run ok looks i) searched).answer ≡ false
      → (cond last (hit_run ok looks i) searched).looks ≡ looks
  last_missed true ok i e = run_missed ok i e
  last_missed false ok i e = ring_missed (in_ring looks key) (page_of looks key) e

  pub missed : is_ready (look_up looks arena size key).answer ≡ false → (look_up looks arena size key).looks ≡ looks
  unfolding look_up
  missed e =
      let last : ℕ = get_or looks 610 0 in
      last_missed (was_found looks last key) (known looks arena last (get_or looks (384 + last) 0) key size) last e

  pub look_carried : carried_by ((in_looks arena size).at looks key) (in_looks arena size) looks key ≡ (look_up looks arena size key).looks
  look_carried = by (look_up looks arena size key).answer refl
    where
      by : (l : Result Lookup Refusal) → (look_up looks arena size key).answer ≡ l
          → carried_by (in_bytes l arena) (in_looks arena size) looks key ≡ (look_up looks arena size key).looks
      by (Ok (Lookup.Ready first len)) e = refl
      by (Ok Lookup.Missing) e = sym (missed (ap is_ready e))
      by (Ok Lookup.Absent) e = sym (missed (ap is_ready e))
      by (Err number) e = sym (missed (ap is_ready e))

module _ {S : Type 0} (rd : Reader S) where
  pub taken_ended : (e : Ending) → goes_on e ≡ false → (w : Walk) (s : S) → taken_by rd e w s ≡ record { walk = w; carried = s }
  taken_ended Ending.Going h w s = absurd (true≢false h)
  taken_ended (Ending.Stops end) h w s = refl
  taken_ended (Ending.Need key) h w s = refl
  taken_ended Ending.Stale h w s = refl

  pub onward_ended : (e : Ending) → goes_on e ≡ false → (w : Walk) (x : Ways S)
      → onward_by rd e w x ≡ record { walk = with_ending w e; carried = x.carried }
  onward_ended Ending.Going h w x = absurd (true≢false h)
  onward_ended (Ending.Stops end) h w x = refl
  onward_ended (Ending.Need key) h w x = refl
  onward_ended Ending.Stale h w x = refl
