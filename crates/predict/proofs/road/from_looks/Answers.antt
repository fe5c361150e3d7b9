-- `predict::road::from_looks` meets its contract: each return by whether the direction is known. What the start's lookup gives, with the
-- numbers after it, is what the reader gives (`started_is`), since a lookup that found no tile leaves the numbers as they were.
use Rattle.refusal.specs.declared.Refusal.{Refusal}
use Rattle.std.specs.Prelude.{Result, Ok, Err}
use Rattle.std.proofs.Common.{Option, Some}
use Prim.Native.Nat.{ℕ}
use mathlib.Core.Path.{◌≡◌, refl, sym, ap, ◌∙◌}
use mathlib.Core.Bool.{Bool}
use mathlib.Core.List.{List}
use lib.IntN.{ℤ}
use lib.Ieee.{Float}
use Rattle.pack.specs.declared.Header.{Header}
use Rattle.cache.specs.declared.Lookup.{Lookup}
use Rattle.cache.specs.Ages.{look_up}
use Rattle.cache.specs.Reader.{in_bytes, in_looks}
use Rattle.matcher.specs.declared.Matched.{Matched}
use Rattle.predict.proofs.Looks.{is_ready, missed}
use Rattle.predict.specs.Predict.{start_look, directed_over, forecast_over, from_tile, started_look, started_by, from_looks}
use Rattle.predict.proofs.road.from_looks.Goals as goal

module _ (looks arena : List ℕ) (n : ℕ) (h : Header) (m : Matched) (forward : Bool) (horizon : Float) (samples behind : List ℤ) where
  abbrev left : List ℕ
  left = (look_up looks arena h.tile m.tile.key).looks

  started_by_lem : (l : Result Lookup Refusal) → (look_up looks arena h.tile m.tile.key).answer ≡ l
      → started_look (in_bytes l arena) left arena n h m forward horizon samples behind
      ≡ start_look (in_looks arena h.tile) n (in_bytes l arena) h m forward horizon looks samples behind
  unfolding from_tile
  started_by_lem (Ok (Lookup.Ready first len)) e = refl
  started_by_lem (Ok Lookup.Missing) e = rw (missed looks arena h.tile m.tile.key (ap is_ready e))
  started_by_lem (Ok Lookup.Absent) e = rw (missed looks arena h.tile m.tile.key (ap is_ready e))
  started_by_lem (Err number) e = rw (missed looks arena h.tile m.tile.key (ap is_ready e))

  started_is : m.forward ≡ Some forward
      → started_by left arena n h (look_up looks arena h.tile m.tile.key).answer m forward horizon samples behind
      ≡ from_looks looks arena n h m horizon samples behind
  unfolding started_by from_looks forecast_over
  started_is told =
      started_by_lem (look_up looks arena h.tile m.tile.key).answer refl
      ∙ ap (λ (f : Option Bool). directed_over (in_looks arena h.tile) n f h m horizon looks samples behind) (sym told)

pub returns-in-None : goal.returns-in-None
unfolding from_looks forecast_over
returns-in-None c =
    let told = c.in-None.is in
    record {
      value = rw (c.no_direction.ensures, told);
      looks_after = rw told;
      samples_after = rw told;
      behind_after = rw told;
    }

pub returns-in-Some : goal.returns-in-Some
returns-in-Some c =
    let args = c.args in
    let found = c.look_up-found.ensures in
    let whole = started_is args.looks.now args.arena.now args.pages args.header args.start _ args.horizon_m args.samples.now
    args.behind.now c.in-Some.is in
    record {
      value = rw (found.value, found.looks_after, whole) at c.started_by.ensures.value;
      looks_after = rw (found.value, found.looks_after, whole) at c.started_by.ensures.looks_after;
      samples_after = rw (found.value, found.looks_after, whole) at c.started_by.ensures.samples_after;
      behind_after = rw (found.value, found.looks_after, whole) at c.started_by.ensures.behind_after;
    }
