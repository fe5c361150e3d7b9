-- A step of a load keeps number 12's causes of the cache (`state_ok`), from any state that has none and has its 96 slots (`stepped_ok`), and it
-- keeps the 96 (`stepped_size`). The slots are a list here, and `state_ok` doesn't read how long it is: in a shorter one a run begun past its
-- end is not written, so that its load has no run (`short_breaks`).
use Rattle.std.specs.Prelude.{Option, Some, None}
use Prim.Native.Nat.{ℕ, ◌+◌, ◌<◌, ◌≤◌}
use mathlib.Core.Path.{◌≡◌, refl, sym}
use mathlib.Core.Bool.{Bool, true, false, ◌&&◌, not, true≢false}
use mathlib.Core.List.{List, [], ◌∷◌}
use native.Mathlib.Omega.{arith}
use borrow.Author.Tests.{lt-ltb, eq-eqb}
use lib.Dec.{eqb, ltb}
use lib.IntN.{pos}
use lib.ListN.{length}
use Rattle.pack.specs.Bytes.{u16_at, u32_at}
use Rattle.pack.specs.Grid.{in_grid, locate_of}
use Rattle.pack.specs.declared.TileKey.{TileKey}
use Rattle.pack.specs.declared.Header.{Header}
use Rattle.pack.proofs.Laws.{and_left}
use Rattle.cache.specs.declared.Pages.{Pages}
use Rattle.cache.specs.Runs.{span, slot_at, Kind, bare, run, piece, kind_of, kind_at, is_run, all_below, Sound}
use Rattle.cache.specs.Evict.{fill, evicted_page, evicted, head_slot}
use Rattle.cache.specs.Victim.{best_of}
use Rattle.cache.specs.Begin.{replaced}
use Rattle.cache.proofs.RunLaws.{span_pos, sound, sound_ok, inside}
use Rattle.cache.proofs.EvictLaws.{sound_evicted, placed_head, sound_set}
use Rattle.cache.proofs.BeginLaws.{sound_replaced}
use Rattle.cache.specs.declared.Cache.{Cache}
use Rattle.cache.specs.declared.Loading.{Loading}
use Rattle.cache.specs.declared.Pending.TheVariants as Pending
use Rattle.cache.specs.Search.{lowest}
use Rattle.cache.specs.Keys.{holds, in_ring, is_ready, ready_at}
use Rattle.cache.specs.Lookups.{lands_on, touched, next_step}
use Rattle.cache.specs.State.{tile_loads, loads_ok, state_ok}
use Rattle.cache.specs.Loads.{takes, moved, forgot, without_run, dropped, new_load, began, entry_step, ready_slot, with_ready, readied, further, stepped}
use Rattle.engine_states.proofs.CacheKept.{ok_parts, ok_whole, withdrawn_fits, touched_ok, forgot_ok, Changes, step_keeps}

-- ---- a state with its slots

pub record Held (c : Cache) : Type 0 where
  pub ok : state_ok c ≡ true
  pub size : length c.pages.slots ≡ 96

sound_of : (c : Cache) → Held c → Sound c.pages
sound_of c f = sound c.pages f.size (ok_parts c f.ok).runs

held_moved : (c : Cache) (g : Pages) (x : Option Loading) → Held c → Sound g → loads_ok g x ≡ true → Held (moved c g x)
unfolding moved
held_moved c g x f s l = record {
  ok = ok_whole (moved c g x) (record {
    runs = sound_ok g s;
    ring = (ok_parts c f.ok).ring;
    load = l;
    pending = withdrawn_fits c.pending (moved c g x);
  });
  size = s.size;
}

-- ---- the load's run

is_run_lem : (k : Kind) → is_run k ≡ true → k ≡ run
is_run_lem run e = refl
is_run_lem bare e = absurd (true≢false (sym e))
is_run_lem (piece h) e = absurd (true≢false (sym e))

module _ (g : Pages) (l : Loading) (e : tile_loads g l ≡ true) where
  load_run : kind_at g.slots l.slot ≡ run
  unfolding tile_loads
  load_run = is_run_lem (kind_at g.slots l.slot) (and_left (is_run (kind_at g.slots l.slot)) _ e)

  load_within : Sound g → l.slot + 1 ≤ g.count
  load_within f =
      omega (arith, inside g.slots g.count f.good l.slot load_run, span_pos (slot_at g.slots l.slot).len)

-- ---- each change

sound_without : (x : Option Loading) (g : Pages) → Sound g → loads_ok g x ≡ true → Sound (without_run x g)
sound_without None g f e = f
sound_without (Some l) g f e = sound_evicted 1 l.slot g f (load_within g l e f)

held_dropped : (c : Cache) → Held c → Held (dropped c)
unfolding dropped
held_dropped c f =
    held_moved c (without_run c.loading c.pages) None f
    (sound_without c.loading c.pages (sound_of c f) (ok_parts c f.ok).load)
    refl

held_begun : (c : Cache) (slot : ℕ) (key : TileKey) (offset len : ℕ) → Held c → slot + span len ≤ c.pages.count → 0 < len
    → Held (moved c (replaced c.pages slot key len) (Some (new_load key slot offset len)))
unfolding tile_loads
held_begun c slot key offset len f b h =
    let s : Sound c.pages = sound_of c f in
    let room : slot < length (evicted (span len) slot c.pages).slots
    = omega (arith, (sound_evicted (span len) slot c.pages s b).size, span_pos len, s.small) in
    let head : slot_at (replaced c.pages slot key len).slots slot ≡ head_slot key len = placed_head (evicted (span len) slot c.pages) slot key len room in
    held_moved c (replaced c.pages slot key len) (Some (new_load key slot offset len)) f
    (sound_replaced c.pages slot key len s b)
    (rw (head, eq-eqb key.row key.row refl, eq-eqb key.col key.col refl, eq-eqb len len refl, lt-ltb 0 len h))

-- the last of five tests in place of another
last : (a b d e x y : Bool) → (a && (b && (d && (e && x)))) ≡ true → y ≡ true → (a && (b && (d && (e && y)))) ≡ true
last true true true true x y p q = q
last true true true false x y p q = p
last true true false e x y p q = p
last true false d e x y p q = p
last false b d e x y p q = p

module _ (c : Cache) (l : Loading) (f : Held c) (e : c.loading ≡ Some l) where
  loads : tile_loads c.pages l ≡ true
  loads = rw e at (ok_parts c f.ok).load

  held_further : (come : ℕ) → come < l.len → Held (further c l come)
  unfolding further tile_loads
  held_further come h =
      let s = slot_at c.pages.slots l.slot in
      held_moved c c.pages _ f (sound_of c f)
      (last (is_run (kind_of s)) (holds s.key l.key) (eqb s.len l.len) (not s.ready) (ltb l.done l.len) (ltb come l.len)
      loads (lt-ltb come l.len h))

  sound_ready : Sound (with_ready c.pages l.slot)
  sound_ready =
      let r = load_run c.pages l loads in
      sound_set c.pages l.slot (ready_slot (slot_at c.pages.slots l.slot)) (sound_of c f)
      (omega (arith, load_within c.pages l loads (sound_of c f)))
      r r refl

  held_readied : Held (readied c l)
  unfolding readied touched moved
  held_readied = record {
    ok = ok_whole (readied c l) (record {
      runs = sound_ok (with_ready c.pages l.slot) sound_ready;
      ring = (ok_parts c f.ok).ring;
      load = refl;
      pending = withdrawn_fits c.pending (readied c l);
    });
    size = sound_ready.size;
  }

changes : Changes Held
unfolding touched forgot
changes = record {
  touch = λ (c : Cache) (i : ℕ) (f : Held c). record { ok = touched_ok c i f.ok; size = f.size };
  forget = λ (c : Cache) (key : TileKey) (f : Held c). record { ok = forgot_ok c key f.ok; size = f.size };
  drop = held_dropped;
  begin = held_begun;
  go = λ (c : Cache) (l : Loading) (come : ℕ) (f : Held c) (e : c.loading ≡ Some l) (h : come < l.len). held_further c l f e come h;
  ready = held_readied;
}

-- ---- the step

module _ (c : Cache) (arena : List ℕ) (h : Header) (key : TileKey) (failure : ℕ) (bs : List ℕ) (ok : state_ok c ≡ true) (size : length c.pages.slots ≡ 96) where
  held : Held (stepped c (next_step c key) arena h key failure bs).cache
  held = step_keeps Held changes c arena h key failure bs (record { ok = ok; size = size })

  pub stepped_ok : state_ok (stepped c (next_step c key) arena h key failure bs).cache ≡ true
  stepped_ok = held.ok

  pub stepped_size : length (stepped c (next_step c key) arena h key failure bs).cache.pages.slots ≡ 96
  stepped_size = held.size

-- ---- without the 96: no slot, a count of one page, and an entry of a tile of one byte

abbrev short : Cache
short = record {
  pages = record { slots = []; used = []; count = 1; clock = 0 };
  missing = record { keys = []; next = 0 };
  loading = None;
  pending = Pending.Nothing;
  loads = 0;
}

abbrev one : Header
one = record {
  tile = 1;
  south = pos 0;
  west = pos 0;
  rows = 1;
  cols = 1;
  directory = 0;
  «data» = 0;
  total = 1;
  tiles = 1;
  created = 0;
  attribution_offset = 0;
  attribution_len = 0;
}

abbrev first : TileKey
first = record { row = 0; col = 0 }

abbrev entry : List ℕ
entry = 0 ∷ 0 ∷ 0 ∷ 0 ∷ 1 ∷ 0 ∷ 0 ∷ 0 ∷ []

short_ok : state_ok short ≡ true
unfolding state_ok all_below
short_ok = refl

short-takes : takes (next_step short first) one first 0 (length entry) ≡ true
unfolding next_step lands_on in_ring ready_at lowest is_ready
short-takes = refl

short_grid : in_grid one first ≡ true
short_grid = refl

short_breaks : state_ok (stepped short (next_step short first) [] one first 0 entry).cache ≡ false
unfolding state_ok all_below next_step lands_on in_ring ready_at lowest is_ready entry_step dropped moved locate_of u32_at u16_at began span best_of evicted evicted_page fill tile_loads
short_breaks = refl
