-- The tile that is needed, by the next step towards it: a step of the engine goes by the read that this makes (`need_is`), in a state that number 12
-- does not name and towards a key in the grid; and the part that came is the step of a load that it answers (`part_cases`, `part_is`). The code goes by
-- what the cache answers (`need_reads`, `need_settles`).
use Rattle.refusal.specs.declared.Refusal.{Refusal}
use Rattle.std.specs.Prelude.{Option, Some, None, Result, Ok, Err}
use Rattle.std.proofs.Common.{◌≡◌, ℕ, Bool, true, false, cond, eqb, List, [], length, sym, refl, ap, ◌∙◌, arith}
use borrow.Author.Tests.{lt-leb}
use Rattle.pack.specs.Grid.{in_grid}
use Rattle.pack.specs.declared.Header.{Header}
use Rattle.pack.specs.declared.TileKey.{TileKey}
use Rattle.cache.specs.Keys.{same_key}
use Rattle.cache.specs.Lookups.{lands_on, passes, len_at, touched, next_read, next_at, next_step}
use Rattle.cache.specs.State.{state_ok}
use Rattle.cache.specs.declared.Cache.{Cache}
use Rattle.cache.specs.declared.Loaded.{Loaded}
use Rattle.cache.specs.declared.Loading.{Loading}
use Rattle.cache.specs.declared.Pending.{Pending}
use Rattle.cache.specs.declared.look.Landing.{Landing}
use Rattle.cache.specs.declared.next.Next.{Next}
use Rattle.cache.specs.Loads as Loads
use Rattle.cache.specs.Loads.{fetched, unread_step}
use Rattle.cache.specs.Calls.{load_tested}
use Rattle.cache.proofs.FromLaws.{next_chunk, bytes_left}
use Rattle.cache.proofs.UnreadLaws.{unread_steps}
use Rattle.engine.specs.declared.Engine.{Engine}
use Rattle.engine.specs.declared.Status.TheVariants as Status
use Rattle.engine.specs.declared.Stepped.{Stepped}
use Rattle.engine.specs.State.{refused}
use Rattle.engine.specs.Deliver.{over, part_came}
use Rattle.engine.specs.Deliver as Deliver
use Rattle.engine.specs.Steps.{opened, awaits_read, pending_for, need_step}

-- ---- the fetch that is opened, by the load under way

module _ (key : TileKey) where
  entry_read : (m : Option Loading) → next_read m key ≡ Next.Entry → pending_for m key ≡ Pending.Entry key
  entry_read None q = refl
  entry_read (Some l) q = by (same_key l.key key) q
    where
      by : (t : Bool) → cond t (Next.Chunk l) Next.Entry ≡ Next.Entry → cond t Pending.Chunk (Pending.Entry key) ≡ Pending.Entry key
      by true q = let z : ◌≡◌ {A = ℕ} 0 1 = cc in absurd (omega arith)
      by false q = refl

  chunk_read : (m : Option Loading) (l : Loading) → next_read m key ≡ Next.Chunk l → pending_for m key ≡ Pending.Chunk
  chunk_read None l q = let z : ◌≡◌ {A = ℕ} 0 1 = cc in absurd (omega arith)
  chunk_read (Some k) l q = by (same_key k.key key) q
    where
      by : (t : Bool) → cond t (Next.Chunk k) Next.Entry ≡ Next.Chunk l → cond t Pending.Chunk (Pending.Entry key) ≡ Pending.Chunk
      by true q = refl
      by false q = let z : ◌≡◌ {A = ℕ} 0 1 = cc in absurd (omega arith)

  entry_at : (x : Landing) (c : Cache) → next_at x c key ≡ Next.Entry → pending_for c.loading key ≡ Pending.Entry key
  entry_at Landing.Missing c q = let z : ◌≡◌ {A = ℕ} 0 1 = cc in absurd (omega arith)
  entry_at (Landing.At i) c q = let z : ◌≡◌ {A = ℕ} 0 1 = cc in absurd (omega arith)
  entry_at Landing.Nothing c q = by (eqb c.pages.count 0) q
    where
      by : (t : Bool) → cond t Next.NoPages (next_read c.loading key) ≡ Next.Entry → pending_for c.loading key ≡ Pending.Entry key
      by true q = let z : ◌≡◌ {A = ℕ} 0 1 = cc in absurd (omega arith)
      by false q = entry_read c.loading q

  chunk_at : (x : Landing) (c : Cache) (l : Loading) → next_at x c key ≡ Next.Chunk l → pending_for c.loading key ≡ Pending.Chunk
  chunk_at Landing.Missing c l q = let z : ◌≡◌ {A = ℕ} 0 1 = cc in absurd (omega arith)
  chunk_at (Landing.At i) c l q = let z : ◌≡◌ {A = ℕ} 0 1 = cc in absurd (omega arith)
  chunk_at Landing.Nothing c l q = by (eqb c.pages.count 0) q
    where
      by : (t : Bool) → cond t Next.NoPages (next_read c.loading key) ≡ Next.Chunk l → pending_for c.loading key ≡ Pending.Chunk
      by true q = let z : ◌≡◌ {A = ℕ} 0 1 = cc in absurd (omega arith)
      by false q = chunk_read c.loading l q

  pub entry_for : (c : Cache) → next_step c key ≡ Next.Entry → pending_for c.loading key ≡ Pending.Entry key
  unfolding next_step
  entry_for c q = entry_at (lands_on c key) c q

  pub chunk_for : (c : Cache) (l : Loading) → next_step c key ≡ Next.Chunk l → pending_for c.loading key ≡ Pending.Chunk
  unfolding next_step
  chunk_for c l q = chunk_at (lands_on c key) c l q

-- ---- a step towards the tile, by the read that it makes

-- without a read: ready, and then used; known missing; missing for want of pages
abbrev pub settled : Cache → Next → TileKey → Cache
settled c (Next.Ready i) key = touched c i
settled c Next.NoPages key = Loads.forgot c key
settled c Next.Missing key = c
settled c Next.Entry key = c
settled c (Next.Chunk l) key = c

abbrev pub pending_of : Next → TileKey → Pending
pending_of Next.Entry key = Pending.Entry key
pending_of (Next.Chunk l) key = Pending.Chunk
pending_of (Next.Ready i) key = Pending.Nothing
pending_of Next.Missing key = Pending.Nothing
pending_of Next.NoPages key = Pending.Nothing

abbrev pub opened_at : Engine → Pending → ℕ → ℕ → Stepped
opened_at e pending offset len = record { answer = Ok (Status.Fetch offset len); engine = (opened e pending).engine }

abbrev pub need_by : Result (Option (ℕ × ℕ)) Refusal → Next → Engine → TileKey → Stepped
need_by (Ok (Some (offset, len))) n e key = opened_at e (pending_of n key) offset len
need_by (Err refusal) n e key = refused e refusal
need_by (Ok None) n e key = Deliver.arrived e (settled e.shared.cache n key)

module _ (e : Engine) (arena : List ℕ) (key : TileKey) where
  abbrev c₁ : Cache
  c₁ = e.shared.cache

  abbrev h₁ : Header
  h₁ = e.shared.header

  -- what an answer of the cache is made
  abbrev pub turned : Loaded → Stepped
  turned l = cond (awaits_read l.answer) (opened e (pending_for c₁.loading key)) (Deliver.loaded e l)

  pub need_reads : (l : Loaded) → l ≡ Loads.told (load_tested c₁ arena h₁ key 0 []) → awaits_read l.answer ≡ true
      → opened e (pending_for c₁.loading key) ≡ need_step e arena key
  unfolding need_step
  need_reads l q r = sym (ap (λ (t : Bool). cond t (opened e (pending_for c₁.loading key)) (Deliver.loaded e l)) r) ∙ ap turned q

  pub need_settles : (l : Loaded) → l ≡ Loads.told (load_tested c₁ arena h₁ key 0 []) → awaits_read l.answer ≡ false
      → Deliver.loaded e l ≡ need_step e arena key
  unfolding need_step
  need_settles l q r = sym (ap (λ (t : Bool). cond t (opened e (pending_for c₁.loading key)) (Deliver.loaded e l)) r) ∙ ap turned q

  ready_by : (i : ℕ) (t : Bool) → turned (cond t (Loads.done (touched c₁ i)) (Loads.refused c₁ Refusal.BadState))
      ≡ need_by (cond t (Ok None) (Err Refusal.BadState)) (Next.Ready i) e key
  ready_by i true = refl
  ready_by i false = refl

  module _ (inside : in_grid h₁ key ≡ true) (ok : state_ok c₁ ≡ true) where
    by_next : (n : Next) → next_step c₁ key ≡ n → turned (unread_step c₁ n arena key h₁.tile) ≡ need_by (fetched c₁ n arena h₁ key) n e key
    by_next (Next.Ready i) q = ready_by i (passes arena i (len_at c₁ i) key h₁.tile)
    by_next Next.Missing q = refl
    by_next Next.NoPages q = refl
    by_next Next.Entry q = ap (opened e) (entry_for key c₁ q)
    by_next (Next.Chunk l) q =
        let loads : c₁.loading ≡ Some l = next_chunk key l c₁ q in
        rw (lt-leb l.len l.done (bytes_left c₁ l ok loads), chunk_for key c₁ l q, loads)

    -- in a state that number 12 does not name, towards a key in the grid
    pub need_is : need_step e arena key ≡ need_by (fetched c₁ (next_step c₁ key) arena h₁ key) (next_step c₁ key) e key
    unfolding need_step
    need_is = ap turned (unread_steps c₁ arena h₁ key inside) ∙ by_next (next_step c₁ key) refl

-- ---- a part of the tile, by the step that it answers

module _ (e : Engine) (arena : List ℕ) (key : TileKey) (failure : ℕ) (bs : List ℕ) where
  abbrev answered : Loads.After
  answered = Loads.stepped e.shared.cache (next_step e.shared.cache key) arena e.shared.header key failure bs

  -- whether the read is answered
  abbrev taken : Bool
  taken = Loads.takes (next_step e.shared.cache key) e.shared.header key failure (length bs)

  abbrev left : Bool → Bool → Loads.After
  left t g =
      cond t (cond g answered (Loads.over (Loads.refused e.shared.cache Refusal.OutsideGrid) arena)) (Loads.over (Loads.refused e.shared.cache Refusal.NotAsked) arena)

  pub part_cases : part_came e arena key failure bs
      ≡ cond taken (cond (in_grid e.shared.header key) (over (Deliver.loaded e (Loads.told answered)) answered.arena) (over (refused e Refusal.OutsideGrid) arena))
      (over (refused e Refusal.NotAsked) arena)
  unfolding part_came
  part_cases = by taken (in_grid e.shared.header key)
    where
      by : (t g : Bool) → over (Deliver.loaded e (Loads.told (left t g))) (left t g).arena
          ≡ cond t (cond g (over (Deliver.loaded e (Loads.told answered)) answered.arena) (over (refused e Refusal.OutsideGrid) arena)) (over (refused e Refusal.NotAsked) arena)
      by true true = refl
      by true false = refl
      by false g = refl

  pub part_is : in_grid e.shared.header key ≡ true
      → part_came e arena key failure bs ≡ cond taken (over (Deliver.loaded e (Loads.told answered)) answered.arena) (over (refused e Refusal.NotAsked) arena)
  part_is inside =
      part_cases
      ∙ ap (λ (g : Bool). cond taken (cond g (over (Deliver.loaded e (Loads.told answered)) answered.arena) (over (refused e Refusal.OutsideGrid) arena)) (over (refused e Refusal.NotAsked) arena))
      inside
