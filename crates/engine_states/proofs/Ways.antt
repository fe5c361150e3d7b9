-- The ways that a step, a delivery and the lent-pack form go (`Steps`, `Delivers`, `Lends`), each with what is then known: every test of their
-- definitions is met here, once, and whatever is shown of them goes by these ways.
use Prim.Native.Nat.{ℕ, ◌+◌, ◌≤◌}
use mathlib.Core.Path.{◌≡◌, refl, sym, ap, subst, ◌∙◌}
use mathlib.Core.Bool.{Bool, true, false, ◌&&◌, cond, true≢false}
use mathlib.Core.List.{List, []}
use mathlib.Core.Logic.{◌⊎◌, inl, inr}
use borrow.Author.Tests.{eqb-true, eqb-false}
use lib.Dec.{eqb, leb}
use lib.ListN.{length}
use Rattle.std.specs.Prelude.{Ok, Option, Some, None, Result, Err}
use Rattle.refusal.specs.Refusal.{number_of}
use Rattle.refusal.specs.declared.Refusal.{Refusal}
use Rattle.pack.specs.Grid.{key_of, entry_of, in_grid, read}
use Rattle.pack.specs.Sector.{parse, rules}
use Rattle.pack.specs.declared.Header.{Header}
use Rattle.pack.specs.declared.TileKey.{TileKey}
use Rattle.pack.proofs.Laws.{read_at}
use Rattle.cache.specs.Lookups.{passes, len_at, next_step}
use Rattle.cache.proofs.Below.{and_left, and_right}
use Rattle.cache.specs.Keys.{holds}
use Rattle.cache.specs.State.{pending_fits, wants_chunk_of, is_entry, is_chunk, state_ok, arena_ok, cache_ok, entry_in}
use Rattle.cache.specs.declared.Cache.{Cache}
use Rattle.cache.specs.declared.Loading.{Loading}
use Rattle.cache.specs.declared.Pending.{Pending}
use Rattle.cache.specs.declared.next.Next.{Next}
use Rattle.cache.specs.Loads as Loads
use Rattle.cache.specs.Loads.{pack_bytes, fetched, read_len, takes, told, chunk_offset, chunk_len}
use Rattle.cache.specs.Calls as Loaded
use Rattle.cache.proofs.FromLaws.{next_chunk}
use Rattle.matcher.specs.declared.Matched.{Matched}
use Rattle.engine.specs.declared.Fix.{Fix}
use Rattle.engine.specs.declared.Follower.{Follower}
use Rattle.engine.specs.State.{refused, is_ready, header_ok, shared_ok, need_ok, pending_by, reload_limit, engine_ok}
use Rattle.engine.specs.Work as Work
use Rattle.engine.specs.Work.{counted, ended, match_ended, match_step, road_ended_by, road_step, road_due_by, at_fix, at_fix_by, worked_by, worked, with_due, road_off}
use Rattle.engine.specs.Deliver.{After, arrived, over, with_phase, with_failures, sector_of, header_failed, header_parsed, header_came, loaded, fits_header, need_came_by, delivered_by, delivered}
use Rattle.engine.specs.Steps.{chunk_request, request_of, ready_by, started_by, started, stepped_by, stepped}
use Rattle.engine.specs.Calls as Engines
use Rattle.engine.specs.declared.Engine.{Engine}
use Rattle.engine.specs.declared.Phase.{Phase}
use Rattle.engine.specs.declared.Status.{Status}
use Rattle.engine.specs.declared.Stepped.{Stepped}
use Rattle.engine.proofs.FetchLaws.{with_open}
use Rattle.engine.proofs.NeedLaws.{settled, opened_at, need_by, need_is, part_is}
use Rattle.engine.proofs.TestedLaws.{state_in, need_in}
use Rattle.engine_states.proofs.CacheKept.{ok_parts, next_key}
use Rattle.engine_states.proofs.EngineKept.{same_key_lem}
use Rattle.engine_states.proofs.KeptParts.{EngineOk, apart}
use Rattle.engine_states.specs.Tasks.{is_open, open_read, Task, none, off_map, match, road, road_task, grid_task, fix_task, need_task, phase_task, open_task, task_of, match_of, road_at}

-- ---- a step

-- a fix that is not on the map
abbrev pub OffGrid : Option TileKey → Type 0
OffGrid (Some key) = ⊥
OffGrid None = Unit

-- the fix that a step works at, in phase Ready
pub record Works (e : Engine) (f : Fix) : Type 0 where
  pub idle : e.shared.cache.pending ≡ Pending.Nothing
  pub ready : e.shared.phase ≡ Phase.Ready
  pub fix : e.follower.sight.fix ≡ Some f

-- a follower that sees, matches and publishes what it did
pub record Same (f g : Follower) : Type 0 where
  pub sight : g.sight ≡ f.sight
  pub matcher : g.matcher ≡ f.matcher
  pub horizon : g.horizon_m ≡ f.horizon_m
  pub ahead : g.ahead ≡ f.ahead

-- what is due of a follower that rests: a match as it was, and a road as it was, or none where there is no match to follow
pub record Rests (f g : Follower) : Type 0 where
  pub matching : g.due.matching ≡ f.due.matching
  pub road : (g.due.road ≡ f.due.road) ⊎ ((g.due.road ≡ false) × (f.matcher.current ≡ None))

-- with the task that it works at, in a state that 12 does not name
pub data Steps (e : Engine) (arena : List ℕ) : Task → Stepped → Type 0 where
  -- an open fetch repeated; the pack has failed; a fetch opened
  repeats : is_open e.shared.cache.pending ≡ true → Steps e arena none (record { answer = open_read e; engine = e })
  fails : e.shared.phase ≡ Phase.Failed → Steps e arena none (record { answer = Ok Status.NoPack; engine = e })
  opens : (p : Pending) (offset len : ℕ) → is_open p ≡ true → pending_fits p e.shared.cache ≡ true
      → request_of (with_open e p).shared p ≡ Ok (Status.Fetch offset len) → Steps e arena none (opened_at e p offset len)
  -- the tile needed is ready and no longer passes; it is settled without a read
  spoils : (key : TileKey) (i : ℕ) → e.shared.phase ≡ Phase.Ready → next_step e.shared.cache key ≡ Next.Ready i
      → passes arena i (len_at e.shared.cache i) key e.shared.header.tile ≡ false → Steps e arena none (refused e Refusal.BadState)
  arrives : (key : TileKey) (n : Next) → e.shared.phase ≡ Phase.Ready → next_step e.shared.cache key ≡ n
      → fetched e.shared.cache n arena e.shared.header key ≡ Ok None → Steps e arena none (arrived e (settled e.shared.cache n key))
  -- nothing to do
  rests : (f : Follower) → Same e.follower f → Rests e.follower f
      → (e.follower.sight.fix ≡ None) ⊎ ((f.due.matching ≡ false) × (f.due.road ≡ false))
      → Steps e arena none (ended e e.shared.cache f (Ok Status.Idle))
  -- off the map; a match; a road
  leaves : (f : Fix) → Works e f → OffGrid (key_of e.shared.header f.lat f.lon)
      → Steps e arena (off_map f) (ended e e.shared.cache (Work.off_map (counted e.follower) f) (Ok Status.OffMap))
  matches : (f : Fix) (key : TileKey) → Works e f → key_of e.shared.header f.lat f.lon ≡ Some key → e.follower.due.matching ≡ true
      → Steps e arena (match f) (match_ended e (counted e.follower) f (match_of e arena f))
  follows : (f : Fix) (key : TileKey) (found : Matched) → Works e f → key_of e.shared.header f.lat f.lon ≡ Some key
      → e.follower.matcher.current ≡ Some found
      → Steps e arena (road f found)
      (road_ended_by (road_at e arena found).predicted.answer e (counted e.follower) f found (road_at e arena found))

-- the chunk that the next step reads is one that may be open
chunk_fits : (c : Cache) (key : TileKey) (l : Loading) → next_step c key ≡ Next.Chunk l → pending_fits Pending.Chunk c ≡ true
chunk_fits c key l q =
    ap (λ (x : Option Loading). wants_chunk_of x c) (next_chunk key l c q) ∙ ap (λ (k : TileKey). is_chunk (next_step c k)) (next_key key l c q) ∙ ap is_chunk q

module _ (e : Engine) (arena : List ℕ) where
  abbrev Goes : Task → Stepped → Type 0
  Goes = Steps e arena

  abbrev f₁ : Follower
  f₁ = counted e.follower

  counted_same : Same e.follower f₁
  counted_same = record { sight = refl; matcher = refl; horizon = refl; ahead = refl }

  counted_rests : Rests e.follower f₁
  counted_rests = record { matching = refl; road = inl refl }

  -- ---- the work of a step

  module _ (f : Fix) (w : Works e f) where
    road_is : (key : TileKey) (x : Option Matched) → key_of e.shared.header f.lat f.lon ≡ Some key → e.follower.matcher.current ≡ x
        → e.follower.due.matching ≡ false → Goes (road_task x f) (road_due_by x e arena f₁ f)
    unfolding road_step
    road_is key None k q m =
        rests (with_due f₁ (road_off f₁.due)) (record { sight = refl; matcher = refl; horizon = refl; ahead = refl })
        (record { matching = refl; road = inr (refl, q) }) (inr (m, refl))
    road_is key (Some found) k q m = follows f key found w k q

    due_is : (key : TileKey) (s t : Bool) → e.follower.due.matching ≡ s → e.follower.due.road ≡ t → key_of e.shared.header f.lat f.lon ≡ Some key
        → Goes (cond s (match f) (cond t (road_task e.follower.matcher.current f) none))
        (cond s (match_step e arena f₁ f) (cond t (road_due_by e.follower.matcher.current e arena f₁ f) (ended e e.shared.cache f₁ (Ok Status.Idle))))
    unfolding match_step
    due_is key true t m r k = matches f key w k m
    due_is key false true m r k = road_is key e.follower.matcher.current k refl m
    due_is key false false m r k = rests f₁ counted_same counted_rests (inr (m, r))

    grid_is : (x : Option TileKey) → key_of e.shared.header f.lat f.lon ≡ x → Goes (grid_task x e.follower f) (at_fix_by x e arena f₁ f)
    grid_is (Some key) k = due_is key e.follower.due.matching e.follower.due.road refl refl k
    grid_is None k = leaves f w (rw k tt)

  module _ (idle : e.shared.cache.pending ≡ Pending.Nothing) (ready : e.shared.phase ≡ Phase.Ready) where
    work_is : (x : Option Fix) → e.follower.sight.fix ≡ x → Goes (fix_task x e) (worked_by x e arena f₁)
    unfolding at_fix
    work_is None q = rests f₁ counted_same counted_rests (inl q)
    work_is (Some f) q =
        grid_is f (record { idle = idle; ready = ready; fix = q }) (key_of e.shared.header f.lat f.lon) refl

    -- ---- the tile that is needed

    module _ (key : TileKey) where
      settles_by : (i : ℕ) (t : Bool) → next_step e.shared.cache key ≡ Next.Ready i
          → passes arena i (len_at e.shared.cache i) key e.shared.header.tile ≡ t
          → Goes none (need_by (cond t (Ok None) (Err Refusal.BadState)) (Next.Ready i) e key)
      settles_by i true q p = arrives key (Next.Ready i) ready q (rw p)
      settles_by i false q p = spoils key i ready q p

      needs_by : (n : Next) → next_step e.shared.cache key ≡ n
          → Goes none (need_by (fetched e.shared.cache n arena e.shared.header key) n e key)
      needs_by (Next.Ready i) q = settles_by i (passes arena i (len_at e.shared.cache i) key e.shared.header.tile) q refl
      needs_by Next.Missing q = arrives key Next.Missing ready q refl
      needs_by Next.NoPages q = arrives key Next.NoPages ready q refl
      needs_by Next.Entry q = opens (Pending.Entry key) (entry_of e.shared.header key) 8 refl (rw q) refl
      needs_by (Next.Chunk l) q =
          opens Pending.Chunk (chunk_offset l) (chunk_len l) refl (chunk_fits e.shared.cache key l q) (ap chunk_request (next_chunk key l e.shared.cache q))

    ready_is : engine_ok e (length arena) ≡ true → (x : Option TileKey) → e.follower.due.need ≡ x → Goes (need_task x e) (ready_by x e arena)
    unfolding worked
    ready_is ok (Some key) q =
        subst (Goes none) (sym (need_is e arena key (need_in e (length arena) ok key ready q) (state_in e (length arena) ok)))
        (needs_by key (next_step e.shared.cache key) refl)
    ready_is ok None q = work_is e.follower.sight.fix refl

  phase_is : engine_ok e (length arena) ≡ true → (x : Phase) → e.shared.cache.pending ≡ Pending.Nothing → e.shared.phase ≡ x
      → Goes (phase_task x e) (started_by x e arena)
  phase_is ok Phase.Failed idle q = fails q
  phase_is ok Phase.Unread idle q = opens Pending.Header 0 512 refl refl refl
  phase_is ok Phase.Ready idle q = ready_is idle q ok e.follower.due.need refl

  open_is : engine_ok e (length arena) ≡ true → (x : Pending) → e.shared.cache.pending ≡ x → Goes (open_task x e) (stepped_by x e arena)
  unfolding started
  open_is ok Pending.Nothing q = phase_is ok e.shared.phase q refl
  open_is ok Pending.Header q = rw (ap (request_of e.shared) (sym q)) (repeats (rw q))
  open_is ok (Pending.Entry key) q = rw (ap (request_of e.shared) (sym q)) (repeats (rw q))
  open_is ok Pending.Chunk q = rw (ap (request_of e.shared) (sym q)) (repeats (rw q))

  pub step_is : engine_ok e (length arena) ≡ true → Steps e arena (task_of e) (stepped e arena)
  unfolding task_of stepped
  step_is ok = open_is ok e.shared.cache.pending refl

-- ---- a delivery

-- the read of the tile needed, which the open fetch asks for, is answered
pub record Brings (e : Engine) (arena : List ℕ) (key : TileKey) (failure : ℕ) (bs : List ℕ) : Type 0 where
  pub ready : e.shared.phase ≡ Phase.Ready
  pub ok : cache_ok e.shared.cache e.shared.header (length arena) ≡ true
  pub grid : in_grid e.shared.header key ≡ true
  pub takes : takes (next_step e.shared.cache key) e.shared.header key failure (length bs) ≡ true
  pub offset : ℕ
  pub len : ℕ
  pub fetches : Loaded.fetch e.shared.cache arena e.shared.header key ≡ Ok (Some (offset, len))
  pub asks : open_read e ≡ Ok (Status.Fetch offset len)
  pub size : failure ≡ 0 → length bs ≡ len

abbrev pub brought : Engine → List ℕ → TileKey → ℕ → List ℕ → Loads.After
brought e arena key failure bs = Loaded.load e.shared.cache arena e.shared.header key failure bs

-- in a state that 12 does not name
pub data Delivers (e : Engine) (arena : List ℕ) (failure : ℕ) (bs : List ℕ) : After → Type 0 where
  -- no fetch is open, or the answer doesn't fit it
  refuses : Delivers e arena failure bs (over (refused e Refusal.NotAsked) arena)
  -- the header's: 1, 2, 3 or 4; it came
  loses : (number : ℕ) → open_read e ≡ Ok (Status.Fetch 0 512) → (failure ≡ 0 → length bs ≡ 512) → Delivers e arena failure bs (over (header_failed e number) arena)
  parses : {h : Header} → open_read e ≡ Ok (Status.Fetch 0 512) → failure ≡ 0 → length bs ≡ 512 → parse (sector_of bs) ≡ Ok h
      → Delivers e arena failure bs (over (with_failures e (with_phase e.shared Phase.Ready h) 0 (Ok Status.Working)) arena)
  -- a part of the tile needed
  brings : (key : TileKey) → Brings e arena key failure bs
      → Delivers e arena failure bs (over (loaded e (told (brought e arena key failure bs))) (brought e arena key failure bs).arena)

entry_next : (n : Next) → is_entry n ≡ true → n ≡ Next.Entry
entry_next Next.Entry q = refl
entry_next (Next.Chunk l) q = absurd (true≢false (sym q))
entry_next (Next.Ready i) q = absurd (true≢false (sym q))
entry_next Next.Missing q = absurd (true≢false (sym q))
entry_next Next.NoPages q = absurd (true≢false (sym q))

-- a fetch of a part of a tile
abbrev is_tile : Pending → Bool
is_tile Pending.Nothing = false
is_tile Pending.Header = false
is_tile (Pending.Entry key) = true
is_tile Pending.Chunk = true

module _ (e : Engine) (arena : List ℕ) (ok : engine_ok e (length arena) ≡ true) where
  abbrev c₁ : Cache
  c₁ = e.shared.cache

  abbrev h₁ : Header
  h₁ = e.shared.header

  parts : EngineOk e.shared e.follower (length arena)
  parts = apart e (length arena) ok

  pub state_ok_lem : state_ok c₁ ≡ true
  unfolding shared_ok
  state_ok_lem = and_left (state_ok c₁) _ parts.shared

  pub open_fits : (x : Pending) → c₁.pending ≡ x → pending_fits x c₁ ≡ true
  open_fits x q = sym (ap (λ (y : Pending). pending_fits y c₁) q) ∙ (ok_parts c₁ state_ok_lem).pending

  need_held : need_ok e.shared e.follower.due.need ≡ true
  need_held = and_right (leb e.follower.due.reloads (reload_limit c₁.pages.count)) _ parts.holds.due

  -- an open entry is of the tile needed, which lies in the grid of the header that was read
  entry_by : (x : Pending) (need : Option TileKey) (phase : Phase) → need_ok (record { phase = phase; header = h₁; cache = c₁ }) need ≡ true
      → pending_by x (record { phase = phase; header = h₁; cache = c₁ }) need ≡ true → (h : Header) → (phase ≡ Phase.Ready → h₁ ≡ h) → entry_in x h ≡ true
  entry_by Pending.Nothing need phase r q h same = refl
  entry_by Pending.Header need phase r q h same = refl
  entry_by Pending.Chunk need phase r q h same = refl
  entry_by (Pending.Entry k) None Phase.Ready r q h same = absurd (true≢false (sym q))
  entry_by (Pending.Entry k) None Phase.Unread r q h same = absurd (true≢false (sym q))
  entry_by (Pending.Entry k) None Phase.Failed r q h same = absurd (true≢false (sym q))
  entry_by (Pending.Entry k) (Some key) Phase.Unread r q h same = absurd (true≢false (sym q))
  entry_by (Pending.Entry k) (Some key) Phase.Failed r q h same = absurd (true≢false (sym q))
  entry_by (Pending.Entry k) (Some key) Phase.Ready r q h same = let is : key ≡ k = same_key_lem key k q in rw (← is, ← same refl) r

  pub entry_is : (h : Header) → (e.shared.phase ≡ Phase.Ready → h₁ ≡ h) → entry_in c₁.pending h ≡ true
  entry_is h same = entry_by c₁.pending e.follower.due.need e.shared.phase need_held parts.pending h same

  module _ (ready : e.shared.phase ≡ Phase.Ready) where
    pub cache_is : cache_ok c₁ h₁ (length arena) ≡ true
    unfolding shared_ok cache_ok
    cache_is =
        let r : (arena_ok c₁ (length arena) && header_ok e.shared) ≡ true = and_right (state_ok c₁) _ parts.shared in
        let head : rules h₁ ≡ true = rw ready at (and_right (arena_ok c₁ (length arena)) _ r) in
        rw (state_ok_lem, head, entry_is h₁ (λ z. refl), and_left (arena_ok c₁ (length arena)) _ r)

    module _ (key : TileKey) (need : e.follower.due.need ≡ Some key) where
      pub grid_of : in_grid h₁ key ≡ true
      grid_of = rw (ready, need) at need_held

      module _ (failure : ℕ) (bs : List ℕ) (fits : takes (next_step c₁ key) h₁ key failure (length bs) ≡ true) where
        brings_by : (n : Next) (offset len : ℕ) → next_step c₁ key ≡ n → fetched c₁ n arena h₁ key ≡ Ok (Some (offset, len))
            → open_read e ≡ Ok (Status.Fetch offset len)
            → read_len n ≡ len → Brings e arena key failure bs
        unfolding Loaded.fetch
        brings_by n offset len q r a same = record {
          ready = ready;
          ok = cache_is;
          grid = grid_of;
          takes = fits;
          offset = offset;
          len = len;
          fetches = rw (cache_is, grid_of, q) r;
          asks = a;
          size = λ z. eqb-true (length bs) (read_len n) (rw (grid_of, q, z) at fits) ∙ same;
        }

        entry_brings : (k : TileKey) → c₁.pending ≡ Pending.Entry k → Brings e arena key failure bs
        entry_brings k p =
            let both : (is_ready e.shared.phase && holds (Some key) k) ≡ true
            = rw (p, need) at parts.pending in
            let same : key ≡ k = same_key_lem key k (and_right (is_ready e.shared.phase) _ both) in
            let next : next_step c₁ k ≡ Next.Entry = entry_next (next_step c₁ k) (open_fits (Pending.Entry k) p) in
            brings_by Next.Entry (entry_of h₁ key) 8 (rw same next) refl (rw (p, same)) refl

        chunk_brings : c₁.pending ≡ Pending.Chunk → Brings e arena key failure bs
        chunk_brings p = by c₁.loading refl
          where
            wants : (x : Option Loading) → c₁.loading ≡ x → wants_chunk_of x c₁ ≡ true
            wants x q = sym (ap (λ (y : Option Loading). wants_chunk_of y c₁) q) ∙ open_fits Pending.Chunk p

            with_next : (l : Loading) (n : Next) → c₁.loading ≡ Some l → next_step c₁ key ≡ n → is_chunk n ≡ true → Brings e arena key failure bs
            with_next l (Next.Chunk m) q r t =
                brings_by (Next.Chunk m) (chunk_offset m) (chunk_len m) r refl (rw p (ap chunk_request (next_chunk key m c₁ r))) refl
            with_next l Next.Entry q r t = absurd (true≢false (sym t))
            with_next l (Next.Ready i) q r t = absurd (true≢false (sym t))
            with_next l Next.Missing q r t = absurd (true≢false (sym t))
            with_next l Next.NoPages q r t = absurd (true≢false (sym t))

            by : (x : Option Loading) → c₁.loading ≡ x → Brings e arena key failure bs
            by None q = absurd (true≢false (sym (wants None q)))
            by (Some l) q =
                let both : (is_ready e.shared.phase && holds (Some key) l.key) ≡ true
                = rw (p, need, q) at parts.pending in
                let same : key ≡ l.key = same_key_lem key l.key (and_right (is_ready e.shared.phase) _ both) in
                with_next l (next_step c₁ key) q refl (ap (λ (k : TileKey). is_chunk (next_step c₁ k)) same ∙ wants (Some l) q)

  module _ (failure : ℕ) (bs : List ℕ) where
    abbrev Comes : After → Type 0
    Comes = Delivers e arena failure bs

    -- ---- the header

    parsed_is : (x : Result Header Refusal) → open_read e ≡ Ok (Status.Fetch 0 512) → failure ≡ 0 → length bs ≡ 512 → parse (sector_of bs) ≡ x
        → Comes (over (header_parsed x e) arena)
    parsed_is (Ok h) o z s q = parses o z s q
    parsed_is (Err refusal) o z s q = loses (number_of refusal) o (λ z. s)

    header_is : (t : Bool) → open_read e ≡ Ok (Status.Fetch 0 512) → eqb failure 0 ≡ t → fits_header failure (length bs) ≡ true
        → Comes (over (cond t (header_parsed (parse (sector_of bs)) e) (header_failed e failure)) arena)
    header_is true o z f =
        parsed_is (parse (sector_of bs)) o (eqb-true failure 0 z) (eqb-true (length bs) 512 (rw z at f)) refl
    header_is false o z f = loses failure o (λ x. absurd (eqb-false failure 0 z x))

    fits_is : (t : Bool) → open_read e ≡ Ok (Status.Fetch 0 512) → fits_header failure (length bs) ≡ t
        → Comes (cond t (over (header_came e failure bs) arena) (over (refused e Refusal.NotAsked) arena))
    unfolding header_came
    fits_is true o f = header_is (eqb failure 0) o refl f
    fits_is false o f = refuses

    -- ---- a part of the tile

    module _ (ready : e.shared.phase ≡ Phase.Ready) where
      part_by : (key : TileKey) → e.follower.due.need ≡ Some key
          → ((takes (next_step c₁ key) h₁ key failure (length bs) ≡ true) → Brings e arena key failure bs)
          → (t : Bool) → takes (next_step c₁ key) h₁ key failure (length bs) ≡ t
          → Comes (cond t (over (loaded e (told (Loads.stepped c₁ (next_step c₁ key) arena h₁ key failure bs)))
          (Loads.stepped c₁ (next_step c₁ key) arena h₁ key failure bs).arena)
          (over (refused e Refusal.NotAsked) arena))
      unfolding Loaded.load
      part_by key need b true f = rw (← load_steps) (brings key (b f))
        where
          load_steps : brought e arena key failure bs ≡ Loads.stepped c₁ (next_step c₁ key) arena h₁ key failure bs
          load_steps = rw (cache_is ready, f, grid_of ready key need)
      part_by key need b false f = refuses

      needed_is : (x : Option TileKey) → e.follower.due.need ≡ x
          → ((key : TileKey) → e.follower.due.need ≡ Some key → takes (next_step c₁ key) h₁ key failure (length bs) ≡ true → Brings e arena key failure bs)
          → Comes (need_came_by x e arena failure bs)
      needed_is None q b = refuses
      needed_is (Some key) q b =
          subst Comes (sym (part_is e arena key failure bs (grid_of ready key q)))
          (part_by key q (b key q) (takes (next_step c₁ key) h₁ key failure (length bs)) refl)

    -- an entry or a chunk is open in phase Ready alone
    tile_ready : (x : Pending) → is_tile x ≡ true → c₁.pending ≡ x → e.shared.phase ≡ Phase.Ready
    tile_ready x t q =
        by e.shared.phase x t refl
        (sym (ap (λ (y : Pending). pending_by y e.shared e.follower.due.need) q) ∙ parts.pending)
      where
        by : (p : Phase) (x : Pending) → is_tile x ≡ true → e.shared.phase ≡ p → pending_by x e.shared e.follower.due.need ≡ true → p ≡ Phase.Ready
        by Phase.Ready x t q h = refl
        by Phase.Unread Pending.Nothing t q h = absurd (true≢false (sym t))
        by Phase.Unread Pending.Header t q h = absurd (true≢false (sym t))
        by Phase.Unread (Pending.Entry k) t q h = absurd (true≢false (sym (rw q at (and_left (is_ready e.shared.phase) _ h))))
        by Phase.Unread Pending.Chunk t q h = absurd (true≢false (sym (rw q at (and_left (is_ready e.shared.phase) _ h))))
        by Phase.Failed Pending.Nothing t q h = absurd (true≢false (sym t))
        by Phase.Failed Pending.Header t q h = absurd (true≢false (sym t))
        by Phase.Failed (Pending.Entry k) t q h = absurd (true≢false (sym (rw q at (and_left (is_ready e.shared.phase) _ h))))
        by Phase.Failed Pending.Chunk t q h = absurd (true≢false (sym (rw q at (and_left (is_ready e.shared.phase) _ h))))

    pending_is : (x : Pending) → c₁.pending ≡ x → Comes (delivered_by x e arena failure bs)
    pending_is Pending.Nothing q = refuses
    pending_is Pending.Header q = fits_is (fits_header failure (length bs)) (ap (request_of e.shared) q) refl
    pending_is (Pending.Entry k) q =
        let r = tile_ready (Pending.Entry k) refl q in
        needed_is r e.follower.due.need refl (λ key need fits. entry_brings r key need failure bs fits k q)
    pending_is Pending.Chunk q =
        let r = tile_ready Pending.Chunk refl q in
        needed_is r e.follower.due.need refl (λ key need fits. chunk_brings r key need failure bs fits q)

    pub deliver_is : Delivers e arena failure bs (delivered e arena failure bs)
    unfolding delivered
    deliver_is = pending_is c₁.pending refl

-- ---- the lent-pack form

abbrev pub is_fetch : Result Status Refusal → Bool
is_fetch (Ok (Status.Fetch offset len)) = true
is_fetch (Ok Status.Idle) = false
is_fetch (Ok Status.Working) = false
is_fetch (Ok Status.NoPack) = false
is_fetch (Ok Status.OffMap) = false
is_fetch (Err number) = false

-- what the lent pack yields for a read: its bytes there, or that it ends before
pub data Yields (Q : List ℕ) (offset len : ℕ) : ℕ → List ℕ → Type 0 where
  bytes : offset + len ≤ length Q → Yields Q offset len 0 (pack_bytes Q offset len)
  past : Yields Q offset len 2 []

-- its step, where that asks for nothing; else the delivery of what the lent pack yields
pub data Lends (e : Engine) (arena Q : List ℕ) : After → Type 0 where
  plain : is_fetch (Engines.step e arena).answer ≡ false → Lends e arena Q (over (Engines.step e arena) arena)
  asks : (offset len failure : ℕ) (bs : List ℕ) → (Engines.step e arena).answer ≡ Ok (Status.Fetch offset len)
      → Yields Q offset len failure bs
      → Lends e arena Q (Engines.deliver (Engines.step e arena).engine arena failure bs)

module _ (e : Engine) (arena Q : List ℕ) where
  range_is : (offset len : ℕ) (x : Result ℕ Refusal) → read Q offset len ≡ x → (Engines.step e arena).answer ≡ Ok (Status.Fetch offset len)
      → Lends e arena Q (Engines.answered_by x (Engines.step e arena).engine arena len Q)
  range_is offset len (Ok at) r q =
      let there : (at ≡ offset) × (offset + len ≤ length Q) = read_at Q offset len r in
      asks offset len 0 (pack_bytes Q at len) q (rw there.0 (bytes there.1))
  range_is offset len (Err number) r q = asks offset len 2 [] q past

  lends_by : (a : Result Status Refusal) → (Engines.step e arena).answer ≡ a → Lends e arena Q (Engines.step_from_by a (Engines.step e arena) arena Q)
  unfolding Engines.answered_from
  lends_by (Ok (Status.Fetch offset len)) q = range_is offset len (read Q offset len) refl q
  lends_by (Ok Status.Idle) q = plain (rw q)
  lends_by (Ok Status.Working) q = plain (rw q)
  lends_by (Ok Status.NoPack) q = plain (rw q)
  lends_by (Ok Status.OffMap) q = plain (rw q)
  lends_by (Err number) q = plain (rw q)

  pub lends_is : Lends e arena Q (Engines.step_from e arena Q)
  unfolding Engines.step_from
  lends_is = lends_by (Engines.step e arena).answer refl
