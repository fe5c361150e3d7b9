-- A delivery is refused with 11 exactly where it does not answer the open fetch (`deliver_tested`), and else never (`deliver_number`): in a state that
-- number 12 does not name the fetch is the header's, or the next read towards the tile that is needed, which lies in the grid.
use Rattle.std.specs.Prelude.{Option, Some, None, Result, Ok, Err}
use Prim.Native.Nat.{ℕ}
use mathlib.Core.Path.{◌≡◌, refl, sym, ap, ◌∙◌, subst}
use mathlib.Core.Bool.{Bool, true, false, ◌&&◌, cond, true≢false}
use mathlib.Core.List.{List}
use borrow.Author.Tests.{ltb-true, ltb-false, le-leb, lt-leb}
use lib.Dec.{eqb, ltb, leb}
use lib.ListN.{length}
use Rattle.refusal.specs.Refusal.{number_of_result, number_of}
use Rattle.refusal.specs.declared.Refusal.{Refusal}
use Rattle.pack.specs.Grid.{in_grid}
use Rattle.pack.specs.Sector.{parse}
use Rattle.pack.specs.declared.Header.{Header}
use Rattle.pack.specs.declared.TileKey.{TileKey}
use Rattle.cache.specs.Keys.{same_key}
use Rattle.cache.specs.Lookups.{next_step}
use Rattle.cache.specs.Loads as Loads
use Rattle.cache.specs.Loads.{fits, read_len}
use Rattle.cache.specs.State.{is_entry, is_chunk, wants_chunk_of}
use Rattle.cache.specs.declared.Cache.{Cache}
use Rattle.cache.specs.declared.Loading.{Loading}
use Rattle.cache.specs.declared.Pending.{Pending}
use Rattle.cache.specs.declared.Progress.{Progress}
use Rattle.cache.specs.declared.next.Next.{Next}
use Rattle.cache.proofs.Below.{and_left, and_right}
use Rattle.cache.proofs.FromLaws.{next_chunk}
use Rattle.engine.specs.Calls as Calls
use Rattle.engine.specs.Deliver.{After, over, arrived, header_failed, header_parsed, header_came, sector_of, fits_header, load_failed, loaded_by, loaded, part_came, need_came_by, delivered_by, delivered}
use Rattle.engine.specs.State.{refused, is_ready, need_ok, pending_ok, reload_limit, engine_ok}
use Rattle.engine.specs.Steps.{chunk_request, request_of}
use Rattle.engine.specs.declared.Engine.{Engine}
use Rattle.engine.specs.declared.Stepped.{Stepped}
use Rattle.engine.proofs.NeedLaws.{part_is}
use Rattle.engine_states.proofs.KeptParts.{apart}
use Rattle.engine_states.proofs.EngineKept.{same_key_lem, state_is, ready_is, open_fits}
use Rattle.refusals.specs.Refusals.{answers, open_fetch}
use Rattle.refusals.proofs.LoadLaws.{stepped_runs}

-- ---- what the header and a part of a tile answer

either_number : (t : Bool) (x y : Stepped) → number_of_result x.answer ≡ 0 → number_of_result y.answer ≡ 0 → number_of_result (cond t x y).answer ≡ 0
either_number true x y p q = p
either_number false x y p q = q

module _ (e : Engine) where
  failed_number : (number : ℕ) → number_of_result (header_failed e number).answer ≡ 0
  unfolding header_failed
  failed_number number = either_number (eqb number 1 && ltb e.follower.failures 7) _ _ refl refl

  parsed_number : (x : Result Header Refusal) → number_of_result (header_parsed x e).answer ≡ 0
  parsed_number (Ok h) = refl
  parsed_number (Err refusal) = failed_number (number_of refusal)

  header_number : (failure : ℕ) (bs : List ℕ) → number_of_result (header_came e failure bs).answer ≡ 0
  unfolding header_came
  header_number failure bs =
      either_number (eqb failure 0) _ _ (parsed_number (parse (sector_of bs))) (failed_number failure)

  loaded_number : (p : Result Progress Refusal) (c : Cache) → number_of_result p ≡ 0 → number_of_result (loaded_by p e c).answer ≡ 0
  unfolding arrived load_failed
  loaded_number (Ok Progress.Done) c z = refl
  loaded_number (Ok Progress.More) c z = refl
  loaded_number (Ok (Progress.Failed number)) c z = either_number (ltb e.follower.failures 7) _ _ refl refl
  loaded_number (Err number) c z = z

-- ---- the header's fetch

at_most : (a b : ℕ) → leb a b ≡ cond (ltb b a) false true
at_most a b = by (ltb b a) refl
  where
    by : (t : Bool) → ltb b a ≡ t → leb a b ≡ cond t false true
    by true q = lt-leb a b (ltb-true b a q)
    by false q = le-leb a b (ltb-false b a q)

header_fits : (failure len : ℕ) → fits_header failure len ≡ fits 512 failure len
header_fits failure len = ap (λ (t : Bool). cond (eqb failure 0) (eqb len 512) t) (at_most failure 2)

-- ---- the next read

entry_next : (n : Next) → is_entry n ≡ true → n ≡ Next.Entry
entry_next Next.Entry q = refl
entry_next (Next.Chunk l) q = absurd (true≢false (sym q))
entry_next (Next.Ready i) q = absurd (true≢false (sym q))
entry_next Next.Missing q = absurd (true≢false (sym q))
entry_next Next.NoPages q = absurd (true≢false (sym q))

chunk_next : (c : Cache) (k : TileKey) (l : Loading) → c.loading ≡ Some l → is_chunk (next_step c k) ≡ true → next_step c k ≡ Next.Chunk l
chunk_next c k l q t = by (next_step c k) refl t
  where
    by : (n : Next) → next_step c k ≡ n → is_chunk n ≡ true → n ≡ Next.Chunk l
    by (Next.Chunk m) r t = let s : c.loading ≡ Some m = next_chunk k m c r in let same : m ≡ l = cc in ap Next.Chunk same
    by Next.Entry r t = absurd (true≢false (sym t))
    by (Next.Ready i) r t = absurd (true≢false (sym t))
    by Next.Missing r t = absurd (true≢false (sym t))
    by Next.NoPages r t = absurd (true≢false (sym t))

-- ---- the delivery

module _ (e : Engine) (arena : List ℕ) (failure : ℕ) (bs : List ℕ) where
  abbrev c₁ : Cache
  c₁ = e.shared.cache

  abbrev h₁ : Header
  h₁ = e.shared.header

  -- refused with 11 where the test fails, and else not
  abbrev Asks : Bool → After → Type 0
  Asks t x = (x ≡ cond t x (over (refused e Refusal.NotAsked) arena)) × (t ≡ true → number_of_result x.answer ≡ 0)

  no_fetch : Asks false (over (refused e Refusal.NotAsked) arena)
  no_fetch = (refl, λ t. absurd (true≢false (sym t)))

  asks : (t : Bool) (x : After) → number_of_result x.answer ≡ 0 → Asks t (cond t x (over (refused e Refusal.NotAsked) arena))
  asks true x z = (refl, λ t. z)
  asks false x z = no_fetch

  module _ (ok : engine_ok e (length arena) ≡ true) where
    need_known : need_ok e.shared e.follower.due.need ≡ true
    need_known = and_right (leb e.follower.due.reloads (reload_limit c₁.pages.count)) _ (apart e (length arena) ok).holds.due

    fetch_open : pending_ok e.shared e.follower.due.need ≡ true
    fetch_open = (apart e (length arena) ok).pending

    -- the read of the tile needed
    part_asks : (k : TileKey) (n : Next) → is_ready e.shared.phase ≡ true → e.follower.due.need ≡ Some k → next_step c₁ k ≡ n
        → number_of_result (Loads.stepped c₁ n arena h₁ k failure bs).answer ≡ 0 → Asks (fits (read_len n) failure (length bs)) (part_came e arena k failure bs)
    part_asks k n ready need q runs =
        let held : need_ok e.shared (Some k) ≡ true = rw need at need_known in
        let grid : in_grid h₁ k ≡ true = rw (ready_is e.shared.phase ready) at held in
        let x = Loads.stepped c₁ n arena h₁ k failure bs in
        let is : part_came e arena k failure bs ≡ cond (fits (read_len n) failure (length bs)) (over (loaded e (Loads.told x)) x.arena) (over (refused e Refusal.NotAsked) arena)
        = rw (← q, part_is e arena k failure bs grid, grid) in
        subst (Asks (fits (read_len n) failure (length bs))) (sym is) (asks _ (over (loaded e (Loads.told x)) x.arena) (loaded_number e x.answer x.cache runs))

    entry_asks : (key : TileKey) → c₁.pending ≡ Pending.Entry key → (x : Option TileKey) → e.follower.due.need ≡ x
        → Asks (fits 8 failure (length bs)) (need_came_by x e arena failure bs)
    entry_asks key p None need =
        absurd (true≢false (sym (and_right (is_ready e.shared.phase) false (rw (p, need) at fetch_open))))
    entry_asks key p (Some k) need =
        let fit : (is_ready e.shared.phase && same_key k key) ≡ true = rw (p, need) at fetch_open in
        let same : k ≡ key = same_key_lem k key (and_right (is_ready e.shared.phase) _ fit) in
        let entry : is_entry (next_step c₁ k) ≡ true
        = rw same (open_fits c₁ k (state_is e (length arena) ok) (Pending.Entry key) p) in
        part_asks k Next.Entry (and_left (is_ready e.shared.phase) _ fit) need (entry_next (next_step c₁ k) entry)
        (stepped_runs c₁ arena h₁ k failure bs Next.Entry refl)

    chunk_asks : (l : Loading) → c₁.pending ≡ Pending.Chunk → c₁.loading ≡ Some l → (x : Option TileKey) → e.follower.due.need ≡ x
        → Asks (fits (Loads.chunk_len l) failure (length bs)) (need_came_by x e arena failure bs)
    chunk_asks l p q None need =
        absurd (true≢false (sym (and_right (is_ready e.shared.phase) false (rw (p, need, q) at fetch_open))))
    chunk_asks l p q (Some k) need =
        let fit : (is_ready e.shared.phase && same_key k l.key) ≡ true = rw (p, need, q) at fetch_open in
        let same : k ≡ l.key = same_key_lem k l.key (and_right (is_ready e.shared.phase) _ fit) in
        let wants : is_chunk (next_step c₁ l.key) ≡ true
        = sym (ap (λ (y : Option Loading). wants_chunk_of y c₁) q) ∙ open_fits c₁ k (state_is e (length arena) ok) Pending.Chunk p in
        let next : next_step c₁ k ≡ Next.Chunk l = rw same (chunk_next c₁ l.key l q wants) in
        part_asks k (Next.Chunk l) (and_left (is_ready e.shared.phase) _ fit) need next
        (stepped_runs c₁ arena h₁ k failure bs (Next.Chunk l) refl)

    load_asks : (x : Option Loading) → c₁.pending ≡ Pending.Chunk → c₁.loading ≡ x
        → Asks (answers (chunk_request x) failure (length bs)) (need_came_by e.follower.due.need e arena failure bs)
    load_asks None p q =
        absurd (true≢false (sym (sym (ap (λ (y : Option Loading). wants_chunk_of y c₁) q) ∙ open_fits c₁ (record { row = 0; col = 0 }) (state_is e (length arena) ok) Pending.Chunk p)))
    load_asks (Some l) p q = chunk_asks l p q e.follower.due.need refl

    open_asks : (x : Pending) → c₁.pending ≡ x → Asks (answers (request_of e.shared x) failure (length bs)) (delivered_by x e arena failure bs)
    open_asks Pending.Nothing p = no_fetch
    open_asks Pending.Header p =
        subst (λ (t : Bool). Asks t (delivered_by Pending.Header e arena failure bs)) (header_fits failure (length bs))
        (asks (fits_header failure (length bs)) (over (header_came e failure bs) arena) (header_number e failure bs))
    open_asks (Pending.Entry key) p = entry_asks key p e.follower.due.need refl
    open_asks Pending.Chunk p = load_asks c₁.loading p refl

  pub deliver_tested : Calls.deliver e arena failure bs
      ≡ cond (engine_ok e (length arena)) (cond (answers (open_fetch e) failure (length bs)) (delivered e arena failure bs) (over (refused e Refusal.NotAsked) arena))
      (over (refused e Refusal.BadState) arena)
  unfolding Calls.deliver delivered
  deliver_tested = by (engine_ok e (length arena)) refl
    where
      by : (t : Bool) → engine_ok e (length arena) ≡ t → cond t (delivered_by c₁.pending e arena failure bs) (over (refused e Refusal.BadState) arena)
          ≡ cond t (cond (answers (open_fetch e) failure (length bs)) (delivered_by c₁.pending e arena failure bs) (over (refused e Refusal.NotAsked) arena))
          (over (refused e Refusal.BadState) arena)
      by true ok = (open_asks ok c₁.pending refl).0
      by false ok = refl

  pub deliver_number : engine_ok e (length arena) ≡ true → answers (open_fetch e) failure (length bs) ≡ true
      → number_of_result (delivered e arena failure bs).answer ≡ 0
  unfolding delivered
  deliver_number ok = (open_asks ok c₁.pending refl).1
