-- An engine by its summary: number 12's test is the cache's own and the summary's (`summary_ok`), and the plan of a step is the summary's (`summary_plan`).
-- What a caller that holds the state in a form of its own goes by: a step towards the needed tile opens a fetch where the cache would read
-- (`need_waits_entry`, `need_waits_chunk`), the needed tile lies in the grid (`need_in`), and a chunk that leaves more to come moves the load on and
-- writes its bytes (`chunk_more`).
use Rattle.refusal.specs.declared.Refusal.{Refusal}
use Rattle.std.specs.Prelude.{Ok, Option, Some, None}
use Rattle.std.proofs.Common.{◌≡◌, ℕ, ◌+◌, ◌<◌, Bool, true, false, cond, ◌&&◌, eqb, List, [], ◌∷◌, length, sym, refl, ap, ◌∙◌, true≢false, lt-ltb, eq-eqb, eqb-true}
use borrow.Author.Tests.{lt-leb}
use Rattle.pack.specs.Grid.{in_grid}
use Rattle.pack.specs.declared.Header.{Header}
use Rattle.pack.specs.declared.TileKey.{TileKey}
use Rattle.pack.proofs.Laws.{and_left, and_right, clause}
use Rattle.cache.specs.declared.Cache.{Cache}
use Rattle.cache.specs.declared.Loading.{Loading}
use Rattle.cache.specs.declared.Pending.{Pending}
use Rattle.cache.specs.declared.next.Next.{Next}
use Rattle.cache.specs.Keys.{same_key, holds}
use Rattle.cache.specs.Lookups.{next_step}
use Rattle.cache.specs.State.{state_ok, runs_ok, ring_ok, load_ok, is_chunk, wants_chunk_of, pending_fits}
use Rattle.cache.specs.State as Caches
use Rattle.cache.specs.Loads.{chunk_len, unread_step, moved, further, put, chunk_step}
use Rattle.cache.specs.Loads as Loads
use Rattle.cache.proofs.FromLaws.{next_chunk}
use Rattle.cache.proofs.UnreadLaws.{unread_steps}
use Rattle.engine.specs.declared.Engine.{Engine}
use Rattle.engine.specs.declared.Phase.{Phase}
use Rattle.engine.specs.declared.Status.TheVariants as Status
use Rattle.engine.specs.Deliver.{After, over, loaded, need_came_by, delivered_by, delivered}
use Rattle.engine.specs.Plans.{plan_of}
use Rattle.engine.specs.State.{refused, is_ready, shared_ok, due_ok, sight_ok, matcher_ok, ahead_ok, failures_ok, pending_ok, engine_ok}
use Rattle.engine.specs.Steps.{opened, need_step}
use Rattle.engine.specs.Summaries.{summary_of, shared_in, follower_in, passes, plan}
use Rattle.engine.specs.Work.{counted, ended}
use Rattle.engine.proofs.NeedLaws.{turned, entry_for, chunk_for, part_is}
use Rattle.engine.proofs.TestedLaws.{causes, state_in}
pub use Rattle.engine.proofs.TestedLaws.{need_in}

-- ---- number 12, and the plan

parts_in : (c s d x m a f p : Bool)
    → ((c && s) && (d && (x && (m && (a && (f && (p && true))))))) ≡ (c && (s && ((d && (x && (m && (a && (f && true))))) && p)))
parts_in false s d x m a f p = refl
parts_in true false d x m a f p = refl
parts_in true true false x m a f p = refl
parts_in true true true false m a f p = refl
parts_in true true true true false a f p = refl
parts_in true true true true true false f p = refl
parts_in true true true true true true false p = refl
parts_in true true true true true true true false = refl
parts_in true true true true true true true true = refl

pub summary_ok : (e : Engine) (size : ℕ) → engine_ok e size ≡ (state_ok e.shared.cache && passes (summary_of e) size)
unfolding engine_ok shared_ok summary_of follower_in passes
summary_ok e size =
    parts_in (state_ok e.shared.cache) (shared_in (summary_of e) size) (due_ok e.shared e.follower.due) (sight_ok e.follower.sight)
    (matcher_ok e.shared e.follower.matcher) (ahead_ok e.shared e.follower.ahead) (failures_ok e.shared.phase e.follower.failures)
    (pending_ok e.shared e.follower.due.need)

pub summary_plan : (e : Engine) → plan (summary_of e) ≡ plan_of e
unfolding summary_of
summary_plan e = refl

-- ---- a step towards the needed tile, where the cache would read

module _ (e : Engine) (arena : List ℕ) (key : TileKey) (inside : in_grid e.shared.header key ≡ true) where
  unread_by : (n : Next) → next_step e.shared.cache key ≡ n
      → need_step e arena key ≡ turned e arena key (unread_step e.shared.cache n arena key e.shared.header.tile)
  unfolding need_step
  unread_by n q =
      ap (turned e arena key) (unread_steps e.shared.cache arena e.shared.header key inside)
      ∙ ap (λ (x : Next). turned e arena key (unread_step e.shared.cache x arena key e.shared.header.tile)) q

  pub need_waits_entry : next_step e.shared.cache key ≡ Next.Entry → need_step e arena key ≡ opened e (Pending.Entry key)
  need_waits_entry q = unread_by Next.Entry q ∙ ap (opened e) (entry_for key e.shared.cache q)

  pub need_waits_chunk : (l : Loading) → next_step e.shared.cache key ≡ Next.Chunk l → l.done < l.len → need_step e arena key ≡ opened e Pending.Chunk
  need_waits_chunk l q more =
      unread_by (Next.Chunk l) q ∙ rw (lt-leb l.len l.done more) (ap (opened e) (chunk_for key e.shared.cache l q))

-- ---- a chunk that leaves more to come

same_key_lem : (a b : TileKey) → same_key a b ≡ true → a ≡ b
same_key_lem a b e =
    let row : a.row ≡ b.row = eqb-true a.row b.row (and_left (eqb a.row b.row) _ e) in
    let col : a.col ≡ b.col = eqb-true a.col b.col (and_right (eqb a.row b.row) _ e) in
    λ i. record { row = row i; col = col i }

holds_is : (need : Option TileKey) (key : TileKey) → holds need key ≡ true → need ≡ Some key
holds_is (Some k) key q = ap Some (same_key_lem k key q)
holds_is None key q = absurd (true≢false (sym q))

ready_is : (p : Phase) → is_ready p ≡ true → p ≡ Phase.Ready
ready_is Phase.Ready q = refl
ready_is Phase.Unread q = absurd (true≢false (sym q))
ready_is Phase.Failed q = absurd (true≢false (sym q))

-- the next step towards a key that is a chunk is one of the load under way
chunk_next : (c : Cache) (key : TileKey) (l : Loading) → c.loading ≡ Some l → is_chunk (next_step c key) ≡ true → next_step c key ≡ Next.Chunk l
chunk_next c key l q t = by (next_step c key) refl t
  where
    by : (n : Next) → next_step c key ≡ n → is_chunk n ≡ true → n ≡ Next.Chunk l
    by (Next.Chunk m) r t = let s : c.loading ≡ Some m = next_chunk key m c r in let same : m ≡ l = cc in ap Next.Chunk same
    by Next.Entry r t = absurd (true≢false (sym t))
    by (Next.Ready i) r t = absurd (true≢false (sym t))
    by Next.Missing r t = absurd (true≢false (sym t))
    by Next.NoPages r t = absurd (true≢false (sym t))

-- the fetch of a chunk is open, of a load that number 12 does not name
module _ (e : Engine) (size : ℕ) (ok : engine_ok e size ≡ true) (l : Loading)
    (waits : e.shared.cache.pending ≡ Pending.Chunk) (loads : e.shared.cache.loading ≡ Some l) where
  chunk_open : (is_ready e.shared.phase && holds e.follower.due.need l.key) ≡ true
  unfolding engine_ok
  chunk_open = rw (waits, loads) at (clause 6 (causes e size ok) ok)

  pub chunk_ready : e.shared.phase ≡ Phase.Ready
  chunk_ready = ready_is e.shared.phase (and_left (is_ready e.shared.phase) _ chunk_open)

  pub chunk_need : e.follower.due.need ≡ Some l.key
  chunk_need = holds_is e.follower.due.need l.key (and_right (is_ready e.shared.phase) _ chunk_open)

  pub chunk_inside : in_grid e.shared.header l.key ≡ true
  chunk_inside = need_in e size ok l.key chunk_ready chunk_need

  chunk_wanted : is_chunk (next_step e.shared.cache l.key) ≡ true
  unfolding state_ok
  chunk_wanted =
      let c = e.shared.cache in
      sym (ap (λ (m : Option Loading). wants_chunk_of m c) loads)
      ∙ sym (ap (λ (p : Pending). pending_fits p c) waits)
      ∙ clause 3 (runs_ok c ∷ ring_ok c ∷ load_ok c ∷ Caches.pending_ok c ∷ []) (state_in e size ok)

  pub chunk_is_next : next_step e.shared.cache l.key ≡ Next.Chunk l
  chunk_is_next = chunk_next e.shared.cache l.key l loads chunk_wanted

-- the load, `come` bytes of its tile in
abbrev pub load_at : Loading → ℕ → Loading
load_at l come = record { key = l.key; slot = l.slot; offset = l.offset; len = l.len; done = come }

-- the step counted, the load moved on, the chunk written
abbrev pub more_came : Engine → Loading → List ℕ → List ℕ → After
more_came e l arena bs =
    let c = e.shared.cache in
    over (ended e (moved c c.pages (Some (load_at l (l.done + chunk_len l)))) (counted e.follower) (Ok Status.Working))
    (put arena l.slot l.done bs)

module _ (e : Engine) (arena bs : List ℕ) (ok : engine_ok e (length arena) ≡ true) (l : Loading)
    (waits : e.shared.cache.pending ≡ Pending.Chunk) (loads : e.shared.cache.loading ≡ Some l)
    (fits : length bs ≡ chunk_len l) (left : l.done + chunk_len l < l.len) where
  abbrev c₁ : Cache
  c₁ = e.shared.cache

  abbrev h₁ : Header
  h₁ = e.shared.header

  abbrev made : Next → After
  made n =
      cond (Loads.takes n h₁ l.key 0 (length bs))
      (over (loaded e (Loads.told (Loads.stepped c₁ n arena h₁ l.key 0 bs))) (Loads.stepped c₁ n arena h₁ l.key 0 bs).arena)
      (over (refused e Refusal.NotAsked) arena)

  chunk_made : made (Next.Chunk l) ≡ more_came e l arena bs
  unfolding chunk_step further
  chunk_made =
      rw (chunk_inside e (length arena) ok l waits loads, eq-eqb (length bs) (chunk_len l) fits, lt-ltb (l.done + chunk_len l) l.len left)

  pub chunk_more : delivered e arena 0 bs ≡ more_came e l arena bs
  unfolding delivered
  chunk_more =
      ap (λ (p : Pending). delivered_by p e arena 0 bs) waits
      ∙ ap (λ (k : Option TileKey). need_came_by k e arena 0 bs) (chunk_need e (length arena) ok l waits loads)
      ∙ part_is e arena l.key 0 bs (chunk_inside e (length arena) ok l waits loads)
      ∙ ap made (chunk_is_next e (length arena) ok l waits loads)
      ∙ chunk_made
