-- A piece put at its place gives the words of the engine with that part, and with no other changed (`phase_put`, .., `steps_put`), whichever engine it is: so a call may write the words that
-- change and leave the rest. The idea: the words are pieces of known lengths, one behind the other; a place is looked for behind the pieces that end before it (`behind`) and inside the one that
-- holds it (`inside`), down to the piece that begins there (`instead`).
use Rattle.std.specs.Prelude.{Option}
use Rattle.cache.specs.declared.Loading.{Loading}
use Rattle.std.proofs.Common.{◌≡◌, ℕ, zero, suc, ◌+◌, ◌<◌, ◌≤◌, Bool, List, [], ◌∷◌, ◌++◌, length, take, drop, set, sym, refl, ap, ◌∙◌, append_assoc, arith, drop_at}
use lib.Seq.{drop-append-le}
use Rattle.pack.specs.declared.Header.{Header}
use Rattle.cache.specs.declared.Cache.{Cache}
use Rattle.cache.specs.declared.Pages.{Pages}
use Rattle.cache.specs.declared.Pending.{Pending}
use Rattle.matcher.specs.declared.Matcher.{Matcher}
use Rattle.engine.specs.Setters.{with_matcher, with_due, with_ahead, with_failures, with_steps, with_matching, with_road}
use Rattle.engine.specs.declared.Ahead.{Ahead}
use Rattle.engine.specs.declared.Due.{Due}
use Rattle.engine.specs.declared.Engine.{Engine}
use Rattle.engine.specs.declared.Follower.{Follower}
use Rattle.engine.specs.declared.Phase.{Phase}
use Rattle.engine.specs.declared.Shared.{Shared}
use Rattle.words.specs.Put.{put}
use Rattle.words.specs.Words.{flat, bit, low_word, float_word, phase_word, header_words, slots_words, used_words, pages_words, ring_words, loading_words, pending_words, cache_words, shared_words, sight_words, matcher_words, due_words, ahead_words, follower_words, words}
use Rattle.words.proofs.PieceLaws.{slots_long, used_long, pages_long, ring_long, loading_long, pending_long, cache_long, shared_long, sight_long, matcher_long, due_long, ahead_long, follower_long}

-- ---- an engine with one part changed

abbrev pub with_pages : Cache → Pages → Cache
with_pages c g = record { pages = g; missing = c.missing; loading = c.loading; pending = c.pending; loads = c.loads }

abbrev pub with_cache_in : Shared → Cache → Shared
with_cache_in s c = record { phase = s.phase; header = s.header; cache = c }

abbrev pub sharing : Engine → Shared → Engine
sharing e s = record { shared = s; follower = e.follower }

abbrev pub following : Engine → Follower → Engine
following e f = record { shared = e.shared; follower = f }

abbrev pub phased : Engine → Phase → Engine
phased e p = sharing e (record { phase = p; header = e.shared.header; cache = e.shared.cache })

abbrev pub headed : Engine → Header → Engine
headed e h = sharing e (record { phase = e.shared.phase; header = h; cache = e.shared.cache })

abbrev pub cached : Engine → Cache → Engine
cached e c = sharing e (with_cache_in e.shared c)

abbrev pub paged : Engine → Pages → Engine
paged e g = cached e (with_pages e.shared.cache g)

-- when each page was last used, and the clock
abbrev used_at : Pages → List ℕ → Pages
used_at g u = record { slots = g.slots; used = u; count = g.count; clock = g.clock }

abbrev clock_at : Pages → ℕ → Pages
clock_at g n = record { slots = g.slots; used = g.used; count = g.count; clock = n }

abbrev pub aged : Engine → List ℕ → Engine
aged e u = paged e (used_at e.shared.cache.pages u)

abbrev pub clocked : Engine → ℕ → Engine
clocked e n = paged e (clock_at e.shared.cache.pages n)

abbrev loading_in : Cache → Option Loading → Cache
loading_in c l = record { pages = c.pages; missing = c.missing; loading = l; pending = c.pending; loads = c.loads }

abbrev pending_in : Cache → Pending → Cache
pending_in c p = record { pages = c.pages; missing = c.missing; loading = c.loading; pending = p; loads = c.loads }

abbrev pub loading_as : Engine → Option Loading → Engine
loading_as e l = cached e (loading_in e.shared.cache l)

abbrev pub pending_as : Engine → Pending → Engine
pending_as e p = cached e (pending_in e.shared.cache p)

abbrev pub matched_as : Engine → Matcher → Engine
matched_as e m = following e (with_matcher e.follower m)

abbrev pub due_as : Engine → Due → Engine
due_as e d = following e (with_due e.follower d)

abbrev pub ahead_as : Engine → Ahead → Engine
ahead_as e a = following e (with_ahead e.follower a)

abbrev pub failing : Engine → ℕ → Engine
failing e n = following e (with_failures e.follower n)

abbrev pub counting : Engine → ℕ → Engine
counting e n = following e (with_steps e.follower n)

-- ---- any words

module _ (p : List ℕ) where
  put_first : (ws : List ℕ) → put 0 p ws ≡ p ++ drop (length p) ws
  unfolding put
  put_first ws = let far : 0 + length p ≡ length p = omega arith in ap (λ (k : ℕ). p ++ drop k ws) far

  put_next : (x : ℕ) (ws : List ℕ) (at : ℕ) → put (suc at) p (x ∷ ws) ≡ x ∷ put at p ws
  unfolding put
  put_next x ws at = let far : suc at + length p ≡ suc (at + length p) = omega arith in ap (λ (k : ℕ). take (suc at) (x ∷ ws) ++ p ++ drop k (x ∷ ws)) far

  pub put_behind : (xs ys : List ℕ) (at k : ℕ) → at ≡ k + length xs → put at p (xs ++ ys) ≡ xs ++ put k p ys
  put_behind [] ys at k e = let same : at ≡ k = omega (arith, e) in ap (λ (j : ℕ). put j p ys) same
  put_behind (x ∷ xs) ys zero k e = absurd (omega (arith, e))
  put_behind (x ∷ xs) ys (suc at) k e = put_next x (xs ++ ys) at ∙ ap {B = List ℕ} (λ r. x ∷ r) (put_behind xs ys at k (omega (arith, e)))

  pub put_inside : (xs ys : List ℕ) (at : ℕ) → at + length p ≤ length xs → put at p (xs ++ ys) ≡ put at p xs ++ ys
  put_inside xs ys zero h =
      put_first (xs ++ ys)
      ∙ ap (λ (r : List ℕ). p ++ r) (drop-append-le (length p) xs ys (omega (arith, h)))
      ∙ sym (append_assoc p (drop (length p) xs) ys)
      ∙ ap (λ (r : List ℕ). r ++ ys) (sym (put_first xs))
  put_inside [] ys (suc at) h = absurd (omega (arith, h))
  put_inside (x ∷ xs) ys (suc at) h =
      put_next x (xs ++ ys) at
      ∙ ap {B = List ℕ} (λ r. x ∷ r) (put_inside xs ys at (omega (arith, h)))
      ∙ ap (λ (r : List ℕ). r ++ ys) (sym (put_next x xs at))

  pub put_instead : (q ys : List ℕ) → length q ≡ length p → put 0 p (q ++ ys) ≡ p ++ ys
  put_instead q ys e = put_first (q ++ ys) ∙ ap (λ (r : List ℕ). p ++ r) (drop_at q ys (length p) e)

-- one word stored is one word put
pub set-put : (ws : List ℕ) (at n : ℕ) → at < length ws → set ws at n ≡ put at (n ∷ []) ws
unfolding put
set-put [] at n h = absurd (omega (arith, h))
set-put (x ∷ ws) zero n h = refl
set-put (x ∷ ws) (suc at) n h = ap {B = List ℕ} (λ r. x ∷ r) (set-put ws at n (omega (arith, h))) ∙ sym (put_next (n ∷ []) x ws at)

-- the same with the lengths of pieces
module _ (p : List ℕ) (m : ℕ) (l : length p ≡ m) where
  behind : (xs ys : List ℕ) (n at k : ℕ) → length xs ≡ n → at ≡ k + n → {zs : List ℕ} → put k p ys ≡ zs → put at p (xs ++ ys) ≡ xs ++ zs
  behind xs ys n at k long e rest = put_behind p xs ys at k (omega (arith, long, e)) ∙ ap (λ (r : List ℕ). xs ++ r) rest

  inside : (xs ys : List ℕ) (n at : ℕ) → length xs ≡ n → at + m ≤ n → {zs : List ℕ} → put at p xs ≡ zs → put at p (xs ++ ys) ≡ zs ++ ys
  inside xs ys n at long h part = put_inside p xs ys at (omega (arith, l, long, h)) ∙ ap (λ (r : List ℕ). r ++ ys) part

  instead : (q ys : List ℕ) → length q ≡ m → put 0 p (q ++ ys) ≡ p ++ ys
  instead q ys long = put_instead p q ys (long ∙ sym l)

  -- ---- a piece within the words of a struct

  in_pages : (c : Cache) (g : Pages) (at : ℕ) → at + m ≤ 386 → put at p (pages_words c.pages) ≡ pages_words g → put at p (cache_words c) ≡ cache_words (with_pages c g)
  unfolding cache_words
  in_pages c g at h part =
      inside
      (pages_words c.pages)
      (flat (ring_words c.missing ∷ loading_words c.loading ∷ pending_words c.pending ∷ (c.loads ∷ []) ∷ []))
      386 at (pages_long c.pages) h part

  in_cache : (s : Shared) (c : Cache) (at k : ℕ) → at ≡ k + 15 → k + m ≤ 524 → put k p (cache_words s.cache) ≡ cache_words c
      → put at p (shared_words s) ≡ shared_words (with_cache_in s c)
  unfolding shared_words
  in_cache s c at k e h part =
      let before : List ℕ = 1 ∷ phase_word s.phase ∷ header_words s.header in
      behind before (cache_words s.cache ++ []) 15 at k refl e (inside (cache_words s.cache) [] 524 k (cache_long s.cache) h part)

  in_shared : (e : Engine) (s : Shared) (at : ℕ) → at + m ≤ 539 → put at p (shared_words e.shared) ≡ shared_words s → put at p (words e) ≡ words (sharing e s)
  unfolding words
  in_shared e s at h part = inside (shared_words e.shared) (follower_words e.follower ++ []) 539 at (shared_long e.shared) h part

  in_follower : (e : Engine) (f : Follower) (at k : ℕ) → at ≡ k + 539 → k + m ≤ 611 → put k p (follower_words e.follower) ≡ follower_words f
      → put at p (words e) ≡ words (following e f)
  unfolding words
  in_follower e f at k far h part =
      behind (shared_words e.shared) (follower_words e.follower ++ []) 539 at k (shared_long e.shared) far
      (inside (follower_words e.follower) [] 611 k (follower_long e.follower) h part)

-- ---- the pack and its cache

shared_phase : (s : Shared) (p : Phase) → put 1 (phase_word p ∷ []) (shared_words s) ≡ shared_words (record { phase = p; header = s.header; cache = s.cache })
unfolding put shared_words
shared_phase s p = refl

shared_header : (s : Shared) (h : Header) → put 2 (header_words h) (shared_words s) ≡ shared_words (record { phase = s.phase; header = h; cache = s.cache })
unfolding put shared_words
shared_header s h = refl

shared_cache : (s : Shared) (c : Cache) → put 15 (cache_words c) (shared_words s) ≡ shared_words (with_cache_in s c)
unfolding shared_words
shared_cache s c =
    let before : List ℕ = 1 ∷ phase_word s.phase ∷ header_words s.header in
    behind (cache_words c) 524 (cache_long c) before (cache_words s.cache ++ []) 15 15 0 refl refl
    (instead (cache_words c) 524 (cache_long c) (cache_words s.cache) [] (cache_long s.cache))

pages_used : (g : Pages) (u : List ℕ) → put 288 (used_words u) (pages_words g) ≡ pages_words (used_at g u)
unfolding pages_words
pages_used g u =
    let counts : List ℕ = low_word g.count ∷ g.clock ∷ [] in
    behind (used_words u) 96 (used_long u) (slots_words g.slots) (used_words g.used ++ counts) 288 288 0 (slots_long g.slots) refl
    (instead (used_words u) 96 (used_long u) (used_words g.used) counts (used_long g.used))

counts_clock : (a b n : ℕ) → put 1 (n ∷ []) (a ∷ b ∷ []) ≡ a ∷ n ∷ []
unfolding put
counts_clock a b n = refl

pages_clock : (g : Pages) (n : ℕ) → put 385 (n ∷ []) (pages_words g) ≡ pages_words (clock_at g n)
unfolding pages_words
pages_clock g n =
    let counts : List ℕ = low_word g.count ∷ g.clock ∷ [] in
    behind (n ∷ []) 1 refl (slots_words g.slots) (used_words g.used ++ counts) 288 385 97 (slots_long g.slots) refl
    (behind (n ∷ []) 1 refl (used_words g.used) counts 96 97 1 (used_long g.used) refl (counts_clock (low_word g.count) g.clock n))

cache_loading : (c : Cache) (l : Option Loading) → put 515 (loading_words l) (cache_words c) ≡ cache_words (loading_in c l)
unfolding cache_words
cache_loading c l =
    let after : List ℕ = flat (pending_words c.pending ∷ (c.loads ∷ []) ∷ []) in
    let from_load : List ℕ = loading_words c.loading ++ after in
    behind (loading_words l) 6 (loading_long l) (pages_words c.pages) (ring_words c.missing ++ from_load) 386 515 129 (pages_long c.pages) refl
    (behind (loading_words l) 6 (loading_long l) (ring_words c.missing) from_load 129 129 0 (ring_long c.missing) refl
    (instead (loading_words l) 6 (loading_long l) (loading_words c.loading) after (loading_long c.loading)))

cache_pending : (c : Cache) (p : Pending) → put 521 (pending_words p) (cache_words c) ≡ cache_words (pending_in c p)
unfolding cache_words
cache_pending c p =
    let after : List ℕ = c.loads ∷ [] in
    let from_fetch : List ℕ = pending_words c.pending ++ after in
    let from_load : List ℕ = loading_words c.loading ++ from_fetch in
    behind (pending_words p) 2 (pending_long p) (pages_words c.pages) (ring_words c.missing ++ from_load) 386 521 135 (pages_long c.pages) refl
    (behind (pending_words p) 2 (pending_long p) (ring_words c.missing) from_load 129 135 6 (ring_long c.missing) refl
    (behind (pending_words p) 2 (pending_long p) (loading_words c.loading) from_fetch 6 6 0 (loading_long c.loading) refl
    (instead (pending_words p) 2 (pending_long p) (pending_words c.pending) after (pending_long c.pending))))

pub phase_put : (e : Engine) (p : Phase) → put 1 (phase_word p ∷ []) (words e) ≡ words (phased e p)
phase_put e p = in_shared (phase_word p ∷ []) 1 refl e (phased e p).shared 1 (omega arith) (shared_phase e.shared p)

pub header_put_in : (e : Engine) (h : Header) → put 2 (header_words h) (words e) ≡ words (headed e h)
header_put_in e h = in_shared (header_words h) 13 refl e (headed e h).shared 2 (omega arith) (shared_header e.shared h)

pub cache_put_in : (e : Engine) (c : Cache) → put 15 (cache_words c) (words e) ≡ words (cached e c)
cache_put_in e c = in_shared (cache_words c) 524 (cache_long c) e (cached e c).shared 15 (omega arith) (shared_cache e.shared c)

module _ (e : Engine) where
  abbrev held : Cache
  held = e.shared.cache

  -- a piece of the cache's words, and of its pages'
  in_held : (p : List ℕ) (m : ℕ) → length p ≡ m → (c : Cache) (at k : ℕ) → at ≡ k + 15 → k + m ≤ 524 → put k p (cache_words held) ≡ cache_words c → put at p (words e) ≡ words (cached e c)
  in_held p m l c at k far h part = in_shared p m l e (cached e c).shared at (omega (arith, far, h)) (in_cache p m l e.shared c at k far h part)

  pub in_held_pages : (p : List ℕ) (m : ℕ) → length p ≡ m → (g : Pages) (at k : ℕ) → at ≡ k + 15 → k + m ≤ 386 → put k p (pages_words held.pages) ≡ pages_words g
      → put at p (words e) ≡ words (paged e g)
  in_held_pages p m l g at k far h part = in_held p m l (with_pages held g) at k far (omega (arith, h)) (in_pages p m l held g k h part)

  pub used_put : (u : List ℕ) → put 303 (used_words u) (words e) ≡ words (aged e u)
  used_put u = in_held_pages (used_words u) 96 (used_long u) (used_at held.pages u) 303 288 refl (omega arith) (pages_used held.pages u)

  pub clock_put : (n : ℕ) → put 400 (n ∷ []) (words e) ≡ words (clocked e n)
  clock_put n = in_held_pages (n ∷ []) 1 refl (clock_at held.pages n) 400 385 refl (omega arith) (pages_clock held.pages n)

  pub loading_put : (l : Option Loading) → put 530 (loading_words l) (words e) ≡ words (loading_as e l)
  loading_put l = in_held (loading_words l) 6 (loading_long l) (loading_in held l) 530 515 refl (omega arith) (cache_loading held l)

  pub pending_put : (p : Pending) → put 536 (pending_words p) (words e) ≡ words (pending_as e p)
  pending_put p = in_held (pending_words p) 2 (pending_long p) (pending_in held p) 536 521 refl (omega arith) (cache_pending held p)

-- ---- the follower

module _ (f : Follower) where
  abbrev last : List ℕ
  last = f.failures ∷ float_word f.horizon_m ∷ f.steps ∷ []

  abbrev from_ahead : List ℕ
  from_ahead = ahead_words f.ahead ++ last

  abbrev from_due : List ℕ
  from_due = due_words f.due ++ from_ahead

  abbrev from_matcher : List ℕ
  from_matcher = matcher_words f.matcher ++ from_due

  follower_matcher : (m : Matcher) → put 42 (matcher_words m) (follower_words f) ≡ follower_words (with_matcher f m)
  unfolding follower_words
  follower_matcher m =
      behind (matcher_words m) 22 (matcher_long m) (sight_words f.sight) from_matcher 42 42 0 (sight_long f.sight) refl
      (instead (matcher_words m) 22 (matcher_long m) (matcher_words f.matcher) from_due (matcher_long f.matcher))

  follower_due : (d : Due) → put 64 (due_words d) (follower_words f) ≡ follower_words (with_due f d)
  unfolding follower_words
  follower_due d =
      behind (due_words d) 8 (due_long d) (sight_words f.sight) from_matcher 42 64 22 (sight_long f.sight) refl
      (behind (due_words d) 8 (due_long d) (matcher_words f.matcher) from_due 22 22 0 (matcher_long f.matcher) refl
      (instead (due_words d) 8 (due_long d) (due_words f.due) from_ahead (due_long f.due)))

  -- a piece of what is due
  in_due : (p : List ℕ) (m : ℕ) → length p ≡ m → (d : Due) (at k : ℕ) → at ≡ k + 64 → k + m ≤ 8 → put k p (due_words f.due) ≡ due_words d
      → put at p (follower_words f) ≡ follower_words (with_due f d)
  unfolding follower_words
  in_due p m l d at k far h part =
      behind p m l (sight_words f.sight) from_matcher 42 at (k + 22) (sight_long f.sight) (omega (arith, far))
      (behind p m l (matcher_words f.matcher) from_due 22 (k + 22) k (matcher_long f.matcher) refl
      (inside p m l (due_words f.due) from_ahead 8 k (due_long f.due) h part))

  -- behind the matcher and what is due
  behind_due : (p : List ℕ) (m : ℕ) → length p ≡ m → (at k : ℕ) → at ≡ k + 72 → {zs : List ℕ} → put k p from_ahead ≡ zs
      → put at p (sight_words f.sight ++ from_matcher) ≡ sight_words f.sight ++ (matcher_words f.matcher ++ (due_words f.due ++ zs))
  behind_due p m l at k far rest =
      behind p m l (sight_words f.sight) from_matcher 42 at (k + 30) (sight_long f.sight) (omega (arith, far))
      (behind p m l (matcher_words f.matcher) from_due 22 (k + 30) (k + 8) (matcher_long f.matcher) (omega arith)
      (behind p m l (due_words f.due) from_ahead 8 (k + 8) k (due_long f.due) refl rest))

  follower_ahead : (a : Ahead) → put 72 (ahead_words a) (follower_words f) ≡ follower_words (with_ahead f a)
  unfolding follower_words
  follower_ahead a =
      behind_due (ahead_words a) 536 (ahead_long a) 72 0 refl (instead (ahead_words a) 536 (ahead_long a) (ahead_words f.ahead) last (ahead_long f.ahead))

  last_failures : (n : ℕ) → put 0 (n ∷ []) last ≡ n ∷ float_word f.horizon_m ∷ f.steps ∷ []
  unfolding put
  last_failures n = refl

  last_steps : (n : ℕ) → put 2 (n ∷ []) last ≡ f.failures ∷ float_word f.horizon_m ∷ n ∷ []
  unfolding put
  last_steps n = refl

  follower_failures : (n : ℕ) → put 608 (n ∷ []) (follower_words f) ≡ follower_words (with_failures f n)
  unfolding follower_words
  follower_failures n =
      behind_due (n ∷ []) 1 refl 608 536 refl (behind (n ∷ []) 1 refl (ahead_words f.ahead) last 536 536 0 (ahead_long f.ahead) refl (last_failures n))

  follower_steps : (n : ℕ) → put 610 (n ∷ []) (follower_words f) ≡ follower_words (with_steps f n)
  unfolding follower_words
  follower_steps n =
      behind_due (n ∷ []) 1 refl 610 538 refl (behind (n ∷ []) 1 refl (ahead_words f.ahead) last 536 538 2 (ahead_long f.ahead) refl (last_steps n))

pub matcher_put_in : (e : Engine) (m : Matcher) → put 581 (matcher_words m) (words e) ≡ words (matched_as e m)
matcher_put_in e m = in_follower (matcher_words m) 22 (matcher_long m) e (with_matcher e.follower m) 581 42 refl (omega arith) (follower_matcher e.follower m)

pub due_put_in : (e : Engine) (d : Due) → put 603 (due_words d) (words e) ≡ words (due_as e d)
due_put_in e d = in_follower (due_words d) 8 (due_long d) e (with_due e.follower d) 603 64 refl (omega arith) (follower_due e.follower d)

due_matching : (d : Due) (b : Bool) → put 0 (bit b ∷ []) (due_words d) ≡ due_words (with_matching d b)
unfolding put due_words
due_matching d b = refl

due_road : (d : Due) (b : Bool) → put 1 (bit b ∷ []) (due_words d) ≡ due_words (with_road d b)
unfolding put due_words
due_road d b = refl

pub matching_put : (e : Engine) (b : Bool) → put 603 (bit b ∷ []) (words e) ≡ words (due_as e (with_matching e.follower.due b))
matching_put e b =
    let d = with_matching e.follower.due b in
    in_follower (bit b ∷ []) 1 refl e (with_due e.follower d) 603 64 refl (omega arith) (in_due e.follower (bit b ∷ []) 1 refl d 64 0 refl (omega arith) (due_matching e.follower.due b))

pub road_due_put : (e : Engine) (b : Bool) → put 604 (bit b ∷ []) (words e) ≡ words (due_as e (with_road e.follower.due b))
road_due_put e b =
    let d = with_road e.follower.due b in
    in_follower (bit b ∷ []) 1 refl e (with_due e.follower d) 604 65 refl (omega arith) (in_due e.follower (bit b ∷ []) 1 refl d 65 1 refl (omega arith) (due_road e.follower.due b))

pub ahead_put_in : (e : Engine) (a : Ahead) → put 611 (ahead_words a) (words e) ≡ words (ahead_as e a)
ahead_put_in e a = in_follower (ahead_words a) 536 (ahead_long a) e (with_ahead e.follower a) 611 72 refl (omega arith) (follower_ahead e.follower a)

pub failures_put : (e : Engine) (n : ℕ) → put 1147 (n ∷ []) (words e) ≡ words (failing e n)
failures_put e n = in_follower (n ∷ []) 1 refl e (with_failures e.follower n) 1147 608 refl (omega arith) (follower_failures e.follower n)

pub steps_put : (e : Engine) (n : ℕ) → put 1149 (n ∷ []) (words e) ≡ words (counting e n)
steps_put e n = in_follower (n ∷ []) 1 refl e (with_steps e.follower n) 1149 610 refl (omega arith) (follower_steps e.follower n)
