-- The pieces of each struct's words, with their lengths: put one behind the other they are the struct's words (`pages_put`, .., `engine_put`), held one behind the
-- other they are held as one (`pages_held`, .., `engine_held`), and an engine has 1,150 words (`words-length`), whatever its arrays hold.
use Rattle.engine.specs.declared.Fix.{Fix}
use Rattle.tile.specs.declared.TileId.{TileId}
use Rattle.matcher.specs.declared.Matched.{Matched}
use Rattle.std.specs.Prelude.{Option, Some, None}
use Rattle.cache.specs.declared.Loading.{Loading}
use Rattle.pack.specs.declared.TileKey.{TileKey}
use Rattle.std.proofs.Common.{◌≡◌, ℕ, ◌+◌, List, [], ◌∷◌, length, ℤ, sym, refl, ◌∙◌, arith, length-append}
use Rattle.num.specs.Cast.{bits32}
use Rattle.geo.specs.declared.Point.{Point}
use Rattle.cache.specs.declared.Cache.{Cache}
use Rattle.cache.specs.declared.Pages.{Pages}
use Rattle.cache.specs.declared.Pending.{Pending}
use Rattle.cache.specs.declared.Ring.{Ring}
use Rattle.cache.specs.declared.Slot.{Slot}
use Rattle.matcher.specs.declared.Heading.{Heading}
use Rattle.matcher.specs.declared.Matcher.{Matcher}
use Rattle.engine.specs.declared.Ahead.{Ahead}
use Rattle.engine.specs.declared.Due.{Due}
use Rattle.engine.specs.declared.Engine.{Engine}
use Rattle.engine.specs.declared.Follower.{Follower}
use Rattle.engine.specs.declared.Places.{Places}
use Rattle.engine.specs.declared.Shared.{Shared}
use Rattle.engine.specs.declared.Sight.{Sight}
use Rattle.words.specs.Put.{put}
use Rattle.words.specs.Held.{held_at}
use Rattle.words.specs.Words.{flat, bit, low_word, high_word, float_word, key_tag, key_held, phase_word, header_words, slots_words, used_words, pages_words, keys_words, ring_words, loading_words, pending_words, cache_words, shared_words, fix_words, points_words, places_words, heading_words, sight_words, current_words, challenger_words, matcher_words, time_words, due_words, heights_words, end_word, ahead_words, follower_words, words}
use Rattle.words.proofs.PutLaws.{put_by, Long, pieces, together, put_all, length-spread}
use Rattle.words.proofs.HeldLaws.{held_by, held_flat}

-- ---- lengths

abbrev sum : List (ℕ × List ℕ) → ℕ
sum [] = 0
sum (p ∷ ps) = p.0 + sum ps

long_flat : (ps : List (ℕ × List ℕ)) → Long ps → length (flat (pieces ps)) ≡ sum ps
long_flat [] l = refl
long_flat (p ∷ ps) l = length-append p.1 (flat (pieces ps)) ∙ omega (arith, l.0, long_flat ps l.1)

pub slots_long : (s : List Slot) → length (slots_words s) ≡ 288
unfolding slots_words
slots_long s = length-spread _ 3 (λ (j : ℕ). refl) 96

pub used_long : (u : List ℕ) → length (used_words u) ≡ 96
unfolding used_words
used_long u = length-spread _ 1 (λ (j : ℕ). refl) 96

pub keys_long : (k : List (Option TileKey)) → length (keys_words k) ≡ 128
unfolding keys_words
keys_long k = length-spread _ 2 (λ (j : ℕ). refl) 64

pub points_long : (p : List Point) → length (points_words p) ≡ 32
unfolding points_words
points_long p = length-spread _ 2 (λ (j : ℕ). refl) 16

pub heights_long : (z : List ℤ) (n : ℕ) → length (heights_words z n) ≡ n
unfolding heights_words
heights_long z n = length-spread _ 1 (λ (j : ℕ). refl) n ∙ omega arith

pub loading_long : (l : Option Loading) → length (loading_words l) ≡ 6
loading_long None = refl
loading_long (Some l) = refl

pub pending_long : (p : Pending) → length (pending_words p) ≡ 2
pending_long Pending.Nothing = refl
pending_long Pending.Header = refl
pending_long (Pending.Entry k) = refl
pending_long Pending.Chunk = refl

pub fix_long : (f : Option Fix) → length (fix_words f) ≡ 5
fix_long None = refl
fix_long (Some f) = refl

pub heading_long : (h : Heading) → length (heading_words h) ≡ 2
heading_long Heading.Nothing = refl
heading_long (Heading.Degrees d) = refl

pub current_long : (c : Option Matched) → length (current_words c) ≡ 14
current_long None = refl
current_long (Some m) = refl

pub challenger_long : (c : Option (TileId × ℕ × ℕ)) → length (challenger_words c) ≡ 6
challenger_long None = refl
challenger_long (Some (t, e, n)) = refl

pub time_long : (t : Option ℕ) → length (time_words t) ≡ 3
time_long None = refl
time_long (Some t) = refl

-- ---- pages

abbrev pages_pieces : Pages → List (ℕ × List ℕ)
pages_pieces g = (288, slots_words g.slots) ∷ (96, used_words g.used) ∷ (2, low_word g.count ∷ g.clock ∷ []) ∷ []

pages_each : (g : Pages) → Long (pages_pieces g)
pages_each g = (slots_long g.slots, (used_long g.used, (refl, tt)))

pub pages_long : (g : Pages) → length (pages_words g) ≡ 386
unfolding pages_words
pages_long g = long_flat (pages_pieces g) (pages_each g)

pub pages_put : (g : Pages) (ws : List ℕ) → length ws ≡ 1150 → put_by 15 (pages_pieces g) ws ≡ put 15 (pages_words g) ws
unfolding pages_words
pages_put g ws h = together 15 (pages_pieces g) ws (pages_each g) (omega (arith, h))

pub pages_held : (g : Pages) (ws : List ℕ) → held_at 15 (pages_words g) ws ≡ held_by 15 (pages_pieces g) ws
unfolding pages_words
pages_held g ws = held_flat 15 (pages_pieces g) ws (pages_each g)

-- ---- ring

abbrev ring_pieces : Ring → List (ℕ × List ℕ)
ring_pieces r = (128, keys_words r.keys) ∷ (1, low_word r.next ∷ []) ∷ []

ring_each : (r : Ring) → Long (ring_pieces r)
ring_each r = (keys_long r.keys, (refl, tt))

pub ring_long : (r : Ring) → length (ring_words r) ≡ 129
unfolding ring_words
ring_long r = long_flat (ring_pieces r) (ring_each r)

pub ring_put : (r : Ring) (ws : List ℕ) → length ws ≡ 1150 → put_by 401 (ring_pieces r) ws ≡ put 401 (ring_words r) ws
unfolding ring_words
ring_put r ws h = together 401 (ring_pieces r) ws (ring_each r) (omega (arith, h))

pub ring_held : (r : Ring) (ws : List ℕ) → held_at 401 (ring_words r) ws ≡ held_by 401 (ring_pieces r) ws
unfolding ring_words
ring_held r ws = held_flat 401 (ring_pieces r) ws (ring_each r)

-- ---- cache

abbrev cache_pieces : Cache → List (ℕ × List ℕ)
cache_pieces c = (386, pages_words c.pages) ∷ (129, ring_words c.missing) ∷ (6, loading_words c.loading) ∷ (2, pending_words c.pending) ∷ (1, c.loads ∷ []) ∷ []

cache_each : (c : Cache) → Long (cache_pieces c)
cache_each c = (pages_long c.pages, (ring_long c.missing, (loading_long c.loading, (pending_long c.pending, (refl, tt)))))

pub cache_long : (c : Cache) → length (cache_words c) ≡ 524
unfolding cache_words
cache_long c = long_flat (cache_pieces c) (cache_each c)

pub cache_put : (c : Cache) (ws : List ℕ) → length ws ≡ 1150 → put_by 15 (cache_pieces c) ws ≡ put 15 (cache_words c) ws
unfolding cache_words
cache_put c ws h = together 15 (cache_pieces c) ws (cache_each c) (omega (arith, h))

pub cache_held : (c : Cache) (ws : List ℕ) → held_at 15 (cache_words c) ws ≡ held_by 15 (cache_pieces c) ws
unfolding cache_words
cache_held c ws = held_flat 15 (cache_pieces c) ws (cache_each c)

-- ---- shared

abbrev shared_pieces : Shared → List (ℕ × List ℕ)
shared_pieces s = (2, 1 ∷ phase_word s.phase ∷ []) ∷ (13, header_words s.header) ∷ (524, cache_words s.cache) ∷ []

shared_each : (s : Shared) → Long (shared_pieces s)
shared_each s = (refl, (refl, (cache_long s.cache, tt)))

pub shared_long : (s : Shared) → length (shared_words s) ≡ 539
unfolding shared_words
shared_long s = long_flat (shared_pieces s) (shared_each s)

pub shared_put : (s : Shared) (ws : List ℕ) → length ws ≡ 1150 → put_by 0 (shared_pieces s) ws ≡ put 0 (shared_words s) ws
unfolding shared_words
shared_put s ws h = together 0 (shared_pieces s) ws (shared_each s) (omega (arith, h))

pub shared_held : (s : Shared) (ws : List ℕ) → held_at 0 (shared_words s) ws ≡ held_by 0 (shared_pieces s) ws
unfolding shared_words
shared_held s ws = held_flat 0 (shared_pieces s) ws (shared_each s)

-- ---- places

abbrev places_pieces : Places → List (ℕ × List ℕ)
places_pieces p = (32, points_words p.v) ∷ (1, low_word p.len ∷ []) ∷ []

places_each : (p : Places) → Long (places_pieces p)
places_each p = (points_long p.v, (refl, tt))

pub places_long : (p : Places) → length (places_words p) ≡ 33
unfolding places_words
places_long p = long_flat (places_pieces p) (places_each p)

pub places_put : (p : Places) (ws : List ℕ) → length ws ≡ 1150 → put_by 544 (places_pieces p) ws ≡ put 544 (places_words p) ws
unfolding places_words
places_put p ws h = together 544 (places_pieces p) ws (places_each p) (omega (arith, h))

pub places_held : (p : Places) (ws : List ℕ) → held_at 544 (places_words p) ws ≡ held_by 544 (places_pieces p) ws
unfolding places_words
places_held p ws = held_flat 544 (places_pieces p) ws (places_each p)

-- ---- sight

abbrev sight_pieces : Sight → List (ℕ × List ℕ)
sight_pieces s = (5, fix_words s.fix) ∷ (33, places_words s.history) ∷ (2, heading_words s.heading) ∷ (2, low_word s.heading_at ∷ high_word s.heading_at ∷ []) ∷ []

sight_each : (s : Sight) → Long (sight_pieces s)
sight_each s = (fix_long s.fix, (places_long s.history, (heading_long s.heading, (refl, tt))))

pub sight_long : (s : Sight) → length (sight_words s) ≡ 42
unfolding sight_words
sight_long s = long_flat (sight_pieces s) (sight_each s)

pub sight_put : (s : Sight) (ws : List ℕ) → length ws ≡ 1150 → put_by 539 (sight_pieces s) ws ≡ put 539 (sight_words s) ws
unfolding sight_words
sight_put s ws h = together 539 (sight_pieces s) ws (sight_each s) (omega (arith, h))

pub sight_held : (s : Sight) (ws : List ℕ) → held_at 539 (sight_words s) ws ≡ held_by 539 (sight_pieces s) ws
unfolding sight_words
sight_held s ws = held_flat 539 (sight_pieces s) ws (sight_each s)

-- ---- matcher

abbrev matcher_pieces : Matcher → List (ℕ × List ℕ)
matcher_pieces m = (14, current_words m.current) ∷ (6, challenger_words m.challenger) ∷ (2, m.misses ∷ float_word m.run_from_m ∷ []) ∷ []

matcher_each : (m : Matcher) → Long (matcher_pieces m)
matcher_each m = (current_long m.current, (challenger_long m.challenger, (refl, tt)))

pub matcher_long : (m : Matcher) → length (matcher_words m) ≡ 22
unfolding matcher_words
matcher_long m = long_flat (matcher_pieces m) (matcher_each m)

pub matcher_put : (m : Matcher) (ws : List ℕ) → length ws ≡ 1150 → put_by 581 (matcher_pieces m) ws ≡ put 581 (matcher_words m) ws
unfolding matcher_words
matcher_put m ws h = together 581 (matcher_pieces m) ws (matcher_each m) (omega (arith, h))

pub matcher_held : (m : Matcher) (ws : List ℕ) → held_at 581 (matcher_words m) ws ≡ held_by 581 (matcher_pieces m) ws
unfolding matcher_words
matcher_held m ws = held_flat 581 (matcher_pieces m) ws (matcher_each m)

-- ---- due

abbrev due_pieces : Due → List (ℕ × List ℕ)
due_pieces d = (2, bit d.matching ∷ bit d.road ∷ []) ∷ (3, time_words d.last_road) ∷ (3, key_tag d.need ∷ key_held d.need ∷ d.reloads ∷ []) ∷ []

due_each : (d : Due) → Long (due_pieces d)
due_each d = (refl, (time_long d.last_road, (refl, tt)))

pub due_long : (d : Due) → length (due_words d) ≡ 8
unfolding due_words
due_long d = long_flat (due_pieces d) (due_each d)

pub due_put : (d : Due) (ws : List ℕ) → length ws ≡ 1150 → put_by 603 (due_pieces d) ws ≡ put 603 (due_words d) ws
unfolding due_words
due_put d ws h = together 603 (due_pieces d) ws (due_each d) (omega (arith, h))

pub due_held : (d : Due) (ws : List ℕ) → held_at 603 (due_words d) ws ≡ held_by 603 (due_pieces d) ws
unfolding due_words
due_held d ws = held_flat 603 (due_pieces d) ws (due_each d)

-- ---- ahead

abbrev ahead_pieces : Ahead → List (ℕ × List ℕ)
ahead_pieces a = (3, a.generation ∷ low_word a.at_ms ∷ high_word a.at_ms ∷ []) ∷ (14, current_words a.matched) ∷ (1, bits32 a.start_z_dm ∷ []) ∷ (501, heights_words a.samples 501) ∷ (1, low_word a.len ∷ []) ∷ (11, heights_words a.behind 11) ∷ (5, low_word a.behind_len ∷ float_word a.behind_m ∷ end_word a.end ∷ float_word a.end_m ∷ a.confidence ∷ []) ∷ []

ahead_each : (a : Ahead) → Long (ahead_pieces a)
ahead_each a = (refl, (current_long a.matched, (refl, (heights_long a.samples 501, (refl, (heights_long a.behind 11, (refl, tt)))))))

pub ahead_long : (a : Ahead) → length (ahead_words a) ≡ 536
unfolding ahead_words
ahead_long a = long_flat (ahead_pieces a) (ahead_each a)

pub ahead_put : (a : Ahead) (ws : List ℕ) → length ws ≡ 1150 → put_by 611 (ahead_pieces a) ws ≡ put 611 (ahead_words a) ws
unfolding ahead_words
ahead_put a ws h = together 611 (ahead_pieces a) ws (ahead_each a) (omega (arith, h))

pub ahead_held : (a : Ahead) (ws : List ℕ) → held_at 611 (ahead_words a) ws ≡ held_by 611 (ahead_pieces a) ws
unfolding ahead_words
ahead_held a ws = held_flat 611 (ahead_pieces a) ws (ahead_each a)

-- ---- follower

abbrev follower_pieces : Follower → List (ℕ × List ℕ)
follower_pieces f = (42, sight_words f.sight) ∷ (22, matcher_words f.matcher) ∷ (8, due_words f.due) ∷ (536, ahead_words f.ahead) ∷ (3, f.failures ∷ float_word f.horizon_m ∷ f.steps ∷ []) ∷ []

follower_each : (f : Follower) → Long (follower_pieces f)
follower_each f = (sight_long f.sight, (matcher_long f.matcher, (due_long f.due, (ahead_long f.ahead, (refl, tt)))))

pub follower_long : (f : Follower) → length (follower_words f) ≡ 611
unfolding follower_words
follower_long f = long_flat (follower_pieces f) (follower_each f)

pub follower_put : (f : Follower) (ws : List ℕ) → length ws ≡ 1150 → put_by 539 (follower_pieces f) ws ≡ put 539 (follower_words f) ws
unfolding follower_words
follower_put f ws h = together 539 (follower_pieces f) ws (follower_each f) (omega (arith, h))

pub follower_held : (f : Follower) (ws : List ℕ) → held_at 539 (follower_words f) ws ≡ held_by 539 (follower_pieces f) ws
unfolding follower_words
follower_held f ws = held_flat 539 (follower_pieces f) ws (follower_each f)

-- ---- engine

abbrev engine_pieces : Engine → List (ℕ × List ℕ)
engine_pieces e = (539, shared_words e.shared) ∷ (611, follower_words e.follower) ∷ []

engine_each : (e : Engine) → Long (engine_pieces e)
engine_each e = (shared_long e.shared, (follower_long e.follower, tt))

pub words-length : (e : Engine) → length (words e) ≡ 1150
unfolding words
words-length e = long_flat (engine_pieces e) (engine_each e)

pub engine_put : (e : Engine) (ws : List ℕ) → length ws ≡ 1150 → put_by 0 (engine_pieces e) ws ≡ words e
unfolding words
engine_put e ws h = together 0 (engine_pieces e) ws (engine_each e) (omega (arith, h)) ∙ put_all (words e) ws (words-length e ∙ sym h)

pub engine_held : (e : Engine) (ws : List ℕ) → held_at 0 (words e) ws ≡ held_by 0 (engine_pieces e) ws
unfolding words
engine_held e ws = held_flat 0 (engine_pieces e) ws (engine_each e)
