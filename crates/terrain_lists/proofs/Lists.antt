-- A list of calls through C is a list of demand 3 (`words_list`), so that what is proved of those holds of these (`host_safe`, `host_direct`, `host_open`, `host_read`). The idea: induction over the list,
-- one call by one, in worlds whose engine is within its types.
use Rattle.refusal.specs.declared.Refusal.{Refusal}
use Prim.Native.Nat.{ℕ, ◌≤◌}
use mathlib.Core.Path.{◌≡◌, refl, sym, ap, subst, ◌∙◌}
use mathlib.Core.Bool.{Bool, true, false, cond}
use mathlib.Core.List.{List, [], ◌∷◌, ◌++◌}
use native.Mathlib.Omega.{arith}
use lib.Ieee.{Float}
use Rattle.pack.specs.declared.Header.{Header}
use Rattle.geo.specs.declared.Point.{Point}
use Rattle.matcher.specs.Calls as Matching
use Rattle.matcher.specs.State as State
use Rattle.matcher.specs.declared.Updated.{Updated}
use Rattle.engine.specs.Calls as Engines
use Rattle.terrain.specs.Host as Host
use Rattle.terrain.specs.Parts as Parts
use Rattle.terrain.specs.Roads as Roads
use Rattle.terrain.specs.declared.roads.TerrainHeading.{TerrainHeading}
use Rattle.words.specs.Words.{accepted, matcher_of, matcher_words}
use Rattle.words.proofs.BackLaws.{accepted-words}
use Rattle.words.proofs.WordsLaws.{words_engine}
use Rattle.direct.specs.Claims.{Safe, Open, AllFair, tolds, shows, made_of}
use Rattle.direct.specs.Direct.{directly, new_direct, direct_shows}
use Rattle.direct.specs.Published.{Read, read_of}
use Rattle.direct.specs.Story.{after}
use Rattle.direct.specs.Lists.{World, Call, exec, start, Along}
use Rattle.direct.proofs.Claim.{all_safe, all_direct, all_open}
use Rattle.direct.proofs.Published.{all_read}
use Rattle.terrain_lists.specs.Calls.{HostWorld, HostCall, HostAnswer, HostDone, host_exec, Meant, call, at_interface, meant, calls_by, calls_of, host_told, Bytes, GivenBy, AllTyped, AllGiven, calls_in, host_left, host_answers, host_tolds, words_of, host_start, pages_in}
use Rattle.terrain_lists.specs.Claims.{TypedWorld, HostAlong, OwnTwelves, SameList, WordsList, AreWords, read_from, WordsFrom, MatcherWords}
use Rattle.terrain_lists.proofs.Agreed.{agreed, twelve_own}
use Rattle.terrain_lists.proofs.Kept.{along_typed, start_typed, update_matcher}
use Rattle.terrain_lists.proofs.MatchTyped.{reset_typed}
use Rattle.terrain_lists.proofs.ReadTyped.{read_typed, matcher_read, matcher_words_lem}

-- ---- the arguments

given_typed : (m : Meant) → GivenBy m → AllTyped (calls_by m)
unfolding AllTyped
given_typed (call c) g = (g, tt)
given_typed (at_interface a) g = tt

-- ---- the lists

after-append : (xs ys : List Call) (w : World) → after (xs ++ ys) w ≡ after ys (after xs w)
unfolding after
after-append [] ys w = refl
after-append (x ∷ xs) ys w = after-append xs ys (exec x w).world

same_list : (cs : List HostCall) (w : World) → AllGiven cs → TypedWorld w → SameList cs (words_of w) w
unfolding AllGiven calls_in host_left host_answers host_tolds HostAlong OwnTwelves after
same_list [] w g t = record { world = refl; answers = refl; accepted = accepted-words w.engine t.engine; twelves = tt }
same_list (c ∷ cs) w g t =
    let next : World = after (calls_of c) w in
    let done : host_exec c (words_of w) ≡ record { world = words_of next; answer = host_told c w } = agreed w t c in
    let rest : SameList cs (words_of next) next = same_list cs next g.1 (along_typed (calls_of c) w (given_typed (meant c) g.0) t).1 in
    record {
      world = ap (λ (d : HostDone). host_left cs d.world) done ∙ rest.world ∙ ap words_of (sym (after-append (calls_of c) (calls_in cs) w));
      answers = ap (λ (d : HostDone). d.answer ∷ host_answers cs d.world) done ∙ ap (λ (more : List HostAnswer). host_told c w ∷ more) rest.answers;
      accepted = (
        accepted-words w.engine t.engine,
        subst (λ (d : HostDone). HostAlong (λ (x : HostWorld). accepted x.words ≡ true) cs d.world) (sym done) rest.accepted,
      );
      twelves = (twelve_own c w, rest.twelves);
    }

-- an engine made through C has a fresh engine's words
start_same : (arena : List ℕ) (horizon : Float) → words_of (start (pages_in arena) horizon arena) ≡ host_start arena horizon
unfolding Host.new Engines.new
start_same arena horizon = refl

few : (arena : List ℕ) → pages_in arena ≤ 96
few arena = omega arith

pub words_list : WordsList
words_list arena a horizon h cs g =
    subst (λ (v : HostWorld). SameList cs v (start (pages_in arena) horizon arena)) (start_same arena horizon)
    (same_list cs (start (pages_in arena) horizon arena) g (start_typed (pages_in arena) (few arena) horizon h arena a))

-- ---- from words that a host kept

abbrev with_words : List ℕ → List ℕ → HostWorld
with_words ws arena = record { words = ws; arena = arena }

pub words_from : WordsFrom
words_from v all ok a cs g =
    let same : words_of (read_from v) ≡ v = ap (λ (ws : List ℕ). with_words ws v.arena) (words_engine v.words ok) in
    subst (λ (x : HostWorld). SameList cs x (read_from v)) same (same_list cs (read_from v) g (record { engine = read_typed v.words all; arena = a }))

module _ (ms ws arena : List ℕ) (h : Header) (p : Point) (way : TerrainHeading) (all : AreWords ms) (a : Bytes arena) (ok : Roads.is_matcher ms ≡ true) where
  abbrev updated_by : Bool → Updated
  updated_by b = cond b (Matching.update (matcher_of ms 0) (Parts.cache_of ws) arena h p (Roads.heading_of way)) (State.refused (matcher_of ms 0) (Parts.cache_of ws) Refusal.BadState)

  again : (b : Bool) → Roads.is_matcher (cond b (matcher_words (updated_by b).matcher) ms) ≡ true
  again true = matcher_words_lem (updated_by true).matcher (update_matcher (matcher_of ms 0) (Parts.cache_of ws) arena h p (Roads.heading_of way) a (matcher_read ms all 0))
  again false = ok

pub matcher_again : MatcherWords
matcher_again = record {
  fresh = matcher_words_lem Matching.reset reset_typed;
  again = λ ms ws arena h p way all a ok. again ms ws arena h p way all a ok (Roads.can_match ms ws way);
}

-- ---- demand 3 of lists of calls through C: of the engine and the arena that they leave, by `words_list`

module _ (arena : List ℕ) (horizon : Float) (cs : List HostCall) where
  pub host_safe : Along Safe (calls_in cs) (start (pages_in arena) horizon arena)
  host_safe = all_safe (pages_in arena) (few arena) horizon arena (calls_in cs)

  -- the road that `terrain_ahead` then tells
  pub host_read : Read (shows (calls_in cs) (start (pages_in arena) horizon arena)) (read_of (after (calls_in cs) (start (pages_in arena) horizon arena)))
  host_read = all_read (pages_in arena) horizon arena (calls_in cs)

  module _ (P : List ℕ) (fair : AllFair P (calls_in cs) (start (pages_in arena) horizon arena)) where
    pub host_direct : direct_shows (directly (pages_in arena)) (made_of (pages_in arena) horizon) P (calls_in cs) (tolds (calls_in cs) (start (pages_in arena) horizon arena)) new_direct
        ≡ shows (calls_in cs) (start (pages_in arena) horizon arena)
    host_direct = all_direct (pages_in arena) (few arena) horizon arena P (calls_in cs) fair

    -- the arena always holds its pages: they are counted by it
    pub host_open : Along Open (calls_in cs) (start (pages_in arena) horizon arena)
    host_open = all_open (pages_in arena) (few arena) horizon arena (omega arith) P (calls_in cs) fair
