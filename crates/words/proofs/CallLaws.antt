-- The matcher's and predict's own calls on the cache that words hold: number 12's causes one by one (`given_is`), and both calls by them (`update_is`, `predict_is`); the words that a call
-- leaves where it leaves the cache (`left_kept`), and where it changes clock and ages (`left_uses`); and a road over the numbers that its lookups go by (`predict_looks`), after which clock and
-- ages are put but for the late 12 (`left_stale`, `left-road`).
use Rattle.refusal.specs.declared.Refusal.{Refusal}
use Rattle.std.specs.Prelude.{Result, Ok, Err}
use Rattle.std.proofs.Common.{◌≡◌, ℕ, Bool, true, false, cond, ◌&&◌, List, [], ◌∷◌, length, get_or, ℤ, sym, refl, ap, ◌∙◌}
use lib.Ieee.{Float}
use Rattle.pack.specs.Grid.{in_grid}
use Rattle.pack.specs.Sector.{rules}
use Rattle.pack.specs.declared.Header.{Header}
use Rattle.pack.proofs.Laws.{and_left}
use Rattle.geo.specs.declared.Point.{Point}
use Rattle.cache.specs.Ages.{lookups_of, uses_from, aged}
use Rattle.cache.specs.State.{state_ok, entry_in, arena_ok, cache_ok}
use Rattle.cache.specs.Uses.{uses_of, with_uses}
use Rattle.cache.specs.declared.Aging.{Aging}
use Rattle.cache.specs.declared.Cache.{Cache}
use Rattle.cache.proofs.LooksLaws.{with_uses_from}
use Rattle.matcher.specs.Calls as Matching
use Rattle.matcher.specs.Calls.{update_tested}
use Rattle.matcher.specs.Gather.{updated}
use Rattle.matcher.specs.State.{matcher_ok, call_ok, refused}
use Rattle.matcher.specs.declared.Heading.{Heading}
use Rattle.matcher.specs.declared.Matched.{Matched}
use Rattle.matcher.specs.declared.Matcher.{Matcher}
use Rattle.matcher.proofs.GatherLaws.{updated_uses}
use Rattle.predict.specs.Predict as Predict
use Rattle.predict.specs.Predict.{Forecast, cache_after, after_of, predict_tested, untouched, from_looks}
use Rattle.predict.specs.declared.Outcome.{Outcome}
use Rattle.predict.proofs.InCache.{looks_predict}
use Rattle.words.specs.Calls as Calls
use Rattle.words.specs.Calls.{left}
use Rattle.words.specs.Opens.{cache_tested, given_tested}
use Rattle.words.specs.Put.{put}
use Rattle.words.specs.Words.{pages_of, cache_of, used_words, accepted}
use Rattle.words.specs.Worked.{is_stale}
use Rattle.words.proofs.HeldLaws.{and_assoc}
use Rattle.words.proofs.LookLaws.{sized}
use Rattle.words.proofs.WordsLaws.{words_engine}
use Rattle.words.proofs.WorkLaws.{cache_in, uses_words}

-- a second test within the first, with one other way
within : {A : Type 0} (a b : Bool) (x y : A) → cond a (cond b x y) y ≡ cond (a && b) x y
within true b x y = refl
within false b x y = refl

-- after a late 12 the state is the one given
stale_keeps : (o : Result Outcome Refusal) (c d : Cache) → cache_after o c d ≡ cond (is_stale o) c d
stale_keeps (Ok (Outcome.Road p)) c d = refl
stale_keeps (Ok (Outcome.Need key)) c d = refl
stale_keeps (Ok Outcome.Rematch) c d = refl
stale_keeps (Err number) c d = refl

module _ (ws : List ℕ) where
  abbrev here : Cache
  here = cache_of ws 15

  pub count_here : get_or ws 399 0 ≡ here.pages.count
  unfolding cache_of pages_of
  count_here = refl

  -- ---- what is left

  pub left_kept : left ws here ≡ ws
  left_kept = by (accepted ws) refl
    where
      by : (t : Bool) → accepted ws ≡ t → left ws here ≡ ws
      by true e = rw (e, cache_in ws) (words_engine ws e)
      by false e = rw e

  pub left_uses : accepted ws ≡ true → (a : Aging) → put 400 (a.clock ∷ []) (put 303 (used_words a.used) ws) ≡ left ws (with_uses here a)
  left_uses ok a = rw (ok, cache_in ws) (uses_words ws ok a)

  module _ (h : Header) where
    -- ---- number 12

    pub given_is : (size : ℕ) → (cache_tested ws && (rules h && (entry_in here.pending h && arena_ok here size))) ≡ given_tested ws h size
    unfolding cache_tested given_tested cache_ok
    given_is size = sym (and_assoc (accepted ws) (state_ok here) (rules h && (entry_in here.pending h && arena_ok here size)))

    pub given_accepted : (size : ℕ) → given_tested ws h size ≡ true → accepted ws ≡ true
    unfolding given_tested
    given_accepted size ok = and_left (accepted ws) (cache_ok here h size) ok

    module _ (arena : List ℕ) where
      -- ---- a match

      module _ (m : Matcher) (fix : Point) (heading : Heading) where
        pub update_is : Calls.update ws arena m h fix heading
            ≡ cond (given_tested ws h (length arena) && matcher_ok m h) (update_tested m here arena h fix heading) (refused m here Refusal.BadState)
        unfolding Calls.update given_tested Matching.update call_ok
        update_is =
            within (accepted ws) (call_ok m here h (length arena)) (update_tested m here arena h fix heading) (refused m here Refusal.BadState)
            ∙ ap
            (λ (t : Bool). cond t (update_tested m here arena h fix heading) (refused m here Refusal.BadState))
            (and_assoc (accepted ws) (cache_ok here h (length arena)) (matcher_ok m h))

        -- of the cache clock and ages alone are changed
        pub left_matched : given_tested ws h (length arena) ≡ true
            → put 400 ((updated m here arena h fix heading).cache.pages.clock ∷ []) (put 303 (used_words (updated m here arena h fix heading).cache.pages.used) ws)
            ≡ left ws (updated m here arena h fix heading).cache
        left_matched ok =
            left_uses (given_accepted (length arena) ok) (uses_of (updated m here arena h fix heading).cache)
            ∙ ap (left ws) (updated_uses m here arena h fix heading)

      -- ---- a road

      module _ (m : Matched) (horizon : Float) (samples behind : List ℤ) where
        pub predict_is : Calls.predict ws arena h m horizon samples behind
            ≡ cond (given_tested ws h (length arena)) (predict_tested here arena h m horizon samples behind) (untouched (Predict.refused here Refusal.BadState) samples behind)
        unfolding Calls.predict given_tested Predict.predict
        predict_is =
            within (accepted ws) (cache_ok here h (length arena)) (predict_tested here arena h m horizon samples behind) (untouched (Predict.refused here Refusal.BadState) samples behind)

        module _ (given : given_tested ws h (length arena) ≡ true) (grid : in_grid h m.tile.key ≡ true) where
          abbrev road : Forecast (List ℕ)
          road = from_looks (lookups_of here) arena here.pages.count h m horizon samples behind

          pub predict_looks : Calls.predict ws arena h m horizon samples behind ≡ after_of here road
          predict_looks = predict_is ∙ rw (given, grid) (sym (looks_predict here (sized ws) arena h m horizon samples behind))

          pub left_stale : is_stale road.answer ≡ true → ws ≡ left ws (after_of here road).predicted.cache
          left_stale q = sym (ap (left ws) (stale_keeps road.answer here (aged here road.carried) ∙ rw q) ∙ left_kept)

          pub left-road : is_stale road.answer ≡ false
              → put 400 ((uses_from road.carried).clock ∷ []) (put 303 (used_words (uses_from road.carried).used) ws)
              ≡ left ws (after_of here road).predicted.cache
          left-road q =
              left_uses (given_accepted (length arena) given) (uses_from road.carried)
              ∙ ap (left ws) (with_uses_from here road.carried ∙ sym (stale_keeps road.answer here (aged here road.carried) ∙ rw q))
