-- The cache in an engine's words: it is read from its own words (`cache_held`), a call that leaves another writes them alone (`cache_left`), and one that leaves it as it was leaves the words
-- as they were (`after_kept`).
use Prim.Native.Nat.{ℕ}
use mathlib.Core.Bool.{Bool, true, false}
use mathlib.Core.Path.{◌≡◌, refl, sym, ap, ◌∙◌}
use mathlib.Core.List.{List}
use lib.ListN.{length}
use borrow.Author.Tests.{eq-eqb}
use Rattle.cache.specs.declared.Cache.{Cache}
use Rattle.words.specs.Put.{put, cache_in}
use Rattle.words.specs.Words as Words
use Rattle.words.specs.Words.{cache_words, words, shared_of, engine_of, accepted}
use Rattle.terrain.specs.Parts.{cache_of, with_cache, after}
use Rattle.words.proofs.CountLaws.{accepted_long}
use Rattle.words.proofs.SetLaws.{cache_put_in}
use Rattle.words.proofs.WordsLaws.{words_engine}

pub cache_held : (ws : List ℕ) → Words.cache_of ws 15 ≡ cache_of ws
unfolding engine_of shared_of
cache_held ws = refl

pub cache_left : (ws : List ℕ) (c : Cache) → accepted ws ≡ true → cache_in c ws ≡ words (with_cache c (engine_of ws))
cache_left ws c ok =
    rw (eq-eqb (length ws) 1150 (accepted_long ws ok))
    (ap (λ (x : List ℕ). put 15 (cache_words c) x) (sym (words_engine ws ok)) ∙ cache_put_in (engine_of ws) c)

by : (ws : List ℕ) (b : Bool) → accepted ws ≡ b → after ws (cache_of ws) ≡ ws
by ws true e = rw e (words_engine ws e)
by ws false e = rw e

pub after_kept : (ws : List ℕ) → after ws (cache_of ws) ≡ ws
after_kept ws = by ws (accepted ws) refl
