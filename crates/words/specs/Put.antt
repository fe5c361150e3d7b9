-- How the code puts pieces of words at their places. No contract that a host sees names it.
use Rattle.std.specs.Prelude.{ℕ, ◌+◌, cond, List, [], ◌∷◌, ◌++◌, length, take, drop, ◌==◌}
use Rattle.cache.specs.declared.Aging.{Aging}
use Rattle.cache.specs.declared.Cache.{Cache}
use Rattle.words.specs.Words.{used_words, cache_words}

-- the words with a piece in place of those from `at` on
unfoldable pub put : ℕ → List ℕ → List ℕ → List ℕ
put at piece ws = take at ws ++ piece ++ drop (at + length piece) ws

-- the words with another cache in its place, where there are as many as an engine has
abbrev pub cache_in : Cache → List ℕ → List ℕ
cache_in c ws = cond (length ws == 1150) (put 15 (cache_words c) ws) ws

-- the words with other ages and another clock in their places
abbrev pub uses_in : Aging → List ℕ → List ℕ
uses_in a ws = put 400 (a.clock ∷ []) (put 303 (used_words a.used) ws)
