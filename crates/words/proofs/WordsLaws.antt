-- Words and engines: accepted words are those of what is read from them (`words_engine`), and other counts are refused (`refused`).
use Rattle.std.proofs.Common.{◌≡◌, ℕ, Bool, true, false, ◌≢◌, List, length, sym, refl, ap, ◌∙◌}
use Rattle.words.specs.Words.{words, engine_of, accepted}
use Rattle.words.proofs.PieceLaws.{words-length}
use Rattle.words.proofs.SameLaws.{same_is}

pub words_engine : (ws : List ℕ) → accepted ws ≡ true → words (engine_of ws) ≡ ws
unfolding accepted
words_engine ws h = same_is (words (engine_of ws)) ws h

pub refused : (ws : List ℕ) → length ws ≢ 1150 → accepted ws ≡ false
refused ws n = by (accepted ws) refl
  where
    by : (b : Bool) → accepted ws ≡ b → accepted ws ≡ false
    by false e = e
    by true e = absurd (n (ap length (sym (words_engine ws e)) ∙ words-length (engine_of ws)))
