-- Accepted words are as many as an engine has.
use Rattle.std.proofs.Common.{◌≡◌, ℕ, true, List, length, sym, ap, ◌∙◌}
use Rattle.words.specs.Words.{engine_of, accepted}
use Rattle.words.proofs.PieceLaws.{words-length}
use Rattle.words.proofs.WordsLaws.{words_engine}

pub accepted_long : (ws : List ℕ) → accepted ws ≡ true → length ws ≡ 1150
accepted_long ws h = ap length (sym (words_engine ws h)) ∙ words-length (engine_of ws)
