-- `engine::fixes::is_move` meets its contract: by the answers of its callees, with the literal read as a whole number.
use Rattle.matcher.proofs.ScoreLiterals.{literal_15}
use Rattle.engine.proofs.fixes.is_move.Goals as goal

pub returns : goal.returns
returns c = rw (c.length.ensures, c.metres-m.ensures, c.place_at-old.ensures, literal_15)
