-- `begin::victim` meets its contract: the oldest by the ages of the pages below the count.
use Rattle.std.proofs.Common.{◌≡◌, sym, ◌∙◌, lt-ltb}
use Rattle.words.specs.Words.{pages_of}
use Rattle.words.proofs.PagesLaws.{count_is}
use Rattle.words.proofs.BeginLaws.{victim_by}
use Rattle.words.proofs.begin.victim.Goals as goal

pub returns-then-count-gt-MAX_PAGES : goal.returns-then-count-gt-MAX_PAGES
returns-then-count-gt-MAX_PAGES c = let count : (pages_of c.args.ws.now 15).count ≡ c.size-count.result = count_is c.args.ws.now 15 ∙ sym c.size-count.ensures in rw (count, lt-ltb _ _ c.if-count-gt-MAX_PAGES.true)

pub returns : goal.returns
returns c = victim_by c.args.ws.now c.ages-v.result c.args.pages c.size-count.ensures c.ages-v.ensures c.oldest.ensures
