-- `begin::room_at` meets its contract: each return by the count, and by whether a run starts at the page.
use Rattle.std.proofs.Common.{sym, ◌∙◌}
use Rattle.words.proofs.PagesLaws.{count_is}
use Rattle.words.proofs.BeginLaws.{room_none, room_some, room_rest, whole_past, whole_bare, whole_run}
use Rattle.words.proofs.begin.room_at.Goals as goal
use Rattle.words.proofs.begin.room_at.Goals.{then-h-lt-MAX_PAGES+then-is_run, then-h-lt-MAX_PAGES+else-is_run, else-h-lt-MAX_PAGES}

pub returns-then-count-h : goal.returns-then-count-h
returns-then-count-h c = room_none c.args.h (c.size-count.ensures ∙ sym (count_is c.args.ws.now 15)) _ c.if-count-h.true

pub returns-then-n-count : goal.returns-then-n-count
returns-then-n-count c = let ws = c.args.ws.now in let h = c.args.h in room_some h (c.size-count.ensures ∙ sym (count_is ws 15)) (elim c.if-h-lt-MAX_PAGES.branch [
  | then-h-lt-MAX_PAGES+then-is_run w ↦ w.n-is ∙ w.span-n.ensures ∙ sym (whole_run ws h w.if-h-lt-MAX_PAGES.true (sym w.is_run.ensures ∙ w.if-is_run.true))
  | then-h-lt-MAX_PAGES+else-is_run w ↦ w.n-is ∙ sym (whole_bare ws h (sym w.is_run.ensures ∙ w.if-is_run.false))
  | else-h-lt-MAX_PAGES w ↦ w.n-is ∙ sym (whole_past ws h w.if-h-lt-MAX_PAGES.false)
]) c.if-n-count.true

pub returns : goal.returns
returns c = let ws = c.args.ws.now in let h = c.args.h in room_rest h (c.size-count.ensures ∙ sym (count_is ws 15)) (elim c.if-h-lt-MAX_PAGES.branch [
  | then-h-lt-MAX_PAGES+then-is_run w ↦ w.n-is ∙ w.span-n.ensures ∙ sym (whole_run ws h w.if-h-lt-MAX_PAGES.true (sym w.is_run.ensures ∙ w.if-is_run.true))
  | then-h-lt-MAX_PAGES+else-is_run w ↦ w.n-is ∙ sym (whole_bare ws h (sym w.is_run.ensures ∙ w.if-is_run.false))
  | else-h-lt-MAX_PAGES w ↦ w.n-is ∙ sym (whole_past ws h w.if-h-lt-MAX_PAGES.false)
]) c.if-n-count.false
