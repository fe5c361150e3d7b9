-- `engine::work::matched` meets its contract: each return by whether there is a match (`found_by`, `none_by`).
use Rattle.std.specs.Prelude.{Option, Some, None}
use Rattle.matcher.specs.declared.Matched.{Matched}
use Rattle.std.proofs.Common.{◌≡◌, true, false, sym, refl, ◌∙◌, true≢false}
use Rattle.matcher.specs.declared.Matcher.{Matcher}
use Rattle.predict.specs.declared.End.TheVariants as End
use Rattle.engine.specs.declared.Fix.{Fix}
use Rattle.engine.specs.declared.Follower.{Follower}
use Rattle.engine.specs.Plans.{matched_due}
use Rattle.engine.specs.Work.{with_due, with_ahead, with_matcher, is_matched, emptied, matched_by, matched}
use Rattle.engine.proofs.work.matched.Goals as goal

module _ (f : Follower) (m : Matcher) (fix : Fix) where
  found_by : (x : Option Matched) → is_matched x ≡ true → with_due (with_matcher f m) (matched_due f.due x f.ahead.matched fix.at_ms) ≡ matched_by x f m fix
  found_by (Some found) q = refl
  found_by None q = absurd (true≢false (sym q))

  none_by : (x : Option Matched) → is_matched x ≡ false
      → with_due (with_ahead (with_matcher f m) (emptied f.ahead fix.at_ms End.Uncertain)) (matched_due f.due x f.ahead.matched fix.at_ms)
      ≡ matched_by x f m fix
  none_by (Some found) q = absurd (true≢false q)
  none_by None q = refl

pub returns-then-is_matched : goal.returns-then-is_matched
unfolding matched
returns-then-is_matched c =
    let args = c.args in
    rw c.matched_due-due.ensures (found_by args.f args.m args.fix args.m.current (sym c.is_matched.ensures ∙ c.if-is_matched.true))

pub returns : goal.returns
unfolding matched
returns c =
    let args = c.args in
    rw (c.emptied-ahead.ensures, c.matched_due-due.ensures)
    (none_by args.f args.m args.fix args.m.current (sym c.is_matched.ensures ∙ c.if-is_matched.false))
