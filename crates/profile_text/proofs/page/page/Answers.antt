-- `page` meets its contract: the samples that the code finds are the page's, and what was written into its own buffer is copied where there is room.
use Prim.Native.Nat.{ℕ, ◌+◌, ◌-◌, ◌*◌, ◌<◌}
use mathlib.Core.Path.{◌≡◌, ap, ◌∙◌}
use mathlib.Core.List.{List, ◌++◌}
use native.Mathlib.Omega.{arith}
use lib.ListN.{length, take, drop}
use lib.IntN.{ℤ}
use Rattle.profile_text.specs.Page.{page, page_of}
use Rattle.std.specs.Prelude.{Ok, min}
use Rattle.profile_text.proofs.Laws.{whole}
use Rattle.profile_text.proofs.Pages.{page_is, too_many, too_short, fits}
use Rattle.profile_text.proofs.page.page.Goals as goal

samples : (zs : List ℤ) (p : ℕ) {from to : ℕ} → from ≡ min (p * 50) (length zs) → to ≡ min (from + 50) (length zs) → page_of zs from (take (to - from) (drop from zs)) ≡ page p zs
samples zs p {from} {to} a b = page_is zs p from to (omega arith) (omega arith) (λ (h : from < 50 * p). omega arith) (omega arith) (omega arith) (λ (h : to < from + 50). omega arith)

pub returns-then-samples-gt501 : goal.returns-then-samples-gt501
returns-then-samples-gt501 c = let both = too_many _ _ _ c.if-samples-gt501.true in record { value = both.0; fits = tt; out_after = both.1 }

pub returns-then-out-len : goal.returns-then-out-len
returns-then-out-len c =
    let made = rw (samples _ _ c.min-from.ensures c.min-to.ensures) at c.put_page-len.ensures in
    let both = too_short _ _ c.if-samples-gt501.false _ (rw (whole made).0 at c.if-out-len.true) in record { value = both.0; fits = tt; out_after = both.1 }

pub returns : goal.returns
returns c =
    let a = c.args in
    let made = rw (samples _ _ c.min-from.ensures c.min-to.ensures) at c.put_page-len.ensures in
    let answered = fits a.samples.now a.p c.if-samples-gt501.false a.out.now (rw (whole made).0 at c.if-out-len.false) in
    record {
      value = ap Ok (whole made).0 ∙ answered.0;
      fits = c.if-out-len.false;
      out_after = ap (λ t. t ++ drop c.put_page-len.result a.out.now) (c.copy_from_slice.ensures.after ∙ made.stands) ∙ ap (λ (n : ℕ). page a.p a.samples.now ++ drop n a.out.now) (whole made).0 ∙ answered.1;
    }
