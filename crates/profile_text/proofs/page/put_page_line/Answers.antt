-- `put_page_line` meets its contract: the three columns, one behind the other.
use native.Mathlib.Omega.{arith}
use mir.Facts.{to_z-of_z}
use Rattle.profile_text.specs.Page.{page_line}
use Rattle.profile_text.proofs.Laws.{append_more}
use Rattle.profile_text.proofs.Pages.{bar_most}
use Rattle.profile_text.proofs.page.put_page_line.Goals as goal

pub put_bar-requires : goal.put_bar-requires
put_bar-requires c =
    let a = c.args in
    let n = rw (to_z-of_z c.ranges.z) at c.bar_length.ensures in
    omega (arith, n, bar_most a.r.low a.r.high a.z c.requires.height_between.0 c.requires.height_between.1, c.put_rise-b.ensures.value, c.put_ahead-a.ensures.value)

pub returns : goal.returns
unfolding page_line
returns c =
    let n = rw (to_z-of_z c.ranges.z) at c.bar_length.ensures in
    let metres = c.put_ahead-a.ensures in
    let rise = c.put_rise-b.ensures in
    record {
      appended = rw (← n) (append_more metres.appended (append_more (rw (to_z-of_z c.ranges.z) at rise.appended) c.put_bar.ensures.appended));
      value = omega (arith, metres.value, rise.value, c.put_bar.ensures.value);
    }
