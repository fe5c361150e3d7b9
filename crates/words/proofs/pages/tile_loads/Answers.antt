-- `pages::tile_loads` meets its contract: each return by the tests before it.
use Rattle.std.proofs.Common.{◌+◌, ◌*◌, sym, add-zero, eq-eqb, ne_eqb}
use Rattle.words.proofs.PagesLaws.{loads_is, loads_past}
use Rattle.words.proofs.pages.tile_loads.Goals as goal

pub returns-then-l-ge-MAX_PAGES : goal.returns-then-l-ge-MAX_PAGES
returns-then-l-ge-MAX_PAGES c = sym (loads_past c.args.ws.now 15 c.args.l c.if-l-ge-MAX_PAGES.true)

pub returns-then-ws-at-ne1 : goal.returns-then-ws-at-ne1
returns-then-ws-at-ne1 c =
    let inside = c.if-l-ge-MAX_PAGES.false in
    let short = c.well_formed.1.0.1.1.0.1.1.1.0.1 in
    rw (
      loads_is c.args.ws.now 15 c.args.l inside short,
      add-zero (15 + 3 * c.args.l.slot),
      ne_eqb _ _ c.if-ws-at-ne1.true,
    )

pub returns-then-ws-at : goal.returns-then-ws-at
returns-then-ws-at c =
    let inside = c.if-l-ge-MAX_PAGES.false in
    let short = c.well_formed.1.0.1.1.0.1.1.1.0.1 in
    rw (
      loads_is c.args.ws.now 15 c.args.l inside short,
      add-zero (15 + 3 * c.args.l.slot),
      eq-eqb _ _ c.if-ws-at-ne1.false,
      ← c.of_key.ensures,
      ne_eqb _ _ c.if-ws-at.true,
    )

pub returns-then-ws-at-2 : goal.returns-then-ws-at-2
returns-then-ws-at-2 c =
    let inside = c.if-l-ge-MAX_PAGES.false in
    let short = c.well_formed.1.0.1.1.0.1.1.1.0.1 in
    rw (
      loads_is c.args.ws.now 15 c.args.l inside short,
      add-zero (15 + 3 * c.args.l.slot),
      eq-eqb _ _ c.if-ws-at-ne1.false,
      ← c.of_key.ensures,
      eq-eqb _ _ c.if-ws-at.false,
      ne_eqb _ _ c.if-ws-at-2.true,
    )

pub returns : goal.returns
returns c =
    let inside = c.if-l-ge-MAX_PAGES.false in
    let short = c.well_formed.1.0.1.1.0.1.1.1.0.1 in
    rw (
      loads_is c.args.ws.now 15 c.args.l inside short,
      add-zero (15 + 3 * c.args.l.slot),
      eq-eqb _ _ c.if-ws-at-ne1.false,
      ← c.of_key.ensures,
      eq-eqb _ _ c.if-ws-at.false,
      eq-eqb _ _ c.if-ws-at-2.false,
    )
