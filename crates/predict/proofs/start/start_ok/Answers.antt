-- `predict::start::start_ok` meets its contract: each return by the tests before it, with the literals read as whole numbers.
use lib.IntN.{negsuc}
use lib.Ieee.{binary32, of_bits, le}
use mir.Facts.{to_z-of_z}
use mir.Syntax.{w32}
use borrow.Author.Tests.{lt-ltb, le-ltb, le-leb, lt-leb, not-true, not-false}
use Rattle.geo.proofs.Literals.{literal_0, literal_1}
use Rattle.pack.proofs.Signed.{sf, below, not_below}
use Rattle.predict.specs.Start.{start_ok}
use Rattle.predict.proofs.start.start_ok.Goals as goal

pub returns-then-head-start : goal.returns-then-head-start
unfolding start_ok
returns-then-head-start c = rw (le-ltb _ _ (rw c.head-head.ensures at c.if-head-start.true))

pub returns-then-edge-start : goal.returns-then-edge-start
unfolding start_ok
returns-then-edge-start c =
    rw (
      lt-ltb _ _ (rw c.head-head.ensures at c.if-head-start.false),
      lt-leb _ _ (rw c.edge-edge.ensures at c.if-edge-start.true),
    )

pub returns-then-not-start : goal.returns-then-not-start
unfolding start_ok
returns-then-not-start c =
    let m = c.args.start in
    rw (
      lt-ltb _ _ (rw c.head-head.ensures at c.if-head-start.false),
      le-leb _ _ (rw c.edge-edge.ensures at c.if-edge-start.false),
      ← literal_0,
      not-true (le (of_bits binary32 0) m.fraction) c.if-not-start.true-raw,
    )

pub returns-then-not-start-2 : goal.returns-then-not-start-2
unfolding start_ok
returns-then-not-start-2 c =
    let m = c.args.start in
    rw (
      lt-ltb _ _ (rw c.head-head.ensures at c.if-head-start.false),
      le-leb _ _ (rw c.edge-edge.ensures at c.if-edge-start.false),
      ← literal_0,
      not-false (le (of_bits binary32 0) m.fraction) c.if-not-start.false-raw,
      ← literal_1,
      not-true (le m.fraction (of_bits binary32 1065353216)) c.if-not-start-2.true-raw,
    )

pub returns-then-start-ltminus1000000 : goal.returns-then-start-ltminus1000000
unfolding start_ok
returns-then-start-ltminus1000000 c =
    let m = c.args.start in
    rw (
      lt-ltb _ _ (rw c.head-head.ensures at c.if-head-start.false),
      le-leb _ _ (rw c.edge-edge.ensures at c.if-edge-start.false),
      ← literal_0,
      not-false (le (of_bits binary32 0) m.fraction) c.if-not-start.false-raw,
      ← literal_1,
      not-false (le m.fraction (of_bits binary32 1065353216)) c.if-not-start-2.false-raw,
      below (sf w32 m.z_dm c.struct_told-1.given.1.1.1.1.1.1.0.1) (negsuc 999999) c.if-start-ltminus1000000.true,
    )

pub returns : goal.returns
unfolding start_ok
returns c =
    let m = c.args.start in
    let fits = sf w32 m.z_dm c.struct_told-1.given.1.1.1.1.1.1.0.1 in
    rw (
      lt-ltb _ _ (rw c.head-head.ensures at c.if-head-start.false),
      le-leb _ _ (rw c.edge-edge.ensures at c.if-edge-start.false),
      ← literal_0,
      not-false (le (of_bits binary32 0) m.fraction) c.if-not-start.false-raw,
      ← literal_1,
      not-false (le m.fraction (of_bits binary32 1065353216)) c.if-not-start-2.false-raw,
      not_below fits (negsuc 999999) c.if-start-ltminus1000000.false,
      to_z-of_z fits,
    )
