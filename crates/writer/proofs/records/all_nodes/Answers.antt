-- `writer::records::all_nodes` meets its contract. The loop's invariant: the nodes passed are put, and their entries behind one another.
use Prim.Native.Nat.{◌*◌}
use mathlib.Core.Path.{refl, sym, ◌∙◌}
use native.Mathlib.Omega.{arith}
use Rattle.writer.specs.TileWritten.{places_in, edges_in}
use Rattle.writer.proofs.EntryLaws.{first_fits, first_more, first_zero}
use Rattle.writer.proofs.NodeLaws.{passed_none, passed_more, passed_all}
use Rattle.writer.proofs.records.all_nodes.Goals as goal

pub loop-i-init : goal.loop-i-init
loop-i-init c =
    let args = c.args in
    (refl, (sym (first_zero args.edges.now), passed_none args.nodes.now args.edges.now (places_in args.nodes.now) args.out.now))

pub overflow_cast-count : goal.overflow_cast-count
overflow_cast-count c =
    let loop = c.loop-i in
    let args = c.args in
    omega (arith, first_fits args.edges.now loop.i (places_in args.nodes.now) (omega arith))

pub entries_at-count-requires : goal.entries_at-count-requires
entries_at-count-requires c =
    let node = c.node in
    let loop = c.loop-i in
    let args = c.args in
    record {
      few_edges = omega arith;
      entries_fit = omega (arith, node.auto.out, first_fits args.edges.now loop.i (places_in args.nodes.now) (omega arith));
    }

pub loop-i-preserved : goal.loop-i-preserved
loop-i-preserved c =
    let entries_at = c.entries_at-count in
    let node = c.node in
    let loop = c.loop-i in
    let args = c.args in (
      entries_at.auto.out ∙ (node.auto.out ∙ loop.invariant.0),
      (
        omega (arith, entries_at.ensures.value, first_more args.edges.now loop.i),
        rw (entries_at.ensures.out_after, node.ensures, loop.invariant.1.1, loop.invariant.1.0)
            (passed_more args.nodes.now args.edges.now (places_in args.nodes.now) args.out.now (omega arith) loop.i (omega arith)),
      ),
    )

pub returns : goal.returns
returns c =
    let args = c.args in
    c.loop-i.invariant.1.1 ∙ passed_all args.nodes.now args.edges.now (places_in args.nodes.now) args.out.now (edges_in args.edges.now * 2) c.loop-i.i (omega arith) (omega arith)
