-- `writer::records::entries_at` meets its contract. The loop's invariant: to put what is left of the node's entries gives what to put all of them gives.
use mathlib.Core.Path.{sym, ◌∙◌}
use native.Mathlib.Omega.{arith}
use Rattle.writer.specs.TileWritten.{edges_in}
use Rattle.writer.proofs.EntryLaws.{left_length, left_puts, left_end}
use Rattle.writer.proofs.records.entries_at.Goals as goal

pub entries_of-filled-requires : goal.entries_of-filled-requires
entries_of-filled-requires c =
    let loop = c.loop-i in
    let args = c.args in
    record {
      few_edges = omega arith;
      edge_there = omega arith;
      entries_fit = omega (arith, left_length args.edges.now args.node loop.i (edges_in args.edges.now) (omega arith));
    }

pub loop-i-preserved : goal.loop-i-preserved
loop-i-preserved c =
    let entries_of = c.entries_of-filled in
    let loop = c.loop-i in
    let args = c.args in (
      omega arith,
      (
        entries_of.auto.out ∙ loop.invariant.1.0,
        (
          omega (arith, left_length args.edges.now args.node loop.i (edges_in args.edges.now) (omega arith), entries_of.ensures.value),
          rw (entries_of.ensures.out_after, entries_of.ensures.value)
              (left_puts args.edges.now args.node loop.i (edges_in args.edges.now) (omega arith) args.base loop.filled loop.out ∙ loop.invariant.1.1.1),
        ),
      ),
    )

pub returns : goal.returns
returns c = let end = left_end c.args.edges.now c.args.node c.loop-i.i (edges_in c.args.edges.now) c.args.base c.loop-i.filled c.loop-i.out (omega arith) in
    record {
      value = omega (arith, end.1);
      out_after = sym end.0 ∙ c.loop-i.invariant.1.1.1;
    }
