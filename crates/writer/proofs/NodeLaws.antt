-- A turn over the nodes: a node put, then its entries behind those of the nodes before it. Nodes and entries lie apart, so it makes no difference
-- that the definition has all nodes first.
use Prim.Native.Nat.{ℕ, ◌+◌, ◌*◌, ◌≤◌, ◌<◌}
use mathlib.Core.Path.{◌≡◌, refl, sym, ap, ◌∙◌}
use mathlib.Core.List.{List}
use native.Mathlib.Omega.{arith}
use lib.ListN.{length}
use Rattle.tile.specs.Layout.{node_start}
use Rattle.writer.specs.Fields.{Field, puts}
use Rattle.writer.specs.TileWritten.{fields_below, node_fields, entry_field, entries_at, entries_below, first_entry}
use Rattle.writer.specs.Steps.{entry_fields}
use Rattle.writer.proofs.FieldLaws.{Rising, rising_from, rising_to, rising_below, length-puts, below_more}
use Rattle.writer.proofs.Putting.{puts_swap}
use Rattle.writer.proofs.EntryLaws.{entries_rise, puts_entries, fields_all, first_fits, below_one_more}

pub node_rises : (ns es : List ℕ) (i : ℕ) → Rising (node_start i) (node_fields ns es i) (node_start (i + 1))
node_rises ns es i = (omega arith, (omega arith, (omega arith, (omega arith, omega arith))))

-- entries from the first on, up to any place behind them
pub entries_within : (base high : ℕ) (vs : List ℕ) → base + length vs * 2 ≤ high → Rising base (entry_fields base 0 vs) high
entries_within base high vs h =
    rising_to base (base + (0 + length vs) * 2) high (entry_fields base 0 vs) (omega arith)
    (rising_from (base + 0 * 2) base (base + (0 + length vs) * 2) (entry_fields base 0 vs) (omega arith) (entries_rise base 0 vs))

module _ (ns es : List ℕ) (last : ℕ) (bs : List ℕ) where
  -- what the first i nodes have put
  abbrev pub passed : ℕ → List ℕ
  passed i = puts (entry_fields (node_start last) 0 (entries_below es i)) (puts (fields_below (node_fields ns es) i) bs)

  pub passed_none : bs ≡ passed 0
  unfolding entries_below entry_fields puts fields_below
  passed_none = refl

  module _ (fits : node_start last + first_entry es last * 2 ≤ length bs) (i : ℕ) (more : i < last) where
    before : List ℕ
    before = puts (fields_below (node_fields ns es) i) bs

    length_before : length before ≡ length bs
    unfolding before
    length_before =
        length-puts (node_start 0) (node_start i) (fields_below (node_fields ns es) i) bs
        (rising_below node_start (node_fields ns es) (node_rises ns es) i) (omega arith)

    apart : puts (node_fields ns es i) (passed i) ≡ puts (entry_fields (node_start last) 0 (entries_below es i)) (puts (node_fields ns es i) before)
    unfolding before
    apart =
        let high : ℕ = node_start last + first_entry es i * 2 in
        puts_swap (node_start i) (node_start last) high (node_fields ns es i) (entry_fields (node_start last) 0 (entries_below es i)) before
        (rising_to (node_start i) (node_start (i + 1)) (node_start last) (node_fields ns es i) (omega arith) (node_rises ns es i))
        (entries_within (node_start last) high (entries_below es i) (omega arith))
        (omega (arith, length_before, first_fits es i last more))

    pub passed_more : puts (entry_fields (node_start last) (first_entry es i) (entries_at es i)) (puts (node_fields ns es i) (passed i)) ≡ passed (i + 1)
    unfolding before
    passed_more =
        let e : first_entry es i ≡ 0 + length (entries_below es i) = omega arith in
        ap (λ (xs : List ℕ). puts (entry_fields (node_start last) (first_entry es i) (entries_at es i)) xs) apart
        ∙ ap (λ (j : ℕ). puts (entry_fields (node_start last) j (entries_at es i)) (puts (entry_fields (node_start last) 0 (entries_below es i)) (puts (node_fields ns es i) before))) e
        ∙ sym (puts_entries (node_start last) 0 (entries_below es i) (entries_at es i) (puts (node_fields ns es i) before))
        ∙ ap (λ (vs : List ℕ). puts (entry_fields (node_start last) 0 vs) (puts (node_fields ns es i) before)) (sym (below_one_more es i))
        ∙ ap (λ (xs : List ℕ). puts (entry_fields (node_start last) 0 (entries_below es (i + 1))) xs) (sym (below_more (node_fields ns es) i bs))

  pub passed_all : (edges i : ℕ) → first_entry es last ≡ edges → i ≡ last
      → passed i ≡ puts (fields_below (entry_field last es) edges) (puts (fields_below (node_fields ns es) last) bs)
  passed_all edges i all end =
      ap passed end
      ∙ ap (λ (fs : List Field). puts fs (puts (fields_below (node_fields ns es) last) bs)) (fields_all (node_start last) edges (entries_below es last) all)
