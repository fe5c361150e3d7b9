-- Laws of adjacency entries: how they are put, one behind the other; how many there are, two for each edge whose nodes are there.
use Prim.Native.Nat.{ℕ, zero, suc, ◌+◌, ◌-◌, ◌*◌, ◌≤◌, ◌<◌}
use mathlib.Core.Path.{◌≡◌, refl, sym, ap, ◌∙◌}
use mathlib.Core.Bool.{Bool, true, false}
use mathlib.Core.List.{List, [], ◌∷◌, ◌++◌, append_assoc}
use native.Mathlib.Numerals.{add-one}
use native.Mathlib.Omega.{arith}
use lib.Dec.{eqb, ltb}
use lib.ListN.{length, get_or, take, length-append, get_or-append}
use lib.Seq.{take-suc, take-length, length-take-le, get_or-append-add}
use borrow.Author.Tests.{eqb-true, eqb-false, ne_eqb, ltb-true, ltb-false}
use Rattle.writer.specs.Fields.{Field, puts}
use Rattle.writer.specs.TileWritten.{field, fields_below, edges_in, entries_from, entries_at, entries_below, first_entry}
use Rattle.writer.specs.Steps.{entry_if, entries_of, entry_fields}
use Rattle.writer.proofs.FieldLaws.{Rising, puts-append, end}

-- ---- how they are put

pub fields_append : (base j : ℕ) (vs ws : List ℕ) → entry_fields base j (vs ++ ws) ≡ entry_fields base j vs ++ entry_fields base (j + length vs) ws
unfolding entry_fields
fields_append base j [] ws = let e : j ≡ j + 0 = omega arith in ap (λ (n : ℕ). entry_fields base n ws) e
fields_append base j (v ∷ vs) ws =
    let e : j + 1 + length vs ≡ j + suc (length vs) = omega arith in
    ap (λ (fs : List Field). field (base + j * 2) 2 v ∷ fs)
    (fields_append base (j + 1) vs ws ∙ ap (λ (n : ℕ). entry_fields base (j + 1) vs ++ entry_fields base n ws) e)

pub puts_entries : (base j : ℕ) (vs ws : List ℕ) (bs : List ℕ)
    → puts (entry_fields base j (vs ++ ws)) bs ≡ puts (entry_fields base (j + length vs) ws) (puts (entry_fields base j vs) bs)
puts_entries base j vs ws bs =
    ap (λ (fs : List Field). puts fs bs) (fields_append base j vs ws) ∙ puts-append (entry_fields base j vs) (entry_fields base (j + length vs) ws) bs

pub entries_rise : (base j : ℕ) (vs : List ℕ) → Rising (base + j * 2) (entry_fields base j vs) (base + (j + length vs) * 2)
unfolding entry_fields
entries_rise base j [] = omega arith
entries_rise base j (v ∷ vs) =
    let e : base + (j + 1 + length vs) * 2 ≡ base + (j + suc (length vs)) * 2 = omega arith in
    let e2 : base + (j + 1) * 2 ≡ base + j * 2 + 2 = omega arith in
    (omega arith, rw (e, e2) at (entries_rise base (j + 1) vs))

-- the fields by number are the fields of the list
fields_take : (base n : ℕ) (vs : List ℕ) → n ≤ length vs
    → fields_below (λ (j : ℕ). field (base + j * 2) 2 (get_or vs j 0) ∷ []) n ≡ entry_fields base 0 (take n vs)
unfolding fields_below entry_fields
fields_take base zero vs h = refl
fields_take base (suc n) vs h =
    let size : length (take n vs) ≡ n = length-take-le n vs (omega arith) in
    let e : n ≡ 0 + length (take n vs) = omega (arith, size) in
    ap (λ (fs : List Field). fs ++ (field (base + n * 2) 2 (get_or vs n 0) ∷ [])) (fields_take base n vs (omega arith))
    ∙ ap (λ (k : ℕ). entry_fields base 0 (take n vs) ++ (field (base + k * 2) 2 (get_or vs n 0) ∷ [])) e
    ∙ sym (fields_append base 0 (take n vs) (get_or vs n 0 ∷ []))
    ∙ ap (λ (xs : List ℕ). entry_fields base 0 xs) (sym (take-suc vs n 0 h))

pub fields_all : (base n : ℕ) (vs : List ℕ) → length vs ≡ n
    → entry_fields base 0 vs ≡ fields_below (λ (j : ℕ). field (base + j * 2) 2 (get_or vs j 0) ∷ []) n
fields_all base n vs e =
    sym (fields_take base n vs (omega (arith, e))
    ∙ ap (λ (k : ℕ). entry_fields base 0 (take k vs)) (sym e)
    ∙ ap (λ (xs : List ℕ). entry_fields base 0 xs) (take-length vs))

-- ---- what is left of a node's entries

pub left_none : (es : List ℕ) (node i last : ℕ) → last ≤ i → entries_from es node i (last - i) ≡ []
unfolding entries_from
left_none es node i last h =
    let e : last - i ≡ 0 = omega arith in
    rw e

pub left_more : (es : List ℕ) (node i last : ℕ) → i < last
    → entries_from es node i (last - i) ≡ entries_of es node i ++ entries_from es node (i + 1) (last - (i + 1))
unfolding entries_from
left_more es node i last h =
    let e : last - i ≡ suc (last - (i + 1)) = omega arith in
    let from : List ℕ = entry_if (get_or es (i * 7) 0) node (i * 2) in
    let to : List ℕ = entry_if (get_or es (i * 7 + 1) 0) node (i * 2 + 1) in
    rw e (sym (append_assoc from to (entries_from es node (i + 1) (last - (i + 1)))))

-- ---- entries of the nodes below a number

pub first_zero : (es : List ℕ) → first_entry es 0 ≡ 0
unfolding entries_below
first_zero es = refl

pub below_one_more : (es : List ℕ) (n : ℕ) → entries_below es (n + 1) ≡ entries_below es n ++ entries_at es n
unfolding entries_below
below_one_more es n = rw add-one

pub first_more : (es : List ℕ) (n : ℕ) → first_entry es (n + 1) ≡ first_entry es n + length (entries_at es n)
first_more es n = ap length (below_one_more es n) ∙ length-append (entries_below es n) (entries_at es n)

pub first_rises : (es : List ℕ) (a n : ℕ) → first_entry es a ≤ first_entry es (a + n)
first_rises es a zero = let e : a + 0 ≡ a = omega arith in rw e (omega arith)
first_rises es a (suc n) =
    let e : a + suc n ≡ a + n + 1 = omega arith in
    let z : first_entry es (a + suc n) ≡ first_entry es (a + n + 1) = ap (first_entry es) e in
    omega (arith, z, first_more es (a + n), first_rises es a n)

-- those of a node come before all of the next ones
pub first_fits : (es : List ℕ) (i n : ℕ) → i < n → first_entry es i + length (entries_at es i) ≤ first_entry es n
first_fits es i n h =
    let e : i + 1 + (n - (i + 1)) ≡ n = omega arith in
    let z : first_entry es (i + 1 + (n - (i + 1))) ≡ first_entry es n = ap (first_entry es) e in
    omega (arith, z, first_more es i, first_rises es (i + 1) (n - (i + 1)))

-- ---- two for each edge

-- how many nodes below n an edge's end is: one or none
met : ℕ → ℕ → ℕ
met end zero = 0
met end (suc n) = met end n + length (entry_if end n 0)

met_none : (end n : ℕ) → n ≤ end → met end n ≡ 0
unfolding met
met_none end zero h = refl
met_none end (suc n) h =
    let other : eqb end n ≡ false = ne_eqb end n (λ (e : end ≡ n). omega arith) in
    rw other (omega (arith, met_none end n (omega arith)))

met_one : (end n : ℕ) → end < n → met end n ≡ 1
unfolding met
met_one end zero h = absurd (omega arith)
met_one end (suc n) h = go (eqb end n) refl (λ k. met_one end n k)
  where
    go : (t : Bool) → eqb end n ≡ t → (end < n → met end n ≡ 1) → met end n + length (entry_if end n 0) ≡ 1
    go true q r = rw q (omega (arith, met_none end n (omega (arith, eqb-true end n q))))
    go false q r = rw q (omega (arith, r (omega (arith, eqb-false end n q))))

-- the length of an entry that may be there doesn't depend on its value
if_length : (end node value : ℕ) → length (entry_if end node value) ≡ length (entry_if end node 0)
if_length end node value = go (eqb end node) refl
  where
    go : (t : Bool) → eqb end node ≡ t → length (entry_if end node value) ≡ length (entry_if end node 0)
    go true q = rw q
    go false q = rw q

-- entries that edges i to i + k - 1 make at the nodes below n
total : List ℕ → ℕ → ℕ → ℕ → ℕ
total es i k zero = 0
total es i k (suc n) = total es i k n + length (entries_from es n i k)

total_none : (es : List ℕ) (i n : ℕ) → total es i 0 n ≡ 0
unfolding total entries_from
total_none es i zero = refl
total_none es i (suc n) = omega (arith, total_none es i n)

total_more : (es : List ℕ) (i k n : ℕ) → total es i (suc k) n ≡ met (get_or es (i * 7) 0) n + met (get_or es (i * 7 + 1) 0) n + total es (i + 1) k n
unfolding total met entries_from
total_more es i k zero = refl
total_more es i k (suc n) =
    let from : List ℕ = entry_if (get_or es (i * 7) 0) n (i * 2) in
    let to : List ℕ = entry_if (get_or es (i * 7 + 1) 0) n (i * 2 + 1) in
    let rest : List ℕ = entries_from es n (i + 1) k in
    omega (
      arith,
      total_more es i k n,
      length-append from (to ++ rest),
      length-append to rest,
      if_length (get_or es (i * 7) 0) n (i * 2),
      if_length (get_or es (i * 7 + 1) 0) n (i * 2 + 1),
    )

abbrev pub NodesThere : List ℕ → ℕ → ℕ → Type 0
NodesThere es nodes edges = (i : ℕ) → i < edges → (get_or es (i * 7) 0 < nodes) × (get_or es (i * 7 + 1) 0 < nodes)

total_two : (es : List ℕ) (n edges i k : ℕ) → NodesThere es n edges → i + k ≡ edges → total es i k n ≡ k * 2
total_two es n edges i zero there e = total_none es i n
total_two es n edges i (suc k) there e =
    omega (
      arith,
      total_more es i k n,
      met_one (get_or es (i * 7) 0) n (there i (omega arith)).0,
      met_one (get_or es (i * 7 + 1) 0) n (there i (omega arith)).1,
      total_two es n edges (i + 1) k there (omega arith),
    )

first_total : (es : List ℕ) (n : ℕ) → first_entry es n ≡ total es 0 (edges_in es) n
unfolding entries_below total
first_total es zero = refl
first_total es (suc n) = length-append (entries_below es n) (entries_at es n) ∙ ap (λ (k : ℕ). k + length (entries_at es n)) (first_total es n)

pub entries_two : (es : List ℕ) (nodes : ℕ) → NodesThere es nodes (edges_in es) → first_entry es nodes ≡ edges_in es * 2
entries_two es nodes there = first_total es nodes ∙ total_two es nodes (edges_in es) 0 (edges_in es) there (omega arith)

-- ---- a turn over the edges: an edge's entries put, then what is left

module _ (es : List ℕ) (node i last : ℕ) (more : i < last) where
  pub left_length : length (entries_of es node i) + length (entries_from es node (i + 1) (last - (i + 1))) ≡ length (entries_from es node i (last - i))
  left_length =
      sym (ap length (left_more es node i last more) ∙ length-append (entries_of es node i) (entries_from es node (i + 1) (last - (i + 1))))

  pub left_puts : (base filled : ℕ) (bs : List ℕ)
      → puts (entry_fields base (filled + length (entries_of es node i)) (entries_from es node (i + 1) (last - (i + 1)))) (puts (entry_fields base filled (entries_of es node i)) bs)
      ≡ puts (entry_fields base filled (entries_from es node i (last - i))) bs
  left_puts base filled bs =
      sym (puts_entries base filled (entries_of es node i) (entries_from es node (i + 1) (last - (i + 1))) bs)
      ∙ ap (λ (vs : List ℕ). puts (entry_fields base filled vs) bs) (sym (left_more es node i last more))

pub left_end : (es : List ℕ) (node i last base filled : ℕ) (bs : List ℕ) → last ≤ i
    → (puts (entry_fields base filled (entries_from es node i (last - i))) bs ≡ bs) × (filled + length (entries_from es node i (last - i)) ≡ filled)
unfolding entry_fields puts
left_end es node i last base filled bs h = (rw (left_none es node i last h), rw (left_none es node i last h) (omega arith))

-- ---- which entries there are

-- every number of a list is below a bound
abbrev pub Below : ℕ → List ℕ → Type 0
Below bound xs = (j : ℕ) → j < length xs → get_or xs j 0 < bound

below_append : (bound : ℕ) (xs ys : List ℕ) → Below bound xs → Below bound ys → Below bound (xs ++ ys)
below_append bound xs ys p q j h = go (ltb j (length xs)) refl
  where
    go : (t : Bool) → ltb j (length xs) ≡ t → get_or (xs ++ ys) j 0 < bound
    go true e = let l : j < length xs = ltb-true j (length xs) e in rw (get_or-append xs ys 0 j l) (p j l)
    go false e =
        let l : length xs ≤ j = ltb-false j (length xs) e in
        let k : length xs + (j - length xs) ≡ j = omega arith in
        rw (ap (λ (n : ℕ). get_or (xs ++ ys) n 0) (sym k) ∙ get_or-append-add xs ys (j - length xs) 0)
        (q (j - length xs) (omega (arith, length-append xs ys)))

if_below : (bound end node value : ℕ) → value < bound → Below bound (entry_if end node value)
if_below bound end node value h j l = go (eqb end node) refl l
  where
    one : (k : ℕ) → k < 1 → get_or (value ∷ []) k 0 < bound
    one zero m = h
    one (suc k) m = absurd (omega arith)

    go : (t : Bool) → eqb end node ≡ t → j < length (entry_if end node value) → get_or (entry_if end node value) j 0 < bound
    go true e m = rw e (one j (rw e at m))
    go false e m = absurd (nothing (rw e at m))
      where
        nothing : j < 0 → ⊥
        nothing m = omega arith

-- an entry of a node names one of the edges
from_below : (es : List ℕ) (node i k bound : ℕ) → (i + k) * 2 ≤ bound → Below bound (entries_from es node i k)
unfolding entries_from
from_below es node i zero bound h = λ (j : ℕ) (l : j < 0). absurd (omega arith)
from_below es node i (suc k) bound h =
    let from : List ℕ = entry_if (get_or es (i * 7) 0) node (i * 2) in
    let to : List ℕ = entry_if (get_or es (i * 7 + 1) 0) node (i * 2 + 1) in
    let rest : List ℕ = entries_from es node (i + 1) k in
    below_append bound from (to ++ rest) (if_below bound (get_or es (i * 7) 0) node (i * 2) (omega arith))
    (below_append bound to rest (if_below bound (get_or es (i * 7 + 1) 0) node (i * 2 + 1) (omega arith)) (from_below es node (i + 1) k bound (omega arith)))

pub entries_below_lem : (es : List ℕ) (n : ℕ) → Below (edges_in es * 2) (entries_below es n)
unfolding entries_below
entries_below_lem es zero = λ (j : ℕ) (l : j < 0). absurd (omega arith)
entries_below_lem es (suc n) =
    below_append (edges_in es * 2) (entries_below es n) (entries_at es n) (entries_below_lem es n) (from_below es n 0 (edges_in es) (edges_in es * 2) (omega arith))

-- the entries of a node stand from its first on
pub entry_at : (es : List ℕ) (i n : ℕ) → i < n → (k : ℕ) → k < length (entries_at es i) → get_or (entries_below es n) (first_entry es i + k) 0 ≡ get_or (entries_at es i) k 0
unfolding entries_below
entry_at es i zero h k l = absurd (omega arith)
entry_at es i (suc n) h k l = go (eqb i n) refl (λ m. entry_at es i n m k l)
  where
    go : (t : Bool) → eqb i n ≡ t → (i < n → get_or (entries_below es n) (first_entry es i + k) 0 ≡ get_or (entries_at es i) k 0)
        → get_or (entries_below es n ++ entries_at es n) (first_entry es i + k) 0 ≡ get_or (entries_at es i) k 0
    go true e r = rw (← eqb-true i n e) (get_or-append-add (entries_below es i) (entries_at es i) k 0)
    go false e r =
        let less : i < n = omega (arith, eqb-false i n e) in
        get_or-append (entries_below es n) (entries_at es n) 0 (first_entry es i + k) (omega (arith, first_fits es i n less)) ∙ r less
