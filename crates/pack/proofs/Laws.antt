-- Laws of the pack's definitions, for callers to cite without unfolding one: the readers past the end, their size and what they
-- read out of a slice; a list of clauses by its index; what a header within its rules tells; its tiles' corners and directory entries; keys in the grid; an accepted sector;
-- a located tile; a range of a lent pack.
use Prim.Native.Nat.{ℕ, zero, suc, ◌+◌, ◌*◌, ◌^◌, ◌<◌, ◌≤◌}
use mathlib.Core.Path.{◌≡◌, refl, sym, ap, ◌∙◌}
use mathlib.Core.Bool.{Bool, true, false, ◌&&◌, cond, true≢false}
use mathlib.Core.List.{List, [], ◌∷◌}
use native.Mathlib.Nat.{mul-le-mul_right}
use native.Mathlib.Omega.{arith}
use lib.Dec.{leb, ltb, eqb}
use lib.IntN.{ℤ, pos, negsuc, ◌+ℤ◌, ◌-ℤ◌}
use lib.ListN.{length, take, drop, get_or, get_or-eq_default}
use lib.Seq.{get_or-take, get_or-drop}
use lib.Signed.{le_z, lt_z}
use borrow.Author.Tests.{ltb-true, leb-true, eqb-true, eqb-false}
use Rattle.std.specs.Prelude.{Option, Some, None, Result, Ok, Err}
use Rattle.pack.specs.Bytes.{u16_at, u32_at, u64_at}
use Rattle.pack.specs.Sector.{all_of, header_at, is_magic, is_version, is_sum, spans, rules_of, rules, parse}
use Rattle.pack.specs.Grid.{in_grid, within, natural, floor_of, checked_of, key_of, corner_of, entry_of, locate_of, read}
use Rattle.pack.specs.declared.Header.{Header}
use Rattle.pack.specs.declared.TileKey.{TileKey}
use Rattle.refusal.specs.declared.Refusal.{Refusal}
use Rattle.pack.proofs.Signed.{add, le-true, le_yes, lt_no}

-- ---- numbers past the end

pub u16_past : (bs : List ℕ) (at : ℕ) → length bs ≤ at → u16_at bs at ≡ 0
unfolding u16_at
u16_past bs at h =
    let h2 : length bs ≤ at + 1 = omega arith in
    rw (get_or-eq_default bs 0 h, get_or-eq_default bs 0 h2)

pub u32_past : (bs : List ℕ) (at : ℕ) → length bs ≤ at → u32_at bs at ≡ 0
unfolding u32_at
u32_past bs at h =
    let h2 : length bs ≤ at + 2 = omega arith in
    rw (u16_past bs at h, u16_past bs (at + 2) h2)

pub u64_past : (bs : List ℕ) (at : ℕ) → length bs ≤ at → u64_at bs at ≡ 0
unfolding u64_at
u64_past bs at h =
    let h2 : length bs ≤ at + 4 = omega arith in
    rw (u32_past bs at h, u32_past bs (at + 4) h2)

-- ---- and their size, of bytes below 256

module _ (bs : List ℕ) (bytes : (i : ℕ) → get_or bs i 0 < 256) where
  pub u16_below : (at : ℕ) → u16_at bs at < 65536
  unfolding u16_at
  u16_below at = omega (arith, bytes at, bytes (at + 1))

  pub u32_below : (at : ℕ) → u32_at bs at < 2 ^ 32
  unfolding u32_at
  u32_below at = omega (arith, u16_below at, u16_below (at + 2))

  pub u64_below : (at : ℕ) → u64_at bs at < 2 ^ 64
  unfolding u64_at
  u64_below at = omega (arith, u32_below at, u32_below (at + 4))

-- ---- a number read out of n bytes from `at` on stands in all of them that much further

byte_slice : (bs : List ℕ) (at n i k : ℕ) → i < n → at + i ≡ k → get_or (take n (drop at bs)) i 0 ≡ get_or bs k 0
byte_slice bs at n i k h e = get_or-take n (drop at bs) i 0 h ∙ get_or-drop at bs i 0 ∙ ap (λ (j : ℕ). get_or bs j 0) e

pub u16_slice : (bs : List ℕ) (at n i k : ℕ) → i + 2 ≤ n → at + i ≡ k → u16_at (take n (drop at bs)) i ≡ u16_at bs k
unfolding u16_at
u16_slice bs at n i k h e = rw (byte_slice bs at n i k (omega arith) e, byte_slice bs at n (i + 1) (k + 1) (omega arith) (omega arith))

pub u32_slice : (bs : List ℕ) (at n i k : ℕ) → i + 4 ≤ n → at + i ≡ k → u32_at (take n (drop at bs)) i ≡ u32_at bs k
unfolding u32_at
u32_slice bs at n i k h e = rw (u16_slice bs at n i k (omega arith) e, u16_slice bs at n (i + 2) (k + 2) (omega arith) (omega arith))

-- ---- a list of clauses

pub and_left : (a b : Bool) → (a && b) ≡ true → a ≡ true
and_left true b e = refl
and_left false b e = absurd (true≢false (sym e))

pub and_right : (a b : Bool) → (a && b) ≡ true → b ≡ true
and_right true b e = e
and_right false b e = absurd (true≢false (sym e))

pub and_not : (a b : Bool) → b ≡ false → (a && b) ≡ false
and_not true b e = e
and_not false b e = refl

-- the clause at k of a list that holds
pub clause : (k : ℕ) (bs : List Bool) → all_of bs ≡ true → get_or bs k true ≡ true
clause k [] e = refl
clause zero (b ∷ bs) e = and_left b (all_of bs) e
clause (suc k) (b ∷ bs) e = clause k bs (and_right b (all_of bs) e)

-- one that fails, at k
pub broken : (k : ℕ) (bs : List Bool) → get_or bs k true ≡ false → all_of bs ≡ false
broken k [] e = absurd (true≢false e)
broken zero (b ∷ bs) e = rw e
broken (suc k) (b ∷ bs) e = and_not b (all_of bs) (broken k bs e)

-- ---- a header within its rules, or not

-- by the rule at k that it breaks
pub rule_broken : (h : Header) (k : ℕ) → get_or (rules_of h) k true ≡ false → rules h ≡ false
unfolding rules
rule_broken h k e = broken k (rules_of h) e

module _ (h : Header) (ok : rules h ≡ true) where
  rule : (k : ℕ) → get_or (rules_of h) k true ≡ true
  unfolding rules
  rule k = clause k (rules_of h) ok

  pub rule_tile : (1 ≤ h.tile) × (h.tile ≤ 65535)
  rule_tile = (
    leb-true 1 h.tile (and_left (leb 1 h.tile) (leb h.tile 65535) (rule 0)),
    leb-true h.tile 65535 (and_right (leb 1 h.tile) (leb h.tile 65535) (rule 0)),
  )

  pub rule_rows : 0 < h.rows
  rule_rows = ltb-true 0 h.rows (rule 1)

  pub rule_cols : 0 < h.cols
  rule_cols = ltb-true 0 h.cols (rule 2)

  pub rule_south : spans h.south h.rows h.tile ≡ true
  rule_south = rule 3

  pub rule_west : spans h.west h.cols h.tile ≡ true
  rule_west = rule 4

  pub rule_directory : h.directory + h.rows * h.cols * 8 ≡ h.«data»
  rule_directory = eqb-true (h.directory + h.rows * h.cols * 8) h.«data» (rule 5)

  pub rule_data : h.«data» ≤ h.total
  rule_data = leb-true h.«data» h.total (rule 6)

-- ---- corners and directory entries of its tiles

-- n tiles along one side that spans: no further than 360 degrees from 0
module _ (from : ℤ) (tiles size n : ℕ) (s : spans from tiles size ≡ true) (few : n ≤ tiles) where
  low : le_z (negsuc 359999999) from ≡ true
  low = and_left (le_z (negsuc 359999999) from) (le_z (from +ℤ pos (tiles * size)) (pos 360000000)) s

  high : le_z (from +ℤ pos (tiles * size)) (pos 360000000) ≡ true
  high = and_right (le_z (negsuc 359999999) from) (le_z (from +ℤ pos (tiles * size)) (pos 360000000)) s

  pub side_within : (le_z (negsuc 359999999) (from +ℤ pos (n * size)) ≡ true) × (le_z (from +ℤ pos (n * size)) (pos 360000000) ≡ true)
  side_within =
      let sum = add from (pos (n * size)) in (
        le_yes (negsuc 359999999) (from +ℤ pos (n * size)) (omega (arith, le-true (negsuc 359999999) from low)),
        le_yes (from +ℤ pos (n * size)) (pos 360000000)
            (omega (arith, le-true (from +ℤ pos (tiles * size)) (pos 360000000) high, add from (pos (tiles * size)), mul-le-mul_right size few)),
      )

  pub side_exact : lt_z (pos 2147483647) (from +ℤ pos (n * size)) ≡ false
  side_exact =
      lt_no (pos 2147483647) (from +ℤ pos (n * size))
      (omega (arith, le-true (from +ℤ pos (n * size)) (pos 360000000) side_within.1))

pub row_below : (h : Header) (k : TileKey) → in_grid h k ≡ true → k.row < h.rows
row_below h k e = ltb-true k.row h.rows (and_left (ltb k.row h.rows) (ltb k.col h.cols) e)

pub col_below : (h : Header) (k : TileKey) → in_grid h k ≡ true → k.col < h.cols
col_below h k e = ltb-true k.col h.cols (and_right (ltb k.row h.rows) (ltb k.col h.cols) e)

module _ (h : Header) (k : TileKey) (ok : rules h ≡ true) (is_in_grid : in_grid h k ≡ true) where
  rows_left : k.row ≤ h.rows
  rows_left = omega (arith, row_below h k is_in_grid)

  cols_left : k.col ≤ h.cols
  cols_left = omega (arith, col_below h k is_in_grid)

  -- nothing is held back
  pub corner_exact : corner_of h k ≡ record { south = h.south +ℤ pos (k.row * h.tile); west = h.west +ℤ pos (k.col * h.tile) }
  unfolding corner_of
  corner_exact =
      rw (
        side_exact h.south h.rows h.tile k.row (rule_south h ok) rows_left,
        side_exact h.west h.cols h.tile k.col (rule_west h ok) cols_left,
      )

  pub corner_south : (le_z (negsuc 359999999) (corner_of h k).south ≡ true) × (le_z (corner_of h k).south (pos 360000000) ≡ true)
  corner_south = rw corner_exact (side_within h.south h.rows h.tile k.row (rule_south h ok) rows_left)

  pub corner_west : (le_z (negsuc 359999999) (corner_of h k).west ≡ true) × (le_z (corner_of h k).west (pos 360000000) ≡ true)
  corner_west = rw corner_exact (side_within h.west h.cols h.tile k.col (rule_west h ok) cols_left)

  -- an entry lies within the directory
  pub entry_within : (h.directory ≤ entry_of h k) × (entry_of h k + 8 ≤ h.«data»)
  unfolding entry_of
  entry_within =
      let next : k.row + 1 ≤ h.rows = omega (arith, row_below h k is_in_grid) in
      let rows = mul-le-mul_right h.cols next in
      (omega arith, omega (arith, rule_directory h ok, col_below h k is_in_grid))

-- ---- keys lie in the grid

within_below : (z : ℤ) (n : ℕ) → within z n ≡ true → ltb (natural z) n ≡ true
within_below (pos a) n e = and_right (le_z (pos 0) (pos a)) (ltb a n) e
within_below (negsuc a) n e = absurd (true≢false (sym e))

pub checked_in_grid : (h : Header) (row col : ℤ) {k : TileKey} → checked_of h row col ≡ Some k → in_grid h k ≡ true
unfolding checked_of
checked_in_grid h row col {k} e = go (within row h.rows && within col h.cols) refl e
  where
    found : TileKey
    found = record { row = natural row; col = natural col }

    go : (t : Bool) → (within row h.rows && within col h.cols) ≡ t → cond t (Some found) None ≡ Some k → in_grid h k ≡ true
    go true q r =
        let same : found ≡ k = cc in
        rw (← same, within_below row h.rows (and_left (within row h.rows) (within col h.cols) q))
        (within_below col h.cols (and_right (within row h.rows) (within col h.cols) q))
    go false q r = cc

pub key_in_grid : (h : Header) (lat lon : ℤ) {k : TileKey} → key_of h lat lon ≡ Some k → in_grid h k ≡ true
unfolding key_of
key_in_grid h lat lon {k} e = go (eqb h.tile 0) e
  where
    row : ℤ
    row = floor_of (lat -ℤ h.south) h.tile

    col : ℤ
    col = floor_of (lon -ℤ h.west) h.tile

    go : (t : Bool) → cond t None (checked_of h row col) ≡ Some k → in_grid h k ≡ true
    go true r = cc
    go false r = checked_in_grid h row col r

-- ---- an accepted sector

pub parse_accepted : (s : List ℕ) {h : Header} → parse s ≡ Ok h → (rules h ≡ true) × (h ≡ header_at s)
unfolding parse
parse_accepted s {h} e = go (is_sum s) (all_of rest) refl e
  where
    rest : List Bool
    rest = is_magic s ∷ is_version s ∷ rules (header_at s) ∷ []

    go : (sum t : Bool) → all_of rest ≡ t → cond sum (cond t (Ok (header_at s)) (Err Refusal.Unsupported)) (Err Refusal.Corrupt) ≡ Ok h → (rules h ≡ true) × (h ≡ header_at s)
    go true true q r = let same : header_at s ≡ h = cc in (rw (← same) (clause 2 rest q), cc)
    go true false q r = (cc, cc)
    go false t q r = (cc, cc)

-- ---- a located tile

pub located : (h : Header) (e : List ℕ) {o l : ℕ} → locate_of h e ≡ Ok (Some (o, l)) → (0 < l) × ((h.«data» ≤ o) × (o + l ≤ h.total))
unfolding locate_of
located h e {o} {l} r = go (eqb length' 0) (leb h.«data» offset && leb (offset + length') h.total) refl refl r
  where
    offset : ℕ
    offset = u32_at e 0

    length' : ℕ
    length' = u32_at e 4

    tile : Result (Option (ℕ × ℕ)) Refusal
    tile = Ok (Some (offset, length'))

    go :
        (none lies : Bool) →
        eqb length' 0 ≡ none →
        (leb h.«data» offset && leb (offset + length') h.total) ≡ lies →
        cond none (Ok None) (cond lies tile (Err Refusal.Corrupt)) ≡ Ok (Some (o, l)) →
        (0 < l) × ((h.«data» ≤ o) × (o + l ≤ h.total))
    go true lies p q r = let z : ◌≡◌ {A = ℕ} 0 1 = cc in absurd (omega arith)
    go false false p q r = let z : ◌≡◌ {A = ℕ} 0 1 = cc in absurd (omega arith)
    go false true p q r =
        let same : ◌≡◌ {A = ℕ × ℕ} (offset, length') (o, l) = cc in
        let at : offset ≡ o = ap (λ (t : ℕ × ℕ). t.0) same in
        let long : length' ≡ l = ap (λ (t : ℕ × ℕ). t.1) same in
        let start = leb-true h.«data» offset (and_left (leb h.«data» offset) (leb (offset + length') h.total) q) in
        let end = leb-true (offset + length') h.total (and_right (leb h.«data» offset) (leb (offset + length') h.total) q) in
        (omega (arith, eqb-false length' 0 p), (omega arith, omega arith))

-- ---- a range of a lent pack

pub read_at : (pack : List ℕ) (offset len : ℕ) {a : ℕ} → read pack offset len ≡ Ok a → (a ≡ offset) × (offset + len ≤ length pack)
unfolding read
read_at pack offset len {a} e = go (leb (offset + len) (length pack)) refl e
  where
    go : (t : Bool) → leb (offset + len) (length pack) ≡ t → cond t (Ok offset) (Err Refusal.PastPack) ≡ Ok a → (a ≡ offset) × (offset + len ≤ length pack)
    go true q r = (cc, leb-true (offset + len) (length pack) q)
    go false q r = cc
