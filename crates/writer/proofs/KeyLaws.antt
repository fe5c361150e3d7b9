-- Keys among the tiles: whether one has a key, that a key below all others or without a mark is new, and that no key is given twice.
use Prim.Native.Nat.{ℕ, zero, suc, ◌+◌, ◌≤◌, ◌<◌}
use mathlib.Core.Path.{◌≡◌, refl, sym, ap, ◌∙◌}
use mathlib.Core.Bool.{Bool, true, false, ◌&&◌, not, true≢false}
use mathlib.Core.List.{List}
use native.Mathlib.Numerals.{add-one}
use native.Mathlib.Omega.{arith}
use lib.Dec.{eqb, ltb}
use lib.ListN.{length, get_or, set}
use lib.Seq.{get_or-set_same, get_or-set_other}
use borrow.Author.Tests.{eqb-true, ltb-true, ltb-false}
use Rattle.pack.specs.declared.TileKey.{TileKey}
use Rattle.tile.proofs.Laws.{and_left, and_right}
use Rattle.writer.specs.PackWritten.{cut, key_in, same_key, has_key, no_key_twice}
use Rattle.writer.specs.PackSteps.{numbered, tiles_from, rank, slot}
use Rattle.writer.proofs.CutLaws.{from_all, from_more, from_end}

-- ---- the search

pub key_here : (key : TileKey) (ns bs : List ℕ) (i : ℕ) → i < length ns → same_key (key_in (numbered ns bs i)) key ≡ true
    → has_key key (tiles_from ns bs i) ≡ true
unfolding has_key
key_here key ns bs i h e = rw (from_more ns bs i h, e)

pub key_on : (key : TileKey) (ns bs : List ℕ) (i : ℕ) → i < length ns → same_key (key_in (numbered ns bs i)) key ≡ false
    → has_key key (tiles_from ns bs i) ≡ has_key key (tiles_from ns bs (i + 1))
unfolding has_key
key_on key ns bs i h e = rw (from_more ns bs i h, e)

pub key_end : (key : TileKey) (ns bs : List ℕ) (i : ℕ) → length ns ≤ i → has_key key (tiles_from ns bs i) ≡ false
unfolding has_key
key_end key ns bs i h = rw (from_end ns bs i h)

-- ---- a key below all others

pub same_rank : (a b : TileKey) → same_key a b ≡ true → rank a ≡ rank b
same_rank a b e =
    omega (
      arith,
      eqb-true a.row b.row (and_left (eqb a.row b.row) (eqb a.col b.col) e),
      eqb-true a.col b.col (and_right (eqb a.row b.row) (eqb a.col b.col) e),
    )

-- no tile from number i on ranks below least
abbrev pub NoneBelow : ℕ → List ℕ → List ℕ → ℕ → Type 0
NoneBelow least ns bs i = (key : TileKey) → rank key < least → has_key key (tiles_from ns bs i) ≡ false

pub none_end : (least : ℕ) (ns bs : List ℕ) (i : ℕ) → length ns ≤ i → NoneBelow least ns bs i
none_end least ns bs i h key k = key_end key ns bs i h

-- k is the number behind i
pub none_more : (least new : ℕ) (ns bs : List ℕ) (i k : ℕ) → i + 1 ≡ k → i < length ns → new ≤ least → new ≤ rank (key_in (numbered ns bs i))
    → NoneBelow least ns bs k → NoneBelow new ns bs i
none_more least new ns bs i k next h l r rest key below = go (same_key (key_in (numbered ns bs i)) key) refl
  where
    go : (b : Bool) → same_key (key_in (numbered ns bs i)) key ≡ b → has_key key (tiles_from ns bs i) ≡ false
    go true e = absurd (omega (arith, same_rank (key_in (numbered ns bs i)) key e))
    go false e = key_on key ns bs i h e ∙ ap (λ (n : ℕ). has_key key (tiles_from ns bs n)) next ∙ rest key (omega arith)

-- ---- a key whose mark is not set

same_slot : (cols : ℕ) (a b : TileKey) → same_key a b ≡ true → slot cols a ≡ slot cols b
unfolding slot
same_slot cols a b e =
    rw (
      eqb-true a.row b.row (and_left (eqb a.row b.row) (eqb a.col b.col) e),
      eqb-true a.col b.col (and_right (eqb a.row b.row) (eqb a.col b.col) e),
    )

-- every tile from number i on has set its mark; others may be set too
abbrev pub Marked : ℕ → List ℕ → List ℕ → List ℕ → ℕ → Type 0
Marked cols marks ns bs i = (key : TileKey) → get_or marks (slot cols key) 0 ≡ 0 → has_key key (tiles_from ns bs i) ≡ false

pub marked_end : (cols : ℕ) (marks ns bs : List ℕ) (i : ℕ) → length ns ≤ i → Marked cols marks ns bs i
marked_end cols marks ns bs i h key clear = key_end key ns bs i h

-- k is the number behind i
pub marked_more : (cols : ℕ) (marks ns bs : List ℕ) (i k at : ℕ) → i + 1 ≡ k → i < length ns → at ≡ slot cols (key_in (numbered ns bs i)) → at < length marks
    → Marked cols marks ns bs k → Marked cols (set marks at 1) ns bs i
marked_more cols marks ns bs i k at next h here within rest key clear = go (same_key (key_in (numbered ns bs i)) key) refl
  where
    -- the mark at that place is set
    apart : slot cols key ≡ at → ⊥
    apart e = omega (arith, get_or-set_same marks at 1 0 within, rw e at clear)

    go : (b : Bool) → same_key (key_in (numbered ns bs i)) key ≡ b → has_key key (tiles_from ns bs i) ≡ false
    go true e = absurd (apart (sym (same_slot cols (key_in (numbered ns bs i)) key e) ∙ sym here))
    go false e =
        key_on key ns bs i h e
        ∙ ap (λ (n : ℕ). has_key key (tiles_from ns bs n)) next
        ∙ rest key (sym (get_or-set_other marks at (slot cols key) 1 0 apart) ∙ clear)

-- ---- no key twice

pub once_more : (ns bs : List ℕ) (i k : ℕ) → i + 1 ≡ k → i < length ns → has_key (key_in (numbered ns bs i)) (tiles_from ns bs k) ≡ false
    → no_key_twice (tiles_from ns bs k) ≡ true → no_key_twice (tiles_from ns bs i) ≡ true
unfolding no_key_twice
once_more ns bs i k next h new rest = rw (from_more ns bs i h, next, new, rest)

pub once_end : (ns bs : List ℕ) (i : ℕ) → length ns ≤ i → no_key_twice (tiles_from ns bs i) ≡ true
unfolding no_key_twice
once_end ns bs i h = rw (from_end ns bs i h)

-- what holds of all tiles holds of those from a number on
once_on : (ns bs : List ℕ) (i : ℕ) → no_key_twice (tiles_from ns bs i) ≡ true → no_key_twice (tiles_from ns bs (i + 1)) ≡ true
unfolding no_key_twice
once_on ns bs i e = go (ltb i (length ns)) refl
  where
    open_at : i < length ns → (not (has_key (key_in (numbered ns bs i)) (tiles_from ns bs (i + 1))) && no_key_twice (tiles_from ns bs (i + 1))) ≡ true
    open_at h = rw (from_more ns bs i h) at e

    go : (b : Bool) → ltb i (length ns) ≡ b → no_key_twice (tiles_from ns bs (i + 1)) ≡ true
    go true q = and_right (not (has_key (key_in (numbered ns bs i)) (tiles_from ns bs (i + 1)))) _ (open_at (ltb-true i (length ns) q))
    go false q = once_end ns bs (i + 1) (omega (arith, ltb-false i (length ns) q))

pub once_later : (ns bs : List ℕ) (i : ℕ) → no_key_twice (cut ns bs) ≡ true → no_key_twice (tiles_from ns bs i) ≡ true
once_later ns bs zero e = rw from_all e
once_later ns bs (suc i) e = rw add-one at (once_on ns bs i (once_later ns bs i e))

pub twice_here : (ns bs : List ℕ) (i k : ℕ) → i + 1 ≡ k → i < length ns → has_key (key_in (numbered ns bs i)) (tiles_from ns bs k) ≡ true
    → no_key_twice (cut ns bs) ≡ false
unfolding no_key_twice
twice_here ns bs i k next h again = go (no_key_twice (cut ns bs)) refl
  where
    fails : no_key_twice (tiles_from ns bs i) ≡ false
    fails = rw (from_more ns bs i h, next, again)

    go : (b : Bool) → no_key_twice (cut ns bs) ≡ b → b ≡ false
    go true e = absurd (true≢false (sym (once_later ns bs i e) ∙ fails))
    go false e = refl
