-- Entries of a directory as bytes: how long they are, that equal offsets and lengths make equal bytes, one offset or length put in, entries of
-- zeros, and that each entry reads back.
use Prim.Native.Nat.{ℕ, zero, suc, ◌+◌, ◌*◌, ◌<◌}
use mathlib.Core.Path.{◌≡◌, refl, sym, ap, ◌∙◌}
use mathlib.Core.Bool.{Bool, true, false}
use mathlib.Core.List.{List, [], ◌++◌, append_assoc, append-nil}
use native.Mathlib.Omega.{arith}
use lib.Dec.{eqb}
use lib.ListN.{length, take, drop, get_or, replicate, length-append, replicate-append-replicate, get_or-append}
use lib.Seq.{take_at, drop_at, take_all, get_or-append-add}
use borrow.Author.Tests.{eqb-true, eqb-false}
use Rattle.pack.specs.Bytes.{u32_at}
use Rattle.writer.specs.Fields.{little_endian, put}
use Rattle.writer.specs.TileWritten.{field}
use Rattle.writer.specs.PackSteps.{entries, entry_bytes}
use Rattle.writer.proofs.FieldLaws.{length_little, Holds, u32_read}
use Rattle.writer.proofs.Putting.{put_left}

-- ---- a field where two parts meet

pub put_seam : (xs ys zs : List ℕ) (at width value : ℕ) → length xs ≡ at → length ys ≡ width
    → put (field at width value) (xs ++ (ys ++ zs)) ≡ xs ++ (little_endian width value ++ zs)
unfolding put
put_seam xs ys zs at width value e d =
    let both : length (xs ++ ys) ≡ at + width = omega (arith, length-append xs ys) in
    let whole : take width (little_endian width value) ≡ little_endian width value = take_all width _ (omega (arith, length_little width value)) in
    let rest : drop (at + width) (xs ++ (ys ++ zs)) ≡ zs =
    ap (λ (l : List ℕ). drop (at + width) l) (sym (append_assoc xs ys zs)) ∙ drop_at (xs ++ ys) zs (at + width) both
    in rw (take_at xs (ys ++ zs) at e, whole, rest) (append_assoc xs (little_endian width value) zs)

pub holds_seam : (xs zs : List ℕ) (at width value : ℕ) → length xs ≡ at → Holds (field at width value) (xs ++ (little_endian width value ++ zs))
holds_seam xs zs at width value e i h =
    ap (λ (n : ℕ). get_or (xs ++ (little_endian width value ++ zs)) (n + i) 0) (sym e)
    ∙ get_or-append-add xs (little_endian width value ++ zs) i 0
    ∙ get_or-append (little_endian width value) zs 0 i (omega (arith, length_little width value))

-- ---- entries

pub length-entries : (f l : ℕ → ℕ) (n : ℕ) → length (entries f l n) ≡ n * 8
unfolding entries
length-entries f l zero = refl
length-entries f l (suc n) =
    omega (
      arith,
      length-append (entries f l n) (entry_bytes (f n) (l n)),
      length-append (little_endian 4 (f n)) (little_endian 4 (l n)),
      length_little 4 (f n),
      length_little 4 (l n),
      length-entries f l n,
    )

pub entries_same : (f g l m : ℕ → ℕ) (n : ℕ) → ((q : ℕ) → q < n → f q ≡ g q) → ((q : ℕ) → q < n → l q ≡ m q) → entries f l n ≡ entries g m n
unfolding entries
entries_same f g l m zero e d = refl
entries_same f g l m (suc n) e d =
    rw (entries_same f g l m n (λ q h. e q (omega arith)) (λ q h. d q (omega arith)), e n (omega arith), d n (omega arith))

pub entries_zero : (f l : ℕ → ℕ) (n : ℕ) → ((q : ℕ) → q < n → f q ≡ 0) → ((q : ℕ) → q < n → l q ≡ 0) → replicate (n * 8) 0 ≡ entries f l n
unfolding entries little_endian
entries_zero f l zero e d = refl
entries_zero f l (suc n) e d =
    let grown : suc n * 8 ≡ n * 8 + 8 = omega arith in
    rw (e n (omega arith), d n (omega arith), ← entries_zero f l n (λ q h. e q (omega arith)) (λ q h. d q (omega arith)), grown)
    (sym (replicate-append-replicate (n * 8) 8 0))

-- ---- one number put in

pub put_offset : (f g l : ℕ → ℕ) (n p value : ℕ) → p < n → g p ≡ value → ((q : ℕ) → (q ≡ p → ⊥) → g q ≡ f q)
    → put (field (p * 8) 4 value) (entries f l n) ≡ entries g l n
unfolding entries
put_offset f g l zero p value h here other = absurd (omega arith)
put_offset f g l (suc n) p value h here other = go (eqb p n) refl (λ k. put_offset f g l n p value k here other)
  where
    go : (b : Bool) → eqb p n ≡ b → (p < n → put (field (p * 8) 4 value) (entries f l n) ≡ entries g l n)
        → put (field (p * 8) 4 value) (entries f l n ++ entry_bytes (f n) (l n)) ≡ entries g l n ++ entry_bytes (g n) (l n)
    go true e below =
        let same : p ≡ n = eqb-true p n e in
        put_seam (entries f l n) (little_endian 4 (f n)) (little_endian 4 (l n)) (p * 8) 4 value (omega (arith, length-entries f l n)) (length_little 4 (f n))
        ∙ rw (entries_same f g l l n (λ q k. sym (other q (λ d. omega arith))) (λ q k. refl), ← here, same)
    go false e below =
        let apart : p ≡ n → ⊥ = eqb-false p n e in
        let less : p < n = omega arith in
        put_left (field (p * 8) 4 value) (entries f l n) (entry_bytes (f n) (l n)) (omega (arith, length-entries f l n))
        ∙ rw (below less, other n (λ d. omega arith))

pub put_long : (f l m : ℕ → ℕ) (n p value : ℕ) → p < n → m p ≡ value → ((q : ℕ) → (q ≡ p → ⊥) → m q ≡ l q)
    → put (field (p * 8 + 4) 4 value) (entries f l n) ≡ entries f m n
unfolding entries
put_long f l m zero p value h here other = absurd (omega arith)
put_long f l m (suc n) p value h here other = go (eqb p n) refl (λ k. put_long f l m n p value k here other)
  where
    seam : length (entries f l n ++ little_endian 4 (f n)) ≡ n * 8 + 4
    seam = omega (arith, length-append (entries f l n) (little_endian 4 (f n)), length-entries f l n, length_little 4 (f n))

    ends : entries f l n ++ entry_bytes (f n) (l n) ≡ (entries f l n ++ little_endian 4 (f n)) ++ (little_endian 4 (l n) ++ [])
    ends = rw append-nil (sym (append_assoc (entries f l n) (little_endian 4 (f n)) (little_endian 4 (l n))))

    go : (b : Bool) → eqb p n ≡ b → (p < n → put (field (p * 8 + 4) 4 value) (entries f l n) ≡ entries f m n)
        → put (field (p * 8 + 4) 4 value) (entries f l n ++ entry_bytes (f n) (l n)) ≡ entries f m n ++ entry_bytes (f n) (m n)
    go true e below =
        let same : p ≡ n = eqb-true p n e in
        ap (put (field (p * 8 + 4) 4 value)) ends
        ∙ put_seam (entries f l n ++ little_endian 4 (f n)) (little_endian 4 (l n)) [] (p * 8 + 4) 4 value (omega (arith, seam)) (length_little 4 (l n))
        ∙ rw (append-nil (little_endian 4 value), entries_same f f l m n (λ q k. refl) (λ q k. sym (other q (λ d. omega arith))), ← here, same)
        (append_assoc (entries f m n) (little_endian 4 (f n)) (little_endian 4 (m n)))
    go false e below =
        let apart : p ≡ n → ⊥ = eqb-false p n e in
        let less : p < n = omega arith in
        put_left (field (p * 8 + 4) 4 value) (entries f l n) (entry_bytes (f n) (l n)) (omega (arith, length-entries f l n))
        ∙ rw (below less, other n (λ d. omega arith))

-- ---- and read back

module _ (f l : ℕ → ℕ) (p : ℕ) where
  holds_offset : (n : ℕ) (rest : List ℕ) → p < n → Holds (field (p * 8) 4 (f p)) (entries f l n ++ rest)
  unfolding entries
  holds_offset zero rest h = absurd (omega arith)
  holds_offset (suc n) rest h = go (eqb p n) refl (holds_offset n (entry_bytes (f n) (l n) ++ rest))
    where
      go : (b : Bool) → eqb p n ≡ b → (p < n → Holds (field (p * 8) 4 (f p)) (entries f l n ++ (entry_bytes (f n) (l n) ++ rest)))
          → Holds (field (p * 8) 4 (f p)) (entries f l n ++ entry_bytes (f n) (l n) ++ rest)
      go true e below =
          let same : p ≡ n = eqb-true p n e in
          rw (append_assoc (entries f l n) (entry_bytes (f n) (l n)) rest, append_assoc (little_endian 4 (f n)) (little_endian 4 (l n)) rest, same)
          (holds_seam (entries f l n) (little_endian 4 (l n) ++ rest) (n * 8) 4 (f n) (length-entries f l n))
      go false e below =
          let apart : p ≡ n → ⊥ = eqb-false p n e in
          rw (append_assoc (entries f l n) (entry_bytes (f n) (l n)) rest) (below (omega arith))

  holds_long : (n : ℕ) (rest : List ℕ) → p < n → Holds (field (p * 8 + 4) 4 (l p)) (entries f l n ++ rest)
  unfolding entries
  holds_long zero rest h = absurd (omega arith)
  holds_long (suc n) rest h = go (eqb p n) refl (holds_long n (entry_bytes (f n) (l n) ++ rest))
    where
      seam : length (entries f l n ++ little_endian 4 (f n)) ≡ n * 8 + 4
      seam = omega (arith, length-append (entries f l n) (little_endian 4 (f n)), length-entries f l n, length_little 4 (f n))

      ends : entries f l n ++ entry_bytes (f n) (l n) ++ rest ≡ entries f l n ++ little_endian 4 (f n) ++ (little_endian 4 (l n) ++ rest)
      ends =
          ap (λ (x : List ℕ). x ++ rest) (sym (append_assoc (entries f l n) (little_endian 4 (f n)) (little_endian 4 (l n))))
          ∙ append_assoc (entries f l n ++ little_endian 4 (f n)) (little_endian 4 (l n)) rest

      go : (b : Bool) → eqb p n ≡ b → (p < n → Holds (field (p * 8 + 4) 4 (l p)) (entries f l n ++ (entry_bytes (f n) (l n) ++ rest)))
          → Holds (field (p * 8 + 4) 4 (l p)) (entries f l n ++ entry_bytes (f n) (l n) ++ rest)
      go true e below =
          let same : p ≡ n = eqb-true p n e in
          rw (ends, same) (holds_seam (entries f l n ++ little_endian 4 (f n)) rest (n * 8 + 4) 4 (l n) seam)
      go false e below =
          let apart : p ≡ n → ⊥ = eqb-false p n e in
          rw (append_assoc (entries f l n) (entry_bytes (f n) (l n)) rest) (below (omega arith))

  pub read_offset : (n : ℕ) (rest : List ℕ) → p < n → f p < 0x1_0000_0000 → u32_at (entries f l n ++ rest) (p * 8) ≡ f p
  read_offset n rest h small = u32_read (entries f l n ++ rest) (p * 8) (f p) (holds_offset n rest h) small

  pub read_long : (n : ℕ) (rest : List ℕ) → p < n → l p < 0x1_0000_0000 → u32_at (entries f l n ++ rest) (p * 8 + 4) ≡ l p
  read_long n rest h small = u32_read (entries f l n ++ rest) (p * 8 + 4) (l p) (holds_long n rest h) small
