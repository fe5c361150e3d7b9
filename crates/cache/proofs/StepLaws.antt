-- What a step of a load reads: a chunk is part of what is left of the tile (`chunk_less`), the eight bytes of an entry as an array are read
-- as they are from the answer (`locate_read`), and a range of a lent pack is there or passes its end (`read_there`, `read_part`,
-- `read_past`).
use Rattle.std.specs.Prelude.{Option, Result, Ok, Err}
use Rattle.refusal.specs.declared.Refusal.{Refusal}
use Rattle.std.proofs.Common.{◌≡◌, ℕ, ◌+◌, ◌-◌, ◌≤◌, Bool, true, false, cond, ltb, leb, List, length, take, drop, refl, ap, ◌∙◌, arith, ltb-false, le-leb}
use Rattle.pack.specs.Bytes.{u16_at, u32_at}
use Rattle.pack.specs.Grid.{locate_of, read}
use Rattle.pack.specs.declared.Header.{Header}
use Rattle.pack.proofs.Laws.{read_at}
use Rattle.cache.specs.declared.Loading.{Loading}
use Rattle.cache.specs.Loads.{chunk_len, entry_bytes, pack_bytes}

-- ---- a chunk

pub chunk_less : (l : Loading) → chunk_len l ≤ l.len - l.done
unfolding chunk_len
chunk_less l = go (ltb left 2048) refl
  where
    left : ℕ
    left = l.len - l.done

    go : (t : Bool) → ltb left 2048 ≡ t → cond t left 2048 ≤ left
    go true e = omega arith
    go false e = omega (arith, ltb-false left 2048 e)

-- ---- a directory entry

locate_entry : (h : Header) (bs : List ℕ) → locate_of h (entry_bytes bs) ≡ locate_of h bs
unfolding locate_of u32_at u16_at
locate_entry h bs = refl

pub locate_read :
    (h : Header) (bs : List ℕ) {entry : List ℕ} {at : Result (Option (ℕ × ℕ)) Refusal} → entry ≡ entry_bytes bs → at ≡ locate_of h entry → at ≡ locate_of h bs
locate_read h bs e q = q ∙ ap (locate_of h) e ∙ locate_entry h bs

-- ---- a range of a lent pack

module _ (pack : List ℕ) (offset n : ℕ) where
  pub read_there : {a : ℕ} → read pack offset n ≡ Ok a → leb (offset + n) (length pack) ≡ true
  read_there e = le-leb (offset + n) (length pack) (read_at pack offset n e).1

  -- the bytes as the code takes them
  pub read_part : {a : ℕ} → read pack offset n ≡ Ok a → take (a + n - a) (drop a pack) ≡ pack_bytes pack offset n
  read_part {a} e = let long : a + n - a ≡ n = omega arith in rw (long, (read_at pack offset n e).0)

  pub read_past : {m : Refusal} → read pack offset n ≡ Err m → leb (offset + n) (length pack) ≡ false
  unfolding read
  read_past {m} e = go (leb (offset + n) (length pack)) e
    where
      go : (t : Bool) → cond t (Ok offset) (Err Refusal.PastPack) ≡ Err m → t ≡ false
      go true q = let z : ◌≡◌ {A = ℕ} 0 1 = cc in absurd (omega arith)
      go false q = refl
