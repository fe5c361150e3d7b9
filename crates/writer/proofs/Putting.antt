-- Laws of putting fields in, for the code: the low bytes of a number are its field; fields that lie apart may be put in either order.
use Rattle.std.specs.Int.{w32, to_le_bytes}
use Prim.Native.Nat.{ℕ, zero, suc, ◌+◌, ◌-◌, ◌/◌, ◌≤◌}
use mathlib.Core.Path.{◌≡◌, refl, sym, ap, ◌∙◌}
use mathlib.Core.List.{List, [], ◌∷◌, ◌++◌, append_assoc}
use native.Mathlib.Omega.{arith}
use lib.ListN.{length, take, drop, take-append-drop}
use lib.Seq.{take_all, drop-drop, length-take-le, take-append-le, drop-append-le, take-append-add, drop-append-add}
use borrow.Rule.Slice.PartMut.{put_mid}
use Rattle.writer.specs.Fields.{Field, little_endian, put, puts}
use Rattle.writer.specs.TileWritten.{field}
use Rattle.writer.proofs.FieldLaws.{end, Rising, rising_le, length_little, length-put}

-- ---- the low bytes of a number

low_bytes : (w n : ℕ) → w ≤ 4 → take w (to_le_bytes w32 n) ≡ little_endian w n
unfolding little_endian
low_bytes zero n h = refl
low_bytes (suc zero) n h = refl
low_bytes (suc (suc zero)) n h = refl
low_bytes (suc (suc (suc zero))) n h = let e : n / 256 / 256 ≡ n / 65536 = omega arith in rw e
low_bytes (suc (suc (suc (suc zero)))) n h =
    let e : n / 256 / 256 ≡ n / 65536 = omega arith in
    let f : n / 65536 / 256 ≡ n / 16777216 = omega arith in
    rw (e, f)
low_bytes (suc (suc (suc (suc (suc w))))) n h = absurd (omega arith)

pub put_low : (bs new : List ℕ) (at w value : ℕ) → w ≤ 4 → new ≡ take w (to_le_bytes w32 value) → put_mid at (at + w - at) bs new ≡ put (field at w value) bs
unfolding put
put_low bs new at w value h e =
    let low : List ℕ = little_endian w value in
    let is : new ≡ low = e ∙ low_bytes w value h in
    let all : take w low ≡ low = take_all w low (omega (arith, length_little w value)) in
    let wide : at + w - at ≡ w = omega arith in
    rw (is, wide, drop-drop w at bs, all) (sym (append_assoc (take at bs) low (drop (at + w) bs)))

-- ---- fields that lie apart

pub put_left : (f : Field) (xs ys : List ℕ) → end f ≤ length xs → put f (xs ++ ys) ≡ put f xs ++ ys
unfolding put
put_left f xs ys h =
    let starts : f.at ≤ length xs = omega arith in
    let bytes : List ℕ = take f.width (little_endian f.width f.value) in
    rw (take-append-le f.at xs ys starts, drop-append-le (end f) xs ys h)
    (sym (append_assoc (take f.at xs ++ bytes) (drop (end f) xs) ys))

abbrev back : ℕ → Field → Field
back n f = record { at = f.at - n; width = f.width; value = f.value }

put_right : (f : Field) (xs ys : List ℕ) → length xs ≤ f.at → put f (xs ++ ys) ≡ xs ++ put (back (length xs) f) ys
unfolding put
put_right f xs ys h =
    let o : ℕ = f.at - length xs in
    let e : f.at ≡ length xs + o = omega arith in
    let e2 : end f ≡ length xs + (o + f.width) = omega arith in
    let bytes : List ℕ = take f.width (little_endian f.width f.value) in
    ap (λ (n : ℕ). take n (xs ++ ys) ++ bytes ++ drop (end f) (xs ++ ys)) e
    ∙ ap (λ (zs : List ℕ). zs ++ bytes ++ drop (end f) (xs ++ ys)) (take-append-add xs ys o)
    ∙ ap (λ (n : ℕ). (xs ++ take o ys) ++ bytes ++ drop n (xs ++ ys)) e2
    ∙ ap (λ (zs : List ℕ). (xs ++ take o ys) ++ bytes ++ zs) (drop-append-add xs ys (o + f.width))
    ∙ ap (λ (zs : List ℕ). zs ++ drop (o + f.width) ys) (append_assoc xs (take o ys) bytes)
    ∙ append_assoc xs (take o ys ++ bytes) (drop (o + f.width) ys)

put_swap : (f g : Field) (bs : List ℕ) → end f ≤ g.at → end g ≤ length bs → put f (put g bs) ≡ put g (put f bs)
put_swap f g bs apart fits =
    let xs : List ℕ = take (end f) bs in
    let ys : List ℕ = drop (end f) bs in
    let size : length xs ≡ end f = length-take-le (end f) bs (omega arith) in
    let same : length (put f xs) ≡ length xs = length-put f xs (omega (arith, size)) in
    ap (λ (zs : List ℕ). put f (put g zs)) (sym (take-append-drop (end f) bs))
    ∙ ap (λ (zs : List ℕ). put f zs) (put_right g xs ys (omega (arith, size)))
    ∙ put_left f xs (put (back (length xs) g) ys) (omega (arith, size))
    ∙ ap (λ (n : ℕ). put f xs ++ put (back n g) ys) (sym same)
    ∙ sym (put_right g (put f xs) ys (omega (arith, size, same)))
    ∙ ap (λ (zs : List ℕ). put g zs) (sym (put_left f xs ys (omega (arith, size))))
    ∙ ap (λ (zs : List ℕ). put g (put f zs)) (take-append-drop (end f) bs)

put_past : (f : Field) (low high : ℕ) (gs : List Field) (bs : List ℕ) → end f ≤ low → Rising low gs high → high ≤ length bs
    → put f (puts gs bs) ≡ puts gs (put f bs)
unfolding puts
put_past f low high [] bs apart r h = refl
put_past f low high (g ∷ gs) bs apart r h =
    let fits : end g ≤ length bs = omega (arith, rising_le (end g) high gs r.1) in
    put_past f (end g) high gs (put g bs) (omega arith) r.1 (omega (arith, length-put g bs fits))
    ∙ ap (λ (zs : List ℕ). puts gs zs) (put_swap f g bs (omega arith) fits)

pub puts_swap : (less low high : ℕ) (fs gs : List Field) (bs : List ℕ) → Rising less fs low → Rising low gs high → high ≤ length bs
    → puts fs (puts gs bs) ≡ puts gs (puts fs bs)
unfolding puts
puts_swap less low high [] gs bs q r h = refl
puts_swap less low high (f ∷ fs) gs bs q r h =
    let mid : end f ≤ low = rising_le (end f) low fs q.1 in
    let fits : end f ≤ length bs = omega (arith, rising_le low high gs r) in
    ap (λ (zs : List ℕ). puts fs zs) (put_past f low high gs bs mid r h)
    ∙ puts_swap (end f) low high fs gs (put f bs) q.1 r (omega (arith, length-put f bs fits))
