-- The rule of the table, at all of its 128 entries by one test that antt computes: the bits of each are the remainder for its place.
use Prim.Native.Nat.{ℕ, ◌+◌, ◌*◌, ◌/◌, ◌%◌}
use mathlib.Core.Path.{◌≡◌, refl, ap, ap₂, ◌∙◌}
use mathlib.Core.Bool.{Bool, true, false}
use mathlib.Core.List.{List, [], ◌∷◌}
use native.Mathlib.Omega.{arith}
use lib.Dec.{T}
use lib.ListN.{length, get_or}
use Rattle.crc.specs.Fcs.{add, lower, divide, remainder, zeros, bits}
use Rattle.crc.specs.Register.{half, Rule}
use Rattle.crc.proofs.Table.{every, at}

-- two lists of bits are the same
same : List Bool → List Bool → Bool
same [] [] = true
same [] (b ∷ q) = false
same (a ∷ p) [] = false
same (false ∷ p) (false ∷ q) = same p q
same (false ∷ p) (true ∷ q) = false
same (true ∷ p) (false ∷ q) = false
same (true ∷ p) (true ∷ q) = same p q

same-eq : (p q : List Bool) → T (same p q) → p ≡ q
unfolding same
same-eq [] [] t = refl
same-eq [] (b ∷ q) t = absurd t
same-eq (a ∷ p) [] t = absurd t
same-eq (false ∷ p) (false ∷ q) t = ap (λ (l : List Bool). false ∷ l) (same-eq p q t)
same-eq (false ∷ p) (true ∷ q) t = absurd t
same-eq (true ∷ p) (false ∷ q) t = absurd t
same-eq (true ∷ p) (true ∷ q) t = ap (λ (l : List Bool). true ∷ l) (same-eq p q t)

right : ℕ → ℕ → Bool
right i x = same (bits 32 x) (half (i / 16) (i % 16))

unfoldable pub table : List ℕ
table =
    0 ∷ 498536548 ∷ 997073096 ∷ 651767980 ∷ 1994146192 ∷ 1802195444 ∷ 1303535960 ∷ 1342533948 ∷
    3988292384 ∷ 4027552580 ∷ 3604390888 ∷ 3412177804 ∷ 2607071920 ∷ 2262029012 ∷ 2685067896 ∷ 3183342108 ∷
    0 ∷ 1996959894 ∷ 3993919788 ∷ 2567524794 ∷ 124634137 ∷ 1886057615 ∷ 3915621685 ∷ 2657392035 ∷
    249268274 ∷ 2044508324 ∷ 3772115230 ∷ 2547177864 ∷ 162941995 ∷ 2125561021 ∷ 3887607047 ∷ 2428444049 ∷
    0 ∷ 1254232657 ∷ 2508465314 ∷ 3745920755 ∷ 4034481925 ∷ 3132841300 ∷ 1711106983 ∷ 792689142 ∷
    998479947 ∷ 1900120602 ∷ 2919742697 ∷ 3838160568 ∷ 3422213966 ∷ 2167981343 ∷ 1585378284 ∷ 347922877 ∷
    0 ∷ 421212481 ∷ 842424962 ∷ 724390851 ∷ 1684849924 ∷ 2105013317 ∷ 1448781702 ∷ 1329698503 ∷
    3369699848 ∷ 3519200073 ∷ 4210026634 ∷ 3824474571 ∷ 2897563404 ∷ 3048111693 ∷ 2659397006 ∷ 2274893007 ∷
    0 ∷ 472294256 ∷ 944588512 ∷ 611050896 ∷ 1889177024 ∷ 1824272048 ∷ 1222101792 ∷ 1425107024 ∷
    3778354048 ∷ 4245928176 ∷ 3648544096 ∷ 3311336976 ∷ 2444203584 ∷ 2374579504 ∷ 2850214048 ∷ 3049550800 ∷
    0 ∷ 29518391 ∷ 59036782 ∷ 38190681 ∷ 118073564 ∷ 114017003 ∷ 76381362 ∷ 89069189 ∷
    236147128 ∷ 265370511 ∷ 228034006 ∷ 206958561 ∷ 152762724 ∷ 148411219 ∷ 178138378 ∷ 190596925 ∷
    0 ∷ 1343838111 ∷ 2687676222 ∷ 4029413537 ∷ 2601801789 ∷ 3406630818 ∷ 992409347 ∷ 1799331996 ∷
    3982079547 ∷ 3175145892 ∷ 1298864389 ∷ 494030490 ∷ 1984818694 ∷ 643086745 ∷ 3598663992 ∷ 2254837415 ∷
    0 ∷ 3099354981 ∷ 2852767883 ∷ 313896942 ∷ 2405603159 ∷ 937357362 ∷ 627793884 ∷ 2648127673 ∷
    3316918511 ∷ 2097696650 ∷ 1874714724 ∷ 3607201537 ∷ 1255587768 ∷ 4067088605 ∷ 3772741427 ∷ 1482887254 ∷
    []

holds : T (every right 0 table)
unfolding right same bits half remainder divide add lower zeros table
holds = tt

table-length : length table ≡ 128
unfolding table
table-length = refl

pub rule : Rule table
unfolding Rule right
rule k x h l =
    let i : ℕ = k * 16 + x in
    let q : i / 16 ≡ k = omega arith in
    let m : i % 16 ≡ x = omega arith in
    same-eq (bits 32 (get_or table i 0)) (half (i / 16) (i % 16)) (at right table holds i (omega (arith, table-length))) ∙ ap₂ half q m
