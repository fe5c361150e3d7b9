-- Words of the message with no table. The generator divides x^300 + x^155 + x^117 + x^89 + 1, so a term of the dividend is as good as the four that are
-- 145, 183, 211 and 300 places behind it. At the end, parts of the message one after the other, and the word of which four octets are taken as zero.
use Prim.Native.Nat.{ℕ, zero, suc, ◌+◌, ◌-◌, ◌*◌, ◌/◌, ◌%◌, ◌^◌, ◌≤◌, ◌<◌}
use mathlib.Core.Path.{◌≡◌, refl, sym, ap, ap₂, ◌∙◌}
use mathlib.Core.Bool.{Bool, true, false}
use mathlib.Core.List.{List, [], ◌∷◌, ◌++◌, append_assoc, append-nil}
use native.Mathlib.Nat.{zero-add, suc-add, div-eq_of_lt}
use native.Mathlib.Omega.{arith}
use lib.ListN.{length, take, drop, replicate, length-append, length-drop, take-append-drop, replicate-append-replicate}
use lib.Seq.{drop-drop, length-take-le}
use lib.Bits.{bit_xor}
use lib.Pow.{shr-shr, shl-shr, pow_pos}
use Rattle.crc.specs.Fcs.{plus, add, lower, divide, zeros, bits, message, zeroed}
use Rattle.crc.specs.Register.{left, left_by, left_of, words, Takes, TakesWord, Turns, Spreads, SpreadsOn, Ends}
use Rattle.crc.specs.declared.Pending.{Pending}
use Rattle.crc.proofs.Laws.{add_comm, add_assoc, add-length, add-zeros, add_tail, add-append, add_more, zeros-length, linear, divide_more, divide-zeros, divide-append, divide-length, bits-length, bits_xor, bits_zero, bits_split, bits_low, bits_join, message-append, message-length}

-- ---- sums with zeros before them

plus_twice : (a b : Bool) → plus a (plus a b) ≡ b
plus_twice false b = refl
plus_twice true true = refl
plus_twice true false = refl

add_twice : (g p : List Bool) → length g ≤ length p → add g (add g p) ≡ p
unfolding add
add_twice [] p h = refl
add_twice (a ∷ g) [] h = absurd (omega arith)
add_twice (a ∷ g) (b ∷ p) h = ap₂ ◌∷◌ (plus_twice a b) (add_twice g p (omega arith))

add-nil : (p : List Bool) → add p [] ≡ p
unfolding add
add-nil p = add_comm p []

-- (a + b) + (c + e) = (a + c) + (b + e)
add_four : (a b c e : List Bool) → add (add a b) (add c e) ≡ add (add a c) (add b e)
add_four a b c e =
    add_assoc a b (add c e)
    ∙ ap (add a) (sym (add_assoc b c e) ∙ ap (λ (l : List Bool). add l e) (add_comm b c) ∙ add_assoc c b e)
    ∙ sym (add_assoc a c (add b e))

behind_add : (n : ℕ) (p q : List Bool) → zeros n ++ add p q ≡ add (zeros n ++ p) (zeros n ++ q)
unfolding add zeros
behind_add zero p q = refl
behind_add (suc n) p q = ap (λ (l : List Bool). false ∷ l) (behind_add n p q)

zeros-zeros : (n k : ℕ) → zeros n ++ zeros k ≡ zeros (n + k)
unfolding zeros
zeros-zeros n k = replicate-append-replicate n k false

behind_zeros : (n k : ℕ) (p : List Bool) → zeros n ++ (zeros k ++ p) ≡ zeros (n + k) ++ p
behind_zeros n k p = sym (append_assoc (zeros n) (zeros k) p) ∙ ap (λ (l : List Bool). l ++ p) (zeros-zeros n k)

-- ---- the four places

-- w at the places 81, 119, 147 and 236, and d more
unfoldable pub placed : ℕ → List Bool → List Bool
placed d w = add (zeros (81 + d) ++ w) (add (zeros (119 + d) ++ w) (add (zeros (147 + d) ++ w) (zeros (236 + d) ++ w)))

-- the multiple of the generator without its highest term
unfoldable pub sparse : List Bool
sparse = placed 63 (true ∷ [])

sparse-length : length sparse ≡ 300
unfolding sparse placed add zeros
sparse-length = refl

-- the generator divides it
sparse_left : divide 269 (true ∷ sparse) ≡ zeros 32
unfolding divide add lower zeros sparse placed
sparse_left = refl

sparse_none : (j : ℕ) → divide (j + 269) ((true ∷ sparse) ++ zeros j) ≡ zeros 32
sparse_none j =
    let w : j + 32 ≡ 32 + j = omega arith in
    divide_more j 269 ((true ∷ sparse) ++ zeros j)
    ∙ ap (divide j) (divide-append 269 (true ∷ sparse) (zeros j) (omega (arith, sparse-length)) ∙ ap (λ (l : List Bool). l ++ zeros j) sparse_left
    ∙ zeros-zeros 32 j ∙ ap zeros (sym w) ∙ sym (zeros-zeros j 32))
    ∙ divide-zeros j (zeros 32)

-- so it may be taken away in the generator's stead
taken_away : (k : ℕ) (p : List Bool) → length p ≡ k + 32 → 300 ≤ length p → divide (suc k) (true ∷ p) ≡ divide k (add sparse p)
unfolding divide add
taken_away k p e h =
    let j : ℕ = length p - 300 in
    let q : List Bool = add sparse p in
    let s : List Bool = true ∷ sparse in
    let lq : length q ≡ length p = add-length sparse p (omega (arith, sparse-length)) in
    let n : suc k ≡ j + 269 = omega arith in
    let ls : length (s ++ zeros j) ≡ 301 + j = length-append s (zeros j) ∙ ap₂ ◌+◌ (ap suc sparse-length) (zeros-length j) in
    let first : true ∷ p ≡ add (s ++ zeros j) (false ∷ q) =
    ap (λ (l : List Bool). true ∷ l) (sym (add_twice sparse p (omega (arith, sparse-length)))) ∙ sym (add_tail (false ∷ q) s j (omega (arith, sparse-length))) in
    ap (divide (suc k)) first
    ∙ linear (suc k) (s ++ zeros j) (false ∷ q) (omega arith) (omega arith)
    ∙ ap (λ (l : List Bool). add l (divide k q)) (ap (λ (i : ℕ). divide i (s ++ zeros j)) n ∙ sparse_none j)
    ∙ add-zeros 32 (divide k q) (omega (arith, divide-length k q (omega arith)))

placed-length : (d : ℕ) (w : List Bool) → length (placed d w) ≡ 236 + d + length w
unfolding placed
placed-length d w =
    let l : (k : ℕ) → length (zeros k ++ w) ≡ k + length w = λ k. length-append (zeros k) w ∙ ap (λ (i : ℕ). i + length w) (zeros-length k) in
    let l1 : length (zeros (81 + d) ++ w) ≡ 81 + d + length w = l (81 + d) in
    let l2 : length (zeros (119 + d) ++ w) ≡ 119 + d + length w = l (119 + d) in
    let l3 : length (zeros (147 + d) ++ w) ≡ 147 + d + length w = l (147 + d) in
    let l4 : length (zeros (236 + d) ++ w) ≡ 236 + d + length w = l (236 + d) in
    let s3 : length (add (zeros (147 + d) ++ w) (zeros (236 + d) ++ w)) ≡ 236 + d + length w = add-length _ _ (omega arith) ∙ l4 in
    let s2 : length (add (zeros (119 + d) ++ w) (add (zeros (147 + d) ++ w) (zeros (236 + d) ++ w))) ≡ 236 + d + length w = add-length _ _ (omega arith) ∙ s3 in
    add-length (zeros (81 + d) ++ w) _ (omega arith) ∙ s2

placed_behind : (n d : ℕ) (w : List Bool) → zeros n ++ placed d w ≡ placed (n + d) w
unfolding placed
placed_behind n d w =
    let one : (k : ℕ) → zeros n ++ (zeros (k + d) ++ w) ≡ zeros (k + (n + d)) ++ w
    = λ k. behind_zeros n (k + d) w ∙ ap (λ (i : ℕ). zeros i ++ w) (omega arith) in
    behind_add n _ _
    ∙ ap₂ add (one 81) (behind_add n _ _ ∙ ap₂ add (one 119) (behind_add n _ _ ∙ ap₂ add (one 147) (one 236)))

placed-add : (d : ℕ) (u v : List Bool) → placed d (add u v) ≡ add (placed d u) (placed d v)
unfolding placed
placed-add d u v =
    let one : (k : ℕ) → zeros (k + d) ++ add u v ≡ add (zeros (k + d) ++ u) (zeros (k + d) ++ v) = λ k. behind_add (k + d) u v in
    ap₂ add (one 81) (ap₂ add (one 119) (ap₂ add (one 147) (one 236) ∙ add_four _ _ _ _) ∙ add_four _ _ _ _) ∙ add_four _ _ _ _

one_more : (k d : ℕ) (w : List Bool) → zeros (k + d) ++ (false ∷ w) ≡ zeros (k + suc d) ++ w
unfolding zeros
one_more k d w =
    let n : k + d + 1 ≡ k + suc d = omega arith in
    behind_zeros (k + d) 1 w ∙ ap (λ (i : ℕ). zeros i ++ w) n

placed-false : (d : ℕ) (w : List Bool) → placed d (false ∷ w) ≡ placed (suc d) w
unfolding placed
placed-false d w =
    let one : (k : ℕ) → zeros (k + d) ++ (false ∷ w) ≡ zeros (k + suc d) ++ w = λ k. one_more k d w in
    ap₂ add (one 81) (ap₂ add (one 119) (ap₂ add (one 147) (one 236)))

placed-true : (d : ℕ) (w : List Bool) → placed d (true ∷ w) ≡ add (placed (suc d) w) (placed d (true ∷ []))
unfolding add
placed-true d w =
    ap (λ (l : List Bool). placed d (true ∷ l)) (sym (add-nil w))
    ∙ placed-add d (false ∷ w) (true ∷ [])
    ∙ ap (λ (l : List Bool). add l (placed d (true ∷ []))) (placed-false d w)

-- the sum of five, one after the other
add_five : (a b c e y : List Bool) → add (add a (add b (add c e))) y ≡ add a (add b (add c (add e y)))
add_five a b c e y =
    add_assoc a (add b (add c e)) y ∙ ap (add a) (add_assoc b (add c e) y ∙ ap (add b) (add_assoc c e y))

placed-nil : (d : ℕ) (y : List Bool) → 236 + d ≤ length y → add (placed d []) y ≡ y
unfolding placed
placed-nil d y h =
    let one : (k : ℕ) → k + d ≤ length y → add (zeros (k + d) ++ []) y ≡ y
    = λ k l. ap (λ (p : List Bool). add p y) (append-nil (zeros (k + d))) ∙ add-zeros (k + d) y l in
    let a : List Bool = zeros (81 + d) ++ [] in
    let b : List Bool = zeros (119 + d) ++ [] in
    let c : List Bool = zeros (147 + d) ++ [] in
    add_five a b c (zeros (236 + d) ++ []) y
    ∙ ap (λ (l : List Bool). add a (add b (add c l))) (one 236 h)
    ∙ ap (λ (l : List Bool). add a (add b l)) (one 147 (omega arith))
    ∙ ap (add a) (one 119 (omega arith))
    ∙ one 81 (omega arith)

sparse_behind : (n d : ℕ) → 63 ≡ n + d → sparse ≡ zeros n ++ placed d (true ∷ [])
unfolding sparse
sparse_behind n d e = ap (λ (i : ℕ). placed i (true ∷ [])) e ∙ sym (placed_behind n d (true ∷ []))

-- the bits w before y are taken away, and stand at the four places of y
pub word_away : (d k : ℕ) (w y : List Bool) → d + length w ≡ 64 → length y ≡ k + 32 → 300 ≤ length y → divide (length w + k) (w ++ y) ≡ divide k (add (placed d w) y)
unfolding divide
word_away d k [] y e l h = ap (λ (i : ℕ). divide i y) (zero-add k) ∙ ap (divide k) (sym (placed-nil d y (omega arith)))
word_away d k (false ∷ w) y e l h =
    ap (λ (i : ℕ). divide i (false ∷ (w ++ y))) (suc-add (length w) k)
    ∙ word_away (suc d) k w y (omega arith) l h
    ∙ ap (λ (p : List Bool). divide k (add p y)) (sym (placed-false d w))
word_away d k (true ∷ w) y e l h =
    let n : ℕ = length w in
    let one : List Bool = placed d (true ∷ []) in
    let s : sparse ≡ zeros n ++ one = sparse_behind n d (omega arith) in
    let lo : length one ≡ 236 + d + 1 = placed-length d (true ∷ []) in
    let ly : length (add one y) ≡ length y = add-length one y (omega arith) in
    let lw : length (w ++ y) ≡ n + length y = length-append w y in
    ap (λ (i : ℕ). divide i (true ∷ (w ++ y))) (suc-add n k)
    ∙ taken_away (n + k) (w ++ y) (omega arith) (omega arith)
    ∙ ap (divide (n + k))
    (ap (λ (p : List Bool). add p (w ++ y)) s
    ∙ add-append (zeros n) w one y (zeros-length n)
    ∙ ap (λ (p : List Bool). p ++ add one y) (add-zeros n w (omega arith)))
    ∙ word_away (suc d) k w (add one y) (omega arith) (ly ∙ l) (omega arith)
    ∙ ap (divide k) (sym (add_assoc (placed (suc d) w) one y) ∙ ap (λ (p : List Bool). add p y) (sym (placed-true d w)))

-- ---- sums of words

unfoldable pub xors : List ℕ → List ℕ → List ℕ
xors [] ys = ys
xors (x ∷ xs) [] = x ∷ xs
xors (x ∷ xs) (y ∷ ys) = bit_xor x y ∷ xors xs ys

words-add : (xs ys : List ℕ) → add (words xs) (words ys) ≡ words (xors xs ys)
unfolding words xors add
words-add [] ys = refl
words-add (x ∷ xs) [] = add-nil (bits 64 x ++ words xs)
words-add (x ∷ xs) (y ∷ ys) =
    add-append (bits 64 x) (bits 64 y) (words xs) (words ys) (bits-length 64 x ∙ sym (bits-length 64 y))
    ∙ ap₂ ◌++◌ (sym (bits_xor 64 x y)) (words-add xs ys)

pub words-length : (xs : List ℕ) → length (words xs) ≡ 64 * length xs
unfolding words
words-length [] = refl
words-length (x ∷ xs) = omega (arith, length-append (bits 64 x) (words xs), bits-length 64 x, words-length xs)

-- ---- a word that lies across two

-- j zeros before a number's bits
bits_shl : (n j w : ℕ) → bits (n + j) (w * 2 ^ j) ≡ zeros j ++ bits n w
bits_shl n j w =
    ap (bits (n + j)) (sym (zero-add (w * 2 ^ j))) ∙ bits_join n j 0 w (pow_pos j) ∙ ap (λ (l : List Bool). l ++ bits n w) (bits_zero j)

across : (i j w : ℕ) → i + j ≡ 64 → w < 2 ^ 64 → zeros j ++ (bits 64 w ++ zeros i) ≡ bits 64 (w * 2 ^ j % 2 ^ 64) ++ bits 64 (w / 2 ^ i)
across i j w e h =
    let x : ℕ = w * 2 ^ j in
    let n : (i + 64) + j ≡ 64 + 64 = omega arith in
    let k : 64 ≡ j + i = omega arith in
    let z : bits i (w / 2 ^ 64) ≡ zeros i = ap (bits i) (div-eq_of_lt h) ∙ bits_zero i in
    let above : x / 2 ^ 64 ≡ w / 2 ^ i = ap (λ (l : ℕ). x / 2 ^ l) k ∙ sym (shr-shr x j i) ∙ ap (λ (l : ℕ). l / 2 ^ i) (shl-shr w j) in
    ap (λ (l : List Bool). zeros j ++ l) (ap (λ (l : List Bool). bits 64 w ++ l) (sym z) ∙ sym (bits_split i 64 w))
    ∙ sym (bits_shl (i + 64) j w)
    ∙ ap (λ (l : ℕ). bits l x) n
    ∙ bits_split 64 64 x
    ∙ ap₂ ◌++◌ (sym (bits_low 64 x)) (ap (bits 64) above)

-- q words of zero before others
unfoldable pub pads : ℕ → List ℕ → List ℕ
pads zero xs = xs
pads (suc q) xs = 0 ∷ pads q xs

words_behind : (q j : ℕ) (p : List Bool) (xs : List ℕ) → zeros j ++ p ≡ words xs → zeros (64 * q + j) ++ p ≡ words (pads q xs)
unfolding words pads
words_behind zero j p xs e =
    let n : 64 * zero + j ≡ j = omega arith in
    ap (λ (i : ℕ). zeros i ++ p) n ∙ e
words_behind (suc q) j p xs e =
    let n : 64 * suc q + j ≡ 64 + (64 * q + j) = omega arith in
    ap (λ (i : ℕ). zeros i ++ p) n
    ∙ sym (behind_zeros 64 (64 * q + j) p)
    ∙ ap₂ ◌++◌ (sym (bits_zero 64)) (words_behind q j p xs e)

-- the number w, j places into the word after q others, is added to words
placed_word : (q i j w : ℕ) (zs : List ℕ) (y : List Bool) → i + j ≡ 64 → w < 2 ^ 64 → 64 * q + 128 ≤ length y → 64 * length zs ≤ length y
    → add (zeros (64 * q + j) ++ bits 64 w) (add (words zs) y) ≡ add (words (xors (pads q (w * 2 ^ j % 2 ^ 64 ∷ w / 2 ^ i ∷ [])) zs)) y
unfolding words
placed_word q i j w zs y e h l n =
    let p : List Bool = zeros (64 * q + j) ++ bits 64 w in
    let xs : List ℕ = w * 2 ^ j % 2 ^ 64 ∷ w / 2 ^ i ∷ [] in
    let lp : length p ≡ 64 * q + j + 64 = length-append (zeros (64 * q + j)) (bits 64 w) ∙ ap₂ ◌+◌ (zeros-length (64 * q + j)) (bits-length 64 w) in
    let ly : length (add (words zs) y) ≡ length y = add-length (words zs) y (omega (arith, words-length zs)) in
    let two : zeros j ++ (bits 64 w ++ zeros i) ≡ words xs = across i j w e h ∙ ap (λ (b : List Bool). bits 64 (w * 2 ^ j % 2 ^ 64) ++ b) (sym (append-nil (bits 64 (w / 2 ^ i)))) in
    let long : p ++ zeros i ≡ words (pads q xs) =
    append_assoc (zeros (64 * q + j)) (bits 64 w) (zeros i) ∙ words_behind q j (bits 64 w ++ zeros i) xs two in
    sym (add_tail (add (words zs) y) p i (omega arith))
    ∙ ap (λ (b : List Bool). add b (add (words zs) y)) long
    ∙ sym (add_assoc (words (pads q xs)) (words zs) y)
    ∙ ap (λ (b : List Bool). add b y) (words-add (pads q xs) zs)

-- what is pending after the word w, of the four words that were pending behind it
unfoldable pub turned_words : ℕ → ℕ → ℕ → ℕ → ℕ → List ℕ
turned_words w b c d e =
    b
    ∷ bit_xor (w * 2 ^ 17 % 2 ^ 64) (bit_xor (w * 2 ^ 55 % 2 ^ 64) c)
    ∷ bit_xor (w / 2 ^ 47) (bit_xor (w / 2 ^ 9) (bit_xor (w * 2 ^ 19 % 2 ^ 64) d))
    ∷ bit_xor (w / 2 ^ 45) (bit_xor (w * 2 ^ 44 % 2 ^ 64) e)
    ∷ w / 2 ^ 20
    ∷ []

-- the four places together
all_placed : (w b c d e : ℕ) (y : List Bool) → w < 2 ^ 64 → 320 ≤ length y
    → add (placed 0 (bits 64 w)) (add (words (b ∷ c ∷ d ∷ e ∷ [])) y)
    ≡ add (words (turned_words w b c d e)) y
unfolding placed turned_words xors pads
all_placed w b c d e y h l =
    let at17 : List Bool = zeros 81 ++ bits 64 w in
    let at55 : List Bool = zeros 119 ++ bits 64 w in
    let at19 : List Bool = zeros 147 ++ bits 64 w in
    add_five at17 at55 at19 (zeros 236 ++ bits 64 w) (add (words (b ∷ c ∷ d ∷ e ∷ [])) y)
    ∙ ap (λ (p : List Bool). add at17 (add at55 (add at19 p))) (placed_word 3 20 44 w (b ∷ c ∷ d ∷ e ∷ []) y refl h (omega arith) (omega arith))
    ∙ ap (λ (p : List Bool). add at17 (add at55 p)) (placed_word 2 45 19 w _ y refl h (omega arith) (omega arith))
    ∙ ap (add at17) (placed_word 1 9 55 w _ y refl h (omega arith) (omega arith))
    ∙ placed_word 1 47 17 w _ y refl h (omega arith) (omega arith)

-- a word more
pub word_turned : (a b c d e x : ℕ) (m : List Bool) → bit_xor a x < 2 ^ 64 → 320 ≤ length m
    → left_by (turned_words (bit_xor a x) b c d e) m ≡ left_by (a ∷ b ∷ c ∷ d ∷ e ∷ []) (bits 64 x ++ m)
unfolding left_by words
word_turned a b c d e x m h l =
    let w : ℕ = bit_xor a x in
    let rest : List ℕ = b ∷ c ∷ d ∷ e ∷ [] in
    let y : List Bool = m ++ zeros 32 in
    let ly : length y ≡ length m + 32 = length-append m (zeros 32) ∙ ap (λ (k : ℕ). length m + k) (zeros-length 32) in
    let lz : length (add (words rest) y) ≡ length y = add-length (words rest) y (omega (arith, words-length rest)) in
    let n : length (bits 64 x ++ m) ≡ length (bits 64 w) + length m = length-append (bits 64 x) m ∙ ap (λ (k : ℕ). k + length m) (bits-length 64 x ∙ sym (bits-length 64 w)) in
    let first : add (words (a ∷ rest)) ((bits 64 x ++ m) ++ zeros 32) ≡ bits 64 w ++ add (words rest) y =
    ap (add (words (a ∷ rest))) (append_assoc (bits 64 x) m (zeros 32))
    ∙ add-append (bits 64 a) (bits 64 x) (words rest) y (bits-length 64 a ∙ sym (bits-length 64 x))
    ∙ ap (λ (p : List Bool). p ++ add (words rest) y) (sym (bits_xor 64 a x)) in
    sym
    (ap₂ divide n first
    ∙ word_away 0 (length m) (bits 64 w) (add (words rest) y) (zero-add (length (bits 64 w)) ∙ bits-length 64 w) (lz ∙ ly) (omega arith)
    ∙ ap (divide (length m)) (all_placed w b c d e y h (omega arith)))

no_words : words (0 ∷ 0 ∷ 0 ∷ 0 ∷ []) ≡ zeros 256
unfolding words bits zeros
no_words = refl

one_word : (k : ℕ) → k < 2 ^ 32 → words (k ∷ 0 ∷ 0 ∷ 0 ∷ 0 ∷ []) ≡ bits 32 k ++ zeros 288
unfolding words
one_word k n =
    ap₂ ◌++◌ (bits_split 32 32 k ∙ ap (λ (p : List Bool). bits 32 k ++ p) (ap (bits 32) (div-eq_of_lt n) ∙ bits_zero 32)) no_words
    ∙ append_assoc (bits 32 k) (zeros 32) (zeros 256)
    ∙ ap (λ (p : List Bool). bits 32 k ++ p) (zeros-zeros 32 256)

-- before the first word, the register's 32 bits stand in it
pub words_start : (c : ℕ) (m : List Bool) → c < 2 ^ 32 → 320 ≤ length m → left_by (c ∷ 0 ∷ 0 ∷ 0 ∷ 0 ∷ []) m ≡ left c m
unfolding left_by left
words_start c m h l =
    ap (λ (p : List Bool). divide (length m) (add p (m ++ zeros 32))) (one_word c h)
    ∙ ap (divide (length m)) (add_tail (m ++ zeros 32) (bits 32 c) 288 (omega (arith, bits-length 32 c, length-append m (zeros 32))))

xors-length : (ns xs : List ℕ) → length ns ≡ length xs → length (xors ns xs) ≡ length xs
unfolding xors
xors-length [] xs h = refl
xors-length (n ∷ ns) [] h = absurd (omega arith)
xors-length (n ∷ ns) (x ∷ xs) h = ap suc (xors-length ns xs (omega arith))

-- words that stand under as many of the message are added to them
pub words_end : (ns xs : List ℕ) (m : List Bool) → length ns ≡ length xs → left_by ns (words xs ++ m) ≡ left 0 (words (xors ns xs) ++ m)
unfolding left_by left
words_end ns xs m e =
    let n : length (words xs ++ m) ≡ length (words (xors ns xs) ++ m) = omega (
      arith,
      length-append (words xs) m,
      length-append (words (xors ns xs)) m,
      words-length xs,
      words-length (xors ns xs),
      xors-length ns xs e,
    ) in
    ap₂ divide n
    (ap (add (words ns)) (append_assoc (words xs) m (zeros 32))
    ∙ add_more (words ns) (words xs) (m ++ zeros 32) (omega (arith, words-length ns, words-length xs))
    ∙ ap (λ (p : List Bool). p ++ (m ++ zeros 32)) (words-add ns xs)
    ∙ sym (append_assoc (words (xors ns xs)) m (zeros 32))
    ∙ sym (ap (λ (p : List Bool). add p ((words (xors ns xs) ++ m) ++ zeros 32)) (bits_zero 32)
    ∙ add-zeros 32 ((words (xors ns xs) ++ m) ++ zeros 32) (omega (arith, length-append (words (xors ns xs) ++ m) (zeros 32), zeros-length 32))))

five_front : (a b c d e : ℕ) (l : List Bool) → words (a ∷ b ∷ c ∷ d ∷ e ∷ []) ++ l ≡ bits 64 a ++ (bits 64 b ++ (bits 64 c ++ (bits 64 d ++ (bits 64 e ++ l))))
unfolding words
five_front a b c d e l =
    append_assoc (bits 64 a) _ l
    ∙ ap (λ (m : List Bool). bits 64 a ++ m)
    (append_assoc (bits 64 b) _ l
    ∙ ap (λ (m : List Bool). bits 64 b ++ m)
    (append_assoc (bits 64 c) _ l
    ∙ ap (λ (m : List Bool). bits 64 c ++ m)
    (append_assoc (bits 64 d) _ l ∙ ap (λ (m : List Bool). bits 64 d ++ m) (append_assoc (bits 64 e) [] l))))

-- eight octets of a message are a word
word_front : (i x : ℕ) (os : List ℕ) → bits 64 x ≡ message (take 8 (drop i os)) → message (drop i os) ≡ bits 64 x ++ message (drop (i + 8) os)
word_front i x os e =
    ap message (sym (take-append-drop 8 (drop i os)))
    ∙ message-append (take 8 (drop i os)) (drop 8 (drop i os))
    ∙ ap₂ ◌++◌ (sym e) (ap message (drop-drop 8 i os))

pub five_words : (v w x y z : ℕ) (os : List ℕ) → bits 64 v ≡ message (take 8 os) → bits 64 w ≡ message (take 8 (drop 8 os)) → bits 64 x ≡ message (take 8 (drop 16 os))
    → bits 64 y ≡ message (take 8 (drop 24 os)) → bits 64 z ≡ message (take 8 (drop 32 os)) → message os ≡ words (v ∷ w ∷ x ∷ y ∷ z ∷ []) ++ message (drop 40 os)
five_words v w x y z os e f g h i =
    word_front 0 v os e
    ∙ ap (λ (l : List Bool). bits 64 v ++ l)
    (word_front 8 w os f
    ∙ ap (λ (l : List Bool). bits 64 w ++ l)
    (word_front 16 x os g
    ∙ ap (λ (l : List Bool). bits 64 x ++ l)
    (word_front 24 y os h ∙ ap (λ (l : List Bool). bits 64 y ++ l) (word_front 32 z os i))))
    ∙ sym (five_front v w x y z (message (drop 40 os)))

-- the register after five words to which others are added, and after the octets behind them
pub words_taken : (a b c d e v w x y z p q r s t u : ℕ) (os rest : List ℕ) → message os ≡ words (v ∷ w ∷ x ∷ y ∷ z ∷ []) ++ message rest
    → TakesWord 0 (bit_xor a v) p → TakesWord p (bit_xor b w) q → TakesWord q (bit_xor c x) r → TakesWord r (bit_xor d y) s → TakesWord s (bit_xor e z) t
    → Takes t rest u → (m : List Bool) → left u m ≡ left_by (a ∷ b ∷ c ∷ d ∷ e ∷ []) (message os ++ m)
unfolding Takes TakesWord words xors
words_taken a b c d e v w x y z p q r s t u os rest f g h i j k l m =
    let l5 : List Bool = message rest ++ m in
    let l4 : List Bool = bits 64 (bit_xor e z) ++ l5 in
    let l3 : List Bool = bits 64 (bit_xor d y) ++ l4 in
    let l2 : List Bool = bits 64 (bit_xor c x) ++ l3 in
    let l1 : List Bool = bits 64 (bit_xor b w) ++ l2 in
    l m
    ∙ k l5
    ∙ j l4
    ∙ i l3
    ∙ h l2
    ∙ g l1
    ∙ ap (left 0) (sym (five_front (bit_xor a v) (bit_xor b w) (bit_xor c x) (bit_xor d y) (bit_xor e z) l5))
    ∙ sym (words_end (a ∷ b ∷ c ∷ d ∷ e ∷ []) (v ∷ w ∷ x ∷ y ∷ z ∷ []) l5 refl)
    ∙ ap (left_by (a ∷ b ∷ c ∷ d ∷ e ∷ [])) (sym (append_assoc (words (v ∷ w ∷ x ∷ y ∷ z ∷ [])) (message rest) m) ∙ ap (λ (n : List Bool). n ++ m) (sym f))

-- ---- what is pending, one part of the message after the other

joined : (a b : List ℕ) (m : List Bool) → message a ++ (message b ++ m) ≡ message (a ++ b) ++ m
joined a b m = sym (append_assoc (message a) (message b) m) ∙ ap (λ (l : List Bool). l ++ m) (sym (message-append a b))

longer : (a m : List Bool) → 320 ≤ length m → 320 ≤ length (a ++ m)
longer a m h = omega (arith, length-append a m)

pub spreads_word : (p q : Pending) (x : ℕ) (os : List ℕ) → bits 64 x ≡ message os → Turns p x q → SpreadsOn p os q
unfolding SpreadsOn Turns
spreads_word p q x os e f m h = f m h ∙ ap (λ (l : List Bool). left_of p (l ++ m)) e

pub spreads_more : (p q r : Pending) (a b : List ℕ) → SpreadsOn p a q → SpreadsOn q b r → SpreadsOn p (a ++ b) r
unfolding SpreadsOn
spreads_more p q r a b f g m h = g m h ∙ f (message b ++ m) (longer (message b) m h) ∙ ap (left_of p) (joined a b m)

pub spreads_append : (c : ℕ) (p q : Pending) (a b : List ℕ) → Spreads c a p → SpreadsOn p b q → Spreads c (a ++ b) q
unfolding Spreads SpreadsOn
spreads_append c p q a b f g m h = g m h ∙ f (message b ++ m) (longer (message b) m h) ∙ ap (left c) (joined a b m)

pub spreads_end : (c : ℕ) (p : Pending) (r : ℕ) (a b : List ℕ) → 40 ≤ length b → Spreads c a p → Ends p b r → Takes c (a ++ b) r
unfolding Spreads Ends Takes
spreads_end c p r a b h f g m =
    g m ∙ f (message b ++ m) (omega (arith, length-append (message b) m, message-length b)) ∙ ap (left c) (joined a b m)

-- ---- four octets taken as zero, as one word with the four behind them

no_octets : zeros 32 ≡ message (replicate 4 0)
unfolding zeros message bits
no_octets = refl

pub word_zeroed : (v : ℕ) (os : List ℕ) → bits 32 v ≡ message os → bits 64 (v * 4294967296) ≡ message (replicate 4 0 ++ os)
word_zeroed v os e = bits_shl 32 32 v ∙ ap₂ ◌++◌ no_octets e ∙ sym (message-append (replicate 4 0) os)

-- the octets before, that word, those up to n, and the rest
pub zeroed_word : (os : List ℕ) (at n : ℕ) → at + 8 ≤ n → n ≤ length os
    → zeroed os at ≡ ((take at os ++ (replicate 4 0 ++ take 4 (drop (at + 4) os))) ++ take (n - (at + 8)) (drop (at + 8) os)) ++ drop n os
unfolding zeroed
zeroed_word os at n h l =
    let before : List ℕ = take at os in
    let word : List ℕ = replicate 4 0 ++ take 4 (drop (at + 4) os) in
    let behind : List ℕ = drop (at + 8) os in
    let k : ℕ = n - (at + 8) in
    let eight : at + 4 + 4 ≡ at + 8 = omega arith in
    let up : at + 8 + k ≡ n = omega arith in
    let four : length (take 4 (drop at os)) ≡ 4 = length-take-le 4 (drop at os) (simp length-drop (omega arith)) in
    let rest : drop 4 (drop at os) ≡ take 4 (drop (at + 4) os) ++ behind =
    drop-drop 4 at os
    ∙ sym (take-append-drop 4 (drop (at + 4) os))
    ∙ ap (λ (t : List ℕ). take 4 (drop (at + 4) os) ++ t) (drop-drop 4 (at + 4) os ∙ ap (λ (i : ℕ). drop i os) eight) in
    let parts : behind ≡ take k behind ++ drop n os =
    sym (take-append-drop k behind) ∙ ap (λ (t : List ℕ). take k behind ++ t) (drop-drop k (at + 8) os ∙ ap (λ (i : ℕ). drop i os) up) in
    ap₂ (λ (i : ℕ) (t : List ℕ). before ++ (replicate i 0 ++ t)) four rest
    ∙ ap (λ (t : List ℕ). before ++ t) (sym (append_assoc (replicate 4 0) (take 4 (drop (at + 4) os)) behind))
    ∙ sym (append_assoc before word behind)
    ∙ ap (λ (t : List ℕ). (before ++ word) ++ t) parts
    ∙ sym (append_assoc (before ++ word) (take k behind) (drop n os))
