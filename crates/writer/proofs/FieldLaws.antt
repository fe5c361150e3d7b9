-- Laws of fields in bytes, for any list of bytes: what one field put in leaves and holds; lists of fields that rise, each starting at or behind
-- the end of the one before, so that none covers another; what such a list leaves as it was; that each of its fields reads back.
use Prim.Native.Nat.{ℕ, zero, suc, ◌+◌, ◌-◌, ◌/◌, ◌%◌, ◌≤◌, ◌<◌}
use mathlib.Core.Path.{◌≡◌, refl, sym, ap, ◌∙◌}
use mathlib.Core.List.{List, [], ◌∷◌, ◌++◌}
use native.Mathlib.Numerals.{add-one}
use native.Mathlib.Omega.{arith}
use lib.Dec.{eqb}
use mathlib.Core.Bool.{Bool, true, false}
use borrow.Author.Tests.{eqb-true, eqb-false}
use lib.ListN.{length, get_or, take, drop, get_or-append}
use lib.Seq.{get_or-take, get_or-drop, get_or-append-add, length-take-le, length-paste, length_paste_head}
use Rattle.pack.specs.Bytes.{byte_at, u16_at, u32_at}
use Rattle.writer.specs.Fields.{Field, little_endian, put, puts}
use Rattle.writer.specs.TileWritten.{field, fields_below}

-- ---- one field

abbrev pub end : Field → ℕ
end f = f.at + f.width

abbrev bytes_of : Field → List ℕ
bytes_of f = little_endian f.width f.value

pub length_little : (width n : ℕ) → length (little_endian width n) ≡ width
unfolding little_endian
length_little zero n = refl
length_little (suc width) n = ap suc (length_little width (n / 256))

module _ (f : Field) (bs : List ℕ) (fits : end f ≤ length bs) where
  whole : f.width ≤ length (bytes_of f)
  whole = omega (arith, length_little f.width f.value)

  starts : f.at ≤ length bs
  starts = omega arith

  pub length-put : length (put f bs) ≡ length bs
  unfolding put
  length-put = length-paste bs f.at (bytes_of f) f.width fits whole

  front : length (take f.at bs ++ take f.width (bytes_of f)) ≡ f.at + f.width
  front = length_paste_head bs f.at (bytes_of f) f.width starts whole

  pub put_before : (k : ℕ) → k < f.at → get_or (put f bs) k 0 ≡ get_or bs k 0
  unfolding put
  put_before k h =
      get_or-append (take f.at bs ++ take f.width (bytes_of f)) (drop (end f) bs) 0 k (omega (arith, front))
      ∙ get_or-append (take f.at bs) (take f.width (bytes_of f)) 0 k (omega (arith, length-take-le f.at bs starts))
      ∙ get_or-take f.at bs k 0 h

  pub put_in : (i : ℕ) → i < f.width → get_or (put f bs) (f.at + i) 0 ≡ get_or (bytes_of f) i 0
  unfolding put
  put_in i h =
      get_or-append (take f.at bs ++ take f.width (bytes_of f)) (drop (end f) bs) 0 (f.at + i) (omega (arith, front))
      ∙ ap (λ (n : ℕ). get_or (take f.at bs ++ take f.width (bytes_of f)) (n + i) 0) (sym (length-take-le f.at bs starts))
      ∙ get_or-append-add (take f.at bs) (take f.width (bytes_of f)) i 0
      ∙ get_or-take f.width (bytes_of f) i 0 h

  behind : (j : ℕ) → get_or (put f bs) (end f + j) 0 ≡ get_or bs (end f + j) 0
  unfolding put
  behind j =
      ap (λ (n : ℕ). get_or (put f bs) (n + j) 0) (sym front)
      ∙ get_or-append-add (take f.at bs ++ take f.width (bytes_of f)) (drop (end f) bs) j 0
      ∙ get_or-drop (end f) bs j 0

  pub put_behind : (k : ℕ) → end f ≤ k → get_or (put f bs) k 0 ≡ get_or bs k 0
  put_behind k h =
      let e : end f + (k - end f) ≡ k = omega arith in
      rw e at (behind (k - end f))

-- ---- what holds a field

abbrev pub Holds : Field → List ℕ → Type 0
Holds f bs = (i : ℕ) → i < f.width → get_or bs (f.at + i) 0 ≡ get_or (bytes_of f) i 0

-- another field put in behind it, or before it
pub holds_behind : (f g : Field) (bs : List ℕ) → end g ≤ length bs → end f ≤ g.at → Holds f bs → Holds f (put g bs)
holds_behind f g bs fits apart h i k = put_before g bs fits (f.at + i) (omega arith) ∙ h i k

pub holds_before : (f g : Field) (bs : List ℕ) → end g ≤ length bs → end g ≤ f.at → Holds f bs → Holds f (put g bs)
holds_before f g bs fits apart h i k = put_behind g bs fits (f.at + i) (omega arith) ∙ h i k

pub byte_read : (bs : List ℕ) (at value : ℕ) → Holds (field at 1 value) bs → value < 256 → byte_at bs at ≡ value
unfolding little_endian
byte_read bs at value h small =
    let e : at + 0 ≡ at = omega arith in
    let low : get_or bs at 0 ≡ value % 256 = rw e at (h 0 (omega arith)) in
    omega (arith, low)

-- two bytes of a wider number
low_high : (bs : List ℕ) (at value : ℕ) → get_or bs at 0 ≡ value % 256 → get_or bs (at + 1) 0 ≡ value / 256 % 256 → u16_at bs at ≡ value % 65536
unfolding u16_at
low_high bs at value low high = omega (arith, low, high)

pub u16_read : (bs : List ℕ) (at value : ℕ) → Holds (field at 2 value) bs → value < 65536 → u16_at bs at ≡ value
unfolding little_endian
u16_read bs at value h small =
    let e : at + 0 ≡ at = omega arith in
    omega (arith, low_high bs at value (rw e at (h 0 (omega arith))) (h 1 (omega arith)))

pub u32_read : (bs : List ℕ) (at value : ℕ) → Holds (field at 4 value) bs → value < 0x1_0000_0000 → u32_at bs at ≡ value
unfolding little_endian u32_at
u32_read bs at value h small =
    let e : at + 0 ≡ at = omega arith in
    let e3 : at + 3 ≡ at + 2 + 1 = omega arith in
    let low : u16_at bs at ≡ value % 65536 = low_high bs at value (rw e at (h 0 (omega arith))) (h 1 (omega arith)) in
    let third : get_or bs (at + 2) 0 ≡ value / 65536 % 256 = h 2 (omega arith) ∙ omega arith in
    let fourth : get_or bs (at + 2 + 1) 0 ≡ value / 65536 / 256 % 256 = (rw e3 at (h 3 (omega arith))) ∙ omega arith in
    omega (arith, low, low_high bs (at + 2) (value / 65536) third fourth)

-- ---- lists of fields that rise from one place to another

abbrev pub Rising : ℕ → List Field → ℕ → Type 0
Rising low [] high = low ≤ high
Rising low (f ∷ fs) high = (low ≤ f.at) × Rising (end f) fs high

pub rising_le : (low high : ℕ) (fs : List Field) → Rising low fs high → low ≤ high
rising_le low high [] r = r
rising_le low high (f ∷ fs) r = omega (arith, rising_le (end f) high fs r.1)

pub rising_from : (low less high : ℕ) (fs : List Field) → less ≤ low → Rising low fs high → Rising less fs high
rising_from low less high [] h r = omega arith
rising_from low less high (f ∷ fs) h r = (omega arith, r.1)

pub rising_to : (low high more : ℕ) (fs : List Field) → high ≤ more → Rising low fs high → Rising low fs more
rising_to low high more [] h r = omega arith
rising_to low high more (f ∷ fs) h r = (r.0, rising_to (end f) high more fs h r.1)

pub rising_append : (low middle high : ℕ) (fs gs : List Field) → Rising low fs middle → Rising middle gs high → Rising low (fs ++ gs) high
rising_append low middle high [] gs r s = rising_from middle low high gs r s
rising_append low middle high (f ∷ fs) gs r s = (r.0, rising_append (end f) middle high fs gs r.1 s)

-- records one behind the other
pub rising_below : (start : ℕ → ℕ) (fs : ℕ → List Field) → ((i : ℕ) → Rising (start i) (fs i) (start (i + 1))) → (n : ℕ) → Rising (start 0) (fields_below fs n) (start n)
unfolding fields_below
rising_below start fs r zero = omega arith
rising_below start fs r (suc n) =
    rising_append (start 0) (start n) (start (suc n)) (fields_below fs n) (fs n) (rising_below start fs r n) (rw add-one at (r n))

-- ---- what they leave as it was

pub puts-append : (fs gs : List Field) (bs : List ℕ) → puts (fs ++ gs) bs ≡ puts gs (puts fs bs)
unfolding puts
puts-append [] gs bs = refl
puts-append (f ∷ fs) gs bs = puts-append fs gs (put f bs)

pub below_more : (fs : ℕ → List Field) (n : ℕ) (bs : List ℕ) → puts (fields_below fs (n + 1)) bs ≡ puts (fs n) (puts (fields_below fs n) bs)
unfolding fields_below
below_more fs n bs = rw add-one (puts-append (fields_below fs n) (fs n) bs)

pub below_none : (fs : ℕ → List Field) (bs : List ℕ) → puts (fields_below fs 0) bs ≡ bs
unfolding fields_below puts
below_none fs bs = refl

pub length-puts : (low high : ℕ) (fs : List Field) (bs : List ℕ) → Rising low fs high → high ≤ length bs → length (puts fs bs) ≡ length bs
unfolding puts
length-puts low high [] bs r h = refl
length-puts low high (f ∷ fs) bs r h =
    let fits : end f ≤ length bs = omega (arith, rising_le (end f) high fs r.1) in
    length-puts (end f) high fs (put f bs) r.1 (omega (arith, length-put f bs fits)) ∙ length-put f bs fits

pub puts_before : (low high : ℕ) (fs : List Field) (bs : List ℕ) → Rising low fs high → high ≤ length bs
    → (k : ℕ) → k < low → get_or (puts fs bs) k 0 ≡ get_or bs k 0
unfolding puts
puts_before low high [] bs r h k past = refl
puts_before low high (f ∷ fs) bs r h k past =
    let fits : end f ≤ length bs = omega (arith, rising_le (end f) high fs r.1) in
    puts_before (end f) high fs (put f bs) r.1 (omega (arith, length-put f bs fits)) k (omega arith) ∙ put_before f bs fits k (omega arith)

pub puts_behind : (low high : ℕ) (fs : List Field) (bs : List ℕ) → Rising low fs high → high ≤ length bs
    → (k : ℕ) → high ≤ k → get_or (puts fs bs) k 0 ≡ get_or bs k 0
unfolding puts
puts_behind low high [] bs r h k past = refl
puts_behind low high (f ∷ fs) bs r h k past =
    let fits : end f ≤ length bs = omega (arith, rising_le (end f) high fs r.1) in
    puts_behind (end f) high fs (put f bs) r.1 (omega (arith, length-put f bs fits)) k past
    ∙ put_behind f bs fits k (omega (arith, rising_le (end f) high fs r.1))

-- ---- each field reads back

pub data In : Field → List Field → Type 0 where
  here : {f : Field} {fs : List Field} → In f (f ∷ fs)
  there : {f g : Field} {fs : List Field} → In f fs → In f (g ∷ fs)

pub in_left : {f : Field} {fs : List Field} (gs : List Field) → In f fs → In f (fs ++ gs)
in_left gs here = here
in_left gs (there i) = there (in_left gs i)

pub in_right : {f : Field} {gs : List Field} (fs : List Field) → In f gs → In f (fs ++ gs)
in_right [] i = i
in_right (g ∷ fs) i = there (in_right fs i)

pub in_below : {f : Field} (fs : ℕ → List Field) (i n : ℕ) → i < n → In f (fs i) → In f (fields_below fs n)
unfolding fields_below
in_below fs i zero h t = absurd (omega arith)
in_below {f} fs i (suc n) h t = go (eqb i n) refl (λ k. in_below fs i n k t)
  where
    go : (b : Bool) → eqb i n ≡ b → (i < n → In f (fields_below fs n)) → In f (fields_below fs n ++ fs n)
    go true e r = in_right (fields_below fs n) (rw (eqb-true i n e) at t)
    go false e r = in_left (fs n) (r (omega (arith, eqb-false i n e)))

pub holds_in : (low high : ℕ) {f : Field} (fs : List Field) (bs : List ℕ) → Rising low fs high → high ≤ length bs → In f fs → Holds f (puts fs bs)
unfolding puts
holds_in low high fs bs r h (here {f = f} {fs = rest}) =
    let fits : end f ≤ length bs = omega (arith, rising_le (end f) high rest r.1) in
    λ (i : ℕ) (k : i < f.width). puts_before (end f) high rest (put f bs) r.1 (omega (arith, length-put f bs fits)) (f.at + i) (omega arith) ∙ put_in f bs fits i k
holds_in low high fs bs r h (there {g = g} {fs = rest} t) =
    let fits : end g ≤ length bs = omega (arith, rising_le (end g) high rest r.1) in
    holds_in (end g) high rest (put g bs) r.1 (omega (arith, length-put g bs fits)) t
