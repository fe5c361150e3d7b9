-- Each number is read back from its words: the laws that a struct's fields cite.
use Rattle.std.proofs.Common.{◌≡◌, ℕ, ◌+◌, ◌-◌, ◌*◌, ◌/◌, ◌%◌, ◌<◌, ◌≤◌, Bool, true, false, T, ℤ, pos, negsuc, refl, ap, ◌∙◌, arith, le-ltb, lt-ltb, ne_eqb, Option, Some, None}
use lib.Ieee.{Float, binary32, fits}
use lib.Ieee.Bits.{of_bits-to_bits}
use Rattle.num.specs.Cast.{bits32, low16}
use Rattle.pack.specs.Bytes.{signed32}
use Rattle.pack.specs.declared.TileKey.{TileKey}
use Rattle.cache.specs.declared.Part.{Part}
use Rattle.cache.specs.declared.Slot.{Slot}
use Rattle.predict.specs.declared.End.{End}
use Rattle.engine.specs.declared.Phase.{Phase}
use Rattle.words.specs.Typed.{Word, Short, Byte, Signed, Height, TypedKey, TypedMaybe, TypedPart, TypedSlot}
use Rattle.words.specs.Words.{bit, is_set, low_word, high_word, long_of, float_word, float_of, height_of, key_word, key_of, key_tag, key_held, maybe_key_of, phase_word, phase_of, part_word, part_of, slot_by, forward_word, forward_of, end_word, end_of}

pub long_back : (n : ℕ) → long_of (low_word n) (high_word n) ≡ n
long_back n = omega arith

pub word_back : (n : ℕ) → Word n → low_word n ≡ n
word_back n h = omega arith

pub short_back : (n : ℕ) → Short n → n % 65536 ≡ n
short_back n h = omega arith

pub byte_back : (n : ℕ) → Byte n → n % 256 ≡ n
byte_back n h = omega arith

pub signed_back : (z : ℤ) → Signed z → signed32 (bits32 z) ≡ z
signed_back (pos n) h = rw (lt-ltb n 2147483648 h)
signed_back (negsuc n) h =
    let far : 4294967295 - (4294967295 - n) ≡ n = omega (arith, h) in
    rw (le-ltb (4294967295 - n) 2147483648 (omega (arith, h))) (ap negsuc far)

low_back : (z : ℤ) → Height z → low16 z ≡ z
low_back (pos n) h =
    let same : n % 65536 ≡ n = omega (arith, h) in
    rw same (rw (lt-ltb n 32768 h))
low_back (negsuc n) h =
    let same : n % 65536 ≡ n = omega (arith, h) in
    let far : 65535 - (65535 - n) ≡ n = omega (arith, h) in
    rw same (rw (le-ltb (65535 - n) 32768 (omega (arith, h))) (ap negsuc far))

wider : (z : ℤ) → Height z → Signed z
wider (pos n) h = omega (arith, h)
wider (negsuc n) h = omega (arith, h)

pub height_back : (z : ℤ) → Height z → height_of (bits32 z) ≡ z
height_back z h = ap low16 (signed_back z (wider z h)) ∙ low_back z h

pub float_back : (x : Float) → T (fits binary32 x) → float_of (float_word x) ≡ x
float_back x h = of_bits-to_bits binary32 x h

pub key_back : (k : TileKey) → TypedKey k → key_of (key_word k) ≡ k
key_back k h =
    let row : key_word k / 65536 ≡ k.row = omega (arith, h.1) in
    let col : key_word k % 65536 ≡ k.col = omega (arith, h.1) in
    rw (row, col)

pub bit_back : (b : Bool) → is_set (bit b) ≡ b
bit_back true = refl
bit_back false = refl

pub maybe_back : (k : Option TileKey) → TypedMaybe k → maybe_key_of (key_tag k) (key_held k) ≡ k
maybe_back None h = refl
maybe_back (Some k) h = ap Some (key_back k h)

pub phase_back : (p : Phase) → phase_of (phase_word p) ≡ p
phase_back Phase.Unread = refl
phase_back Phase.Ready = refl
phase_back Phase.Failed = refl

pub forward_back : (f : Option Bool) → forward_of (forward_word f) ≡ f
forward_back None = refl
forward_back (Some true) = refl
forward_back (Some false) = refl

pub end_back : (e : End) → end_of (end_word e) ≡ e
end_back End.Horizon = refl
end_back End.Fork = refl
end_back End.DeadEnd = refl
end_back End.MapEdge = refl
end_back End.Uncertain = refl
end_back End.Memory = refl

part_back : (p : Part) → TypedPart p → part_of (part_word p) ≡ p
part_back Part.Head h = refl
part_back (Part.Of h) b =
    let same : (h + 1 - 1) % 256 ≡ h = omega (arith, b) in
    rw (ne_eqb (h + 1) 0 (λ e. omega (arith, e)), same)

tag_le : (k : Option TileKey) → key_tag k ≤ 1
tag_le None = omega arith
tag_le (Some k) = omega arith

bit_le : (b : Bool) → bit b ≤ 1
bit_le true = omega arith
bit_le false = omega arith

quarter : (r p : ℕ) → r < 4 → (r + 4 * p) / 4 ≡ p
quarter r p h = omega arith

-- what a slot's first word holds
first : (n t b p : ℕ) → n ≡ t + 2 * b + 4 * p → t ≤ 1 → n % 2 ≡ t
first n t b p e h = omega arith

halved : (n t b p : ℕ) → n ≡ t + 2 * b + 4 * p → t ≤ 1 → n / 2 ≡ b + 2 * p
halved n t b p e h = omega arith

second : (n t b p : ℕ) → n ≡ t + 2 * b + 4 * p → t ≤ 1 → b ≤ 1 → n / 2 % 2 ≡ b
second n t b p e h k = rw (halved n t b p e h) (first (b + 2 * p) b p 0 (omega arith) k)

third : (n t b p : ℕ) → n ≡ t + 2 * b + 4 * p → t ≤ 1 → b ≤ 1 → n / 4 ≡ p
third n t b p e h k =
    let r : t + 2 * b < 4 = omega arith in
    rw e (quarter (t + 2 * b) p r)

-- a slot from three words
pub slot_back : (s : Slot) → TypedSlot s → (w : ℕ → ℕ) → w 0 ≡ key_tag s.key + 2 * bit s.ready + 4 * part_word s.part → w 1 ≡ key_held s.key
    → w 2 ≡ s.len → slot_by w ≡ s
slot_back s t w a b c =
    let tag : w 0 % 2 ≡ key_tag s.key = first _ _ _ _ a (tag_le s.key) in
    let ready : w 0 / 2 % 2 ≡ bit s.ready = second _ _ _ _ a (tag_le s.key) (bit_le s.ready) in
    let part : w 0 / 4 ≡ part_word s.part = third _ _ _ _ a (tag_le s.key) (bit_le s.ready) in
    let len : w 2 % 65536 ≡ s.len = omega (arith, c, t.len) in
    rw (tag, ready, part, len, b, maybe_back s.key t.key, bit_back s.ready, part_back s.part t.part)
