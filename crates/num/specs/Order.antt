-- Rust's `min`, `max`, `clamp`, `total_cmp`, sign and finiteness of floats, and libm's `fabsf`.
-- Of two zeros, `min` and `max` give the first argument; not-a-number has no sign, and comes last in `total_cmp`.
use Rattle.std.specs.Prelude.{Bool, true, false, cond, is_nan, Float}
use Rattle.std.specs.Float.{nan, inf, fin}
use Rattle.std.specs.Float.Ieee.{lt, eq}
use Rattle.std.specs.declared.cmp.Ordering.{Ordering}
use Rattle.std.specs.declared.cmp.Ordering.TheVariants.{Less, Equal, Greater}

-- IEEE 754-2008, minNum and maxNum: not-a-number is passed over
abbrev pub min : Float → Float → Float
min a b = cond (is_nan a) b (cond (lt b a) b a)

abbrev pub max : Float → Float → Float
max a b = cond (is_nan a) b (cond (lt a b) b a)

-- not-a-number is passed on
abbrev pub clamp : Float → Float → Float → Float
clamp x lo hi = cond (lt x lo) lo (cond (lt hi x) hi x)

-- IEEE 754, 5.5.1, abs
abbrev pub fabsf : Float → Float
fabsf nan = nan
fabsf (inf s) = inf false
fabsf (fin s m e) = fin false m e

-- IEEE 754, 5.7.2, isFinite and isSignMinus
abbrev pub is_finite : Float → Bool
is_finite nan = false
is_finite (inf s) = false
is_finite (fin s m e) = true

abbrev pub is_sign_negative : Float → Bool
is_sign_negative nan = false
is_sign_negative (inf s) = s
is_sign_negative (fin s m e) = s

-- of two equal values: only the two zeros differ in sign, and -0 comes first
abbrev pub by_sign : Bool → Bool → Ordering
by_sign true true = Equal
by_sign true false = Less
by_sign false true = Greater
by_sign false false = Equal

-- where one at least is not-a-number: the flags say which
abbrev pub by_nan : Bool → Bool → Ordering
by_nan true true = Equal
by_nan true false = Greater
by_nan false b = Less

-- IEEE 754, 5.10, totalOrder
abbrev pub total_cmp : Float → Float → Ordering
total_cmp a b = cond (lt a b) Less (cond (lt b a) Greater (cond (eq a b) (by_sign (is_sign_negative a) (is_sign_negative b)) (by_nan (is_nan a) (is_nan b))))
