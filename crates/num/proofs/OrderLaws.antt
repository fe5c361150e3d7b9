-- Laws of `order`'s definitions: not-a-number is what differs from itself (`differs`, `is_nan_lem`, `not_nan`), and std's words for the magnitude, the sign and
-- finiteness are the same (`abs_is`, `sign_is`, `finite_is`), but that std asks for no sign of not-a-number (`nan_sign`).
use Rattle.std.proofs.Common.{◌≡◌, ◌*◌, true, false, not, T, sym, refl, subst, true≢false, eq-eqb}
use lib.Ieee.{Float, nan, inf, fin, up, down, is_nan, ne, eq}
use lib.Ieee.Compare.{differs_from_itself}
use Rattle.std.specs.Float.{float_with_sign, float_is_finite}
use Rattle.std.specs.Float.{is_sign_negative as std_sign}
use Rattle.num.specs.Order.{is_finite, is_sign_negative, fabsf}

-- ---- not-a-number

pub differs : (x : Float) → ne x x ≡ is_nan x
unfolding ne is_nan
differs nan = refl
differs (inf true) = refl
differs (inf false) = refl
differs (fin true m e) = rw (eq-eqb (m * up e * down e) _ refl)
differs (fin false m e) = rw (eq-eqb (m * up e * down e) _ refl)

pub is_nan_lem : (x : Float) → ne x x ≡ true → x ≡ nan
is_nan_lem x h = differs_from_itself x (subst T (sym h) tt)

pub not_nan : (x : Float) → ne x x ≡ false → T (not (is_nan x))
unfolding is_nan ne eq
not_nan nan p = absurd (true≢false p)
not_nan (inf s) p = tt
not_nan (fin s m e) p = tt

-- ---- std's words, which are the same

pub abs_is : (x : Float) → float_with_sign false x ≡ fabsf x
unfolding float_with_sign
abs_is nan = refl
abs_is (inf s) = refl
abs_is (fin s m e) = refl

pub finite_is : (x : Float) → float_is_finite x ≡ is_finite x
unfolding float_is_finite
finite_is nan = refl
finite_is (inf s) = refl
finite_is (fin s m e) = refl

pub sign_is : (x : Float) → std_sign x ≡ is_sign_negative x
unfolding std_sign
sign_is nan = refl
sign_is (inf s) = refl
sign_is (fin s m e) = refl

pub nan_sign : (x : Float) → is_nan x ≡ true → false ≡ is_sign_negative x
unfolding is_nan
nan_sign nan h = refl
nan_sign (inf s) h = absurd (true≢false (sym h))
nan_sign (fin s m e) h = absurd (true≢false (sym h))
