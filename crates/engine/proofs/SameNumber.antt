-- Two signed numbers of 32 bits are the same number just where their bits are the same, which is what the code compares: numbers with the same
-- bits are equal, and numbers of which neither is less have the same bits.
use Rattle.std.proofs.Common.{◌≡◌, ◌^◌, ◌<◌, Bool, true, false, ◌&&◌, eqb, ℤ, sym, refl, ap, ◌∙◌, arith, w32, to_z, of_z, eq-eqb, ne_eqb}
use lib.Signed.{mag, le_z}
use mir.Val.{hbits}
use Rattle.pack.proofs.Signed.{up, dn, le-true, le_false, same, got}
use Rattle.engine.specs.Fixes.{same_number}

module _ (a b : ℤ) (f : mag a < 2 ^ hbits w32) (g : mag b < 2 ^ hbits w32) where
  from_bits : of_z w32 a ≡ of_z w32 b → a ≡ b
  from_bits e = sym (got w32 f) ∙ ap (to_z w32) e ∙ got w32 g

  by : (s t : Bool) → le_z a b ≡ s → le_z b a ≡ t → eqb (of_z w32 a) (of_z w32 b) ≡ (s && t)
  by true true d e = eq-eqb (of_z w32 a) (of_z w32 b) (ap (of_z w32) (same a b (omega (arith, le-true a b d, le-true b a e))))
  by true false d e = ne_eqb (of_z w32 a) (of_z w32 b) (λ q. omega (arith, le_false b a e, ap up (from_bits q), ap dn (from_bits q)))
  by false t d e = ne_eqb (of_z w32 a) (of_z w32 b) (λ q. omega (arith, le_false a b d, ap up (from_bits q), ap dn (from_bits q)))

  pub same_bits : eqb (of_z w32 a) (of_z w32 b) ≡ same_number a b
  same_bits = by (le_z a b) (le_z b a) refl refl
