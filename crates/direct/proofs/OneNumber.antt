-- A number of the table is one refusal's: 10 is a bad start's, 12 a bad state's.
use Rattle.std.proofs.Common.{◌≡◌, refl, arith}
use Rattle.refusal.specs.Refusal.{number_of}
use Rattle.refusal.specs.declared.Refusal.{Refusal}

pub bad_start : (e : Refusal) → number_of e ≡ 10 → e ≡ Refusal.BadStart
bad_start Refusal.Media q = absurd (omega (arith, q))
bad_start Refusal.PastPack q = absurd (omega (arith, q))
bad_start Refusal.Unsupported q = absurd (omega (arith, q))
bad_start Refusal.Corrupt q = absurd (omega (arith, q))
bad_start Refusal.NotLoaded q = absurd (omega (arith, q))
bad_start Refusal.NoStart q = absurd (omega (arith, q))
bad_start Refusal.PastTile q = absurd (omega (arith, q))
bad_start Refusal.OutOfRange q = absurd (omega (arith, q))
bad_start Refusal.OutsideGrid q = absurd (omega (arith, q))
bad_start Refusal.BadStart q = refl
bad_start Refusal.NotAsked q = absurd (omega (arith, q))
bad_start Refusal.BadState q = absurd (omega (arith, q))
bad_start Refusal.BadValue q = absurd (omega (arith, q))
bad_start Refusal.NoRoom q = absurd (omega (arith, q))

pub bad_state : (e : Refusal) → number_of e ≡ 12 → e ≡ Refusal.BadState
bad_state Refusal.Media q = absurd (omega (arith, q))
bad_state Refusal.PastPack q = absurd (omega (arith, q))
bad_state Refusal.Unsupported q = absurd (omega (arith, q))
bad_state Refusal.Corrupt q = absurd (omega (arith, q))
bad_state Refusal.NotLoaded q = absurd (omega (arith, q))
bad_state Refusal.NoStart q = absurd (omega (arith, q))
bad_state Refusal.PastTile q = absurd (omega (arith, q))
bad_state Refusal.OutOfRange q = absurd (omega (arith, q))
bad_state Refusal.OutsideGrid q = absurd (omega (arith, q))
bad_state Refusal.BadStart q = absurd (omega (arith, q))
bad_state Refusal.NotAsked q = absurd (omega (arith, q))
bad_state Refusal.BadState q = refl
bad_state Refusal.BadValue q = absurd (omega (arith, q))
bad_state Refusal.NoRoom q = absurd (omega (arith, q))
