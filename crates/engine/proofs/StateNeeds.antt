-- What the tests of number 12 know. A phase in an arm of two is one of both, by the number of its variant; an arena is shorter than its pages where it
-- has fewer of them.
use Rattle.std.proofs.Common.{◌≡◌, ℕ, ◌*◌, ◌/◌, ◌<◌, ◌≤◌, true, false, leb, ◌⊎◌, refl, ⊎_elim, arith, le-leb}
use borrow.Author.Tests.{lt-leb}
use denote.Enum.Declared.{tag_of}
use Rattle.engine.specs.declared.Phase.{Phase}
use Rattle.engine.specs.State.{is_ready, is_unread, is_failed}
use Rattle.engine.specs.contracts.Phase as Phases

-- ---- an arm of two phases

abbrev phase_tag : Phase → ℕ
phase_tag p = tag_of Phases.the_type p

pub not_ready : (p : Phase) → (phase_tag p ≡ 0) ⊎ (phase_tag p ≡ 2) → is_ready p ≡ false
not_ready Phase.Unread h = refl
not_ready Phase.Ready h = absurd (⊎_elim (λ z. omega arith) (λ z. omega arith) h)
not_ready Phase.Failed h = refl

pub not_unread : (p : Phase) → (phase_tag p ≡ 1) ⊎ (phase_tag p ≡ 2) → is_unread p ≡ false
not_unread Phase.Unread h = absurd (⊎_elim (λ z. omega arith) (λ z. omega arith) h)
not_unread Phase.Ready h = refl
not_unread Phase.Failed h = refl

pub not_failed : (p : Phase) → (phase_tag p ≡ 1) ⊎ (phase_tag p ≡ 0) → is_failed p ≡ false
not_failed Phase.Unread h = refl
not_failed Phase.Ready h = refl
not_failed Phase.Failed h = absurd (⊎_elim (λ z. omega arith) (λ z. omega arith) h)

-- ---- the arena

pub short : (n size : ℕ) → size / 8192 < n → leb (n * 8192) size ≡ false
short n size h = lt-leb (n * 8192) size (omega (arith, h))

pub enough : (n size : ℕ) → n ≤ size / 8192 → leb (n * 8192) size ≡ true
enough n size h = le-leb (n * 8192) size (omega (arith, h))
