-- `crc::crc32_skipping` meets its contract. Where `crc_zeroed` does not serve, the register takes the octets before, as many zeros as there are octets to skip,
-- and the octets behind.
use Prim.Native.Nat.{ℕ, zero, suc, ◌+◌, ◌-◌, ◌≤◌}
use mathlib.Core.Path.{◌≡◌, refl, sym, ap, ◌∙◌}
use mathlib.Core.List.{List, ◌∷◌, ◌++◌}
use native.Mathlib.Nat.{min-le_left}
use native.Mathlib.Omega.{arith}
use lib.ListN.{length, take, drop, length-drop, replicate}
use lib.Seq.{take_all}
use Rattle.crc.specs.Fcs as Fcs
use Rattle.crc.specs.Fcs.{crc32_skipping}
use Rattle.crc.specs.Register.{Takes}
use Rattle.crc.proofs.Laws.{takes_crc, takes_append, zeroed_at, zeroed_past}
use Rattle.crc.proofs.Rule.{table, rule}
use borrow.Author.Tests.{leb-true}
use Rattle.crc.proofs.crc32_skipping.Goals as goal

take-replicate : (n k a : ℕ) → n ≤ k → take n (replicate k a) ≡ replicate n a
take-replicate zero k a h = refl
take-replicate (suc n) zero a h = absurd (omega arith)
take-replicate (suc n) (suc k) a h = ap (λ (l : List ℕ). a ∷ l) (take-replicate n k a (omega arith))

pub returns-then-bytes-at : goal.returns-then-bytes-at
unfolding crc32_skipping
returns-then-bytes-at c =
    c.crc32.ensures ∙ ap Fcs.crc32 (sym (zeroed_past c.args.bytes.now c.args.at c.if-bytes-at.true))

pub crc_zeroed-requires : goal.crc_zeroed-requires
unfolding table
crc_zeroed-requires c =
    let bytes : List ℕ = c.args.bytes.now in
    let at : ℕ = c.args.at in
    let enough : at + 48 ≤ length bytes = omega (arith, leb-true 48 (length bytes - at) c.if-bytes-at-ge48.true-raw) in record {
      rule = rule;
      at_value = c.if-at-eq0.true;
      at_in_bounds = enough;
    }

pub returns-then-bytes-at-ge48 : goal.returns-then-bytes-at-ge48
unfolding crc32_skipping
returns-then-bytes-at-ge48 c =
    sym (takes_crc (Fcs.zeroed c.args.bytes.now c.args.at) c.crc_zeroed.result (omega (arith, c.crc_zeroed.type_inv)) c.crc_zeroed.ensures)

pub crc_update-before-requires : goal.crc_update-before-requires
unfolding table
crc_update-before-requires c = rule

pub crc_update-between-requires : goal.crc_update-between-requires
unfolding table
crc_update-between-requires c = rule

pub crc_update-requires : goal.crc_update-requires
unfolding table
crc_update-requires c = rule

pub returns : goal.returns
unfolding crc32_skipping
returns c =
    let bytes : List ℕ = c.args.bytes.now in
    let at : ℕ = c.args.at in
    let n : ℕ = c.skipped-n.result in
    let first = c.crc_update-before in
    let second = c.crc_update-between in
    let o : ℕ = 0 in
    let z : take n (replicate 4 o) ≡ replicate n o = take-replicate n 4 0 (omega (arith, c.skipped-n.ensures, min-le_left 4 (length bytes - at))) in
    let behind : take (length bytes - (at + n)) (drop (at + n) bytes) ≡ drop (at + n) bytes =
    take_all (length bytes - (at + n)) (drop (at + n) bytes) (simp length-drop (omega arith)) in
    let whole : Takes 4294967295 (take at bytes ++ (replicate n o ++ drop (at + n) bytes)) c.crc_update.result =
    takes_append 4294967295 first.result c.crc_update.result (take at bytes) (replicate n o ++ drop (at + n) bytes) first.ensures
    (takes_append first.result second.result c.crc_update.result (replicate n o) (drop (at + n) bytes)
    (rw z at second.ensures) (rw behind at c.crc_update.ensures)) in
    sym
    (ap Fcs.crc32 (zeroed_at bytes at c.if-bytes-at.false
    ∙ ap (λ (k : ℕ). take at bytes ++ (replicate k o ++ drop (at + k) bytes)) (sym c.skipped-n.ensures))
    ∙ takes_crc (take at bytes ++ (replicate n o ++ drop (at + n) bytes)) c.crc_update.result (omega (arith, c.crc_update.type_inv)) whole)
