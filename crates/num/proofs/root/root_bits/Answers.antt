-- `root::root_bits` meets its contract: by the pattern's two fields.
use Rattle.std.proofs.Common.{◌≡◌, ℕ, suc, ◌-◌, ◌/◌, sym, ◌∙◌, arith}
use Rattle.num.proofs.RootRounded.{root_small, root_normal}
use Rattle.num.proofs.root.root_bits.Goals as goal

pub returns-then-field-eq0 : goal.returns-then-field-eq0
returns-then-field-eq0 c =
    (c.rounded.ensures.0 ∙ sym (root_small c.args.b c.requires.1 c.if-field-eq0.true c.requires.0), c.rounded.ensures.1)

pub returns : goal.returns
returns c =
    let b : ℕ = c.args.b in
    let e : b / 8388608 ≡ suc (b / 8388608 - 1) = omega (arith, c.if-field-eq0.false) in
    (c.rounded-2.ensures.0 ∙ sym (root_normal b c.requires.1 (b / 8388608 - 1) e), c.rounded-2.ensures.1)
