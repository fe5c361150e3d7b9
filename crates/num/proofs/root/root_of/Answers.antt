-- `root::root_of` meets its contract: root and remainder of the leading 7 or 8 digits, of 13 or 14, of 25 or 26, and of all of them.
use Rattle.std.proofs.Common.{◌≡◌, ℕ, ◌+◌, ◌*◌, ◌/◌, ◌%◌, ap, ◌∙◌, arith}
use Rattle.num.proofs.RootLaws.{Digits, grown, digits_root}
use Rattle.num.proofs.root.root_of.Goals as goal

-- what `longer` ensures of n's root, for the number y that n is with its further digits
on : (n r m b h l r' m' y : ℕ) → Digits n r m → Digits (grown r m b h l) r' m' → n * (b * b) + h * b + l ≡ y → Digits y r' m'
on n r m b h l r' m' y d e f = (e.0 ∙ ap (λ (z : ℕ). z * (b * b) + h * b + l) d.0 ∙ f, e.1)

module _ (c : goal.After-longer-all) where
  seven : Digits (c.args.x / 4096) c.longer-seven.result.whole c.longer-seven.result.rest
  seven =
      let x : ℕ = c.args.x in
      let p = c.first-four.result in
      on (x / 262144) p.whole p.rest 8 (x / 32768 % 8) (x / 4096 % 8) c.longer-seven.result.whole c.longer-seven.result.rest (x / 4096) c.first-four.ensures c.longer-seven.ensures (omega arith)

module _ (c : goal.After-longer-all) where
  thirteen : Digits c.args.x c.longer-thirteen.result.whole c.longer-thirteen.result.rest
  thirteen =
      let x : ℕ = c.args.x in
      let p = c.longer-seven.result in
      on (x / 4096) p.whole p.rest 64 (x / 64 % 64) (x % 64) c.longer-thirteen.result.whole c.longer-thirteen.result.rest x (seven c) c.longer-thirteen.ensures (omega arith)

pub returns : goal.returns
returns c =
    let x : ℕ = c.args.x in
    let p = c.longer-thirteen.result in
    let all = c.longer-all.result in
    digits_root (x * 16777216) all.whole all.rest
    (on x p.whole p.rest 4096 0 0 all.whole all.rest (x * 16777216) (thirteen c) c.longer-all.ensures (omega arith))
