-- `matcher::near::has` meets its contract: `any` over the places is the search by index.
use Rattle.std.specs.Prelude.{Option, Some, None, is_some}
use Rattle.std.proofs.Common.{rules, tests, ◌≡◌, ℕ, suc, ◌<◌, Bool, true, false, List, [], ◌∷◌, length, get_or, refl, ◌∙◌, arith}
use Rattle.std.specs.List.{list_any}
use Rattle.std.proofs.lemmas.List.Folds.{list_any_at}
use Rattle.std.proofs.lemmas.Iterator.{YieldsList-from_slice}
use Rattle.std.proofs.lemmas.Iterator.Search.{any_from_yields_List}
use Rattle.cache.specs.Search.{lowest}
use Rattle.cache.specs.Keys.{holds}
use Rattle.cache.proofs.SearchLaws.{lowest_at, lowest_none}
use Rattle.matcher.specs.Near.{has, no_place}
use Rattle.matcher.specs.declared.NearKey.{NearKey}
use Rattle.matcher.proofs.near.has.Goals as goal

none_any : {X : Type 0} (p : X → Bool) (xs : List X) (d : X) → ((i : ℕ) → i < length xs → p (get_or xs i d) ≡ false) → list_any p xs ≡ false
none_any p [] d f = refl
none_any p (x ∷ xs) d f = rw (f 0 (omega arith)) (none_any p xs d (λ (i : ℕ) (h : i < length xs). f (suc i) (omega (arith, h))))

-- `any` is whether the search by index finds one
any_lowest : {X : Type 0} (p : X → Bool) (xs : List X) (d : X) (n : ℕ) → length xs ≡ n
    → list_any p xs ≡ is_some (lowest (λ (i : ℕ). p (get_or xs i d)) n)
any_lowest p xs d n size = by (lowest (λ (i : ℕ). p (get_or xs i d)) n) refl
  where
    by : (x : Option ℕ) → lowest (λ (i : ℕ). p (get_or xs i d)) n ≡ x → list_any p xs ≡ is_some x
    by (Some i) e =
        let h : (i < n) × (p (get_or xs i d) ≡ true) = lowest_at _ n i e in list_any_at p xs i d (omega (arith, size, h.0)) h.1
    by None e = none_any p xs d (λ (i : ℕ) (h : i < length xs). lowest_none _ n e i (omega (arith, size, h)))

pub returns : goal.returns
unfolding has
returns c =
    let keys = c.args.n.keys in
    let size : length keys ≡ 4 = omega arith in
    let test = λ (place : NearKey). holds place.key c.args.key in
    let found : c.any.result ≡ list_any test keys =
    any_from_yields_List test _ _ c.any.result c.any.ensures.ran (YieldsList-from_slice keys cc) (λ x b q k. search (rules, tests)) in
    found ∙ any_lowest test keys no_place 4 size
