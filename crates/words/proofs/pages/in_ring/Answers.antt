-- `pages::in_ring` meets its contract. The loop's invariant: whether one of the places passed holds the key.
use Rattle.std.specs.Prelude.{is_some}
use Rattle.std.proofs.Common.{◌≡◌, ℕ, ◌+◌, Bool, ◌||◌, sym, ap, ◌∙◌, arith}
use Rattle.cache.specs.Search.{lowest}
use Rattle.cache.proofs.SearchLaws.{lowest_start}
use Rattle.words.proofs.PagesLaws.{found_more, place_in, ring_is}
use Rattle.words.proofs.pages.in_ring.Goals as goal

one_more : (p : ℕ → Bool) (i : ℕ) {found here r : Bool} → found ≡ is_some (lowest p i) → here ≡ p i → r ≡ (found || here) → r ≡ is_some (lowest p (i + 1))
one_more p i a b e = rw (e, a, b, found_more p i)

pub loop-i-init : goal.loop-i-init
loop-i-init c = sym (ap is_some (lowest_start (place_in c.args.ws.now c.of_key-word.result)))

pub loop-i-preserved : goal.loop-i-preserved
loop-i-preserved c =
    let at_loop = c.loop-i in
    one_more (place_in c.args.ws.now c.of_key-word.result) at_loop.i at_loop.invariant c.holds.ensures c.either-found.ensures

pub returns : goal.returns
returns c =
    let at_loop = c.loop-i in
    let short = c.well_formed.1.0.1.1.1.0.1 in
    let end : at_loop.i ≡ 64 = omega arith in
    at_loop.invariant
    ∙ ap (λ (n : ℕ). is_some (lowest (place_in c.args.ws.now c.of_key-word.result) n)) end
    ∙ sym (ring_is c.args.ws.now c.args.key short c.of_key-word.ensures)
