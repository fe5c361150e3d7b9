-- `pages::cache_ok` meets its contract: each return by the causes tested before it.
use Rattle.std.proofs.Common.{◌≡◌, ℕ, Bool, true, false, ◌&&◌, ltb, List, get_or, sym, refl, ap, ◌∙◌, le-ltb, lt-ltb}
use mathlib.Core.Bool.{and-true}
use Rattle.cache.specs.Runs as Runs
use Rattle.cache.specs.State.{ring_ok, load_ok, pending_ok, state_ok}
use Rattle.words.specs.Held.{slots_held, beside}
use Rattle.words.specs.Opens.{cache_tested}
use Rattle.words.specs.Words.{pages_of, cache_of}
use Rattle.words.proofs.KeptLaws.{accepted_is}
use Rattle.words.proofs.PagesLaws.{next_is}
use Rattle.words.proofs.pages.cache_ok.Goals as goal

regroup : (o s r x : Bool) → (o && ((s && r) && x)) ≡ ((o && s) && (r && x))
regroup true true r x = refl
regroup true false r x = refl
regroup false s r x = refl

by_causes : (ws : List ℕ) {o a b d e : Bool} → beside ws ≡ o → (slots_held ws 96 && Runs.runs_ok (pages_of ws 15)) ≡ a → ring_ok (cache_of ws 15) ≡ b → load_ok (cache_of ws 15) ≡ d → pending_ok (cache_of ws 15) ≡ e
    → (o && (a && (b && (d && e)))) ≡ cache_tested ws
unfolding cache_tested state_ok cache_of
by_causes ws o a b d e =
    rw (← o, ← a, ← b, ← d, ← e, accepted_is ws, and-true)
    (regroup (beside ws) (slots_held ws 96) (Runs.runs_ok (pages_of ws 15)) (ring_ok (cache_of ws 15) && (load_ok (cache_of ws 15) && pending_ok (cache_of ws 15))))

ring_by : (ws : List ℕ) {n : ℕ} {t : Bool} → n ≡ get_or ws 529 0 → ltb n 64 ≡ t → ring_ok (cache_of ws 15) ≡ t
unfolding cache_of
ring_by ws e q = ap (λ (k : ℕ). ltb k 64) (next_is ws 401 ∙ sym e) ∙ q

pub returns-then-not-beside : goal.returns-then-not-beside
returns-then-not-beside c =
    let ws = c.args.ws.now in
    by_causes ws (sym c.beside.ensures ∙ c.if-not-beside.true) refl refl refl refl

pub returns-then-not-pages_ok : goal.returns-then-not-pages_ok
returns-then-not-pages_ok c =
    let ws = c.args.ws.now in
    by_causes ws (sym c.beside.ensures ∙ c.if-not-beside.false) (sym c.pages_ok.ensures ∙ c.if-not-pages_ok.true) refl refl refl

pub returns-then-size-ge-MISSING : goal.returns-then-size-ge-MISSING
returns-then-size-ge-MISSING c =
    let ws = c.args.ws.now in
    by_causes ws (sym c.beside.ensures ∙ c.if-not-beside.false) (sym c.pages_ok.ensures ∙ c.if-not-pages_ok.false) (ring_by ws c.size.ensures (le-ltb _ _ c.if-size-ge-MISSING.true)) refl refl

pub returns-then-not-load_ok : goal.returns-then-not-load_ok
returns-then-not-load_ok c =
    let ws = c.args.ws.now in
    by_causes ws (sym c.beside.ensures ∙ c.if-not-beside.false) (sym c.pages_ok.ensures ∙ c.if-not-pages_ok.false) (ring_by ws c.size.ensures (lt-ltb _ _ c.if-size-ge-MISSING.false)) (sym c.load_ok.ensures ∙ c.if-not-load_ok.true) refl

pub returns : goal.returns
returns c =
    let ws = c.args.ws.now in
    by_causes ws (sym c.beside.ensures ∙ c.if-not-beside.false) (sym c.pages_ok.ensures ∙ c.if-not-pages_ok.false) (ring_by ws c.size.ensures (lt-ltb _ _ c.if-size-ge-MISSING.false)) (sym c.load_ok.ensures ∙ c.if-not-load_ok.false) (sym c.pending_ok.ensures)
