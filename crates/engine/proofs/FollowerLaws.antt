-- What a fix and the loss of fixes leave as it was, and that the history holds at most sixteen places after one more. The definitions copy what
-- they leave, so each part is the same by computing; a place more is one more below sixteen, and sixteen from there on.
use Rattle.std.proofs.Common.{◌≡◌, ◌≤◌, Bool, true, false, cond, ltb, refl, arith, ltb-true}
use Rattle.geo.specs.declared.Point.{Point}
use Rattle.engine.specs.declared.Due.{Due}
use Rattle.engine.specs.declared.Fix.{Fix}
use Rattle.engine.specs.declared.Follower.{Follower}
use Rattle.engine.specs.declared.Places.{Places}
use Rattle.engine.specs.Fixes.{is_same_place, push}
use Rattle.engine.specs.Follow.{fixed, lost}

-- the parts of what is due that neither touches
abbrev pub DueKept : Due → Due → Type 0
DueKept d e = (d.last_road ≡ e.last_road) × ((d.need ≡ e.need) × (d.reloads ≡ e.reloads))

-- the parts of a follower that neither touches
abbrev pub RestKept : Follower → Follower → Type 0
RestKept f g = (f.failures ≡ g.failures) × ((f.horizon_m ≡ g.horizon_m) × (f.steps ≡ g.steps))

-- all but the sight, and of what is due all but the match
abbrev pub FixKept : Follower → Follower → Type 0
FixKept f g =
    (f.matcher ≡ g.matcher)
    × ((f.ahead ≡ g.ahead) × (RestKept f g × ((f.due.road ≡ g.due.road) × DueKept f.due g.due)))

either : (b : Bool) (x y f : Follower) → FixKept x f → FixKept y f → FixKept (cond b x y) f
either true x y f p q = p
either false x y f p q = q

pub fixed_keeps : (f : Follower) (fix : Fix) → FixKept (fixed f fix) f
unfolding fixed
fixed_keeps f fix =
    either (is_same_place f.sight.fix fix) f _ f
    (refl, (refl, ((refl, (refl, refl)), (refl, (refl, (refl, refl))))))
    (refl, (refl, ((refl, (refl, refl)), (refl, (refl, (refl, refl))))))

pub lost_keeps : (f : Follower) → RestKept (lost f) f × DueKept (lost f).due f.due
unfolding lost
lost_keeps f = ((refl, (refl, refl)), (refl, (refl, refl)))

-- of two histories by a test
most : (b : Bool) (x y : Places) → (b ≡ true → x.len ≤ 16) → y.len ≤ 16 → (cond b x y).len ≤ 16
most true x y p q = p refl
most false x y p q = q

pub places_count : (h : Places) (here : Point) → (push h here).len ≤ 16
unfolding push
places_count h here = most (ltb h.len 16) _ _ (λ e. omega (arith, ltb-true h.len 16 e)) (omega arith)
