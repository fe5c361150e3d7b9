-- The choices of a junction, at most twelve, and the best and the second of them: `predict.rs`, `predict`. Choices past the twelfth are
-- dropped. Of two equal lowest costs the first is the best, and the second's cost is the same: a Fork.
use Rattle.std.specs.Prelude.{ℕ, ◌+◌, true, false, cond, ltb, leb, get_or, set, replicate}
use Rattle.std.specs.Float.{inf}
use Rattle.std.specs.Float.Ieee.{le}
use Rattle.num.specs.Fold.{up_to}
use Rattle.num.specs.Order.{min}
use Rattle.geo.specs.Flat.{whole}
use Rattle.predict.specs.declared.Choice.{Choice}
use Rattle.predict.specs.declared.Choices.{Choices}
use Rattle.predict.specs.declared.choose.Picked.{Picked}

abbrev pub no_choice : Choice
no_choice = record { way = record { tile = record { row = 0; col = 0 }; edge = 0; forward = false }; cost = whole 0 }

abbrev pub no_choices : Choices
no_choices = record { v = replicate 12 no_choice; len = 0 }

abbrev pub choice_in : Choices → ℕ → Choice
choice_in c i = get_or c.v i no_choice

unfoldable pub push : Choices → Choice → Choices
push c choice = cond (leb 12 c.len) c (record { v = set c.v c.len choice; len = c.len + 1 })

-- one choice more, where there is a best
abbrev pub against : Picked → Choice → Picked
against p c =
    cond (le p.best.cost c.cost) (record { any = true; best = p.best; second = min p.second c.cost })
    (record { any = true; best = c; second = min p.second p.best.cost })

-- number i of the n that there are
unfoldable pub pick_step : Picked → ℕ → ℕ → Choice → Picked
pick_step p n i c = cond (ltb i n) (cond p.any (against p c) (record { any = true; best = c; second = p.second })) p

abbrev pub no_pick : Picked
no_pick = record { any = false; best = no_choice; second = inf false }

unfoldable pub pick_to : Choices → ℕ → Picked
pick_to c n = up_to (λ (p : Picked) (i : ℕ). pick_step p c.len i (choice_in c i)) no_pick n

abbrev pub pick : Choices → Picked
pick c = pick_to c 12
