-- The way that is taken at a junction: `predict.rs`, `predict`, from `best` on. "Two equal lowest costs are a Fork, not the first of them"
-- (document 01): the margin is then 0, below FORK_MARGIN. Each float operation is rounded once, in the Rust's order.
use Rattle.std.specs.Prelude.{Bool, cond, Float}
use Rattle.std.specs.Float.{binary32}
use Rattle.std.specs.Float.Ieee.{of_bits, add, sub, mul, div, lt}
use Rattle.num.specs.Order.{min, is_finite}
use Rattle.geo.specs.Flat.{whole}
use Rattle.predict.specs.declared.Choices.{Choices}
use Rattle.predict.specs.declared.choose.Picked.{Picked}
use Rattle.predict.specs.Choose.{pick}
use Rattle.predict.specs.declared.Decision.{Decision}
use Rattle.predict.specs.declared.End.{End}
use Rattle.predict.specs.declared.Ending.TheVariants as Ending

abbrev pub stop : Picked → End → Float → Decision
stop p end confidence = record { ending = Ending.Stops end; way = p.best.way; confidence = confidence }

abbrev pub go : Picked → Float → Decision
go p confidence = record { ending = Ending.Going; way = p.best.way; confidence = confidence }

-- off the map where a tile that shares the node is none
abbrev pub no_way : Picked → Bool → Float → Decision
no_way p blocked confidence = cond blocked (stop p End.MapEdge confidence) (stop p End.DeadEnd confidence)

-- 0.85 and 0.15; a margin of 4 leaves all of it
abbrev pub lowered : Float → Float → Float
lowered confidence margin =
    mul binary32 confidence (add binary32 (of_bits binary32 0x3f59999a) (mul binary32 (of_bits binary32 0x3e19999a) (min (div binary32 margin (whole 4)) (whole 1))))

-- FORK_MARGIN is 1, MIN_CONFIDENCE 0.3
abbrev pub choice : Picked → Float → Decision
choice p confidence =
    let margin = sub binary32 p.second p.best.cost in
    let left = lowered confidence margin in
    cond (lt margin (whole 1)) (stop p End.Fork confidence) (cond (lt left (of_bits binary32 0x3e99999a)) (stop p End.Uncertain left) (go p left))

abbrev pub decide_by : Picked → Bool → Float → Decision
decide_by p blocked confidence = cond p.any (cond (is_finite p.second) (choice p confidence) (go p confidence)) (no_way p blocked confidence)

unfoldable pub decide : Choices → Bool → Float → Decision
decide c blocked confidence = decide_by (pick c) blocked confidence
