-- The same boundary point in each tile that shares it: `predict.rs`, `boundary_twins`, in its order: rows the tile's own, the one before, the
-- one after, and in each the columns likewise.
use Rattle.std.specs.Prelude.{ℕ, ◌+◌, ◌/◌, ◌%◌, Bool, true, ◌&&◌, not, cond, eqb, leb, pos, negsuc, set, replicate}
use Rattle.num.specs.Fold.{up_to}
use Rattle.predict.specs.declared.twins.Twin.{Twin}
use Rattle.predict.specs.declared.twins.TwinList.{TwinList}
use Rattle.predict.specs.declared.twins.Side.{Side}

-- side 0 is the tile itself, 1 the one before, which shares a point at 0, 2 the one after, which shares one at the tile's size
abbrev pub shares : ℕ → ℕ → ℕ → Bool
shares i at size = cond (eqb i 0) true (cond (eqb i 1) (eqb at 0) (eqb at size))

-- the step there, and where the point stands in it
abbrev pub side_of : ℕ → ℕ → ℕ → Side
side_of i at size =
    cond (eqb i 0) (record { step = pos 0; at = at }) (cond (eqb i 1) (record { step = negsuc 0; at = size }) (record { step = pos 1; at = 0 }))

abbrev pub no_twin : Twin
no_twin = record { row = pos 0; col = pos 0; x = 0; y = 0 }

abbrev pub no_twins : TwinList
no_twins = record { v = replicate 8 no_twin; len = 0 }

unfoldable pub push : TwinList → Twin → TwinList
push t twin = cond (leb 8 t.len) t (record { v = set t.v t.len twin; len = t.len + 1 })

abbrev pub twin_of : ℕ → ℕ → ℕ → ℕ → Twin
twin_of i x y size =
    let row = side_of (i / 3) y size in
    let col = side_of (i % 3) x size in
    record { row = row.step; col = col.step; x = col.at; y = row.at }

-- number i of nine: the tile itself is none
unfoldable pub twin_step : TwinList → ℕ → ℕ → ℕ → ℕ → TwinList
twin_step t i x y size =
    cond (not (eqb i 0) && (shares (i / 3) y size && shares (i % 3) x size)) (push t (twin_of i x y size)) t

unfoldable pub twins_to : ℕ → ℕ → ℕ → ℕ → TwinList
twins_to x y size n = up_to (λ (t : TwinList) (i : ℕ). twin_step t i x y size) no_twins n

abbrev pub boundary_twins : ℕ → ℕ → ℕ → TwinList
boundary_twins x y size = twins_to x y size 9
