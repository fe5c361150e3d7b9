-- Nodes in order of y, then x, equal ones allowed: document 02, requests 1 and 7. Over any numbering of nodes, so that a writer asks it of
-- what it is given and a reader of what stands in a tile's bytes.
use Rattle.std.specs.Prelude.{ℕ, zero, suc, Bool, true, ◌&&◌, ◌||◌, not, ltb, eqb}
use Rattle.tile.specs.declared.Node.{Node}
use Rattle.tile.specs.Below.{all_below}

-- (ay, ax) comes before (by, bx)
abbrev pub before : ℕ → ℕ → ℕ → ℕ → Bool
before ay ax by bx = ltb ay by || (eqb ay by && ltb ax bx)

-- one node lies below another
abbrev pub is_below : Node → Node → Bool
is_below a b = before a.y a.x b.y b.x

-- a node is not below the one before it
unfoldable pub follows : (ℕ → Node) → ℕ → Bool
follows node zero = true
follows node (suc i) = not (is_below (node (suc i)) (node i))

-- the first n nodes
abbrev pub in_order : (ℕ → Node) → ℕ → Bool
in_order node n = all_below (follows node) n
