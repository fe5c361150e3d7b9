-- The lookups of a junction. Two readers that answer the same, while what they carry stays related, find the same ways on (`cross_simulates`,
-- `over_simulates`). Two looks that agree do so where the lookups at the first don't end with a key or 12 (`cross_settles`, `cross_agrees`).
-- The idea: induction on the tiles, by cases of one lookup.
use Prim.Native.Nat.{ℕ, zero, suc}
use mathlib.Core.Path.{◌≡◌, refl, sym, ap, subst}
use mathlib.Core.Bool.{Bool, true, false, cond, true≢false}
use mathlib.Core.List.{List}
use lib.Dec.{ltb}
use lib.IntN.{pos, ◌+ℤ◌}
use lib.ListN.{get_or}
use Rattle.std.specs.Prelude.{Option, Some, None}
use Rattle.num.specs.Fold.{up_to}
use Rattle.num.proofs.FoldLaws.{up_agrees}
use Rattle.pack.specs.Grid.{checked_of}
use Rattle.pack.specs.declared.TileKey.{TileKey}
use Rattle.cache.specs.Direct.{Look, ready, missing, absent, stale, settled, Agree}
use Rattle.cache.specs.Reader.{Reader, plain}
use Rattle.predict.specs.declared.Choices.{Choices}
use Rattle.predict.specs.declared.twins.Twin.{Twin}
use Rattle.predict.specs.declared.twins.TwinList.{TwinList}
use Rattle.predict.specs.Twins.{no_twin}
use Rattle.predict.specs.declared.Arrival.{Arrival}
use Rattle.predict.specs.declared.Ending.{Ending}
use Rattle.predict.specs.Cross.{Ways, consider_at, twin_look, twin_key, going_over, step_over, cross_to, cross_over}

-- ---- two readers

-- what relates two starts and is kept by each pair of steps
pub up_simulates : {A B : Type 0} (R : A → B → Type 0) (one : A → ℕ → A) (two : B → ℕ → B)
    → ((a : A) (b : B) (i : ℕ) → R a b → R (one a i) (two b i)) → (a : A) (b : B) → R a b → (n : ℕ) → R (up_to one a n) (up_to two b n)
unfolding up_to
up_simulates R one two keeps a b h zero = h
up_simulates R one two keeps a b h (suc n) = keeps (up_to one a n) (up_to two b n) n (up_simulates R one two keeps a b h n)

-- the same but for what is carried, which is related
pub record Alike {S T : Type 0} (R : S → T → Type 0) (x : Ways S) (y : Ways T) : Type 0 where
  pub choices : y.choices ≡ x.choices
  pub blocked : y.blocked ≡ x.blocked
  pub ending : y.ending ≡ x.ending
  pub carried : R x.carried y.carried

module _ {S T : Type 0} (rd : Reader S) (rd' : Reader T) (R : S → T → Type 0)
    (at : (s : S) (t : T) (key : TileKey) → R s t → rd'.at t key ≡ rd.at s key)
    (found : (s : S) (t : T) (key : TileKey) (bs : List ℕ) → R s t → rd.at s key ≡ ready bs → R (rd.found s key) (rd'.found t key))
    (a : Arrival) (v : List ℕ)
  where
    look_simulates : (l : Look) (x : Ways S) (y : Ways T) (key : TileKey) (twin : Twin) → Alike R x y → rd.at x.carried key ≡ l
        → Alike R (twin_look rd a v l x key twin) (twin_look rd' a v l y key twin)
    look_simulates (ready bs) x y key twin h e = record {
      choices = ap (λ (c : Choices). consider_at c a v bs key twin) h.choices;
      blocked = h.blocked;
      ending = h.ending;
      carried = found x.carried y.carried key bs h.carried e;
    }
    look_simulates missing x y key twin h e = record { choices = h.choices; blocked = refl; ending = h.ending; carried = h.carried }
    look_simulates absent x y key twin h e = record { choices = h.choices; blocked = h.blocked; ending = refl; carried = h.carried }
    look_simulates stale x y key twin h e = record { choices = h.choices; blocked = h.blocked; ending = refl; carried = h.carried }

    key_simulates : (k : Option TileKey) (x : Ways S) (y : Ways T) (twin : Twin) → Alike R x y → Alike R (twin_key rd a v k x twin) (twin_key rd' a v k y twin)
    key_simulates (Some key) x y twin h =
        rw (at x.carried y.carried key h.carried) (look_simulates (rd.at x.carried key) x y key twin h refl)
    key_simulates None x y twin h = record { choices = h.choices; blocked = refl; ending = h.ending; carried = h.carried }

    going_simulates : (ending : Ending) (x : Ways S) (y : Ways T) (twin : Twin) → Alike R x y
        → Alike R (going_over rd a v ending x twin) (going_over rd' a v ending y twin)
    going_simulates Ending.Going x y twin h =
        key_simulates (checked_of a.header (pos a.way.tile.row +ℤ twin.row) (pos a.way.tile.col +ℤ twin.col)) x y twin h
    going_simulates (Ending.Stops end) x y twin h = h
    going_simulates (Ending.Need key) x y twin h = h
    going_simulates Ending.Stale x y twin h = h

    step_simulates : (x : Ways S) (y : Ways T) (twin : Twin) (i n : ℕ) → Alike R x y → Alike R (step_over rd a v x twin i n) (step_over rd' a v y twin i n)
    step_simulates x y twin i n h = by (ltb i n)
      where
        by : (t : Bool) → Alike R (cond t (going_over rd a v x.ending x twin) x) (cond t (going_over rd' a v y.ending y twin) y)
        by true =
            subst (λ (ending : Ending). Alike R (going_over rd a v x.ending x twin) (going_over rd' a v ending y twin)) (sym h.ending)
            (going_simulates x.ending x y twin h)
        by false = h

    pub cross_simulates : (x : Ways S) (y : Ways T) → Alike R x y → (twins : TwinList) (n : ℕ) → Alike R (cross_to rd a v x twins n) (cross_to rd' a v y twins n)
    unfolding cross_to
    cross_simulates x y h twins n =
        up_simulates (Alike R) (λ (z : Ways S) (i : ℕ). step_over rd a v z (get_or twins.v i no_twin) i twins.len)
        (λ (z : Ways T) (i : ℕ). step_over rd' a v z (get_or twins.v i no_twin) i twins.len)
        (λ (z : Ways S) (w : Ways T) (i : ℕ). step_simulates z w (get_or twins.v i no_twin) i twins.len) x y h n

    pub over_simulates : (s : S) (t : T) → R s t → (choices : Choices) (twins : TwinList)
        → Alike R (cross_over rd a v s choices twins) (cross_over rd' a v t choices twins)
    over_simulates s t h choices twins =
        cross_simulates (record { choices = choices; blocked = false; ending = Ending.Going; carried = s })
        (record { choices = choices; blocked = false; ending = Ending.Going; carried = t }) (record { choices = refl; blocked = refl; ending = refl; carried = h })
        twins 8

-- ---- two looks

-- ended neither by a key to load nor by 12
abbrev pub is_settled : Ending → Bool
is_settled Ending.Going = true
is_settled (Ending.Stops end) = true
is_settled (Ending.Need key) = false
is_settled Ending.Stale = false

module _ (one two : TileKey → Look) (agree : Agree one two) (a : Arrival) (v : List ℕ) where
  look_agrees : (p q : Look) → (settled p ≡ true → q ≡ p) → (x : Ways (List TileKey)) (key : TileKey) (twin : Twin)
      → is_settled (twin_look (plain one) a v p x key twin).ending ≡ true
      → twin_look (plain two) a v q x key twin ≡ twin_look (plain one) a v p x key twin
  look_agrees (ready bs) q same x key twin e = rw (same refl)
  look_agrees missing q same x key twin e = rw (same refl)
  look_agrees absent q same x key twin e = absurd (true≢false (sym e))
  look_agrees stale q same x key twin e = absurd (true≢false (sym e))

  key_agrees : (k : Option TileKey) (x : Ways (List TileKey)) (twin : Twin) → is_settled (twin_key (plain one) a v k x twin).ending ≡ true
      → twin_key (plain two) a v k x twin ≡ twin_key (plain one) a v k x twin
  key_agrees (Some key) x twin e = look_agrees (one key) (two key) (agree key) x key twin e
  key_agrees None x twin e = refl

  -- settled after the tile: then before it too, and the second look takes the same step
  going_agrees : (ending : Ending) (x : Ways (List TileKey)) (twin : Twin) → x.ending ≡ ending
      → is_settled (going_over (plain one) a v ending x twin).ending ≡ true
      → (is_settled x.ending ≡ true) × (going_over (plain two) a v ending x twin ≡ going_over (plain one) a v ending x twin)
  going_agrees Ending.Going x twin was e =
      (ap is_settled was, key_agrees (checked_of a.header (pos a.way.tile.row +ℤ twin.row) (pos a.way.tile.col +ℤ twin.col)) x twin e)
  going_agrees (Ending.Stops end) x twin was e = (e, refl)
  going_agrees (Ending.Need key) x twin was e = (e, refl)
  going_agrees Ending.Stale x twin was e = (e, refl)

  step_agrees : (t : Bool) (x : Ways (List TileKey)) (twin : Twin) → is_settled (cond t (going_over (plain one) a v x.ending x twin) x).ending ≡ true
      → (is_settled x.ending ≡ true)
      × (cond t (going_over (plain two) a v x.ending x twin) x ≡ cond t (going_over (plain one) a v x.ending x twin) x)
  step_agrees true x twin e = going_agrees x.ending x twin refl e
  step_agrees false x twin e = (e, refl)

  pub cross_settles : (x : Ways (List TileKey)) (twins : TwinList) (n : ℕ) → is_settled (cross_to (plain one) a v x twins n).ending ≡ true
      → cross_to (plain two) a v x twins n ≡ cross_to (plain one) a v x twins n
  unfolding cross_to
  cross_settles x twins n e =
      up_agrees (λ (y : Ways (List TileKey)) (i : ℕ). step_over (plain one) a v y (get_or twins.v i no_twin) i twins.len)
      (λ (y : Ways (List TileKey)) (i : ℕ). step_over (plain two) a v y (get_or twins.v i no_twin) i twins.len) x
      (λ (y : Ways (List TileKey)). is_settled y.ending ≡ true)
      (λ (y : Ways (List TileKey)) (i : ℕ). step_agrees (ltb i twins.len) y (get_or twins.v i no_twin)) n e

  pub cross_agrees : (x : Ways (List TileKey)) (twins : TwinList) (n : ℕ) → (cross_to (plain one) a v x twins n).ending ≡ Ending.Going
      → cross_to (plain two) a v x twins n ≡ cross_to (plain one) a v x twins n
  cross_agrees x twins n e = cross_settles x twins n (ap is_settled e)
