-- The number of each refusal, as the table in include/terrain.h has them. 0 is no refusal.
use Rattle.std.specs.Prelude.{ℕ, Bool, cond, List, [], ◌∷◌, Result, Ok, Err}
use Rattle.refusal.specs.declared.Refusal.{Refusal}
use Rattle.refusal.specs.declared.Refusal.TheVariants.{Media, PastPack, Unsupported, Corrupt, NotLoaded, NoStart, PastTile, OutOfRange, OutsideGrid, BadStart, NotAsked, BadState, BadValue, NoRoom}

abbrev pub number_of : Refusal → ℕ
number_of Media = 1
number_of PastPack = 2
number_of Unsupported = 3
number_of Corrupt = 4
number_of NotLoaded = 5
number_of NoStart = 6
number_of PastTile = 7
number_of OutOfRange = 8
number_of OutsideGrid = 9
number_of BadStart = 10
number_of NotAsked = 11
number_of BadState = 12
number_of BadValue = 13
number_of NoRoom = 14

-- of an answer: 0 where it is no refusal
abbrev pub number_of_result : {T : Type 0} → Result T Refusal → ℕ
number_of_result (Ok v) = 0
number_of_result (Err e) = number_of e

-- the first cause of a list whose test fails
abbrev pub first_of : List (Bool × Refusal) → Result Unit Refusal
first_of [] = Ok tt
first_of ((ok, e) ∷ rest) = cond ok (first_of rest) (Err e)
