-- THE THEOREM: the claims of demand 3, of every list of calls from a fresh engine of any page count and horizon over any arena. A fresh engine has the
-- invariants, and they hold along the list.
use Prim.Native.Nat.{ℕ, ◌/◌, min}
use mathlib.Core.Path.{◌≡◌, refl}
use mathlib.Core.List.{List, [], ◌∷◌}
use lib.Ieee.{Float}
use lib.ListN.{length}
use Rattle.cache_lists.proofs.Inv.{inv_fresh}
use Rattle.engine.specs.Follow as Followers
use Rattle.engine.specs.Calls as Engines
use Rattle.direct.specs.Lists.{World, Call, exec, start}
use Rattle.direct.specs.Direct.{Lookup, directly, Direct, new_direct, applied, pack_after, direct_exec, direct_shows}
use Rattle.direct.specs.Claims.{is_fetching, told_of, tolds, shows, AllFair, made_of, Answers, AllSame, AllDirect, AllSafe, AllShort, AllOpen}
use Rattle.direct.proofs.Safe.{safe_along, short_along}
use Rattle.direct.proofs.Fit.{SharedFits, Reaches, Fit, fit_start}
use Rattle.direct.proofs.Linked.{Linked, Turn, turn}
use Rattle.direct.proofs.Sound.{start_sound}
use Rattle.direct.proofs.Opened.{reset_fits}
use Rattle.direct.proofs.Always.{open_along}

-- a new engine is one of the fresh ones
pub new_start : (arena : List ℕ) (horizon : Float) → Engines.new arena horizon ≡ (start (min (length arena / 8192) 96) horizon arena).engine
unfolding Engines.new
new_start arena horizon = refl

pub all_safe : AllSafe
all_safe n few horizon arena cs = safe_along cs (start n horizon arena) (inv_fresh n few)

pub all_short : AllShort
all_short n few horizon arena cs = short_along cs (start n horizon arena) (inv_fresh n few)

-- ---- finished matches and roads

module _ (n : ℕ) (horizon : Float) (at : Lookup) (answers : Answers n at) where
  same_along : (cs : List Call) (P : List ℕ) (w : World) (d : Direct) → SharedFits P n w.engine.shared w.arena → Reaches horizon w.engine.follower
      → Linked d (is_fetching w.engine) w.engine.follower → AllFair P cs w → direct_shows at (made_of n horizon) P cs (tolds cs w) d ≡ shows cs w
  unfolding AllFair tolds shows direct_shows
  same_along [] P w d fits reach l fair = refl
  same_along (c ∷ cs) P w d fits reach l fair =
      let t : Turn at n horizon P w d l fits reach answers c = turn at n horizon P w d l fits reach answers c fair.0 in
      rw (
        t.alike.shown,
        same_along cs (pack_after P c (told_of w c)) (exec c w).world (direct_exec at (made_of n horizon) P c (told_of w c) d).direct
            t.shared t.reach t.alike.linked fair.1,
      )

pub all_same : AllSame
unfolding Followers.fresh applied
all_same n few horizon arena P cs fair at answers =
    let fit : Fit P n horizon (start n horizon arena) = fit_start P n horizon arena few in
    same_along n horizon at answers cs P (start n horizon arena) new_direct fit.shared fit.reach (record { sight = refl; matcher = refl; none = λ r. refl }) fair

pub all_direct : AllDirect
all_direct n few horizon arena P cs fair = all_same n few horizon arena P cs fair (directly n) (λ P key s. refl)

-- ---- number 12

pub all_open : AllOpen
unfolding Followers.fresh
all_open n few horizon arena long P cs fair =
    open_along n horizon cs P (start n horizon arena)
    (record { fit = fit_start P n horizon arena few; ok = start_sound n horizon arena few long; long = long; found = reset_fits P n }) fair
