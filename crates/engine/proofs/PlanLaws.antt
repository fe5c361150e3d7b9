-- A step where no fetch is open does what its plan says (`plan_step`): by whether the pack is read and a tile is needed, whether there is a fix, where it lies, and what is due.
use Rattle.matcher.specs.declared.Matched.{Matched}
use Rattle.std.specs.Prelude.{Ok, Option, Some, None}
use Rattle.std.proofs.Common.{◌≡◌, ℕ, Bool, true, false, cond, List, refl, ap, ◌∙◌}
use Rattle.pack.specs.declared.TileKey.{TileKey}
use Rattle.pack.specs.Grid.{key_of, in_grid}
use Rattle.pack.specs.declared.Header.{Header}
use Rattle.cache.specs.declared.Pending.{Pending}
use Rattle.matcher.specs.State.{key_ok}
use Rattle.engine.specs.Plans.{of_road, of_fix, of_sight, of_need, of_state, done_by, plan_of}
use Rattle.engine.specs.State.{engine_ok}
use Rattle.engine.specs.Steps.{ready_by, started_by, started, stepped_by, stepped}
use Rattle.engine.specs.Work.{counted, ended, match_step, road_due_by, at_fix_by, at_fix, worked_by, worked}
use Rattle.engine.specs.declared.Due.{Due}
use Rattle.engine.specs.declared.Engine.{Engine}
use Rattle.engine.specs.declared.Fix.{Fix}
use Rattle.engine.specs.declared.Follower.{Follower}
use Rattle.engine.specs.declared.Phase.{Phase}
use Rattle.engine.specs.declared.plan.Plan.{Plan}
use Rattle.engine.specs.declared.Status.TheVariants as Status
use Rattle.engine.proofs.TestedLaws.{current_in}

module _ (e : Engine) (arena : List ℕ) where
  abbrev f₁ : Follower
  f₁ = counted e.follower

  abbrev due₁ : Due
  due₁ = e.follower.due

  abbrev found₁ : Option Matched
  found₁ = e.follower.matcher.current

  road_by : (m : Option Matched) (fix : Fix) → road_due_by m e arena f₁ fix ≡ done_by (of_road m fix) e arena
  road_by (Some found) fix = refl
  road_by None fix = refl

  due_by : (fix : Fix) (matching road : Bool)
      → cond matching (match_step e arena f₁ fix) (cond road (road_due_by found₁ e arena f₁ fix) (ended e e.shared.cache f₁ (Ok Status.Idle)))
      ≡ done_by (cond matching (Plan.Match fix) (cond road (of_road found₁ fix) Plan.Rest)) e arena
  due_by fix true road = refl
  due_by fix false true = road_by found₁ fix
  due_by fix false false = refl

  fix_by : (k : Option TileKey) (fix : Fix) → at_fix_by k e arena f₁ fix ≡ done_by (of_fix k fix due₁ found₁) e arena
  fix_by (Some key) fix = due_by fix due₁.matching due₁.road
  fix_by None fix = refl

  sight_by : (m : Option Fix) → worked_by m e arena f₁ ≡ done_by (of_sight m e.shared.header due₁ found₁) e arena
  unfolding at_fix
  sight_by None = refl
  sight_by (Some fix) = fix_by (key_of e.shared.header fix.lat fix.lon) fix

  need_by : (k : Option TileKey) → ready_by k e arena ≡ done_by (of_need k e.shared.header e.follower.sight.fix due₁ found₁) e arena
  unfolding worked
  need_by (Some key) = refl
  need_by None = sight_by e.follower.sight.fix

  phase_by : (p : Phase) → started_by p e arena ≡ done_by (of_state p e.shared.header e.follower.sight.fix due₁ found₁) e arena
  phase_by Phase.Failed = refl
  phase_by Phase.Unread = refl
  phase_by Phase.Ready = need_by due₁.need

  pub plan_step : e.shared.cache.pending ≡ Pending.Nothing → stepped e arena ≡ done_by (plan_of e) e arena
  unfolding stepped started
  plan_step pending = ap (λ (p : Pending). stepped_by p e arena) pending ∙ phase_by e.shared.phase

-- ---- a road is planned of a match in the grid

abbrev pub road_in : Plan → Header → Bool
road_in (Plan.Road fix found) h = in_grid h found.tile.key
road_in Plan.Rest h = true
road_in Plan.NoPack h = true
road_in Plan.Header h = true
road_in (Plan.Need key) h = true
road_in (Plan.Match fix) h = true
road_in Plan.Roadless h = true
road_in (Plan.Off fix) h = true

module _ (h : Header) (due : Due) where
  road_in_lem : (m : Option Matched) (fix : Fix) → key_ok m h ≡ true → road_in (of_road m fix) h ≡ true
  road_in_lem (Some found) fix ok = ok
  road_in_lem None fix ok = refl

  due_in : (m : Option Matched) (fix : Fix) (matching road : Bool) → key_ok m h ≡ true
      → road_in (cond matching (Plan.Match fix) (cond road (of_road m fix) Plan.Rest)) h ≡ true
  due_in m fix true road ok = refl
  due_in m fix false true ok = road_in_lem m fix ok
  due_in m fix false false ok = refl

  fix_in : (k : Option TileKey) (m : Option Matched) (fix : Fix) → key_ok m h ≡ true → road_in (of_fix k fix due m) h ≡ true
  fix_in (Some key) m fix ok = due_in m fix due.matching due.road ok
  fix_in None m fix ok = refl

  sight_in : (x : Option Fix) (m : Option Matched) → key_ok m h ≡ true → road_in (of_sight x h due m) h ≡ true
  sight_in None m ok = refl
  sight_in (Some fix) m ok = fix_in (key_of h fix.lat fix.lon) m fix ok

  need_in : (k : Option TileKey) (x : Option Fix) (m : Option Matched) → key_ok m h ≡ true → road_in (of_need k h x due m) h ≡ true
  need_in (Some key) x m ok = refl
  need_in None x m ok = sight_in x m ok

pub plan_in : (e : Engine) (n : ℕ) → engine_ok e n ≡ true → road_in (plan_of e) e.shared.header ≡ true
plan_in e n ok = by e.shared.phase refl
  where
    by : (p : Phase) → e.shared.phase ≡ p
        → road_in (of_state p e.shared.header e.follower.sight.fix e.follower.due e.follower.matcher.current) e.shared.header ≡ true
    by Phase.Failed q = refl
    by Phase.Unread q = refl
    by Phase.Ready q =
        need_in e.shared.header e.follower.due e.follower.due.need e.follower.sight.fix e.follower.matcher.current (current_in e n ok q)
