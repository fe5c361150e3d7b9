-- A walk over the first n edges: its start and its turn (`walk_start`, `walk_turn`), and that it stays as it ended (`walk_stays`). Two readers
-- that answer the same, while what they carry stays related, give the same walk (`walk_simulates`). Two looks that agree do so where the walk at
-- the first doesn't end with a key or 12 (`walk_agrees`). The idea: an edge's lookups are made one after the other, and each is ready or missing
-- where the edge doesn't end the walk so.
use Prim.Native.Nat.{ℕ, zero, suc, ◌+◌, ◌-◌, ◌≤◌}
use mathlib.Core.Path.{◌≡◌, refl, sym, ap, subst, ◌∙◌}
use mathlib.Core.Bool.{Bool, true, false, cond, true≢false}
use mathlib.Core.List.{List}
use native.Mathlib.Omega.{arith}
use lib.IntN.{ℤ}
use lib.Ieee.{Float}
use Rattle.num.proofs.FoldLaws.{up_start, up_turn, up_agrees}
use Rattle.pack.specs.declared.Header.{Header}
use Rattle.pack.specs.declared.TileKey.{TileKey}
use Rattle.tile.specs.Layout as Layout
use Rattle.cache.specs.Direct.{Look, ready, missing, absent, stale, settled, Agree}
use Rattle.cache.specs.Reader.{Reader, plain}
use Rattle.predict.specs.declared.outgoing.Leg.{Leg}
use Rattle.predict.specs.declared.Track.{Track}
use Rattle.predict.specs.declared.Trip.{Trip}
use Rattle.predict.specs.Vertex.{Along}
use Rattle.predict.specs.declared.Decision.{Decision}
use Rattle.predict.specs.declared.Ending.{Ending}
use Rattle.predict.specs.Cross.{Ways}
use Rattle.predict.specs.Decide.{decide}
use Rattle.predict.proofs.CrossLaws.{Alike, is_settled, up_simulates, over_simulates, cross_settles}
use Rattle.predict.specs.declared.Walk.{Walk}
use Rattle.predict.specs.Walk.{with_ending, taken, Onto, enter_look, turned, incoming_of, arrival_of, next_look, carried_by, Stride, Run, taken_by, onward_by, ways_over, crossed_over, goes_on, leg_of, along, run_of, crossed_run, reached_run, driven_to, driven, edge_look, edge_step, walk_to}

-- ---- one edge after another

module _ {S : Type 0} (rd : Reader S) (trip : Trip) (budget : ℕ) (r : Run S) where
  pub walk_start : walk_to rd trip budget r 0 ≡ r
  unfolding walk_to
  walk_start = up_start (λ (x : Run S) (i : ℕ). edge_step rd trip budget x) r

  pub walk_turn : (n : ℕ) → walk_to rd trip budget r (n + 1) ≡ edge_step rd trip budget (walk_to rd trip budget r n)
  unfolding walk_to
  walk_turn n = up_turn (λ (x : Run S) (i : ℕ). edge_step rd trip budget x) r n

  edge_stays : (x : Run S) → goes_on x.walk.ending ≡ false → edge_step rd trip budget x ≡ x
  edge_stays x e = rw e

  stays_for : (n k : ℕ) → goes_on (walk_to rd trip budget r n).walk.ending ≡ false → walk_to rd trip budget r (n + k) ≡ walk_to rd trip budget r n
  stays_for n zero e = ap (walk_to rd trip budget r) (omega arith)
  stays_for n (suc k) e =
      let more : n + suc k ≡ (n + k) + 1 = omega arith in
      ap (walk_to rd trip budget r) more ∙ walk_turn (n + k) ∙ ap (edge_step rd trip budget) (stays_for n k e) ∙ edge_stays (walk_to rd trip budget r n) e

  pub walk_stays : (n m : ℕ) → goes_on (walk_to rd trip budget r n).walk.ending ≡ false → n ≤ m → walk_to rd trip budget r m ≡ walk_to rd trip budget r n
  walk_stays n m e h =
      let more : m ≡ n + (m - n) = omega (arith, h) in
      rw more (stays_for n (m - n) e)

-- ---- two readers

-- the same but for what is carried, which is related
pub record AlikeStride {S T : Type 0} (R : S → T → Type 0) (x : Stride S) (y : Stride T) : Type 0 where
  pub walk : y.walk ≡ x.walk
  pub carried : R x.carried y.carried

pub record AlikeRun {S T : Type 0} (R : S → T → Type 0) (x : Run S) (y : Run T) : Type 0 where
  pub walk : y.walk ≡ x.walk
  pub track : y.track ≡ x.track
  pub visited : y.visited ≡ x.visited
  pub met : y.met ≡ x.met
  pub heights : y.heights ≡ x.heights
  pub carried : R x.carried y.carried

module _ {S T : Type 0} (rd : Reader S) (rd' : Reader T) (R : S → T → Type 0)
    (at : (s : S) (t : T) (key : TileKey) → R s t → rd'.at t key ≡ rd.at s key)
    (found : (s : S) (t : T) (key : TileKey) (bs : List ℕ) → R s t → rd.at s key ≡ ready bs → R (rd.found s key) (rd'.found t key))
  where
    look_simulates : (l : Look) (s : S) (t : T) (key : TileKey) → R s t → rd.at s key ≡ l
        → R (carried_by l rd s key) (carried_by l rd' t key)
    look_simulates (ready bs) s t key h e = found s t key bs h e
    look_simulates missing s t key h e = h
    look_simulates absent s t key h e = h
    look_simulates stale s t key h e = h

    taken_simulates : (ending : Ending) (w : Walk) (s : S) (t : T) → R s t → AlikeStride R (taken_by rd ending w s) (taken_by rd' ending w t)
    taken_simulates Ending.Going w s t h =
        rw (at s t w.way.tile h) (record { walk = refl; carried = look_simulates (rd.at s w.way.tile) s t w.way.tile h refl })
    taken_simulates (Ending.Stops end) w s t h = record { walk = refl; carried = h }
    taken_simulates (Ending.Need key) w s t h = record { walk = refl; carried = h }
    taken_simulates Ending.Stale w s t h = record { walk = refl; carried = h }

    onward_simulates : (ending : Ending) (w : Walk) (x : Ways S) (y : Ways T) → Alike R x y
        → AlikeStride R (onward_by rd ending w x) (onward_by rd' ending w y)
    onward_simulates Ending.Going w x y h =
        let d : Decision = decide x.choices x.blocked w.confidence in
        rw (h.choices, h.blocked) (taken_simulates d.ending (taken w d) x.carried y.carried h.carried)
    onward_simulates (Ending.Stops end) w x y h = record { walk = refl; carried = h.carried }
    onward_simulates (Ending.Need key) w x y h = record { walk = refl; carried = h.carried }
    onward_simulates Ending.Stale w x y h = record { walk = refl; carried = h.carried }

    crossed_simulates : (header : Header) (v : List ℕ) (w : Walk) (k : Track) (s : S) (t : T) → R s t → (bs : List ℕ) (leg : Leg)
        → AlikeStride R (crossed_over rd header v w k s bs leg) (crossed_over rd' header v w k t bs leg)
    unfolding crossed_over
    crossed_simulates header v w k s t h bs leg =
        let incoming : Float = incoming_of k w.approach (Layout.head_of bs).lon_um in
        let turn : Walk = turned w leg.edge incoming in
        by turn (ways_over rd header v turn s bs leg incoming) (ways_over rd' header v turn t bs leg incoming)
        (over_simulates rd rd' R at found (arrival_of header turn incoming) v s t h _ _)
      where
        by : (w : Walk) (x : Ways S) (y : Ways T) → Alike R x y → AlikeStride R (onward_by rd x.ending w x) (onward_by rd' y.ending w y)
        by w x y h =
            subst (λ (ending : Ending). AlikeStride R (onward_by rd x.ending w x) (onward_by rd' ending w y)) (sym h.ending)
            (onward_simulates x.ending w x y h)

    module _ (trip : Trip) (budget : ℕ) where
      crossing_simulates : (o : Onto) (k : Track) (s : S) (t : T) → R s t → (bs : List ℕ) (hs : List ℤ)
          → AlikeRun R (crossed_run rd trip budget o k s bs hs) (crossed_run rd' trip budget o k t bs hs)
      crossing_simulates o k s t h bs hs =
          let leg : Leg = leg_of trip.header o.walk.way bs in
          let x : AlikeStride R (crossed_over rd trip.header o.visited o.walk k s bs leg)
          (crossed_over rd' trip.header o.visited o.walk k t bs leg)
          = crossed_simulates trip.header o.visited o.walk k s t h bs leg in
          record { walk = x.walk; track = refl; visited = refl; met = refl; heights = refl; carried = x.carried }

      -- what is carried alone differs
      run_simulates : (o : Onto) (k : Track) (s : S) (t : T) → R s t → (hs : List ℤ)
          → AlikeRun R (run_of o k s hs) (run_of o k t hs)
      run_simulates o k s t h hs = record { walk = refl; track = refl; visited = refl; met = refl; heights = refl; carried = h }

      driven_simulates : (o : Onto) (s : S) (t : T) → R s t → (bs : List ℕ) (a : Along)
          → AlikeRun R (driven_to rd trip budget o s bs a) (driven_to rd' trip budget o t bs a)
      driven_simulates o s t h bs a = by a.track.over
        where
          by : (over : Bool)
              → AlikeRun R
              (cond over (reached_run o a.track s a.heights) (crossed_run rd trip budget o a.track s bs a.heights))
              (cond over (reached_run o a.track t a.heights) (crossed_run rd' trip budget o a.track t bs a.heights))
          by true = record { walk = refl; track = refl; visited = refl; met = refl; heights = refl; carried = h }
          by false = crossing_simulates o a.track s t h bs a.heights

      -- from the same walk, with the same behind it
      edge_simulates : (o : Onto) (k : Track) (hs : List ℤ) (s : S) (t : T) → R s t → (l : Look) → rd.at s o.walk.way.tile ≡ l
          → AlikeRun R (edge_look rd trip budget l (run_of o k s hs)) (edge_look rd' trip budget l (run_of o k t hs))
      edge_simulates o k hs s t h (ready bs) e =
          by (enter_look (ready bs) o.visited o.met o.walk budget)
          (goes_on (enter_look (ready bs) o.visited o.met o.walk budget).walk.ending) (found s t o.walk.way.tile bs h e)
        where
          by : (x : Onto) (goes : Bool) → R (rd.found s o.walk.way.tile) (rd'.found t o.walk.way.tile)
              → AlikeRun R
              (cond goes (driven rd trip budget x k (rd.found s o.walk.way.tile) bs hs)
              (run_of x k (rd.found s o.walk.way.tile) hs))
              (cond goes (driven rd' trip budget x k (rd'.found t o.walk.way.tile) bs hs)
              (run_of x k (rd'.found t o.walk.way.tile) hs))
          by x true h =
              driven_simulates x (rd.found s o.walk.way.tile) (rd'.found t o.walk.way.tile) h bs (along trip x.walk k bs hs)
          by x false h = run_simulates x k (rd.found s o.walk.way.tile) (rd'.found t o.walk.way.tile) h hs
      edge_simulates o k hs s t h missing e =
          run_simulates (enter_look missing o.visited o.met o.walk budget) k s t h hs
      edge_simulates o k hs s t h absent e =
          run_simulates (enter_look absent o.visited o.met o.walk budget) k s t h hs
      edge_simulates o k hs s t h stale e =
          run_simulates (enter_look stale o.visited o.met o.walk budget) k s t h hs

      same_simulates : (o : Onto) (k : Track) (hs : List ℤ) (s : S) (t : T) → R s t
          → AlikeRun R (edge_step rd trip budget (run_of o k s hs)) (edge_step rd' trip budget (run_of o k t hs))
      same_simulates o k hs s t h = rw (at s t o.walk.way.tile h) (by (goes_on o.walk.ending))
        where
          by : (goes : Bool)
              → AlikeRun R
              (cond goes (edge_look rd trip budget (rd.at s o.walk.way.tile) (run_of o k s hs)) (run_of o k s hs))
              (cond goes (edge_look rd' trip budget (rd.at s o.walk.way.tile) (run_of o k t hs)) (run_of o k t hs))
          by true = edge_simulates o k hs s t h (rd.at s o.walk.way.tile) refl
          by false = run_simulates o k s t h hs

      step_simulates : (x : Run S) (y : Run T) → AlikeRun R x y → AlikeRun R (edge_step rd trip budget x) (edge_step rd' trip budget y)
      step_simulates x y h = from y.walk y.track y.visited y.met y.heights h.walk h.track h.visited h.met h.heights
        where
          before : Onto
          before = record { walk = x.walk; visited = x.visited; met = x.met }

          from : (w : Walk) (k : Track) (v m : List ℕ) (hs : List ℤ)
              → w ≡ x.walk → k ≡ x.track → v ≡ x.visited → m ≡ x.met → hs ≡ x.heights
              → AlikeRun R (edge_step rd trip budget x)
              (edge_step rd' trip budget (record { walk = w; track = k; visited = v; met = m; carried = y.carried; heights = hs }))
          from w k v m hs p q r o u =
              rw (p, q, r, o, u) (same_simulates before x.track x.heights x.carried y.carried h.carried)

      pub walk_simulates : (x : Run S) (y : Run T) → AlikeRun R x y → (n : ℕ) → AlikeRun R (walk_to rd trip budget x n) (walk_to rd' trip budget y n)
      unfolding walk_to
      walk_simulates x y h n =
          up_simulates (AlikeRun R) (λ (z : Run S) (i : ℕ). edge_step rd trip budget z) (λ (z : Run T) (i : ℕ). edge_step rd' trip budget z)
          (λ (z : Run S) (w : Run T) (i : ℕ). step_simulates z w) x y h n

-- ---- two looks

-- on to the next tile, by what its lookup answers
abbrev next_by : (TileKey → Look) → Look → Walk → List TileKey → Stride (List TileKey)
next_by at p w s = record { walk = next_look p w; carried = carried_by p (plain at) s w.way.tile }

module _ (one two : TileKey → Look) (agree : Agree one two) where
  next_agrees : (p q : Look) → (settled p ≡ true → q ≡ p) → (w : Walk) (s : List TileKey) → is_settled (next_look p w).ending ≡ true
      → next_by two q w s ≡ next_by one p w s
  unfolding with_ending
  next_agrees (ready bs) q same w s e = rw (same refl)
  next_agrees missing q same w s e = absurd (true≢false (sym e))
  next_agrees absent q same w s e = absurd (true≢false (sym e))
  next_agrees stale q same w s e = absurd (true≢false (sym e))

  taken_agrees : (ending : Ending) (w : Walk) (s : List TileKey) → is_settled (taken_by (plain one) ending w s).walk.ending ≡ true
      → taken_by (plain two) ending w s ≡ taken_by (plain one) ending w s
  taken_agrees Ending.Going w s e = next_agrees (one w.way.tile) (two w.way.tile) (agree w.way.tile) w s e
  taken_agrees (Ending.Stops end) w s e = refl
  taken_agrees (Ending.Need key) w s e = refl
  taken_agrees Ending.Stale w s e = refl

  -- settled after the junction: then its lookups were, and the second look goes on the same
  onward_agrees : (ending : Ending) (w : Walk) (x : Ways (List TileKey)) → x.ending ≡ ending
      → is_settled (onward_by (plain one) ending w x).walk.ending ≡ true
      → (is_settled x.ending ≡ true) × (onward_by (plain two) ending w x ≡ onward_by (plain one) ending w x)
  unfolding with_ending
  onward_agrees Ending.Going w x was e =
      let d : Decision = decide x.choices x.blocked w.confidence in
      (ap is_settled was, taken_agrees d.ending (taken w d) x.carried e)
  onward_agrees (Ending.Stops end) w x was e = (ap is_settled was, refl)
  onward_agrees (Ending.Need key) w x was e = absurd (true≢false (sym e))
  onward_agrees Ending.Stale w x was e = absurd (true≢false (sym e))

  crossed_agrees : (header : Header) (v : List ℕ) (w : Walk) (k : Track) (s : List TileKey) (bs : List ℕ) (leg : Leg)
      → is_settled (crossed_over (plain one) header v w k s bs leg).walk.ending ≡ true
      → crossed_over (plain two) header v w k s bs leg ≡ crossed_over (plain one) header v w k s bs leg
  unfolding crossed_over
  crossed_agrees header v w k s bs leg e =
      let incoming : Float = incoming_of k w.approach (Layout.head_of bs).lon_um in
      let turn : Walk = turned w leg.edge incoming in
      by turn (ways_over (plain one) header v turn s bs leg incoming) (ways_over (plain two) header v turn s bs leg incoming)
      (cross_settles one two agree (arrival_of header turn incoming) v _ _ 8) e
    where
      by : (w : Walk) (x y : Ways (List TileKey)) → (is_settled x.ending ≡ true → y ≡ x)
          → is_settled (onward_by (plain one) x.ending w x).walk.ending ≡ true
          → onward_by (plain two) y.ending w y ≡ onward_by (plain one) x.ending w x
      by w x y same e =
          let o : (is_settled x.ending ≡ true) × (onward_by (plain two) x.ending w x ≡ onward_by (plain one) x.ending w x)
          = onward_agrees x.ending w x refl e in
          rw (same o.0) o.1

  module _ (trip : Trip) (budget : ℕ) where
    driven_agrees : (o : Onto) (s : List TileKey) (bs : List ℕ) (a : Along)
        → is_settled (driven_to (plain one) trip budget o s bs a).walk.ending ≡ true
        → driven_to (plain two) trip budget o s bs a ≡ driven_to (plain one) trip budget o s bs a
    driven_agrees o s bs a e = by a.track.over e
      where
        over : Run (List TileKey)
        over = reached_run o a.track s a.heights

        by : (t : Bool)
            → is_settled (cond t over (crossed_run (plain one) trip budget o a.track s bs a.heights)).walk.ending ≡ true
            → cond t over (crossed_run (plain two) trip budget o a.track s bs a.heights)
            ≡ cond t over (crossed_run (plain one) trip budget o a.track s bs a.heights)
        by true e = refl
        by false e =
            rw (crossed_agrees trip.header o.visited o.walk a.track s bs (leg_of trip.header o.walk.way bs) e)

    edge_agrees : (p q : Look) → (settled p ≡ true → q ≡ p) → (r : Run (List TileKey))
        → is_settled (edge_look (plain one) trip budget p r).walk.ending ≡ true
        → edge_look (plain two) trip budget q r ≡ edge_look (plain one) trip budget p r
    unfolding with_ending
    edge_agrees (ready bs) q same r e =
        rw (same refl)
        (by (enter_look (ready bs) r.visited r.met r.walk budget)
        (goes_on (enter_look (ready bs) r.visited r.met r.walk budget).walk.ending) e)
      where
        s : List TileKey
        s = (plain one).found r.carried r.walk.way.tile

        by : (o : Onto) (goes : Bool)
            → is_settled (cond goes (driven (plain one) trip budget o r.track s bs r.heights)
            (run_of o r.track s r.heights)).walk.ending ≡ true
            → cond goes (driven (plain two) trip budget o r.track s bs r.heights) (run_of o r.track s r.heights)
            ≡ cond goes (driven (plain one) trip budget o r.track s bs r.heights) (run_of o r.track s r.heights)
        by o true e = driven_agrees o s bs (along trip o.walk r.track bs r.heights) e
        by o false e = refl
    edge_agrees missing q same r e = absurd (true≢false (sym e))
    edge_agrees absent q same r e = absurd (true≢false (sym e))
    edge_agrees stale q same r e = absurd (true≢false (sym e))

    -- settled after the edge: then before it too, and the second look takes the same step
    step_agrees : (ending : Ending) (r : Run (List TileKey)) → r.walk.ending ≡ ending
        → is_settled (cond (goes_on ending) (edge_look (plain one) trip budget (one r.walk.way.tile) r) r).walk.ending ≡ true
        → (is_settled r.walk.ending ≡ true)
        × (cond (goes_on ending) (edge_look (plain two) trip budget (two r.walk.way.tile) r) r
        ≡ cond (goes_on ending) (edge_look (plain one) trip budget (one r.walk.way.tile) r) r)
    step_agrees Ending.Going r was e =
        (ap is_settled was, edge_agrees (one r.walk.way.tile) (two r.walk.way.tile) (agree r.walk.way.tile) r e)
    step_agrees (Ending.Stops end) r was e = (e, refl)
    step_agrees (Ending.Need key) r was e = (e, refl)
    step_agrees Ending.Stale r was e = (e, refl)

    pub walk_agrees : (r : Run (List TileKey)) (n : ℕ) → is_settled (walk_to (plain one) trip budget r n).walk.ending ≡ true
        → walk_to (plain two) trip budget r n ≡ walk_to (plain one) trip budget r n
    unfolding walk_to
    walk_agrees r n e =
        up_agrees (λ (x : Run (List TileKey)) (i : ℕ). edge_step (plain one) trip budget x)
        (λ (x : Run (List TileKey)) (i : ℕ). edge_step (plain two) trip budget x) r
        (λ (x : Run (List TileKey)). is_settled x.walk.ending ≡ true)
        (λ (x : Run (List TileKey)) (i : ℕ). step_agrees x.walk.ending x refl) n e
