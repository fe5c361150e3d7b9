-- A match leaves a matcher within its types, over a look that answers bytes (`update_typed`). The idea: a candidate's numbers are read of the tile's bytes or are results of float operations; the
-- match is made of a candidate, and so is a challenger that is new.
use Rattle.tile.specs.declared.TileId.{TileId}
use Rattle.std.proofs.Common.{Option, Some, None}
use Prim.Native.Nat.{ℕ, ◌+◌, ◌*◌, ◌<◌, ◌≤◌}
use mathlib.Core.Path.{◌≡◌, refl, subst}
use mathlib.Core.Bool.{Bool, true, false, ◌&&◌, ◌||◌, not, cond}
use mathlib.Core.List.{List}
use native.Mathlib.Omega.{arith}
use lib.Dec.{ltb}
use lib.IntN.{ℤ, pos, negsuc, ◌+ℤ◌, ◌-ℤ◌}
use lib.Ieee.{Float, binary32, add, mul, lt, le, of_int, to_signed}
use lib.Ieee.Casts.{to_unsigned-lt}
use lib.Ieee.Fits.{cond-fits, add-fits, mul-fits, sub-fits, div-fits}
use lib.ListN.{drop}
use lib.Signed.{lt_z}
use borrow.Author.Tests.{ltb-true}
use Rattle.num.proofs.FoldLaws.{up_keeps}
use Rattle.pack.specs.declared.Header.{Header}
use Rattle.pack.specs.declared.TileKey.{TileKey}
use Rattle.pack.proofs.Laws.{u16_below}
use Rattle.pack.proofs.Signed.{up, dn, lt_false}
use Rattle.tile.specs.Layout as Layout
use Rattle.tile.specs.declared.Edge.{Edge}
use Rattle.geo.specs.Flat.{whole, metres_of, fraction_of, project_of}
use Rattle.geo.specs.declared.Metres.{Metres}
use Rattle.geo.specs.declared.Point.{Point}
use Rattle.geo.specs.declared.Projected.{Projected}
use Rattle.cache.specs.Direct.{Look, ready, missing, absent, stale, look_at, look}
use Rattle.cache.specs.Lookups.{lands_on, run_bytes, passes, len_at}
use Rattle.cache.specs.declared.Cache.{Cache}
use Rattle.cache.specs.declared.look.Landing.{Landing}
use Rattle.matcher.specs.Calls as Calls
use Rattle.matcher.specs.Choose.{least_of, same_edge, kept_at, beaten, contested_by, contested, held, kept_by, chosen_by, past_by, past_node}
use Rattle.matcher.specs.Gather.{Run, look_step, key_step, run_step, no_run, run_to, matching_by, query_of, run_over, update_over}
use Rattle.matcher.specs.Keeping.{no_candidate, none_kept, candidate_in, dearest_of, insert}
use Rattle.matcher.specs.Near.{key_at, near_of}
use Rattle.matcher.specs.Scan.{origin, rejected, is_closer, segment_step, scanned, point_of, along_step, along_to}
use Rattle.matcher.specs.Score.{held_height, height, candidate_at}
use Rattle.matcher.specs.Settle.{confidence, direction, same_run, run_from, ridden, settled, more, missed, matched_by, matched}
use Rattle.matcher.specs.Tile.{kept_with, edge_step, search}
use Rattle.matcher.specs.declared.Candidate.{Candidate}
use Rattle.matcher.specs.declared.Heading.{Heading}
use Rattle.matcher.specs.declared.Kept.{Kept}
use Rattle.matcher.specs.declared.Matched.{Matched}
use Rattle.matcher.specs.declared.Matcher.{Matcher}
use Rattle.matcher.specs.declared.NearKeys.{NearKeys}
use Rattle.matcher.specs.declared.Query.{Query}
use Rattle.matcher.specs.declared.choose.Choice.{Choice}
use Rattle.matcher.specs.declared.choose.Which.TheVariants as Which
use Rattle.matcher.specs.declared.gather.Ending.{Ending}
use Rattle.matcher.proofs.Chosen.{IsBelow, least_below, chosen_kept}
use Rattle.words.specs.Typed.{Byte, Signed, Single, TypedId, TypedMatched, TypedCurrent, TypedChallenger, TypedMatcher}
use Rattle.terrain_lists.specs.Calls.{Bytes}
use Rattle.terrain_lists.proofs.CacheTyped.{bytes_take, bytes_drop}
use Rattle.terrain_lists.proofs.Everywhere.{All, all_set, all_replicate}
use Rattle.terrain_lists.proofs.Numbers.{single_whole, single_max, single_clamp, single_length}
use Rattle.terrain_lists.proofs.Either.{either}

-- ---- what a look answers are bytes

abbrev pub BytesLook : (TileKey → Look) → Type 0
BytesLook at = (key : TileKey) (bs : List ℕ) → at key ≡ ready bs → Bytes bs

pub look_bytes : (c : Cache) (arena : List ℕ) (size : ℕ) → Bytes arena → BytesLook (look c arena size)
unfolding look
look_bytes c arena size a key bs e = by (lands_on c key) e
  where
    run : (i : ℕ) (ok : Bool) → cond ok (ready (run_bytes arena i (len_at c i))) stale ≡ ready bs → Bytes bs
    run i true e =
        let same : run_bytes arena i (len_at c i) ≡ bs = cc in subst Bytes same (bytes_take (len_at c i) (drop (i * 8192) arena) (bytes_drop (i * 8192) arena a))
    run i false e = let z : ◌≡◌ {A = ℕ} 0 1 = cc in absurd (omega arith)

    by : (l : Landing) → look_at l c.pages.slots arena size key ≡ ready bs → Bytes bs
    by Landing.Missing e = let z : ◌≡◌ {A = ℕ} 0 1 = cc in absurd (omega arith)
    by Landing.Nothing e = let z : ◌≡◌ {A = ℕ} 0 1 = cc in absurd (omega arith)
    by (Landing.At i) e = run i (passes arena i (len_at c i) key size) e

-- ---- a projection

fraction_single : (p a : Metres) (dx dy : Float) → Single (fraction_of p a dx dy)
fraction_single p a dx dy =
    cond-fits binary32 (lt (whole 0) (add binary32 (mul binary32 dx dx) (mul binary32 dy dy))) _ _
    (single_clamp _ (whole 0) (whole 1) (div-fits binary32 _ _) (single_whole 0) (single_whole 1)) (single_whole 0)

project_single : (p a b : Metres) → Single (project_of p a b).fraction × Single (project_of p a b).distance
unfolding project_of
project_single p a b = (fraction_single p a _ _, single_length _ _)

-- ---- a candidate

held_signed : (z : ℤ) → Signed (held_height z)
held_signed z = by (lt_z z (negsuc 999999)) (lt_z (pos 1000000) z) refl refl
  where
    inside : (z : ℤ) → up (negsuc 999999) + dn z ≤ up z + dn (negsuc 999999) → up z + dn (pos 1000000) ≤ up (pos 1000000) + dn z → Signed z
    inside (pos n) p q = omega (arith, q)
    inside (negsuc n) p q = omega (arith, p)

    by : (low high : Bool) → lt_z z (negsuc 999999) ≡ low → lt_z (pos 1000000) z ≡ high → Signed (cond low (negsuc 999999) (cond high (pos 1000000) z))
    by true high p q = omega arith
    by false true p q = omega arith
    by false false p q = inside z (lt_false z (negsuc 999999) p) (lt_false (pos 1000000) z q)

height_signed : (za zb : ℤ) (fraction : Float) → Signed (height za zb fraction)
unfolding height
height_signed za zb fraction = held_signed (za +ℤ to_signed 31 (mul binary32 (of_int binary32 (zb -ℤ za)) fraction))

pub record TypedCandidate (c : Candidate) : Type 0 where
  pub found : TypedMatched c.found
  pub along : Single c.along_m

pub KeptTyped : Kept → Type 0
KeptTyped k = All TypedCandidate no_candidate k.v

insert_typed : (k : Kept) (c : Candidate) → KeptTyped k → TypedCandidate c → KeptTyped (insert k c)
unfolding insert KeptTyped
insert_typed k c all t =
    either (λ (x : Kept). All TypedCandidate no_candidate x.v) (ltb k.len 8) _ _
    (all_set TypedCandidate no_candidate k.v k.len c all t)
    (either (λ (x : Kept). All TypedCandidate no_candidate x.v) (lt c.cost (dearest_of k).cost) _ _
    (all_set TypedCandidate no_candidate k.v (dearest_of k).at c all t) all)

module _ (bs : List ℕ) (b : Bytes bs) (q : Query) (lon_um number : ℕ) (below : number < Layout.edges_of bs) where
  id_typed : TypedId (Layout.id_of bs)
  id_typed = ((u16_below bs b _, u16_below bs b _), u16_below bs b _)

  along_single : (e : Edge) (n : _) (count : ℕ) → Single (along_to q.header bs (Layout.id_of bs).key e n lon_um count).metres
  unfolding along_to along_step
  along_single e n count =
      up_keeps (λ (s : _) (i : ℕ). along_step s (point_of q.header bs (Layout.id_of bs).key e (i + 1)) lon_um) _ (λ (s : _). Single s.metres) count
      (mul-fits binary32 n.fraction _)
      (λ i below s t. add-fits binary32 s.metres _)

  candidate_typed : (i : ℕ) (fraction distance : Float) (at to : Metres) → i ≤ (Layout.edge_of bs number).vertices → Single fraction → Single distance
      → TypedCandidate (candidate_at q (Layout.id_of bs) lon_um bs number (record { segment = i; fraction = fraction; distance = distance; a = at; b = to }))
  unfolding candidate_at Layout.edge_of
  candidate_typed i fraction distance at to h f d = record {
    found = record {
      tile = id_typed;
      edge = omega (arith, below, u16_below bs b 10);
      segment = omega (arith, h, u16_below bs b (Layout.edge_start bs number + 8));
      fraction = f;
      offset = d;
      z = height_signed _ _ _;
      class = b _;
      flags = b _;
      confidence = omega arith;
      ridden = single_whole 0;
    };
    along = along_single _ (record { segment = i; fraction = fraction; distance = distance; a = at; b = to }) i;
  }

  -- ---- the edge

  edge_typed : (k : Kept) → KeptTyped k → KeptTyped (edge_step k q (Layout.id_of bs) lon_um bs number)
  unfolding edge_step scanned segment_step
  edge_typed k all =
      let e : Edge = Layout.edge_of bs number in
      let key : TileKey = (Layout.id_of bs).key in
      up_keeps (λ (s : _) (i : ℕ). segment_step s (metres_of (point_of q.header bs key e (i + 1)) q.fix lon_um) i) _
      (λ (s : _). KeptTyped (kept_with s.nearest k q (Layout.id_of bs) lon_um bs number)) (e.vertices + 1) all
      (λ i h s t.
      let to : Metres = metres_of (point_of q.header bs key e (i + 1)) q.fix lon_um in
      let p : Projected = project_of origin s.at to in
      either (λ (x : _). KeptTyped (kept_with x k q (Layout.id_of bs) lon_um bs number)) (rejected s.at to) s.nearest _ t
      (either (λ (x : _). KeptTyped (kept_with x k q (Layout.id_of bs) lon_um bs number)) (is_closer s.nearest p.distance) _ s.nearest
      (insert_typed k _ all (candidate_typed i p.fraction p.distance s.at to (omega (arith, h)) (project_single origin s.at to).0 (project_single origin s.at to).1)) t))

-- the tile's edges
search_typed : (q : Query) (bs : List ℕ) → Bytes bs → (k : Kept) → KeptTyped k → KeptTyped (search k q bs)
unfolding search
search_typed q bs b k all =
    up_keeps (λ (d : Kept) (number : ℕ). edge_step d q (Layout.id_of bs) (Layout.head_of bs).lon_um bs number) k KeptTyped (Layout.edges_of bs) all
    (λ (number : ℕ) (below : number < Layout.edges_of bs) (d : Kept) (t : KeptTyped d). edge_typed bs b q (Layout.head_of bs).lon_um number below d t)

-- ---- the lookups

none_typed : KeptTyped none_kept
unfolding KeptTyped
none_typed = all_replicate TypedCandidate no_candidate 8 no_candidate free free
  where
    free : TypedCandidate no_candidate
    free = record {
      found = record {
        tile = ((omega arith, omega arith), omega arith);
        edge = omega arith;
        segment = omega arith;
        fraction = single_whole 0;
        offset = single_whole 0;
        z = omega arith;
        class = omega arith;
        flags = omega arith;
        confidence = omega arith;
        ridden = single_whole 0;
      };
      along = single_whole 0;
    }

module _ (at : TileKey → Look) (bytes : BytesLook at) (q : Query) where
  look_typed : (x : Look) (r : Run) (key : TileKey) → at key ≡ x → KeptTyped r.kept → KeptTyped (look_step x r q key).kept
  look_typed (ready bs) r key e t = search_typed q bs (bytes key bs e) r.kept t
  look_typed missing r key e t = t
  look_typed absent r key e t = t
  look_typed stale r key e t = t

  key_typed : (m : Option TileKey) (r : Run) → KeptTyped r.kept → KeptTyped (key_step m at r q).kept
  key_typed None r t = t
  key_typed (Some key) r t = look_typed (at key) r key refl t

  step_typed : (end : Ending) (m : Option TileKey) (r : Run) → KeptTyped r.kept → KeptTyped (run_step end m at r q).kept
  step_typed Ending.All m r t = key_typed m r t
  step_typed (Ending.Need key) m r t = t
  step_typed Ending.Stale m r t = t

  run_typed : (near : NearKeys) (n : ℕ) → KeptTyped (run_to at near q n).kept
  unfolding run_to
  run_typed near n =
      up_keeps (λ (r : Run) (i : ℕ). run_step r.end (key_at near i) at r q) no_run (λ (r : Run). KeptTyped r.kept) n none_typed
      (λ (i : ℕ) (below : i < n) (r : Run). step_typed r.end (key_at near i) r)

-- ---- the challenger

abbrev Faces : Choice → Type 0
Faces x = TypedChallenger x.challenger

contested_typed : (n : ℕ) (top kept : Candidate) → TypedCandidate top → Faces (contested_by n top kept)
contested_typed n top kept t = by (ltb n 2) refl
  where
    by : (b : Bool) → ltb n 2 ≡ b
        → Faces (cond {A = Choice} b (record { chosen = kept; challenger = Some (top.found.tile, top.found.edge, n) })
        (record { chosen = top; challenger = None }))
    by true e = (t.found.tile, (t.found.edge, omega (arith, ltb-true n 2 e)))
    by false e = tt

module _ (k : Kept) (top : Candidate) (t : TypedCandidate top) (was : Option (TileId × ℕ × ℕ)) (w : TypedChallenger was) where
  kept_faces : (x : Option ℕ) (m : Matched) → Faces (kept_by x k top m was)
  unfolding held contested
  kept_faces None m = w
  kept_faces (Some i) m =
      either Faces (top.joined && not (same_edge top m)) _ _ tt
      (either Faces (same_edge top m || le (candidate_in k i).cost (add binary32 top.cost (whole 1))) _ _ tt
      (contested_typed (beaten was top) top (candidate_in k i) t))

  chosen_faces : (current : Option Matched) → Faces (chosen_by current k top was)
  chosen_faces None = w
  chosen_faces (Some m) = kept_faces (kept_at k m) m

past_faces : (x : Option ℕ) (choice : Choice) (k : Kept) → Faces choice → Faces (past_by x choice k)
past_faces None choice k t = t
past_faces (Some i) choice k t = tt

node_faces : (choice : Choice) (k : Kept) → Faces choice → Faces (past_node choice k)
unfolding past_node
node_faces choice k t =
    either Faces choice.chosen.at_node _ _
    (past_faces (least_of k (Which.Past (add binary32 choice.chosen.cost (whole 2)))) choice k t) t

-- ---- the matcher afterwards

ridden_single : (forward : Option Bool) (along from : Float) → Single (ridden forward along from)
ridden_single None along from = single_whole 0
ridden_single (Some b) along from =
    single_max _ (whole 0) (cond-fits binary32 b _ _ (sub-fits binary32 along from) (sub-fits binary32 from along)) (single_whole 0)

settled_typed : (m : Matcher) (k : Kept) (choice : Choice) (heading : Heading) → TypedMatcher m → TypedCandidate choice.chosen → Faces choice
    → TypedMatcher (settled m k choice heading)
unfolding settled confidence
settled_typed m k choice heading t c f =
    let forward : Option Bool = direction choice.chosen.found m.current in
    let from : Single (run_from m choice.chosen forward) = cond-fits binary32 (same_run m.current choice.chosen.found forward) _ _ t.run c.along in
    record {
      current = record {
        tile = c.found.tile;
        edge = c.found.edge;
        segment = c.found.segment;
        fraction = c.found.fraction;
        offset = c.found.offset;
        z = c.found.z;
        class = c.found.class;
        flags = c.found.flags;
        confidence = to_unsigned-lt 8 _;
        ridden = ridden_single forward choice.chosen.along_m _;
      };
      challenger = f;
      misses = omega arith;
      run = from;
    }

more_byte : (n : ℕ) → Byte (more n)
more_byte n = by (ltb n 255) refl
  where
    by : (b : Bool) → ltb n 255 ≡ b → Byte (cond b (n + 1) 255)
    by true e = omega (arith, ltb-true n 255 e)
    by false e = omega arith

missed_typed : (m : Matcher) → TypedMatcher m → TypedMatcher (missed m)
unfolding missed
missed_typed m t = record {
  current = either TypedCurrent (ltb (more m.misses) 3) m.current None t.current tt;
  challenger = tt;
  misses = more_byte m.misses;
  run = t.run;
}

matched_typed : (x : Option ℕ) (m : Matcher) (k : Kept) (heading : Heading) → KeptTyped k → IsBelow k.len x → TypedMatcher m → TypedMatcher (matched_by x m k heading)
unfolding KeptTyped
matched_typed None m k heading all below t = missed_typed m t
matched_typed (Some i) m k heading all below t =
    settled_typed m k (past_node (chosen_by m.current k (candidate_in k i) m.challenger) k) heading t
    (chosen_kept TypedCandidate k (λ (j : ℕ) (h : j < k.len). all j) m.current m.challenger i below)
    (node_faces (chosen_by m.current k (candidate_in k i) m.challenger) k (chosen_faces k (candidate_in k i) (all i) m.challenger t.challenger m.current))

matching_typed : (end : Ending) (k : Kept) (m : Matcher) (heading : Heading) → KeptTyped k → TypedMatcher m → TypedMatcher (matching_by end k m heading).matcher
unfolding matched
matching_typed Ending.All k m heading all t = matched_typed (least_of k Which.All) m k heading all (least_below k Which.All) t
matching_typed (Ending.Need key) k m heading all t = t
matching_typed Ending.Stale k m heading all t = t

pub update_typed : (at : TileKey → Look) → BytesLook at → (m : Matcher) (h : Header) (fix : Point) (heading : Heading) → TypedMatcher m
    → TypedMatcher (update_over at m h fix heading).matcher
unfolding update_over
update_typed at bytes m h fix heading t =
    let r : Run = run_over at m h fix heading in
    matching_typed r.end r.kept m heading (run_typed at bytes (query_of m h fix heading) (near_of h fix) 4) t

pub reset_typed : TypedMatcher Calls.reset
reset_typed = record { current = tt; challenger = tt; misses = omega arith; run = single_whole 0 }
