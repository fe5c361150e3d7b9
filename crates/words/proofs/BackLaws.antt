-- An engine is read back from its words (`engine_words`), so its words are accepted (`accepted-words`). The idea: dropping what stands before a piece leaves the piece and the rest; the
-- piece's own reader then meets the piece's own words.
use Rattle.engine.specs.declared.Fix.{Fix}
use Rattle.tile.specs.declared.TileId.{TileId}
use Rattle.std.specs.Prelude.{Option, Some, None}
use Rattle.cache.specs.declared.Loading.{Loading}
use Rattle.pack.specs.declared.TileKey.{TileKey}
use Rattle.std.proofs.Common.{◌≡◌, ℕ, ◌+◌, ◌*◌, ◌%◌, ◌<◌, true, List, [], ◌∷◌, ◌++◌, length, get_or, drop, ℤ, pos, sym, refl, ap, ◌∙◌, append-nil, arith}
use Rattle.num.specs.Cast.{bits32}
use Rattle.pack.specs.Bytes.{signed32}
use Rattle.pack.specs.declared.Header.{Header}
use Rattle.geo.specs.declared.Point.{Point}
use Rattle.cache.specs.Keys.{empty_place}
use Rattle.cache.specs.Runs.{empty_slot}
use Rattle.cache.specs.declared.Cache.{Cache}
use Rattle.cache.specs.declared.Pages.{Pages}
use Rattle.cache.specs.declared.Pending.{Pending}
use Rattle.cache.specs.declared.Ring.{Ring}
use Rattle.cache.specs.declared.Slot.{Slot}
use Rattle.matcher.specs.declared.Heading.{Heading}
use Rattle.matcher.specs.declared.Matched.{Matched}
use Rattle.matcher.specs.declared.Matcher.{Matcher}
use Rattle.engine.specs.declared.Ahead.{Ahead}
use Rattle.engine.specs.declared.Due.{Due}
use Rattle.engine.specs.declared.Engine.{Engine}
use Rattle.engine.specs.declared.Follower.{Follower}
use Rattle.engine.specs.declared.Places.{Places}
use Rattle.engine.specs.declared.Shared.{Shared}
use Rattle.engine.specs.declared.Sight.{Sight}
use Rattle.words.specs.Typed.{Height, TypedHeader, TypedSlot, TypedPages, TypedRing, TypedLoading, TypedPending, TypedCache, TypedFix, TypedPlaces, TypedHeading, TypedSight, TypedMatched, TypedCurrent, TypedChallenger, TypedMatcher, TypedDue, TypedAhead, TypedShared, TypedFollower, Typed}
use Rattle.words.specs.Words.{table, spread, flat, from, bit, is_set, low_word, high_word, long_of, float_word, float_of, height_of, key_tag, key_held, maybe_key_words, maybe_key_of, phase_word, phase_of, header_words, header_by, slot_words, slot_by, slots_words, used_words, pages_words, pages_of, keys_words, ring_words, place_by, ring_of, loading_words, loading_by, pending_words, pending_of, cache_words, cache_of, shared_words, shared_of, fix_words, fix_by, point_words, point_by, no_point, points_words, places_words, places_of, heading_words, heading_of, sight_words, sight_of, matched_by, current_words, current_by, challenger_words, challenger_by, matcher_words, matcher_of, time_words, time_of, due_words, due_of, heights_words, heights_of, end_word, end_of, ahead_words, ahead_of, follower_words, follower_of, words, engine_of, accepted}
use Rattle.words.proofs.NumberLaws.{long_back, word_back, short_back, byte_back, signed_back, height_back, float_back, key_back, bit_back, maybe_back, phase_back, forward_back, end_back, slot_back}
use Rattle.words.proofs.PieceLaws.{slots_long, used_long, keys_long, points_long, heights_long, pages_long, ring_long, loading_long, pending_long, shared_long, fix_long, places_long, heading_long, sight_long, current_long, challenger_long, matcher_long, time_long, due_long, ahead_long}
use Rattle.words.proofs.SameLaws.{same_self}
use Rattle.words.proofs.TripLaws.{from_is, at_is, here, next, table_back, word_of}

-- ---- the pack

header_by_lem : (h : Header) → TypedHeader h → (zs : List ℕ) → header_by (λ (k : ℕ). get_or (header_words h ++ zs) k 0) ≡ h
header_by_lem h t zs =
    rw (
      signed_back h.south t.south,
      signed_back h.west t.west,
      short_back h.rows t.rows,
      short_back h.cols t.cols,
      long_back h.created,
    )

-- ---- the cache

abbrev slot_piece : Pages → ℕ → List ℕ
slot_piece g i = slot_words (get_or g.slots i empty_slot)

abbrev age_piece : Pages → ℕ → List ℕ
age_piece g i = get_or g.used i 0 ∷ []

-- a slot that is read back from its words, and pages of such slots
abbrev pub SlotBack : Slot → Type 0
SlotBack s = slot_by (λ (k : ℕ). get_or (slot_words s) k 0) ≡ s

pub record PagesBack (g : Pages) : Type 0 where
  pub slots : length g.slots ≡ 96
  pub slot : (i : ℕ) → i < 96 → SlotBack (get_or g.slots i empty_slot)
  pub used : length g.used ≡ 96
  pub count : low_word g.count ≡ g.count

pub typed_slot : (s : Slot) → TypedSlot s → SlotBack s
typed_slot s t = slot_back s t (λ (k : ℕ). get_or (slot_words s) k 0) refl refl refl

typed_pages : (g : Pages) → TypedPages g → PagesBack g
typed_pages g t = record {
  slots = t.slots;
  slot = λ (i : ℕ) (h : i < 96). typed_slot (get_or g.slots i empty_slot) (t.slot i h);
  used = t.used;
  count = word_back g.count t.count;
}

-- a slot is read from three words
pub slot_by_lem : (u w : ℕ → ℕ) → u 0 ≡ w 0 → u 1 ≡ w 1 → u 2 ≡ w 2 → slot_by u ≡ slot_by w
slot_by_lem u w a b c = rw (a, b, c)

slots_back : (g : Pages) → PagesBack g → (ws zs : List ℕ) → drop 15 ws ≡ slots_words g.slots ++ zs → table (λ (i : ℕ). slot_by (from ws (15 + 3 * i))) 96 ≡ g.slots
unfolding slots_words
slots_back g t ws zs e =
    table_back (λ (i : ℕ). slot_by (from ws (15 + 3 * i))) empty_slot g.slots 96 t.slots
    (λ (i : ℕ) (h : i < 96).
    slot_by_lem (from ws (15 + 3 * i)) (λ (k : ℕ). get_or (slot_piece g i) k 0) (word i h 0 (omega arith)) (word i h 1 (omega arith)) (word i h 2 (omega arith))
    ∙ t.slot i h)
  where
    word : (i : ℕ) → i < 96 → (k : ℕ) → k < 3 → from ws (15 + 3 * i) k ≡ get_or (slot_piece g i) k 0
    word i h k l = word_of (slot_piece g) 3 (λ (j : ℕ). refl) ws 15 96 zs e i k h l

-- arrays of one word a place
ones_back : {A : Type 0} (f : A → ℕ) (d : A) (read : ℕ → A) (xs : List A) (n at : ℕ) (ws zs : List ℕ) → length xs ≡ n
    → ((i : ℕ) → i < n → read (f (get_or xs i d)) ≡ get_or xs i d) → drop at ws ≡ spread (λ (i : ℕ). f (get_or xs i d) ∷ []) n ++ zs
    → table (λ (i : ℕ). read (get_or ws (at + i) 0)) n ≡ xs
ones_back f d read xs n at ws zs l back e = table_back (λ (i : ℕ). read (get_or ws (at + i) 0)) d xs n l (λ (i : ℕ) (h : i < n). ap read (word i h) ∙ back i h)
  where
    word : (i : ℕ) → i < n → get_or ws (at + i) 0 ≡ f (get_or xs i d)
    word i h =
        let far : at + i ≡ at + 1 * i + 0 = omega arith in
        ap (λ (k : ℕ). get_or ws k 0) far ∙ word_of (λ (j : ℕ). f (get_or xs j d) ∷ []) 1 (λ (j : ℕ). refl) ws at n zs e i 0 h (omega arith)

used_back : (g : Pages) → PagesBack g → (ws zs : List ℕ) → drop 303 ws ≡ used_words g.used ++ zs → table (λ (i : ℕ). get_or ws (303 + i) 0) 96 ≡ g.used
unfolding used_words
used_back g t ws zs e = ones_back (λ (n : ℕ). n) 0 (λ (n : ℕ). n) g.used 96 303 ws zs t.used (λ (i : ℕ) (h : i < 96). refl) e

pub pages_back : (g : Pages) → PagesBack g → (ws zs : List ℕ) → drop 15 ws ≡ pages_words g ++ zs → pages_of ws 15 ≡ g
unfolding pages_words pages_of
pages_back g t ws zs e =
    let c : List ℕ = low_word g.count ∷ g.clock ∷ [] in
    let e2 : drop 303 ws ≡ flat (used_words g.used ∷ c ∷ []) ++ zs = next ws 15 (slots_words g.slots) (used_words g.used ∷ c ∷ []) zs e 288 (slots_long g.slots) in
    let e3 : drop 399 ws ≡ flat (c ∷ []) ++ zs = next ws 303 (used_words g.used) (c ∷ []) zs e2 96 (used_long g.used) in
    let count : get_or ws 399 0 ≡ g.count = at_is ws 399 (flat (c ∷ []) ++ zs) e3 0 ∙ t.count in
    let clock : get_or ws 400 0 ≡ g.clock = at_is ws 399 (flat (c ∷ []) ++ zs) e3 1 in
    rw (
      slots_back g t ws (flat (used_words g.used ∷ c ∷ []) ++ zs) (here ws 15 (slots_words g.slots) (used_words g.used ∷ c ∷ []) zs e),
      used_back g t ws (flat (c ∷ []) ++ zs) (here ws 303 (used_words g.used) (c ∷ []) zs e2),
      count,
      clock,
    )

place_by_lem : (p : Option TileKey) (w : ℕ → ℕ) → w 0 ≡ key_tag p → w 1 ≡ key_held p → maybe_key_of (key_tag p) (key_held p) ≡ p → place_by w ≡ p
place_by_lem p w a b m = rw (a, b, m)

keys_back : (r : Ring) → TypedRing r → (ws zs : List ℕ) → drop 401 ws ≡ keys_words r.keys ++ zs → table (λ (i : ℕ). place_by (from ws (401 + 2 * i))) 64 ≡ r.keys
unfolding keys_words
keys_back r t ws zs e =
    table_back (λ (i : ℕ). place_by (from ws (401 + 2 * i))) empty_place r.keys 64 t.keys
    (λ (i : ℕ) (h : i < 64).
    place_by_lem (get_or r.keys i empty_place) (from ws (401 + 2 * i)) (word i h 0 (omega arith)) (word i h 1 (omega arith)) (maybe_back (get_or r.keys i empty_place) (t.key i h)))
  where
    word : (i : ℕ) → i < 64 → (k : ℕ) → k < 2 → from ws (401 + 2 * i) k ≡ get_or (maybe_key_words (get_or r.keys i empty_place)) k 0
    word i h k l = word_of (λ (j : ℕ). maybe_key_words (get_or r.keys j empty_place)) 2 (λ (j : ℕ). refl) ws 401 64 zs e i k h l

ring_back : (r : Ring) → TypedRing r → (ws zs : List ℕ) → drop 401 ws ≡ ring_words r ++ zs → ring_of ws 401 ≡ r
unfolding ring_words ring_of
ring_back r t ws zs e =
    let c : List ℕ = low_word r.next ∷ [] in
    let e2 : drop 529 ws ≡ flat (c ∷ []) ++ zs = next ws 401 (keys_words r.keys) (c ∷ []) zs e 128 (keys_long r.keys) in
    let n : get_or ws 529 0 ≡ r.next = at_is ws 529 (flat (c ∷ []) ++ zs) e2 0 ∙ word_back r.next t.next in
    rw (keys_back r t ws (flat (c ∷ []) ++ zs) (here ws 401 (keys_words r.keys) (c ∷ []) zs e), n)

loading_by_lem : (l : Option Loading) → TypedLoading l → (zs : List ℕ) → loading_by (λ (k : ℕ). get_or (loading_words l ++ zs) k 0) ≡ l
loading_by_lem None t zs = refl
loading_by_lem (Some l) t zs = rw (key_back l.key t.0, word_back l.slot t.1)

pending_by : (p : Pending) → TypedPending p → (zs : List ℕ) → pending_of (get_or (pending_words p ++ zs) 0 0) (get_or (pending_words p ++ zs) 1 0) ≡ p
pending_by Pending.Nothing t zs = refl
pending_by Pending.Header t zs = refl
pending_by (Pending.Entry k) t zs = ap Pending.Entry (key_back k t)
pending_by Pending.Chunk t zs = refl

cache_back : (c : Cache) → TypedCache c → (ws zs : List ℕ) → drop 15 ws ≡ cache_words c ++ zs → cache_of ws 15 ≡ c
unfolding cache_words cache_of
cache_back c t ws zs e =
    let p : List ℕ = pages_words c.pages in
    let r : List ℕ = ring_words c.missing in
    let l : List ℕ = loading_words c.loading in
    let d : List ℕ = pending_words c.pending in
    let o : List ℕ = c.loads ∷ [] in
    let e2 : drop 401 ws ≡ flat (r ∷ l ∷ d ∷ o ∷ []) ++ zs = next ws 15 p (r ∷ l ∷ d ∷ o ∷ []) zs e 386 (pages_long c.pages) in
    let e3 : drop 530 ws ≡ flat (l ∷ d ∷ o ∷ []) ++ zs = next ws 401 r (l ∷ d ∷ o ∷ []) zs e2 129 (ring_long c.missing) in
    let e4 : drop 536 ws ≡ flat (d ∷ o ∷ []) ++ zs = next ws 530 l (d ∷ o ∷ []) zs e3 6 (loading_long c.loading) in
    let e5 : drop 538 ws ≡ flat (o ∷ []) ++ zs = next ws 536 d (o ∷ []) zs e4 2 (pending_long c.pending) in
    let h3 : drop 530 ws ≡ l ++ (flat (d ∷ o ∷ []) ++ zs) = here ws 530 l (d ∷ o ∷ []) zs e3 in
    let h4 : drop 536 ws ≡ d ++ (flat (o ∷ []) ++ zs) = here ws 536 d (o ∷ []) zs e4 in
    let loading : loading_by (from ws 530) ≡ c.loading = ap loading_by (from_is ws 530 (l ++ (flat (d ∷ o ∷ []) ++ zs)) h3) ∙ loading_by_lem c.loading t.loading (flat (d ∷ o ∷ []) ++ zs) in
    let pending : pending_of (get_or ws 536 0) (get_or ws 537 0) ≡ c.pending =
    rw (at_is ws 536 (d ++ (flat (o ∷ []) ++ zs)) h4 0, at_is ws 536 (d ++ (flat (o ∷ []) ++ zs)) h4 1) (pending_by c.pending t.pending (flat (o ∷ []) ++ zs)) in
    let loads : get_or ws 538 0 ≡ c.loads = at_is ws 538 (flat (o ∷ []) ++ zs) e5 0 in
    rw (
      pages_back c.pages (typed_pages c.pages t.pages) ws (flat (r ∷ l ∷ d ∷ o ∷ []) ++ zs) (here ws 15 p (r ∷ l ∷ d ∷ o ∷ []) zs e),
      ring_back c.missing t.missing ws (flat (l ∷ d ∷ o ∷ []) ++ zs) (here ws 401 r (l ∷ d ∷ o ∷ []) zs e2),
      loading,
      pending,
      loads,
    )

shared_back : (s : Shared) → TypedShared s → (ws zs : List ℕ) → drop 0 ws ≡ shared_words s ++ zs → shared_of ws ≡ s
unfolding shared_words shared_of
shared_back s t ws zs e =
    let f : List ℕ = 1 ∷ phase_word s.phase ∷ [] in
    let h : List ℕ = header_words s.header in
    let c : List ℕ = cache_words s.cache in
    let e2 : drop 2 ws ≡ flat (h ∷ c ∷ []) ++ zs = next ws 0 f (h ∷ c ∷ []) zs e 2 refl in
    let e3 : drop 15 ws ≡ flat (c ∷ []) ++ zs = next ws 2 h (c ∷ []) zs e2 13 refl in
    let phase : phase_of (get_or ws 1 0) ≡ s.phase = ap phase_of (at_is ws 0 (flat (f ∷ h ∷ c ∷ []) ++ zs) e 1) ∙ phase_back s.phase in
    let header : header_by (from ws 2) ≡ s.header =
    ap header_by (from_is ws 2 (h ++ (flat (c ∷ []) ++ zs)) (here ws 2 h (c ∷ []) zs e2)) ∙ header_by_lem s.header t.header (flat (c ∷ []) ++ zs) in
    rw (phase, header, cache_back s.cache t.cache ws (flat [] ++ zs) (here ws 15 c [] zs e3))

-- ---- the fixes

fix_by_lem : (f : Option Fix) → TypedFix f → (zs : List ℕ) → fix_by (λ (k : ℕ). get_or (fix_words f ++ zs) k 0) ≡ f
fix_by_lem None t zs = refl
fix_by_lem (Some f) t zs = rw (signed_back f.lat t.0, signed_back f.lon t.1, long_back f.at_ms)

point_by_lem : (p : Point) (w : ℕ → ℕ) → w 0 ≡ bits32 p.lat → w 1 ≡ bits32 p.lon → signed32 (bits32 p.lat) ≡ p.lat → signed32 (bits32 p.lon) ≡ p.lon
    → point_by w ≡ p
point_by_lem p w a b x y = rw (a, b, x, y)

points_back : (h : Places) → TypedPlaces h → (ws zs : List ℕ) → drop 544 ws ≡ points_words h.v ++ zs → table (λ (i : ℕ). point_by (from ws (544 + 2 * i))) 16 ≡ h.v
unfolding points_words
points_back h t ws zs e =
    table_back (λ (i : ℕ). point_by (from ws (544 + 2 * i))) no_point h.v 16 t.v
    (λ (i : ℕ) (l : i < 16).
    point_by_lem (get_or h.v i no_point) (from ws (544 + 2 * i)) (word i l 0 (omega arith)) (word i l 1 (omega arith))
    (signed_back (get_or h.v i no_point).lat (t.point i l).0) (signed_back (get_or h.v i no_point).lon (t.point i l).1))
  where
    word : (i : ℕ) → i < 16 → (k : ℕ) → k < 2 → from ws (544 + 2 * i) k ≡ get_or (point_words (get_or h.v i no_point)) k 0
    word i l k m = word_of (λ (j : ℕ). point_words (get_or h.v j no_point)) 2 (λ (j : ℕ). refl) ws 544 16 zs e i k l m

places_back : (h : Places) → TypedPlaces h → (ws zs : List ℕ) → drop 544 ws ≡ places_words h ++ zs → places_of ws 544 ≡ h
unfolding places_words places_of
places_back h t ws zs e =
    let c : List ℕ = low_word h.len ∷ [] in
    let e2 : drop 576 ws ≡ flat (c ∷ []) ++ zs = next ws 544 (points_words h.v) (c ∷ []) zs e 32 (points_long h.v) in
    let n : get_or ws 576 0 ≡ h.len = at_is ws 576 (flat (c ∷ []) ++ zs) e2 0 ∙ word_back h.len t.len in
    rw (points_back h t ws (flat (c ∷ []) ++ zs) (here ws 544 (points_words h.v) (c ∷ []) zs e), n)

heading_by : (h : Heading) → TypedHeading h → (zs : List ℕ) → heading_of (get_or (heading_words h ++ zs) 0 0) (get_or (heading_words h ++ zs) 1 0) ≡ h
heading_by Heading.Nothing t zs = refl
heading_by (Heading.Degrees d) t zs = ap Heading.Degrees (float_back d t)

sight_back : (s : Sight) → TypedSight s → (ws zs : List ℕ) → drop 539 ws ≡ sight_words s ++ zs → sight_of ws 539 ≡ s
unfolding sight_words sight_of
sight_back s t ws zs e =
    let f : List ℕ = fix_words s.fix in
    let p : List ℕ = places_words s.history in
    let h : List ℕ = heading_words s.heading in
    let a : List ℕ = low_word s.heading_at ∷ high_word s.heading_at ∷ [] in
    let e2 : drop 544 ws ≡ flat (p ∷ h ∷ a ∷ []) ++ zs = next ws 539 f (p ∷ h ∷ a ∷ []) zs e 5 (fix_long s.fix) in
    let e3 : drop 577 ws ≡ flat (h ∷ a ∷ []) ++ zs = next ws 544 p (h ∷ a ∷ []) zs e2 33 (places_long s.history) in
    let e4 : drop 579 ws ≡ flat (a ∷ []) ++ zs = next ws 577 h (a ∷ []) zs e3 2 (heading_long s.heading) in
    let h3 : drop 577 ws ≡ h ++ (flat (a ∷ []) ++ zs) = here ws 577 h (a ∷ []) zs e3 in
    let fix : fix_by (from ws 539) ≡ s.fix =
    ap fix_by (from_is ws 539 (f ++ (flat (p ∷ h ∷ a ∷ []) ++ zs)) (here ws 539 f (p ∷ h ∷ a ∷ []) zs e)) ∙ fix_by_lem s.fix t.fix (flat (p ∷ h ∷ a ∷ []) ++ zs) in
    let heading : heading_of (get_or ws 577 0) (get_or ws 578 0) ≡ s.heading =
    rw (at_is ws 577 (h ++ (flat (a ∷ []) ++ zs)) h3 0, at_is ws 577 (h ++ (flat (a ∷ []) ++ zs)) h3 1) (heading_by s.heading t.heading (flat (a ∷ []) ++ zs)) in
    let time : long_of (get_or ws 579 0) (get_or ws 580 0) ≡ s.heading_at =
    rw (at_is ws 579 (flat (a ∷ []) ++ zs) e4 0, at_is ws 579 (flat (a ∷ []) ++ zs) e4 1) (long_back s.heading_at) in
    rw (fix, places_back s.history t.history ws (flat (h ∷ a ∷ []) ++ zs) (here ws 544 p (h ∷ a ∷ []) zs e2), heading, time)

-- ---- the match

matched_by_lem : (m : Matched) → TypedMatched m → (zs : List ℕ) → matched_by (λ (k : ℕ). get_or (current_words (Some m) ++ zs) k 0) ≡ m
matched_by_lem m t zs =
    rw (
      key_back m.tile.key t.tile.0,
      short_back m.tile.edges t.tile.1,
      short_back m.edge t.edge,
      short_back m.segment t.segment,
      float_back m.fraction t.fraction,
    )
    (rw (
      forward_back m.forward,
      float_back m.offset_m t.offset,
      signed_back m.z_dm t.z,
      byte_back m.class t.class,
      byte_back m.flags t.flags,
      byte_back m.confidence t.confidence,
      float_back m.ridden_m t.ridden,
    ))

current_by_lem : (c : Option Matched) → TypedCurrent c → (zs : List ℕ) → current_by (λ (k : ℕ). get_or (current_words c ++ zs) k 0) ≡ c
unfolding current_by
current_by_lem None t zs = refl
current_by_lem (Some m) t zs = ap Some (matched_by_lem m t zs)

current_back : (c : Option Matched) → TypedCurrent c → (ws : List ℕ) (at : ℕ) (zs : List ℕ) → drop at ws ≡ current_words c ++ zs → current_by (from ws at) ≡ c
current_back c t ws at zs e = ap current_by (from_is ws at (current_words c ++ zs) e) ∙ current_by_lem c t zs

challenger_by_lem : (c : Option (TileId × ℕ × ℕ)) → TypedChallenger c → (zs : List ℕ) → challenger_by (λ (k : ℕ). get_or (challenger_words c ++ zs) k 0) ≡ c
challenger_by_lem None t zs = refl
challenger_by_lem (Some (i, e, n)) t zs =
    rw (key_back i.key t.0.0, short_back i.edges t.0.1, short_back e t.1.0, byte_back n t.1.1)

matcher_back : (m : Matcher) → TypedMatcher m → (ws zs : List ℕ) → drop 581 ws ≡ matcher_words m ++ zs → matcher_of ws 581 ≡ m
unfolding matcher_words matcher_of
matcher_back m t ws zs e =
    let c : List ℕ = current_words m.current in
    let d : List ℕ = challenger_words m.challenger in
    let r : List ℕ = m.misses ∷ float_word m.run_from_m ∷ [] in
    let e2 : drop 595 ws ≡ flat (d ∷ r ∷ []) ++ zs = next ws 581 c (d ∷ r ∷ []) zs e 14 (current_long m.current) in
    let e3 : drop 601 ws ≡ flat (r ∷ []) ++ zs = next ws 595 d (r ∷ []) zs e2 6 (challenger_long m.challenger) in
    let other : challenger_by (from ws 595) ≡ m.challenger =
    ap challenger_by (from_is ws 595 (d ++ (flat (r ∷ []) ++ zs)) (here ws 595 d (r ∷ []) zs e2)) ∙ challenger_by_lem m.challenger t.challenger (flat (r ∷ []) ++ zs) in
    let misses : get_or ws 601 0 % 256 ≡ m.misses = ap (λ (n : ℕ). n % 256) (at_is ws 601 (flat (r ∷ []) ++ zs) e3 0) ∙ byte_back m.misses t.misses in
    let run : float_of (get_or ws 602 0) ≡ m.run_from_m = ap float_of (at_is ws 601 (flat (r ∷ []) ++ zs) e3 1) ∙ float_back m.run_from_m t.run in
    rw (current_back m.current t.current ws 581 (flat (d ∷ r ∷ []) ++ zs) (here ws 581 c (d ∷ r ∷ []) zs e), other, misses, run)

-- ---- what is due

time_by : (m : Option ℕ) (zs : List ℕ) → time_of (get_or (time_words m ++ zs) 0 0) (get_or (time_words m ++ zs) 1 0) (get_or (time_words m ++ zs) 2 0) ≡ m
time_by None zs = refl
time_by (Some n) zs = ap Some (long_back n)

due_back : (d : Due) → TypedDue d → (ws zs : List ℕ) → drop 603 ws ≡ due_words d ++ zs → due_of ws 603 ≡ d
unfolding due_words due_of
due_back d t ws zs e =
    let f : List ℕ = bit d.matching ∷ bit d.road ∷ [] in
    let l : List ℕ = time_words d.last_road in
    let n : List ℕ = key_tag d.need ∷ key_held d.need ∷ d.reloads ∷ [] in
    let ys : List ℕ = l ++ (flat (n ∷ []) ++ zs) in
    let e2 : drop 605 ws ≡ flat (l ∷ n ∷ []) ++ zs = next ws 603 f (l ∷ n ∷ []) zs e 2 refl in
    let h2 : drop 605 ws ≡ ys = here ws 605 l (n ∷ []) zs e2 in
    let e3 : drop 608 ws ≡ flat (n ∷ []) ++ zs = next ws 605 l (n ∷ []) zs e2 3 (time_long d.last_road) in
    let matching : is_set (get_or ws 603 0) ≡ d.matching = ap is_set (at_is ws 603 (flat (f ∷ l ∷ n ∷ []) ++ zs) e 0) ∙ bit_back d.matching in
    let road : is_set (get_or ws 604 0) ≡ d.road = ap is_set (at_is ws 603 (flat (f ∷ l ∷ n ∷ []) ++ zs) e 1) ∙ bit_back d.road in
    let last : time_of (get_or ws 605 0) (get_or ws 606 0) (get_or ws 607 0) ≡ d.last_road =
    rw (at_is ws 605 ys h2 0, at_is ws 605 ys h2 1, at_is ws 605 ys h2 2) (time_by d.last_road (flat (n ∷ []) ++ zs)) in
    let need : maybe_key_of (get_or ws 608 0) (get_or ws 609 0) ≡ d.need =
    rw (at_is ws 608 (flat (n ∷ []) ++ zs) e3 0, at_is ws 608 (flat (n ∷ []) ++ zs) e3 1) (maybe_back d.need t.need) in
    let reloads : get_or ws 610 0 % 65536 ≡ d.reloads = ap (λ (k : ℕ). k % 65536) (at_is ws 608 (flat (n ∷ []) ++ zs) e3 2) ∙ short_back d.reloads t.reloads in
    rw (matching, road, last, need, reloads)

-- ---- the road

heights_back : (z : List ℤ) (n at : ℕ) (ws zs : List ℕ) → length z ≡ n → ((i : ℕ) → i < n → Height (get_or z i (pos 0))) → drop at ws ≡ heights_words z n ++ zs
    → heights_of ws at n ≡ z
unfolding heights_words heights_of
heights_back z n at ws zs l t e = ones_back bits32 (pos 0) height_of z n at ws zs l (λ (i : ℕ) (h : i < n). height_back (get_or z i (pos 0)) (t i h)) e

ahead_back : (a : Ahead) → TypedAhead a → (ws zs : List ℕ) → drop 611 ws ≡ ahead_words a ++ zs → ahead_of ws 611 ≡ a
unfolding ahead_words ahead_of
ahead_back a t ws zs e =
    let f : List ℕ = a.generation ∷ low_word a.at_ms ∷ high_word a.at_ms ∷ [] in
    let c : List ℕ = current_words a.matched in
    let z : List ℕ = bits32 a.start_z_dm ∷ [] in
    let s : List ℕ = heights_words a.samples 501 in
    let l : List ℕ = low_word a.len ∷ [] in
    let b : List ℕ = heights_words a.behind 11 in
    let r : List ℕ = low_word a.behind_len ∷ float_word a.behind_m ∷ end_word a.end ∷ float_word a.end_m ∷ a.confidence ∷ [] in
    let e2 : drop 614 ws ≡ flat (c ∷ z ∷ s ∷ l ∷ b ∷ r ∷ []) ++ zs = next ws 611 f (c ∷ z ∷ s ∷ l ∷ b ∷ r ∷ []) zs e 3 refl in
    let e3 : drop 628 ws ≡ flat (z ∷ s ∷ l ∷ b ∷ r ∷ []) ++ zs = next ws 614 c (z ∷ s ∷ l ∷ b ∷ r ∷ []) zs e2 14 (current_long a.matched) in
    let e4 : drop 629 ws ≡ flat (s ∷ l ∷ b ∷ r ∷ []) ++ zs = next ws 628 z (s ∷ l ∷ b ∷ r ∷ []) zs e3 1 refl in
    let e5 : drop 1130 ws ≡ flat (l ∷ b ∷ r ∷ []) ++ zs = next ws 629 s (l ∷ b ∷ r ∷ []) zs e4 501 (heights_long a.samples 501) in
    let e6 : drop 1131 ws ≡ flat (b ∷ r ∷ []) ++ zs = next ws 1130 l (b ∷ r ∷ []) zs e5 1 refl in
    let e7 : drop 1142 ws ≡ flat (r ∷ []) ++ zs = next ws 1131 b (r ∷ []) zs e6 11 (heights_long a.behind 11) in
    let all : List ℕ = flat (f ∷ c ∷ z ∷ s ∷ l ∷ b ∷ r ∷ []) ++ zs in
    let rest : List ℕ = flat (r ∷ []) ++ zs in
    let time : long_of (get_or ws 612 0) (get_or ws 613 0) ≡ a.at_ms = rw (at_is ws 611 all e 1, at_is ws 611 all e 2) (long_back a.at_ms) in
    let start : signed32 (get_or ws 628 0) ≡ a.start_z_dm =
    ap signed32 (at_is ws 628 (flat (z ∷ s ∷ l ∷ b ∷ r ∷ []) ++ zs) e3 0) ∙ signed_back a.start_z_dm t.start in
    let len : get_or ws 1130 0 ≡ a.len = at_is ws 1130 (flat (l ∷ b ∷ r ∷ []) ++ zs) e5 0 ∙ word_back a.len t.len in
    let backs : get_or ws 1142 0 ≡ a.behind_len = at_is ws 1142 rest e7 0 ∙ word_back a.behind_len t.behind_len in
    let behind : float_of (get_or ws 1143 0) ≡ a.behind_m = ap float_of (at_is ws 1142 rest e7 1) ∙ float_back a.behind_m t.behind_m in
    let end : end_of (get_or ws 1144 0) ≡ a.end = ap end_of (at_is ws 1142 rest e7 2) ∙ end_back a.end in
    let far : float_of (get_or ws 1145 0) ≡ a.end_m = ap float_of (at_is ws 1142 rest e7 3) ∙ float_back a.end_m t.end_m in
    let sure : get_or ws 1146 0 % 256 ≡ a.confidence = ap (λ (n : ℕ). n % 256) (at_is ws 1142 rest e7 4) ∙ byte_back a.confidence t.confidence in
    rw (
      at_is ws 611 all e 0,
      time,
      current_back a.matched t.matched ws 614 (flat (z ∷ s ∷ l ∷ b ∷ r ∷ []) ++ zs) (here ws 614 c (z ∷ s ∷ l ∷ b ∷ r ∷ []) zs e2),
      start,
      heights_back a.samples 501 629 ws (flat (l ∷ b ∷ r ∷ []) ++ zs) t.samples t.sample (here ws 629 s (l ∷ b ∷ r ∷ []) zs e4),
      len,
    )
    (rw (
      heights_back a.behind 11 1131 ws (flat (r ∷ []) ++ zs) t.behind t.back (here ws 1131 b (r ∷ []) zs e6),
      backs,
      behind,
      end,
      far,
      sure,
    ))

-- ---- the whole

follower_back : (f : Follower) → TypedFollower f → (ws zs : List ℕ) → drop 539 ws ≡ follower_words f ++ zs → follower_of ws ≡ f
unfolding follower_words follower_of
follower_back f t ws zs e =
    let s : List ℕ = sight_words f.sight in
    let m : List ℕ = matcher_words f.matcher in
    let d : List ℕ = due_words f.due in
    let a : List ℕ = ahead_words f.ahead in
    let r : List ℕ = f.failures ∷ float_word f.horizon_m ∷ f.steps ∷ [] in
    let e2 : drop 581 ws ≡ flat (m ∷ d ∷ a ∷ r ∷ []) ++ zs = next ws 539 s (m ∷ d ∷ a ∷ r ∷ []) zs e 42 (sight_long f.sight) in
    let e3 : drop 603 ws ≡ flat (d ∷ a ∷ r ∷ []) ++ zs = next ws 581 m (d ∷ a ∷ r ∷ []) zs e2 22 (matcher_long f.matcher) in
    let e4 : drop 611 ws ≡ flat (a ∷ r ∷ []) ++ zs = next ws 603 d (a ∷ r ∷ []) zs e3 8 (due_long f.due) in
    let e5 : drop 1147 ws ≡ flat (r ∷ []) ++ zs = next ws 611 a (r ∷ []) zs e4 536 (ahead_long f.ahead) in
    let rest : List ℕ = flat (r ∷ []) ++ zs in
    let failures : get_or ws 1147 0 % 256 ≡ f.failures = ap (λ (n : ℕ). n % 256) (at_is ws 1147 rest e5 0) ∙ byte_back f.failures t.failures in
    let horizon : float_of (get_or ws 1148 0) ≡ f.horizon_m = ap float_of (at_is ws 1147 rest e5 1) ∙ float_back f.horizon_m t.horizon in
    let steps : get_or ws 1149 0 ≡ f.steps = at_is ws 1147 rest e5 2 in
    rw (
      sight_back f.sight t.sight ws (flat (m ∷ d ∷ a ∷ r ∷ []) ++ zs) (here ws 539 s (m ∷ d ∷ a ∷ r ∷ []) zs e),
      matcher_back f.matcher t.matcher ws (flat (d ∷ a ∷ r ∷ []) ++ zs) (here ws 581 m (d ∷ a ∷ r ∷ []) zs e2),
      due_back f.due t.due ws (flat (a ∷ r ∷ []) ++ zs) (here ws 603 d (a ∷ r ∷ []) zs e3),
      ahead_back f.ahead t.ahead ws (flat (r ∷ []) ++ zs) (here ws 611 a (r ∷ []) zs e4),
    )
    (rw (failures, horizon, steps))

pub engine_words : (e : Engine) → Typed e → engine_of (words e) ≡ e
unfolding words engine_of
engine_words e t =
    let s : List ℕ = shared_words e.shared in
    let f : List ℕ = follower_words e.follower in
    let ws : List ℕ = flat (s ∷ f ∷ []) in
    let e1 : drop 0 ws ≡ flat (s ∷ f ∷ []) ++ [] = sym (append-nil ws) in
    let e2 : drop 539 ws ≡ flat (f ∷ []) ++ [] = next ws 0 s (f ∷ []) [] e1 539 (shared_long e.shared) in
    rw (
      shared_back e.shared t.shared ws (flat (f ∷ []) ++ []) (here ws 0 s (f ∷ []) [] e1),
      follower_back e.follower t.follower ws (flat [] ++ []) (here ws 539 f [] [] e2),
    )

pub accepted-words : (e : Engine) → Typed e → accepted (words e) ≡ true
unfolding accepted
accepted-words e t = rw (engine_words e t) (same_self (words e))
