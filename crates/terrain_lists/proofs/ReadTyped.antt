-- Whatever words of 32 bits stand there, the engine and the matcher that are read from them are within their types (`read_typed`, `matcher_read`); and a matcher within its types is read back from
-- its words, so that they are a matcher's (`matcher_words_lem`). The idea: a reader cuts what a field can't hold, and a matcher's 22 words are written out.
use Rattle.tile.specs.declared.TileId.{TileId}
use Rattle.std.specs.Prelude.{Option, Some, None}
use Rattle.pack.specs.declared.TileKey.{TileKey}
use Prim.Native.Nat.{ℕ, zero, suc, ◌+◌, ◌-◌, ◌*◌, ◌/◌, ◌%◌, ◌<◌}
use mathlib.Core.Path.{◌≡◌, refl, ap}
use mathlib.Core.Bool.{true}
use mathlib.Core.List.{List, [], ◌∷◌}
use native.Mathlib.Omega.{arith}
use lib.Dec.{eqb}
use lib.IntN.{pos}
use lib.Ieee.{Float, binary32}
use lib.Ieee.Bits.{of_bits-fits}
use lib.ListN.{length, get_or}
use Rattle.pack.specs.Bytes.{signed32}
use Rattle.cache.specs.Keys.{empty_place}
use Rattle.cache.specs.Runs.{empty_slot}
use Rattle.cache.specs.declared.Part.TheVariants as Part
use Rattle.cache.specs.declared.Pending.TheVariants as Pending
use Rattle.matcher.specs.declared.Heading.TheVariants as Heading
use Rattle.matcher.specs.declared.Matched.{Matched}
use Rattle.matcher.specs.declared.Matcher.{Matcher}
use Rattle.terrain.specs.Roads as Roads
use Rattle.words.specs.Typed.{Word, Byte, Height, Single, TypedKey, TypedMaybe, TypedHeader, TypedPart, TypedSlot, TypedPages, TypedRing, TypedLoading, TypedPending, TypedCache, TypedPoint, TypedFix, TypedPlaces, TypedHeading, TypedSight, TypedMatched, TypedCurrent, TypedChallenger, TypedMatcher, TypedDue, TypedAhead, Typed}
use Rattle.words.specs.Words.{table, flat, from, is_set, float_of, float_word, height_of, key_of, maybe_key_of, header_by, part_of, slot_by, pages_of, place_by, ring_of, cache_of, shared_of, point_by, no_point, places_of, sight_of, current_words, current_by, challenger_words, matcher_words, matcher_of, due_of, heights_of, ahead_of, follower_of, engine_of}
use Rattle.words.proofs.ArrayLaws.{length-table}
use Rattle.words.proofs.NumberLaws.{short_back, byte_back, signed_back, float_back, key_back, forward_back}
use Rattle.words.proofs.SameLaws.{same_self}
use Rattle.terrain_lists.specs.Claims.{AreWords}
use Rattle.terrain_lists.proofs.Either.{either}
use Rattle.terrain_lists.proofs.Everywhere.{All, all_none, all_cons, all_append}
use Rattle.terrain_lists.proofs.Numbers.{signed_read, height_low}

-- ---- arrays

all_table : {A : Type 0} (P : A → Type 0) (d : A) (f : ℕ → A) (n : ℕ) → P d → ((i : ℕ) → P (f i)) → All P d (table f n)
unfolding table
all_table P d f zero p q = all_none P d p
all_table P d f (suc n) p q = all_append P d (table f n) (f n ∷ []) (all_table P d f n p q) (all_cons P d (f n) [] (q n) (all_none P d p))

-- ---- numbers

key_read : (n : ℕ) → Word n → TypedKey (key_of n)
key_read n w = (omega arith, omega arith)

maybe_read : (tag n : ℕ) → Word n → TypedMaybe (maybe_key_of tag n)
maybe_read tag n w = either TypedMaybe (is_set tag) (Some (key_of n)) None (key_read n w) tt

float_read : (n : ℕ) → Single (float_of n)
float_read n = of_bits-fits binary32 n

module _ (ws : List ℕ) (all : AreWords ws) where
  -- ---- the cache

  part_read : (n : ℕ) → TypedPart (part_of n)
  part_read n = either TypedPart (eqb n 0) Part.Head (Part.Of ((n - 1) % 256)) tt (omega arith)

  slot_read : (at : ℕ) → TypedSlot (slot_by (from ws at))
  slot_read at = record { key = maybe_read (get_or ws (at + 0) 0 % 2) (get_or ws (at + 1) 0) (all (at + 1)); len = omega arith; part = part_read (get_or ws (at + 0) 0 / 4) }

  pages_read : (at : ℕ) → TypedPages (pages_of ws at)
  unfolding pages_of
  pages_read at = record {
    slots = length-table _ 96;
    slot = λ (i : ℕ) (h : i < 96).
        all_table TypedSlot empty_slot (λ (j : ℕ). slot_by (from ws (at + 3 * j))) 96 (record { key = tt; len = omega arith; part = tt }) (λ (j : ℕ). slot_read (at + 3 * j)) i;
    used = length-table _ 96;
    count = all (at + 384);
  }

  ring_read : (at : ℕ) → TypedRing (ring_of ws at)
  unfolding ring_of
  ring_read at = record {
    keys = length-table _ 64;
    key = λ (i : ℕ) (h : i < 64).
        all_table (λ (p : Option TileKey). TypedMaybe p) empty_place (λ (j : ℕ). place_by (from ws (at + 2 * j))) 64 tt
        (λ (j : ℕ). maybe_read (from ws (at + 2 * j) 0) (from ws (at + 2 * j) 1) (all (at + 2 * j + 1))) i;
    next = all (at + 128);
  }

  cache_read : TypedCache (cache_of ws 15)
  unfolding cache_of
  cache_read = record {
    pages = pages_read 15;
    missing = ring_read 401;
    loading = either TypedLoading (is_set (get_or ws 530 0)) _ None (key_read _ (all 531), all 532) tt;
    pending = either TypedPending (eqb (get_or ws 536 0) 1) Pending.Header _ tt
        (either TypedPending (eqb (get_or ws 536 0) 2) _ _ (key_read _ (all 537)) (either TypedPending (eqb (get_or ws 536 0) 3) Pending.Chunk Pending.Nothing tt tt));
  }

  header_read : TypedHeader (header_by (from ws 2))
  header_read = record { south = signed_read _ (all 3); west = signed_read _ (all 4); rows = omega arith; cols = omega arith }

  -- ---- the fixes

  places_read : TypedPlaces (places_of ws 544)
  unfolding places_of
  places_read = record {
    v = length-table _ 16;
    point = λ (i : ℕ) (h : i < 16).
        all_table TypedPoint no_point (λ (j : ℕ). point_by (from ws (544 + 2 * j))) 16 (omega arith, omega arith)
        (λ (j : ℕ). (signed_read _ (all (544 + 2 * j + 0)), signed_read _ (all (544 + 2 * j + 1)))) i;
    len = all 576;
  }

  sight_read : TypedSight (sight_of ws 539)
  unfolding sight_of
  sight_read = record {
    fix = either TypedFix (is_set (get_or ws 539 0)) _ None (signed_read _ (all 540), signed_read _ (all 541)) tt;
    history = places_read;
    heading = either TypedHeading (is_set (get_or ws 577 0)) _ Heading.Nothing (float_read _) tt;
  }

  -- ---- a match and a matcher, at any place

  current_read : (at : ℕ) → TypedCurrent (current_by (from ws at))
  unfolding current_by
  current_read at =
      either TypedCurrent (is_set (get_or ws (at + 0) 0)) _ None
      (record {
        tile = (key_read _ (all (at + 1)), omega arith);
        edge = omega arith;
        segment = omega arith;
        fraction = float_read _;
        offset = float_read _;
        z = signed_read _ (all (at + 9));
        class = omega arith;
        flags = omega arith;
        confidence = omega arith;
        ridden = float_read _;
      })
      tt

  pub matcher_read : (at : ℕ) → TypedMatcher (matcher_of ws at)
  unfolding matcher_of
  matcher_read at = record {
    current = current_read at;
    challenger = either TypedChallenger (is_set (get_or ws (at + 14 + 0) 0)) _ None
        ((key_read _ (all (at + 14 + 1)), omega arith), (omega arith, omega arith)) tt;
    misses = omega arith;
    run = float_read _;
  }

  -- ---- the rest

  height_read : (at n i : ℕ) → Height (get_or (heights_of ws at n) i (pos 0))
  unfolding heights_of
  height_read at n i = all_table Height (pos 0) (λ (j : ℕ). height_of (get_or ws (at + j) 0)) n (omega arith) (λ (j : ℕ). height_low (signed32 (get_or ws (at + j) 0))) i

  heights_long : (at n : ℕ) → length (heights_of ws at n) ≡ n
  unfolding heights_of
  heights_long at n = length-table _ n

  ahead_read : TypedAhead (ahead_of ws 611)
  unfolding ahead_of
  ahead_read = record {
    matched = current_read 614;
    start = signed_read _ (all 628);
    samples = heights_long 629 501;
    sample = λ (i : ℕ) (h : i < 501). height_read 629 501 i;
    len = all 1130;
    behind = heights_long 1131 11;
    back = λ (i : ℕ) (h : i < 11). height_read 1131 11 i;
    behind_len = all 1142;
    behind_m = float_read _;
    end_m = float_read _;
    confidence = omega arith;
  }

  due_read : TypedDue (due_of ws 603)
  unfolding due_of
  due_read = record { need = maybe_read (get_or ws 608 0) (get_or ws 609 0) (all 609); reloads = omega arith }

  pub read_typed : Typed (engine_of ws)
  unfolding engine_of shared_of follower_of
  read_typed = record {
    shared = record { header = header_read; cache = cache_read };
    follower = record { sight = sight_read; matcher = matcher_read 581; due = due_read; ahead = ahead_read; failures = omega arith; horizon = float_read _ };
  }

-- ---- a matcher is read back from its words

-- its 22 words
abbrev written : Option Matched → Option (TileId × ℕ × ℕ) → ℕ → Float → List ℕ
written c d misses run = flat (current_words c ∷ challenger_words d ∷ (misses ∷ float_word run ∷ []) ∷ [])

module _ (misses : ℕ) (run : Float) where
  none_back : (d : Option (TileId × ℕ × ℕ)) → current_by (from (written None d misses run) 0) ≡ None
  unfolding current_by
  none_back d = refl

  match_back : (m : Matched) (d : Option (TileId × ℕ × ℕ)) → TypedMatched m → current_by (from (written (Some m) d misses run) 0) ≡ Some m
  unfolding current_by
  match_back m d t =
      ap Some
      (rw (
        key_back m.tile.key t.tile.0,
        short_back m.tile.edges t.tile.1,
        short_back m.edge t.edge,
        short_back m.segment t.segment,
        float_back m.fraction t.fraction,
      )
      (rw (
        forward_back m.forward,
        float_back m.offset_m t.offset,
        signed_back m.z_dm t.z,
        byte_back m.class t.class,
        byte_back m.flags t.flags,
        byte_back m.confidence t.confidence,
        float_back m.ridden_m t.ridden,
      )))

  by_parts : (c : Option Matched) (d : Option (TileId × ℕ × ℕ)) → TypedCurrent c → TypedChallenger d → Byte misses → Single run
      → matcher_of (written c d misses run) 0 ≡ record { current = c; challenger = d; misses = misses; run_from_m = run }
  unfolding matcher_of
  by_parts None None t u n r = rw (none_back None, byte_back misses n, float_back run r)
  by_parts None (Some (i, e, k)) t u n r =
      rw (
        none_back (Some (i, e, k)),
        key_back i.key u.0.0,
        short_back i.edges u.0.1,
        short_back e u.1.0,
        byte_back k u.1.1,
        byte_back misses n,
        float_back run r,
      )
  by_parts (Some m) None t u n r = rw (match_back m None t, byte_back misses n, float_back run r)
  by_parts (Some m) (Some (i, e, k)) t u n r =
      rw (
        match_back m (Some (i, e, k)) t,
        key_back i.key u.0.0,
        short_back i.edges u.0.1,
        short_back e u.1.0,
        byte_back k u.1.1,
        byte_back misses n,
        float_back run r,
      )

matcher_back : (m : Matcher) → TypedMatcher m → matcher_of (matcher_words m) 0 ≡ m
unfolding matcher_words
matcher_back m t = by_parts m.misses m.run_from_m m.current m.challenger t.current t.challenger t.misses t.run

pub matcher_words_lem : (m : Matcher) → TypedMatcher m → Roads.is_matcher (matcher_words m) ≡ true
unfolding Roads.is_matcher
matcher_words_lem m t = rw (matcher_back m t) (same_self (matcher_words m))
