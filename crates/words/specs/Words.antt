-- The engine's state as 32-bit words: which words an engine has (`words`), which engine is read from words (`engine_of`), and which words are some engine's
-- (`accepted`). include/terrain.h tells a host the same.
--
-- One number a word, in the order in which the structs declare their fields, but for a slot, whose three words are told at `slot_words`; a 64-bit number is two words, the low one
-- first; a signed number is in two's complement of 32 bits, a height of 16 bits too; a float is its bits, and not-a-number 0x7fc00000; false is 0 and true 1. A key is
-- row · 65,536 + col. An enum is its tag, 0 for the first variant, and its fields, 0 where the variant has none; a part and a direction are one word (`part_word`, `forward_word`).
--
-- `engine_of` reads every field at its place, whatever stands there: it cuts what a field can't hold, and takes an unknown tag for the first variant. Nobody needs to believe it:
-- words are accepted only where the words of what was read are the same again (`words_engine`), and of an engine within its types it is the way back (`engine_words`).
use Rattle.engine.specs.declared.Fix.{Fix}
use Rattle.cache.specs.declared.Loading.{Loading}
use Rattle.std.specs.Prelude.{ℕ, zero, suc, ◌+◌, ◌-◌, ◌*◌, ◌/◌, ◌%◌, Bool, true, false, cond, ◌&&◌, List, [], ◌∷◌, ◌++◌, get_or, ℤ, pos, ◌==◌, from_bits, slice_index, slice_index_or, to_bits, Float, Option, Some, None}
use Rattle.std.specs.Float.{binary32}
use Rattle.num.specs.Cast.{bits32, low16}
use Rattle.pack.specs.Bytes.{signed32}
use Rattle.pack.specs.declared.Header.{Header}
use Rattle.pack.specs.declared.TileKey.{TileKey}
use Rattle.tile.specs.declared.TileId.{TileId}
use Rattle.geo.specs.declared.Point.{Point}
use Rattle.cache.specs.Runs.{empty_slot}
use Rattle.cache.specs.Keys.{empty_place}
use Rattle.cache.specs.declared.Cache.{Cache}
use Rattle.cache.specs.declared.Pages.{Pages}
use Rattle.cache.specs.declared.Part.{Part}
use Rattle.cache.specs.declared.Pending.{Pending}
use Rattle.cache.specs.declared.Ring.{Ring}
use Rattle.cache.specs.declared.Slot.{Slot}
use Rattle.matcher.specs.declared.Heading.{Heading}
use Rattle.matcher.specs.declared.Matched.{Matched}
use Rattle.matcher.specs.declared.Matcher.{Matcher}
use Rattle.predict.specs.declared.End.{End}
use Rattle.engine.specs.declared.Ahead.{Ahead}
use Rattle.engine.specs.declared.Due.{Due}
use Rattle.engine.specs.declared.Engine.{Engine}
use Rattle.engine.specs.declared.Follower.{Follower}
use Rattle.engine.specs.declared.Phase.{Phase}
use Rattle.engine.specs.declared.Places.{Places}
use Rattle.engine.specs.declared.Shared.{Shared}
use Rattle.engine.specs.declared.Sight.{Sight}

-- ---- lists

-- f 0, f 1, .., n of them
unfoldable pub table : {A : Type 0} → (ℕ → A) → ℕ → List A
table f zero = []
table f (suc n) = table f n ++ (f n ∷ [])

-- the same of pieces, one behind the other
unfoldable pub spread : (ℕ → List ℕ) → ℕ → List ℕ
spread f zero = []
spread f (suc n) = spread f n ++ f n

-- pieces, one behind the other
abbrev pub flat : List (List ℕ) → List ℕ
flat [] = []
flat (p ∷ ps) = p ++ flat ps

-- the words from a place on
abbrev pub from : List ℕ → ℕ → ℕ → ℕ
from ws at k = slice_index ws (at + k)

-- ---- numbers

abbrev pub bit : Bool → ℕ
bit true = 1
bit false = 0

abbrev pub is_set : ℕ → Bool
is_set n = n == 1

abbrev pub low_word : ℕ → ℕ
low_word n = n % 0x1_0000_0000

abbrev pub high_word : ℕ → ℕ
high_word n = n / 0x1_0000_0000

abbrev pub long_of : ℕ → ℕ → ℕ
long_of low high = low + high * 0x1_0000_0000

-- a float's bits, 0x7fc00000 for not-a-number; and back, where every not-a-number's bits are one
abbrev pub float_word : Float → ℕ
float_word x = to_bits binary32 x

abbrev pub float_of : ℕ → Float
float_of n = from_bits binary32 n

-- a height of 16 bits in a word
abbrev pub height_of : ℕ → ℤ
height_of n = low16 (signed32 n)

abbrev pub key_word : TileKey → ℕ
key_word k = k.row * 0x1_0000 + k.col

abbrev pub key_of : ℕ → TileKey
key_of n = record { row = n / 0x1_0000; col = n % 0x1_0000 }

-- a key or none
abbrev pub key_tag : Option TileKey → ℕ
key_tag None = 0
key_tag (Some k) = 1

abbrev pub key_held : Option TileKey → ℕ
key_held None = 0
key_held (Some k) = key_word k

abbrev pub maybe_key_words : Option TileKey → List ℕ
maybe_key_words k = key_tag k ∷ key_held k ∷ []

abbrev pub maybe_key_of : ℕ → ℕ → Option TileKey
maybe_key_of tag n = cond (is_set tag) (Some (key_of n)) None

-- ---- the pack

abbrev pub phase_word : Phase → ℕ
phase_word Phase.Unread = 0
phase_word Phase.Ready = 1
phase_word Phase.Failed = 2

abbrev pub phase_of : ℕ → Phase
phase_of n = cond (n == 1) Phase.Ready (cond (n == 2) Phase.Failed Phase.Unread)

-- 13 words
abbrev pub header_words : Header → List ℕ
header_words h =
    h.tile
    ∷ bits32 h.south
    ∷ bits32 h.west
    ∷ h.rows
    ∷ h.cols
    ∷ h.directory
    ∷ h.«data»
    ∷ h.total
    ∷ h.tiles
    ∷ low_word h.created
    ∷ high_word h.created
    ∷ h.attribution_offset
    ∷ h.attribution_len
    ∷ []

abbrev pub header_by : (ℕ → ℕ) → Header
header_by w = record {
  tile = w 0;
  south = signed32 (w 1);
  west = signed32 (w 2);
  rows = w 3 % 0x1_0000;
  cols = w 4 % 0x1_0000;
  directory = w 5;
  «data» = w 6;
  total = w 7;
  tiles = w 8;
  created = long_of (w 9) (w 10);
  attribution_offset = w 11;
  attribution_len = w 12;
}

-- ---- the cache

-- a first page is 0, a page of the run from page h on h + 1
abbrev pub part_word : Part → ℕ
part_word Part.Head = 0
part_word (Part.Of h) = h + 1

abbrev pub part_of : ℕ → Part
part_of n = cond (n == 0) Part.Head (Part.Of ((n - 1) % 256))

-- 3 words: has key + 2 · ready + 4 · part; key or 0; length
abbrev pub slot_words : Slot → List ℕ
slot_words s = (key_tag s.key + 2 * bit s.ready + 4 * part_word s.part) ∷ key_held s.key ∷ s.len ∷ []

abbrev pub slot_by : (ℕ → ℕ) → Slot
slot_by w = record {
  key = maybe_key_of (w 0 % 2) (w 1);
  len = w 2 % 0x1_0000;
  ready = is_set (w 0 / 2 % 2);
  part = part_of (w 0 / 4);
}

-- 96 slots of 3 words
unfoldable pub slots_words : List Slot → List ℕ
slots_words s = spread (λ (i : ℕ). slot_words (slice_index_or s i empty_slot)) 96

-- 96 ages
unfoldable pub used_words : List ℕ → List ℕ
used_words used = spread (λ (i : ℕ). slice_index used i ∷ []) 96

-- 386 words: the slots, when each was last used, how many there are, the clock
unfoldable pub pages_words : Pages → List ℕ
pages_words g = flat (slots_words g.slots ∷ used_words g.used ∷ (low_word g.count ∷ g.clock ∷ []) ∷ [])

unfoldable pub pages_of : List ℕ → ℕ → Pages
pages_of ws at = record {
  slots = table (λ (i : ℕ). slot_by (from ws (at + 3 * i))) 96;
  used = table (λ (i : ℕ). slice_index ws (at + 288 + i)) 96;
  count = from ws at 384;
  clock = from ws at 385;
}

-- 64 places of the ring of 2 words
unfoldable pub keys_words : List (Option TileKey) → List ℕ
keys_words ks = spread (λ (i : ℕ). maybe_key_words (get_or ks i empty_place)) 64

-- 129 words: the ring of missing tiles, and its next place
unfoldable pub ring_words : Ring → List ℕ
ring_words r = flat (keys_words r.keys ∷ (low_word r.next ∷ []) ∷ [])

abbrev pub place_by : (ℕ → ℕ) → Option TileKey
place_by w = maybe_key_of (w 0) (w 1)

unfoldable pub ring_of : List ℕ → ℕ → Ring
ring_of ws at = record { keys = table (λ (i : ℕ). place_by (from ws (at + 2 * i))) 64; next = from ws at 128 }

-- 6 words
abbrev pub loading_words : Option Loading → List ℕ
loading_words None = 0 ∷ 0 ∷ 0 ∷ 0 ∷ 0 ∷ 0 ∷ []
loading_words (Some l) = 1 ∷ key_word l.key ∷ low_word l.slot ∷ l.offset ∷ l.len ∷ l.done ∷ []

abbrev pub loading_by : (ℕ → ℕ) → Option Loading
loading_by w =
    cond (is_set (w 0)) (Some (record { key = key_of (w 1); slot = w 2; offset = w 3; len = w 4; done = w 5 })) None

-- 2 words
abbrev pub pending_words : Pending → List ℕ
pending_words Pending.Nothing = 0 ∷ 0 ∷ []
pending_words Pending.Header = 1 ∷ 0 ∷ []
pending_words (Pending.Entry key) = 2 ∷ key_word key ∷ []
pending_words Pending.Chunk = 3 ∷ 0 ∷ []

abbrev pub pending_of : ℕ → ℕ → Pending
pending_of tag n = cond (tag == 1) Pending.Header (cond (tag == 2) (Pending.Entry (key_of n)) (cond (tag == 3) Pending.Chunk Pending.Nothing))

-- 524 words
unfoldable pub cache_words : Cache → List ℕ
cache_words c = flat (pages_words c.pages ∷ ring_words c.missing ∷ loading_words c.loading ∷ pending_words c.pending ∷ (c.loads ∷ []) ∷ [])

unfoldable pub cache_of : List ℕ → ℕ → Cache
cache_of ws at = record {
  pages = pages_of ws at;
  missing = ring_of ws (at + 386);
  loading = loading_by (from ws (at + 515));
  pending = pending_of (from ws at 521) (from ws at 522);
  loads = from ws at 523;
}

-- 539 words, with the layout's version first
unfoldable pub shared_words : Shared → List ℕ
shared_words s = flat ((1 ∷ phase_word s.phase ∷ []) ∷ header_words s.header ∷ cache_words s.cache ∷ [])

unfoldable pub shared_of : List ℕ → Shared
shared_of ws = record { phase = phase_of (from ws 0 1); header = header_by (from ws 2); cache = cache_of ws 15 }

-- ---- the fixes

-- 5 words
abbrev pub fix_words : Option Fix → List ℕ
fix_words None = 0 ∷ 0 ∷ 0 ∷ 0 ∷ 0 ∷ []
fix_words (Some f) = 1 ∷ bits32 f.lat ∷ bits32 f.lon ∷ low_word f.at_ms ∷ high_word f.at_ms ∷ []

abbrev pub fix_by : (ℕ → ℕ) → Option Fix
fix_by w =
    cond (is_set (w 0)) (Some (record { lat = signed32 (w 1); lon = signed32 (w 2); at_ms = long_of (w 3) (w 4) })) None

-- 2 words
abbrev pub point_words : Point → List ℕ
point_words p = bits32 p.lat ∷ bits32 p.lon ∷ []

abbrev pub point_by : (ℕ → ℕ) → Point
point_by w = record { lat = signed32 (w 0); lon = signed32 (w 1) }

abbrev pub no_point : Point
no_point = record { lat = pos 0; lon = pos 0 }

-- 16 places of 2 words
unfoldable pub points_words : List Point → List ℕ
points_words ps = spread (λ (i : ℕ). point_words (slice_index_or ps i no_point)) 16

-- 33 words: the places, and how many they are
unfoldable pub places_words : Places → List ℕ
places_words h = flat (points_words h.v ∷ (low_word h.len ∷ []) ∷ [])

unfoldable pub places_of : List ℕ → ℕ → Places
places_of ws at = record { v = table (λ (i : ℕ). point_by (from ws (at + 2 * i))) 16; len = from ws at 32 }

-- 2 words
abbrev pub heading_words : Heading → List ℕ
heading_words Heading.Nothing = 0 ∷ 0 ∷ []
heading_words (Heading.Degrees d) = 1 ∷ float_word d ∷ []

abbrev pub heading_of : ℕ → ℕ → Heading
heading_of tag degrees = cond (is_set tag) (Heading.Degrees (float_of degrees)) Heading.Nothing

-- 42 words
unfoldable pub sight_words : Sight → List ℕ
sight_words s =
    flat
    (fix_words s.fix
    ∷ places_words s.history
    ∷ heading_words s.heading
    ∷ (low_word s.heading_at ∷ high_word s.heading_at ∷ [])
    ∷ [])

unfoldable pub sight_of : List ℕ → ℕ → Sight
sight_of ws at = record {
  fix = fix_by (from ws at);
  history = places_of ws (at + 5);
  heading = heading_of (from ws at 38) (from ws at 39);
  heading_at = long_of (from ws at 40) (from ws at 41);
}

-- ---- the match

abbrev pub forward_word : Option Bool → ℕ
forward_word None = 0
forward_word (Some ahead) = cond ahead 2 1

abbrev pub forward_of : ℕ → Option Bool
forward_of n = cond (n == 1) (Some false) (cond (n == 2) (Some true) None)

abbrev pub id_of : ℕ → ℕ → ℕ → TileId
id_of n crc edges = record { key = key_of n; crc = crc; edges = edges % 0x1_0000 }

-- 13 words behind a tag
abbrev pub matched_words : Matched → List ℕ
matched_words m =
    key_word m.tile.key
    ∷ m.tile.crc
    ∷ m.tile.edges
    ∷ m.edge
    ∷ m.segment
    ∷ float_word m.fraction
    ∷ forward_word m.forward
    ∷ float_word m.offset_m
    ∷ bits32 m.z_dm
    ∷ m.class
    ∷ m.flags
    ∷ m.confidence
    ∷ float_word m.ridden_m
    ∷ []

abbrev pub matched_by : (ℕ → ℕ) → Matched
matched_by w = record {
  tile = id_of (w 1) (w 2) (w 3);
  edge = w 4 % 0x1_0000;
  segment = w 5 % 0x1_0000;
  fraction = float_of (w 6);
  forward = forward_of (w 7);
  offset_m = float_of (w 8);
  z_dm = signed32 (w 9);
  class = w 10 % 256;
  flags = w 11 % 256;
  confidence = w 12 % 256;
  ridden_m = float_of (w 13);
}

abbrev pub current_words : Option Matched → List ℕ
current_words None = 0 ∷ 0 ∷ 0 ∷ 0 ∷ 0 ∷ 0 ∷ 0 ∷ 0 ∷ 0 ∷ 0 ∷ 0 ∷ 0 ∷ 0 ∷ 0 ∷ []
current_words (Some m) = 1 ∷ matched_words m

unfoldable pub current_by : (ℕ → ℕ) → Option Matched
current_by w = cond (is_set (w 0)) (Some (matched_by w)) None

-- 6 words
abbrev pub challenger_words : Option (TileId × ℕ × ℕ) → List ℕ
challenger_words None = 0 ∷ 0 ∷ 0 ∷ 0 ∷ 0 ∷ 0 ∷ []
challenger_words (Some (tile, edge, count)) = 1 ∷ key_word tile.key ∷ tile.crc ∷ tile.edges ∷ edge ∷ count ∷ []

abbrev pub challenger_by : (ℕ → ℕ) → Option (TileId × ℕ × ℕ)
challenger_by w = cond (is_set (w 0)) (Some (id_of (w 1) (w 2) (w 3), w 4 % 0x1_0000, w 5 % 256)) None

-- 22 words
unfoldable pub matcher_words : Matcher → List ℕ
matcher_words m = flat (current_words m.current ∷ challenger_words m.challenger ∷ (m.misses ∷ float_word m.run_from_m ∷ []) ∷ [])

unfoldable pub matcher_of : List ℕ → ℕ → Matcher
matcher_of ws at = record {
  current = current_by (from ws at);
  challenger = challenger_by (from ws (at + 14));
  misses = from ws at 20 % 256;
  run_from_m = float_of (from ws at 21);
}

-- ---- what is due

-- 3 words
abbrev pub time_words : Option ℕ → List ℕ
time_words None = 0 ∷ 0 ∷ 0 ∷ []
time_words (Some at) = 1 ∷ low_word at ∷ high_word at ∷ []

abbrev pub time_of : ℕ → ℕ → ℕ → Option ℕ
time_of tag low high = cond (is_set tag) (Some (long_of low high)) None

-- 8 words
unfoldable pub due_words : Due → List ℕ
due_words d =
    flat ((bit d.matching ∷ bit d.road ∷ []) ∷ time_words d.last_road ∷ (key_tag d.need ∷ key_held d.need ∷ d.reloads ∷ []) ∷ [])

unfoldable pub due_of : List ℕ → ℕ → Due
due_of ws at = record {
  matching = is_set (from ws at 0);
  road = is_set (from ws at 1);
  last_road = time_of (from ws at 2) (from ws at 3) (from ws at 4);
  need = maybe_key_of (from ws at 5) (from ws at 6);
  reloads = from ws at 7 % 0x1_0000;
}

-- ---- the road

abbrev pub end_word : End → ℕ
end_word End.Horizon = 0
end_word End.Fork = 1
end_word End.DeadEnd = 2
end_word End.MapEdge = 3
end_word End.Uncertain = 4
end_word End.Memory = 5

abbrev pub end_of : ℕ → End
end_of n =
    cond (n == 1) End.Fork (cond (n == 2) End.DeadEnd (cond (n == 3) End.MapEdge (cond (n == 4) End.Uncertain (cond (n == 5) End.Memory End.Horizon))))

-- n heights, one a word
unfoldable pub heights_words : List ℤ → ℕ → List ℕ
heights_words zs n = spread (λ (i : ℕ). bits32 (slice_index_or zs i (pos 0)) ∷ []) n

unfoldable pub heights_of : List ℕ → ℕ → ℕ → List ℤ
heights_of ws at n = table (λ (i : ℕ). height_of (slice_index ws (at + i))) n

-- 536 words
unfoldable pub ahead_words : Ahead → List ℕ
ahead_words a =
    flat
    ((a.generation ∷ low_word a.at_ms ∷ high_word a.at_ms ∷ [])
    ∷ current_words a.matched
    ∷ (bits32 a.start_z_dm ∷ [])
    ∷ heights_words a.samples 501
    ∷ (low_word a.len ∷ [])
    ∷ heights_words a.behind 11
    ∷ (low_word a.behind_len ∷ float_word a.behind_m ∷ end_word a.end ∷ float_word a.end_m ∷ a.confidence ∷ [])
    ∷ [])

unfoldable pub ahead_of : List ℕ → ℕ → Ahead
ahead_of ws at = record {
  generation = from ws at 0;
  at_ms = long_of (from ws at 1) (from ws at 2);
  matched = current_by (from ws (at + 3));
  start_z_dm = signed32 (from ws at 17);
  samples = heights_of ws (at + 18) 501;
  len = from ws at 519;
  behind = heights_of ws (at + 520) 11;
  behind_len = from ws at 531;
  behind_m = float_of (from ws at 532);
  end = end_of (from ws at 533);
  end_m = float_of (from ws at 534);
  confidence = from ws at 535 % 256;
}

-- ---- the whole

-- 611 words
unfoldable pub follower_words : Follower → List ℕ
follower_words f =
    flat
    (sight_words f.sight
    ∷ matcher_words f.matcher
    ∷ due_words f.due
    ∷ ahead_words f.ahead
    ∷ (f.failures ∷ float_word f.horizon_m ∷ f.steps ∷ [])
    ∷ [])

unfoldable pub follower_of : List ℕ → Follower
follower_of ws = record {
  sight = sight_of ws 539;
  matcher = matcher_of ws 581;
  due = due_of ws 603;
  ahead = ahead_of ws 611;
  failures = from ws 0 1147 % 256;
  horizon_m = float_of (from ws 0 1148);
  steps = from ws 0 1149;
}

-- 1,150 words
unfoldable pub words : Engine → List ℕ
words e = flat (shared_words e.shared ∷ follower_words e.follower ∷ [])

unfoldable pub engine_of : List ℕ → Engine
engine_of ws = record { shared = shared_of ws; follower = follower_of ws }

unfoldable pub same_words : List ℕ → List ℕ → Bool
same_words [] [] = true
same_words [] (y ∷ ys) = false
same_words (x ∷ xs) [] = false
same_words (x ∷ xs) (y ∷ ys) = x == y && same_words xs ys

-- words that are some engine's
unfoldable pub accepted : List ℕ → Bool
accepted ws = same_words (words (engine_of ws)) ws
