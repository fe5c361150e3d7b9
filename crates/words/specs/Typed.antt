-- What the Rust types say of an engine, as far as writing it as words asks it: each number that could be cut within its field, each float a single float, each array of its length; and that the counts that the Rust has as `usize` fit a word, which
-- number 12 says of them (`small` of the proofs). An engine that the code holds is so by its types; that every call's definition leaves one so is `typed_kept` of crate terrain_lists.
use Rattle.engine.specs.declared.Fix.{Fix}
use Rattle.cache.specs.declared.Loading.{Loading}
use Rattle.std.specs.Prelude.{Option, Some, None, ◌≡◌, ℕ, ◌<◌, T, length, get_or, ℤ, pos, slice_index_or, Float}
use Rattle.std.specs.Float.{binary32}
use Rattle.std.specs.Float.Ieee.{fits}
use Rattle.std.specs.Int.Signed.{mag}
use Rattle.pack.specs.declared.Header.{Header}
use Rattle.pack.specs.declared.TileKey.{TileKey}
use Rattle.tile.specs.declared.TileId.{TileId}
use Rattle.geo.specs.declared.Point.{Point}
use Rattle.cache.specs.Keys.{empty_place}
use Rattle.cache.specs.Runs.{empty_slot}
use Rattle.cache.specs.declared.Cache.{Cache}
use Rattle.cache.specs.declared.Part.{Part}
use Rattle.cache.specs.declared.Pages.{Pages}
use Rattle.cache.specs.declared.Pending.{Pending}
use Rattle.cache.specs.declared.Ring.{Ring}
use Rattle.cache.specs.declared.Slot.{Slot}
use Rattle.matcher.specs.declared.Heading.{Heading}
use Rattle.matcher.specs.declared.Matched.{Matched}
use Rattle.matcher.specs.declared.Matcher.{Matcher}
use Rattle.engine.specs.declared.Ahead.{Ahead}
use Rattle.engine.specs.declared.Due.{Due}
use Rattle.engine.specs.declared.Engine.{Engine}
use Rattle.engine.specs.declared.Follower.{Follower}
use Rattle.engine.specs.declared.Places.{Places}
use Rattle.engine.specs.declared.Shared.{Shared}
use Rattle.engine.specs.declared.Sight.{Sight}
use Rattle.words.specs.Words.{no_point}

-- ---- numbers

abbrev pub Word : ℕ → Type 0
Word n = n < 0x1_0000_0000

abbrev pub Short : ℕ → Type 0
Short n = n < 0x1_0000

abbrev pub Byte : ℕ → Type 0
Byte n = n < 256

abbrev pub Signed : ℤ → Type 0
Signed z = mag z < 0x8000_0000

abbrev pub Height : ℤ → Type 0
Height z = mag z < 32768

abbrev pub Single : Float → Type 0
Single x = T (fits binary32 x)

abbrev pub TypedKey : TileKey → Type 0
TypedKey k = Short k.row × Short k.col

abbrev pub TypedMaybe : Option TileKey → Type 0
TypedMaybe None = Unit
TypedMaybe (Some k) = TypedKey k

-- ---- the pack

pub record TypedHeader (h : Header) : Type 0 where
  pub south : Signed h.south
  pub west : Signed h.west
  pub rows : Short h.rows
  pub cols : Short h.cols

-- ---- the cache

abbrev pub TypedPart : Part → Type 0
TypedPart Part.Head = Unit
TypedPart (Part.Of h) = Byte h

pub record TypedSlot (s : Slot) : Type 0 where
  pub key : TypedMaybe s.key
  pub len : Short s.len
  pub part : TypedPart s.part

pub record TypedPages (g : Pages) : Type 0 where
  pub slots : length g.slots ≡ 96
  pub slot : (i : ℕ) → i < 96 → TypedSlot (slice_index_or g.slots i empty_slot)
  pub used : length g.used ≡ 96
  pub count : Word g.count

pub record TypedRing (r : Ring) : Type 0 where
  pub keys : length r.keys ≡ 64
  pub key : (i : ℕ) → i < 64 → TypedMaybe (get_or r.keys i empty_place)
  pub next : Word r.next

abbrev pub TypedLoading : Option Loading → Type 0
TypedLoading None = Unit
TypedLoading (Some l) = TypedKey l.key × Word l.slot

abbrev pub TypedPending : Pending → Type 0
TypedPending Pending.Nothing = Unit
TypedPending Pending.Header = Unit
TypedPending (Pending.Entry k) = TypedKey k
TypedPending Pending.Chunk = Unit

pub record TypedCache (c : Cache) : Type 0 where
  pub pages : TypedPages c.pages
  pub missing : TypedRing c.missing
  pub loading : TypedLoading c.loading
  pub pending : TypedPending c.pending

-- ---- the fixes

abbrev pub TypedPoint : Point → Type 0
TypedPoint p = Signed p.lat × Signed p.lon

abbrev pub TypedFix : Option Fix → Type 0
TypedFix None = Unit
TypedFix (Some f) = Signed f.lat × Signed f.lon

pub record TypedPlaces (h : Places) : Type 0 where
  pub v : length h.v ≡ 16
  pub point : (i : ℕ) → i < 16 → TypedPoint (slice_index_or h.v i no_point)
  pub len : Word h.len

abbrev pub TypedHeading : Heading → Type 0
TypedHeading Heading.Nothing = Unit
TypedHeading (Heading.Degrees d) = Single d

pub record TypedSight (s : Sight) : Type 0 where
  pub fix : TypedFix s.fix
  pub history : TypedPlaces s.history
  pub heading : TypedHeading s.heading

-- ---- the match

abbrev pub TypedId : TileId → Type 0
TypedId t = TypedKey t.key × Short t.edges

pub record TypedMatched (m : Matched) : Type 0 where
  pub tile : TypedId m.tile
  pub edge : Short m.edge
  pub segment : Short m.segment
  pub fraction : Single m.fraction
  pub offset : Single m.offset_m
  pub z : Signed m.z_dm
  pub class : Byte m.class
  pub flags : Byte m.flags
  pub confidence : Byte m.confidence
  pub ridden : Single m.ridden_m

abbrev pub TypedCurrent : Option Matched → Type 0
TypedCurrent None = Unit
TypedCurrent (Some m) = TypedMatched m

abbrev pub TypedChallenger : Option (TileId × ℕ × ℕ) → Type 0
TypedChallenger None = Unit
TypedChallenger (Some (t, e, n)) = TypedId t × (Short e × Byte n)

pub record TypedMatcher (m : Matcher) : Type 0 where
  pub current : TypedCurrent m.current
  pub challenger : TypedChallenger m.challenger
  pub misses : Byte m.misses
  pub run : Single m.run_from_m

-- ---- what is due, the road, the whole

pub record TypedDue (d : Due) : Type 0 where
  pub need : TypedMaybe d.need
  pub reloads : Short d.reloads

pub record TypedAhead (a : Ahead) : Type 0 where
  pub matched : TypedCurrent a.matched
  pub start : Signed a.start_z_dm
  pub samples : length a.samples ≡ 501
  pub sample : (i : ℕ) → i < 501 → Height (slice_index_or a.samples i (pos 0))
  pub len : Word a.len
  pub behind : length a.behind ≡ 11
  pub back : (i : ℕ) → i < 11 → Height (slice_index_or a.behind i (pos 0))
  pub behind_len : Word a.behind_len
  pub behind_m : Single a.behind_m
  pub end_m : Single a.end_m
  pub confidence : Byte a.confidence

pub record TypedShared (s : Shared) : Type 0 where
  pub header : TypedHeader s.header
  pub cache : TypedCache s.cache

pub record TypedFollower (f : Follower) : Type 0 where
  pub sight : TypedSight f.sight
  pub matcher : TypedMatcher f.matcher
  pub due : TypedDue f.due
  pub ahead : TypedAhead f.ahead
  pub failures : Byte f.failures
  pub horizon : Single f.horizon_m

pub record Typed (e : Engine) : Type 0 where
  pub shared : TypedShared e.shared
  pub follower : TypedFollower e.follower

-- the counts that the Rust has as `usize`, beside the slots': what number 12 leaves alone has them within a word
abbrev pub LoadSmall : Option Loading → Type 0
LoadSmall None = Unit
LoadSmall (Some l) = Word l.slot

pub record Small (e : Engine) : Type 0 where
  pub count : Word e.shared.cache.pages.count
  pub next : Word e.shared.cache.missing.next
  pub slot : LoadSmall e.shared.cache.loading
  pub history : Word e.follower.sight.history.len
  pub len : Word e.follower.ahead.len
  pub behind : Word e.follower.ahead.behind_len
