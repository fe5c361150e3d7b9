-- The refusals of every public function, as one table. Number 12 goes first (only a ready run that no longer passes `Tile::parse` waits for its lookup),
-- then 11, 8, 9, 7, then the order of the Rust; 13 and 14 are last. A line has a function's causes in this order, each by its refusal and the
-- definition of its crate that says what is asked; the number of the answer (`number_of..`); what is as it was where the call is refused; and what it does
-- where it is not. `Refuses`: these are all its refusals. `Tests`: these are tested before its work, and `Works` has the numbers that the work is refused
-- with. `lines` of proofs/Table proves it.
--
-- A function that isn't here refuses nothing, or has the definition of one that is: a view's readers that of `tile` and `geo`, geo's `bearing` that of `angle`,
-- the cache's `settled` that of `loaded` with failure 0 and no bytes; or it is a core whose refusals are the work's of one that is: `look::checked` and,
-- by numbers taken out of the cache, `ages::look_up` the late 12 of `get`, `gather::made` and `searched` those of `updated`, `road::from_looks` those of
-- `predicted` but 9. What the engine makes of 1, 2, 3 and 4 (Working, NoPack) is `Deliver.delivered`, and which key goes with 5 the core's own answer. The
-- functions on words and for C have definitions over these (crates words and terrain); `fetch::request` of no fetch, or of a chunk without a load, is 12.
use Rattle.refusal.specs.Refusal.{number_of_result}
use Rattle.refusal.specs.declared.Refusal.{Refusal}
use Rattle.refusal.specs.declared.Refusal.TheVariants.{Media, PastPack, Unsupported, Corrupt, NotLoaded, NoStart, PastTile, OutOfRange, OutsideGrid, BadStart, NotAsked, BadState, BadValue, NoRoom}
use Rattle.std.specs.Prelude.{Err, Option, Result, Ok, ℕ, ◌+◌, max, ◌≡◌, Bool, true, false, ◌&&◌, ◌||◌, cond, List, [], ◌∷◌, ◌++◌, not, eqb, leb, Float, ℤ, length, drop, Some, None}
use Rattle.num.specs.Order.{is_finite}
use Rattle.pack.specs.Bytes.{u32_at}
use Rattle.pack.specs.Offsets as At
use Rattle.pack.specs.Sector.{rules, is_sum, is_magic, is_version, header_at}
use Rattle.pack.specs.Sector as Sector
use Rattle.pack.specs.Grid.{is_point, in_grid}
use Rattle.pack.specs.Grid as Grid
use Rattle.pack.specs.declared.Header.{Header}
use Rattle.pack.specs.declared.TileKey.{TileKey}
use Rattle.tile.specs.Layout as Layout
use Rattle.tile.specs.Parse.{accepts}
use Rattle.tile.specs.Parse as Tile
use Rattle.tile.specs.Readers.{has_node, has_edge, has_entry, has_point, last_read}
use Rattle.tile.specs.Readers as Readers
use Rattle.tile.specs.declared.Node.{Node}
use Rattle.tile.specs.declared.Edge.{Edge}
use Rattle.angle.specs.Bearing as Bearing
use Rattle.geo.specs.Flat.{are_finite, is_heading}
use Rattle.geo.specs.Flat as Flat
use Rattle.geo.specs.Points as Points
use Rattle.geo.specs.declared.Point.{Point}
use Rattle.geo.specs.declared.Metres.{Metres}
use Rattle.crossing.specs.Crossing.{Crosses}
use Rattle.view.specs.Views as Views
use Rattle.cache.specs.State.{lent_ok, cache_ok}
use Rattle.cache.specs.State as States
use Rattle.cache.specs.Lookups.{next_step}
use Rattle.cache.specs.Lookups as Lookups
use Rattle.cache.specs.Direct.{Look, ready, missing, absent, stale, look, Aged}
use Rattle.cache.specs.Reader.{plain}
use Rattle.cache.specs.Loads.{fits, takes, pack_bytes}
use Rattle.cache.specs.Loads as Loads
use Rattle.cache.specs.Calls as Cached
use Rattle.cache.specs.Numbers.{number_of_progress}
use Rattle.cache.specs.declared.Cache.{Cache}
use Rattle.cache.specs.declared.next.Next.{Next}
use Rattle.matcher.specs.State.{counts_ok, call_ok, heading_ok}
use Rattle.matcher.specs.Score.{same_id}
use Rattle.matcher.specs.Near as Near
use Rattle.matcher.specs.Gather as Gather
use Rattle.matcher.specs.Calls as Matched
use Rattle.matcher.specs.Numbers.{number_of_outcome as number_of_match}
use Rattle.matcher.specs.declared.Matcher.{Matcher}
use Rattle.matcher.specs.declared.Heading.{Heading}
use Rattle.matcher.specs.declared.Matched as Match
use Rattle.predict.specs.Start.{start_ok}
use Rattle.predict.specs.Predict as Predict
use Rattle.predict.specs.Numbers.{number_of_outcome as number_of_road}
use Rattle.engine.specs.State.{engine_ok}
use Rattle.engine.specs.State as Engines
use Rattle.engine.specs.Follow as Followers
use Rattle.engine.specs.Publish.{nothing_ahead}
use Rattle.engine.specs.Steps.{request_of}
use Rattle.engine.specs.Steps as Steps
use Rattle.engine.specs.Deliver as Deliver
use Rattle.engine.specs.Calls as Engined
use Rattle.engine.specs.declared.Engine.{Engine}
use Rattle.engine.specs.declared.Fix.{Fix}
use Rattle.engine.specs.declared.Status.{Status}
use Rattle.writer.specs.TileWritten.{Given, tile_good, tile_length, tile_bytes}
use Rattle.writer.specs.TileWritten as TileWritten
use Rattle.writer.specs.PackWritten.{GivenPack, pack_good, total, pack_bytes as pack_written}
use Rattle.writer.specs.PackWritten as PackWritten
use Rattle.profile_text.specs.Page as Page
use Rattle.refusals.specs.Causes.{◌unless◌, first_of, Refuses, Tests, Works, NothingLent, NothingMore}

-- ---- what is asked, where the crates have no word for it

-- 4, an entry outside data: one of length 0 has no tile, and its offset is not read
abbrev pub entry_inside : Header → List ℕ → Bool
entry_inside h e =
    eqb (u32_at e At.length_at) 0 || (leb h.«data» (u32_at e At.offset_at) && leb (u32_at e At.offset_at + u32_at e At.length_at) h.total)

-- the entry that a step of a load reads
abbrev pub entry_read : Next → Header → List ℕ → Bool
entry_read Next.Entry h e = entry_inside h e
entry_read (Next.Chunk l) h e = true
entry_read (Next.Ready i) h e = true
entry_read Next.Missing h e = true
entry_read Next.NoPages h e = true

-- the late 12, a ready run looked up that no longer passes `Tile::parse`
abbrev pub still_passes : Look → Bool
still_passes (ready bs) = true
still_passes missing = true
still_passes absent = true
still_passes stale = false

-- the start of a road in its tile, as this was looked up: 5 where it is not loaded, 6 where it is missing or of another id, then 10
abbrev pub is_loaded : Look → Bool
is_loaded (ready bs) = true
is_loaded missing = true
is_loaded absent = false
is_loaded stale = true

abbrev pub is_there : Look → Bool
is_there (ready bs) = true
is_there missing = false
is_there absent = true
is_there stale = true

abbrev pub is_same : Look → Match.Matched → Bool
is_same (ready bs) m = same_id (Layout.id_of bs) m.tile
is_same missing m = true
is_same absent m = true
is_same stale m = true

abbrev pub starts_within : Look → Match.Matched → Bool
starts_within (ready bs) m = start_ok bs m
starts_within missing m = true
starts_within absent m = true
starts_within stale m = true

-- 2, a read past a lent pack
abbrev pub in_pack : Result (Option (ℕ × ℕ)) Refusal → List ℕ → Bool
in_pack (Ok (Some (offset, len))) pack = leb (offset + len) (length pack)
in_pack (Ok None) pack = true
in_pack (Err e) pack = true

-- 11: the fetch that is open, told as a step repeats it, is answered by its bytes, or by failure 1 or 2; where none is open nothing answers
abbrev pub answers : Result Status Refusal → ℕ → ℕ → Bool
answers (Ok (Status.Fetch offset len)) failure bytes = fits len failure bytes
answers (Ok Status.Idle) failure bytes = false
answers (Ok Status.Working) failure bytes = false
answers (Ok Status.NoPack) failure bytes = false
answers (Ok Status.OffMap) failure bytes = false
answers (Err e) failure bytes = false

abbrev pub open_fetch : Engine → Result Status Refusal
open_fetch e = request_of e.shared e.shared.cache.pending

-- ---- the table

pub record Refusals : Type 0 where
  -- pack
  pub read : (pack : List ℕ) (offset len : ℕ) → let r = Grid.read pack offset len in
      Refuses (PastPack unless leb (offset + len) (length pack) ∷ []) (number_of_result r) NothingLent (r ≡ Ok offset)
  pub parse : (s : List ℕ) → let r = Sector.parse s in
      Refuses (Corrupt unless is_sum s ∷ Unsupported unless is_magic s ∷ Unsupported unless is_version s ∷ Unsupported unless rules (header_at s) ∷ [])
      (number_of_result r) (Sector.header_in r ≡ Sector.no_header) (r ≡ Ok (header_at s))
  pub key : (h : Header) (lat lon : ℤ) → let r = Grid.key h lat lon in
      Refuses (BadState unless rules h ∷ OutOfRange unless is_point lat lon ∷ []) (number_of_result r) NothingLent (r ≡ Ok (Grid.key_of h lat lon))
  pub checked : (h : Header) (row col : ℤ) → let r = Grid.checked h row col in
      Refuses (BadState unless rules h ∷ []) (number_of_result r) NothingLent (r ≡ Ok (Grid.checked_of h row col))
  pub origin : (h : Header) (k : TileKey) → let r = Grid.origin h k in
      Refuses (BadState unless rules h ∷ OutsideGrid unless in_grid h k ∷ []) (number_of_result r) NothingLent (r ≡ Ok (Grid.corner_of h k))
  pub entry : (h : Header) (k : TileKey) → let r = Grid.entry h k in
      Refuses (BadState unless rules h ∷ OutsideGrid unless in_grid h k ∷ []) (number_of_result r) NothingLent (r ≡ Ok (Grid.entry_of h k))
  pub locate : (h : Header) (e : List ℕ) → let r = Grid.locate h e in
      Refuses (BadState unless rules h ∷ Corrupt unless entry_inside h e ∷ []) (number_of_result r) NothingLent (r ≡ Grid.locate_of h e)
  -- tile: 7 is an index past its count, or a record that does not end within the bytes
  pub tile_parse : (bs : List ℕ) (k : TileKey) (size : ℕ) → let r = Tile.parse bs k size in
      Refuses (Corrupt unless accepts bs k size ∷ []) (number_of_result r) NothingLent (r ≡ Ok (Layout.head_of bs))
  pub node : (bs : List ℕ) (i : ℕ) → let r = Readers.node bs i in
      Refuses (PastTile unless has_node bs i ∷ []) (number_of_result r) NothingLent (r ≡ Ok (Layout.node_of bs i))
  pub edge : (bs : List ℕ) (i : ℕ) → let r = Readers.edge bs i in
      Refuses (PastTile unless has_edge bs i ∷ []) (number_of_result r) NothingLent (r ≡ Ok (Layout.edge_of bs i))
  pub incident : (bs : List ℕ) (i : ℕ) → let r = Readers.incident bs i in
      Refuses (PastTile unless has_node bs (last_read bs i) ∷ []) (number_of_result r) NothingLent
      (r ≡ Ok (record { start = Layout.adjacency_start bs i; end = max (Layout.adjacency_end bs i) (Layout.adjacency_start bs i) }))
  pub incident_entry : (bs : List ℕ) (j : ℕ) → let r = Readers.incident_entry bs j in
      Refuses (PastTile unless has_entry bs j ∷ []) (number_of_result r) NothingLent (r ≡ Ok (Layout.entry_of bs j))
  pub point : (bs : List ℕ) (e : Edge) (i : ℕ) → let r = Readers.point bs e i in
      Refuses (PastTile unless has_point bs e i ∷ []) (number_of_result r) NothingLent (r ≡ Ok (Layout.point_of bs e i))
  -- angle, geo
  pub bearing : (east north : Float) → let r = Bearing.bearing east north in
      Refuses (OutOfRange unless is_finite east ∷ OutOfRange unless is_finite north ∷ []) (number_of_result r) NothingLent (r ≡ Ok (Bearing.degrees east north))
  pub point_of : (h : Header) (k : TileKey) (n : Node) → let r = Points.point h k n in
      Refuses (BadState unless rules h ∷ OutsideGrid unless in_grid h k ∷ []) (number_of_result r) NothingLent (r ≡ Ok (Points.point_of h k n))
  pub metres_from : (p o : Point) (lon_um : ℕ) → let r = Flat.metres_from p o lon_um in
      Refuses (OutOfRange unless is_point p.lat p.lon ∷ OutOfRange unless is_point o.lat o.lon ∷ []) (number_of_result r) NothingLent
      (r ≡ Ok (Flat.metres_of p o lon_um))
  pub line_length : (east north : Float) → let r = Flat.length east north in
      Refuses (OutOfRange unless is_finite east ∷ OutOfRange unless is_finite north ∷ []) (number_of_result r) NothingLent (r ≡ Ok (Flat.length_of east north))
  pub turn : (from to : Float) → let r = Flat.turn from to in
      Refuses (OutOfRange unless is_heading from ∷ OutOfRange unless is_heading to ∷ []) (number_of_result r) NothingLent (r ≡ Ok (Flat.turn_of from to))
  pub project : (p a b : Metres) → let r = Flat.project p a b in
      Refuses (OutOfRange unless are_finite p ∷ OutOfRange unless are_finite a ∷ OutOfRange unless are_finite b ∷ []) (number_of_result r) NothingLent
      (r ≡ Ok (Flat.project_of p a b))
  pub edge_point : (h : Header) (bs : List ℕ) (e : Edge) (i : ℕ) → let r = Points.edge_point h bs e i in
      Refuses (BadState unless rules h ∷ OutsideGrid unless in_grid h (Points.key_of bs) ∷ PastTile unless has_point bs e i ∷ []) (number_of_result r) NothingLent
      (r ≡ Ok (Points.edge_point_of h bs e i, Points.edge_height_of bs e i))
  -- crossing: of any answer that its contract allows, which leaves open the segment that is named
  pub crossing : (first second : Point) (h : Header) (k : TileKey) (bs : List ℕ) (r : Result (Option (ℕ × ℕ)) Refusal) → Crosses first second h k bs r →
      number_of_result r
      ≡ first_of
      (BadState unless rules h
      ∷ OutOfRange unless is_point first.lat first.lon
      ∷ OutOfRange unless is_point second.lat second.lon
      ∷ OutsideGrid unless in_grid h k
      ∷ Corrupt unless accepts bs k h.tile
      ∷ [])
  -- view
  pub node_at : (bs : List ℕ) (k : TileKey) (size x y : ℕ) → let r = Views.node_at bs k size x y in
      Refuses (Corrupt unless accepts bs k size ∷ []) (number_of_result r) NothingLent (r ≡ Ok (Readers.node_at bs x y))
  -- cache
  pub capacity : (c : Cache) (arena : List ℕ) → let r = Cached.capacity c arena in
      Refuses (BadState unless lent_ok c (length arena) ∷ []) (number_of_result r) NothingLent (r ≡ Ok c.pages.count)
  pub loads : (c : Cache) (arena : List ℕ) → let r = Cached.loads c arena in
      Refuses (BadState unless lent_ok c (length arena) ∷ []) (number_of_result r) NothingLent (r ≡ Ok c.loads)
  pub pages : (c : Cache) (arena : List ℕ) (h : Header) (k : TileKey) → let r = Cached.pages c arena h k in
      Refuses (BadState unless cache_ok c h (length arena) ∷ OutsideGrid unless in_grid h k ∷ []) (number_of_result r) NothingLent (r ≡ Ok (Lookups.pages_of c.pages k))
  pub get : (c : Cache) (arena : List ℕ) (h : Header) (k : TileKey) → let r = Cached.get c arena h k in
      Refuses (BadState unless cache_ok c h (length arena) ∷ OutsideGrid unless in_grid h k ∷ BadState unless still_passes (look c arena h.tile k) ∷ []) (number_of_result r.answer)
      (r.cache ≡ c) (r ≡ Lookups.got c arena h.tile k)
  pub clear : (c : Cache) (arena : List ℕ) → let r = Cached.clear c arena in
      Refuses (BadState unless lent_ok c (length arena) ∷ []) (number_of_result r.answer) (r.cache ≡ c)
      (r ≡ record { answer = Ok tt; cache = States.cleared c })
  pub fetch : (c : Cache) (arena : List ℕ) (h : Header) (k : TileKey) → let r = Cached.fetch c arena h k in
      Refuses (BadState unless cache_ok c h (length arena) ∷ OutsideGrid unless in_grid h k ∷ BadState unless still_passes (look c arena h.tile k) ∷ [])
      (number_of_result r) NothingLent (r ≡ Loads.fetched c (next_step c k) arena h k)
  pub load : (c : Cache) (arena : List ℕ) (h : Header) (k : TileKey) (failure : ℕ) (bs : List ℕ) → let r = Cached.load c arena h k failure bs in
      Refuses
      (BadState unless cache_ok c h (length arena) ∷ NotAsked unless takes (next_step c k) h k failure (length bs) ∷ OutsideGrid unless in_grid h k ∷ BadState unless still_passes (look c arena h.tile k) ∷ [])
      (number_of_result r.answer) ((r.cache ≡ c) × (r.arena ≡ arena)) (r ≡ Loads.stepped c (next_step c k) arena h k failure bs)
  -- `load` past its first test, for the engine
  pub loaded : (c : Cache) (arena : List ℕ) (h : Header) (k : TileKey) (failure : ℕ) (bs : List ℕ) → let r = Cached.load_tested c arena h k failure bs in
      Refuses (NotAsked unless takes (next_step c k) h k failure (length bs) ∷ OutsideGrid unless in_grid h k ∷ BadState unless still_passes (look c arena h.tile k) ∷ [])
      (number_of_result r.answer) ((r.cache ≡ c) × (r.arena ≡ arena)) (r ≡ Loads.stepped c (next_step c k) arena h k failure bs)
  pub load_from : (c : Cache) (arena : List ℕ) (h : Header) (k : TileKey) (pack : List ℕ) → let r = Cached.load_from c arena h k pack in
      Refuses (BadState unless cache_ok c h (length arena) ∷ OutsideGrid unless in_grid h k ∷ BadState unless still_passes (look c arena h.tile k) ∷ [])
      (number_of_result r.answer) ((r.cache ≡ c) × (r.arena ≡ arena)) (r ≡ Loads.stepped_from c (next_step c k) arena h k pack)
  -- a step of a load that fails, by 1, 2 or 4: all is as it was but the load, dropped with its run
  pub load_fails : (c : Cache) (arena : List ℕ) (h : Header) (k : TileKey) (failure : ℕ) (bs : List ℕ) →
      takes (next_step c k) h k failure (length bs) ≡ true → in_grid h k ≡ true → still_passes (look c arena h.tile k) ≡ true →
      let r = Loads.stepped c (next_step c k) arena h k failure bs in
      Refuses (Media unless not (eqb failure 1) ∷ PastPack unless not (eqb failure 2) ∷ Corrupt unless entry_read (next_step c k) h bs ∷ [])
      (number_of_progress r.answer) ((r.cache ≡ Loads.dropped c) × (r.arena ≡ arena)) NothingMore
  pub load_from_fails : (c : Cache) (arena : List ℕ) (h : Header) (k : TileKey) (pack : List ℕ) → still_passes (look c arena h.tile k) ≡ true →
      let r = Loads.stepped_from c (next_step c k) arena h k pack in
      Refuses
      (PastPack unless in_pack (Loads.fetched c (next_step c k) arena h k) pack ∷ Corrupt unless entry_read (next_step c k) h (pack_bytes pack (Grid.entry_of h k) 8) ∷ [])
      (number_of_progress r.answer) ((r.cache ≡ Loads.dropped c) × (r.arena ≡ arena)) NothingMore
  -- matcher
  pub nearby : (h : Header) (p : Point) → let r = Matched.nearby h p in
      Refuses (BadState unless rules h ∷ OutOfRange unless is_point p.lat p.lon ∷ []) (number_of_result r.answer) (r.near ≡ Near.no_keys)
      (r ≡ record { answer = Ok tt; near = Near.near_of h p })
  pub current : (m : Matcher) → let r = Matched.current m in
      Refuses (BadState unless counts_ok m ∷ []) (number_of_result r) NothingLent (r ≡ Ok m.current)
  -- then of each tile around the fix the late 12 and 5
  pub update : (m : Matcher) (c : Cache) (arena : List ℕ) (h : Header) (p : Point) (heading : Heading) → let r = Matched.update m c arena h p heading in
      Tests (BadState unless call_ok m c h (length arena) ∷ OutOfRange unless is_point p.lat p.lon ∷ OutOfRange unless heading_ok heading ∷ [])
      (number_of_match r.answer) ((r.matcher ≡ m) × (r.cache ≡ c)) (r ≡ Gather.updated m c arena h p heading)
  pub updated : (m : Matcher) (c : Cache) (arena : List ℕ) (h : Header) (p : Point) (heading : Heading) → let r = Matched.update_tested m c arena h p heading in
      Tests (OutOfRange unless is_point p.lat p.lon ∷ OutOfRange unless heading_ok heading ∷ []) (number_of_match r.answer) ((r.matcher ≡ m) × (r.cache ≡ c))
      (r ≡ Gather.updated m c arena h p heading)
  pub update_works : (m : Matcher) (c : Cache) (arena : List ℕ) (h : Header) (p : Point) (heading : Heading) → let r = Gather.updated m c arena h p heading in
      Works (12 ∷ 5 ∷ []) (number_of_match r.answer)
      ((r.matcher ≡ m) × (Aged c r.cache × (number_of_match r.answer ≡ 12 → r.cache ≡ c)))
  -- predict
  pub predict : (c : Cache) (arena : List ℕ) (h : Header) (m : Match.Matched) (horizon : Float) (samples behind : List ℤ) →
      let r = Predict.predict c arena h m horizon samples behind in
      Tests (BadState unless cache_ok c h (length arena) ∷ OutsideGrid unless in_grid h m.tile.key ∷ [])
      (number_of_road r.predicted.answer) ((r.predicted.cache ≡ c) × ((r.samples ≡ samples) × (r.behind ≡ behind)))
      (r ≡ Predict.predicted_in c arena h m horizon samples behind)
  pub predicted : (c : Cache) (arena : List ℕ) (h : Header) (m : Match.Matched) (horizon : Float) (samples behind : List ℤ) →
      let r = Predict.predict_tested c arena h m horizon samples behind in
      Tests (OutsideGrid unless in_grid h m.tile.key ∷ []) (number_of_road r.predicted.answer)
      ((r.predicted.cache ≡ c) × ((r.samples ≡ samples) × (r.behind ≡ behind))) (r ≡ Predict.predicted_in c arena h m horizon samples behind)
  -- then without direction it is Uncertain, and nothing is looked up
  pub predict_uncertain : (c : Cache) (arena : List ℕ) (h : Header) (m : Match.Matched) (horizon : Float) (samples behind : List ℤ) →
      m.forward ≡ None → Predict.predicted_in c arena h m horizon samples behind ≡ Predict.untouched (Predict.no_direction c) samples behind
  -- with one, of the start's tile; a tile found has its clock and age moved, and no height is set
  pub predict_start : (c : Cache) (arena : List ℕ) (h : Header) (m : Match.Matched) (horizon : Float) (samples behind : List ℤ) (forward : Bool) →
      m.forward ≡ Some forward →
      let r = Predict.predicted_in c arena h m horizon samples behind in
      let at = look c arena h.tile in
      let l = at m.tile.key in
      Tests (BadState unless still_passes l ∷ NotLoaded unless is_loaded l ∷ NoStart unless is_there l ∷ NoStart unless is_same l m ∷ BadStart unless starts_within l m ∷ [])
      (number_of_road r.predicted.answer)
      ((r.predicted.cache ≡ (Lookups.got c arena h.tile m.tile.key).cache) × ((r.samples ≡ samples) × (r.behind ≡ behind)))
      ((bs : List ℕ) → l ≡ ready bs → Predict.predict_over at c.pages.count h m horizon samples behind
      ≡ Predict.road_over (plain at) c.pages.count (Predict.trip_of h m horizon) m forward (m.tile.key ∷ []) bs samples behind)
  -- then at each lookup of the walk the late 12 and 5. Which heights are set by then, and which tiles' ages moved, is the core's definition
  pub predict_works : (c : Cache) (arena : List ℕ) (h : Header) (m : Match.Matched) (horizon : Float) (samples behind : List ℤ) →
      let r = Predict.predicted_in c arena h m horizon samples behind in
      Works (12 ∷ 5 ∷ 6 ∷ 10 ∷ []) (number_of_road r.predicted.answer)
      (Aged c r.predicted.cache × (number_of_road r.predicted.answer ≡ 12 → r.predicted.cache ≡ c))
  -- engine
  pub fix : (e : Engine) (arena : List ℕ) (f : Fix) → let r = Engined.fix e arena f in
      Refuses (BadState unless engine_ok e (length arena) ∷ OutOfRange unless is_point f.lat f.lon ∷ []) (number_of_result r.answer) (r.engine ≡ e)
      (r ≡ Engines.followed e (Followers.fixed e.follower f))
  pub lost : (e : Engine) (arena : List ℕ) → let r = Engined.lost e arena in
      Refuses (BadState unless engine_ok e (length arena) ∷ []) (number_of_result r.answer) (r.engine ≡ e)
      (r ≡ Engines.followed e (Followers.lost e.follower))
  pub reset : (e : Engine) (arena : List ℕ) → let r = Engined.reset e arena in
      Refuses (BadState unless engine_ok e (length arena) ∷ []) (number_of_result r.answer) (r.engine ≡ e) (r ≡ Engines.forgotten e)
  pub ahead : (e : Engine) (arena : List ℕ) → let r = Engined.ahead e arena in
      Refuses (BadState unless engine_ok e (length arena) ∷ []) (number_of_result r) (Engined.ahead_in r ≡ nothing_ahead 0)
      (r ≡ Ok e.follower.ahead)
  pub header : (e : Engine) (arena : List ℕ) → let r = Engined.header e arena in
      Refuses (BadState unless engine_ok e (length arena) ∷ []) (number_of_result r) (Engined.header_read r ≡ Engines.no_header)
      (r ≡ Ok (cond (Engines.is_ready e.shared.phase) (Some e.shared.header) None))
  pub heading : (e : Engine) (arena : List ℕ) → let r = Engined.heading e arena in
      Refuses (BadState unless engine_ok e (length arena) ∷ []) (number_of_result r) NothingLent (r ≡ Engined.heading_of e.follower.sight.heading)
  pub engine_loads : (e : Engine) (arena : List ℕ) → let r = Engined.loads e arena in
      Refuses (BadState unless engine_ok e (length arena) ∷ []) (number_of_result r) NothingLent (r ≡ Ok e.shared.cache.loads)
  pub steps : (e : Engine) (arena : List ℕ) → let r = Engined.steps e arena in
      Refuses (BadState unless engine_ok e (length arena) ∷ []) (number_of_result r) NothingLent (r ≡ Ok e.follower.steps)
  -- then the late 12 of a lookup
  pub step : (e : Engine) (arena : List ℕ) → let r = Engined.step e arena in
      Tests (BadState unless engine_ok e (length arena) ∷ []) (number_of_result r.answer) (r.engine ≡ e) (r ≡ Steps.stepped e arena)
  pub step_works : (e : Engine) (arena : List ℕ) → engine_ok e (length arena) ≡ true → let r = Steps.stepped e arena in
      Works (12 ∷ []) (number_of_result r.answer) (r.engine ≡ e)
  pub deliver : (e : Engine) (arena : List ℕ) (failure : ℕ) (bs : List ℕ) → let r = Engined.deliver e arena failure bs in
      Refuses (BadState unless engine_ok e (length arena) ∷ NotAsked unless answers (open_fetch e) failure (length bs) ∷ []) (number_of_result r.answer)
      ((r.engine ≡ e) × (r.arena ≡ arena)) (r ≡ Deliver.delivered e arena failure bs)
  -- a step, and where it fetches the delivery
  pub step_from : (e : Engine) (arena pack : List ℕ) → let r = Engined.step_from e arena pack in
      Tests (BadState unless engine_ok e (length arena) ∷ []) (number_of_result r.answer) ((r.engine ≡ e) × (r.arena ≡ arena))
      (r ≡ Engined.step_from_by (Steps.stepped e arena).answer (Steps.stepped e arena) arena pack)
  pub step_from_works : (e : Engine) (arena pack : List ℕ) → engine_ok e (length arena) ≡ true →
      let r = Engined.step_from_by (Steps.stepped e arena).answer (Steps.stepped e arena) arena pack in
      Works (12 ∷ []) (number_of_result r.answer) ((r.engine ≡ e) × (r.arena ≡ arena))
  -- writer
  pub write_tile : (g : Given) (out : List ℕ) → let r = TileWritten.tile g out in
      Refuses (BadValue unless tile_good g ∷ NoRoom unless leb (tile_length g) (length out) ∷ []) (number_of_result r.answer) (r.out ≡ out)
      (r ≡ record { answer = Ok (tile_length g); out = tile_bytes g ++ drop (tile_length g) out })
  pub write_pack : (g : GivenPack) (out : List ℕ) → let r = PackWritten.pack g out in
      Refuses (BadValue unless pack_good g ∷ NoRoom unless leb (total g) 0xffff_ffff ∷ NoRoom unless leb (total g) (length out) ∷ [])
      (number_of_result r.answer) (r.out ≡ out)
      (r ≡ record { answer = Ok (total g); out = pack_written g ++ drop (total g) out })
  -- profile_text
  pub page : (zs : List ℤ) (p : ℕ) (out : List ℕ) →
      Refuses (BadState unless leb (length zs) 501 ∷ NoRoom unless leb (length (Page.page p zs)) (length out) ∷ [])
      (number_of_result (Page.printed zs p (length out))) (Page.written zs p out ≡ out)
      ((Page.printed zs p (length out) ≡ Ok (length (Page.page p zs)))
      × (Page.written zs p out ≡ Page.page p zs ++ drop (length (Page.page p zs)) out))
