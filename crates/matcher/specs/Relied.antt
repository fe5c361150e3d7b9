-- What is claimed of a match over a lookup.
use Rattle.refusal.specs.declared.Refusal.{Refusal}
use Rattle.std.specs.Prelude.{Some, Result, Ok, Err, ℕ, ◌≡◌, Bool, true, false, List, ◌⊎◌}
use Rattle.pack.specs.Grid.{in_grid}
use Rattle.pack.specs.declared.TileKey.{TileKey}
use Rattle.pack.specs.declared.Header.{Header}
use Rattle.tile.specs.Parse.{accepts}
use Rattle.geo.specs.declared.Point.{Point}
use Rattle.cache.specs.Direct.{Look, ready, Agree}
use Rattle.matcher.specs.Within.{Within}
use Rattle.matcher.specs.declared.Heading.{Heading}
use Rattle.matcher.specs.declared.Matched.{Matched}
use Rattle.matcher.specs.declared.Matcher.{Matcher}
use Rattle.matcher.specs.declared.Outcome.{Outcome}
use Rattle.matcher.specs.Gather.{update_over}

-- ended with a match or with none (document 01: "a match (or finding none) is finished where working it out ends other than by 5, 12")
abbrev pub is_finished : Result Outcome Refusal → Bool
is_finished (Ok (Outcome.Found m)) = true
is_finished (Ok Outcome.Nothing) = true
is_finished (Ok (Outcome.Need key)) = false
is_finished (Err e) = false

-- where it finishes at one look, it gives the same answer and matcher at every look that agrees with it
abbrev pub UpdateAgrees : Type 0
UpdateAgrees =
    (one two : TileKey → Look) → Agree one two → (m : Matcher) (h : Header) (fix : Point) (heading : Heading) →
    is_finished (update_over one m h fix heading).answer ≡ true → update_over two m h fix heading ≡ update_over one m h fix heading

-- what a look answers passes `Tile::parse` for its key
abbrev pub Accepted : (TileKey → Look) → Header → Type 0
Accepted at h = (key : TileKey) (bs : List ℕ) → at key ≡ ready bs → accepts bs key h.tile ≡ true

-- a match found at a look: in a tile of the grid that was looked up, within its bytes
pub record FoundIn (at : TileKey → Look) (h : Header) (f : Matched) : Type 0 where
  pub bytes : List ℕ
  pub looked : at f.tile.key ≡ ready bytes
  pub within : Within bytes f
  pub grid : in_grid h f.tile.key ≡ true

-- the match found is one found at this look, or the one that was there before
abbrev pub UpdateWithin : Type 0
UpdateWithin =
    (at : TileKey → Look) (m : Matcher) (h : Header) → Accepted at h → (fix : Point) (heading : Heading) (f : Matched) →
    (update_over at m h fix heading).answer ≡ Ok (Outcome.Found f) → FoundIn at h f ⊎ (m.current ≡ Some f)
