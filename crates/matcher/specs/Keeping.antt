-- The candidates kept, at most eight: `matcher.rs`, `insert`. Document 01: "Once eight are kept, a candidate as dear as the worst of them is
-- dropped"; the worst is the last of the dearest by `total_cmp`.
use Rattle.std.specs.Prelude.{ℕ, ◌+◌, Bool, true, false, cond, ltb, pos, Float, get_or, set, replicate, None}
use Rattle.std.specs.Float.Ieee.{lt}
use Rattle.num.specs.Order.{total_cmp}
use Rattle.std.specs.declared.cmp.Ordering.{Ordering}
use Rattle.std.specs.declared.cmp.Ordering.TheVariants.{Less, Equal, Greater}
use Rattle.geo.specs.Flat.{whole}
use Rattle.matcher.specs.declared.Candidate.{Candidate}
use Rattle.matcher.specs.declared.Kept.{Kept}
use Rattle.matcher.specs.declared.keep.Dearest.{Dearest}
use Rattle.num.specs.Fold.{up_to}

-- what stands in a place that is free
abbrev pub no_candidate : Candidate
no_candidate = record {
  found = record {
    tile = record { key = record { row = 0; col = 0 }; crc = 0; edges = 0 };
    edge = 0;
    segment = 0;
    fraction = whole 0;
    forward = None;
    offset_m = whole 0;
    z_dm = pos 0;
    class = 0;
    flags = 0;
    confidence = 0;
    ridden_m = whole 0;
  };
  cost = whole 0;
  joined = false;
  at_node = false;
  along_m = whole 0;
}

abbrev pub none_kept : Kept
none_kept = record { v = replicate 8 no_candidate; len = 0 }

abbrev pub candidate_in : Kept → ℕ → Candidate
candidate_in k i = get_or k.v i no_candidate

abbrev pub is_less : Ordering → Bool
is_less Less = true
is_less Equal = false
is_less Greater = false

-- the one at i in place of the dearest so far, unless it is cheaper: of equals the last
abbrev pub dearer : Dearest → ℕ → Float → Dearest
dearer d i cost = cond (is_less (total_cmp cost d.cost)) d (record { at = i; cost = cost })

unfoldable pub dearest_of : Kept → Dearest
dearest_of k =
    up_to (λ (d : Dearest) (i : ℕ). dearer d i (candidate_in k i).cost) (record { at = 0; cost = (candidate_in k 0).cost }) 8

abbrev pub replaced : Kept → Dearest → Candidate → Kept
replaced k d c = cond (lt c.cost d.cost) (record { v = set k.v d.at c; len = k.len }) k

unfoldable pub insert : Kept → Candidate → Kept
insert k c = cond (ltb k.len 8) (record { v = set k.v k.len c; len = k.len + 1 }) (replaced k (dearest_of k) c)
