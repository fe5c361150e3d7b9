-- What the program `drive` prints for a fix: its number, how the last step ended, the match (row, column, edge, direction, metres from the road),
-- how many heights lie ahead, why there are no more, and the confidence. Text is a list of ASCII codes.
use Rattle.std.specs.Prelude.{ℕ, ◌/◌, ◌%◌, Bool, true, false, Option, Some, None, List, [], ◌∷◌, ◌++◌}
use Rattle.profile_text.specs.Codes.{codes}
use Rattle.profile_text.specs.Text.{decimal}
use Rattle.profile_text.specs.declared.drive.Status.{Status}
use Rattle.profile_text.specs.declared.drive.End.{End}
use Rattle.profile_text.specs.declared.drive.Place.{Place}
use Rattle.profile_text.specs.declared.drive.FixLine.{FixLine}

-- ---- figures and names, each with the blank behind it

unfoldable pub field : ℕ → List ℕ
field n = decimal n ++ (32 ∷ [])

-- decimetres in metres: a point before the last digit
unfoldable pub metres : ℕ → List ℕ
metres dm = decimal (dm / 10) ++ (46 ∷ [] ++ field (dm % 10))

unfoldable pub status : Status → List ℕ
status Status.Idle = codes "idle "
status Status.Working = codes "working "
status Status.NoPack = codes "no-pack "
status Status.OffMap = codes "off-map "
status Status.Refused = codes "refused "

unfoldable pub way : Option Bool → List ℕ
way None = codes "- "
way (Some true) = codes "forward "
way (Some false) = codes "back "

unfoldable pub end : End → List ℕ
end End.Horizon = codes "horizon "
end End.Fork = codes "fork "
end End.DeadEnd = codes "dead-end "
end End.MapEdge = codes "map-edge "
end End.Uncertain = codes "uncertain "
end End.Memory = codes "memory "

-- ---- the line

unfoldable pub place : Place → List ℕ
place p = field p.row ++ (field p.col ++ (field p.edge ++ (way p.forward ++ metres p.offset_dm)))

-- without a match "-" for each figure
unfoldable pub matched : Option Place → List ℕ
matched None = codes "- - - - - "
matched (Some p) = place p

-- samples, end, confidence, and a line end
unfoldable pub road : ℕ → End → ℕ → List ℕ
road samples e confidence = field samples ++ (end e ++ (decimal confidence ++ (10 ∷ [])))

unfoldable pub fix_line : FixLine → List ℕ
fix_line f = field f.number ++ (status f.status ++ (matched f.place ++ road f.samples f.end f.confidence))
