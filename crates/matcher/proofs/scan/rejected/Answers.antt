-- `matcher::scan::rejected` meets its contract: each return by the pairs of tests before it, one of which failed in each.
use Rattle.matcher.proofs.ScoreLiterals.{literal_40}
use Rattle.matcher.proofs.scan.rejected.Goals as goal
use Rattle.matcher.proofs.scan.rejected.Goals.{else-a-3-via-then-a-3+else-b-3, else-a-3-via-else-a-3, else-a-2-via-then-a-2+else-b-2, else-a-2-via-else-a-2, else-a-via-then-a+else-b, else-a-via-else-a}

pub returns-then-b : goal.returns-then-b
returns-then-b c = rw (← literal_40, c.if-a.true, c.if-b.true)

pub returns-then-b-2 : goal.returns-then-b-2
returns-then-b-2 c =
    elim c.else-a.branch [
      | else-a-via-then-a+else-b w ↦ rw (← literal_40, w.if-a.true, w.if-b.false, c.if-a-2.true, c.if-b-2.true)
      | else-a-via-else-a w ↦ rw (← literal_40, w.if-a.false, c.if-a-2.true, c.if-b-2.true)
    ]

pub returns-then-b-3 : goal.returns-then-b-3
returns-then-b-3 c =
    elim c.else-a.branch [
      | else-a-via-then-a+else-b w ↦ elim c.else-a-2.branch [
        | else-a-2-via-then-a-2+else-b-2 v ↦ rw (← literal_40, w.if-a.true, w.if-b.false, v.if-a-2.true, v.if-b-2.false, c.if-a-3.true, c.if-b-3.true)
        | else-a-2-via-else-a-2 v ↦ rw (← literal_40, w.if-a.true, w.if-b.false, v.if-a-2.false, c.if-a-3.true, c.if-b-3.true)
      ]
      | else-a-via-else-a w ↦ elim c.else-a-2.branch [
        | else-a-2-via-then-a-2+else-b-2 v ↦ rw (← literal_40, w.if-a.false, v.if-a-2.true, v.if-b-2.false, c.if-a-3.true, c.if-b-3.true)
        | else-a-2-via-else-a-2 v ↦ rw (← literal_40, w.if-a.false, v.if-a-2.false, c.if-a-3.true, c.if-b-3.true)
      ]
    ]

pub returns-then-a-4 : goal.returns-then-a-4
returns-then-a-4 c =
    elim c.else-a.branch [
      | else-a-via-then-a+else-b w ↦ elim c.else-a-2.branch [
        | else-a-2-via-then-a-2+else-b-2 v ↦ elim c.else-a-3.branch [
          | else-a-3-via-then-a-3+else-b-3 u ↦ rw (← literal_40, w.if-a.true, w.if-b.false, v.if-a-2.true, v.if-b-2.false, u.if-a-3.true, u.if-b-3.false, c.if-a-4.true)
          | else-a-3-via-else-a-3 u ↦ rw (← literal_40, w.if-a.true, w.if-b.false, v.if-a-2.true, v.if-b-2.false, u.if-a-3.false, c.if-a-4.true)
        ]
        | else-a-2-via-else-a-2 v ↦ elim c.else-a-3.branch [
          | else-a-3-via-then-a-3+else-b-3 u ↦ rw (← literal_40, w.if-a.true, w.if-b.false, v.if-a-2.false, u.if-a-3.true, u.if-b-3.false, c.if-a-4.true)
          | else-a-3-via-else-a-3 u ↦ rw (← literal_40, w.if-a.true, w.if-b.false, v.if-a-2.false, u.if-a-3.false, c.if-a-4.true)
        ]
      ]
      | else-a-via-else-a w ↦ elim c.else-a-2.branch [
        | else-a-2-via-then-a-2+else-b-2 v ↦ elim c.else-a-3.branch [
          | else-a-3-via-then-a-3+else-b-3 u ↦ rw (← literal_40, w.if-a.false, v.if-a-2.true, v.if-b-2.false, u.if-a-3.true, u.if-b-3.false, c.if-a-4.true)
          | else-a-3-via-else-a-3 u ↦ rw (← literal_40, w.if-a.false, v.if-a-2.true, v.if-b-2.false, u.if-a-3.false, c.if-a-4.true)
        ]
        | else-a-2-via-else-a-2 v ↦ elim c.else-a-3.branch [
          | else-a-3-via-then-a-3+else-b-3 u ↦ rw (← literal_40, w.if-a.false, v.if-a-2.false, u.if-a-3.true, u.if-b-3.false, c.if-a-4.true)
          | else-a-3-via-else-a-3 u ↦ rw (← literal_40, w.if-a.false, v.if-a-2.false, u.if-a-3.false, c.if-a-4.true)
        ]
      ]
    ]

pub returns : goal.returns
returns c =
    elim c.else-a.branch [
      | else-a-via-then-a+else-b w ↦ elim c.else-a-2.branch [
        | else-a-2-via-then-a-2+else-b-2 v ↦ elim c.else-a-3.branch [
          | else-a-3-via-then-a-3+else-b-3 u ↦ rw (← literal_40, w.if-a.true, w.if-b.false, v.if-a-2.true, v.if-b-2.false, u.if-a-3.true, u.if-b-3.false, c.if-a-4.false)
          | else-a-3-via-else-a-3 u ↦ rw (← literal_40, w.if-a.true, w.if-b.false, v.if-a-2.true, v.if-b-2.false, u.if-a-3.false, c.if-a-4.false)
        ]
        | else-a-2-via-else-a-2 v ↦ elim c.else-a-3.branch [
          | else-a-3-via-then-a-3+else-b-3 u ↦ rw (← literal_40, w.if-a.true, w.if-b.false, v.if-a-2.false, u.if-a-3.true, u.if-b-3.false, c.if-a-4.false)
          | else-a-3-via-else-a-3 u ↦ rw (← literal_40, w.if-a.true, w.if-b.false, v.if-a-2.false, u.if-a-3.false, c.if-a-4.false)
        ]
      ]
      | else-a-via-else-a w ↦ elim c.else-a-2.branch [
        | else-a-2-via-then-a-2+else-b-2 v ↦ elim c.else-a-3.branch [
          | else-a-3-via-then-a-3+else-b-3 u ↦ rw (← literal_40, w.if-a.false, v.if-a-2.true, v.if-b-2.false, u.if-a-3.true, u.if-b-3.false, c.if-a-4.false)
          | else-a-3-via-else-a-3 u ↦ rw (← literal_40, w.if-a.false, v.if-a-2.true, v.if-b-2.false, u.if-a-3.false, c.if-a-4.false)
        ]
        | else-a-2-via-else-a-2 v ↦ elim c.else-a-3.branch [
          | else-a-3-via-then-a-3+else-b-3 u ↦ rw (← literal_40, w.if-a.false, v.if-a-2.false, u.if-a-3.true, u.if-b-3.false, c.if-a-4.false)
          | else-a-3-via-else-a-3 u ↦ rw (← literal_40, w.if-a.false, v.if-a-2.false, u.if-a-3.false, c.if-a-4.false)
        ]
      ]
    ]
