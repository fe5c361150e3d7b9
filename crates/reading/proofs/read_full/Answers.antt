-- `read_full` meets its contract: what a read puts behind the bytes so far is what the input gave next.
use Rattle.std.proofs.Common.{◌≡◌, ℕ, ◌+◌, ◌-◌, ◌≤◌, List, ◌++◌, length, take, arith, ap, ◌∙◌, subst}
use Rattle.std.proofs.Math.Seq.{take-append-add}
use Rattle.std.proofs.lemmas.List.{take-append-le, length-take-le, length-append}
use Rattle.std.proofs.KnownBytes.{Consumes-trans}
use borrow.Rule.Slice.PartMut.{put_mid}
use Rattle.reading.proofs.read_full.Goals as goal

-- the first bytes of a buffer, some of them read now
taken : (done k n : ℕ) (buf part : List ℕ) → done ≤ length buf → n ≤ length part → take (done + n) (put_mid done k buf part) ≡ take done buf ++ take n part
taken done k n buf part h g =
    let count : length (take done buf) ≡ done = length-take-le done buf h in
    subst (λ (i : ℕ). take (i + n) (put_mid done k buf part) ≡ take done buf ++ take n part) count
    (take-append-add (take done buf) _ n ∙ ap (λ (l : List ℕ). take done buf ++ l) (take-append-le n part _ g))

within_buffer : (done k n : ℕ) (buf part : List ℕ) → done ≤ length buf → n ≤ length part → done + n ≤ length (put_mid done k buf part)
within_buffer done k n buf part h g = simp length-append (omega (arith, length-take-le done buf h))

pub loop-done-preserved : goal.loop-done-preserved
loop-done-preserved g c =
    let l = c.loop-done in
    let read = c.in_ok-n.ensures in
    let within : c.in_ok-n.n ≤ length c.read.new.buf = omega (arith, read.bound.0) in (
      within_buffer l.done (length l.buf - l.done) c.in_ok-n.n l.buf c.read.new.buf l.invariant.0 within,
      rw (taken l.done (length l.buf - l.done) c.in_ok-n.n l.buf c.read.new.buf l.invariant.0 within)
          (Consumes-trans _ _ _ _ _ l.invariant.1 read.bytes.0),
    )
