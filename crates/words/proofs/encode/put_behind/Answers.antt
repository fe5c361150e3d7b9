-- `encode::put_behind` meets its contract. The loop's invariant: as many pieces as turns are put.
use Rattle.std.proofs.Common.{◌≡◌, ℕ, sym, refl, arith, w16}
use Rattle.words.specs.Words.{heights_words}
use Rattle.words.proofs.PutLaws.{put-spread}
use Rattle.num.proofs.FoldLaws.{up_start, up_turn}
use Rattle.pack.proofs.Signed.{got}
use Rattle.words.proofs.encode.put_behind.Goals as goal

pub loop-i-init : goal.loop-i-init
loop-i-init c = (c.requires, sym (up_start _ _))

pub loop-i-preserved : goal.loop-i-preserved
loop-i-preserved c = (c.put.ensures.out_len, rw (c.put.ensures.out_after, c.height.ensures, got w16 c.height-arg-1.given, c.loop-i.invariant.1, up_turn))

pub returns : goal.returns
unfolding heights_words
returns c = let end : c.loop-i.i ≡ 11 = omega arith in
    record {
      out_after = rw (c.loop-i.invariant.1, end) (put-spread _ 1 (λ (j : ℕ). refl) 1131 _ (λ (j : ℕ). omega arith) 11 c.args.out.now (omega (arith, c.requires)));
      out_len = c.loop-i.invariant.0;
    }
