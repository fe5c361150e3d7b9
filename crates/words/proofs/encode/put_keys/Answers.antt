-- `encode::put_keys` meets its contract. The loop's invariant: as many pieces as turns are put.
use Rattle.words.specs.Words.{keys_words}
use Rattle.words.proofs.PutLaws.{put-spread}
use Rattle.num.proofs.FoldLaws.{up_start, up_turn}
use Rattle.std.proofs.Common.{◌≡◌, ℕ, sym, refl, arith}
use Rattle.words.proofs.encode.put_keys.Goals as goal

pub loop-i-init : goal.loop-i-init
loop-i-init c = (c.requires, sym (up_start _ _))

pub loop-i-preserved : goal.loop-i-preserved
loop-i-preserved c = (c.put.ensures.out_len, rw (c.put.ensures.out_after, c.has.ensures.value, c.held.ensures, c.loop-i.invariant.1, up_turn))

pub returns : goal.returns
unfolding keys_words
returns c = let end : c.loop-i.i ≡ 64 = omega arith in
    record {
      out_after = rw (c.loop-i.invariant.1, end) (put-spread _ 2 (λ (j : ℕ). refl) 401 _ (λ (j : ℕ). refl) 64 c.args.out.now (omega (arith, c.requires)));
      out_len = c.loop-i.invariant.0;
    }
