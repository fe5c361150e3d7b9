-- `deliver::settled` meets its contract: what the step of the load leaves, with the fetch of the words themselves.
use Rattle.words.specs.Words.{engine_of, shared_of}
use Rattle.words.proofs.deliver.settled.Goals as goal

pub returns : goal.returns
unfolding engine_of shared_of
returns c =
    let left_1 = rw (c.settled-l.ensures, c.header-header.ensures, c.cache-c.ensures) at c.left.ensures.value in
    let left_2 = rw (c.settled-l.ensures, c.header-header.ensures, c.cache-c.ensures) at c.left.ensures.ws_after in
    record {
      value = left_1;
      ws_after = left_2;
    }
