-- `matcher::gather::landings` meets its contract, place by place.
use Rattle.matcher.specs.Gather.{landings}
use Rattle.matcher.proofs.gather.landings.Goals as goal

pub returns : goal.returns
unfolding landings
returns c =
    rw (c.land-fourth.ensures, c.land-third.ensures, c.land-second.ensures, c.land-first.ensures)
