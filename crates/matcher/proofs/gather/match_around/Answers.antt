-- `matcher::gather::match_around` meets its contract: the match leaves the cache as it was but for clock and ages.
use Rattle.matcher.proofs.GatherLaws.{updated_uses}
use Rattle.matcher.proofs.gather.match_around.Goals as goal

pub returns : goal.returns
returns c =
    let args = c.args in
    rw (
      c.with_uses-cache.ensures,
      c.made-u.ensures,
      updated_uses args.m args.c args.arena.now args.header args.fix args.heading,
    )
