use Rattle.direct_stories.proofs.Lists.{stories}
use Rattle.direct_stories.proofs.not_empty.Goals as goal

pub returns : goal.returns
returns c = stories
