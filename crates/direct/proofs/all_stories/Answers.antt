use Rattle.direct.proofs.Stories.{all_stories}
use Rattle.direct.proofs.all_stories.Goals as goal

pub returns : goal.returns
returns c = all_stories
