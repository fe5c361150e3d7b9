use Rattle.direct.proofs.Published.{all_published}
use Rattle.direct.proofs.all_published.Goals as goal

pub returns : goal.returns
returns c = all_published
