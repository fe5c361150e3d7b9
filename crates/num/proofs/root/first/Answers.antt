-- `root::first` meets its contract: the line between two known roots, or one more.
use Rattle.num.proofs.RootLaws.{first_is}
use Rattle.num.proofs.root.first.Goals as goal

pub returns : goal.returns
returns c =
    let k = first_is c.args.x c.below.result c.requires.0 c.requires.1 c.below.ensures in
    k.1.1
