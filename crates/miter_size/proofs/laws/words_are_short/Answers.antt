use Rattle.miter_size.proofs.PrintedLengths.{printed-le}
use Rattle.miter_size.proofs.laws.words_are_short.Goals as goal

pub returns : goal.returns
returns c = printed-le
