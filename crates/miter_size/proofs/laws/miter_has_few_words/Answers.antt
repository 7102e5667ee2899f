use Rattle.miter_size.proofs.MiterWords.{words-miter}
use Rattle.miter_size.proofs.laws.miter_has_few_words.Goals as goal

pub returns : goal.returns
returns c = words-miter
