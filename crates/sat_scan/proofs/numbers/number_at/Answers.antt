use Rattle.std.proofs.Common.{◌∙◌, sym, arith}
use Rattle.sat_scan.specs.Scan.{word_at}
use Rattle.sat_scan.proofs.DigitLemmas.{nonzero_within}
use Rattle.sat_scan.proofs.numbers.number_at.Goals as goal

-- a word that isn't 0 spells a number just where it spells a positive one
pub returns-clause-value : goal.returns-clause-value
returns-clause-value c =
    c.positive_at.ensures.value
    ∙ nonzero_within c.args.max (word_at c.args.at c.args.text.now) (let fits = c.ranges.max.fits in omega arith) (sym c.is_zero_at.ensures.value ∙ c.if-is_zero_at.false)
