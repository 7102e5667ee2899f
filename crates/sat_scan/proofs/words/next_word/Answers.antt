use Rattle.sat_scan.proofs.ScanLemmas.{tokens_from-word, tokens_from-end}
use Rattle.sat_scan.proofs.words.next_word.Goals as goal

-- at a byte that isn't a separator a word begins
pub returns-else-is_separator-clause-stands : goal.returns-else-is_separator-clause-stands
returns-else-is_separator-clause-stands c = record {
  within = c.loop-at.invariant.within;
  word = λ h. tokens_from-word c.loop-at.at c.args.text.now h (cc);
  end = λ h. tokens_from-end c.loop-at.at c.args.text.now h;
}
