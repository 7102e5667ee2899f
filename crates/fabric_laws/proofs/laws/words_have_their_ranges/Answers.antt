use Rattle.fabric_laws.proofs.LimitLemmas.{has_ranges, track_word-le}
use Rattle.fabric_laws.proofs.laws.words_have_their_ranges.Goals as goal

-- each word is within the limit at its place
pub returns-clause-ranges : goal.returns-clause-ranges
returns-clause-ranges c = has_ranges

-- and a cell lies before the column that listens to it
pub returns-clause-own_columns : goal.returns-clause-own_columns
returns-clause-own_columns c k h column t = track_word-le k column t h
