use Rattle.sat_text_defs.proofs.WordLemmas.{literal_in-word, word_literal}
use Rattle.cnf_text_laws.proofs.laws.literal_words_are_spelled.Goals as goal

pub returns : goal.returns
returns c w l = (literal_in-word w l, word_literal w l)
