use Rattle.std.proofs.Common.{◌≡◌, ap, ◌∙◌, length, slice_index, arith}
use Rattle.fabric_defs.specs.Numbered.{joined}
use Rattle.fabric_defs.specs.Spelling.{bytes_of}
use Rattle.fabric_bytes.proofs.SpellingLemmas.{pair_of, ConfigOf-printed}
use Rattle.fabric_bytes.proofs.printing.print_config.Goals as goal

-- the bytes of all words are read as the configuration
pub returns-clause-read_again : goal.returns-clause-read_again
returns-clause-read_again c =
    let words = c.words-words.result.now in
    let all : c.loop-word.word-index ≡ length words = omega arith in
    let printed : c.loop-word.bytes.items ≡ bytes_of c.args.config.now.words =
    c.loop-word.invariant
    ∙ ap (λ n. joined n (λ j. pair_of (slice_index words j))) all
    ∙ ap bytes_of c.words-words.ensures.value in
    ConfigOf-printed c.args.config.now c.loop-word.bytes.items c.words-words.ensures.known printed
