use Rattle.std.proofs.Common.{◌≡◌, ◌*◌, ap, ◌∙◌, length, arith, vec_len}
use Rattle.fabric_defs.specs.Layout.{word_count}
use Rattle.fabric_defs.specs.Spelling.{words_in, bytes_of}
use Rattle.fabric_bytes.proofs.SpellingLemmas.{OrMemory-exact, words_of_given, bytes_of-words_in, length-words_in, ConfigOf-same}
use Rattle.fabric_bytes.proofs.reading.read_config.Goals as goal

-- the words of the bytes are the configuration, or have the fault that was judged
pub returns-clause-exact : goal.returns-clause-exact
returns-clause-exact c =
    let words = c.in_ok-words.words in
    let spelled : words.items ≡ words_in c.args.b.now = c.in_ok-words.ensures in
    let even : length c.args.b.now ≡ 2 * word_count c.args.g = omega arith in
    let count : 2 * vec_len words ≡ length c.args.b.now =
    omega (arith, words.ok.0, ap length spelled, length-words_in c.args.b.now (word_count c.args.g) even) in
    OrMemory-exact c.args.g (length c.args.b.now) (words_in c.args.b.now) c.new.result
    (ConfigOf-same c.args.g _ _ words.items _ c.new.result count spelled c.new.ensures)

-- the configuration's words have these bytes
pub returns-clause-printed_again : goal.returns-clause-printed_again
returns-clause-printed_again c =
    let words = c.in_ok-words.words in
    let spelled : words.items ≡ words_in c.args.b.now = c.in_ok-words.ensures in
    let even : length c.args.b.now ≡ 2 * word_count c.args.g = omega arith in
    words_of_given c.args.g _ words.items c.args.b.now c.new.result c.new.ensures
    (ap bytes_of spelled ∙ bytes_of-words_in c.args.b.now (word_count c.args.g) even (λ k. (c.type_inv.b k).fits))
