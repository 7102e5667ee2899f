-- Tables as words of 64 bits.
use Rattle.std.proofs.Common.{◌≡◌, ℕ, ◌+◌, ◌*◌, ◌%◌, ◌^◌, ◌<◌, ◌≤◌, List, length, drop, get_or, ap, arith}
use Rattle.std.proofs.lemmas.List.{drop_more}
use Rattle.std.proofs.Math.Nat.{pow-le-pow_right, mod-eq_of_lt}
use Rattle.fabric_defs.specs.declared.limits.TheConstants.{WORD_BITS}
use Rattle.fabric_defs.specs.declared.kind.CellKind.{CellKind}
use Rattle.fabric_defs.specs.declared.kind.CellKind.TheVariants.{FourInputs, SixInputs}
use Rattle.fabric_defs.specs.Kinds.{pins_of, table_words_of}
use Rattle.fabric_defs.specs.Configurations.{number_behind}
use Rattle.fabric_laws.proofs.TableLemmas.{word_bits-more}

-- a table of any kind fits 64 bits
pub table_words-fit : (kind : CellKind) → WORD_BITS * table_words_of kind ≤ 64
table_words-fit FourInputs = omega arith
table_words-fit SixInputs = omega arith

-- so the places of its bits are below 64
pub table_bits-fit : (kind : CellKind) → 2 ^ pins_of kind ≤ 64
table_bits-fit FourInputs = omega arith
table_bits-fit SixInputs = omega arith

-- one word more behind a number
pub number_behind-more : (number : ℕ) (words : List ℕ) (i : ℕ) → i < length words
    → number_behind number (drop i words) ≡ number_behind (number * 2 ^ WORD_BITS + get_or words i 0) (drop (i + 1) words)
number_behind-more number words i lt = ap (number_behind number) (drop_more words i 0 lt)

-- and it has at most so many bits more
pub number-more : (number word i : ℕ) → number < 2 ^ (WORD_BITS * i) → word < 2 ^ WORD_BITS
    → number * 2 ^ WORD_BITS + word < 2 ^ (WORD_BITS * (i + 1))
number-more number word i lt short = rw word_bits-more (omega arith)

-- so nothing is lost when a number of fewer words makes room for one more
pub number-shifted : (number i : ℕ) → number < 2 ^ (WORD_BITS * i) → WORD_BITS * (i + 1) ≤ 64
    → number * 2 ^ WORD_BITS % 2 ^ 64 ≡ number * 2 ^ WORD_BITS
number-shifted number i lt fits =
    let most : 2 ^ (WORD_BITS * (i + 1)) ≤ 2 ^ 64 = pow-le-pow_right (omega arith) fits in
    mod-eq_of_lt (omega (arith, number-more number 0 i lt (omega arith)))
