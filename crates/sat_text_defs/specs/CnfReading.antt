-- The CNF of a text, or its fault, computed from the tokens from left to right. (DIMACS CNF)
use Rattle.std.specs.Prelude.{ℕ, Bool, true, false, ◌&&◌, ◌==◌, nat_lt, nat_le, List, [], ◌∷◌, ◌++◌, length, ok_or, Result, Ok, Err, if◌then◌else◌}
use Rattle.clause_defs.specs.declared.verdict.TheConstants.{MAX_VARIABLE, MAX_CLAUSES}
use Rattle.clause_defs.specs.Literals.{Literal}
use Rattle.clause_defs.specs.Clauses.{Lits, clause_of}
use Rattle.clause_defs.specs.Formulas.{Formula}
use Rattle.text_defs.specs.Steps.{◌>>=◌}
use Rattle.text_defs.specs.Numbers.{number_within}
use Rattle.text_defs.specs.Tokens.{Token}
use Rattle.sat_text_defs.specs.declared.limits.TheConstants.{MAX_CNF_BYTES}
use Rattle.sat_text_defs.specs.declared.errors.CnfError.{CnfError}
use Rattle.sat_text_defs.specs.declared.errors.CnfError.TheVariants.{TooLong, Syntax, VarRange, Count}
use Rattle.sat_text_defs.specs.Spellings.{is_zero, literal_in}
use Rattle.sat_text_defs.specs.CnfText.{tokens_of, header_end, p_word, cnf_word}

-- ---- the header

-- the two words are the same
abbrev pub same_word : List ℕ → List ℕ → Bool
same_word [] [] = true
same_word [] (b ∷ bs) = false
same_word (a ∷ as_) [] = false
same_word (a ∷ as_) (b ∷ bs) = (a == b) && same_word as_ bs

-- the tokens behind the first one, which must be this word and begin before the end of the line
abbrev pub behind_word : ℕ → ℕ → List ℕ → List Token → Result (List Token) CnfError
behind_word end line w [] = Err (Syntax end)
behind_word end line w (t ∷ ts) = if nat_lt t.at line && same_word t.bytes w then Ok ts else Err (Syntax t.at)

-- the number from 0 to max that the first token spells, which must begin before the end of the line
abbrev pub number_before : ℕ → ℕ → ℕ → List Token → Result (ℕ × List Token) CnfError
number_before end line max [] = Err (Syntax end)
number_before end line max (t ∷ ts) =
    if nat_lt t.at line
    then (ok_or (number_within max t.bytes) (Syntax t.at) >>= λ n. Ok (n, ts))
    else Err (Syntax t.at)

-- no token is left, or the first one begins behind the end of the line
abbrev pub behind_line : ℕ → List Token → Result (List Token) CnfError
behind_line line [] = Ok []
behind_line line (t ∷ ts) = if nat_lt t.at line then Err (Syntax t.at) else Ok (t ∷ ts)

-- a header that was read, and the tokens behind its line
pub record Header : Type 0 where
  pub variables : ℕ
  pub clauses : ℕ
  pub rest : List Token

-- the words `p`, `cnf` and two numbers, alone on their line
abbrev pub header_in : ℕ → ℕ → List Token → Result Header CnfError
header_in end line ts =
    behind_word end line p_word ts >>= λ ts1.
    (behind_word end line cnf_word ts1 >>= λ ts2.
    (number_before end line MAX_VARIABLE ts2 >>= λ v.
    (number_before end line MAX_CLAUSES v.1 >>= λ c.
    (behind_line line c.1 >>= λ rest. Ok (record { variables = v.0; clauses = c.0; rest = rest })))))

-- ---- the clauses

-- the literal that a token spells, over these variables
abbrev pub literal_within : ℕ → Token → Result Literal CnfError
literal_within variables t =
    ok_or (literal_in t.bytes) (Syntax t.at) >>= λ l. (if nat_le l.variable variables then Ok l else Err (VarRange t.at))

-- the clauses behind those read so far, where ls are the literals of a clause that is open
abbrev pub clauses_from : ℕ → ℕ → List Token → List Lits → Lits → Result (List Lits) CnfError
clauses_from variables end [] fs [] = Ok fs
clauses_from variables end [] fs (l ∷ ls) = Err (Syntax end)
clauses_from variables end (t ∷ ts) fs ls =
    if is_zero t.bytes
    then clauses_from variables end ts (fs ++ clause_of ls ∷ []) []
    else (literal_within variables t >>= λ l. clauses_from variables end ts fs (ls ++ l ∷ []))

-- the clauses, if there are as many as the header says
abbrev pub counted : ℕ → ℕ → List Lits → Result Formula CnfError
counted variables said fs =
    if length fs == said then Ok (record { variables = variables; clauses = fs }) else Err (Count said (length fs))

-- the CNF of the tokens of a text that ends at `end`, where the first line with tokens ends at `line`
abbrev pub cnf_from : ℕ → ℕ → List Token → Result Formula CnfError
cnf_from end line ts =
    header_in end line ts >>= λ h.
    (clauses_from h.variables end h.rest [] [] >>= λ fs. counted h.variables h.clauses fs)

-- the CNF of a text, or its fault
abbrev pub cnf_in : List ℕ → Result Formula CnfError
cnf_in text =
    if nat_lt MAX_CNF_BYTES (length text)
    then Err TooLong
    else cnf_from (length text) (header_end text (tokens_of text)) (tokens_of text)
