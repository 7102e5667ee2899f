-- Which bytes are the text of which CNF, and the one fault of any other text, over the whole list of the
-- text's tokens. (DIMACS CNF)
use Rattle.std.specs.Prelude.{◌≡◌, ◌≢◌, ℕ, ◌+◌, ◌<◌, ◌≤◌, ◌⊎◌, Bool, true, false, ◌==◌, not, List, [], ◌∷◌, ◌++◌, length, map, drop, decimal, if◌then◌else◌}
use Rattle.std.specs.List.{flat_map}
use Rattle.clause_defs.specs.declared.verdict.TheConstants.{MAX_VARIABLE, MAX_CLAUSES}
use Rattle.clause_defs.specs.Literals.{Literal}
use Rattle.clause_defs.specs.Clauses.{Lits, Has, SameSet, IsClause, WithinVariables}
use Rattle.clause_defs.specs.Formulas.{Formula}
use Rattle.text_defs.specs.Tokens.{Token, tokens}
use Rattle.sat_text_defs.specs.declared.limits.TheConstants.{MAX_CNF_BYTES}
use Rattle.sat_text_defs.specs.declared.errors.CnfError.{CnfError}
use Rattle.sat_text_defs.specs.declared.errors.CnfError.TheVariants.{TooLong, Syntax, VarRange, Count, NoMemory}
use Rattle.sat_text_defs.specs.Words.{separates, words_of, zero_word, literal_word, SpellsNumber, SpellsLiteral, IsLiteralWord}
use Rattle.sat_text_defs.specs.Spellings.{is_zero}

-- ---- comments

-- where a byte stands: first in its line, later in a line, or later in a line whose first byte is `c`
pub data Place : Type 0 where
  first : Place
  later : Place
  comment : Place

-- a byte of a comment line, where it stands so
abbrev pub is_comment : Place → ℕ → Bool
is_comment first b = b == 99
is_comment later b = false
is_comment comment b = not (b == 10)

-- where the byte behind this one stands
abbrev pub place_after : Place → ℕ → Place
place_after p b = if b == 10 then first else (if is_comment p b then comment else later)

-- the text with a blank in place of each byte of a comment line
abbrev pub uncommented : Place → List ℕ → List ℕ
uncommented p [] = []
uncommented p (b ∷ bs) = (if is_comment p b then 32 else b) ∷ uncommented (place_after p b) bs

-- the tokens of the lines that aren't comments
abbrev pub tokens_of : List ℕ → List Token
tokens_of text = tokens separates 0 (uncommented first text)

-- the offset of the first line feed, or of the end, of bytes whose first one stands at this offset
abbrev pub line_end : ℕ → List ℕ → ℕ
line_end at [] = at
line_end at (b ∷ bs) = if b == 10 then at else line_end (at + 1) bs

-- ---- texts of CNFs

-- the word `p`
abbrev pub p_word : List ℕ
p_word = 112 ∷ []

-- the word `cnf`
abbrev pub cnf_word : List ℕ
cnf_word = 99 ∷ 110 ∷ 102 ∷ []

-- the words of the header of this many clauses over this many variables
abbrev pub header_words : ℕ → ℕ → List (List ℕ)
header_words variables clauses = p_word ∷ cnf_word ∷ decimal variables ∷ decimal clauses ∷ []

-- the words of a clause: its literals and 0
abbrev pub clause_words : Lits → List (List ℕ)
clause_words ls = map literal_word ls ++ zero_word ∷ []

-- no literal of a clause of the list has a greater variable
abbrev pub EachWithin : ℕ → List Lits → Type 0
EachWithin variables f = (c : Lits) → Has f c → WithinVariables variables c

-- what the formula of a text keeps
pub record IsFormula (f : Formula) : Type 0 where
  pub few_variables : f.variables ≤ MAX_VARIABLE
  pub few_clauses : length f.clauses ≤ MAX_CLAUSES
  pub clauses : (c : Lits) → Has f.clauses c → IsClause c
  pub within : EachWithin f.variables f.clauses

-- the literals ls, in any order and repeated or not, are those of the clause c over this many variables
pub record IsSpelled (variables : ℕ) (ls c : Lits) : Type 0 where
  pub clause : IsClause c
  pub within : WithinVariables variables c
  pub lits : SameSet ls c

-- the clauses cs are spelled in this way, one after the other
abbrev pub AreSpelled : ℕ → List Lits → List Lits → Type 0
AreSpelled variables [] [] = Unit {0}
AreSpelled variables [] (c ∷ cs) = ⊥
AreSpelled variables (ls ∷ spelled) [] = ⊥
AreSpelled variables (ls ∷ spelled) (c ∷ cs) = IsSpelled variables ls c × AreSpelled variables spelled cs

-- the offset of the end of the line on which the first token stands, or of the text's end without one
abbrev pub header_end : List ℕ → List Token → ℕ
header_end text [] = length text
header_end text (t ∷ ts) = line_end t.at (drop t.at text)

-- The tokens, where the line of the first one ends at `line`, are a header, alone on its line, and then the
-- clauses of f, one after the other.
pub record SpellsFormula (line : ℕ) (ts : List Token) (f : Formula) : Type 0 where
  pub header : List Token
  pub body : List Token
  pub parts : ts ≡ header ++ body
  pub words : words_of header ≡ header_words f.variables (length f.clauses)
  pub on_line : (t : Token) → Has header t → t.at < line
  pub alone : (t : Token) → Has body t → line ≤ t.at
  pub variables : f.variables ≤ MAX_VARIABLE
  pub clauses : length f.clauses ≤ MAX_CLAUSES
  pub spelled : List Lits
  pub same_clauses : AreSpelled f.variables spelled f.clauses
  pub same_words : words_of body ≡ flat_map clause_words spelled

-- the bytes are the text of f
abbrev pub CnfText : List ℕ → Formula → Type 0
CnfText text f = (length text ≤ MAX_CNF_BYTES) × SpellsFormula (header_end text (tokens_of text)) (tokens_of text) f

-- ---- faults

-- the word is 0 or spells a literal
abbrev pub IsClauseWord : List ℕ → Type 0
IsClauseWord w = (w ≡ zero_word) ⊎ IsLiteralWord w

-- Whether a token can stand behind these tokens: `p`, `cnf` and two numbers on the first line with tokens,
-- and behind that line 0 or a literal.
abbrev pub CanStand : ℕ → List Token → Token → Type 0
CanStand line [] t = (t.at < line) × (t.bytes ≡ p_word)
CanStand line (p ∷ []) t = (t.at < line) × (t.bytes ≡ cnf_word)
CanStand line (p ∷ cnf ∷ []) t = (t.at < line) × ((n : ℕ) × SpellsNumber MAX_VARIABLE t.bytes n)
CanStand line (p ∷ cnf ∷ v ∷ []) t = (t.at < line) × ((n : ℕ) × SpellsNumber MAX_CLAUSES t.bytes n)
CanStand line (p ∷ cnf ∷ v ∷ c ∷ us) t = (line ≤ t.at) × IsClauseWord t.bytes

-- the token is a literal whose variable is greater than the number of variables that the header says
abbrev pub IsOutOfRange : List Token → Token → Type 0
IsOutOfRange (p ∷ cnf ∷ v ∷ c ∷ us) t =
    (n : ℕ) × SpellsNumber MAX_VARIABLE v.bytes n × ((l : Literal) × SpellsLiteral t.bytes l × (n < l.variable))
IsOutOfRange before t = ⊥

-- a token that is right behind these tokens
abbrev pub IsRight : ℕ → List Token → Token → Type 0
IsRight line before t = CanStand line before t × (IsOutOfRange before t → ⊥)

-- each token is right behind those before it
abbrev pub EachRight : ℕ → List Token → Type 0
EachRight line ts = (before : List Token) (t : Token) (after : List Token) → ts ≡ before ++ (t ∷ after) → IsRight line before t

-- t is the first token that isn't right, since it can't stand where it does
pub record FirstBad (line : ℕ) (ts : List Token) (t : Token) : Type 0 where
  pub before : List Token
  pub after : List Token
  pub parts : ts ≡ before ++ (t ∷ after)
  pub each_before : EachRight line before
  pub cannot : CanStand line before t → ⊥

-- t is the first token that isn't right, since its variable is too great
pub record FirstOutOfRange (line : ℕ) (ts : List Token) (t : Token) : Type 0 where
  pub before : List Token
  pub after : List Token
  pub parts : ts ≡ before ++ (t ∷ after)
  pub each_before : EachRight line before
  pub stands : CanStand line before t
  pub out : IsOutOfRange before t

-- whether the last word is `0`, where `zero` says it of the word before
abbrev pub ends_in_zero : Bool → List (List ℕ) → Bool
ends_in_zero zero [] = zero
ends_in_zero zero (w ∷ ws) = ends_in_zero (is_zero w) ws

-- there are the four tokens of a header, and behind them none, or a last one that is 0
abbrev pub IsWhole : List Token → Type 0
IsWhole (p ∷ cnf ∷ v ∷ c ∷ us) = ends_in_zero true (words_of us) ≡ true
IsWhole ts = ⊥

-- how many of the words are 0
abbrev pub zeros : List (List ℕ) → ℕ
zeros [] = 0
zeros (w ∷ ws) = if is_zero w then (1 + zeros ws) else zeros ws

-- the header says `said` clauses, and there are `found`
abbrev pub Counts : List Token → ℕ → ℕ → Type 0
Counts (p ∷ cnf ∷ v ∷ c ∷ us) said found = SpellsNumber MAX_CLAUSES c.bytes said × (found ≡ zeros (words_of us))
Counts ts said found = ⊥

-- the fault of a text that isn't too long; no text gives want of memory
abbrev pub FaultOf : ℕ → ℕ → List Token → CnfError → Type 0
FaultOf end line ts TooLong = ⊥
FaultOf end line ts (Syntax at) =
    ((t : Token) × FirstBad line ts t × (at ≡ t.at)) ⊎ (EachRight line ts × (IsWhole ts → ⊥) × (at ≡ end))
FaultOf end line ts (VarRange at) = (t : Token) × FirstOutOfRange line ts t × (at ≡ t.at)
FaultOf end line ts (Count said found) = EachRight line ts × IsWhole ts × Counts ts said found × (said ≢ found)
FaultOf end line ts NoMemory = ⊥

-- e is the fault of the text
abbrev pub CnfTextFault : List ℕ → CnfError → Type 0
CnfTextFault text e =
    ((MAX_CNF_BYTES < length text) × (e ≡ TooLong))
    ⊎ ((length text ≤ MAX_CNF_BYTES) × FaultOf (length text) (header_end text (tokens_of text)) (tokens_of text) e)
