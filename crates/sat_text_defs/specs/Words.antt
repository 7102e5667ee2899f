-- The words of a CNF or a trace: what separates them, and how they are spelled. (DIMACS CNF, TraceCheck)
use Rattle.std.specs.Prelude.{◌≡◌, ℕ, ◌≤◌, Bool, ◌||◌, ◌==◌, List, [], ◌∷◌, map, decimal, if◌then◌else◌}
use Rattle.clause_defs.specs.declared.verdict.TheConstants.{MAX_INDEX}
use Rattle.clause_defs.specs.Literals.{Literal, IsLiteral}
use Rattle.text_defs.specs.Numbers.{Spells}
use Rattle.text_defs.specs.Tokens.{Token}

-- space, tab, carriage return and line feed separate tokens
abbrev pub separates : ℕ → Bool
separates b = (b == 32) || (b == 9) || (b == 13) || (b == 10)

-- the word of a token
abbrev pub bytes_of : Token → List ℕ
bytes_of t = t.bytes

-- the words of a list of tokens
abbrev pub words_of : List Token → List (List ℕ)
words_of ts = map bytes_of ts

-- the word that ends a list: the digit 0 alone
abbrev pub zero_word : List ℕ
zero_word = 48 ∷ []

-- the word that stands in place of a clause's literals and the 0 behind them: `*` alone
abbrev pub sign_word : List ℕ
sign_word = 42 ∷ []

-- a literal is spelled by its variable, behind `-` where it is negative
abbrev pub literal_word : Literal → List ℕ
literal_word l = if l.positive then decimal l.variable else 45 ∷ decimal l.variable

-- the word spells this number, which is at most max
abbrev pub SpellsNumber : ℕ → List ℕ → ℕ → Type 0
SpellsNumber max w n = Spells w n × (n ≤ max)

-- the word spells this index
abbrev pub SpellsIndex : List ℕ → ℕ → Type 0
SpellsIndex w n = Spells w n × (1 ≤ n) × (n ≤ MAX_INDEX)

-- the word spells this literal
abbrev pub SpellsLiteral : List ℕ → Literal → Type 0
SpellsLiteral w l = IsLiteral l × (w ≡ literal_word l)

-- the word spells some index
abbrev pub IsIndexWord : List ℕ → Type 0
IsIndexWord w = (n : ℕ) × SpellsIndex w n

-- the word spells some literal
abbrev pub IsLiteralWord : List ℕ → Type 0
IsLiteralWord w = (l : Literal) × SpellsLiteral w l
