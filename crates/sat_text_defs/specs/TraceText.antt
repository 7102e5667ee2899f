-- Which bytes are the text of which trace, and the one fault of any other text. (TraceCheck, with the sign `*`
-- where a clause's literals aren't stated.)
--
-- A text has a version: where it is 1, no clause has the sign.
use Rattle.std.specs.Prelude.{◌≡◌, ◌≢◌, ℕ, ◌<◌, ◌≤◌, ◌⊎◌, List, [], ◌∷◌, ◌++◌, length, map, decimal, Option, Some, None, if◌then◌else◌}
use Rattle.std.specs.List.{flat_map}
use Rattle.clause_defs.specs.declared.verdict.TheConstants.{MAX_INDEX}
use Rattle.clause_defs.specs.Literals.{Literal, IsLiteral}
use Rattle.clause_defs.specs.Clauses.{Lits, Has, SameSet}
use Rattle.clause_defs.specs.Compaction.{AllStated}
use Rattle.clause_defs.specs.Traces.{Entry, IsTrace, literals_in, index_at}
use Rattle.text_defs.specs.Tokens.{Token, tokens}
use Rattle.sat_text_defs.specs.declared.limits.TheConstants.{MAX_TRACE_BYTES}
use Rattle.sat_text_defs.specs.declared.errors.TraceError.{TraceError}
use Rattle.sat_text_defs.specs.declared.errors.TraceError.TheVariants.{TooLong, Syntax, Repeated, Unknown, NoMemory}
use Rattle.sat_text_defs.specs.Words.{separates, words_of, zero_word, sign_word, literal_word, IsIndexWord, IsLiteralWord}
use Rattle.sat_text_defs.specs.Spellings.{is_zero, is_sign}

-- ---- texts of traces

-- A clause as a text has it: its literals in any order and repeated or not, or none where the sign stands; its
-- antecedents by index.
pub record Spelled : Type 0 where
  pub index : ℕ
  pub stated : Option Lits
  pub antecedents : List ℕ

-- the literals and 0, or the sign
abbrev pub stated_words : Option Lits → List (List ℕ)
stated_words None = sign_word ∷ []
stated_words (Some ls) = map literal_word ls ++ (zero_word ∷ [])

-- its index, its literals and 0 or the sign, the indices of its antecedents, 0
abbrev pub clause_words : Spelled → List (List ℕ)
clause_words s = decimal s.index ∷ (stated_words s.stated ++ (map decimal s.antecedents ++ (zero_word ∷ [])))

-- the sign stands in both, or literals in both that are the same set
abbrev pub SameStated : Option Lits → Option Lits → Type 0
SameStated None None = Unit {0}
SameStated None (Some d) = ⊥
SameStated (Some c) None = ⊥
SameStated (Some c) (Some d) = SameSet c d

-- s spells the clause e of the trace t
pub record IsSpelled (t : List Entry) (s : Spelled) (e : Entry) : Type 0 where
  pub index : s.index ≡ e.index
  pub stated : SameStated s.stated e.stated
  pub antecedents : s.antecedents ≡ map (index_at t) e.antecedents

-- the clauses es of the trace t are spelled in this way, one after the other
abbrev pub AreSpelled : List Entry → List Spelled → List Entry → Type 0
AreSpelled t [] [] = Unit {0}
AreSpelled t [] (e ∷ es) = ⊥
AreSpelled t (s ∷ ss) [] = ⊥
AreSpelled t (s ∷ ss) (e ∷ es) = IsSpelled t s e × AreSpelled t ss es

-- in a text of version v these words are those of the clauses of the trace t, in their order
pub record SpellsTrace (v : ℕ) (ws : List (List ℕ)) (t : List Entry) : Type 0 where
  pub trace : IsTrace t
  pub signs : v ≡ 1 → AllStated t
  pub spelled : List Spelled
  pub same_clauses : AreSpelled t spelled t
  pub same_words : ws ≡ flat_map clause_words spelled

-- the tokens of a trace's text
abbrev pub tokens_of : List ℕ → List Token
tokens_of text = tokens separates 0 text

-- the bytes are the text of the trace t, in version v
abbrev pub TraceText : List ℕ → ℕ → List Entry → Type 0
TraceText text v t = (length text ≤ MAX_TRACE_BYTES) × SpellsTrace v (words_of (tokens_of text)) t

-- ---- which word can stand where

-- what a word is, told by the words before it
pub data Role : Type 0 where
  -- a clause's index
  index : Role
  -- the word directly behind the index: the sign, a literal or 0
  first : Role
  -- a later literal, or 0
  literal : Role
  -- the word directly behind the sign: an antecedent
  behind_sign : Role
  -- an antecedent, or 0
  antecedent : Role

-- the role of the word behind a word that has this role
abbrev pub role_after : Role → List ℕ → Role
role_after index w = first
role_after first w = if is_sign w then behind_sign else (if is_zero w then antecedent else literal)
role_after literal w = if is_zero w then antecedent else literal
role_after behind_sign w = antecedent
role_after antecedent w = if is_zero w then index else antecedent

-- the role of the word behind these words, of which the first has this role
abbrev pub role_behind : Role → List (List ℕ) → Role
role_behind r [] = r
role_behind r (w ∷ ws) = role_behind (role_after r w) ws

-- the word can have this role, in a text of version v
abbrev pub CanStandAs : ℕ → Role → List ℕ → Type 0
CanStandAs v index w = IsIndexWord w
CanStandAs v first w = (IsLiteralWord w ⊎ (w ≡ zero_word)) ⊎ ((v ≢ 1) × (w ≡ sign_word))
CanStandAs v literal w = IsLiteralWord w ⊎ (w ≡ zero_word)
CanStandAs v behind_sign w = IsIndexWord w
CanStandAs v antecedent w = IsIndexWord w ⊎ (w ≡ zero_word)

-- the word can stand behind these words
abbrev pub CanStand : ℕ → List (List ℕ) → List ℕ → Type 0
CanStand v before w = CanStandAs v (role_behind index before) w

-- each token can stand behind those before it
abbrev pub EachCanStand : ℕ → List Token → Type 0
EachCanStand v ts =
    (before : List Token) (t : Token) (after : List Token) → ts ≡ before ++ (t ∷ after) → CanStand v (words_of before) t.bytes

-- the words end with a whole clause, or there are none
abbrev pub AreWhole : List (List ℕ) → Type 0
AreWhole ws = role_behind index ws ≡ index

-- ---- faults

-- the words have the words of the trace t, and then those of no whole clause
pub record StandsBefore (v : ℕ) (t : List Entry) (ws : List (List ℕ)) : Type 0 where
  pub whole : List (List ℕ)
  pub open_clause : List (List ℕ)
  pub spells : SpellsTrace v whole t
  pub parts : ws ≡ whole ++ open_clause
  pub none_whole : (front back : List (List ℕ)) → open_clause ≡ front ++ back → AreWhole front → front ≡ []

-- all tokens before t can stand, t can't, and all whole clauses before it are right
pub record FirstBad (v : ℕ) (ts : List Token) (t : Token) : Type 0 where
  pub before : List Token
  pub after : List Token
  pub parts : ts ≡ before ++ (t ∷ after)
  pub each_before : EachCanStand v before
  pub cannot : CanStand v (words_of before) t.bytes → ⊥
  pub trace : List Entry
  pub right : StandsBefore v trace (words_of before)

-- all tokens can stand, all whole clauses are right, and the text ends inside a clause
pub record EndsInside (v : ℕ) (ts : List Token) : Type 0 where
  pub each : EachCanStand v ts
  pub not_whole : AreWhole (words_of ts) → ⊥
  pub trace : List Entry
  pub right : StandsBefore v trace (words_of ts)

-- some clause of the trace has this index
abbrev pub HasIndex : List Entry → ℕ → Type 0
HasIndex t x = (e : Entry) × Has t e × (e.index ≡ x)

-- the numbers of the clause are within their limits, and it may have the sign where it has it
pub record IsSpelledClause (v : ℕ) (s : Spelled) : Type 0 where
  pub low : 1 ≤ s.index
  pub high : s.index ≤ MAX_INDEX
  pub lits : (l : Literal) → Has (literals_in s.stated) l → IsLiteral l
  pub antecedents : (x : ℕ) → Has s.antecedents x → (1 ≤ x) × (x ≤ MAX_INDEX)
  pub sign : s.stated ≡ None → (v ≢ 1) × (s.antecedents ≢ [])

-- the clause s is the first one that the clauses of the trace t before it judge faulty
pub record FirstJudged (v : ℕ) (ws : List (List ℕ)) (t : List Entry) (s : Spelled) : Type 0 where
  pub whole : List (List ℕ)
  pub after : List (List ℕ)
  pub spells : SpellsTrace v whole t
  pub clause : IsSpelledClause v s
  pub parts : ws ≡ whole ++ (clause_words s ++ after)

-- the first antecedent of the list that no clause of the trace has as its index
pub record FirstUnknown (t : List Entry) (antecedents : List ℕ) (x : ℕ) : Type 0 where
  pub known : List ℕ
  pub after : List ℕ
  pub parts : antecedents ≡ known ++ (x ∷ after)
  pub each_known : (y : ℕ) → Has known y → HasIndex t y
  pub unknown : HasIndex t x → ⊥

-- the fault of a text that isn't too long; no text gives want of memory
abbrev pub FaultOf : ℕ → ℕ → List Token → TraceError → Type 0
FaultOf v end ts TooLong = ⊥
FaultOf v end ts (Syntax at) = ((t : Token) × FirstBad v ts t × (at ≡ t.at)) ⊎ (EndsInside v ts × (at ≡ end))
FaultOf v end ts (Repeated repeated) =
    (t : List Entry) × (s : Spelled) × FirstJudged v (words_of ts) t s × HasIndex t s.index × (repeated ≡ s.index)
FaultOf v end ts (Unknown judged unknown) =
    (t : List Entry) × (s : Spelled) × FirstJudged v (words_of ts) t s × (HasIndex t s.index → ⊥) × (judged ≡ s.index)
    × FirstUnknown t s.antecedents unknown
FaultOf v end ts NoMemory = ⊥

-- f is the fault of the text, in version v
abbrev pub TraceTextFault : List ℕ → ℕ → TraceError → Type 0
TraceTextFault text v f =
    ((MAX_TRACE_BYTES < length text) × (f ≡ TooLong))
    ⊎ ((length text ≤ MAX_TRACE_BYTES) × FaultOf v (length text) (tokens_of text) f)
