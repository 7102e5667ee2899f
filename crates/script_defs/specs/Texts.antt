-- The value of a script's text, and the first fault of a text that has no value.
use Rattle.std.specs.Prelude.{◌≡◌, ℕ, ◌<◌, ◌≤◌, ◌⊎◌, List, [], ◌∷◌, ◌++◌, length, Some, None, Result, Ok, Err}
use Rattle.script_defs.specs.declared.limits.TheConstants.{MAX_SCRIPT_BYTES}
use Rattle.script_defs.specs.declared.error.ScriptError.{ScriptError}
use Rattle.script_defs.specs.declared.error.ScriptError.TheVariants.{TooLong, Line, NoMemory}
use Rattle.script_defs.specs.Scripts.{ScriptValue}
use Rattle.script_defs.specs.Lines.{Statement, statements, line_behind}
use Rattle.script_defs.specs.Reading.{Draft, start, with_words, value_of}

-- the lines lead from the one draft to the other, and none of them is faulty
abbrev pub Follows : Draft → List Statement → Draft → Type 0
Follows before [] after = before ≡ after
Follows before (s ∷ later) after = (next : Draft) × (with_words before s.words ≡ Some next) × Follows next later after

-- s is the value of the text: no line is faulty, and the last line that a script needs is there
pub record ScriptText (text : List ℕ) (s : ScriptValue) : Type 0 where
  pub short : length text ≤ MAX_SCRIPT_BYTES
  pub end : Draft
  pub follows : Follows start (statements text) end
  pub value : value_of end ≡ Some s

-- the line of this number is faulty, and none before it is
pub record IsFirstFaultyLine (text : List ℕ) (line : ℕ) : Type 0 where
  pub before : List Statement
  pub faulty : Statement
  pub later : List Statement
  pub parts : statements text ≡ before ++ faulty ∷ later
  pub draft : Draft
  pub follows : Follows start before draft
  pub is_faulty : with_words draft faulty.words ≡ None
  pub number : line ≡ faulty.at

-- no line is faulty, and the text ends before a lane is there; the number is that of a further line
pub record EndsEarly (text : List ℕ) (line : ℕ) : Type 0 where
  pub end : Draft
  pub follows : Follows start (statements text) end
  pub value : value_of end ≡ None
  pub number : line ≡ line_behind text

-- the first fault of the text: that it is too long, else its first faulty line, else that it ends too early
abbrev pub ScriptFault : List ℕ → ScriptError → Type 0
ScriptFault text TooLong = MAX_SCRIPT_BYTES < length text
ScriptFault text (Line line) =
    (length text ≤ MAX_SCRIPT_BYTES) × (IsFirstFaultyLine text line ⊎ EndsEarly text line)
ScriptFault text NoMemory = ⊥

-- the value of a text, or its first fault
abbrev pub ScriptOf : List ℕ → Result ScriptValue ScriptError → Type 0
ScriptOf text (Ok s) = ScriptText text s
ScriptOf text (Err fault) = ScriptFault text fault
