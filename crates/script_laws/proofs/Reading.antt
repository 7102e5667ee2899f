-- A text has one value or one first fault.
use Rattle.std.proofs.Common.{◌≡◌, ℕ, List, Result, Ok, Err, refl, sym, ◌∙◌}
use Rattle.script_defs.specs.declared.error.ScriptError.{ScriptError}
use Rattle.script_defs.specs.Scripts.{ScriptValue}
use Rattle.script_defs.specs.Reading.{reading}
use Rattle.script_defs.specs.Texts.{ScriptOf}
use Rattle.script_laws.proofs.Following.{read_value, value_read, read_fault, fault_read}

-- what is answered for a text: its value or a fault
abbrev Read : Type 0
Read = Result ScriptValue ScriptError

-- what `reading` answers is the value or the fault
pub ScriptOf-reading : (text : List ℕ) (r : Read) → reading text ≡ r → ScriptOf text r
ScriptOf-reading text (Ok s) e = value_read text s e
ScriptOf-reading text (Err f) e = fault_read text f e

-- the value or the fault is what `reading` answers
reading-ScriptOf : (text : List ℕ) (r : Read) → ScriptOf text r → reading text ≡ r
reading-ScriptOf text (Ok s) h = read_value text s h
reading-ScriptOf text (Err f) h = read_fault text f h

-- a text has a value or a first fault
pub reading_exists : (text : List ℕ) → (r : Read) × ScriptOf text r
reading_exists text = (reading text, ScriptOf-reading text (reading text) refl)

-- and no two
pub reading_is_unique : (text : List ℕ) (a b : Read) → ScriptOf text a → ScriptOf text b → a ≡ b
reading_is_unique text a b h k = sym (reading-ScriptOf text a h) ∙ reading-ScriptOf text b k
