-- Scripts as the plain records that definitions speak of.
use Rattle.std.specs.Prelude.{ℕ, List, Result, Ok, Err}
use Rattle.script_defs.specs.declared.error.ScriptError.{ScriptError}
use Rattle.script_defs.specs.Scripts.{ScriptValue}
use Rattle.script_defs.specs.Texts.{ScriptText, ScriptFault}
use Rattle.run_script.specs.declared.script.Script.{Script}

-- a script as its plain record
abbrev pub script_of : Script → ScriptValue
script_of s = record {
  geometry = s.geometry;
  slots = s.slots;
  limit = s.limit;
  workers = s.workers;
  files = s.files;
  lanes = s.lanes;
}

-- the script is the value of the text, or the error is its first fault
abbrev pub IsReadFrom : List ℕ → Result Script ScriptError → Type 0
IsReadFrom text (Ok s) = ScriptText text (script_of s)
IsReadFrom text (Err fault) = ScriptFault text fault
