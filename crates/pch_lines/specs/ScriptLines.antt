-- The line of the fault of a script, behind the words that stand in front. No line says that memory was wanting.
use Rattle.std.specs.Prelude.{ℕ, List, [], codes}
use Rattle.script_defs.specs.declared.error.ScriptError.{ScriptError}
use Rattle.script_defs.specs.declared.error.ScriptError.TheVariants.{TooLong, Line, NoMemory}
use Rattle.pch_lines.specs.Lines.{and_word, and_number, ended}

-- of a script: that it is too long, or the number of a line
abbrev pub script_line : List ℕ → ScriptError → List ℕ
script_line front TooLong = ended (and_word front (codes "too-long"))
script_line front (Line line) = ended (and_number front line)
script_line front NoMemory = []
