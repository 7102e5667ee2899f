-- What each line of a BLIF text means, and which fault comes first.
use Rattle.std.specs.Prelude.{ℕ, ◌-◌, true, ◌&&◌, ◌==◌, nat_lt, nat_le, List, [], ◌∷◌, ◌++◌, length, map, Option, Some, None, Result, Ok, Err, if◌then◌else◌, slice_index_or, codes}
use Rattle.std.specs.List.{list_all}
use Rattle.std.specs.Str.{bytes_eq}
use Rattle.blif_defs.specs.declared.kind.LineKind.{LineKind}
use Rattle.blif_defs.specs.declared.kind.LineKind.TheVariants.{Model, Inputs, Outputs, Names, End, Other, Row}
use Rattle.blif_defs.specs.declared.mark.TheConstants.{MAX_BYTES, MAX_PORTS, MAX_SIGNALS}
use Rattle.blif_defs.specs.Words.{is_sound, words}
use Rattle.blif_defs.specs.Lines.{Line, lines_of, without_last}
use Rattle.blif_defs.specs.declared.error.BlifError.{BlifError}
use Rattle.blif_defs.specs.declared.error.BlifError.TheVariants.{TooLong, Syntax, Unsupported, DoubleDriven, RepeatedOutput, Limit, NoOutputs}
use Rattle.text_defs.specs.Steps.{◌>>=◌}
use Rattle.blif_defs.specs.Values.{CoverValue, BlifValue}
use Rattle.blif_defs.specs.Drafts.{Draft, start, closed, signals, signal_count, is_among, value_of}
use Rattle.blif_defs.specs.Rows.{row_parts, row_onto}

-- what a line is, by its first word
abbrev pub kind_of : List ℕ → LineKind
kind_of word =
    if bytes_eq word (codes ".model") then Model
    else (if bytes_eq word (codes ".inputs") then Inputs
    else (if bytes_eq word (codes ".outputs") then Outputs
    else (if bytes_eq word (codes ".names") then Names
    else (if bytes_eq word (codes ".end") then End
    else (if slice_index_or word 0 0 == 46 then Other
    else Row)))))

-- ---- the names of a line, from the left

-- one input more
abbrev pub with_input : ℕ → Draft → List ℕ → Result Draft BlifError
with_input at d name =
    if is_among name (signals d) then Err (DoubleDriven at)
    else (if nat_lt (length d.inputs) MAX_PORTS && nat_lt (signal_count d) MAX_SIGNALS
    then Ok (record d { inputs = d.inputs ++ name ∷ [] })
    else Err (Limit at))

-- these inputs more, from the left
abbrev pub with_inputs : ℕ → Draft → List (List ℕ) → Result Draft BlifError
with_inputs at d [] = Ok d
with_inputs at d (name ∷ names) = with_input at d name >>= λ e. with_inputs at e names

-- one output more
abbrev pub with_output : ℕ → Draft → List ℕ → Result Draft BlifError
with_output at d name =
    if is_among name d.outputs then Err (RepeatedOutput at)
    else (if nat_lt (length d.outputs) MAX_PORTS
    then Ok (record d { outputs = d.outputs ++ name ∷ [] })
    else Err (Limit at))

-- these outputs more, from the left
abbrev pub with_outputs : ℕ → Draft → List (List ℕ) → Result Draft BlifError
with_outputs at d [] = Ok d
with_outputs at d (name ∷ names) = with_output at d name >>= λ e. with_outputs at e names

-- a cover with these inputs and this output is opened
abbrev pub with_cover : ℕ → Draft → List (List ℕ) → List ℕ → Result Draft BlifError
with_cover at d ins out =
    if nat_lt MAX_PORTS (length ins) then Err (Limit at)
    else (if is_among out (signals d) then Err (DoubleDriven at)
    else (if nat_lt (signal_count d) MAX_SIGNALS
    then Ok (record d { current = Some (record { ins = ins; out = out; on = true; rows = [] }) })
    else Err (Limit at)))

-- ---- the lines

-- at most one name, and only on the first line with words
abbrev pub with_model : ℕ → Draft → List (List ℕ) → Result Draft BlifError
with_model at d names =
    if d.begun then Err (Unsupported at)
    else (if nat_le (length names) 1
    then Ok (record d { model = slice_index_or names 0 [] })
    else Err (Syntax at))

-- the last name is the output
abbrev pub with_names : ℕ → Draft → List (List ℕ) → Result Draft BlifError
with_names at d names =
    if length names == 0 then Err (Syntax at)
    else with_cover at d (without_last names) (slice_index_or names (length names - 1) [])

-- `.end`, which has no names
abbrev pub with_end : ℕ → Draft → List (List ℕ) → Result Draft BlifError
with_end at d names = if length names == 0 then Ok (record d { ended = true }) else Err (Syntax at)

-- a row of the open cover
abbrev pub with_row_line : ℕ → Draft → Option CoverValue → List (List ℕ) → Result Draft BlifError
with_row_line at d None row = Err (Syntax at)
with_row_line at d (Some c) row = row_onto at c (row_parts (length c.ins) row) >>= λ e. Ok (record d { current = Some e })

-- a line of this kind before `.end`, whose words are these; each but a row closes the open cover
abbrev pub with_line : LineKind → ℕ → Draft → List ℕ → List (List ℕ) → Result Draft BlifError
with_line Model at d first names = with_model at (closed d) names
with_line Inputs at d first names = with_inputs at (closed d) names
with_line Outputs at d first names = with_outputs at (closed d) names
with_line Names at d first names = with_names at (closed d) names
with_line End at d first names = with_end at (closed d) names
with_line Other at d first names = Err (Unsupported at)
with_line Row at d first names = with_row_line at d d.current (first ∷ names)

-- after `.end` no line with words is right
abbrev pub after_end : LineKind → ℕ → BlifError
after_end Model at = Unsupported at
after_end Inputs at = Syntax at
after_end Outputs at = Syntax at
after_end Names at = Syntax at
after_end End at = Syntax at
after_end Other at = Syntax at
after_end Row at = Syntax at

-- a line with words was there
abbrev pub begun_with : Draft → Draft
begun_with d = record d { begun = true }

-- a line with these words; a line without words is skipped
abbrev pub with_words : ℕ → Draft → List (List ℕ) → Result Draft BlifError
with_words at d [] = Ok d
with_words at d (first ∷ names) =
    if list_all is_sound (first ∷ names)
    then (if d.ended
    then Err (after_end (kind_of first) at)
    else (with_line (kind_of first) at d first names >>= λ e. Ok (begun_with e)))
    else Err (Syntax at)

-- a joined line as its words
pub record Statement : Type 0 where
  pub at : ℕ
  pub words : List (List ℕ)

-- the words of a joined line
abbrev pub statement_of : Line → Statement
statement_of line = record { at = line.at; words = words line.bytes }

-- the joined lines of a text as their words
abbrev pub statements : List ℕ → List Statement
statements text = map statement_of (lines_of text)

-- line after line, up to the first faulty one
abbrev pub with_statements : Draft → List Statement → Result Draft BlifError
with_statements d [] = Ok d
with_statements d (s ∷ more) = with_words s.at d s.words >>= λ e. with_statements e more

-- the design at the end of the text, or that it has no outputs
abbrev pub finished : Draft → Result BlifValue BlifError
finished d = if length d.outputs == 0 then Err NoOutputs else Ok (value_of d)

-- the value of a text, or its first fault
abbrev pub reading : List ℕ → Result BlifValue BlifError
reading text =
    if nat_le (length text) MAX_BYTES
    then (with_statements start (statements text) >>= λ d. finished d)
    else Err TooLong
