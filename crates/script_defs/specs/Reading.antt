-- What the lines of a script give, one after another, and which of them is the first faulty one.
use Rattle.std.specs.Prelude.{ℕ, ◌+◌, nat_lt, nat_le, List, [], ◌∷◌, ◌++◌, length, Option, Some, None, Result, Ok, Err, ok_or, if◌then◌else◌, codes}
use Rattle.std.specs.List.{list_all, list_any, position_or_len}
use Rattle.std.specs.Option.{option_map, option_to_list}
use Rattle.std.specs.Str.{bytes_eq}
use Rattle.text_defs.specs.Steps.{◌>>=◌}
use Rattle.fabric_defs.specs.Geometries.{GeometryValue, cell_count}
use Rattle.script_defs.specs.declared.command.Kind.{Kind}
use Rattle.script_defs.specs.declared.command.Kind.TheVariants.{Spec, Bundle}
use Rattle.script_defs.specs.declared.command.FileUse.{FileUse}
use Rattle.script_defs.specs.declared.command.Command.{Command}
use Rattle.script_defs.specs.declared.command.Command.TheVariants.{Agree, Deliver}
use Rattle.script_defs.specs.declared.error.ScriptError.{ScriptError}
use Rattle.script_defs.specs.declared.error.ScriptError.TheVariants.{TooLong, Line}
use Rattle.script_defs.specs.declared.limits.TheConstants.{MAX_SCRIPT_BYTES, MAX_SLOTS, MAX_JOURNAL, MAX_WORKERS, MAX_LANES, MAX_COMMANDS}
use Rattle.script_defs.specs.Scripts.{ScriptValue, same_use}
use Rattle.script_defs.specs.Lines.{is_plain, Statement, statements, line_behind}
use Rattle.script_defs.specs.Commands.{fabric_line, count_line, Said, plain, named, said_by}

-- ---- the lines in front of the lanes

-- which of these lines were there, with what they say; they come in this order
pub data Head : Type 0 where
  nothing : Head
  to_fabric : GeometryValue → Head
  to_slots : GeometryValue → ℕ → Head
  to_limit : GeometryValue → ℕ → ℕ → Head
  whole : GeometryValue → ℕ → ℕ → ℕ → Head

-- the next of these lines
abbrev pub next_head : Head → List ℕ → List (List ℕ) → Option Head
next_head nothing first more = option_map to_fabric (fabric_line first more)
next_head (to_fabric g) first more = option_map (to_slots g) (count_line (codes "slots") MAX_SLOTS first more)
next_head (to_slots g s) first more = option_map (to_limit g s) (count_line (codes "limit") MAX_JOURNAL first more)
next_head (to_limit g s l) first more = option_map (whole g s l) (count_line (codes "workers") MAX_WORKERS first more)
next_head (whole g s l w) first more = None

-- ---- what was read

-- a script as far as it was read: `lanes` are those that take no more commands, `current` is the open lane,
-- and `commands` counts those of all lanes
pub record Draft : Type 0 where
  pub head : Head
  pub files : List FileUse
  pub lanes : List (List Command)
  pub current : Option (List Command)
  pub commands : ℕ

-- before the first line
abbrev pub start : Draft
start = record { head = nothing; files = []; lanes = []; current = None; commands = 0 }

-- all lanes, the open one last
abbrev pub all_lanes : Draft → List (List Command)
all_lanes d = d.lanes ++ option_to_list d.current

-- ---- files

-- the number of a file: the place where it was first mentioned, or the next one
abbrev pub file_number : List FileUse → FileUse → ℕ
file_number files file = position_or_len (same_use file) files

-- the files with this one, behind the others where it wasn't mentioned before
abbrev pub mentioned : List FileUse → FileUse → List FileUse
mentioned files file = if list_any (same_use file) files then files else files ++ file ∷ []

-- the command that names this file
abbrev pub file_command : Kind → ℕ → ℕ → Command
file_command Spec slot file = Agree slot file
file_command Bundle slot file = Deliver slot file

-- ---- the lines of the lanes

-- one command more in this lane, which is the open one
abbrev pub with_command : Draft → List Command → Command → Draft
with_command d lane c = record d { current = Some (lane ++ c ∷ []); commands = d.commands + 1 }

-- the files behind what a line says
abbrev pub said_files : List FileUse → Said → List FileUse
said_files files (plain c) = files
said_files files (named kind slot name) = mentioned files (record { kind = kind; name = name })

-- the command that a line says, behind these files
abbrev pub said_command : List FileUse → Said → Command
said_command files (plain c) = c
said_command files (named kind slot name) =
    file_command kind slot (file_number files (record { kind = kind; name = name }))

-- what a line says is done in this lane
abbrev pub with_said : Draft → List Command → Said → Draft
with_said d lane said =
    with_command (record d { files = said_files d.files said }) lane (said_command d.files said)

-- a command, where a lane is open and there aren't too many commands
abbrev pub with_command_line : Draft → Option (List Command) → Option Said → Option Draft
with_command_line d None said = None
with_command_line d (Some lane) None = None
with_command_line d (Some lane) (Some said) =
    if nat_lt d.commands MAX_COMMANDS then Some (with_said d lane said) else None

-- `lane` alone, where there aren't too many lanes
abbrev pub with_lane : Draft → List (List ℕ) → Option Draft
with_lane d [] =
    if nat_lt (length (all_lanes d)) MAX_LANES then Some (record d { lanes = all_lanes d; current = Some [] }) else None
with_lane d (word ∷ more) = None

-- a line behind those in front of the lanes, of a device with so many slots and cells to a slot
abbrev pub with_lane_line : ℕ → ℕ → Draft → List ℕ → List (List ℕ) → Option Draft
with_lane_line slots cells d first more =
    if bytes_eq first (codes "lane") then with_lane d more
    else with_command_line d d.current (said_by slots cells first more)

-- ---- all lines

-- a line of which these are the first word and the others; it is faulty where there is no draft behind it
abbrev pub with_line : Head → Draft → List ℕ → List (List ℕ) → Option Draft
with_line nothing d first more = option_map (λ h. record d { head = h }) (next_head nothing first more)
with_line (to_fabric g) d first more = option_map (λ h. record d { head = h }) (next_head (to_fabric g) first more)
with_line (to_slots g s) d first more = option_map (λ h. record d { head = h }) (next_head (to_slots g s) first more)
with_line (to_limit g s l) d first more = option_map (λ h. record d { head = h }) (next_head (to_limit g s l) first more)
with_line (whole g s l w) d first more = with_lane_line s (cell_count g) d first more

-- a line with these words; a line without words is skipped
abbrev pub with_words : Draft → List (List ℕ) → Option Draft
with_words d [] = Some d
with_words d (first ∷ more) = if list_all is_plain (first ∷ more) then with_line d.head d first more else None

-- line after line, up to the first faulty one
abbrev pub with_statements : Draft → List Statement → Result Draft ScriptError
with_statements d [] = Ok d
with_statements d (s ∷ later) = ok_or (with_words d s.words) (Line s.at) >>= λ e. with_statements e later

-- ---- the whole

-- the script, where a lane is open
abbrev pub value_with : Head → Draft → Option (List Command) → Option ScriptValue
value_with nothing d current = None
value_with (to_fabric g) d current = None
value_with (to_slots g s) d current = None
value_with (to_limit g s l) d current = None
value_with (whole g s l w) d None = None
value_with (whole g s l w) d (Some lane) =
    Some (record { geometry = g; slots = s; limit = l; workers = w; files = d.files; lanes = d.lanes ++ lane ∷ [] })

-- the script that was read, where its last line was there
abbrev pub value_of : Draft → Option ScriptValue
value_of d = value_with d.head d d.current

-- the value of a text that isn't too long, or its first fault
abbrev pub read_statements : List ℕ → Result ScriptValue ScriptError
read_statements text =
    with_statements start (statements text) >>= λ d. ok_or (value_of d) (Line (line_behind text))

-- the value of a text, or its first fault
abbrev pub reading : List ℕ → Result ScriptValue ScriptError
reading text = if nat_le (length text) MAX_SCRIPT_BYTES then read_statements text else Err TooLong
