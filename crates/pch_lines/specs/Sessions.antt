-- The forms of words that run a session.
use Rattle.std.specs.Prelude.{ℕ, List, [], ◌∷◌, Option, Some, None, codes, if◌then◌else◌}
use Rattle.std.specs.Str.{bytes_eq}
use Rattle.fabric_defs.specs.declared.kind.CellKind.{CellKind}
use Rattle.fabric_defs.specs.declared.kind.CellKind.TheVariants.{FourInputs, SixInputs}
use Rattle.pch_lines.specs.declared.session_words.SessionWords.{SessionWords}

-- a session: the kind of its cells, and the name of its script
pub record SessionForm : Type 0 where
  pub kind : CellKind
  pub script : List ℕ

-- `run SCRIPT`, on cells of this kind
abbrev pub run_form : CellKind → List (List ℕ) → Option SessionForm
run_form kind [] = None
run_form kind (word ∷ []) = None
run_form kind (word ∷ script ∷ []) =
    if bytes_eq word (codes "run") then Some (record { kind = kind; script = script }) else None
run_form kind (word ∷ script ∷ more ∷ rest) = None

-- the session that these words run, if they have the form; behind the word `six` the cells have six inputs
abbrev pub session_form : List (List ℕ) → Option SessionForm
session_form [] = None
session_form (word ∷ words) =
    if bytes_eq word (codes "six") then run_form SixInputs words else run_form FourInputs (word ∷ words)

-- the session whose words these are
abbrev pub session_seen : SessionWords → SessionForm
session_seen s = record { kind = s.kind; script = s.script.now }
