-- The forms of words that the program knows.
use Rattle.std.specs.Prelude.{ℕ, List, [], ◌∷◌, Option, Some, None, String, string_bytes, codes, map, if◌then◌else◌}
use Rattle.std.specs.Str.{bytes_eq}
use Rattle.std.specs.declared.alloc.Global.{Global}
use Rattle.text_defs.specs.Numbers.{number_in, at_most, at_least_one}
use Rattle.fabric_defs.specs.declared.kind.CellKind.{CellKind}
use Rattle.fabric_defs.specs.declared.kind.CellKind.TheVariants.{FourInputs, SixInputs}
use Rattle.fabric_defs.specs.Geometries.{GeometryValue}
use Rattle.fabric_defs.specs.declared.limits.TheConstants.{MAX_SIDE, MAX_TRACKS}
use Rattle.script_defs.specs.declared.limits.TheConstants.{MAX_WORKERS}
use Rattle.demo_texts.specs.declared.TheConstants.{MAX_BITS}
use Rattle.miter_size.specs.declared.limits.TheConstants.{MAX_BUDGET}

-- the words of a command line, without the program's own name
abbrev pub words_in : List (String Global) → List (List ℕ)
words_in words = map string_bytes words

-- a command with its words
pub data Form : Type 0 where
  -- check CNF TRACE
  check : List ℕ → List ℕ → Form
  -- verify SPEC BUNDLE C R T I O WORKERS
  verify : List ℕ → List ℕ → GeometryValue → ℕ → Form
  -- cnf SPEC BUNDLE
  cnf : List ℕ → List ℕ → Form
  -- compact BUNDLE OUT
  compact : List ℕ → List ℕ → Form
  -- place DESIGN C R T I O OUT
  place : List ℕ → GeometryValue → List ℕ → Form
  -- produce SPEC DESIGN C R T I O BUDGET OUT
  produce : List ℕ → List ℕ → GeometryValue → ℕ → List ℕ → Form
  -- demo BITS OUT
  demo : ℕ → List ℕ → Form

-- ---- numbers and fabrics

-- the number from 1 to the limit that the word spells
abbrev pub count_in : ℕ → List ℕ → Option ℕ
count_in limit word = at_least_one (at_most limit (number_in word))

-- the fabric of these numbers with cells of this kind, where all numbers are there
abbrev pub fabric_with : CellKind → (c r t i o : Option ℕ) → Option GeometryValue
fabric_with kind None r t i o = None
fabric_with kind (Some c) None t i o = None
fabric_with kind (Some c) (Some r) None i o = None
fabric_with kind (Some c) (Some r) (Some t) None o = None
fabric_with kind (Some c) (Some r) (Some t) (Some i) None = None
fabric_with kind (Some c) (Some r) (Some t) (Some i) (Some o) =
    Some (record { kind = kind; columns = c; rows = r; tracks = t; input_pads = i; output_pads = o })

-- the fabric with cells of this kind whose columns, rows, tracks, input pads and output pads the words say
abbrev pub fabric_in : CellKind → (c r t i o : List ℕ) → Option GeometryValue
fabric_in kind c r t i o =
    fabric_with kind (count_in MAX_SIDE c) (count_in MAX_SIDE r) (count_in MAX_TRACKS t) (count_in MAX_SIDE i) (count_in MAX_SIDE o)

-- ---- forms

-- `verify` with these words, where the fabric and the number of workers are there
abbrev pub verify_with : List ℕ → List ℕ → Option GeometryValue → Option ℕ → Option Form
verify_with spec bundle None workers = None
verify_with spec bundle (Some g) None = None
verify_with spec bundle (Some g) (Some workers) = Some (verify spec bundle g workers)

-- `verify` with two files and the words behind them
abbrev pub verify_form : CellKind → List ℕ → List ℕ → List (List ℕ) → Option Form
verify_form kind spec bundle [] = None
verify_form kind spec bundle (c ∷ []) = None
verify_form kind spec bundle (c ∷ r ∷ []) = None
verify_form kind spec bundle (c ∷ r ∷ t ∷ []) = None
verify_form kind spec bundle (c ∷ r ∷ t ∷ i ∷ []) = None
verify_form kind spec bundle (c ∷ r ∷ t ∷ i ∷ o ∷ []) = None
verify_form kind spec bundle (c ∷ r ∷ t ∷ i ∷ o ∷ workers ∷ []) =
    verify_with spec bundle (fabric_in kind c r t i o) (count_in MAX_WORKERS workers)
verify_form kind spec bundle (c ∷ r ∷ t ∷ i ∷ o ∷ workers ∷ more ∷ rest) = None

-- `place` with these names, where the fabric is there
abbrev pub place_with : List ℕ → Option GeometryValue → List ℕ → Option Form
place_with design None out = None
place_with design (Some g) out = Some (place design g out)

-- `place` with a file, the first number of its fabric and the words behind them
abbrev pub place_form : CellKind → List ℕ → List ℕ → List (List ℕ) → Option Form
place_form kind design c [] = None
place_form kind design c (r ∷ []) = None
place_form kind design c (r ∷ t ∷ []) = None
place_form kind design c (r ∷ t ∷ i ∷ []) = None
place_form kind design c (r ∷ t ∷ i ∷ o ∷ []) = None
place_form kind design c (r ∷ t ∷ i ∷ o ∷ out ∷ []) = place_with design (fabric_in kind c r t i o) out
place_form kind design c (r ∷ t ∷ i ∷ o ∷ out ∷ more ∷ rest) = None

-- `produce` with these names, where the fabric and the budget are there
abbrev pub produce_with : List ℕ → List ℕ → Option GeometryValue → Option ℕ → List ℕ → Option Form
produce_with spec design None budget out = None
produce_with spec design (Some g) None out = None
produce_with spec design (Some g) (Some budget) out = Some (produce spec design g budget out)

-- `produce` with two files and the words behind them
abbrev pub produce_form : CellKind → List ℕ → List ℕ → List (List ℕ) → Option Form
produce_form kind spec design [] = None
produce_form kind spec design (c ∷ []) = None
produce_form kind spec design (c ∷ r ∷ []) = None
produce_form kind spec design (c ∷ r ∷ t ∷ []) = None
produce_form kind spec design (c ∷ r ∷ t ∷ i ∷ []) = None
produce_form kind spec design (c ∷ r ∷ t ∷ i ∷ o ∷ []) = None
produce_form kind spec design (c ∷ r ∷ t ∷ i ∷ o ∷ budget ∷ []) = None
produce_form kind spec design (c ∷ r ∷ t ∷ i ∷ o ∷ budget ∷ out ∷ []) =
    produce_with spec design (fabric_in kind c r t i o) (count_in MAX_BUDGET budget) out
produce_form kind spec design (c ∷ r ∷ t ∷ i ∷ o ∷ budget ∷ out ∷ more ∷ rest) = None

-- the commands that name a fabric, whose cells have this kind: a word, two words more, and the rest
abbrev pub form_on : CellKind → (word first second : List ℕ) → List (List ℕ) → Option Form
form_on kind word first second more =
    if bytes_eq word (codes "verify") then verify_form kind first second more
    else (if bytes_eq word (codes "place") then place_form kind first second more
    else (if bytes_eq word (codes "produce") then produce_form kind first second more else None))

-- the same for all words
abbrev pub fabric_form : CellKind → List (List ℕ) → Option Form
fabric_form kind [] = None
fabric_form kind (w ∷ []) = None
fabric_form kind (w ∷ first ∷ []) = None
fabric_form kind (w ∷ first ∷ second ∷ more) = form_on kind w first second more

-- `demo` with this name, where the number of bits is there
abbrev pub demo_with : Option ℕ → List ℕ → Option Form
demo_with None out = None
demo_with (Some bits) out = Some (demo bits out)

-- the commands of three words
abbrev pub file_form : List ℕ → List ℕ → List ℕ → Option Form
file_form word first second =
    if bytes_eq word (codes "check") then Some (check first second)
    else (if bytes_eq word (codes "cnf") then Some (cnf first second)
    else (if bytes_eq word (codes "compact") then Some (compact first second)
    else (if bytes_eq word (codes "demo") then demo_with (count_in MAX_BITS first) second else None)))

-- the commands whose first word isn't `six`
abbrev pub plain_form : List (List ℕ) → Option Form
plain_form [] = None
plain_form (w ∷ []) = None
plain_form (w ∷ first ∷ []) = None
plain_form (w ∷ first ∷ second ∷ []) = file_form w first second
plain_form (w ∷ first ∷ second ∷ more ∷ rest) = fabric_form FourInputs (w ∷ first ∷ second ∷ more ∷ rest)

-- The command of these words, if they have one of the forms. Behind the word `six` stands a command that names a
-- fabric, whose cells have six inputs then.
abbrev pub form_of : List (List ℕ) → Option Form
form_of [] = None
form_of (w ∷ ws) = if bytes_eq w (codes "six") then fabric_form SixInputs ws else plain_form (w ∷ ws)
