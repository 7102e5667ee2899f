-- The lines of what `produce` comes to where it saves no bundle. No line says that memory was wanting.
use Rattle.std.specs.Prelude.{ℕ, List, [], codes}
use Rattle.net_defs.specs.declared.interface.Side.{Side}
use Rattle.net_defs.specs.declared.interface.Side.TheVariants.{Spec, Design}
use Rattle.net_defs.specs.declared.interface.InterfaceError.{InterfaceError}
use Rattle.net_defs.specs.declared.interface.InterfaceError.TheVariants.{Input, Output, NoMemory}
use Rattle.script_defs.specs.Printing.{bits_word}
use Rattle.pch_lines.specs.Lines.{and_word, and_number, ended}

-- the word of a side
abbrev pub side_word : Side → List ℕ
side_word Spec = codes "spec"
side_word Design = codes "design"

-- `interface` and the first name without a partner: an input or an output of one side, by its place
abbrev pub interface_line : InterfaceError → List ℕ
interface_line (Input side place) = ended (and_number (and_word (and_word (codes "interface") (codes "input")) (side_word side)) place)
interface_line (Output side place) = ended (and_number (and_word (and_word (codes "interface") (codes "output")) (side_word side)) place)
interface_line NoMemory = []

-- `differs X SPEC DESIGN`: the bits of the inputs, and those of the outputs of both
abbrev pub differs_line : (x spec design : List ℕ) → List ℕ
differs_line x spec design = ended (and_word (and_word (and_word (codes "differs") (bits_word x)) (bits_word spec)) (bits_word design))

-- `spent USED NEED`
abbrev pub spent_line : (used need : ℕ) → List ℕ
spent_line used need = ended (and_number (and_number (codes "spent") used) need)
