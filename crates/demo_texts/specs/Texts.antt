-- The texts of both designs: each line has one space between its words.
use Rattle.std.specs.Prelude.{ℕ, List}
use Rattle.blif_defs.specs.Printing.{blif_text}
use Rattle.demo_texts.specs.Designs.{ripple_design, select_design}

-- the text of the design that hands the carry on
abbrev pub ripple_text : ℕ → List ℕ
ripple_text bits = blif_text (ripple_design bits)

-- the text of the design that chooses
abbrev pub select_text : ℕ → List ℕ
select_text bits = blif_text (select_design bits)
