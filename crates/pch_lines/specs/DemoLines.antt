-- The lines of `demo` where a bundle is shown.
use Rattle.std.specs.Prelude.{ℕ, List, [], ◌∷◌, ◌++◌, codes}
use Rattle.pch_lines.specs.Lines.{and_number, ended}

-- the text with a blank and a number for each of these
abbrev pub and_numbers : List ℕ → List ℕ → List ℕ
and_numbers text [] = text
and_numbers text (n ∷ ns) = and_numbers (and_number text n) ns

-- `demo BITS`, `verified`, and `ones` with a number for each output
abbrev pub demo_text : ℕ → List ℕ → List ℕ
demo_text bits ones =
    ended (and_number (codes "demo") bits) ++ ended (codes "verified") ++ ended (and_numbers (codes "ones") ones)
