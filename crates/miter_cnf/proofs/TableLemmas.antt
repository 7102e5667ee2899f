-- The clauses of a table, over the literals of the cell's pins.
use Rattle.std.proofs.Common.{◌≡◌, ℕ, ◌^◌, ◌<◌, ◌≤◌, ◌==◌, List, [], ◌∷◌, ◌++◌, length, get_or, ap, ◌∙◌, arith, lit<}
use Rattle.std.proofs.Math.Nat.{pow-le-pow_right}
use Rattle.std.proofs.lemmas.List.{length-map, get_or-map}
use Rattle.std.specs.Int.{bit_at}
use Rattle.clause_defs.specs.Literals.{Literal}
use Rattle.clause_defs.specs.Clauses.{Lits}
use Rattle.net_defs.specs.Networks.{Network}
use Rattle.fabric_defs.specs.Numbered.{list_of}
use Rattle.fabric_defs.specs.declared.limits.TheConstants.{MAX_PINS}
use Rattle.fabric_laws.proofs.NumberedLemmas.{list_of-agree}
use Rattle.cell_defs.specs.declared.source.Source.{Source}
use Rattle.cell_defs.specs.declared.source.Source.TheVariants.{Zero as NoSource}
use Rattle.cell_defs.specs.Cells.{CellsValue, cell_at}
use Rattle.miter_defs.specs.Numberings.{zero_variable, cell_variable, source_variable}
use Rattle.miter_defs.specs.Miters.{literal, positive, table_clause}
use Rattle.miter_cnf.specs.Tables.{source_literals, pin_literal, bit_clause}

-- the number of a bit of a table is one of 64 bits
pub bit-within : (pins n : ℕ) → pins ≤ MAX_PINS → n < 2 ^ pins → n < 64
bit-within pins n few lt =
    let most : 2 ^ pins ≤ 2 ^ MAX_PINS = pow-le-pow_right (lit< tt) few in
    omega arith

-- the literals of the pins of a clause are those of their sources
pin_literals-same : (net : Network) (l : CellsValue) (sources : List Source) (n : ℕ)
    → list_of (length (source_literals net l sources)) (pin_literal (source_literals net l sources) n)
    ≡ list_of (length sources) (λ j. literal (source_variable net l (get_or sources j NoSource)) (bit_at n j == 0))
pin_literals-same net l sources n =
    let of_source = λ (source : Source). positive (source_variable net l source) in
    let pins : Lits = source_literals net l sources in
    ap (λ (m : ℕ). list_of m (pin_literal pins n)) (length-map sources of_source)
    ∙ list_of-agree (length sources) (pin_literal pins n)
    (λ j. literal (source_variable net l (get_or sources j NoSource)) (bit_at n j == 0))
    (λ j lt. ap (λ (m : Literal). literal m.variable (bit_at n j == 0))
    (get_or-map of_source sources j NoSource (positive zero_variable) lt))

-- the clause of a bit over the literals of a cell is the cell's
pub bit_clause-is : (net : Network) (l : CellsValue) (k n : ℕ) (pins : Lits) (cell : Literal) (table : ℕ)
    → pins ≡ source_literals net l (cell_at l k).pins → cell ≡ positive (cell_variable net l k)
    → table ≡ (cell_at l k).table → bit_clause pins cell table n ≡ table_clause net l k n
bit_clause-is net l k n pins cell table p q r =
    (λ i. bit_clause (p i) (q i) (r i) n)
    ∙ ap (λ (ls : Lits). ls ++ literal (cell_variable net l k) (bit_at (cell_at l k).table n == 1) ∷ [])
    (pin_literals-same net l (cell_at l k).pins n)
