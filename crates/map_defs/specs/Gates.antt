-- Gates over any number of terms, as cells that join at most four each.
use Rattle.std.specs.Prelude.{ℕ, zero, suc, ◌+◌, ◌-◌, ◌*◌, ◌/◌, ◌==◌, Bool, true, false, not, ◌&&◌, ◌||◌, if◌then◌else◌, List, [], ◌∷◌, ◌++◌, length, map, take, drop, slice_index_or}
use Rattle.std.proofs.Common.{leb}
use Rattle.fabric_defs.specs.Numbered.{list_of, joined}
use Rattle.cell_defs.specs.declared.source.Source.TheVariants.{Zero, Cell}
use Rattle.cell_defs.specs.Cells.{CellValue}
use Rattle.map_defs.specs.declared.gate.Gate.{Gate}
use Rattle.map_defs.specs.declared.term.Term.{Term}
use Rattle.map_defs.specs.declared.gate.Gate.TheVariants.{Conjunction, Disjunction}
use Rattle.map_defs.specs.declared.limits.TheConstants.{GROUP}
use Rattle.map_defs.specs.Tables.{bit_of, table_of}

-- what stands past the last term, where nothing looks
abbrev pub no_term : Term
no_term = record { source = Zero; positive = true }

-- the term is true where its source has this bit
abbrev pub is_true : Term → ℕ → Bool
is_true term bit = if term.positive then (bit == 1) else (bit == 0)

-- all terms are true where their sources have these bits, in their order
abbrev pub all_true : List Term → List ℕ → Bool
all_true [] bits = true
all_true (term ∷ terms) [] = false
all_true (term ∷ terms) (bit ∷ bits) = is_true term bit && all_true terms bits

-- some term is
abbrev pub some_true : List Term → List ℕ → Bool
some_true [] bits = false
some_true (term ∷ terms) [] = false
some_true (term ∷ terms) (bit ∷ bits) = is_true term bit || some_true terms bits

-- what the gate says of its terms where their sources have these bits
abbrev pub joins : Gate → List Term → List ℕ → Bool
joins Conjunction terms bits = all_true terms bits
joins Disjunction terms bits = some_true terms bits

-- the cell that joins these terms, negated or not
abbrev pub gate_cell : Gate → Bool → List Term → CellValue
gate_cell gate negated terms = record {
  pins = map (λ (term : Term). term.source) terms;
  table = table_of (length terms)
      (λ bits. bit_of (if negated then not (joins gate terms bits) else joins gate terms bits));
}

-- the terms of group i from the left, of which the last one may have fewer than the others
abbrev pub group : List Term → ℕ → List Term
group terms i = take GROUP (drop (GROUP * i) terms)

-- how many groups there are
abbrev pub group_count : List Term → ℕ
group_count terms = (length terms + (GROUP - 1)) / GROUP

-- the cell of a group; a group of one stays as it is
abbrev pub group_cells : Gate → List Term → List CellValue
group_cells gate terms = if length terms == 1 then [] else gate_cell gate false terms ∷ []

-- the term that a group becomes, where its cell has this number
abbrev pub group_term : ℕ → List Term → Term
group_term number terms =
    if length terms == 1
    then slice_index_or terms 0 no_term
    else record { source = Cell number; positive = true }

-- the cells that all groups become; only the last group may stay as it is
abbrev pub round_cells : Gate → List Term → List CellValue
round_cells gate terms = joined (group_count terms) (λ i. group_cells gate (group terms i))

-- the terms that all groups become, where the first of these cells has the number `next`
abbrev pub round_terms : ℕ → List Term → List Term
round_terms next terms = list_of (group_count terms) (λ i. group_term (next + i) (group terms i))

-- The cells of a gate, the first of which has the number `next`. While there are more terms than a group
-- has, they are replaced by those of their groups; then one last cell joins what is left, negated or not. As
-- many rounds as there are terms are enough, since each makes them fewer.
abbrev pub gate_cells_in : ℕ → Gate → Bool → ℕ → List Term → List CellValue
gate_cells_in zero gate negated next terms = gate_cell gate negated terms ∷ []
gate_cells_in (suc rounds) gate negated next terms =
    if leb (length terms) GROUP
    then gate_cell gate negated terms ∷ []
    else round_cells gate terms
    ++ gate_cells_in rounds gate negated (next + length (round_cells gate terms)) (round_terms next terms)

-- the same with as many rounds as are enough
abbrev pub gate_cells : Gate → Bool → ℕ → List Term → List CellValue
gate_cells gate negated next terms = gate_cells_in (length terms) gate negated next terms
