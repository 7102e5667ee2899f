-- How far the cells of a gate are made.
use Rattle.std.proofs.Common.{◌≡◌, ℕ, zero, suc, ◌+◌, ◌-◌, ◌*◌, ◌<◌, ◌≤◌, Bool, List, [], ◌∷◌, ◌++◌, length, take, drop, min, ap, sym, ◌∙◌, ⊎_elim, arith, length-append}
use Rattle.std.proofs.lemmas.List.{append_assoc, take_min}
use Rattle.std.proofs.lemmas.Bool.{cases_lt}
use Rattle.fabric_defs.specs.Numbered.{list_of, joined}
use Rattle.fabric_laws.proofs.NumberedLemmas.{list_of-more, joined-more}
use Rattle.cell_defs.specs.Cells.{CellValue}
use Rattle.map_defs.specs.declared.gate.Gate.{Gate}
use Rattle.map_defs.specs.declared.limits.TheConstants.{GROUP}
use Rattle.map_defs.specs.declared.term.Term.{Term}
use Rattle.map_defs.specs.Gates.{gate_cell, group, group_count, group_cells, group_term, round_cells, round_terms, gate_cells_in, gate_cells}
use Rattle.map_laws.proofs.GateLemmas.{length-round_terms, gate_cells_in-few, gate_cells_in-many}
use Rattle.lut_map.specs.declared.made.TheConstants.{MAX_CELLS}

-- the first i groups have their cells behind those at the start, and their terms are listed
pub record AreGroups (start : List CellValue) (gate : Gate) (first : ℕ) (terms : List Term) (cells : List CellValue) (left : List Term) (i : ℕ) : Type 0 where
  pub made : cells ≡ start ++ joined i (λ k. group_cells gate (group terms k))
  pub listed : left ≡ list_of i (λ k. group_term (length start - first + k) (group terms k))

-- one more group
pub groups_more : (start : List CellValue) (gate : Gate) (first : ℕ) (terms : List Term) (cells : List CellValue) (left : List Term) (i : ℕ)
    (g : List Term) (number : ℕ) (new : List CellValue) (t : Term) (after : List Term)
    → AreGroups start gate first terms cells left i → g ≡ group terms i → number ≡ length start - first + i
    → new ≡ cells ++ group_cells gate g → t ≡ group_term number g → after ≡ left ++ t ∷ []
    → AreGroups start gate first terms new after (i + 1)
groups_more start gate first terms cells left i g number new t after h same place written term pushed =
    let made = λ (k : ℕ). group_cells gate (group terms k) in
    let listed = λ (k : ℕ). group_term (length start - first + k) (group terms k) in
    record {
      made =
          written
          ∙ ap (λ l. l ++ group_cells gate g) h.made
          ∙ ap (λ l. start ++ joined i made ++ group_cells gate l) same
          ∙ append_assoc start (joined i made) (made i)
          ∙ ap (λ l. start ++ l) (sym (joined-more i made));
      listed =
          pushed
          ∙ ap (λ u. left ++ u ∷ []) (term ∙ ap (λ m. group_term m g) place ∙ ap (group_term (length start - first + i)) same)
          ∙ ap (λ l. l ++ listed i ∷ []) h.listed
          ∙ sym (list_of-more i listed);
    }

-- a slice of at most a group
pub group_read : (terms : List Term) (i : ℕ) → take (min GROUP (length (drop (GROUP * i) terms))) (drop (GROUP * i) terms) ≡ group terms i
group_read terms i = take_min GROUP (drop (GROUP * i) terms)

-- any number of rounds that is enough gives the same cells
gate_cells_in-same : (r s : ℕ) (gate : Gate) (negated : Bool) (next : ℕ) (ts : List Term) → length ts ≤ r + GROUP → length ts ≤ s + GROUP
    → gate_cells_in r gate negated next ts ≡ gate_cells_in s gate negated next ts
gate_cells_in-same zero s gate negated next ts le le2 =
    gate_cells_in-few zero gate negated next ts (omega arith) ∙ sym (gate_cells_in-few s gate negated next ts (omega arith))
gate_cells_in-same (suc r) zero gate negated next ts le le2 =
    gate_cells_in-few (suc r) gate negated next ts (omega arith) ∙ sym (gate_cells_in-few zero gate negated next ts (omega arith))
gate_cells_in-same (suc r) (suc s) gate negated next ts le le2 =
    ⊎_elim
    (λ many. let left = round_terms next ts in
    let end = next + length (round_cells gate ts) in
    let fewer : length left ≡ group_count ts = length-round_terms next ts in
    gate_cells_in-many r gate negated next ts many
    ∙ ap (λ l. round_cells gate ts ++ l) (gate_cells_in-same r s gate negated end left (omega arith) (omega arith))
    ∙ sym (gate_cells_in-many s gate negated next ts many))
    (λ few. gate_cells_in-few (suc r) gate negated next ts few ∙ sym (gate_cells_in-few (suc s) gate negated next ts few))
    (cases_lt GROUP (length ts))

-- where there are many terms, a gate is a round and then the gate of what it leaves
gate_cells-many : (gate : Gate) (negated : Bool) (next : ℕ) (ts : List Term) → GROUP < length ts
    → gate_cells gate negated next ts
    ≡ round_cells gate ts ++ gate_cells gate negated (next + length (round_cells gate ts)) (round_terms next ts)
gate_cells-many gate negated next ts many =
    let left = round_terms next ts in
    let end = next + length (round_cells gate ts) in
    let fewer : length left ≡ group_count ts = length-round_terms next ts in
    gate_cells_in-same (length ts) (suc (length ts)) gate negated next ts (omega arith) (omega arith)
    ∙ gate_cells_in-many (length ts) gate negated next ts many
    ∙ ap (λ l. round_cells gate ts ++ l) (gate_cells_in-same (length ts) (length left) gate negated end left (omega arith) (omega arith))

-- what is made, and the gate of the terms that are left, are the cells of the gate
pub record IsOnTheWay (start : List CellValue) (gate : Gate) (negated : Bool) (first : ℕ) (terms : List Term) (cells : List CellValue) (left : List Term) : Type 0 where
  pub within : first ≤ length cells
  pub more : length start ≤ length cells
  pub few : length left ≤ MAX_CELLS
  pub whole : cells ++ gate_cells gate negated (length cells - first) left ≡ start ++ gate_cells gate negated (length start - first) terms

-- a round leaves fewer terms
pub round_fewer : (next : ℕ) (ts left : List Term) → GROUP < length ts → left ≡ round_terms next ts → length left < length ts
round_fewer next ts left many e = omega (arith, ap length e, length-round_terms next ts)

-- one more round
pub way_more : (start : List CellValue) (gate : Gate) (negated : Bool) (first : ℕ) (terms : List Term) (cells : List CellValue) (ts : List Term)
    (new : List CellValue) (left : List Term)
    → IsOnTheWay start gate negated first terms cells ts → GROUP < length ts
    → new ≡ cells ++ round_cells gate ts → left ≡ round_terms (length cells - first) ts
    → IsOnTheWay start gate negated first terms new left
way_more start gate negated first terms cells ts new left h many written leaves =
    let n : ℕ = length cells - first in
    let le : first ≤ length cells = h.within in
    let size : length new ≡ length cells + length (round_cells gate ts) = ap length written ∙ length-append cells (round_cells gate ts) in
    let after : length new - first ≡ n + length (round_cells gate ts) = omega arith in
    record {
      within = omega arith;
      more = omega (arith, h.more);
      few = omega (arith, h.few, round_fewer n ts left many leaves);
      whole =
          ap (λ l. new ++ gate_cells gate negated (length new - first) l) leaves
          ∙ ap (λ m. new ++ gate_cells gate negated m (round_terms n ts)) after
          ∙ ap (λ l. l ++ gate_cells gate negated (n + length (round_cells gate ts)) (round_terms n ts)) written
          ∙ append_assoc cells (round_cells gate ts) (gate_cells gate negated (n + length (round_cells gate ts)) (round_terms n ts))
          ∙ ap (λ l. cells ++ l) (sym (gate_cells-many gate negated n ts many))
          ∙ h.whole;
    }

-- the last cell
pub way_ends : (start : List CellValue) (gate : Gate) (negated : Bool) (first : ℕ) (terms : List Term) (cells : List CellValue) (ts : List Term)
    (new : List CellValue)
    → IsOnTheWay start gate negated first terms cells ts → length ts ≤ GROUP → new ≡ cells ++ gate_cell gate negated ts ∷ []
    → new ≡ start ++ gate_cells gate negated (length start - first) terms
way_ends start gate negated first terms cells ts new h few written =
    written
    ∙ ap (λ l. cells ++ l) (sym (gate_cells_in-few (length ts) gate negated (length cells - first) ts few))
    ∙ h.whole
