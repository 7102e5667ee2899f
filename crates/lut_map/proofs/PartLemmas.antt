-- The cells of nodes, one node after another.
use Rattle.std.proofs.Common.{◌≡◌, ℕ, zero, suc, ◌+◌, ◌<◌, Bool, false, cond, List, [], ◌∷◌, ◌++◌, length, get_or, refl, ap, sym, ◌∙◌, arith, length-append}
use Rattle.std.proofs.lemmas.List.{get_or_read}
use Rattle.fabric_defs.specs.Numbered.{joined}
use Rattle.fabric_laws.proofs.NumberedLemmas.{list_of-more, joined-more}
use Rattle.net_defs.specs.Networks.{Network, node_at}
use Rattle.cell_defs.specs.Cells.{CellValue}
use Rattle.map_defs.specs.NodeCells.{node_cells}
use Rattle.map_defs.specs.Reference.{own_cells, first_cell}
use Rattle.lut_map.specs.Marks.{is_marked}
use Rattle.lut_map.specs.Parts.{AreParts}

-- the cells of the first nodes are as many as their count
pub length-own_before : (net : Network) (needed : ℕ → Bool) (n : ℕ) → length (joined n (own_cells net needed)) ≡ first_cell net needed n
length-own_before net needed zero = refl
length-own_before net needed (suc n) =
    length-append (joined n (own_cells net needed)) (own_cells net needed n)
    ∙ ap (λ k. k + length (own_cells net needed n)) (length-own_before net needed n)

-- no node has no cells
pub parts_none : (net : Network) (needed : ℕ → Bool) → AreParts net needed 0 [] []
parts_none net needed = record { made = refl; counted = refl }

-- one more node
pub parts_more : (net : Network) (marks : List Bool) (v : ℕ) (b : Bool) (cells new : List CellValue) (ends after : List ℕ) (count : ℕ)
    → AreParts net (is_marked marks) v cells ends → v < length marks → b ≡ get_or marks v b
    → new ≡ cells ++ cond b (node_cells (node_at net v)) [] → count ≡ length new → after ≡ ends ++ count ∷ []
    → AreParts net (is_marked marks) (v + 1) new after
parts_more net marks v b cells new ends after count h lt read written counted pushed =
    let needed = is_marked marks in
    let own = own_cells net needed in
    let is : b ≡ needed v = get_or_read marks v b lt read false in
    let made : new ≡ joined (v + 1) own =
    written
    ∙ ap (λ t. cells ++ cond t (node_cells (node_at net v)) []) is
    ∙ ap (λ l. l ++ own v) h.made
    ∙ sym (joined-more v own) in
    let size : count ≡ first_cell net needed (suc v) =
    counted ∙ ap length made ∙ length-own_before net needed (v + 1)
    ∙ ap (first_cell net needed) (let e : v + 1 ≡ suc v = omega arith in e) in
    record {
      made = made;
      counted =
          pushed
          ∙ ap (λ n. ends ++ n ∷ []) size
          ∙ ap (λ l. l ++ first_cell net needed (suc v) ∷ []) h.counted
          ∙ sym (list_of-more v (λ u. first_cell net needed (suc u)));
    }
