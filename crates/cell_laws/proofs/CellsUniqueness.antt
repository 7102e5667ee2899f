-- There is one list of cells of a configuration, with one cone.
use Rattle.std.proofs.Common.{◌≡◌, ℕ, ◌<◌, Bool, true, false, List, refl, ap, subst, sym, ◌∙◌, arith}
use Rattle.std.proofs.lemmas.List.{ext_get_or}
use Rattle.clause_defs.specs.Clauses.{Has}
use Rattle.fabric_defs.specs.Geometries.{cell_count}
use Rattle.fabric_defs.specs.Configurations.{ConfigValue}
use Rattle.cell_defs.specs.declared.source.Source.{Source}
use Rattle.cell_defs.specs.declared.source.Source.TheVariants.{Cell}
use Rattle.cell_defs.specs.Cells.{CellValue, CellsValue, no_cell, cell_at}
use Rattle.cell_defs.specs.Cones.{in_cone}
use Rattle.cell_defs.specs.Sources.{AreSourcesOf, AreCellsOf}
use Rattle.cell_laws.proofs.Places.{by_place}

-- a cell is the same in two lists of cells of a configuration
same_cell : (config : ConfigValue) (cells others : CellsValue) → AreSourcesOf config cells → AreSourcesOf config others
    → (n : ℕ) → n < cell_count config.geometry → cell_at cells n ≡ cell_at others n
same_cell config cells others p q =
    by_place config.geometry (λ n. cell_at cells n ≡ cell_at others n)
    (λ column row lt less within. p.each column row lt less ∙ sym (q.each column row lt less))

-- so the lists are
pub same_list : (config : ConfigValue) (cells others : CellsValue) → AreSourcesOf config cells → AreSourcesOf config others → cells.cells ≡ others.cells
same_list config cells others p q =
    ext_get_or no_cell cells.cells others.cells (p.count ∙ sym q.count) (λ n lt. same_cell config cells others p q n (omega (arith, p.count)))

-- a cone is in every other
cone-below : (config : ConfigValue) (cells others : CellsValue) → AreCellsOf config cells → AreCellsOf config others → (n : ℕ) → in_cone cells n ≡ true → in_cone others n ≡ true
cone-below config cells others p q =
    p.cone.cone.least (in_cone others)
    (record {
      outputs = λ n has. q.cone.cone.closed.outputs n
          (let O : List Source → Type 0 = λ ss. Has ss (Cell n) in subst O (p.sources.outputs ∙ sym q.sources.outputs) has);
      pins = λ n j lt member has. q.cone.cone.closed.pins n j (omega (arith, p.sources.count, q.sources.count)) member
          (let C : CellValue → Type 0 = λ c. Has c.pins (Cell j) in
          subst C (same_cell config cells others p.sources q.sources n (omega (arith, p.sources.count))) has);
    })

-- tests that are true together are the same
same_bool : (a b : Bool) → (a ≡ true → b ≡ true) → (b ≡ true → a ≡ true) → a ≡ b
same_bool true b f g = sym (f refl)
same_bool false true f g = g refl
same_bool false false f g = refl

-- so are the cones
same_cone : (config : ConfigValue) (cells others : CellsValue) → AreCellsOf config cells → AreCellsOf config others → cells.cone ≡ others.cone
same_cone config cells others p q =
    let geometry = p.sources.geometry ∙ sym q.sources.geometry in
    ext_get_or false cells.cone others.cone (p.cone.count ∙ ap cell_count geometry ∙ sym q.cone.count)
    (λ n lt. same_bool (in_cone cells n) (in_cone others n) (cone-below config cells others p q n) (cone-below config others cells q p n))

-- cells with the same parts are the same
same_parts : (cells others : CellsValue) → cells.geometry ≡ others.geometry → cells.cells ≡ others.cells → cells.outputs ≡ others.outputs → cells.cone ≡ others.cone → cells ≡ others
same_parts cells others geometry list outputs cone =
    ap {B = CellsValue} (λ v. record cells { geometry = v }) geometry
    ∙ ap {B = CellsValue} (λ v. record { geometry = others.geometry; cells = v; outputs = cells.outputs; cone = cells.cone }) list
    ∙ ap {B = CellsValue} (λ v. record { geometry = others.geometry; cells = others.cells; outputs = v; cone = cells.cone }) outputs
    ∙ ap {B = CellsValue} (λ v. record others { cone = v }) cone

-- there is one list of cells of a configuration
pub cells-unique : (config : ConfigValue) (cells others : CellsValue) → AreCellsOf config cells → AreCellsOf config others → cells ≡ others
cells-unique config cells others p q =
    same_parts cells others (p.sources.geometry ∙ sym q.sources.geometry) (same_list config cells others p.sources q.sources)
    (p.sources.outputs ∙ sym q.sources.outputs) (same_cone config cells others p q)
