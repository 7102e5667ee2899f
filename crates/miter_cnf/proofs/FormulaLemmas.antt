-- What follows of the miter's clauses.
use Rattle.std.proofs.Common.{◌≡◌, ℕ, List, subst, arith}
use Rattle.clause_defs.specs.Clauses.{Lits, Has, WithinVariables, Unsat}
use Rattle.net_defs.specs.Networks.{Network}
use Rattle.net_defs.specs.Nets.{IsNet}
use Rattle.fabric_defs.specs.Geometries.{GeometryValue}
use Rattle.fabric_defs.specs.Configurations.{ConfigValue, IsConfig}
use Rattle.cell_defs.specs.Cells.{CellsValue}
use Rattle.cell_defs.specs.Sources.{AreSourcesOf}
use Rattle.miter_defs.specs.Equality.{FitsPads, Equal}
use Rattle.miter_defs.specs.Numberings.{variable_count}
use Rattle.miter_defs.specs.Miters.{Miter}
use Rattle.miter_laws.proofs.Ranges.{clauses-range}
use Rattle.miter_laws.proofs.Extension.{equal-from_unsat}
use Rattle.miter_cnf.specs.Circuits.{AreCircuits}

-- the clauses are over the variables
pub miter-within : (net : Network) (l : CellsValue) (variables : ℕ) (clauses : List Lits) → IsNet net
    → variables ≡ variable_count net l → clauses ≡ (Miter net l).clauses
    → (c : Lits) → Has clauses c → WithinVariables variables c
miter-within net l variables clauses n v e c has m in_c =
    let P : List Lits → Type 0 = λ cs. Has cs c in
    omega (arith, v, (clauses-range net l n c (subst P e has) m in_c).1)

-- where nothing satisfies the clauses, the net equals each configuration with these cells
pub miter-sound : (net : Network) (l : CellsValue) (variables : ℕ) (clauses : List Lits) → AreCircuits net l
    → variables ≡ variable_count net l → clauses ≡ (Miter net l).clauses
    → (config : ConfigValue) → IsConfig config → AreSourcesOf config l → Unsat variables clauses → Equal net config
miter-sound net l variables clauses h v e config is of unsat =
    let F : GeometryValue → Type 0 = λ g. FitsPads net g in
    let V : ℕ → Type 0 = λ n. Unsat n clauses in
    let C : List Lits → Type 0 = λ cs. Unsat (variable_count net l) cs in
    equal-from_unsat net config l h.is_net is of h.are_cells.cone.cone.closed
    (subst F of.geometry h.fits)
    (subst C e (subst V v unsat))
