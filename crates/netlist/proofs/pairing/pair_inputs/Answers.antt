use Rattle.std.proofs.Common.{ℕ, List, All, Contains, Err, inr, subst}
use Rattle.net_defs.specs.Interfaces.{StandAt}
use Rattle.netlist.specs.Partners.{GivesPartners}
use Rattle.netlist.specs.declared.ports.Unpaired.{Unpaired}
use Rattle.netlist.specs.declared.ports.Unpaired.TheVariants.{Missing}
use Rattle.netlist.proofs.PartnerLemmas.{InterfaceOf-input}
use Rattle.netlist.proofs.pairing.pair_inputs.Goals as goal

-- the places are those of the specification's inputs
pub returns-in-Ok : goal.returns-in-Ok
returns-in-Ok c =
    let places = c.in-Ok.places.items in
    let there = c.inputs-2.result.now in
    let wanted = c.args.spec.now.inputs in
    let P : List (List ℕ) → Type 0 = λ names. StandAt there places names × All (Contains names) there in
    let Q : List (List ℕ) → Type 0 = λ names. StandAt names places wanted × All (Contains wanted) names in
    subst Q c.inputs-2.ensures (subst P c.inputs.ensures c.in-Ok.ensures)

-- an input without a partner is the interface's first fault
pub returns-in-Err-Missing : goal.returns-in-Err-Missing
returns-in-Err-Missing c =
    let side = c.in-Err-Missing.side in
    let place = c.in-Err-Missing.place in
    let there = c.inputs-2.result.now in
    let P : List (List ℕ) → Type 0 = λ names. GivesPartners names there (Err (Missing side place)) in
    let Q : List (List ℕ) → Type 0 = λ names. GivesPartners c.args.spec.now.inputs names (Err (Missing side place)) in
    let R : Unpaired → Type 0 = λ e. GivesPartners c.inputs.result.now there (Err e) in
    let missing = subst R c.in-Err-Missing.field-0-is c.in-Err-Missing.ensures in
    inr (InterfaceOf-input c.args.spec.now c.args.design.now side place (subst Q c.inputs-2.ensures (subst P c.inputs.ensures missing)))
