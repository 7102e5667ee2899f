use Rattle.std.proofs.Common.{ℕ, List, map, All, Contains, Err, inr, subst}
use Rattle.net_defs.specs.Networks.{Output}
use Rattle.net_defs.specs.Nets.{output_names}
use Rattle.net_defs.specs.Interfaces.{StandAt}
use Rattle.netlist.specs.Partners.{GivesPartners}
use Rattle.netlist.specs.declared.ports.Unpaired.{Unpaired}
use Rattle.netlist.specs.declared.ports.Unpaired.TheVariants.{Missing}
use Rattle.netlist.proofs.PartnerLemmas.{InterfaceOf-output}
use Rattle.netlist.proofs.pairing.pair_outputs.Goals as goal

-- the places are those of the specification's outputs
pub returns-in-Ok : goal.returns-in-Ok
returns-in-Ok c =
    let places = c.in-Ok.places.items in
    let names : List Output → List (List ℕ) = λ outputs. map (λ (o : Output). o.name) outputs in
    let there = names c.outputs-2.result.now in
    let wanted = output_names c.args.spec.now in
    let P : List Output → Type 0 = λ outputs. StandAt there places (names outputs) × All (Contains (names outputs)) there in
    let Q : List Output → Type 0 = λ outputs. StandAt (names outputs) places wanted × All (Contains wanted) (names outputs) in
    subst Q c.outputs-2.ensures (subst P c.outputs.ensures c.in-Ok.ensures)

-- an output without a partner is the first fault where the inputs have theirs
pub returns-in-Err-Missing : goal.returns-in-Err-Missing
returns-in-Err-Missing c =
    let side = c.in-Err-Missing.side in
    let place = c.in-Err-Missing.place in
    let names : List Output → List (List ℕ) = λ outputs. map (λ (o : Output). o.name) outputs in
    let there = names c.outputs-2.result.now in
    let P : List Output → Type 0 = λ outputs. GivesPartners (names outputs) there (Err (Missing side place)) in
    let Q : List Output → Type 0 = λ outputs. GivesPartners (output_names c.args.spec.now) (names outputs) (Err (Missing side place)) in
    let R : Unpaired → Type 0 = λ e. GivesPartners (names c.outputs.result.now) there (Err e) in
    let missing = subst R c.in-Err-Missing.field-0-is c.in-Err-Missing.ensures in
    inr (λ same. InterfaceOf-output c.args.spec.now c.args.design.now side place (subst Q c.outputs-2.ensures (subst P c.outputs.ensures missing)) same)
