use Rattle.std.proofs.Common.{Err, inl, inr, ⊎_elim, subst}
use Rattle.std.proofs.lemmas.Result.{err_from_is_err_and}
use Rattle.text_defs.specs.Memory.{OrMemory}
use Rattle.net_defs.specs.Networks.{Network}
use Rattle.net_defs.specs.Interfaces.{PlacePairs, HaveTheSameNames, IsPairing, InterfaceOf}
use Rattle.net_defs.specs.declared.interface.InterfaceError.TheVariants.{NoMemory}
use Rattle.net_laws.proofs.PlaceLemmas.{All-standing}
use Rattle.net_laws.proofs.PairingLemmas.{Pairs-paired}
use Rattle.netlist.proofs.pairing.same_interface.Goals as goal

-- the inputs have partners, so the fault of the outputs is the first
pub returns-in_err-outputs-clause-answer : goal.returns-in_err-outputs-clause-answer
returns-in_err-outputs-clause-answer c =
    let spec = c.network-wanted.result.now in
    let design = c.network-there.result.now in
    let e = c.in_err-outputs.field-0.0 in
    let P : Network → Type 0 = λ net. OrMemory NoMemory (InterfaceOf net design) (Err e) in
    let Q : Network → Type 0 = λ net. OrMemory NoMemory (InterfaceOf c.args.spec.now net) (Err e) in
    let p = err_from_is_err_and c.from_residual-in_err-outputs.result c.from_residual-in_err-outputs.ensures.1 in
    let same : HaveTheSameNames spec.inputs design.inputs = (All-standing design.inputs c.in_ok-inputs.inputs.items spec.inputs c.in_ok-inputs.ensures.0, c.in_ok-inputs.ensures.1) in
    let answer : OrMemory NoMemory (InterfaceOf spec design) (Err e) = ⊎_elim (λ memory. inl memory) (λ fault. inr (fault same)) c.in_err-outputs.ensures in
    rw (p.1, p.2) (subst Q c.network-there.ensures.network (subst P c.network-wanted.ensures.network answer))

-- the places of both sides make up the pairing
pub returns-clause-answer : goal.returns-clause-answer
returns-clause-answer c =
    let spec = c.network-wanted.result.now in
    let design = c.network-there.result.now in
    let p : PlacePairs = record { inputs = c.in_ok-inputs.inputs.items; outputs = c.in_ok-outputs.outputs.items } in
    let P : Network → Type 0 = λ net. IsPairing net design p in
    let Q : Network → Type 0 = λ net. IsPairing c.args.spec.now net p in
    let pairing : IsPairing spec design p = record {
      inputs = c.in_ok-inputs.ensures.0;
      outputs = c.in_ok-outputs.ensures.0;
      all_inputs = c.in_ok-inputs.ensures.1;
      all_outputs = c.in_ok-outputs.ensures.1;
    } in
    subst Q c.network-there.ensures.network (subst P c.network-wanted.ensures.network pairing)

-- and the pairing pairs the places of two nets
pub returns-clause-pairs : goal.returns-clause-pairs
returns-clause-pairs c = Pairs-paired c.args.spec.now c.args.design.now _ c.network-wanted.ensures.net c.network-there.ensures.net (returns-clause-answer c)
