-- The partners of names, one name at a time, and then those of two nets.
use Rattle.std.proofs.Common.{◌≡◌, ℕ, ◌+◌, List, [], ◌∷◌, ◌++◌, take, All, Contains, Some, Err, slice_get, sym, ap, subst, ◌∙◌}
use Rattle.std.proofs.lemmas.List.{take_more}
use Rattle.std.proofs.lemmas.Option.{slice_get_within, get_or_from_slice_get}
use Rattle.net_defs.specs.Networks.{Network}
use Rattle.net_defs.specs.Nets.{output_names}
use Rattle.net_defs.specs.Interfaces.{StandAt, HaveTheSameNames, InterfaceOf}
use Rattle.net_defs.specs.declared.interface.Side.{Side}
use Rattle.net_defs.specs.declared.interface.Side.TheVariants.{Spec, Design}
use Rattle.net_defs.specs.declared.interface.InterfaceError.TheVariants.{Input, Output as OutputError}
use Rattle.netlist.specs.Partners.{FindsAll, GivesPartners}
use Rattle.netlist.specs.declared.ports.Unpaired.{Unpaired}
use Rattle.netlist.specs.declared.ports.Unpaired.TheVariants.{Missing, NoMemory}
use Rattle.netlist.proofs.ZipLemmas.{all_zip-push}

-- one more name that was found
pub StandAt-more : (names wanted : List (List ℕ)) (places : List ℕ) (i place : ℕ) (q : List ℕ) → slice_get wanted i ≡ Some q
    → StandAt names places (take i wanted) → slice_get names place ≡ Some q → StandAt names (places ++ place ∷ []) (take (i + 1) wanted)
StandAt-more names wanted places i place q at h found =
    let P : List (List ℕ) → Type 0 = λ l. StandAt names (places ++ place ∷ []) l in
    let last : take (i + 1) wanted ≡ take i wanted ++ q ∷ [] =
    take_more wanted i [] (slice_get_within wanted i q at) ∙ ap (λ x. take i wanted ++ x ∷ []) (get_or_from_slice_get wanted i q [] at) in
    subst P (sym last) (all_zip-push (λ p x. slice_get names p ≡ Some x) places (take i wanted) place q h found)

-- the fault of the way back stands after the way there
pub GivesPartners-back : (spec design : List (List ℕ)) (e : Unpaired) → All (Contains design) spec → FindsAll spec design Design (Err e)
    → GivesPartners spec design (Err e)
GivesPartners-back spec design (Missing Spec place) all h = let other = h.0 in absurd cc
GivesPartners-back spec design (Missing Design place) all h = (all, h.1)
GivesPartners-back spec design NoMemory all h = tt

-- an input without a partner is the interface's first fault
pub InterfaceOf-input : (spec design : Network) (side : Side) (place : ℕ) → GivesPartners spec.inputs design.inputs (Err (Missing side place))
    → InterfaceOf spec design (Err (Input side place))
InterfaceOf-input spec design Spec place h = h
InterfaceOf-input spec design Design place h = h

-- and an output, where the inputs have partners
pub InterfaceOf-output : (spec design : Network) (side : Side) (place : ℕ) → GivesPartners (output_names spec) (output_names design) (Err (Missing side place))
    → HaveTheSameNames spec.inputs design.inputs → InterfaceOf spec design (Err (OutputError side place))
InterfaceOf-output spec design Spec place h same = (same, h)
InterfaceOf-output spec design Design place h same = (same, h.0, h.1)
