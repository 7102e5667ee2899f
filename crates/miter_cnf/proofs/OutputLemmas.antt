-- The signals of outputs and the sources of output pads.
use Rattle.std.proofs.Common.{◌≡◌, ℕ, ◌<◌, List, length, slice_get, get_or, All, Some, sym, subst, ◌∙◌, arith}
use Rattle.std.proofs.lemmas.List.{get_or-map, length-map}
use Rattle.std.proofs.lemmas.Option.{slice_get_within, get_or_from_slice_get}
use Rattle.net_defs.specs.Networks.{Output, Network, signals}
use Rattle.net_defs.specs.Evaluation.{output_signals}
use Rattle.cell_defs.specs.declared.source.Source.{Source}
use Rattle.miter_defs.specs.Miters.{difference_clauses, no_output}

-- the signal that is got of an output is the output's
pub output_signal-is : (net : Network) (o s : ℕ) → slice_get (output_signals net) o ≡ Some s
    → s ≡ (get_or net.outputs o no_output).signal
output_signal-is net o s e =
    let within : o < length net.outputs =
    omega (arith, slice_get_within (output_signals net) o s e, length-map net.outputs (λ (p : Output). p.signal)) in
    sym (get_or_from_slice_get (output_signals net) o s 0 e)
    ∙ get_or-map (λ (p : Output). p.signal) net.outputs o no_output 0 within

-- and it is one of the network's
pub output_signal-below : (net : Network) (o s : ℕ) → All (λ (p : Output). p.signal < signals net) net.outputs
    → slice_get (output_signals net) o ≡ Some s → s < signals net
output_signal-below net o s all e =
    let within : o < length net.outputs =
    omega (arith, slice_get_within (output_signals net) o s e, length-map net.outputs (λ (p : Output). p.signal)) in
    let P : ℕ → Type 0 = λ t. t < signals net in
    subst P (sym (output_signal-is net o s e)) (all o no_output within)

-- what holds of all sources holds of one that is got
pub source-holds : (P : Source → Type 0) (sources : List Source) (i : ℕ) (source : Source) → All P sources
    → slice_get sources i ≡ Some source → P source
source-holds P sources i source all e =
    subst P (get_or_from_slice_get sources i source source e) (all i source (slice_get_within sources i source e))

-- the clauses of equal variables
pub difference_clauses-same : (d e a b s t : ℕ) → d ≡ e → a ≡ b → s ≡ t → difference_clauses d a s ≡ difference_clauses e b t
difference_clauses-same d e a b s t p q r = λ i. difference_clauses (p i) (q i) (r i)
