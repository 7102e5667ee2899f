-- What the ends of the search mean for the producer.
use Rattle.std.proofs.Common.{◌≡◌, ℕ, List, [], ◌∷◌, length, take, inl, Result, Ok, Err, IfOk, IfErr, refl, ap, subst, sym, ◌∙◌, arith}
use Rattle.std.proofs.lemmas.List.{length-map}
use Rattle.clause_defs.specs.Clauses.{Lits, SameSet}
use Rattle.clause_defs.specs.Formulas.{Formula}
use Rattle.net_defs.specs.Networks.{Network, Output}
use Rattle.net_defs.specs.Nets.{IsNet}
use Rattle.net_defs.proofs.AssignmentLemmas.{assignment_exists}
use Rattle.net_defs.specs.Evaluation.{SpecOut, bits_at, output_signals}
use Rattle.net_laws.proofs.AlignLemmas.{inputs-aligned, output_names-aligned}
use Rattle.fabric_defs.specs.Bits.{IsBits}
use Rattle.fabric_defs.specs.Geometries.{GeometryValue}
use Rattle.fabric_defs.specs.Configurations.{ConfigValue}
use Rattle.cell_defs.specs.Cells.{CellsValue}
use Rattle.cell_defs.specs.Sources.{AreCellsOf}
use Rattle.cell_laws.proofs.CellsUniqueness.{cells-unique}
use Rattle.miter_defs.specs.Equality.{FitsPads, Equal}
use Rattle.miter_defs.specs.Miters.{Miter}
use Rattle.log_defs.specs.Logs.{LogValue, Derived, IsLog, Words, Extends, clause_of_log}
use Rattle.tree_defs.specs.Trees.{DiffersAt, HasNoEmpty, IsRefuted, IsSpentAt, TreeEnds}
use Rattle.tree_defs.specs.declared.tree_end.TreeEnd.{TreeEnd}
use Rattle.tree_defs.specs.declared.tree_end.TreeEnd.TheVariants.{Empty, Differs as DiffersInSearch, Spent as SpentInSearch}
use Rattle.place_net.specs.Placings.{Placed}
use Rattle.produce.specs.declared.produce_end.ProduceEnd.{ProduceEnd}
use Rattle.produce.specs.declared.produce_end.ProduceEnd.TheVariants.{Interface, Unroutable, Differs, Spent, NoMemory}
use Rattle.miter_size.specs.Sizes.{HasShortTrace}
use Rattle.produce.specs.Endings.{AlignedTo, HaveOtherOutputs, IsOverMiter, Refuted, SpentAt, Unrefuted, IsRefutation, EndsBy, answer_of}

-- a clause with the literals of none has none
no_literals : (c : Lits) → SameSet c [] → c ≡ []
no_literals [] same = refl
no_literals (l ∷ ls) same = absurd ((same l).0 (inl refl))

-- the miter of one list of cells is that of each
pub over_miter : (spec : Network) (config : ConfigValue) (cells : CellsValue) (log : LogValue) → AreCellsOf config cells
    → log.originals ≡ Miter spec cells → IsOverMiter spec config log
over_miter spec config cells log of same others other_of = same ∙ ap (Miter spec) (cells-unique config cells others of other_of)

-- a log without derived clauses has no empty one
none_empty : (log : LogValue) → log.derived ≡ [] → HasNoEmpty log
none_empty log nothing index has =
    let none = ap (λ (ds : List Derived). length ds) nothing in
    let low = has.behind_originals in
    let high = has.within in absurd (omega arith)

-- a log that grew is over the same miter
pub grown_miter : (spec : Network) (config : ConfigValue) (before after : LogValue) → Extends before after → IsOverMiter spec config before
    → IsOverMiter spec config after
grown_miter spec config before after more over cells of = more.originals ∙ over cells of

-- the empty clause that was found is the last one
found_empty : (spec : Network) (config : ConfigValue) (budget : ℕ) (before after : LogValue) (index : ℕ) → IsOverMiter spec config before
    → before.derived ≡ [] → before.budget ≡ budget → Extends before after → IsLog after → HasShortTrace after → IsRefuted before after index
    → Refuted spec config budget after
found_empty spec config budget before after index over nothing same more is_log short found =
    let last = found.last (none_empty before nothing) in
    let low = found.empty.behind_originals in
    record {
      over_miter = grown_miter spec config before after more over;
      is_log = is_log;
      short = short;
      budget_is = more.budget ∙ same;
      empty = (omega arith, ap (clause_of_log after) (sym last) ∙ no_literals (clause_of_log after index) found.empty.same);
    }

-- the budget that was spent is less than what is enough
spent_all : (spec : Network) (config : ConfigValue) (budget : ℕ) (before after : LogValue) (used need : ℕ) → IsOverMiter spec config before
    → before.derived ≡ [] → before.budget ≡ budget → Extends before after → IsLog after → HasShortTrace after
    → IsSpentAt spec before after used need → SpentAt spec config budget used need after
spent_all spec config budget before after used need over nothing same more is_log short spent =
    let words : Words before.derived ≡ 0 = ap Words nothing in
    let kept : after.budget ≡ budget = more.budget ∙ same in
    let above = spent.over in
    let below = spent.scarce in
    record {
      over_miter = grown_miter spec config before after more over;
      is_log = is_log;
      short = short;
      budget_is = kept;
      used_is = spent.used_is;
      need_low = spent.need_low;
      need_high = spent.need_high;
      over = omega arith;
      scarce = omega arith;
    }

-- what is answered where the log is a refutation
pub answered_ok : (spec : Network) (config : ConfigValue) (budget : ℕ) (before after : LogValue) (end : TreeEnd) → IsOverMiter spec config before
    → before.derived ≡ [] → before.budget ≡ budget → Extends before after → IsLog after → HasShortTrace after
    → TreeEnds spec config before end after
    → IfOk (answer_of end after) (Refuted spec config budget)
answered_ok spec config budget before after (Empty index) over nothing same more is_log short ends =
    found_empty spec config budget before after index over nothing same more is_log short ends
answered_ok spec config budget before after (DiffersInSearch x) over nothing same more is_log short ends = tt
answered_ok spec config budget before after (SpentInSearch used need) over nothing same more is_log short ends = tt

-- and where it isn't
pub answered_err : (spec : Network) (config : ConfigValue) (budget : ℕ) (before after : LogValue) (end : TreeEnd) → IsOverMiter spec config before
    → before.derived ≡ [] → before.budget ≡ budget → Extends before after → IsLog after → HasShortTrace after
    → TreeEnds spec config before end after
    → IfErr (answer_of end after) (Unrefuted spec config budget)
answered_err spec config budget before after (Empty index) over nothing same more is_log short ends = tt
answered_err spec config budget before after (DiffersInSearch x) over nothing same more is_log short ends = ends
answered_err spec config budget before after (SpentInSearch used need) over nothing same more is_log short ends =
    spent_all spec config budget before after used need over nothing same more is_log short ends

-- the aligned design has as many inputs and outputs as the specification
pub aligned_inputs : (spec design net : Network) → AlignedTo spec design net → net.inputs ≡ spec.inputs
aligned_inputs spec design net a = inputs-aligned spec design a.pairing net a.is_pairing a.aligned

pub aligned_outputs : (spec design net : Network) → AlignedTo spec design net → length net.outputs ≡ length spec.outputs
aligned_outputs spec design net a =
    sym (length-map net.outputs (λ (o : Output). o.name))
    ∙ ap (λ (names : List (List ℕ)). length names) (output_names-aligned spec design a.pairing net a.is_pairing a.aligned)
    ∙ length-map spec.outputs (λ (o : Output). o.name)

-- so the specification fits the pads on which the aligned design is placed
pub spec_fits : (spec design net : Network) (config : ConfigValue) → AlignedTo spec design net → Equal net config → FitsPads spec config.geometry
spec_fits spec design net config a equal =
    let ins = ap (λ (names : List (List ℕ)). length names) (aligned_inputs spec design net a) in
    let outs = aligned_outputs spec design net a in
    let ins_fit = equal.fits.inputs in
    let outs_fit = equal.fits.outputs in
    record { inputs = omega arith; outputs = omega arith }

-- what was aligned, placed and refuted is a refutation for the fabric
pub refutation_of : (spec design net : Network) (g : GeometryValue) (config : ConfigValue) (budget : ℕ) (log : LogValue)
    → AlignedTo spec design net → Placed net g config → Equal net config → Refuted spec config budget log
    → IsRefutation spec design g budget config log
refutation_of spec design net g config budget log a placed equal refuted =
    record { net = net; aligned = a; placed = placed; equal = equal; refuted = refuted }

-- where the pads of the placed design aren't the specification's outputs, the aligned design's outputs aren't
pub other_outputs : (spec design net : Network) (config : ConfigValue) (x : List ℕ) → AlignedTo spec design net → IsNet net
    → Equal net config → DiffersAt spec config x → HaveOtherOutputs spec net x
other_outputs spec design net config x a is_net equal differs =
    let ins : length net.inputs ≡ length spec.inputs = ap (λ (names : List (List ℕ)). length names) (aligned_inputs spec design net a) in
    let bits : IsBits (length net.inputs) x = subst (λ n. IsBits n x) (sym ins) differs.width in
    let settled = assignment_exists net x is_net.acyclic bits.count in
    let outs : List ℕ = bits_at settled.0 (output_signals net) in
    let of_net : SpecOut net x outs = (settled.0, settled.1, refl) in
    let shown : take (length net.outputs) differs.pads ≡ outs = equal.same x outs differs.pads bits of_net differs.of_fabric in
    record {
      width = differs.width;
      outputs = differs.outputs;
      others = outs;
      of_spec = differs.of_network;
      of_net = of_net;
      differ = λ same. differs.other (ap (λ n. take n differs.pads) (sym (aligned_outputs spec design net a)) ∙ shown ∙ sym same);
    }

-- the causes of the last part are causes of the whole
pub unrefuted_ends : (spec design net : Network) (g : GeometryValue) (config : ConfigValue) (budget : ℕ) (end : ProduceEnd)
    → AlignedTo spec design net → IsNet net → Placed net g config → Equal net config → Unrefuted spec config budget end
    → EndsBy spec design g budget end
unrefuted_ends spec design net g config budget (Differs x) a is_net placed equal differs =
    (net, a, config, placed, other_outputs spec design net config x a is_net equal differs)
unrefuted_ends spec design net g config budget (Spent used need log) a is_net placed equal spent = (net, a, config, placed, spent)
unrefuted_ends spec design net g config budget NoMemory a is_net placed equal h = tt
unrefuted_ends spec design net g config budget (Interface error) a is_net placed equal h = absurd h
unrefuted_ends spec design net g config budget (Unroutable resource place need have) a is_net placed equal h = absurd h

-- a log that was opened over the miter of the configuration's cells is over the miter
pub opened_over : {E : Type 0} (spec : Network) (config : ConfigValue) (cells : CellsValue) (miter : Formula) (budget : ℕ) (result : Result LogValue E)
    → AreCellsOf config cells → miter ≡ Miter spec cells
    → IfOk result (λ log. log ≡ record { originals = miter; derived = []; budget = budget }) → IfOk result (IsOverMiter spec config)
opened_over spec config cells miter budget (Ok log) of same is =
    over_miter spec config cells log of (ap (λ (l : LogValue). l.originals) is ∙ same)
opened_over spec config cells miter budget (Err e) of same is = tt
