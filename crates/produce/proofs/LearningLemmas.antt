-- What clause learning finds ends the search, or leaves enough for the search that tries every input.
use Rattle.std.proofs.Common.{◌≡◌, ℕ, ◌+◌, ◌<◌, ◌≤◌, inl, inr, true, false, List, length, Option, Result, Ok, Err, IfOk, refl, sym, ap, subst, ◌∙◌, arith}
use Rattle.std.proofs.lemmas.Bool.{cases_lt}
use Rattle.clause_defs.specs.Formulas.{Formula}
use Rattle.log_defs.specs.Logs.{LogValue, Words, Extends}
use Rattle.net_defs.specs.Networks.{Network}
use Rattle.fabric_defs.specs.Bits.{IsBits}
use Rattle.fabric_defs.specs.Configurations.{ConfigValue, IsConfig}
use Rattle.cell_laws.proofs.CellsExistence.{cells_exist}
use Rattle.tree_defs.specs.Budgets.{Enough}
use Rattle.tree_defs.specs.Trees.{HasNoEmpty, DiffersAt, TreeEnds}
use Rattle.tree_defs.specs.declared.tree_end.TreeEnd.{TreeEnd}
use Rattle.tree_defs.specs.declared.tree_end.TreeEnd.TheVariants.{Empty, Differs, Spent}
use Rattle.produce.specs.Endings.{IsOverMiter}
use Rattle.produce.specs.Learning.{AreCompared, IsInputFound, IsLeft, LearningEnds}

-- where both give other bits, they differ at the input
differs_where_other : (net : Network) (config : ConfigValue) (x : List ℕ) → IsBits (length net.inputs) x → AreCompared net config x true
    → DiffersAt net config x
differs_where_other net config x bits compared = record {
  width = bits;
  outputs = compared.outputs;
  pads = compared.pads;
  of_network = compared.of_network;
  of_fabric = compared.of_fabric;
  other = compared.other_is.0 refl;
}

-- the variables of the inputs are variables of the miter
pub inputs_within : (net : Network) (config : ConfigValue) (before after : LogValue) → IsConfig config → IsOverMiter net config before
    → Extends before after → length net.inputs + 1 ≤ after.originals.variables
inputs_within net config before after is_config over more =
    let cells = cells_exist config is_config in
    let same = ap (λ (f : Formula). f.variables) (more.originals ∙ over cells.0 cells.1) in
    omega arith

-- what is left where the words are within the limit
pub is_left : (net : Network) (before after : LogValue) (n v budget limit : ℕ) → Extends before after → before.budget ≡ budget
    → n ≡ length net.inputs → v ≡ before.originals.variables → HasNoEmpty after → Words after.derived ≤ limit
    → (Enough n v ≤ budget → limit + Enough n v ≡ budget) → IsLeft net after
is_left net before after n v budget limit more budget_is n_is v_is none within rest = record {
  none_empty = none;
  left = λ enough.
      let same_v : after.originals.variables ≡ v = ap (λ (f : Formula). f.variables) more.originals ∙ sym v_is in
      let most : Enough (length net.inputs) after.originals.variables ≡ Enough n v =
      ap (λ m. Enough m after.originals.variables) (sym n_is) ∙ ap (Enough n) same_v in
      let kept = more.budget in
      let all = rest (omega arith) in
      omega arith;
}

-- what was found at an input, or what is left, where nothing was
found_ends : (net : Network) (config : ConfigValue) (before after : LogValue) (x : List ℕ) (found : Option TreeEnd) → IsBits (length net.inputs) x
    → IsInputFound net config x found → IsLeft net after → LearningEnds net config before found after
found_ends net config before after x found bits (true, compared, is) left =
    subst (λ f. LearningEnds net config before f after) (sym is) (differs_where_other net config x bits compared)
found_ends net config before after x found bits (false, compared, is) left =
    subst (λ f. LearningEnds net config before f after) (sym is) left

-- so it is where memory may be wanting
pub found_if : {E : Type 0} (r : Result (Option TreeEnd) E) (net : Network) (config : ConfigValue) (before after : LogValue) (x : List ℕ) (n : ℕ)
    → n ≡ length net.inputs → IsBits n x → IfOk r (IsInputFound net config x) → IsLeft net after
    → IfOk r (λ found. LearningEnds net config before found after)
found_if (Ok found) net config before after x n same bits is left =
    found_ends net config before after x found (subst (λ m. IsBits m x) same bits) is left
found_if (Err e) net config before after x n same bits is left = is

-- a budget that is spent after so many words, where it had enough left beside them, wasn't enough
too_few : (enough words budget : ℕ) → (enough ≤ budget → words + enough ≤ budget) → budget < words + enough → budget < enough
too_few enough words budget left over = elim (cases_lt budget enough) [
  | inl few ↦ few
  | inr most ↦ let all = left most in absurd (omega (arith, all, over))
]

-- how the search that tries every input ends, after what was learned before it
pub later_ends : (net : Network) (config : ConfigValue) (before between after : LogValue) (end : TreeEnd)
    → Extends between after → IsLeft net between → TreeEnds net config between end after
    → TreeEnds net config before end after
later_ends net config before between after (Empty index) more left ends = record {
  empty = ends.empty;
  last = λ none. ends.last left.none_empty;
}
later_ends net config before between after (Differs x) more left ends = ends
later_ends net config before between after (Spent used need) more left ends =
    let kept : after.budget ≡ between.budget = more.budget in
    let same : Enough (length net.inputs) after.originals.variables ≡ Enough (length net.inputs) between.originals.variables =
    ap (λ (f : Formula). Enough (length net.inputs) f.variables) more.originals in
    let scarce : after.budget < Words between.derived + Enough (length net.inputs) after.originals.variables = ends.scarce in
    let few : between.budget < Enough (length net.inputs) between.originals.variables =
    too_few (Enough (length net.inputs) between.originals.variables) (Words between.derived) between.budget left.left
    (let e : between.budget < Words between.derived + Enough (length net.inputs) between.originals.variables = omega (arith, scarce, kept, same) in e) in
    record {
      used_is = ends.used_is;
      need_low = ends.need_low;
      need_high = ends.need_high;
      over = ends.over;
      scarce = omega (arith, few, kept, same);
    }
