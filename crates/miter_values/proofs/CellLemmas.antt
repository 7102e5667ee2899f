-- The values of cells.
use Rattle.std.proofs.Common.{◌≡◌, ℕ, zero, suc, ◌+◌, ◌-◌, ◌*◌, ◌/◌, ◌^◌, ◌<◌, ◌≤◌, ◌==◌, ◌↔◌, ◌⊎◌, inl, inr, Bool, true, false, not, List, [], ◌∷◌, length, map, All, drop, get_or, if◌then◌else◌, cond, refl, sym, ◌∙◌, ap, subst, arith}
use mir.Val.{bool_byte}
use Rattle.std.proofs.lemmas.Bool.{cases_lt, lt-ltb, le-ltb}
use Rattle.std.proofs.lemmas.List.{drop_more}
use Rattle.std.proofs.lemmas.List.Sums.{sum_by_more, sum_by-take-le}
use Rattle.std.proofs.lemmas.Nat.Bits.{bit_at_lowest, bit_at-suc}
use Rattle.std.specs.Int.{bit_at}
use Rattle.pch_base.specs.BitLists.{word_of}
use Rattle.clause_defs.specs.Literals.{Literal}
use Rattle.clause_defs.specs.Clauses.{Has}
use Rattle.chain_check.proofs.ClauseLists.{Has-snoc}
use Rattle.log_laws.proofs.TraceOfLemmas.{Has-get_or}
use Rattle.net_defs.specs.Networks.{Network}
use Rattle.fabric_defs.specs.Numbered.{list_of}
use Rattle.fabric_defs.specs.Geometries.{table_bits, cell_count}
use Rattle.cell_defs.specs.declared.source.Source.{Source}
use Rattle.cell_defs.specs.declared.source.Source.TheVariants.{Zero as NoSource, Pad, Cell}
use Rattle.cell_defs.specs.Cells.{CellsValue, IsSourceBelow, cell_at}
use Rattle.cell_defs.specs.Cones.{in_cone}
use Rattle.cell_laws.proofs.SourceBits.{All-Has}
use Rattle.extract.specs.Kept.{AreCellsWithCone}
use Rattle.miter_cnf.specs.Circuits.{Circuits}
use Rattle.miter_defs.specs.Numberings.{zero_variable, signal_variable, cell_variable, cone_before, cone_size, source_variable, variable_count}
use Rattle.miter_defs.specs.Miters.{literal, table_clause}
use Rattle.leaf_defs.specs.Evaluated.{Evaluated, value_of, clause_numbered}
use Rattle.miter_places.specs.Places.{first_of_cell}
use Rattle.miter_values.specs.Growing.{IsFalseIn, IsForced, Grows}
use Rattle.miter_values.specs.Parts.{circuits_of, bit_of, source_value, IsOfCells, HaveValues, AreInside}
use Rattle.miter_values.proofs.GrowLemmas.{forced_set}
use Rattle.miter_values.proofs.ClauseNumbers.{cell_number}

-- ---- the word that the pins spell

-- the number of the bits from one on
pub word_of-drop : {X : Type 0} (f : X → ℕ) (xs : List X) (i : ℕ) (d : X) → i < length xs
    → word_of (map f (drop i xs)) ≡ f (get_or xs i d) + 2 * word_of (map f (drop (i + 1) xs))
word_of-drop f xs i d lt = ap (λ l. word_of (map f l)) (drop_more xs i d lt)

-- a value as a bit is 0 or 1
bit_of-small : (b : Bool) → bit_of b ≤ 1
bit_of-small true = omega arith
bit_of-small false = omega arith

-- bit j of the word is that of element j
pub bit_at-word : {X : Type 0} (value : X → Bool) (xs : List X) (j : ℕ) (d : X) → j < length xs
    → bit_at (word_of (map (λ x. bit_of (value x)) xs)) j ≡ bit_of (value (get_or xs j d))
bit_at-word value [] j d lt = absurd (omega arith)
bit_at-word value (x ∷ xs) zero d lt =
    let rest : ℕ = word_of (map (λ y. bit_of (value y)) xs) in
    let first = bit_of-small (value x) in
    bit_at_lowest (bit_of (value x) + 2 * rest) ∙ omega arith
bit_at-word value (x ∷ xs) (suc j) d lt =
    let rest : ℕ = word_of (map (λ y. bit_of (value y)) xs) in
    let first = bit_of-small (value x) in
    let half : (bit_of (value x) + 2 * rest) / 2 ≡ rest = omega arith in
    bit_at-suc (bit_of (value x) + 2 * rest) j ∙ ap (λ w. bit_at w j) half ∙ bit_at-word value xs j d (omega arith)

-- ---- the clause that gives a cell its value

-- a member of such a list is the function's value at some place
pub listed_in : (n : ℕ) (f : ℕ → Literal) (m : Literal) → Has (list_of n f) m → (j : ℕ) × (j < n) × (m ≡ f j)
listed_in zero f m h = absurd h
listed_in (suc n) f m h = elim ((Has-snoc (list_of n f) (f n) m).0 h) [
  | inl old ↦ let rest = listed_in n f m old in (rest.0, (let lt = rest.1 in omega arith), rest.2)
  | inr same ↦ (n, omega arith, sym same)
]

-- a value by its bit
value_by : (b : Bool) (n : ℕ) → n ≡ bit_of b → b ≡ not (n == 0)
value_by true n e = rw e refl
value_by false n e = rw e refl

-- the source at a place is one of the sources
Has-place : (xs : List Source) (i : ℕ) → i < length xs → Has xs (get_or xs i NoSource)
Has-place xs i lt = Has-get_or xs i NoSource lt

-- The clause of a cell for the bits of its sources leaves one value: the bit of the table.
forced_cell : (c : Circuits) (k word : ℕ) (e : Evaluated) → HaveValues c e (cell_at c.cells k).pins
    → word ≡ word_of (map (source_value c.net c.cells e) (cell_at c.cells k).pins)
    → IsForced e (literal (cell_variable c.net c.cells k) (bit_at (cell_at c.cells k).table word == 1)) (table_clause c.net c.cells k word)
forced_cell c k word e known is =
    let pins : List Source = (cell_at c.cells k).pins in
    let own : Literal = literal (cell_variable c.net c.cells k) (bit_at (cell_at c.cells k).table word == 1) in
    let pin : ℕ → Literal = λ j. literal (source_variable c.net c.cells (get_or pins j NoSource)) (bit_at word j == 0) in
    record {
      implied = (Has-snoc (list_of (length pins) pin) own own).1 (inr refl);
      others = λ m here. elim ((Has-snoc (list_of (length pins) pin) own m).0 here) [
        | inr same ↦ inl (sym same)
        | inl old ↦
            let at = listed_in (length pins) pin m old in
            let variable : ℕ = source_variable c.net c.cells (get_or pins at.0 NoSource) in
            let bit : bit_at word at.0 ≡ bit_of (value_of e.values variable) =
            ap (λ n. bit_at n at.0) is ∙ bit_at-word (λ s. value_of e.values (source_variable c.net c.cells s)) pins at.0 NoSource at.1 in
            inr (subst (IsFalseIn e) (sym at.2) (record {
              known = known (get_or pins at.0 NoSource) (Has-place pins at.0 at.1);
              value = value_by (value_of e.values variable) (bit_at word at.0) bit;
            }))
      ];
    }

-- the number of that clause in the miter, and that it leaves that value
pub cell_step : (c : Circuits) (k number word : ℕ) (e : Evaluated) → AreCellsWithCone c.cells → k < cell_count c.cells.geometry → in_cone c.cells k ≡ true
    → number ≡ first_of_cell c.net c.cells k → HaveValues c e (cell_at c.cells k).pins
    → word ≡ word_of (map (source_value c.net c.cells e) (cell_at c.cells k).pins) → word < 2 ^ length (cell_at c.cells k).pins
    → (number + word ≤ length (circuits_of c.net c.cells))
    × IsForced e (literal (cell_variable c.net c.cells k) (bit_at (cell_at c.cells k).table word == 1)) (clause_numbered (circuits_of c.net c.cells) (number + word))
cell_step c k number word e cells lt inside at known is below =
    let own : Literal = literal (cell_variable c.net c.cells k) (bit_at (cell_at c.cells k).table word == 1) in
    let few : word < table_bits c.cells.geometry = subst (λ n. word < 2 ^ n) (cells.cells.each k lt).pins below in
    let many = cells.cells.count in
    let numbered = cell_number c.net c.cells k word (omega arith) inside few in
    let same : number + word ≡ first_of_cell c.net c.cells k + word = omega arith in
    let most = numbered.0 in (
      omega arith,
      subst (IsForced e own) (sym (ap (clause_numbered (circuits_of c.net c.cells)) same ∙ numbered.1))
          (forced_set e own (table_clause c.net c.cells k word) (forced_cell c k word e known is)),
    )

-- ---- the cells of the cone by number

-- a cell of the cone has a variable more before the next one
pub cone_in : (cells : CellsValue) (k : ℕ) → k < length cells.cone → in_cone cells k ≡ true → cone_before cells (k + 1) ≡ cone_before cells k + 1
cone_in cells k lt inside =
    sum_by_more _ cells.cone k false lt ∙ ap (λ (b : Bool). cone_before cells k + (if b then 1 else 0)) inside

-- a cell outside the cone has none
pub cone_out : (cells : CellsValue) (k : ℕ) → k < length cells.cone → in_cone cells k ≡ false → cone_before cells (k + 1) ≡ cone_before cells k
cone_out cells k lt outside =
    sum_by_more _ cells.cone k false lt ∙ ap (λ (b : Bool). cone_before cells k + (if b then 1 else 0)) outside ∙ omega arith

-- a cell of the cone has a lower variable than later cells
cone_up : (cells : CellsValue) (j d : ℕ) → j + d ≤ length cells.cone → cone_before cells j ≤ cone_before cells (j + d)
cone_up cells j zero le = let same = ap (cone_before cells) (let e : j ≡ j + 0 = omega arith in e) in omega arith
cone_up cells j (suc d) le =
    let rest = cone_up cells j d (omega arith) in
    let more = sum_by_more (λ (b : Bool). cond b 1 0) cells.cone (j + d) false (omega arith) in
    let same = ap (cone_before cells) (let e : j + d + 1 ≡ j + suc d = omega arith in e) in
    omega arith

-- so a cell of the cone has fewer before it than each later one
pub cone_less : (cells : CellsValue) (j k : ℕ) → j < k → k ≤ length cells.cone → in_cone cells j ≡ true → cone_before cells j < cone_before cells k
cone_less cells j k less lt inside =
    let up = cone_up cells (j + 1) (k - (j + 1)) (omega arith) in
    let same = ap (cone_before cells) (let e : j + 1 + (k - (j + 1)) ≡ k = omega arith in e) in
    let own = cone_in cells j (omega arith) inside in
    omega arith

-- what is below a number is below a greater one
all_below : (xs : List Source) (k n pads : ℕ) → k ≤ n → All (IsSourceBelow pads k) xs → All (IsSourceBelow pads n) xs
all_below xs k n pads le h = λ i d lt. one (get_or xs i d) (h i d lt)
  where
    one : (s : Source) → IsSourceBelow pads k s → IsSourceBelow pads n s
    one NoSource p = tt
    one (Pad p) q = q
    one (Cell j) q = omega arith

-- what the pins of a cell of the cone listen to is inside
pub pins_inside : (c : Circuits) (k : ℕ) → AreCellsWithCone c.cells → k < cell_count c.cells.geometry → in_cone c.cells k ≡ true → AreInside c (cell_at c.cells k).pins
pins_inside c k cells lt inside = record {
  below = all_below (cell_at c.cells k).pins k (cell_count c.cells.geometry) c.cells.geometry.input_pads (omega arith) (cells.cells.each k lt).sources;
  inside = λ j here. cells.cone.cone.closed.pins k j (let many = cells.cells.count in omega arith) inside here;
}

-- and has a value, where the inputs and the cells before have theirs
pub pins_known : (c : Circuits) (k : ℕ) (before e : Evaluated) → AreCellsWithCone c.cells → k < cell_count c.cells.geometry → in_cone c.cells k ≡ true
    → Has before.order zero_variable → ((i : ℕ) → i < length c.net.inputs → Has before.order (signal_variable i))
    → Grows (circuits_of c.net c.cells) before e (IsOfCells c.net c.cells k) → HaveValues c e (cell_at c.cells k).pins
pins_known c k before e cells lt inside zero_known inputs grows NoSource here = (grows.known zero_variable).1 (inl zero_known)
pins_known c k before e cells lt inside zero_known inputs grows (Pad p) here = elim (cases_lt p (length c.net.inputs)) [
  | inl input ↦ rw (lt-ltb p (length c.net.inputs) input) ((grows.known (signal_variable p)).1 (inl (inputs p input)))
  | inr past ↦ rw (le-ltb p (length c.net.inputs) past) ((grows.known zero_variable).1 (inl zero_known))
]
pins_known c k before e cells lt inside zero_known inputs grows (Cell j) here =
    let less : j < k = All-Has (IsSourceBelow c.cells.geometry.input_pads k) (cell_at c.cells k).pins (Cell j) (cells.cells.each k lt).sources here in
    let own = cells.cone.cone.closed.pins k j (let many = cells.cells.count in omega arith) inside here in
    let count = cells.cone.count in
    let up = cone_less c.cells j k less (omega arith) own in
    (grows.known (cell_variable c.net c.cells j)).1 (inr (omega arith, omega arith))

-- the cells below the next are those below this one, and this one
pub cells_more : (net : Network) (cells : CellsValue) (k u : ℕ) → k < length cells.cone → in_cone cells k ≡ true
    → IsOfCells net cells (k + 1) u ↔ (IsOfCells net cells k u ⊎ (u ≡ cell_variable net cells k))
cells_more net cells k u lt inside =
    let next = cone_in cells k lt inside in (
      λ h. let low = h.0 in let high = h.1 in elim (cases_lt u (cell_variable net cells k)) [ inl below ↦ inl (low, below) | inr past ↦ inr (omega arith) ],
      λ h. elim h [
        | inl old ↦ (old.0, let high = old.1 in omega arith)
        | inr same ↦ (omega arith, omega arith)
      ],
    )

-- a cell outside the cone adds no variable to those of the cells before
pub cells_none : (net : Network) (cells : CellsValue) (k u : ℕ) → k < length cells.cone → in_cone cells k ≡ false
    → IsOfCells net cells (k + 1) u ↔ IsOfCells net cells k u
cells_none net cells k u lt outside =
    let next = cone_out cells k lt outside in (
      λ h. (h.0, let high = h.1 in omega arith),
      λ h. (h.0, let high = h.1 in omega arith),
    )

-- the variable of a source is within the places
pub source_below : (c : Circuits) (source : Source) → 1 ≤ length c.net.outputs → source_variable c.net c.cells source < variable_count c.net c.cells + 1
source_below c NoSource some = omega arith
source_below c (Pad p) some = elim (cases_lt p (length c.net.inputs)) [
  | inl input ↦ rw (lt-ltb p (length c.net.inputs) input) (omega arith)
  | inr past ↦ rw (le-ltb p (length c.net.inputs) past) (omega arith)
]
source_below c (Cell k) some =
    let within : cone_before c.cells k ≤ cone_size c.cells = sum_by-take-le _ c.cells.cone k in omega arith

-- a bit as a byte is its number
pub bool_byte-is : (b : Bool) → bool_byte b ≡ bit_of b
bool_byte-is true = refl
bool_byte-is false = refl

-- a value as a bit is 1 at most
pub bit_of-le : (b : Bool) → bit_of b ≤ 1
bit_of-le b = bit_of-small b
