-- What gates of any number of terms compute.
use Rattle.std.proofs.Common.{◌≡◌, ℕ, zero, suc, ◌+◌, ◌-◌, ◌*◌, ◌<◌, ◌≤◌, ◌==◌, inl, inr, ⊎_elim, Bool, true, false, not, ◌&&◌, ◌||◌, if◌then◌else◌, leb, List, [], ◌∷◌, ◌++◌, length, map, take, drop, get_or, refl, ap, sym, subst, ◌∙◌, arith, length-append, ne_eqb}
use Rattle.std.proofs.lemmas.List.{get_or_append_left, get_or-append-add, take_all, length-take, length-take-le, length-map, length-drop}
use Rattle.std.proofs.lemmas.Bool.{cases_Bool, cases_lt, cond-true, cond-false, le-leb, lt-leb, eqb-true}
use Rattle.fabric_defs.specs.Bits.{AreBits}
use Rattle.fabric_defs.specs.Numbered.{list_of, joined}
use Rattle.fabric_laws.proofs.NumberedLemmas.{length-list_of, length-joined}
use Rattle.cell_defs.specs.declared.source.Source.{Source}
use Rattle.cell_defs.specs.declared.source.Source.TheVariants.{Cell}
use Rattle.cell_defs.specs.Cells.{CellValue, no_cell}
use Rattle.cell_defs.specs.Evaluation.{source_bit, source_bits, chosen_bit}
use Rattle.map_defs.specs.declared.gate.Gate.{Gate}
use Rattle.map_defs.specs.declared.gate.Gate.TheVariants.{Conjunction, Disjunction}
use Rattle.map_defs.specs.declared.limits.TheConstants.{GROUP}
use Rattle.map_defs.specs.declared.term.Term.{Term}
use Rattle.map_defs.specs.Tables.{bit_of}
use Rattle.map_defs.specs.Gates.{no_term, is_true, joins, gate_cell, group, group_count, group_cells, group_term, round_cells, round_terms, gate_cells_in}
use Rattle.map_laws.proofs.TableLemmas.{table_bit-table_of}

-- all sources have bits
abbrev pub HaveBits : List ℕ → List ℕ → Type 0
HaveBits x a = (s : Source) → source_bit x a s ≤ 1

-- the cells, of which the first has the number `next`, have the bits that their pins choose
abbrev pub Obey : List ℕ → List ℕ → ℕ → List CellValue → Type 0
Obey x a next cells = (i : ℕ) → i < length cells → get_or a (next + i) 0 ≡ chosen_bit x a (get_or cells i no_cell)

-- so do the first of them
pub Obey-left : (x a : List ℕ) (next : ℕ) (p q : List CellValue) → Obey x a next (p ++ q) → Obey x a next p
Obey-left x a next p q h i lt =
    h i (omega (arith, length-append p q))
    ∙ ap (chosen_bit x a) (get_or_append_left p q no_cell i lt)

-- and the others
pub Obey-right : (x a : List ℕ) (next : ℕ) (p q : List CellValue) → Obey x a next (p ++ q) → Obey x a (next + length p) q
Obey-right x a next p q h i lt =
    let e : next + length p + i ≡ next + (length p + i) = omega arith in
    ap (λ k. get_or a k 0) e
    ∙ h (length p + i) (omega (arith, length-append p q))
    ∙ ap (chosen_bit x a) (get_or-append-add p q i no_cell)

-- the bits of sources are bits
pub AreBits-sources : (x a : List ℕ) (ss : List Source) → HaveBits x a → AreBits (source_bits x a ss)
AreBits-sources x a [] h c m = absurd m
AreBits-sources x a (s ∷ ss) h c (inl e) = subst (λ n. n ≤ 1) e (h s)
AreBits-sources x a (s ∷ ss) h c (inr m) = AreBits-sources x a ss h c m

-- a test is at most 1 as a bit
pub bit_of-le : (b : Bool) → bit_of b ≤ 1
bit_of-le true = omega arith
bit_of-le false = omega arith

-- and the test is whether that bit is 1
pub bit_of-one : (b : Bool) → (bit_of b == 1) ≡ b
bit_of-one true = refl
bit_of-one false = refl

-- where its source has its bit
abbrev pub holds : List ℕ → List ℕ → Term → Bool
holds x a t = is_true t (source_bit x a t.source)

-- what a gate says of its terms where their sources have their bits
abbrev pub truth : Gate → List ℕ → List ℕ → List Term → Bool
truth gate x a terms = joins gate terms (source_bits x a (map (λ (t : Term). t.source) terms))

-- how a gate joins two truths
abbrev both : Gate → Bool → Bool → Bool
both Conjunction p q = p && q
both Disjunction p q = p || q

-- in a conjunction of three it is the same which two are joined first
and_grouped : (p q r : Bool) → (p && (q && r)) ≡ ((p && q) && r)
and_grouped true q r = refl
and_grouped false q r = refl

-- and so it is in a disjunction
or_grouped : (p q r : Bool) → (p || (q || r)) ≡ ((p || q) || r)
or_grouped true q r = refl
or_grouped false q r = refl

-- what a gate says of two lists of terms together is what it says of each, joined
truth-append : (gate : Gate) (x a : List ℕ) (s t : List Term) → truth gate x a (s ++ t) ≡ both gate (truth gate x a s) (truth gate x a t)
truth-append Conjunction x a [] t = refl
truth-append Conjunction x a (u ∷ s) t =
    ap (λ b. holds x a u && b) (truth-append Conjunction x a s t)
    ∙ and_grouped (holds x a u) (truth Conjunction x a s) (truth Conjunction x a t)
truth-append Disjunction x a [] t = refl
truth-append Disjunction x a (u ∷ s) t =
    ap (λ b. holds x a u || b) (truth-append Disjunction x a s t)
    ∙ or_grouped (holds x a u) (truth Disjunction x a s) (truth Disjunction x a t)

-- a truth that is joined with a true one by `and` stays
and_true : (p : Bool) → (p && true) ≡ p
and_true true = refl
and_true false = refl

-- and with a false one by `or`
or_false : (p : Bool) → (p || false) ≡ p
or_false true = refl
or_false false = refl

-- a gate of one term
truth-one : (gate : Gate) (x a : List ℕ) (t : Term) → truth gate x a (t ∷ []) ≡ holds x a t
truth-one Conjunction x a t = and_true (holds x a t)
truth-one Disjunction x a t = or_false (holds x a t)

-- the bit of a gate's cell
pub gate_cell-bit : (gate : Gate) (negated : Bool) (x a : List ℕ) (terms : List Term) → HaveBits x a → length terms ≤ 6
    → chosen_bit x a (gate_cell gate negated terms)
    ≡ bit_of (if negated then not (truth gate x a terms) else truth gate x a terms)
gate_cell-bit gate negated x a terms small le =
    table_bit-table_of (λ bits. bit_of (if negated then not (joins gate terms bits) else joins gate terms bits)) (length terms)
    (source_bits x a (map (λ (t : Term). t.source) terms))
    (λ bits. bit_of-le (if negated then not (joins gate terms bits) else joins gate terms bits))
    (length-map (map (λ (t : Term). t.source) terms) (source_bit x a) ∙ length-map terms (λ (t : Term). t.source))
    le
    (AreBits-sources x a (map (λ (t : Term). t.source) terms) small)

-- a list of one element
single : (ts : List Term) → length ts ≡ 1 → get_or ts 0 no_term ∷ [] ≡ ts
single [] e = absurd (omega arith)
single (t ∷ []) e = refl
single (t ∷ u ∷ ts) e = absurd (omega arith)

-- a group's term says what the group does
group_term-truth : (gate : Gate) (x a : List ℕ) (number : ℕ) (ts : List Term) → HaveBits x a → length ts ≤ 6
    → Obey x a number (group_cells gate ts)
    → truth gate x a (group_term number ts ∷ []) ≡ truth gate x a ts
group_term-truth gate x a number ts small le h =
    let one : Term = get_or ts 0 no_term in
    let cell : Term = record { source = Cell number; positive = true } in
    ⊎_elim
    (λ e. ap (λ t. truth gate x a (t ∷ [])) (cond-true (length ts == 1) one cell e)
    ∙ ap (truth gate x a) (single ts (eqb-true (length ts) 1 e)))
    (λ e. let P : List CellValue → Type 0 = λ l. Obey x a number l in
    let obeys = subst P (cond-false (length ts == 1) [] (gate_cell gate false ts ∷ []) e) h in
    let zero_is : number + 0 ≡ number = omega arith in
    let bit : get_or a number 0 ≡ bit_of (truth gate x a ts) =
    ap (λ k. get_or a k 0) (sym zero_is) ∙ obeys 0 (omega arith) ∙ gate_cell-bit gate false x a ts small le in
    ap (λ t. truth gate x a (t ∷ [])) (cond-false (length ts == 1) one cell e)
    ∙ truth-one gate x a cell
    ∙ ap (λ n. n == 1) bit
    ∙ bit_of-one (truth gate x a ts))
    (cases_Bool (length ts == 1))

-- an empty list has no first elements
take-nil : {X : Type 0} (m : ℕ) → take {A = X} m [] ≡ []
take-nil zero = refl
take-nil (suc m) = refl

-- the first groups and one more
take_add : {X : Type 0} (n m : ℕ) (xs : List X) → take (n + m) xs ≡ take n xs ++ take m (drop n xs)
take_add zero m xs = ap (λ k. take k xs) (let e : zero + m ≡ m = omega arith in e)
take_add (suc n) m [] = ap (λ k. take k []) (let e : suc n + m ≡ suc (n + m) = omega arith in e) ∙ sym (take-nil m)
take_add (suc n) m (x ∷ xs) =
    ap (λ k. take k (x ∷ xs)) (let e : suc n + m ≡ suc (n + m) = omega arith in e)
    ∙ ap (λ l. x ∷ l) (take_add n m xs)

-- a group has no more terms than a group has
pub length-group : (ts : List Term) (i : ℕ) → length (group ts i) ≤ GROUP
length-group ts i = omega (arith, length-take GROUP (drop (GROUP * i) ts))

-- and all groups but the last have so many
length-group-full : (ts : List Term) (i : ℕ) → suc i < group_count ts → length (group ts i) ≡ GROUP
length-group-full ts i lt =
    length-take-le GROUP (drop (GROUP * i) ts) (omega (arith, length-drop (GROUP * i) ts))

-- a full group becomes one cell
length-group_cells : (gate : Gate) (ts : List Term) → length ts ≡ GROUP → length (group_cells gate ts) ≡ 1
length-group_cells gate ts e =
    ap length (cond-false (length ts == 1) [] (gate_cell gate false ts ∷ []) (ne_eqb (length ts) 1 (λ f. absurd (omega arith))))

-- the cells of the first groups, which aren't the last, are as many
pub length-first_cells : (gate : Gate) (ts : List Term) (m : ℕ) → m < group_count ts
    → length (joined m (λ i. group_cells gate (group ts i))) ≡ m
length-first_cells gate ts m lt =
    length-joined m 1 (λ i. group_cells gate (group ts i))
    (λ i below. length-group_cells gate (group ts i) (length-group-full ts i (omega arith)))
    ∙ omega arith

-- the terms of the first groups say what the groups do
first_terms-truth : (gate : Gate) (x a : List ℕ) (next : ℕ) (ts : List Term) (m : ℕ) → HaveBits x a → m ≤ group_count ts
    → Obey x a next (joined m (λ i. group_cells gate (group ts i)))
    → truth gate x a (list_of m (λ i. group_term (next + i) (group ts i))) ≡ truth gate x a (take (GROUP * m) ts)
first_terms-truth gate x a next ts zero small le h = refl
first_terms-truth gate x a next ts (suc m) small le h =
    let cells = λ (i : ℕ). group_cells gate (group ts i) in
    let terms = λ (i : ℕ). group_term (next + i) (group ts i) in
    let left = Obey-left x a next (joined m cells) (cells m) h in
    let right = Obey-right x a next (joined m cells) (cells m) h in
    let P : ℕ → Type 0 = λ k. Obey x a (next + k) (cells m) in
    let here = subst P (length-first_cells gate ts m (omega arith)) right in
    let small_group : length (group ts m) ≤ 6 = omega (arith, length-group ts m) in
    let e : GROUP * suc m ≡ GROUP * m + GROUP = omega arith in
    truth-append gate x a (list_of m terms) (terms m ∷ [])
    ∙ ap (λ b. both gate b (truth gate x a (terms m ∷ []))) (first_terms-truth gate x a next ts m small (omega arith) left)
    ∙ ap (both gate (truth gate x a (take (GROUP * m) ts))) (group_term-truth gate x a (next + m) (group ts m) small small_group here)
    ∙ sym (truth-append gate x a (take (GROUP * m) ts) (group ts m))
    ∙ ap (truth gate x a) (sym (take_add (GROUP * m) GROUP ts))
    ∙ ap (λ k. truth gate x a (take k ts)) (sym e)

-- a round leaves what the gate says
round-truth : (gate : Gate) (x a : List ℕ) (next : ℕ) (ts : List Term) → HaveBits x a → Obey x a next (round_cells gate ts)
    → truth gate x a (round_terms next ts) ≡ truth gate x a ts
round-truth gate x a next ts small h =
    first_terms-truth gate x a next ts (group_count ts) small (omega arith) h
    ∙ ap (truth gate x a) (take_all (GROUP * group_count ts) ts (omega arith))

-- a round leaves one term for each group
pub length-round_terms : (next : ℕ) (ts : List Term) → length (round_terms next ts) ≡ group_count ts
length-round_terms next ts = length-list_of (group_count ts) (λ i. group_term (next + i) (group ts i))

-- where there are few terms, a gate is one cell
pub gate_cells_in-few : (rounds : ℕ) (gate : Gate) (negated : Bool) (next : ℕ) (ts : List Term) → length ts ≤ GROUP
    → gate_cells_in rounds gate negated next ts ≡ gate_cell gate negated ts ∷ []
gate_cells_in-few zero gate negated next ts le = refl
gate_cells_in-few (suc rounds) gate negated next ts le = cond-true (leb (length ts) GROUP) _ _ (le-leb (length ts) GROUP le)

-- where there are many, a round and then a gate of what it leaves
pub gate_cells_in-many : (rounds : ℕ) (gate : Gate) (negated : Bool) (next : ℕ) (ts : List Term) → GROUP < length ts
    → gate_cells_in (suc rounds) gate negated next ts
    ≡ round_cells gate ts
    ++ gate_cells_in rounds gate negated (next + length (round_cells gate ts)) (round_terms next ts)
gate_cells_in-many rounds gate negated next ts lt =
    cond-false (leb (length ts) GROUP) _ _ (lt-leb (length ts) GROUP lt)

-- a gate has a cell
pub gate_cells_in-some : (rounds : ℕ) (gate : Gate) (negated : Bool) (next : ℕ) (ts : List Term)
    → 0 < length (gate_cells_in rounds gate negated next ts)
gate_cells_in-some zero gate negated next ts = omega arith
gate_cells_in-some (suc rounds) gate negated next ts =
    ⊎_elim
    (λ many. let rest = gate_cells_in rounds gate negated (next + length (round_cells gate ts)) (round_terms next ts) in
    let some : 0 < length rest = gate_cells_in-some rounds gate negated (next + length (round_cells gate ts)) (round_terms next ts) in
    let P : List CellValue → Type 0 = λ l. 0 < length l in
    subst P (sym (gate_cells_in-many rounds gate negated next ts many)) (omega (arith, length-append (round_cells gate ts) rest)))
    (λ few. let P : List CellValue → Type 0 = λ l. 0 < length l in
    subst P (sym (gate_cells_in-few (suc rounds) gate negated next ts few)) (omega arith))
    (cases_lt GROUP (length ts))

-- this is the bit of a gate: the last of its cells, the first of which has the number `next`
abbrev pub HasGateBit : Gate → Bool → List ℕ → List ℕ → ℕ → List Term → List CellValue → Type 0
HasGateBit gate negated x a next ts cells =
    get_or a (next + (length cells - 1)) 0
    ≡ bit_of (if negated then not (truth gate x a ts) else truth gate x a ts)

-- where the terms are few, the one cell of the gate has the gate's bit
gate_cell-last : (gate : Gate) (negated : Bool) (x a : List ℕ) (next : ℕ) (ts : List Term) → HaveBits x a → length ts ≤ GROUP
    → Obey x a next (gate_cell gate negated ts ∷ []) → HasGateBit gate negated x a next ts (gate_cell gate negated ts ∷ [])
gate_cell-last gate negated x a next ts small le h =
    h 0 (omega arith) ∙ gate_cell-bit gate negated x a ts small (omega arith)

-- the last cell of a gate has the bit that the gate gives its terms
pub gate_cells_in-last : (rounds : ℕ) (gate : Gate) (negated : Bool) (x a : List ℕ) (next : ℕ) (ts : List Term) → HaveBits x a
    → length ts ≤ rounds + GROUP → Obey x a next (gate_cells_in rounds gate negated next ts)
    → HasGateBit gate negated x a next ts (gate_cells_in rounds gate negated next ts)
gate_cells_in-last zero gate negated x a next ts small le h = gate_cell-last gate negated x a next ts small (omega arith) h
gate_cells_in-last (suc rounds) gate negated x a next ts small le h =
    ⊎_elim
    (λ many. let first = round_cells gate ts in
    let left = round_terms next ts in
    let rest = gate_cells_in rounds gate negated (next + length first) left in
    let P : List CellValue → Type 0 = λ l. Obey x a next l in
    let Q : List CellValue → Type 0 = λ l. HasGateBit gate negated x a next ts l in
    let obeys = subst P (gate_cells_in-many rounds gate negated next ts many) h in
    let some : 0 < length rest = gate_cells_in-some rounds gate negated (next + length first) left in
    let fewer : length left ≤ rounds + GROUP = omega (arith, length-round_terms next ts) in
    let found = gate_cells_in-last rounds gate negated x a (next + length first) left small fewer (Obey-right x a next first rest obeys) in
    let place : next + (length (first ++ rest) - 1) ≡ next + length first + (length rest - 1) = omega (arith, length-append first rest) in
    let same = round-truth gate x a next ts small (Obey-left x a next first rest obeys) in
    subst Q (sym (gate_cells_in-many rounds gate negated next ts many))
    (ap (λ k. get_or a k 0) place ∙ found ∙ ap (λ b. bit_of (if negated then not b else b)) same))
    (λ few. let P : List CellValue → Type 0 = λ l. Obey x a next l in
    let Q : List CellValue → Type 0 = λ l. HasGateBit gate negated x a next ts l in
    let e = gate_cells_in-few (suc rounds) gate negated next ts few in
    subst Q (sym e) (gate_cell-last gate negated x a next ts small few (subst P e h)))
    (cases_lt GROUP (length ts))
