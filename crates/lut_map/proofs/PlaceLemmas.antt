-- The cells of nodes, put among those of all nodes.
use Rattle.std.proofs.Common.{◌≡◌, ℕ, zero, suc, ◌+◌, ◌-◌, ◌<◌, ◌≤◌, ⊎_elim, Bool, true, ltb, List, [], ◌∷◌, ◌++◌, length, map, take, drop, get_or, All, refl, ap, sym, subst, ◌∙◌, arith, length-append}
use Rattle.std.proofs.lemmas.List.{map_more, append_assoc, get_or-drop, get_or_append_left, get_or-append-add, take_all, drop_at, drop-append-le, take-append-le, length-drop, length-map}
use Rattle.std.proofs.lemmas.Bool.{cases_lt, cases_Bool, lt-ltb, le-ltb, cond-true, cond-false}
use Rattle.fabric_defs.specs.Numbered.{joined}
use Rattle.fabric_laws.proofs.NumberedLemmas.{length-list_of, get_or-list_of}
use Rattle.net_defs.specs.Networks.{Output, Network, no_node, node_at, signals}
use Rattle.net_defs.specs.Evaluation.{output_signals}
use Rattle.map_defs.specs.Mapped.{MappedValue, AreMapped}
use Rattle.map_defs.specs.Needed.{IsNeeded}
use Rattle.map_laws.proofs.SettledLemmas.{mapping-mapped}
use Rattle.lut_map.specs.Kept.{luts_of, AreLuts}
use Rattle.net_defs.specs.Nets.{IsNet}
use Rattle.cell_defs.specs.declared.source.Source.{Source}
use Rattle.cell_defs.specs.declared.source.Source.TheVariants.{Pad, Cell}
use Rattle.cell_defs.specs.Cells.{CellValue, no_cell}
use Rattle.extract.specs.CellLists.{listed_cell}
use Rattle.map_defs.specs.NodeCells.{node_cells}
use Rattle.map_defs.specs.Reference.{own_cells, first_cell, signal_source, cell_in, placed_cells, cells_before, mapping}
use Rattle.map_laws.proofs.LocalLemmas.{IsSourceBelow-more}
use Rattle.map_laws.proofs.MappingLemmas.{outputs-within, own_cells-local, first_cell-le, signal_source-input, signal_source-node}
use Rattle.map_laws.proofs.UniqueLemmas.{cells-agree, fan_in-within}
use Rattle.lut_map.specs.declared.made.TheConstants.{MAX_CELLS}
use Rattle.lut_map.specs.Parts.{AreParts, source_by, IsPlaceable}
use Rattle.lut_map.proofs.PartLemmas.{length-own_before}

-- where a node ends
pub end_read : (net : Network) (needed : ℕ → Bool) (n v e : ℕ) (cells : List CellValue) (ends : List ℕ) → AreParts net needed n cells ends → v < n
    → e ≡ get_or ends v e → e ≡ first_cell net needed (suc v)
end_read net needed n v e cells ends h lt read =
    read ∙ ap (λ l. get_or l v e) h.counted ∙ get_or-list_of n (λ u. first_cell net needed (suc u)) v e lt

-- each node has an end
pub length-ends : (net : Network) (needed : ℕ → Bool) (n : ℕ) (cells : List CellValue) (ends : List ℕ) → AreParts net needed n cells ends → length ends ≡ n
length-ends net needed n cells ends h = ap length h.counted ∙ length-list_of n (λ u. first_cell net needed (suc u))

-- a node's cells are within all
pub length-made : (net : Network) (needed : ℕ → Bool) (n : ℕ) (cells : List CellValue) (ends : List ℕ) → AreParts net needed n cells ends
    → length cells ≡ first_cell net needed n
length-made net needed n cells ends h = ap length h.made ∙ length-own_before net needed n

-- the source of a signal is as the ends of the nodes say
pub source_by-signal : (net : Network) (needed : ℕ → Bool) (cells : List CellValue) (ends : List ℕ) (s : ℕ)
    → AreParts net needed (length net.nodes) cells ends → s < signals net
    → source_by (length net.inputs) ends s ≡ signal_source net needed s
source_by-signal net needed cells ends s h lt =
    let inputs = length net.inputs in
    ⊎_elim
    (λ here. cond-true (ltb s inputs) (Pad s) (Cell (get_or ends (s - inputs) 0 - 1)) (lt-ltb s inputs here) ∙ sym (signal_source-input net needed s here))
    (λ past. cond-false (ltb s inputs) (Pad s) (Cell (get_or ends (s - inputs) 0 - 1)) (le-ltb s inputs past)
    ∙ ap (λ l. Cell (get_or l (s - inputs) 0 - 1)) h.counted
    ∙ ap (λ n. Cell (n - 1)) (get_or-list_of (length net.nodes) (λ u. first_cell net needed (suc u)) (s - inputs) 0 (omega arith))
    ∙ sym (signal_source-node net needed s past))
    (cases_lt s inputs)

-- all fan-ins are signals
pub fan_ins-within : (net : Network) (v : ℕ) (fan_ins ends : List ℕ) (inputs : ℕ) → IsNet net → v < length net.nodes → fan_ins ≡ (node_at net v).fan_ins
    → inputs ≡ length net.inputs → length ends ≡ length net.nodes → All (λ s. s < inputs + length ends) fan_ins
fan_ins-within net v fan_ins ends inputs h lt e i n =
    let P : List ℕ → Type 0 = λ l. All (λ s. s < inputs + length ends) l in
    let Q : ℕ → Type 0 = λ m. All (λ s. s < m) (node_at net v).fan_ins in
    subst P (sym e) (subst Q (let same : signals net ≡ inputs + length ends = omega arith in same) (h.nodes v no_node lt).fan_ins)

-- a part is within all parts
joined-within : (f : ℕ → List CellValue) (n v : ℕ) → v < n → length (joined v f) + length (f v) ≤ length (joined n f)
joined-within f zero v lt = absurd (omega arith)
joined-within f (suc n) v lt =
    ⊎_elim
    (λ here. let rec : length (joined v f) + length (f v) ≤ length (joined n f) = joined-within f n v here in
    omega (arith, length-append (joined n f) (f n)))
    (λ past. let e : n ≡ v = omega arith in
    let P : ℕ → Type 0 = λ m. length (joined m f) + length (f m) ≤ length (joined n f ++ f n) in
    subst P e (omega (arith, length-append (joined n f) (f n))))
    (cases_lt v n)

-- cell i of a part
get_or-part : (f : ℕ → List CellValue) (n v i : ℕ) → v < n → i < length (f v)
    → get_or (joined n f) (length (joined v f) + i) no_cell ≡ get_or (f v) i no_cell
get_or-part f zero v i lt within = absurd (omega arith)
get_or-part f (suc n) v i lt within =
    ⊎_elim
    (λ here. let longer : length (joined v f) + length (f v) ≤ length (joined n f) = joined-within f n v here in
    get_or_append_left (joined n f) (f n) no_cell (length (joined v f) + i) (omega arith) ∙ get_or-part f n v i here within)
    (λ past. let e : n ≡ v = omega arith in
    let P : ℕ → Type 0 = λ m. get_or (joined n f ++ f n) (length (joined m f) + i) no_cell ≡ get_or (f m) i no_cell in
    subst P e (get_or-append-add (joined n f) (f n) i no_cell))
    (cases_lt v n)

-- so cell i of a node stands i places behind the node's first cell
get_or-own : (net : Network) (needed : ℕ → Bool) (n v i : ℕ) → v < n → i < length (own_cells net needed v)
    → get_or (joined n (own_cells net needed)) (first_cell net needed v + i) no_cell ≡ get_or (own_cells net needed v) i no_cell
get_or-own net needed n v i lt within =
    ap (λ m. get_or (joined n (own_cells net needed)) (m + i) no_cell) (sym (length-own_before net needed v))
    ∙ get_or-part (own_cells net needed) n v i lt within

-- what stands from the first cell of a part on
drop-joined : (f : ℕ → List CellValue) (n v : ℕ) → v < n → take (length (f v)) (drop (length (joined v f)) (joined n f)) ≡ f v
drop-joined f zero v lt = absurd (omega arith)
drop-joined f (suc n) v lt =
    ⊎_elim
    (λ here. let longer : length (joined v f) + length (f v) ≤ length (joined n f) = joined-within f n v here in
    ap (take (length (f v))) (drop-append-le (length (joined v f)) (joined n f) (f n) (omega arith))
    ∙ take-append-le (length (f v)) (drop (length (joined v f)) (joined n f)) (f n) (omega (arith, length-drop (length (joined v f)) (joined n f)))
    ∙ drop-joined f n v here)
    (λ past. let e : n ≡ v = omega arith in
    let P : ℕ → Type 0 = λ m. take (length (f m)) (drop (length (joined m f)) (joined n f ++ f n)) ≡ f m in
    subst P e (ap (take (length (f n))) (drop_at (joined n f) (f n) (length (joined n f)) refl) ∙ take_all (length (f n)) (f n) (omega arith)))
    (cases_lt v n)

-- the cells of a node by itself
pub own_read : (net : Network) (needed : ℕ → Bool) (n v first e : ℕ) (cells : List CellValue) (ends : List ℕ) → AreParts net needed n cells ends → v < n
    → first ≡ first_cell net needed v → e ≡ first_cell net needed (suc v) → take (e - first) (drop first cells) ≡ own_cells net needed v
own_read net needed n v first e cells ends h lt at end =
    let own = own_cells net needed in
    let size : e - first ≡ length (own v) = omega arith in
    ap (λ m. take m (drop first cells)) size
    ∙ ap (λ m. take (length (own v)) (drop m cells)) (at ∙ sym (length-own_before net needed v))
    ∙ ap (λ l. take (length (own v)) (drop (length (joined v own)) l)) h.made
    ∙ drop-joined own n v lt

-- each of them can be put among all
pub own_placeable : (net : Network) (needed : ℕ → Bool) (v first e k : ℕ) (cells : List CellValue) (ends : List ℕ) → IsNet net
    → AreParts net needed (length net.nodes) cells ends → v < length net.nodes
    → first ≡ first_cell net needed v → e ≡ first_cell net needed (suc v) → length cells ≤ MAX_CELLS → first ≤ k → k < e
    → IsPlaceable (length (node_at net v).fan_ins) (listed_cell cells k)
own_placeable net needed v first e k cells ends is_net h lt at end few le below =
    let own = own_cells net needed in
    let i : ℕ = k - first in
    let within : i < length (own v) = omega arith in
    let member : needed v ≡ true = ⊎_elim (λ yes2. yes2)
    (λ no2. let P : List CellValue → Type 0 = λ l. i < length l in
    absurd (let none : i < 0 = subst P (cond-false (needed v) (node_cells (node_at net v)) [] no2) within in omega arith))
    (cases_Bool (needed v)) in
    let local = own_cells-local net needed v is_net lt member i within in
    let read : get_or cells k no_cell ≡ get_or (own v) i no_cell =
    ap (λ l. get_or l k no_cell) h.made
    ∙ ap (λ m. get_or (joined (length net.nodes) own) m no_cell) (let e2 : k ≡ first_cell net needed v + i = omega arith in e2)
    ∙ get_or-own net needed (length net.nodes) v i lt within in
    let later : first_cell net needed (suc v) ≤ first_cell net needed (length net.nodes) = first_cell-le net needed (suc v) (length net.nodes) (omega arith) in
    let small : 0 + i ≤ MAX_CELLS = omega (arith, length-made net needed (length net.nodes) cells ends h) in
    let cell = get_or (own v) i no_cell in
    let pads = length (node_at net v).fan_ins in
    subst (IsPlaceable pads) (sym read) (record {
      few = local.mapped.few_pins;
      below = λ n d inside. IsSourceBelow-more pads (0 + i) MAX_CELLS (get_or cell.pins n d) small (local.pins n d inside);
    })

-- one more node among all cells
pub placed_more : (net : Network) (needed : ℕ → Bool) (v first e inputs : ℕ) (own : List CellValue) (ends fan_ins : List ℕ) (cells new : List CellValue) → IsNet net
    → AreParts net needed (length net.nodes) own ends → v < length net.nodes
    → first ≡ first_cell net needed v → e ≡ first_cell net needed (suc v) → inputs ≡ length net.inputs → fan_ins ≡ (node_at net v).fan_ins
    → cells ≡ cells_before net needed v
    → new ≡ cells ++ map (cell_in (source_by inputs ends) fan_ins first) (take (e - first) (drop first own))
    → new ≡ cells_before net needed (v + 1)
placed_more net needed v first e inputs own ends fan_ins cells new is_net h lt at end i f before written =
    let fans = (node_at net v).fan_ins in
    written
    ∙ ap (λ l. cells ++ map (cell_in (source_by inputs ends) fan_ins first) l) (own_read net needed (length net.nodes) v first e own ends h lt at end)
    ∙ ap (λ m. cells ++ map (cell_in (source_by m ends) fan_ins first) (own_cells net needed v)) i
    ∙ ap (λ l. cells ++ map (cell_in (source_by (length net.inputs) ends) l first) (own_cells net needed v)) f
    ∙ ap (λ m. cells ++ map (cell_in (source_by (length net.inputs) ends) fans m) (own_cells net needed v)) at
    ∙ ap (λ l. cells ++ l)
    (cells-agree (source_by (length net.inputs) ends) (signal_source net needed) fans (first_cell net needed v) (own_cells net needed v)
    (λ j. source_by-signal net needed own ends (get_or fans j 0) h (fan_in-within net v j is_net lt)))
    ∙ ap (λ l. l ++ placed_cells net needed v) before
    ∙ ap (cells_before net needed) (let e2 : suc v ≡ v + 1 = omega arith in e2)

-- the sources of signals, one by one
sources-same : (f g : ℕ → Source) (ts : List ℕ) → ((k : ℕ) → k < length ts → f (get_or ts k 0) ≡ g (get_or ts k 0)) → map f ts ≡ map g ts
sources-same f g [] h = refl
sources-same f g (t ∷ ts) h =
    ap (λ s. s ∷ map f ts) (h 0 (omega arith)) ∙ ap (λ l. g t ∷ l) (sources-same f g ts (λ k lt. h (suc k) (omega arith)))

-- what is made is the mapping of the net
pub mapping_made : (net : Network) (needed : ℕ → Bool) (inputs : ℕ) (own cells : List CellValue) (ends : List ℕ) (outputs : List Source) → IsNet net
    → AreParts net needed (length net.nodes) own ends → inputs ≡ length net.inputs
    → cells ≡ cells_before net needed (length net.nodes) → outputs ≡ map (source_by (length net.inputs) ends) (output_signals net)
    → luts_of inputs cells outputs ≡ mapping net needed
mapping_made net needed inputs own cells ends outputs is_net h i made listed =
    let listed2 : outputs ≡ map (signal_source net needed) (output_signals net) =
    listed ∙ sources-same (source_by (length net.inputs) ends) (signal_source net needed) (output_signals net)
    (λ k lt. source_by-signal net needed own ends (get_or (output_signals net) k 0) h (outputs-within net is_net k 0 lt)) in
    ap (λ n. luts_of n cells outputs) i
    ∙ ap (λ l. luts_of (length net.inputs) l outputs) made
    ∙ ap (λ l. luts_of (length net.inputs) (cells_before net needed (length net.nodes)) l) listed2

-- and keeps what mapped cells keep
pub luts_made : (net : Network) (needed : ℕ → Bool) (l : MappedValue) → IsNet net → IsNeeded net needed → l ≡ mapping net needed
    → length l.cells ≤ MAX_CELLS → AreLuts l
luts_made net needed l is_net h e few =
    let same : l.inputs ≡ length net.inputs = ap (λ (m : MappedValue). m.inputs) e in
    let outs : length l.outputs ≡ length net.outputs =
    ap (λ (m : MappedValue). length m.outputs) e
    ∙ length-map (output_signals net) (signal_source net needed) ∙ length-map net.outputs (λ (o : Output). o.signal) in
    record {
      mapped = subst AreMapped (sym e) (mapping-mapped net needed is_net h.closed);
      few = record {
        inputs = omega (arith, is_net.inputs_within);
        cells = omega arith;
        outputs = omega (arith, is_net.outputs_within);
      };
    }

-- one more source
pub mapped_more : (f : ℕ → Source) (ts : List ℕ) (o s : ℕ) (before after : List Source) (t : Source) → o < length ts → get_or ts o s ≡ s
    → before ≡ map f (take o ts) → t ≡ f s → after ≡ before ++ t ∷ [] → after ≡ map f (take (o + 1) ts)
mapped_more f ts o s before after t lt read h is pushed =
    pushed
    ∙ ap (λ l. l ++ t ∷ []) h
    ∙ ap (λ u. map f (take o ts) ++ u ∷ []) (is ∙ ap f (sym read))
    ∙ sym (map_more f ts o s lt)

-- one more cell of a node among all cells
pub placed_step : (f : CellValue → CellValue) (own start cells new : List CellValue) (first k : ℕ) (pins : List Source) (table : ℕ) → first ≤ k → k < length own
    → pins ≡ (listed_cell own k).pins → table ≡ (listed_cell own k).table
    → cells ≡ start ++ map f (take (k - first) (drop first own))
    → new ≡ cells ++ f (record { pins = pins; table = table }) ∷ []
    → new ≡ start ++ map f (take (k + 1 - first) (drop first own))
placed_step f own start cells new first k pins table le lt p t h written =
    let rest = drop first own in
    let i : ℕ = k - first in
    let within : i < length rest = omega (arith, length-drop first own) in
    let next : k + 1 - first ≡ i + 1 = omega arith in
    let place : first + i ≡ k = omega arith in
    let read : get_or rest i no_cell ≡ listed_cell own k = get_or-drop first own i no_cell ∙ ap (λ m. get_or own m no_cell) place in
    let front = map f (take i rest) in
    written
    ∙ ap (λ l. l ++ f (record { pins = pins; table = table }) ∷ []) h
    ∙ ap (λ l. let c : CellValue = record { pins = l; table = table } in start ++ front ++ f c ∷ []) p
    ∙ ap (λ m. let c : CellValue = record { pins = (listed_cell own k).pins; table = m } in start ++ front ++ f c ∷ []) t
    ∙ append_assoc start front (f (listed_cell own k) ∷ [])
    ∙ ap (λ c. start ++ (front ++ f c ∷ [])) (sym read)
    ∙ ap (λ l. start ++ l) (sym (map_more f rest i no_cell within))
    ∙ ap (λ m. start ++ map f (take m rest)) (sym next)
