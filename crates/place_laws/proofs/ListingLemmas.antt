-- The words of a configuration where they are listed part by part: what stands at the place of each word,
-- and that all are in their ranges where those of each part are.
use Rattle.std.proofs.Common.{◌≡◌, ℕ, zero, suc, ◌+◌, ◌*◌, ◌<◌, ◌≤◌, List, [], ◌∷◌, ◌++◌, length, get_or, ap, subst, sym, ◌∙◌, arith, length-append}
use Rattle.std.specs.List.{AllZip}
use Rattle.std.proofs.lemmas.List.{get_or_append_left, get_or-append-add}
use Rattle.std.proofs.lemmas.List.Elements.{AllZip-push}
use Rattle.std.proofs.lemmas.Nat.{mul-add-lt}
use Rattle.std.proofs.Math.Nat.{mul_comm}
use Rattle.fabric_defs.specs.Numbered.{list_of, joined}
use Rattle.fabric_defs.specs.Geometries.{GeometryValue}
use Rattle.fabric_defs.specs.Layout.{cell_words, column_words, word_count, column_place, cell_place, channel_place, output_place, cell_limits, column_limits, limits}
use Rattle.fabric_laws.proofs.NumberedLemmas.{length-joined, get_or-joined}

-- an element of the second of two lists
get_or-behind : (xs ys : List ℕ) (n i : ℕ) → length xs ≡ n → get_or (xs ++ ys) (n + i) 0 ≡ get_or ys i 0
get_or-behind xs ys n i e = ap (λ m. get_or (xs ++ ys) (m + i) 0) (sym e) ∙ get_or-append-add xs ys i 0

-- words that are listed: those of channel 0, of the cells of each column and of the channel after it, and of
-- the output pads
pub record AreListed (g : GeometryValue) (first : List ℕ) (cell : ℕ → ℕ → List ℕ) (track : ℕ → List ℕ) (outputs words : List ℕ) : Type 0 where
  pub first_count : length first ≡ g.tracks
  pub cell_count : (column row : ℕ) → column < g.columns → row < g.rows → length (cell column row) ≡ cell_words g
  pub track_count : (column : ℕ) → column < g.columns → length (track column) ≡ g.tracks
  pub output_count : length outputs ≡ g.output_pads
  pub words_are : words ≡ first ++ joined g.columns (λ column. joined g.rows (cell column) ++ track column) ++ outputs

-- the cells of a column have the words of one cell for each row
length-cells : (g : GeometryValue) (first outputs words : List ℕ) (cell : ℕ → ℕ → List ℕ) (track : ℕ → List ℕ) (column : ℕ)
    → AreListed g first cell track outputs words → column < g.columns → length (joined g.rows (cell column)) ≡ g.rows * cell_words g
length-cells g first outputs words cell track column h lt =
    length-joined g.rows (cell_words g) (cell column) (λ row inside. h.cell_count column row lt inside)

-- with those of the channel behind it they are as many as a column has
length-column : (g : GeometryValue) (first outputs words : List ℕ) (cell : ℕ → ℕ → List ℕ) (track : ℕ → List ℕ) (column : ℕ)
    → AreListed g first cell track outputs words → column < g.columns → length (joined g.rows (cell column) ++ track column) ≡ column_words g
length-column g first outputs words cell track column h lt =
    length-append (joined g.rows (cell column)) (track column)
    ∙ omega (arith, length-cells g first outputs words cell track column h lt, h.track_count column lt)

-- so many words stand before those of the output pads
length-before : (g : GeometryValue) (first outputs words : List ℕ) (cell : ℕ → ℕ → List ℕ) (track : ℕ → List ℕ)
    → AreListed g first cell track outputs words
    → length (first ++ joined g.columns (λ column. joined g.rows (cell column) ++ track column)) ≡ output_place g
length-before g first outputs words cell track h =
    let column : ℕ → List ℕ = λ c. joined g.rows (cell c) ++ track c in
    length-append first (joined g.columns column)
    ∙ omega (arith, h.first_count, length-joined g.columns (column_words g) column (λ c lt. length-column g first outputs words cell track c h lt))

-- so many words there are
pub listed-count : (g : GeometryValue) (first outputs words : List ℕ) (cell : ℕ → ℕ → List ℕ) (track : ℕ → List ℕ)
    → AreListed g first cell track outputs words → length words ≡ word_count g
listed-count g first outputs words cell track h =
    ap length h.words_are
    ∙ length-append (first ++ joined g.columns (λ column. joined g.rows (cell column) ++ track column)) outputs
    ∙ omega (arith, length-before g first outputs words cell track h, h.output_count)

-- a word of channel 0
pub listed-first : (g : GeometryValue) (first outputs words : List ℕ) (cell : ℕ → ℕ → List ℕ) (track : ℕ → List ℕ) (t : ℕ)
    → AreListed g first cell track outputs words → t < g.tracks → get_or words t 0 ≡ get_or first t 0
listed-first g first outputs words cell track t h lt =
    let columns : List ℕ = joined g.columns (λ column. joined g.rows (cell column) ++ track column) in
    ap (λ ws. get_or ws t 0) h.words_are
    ∙ get_or_append_left (first ++ columns) outputs 0 t (omega (arith, length-append first columns, h.first_count))
    ∙ get_or_append_left first columns 0 t (omega (arith, h.first_count))

-- a word of a column
listed-column : (g : GeometryValue) (first outputs words : List ℕ) (cell : ℕ → ℕ → List ℕ) (track : ℕ → List ℕ) (column i : ℕ)
    → AreListed g first cell track outputs words → column < g.columns → i < column_words g
    → get_or words (column_place g column + i) 0 ≡ get_or (joined g.rows (cell column) ++ track column) i 0
listed-column g first outputs words cell track column i h lt within =
    let part : ℕ → List ℕ = λ c. joined g.rows (cell c) ++ track c in
    let below : column * column_words g + i < column_words g * g.columns = mul-add-lt column (column_words g) i g.columns lt within in
    let turned : column_words g * g.columns ≡ g.columns * column_words g = mul_comm (column_words g) g.columns in
    let place : column_place g column + i ≡ g.tracks + (column * column_words g + i) = omega arith in
    ap (λ ws. get_or ws (column_place g column + i) 0) h.words_are
    ∙ get_or_append_left (first ++ joined g.columns part) outputs 0 (column_place g column + i)
    (omega (arith, length-before g first outputs words cell track h))
    ∙ ap (λ m. get_or (first ++ joined g.columns part) m 0) place
    ∙ get_or-behind first (joined g.columns part) g.tracks (column * column_words g + i) h.first_count
    ∙ get_or-joined g.columns (column_words g) part column i 0
    (λ c less. length-column g first outputs words cell track c h less) lt within

-- a word of a cell
pub listed-cell : (g : GeometryValue) (first outputs words : List ℕ) (cell : ℕ → ℕ → List ℕ) (track : ℕ → List ℕ) (column row i : ℕ)
    → AreListed g first cell track outputs words → column < g.columns → row < g.rows → i < cell_words g
    → get_or words (cell_place g column row + i) 0 ≡ get_or (cell column row) i 0
listed-cell g first outputs words cell track column row i h lt inside within =
    let below : row * cell_words g + i < cell_words g * g.rows = mul-add-lt row (cell_words g) i g.rows inside within in
    let turned : cell_words g * g.rows ≡ g.rows * cell_words g = mul_comm (cell_words g) g.rows in
    let place : cell_place g column row + i ≡ column_place g column + (row * cell_words g + i) = omega arith in
    ap (λ m. get_or words m 0) place
    ∙ listed-column g first outputs words cell track column (row * cell_words g + i) h lt (omega arith)
    ∙ get_or_append_left (joined g.rows (cell column)) (track column) 0 (row * cell_words g + i)
    (omega (arith, length-cells g first outputs words cell track column h lt))
    ∙ get_or-joined g.rows (cell_words g) (cell column) row i 0 (λ r less. h.cell_count column r lt less) inside within

-- a word of the channel after a column
pub listed-track : (g : GeometryValue) (first outputs words : List ℕ) (cell : ℕ → ℕ → List ℕ) (track : ℕ → List ℕ) (column t : ℕ)
    → AreListed g first cell track outputs words → column < g.columns → t < g.tracks
    → get_or words (channel_place g column + t) 0 ≡ get_or (track column) t 0
listed-track g first outputs words cell track column t h lt inside =
    let place : channel_place g column + t ≡ column_place g column + (g.rows * cell_words g + t) = omega arith in
    ap (λ m. get_or words m 0) place
    ∙ listed-column g first outputs words cell track column (g.rows * cell_words g + t) h lt (omega arith)
    ∙ get_or-behind (joined g.rows (cell column)) (track column) (g.rows * cell_words g) t
    (length-cells g first outputs words cell track column h lt)

-- the word of an output pad
pub listed-output : (g : GeometryValue) (first outputs words : List ℕ) (cell : ℕ → ℕ → List ℕ) (track : ℕ → List ℕ) (o : ℕ)
    → AreListed g first cell track outputs words → get_or words (output_place g + o) 0 ≡ get_or outputs o 0
listed-output g first outputs words cell track o h =
    ap (λ ws. get_or ws (output_place g + o) 0) h.words_are
    ∙ get_or-behind (first ++ joined g.columns (λ column. joined g.rows (cell column) ++ track column)) outputs (output_place g) o
    (length-before g first outputs words cell track h)

-- a word is at most its limit
abbrev pub Within : ℕ → ℕ → Type 0
Within limit word = word ≤ limit

-- parts in their ranges, one after another
pub within-append : (ls bs xs ys : List ℕ) → AllZip Within ls xs → AllZip Within bs ys → AllZip Within (ls ++ bs) (xs ++ ys)
within-append [] bs [] ys h k = k
within-append [] bs (x ∷ xs) ys h k = absurd h
within-append (a ∷ ls) bs [] ys h k = absurd h
within-append (a ∷ ls) bs (x ∷ xs) ys h k = (h.0, within-append ls bs xs ys h.1 k)

-- many parts in their ranges
within-joined : (n : ℕ) (f g : ℕ → List ℕ) → ((i : ℕ) → i < n → AllZip Within (f i) (g i)) → AllZip Within (joined n f) (joined n g)
within-joined zero f g h = tt
within-joined (suc n) f g h =
    within-append (joined n f) (f n) (joined n g) (g n) (within-joined n f g (λ i lt. h i (omega arith))) (h n (omega arith))

-- words that a function gives, in their ranges
pub within-list_of : (n : ℕ) (f g : ℕ → ℕ) → ((i : ℕ) → i < n → g i ≤ f i) → AllZip Within (list_of n f) (list_of n g)
within-list_of zero f g h = tt
within-list_of (suc n) f g h =
    AllZip-push Within (list_of n f) (list_of n g) (f n) (g n) (within-list_of n f g (λ i lt. h i (omega arith))) (h n (omega arith))

-- all words are in their ranges where those of each part are
pub listed-within : (g : GeometryValue) (first outputs words : List ℕ) (cell : ℕ → ℕ → List ℕ) (track : ℕ → List ℕ)
    → words ≡ first ++ joined g.columns (λ column. joined g.rows (cell column) ++ track column) ++ outputs
    → AllZip Within (list_of g.tracks (λ t. g.input_pads)) first
    → ((column row : ℕ) → column < g.columns → row < g.rows → AllZip Within (cell_limits g) (cell column row))
    → ((column : ℕ) → column < g.columns → AllZip Within (list_of g.tracks (λ t. g.rows + 1)) (track column))
    → AllZip Within (list_of g.output_pads (λ pad. g.tracks)) outputs
    → AllZip Within (limits g) words
listed-within g first outputs words cell track e p q r s =
    let part : ℕ → List ℕ = λ c. joined g.rows (cell c) ++ track c in
    let P : List ℕ → Type 0 = λ ws. AllZip Within (limits g) ws in
    subst P (sym e)
    (within-append (list_of g.tracks (λ t. g.input_pads) ++ joined g.columns (λ column. column_limits g)) (list_of g.output_pads (λ pad. g.tracks))
    (first ++ joined g.columns part) outputs
    (within-append (list_of g.tracks (λ t. g.input_pads)) (joined g.columns (λ column. column_limits g)) first (joined g.columns part) p
    (within-joined g.columns (λ column. column_limits g) part
    (λ column lt. within-append (joined g.rows (λ row. cell_limits g)) (list_of g.tracks (λ t. g.rows + 1)) (joined g.rows (cell column)) (track column)
    (within-joined g.rows (λ row. cell_limits g) (cell column) (λ row inside. q column row lt inside))
    (r column lt))))
    s)
