-- The listed words place the mapped cells.
use Rattle.std.proofs.Common.{◌≡◌, ℕ, zero, suc, ◌+◌, ◌-◌, ◌/◌, ◌%◌, ◌^◌, ◌<◌, ◌≤◌, ⊎_elim, List, [], ◌∷◌, ◌++◌, length, get_or, All, Option, Some, None, refl, ap, subst, sym, ◌∙◌, arith, length-append}
use Rattle.std.specs.List.{AllZip}
use Rattle.std.proofs.lemmas.Bool.{cases_lt, cases_eq}
use Rattle.std.proofs.lemmas.List.{get_or_append_left, get_or-append-add, get_or_past, get_or_push, length_push}
use Rattle.std.proofs.lemmas.List.Elements.{AllZip-push}
use Rattle.std.proofs.Math.Nat.{mod-lt, zero-mod}
use Rattle.std.proofs.lemmas.Nat.{pow_pos}
use Rattle.fabric_defs.specs.Numbered.{list_of}
use Rattle.fabric_defs.specs.declared.limits.TheConstants.{MAX_WORD, WORD_BITS}
use Rattle.fabric_defs.specs.Geometries.{GeometryValue, pin_count, table_bits, cell_number}
use Rattle.fabric_defs.specs.Layout.{table_words, cell_words, cell_place, table_place, cell_limits, limits}
use Rattle.fabric_defs.specs.Configurations.{ConfigValue, IsConfig, table_word, table, number_behind, output_word}
use Rattle.fabric_laws.specs.TableWords.{words_of}
use Rattle.fabric_laws.proofs.LayoutLemmas.{table_words-bits}
use Rattle.fabric_laws.proofs.NumberedLemmas.{length-list_of, get_or-list_of, list_of_elements, list_of-get_or}
use Rattle.fabric_laws.proofs.TableLemmas.{length-words_of, number_behind-words_of}
use Rattle.clause_defs.specs.Clauses.{Has}
use Rattle.cell_defs.specs.declared.source.Source.{Source}
use Rattle.cell_defs.specs.declared.source.Source.TheVariants.{Zero, Pad, Cell}
use Rattle.cell_defs.specs.Cells.{CellValue, no_cell, IsSourceBelow}
use Rattle.map_defs.specs.Mapped.{MappedValue, mapped_cell, AreMapped}
use Rattle.map_defs.specs.Columns.{AreColumns}
use Rattle.map_laws.proofs.MappingLemmas.{Has-get_or}
use Rattle.route_defs.specs.declared.span.Span.{Span}
use Rattle.route_defs.specs.Signals.{signal_number}
use Rattle.route_defs.specs.Demands.{cells_in}
use Rattle.route_defs.specs.Placed.{IsPlaced, row_of, pin_of, output_of, channel_word, track_of}
use Rattle.route_laws.specs.Words.{tap_word, HasPlacingWords}
use Rattle.route_laws.specs.Seats.{seat_of}
use Rattle.route_laws.specs.Listing.{listed_track, listed_channel, tapped_word, IsTapped, listed_cell, listed_seat, listed_row, listed_words}
use Rattle.route_laws.proofs.SourceLemmas.{pins_below, All-place}
use Rattle.route_laws.proofs.SignalLemmas.{signal_number-lt}
use Rattle.route_laws.proofs.PassingLemmas.{IsReadable, pin_readable, output_readable, All-member, words_place}
use Rattle.place_laws.specs.Routings.{HaveTracks, listed_config}
use Rattle.place_laws.proofs.RoomLemmas.{row_of-lt}
use Rattle.place_laws.proofs.SeatingLemmas.{seat-number, seat_of-input, seat_of-cell, row_is, row-lt, cell_number-apart}
use Rattle.place_laws.proofs.ListingLemmas.{AreListed, Within, within-append, within-list_of, listed-first, listed-cell, listed-track, listed-output, listed-within}
use Rattle.place_laws.proofs.TrackLemmas.{track_carries, track-off, first-le, later-le, tracks_chosen}

-- there are as many words of a cell as its kind has
length-listed_cell : (inputs : ℕ) (g : GeometryValue) (tracks : List ℕ) (cell : CellValue) → length (listed_cell inputs g tracks cell) ≡ cell_words g
length-listed_cell inputs g tracks cell =
    let pin : ℕ → ℕ = λ j. tapped_word inputs tracks (pin_of cell j) in
    length-append (list_of (pin_count g) pin) (words_of (table_words g) cell.table)
    ∙ omega (arith, length-list_of (pin_count g) pin, length-words_of (table_words g) cell.table)

-- and so there are of each seat, whether a cell has it or none
length-listed_seat : (l : MappedValue) (g : GeometryValue) (tracks : List ℕ) (o : Option ℕ) → length (listed_seat l g tracks o) ≡ cell_words g
length-listed_seat l g tracks None = length-list_of (cell_words g) (λ i. 0)
length-listed_seat l g tracks (Some n) = length-listed_cell l.inputs g tracks (mapped_cell l (n - l.inputs))

-- the listing, part by part
are_listed : (l : MappedValue) (g : GeometryValue) (seated : List Span) (chosen tracks : List ℕ) (signals : List (Option ℕ))
    → AreListed g (listed_channel l.inputs g seated chosen 0) (listed_row l g tracks signals)
    (λ column. listed_channel l.inputs g seated chosen (column + 1))
    (list_of g.output_pads (λ o. tapped_word l.inputs tracks (output_of l o)))
    (listed_words l g seated chosen tracks signals)
are_listed l g seated chosen tracks signals = record {
  first_count = length-list_of g.tracks (listed_track l.inputs g seated chosen 0);
  cell_count = λ column row lt inside. length-listed_seat l g tracks (get_or signals (l.inputs + cell_number g column row) None);
  track_count = λ column lt. length-list_of g.tracks (listed_track l.inputs g seated chosen (column + 1));
  output_count = length-list_of g.output_pads (λ o. tapped_word l.inputs tracks (output_of l o));
  words_are = refl;
}

-- the word of a track of any channel
channel-listed : (l : MappedValue) (g : GeometryValue) (seated : List Span) (chosen tracks : List ℕ) (signals : List (Option ℕ)) (c t : ℕ)
    → c ≤ g.columns → t < g.tracks
    → channel_word (listed_config l g seated chosen tracks signals) c t ≡ listed_track l.inputs g seated chosen c t
channel-listed l g seated chosen tracks signals zero t le lt =
    listed-first g (listed_channel l.inputs g seated chosen 0) (list_of g.output_pads (λ o. tapped_word l.inputs tracks (output_of l o)))
    (listed_words l g seated chosen tracks signals) (listed_row l g tracks signals)
    (λ column. listed_channel l.inputs g seated chosen (column + 1)) t (are_listed l g seated chosen tracks signals) lt
    ∙ get_or-list_of g.tracks (listed_track l.inputs g seated chosen 0) t 0 lt
channel-listed l g seated chosen tracks signals (suc c) t le lt =
    listed-track g (listed_channel l.inputs g seated chosen 0) (list_of g.output_pads (λ o. tapped_word l.inputs tracks (output_of l o)))
    (listed_words l g seated chosen tracks signals) (listed_row l g tracks signals)
    (λ column. listed_channel l.inputs g seated chosen (column + 1)) c t (are_listed l g seated chosen tracks signals) (omega arith) lt
    ∙ get_or-list_of g.tracks (listed_track l.inputs g seated chosen (c + 1)) t 0 lt
    ∙ ap (λ n. listed_track l.inputs g seated chosen n t) (let e : c + 1 ≡ suc c = omega arith in e)

-- a word of the cell at a column and a row
cell-listed : (l : MappedValue) (g : GeometryValue) (seated : List Span) (chosen tracks : List ℕ) (signals : List (Option ℕ)) (column row i : ℕ)
    → column < g.columns → row < g.rows → i < cell_words g
    → get_or (listed_words l g seated chosen tracks signals) (cell_place g column row + i) 0 ≡ get_or (listed_row l g tracks signals column row) i 0
cell-listed l g seated chosen tracks signals column row i lt inside within =
    listed-cell g (listed_channel l.inputs g seated chosen 0) (list_of g.output_pads (λ o. tapped_word l.inputs tracks (output_of l o)))
    (listed_words l g seated chosen tracks signals) (listed_row l g tracks signals)
    (λ column. listed_channel l.inputs g seated chosen (column + 1)) column row i (are_listed l g seated chosen tracks signals) lt inside within

-- the word of an output pad
output-listed : (l : MappedValue) (g : GeometryValue) (seated : List Span) (chosen tracks : List ℕ) (signals : List (Option ℕ)) (o : ℕ)
    → o < g.output_pads → output_word (listed_config l g seated chosen tracks signals) o ≡ tapped_word l.inputs tracks (output_of l o)
output-listed l g seated chosen tracks signals o lt =
    listed-output g (listed_channel l.inputs g seated chosen 0) (list_of g.output_pads (λ o. tapped_word l.inputs tracks (output_of l o)))
    (listed_words l g seated chosen tracks signals) (listed_row l g tracks signals)
    (λ column. listed_channel l.inputs g seated chosen (column + 1)) o (are_listed l g seated chosen tracks signals)
    ∙ get_or-list_of g.output_pads (λ o. tapped_word l.inputs tracks (output_of l o)) o 0 lt

-- the word of a listener, said of inputs alone
tapped-tap : (l : MappedValue) (tracks : List ℕ) (s : Source) → tapped_word l.inputs tracks s ≡ tap_word l tracks s
tapped-tap l tracks Zero = refl
tapped-tap l tracks (Pad i) = refl
tapped-tap l tracks (Cell k) = refl

-- a word of a pin, and one of a table
pin-at : (inputs : ℕ) (g : GeometryValue) (tracks : List ℕ) (cell : CellValue) (pin : ℕ) → pin < pin_count g
    → get_or (listed_cell inputs g tracks cell) pin 0 ≡ tapped_word inputs tracks (pin_of cell pin)
pin-at inputs g tracks cell pin lt =
    let f : ℕ → ℕ = λ j. tapped_word inputs tracks (pin_of cell j) in
    get_or_append_left (list_of (pin_count g) f) (words_of (table_words g) cell.table) 0 pin (omega (arith, length-list_of (pin_count g) f))
    ∙ get_or-list_of (pin_count g) f pin 0 lt

-- the words of the table stand behind those of the pins
table-at : (inputs : ℕ) (g : GeometryValue) (tracks : List ℕ) (cell : CellValue) (j : ℕ)
    → get_or (listed_cell inputs g tracks cell) (pin_count g + j) 0 ≡ get_or (words_of (table_words g) cell.table) j 0
table-at inputs g tracks cell j =
    let f : ℕ → ℕ = λ i. tapped_word inputs tracks (pin_of cell i) in
    ap (λ n. get_or (listed_cell inputs g tracks cell) (n + j) 0) (sym (length-list_of (pin_count g) f))
    ∙ get_or-append-add (list_of (pin_count g) f) (words_of (table_words g) cell.table) j 0

-- the seat of a placed cell has its signal
seat-cell : (l : MappedValue) (g : GeometryValue) (columns rows : List ℕ) (spans : List Span) (seats : List ℕ) (seated : List Span) (signals : List (Option ℕ)) (chosen tracks : List ℕ) (k : ℕ)
    → HaveTracks l g columns rows spans seats seated signals chosen tracks → k < length l.cells
    → get_or signals (l.inputs + cell_number g (get_or columns k 0) (row_of columns k)) None ≡ Some (l.inputs + k)
seat-cell l g columns rows spans seats seated signals chosen tracks k h lt =
    let n : ℕ = l.inputs + k in
    let row : get_or rows k 0 ≡ row_of columns k = row_is l g columns rows k h.are_seats.columns_count h.are_seats.are_rows lt in
    let at : get_or seats n 0 ≡ l.inputs + cell_number g (get_or columns k 0) (row_of columns k) =
    seat-number l g columns rows seats n h.are_seats (omega arith)
    ∙ seat_of-cell l.inputs g columns rows k
    ∙ ap (λ r. l.inputs + cell_number g (get_or columns k 0) r) row in
    ap (λ m. get_or signals m None) (sym at) ∙ h.have.taken n (omega (arith, h.are.count))

-- so its words are those of the cell
row-cell : (l : MappedValue) (g : GeometryValue) (columns rows : List ℕ) (spans : List Span) (seats : List ℕ) (seated : List Span) (signals : List (Option ℕ)) (chosen tracks : List ℕ) (k : ℕ)
    → HaveTracks l g columns rows spans seats seated signals chosen tracks → k < length l.cells
    → listed_row l g tracks signals (get_or columns k 0) (row_of columns k) ≡ listed_cell l.inputs g tracks (mapped_cell l k)
row-cell l g columns rows spans seats seated signals chosen tracks k h lt =
    let back : l.inputs + k - l.inputs ≡ k = omega arith in
    ap (listed_seat l g tracks) (seat-cell l g columns rows spans seats seated signals chosen tracks k h lt)
    ∙ ap (λ m. listed_cell l.inputs g tracks (mapped_cell l m)) back

-- a seat past the cells of its column is empty
seat-free : (l : MappedValue) (g : GeometryValue) (columns rows : List ℕ) (spans : List Span) (seats : List ℕ) (seated : List Span) (signals : List (Option ℕ)) (chosen tracks : List ℕ) (column row : ℕ) (o : Option ℕ)
    → HaveTracks l g columns rows spans seats seated signals chosen tracks → row < g.rows → cells_in columns column ≤ row
    → get_or signals (l.inputs + cell_number g column row) None ≡ o → o ≡ None
seat-free l g columns rows spans seats seated signals chosen tracks column row None h inside past e = refl
seat-free l g columns rows spans seats seated signals chosen tracks column row (Some n) h inside past e =
    let was = h.have.named (l.inputs + cell_number g column row) n e in
    let lt : n < l.inputs + length l.cells = omega (arith, was.0, h.are.count) in
    let at : seat_of l.inputs g columns rows n ≡ l.inputs + cell_number g column row =
    sym (seat-number l g columns rows seats n h.are_seats lt) ∙ was.1 in
    absurd (⊎_elim
    (λ here. omega (arith, seat_of-input l.inputs g columns rows n here))
    (λ cell. let k : ℕ = n - l.inputs in
    let number : n ≡ l.inputs + k = omega arith in
    let less : k < length l.cells = omega arith in
    let same : cell_number g (get_or columns k 0) (get_or rows k 0) ≡ cell_number g column row =
    omega (arith, ap (seat_of l.inputs g columns rows) number, seat_of-cell l.inputs g columns rows k) in
    let parts = cell_number-apart g.rows (get_or columns k 0) (get_or rows k 0) column row
    (row-lt l g columns rows k h.are_seats.columns_count h.are_seats.are_rows h.are_seats.room less) inside same in
    omega (
      arith,
      parts.1,
      row_is l g columns rows k h.are_seats.columns_count h.are_seats.are_rows less,
      row_of-lt columns k (omega (arith, h.are_seats.columns_count)),
      ap (cells_in columns) parts.0,
    ))
    (cases_lt n l.inputs))

-- so all its words are off
row-free : (l : MappedValue) (g : GeometryValue) (columns rows : List ℕ) (spans : List Span) (seats : List ℕ) (seated : List Span) (signals : List (Option ℕ)) (chosen tracks : List ℕ) (column row i : ℕ)
    → HaveTracks l g columns rows spans seats seated signals chosen tracks → row < g.rows → cells_in columns column ≤ row → i < cell_words g
    → get_or (listed_row l g tracks signals column row) i 0 ≡ 0
row-free l g columns rows spans seats seated signals chosen tracks column row i h inside past lt =
    let seat : ℕ = l.inputs + cell_number g column row in
    ap (λ o. get_or (listed_seat l g tracks o) i 0)
    (seat-free l g columns rows spans seats seated signals chosen tracks column row (get_or signals seat None) h inside past refl)
    ∙ get_or-list_of (cell_words g) (λ j. 0) i 0 lt

-- the words of a table spell its least bits
table-listed : (l : MappedValue) (g : GeometryValue) (seated : List Span) (chosen tracks : List ℕ) (signals : List (Option ℕ)) (column row bits : ℕ)
    → column < g.columns → row < g.rows
    → ((j : ℕ) → j < table_words g → get_or (listed_row l g tracks signals column row) (pin_count g + j) 0 ≡ get_or (words_of (table_words g) bits) j 0)
    → table (listed_config l g seated chosen tracks signals) column row ≡ bits % 2 ^ table_bits g
table-listed l g seated chosen tracks signals column row bits lt inside each =
    let config : ConfigValue = listed_config l g seated chosen tracks signals in
    let n : ℕ = table_words g in
    let word : (j : ℕ) → j < n → get_or (words_of n bits) j 0 ≡ table_word config column row j =
    λ j less. let place : table_place g column row + j ≡ cell_place g column row + (pin_count g + j) = omega arith in
    sym (ap (λ m. get_or (listed_words l g seated chosen tracks signals) m 0) place
    ∙ cell-listed l g seated chosen tracks signals column row (pin_count g + j) lt inside (omega arith)
    ∙ each j less) in
    ap (number_behind 0) (sym (list_of_elements n (table_word config column row) (words_of n bits) 0 (length-words_of n bits) word))
    ∙ number_behind-words_of n bits
    ∙ ap (λ m. bits % 2 ^ m) (table_words-bits g.kind)

-- the words of 0 are all 0
words_of-zero : (n j : ℕ) → get_or (words_of n 0) j 0 ≡ 0
words_of-zero zero j = refl
words_of-zero (suc n) j =
    let front : List ℕ = words_of n (0 / 2 ^ WORD_BITS) in
    let long : length front ≡ n = length-words_of n (0 / 2 ^ WORD_BITS) in
    ⊎_elim
    (λ lt. get_or_append_left front (0 % 2 ^ WORD_BITS ∷ []) 0 j (omega arith) ∙ words_of-zero n j)
    (λ past. ⊎_elim
    (λ e. get_or_push front (0 % 2 ^ WORD_BITS) 0 j (long ∙ sym e))
    (λ ne. get_or_past (front ++ 0 % 2 ^ WORD_BITS ∷ []) j 0 (omega (arith, length_push front (0 % 2 ^ WORD_BITS))))
    (cases_eq j n))
    (cases_lt j n)

-- what a listener reads has a track
readable-tapped : (l : MappedValue) (g : GeometryValue) (columns rows : List ℕ) (spans : List Span) (seats : List ℕ) (seated : List Span) (signals : List (Option ℕ)) (chosen tracks : List ℕ) (limit c : ℕ) (s : Source)
    → HaveTracks l g columns rows spans seats seated signals chosen tracks → g.tracks ≤ limit → IsReadable l spans c s → IsTapped l.inputs limit tracks s
readable-tapped l g columns rows spans seats seated signals chosen tracks limit c Zero h le readable = tt
readable-tapped l g columns rows spans seats seated signals chosen tracks limit c (Pad i) h le readable =
    let choice = tracks_chosen l g columns rows spans seats seated signals chosen tracks h in
    let lt : i < length spans = omega (arith, h.are.count, readable.0) in
    (omega (arith, choice.count), omega (arith, choice.within i c lt readable.1))
readable-tapped l g columns rows spans seats seated signals chosen tracks limit c (Cell k) h le readable =
    let choice = tracks_chosen l g columns rows spans seats seated signals chosen tracks h in
    let lt : l.inputs + k < length spans = omega (arith, h.are.count, readable.0) in
    (omega (arith, choice.count), omega (arith, choice.within (l.inputs + k) c lt readable.1))

-- so each pin of a cell, and each output
pub pins_tapped : (l : MappedValue) (g : GeometryValue) (columns rows : List ℕ) (spans : List Span) (seats : List ℕ) (seated : List Span) (signals : List (Option ℕ)) (chosen tracks : List ℕ) (limit k : ℕ)
    → HaveTracks l g columns rows spans seats seated signals chosen tracks → AreMapped l → AreColumns l columns → g.tracks ≤ limit
    → k < length l.cells → All (IsTapped l.inputs limit tracks) (mapped_cell l k).pins
pins_tapped l g columns rows spans seats seated signals chosen tracks limit k h mapped cols le lt = λ i d less.
    let s : Source = get_or (mapped_cell l k).pins i d in
    let has : Has (mapped_cell l k).pins s = Has-get_or (mapped_cell l k).pins i d less in
    readable-tapped l g columns rows spans seats seated signals chosen tracks limit (get_or columns k 0) s h le
    (pin_readable l columns spans g.columns k s cols h.are lt has
    (All-member (IsSourceBelow l.inputs (length l.cells)) (mapped_cell l k).pins s (pins_below l k mapped.settled lt) has))

-- and each output listens nowhere, or to a signal with a track
pub outputs_tapped : (l : MappedValue) (g : GeometryValue) (columns rows : List ℕ) (spans : List Span) (seats : List ℕ) (seated : List Span) (signals : List (Option ℕ)) (chosen tracks : List ℕ) (limit : ℕ)
    → HaveTracks l g columns rows spans seats seated signals chosen tracks → AreMapped l → g.tracks ≤ limit
    → All (IsTapped l.inputs limit tracks) l.outputs
outputs_tapped l g columns rows spans seats seated signals chosen tracks limit h mapped le = λ i d less.
    let s : Source = get_or l.outputs i d in
    let has : Has l.outputs s = Has-get_or l.outputs i d less in
    readable-tapped l g columns rows spans seats seated signals chosen tracks limit g.columns s h le
    (output_readable l columns spans g.columns s h.are_seats.room.column h.are has
    (All-member (IsSourceBelow l.inputs (length l.cells)) l.outputs s mapped.outputs has))

-- the word of what listens so is at most the limit
tapped-le : (inputs limit : ℕ) (tracks : List ℕ) (s : Source) → IsTapped inputs limit tracks s → tapped_word inputs tracks s ≤ limit
tapped-le inputs limit tracks Zero h = omega arith
tapped-le inputs limit tracks (Pad i) h = omega (arith, h.1)
tapped-le inputs limit tracks (Cell k) h = omega (arith, h.1)

-- a listener at any place, past the last one too
tapped-place-le : (inputs limit : ℕ) (tracks : List ℕ) (ss : List Source) (i : ℕ) → All (IsTapped inputs limit tracks) ss
    → tapped_word inputs tracks (get_or ss i Zero) ≤ limit
tapped-place-le inputs limit tracks ss i h =
    tapped-le inputs limit tracks (get_or ss i Zero) (All-place (IsTapped inputs limit tracks) ss i h tt)

-- the words of a table may be any
words_of-within : (n number : ℕ) → AllZip Within (list_of n (λ word. MAX_WORD)) (words_of n number)
words_of-within zero number = tt
words_of-within (suc n) number =
    let lt : number % 2 ^ WORD_BITS < 2 ^ WORD_BITS = mod-lt number (pow_pos WORD_BITS) in
    AllZip-push Within (list_of n (λ word. MAX_WORD)) (words_of n (number / 2 ^ WORD_BITS)) MAX_WORD (number % 2 ^ WORD_BITS)
    (words_of-within n (number / 2 ^ WORD_BITS)) (omega arith)

-- words that are off are in every range
within-off : (ls : List ℕ) (n : ℕ) → length ls ≡ n → AllZip Within ls (list_of n (λ i. 0))
within-off ls n e =
    let P : List ℕ → Type 0 = λ ms. AllZip Within ms (list_of n (λ i. 0)) in
    subst P (list_of-get_or n ls 0 e) (within-list_of n (λ i. get_or ls i 0) (λ i. 0) (λ i lt. omega arith))

-- past the last cell there are no pins
no_pins_tapped : (l : MappedValue) (g : GeometryValue) (tracks : List ℕ) (k : ℕ) → length l.cells ≤ k
    → All (IsTapped l.inputs g.tracks tracks) (mapped_cell l k).pins
no_pins_tapped l g tracks k past =
    let P : CellValue → Type 0 = λ cell. All (IsTapped l.inputs g.tracks tracks) cell.pins in
    subst P (sym (get_or_past l.cells k no_cell past)) (λ i d lt. absurd (omega arith))

-- the words of each seat are in their ranges
seat-within : (l : MappedValue) (g : GeometryValue) (columns rows : List ℕ) (spans : List Span) (seats : List ℕ) (seated : List Span) (signals : List (Option ℕ)) (chosen tracks : List ℕ) (seat : ℕ) (o : Option ℕ)
    → HaveTracks l g columns rows spans seats seated signals chosen tracks → AreMapped l → AreColumns l columns
    → get_or signals seat None ≡ o → AllZip Within (cell_limits g) (listed_seat l g tracks o)
seat-within l g columns rows spans seats seated signals chosen tracks seat None h mapped cols e =
    within-off (cell_limits g) (cell_words g)
    (length-append (list_of (pin_count g) (λ pin. g.tracks)) (list_of (table_words g) (λ word. MAX_WORD))
    ∙ omega (arith, length-list_of (pin_count g) (λ pin. g.tracks), length-list_of (table_words g) (λ word. MAX_WORD)))
seat-within l g columns rows spans seats seated signals chosen tracks seat (Some n) h mapped cols e =
    let cell : CellValue = mapped_cell l (n - l.inputs) in
    let pins : All (IsTapped l.inputs g.tracks tracks) cell.pins =
    ⊎_elim
    (λ lt. pins_tapped l g columns rows spans seats seated signals chosen tracks g.tracks (n - l.inputs) h mapped cols (omega arith) lt)
    (λ past. no_pins_tapped l g tracks (n - l.inputs) past)
    (cases_lt (n - l.inputs) (length l.cells)) in
    within-append (list_of (pin_count g) (λ pin. g.tracks)) (list_of (table_words g) (λ word. MAX_WORD))
    (list_of (pin_count g) (λ pin. tapped_word l.inputs tracks (pin_of cell pin))) (words_of (table_words g) cell.table)
    (within-list_of (pin_count g) (λ pin. g.tracks) (λ pin. tapped_word l.inputs tracks (pin_of cell pin))
    (λ pin lt. tapped-place-le l.inputs g.tracks tracks cell.pins pin pins))
    (words_of-within (table_words g) cell.table)

-- the listed words are a configuration
pub listed_is_config : (l : MappedValue) (g : GeometryValue) (columns rows : List ℕ) (spans : List Span) (seats : List ℕ) (seated : List Span) (signals : List (Option ℕ)) (chosen tracks : List ℕ)
    → HaveTracks l g columns rows spans seats seated signals chosen tracks → AreMapped l → AreColumns l columns
    → IsConfig (listed_config l g seated chosen tracks signals)
listed_is_config l g columns rows spans seats seated signals chosen tracks h mapped cols =
    let all : AllZip Within (limits g) (listed_words l g seated chosen tracks signals) =
    listed-within g (listed_channel l.inputs g seated chosen 0) (list_of g.output_pads (λ o. tapped_word l.inputs tracks (output_of l o)))
    (listed_words l g seated chosen tracks signals) (listed_row l g tracks signals)
    (λ column. listed_channel l.inputs g seated chosen (column + 1)) refl
    (within-list_of g.tracks (λ t. g.input_pads) (listed_track l.inputs g seated chosen 0)
    (λ t lt. first-le l g columns rows spans seats seated signals chosen tracks t h))
    (λ column row lt inside. seat-within l g columns rows spans seats seated signals chosen tracks (l.inputs + cell_number g column row)
    (get_or signals (l.inputs + cell_number g column row) None) h mapped cols refl)
    (λ column lt. within-list_of g.tracks (λ t. g.rows + 1) (listed_track l.inputs g seated chosen (column + 1))
    (λ t less. later-le l g columns rows spans seats seated signals chosen tracks column t h (omega arith)))
    (within-list_of g.output_pads (λ pad. g.tracks) (λ o. tapped_word l.inputs tracks (output_of l o))
    (λ o lt. tapped-place-le l.inputs g.tracks tracks l.outputs o
    (outputs_tapped l g columns rows spans seats seated signals chosen tracks g.tracks h mapped (omega arith)))) in
    record { geometry = h.geometry; words = all }

-- and have the words of a placing
listed_placing : (l : MappedValue) (g : GeometryValue) (columns rows : List ℕ) (spans : List Span) (seats : List ℕ) (seated : List Span) (signals : List (Option ℕ)) (chosen tracks : List ℕ)
    → HaveTracks l g columns rows spans seats seated signals chosen tracks
    → HasPlacingWords l columns spans tracks (listed_config l g seated chosen tracks signals)
listed_placing l g columns rows spans seats seated signals chosen tracks h =
    let config : ConfigValue = listed_config l g seated chosen tracks signals in
    let choice = tracks_chosen l g columns rows spans seats seated signals chosen tracks h in
    let room = h.are_seats.room in
    record {
      held = λ s c signal le live.
          let lt = signal_number-lt l s signal in
          channel-listed l g seated chosen tracks signals c (track_of l tracks s) le
          (choice.within (signal_number l s) c (omega (arith, h.are.count)) live)
          ∙ track_carries l g columns rows spans seats seated signals chosen tracks s c h signal le live;
      free_tracks = λ c t le lt none.
          channel-listed l g seated chosen tracks signals c t le lt
          ∙ track-off l g columns rows spans seats seated signals chosen tracks c t h le none;
      pins = λ k pin lt less.
          cell-listed l g seated chosen tracks signals (get_or columns k 0) (row_of columns k) pin (room.column k lt) (room.row k lt) (omega arith)
          ∙ ap (λ ws. get_or ws pin 0) (row-cell l g columns rows spans seats seated signals chosen tracks k h lt)
          ∙ pin-at l.inputs g tracks (mapped_cell l k) pin less
          ∙ tapped-tap l tracks (pin_of (mapped_cell l k) pin);
      tables = λ k lt.
          table-listed l g seated chosen tracks signals (get_or columns k 0) (row_of columns k) (mapped_cell l k).table (room.column k lt) (room.row k lt)
          (λ j less. ap (λ ws. get_or ws (pin_count g + j) 0) (row-cell l g columns rows spans seats seated signals chosen tracks k h lt)
          ∙ table-at l.inputs g tracks (mapped_cell l k) j);
      free_pins = λ column row pin lt inside less past.
          cell-listed l g seated chosen tracks signals column row pin lt inside (omega arith)
          ∙ row-free l g columns rows spans seats seated signals chosen tracks column row pin h inside past (omega arith);
      free_tables = λ column row lt inside past.
          table-listed l g seated chosen tracks signals column row 0 lt inside
          (λ j less. row-free l g columns rows spans seats seated signals chosen tracks column row (pin_count g + j) h inside past (omega arith)
          ∙ sym (words_of-zero (table_words g) j))
          ∙ zero-mod (2 ^ table_bits g);
      outputs = λ o lt. output-listed l g seated chosen tracks signals o lt ∙ tapped-tap l tracks (output_of l o);
    }

-- so they place the cells
pub listed_place : (l : MappedValue) (g : GeometryValue) (columns rows : List ℕ) (spans : List Span) (seats : List ℕ) (seated : List Span) (signals : List (Option ℕ)) (chosen tracks : List ℕ)
    → HaveTracks l g columns rows spans seats seated signals chosen tracks → AreMapped l → AreColumns l columns
    → ((k : ℕ) → k < length l.cells → length (mapped_cell l k).pins ≤ pin_count g)
    → IsPlaced l columns spans tracks (listed_config l g seated chosen tracks signals)
listed_place l g columns rows spans seats seated signals chosen tracks h mapped cols few =
    words_place l columns tracks spans (listed_config l g seated chosen tracks signals) mapped cols h.are
    (tracks_chosen l g columns rows spans seats seated signals chosen tracks h)
    (listed_is_config l g columns rows spans seats seated signals chosen tracks h mapped cols)
    h.are_seats.room few (listed_placing l g columns rows spans seats seated signals chosen tracks h)
