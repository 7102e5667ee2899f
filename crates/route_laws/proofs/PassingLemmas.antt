-- The words that place mapped cells: a signal is passed on along its track, and so pins and output pads
-- listen where the mapped cells do.
use Rattle.std.proofs.Common.{◌≡◌, ℕ, zero, suc, ◌+◌, ◌<◌, ◌≤◌, ⊎_elim, List, [], ◌∷◌, length, get_or, All, refl, ap, subst, sym, ◌∙◌, inl, inr, arith, eqb}
use Rattle.std.proofs.lemmas.Bool.{cases_lt, cases_eq, eq-eqb, ne_eqb, cond-true, cond-false}
use Rattle.std.proofs.lemmas.List.{get_or_past}
use Rattle.clause_defs.specs.Clauses.{Has}
use Rattle.fabric_defs.specs.Geometries.{pin_count, cell_number}
use Rattle.fabric_defs.specs.Configurations.{ConfigValue, IsConfig, first_word, track_word}
use Rattle.cell_defs.specs.declared.source.Source.{Source}
use Rattle.cell_defs.specs.declared.source.Source.TheVariants.{Zero, Pad, Cell}
use Rattle.cell_defs.specs.Cells.{IsSourceBelow}
use Rattle.cell_defs.specs.Sources.{pad_source, tapped_source, switched_source, track_source}
use Rattle.map_defs.specs.Mapped.{MappedValue, mapped_cell, AreMapped}
use Rattle.map_defs.specs.Columns.{AreColumns, column_after}
use Rattle.map_laws.proofs.MappingLemmas.{Has-get_or}
use Rattle.route_defs.specs.declared.span.Span.{Span}
use Rattle.route_defs.specs.Spans.{IsLive}
use Rattle.route_defs.specs.Signals.{IsSignal, first_channel, span_of, AreSpans}
use Rattle.route_defs.specs.Tracks.{AreTracks}
use Rattle.route_defs.specs.Placed.{HaveRoom, IsPlaced, placed_source, row_of, pin_of, output_of, track_of}
use Rattle.route_laws.specs.Words.{entry_word, held_word, tap_word, HasPlacingWords}
use Rattle.route_laws.proofs.SourceLemmas.{pins_below}

-- where a signal enters, the word of its track takes it
held_word-first : (columns : List ℕ) (s : Source) (c : ℕ) → first_channel columns s ≡ c → held_word columns s c ≡ entry_word columns s
held_word-first columns s c e = cond-true (eqb (first_channel columns s) c) (entry_word columns s) 1 (eq-eqb (first_channel columns s) c e)

-- on the channels after that, it keeps it
held_word-later : (columns : List ℕ) (s : Source) (c : ℕ) → (first_channel columns s ≡ c → ⊥) → held_word columns s c ≡ 1
held_word-later columns s c ne = cond-false (eqb (first_channel columns s) c) (entry_word columns s) 1 (ne_eqb (first_channel columns s) c ne)

-- a signal that is live on channel 0 is an input
enters_first : (l : MappedValue) (columns : List ℕ) (config : ConfigValue) (t : ℕ) (s : Source) → IsSignal l s → first_channel columns s ≤ 0
    → first_word config t ≡ held_word columns s 0 → track_source config 0 t ≡ placed_source config.geometry columns s
enters_first l columns config t Zero signal le word = absurd signal
enters_first l columns config t (Pad i) signal le word = ap pad_source word
enters_first l columns config t (Cell k) signal le word = absurd (omega arith)

-- a signal that enters after a column is a cell of the column
enters_after : (l : MappedValue) (columns : List ℕ) (config : ConfigValue) (c t : ℕ) (s : Source) → IsSignal l s
    → first_channel columns s ≡ suc c → track_word config c t ≡ entry_word columns s
    → track_source config (suc c) t ≡ placed_source config.geometry columns s
enters_after l columns config c t Zero signal e word = absurd signal
enters_after l columns config c t (Pad i) signal e word = absurd (omega arith)
enters_after l columns config c t (Cell k) signal e word =
    let column : c ≡ get_or columns k 0 = omega arith in
    ap (switched_source config.geometry c (track_source config c t)) word
    ∙ ap (λ m. Cell (cell_number config.geometry m (row_of columns k))) column

-- a live signal is the source of its track
pub passes_on : (l : MappedValue) (columns tracks : List ℕ) (spans : List Span) (config : ConfigValue) (s : Source) (c : ℕ)
    → AreSpans l columns config.geometry.columns spans → HasPlacingWords l columns spans tracks config
    → IsSignal l s → c ≤ config.geometry.columns → IsLive (span_of l spans s) c
    → track_source config c (track_of l tracks s) ≡ placed_source config.geometry columns s
passes_on l columns tracks spans config s zero are words signal le live =
    enters_first l columns config (track_of l tracks s) s signal (omega (arith, are.firsts s signal, live.0))
    (words.held s 0 signal le live)
passes_on l columns tracks spans config s (suc c) are words signal le live =
    let t = track_of l tracks s in
    let word : track_word config c t ≡ held_word columns s (suc c) = words.held s (suc c) signal le live in
    let first = are.firsts s signal in
    ⊎_elim
    (λ e. enters_after l columns config c t s signal e (word ∙ held_word-first columns s (suc c) e))
    (λ ne. let earlier : first_channel columns s ≤ c =
    ⊎_elim (λ lt. omega arith) (λ past. absurd (ne (omega (arith, first, live.0)))) (cases_lt (first_channel columns s) (suc c)) in
    ap (switched_source config.geometry c (track_source config c t)) (word ∙ held_word-later columns s (suc c) ne)
    ∙ passes_on l columns tracks spans config s c are words signal (omega arith) (omega (arith, first), omega (arith, live.1)))
    (cases_eq (first_channel columns s) (suc c))

-- nothing, or a signal that is live on channel c
abbrev pub IsReadable : MappedValue → List Span → ℕ → Source → Type 0
IsReadable l spans c Zero = Unit {0}
IsReadable l spans c (Pad i) = IsSignal l (Pad i) × IsLive (span_of l spans (Pad i)) c
IsReadable l spans c (Cell k) = IsSignal l (Cell k) × IsLive (span_of l spans (Cell k)) c

-- what listens to the track of such a signal has it as its source
taps : (l : MappedValue) (columns tracks : List ℕ) (spans : List Span) (config : ConfigValue) (s : Source) (c : ℕ)
    → AreSpans l columns config.geometry.columns spans → HasPlacingWords l columns spans tracks config
    → c ≤ config.geometry.columns → IsReadable l spans c s
    → tapped_source (track_source config c) (tap_word l tracks s) ≡ placed_source config.geometry columns s
taps l columns tracks spans config Zero c are words le readable = refl
taps l columns tracks spans config (Pad i) c are words le readable =
    passes_on l columns tracks spans config (Pad i) c are words readable.0 le readable.1
taps l columns tracks spans config (Cell k) c are words le readable =
    passes_on l columns tracks spans config (Cell k) c are words readable.0 le readable.1

-- the column after a cell is after that of each cell to which it listens
column_after-rest : (columns : List ℕ) (s : Source) (ss : List Source) → column_after columns ss ≤ column_after columns (s ∷ ss)
column_after-rest columns Zero ss = omega arith
column_after-rest columns (Pad i) ss = omega arith
column_after-rest columns (Cell k) ss = omega arith

-- so the column after some sources is behind that of each cell among them
pub column_after-le : (columns : List ℕ) (ss : List Source) (k : ℕ) → Has ss (Cell k) → get_or columns k 0 + 1 ≤ column_after columns ss
column_after-le columns [] k has = absurd has
column_after-le columns (s ∷ ss) k (inl e) =
    let P : Source → Type 0 = λ c. get_or columns k 0 + 1 ≤ column_after columns (c ∷ ss) in
    subst P (sym e) (omega arith)
column_after-le columns (s ∷ ss) k (inr m) =
    let rest : get_or columns k 0 + 1 ≤ column_after columns ss = column_after-le columns ss k m in
    omega (arith, column_after-rest columns s ss)

-- a signal that a pin of a cell listens to is live on the channel before the cell
pub pin_readable : (l : MappedValue) (columns : List ℕ) (spans : List Span) (last k : ℕ) (s : Source) → AreColumns l columns
    → AreSpans l columns last spans → k < length l.cells → Has (mapped_cell l k).pins s
    → IsSourceBelow l.inputs (length l.cells) s → IsReadable l spans (get_or columns k 0) s
pin_readable l columns spans last k Zero cols are lt has below = tt
pin_readable l columns spans last k (Pad i) cols are lt has below =
    let first : (span_of l spans (Pad i)).first ≡ 0 = are.firsts (Pad i) below in
    (below, (omega arith, (are.ends (Pad i) (get_or columns k 0) below).1 (inl (k, lt, has, omega arith))))
pin_readable l columns spans last k (Cell j) cols are lt has below =
    let first : (span_of l spans (Cell j)).first ≡ get_or columns j 0 + 1 = are.firsts (Cell j) below in
    let after : get_or columns j 0 + 1 ≤ column_after columns (mapped_cell l k).pins = column_after-le columns (mapped_cell l k).pins j has in
    let column : get_or columns k 0 ≡ column_after columns (mapped_cell l k).pins = cols.each k lt in
    (below, (omega arith, (are.ends (Cell j) (get_or columns k 0) below).1 (inl (k, lt, has, omega arith))))

-- a signal that an output listens to is live on the last channel
pub output_readable : (l : MappedValue) (columns : List ℕ) (spans : List Span) (last : ℕ) (s : Source)
    → ((k : ℕ) → k < length l.cells → get_or columns k 0 < last)
    → AreSpans l columns last spans → Has l.outputs s → IsSourceBelow l.inputs (length l.cells) s → IsReadable l spans last s
output_readable l columns spans last Zero room are has below = tt
output_readable l columns spans last (Pad i) room are has below =
    let first : (span_of l spans (Pad i)).first ≡ 0 = are.firsts (Pad i) below in
    (below, (omega arith, (are.ends (Pad i) last below).1 (inr (has, omega arith))))
output_readable l columns spans last (Cell k) room are has below =
    let first : (span_of l spans (Cell k)).first ≡ get_or columns k 0 + 1 = are.firsts (Cell k) below in
    let lt : get_or columns k 0 < last = room k below in
    (below, (omega arith, (are.ends (Cell k) last below).1 (inr (has, omega arith))))

-- what is said of each source of a list holds at every place, past the last one of none
pub Has-place : (P : Source → Type 0) (ss : List Source) (i : ℕ) → ((s : Source) → Has ss s → P s) → P Zero → P (get_or ss i Zero)
Has-place P ss i h z =
    ⊎_elim (λ lt. h (get_or ss i Zero) (Has-get_or ss i Zero lt)) (λ past. subst P (sym (get_or_past ss i Zero past)) z) (cases_lt i (length ss))

-- a source among all of which something is said
pub All-member : (P : Source → Type 0) (ss : List Source) (s : Source) → All P ss → Has ss s → P s
All-member P [] s h m = absurd m
All-member P (t ∷ ss) s h (inl e) = subst P e (h 0 t (omega arith))
All-member P (t ∷ ss) s h (inr m) = All-member P ss s (λ i d lt. h (suc i) d (omega arith)) m

-- so the words place the cells
pub words_place : (l : MappedValue) (columns tracks : List ℕ) (spans : List Span) (config : ConfigValue)
    → AreMapped l → AreColumns l columns → AreSpans l columns config.geometry.columns spans
    → AreTracks spans config.geometry.tracks tracks → IsConfig config → HaveRoom l config.geometry columns
    → ((k : ℕ) → k < length l.cells → length (mapped_cell l k).pins ≤ pin_count config.geometry)
    → HasPlacingWords l columns spans tracks config → IsPlaced l columns spans tracks config
words_place l columns tracks spans config mapped cols are choice is_config have few words =
    let g = config.geometry in
    let below : (k : ℕ) → k < length l.cells → All (IsSourceBelow l.inputs (length l.cells)) (mapped_cell l k).pins =
    λ k lt. pins_below l k mapped.settled lt in
    record {
      configuration = is_config;
      room = have;
      few_pins = few;
      cells = record {
        pins = λ k pin lt less. let c = get_or columns k 0 in
            let s = pin_of (mapped_cell l k) pin in
            let readable : IsReadable l spans c s =
            Has-place (IsReadable l spans c) (mapped_cell l k).pins pin
            (λ t has. pin_readable l columns spans g.columns k t cols are lt has
            (All-member (IsSourceBelow l.inputs (length l.cells)) (mapped_cell l k).pins t (below k lt) has)) tt in
            let column : c < g.columns = have.column k lt in
            ap (tapped_source (track_source config c)) (words.pins k pin lt less)
            ∙ taps l columns tracks spans config s c are words (omega arith) readable;
        no_pins = λ k pin lt less none. words.pins k pin lt less ∙ ap (tap_word l tracks) none;
        tables = words.tables;
        free_pins = words.free_pins;
        free_tables = words.free_tables;
      };
      output_pads = record {
        outputs = λ o less. let s = output_of l o in
            let readable : IsReadable l spans g.columns s =
            Has-place (IsReadable l spans g.columns) l.outputs o
            (λ t has. output_readable l columns spans g.columns t have.column are has
            (All-member (IsSourceBelow l.inputs (length l.cells)) l.outputs t mapped.outputs has)) tt in
            ap (tapped_source (track_source config g.columns)) (words.outputs o less)
            ∙ taps l columns tracks spans config s g.columns are words (omega arith) readable;
        no_outputs = λ o less none. words.outputs o less ∙ ap (tap_word l tracks) none;
      };
      channels = record {
        choice = choice;
        signals = λ s c signal le live. passes_on l columns tracks spans config s c are words signal le live;
        free_tracks = words.free_tracks;
      };
    }
