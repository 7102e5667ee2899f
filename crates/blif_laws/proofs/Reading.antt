-- A text has one value or one first fault, and the fault is never want of memory.
use Rattle.std.proofs.Common.{◌≡◌, ◌≢◌, ℕ, Bool, true, false, cond, List, [], ◌∷◌, length, Option, Some, None, Result, Ok, Err, refl, sym, subst, ◌∙◌}
use Rattle.std.specs.Prelude.{◌==◌, ◌&&◌, nat_lt, nat_le}
use Rattle.std.specs.List.{list_all}
use Rattle.blif_defs.specs.declared.error.BlifError.{BlifError}
use Rattle.blif_defs.specs.declared.error.BlifError.TheVariants.{NoMemory}
use Rattle.blif_defs.specs.declared.kind.LineKind.{LineKind}
use Rattle.blif_defs.specs.declared.kind.LineKind.TheVariants.{Model, Inputs, Outputs, Names, End, Other, Row}
use Rattle.blif_defs.specs.declared.mark.TheConstants.{MAX_BYTES, MAX_PORTS, MAX_SIGNALS}
use Rattle.text_defs.specs.Steps.{◌>>=◌}
use Rattle.blif_defs.specs.Words.{is_sound}
use Rattle.blif_defs.specs.Values.{CoverValue, BlifValue}
use Rattle.blif_defs.specs.Drafts.{Draft, start, closed, signals, signal_count, is_among}
use Rattle.blif_defs.specs.Rows.{row_parts, row_onto, is_row, agrees, bit_of}
use Rattle.blif_defs.specs.Grammar.{Statement, statements, kind_of, with_input, with_inputs, with_output, with_outputs, with_cover, with_model, with_names, with_end, with_row_line, with_line, with_words, after_end, with_statements, finished, reading}
use Rattle.blif_defs.specs.Texts.{BlifFault, BlifOf}
use Rattle.blif_laws.proofs.Following.{read_value, value_read, read_fault, fault_read}

-- the value of a text, or its fault
abbrev Read : Type 0
Read = Result BlifValue BlifError

-- what `reading` answers is the value or the fault
BlifOf-reading : (text : List ℕ) (r : Read) → reading text ≡ r → BlifOf text r
BlifOf-reading text (Ok m) e = value_read text m e
BlifOf-reading text (Err f) e = fault_read text f e

-- and the value or the fault is what `reading` answers
reading-BlifOf : (text : List ℕ) (r : Read) → BlifOf text r → reading text ≡ r
reading-BlifOf text (Ok m) h = read_value text m h
reading-BlifOf text (Err f) h = read_fault text f h

-- a text has a value or a first fault
pub reading_exists : (text : List ℕ) → (r : Read) × BlifOf text r
reading_exists text = (reading text, BlifOf-reading text (reading text) refl)

-- and no two
pub reading_is_unique : (text : List ℕ) (a b : Read) → BlifOf text a → BlifOf text b → a ≡ b
reading_is_unique text a b h k = sym (reading-BlifOf text a h) ∙ reading-BlifOf text b k

-- ---- no step says that memory was wanting

-- the answer isn't that memory was wanting
abbrev HasRoom : {A : Type 0} → Result A BlifError → Type 0
HasRoom (Ok x) = Unit {0}
HasRoom (Err f) = f ≢ NoMemory

-- a test between two answers
if_room : {A : Type 0} (b : Bool) (r s : Result A BlifError) → HasRoom r → HasRoom s → HasRoom (cond b r s)
if_room true r s h k = h
if_room false r s h k = k

-- a second step after a first one
bind_room : {A B : Type 0} (r : Result A BlifError) (f : A → Result B BlifError) → HasRoom r → ((x : A) → HasRoom (f x)) → HasRoom (r >>= f)
bind_room (Ok x) f h k = k x
bind_room (Err e) f h k = h

-- taking an input asks for no memory
input_room : (at : ℕ) (d : Draft) (name : List ℕ) → HasRoom (with_input at d name)
input_room at d name =
    if_room (is_among name (signals d)) _ _ (λ e. absurd cc)
    (if_room (nat_lt (length d.inputs) MAX_PORTS && nat_lt (signal_count d) MAX_SIGNALS) _ _ tt (λ e. absurd cc))

-- nor do the inputs of a line
inputs_room : (at : ℕ) (d : Draft) (names : List (List ℕ)) → HasRoom (with_inputs at d names)
inputs_room at d [] = tt
inputs_room at d (n ∷ ns) = bind_room (with_input at d n) _ (input_room at d n) (λ e. inputs_room at e ns)

-- nor an output
output_room : (at : ℕ) (d : Draft) (name : List ℕ) → HasRoom (with_output at d name)
output_room at d name =
    if_room (is_among name d.outputs) _ _ (λ e. absurd cc)
    (if_room (nat_lt (length d.outputs) MAX_PORTS) _ _ tt (λ e. absurd cc))

-- nor the outputs of a line
outputs_room : (at : ℕ) (d : Draft) (names : List (List ℕ)) → HasRoom (with_outputs at d names)
outputs_room at d [] = tt
outputs_room at d (n ∷ ns) = bind_room (with_output at d n) _ (output_room at d n) (λ e. outputs_room at e ns)

-- nor a cover that is opened
cover_room : (at : ℕ) (d : Draft) (ins : List (List ℕ)) (out : List ℕ) → HasRoom (with_cover at d ins out)
cover_room at d ins out =
    if_room (nat_lt MAX_PORTS (length ins)) _ _ (λ e. absurd cc)
    (if_room (is_among out (signals d)) _ _ (λ e. absurd cc)
    (if_room (nat_lt (signal_count d) MAX_SIGNALS) _ _ tt (λ e. absurd cc)))

-- nor the line of the model
model_room : (at : ℕ) (d : Draft) (names : List (List ℕ)) → HasRoom (with_model at d names)
model_room at d names =
    if_room d.begun _ _ (λ e. absurd cc) (if_room (nat_le (length names) 1) _ _ tt (λ e. absurd cc))

-- nor the line of a cover's names
names_room : (at : ℕ) (d : Draft) (names : List (List ℕ)) → HasRoom (with_names at d names)
names_room at d names = if_room (length names == 0) _ _ (λ e. absurd cc) (cover_room at d _ _)

-- nor the line that ends the model
end_room : (at : ℕ) (d : Draft) (names : List (List ℕ)) → HasRoom (with_end at d names)
end_room at d names = if_room (length names == 0) _ _ tt (λ e. absurd cc)

-- nor a row that is put onto its cover
row_room : (at : ℕ) (c : CoverValue) (parts : Option (List ℕ × List ℕ)) → HasRoom (row_onto at c parts)
row_room at c None = λ e. absurd cc
row_room at c (Some row) =
    if_room (is_row c row.0 row.1) _ _ (if_room (agrees c (bit_of row.1)) _ _ tt (λ e. absurd cc)) (λ e. absurd cc)

-- nor the line of a row
row_line_room : (at : ℕ) (d : Draft) (current : Option CoverValue) (row : List (List ℕ)) → HasRoom (with_row_line at d current row)
row_line_room at d None row = λ e. absurd cc
row_line_room at d (Some c) row = bind_room (row_onto at c (row_parts (length c.ins) row)) _ (row_room at c _) (λ e. tt)

-- nor a line of any kind
line_room : (kind : LineKind) (at : ℕ) (d : Draft) (first : List ℕ) (names : List (List ℕ)) → HasRoom (with_line kind at d first names)
line_room Model at d first names = model_room at (closed d) names
line_room Inputs at d first names = inputs_room at (closed d) names
line_room Outputs at d first names = outputs_room at (closed d) names
line_room Names at d first names = names_room at (closed d) names
line_room End at d first names = end_room at (closed d) names
line_room Other at d first names = λ e. absurd cc
line_room Row at d first names = row_line_room at d d.current (first ∷ names)

-- the fault of a line behind the end is another one
after_end_room : (kind : LineKind) (at : ℕ) → after_end kind at ≢ NoMemory
after_end_room Model at = λ e. absurd cc
after_end_room Inputs at = λ e. absurd cc
after_end_room Outputs at = λ e. absurd cc
after_end_room Names at = λ e. absurd cc
after_end_room End at = λ e. absurd cc
after_end_room Other at = λ e. absurd cc
after_end_room Row at = λ e. absurd cc

-- the words of a line ask for no memory
words_room : (at : ℕ) (d : Draft) (words : List (List ℕ)) → HasRoom (with_words at d words)
words_room at d [] = tt
words_room at d (first ∷ names) =
    if_room (list_all is_sound (first ∷ names)) _ _
    (if_room d.ended _ _ (after_end_room (kind_of first) at)
    (bind_room (with_line (kind_of first) at d first names) _ (line_room (kind_of first) at d first names) (λ e. tt)))
    (λ e. absurd cc)

-- nor do lines one after the other
statements_room : (d : Draft) (ss : List Statement) → HasRoom (with_statements d ss)
statements_room d [] = tt
statements_room d (s ∷ ss) = bind_room (with_words s.at d s.words) _ (words_room s.at d s.words) (λ e. statements_room e ss)

-- nor the end of the text
finished_room : (d : Draft) → HasRoom (finished d)
finished_room d = if_room (length d.outputs == 0) _ _ (λ e. absurd cc) tt

-- so no reading does
reading_room : (text : List ℕ) → HasRoom (reading text)
reading_room text =
    if_room (nat_le (length text) MAX_BYTES) _ _
    (bind_room (with_statements start (statements text)) _ (statements_room start (statements text)) finished_room)
    (λ e. absurd cc)

-- that memory was wanting is the fault of no text
pub no_text_wants_memory : (text : List ℕ) → BlifFault text NoMemory → ⊥
no_text_wants_memory text h =
    let P : Read → Type 0 = λ r. HasRoom r in
    subst P (read_fault text NoMemory h) (reading_room text) refl
