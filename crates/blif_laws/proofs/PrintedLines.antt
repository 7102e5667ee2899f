-- The lines of a printed design lead to that design.
use Rattle.std.proofs.Common.{◌≡◌, ◌≢◌, ℕ, suc, ◌+◌, ◌-◌, ◌<◌, ◌≤◌, ◌⊎◌, Bool, true, false, not, ◌&&◌, ◌||◌, cond, List, [], ◌∷◌, ◌++◌, length, take, map, get_or, Option, Some, None, Result, Ok, Err, refl, sym, ap, subst, ◌∙◌, append_assoc, arith, ⊎_elim, inl, inr, length-append}
use Rattle.std.specs.Prelude.{◌==◌, nat_lt, codes}
use Rattle.std.specs.Option.{option_to_list}
use Rattle.std.specs.List.{AllByRecursion, IsDistinct, list_all, flat_map}
use Rattle.std.specs.Str.{bytes_eq}
use Rattle.std.proofs.lemmas.Bool.Decides.{nat_tests}
use Rattle.std.proofs.lemmas.List.{append-nil, take_at, map-append, length-map}
use Rattle.std.proofs.lemmas.Map.Keys.{IsDistinct-head, IsDistinct-tail, IsDistinct-cons}
use Rattle.std.proofs.Math.Seq.{get_or-append_seam}
use Rattle.blif_defs.specs.declared.kind.LineKind.{LineKind}
use Rattle.blif_defs.specs.declared.kind.LineKind.TheVariants.{Model, Inputs, Outputs, Names, End, Row}
use Rattle.blif_defs.specs.declared.mark.Mark.{Mark}
use Rattle.blif_defs.specs.declared.mark.Mark.TheVariants.{Zero, One, Any}
use Rattle.blif_defs.specs.declared.mark.TheConstants.{MAX_BYTES, MAX_PORTS, MAX_SIGNALS}
use Rattle.blif_defs.specs.Words.{is_sound, IsWord}
use Rattle.blif_defs.specs.Lines.{without_last}
use Rattle.blif_defs.specs.declared.error.BlifError.{BlifError}
use Rattle.blif_defs.specs.declared.error.BlifError.TheVariants.{Syntax, Mixed}
use Rattle.text_defs.specs.Steps.{◌>>=◌}
use Rattle.blif_defs.specs.Values.{CoverValue, IsCover, BlifValue, IsBlif, signals_of}
use Rattle.blif_defs.specs.Drafts.{Draft, start, signals, signal_count, is_among}
use Rattle.blif_defs.specs.Rows.{is_mark, mark_of, is_bit, bit_of, row_parts, is_row, agrees, with_row, row_onto}
use Rattle.blif_defs.specs.Grammar.{Statement, statements, kind_of, with_input, with_inputs, with_output, with_outputs, with_cover, with_names, with_row_line, with_line, with_words, after_end, begun_with}
use Rattle.blif_defs.specs.Texts.{Follows, BlifText}
use Rattle.blif_defs.specs.Printing.{mark_byte, bit_word, row_words, cover_lines, model_lines, input_lines, blif_lines, blif_text}
use Rattle.blif_laws.proofs.Following.{ok}
use Rattle.blif_laws.proofs.Sets.{All-append, All-left, All-right, bytes_eq_comm}
use Rattle.blif_laws.proofs.LineWords.{and}
use Rattle.blif_laws.proofs.LineTexts.{numbered, from_line-printed}
use Rattle.blif_laws.proofs.PrintedWords.{model_word, inputs_word, outputs_word, names_word, end_word, row_words-all, blif_lines-IsLine}

-- lines of words lead from the one draft to the other
abbrev pub Leads : ℕ → Draft → List (List (List ℕ)) → Draft → Type 0
Leads at d [] e = d ≡ e
Leads at d (line ∷ lines) e = (n : Draft) × (with_words at d line ≡ Ok n) × Leads (at + 1) n lines e

-- lines lead on from where the lines before them led
Leads-append : (at : ℕ) (d : Draft) (xs ys : List (List (List ℕ))) (e f : Draft) → Leads at d xs e → ((at : ℕ) → Leads at e ys f) → Leads at d (xs ++ ys) f
Leads-append at d [] ys e f h k = subst (λ (x : Draft). Leads at x ys f) (sym h) (k at)
Leads-append at d (x ∷ xs) ys e f h k = (h.0, h.1, Leads-append (at + 1) h.0 xs ys e f h.2 k)

-- lines with their numbers are followed where the lines lead
Follows-numbered : (at : ℕ) (d : Draft) (lines : List (List (List ℕ))) (e : Draft) → Leads at d lines e → Follows d (numbered at lines) e
Follows-numbered at d [] e h = (d, refl, h)
Follows-numbered at d (line ∷ lines) e h = (h.0, h.1, Follows-numbered (at + 1) h.0 lines e h.2)

-- a draft before `.end`
abbrev draft : List ℕ → List (List ℕ) → List (List ℕ) → List CoverValue → Option CoverValue → Bool → Draft
draft model inputs outputs covers current begun =
    record { model = model; inputs = inputs; outputs = outputs; covers = covers; current = current; begun = begun; ended = false }

-- words have no strange byte
sound_all : (ws : List (List ℕ)) → AllByRecursion IsWord ws → list_all is_sound ws ≡ true
sound_all [] h = refl
sound_all (w ∷ ws) h = and (is_sound w) (list_all is_sound ws) h.0.sound (sound_all ws h.1)

-- words without a strange byte before the end are taken by their kind
by_tests : (sound ended : Bool) (f g : BlifError) (r : Result Draft BlifError) → sound ≡ true → ended ≡ false → cond sound (cond ended (Err f) r) (Err g) ≡ r
by_tests true false f g r e h = refl
by_tests true true f g r e h = absurd cc
by_tests false ended f g r e h = absurd cc

-- one line
run_line : (at : ℕ) (d : Draft) (first : List ℕ) (names : List (List ℕ)) (kind : LineKind) (e : Draft) → AllByRecursion IsWord (first ∷ names) → d.ended ≡ false → kind_of first ≡ kind
    → with_line kind at d first names ≡ Ok e → with_words at d (first ∷ names) ≡ Ok (begun_with e)
run_line at d first names kind e words before is h =
    by_tests (list_all is_sound (first ∷ names)) d.ended (after_end (kind_of first) at) (Syntax at) (with_line (kind_of first) at d first names >>= λ x. Ok (begun_with x)) (sound_all (first ∷ names) words) before
    ∙ ap (λ (k : LineKind). with_line k at d first names >>= λ x. Ok (begun_with x)) is
    ∙ ap (λ (r : Result Draft BlifError). r >>= λ x. Ok (begun_with x)) h

-- ---- names

-- a name of distinct ones isn't among those before it
absent_before : (xs : List (List ℕ)) (name : List ℕ) (ys : List (List ℕ)) → IsDistinct bytes_eq (xs ++ name ∷ ys) → is_among name xs ≡ false
absent_before [] name ys h = refl
absent_before (x ∷ xs) name ys h =
    let apart = (All-right (λ n. bytes_eq x n ≡ false) xs (name ∷ ys) (IsDistinct-head bytes_eq x (xs ++ name ∷ ys) h)).0 in
    rw (bytes_eq_comm name x, apart, absent_before xs name ys (IsDistinct-tail bytes_eq x (xs ++ name ∷ ys) h)) refl

-- less is what the test of less says
below : (n m : ℕ) → n < m → nat_lt n m ≡ true
below n m h = grind (arith, nat_tests)

-- the next of distinct inputs is taken
take_input : (at : ℕ) (model : List ℕ) (before : List (List ℕ)) (begun : Bool) (name : List ℕ) (after : List (List ℕ)) → IsDistinct bytes_eq (before ++ name ∷ after)
    → length (before ++ name ∷ after) ≤ MAX_PORTS → with_input at (draft model before [] [] None begun) name ≡ Ok (draft model (before ++ name ∷ []) [] [] None begun)
take_input at model before begun name after differ within =
    let fresh : is_among name (before ++ []) ≡ false = ap (is_among name) (append-nil before) ∙ absent_before before name after differ in
    let ports : nat_lt (length before) MAX_PORTS ≡ true = below (length before) MAX_PORTS (omega (arith, length-append before (name ∷ after))) in
    let count : nat_lt (length before + 0) MAX_SIGNALS ≡ true = below (length before + 0) MAX_SIGNALS (omega (arith, length-append before (name ∷ after))) in
    rw (fresh, ports, count) refl

-- so are all inputs of a line
take_inputs : (at : ℕ) (model : List ℕ) (before : List (List ℕ)) (begun : Bool) (names : List (List ℕ)) → IsDistinct bytes_eq (before ++ names) → length (before ++ names) ≤ MAX_PORTS
    → with_inputs at (draft model before [] [] None begun) names ≡ Ok (draft model (before ++ names) [] [] None begun)
take_inputs at model before begun [] differ within = ap (λ (ns : List (List ℕ)). ok (draft model ns [] [] None begun)) (sym (append-nil before))
take_inputs at model before begun (n ∷ ns) differ within =
    let same = append_assoc before (n ∷ []) ns in
    rw (take_input at model before begun n ns differ within)
    (take_inputs at model (before ++ n ∷ []) begun ns (subst (λ (xs : List (List ℕ)). IsDistinct bytes_eq xs) (sym same) differ) (subst (λ (xs : List (List ℕ)). length xs ≤ MAX_PORTS) (sym same) within)
    ∙ ap (λ (xs : List (List ℕ)). ok (draft model xs [] [] None begun)) same)

-- the next of distinct outputs is taken
take_output : (at : ℕ) (model : List ℕ) (inputs before : List (List ℕ)) (begun : Bool) (name : List ℕ) (after : List (List ℕ)) → IsDistinct bytes_eq (before ++ name ∷ after)
    → length (before ++ name ∷ after) ≤ MAX_PORTS → with_output at (draft model inputs before [] None begun) name ≡ Ok (draft model inputs (before ++ name ∷ []) [] None begun)
take_output at model inputs before begun name after differ within =
    let fresh : is_among name before ≡ false = absent_before before name after differ in
    let ports : nat_lt (length before) MAX_PORTS ≡ true = below (length before) MAX_PORTS (omega (arith, length-append before (name ∷ after))) in
    rw (fresh, ports) refl

-- so are all outputs of a line
take_outputs : (at : ℕ) (model : List ℕ) (inputs before : List (List ℕ)) (begun : Bool) (names : List (List ℕ)) → IsDistinct bytes_eq (before ++ names) → length (before ++ names) ≤ MAX_PORTS
    → with_outputs at (draft model inputs before [] None begun) names ≡ Ok (draft model inputs (before ++ names) [] None begun)
take_outputs at model inputs before begun [] differ within = ap (λ (ns : List (List ℕ)). ok (draft model inputs ns [] None begun)) (sym (append-nil before))
take_outputs at model inputs before begun (n ∷ ns) differ within =
    let same = append_assoc before (n ∷ []) ns in
    rw (take_output at model inputs before begun n ns differ within)
    (take_outputs at model inputs (before ++ n ∷ []) begun ns (subst (λ (xs : List (List ℕ)). IsDistinct bytes_eq xs) (sym same) differ) (subst (λ (xs : List (List ℕ)). length xs ≤ MAX_PORTS) (sym same) within)
    ∙ ap (λ (xs : List (List ℕ)). ok (draft model inputs xs [] None begun)) same)

-- ---- the first lines

-- the line of the model, if there is one, leads to a draft with its name alone
pub model_leads : (at : ℕ) (model : List ℕ) → (model ≡ []) ⊎ IsWord model → (begun : Bool) × Leads at start (model_lines model) (draft model [] [] [] None begun)
model_leads at [] h = (false, refl)
model_leads at (b ∷ bs) h =
    let w : IsWord (b ∷ bs) = ⊎_elim (λ (e : (b ∷ bs) ≡ []). absurd (never b bs e)) (λ w. w) h in
    (true, (draft (b ∷ bs) [] [] [] None true, run_line at start (codes ".model") ((b ∷ bs) ∷ []) Model (draft (b ∷ bs) [] [] [] None false) (model_word, (w, tt)) refl refl refl, refl))
  where
    never : (b : ℕ) (bs : List ℕ) → (b ∷ bs) ≡ [] → ⊥
    never b bs e = cc

-- the line of the inputs, if there is one, leads to a draft with them
inputs_lead : (at : ℕ) (model : List ℕ) (begun : Bool) (inputs : List (List ℕ)) → AllByRecursion IsWord inputs → IsDistinct bytes_eq inputs → length inputs ≤ MAX_PORTS
    → (begun' : Bool) × Leads at (draft model [] [] [] None begun) (input_lines inputs) (draft model inputs [] [] None begun')
inputs_lead at model begun [] words differ within = (begun, refl)
inputs_lead at model begun (n ∷ ns) words differ within = (
  true,
  (
    draft model (n ∷ ns) [] [] None true,
    run_line at (draft model [] [] [] None begun) (codes ".inputs") (n ∷ ns) Inputs (draft model (n ∷ ns) [] [] None begun) (inputs_word, words) refl refl (take_inputs at model [] begun (n ∷ ns) differ within),
    refl,
  ),
)

-- the line of the outputs leads to a draft with them
outputs_lead : (at : ℕ) (model : List ℕ) (inputs : List (List ℕ)) (begun : Bool) (outputs : List (List ℕ)) → AllByRecursion IsWord outputs → IsDistinct bytes_eq outputs → length outputs ≤ MAX_PORTS
    → with_words at (draft model inputs [] [] None begun) (codes ".outputs" ∷ outputs) ≡ Ok (draft model inputs outputs [] None true)
outputs_lead at model inputs begun outputs words differ within =
    run_line at (draft model inputs [] [] None begun) (codes ".outputs") outputs Outputs (draft model inputs outputs [] None begun) (outputs_word, words) refl refl (take_outputs at model inputs [] begun outputs differ within)

-- ---- the rows of a cover

-- the byte of a mark is one that a row may have
mark_mark : (m : Mark) → is_mark (mark_byte m) ≡ true
mark_mark Zero = refl
mark_mark One = refl
mark_mark Any = refl

-- so are those of the marks of a row
marks_mark : (ms : List Mark) → list_all is_mark (map mark_byte ms) ≡ true
marks_mark [] = refl
marks_mark (m ∷ ms) = and (is_mark (mark_byte m)) (list_all is_mark (map mark_byte ms)) (mark_mark m) (marks_mark ms)

-- the byte of a mark is read as that mark
mark_again : (m : Mark) → mark_of (mark_byte m) ≡ m
mark_again Zero = refl
mark_again One = refl
mark_again Any = refl

-- so are those of the marks of a row
marks_again : (ms : List Mark) → map mark_of (map mark_byte ms) ≡ ms
marks_again [] = refl
marks_again (m ∷ ms) = ap (λ (x : Mark). x ∷ map mark_of (map mark_byte ms)) (mark_again m) ∙ ap (λ (xs : List Mark). m ∷ xs) (marks_again ms)

-- the word of a sign is one that a row may end with
bit_is_bit : (on : Bool) → is_bit (bit_word on) ≡ true
bit_is_bit false = refl
bit_is_bit true = refl

-- the word of a sign is read as that sign
bit_again : (on : Bool) → bit_of (bit_word on) ≡ on
bit_again false = refl
bit_again true = refl

-- the open cover after some of its rows
abbrev opened : CoverValue → Bool → List (List Mark) → CoverValue
opened c on rows = record { ins = c.ins; out = c.out; on = on; rows = rows }

-- a count that is 0 passes the test for it
none_of : (n : ℕ) → n ≡ 0 → (n == 0) ≡ true
none_of n h = grind (arith, nat_tests)

-- a count of one or more doesn't
some_of : (n : ℕ) → (suc n == 0) ≡ false
some_of n = grind (arith, nat_tests)

-- equal numbers pass the test of equality
equal_to : (n m : ℕ) → n ≡ m → (n == m) ≡ true
equal_to n m h = grind (arith, nat_tests)

-- the parts of a printed row
parts_again : (inputs : ℕ) (on : Bool) (row : List Mark) → length row ≡ inputs → row_parts inputs (row_words on row) ≡ Some (map mark_byte row, bit_word on)
parts_again inputs on [] h = rw (none_of inputs (sym h)) refl
parts_again inputs on (m ∷ ms) h =
    let e : (inputs == 0) ≡ false = ap (λ (n : ℕ). n == 0) (sym h) ∙ some_of (length ms) in
    rw e refl

-- a cover takes its own sign where its rows have it
same_output : (on : Bool) → cond on on (not on) ≡ true
same_output true = refl
same_output false = refl

-- one true test of two is enough
either_true : (a b : Bool) → b ≡ true → (a || b) ≡ true
either_true true b h = refl
either_true false b h = h

-- a row with the cover's sign agrees with the rows before it
agrees_again : (c : CoverValue) (on : Bool) (rows : List (List Mark)) → (rows ≡ []) ⊎ (on ≡ c.on) → agrees (opened c on rows) c.on ≡ true
agrees_again c on rows h =
    ⊎_elim (λ (e : rows ≡ []). ap (λ (rs : List (List Mark)). (length rs == 0) || cond c.on on (not on)) e)
    (λ (e : on ≡ c.on). either_true (length rows == 0) (cond c.on on (not on)) (ap (λ (b : Bool). cond c.on b (not b)) e ∙ same_output c.on)) h

-- the words of a row are read as that row, behind those before it
row_again : (at : ℕ) (c : CoverValue) (on : Bool) (rows : List (List Mark)) (row : List Mark) → length row ≡ length c.ins → (rows ≡ []) ⊎ (on ≡ c.on)
    → row_onto at (opened c on rows) (row_parts (length c.ins) (row_words c.on row)) ≡ Ok (opened c c.on (rows ++ row ∷ []))
row_again at c on rows row len h =
    let marks = map mark_byte row in
    let bit = bit_word c.on in
    let len-is : (length marks == length c.ins) ≡ true = equal_to (length marks) (length c.ins) (length-map row mark_byte ∙ len) in
    let right : is_row (opened c on rows) marks bit ≡ true =
    and ((length marks == length c.ins) && list_all is_mark marks) (is_bit bit) (and (length marks == length c.ins) (list_all is_mark marks) len-is (marks_mark row)) (bit_is_bit c.on) in
    let same : agrees (opened c on rows) (bit_of bit) ≡ true = ap (agrees (opened c on rows)) (bit_again c.on) ∙ agrees_again c on rows h in
    ap (row_onto at (opened c on rows)) (parts_again (length c.ins) c.on row len)
    ∙ by_row at (opened c on rows) (is_row (opened c on rows) marks bit) (agrees (opened c on rows) (bit_of bit)) (with_row (opened c on rows) marks (bit_of bit)) right same
    ∙ ap (λ (b : Bool). ok (with_row (opened c on rows) marks b)) (bit_again c.on)
    ∙ ap (λ (ms : List Mark). ok (opened c c.on (rows ++ ms ∷ []))) (marks_again row)
  where
    by_row : (at : ℕ) (c : CoverValue) (right same : Bool) (e : CoverValue) → right ≡ true → same ≡ true → cond right (cond same (ok e) (Err (Mixed at))) (Err (Syntax at)) ≡ ok e
    by_row at c true true e h k = refl
    by_row at c true false e h k = absurd cc
    by_row at c false same e h k = absurd cc

-- the first word of a row is no keyword
row_kind_marks : (m : Mark) (ms : List Mark) → kind_of (map mark_byte (m ∷ ms)) ≡ Row
row_kind_marks Zero ms = refl
row_kind_marks One ms = refl
row_kind_marks Any ms = refl

-- the word of a sign alone is a row
row_kind_bit : (on : Bool) → kind_of (bit_word on) ≡ Row
row_kind_bit false = refl
row_kind_bit true = refl

-- the lines of the rows that are left
pub rows_lead : (at : ℕ) (model : List ℕ) (inputs outputs : List (List ℕ)) (covers : List CoverValue) (c : CoverValue) (on : Bool) (done rest : List (List Mark))
    → AllByRecursion (λ row. length row ≡ length c.ins) rest → (done ≡ []) ⊎ (on ≡ c.on) → done ++ rest ≡ c.rows → (rest ≡ [] → on ≡ c.on)
    → Leads at (draft model inputs outputs covers (Some (opened c on done)) true) (map (row_words c.on) rest) (draft model inputs outputs covers (Some c) true)
rows_lead at model inputs outputs covers c on done [] fits same all end =
    ap (λ (rows : List (List Mark)). draft model inputs outputs covers (Some (opened c on rows)) true) (sym (append-nil done) ∙ all)
    ∙ ap (λ (b : Bool). draft model inputs outputs covers (Some (opened c b c.rows)) true) (end refl)
rows_lead at model inputs outputs covers c on done (row ∷ rest) fits same all end =
    let here = draft model inputs outputs covers (Some (opened c on done)) true in
    let next = draft model inputs outputs covers (Some (opened c c.on (done ++ row ∷ []))) true in (
      next,
      row_line at here c on done row next refl refl refl fits.0 same,
      rows_lead (at + 1) model inputs outputs covers c c.on (done ++ row ∷ []) rest fits.1 (inr refl) (append_assoc done (row ∷ []) rest ∙ all) (λ _. refl),
    )
  where
    line_by : (at : ℕ) (here : Draft) (c : CoverValue) (on : Bool) (done : List (List Mark)) (row : List Mark) → here.current ≡ Some (opened c on done) → length row ≡ length c.ins → (done ≡ []) ⊎ (on ≡ c.on)
        → with_row_line at here here.current (row_words c.on row) ≡ ok (record here { current = Some (opened c c.on (done ++ row ∷ [])) })
    line_by at here c on done row is len same =
        ap (λ (o : Option CoverValue). with_row_line at here o (row_words c.on row)) is
        ∙ ap (λ (r : Result CoverValue BlifError). r >>= λ e. Ok (record here { current = Some e })) (row_again at c on done row len same)

    row_line : (at : ℕ) (here : Draft) (c : CoverValue) (on : Bool) (done : List (List Mark)) (row : List Mark) (next : Draft) → here.ended ≡ false → here.current ≡ Some (opened c on done)
        → next ≡ begun_with (record here { current = Some (opened c c.on (done ++ row ∷ [])) }) → length row ≡ length c.ins → (done ≡ []) ⊎ (on ≡ c.on)
        → with_words at here (row_words c.on row) ≡ Ok next
    row_line at here c on done [] next before is next-is len same =
        run_line at here (bit_word c.on) [] Row (record here { current = Some (opened c c.on (done ++ [] ∷ [])) }) (row_words-all c.on []) before (row_kind_bit c.on) (line_by at here c on done [] is len same)
        ∙ ap ok (sym next-is)
    row_line at here c on done (m ∷ ms) next before is next-is len same =
        run_line at here (map mark_byte (m ∷ ms)) (bit_word c.on ∷ []) Row (record here { current = Some (opened c c.on (done ++ (m ∷ ms) ∷ [])) }) (row_words-all c.on (m ∷ ms)) before (row_kind_marks m ms) (line_by at here c on done (m ∷ ms) is len same)
        ∙ ap ok (sym next-is)

-- ---- covers

-- the line that opens a cover
pub opening : (at : ℕ) (model : List ℕ) (inputs outputs : List (List ℕ)) (covers : List CoverValue) (begun : Bool) (c : CoverValue) → length c.ins ≤ MAX_PORTS → is_among c.out (signals_of inputs covers) ≡ false
    → length inputs + length covers < MAX_SIGNALS
    → with_names at (draft model inputs outputs covers None begun) (c.ins ++ c.out ∷ []) ≡ Ok (draft model inputs outputs covers (Some (opened c true [])) begun)
opening at model inputs outputs covers begun c within fresh room =
    let d = draft model inputs outputs covers None begun in
    let len : length (c.ins ++ c.out ∷ []) ≡ length c.ins + 1 = length-append c.ins (c.out ∷ []) in
    let some : (length (c.ins ++ c.out ∷ []) == 0) ≡ false = not_none (length (c.ins ++ c.out ∷ [])) (omega arith) in
    let last : length (c.ins ++ c.out ∷ []) - 1 ≡ length c.ins = omega arith in
    let ins-is : take (length (c.ins ++ c.out ∷ []) - 1) (c.ins ++ c.out ∷ []) ≡ c.ins = take_at c.ins (c.out ∷ []) (length (c.ins ++ c.out ∷ []) - 1) (sym last) in
    let out-is : get_or (c.ins ++ c.out ∷ []) (length (c.ins ++ c.out ∷ []) - 1) [] ≡ c.out = ap (λ (n : ℕ). get_or (c.ins ++ c.out ∷ []) n []) last ∙ get_or-append_seam c.ins c.out [] [] in
    let few : nat_lt MAX_PORTS (length c.ins) ≡ false = not_below MAX_PORTS (length c.ins) within in
    let all : covers ++ [] ≡ covers = append-nil covers in
    let fresh : is_among c.out (signals d) ≡ false = ap (λ (cs : List CoverValue). is_among c.out (signals_of inputs cs)) all ∙ fresh in
    let len-all : length (covers ++ []) ≡ length covers = ap length all in
    let count : nat_lt (signal_count d) MAX_SIGNALS ≡ true = below (signal_count d) MAX_SIGNALS (omega arith) in
    ap (λ (b : Bool). cond b (Err (Syntax at)) (with_cover at d (without_last (c.ins ++ c.out ∷ [])) (get_or (c.ins ++ c.out ∷ []) (length (c.ins ++ c.out ∷ []) - 1) []))) some
    ∙ ap (λ (ns : List (List ℕ)). with_cover at d ns (get_or (c.ins ++ c.out ∷ []) (length (c.ins ++ c.out ∷ []) - 1) [])) ins-is
    ∙ ap (λ (n : List ℕ). with_cover at d c.ins n) out-is
    ∙ rw (few, fresh, count) refl
  where
    not_none : (n : ℕ) → 0 < n → (n == 0) ≡ false
    not_none n h = grind (arith, nat_tests)

    not_below : (n m : ℕ) → m ≤ n → nat_lt n m ≡ false
    not_below n m h = grind (arith, nat_tests)

-- the closed covers and the open one after the lines of these covers
abbrev end_of : List CoverValue → Option CoverValue → List CoverValue → List CoverValue × Option CoverValue
end_of covers current [] = (covers, current)
end_of covers current (c ∷ cs) = end_of (covers ++ option_to_list current) (Some c) cs

-- the covers after these lines are those before, and then the covers of the lines
end_of-all : (covers : List CoverValue) (current : Option CoverValue) (rest : List CoverValue)
    → (end_of covers current rest).0 ++ option_to_list (end_of covers current rest).1 ≡ (covers ++ option_to_list current) ++ rest
end_of-all covers current [] = sym (append-nil (covers ++ option_to_list current))
end_of-all covers current (c ∷ cs) =
    end_of-all (covers ++ option_to_list current) (Some c) cs ∙ append_assoc (covers ++ option_to_list current) (c ∷ []) cs

-- the signals are those up to a cover, its output, and the outputs behind it
signals_split : (inputs : List (List ℕ)) (before : List CoverValue) (c : CoverValue) (after : List CoverValue)
    → signals_of inputs (before ++ c ∷ after) ≡ signals_of inputs before ++ c.out ∷ map (λ d. d.out) after
signals_split inputs before c after =
    ap (λ (ns : List (List ℕ)). inputs ++ ns) (map-append (λ d. d.out) before (c ∷ after))
    ∙ sym (append_assoc inputs (map (λ d. d.out) before) (c.out ∷ map (λ d. d.out) after))

-- the lines of covers lead to a draft with them
covers_lead : (at : ℕ) (model : List ℕ) (inputs outputs : List (List ℕ)) (covers : List CoverValue) (current : Option CoverValue) (rest : List CoverValue) → AllByRecursion IsCover rest
    → IsDistinct bytes_eq (signals_of inputs ((covers ++ option_to_list current) ++ rest)) → length inputs + length ((covers ++ option_to_list current) ++ rest) ≤ MAX_SIGNALS
    → Leads at (draft model inputs outputs covers current true) (flat_map cover_lines rest) (draft model inputs outputs (end_of covers current rest).0 (end_of covers current rest).1 true)
covers_lead at model inputs outputs covers current [] h differ within = refl
covers_lead at model inputs outputs covers current (c ∷ cs) h differ within =
    let all = covers ++ option_to_list current in
    let here = draft model inputs outputs covers current true in
    let next = draft model inputs outputs all (Some (opened c true [])) true in
    let mid = draft model inputs outputs all (Some c) true in
    let fresh : is_among c.out (signals_of inputs all) ≡ false =
    absent_before (signals_of inputs all) c.out (map (λ d. d.out) cs) (subst (λ (ns : List (List ℕ)). IsDistinct bytes_eq ns) (signals_split inputs all c cs) differ) in
    let room : length inputs + length all < MAX_SIGNALS = omega (arith, length-append all (c ∷ cs)) in
    let same : (all ++ c ∷ []) ++ cs ≡ all ++ c ∷ cs = append_assoc all (c ∷ []) cs in (
      next,
      run_line at here (codes ".names") (c.ins ++ c.out ∷ []) Names next (names_word, All-append IsWord c.ins (c.out ∷ []) h.0.ins (h.0.out, tt)) refl refl (opening at model inputs outputs all true c h.0.within fresh room),
      Leads-append (at + 1) next (map (row_words c.on) c.rows) (flat_map cover_lines cs) mid (draft model inputs outputs (end_of covers current (c ∷ cs)).0 (end_of covers current (c ∷ cs)).1 true)
          (rows_lead (at + 1) model inputs outputs all c true [] c.rows h.0.rows (inl refl) refl (λ e. sym (h.0.on e)))
          (λ (at : ℕ). covers_lead at model inputs outputs all (Some c) cs h.1 (subst (λ (ds : List CoverValue). IsDistinct bytes_eq (signals_of inputs ds)) (sym same) differ)
          (subst (λ (ds : List CoverValue). length inputs + length ds ≤ MAX_SIGNALS) (sym same) within)),
    )

-- ---- the whole

-- no names are distinct
nothing_twice : IsDistinct bytes_eq []
unfolding IsDistinct
nothing_twice = tt

-- the first of distinct names are distinct
distinct_left : (xs ys : List (List ℕ)) → IsDistinct bytes_eq (xs ++ ys) → IsDistinct bytes_eq xs
distinct_left [] ys d = nothing_twice
distinct_left (x ∷ xs) ys d =
    IsDistinct-cons bytes_eq x xs (All-left (λ n. bytes_eq x n ≡ false) xs ys (IsDistinct-head bytes_eq x (xs ++ ys) d)) (distinct_left xs ys (IsDistinct-tail bytes_eq x (xs ++ ys) d))

-- the inputs of a design are distinct
distinct_inputs : (m : BlifValue) → IsBlif m → IsDistinct bytes_eq m.inputs
distinct_inputs m h = distinct_left m.inputs (map (λ c. c.out) m.covers) h.signals_differ

-- the draft of a design before its text ends
abbrev last_draft : BlifValue → Draft
last_draft m =
    let e = end_of [] None m.covers in
    record { model = m.model; inputs = m.inputs; outputs = m.outputs; covers = e.0 ++ option_to_list e.1; current = None; begun = true; ended = true }

-- the lines of a design lead to its draft
all_lead : (m : BlifValue) → IsBlif m → Leads 1 start (blif_lines m) (last_draft m)
all_lead m h =
    let b = model_leads 1 m.model h.model in
    let covers = flat_map cover_lines m.covers in
    let end : List (List (List ℕ)) = (codes ".end" ∷ []) ∷ [] in
    let e = end_of [] None m.covers in
    let before_end = draft m.model m.inputs m.outputs e.0 e.1 true in
    let ends : (at : ℕ) → Leads at before_end end (last_draft m) = λ at.
    (last_draft m, run_line at before_end (codes ".end") [] End (last_draft m) (end_word, tt) refl refl refl, refl) in
    let body : (at : ℕ) → Leads at (draft m.model m.inputs m.outputs [] None true) (covers ++ end) (last_draft m) = λ at.
    Leads-append at (draft m.model m.inputs m.outputs [] None true) covers end before_end (last_draft m)
    (covers_lead at m.model m.inputs m.outputs [] None m.covers h.covers h.signals_differ h.signals_within) ends in
    let after_model : (at : ℕ) → Leads at (draft m.model [] [] [] None b.0) (input_lines m.inputs ++ (codes ".outputs" ∷ m.outputs) ∷ (covers ++ end)) (last_draft m) = λ at.
    let i = inputs_lead at m.model b.0 m.inputs h.inputs (distinct_inputs m h) h.inputs_within in
    Leads-append at (draft m.model [] [] [] None b.0) (input_lines m.inputs) ((codes ".outputs" ∷ m.outputs) ∷ (covers ++ end)) (draft m.model m.inputs [] [] None i.0) (last_draft m) i.1
    (λ (at : ℕ). (draft m.model m.inputs m.outputs [] None true, outputs_lead at m.model m.inputs i.0 m.outputs h.outputs h.outputs_differ h.outputs_within, body (at + 1))) in
    Leads-append 1 start (model_lines m.model) (input_lines m.inputs ++ (codes ".outputs" ∷ m.outputs) ∷ (covers ++ end)) (draft m.model [] [] [] None b.0) (last_draft m) b.1 after_model

-- one output or more is some output
outputs_there : (outputs : List (List ℕ)) → 1 ≤ length outputs → outputs ≢ []
outputs_there [] h e = absurd (omega arith)
outputs_there (o ∷ os) h e = cc

-- the text of a design has that design as its value
pub printed_again : (m : BlifValue) → IsBlif m → length (blif_text m) ≤ MAX_BYTES → BlifText (blif_text m) m
printed_again m h short =
    let again : statements (blif_text m) ≡ numbered 1 (blif_lines m) = from_line-printed 1 (blif_lines m) (blif_lines-IsLine m h) in
    let e = end_of [] None m.covers in
    let all : (e.0 ++ option_to_list e.1) ++ [] ≡ m.covers = append-nil (e.0 ++ option_to_list e.1) ∙ end_of-all [] None m.covers in
    record {
      short = short;
      end = last_draft m;
      follows = subst (λ (ss : List Statement). Follows start ss (last_draft m)) (sym again) (Follows-numbered 1 start (blif_lines m) (last_draft m) (all_lead m h));
      outputs = outputs_there m.outputs h.outputs_some;
      value = ap (λ (cs : List CoverValue). record m { covers = cs }) all;
    }
