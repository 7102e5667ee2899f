-- The rows of a design take no more bytes than the text that it was read from.
use Rattle.std.proofs.Common.{◌≡◌, ℕ, ◌+◌, ◌≤◌, Bool, true, false, ◌&&◌, cond, List, [], ◌∷◌, ◌++◌, length, map, get_or, Option, Some, None, Ok, sum_by, refl, sym, ap, ◌∙◌, arith}
use Rattle.std.specs.Prelude.{◌==◌, nat_lt, nat_le}
use Rattle.std.specs.Option.{option_to_list}
use Rattle.std.specs.List.{list_all}
use Rattle.std.proofs.lemmas.List.{append-nil, length-map}
use Rattle.std.proofs.lemmas.List.Sums.{sum_by-cons, sum_by-append, sum_by_push}
use Rattle.blif_defs.specs.declared.kind.LineKind.{LineKind}
use Rattle.blif_defs.specs.declared.kind.LineKind.TheVariants.{Model, Inputs, Outputs, Names, End, Other, Row}
use Rattle.blif_defs.specs.declared.mark.Mark.{Mark}
use Rattle.blif_defs.specs.declared.mark.TheConstants.{MAX_PORTS, MAX_SIGNALS}
use Rattle.blif_defs.specs.Words.{is_sound}
use Rattle.blif_defs.specs.Lines.{without_last}
use Rattle.blif_defs.specs.declared.error.BlifError.TheVariants.{Syntax, Mixed, Unsupported, DoubleDriven, RepeatedOutput, Limit}
use Rattle.blif_defs.specs.Values.{CoverValue, rows_size}
use Rattle.blif_defs.specs.Drafts.{Draft, start, closed, all_covers, signals, signal_count, is_among}
use Rattle.blif_defs.specs.Rows.{row_parts, row_onto, is_row, is_mark, is_bit, agrees, with_row, bit_of, mark_of}
use Rattle.blif_defs.specs.Grammar.{Statement, statements, with_input, with_inputs, with_output, with_outputs, with_model, with_names, with_end, with_row_line, with_line, with_words, kind_of, after_end, begun_with}
use Rattle.blif_defs.specs.Texts.{Follows}
use Rattle.text_defs.proofs.StepLemmas.{bind_ok, unless_ok}
use Rattle.blif_laws.proofs.Following.{passed, ok_is}
use Rattle.blif_laws.proofs.LineWords.{both}
use Rattle.blif_laws.proofs.TextSizes.{words_size, words_size-cons, statements_size, statements_size-le}

-- the rows of covers, and one more for each cover
abbrev covers_size : List CoverValue → ℕ
covers_size covers = sum_by (λ (c : CoverValue). rows_size c.rows + 1) covers

-- the size of all covers of a draft
abbrev draft_size : Draft → ℕ
draft_size d = covers_size (all_covers d)

-- the size of one cover more
covers_size-cons : (c : CoverValue) (cs : List CoverValue) → covers_size (c ∷ cs) ≡ rows_size c.rows + 1 + covers_size cs
covers_size-cons c cs = sum_by-cons (λ (d : CoverValue). rows_size d.rows + 1) c cs

-- the covers that are closed and the open one
draft_size-parts : (d : Draft) → draft_size d ≡ covers_size d.covers + covers_size (option_to_list d.current)
draft_size-parts d = sum_by-append (λ (c : CoverValue). rows_size c.rows + 1) d.covers (option_to_list d.current)

-- ---- lines that leave the covers as they are

-- taking an input leaves the covers as they are
input-covers : (at : ℕ) (d : Draft) (name : List ℕ) (e : Draft) → with_input at d name ≡ Ok e → all_covers d ≡ all_covers e
input-covers at d name e k =
    let fresh = unless_ok (is_among name (signals d)) (DoubleDriven at) _ e k in
    let room = passed _ (Limit at) (Ok (record d { inputs = d.inputs ++ name ∷ [] })) e fresh.1 in
    ap all_covers (ok_is (record d { inputs = d.inputs ++ name ∷ [] }) e room.1)

-- so do the inputs of a line
inputs-covers : (at : ℕ) (d : Draft) (names : List (List ℕ)) (e : Draft) → with_inputs at d names ≡ Ok e → all_covers d ≡ all_covers e
inputs-covers at d [] e k = ap all_covers (ok_is d e k)
inputs-covers at d (n ∷ ns) e k =
    let b = bind_ok (with_input at d n) (λ x. with_inputs at x ns) e k in
    input-covers at d n b.0 b.1 ∙ inputs-covers at b.0 ns e b.2

-- so does an output
output-covers : (at : ℕ) (d : Draft) (name : List ℕ) (e : Draft) → with_output at d name ≡ Ok e → all_covers d ≡ all_covers e
output-covers at d name e k =
    let fresh = unless_ok (is_among name d.outputs) (RepeatedOutput at) _ e k in
    let room = passed (nat_lt (length d.outputs) MAX_PORTS) (Limit at) (Ok (record d { outputs = d.outputs ++ name ∷ [] })) e fresh.1 in
    ap all_covers (ok_is (record d { outputs = d.outputs ++ name ∷ [] }) e room.1)

-- so do the outputs of a line
outputs-covers : (at : ℕ) (d : Draft) (names : List (List ℕ)) (e : Draft) → with_outputs at d names ≡ Ok e → all_covers d ≡ all_covers e
outputs-covers at d [] e k = ap all_covers (ok_is d e k)
outputs-covers at d (n ∷ ns) e k =
    let b = bind_ok (with_output at d n) (λ x. with_outputs at x ns) e k in
    output-covers at d n b.0 b.1 ∙ outputs-covers at b.0 ns e b.2

-- so does the line of the model
model-covers : (at : ℕ) (d : Draft) (names : List (List ℕ)) (e : Draft) → with_model at d names ≡ Ok e → all_covers d ≡ all_covers e
model-covers at d names e k =
    let early = unless_ok d.begun (Unsupported at) _ e k in
    let one = passed (nat_le (length names) 1) (Syntax at) (Ok (record d { model = get_or names 0 [] })) e early.1 in
    ap all_covers (ok_is (record d { model = get_or names 0 [] }) e one.1)

-- so does the line that ends it
end-covers : (at : ℕ) (d : Draft) (names : List (List ℕ)) (e : Draft) → with_end at d names ≡ Ok e → all_covers d ≡ all_covers e
end-covers at d names e k =
    let none = passed (length names == 0) (Syntax at) (Ok (record d { ended = true })) e k in
    ap all_covers (ok_is (record d { ended = true }) e none.1)

-- such a line, after the open cover was closed
same-size : (d e : Draft) (first : List ℕ) (names : List (List ℕ)) → all_covers (closed d) ≡ all_covers e → draft_size e ≤ draft_size d + words_size (first ∷ names)
same-size d e first names k =
    let same : draft_size d ≡ draft_size e = ap covers_size (sym (append-nil (all_covers d)) ∙ k) in
    omega (arith, same)

-- ---- a line that opens a cover

-- the size of a draft with this open cover
open-size : (d : Draft) (c : CoverValue) → draft_size (record d { current = Some c }) ≡ covers_size d.covers + rows_size c.rows + 1
open-size d c = omega (arith, draft_size-parts (record d { current = Some c }), covers_size-cons c [])

-- a cover that is opened counts one more
names-size : (at : ℕ) (d : Draft) (names : List (List ℕ)) (e : Draft) → with_names at d names ≡ Ok e → draft_size e ≤ draft_size d + 1
names-size at d names e k =
    let ins = without_last names in
    let out = get_or names _ [] in
    let c : CoverValue = record { ins = ins; out = out; on = true; rows = [] } in
    let some = unless_ok (length names == 0) (Syntax at) _ e k in
    let few = unless_ok (nat_lt MAX_PORTS (length ins)) (Limit at) _ e some.1 in
    let fresh = unless_ok (is_among out (signals d)) (DoubleDriven at) _ e few.1 in
    let room = passed (nat_lt (signal_count d) MAX_SIGNALS) (Limit at) (Ok (record d { current = Some c })) e fresh.1 in
    let same : draft_size (record d { current = Some c }) ≡ draft_size e = ap draft_size (ok_is (record d { current = Some c }) e room.1) in
    omega (arith, same, open-size d c, draft_size-parts d)

-- ---- a row

-- a value that is there is one
some_is : {A : Type 0} (x y : A) → Some x ≡ Some y → x ≡ y
some_is x y e = cc

-- the word of a row's sign has a byte
bit_there : (bit : List ℕ) → is_bit bit ≡ true → 1 ≤ length bit
bit_there [] e = absurd cc
bit_there (b ∷ bs) e = omega arith

-- the words of a row have its marks and its output
row_parts-size : (inputs : ℕ) (words : List (List ℕ)) (row : List ℕ × List ℕ) → row_parts inputs words ≡ Some row → is_bit row.1 ≡ true → length row.0 + 2 ≤ words_size words
row_parts-size inputs [] row e h = absurd cc
row_parts-size inputs (bit ∷ []) row e h = by (inputs == 0) e
  where
    by : (none : Bool) → cond none (Some ([], bit)) None ≡ Some row → length row.0 + 2 ≤ words_size (bit ∷ [])
    by true k =
        let marks : 0 ≡ length row.0 = ap (λ (r : List ℕ × List ℕ). length r.0) (some_is ([], bit) row k) in
        let last : length bit ≡ length row.1 = ap (λ (r : List ℕ × List ℕ). length r.1) (some_is ([], bit) row k) in
        omega (arith, marks, last, bit_there row.1 h, words_size-cons bit [])
    by false k = absurd cc
row_parts-size inputs (marks ∷ bit ∷ []) row e h = by (inputs == 0) e
  where
    by : (none : Bool) → cond none None (Some (marks, bit)) ≡ Some row → length row.0 + 2 ≤ words_size (marks ∷ bit ∷ [])
    by true k = absurd cc
    by false k =
        let first : length marks ≡ length row.0 = ap (λ (r : List ℕ × List ℕ). length r.0) (some_is (marks, bit) row k) in
        let last : length bit ≡ length row.1 = ap (λ (r : List ℕ × List ℕ). length r.1) (some_is (marks, bit) row k) in
        omega (arith, first, last, bit_there row.1 h, words_size-cons marks (bit ∷ []), words_size-cons bit [])
row_parts-size inputs (a ∷ b ∷ c ∷ more) row e h = absurd cc

-- a row adds no more to its cover than its words are long
row-size : (at : ℕ) (c : CoverValue) (words : List (List ℕ)) (parts : Option (List ℕ × List ℕ)) (e : CoverValue) → row_parts (length c.ins) words ≡ parts → row_onto at c parts ≡ Ok e
    → rows_size e.rows ≤ rows_size c.rows + words_size words
row-size at c words None e is k = absurd cc
row-size at c words (Some row) e is k =
    let right = passed (is_row c row.0 row.1) (Syntax at) _ e k in
    let same = passed (agrees c (bit_of row.1)) (Mixed at) (Ok (with_row c row.0 (bit_of row.1))) e right.1 in
    let bit = (both ((length row.0 == length c.ins) && list_all is_mark row.0) (is_bit row.1) right.0).1 in
    let marks : List Mark = map mark_of row.0 in
    let rows : rows_size (c.rows ++ marks ∷ []) ≡ rows_size e.rows = ap (λ (x : CoverValue). rows_size x.rows) (ok_is (with_row c row.0 (bit_of row.1)) e same.1) in
    omega (arith, rows, sum_by_push (λ (r : List Mark). length r + 2) c.rows marks, length-map row.0 mark_of, row_parts-size (length c.ins) words row is bit)

-- so does the line of a row to the draft
row_line-size : (at : ℕ) (d : Draft) (o : Option CoverValue) (words : List (List ℕ)) (e : Draft) → d.current ≡ o → with_row_line at d o words ≡ Ok e → draft_size e ≤ draft_size d + words_size words
row_line-size at d None words e is k = absurd cc
row_line-size at d (Some c) words e is k =
    let b = bind_ok (row_onto at c (row_parts (length c.ins) words)) (λ x. Ok (record d { current = Some x })) e k in
    let same : draft_size (record d { current = Some b.0 }) ≡ draft_size e = ap draft_size (ok_is (record d { current = Some b.0 }) e b.2) in
    let before : draft_size d ≡ covers_size d.covers + covers_size (c ∷ []) = draft_size-parts d ∙ ap (λ (x : Option CoverValue). covers_size d.covers + covers_size (option_to_list x)) is in
    omega (arith, same, before, covers_size-cons c [], open-size d b.0, row-size at c words (row_parts (length c.ins) words) b.0 refl b.1)

-- ---- all lines

-- so does a line of any kind
line-size : (kind : LineKind) (at : ℕ) (d : Draft) (first : List ℕ) (names : List (List ℕ)) (e : Draft) → with_line kind at d first names ≡ Ok e → draft_size e ≤ draft_size d + words_size (first ∷ names)
line-size Model at d first names e k = same-size d e first names (model-covers at (closed d) names e k)
line-size Inputs at d first names e k = same-size d e first names (inputs-covers at (closed d) names e k)
line-size Outputs at d first names e k = same-size d e first names (outputs-covers at (closed d) names e k)
line-size Names at d first names e k =
    let same : draft_size (closed d) ≡ draft_size d = ap covers_size (append-nil (all_covers d)) in
    omega (arith, names-size at (closed d) names e k, same, words_size-cons first names)
line-size End at d first names e k = same-size d e first names (end-covers at (closed d) names e k)
line-size Other at d first names e k = absurd cc
line-size Row at d first names e k = row_line-size at d d.current (first ∷ names) e refl k

-- so do the words of a line
words-size : (at : ℕ) (d : Draft) (ws : List (List ℕ)) (e : Draft) → with_words at d ws ≡ Ok e → draft_size e ≤ draft_size d + words_size ws
words-size at d [] e k =
    let same : draft_size d ≡ draft_size e = ap draft_size (ok_is d e k) in
    omega (arith, same)
words-size at d (first ∷ names) e k =
    let sound = passed (list_all is_sound (first ∷ names)) (Syntax at) _ e k in
    let early = unless_ok d.ended (after_end (kind_of first) at) _ e sound.1 in
    let b = bind_ok (with_line (kind_of first) at d first names) (λ x. Ok (begun_with x)) e early.1 in
    let same : draft_size b.0 ≡ draft_size e = ap draft_size (ok_is (begun_with b.0) e b.2) in
    omega (arith, same, line-size (kind_of first) at d first names b.0 b.1)

-- so do lines one after the other
lines-size : (d : Draft) (ss : List Statement) (e : Draft) → Follows d ss e → draft_size e ≤ draft_size d + statements_size ss
lines-size d [] e k =
    let same : draft_size d ≡ draft_size e = ap draft_size k in
    omega (arith, same)
lines-size d (s ∷ ss) e k =
    let more = sum_by-cons (λ (t : Statement). words_size t.words) s ss in
    omega (arith, more, words-size s.at d s.words k.0 k.1, lines-size k.0 ss e k.2)

-- ---- the rows of a text

-- the size of covers is that of their rows and one for each
covers_size-rows : (cs : List CoverValue) → sum_by (λ (c : CoverValue). rows_size c.rows) cs + length cs ≡ covers_size cs
covers_size-rows [] = refl
covers_size-rows (c ∷ cs) = omega (arith, sum_by-cons (λ (d : CoverValue). rows_size d.rows) c cs, covers_size-cons c cs, covers_size-rows cs)

-- a cover takes a line of its own, so its rows leave a byte
spared : (cs : List CoverValue) (n : ℕ) → covers_size cs ≤ n + 1 → sum_by (λ (c : CoverValue). rows_size c.rows) cs ≤ n
spared [] n h = omega arith
spared (c ∷ cs) n h = omega (arith, h, covers_size-rows (c ∷ cs))

-- the marks of all rows and twice their number are no more than the bytes of the text
pub rows-within_text : (text : List ℕ) (e : Draft) → Follows start (statements text) e → sum_by (λ (c : CoverValue). rows_size c.rows) (all_covers e) ≤ length text
rows-within_text text e k = spared (all_covers e) (length text) (omega (arith, lines-size start (statements text) e k, statements_size-le text))
