-- Each line adds what it says.
use Rattle.std.proofs.Common.{◌≡◌, ℕ, ◌-◌, ◌<◌, Bool, true, false, not, ◌&&◌, ◌||◌, cond, List, [], ◌∷◌, ◌++◌, length, map, get_or, Option, Some, None, Ok, refl, sym, ap, subst, ◌∙◌, append_assoc, arith, ⊎_elim}
use Rattle.std.specs.Prelude.{◌==◌, nat_lt, nat_le, codes}
use Rattle.std.specs.Option.{option_to_list}
use Rattle.std.specs.List.{list_all, flat_map}
use Rattle.std.specs.Str.{bytes_eq}
use Rattle.std.proofs.lemmas.Bool.{cases_Bool}
use Rattle.std.proofs.lemmas.Bool.Decides.{nat_tests}
use Rattle.std.proofs.lemmas.List.{append-nil, map_push}
use Rattle.blif_defs.specs.declared.kind.LineKind.{LineKind}
use Rattle.blif_defs.specs.declared.kind.LineKind.TheVariants.{Model, Inputs, Outputs, Names, End, Other, Row}
use Rattle.blif_defs.specs.declared.mark.Mark.{Mark}
use Rattle.blif_defs.specs.declared.mark.Mark.TheVariants.{Zero, One, Any}
use Rattle.blif_defs.specs.declared.mark.TheConstants.{MAX_PORTS, MAX_SIGNALS}
use Rattle.blif_defs.specs.Words.{is_sound}
use Rattle.blif_defs.specs.Lines.{without_last}
use Rattle.blif_defs.specs.declared.error.BlifError.TheVariants.{Syntax, Mixed, Unsupported, DoubleDriven, RepeatedOutput, Limit}
use Rattle.blif_defs.specs.Values.{CoverValue, BlifValue}
use Rattle.blif_defs.specs.Drafts.{Draft, start, closed, all_covers, signals, signal_count, is_among}
use Rattle.blif_defs.specs.Rows.{is_mark, mark_of, is_bit, bit_of, row_parts, is_row, agrees, with_row, row_onto}
use Rattle.blif_defs.specs.Grammar.{Statement, statements, kind_of, with_input, with_inputs, with_output, with_outputs, with_model, with_names, with_end, with_row_line, with_line, with_words, after_end, begun_with}
use Rattle.blif_defs.specs.Texts.{Follows, BlifText}
use Rattle.blif_defs.specs.Printing.{mark_byte, bit_word, row_words, cover_lines}
use Rattle.text_defs.proofs.StepLemmas.{bind_ok, unless_ok}
use Rattle.blif_laws.proofs.Following.{passed, ok_is}
use Rattle.blif_laws.proofs.LineLemmas.{split_last}
use Rattle.blif_laws.proofs.LineWords.{both}
use Rattle.blif_laws.specs.Meaning.{inputs_of_kind, outputs_of_kind, cover_line_of_kind, inputs_on, outputs_on, cover_line_on, IsSaid}

-- the lines that print all covers of a draft
abbrev lines_of : Draft → List (List (List ℕ))
lines_of d = flat_map cover_lines (all_covers d)

-- what a step added
pub record Adds (d e : Draft) (inputs outputs : List (List ℕ)) (lines : List (List (List ℕ))) : Type 0 where
  pub inputs_are : e.inputs ≡ d.inputs ++ inputs
  pub outputs_are : e.outputs ≡ d.outputs ++ outputs
  pub lines_are : lines_of e ≡ lines_of d ++ lines

-- a step that adds to no cover
pub record Keeps (d e : Draft) (inputs outputs : List (List ℕ)) : Type 0 where
  pub inputs_are : e.inputs ≡ d.inputs ++ inputs
  pub outputs_are : e.outputs ≡ d.outputs ++ outputs
  pub covers_are : all_covers e ≡ all_covers d

-- a step that closes the open cover first adds no line of a cover
pub adds_from_closed : (d e : Draft) (inputs outputs : List (List ℕ)) → Keeps (closed d) e inputs outputs → Adds d e inputs outputs []
adds_from_closed d e inputs outputs k = record {
  inputs_are = k.inputs_are;
  outputs_are = k.outputs_are;
  lines_are = ap (flat_map cover_lines) (k.covers_are ∙ append-nil (all_covers d)) ∙ sym (append-nil (lines_of d));
}

-- taking an input adds that input, and leaves the covers
input_keeps : (at : ℕ) (d : Draft) (name : List ℕ) (e : Draft) → with_input at d name ≡ Ok e → Keeps d e (name ∷ []) []
input_keeps at d name e k =
    let fresh = unless_ok (is_among name (signals d)) (DoubleDriven at) _ e k in
    let room = passed (nat_lt (length d.inputs) MAX_PORTS && nat_lt (signal_count d) MAX_SIGNALS) (Limit at) (Ok (record d { inputs = d.inputs ++ name ∷ [] })) e fresh.1 in
    let P : Draft → Type 0 = λ e. Keeps d e (name ∷ []) [] in
    subst P (ok_is (record d { inputs = d.inputs ++ name ∷ [] }) e room.1) (record { inputs_are = refl; outputs_are = sym (append-nil d.outputs); covers_are = refl })

-- taking an output adds that output, and leaves the covers
output_keeps : (at : ℕ) (d : Draft) (name : List ℕ) (e : Draft) → with_output at d name ≡ Ok e → Keeps d e [] (name ∷ [])
output_keeps at d name e k =
    let fresh = unless_ok (is_among name d.outputs) (RepeatedOutput at) _ e k in
    let room = passed (nat_lt (length d.outputs) MAX_PORTS) (Limit at) (Ok (record d { outputs = d.outputs ++ name ∷ [] })) e fresh.1 in
    let P : Draft → Type 0 = λ e. Keeps d e [] (name ∷ []) in
    subst P (ok_is (record d { outputs = d.outputs ++ name ∷ [] }) e room.1) (record { inputs_are = sym (append-nil d.inputs); outputs_are = refl; covers_are = refl })

-- a draft that stays as it is adds nothing
keeps_same : (d e : Draft) → d ≡ e → Keeps d e [] []
keeps_same d e h = subst (λ (x : Draft). Keeps d x [] []) h (record { inputs_are = sym (append-nil d.inputs); outputs_are = sym (append-nil d.outputs); covers_are = refl })

-- inputs add their names
pub inputs_keep : (at : ℕ) (d : Draft) (names : List (List ℕ)) (e : Draft) → with_inputs at d names ≡ Ok e → Keeps d e names []
inputs_keep at d [] e k = keeps_same d e (ok_is d e k)
inputs_keep at d (n ∷ ns) e k =
    let b = bind_ok (with_input at d n) (λ x. with_inputs at x ns) e k in
    let one = input_keeps at d n b.0 b.1 in
    let more = inputs_keep at b.0 ns e b.2 in
    record {
      inputs_are = more.inputs_are ∙ ap (λ (xs : List (List ℕ)). xs ++ ns) one.inputs_are ∙ append_assoc d.inputs (n ∷ []) ns;
      outputs_are = more.outputs_are ∙ append-nil b.0.outputs ∙ one.outputs_are;
      covers_are = more.covers_are ∙ one.covers_are;
    }

-- outputs add their names
pub outputs_keep : (at : ℕ) (d : Draft) (names : List (List ℕ)) (e : Draft) → with_outputs at d names ≡ Ok e → Keeps d e [] names
outputs_keep at d [] e k = keeps_same d e (ok_is d e k)
outputs_keep at d (n ∷ ns) e k =
    let b = bind_ok (with_output at d n) (λ x. with_outputs at x ns) e k in
    let one = output_keeps at d n b.0 b.1 in
    let more = outputs_keep at b.0 ns e b.2 in
    record {
      inputs_are = more.inputs_are ∙ append-nil b.0.inputs ∙ one.inputs_are;
      outputs_are = more.outputs_are ∙ ap (λ (xs : List (List ℕ)). xs ++ ns) one.outputs_are ∙ append_assoc d.outputs (n ∷ []) ns;
      covers_are = more.covers_are ∙ one.covers_are;
    }

-- the line of the model adds no name and no cover
pub model_keeps : (at : ℕ) (d : Draft) (names : List (List ℕ)) (e : Draft) → with_model at d names ≡ Ok e → Keeps d e [] []
model_keeps at d names e k =
    let early = unless_ok d.begun (Unsupported at) _ e k in
    let one = passed (nat_le (length names) 1) (Syntax at) (Ok (record d { model = get_or names 0 [] })) e early.1 in
    subst (λ (x : Draft). Keeps d x [] []) (ok_is (record d { model = get_or names 0 [] }) e one.1) (record { inputs_are = sym (append-nil d.inputs); outputs_are = sym (append-nil d.outputs); covers_are = refl })

-- `.end` adds nothing
pub end_keeps : (at : ℕ) (d : Draft) (names : List (List ℕ)) (e : Draft) → with_end at d names ≡ Ok e → Keeps d e [] []
end_keeps at d names e k =
    let none = passed (length names == 0) (Syntax at) (Ok (record d { ended = true })) e k in
    subst (λ (x : Draft). Keeps d x [] []) (ok_is (record d { ended = true }) e none.1) (record { inputs_are = sym (append-nil d.inputs); outputs_are = sym (append-nil d.outputs); covers_are = refl })

-- ---- covers

-- the lines of one cover more stand behind those of the others
flat_map-push : (cs : List CoverValue) (c : CoverValue) → flat_map cover_lines (cs ++ c ∷ []) ≡ flat_map cover_lines cs ++ cover_lines c
flat_map-push [] c = append-nil (cover_lines c)
flat_map-push (d ∷ ds) c =
    ap (λ (ls : List (List (List ℕ))). cover_lines d ++ ls) (flat_map-push ds c) ∙ sym (append_assoc (cover_lines d) (flat_map cover_lines ds) (cover_lines c))

-- words that pass the test of equality are equal
same_bytes : (a b : List ℕ) → bytes_eq a b ≡ true → a ≡ b
same_bytes [] [] e = refl
same_bytes [] (y ∷ ys) e = absurd cc
same_bytes (x ∷ xs) [] e = absurd cc
same_bytes (x ∷ xs) (y ∷ ys) e =
    let p = both (x == y) (bytes_eq xs ys) e in
    ap (λ (n : ℕ). n ∷ xs) (same_number x y p.0) ∙ ap (λ (zs : List ℕ). y ∷ zs) (same_bytes xs ys p.1)
  where
    same_number : (n m : ℕ) → (n == m) ≡ true → n ≡ m
    same_number n m h = grind (arith, nat_tests)

-- only `.names` opens a cover
names_keyword : (word : List ℕ) → kind_of word ≡ Names → word ≡ codes ".names"
names_keyword word h =
    ⊎_elim (λ e. same_bytes word (codes ".names") e)
    (λ (e : bytes_eq word (codes ".names") ≡ false). absurd (by (bytes_eq word (codes ".model")) (bytes_eq word (codes ".inputs")) (bytes_eq word (codes ".outputs")) (bytes_eq word (codes ".names")) (bytes_eq word (codes ".end")) _ e h))
    (cases_Bool (bytes_eq word (codes ".names")))
  where
    by : (a b c d e f : Bool) → d ≡ false → cond a Model (cond b Inputs (cond c Outputs (cond d Names (cond e End (cond f Other Row))))) ≡ Names → ⊥
    by true b c d e f n h = cc
    by false true c d e f n h = cc
    by false false true d e f n h = cc
    by false false false true e f n h = cc
    by false false false false true f n h = cc
    by false false false false false true n h = cc
    by false false false false false false n h = cc

-- a line that opens a cover adds itself
pub cover_adds : (at : ℕ) (d : Draft) (first : List ℕ) (names : List (List ℕ)) (e : Draft) → kind_of first ≡ Names → with_names at (closed d) names ≡ Ok e → Adds d e [] [] ((first ∷ names) ∷ [])
cover_adds at d first names e kind k =
    let some = unless_ok (length names == 0) (Syntax at) _ e k in
    let ins = without_last names in
    let out = get_or names (length names - 1) [] in
    let c : CoverValue = record { ins = ins; out = out; on = true; rows = [] } in
    let few = unless_ok (nat_lt MAX_PORTS (length ins)) (Limit at) _ e some.1 in
    let fresh = unless_ok (is_among out (signals (closed d))) (DoubleDriven at) _ e few.1 in
    let room = passed (nat_lt (signal_count (closed d)) MAX_SIGNALS) (Limit at) (Ok (record (closed d) { current = Some c })) e fresh.1 in
    let parts = split_last names [] (there (length names) some.0) in
    let line : cover_lines c ≡ (first ∷ names) ∷ [] =
    ap (λ (ns : List (List ℕ)). (codes ".names" ∷ ns) ∷ []) (sym parts) ∙ ap (λ (w : List ℕ). (w ∷ names) ∷ []) (sym (names_keyword first kind)) in
    subst (λ (x : Draft). Adds d x [] [] ((first ∷ names) ∷ [])) (ok_is (record (closed d) { current = Some c }) e room.1)
    (record {
      inputs_are = sym (append-nil d.inputs);
      outputs_are = sym (append-nil d.outputs);
      lines_are = flat_map-push (all_covers d) c ∙ ap (λ (ls : List (List (List ℕ))). lines_of d ++ ls) line;
    })
  where
    there : (n : ℕ) → (n == 0) ≡ false → 0 < n
    there n h = grind (arith, nat_tests)

-- ---- rows

-- numbers that pass the test of equality are equal
same_number : (n m : ℕ) → (n == m) ≡ true → n ≡ m
same_number n m h = grind (arith, nat_tests)

-- a byte that is one of the three marks is that of the mark it is read as
byte_by : (a b c : Bool) (n : ℕ) → (a ≡ true → 48 ≡ n) → (b ≡ true → 49 ≡ n) → (c ≡ true → 45 ≡ n) → ((a || b) || c) ≡ true → mark_byte (cond a Zero (cond b One Any)) ≡ n
byte_by true b c n p q r h = p refl
byte_by false true c n p q r h = q refl
byte_by false false true n p q r h = r refl
byte_by false false false n p q r h = absurd cc

-- the byte of a mark is that of the mark it is read as
byte_again : (b : ℕ) → is_mark b ≡ true → mark_byte (mark_of b) ≡ b
byte_again b h =
    byte_by (b == 48) (b == 49) (b == 45) b (λ e. sym (same_number b 48 e)) (λ e. sym (same_number b 49 e)) (λ e. sym (same_number b 45 e)) h

-- so are those of the marks of a row
bytes_again : (bytes : List ℕ) → list_all is_mark bytes ≡ true → map mark_byte (map mark_of bytes) ≡ bytes
bytes_again [] h = refl
bytes_again (b ∷ bs) h =
    let p = both (is_mark b) (list_all is_mark bs) h in
    ap (λ (n : ℕ). n ∷ map mark_byte (map mark_of bs)) (byte_again b p.0) ∙ ap (λ (ns : List ℕ). b ∷ ns) (bytes_again bs p.1)

-- the word of a sign is that of the sign it is read as
bit_again : (bit : List ℕ) → is_bit bit ≡ true → bit_word (bit_of bit) ≡ bit
bit_again bit h =
    ⊎_elim (λ (e : bytes_eq bit (49 ∷ []) ≡ true). ap bit_word e ∙ sym (same_bytes bit (49 ∷ []) e))
    (λ (e : bytes_eq bit (49 ∷ []) ≡ false). ap bit_word e ∙ sym (same_bytes bit (48 ∷ []) (other (bytes_eq bit (48 ∷ [])) (bytes_eq bit (49 ∷ [])) h e)))
    (cases_Bool (bytes_eq bit (49 ∷ [])))
  where
    other : (a b : Bool) → (a || b) ≡ true → b ≡ false → a ≡ true
    other true b h e = refl
    other false b h e = absurd cc

-- the rows before are printed alike
rows_alike : (rows : List (List Mark)) (on con : Bool) → ((length rows == 0) || cond on con (not con)) ≡ true → map (row_words on) rows ≡ map (row_words con) rows
rows_alike [] on con h = refl
rows_alike (r ∷ rs) on con h =
    let some : (length (r ∷ rs) == 0) ≡ false = grind (arith, nat_tests) in
    ap (λ (b : Bool). map (row_words b) (r ∷ rs)) (alike on con (later (length (r ∷ rs) == 0) (cond on con (not con)) some h))
  where
    later : (a b : Bool) → a ≡ false → (a || b) ≡ true → b ≡ true
    later true b e h = absurd cc
    later false b e h = h

    alike : (on con : Bool) → cond on con (not con) ≡ true → on ≡ con
    alike true con h = sym h
    alike false true h = absurd cc
    alike false false h = refl

-- a row that is taken adds its line to those of the cover
row_taken : (at : ℕ) (c : CoverValue) (marks bit : List ℕ) (row : List (List ℕ)) (e : CoverValue) → row_onto at c (Some (marks, bit)) ≡ Ok e
    → (length marks ≡ length c.ins → list_all is_mark marks ≡ true → is_bit bit ≡ true → row_words (bit_of bit) (map mark_of marks) ≡ row)
    → cover_lines e ≡ cover_lines c ++ row ∷ []
row_taken at c marks bit row e k spelled =
    let right = passed (is_row c marks bit) (Syntax at) _ e k in
    let same = passed (agrees c (bit_of bit)) (Mixed at) (Ok (with_row c marks (bit_of bit))) e right.1 in
    let tests = both ((length marks == length c.ins) && list_all is_mark marks) (is_bit bit) right.0 in
    let first = both (length marks == length c.ins) (list_all is_mark marks) tests.0 in
    let row-is = spelled (same_number (length marks) (length c.ins) first.0) first.1 tests.1 in
    let names = codes ".names" ∷ (c.ins ++ c.out ∷ []) in
    subst (λ (x : CoverValue). cover_lines x ≡ cover_lines c ++ row ∷ []) (ok_is (with_row c marks (bit_of bit)) e same.1)
    (ap (λ (rs : List (List (List ℕ))). names ∷ rs)
    (map_push (row_words (bit_of bit)) c.rows (map mark_of marks)
    ∙ ap (λ (rs : List (List (List ℕ))). rs ++ row_words (bit_of bit) (map mark_of marks) ∷ []) (rows_alike c.rows (bit_of bit) c.on same.0)
    ∙ ap (λ (r : List (List ℕ)). map (row_words c.on) c.rows ++ r ∷ []) row-is))

-- no test comes out both ways
apart : (b : Bool) → b ≡ true → b ≡ false → ⊥
apart b e f = cc

-- the words of a row with inputs are its marks and its sign
row_spelled : (inputs : ℕ) (marks bit : List ℕ) → (inputs == 0) ≡ false → length marks ≡ inputs → list_all is_mark marks ≡ true → is_bit bit ≡ true
    → row_words (bit_of bit) (map mark_of marks) ≡ marks ∷ bit ∷ []
row_spelled inputs [] bit some len h b = absurd (apart (inputs == 0) (ap (λ (n : ℕ). n == 0) (sym len)) some)
row_spelled inputs (m ∷ ms) bit some len h b =
    ap (λ (w : List ℕ). w ∷ bit_word (bit_of bit) ∷ []) (bytes_again (m ∷ ms) h) ∙ ap (λ (w : List ℕ). (m ∷ ms) ∷ w ∷ []) (bit_again bit b)

-- a row that is taken adds the line that its words are
row_lines : (at : ℕ) (c : CoverValue) (row : List (List ℕ)) (e : CoverValue) → row_onto at c (row_parts (length c.ins) row) ≡ Ok e → cover_lines e ≡ cover_lines c ++ row ∷ []
row_lines at c [] e k = absurd cc
row_lines at c (bit ∷ []) e k =
    ⊎_elim
    (λ (z : (length c.ins == 0) ≡ true).
    let k : row_onto at c (Some ([], bit)) ≡ Ok e = ap (λ (b : Bool). row_onto at c (cond b (Some ([], bit)) None)) (sym z) ∙ k in
    row_taken at c [] bit (bit ∷ []) e k (λ len h b. ap (λ (w : List ℕ). w ∷ []) (bit_again bit b)))
    (λ (z : (length c.ins == 0) ≡ false). absurd (refused at c e (ap (λ (b : Bool). row_onto at c (cond b (Some ([], bit)) None)) (sym z) ∙ k)))
    (cases_Bool (length c.ins == 0))
  where
    refused : (at : ℕ) (c e : CoverValue) → row_onto at c None ≡ Ok e → ⊥
    refused at c e k = cc
row_lines at c (marks ∷ bit ∷ []) e k =
    ⊎_elim
    (λ (z : (length c.ins == 0) ≡ true). absurd (refused at c e (ap (λ (b : Bool). row_onto at c (cond b None (Some (marks, bit)))) (sym z) ∙ k)))
    (λ (z : (length c.ins == 0) ≡ false).
    let k : row_onto at c (Some (marks, bit)) ≡ Ok e = ap (λ (b : Bool). row_onto at c (cond b None (Some (marks, bit)))) (sym z) ∙ k in
    row_taken at c marks bit (marks ∷ bit ∷ []) e k (row_spelled (length c.ins) marks bit z))
    (cases_Bool (length c.ins == 0))
  where
    refused : (at : ℕ) (c e : CoverValue) → row_onto at c None ≡ Ok e → ⊥
    refused at c e k = cc
row_lines at c (a ∷ b ∷ d ∷ more) e k = absurd cc

-- the line of a row adds that line alone
row_adds : (at : ℕ) (d : Draft) (o : Option CoverValue) (row : List (List ℕ)) (e : Draft) → d.current ≡ o → with_row_line at d o row ≡ Ok e → Adds d e [] [] (row ∷ [])
row_adds at d None row e is k = absurd cc
row_adds at d (Some c) row e is k =
    let b = bind_ok (row_onto at c (row_parts (length c.ins) row)) (λ x. Ok (record d { current = Some x })) e k in
    let all : all_covers d ≡ d.covers ++ c ∷ [] = ap (λ (x : Option CoverValue). d.covers ++ option_to_list x) is in
    let before : lines_of d ≡ flat_map cover_lines d.covers ++ cover_lines c = ap (flat_map cover_lines) all ∙ flat_map-push d.covers c in
    subst (λ (x : Draft). Adds d x [] [] (row ∷ [])) (ok_is (record d { current = Some b.0 }) e b.2)
    (record {
      inputs_are = sym (append-nil d.inputs);
      outputs_are = sym (append-nil d.outputs);
      lines_are = flat_map-push d.covers b.0 ∙ ap (λ (ls : List (List (List ℕ))). flat_map cover_lines d.covers ++ ls) (row_lines at c row b.0 b.1)
          ∙ sym (append_assoc (flat_map cover_lines d.covers) (cover_lines c) (row ∷ [])) ∙ ap (λ (ls : List (List (List ℕ))). ls ++ row ∷ []) (sym before);
    })

-- ---- all lines

-- a line of each kind adds the names or the line that it says
line_adds : (kind : LineKind) (at : ℕ) (d : Draft) (first : List ℕ) (names : List (List ℕ)) (e : Draft) → kind_of first ≡ kind → with_line kind at d first names ≡ Ok e
    → Adds d e (inputs_of_kind kind names) (outputs_of_kind kind names) (cover_line_of_kind kind (first ∷ names))
line_adds Model at d first names e is k = adds_from_closed d e [] [] (model_keeps at (closed d) names e k)
line_adds Inputs at d first names e is k = adds_from_closed d e names [] (inputs_keep at (closed d) names e k)
line_adds Outputs at d first names e is k = adds_from_closed d e [] names (outputs_keep at (closed d) names e k)
line_adds Names at d first names e is k = cover_adds at d first names e is k
line_adds End at d first names e is k = adds_from_closed d e [] [] (end_keeps at (closed d) names e k)
line_adds Other at d first names e is k = absurd cc
line_adds Row at d first names e is k = row_adds at d d.current (first ∷ names) e refl k

-- a draft that stays as it is adds nothing
nothing_added : (d : Draft) → Adds d d [] [] []
nothing_added d = record { inputs_are = sym (append-nil d.inputs); outputs_are = sym (append-nil d.outputs); lines_are = sym (append-nil (lines_of d)) }

-- the words of a line add the names or the line that they say
words_add : (at : ℕ) (d : Draft) (ws : List (List ℕ)) (e : Draft) → with_words at d ws ≡ Ok e → Adds d e (inputs_on ws) (outputs_on ws) (cover_line_on ws)
words_add at d [] e k = subst (λ (x : Draft). Adds d x [] [] []) (ok_is d e k) (nothing_added d)
words_add at d (first ∷ names) e k =
    let sound = passed (list_all is_sound (first ∷ names)) (Syntax at) _ e k in
    let early = unless_ok d.ended (after_end (kind_of first) at) _ e sound.1 in
    let b = bind_ok (with_line (kind_of first) at d first names) (λ x. Ok (begun_with x)) e early.1 in
    let a = line_adds (kind_of first) at d first names b.0 refl b.1 in
    subst (λ (x : Draft). Adds d x (inputs_on (first ∷ names)) (outputs_on (first ∷ names)) (cover_line_on (first ∷ names))) (ok_is (begun_with b.0) e b.2)
    (record { inputs_are = a.inputs_are; outputs_are = a.outputs_are; lines_are = a.lines_are })

-- and lines one after the other what all of them say
lines_add : (d : Draft) (ss : List Statement) (e : Draft) → Follows d ss e
    → Adds d e (flat_map (λ s. inputs_on s.words) ss) (flat_map (λ s. outputs_on s.words) ss) (flat_map (λ s. cover_line_on s.words) ss)
lines_add d [] e k = subst (λ (x : Draft). Adds d x [] [] []) k (nothing_added d)
lines_add d (s ∷ ss) e k =
    let one = words_add s.at d s.words k.0 k.1 in
    let more = lines_add k.0 ss e k.2 in
    record {
      inputs_are = more.inputs_are ∙ ap (λ (xs : List (List ℕ)). xs ++ flat_map (λ (s : Statement). inputs_on s.words) ss) one.inputs_are ∙ append_assoc d.inputs (inputs_on s.words) _;
      outputs_are = more.outputs_are ∙ ap (λ (xs : List (List ℕ)). xs ++ flat_map (λ (s : Statement). outputs_on s.words) ss) one.outputs_are ∙ append_assoc d.outputs (outputs_on s.words) _;
      lines_are = more.lines_are ∙ ap (λ (xs : List (List (List ℕ))). xs ++ flat_map (λ (s : Statement). cover_line_on s.words) ss) one.lines_are ∙ append_assoc (lines_of d) (cover_line_on s.words) _;
    }

-- the value of a text is what its lines say
pub said : (text : List ℕ) (m : BlifValue) → BlifText text m → IsSaid text m
said text m t =
    let a = lines_add start (statements text) t.end t.follows in
    subst (IsSaid text) t.value (record { inputs = a.inputs_are; outputs = a.outputs_are; covers = a.lines_are })
