-- What is read stays a design within the limits, line after line.
use Rattle.std.proofs.Common.{◌≡◌, ◌≢◌, ℕ, ◌+◌, ◌-◌, ◌<◌, ◌≤◌, ◌⊎◌, Bool, true, false, ◌&&◌, List, [], ◌∷◌, ◌++◌, length, map, get_or, Option, Some, None, Ok, refl, sym, ap, subst, ◌∙◌, append_assoc, arith, inl, inr, length-append}
use Rattle.std.specs.Prelude.{◌==◌, nat_lt, nat_le}
use Rattle.std.specs.Option.{option_to_list}
use Rattle.std.specs.List.{AllByRecursion, IsDistinct, list_all}
use Rattle.std.specs.Str.{bytes_eq}
use Rattle.std.proofs.lemmas.Bool.Decides.{nat_tests}
use Rattle.std.proofs.lemmas.List.{append-nil, map_push}
use Rattle.blif_defs.specs.declared.kind.LineKind.{LineKind}
use Rattle.blif_defs.specs.declared.kind.LineKind.TheVariants.{Model, Inputs, Outputs, Names, End, Other, Row}
use Rattle.blif_defs.specs.declared.mark.TheConstants.{MAX_PORTS, MAX_SIGNALS}
use Rattle.blif_defs.specs.Words.{is_sound, IsWord}
use Rattle.blif_defs.specs.Lines.{without_last}
use Rattle.blif_defs.specs.declared.error.BlifError.TheVariants.{Syntax, Mixed, Unsupported, DoubleDriven, RepeatedOutput, Limit}
use Rattle.blif_defs.specs.Values.{CoverValue, IsCover, signals_of}
use Rattle.blif_defs.specs.Drafts.{Draft, start, closed, all_covers, signals, signal_count, is_among}
use Rattle.blif_defs.specs.Rows.{row_parts, row_onto, is_row, is_mark, is_bit, agrees, with_row, bit_of, mark_of}
use Rattle.blif_defs.specs.Grammar.{with_input, with_inputs, with_output, with_outputs, with_cover, with_model, with_names, with_end, with_row_line, with_line, with_words, kind_of, after_end, begun_with}
use Rattle.text_defs.proofs.StepLemmas.{bind_ok, unless_ok}
use Rattle.blif_laws.proofs.Following.{passed, ok_is}
use Rattle.blif_laws.proofs.Sets.{All-append, All-left, All-right, distinct_insert}
use Rattle.std.proofs.lemmas.List.{length-map}
use Rattle.blif_defs.specs.Values.{BlifValue, IsBlif}
use Rattle.blif_defs.specs.Grammar.{Statement, statements}
use Rattle.blif_defs.specs.Texts.{Follows, BlifText}
use Rattle.blif_laws.proofs.LineLemmas.{split_last}
use Rattle.blif_laws.proofs.LineWords.{IsRaw, both, HasRawWords, raw-statements}
use Rattle.blif_laws.proofs.RowSizes.{rows-within_text}

-- what holds of what was read so far
pub record IsDraft (d : Draft) : Type 0 where
  pub model : (d.model ≡ []) ⊎ IsWord d.model
  pub inputs : AllByRecursion IsWord d.inputs
  pub inputs_within : length d.inputs ≤ MAX_PORTS
  pub outputs : AllByRecursion IsWord d.outputs
  pub outputs_within : length d.outputs ≤ MAX_PORTS
  pub outputs_differ : IsDistinct bytes_eq d.outputs
  pub covers : AllByRecursion IsCover (all_covers d)
  pub signals_within : signal_count d ≤ MAX_SIGNALS
  pub signals_differ : IsDistinct bytes_eq (signals d)

-- before the first line all is within the limits
pub start-IsDraft : IsDraft start
unfolding IsDistinct
start-IsDraft = record { model = inl refl; inputs = tt; inputs_within = omega arith; outputs = tt; outputs_within = omega arith; outputs_differ = tt; covers = tt; signals_within = omega arith; signals_differ = tt }

-- another list of covers which is the same
pub moved : (d : Draft) (covers : List CoverValue) (current : Option CoverValue) → covers ++ option_to_list current ≡ all_covers d → IsDraft d → IsDraft (record d { covers = covers; current = current })
moved d covers current e h = record {
  model = h.model;
  inputs = h.inputs;
  inputs_within = h.inputs_within;
  outputs = h.outputs;
  outputs_within = h.outputs_within;
  outputs_differ = h.outputs_differ;
  covers = subst (λ (cs : List CoverValue). AllByRecursion IsCover cs) (sym e) h.covers;
  signals_within = subst (λ (cs : List CoverValue). length d.inputs + length cs ≤ MAX_SIGNALS) (sym e) h.signals_within;
  signals_differ = subst (λ (cs : List CoverValue). IsDistinct bytes_eq (signals_of d.inputs cs)) (sym e) h.signals_differ;
}

-- and where the open cover is closed
pub closed-IsDraft : (d : Draft) → IsDraft d → IsDraft (closed d)
closed-IsDraft d h = moved d (all_covers d) None (append-nil (all_covers d)) h

-- ---- names

-- and with an input more
pub input-IsDraft : (at : ℕ) (d : Draft) (name : List ℕ) (e : Draft) → IsDraft d → IsWord name → with_input at d name ≡ Ok e → IsDraft e
input-IsDraft at d name e h w k =
    let fresh = unless_ok (is_among name (signals d)) (DoubleDriven at) _ e k in
    let room = passed _ (Limit at) (Ok (record d { inputs = d.inputs ++ name ∷ [] })) e fresh.1 in
    let limits = both (nat_lt (length d.inputs) MAX_PORTS) (nat_lt (signal_count d) MAX_SIGNALS) room.0 in
    let len : length (d.inputs ++ name ∷ []) ≡ length d.inputs + 1 = length-append d.inputs (name ∷ []) in
    let ports : length d.inputs < MAX_PORTS = below (length d.inputs) MAX_PORTS limits.0 in
    let count : signal_count d < MAX_SIGNALS = below (signal_count d) MAX_SIGNALS limits.1 in
    subst IsDraft (ok_is (record d { inputs = d.inputs ++ name ∷ [] }) e room.1)
    (record {
      model = h.model;
      inputs = All-append IsWord d.inputs (name ∷ []) h.inputs (w, tt);
      inputs_within = omega arith;
      outputs = h.outputs;
      outputs_within = h.outputs_within;
      outputs_differ = h.outputs_differ;
      covers = h.covers;
      signals_within = omega arith;
      signals_differ = subst (λ (ns : List (List ℕ)). IsDistinct bytes_eq ns) (sym (append_assoc d.inputs (name ∷ []) (map (λ c. c.out) (all_covers d))))
          (distinct_insert d.inputs (map (λ c. c.out) (all_covers d)) name h.signals_differ fresh.0);
    })
  where
    below : (n m : ℕ) → nat_lt n m ≡ true → n < m
    below n m e = grind (arith, nat_tests)

-- and with inputs more
pub inputs-IsDraft : (at : ℕ) (d : Draft) (names : List (List ℕ)) (e : Draft) → IsDraft d → AllByRecursion IsWord names → with_inputs at d names ≡ Ok e → IsDraft e
inputs-IsDraft at d [] e h w k = subst IsDraft (ok_is d e k) h
inputs-IsDraft at d (n ∷ ns) e h w k =
    let b = bind_ok (with_input at d n) (λ x. with_inputs at x ns) e k in
    inputs-IsDraft at b.0 ns e (input-IsDraft at d n b.0 h w.0 b.1) w.1 b.2

-- a name that isn't among distinct names leaves them distinct
distinct_push : (names : List (List ℕ)) (name : List ℕ) → IsDistinct bytes_eq names → is_among name names ≡ false → IsDistinct bytes_eq (names ++ name ∷ [])
distinct_push names name d fresh =
    distinct_insert names [] name (subst (λ (ns : List (List ℕ)). IsDistinct bytes_eq ns) (sym (append-nil names)) d) (ap (is_among name) (append-nil names) ∙ fresh)

-- and with an output more
output-IsDraft : (at : ℕ) (d : Draft) (name : List ℕ) (e : Draft) → IsDraft d → IsWord name → with_output at d name ≡ Ok e → IsDraft e
output-IsDraft at d name e h w k =
    let fresh = unless_ok (is_among name d.outputs) (RepeatedOutput at) _ e k in
    let room = passed (nat_lt (length d.outputs) MAX_PORTS) (Limit at) (Ok (record d { outputs = d.outputs ++ name ∷ [] })) e fresh.1 in
    let len : length (d.outputs ++ name ∷ []) ≡ length d.outputs + 1 = length-append d.outputs (name ∷ []) in
    let ports : length d.outputs < MAX_PORTS = below (length d.outputs) MAX_PORTS room.0 in
    subst IsDraft (ok_is (record d { outputs = d.outputs ++ name ∷ [] }) e room.1)
    (record {
      model = h.model;
      inputs = h.inputs;
      inputs_within = h.inputs_within;
      outputs = All-append IsWord d.outputs (name ∷ []) h.outputs (w, tt);
      outputs_within = omega arith;
      outputs_differ = distinct_push d.outputs name h.outputs_differ fresh.0;
      covers = h.covers;
      signals_within = h.signals_within;
      signals_differ = h.signals_differ;
    })
  where
    below : (n m : ℕ) → nat_lt n m ≡ true → n < m
    below n m e = grind (arith, nat_tests)

-- and with the outputs of a line
outputs-IsDraft : (at : ℕ) (d : Draft) (names : List (List ℕ)) (e : Draft) → IsDraft d → AllByRecursion IsWord names → with_outputs at d names ≡ Ok e → IsDraft e
outputs-IsDraft at d [] e h w k = subst IsDraft (ok_is d e k) h
outputs-IsDraft at d (n ∷ ns) e h w k =
    let b = bind_ok (with_output at d n) (λ x. with_outputs at x ns) e k in
    outputs-IsDraft at b.0 ns e (output-IsDraft at d n b.0 h w.0 b.1) w.1 b.2

-- ---- covers

-- the list of all covers is another one
with_covers : (d : Draft) (covers : List CoverValue) (current : Option CoverValue) → IsDraft d
    → AllByRecursion IsCover (covers ++ option_to_list current) → length d.inputs + length (covers ++ option_to_list current) ≤ MAX_SIGNALS
    → IsDistinct bytes_eq (signals_of d.inputs (covers ++ option_to_list current)) → IsDraft (record d { covers = covers; current = current })
with_covers d covers current h all within differ = record {
  model = h.model;
  inputs = h.inputs;
  inputs_within = h.inputs_within;
  outputs = h.outputs;
  outputs_within = h.outputs_within;
  outputs_differ = h.outputs_differ;
  covers = all;
  signals_within = within;
  signals_differ = differ;
}

-- the output of the last cover is the last signal
signals_push : (inputs : List (List ℕ)) (covers : List CoverValue) (c : CoverValue) → signals_of inputs (covers ++ c ∷ []) ≡ signals_of inputs covers ++ c.out ∷ []
signals_push inputs covers c =
    ap (λ (ns : List (List ℕ)). inputs ++ ns) (map_push (λ d. d.out) covers c) ∙ sym (append_assoc inputs (map (λ d. d.out) covers) (c.out ∷ []))

-- and with a cover that is opened
cover-IsDraft : (at : ℕ) (d : Draft) (ins : List (List ℕ)) (out : List ℕ) (e : Draft) → d.current ≡ None → IsDraft d → AllByRecursion IsWord ins → IsWord out
    → with_cover at d ins out ≡ Ok e → IsDraft e
cover-IsDraft at d ins out e none h w o k =
    let c : CoverValue = record { ins = ins; out = out; on = true; rows = [] } in
    let few = unless_ok (nat_lt MAX_PORTS (length ins)) (Limit at) _ e k in
    let fresh = unless_ok (is_among out (signals d)) (DoubleDriven at) _ e few.1 in
    let room = passed (nat_lt (signal_count d) MAX_SIGNALS) (Limit at) (Ok (record d { current = Some c })) e fresh.1 in
    let all : all_covers d ≡ d.covers = ap (λ (x : Option CoverValue). d.covers ++ option_to_list x) none ∙ append-nil d.covers in
    let within : length ins ≤ MAX_PORTS = not_below MAX_PORTS (length ins) few.0 in
    let count : signal_count d < MAX_SIGNALS = below (signal_count d) MAX_SIGNALS room.0 in
    let len : length (all_covers d) ≡ length d.covers = ap length all in
    let is_cover : IsCover c = record { within = within; ins = w; out = o; rows = tt; on = λ _. refl } in
    let differ : IsDistinct bytes_eq (signals_of d.inputs d.covers) = subst (λ (cs : List CoverValue). IsDistinct bytes_eq (signals_of d.inputs cs)) all h.signals_differ in
    let new : is_among out (signals_of d.inputs d.covers) ≡ false = ap (λ (cs : List CoverValue). is_among out (signals_of d.inputs cs)) (sym all) ∙ fresh.0 in
    subst IsDraft (ok_is (record d { current = Some c }) e room.1)
    (with_covers d d.covers (Some c) h
    (All-append IsCover d.covers (c ∷ []) (subst (λ (cs : List CoverValue). AllByRecursion IsCover cs) all h.covers) (is_cover, tt))
    (omega (arith, length-append d.covers (c ∷ [])))
    (subst (λ (ns : List (List ℕ)). IsDistinct bytes_eq ns) (sym (signals_push d.inputs d.covers c)) (distinct_push (signals_of d.inputs d.covers) out differ new)))
  where
    below : (n m : ℕ) → nat_lt n m ≡ true → n < m
    below n m e = grind (arith, nat_tests)

    not_below : (n m : ℕ) → nat_lt n m ≡ false → m ≤ n
    not_below n m e = grind (arith, nat_tests)

-- a count that isn't 0 is above it
some_there : (n : ℕ) → (n == 0) ≡ false → 0 < n
some_there n e = grind (arith, nat_tests)

-- a line that opens a cover keeps the draft within the limits
names-IsDraft : (at : ℕ) (d : Draft) (names : List (List ℕ)) (e : Draft) → d.current ≡ None → IsDraft d → AllByRecursion IsWord names → with_names at d names ≡ Ok e → IsDraft e
names-IsDraft at d names e none h w k =
    let some = unless_ok (length names == 0) (Syntax at) _ e k in
    let parts = split_last names [] (some_there (length names) some.0) in
    let w : AllByRecursion IsWord (without_last names ++ get_or names (length names - 1) [] ∷ []) = subst (λ (ns : List (List ℕ)). AllByRecursion IsWord ns) parts w in
    cover-IsDraft at d (without_last names) (get_or names (length names - 1) []) e none h
    (All-left IsWord (without_last names) _ w) (All-right IsWord (without_last names) _ w).0 some.1

-- ---- the other lines

-- a draft within the limits may take another word as its model's name, and be marked as begun or ended
marked-IsDraft : (d : Draft) (name : List ℕ) (begun ended : Bool) → IsDraft d → (name ≡ []) ⊎ IsWord name
    → IsDraft (record d { model = name; begun = begun; ended = ended })
marked-IsDraft d name begun ended h w = record {
  model = w;
  inputs = h.inputs;
  inputs_within = h.inputs_within;
  outputs = h.outputs;
  outputs_within = h.outputs_within;
  outputs_differ = h.outputs_differ;
  covers = h.covers;
  signals_within = h.signals_within;
  signals_differ = h.signals_differ;
}

-- the first of some words is a word, and of none nothing
first_name : (names : List (List ℕ)) → AllByRecursion IsWord names → (get_or names 0 [] ≡ []) ⊎ IsWord (get_or names 0 [])
first_name [] w = inl refl
first_name (n ∷ ns) w = inr w.0

-- the line of the model keeps the draft within the limits
model-IsDraft : (at : ℕ) (d : Draft) (names : List (List ℕ)) (e : Draft) → IsDraft d → AllByRecursion IsWord names → with_model at d names ≡ Ok e → IsDraft e
model-IsDraft at d names e h w k =
    let early = unless_ok d.begun (Unsupported at) _ e k in
    let one = passed (nat_le (length names) 1) (Syntax at) (Ok (record d { model = get_or names 0 [] })) e early.1 in
    subst IsDraft (ok_is (record d { model = get_or names 0 [] }) e one.1) (marked-IsDraft d (get_or names 0 []) d.begun d.ended h (first_name names w))

-- so does the line that ends it
end-IsDraft : (at : ℕ) (d : Draft) (names : List (List ℕ)) (e : Draft) → IsDraft d → with_end at d names ≡ Ok e → IsDraft e
end-IsDraft at d names e h k =
    let none = passed (length names == 0) (Syntax at) (Ok (record d { ended = true })) e k in
    subst IsDraft (ok_is (record d { ended = true }) e none.1) (marked-IsDraft d d.model d.begun true h h.model)

-- ---- rows

-- a list with a last element has an element
never_empty : {X : Type 0} (xs : List X) (x : X) → xs ++ x ∷ [] ≡ [] → ⊥
never_empty [] x e = cc
never_empty (y ∷ ys) x e = cc

-- a cover with a row more is a cover for the same signal
record IsRowOn (c e : CoverValue) : Type 0 where
  cover : IsCover e
  out : e.out ≡ c.out

-- a row that is taken leaves a cover, for the same signal
row_on : (at : ℕ) (c : CoverValue) (row : Option (List ℕ × List ℕ)) (e : CoverValue) → IsCover c → row_onto at c row ≡ Ok e → IsRowOn c e
row_on at c None e h k = absurd cc
row_on at c (Some row) e h k =
    let right = passed (is_row c row.0 row.1) (Syntax at) _ e k in
    let same = passed (agrees c (bit_of row.1)) (Mixed at) (Ok (with_row c row.0 (bit_of row.1))) e right.1 in
    let tests = both (length row.0 == length c.ins) (list_all is_mark row.0) (both ((length row.0 == length c.ins) && list_all is_mark row.0) (is_bit row.1) right.0).0 in
    let len : length (map mark_of row.0) ≡ length c.ins = length-map row.0 mark_of ∙ equal (length row.0) (length c.ins) tests.0 in
    let P : List _ → Type 0 = λ r. length r ≡ length c.ins in
    subst (IsRowOn c) (ok_is (with_row c row.0 (bit_of row.1)) e same.1)
    (record {
      cover = record {
        within = h.within;
        ins = h.ins;
        out = h.out;
        rows = All-append P c.rows (map mark_of row.0 ∷ []) h.rows (len, tt);
        on = λ (z : c.rows ++ map mark_of row.0 ∷ [] ≡ []). absurd (never_empty c.rows (map mark_of row.0) z);
      };
      out = refl;
    })
  where
    equal : (n m : ℕ) → (n == m) ≡ true → n ≡ m
    equal n m e = grind (arith, nat_tests)

-- a row of the open cover keeps the draft within the limits
row-IsDraft_by : (at : ℕ) (d : Draft) (o : Option CoverValue) (row : List (List ℕ)) (e : Draft) → d.current ≡ o → IsDraft d → with_row_line at d o row ≡ Ok e → IsDraft e
row-IsDraft_by at d None row e is h k = absurd cc
row-IsDraft_by at d (Some c) row e is h k =
    let b = bind_ok (row_onto at c (row_parts (length c.ins) row)) (λ x. Ok (record d { current = Some x })) e k in
    let all : all_covers d ≡ d.covers ++ c ∷ [] = ap (λ (x : Option CoverValue). d.covers ++ option_to_list x) is in
    let covers : AllByRecursion IsCover (d.covers ++ c ∷ []) = subst (λ (cs : List CoverValue). AllByRecursion IsCover cs) all h.covers in
    let r = row_on at c (row_parts (length c.ins) row) b.0 (All-right IsCover d.covers (c ∷ []) covers).0 b.1 in
    let len : length (all_covers d) ≡ length (d.covers ++ c ∷ []) = ap length all in
    let signals-is : signals d ≡ signals_of d.inputs (d.covers ++ b.0 ∷ []) =
    ap (signals_of d.inputs) all ∙ signals_push d.inputs d.covers c ∙ ap (λ (n : List ℕ). signals_of d.inputs d.covers ++ n ∷ []) (sym r.out) ∙ sym (signals_push d.inputs d.covers b.0) in
    let within = h.signals_within in
    subst IsDraft (ok_is (record d { current = Some b.0 }) e b.2)
    (with_covers d d.covers (Some b.0) h (All-append IsCover d.covers (b.0 ∷ []) (All-left IsCover d.covers (c ∷ []) covers) (r.cover, tt))
    (omega (arith, length-append d.covers (c ∷ []), length-append d.covers (b.0 ∷ [])))
    (subst (λ (ns : List (List ℕ)). IsDistinct bytes_eq ns) signals-is h.signals_differ))

-- ---- all lines

-- so does a line of each kind
line-IsDraft : (kind : LineKind) (at : ℕ) (d : Draft) (first : List ℕ) (names : List (List ℕ)) (e : Draft) → IsDraft d → AllByRecursion IsWord names → with_line kind at d first names ≡ Ok e → IsDraft e
line-IsDraft Model at d first names e h w k = model-IsDraft at (closed d) names e (closed-IsDraft d h) w k
line-IsDraft Inputs at d first names e h w k = inputs-IsDraft at (closed d) names e (closed-IsDraft d h) w k
line-IsDraft Outputs at d first names e h w k = outputs-IsDraft at (closed d) names e (closed-IsDraft d h) w k
line-IsDraft Names at d first names e h w k = names-IsDraft at (closed d) names e refl (closed-IsDraft d h) w k
line-IsDraft End at d first names e h w k = end-IsDraft at (closed d) names e (closed-IsDraft d h) k
line-IsDraft Other at d first names e h w k = absurd cc
line-IsDraft Row at d first names e h w k = row-IsDraft_by at d d.current (first ∷ names) e refl h k

-- the words of a line without a strange byte are words
sound_words : (ws : List (List ℕ)) → AllByRecursion IsRaw ws → list_all is_sound ws ≡ true → AllByRecursion IsWord ws
sound_words [] h e = tt
sound_words (w ∷ ws) h e =
    let s = both (is_sound w) (list_all is_sound ws) e in
    (record { some = h.0.some; sound = s.0; uncommented = h.0.plain_bytes }, sound_words ws h.1 s.1)

-- the words of a line keep the draft within the limits
words-IsDraft : (at : ℕ) (d : Draft) (ws : List (List ℕ)) (e : Draft) → IsDraft d → AllByRecursion IsRaw ws → with_words at d ws ≡ Ok e → IsDraft e
words-IsDraft at d [] e h w k = subst IsDraft (ok_is d e k) h
words-IsDraft at d (first ∷ names) e h w k =
    let sound = passed (list_all is_sound (first ∷ names)) (Syntax at) _ e k in
    let early = unless_ok d.ended (after_end (kind_of first) at) _ e sound.1 in
    let b = bind_ok (with_line (kind_of first) at d first names) (λ x. Ok (begun_with x)) e early.1 in
    let all = sound_words (first ∷ names) w sound.0 in
    let line = line-IsDraft (kind_of first) at d first names b.0 h all.1 b.1 in
    subst IsDraft (ok_is (begun_with b.0) e b.2) (marked-IsDraft b.0 b.0.model true b.0.ended line line.model)

-- so do lines one after the other
lines-IsDraft : (d : Draft) (ss : List Statement) (e : Draft) → IsDraft d → AllByRecursion HasRawWords ss → Follows d ss e → IsDraft e
lines-IsDraft d [] e h w k = subst IsDraft k h
lines-IsDraft d (s ∷ ss) e h w k = lines-IsDraft k.0 ss e (words-IsDraft s.at d s.words k.0 h w.0 k.1) w.1 k.2

-- where there are outputs, there is at least one
outputs_there : (outputs : List (List ℕ)) → outputs ≢ [] → 1 ≤ length outputs
outputs_there [] h = absurd (h refl)
outputs_there (o ∷ os) h = omega arith

-- the value of a text is a design
pub design_of_text : (text : List ℕ) (m : BlifValue) → BlifText text m → IsBlif m
design_of_text text m t =
    let h = lines-IsDraft start (statements text) t.end start-IsDraft (raw-statements text) t.follows in
    subst IsBlif t.value
    (record {
      model = h.model;
      inputs = h.inputs;
      inputs_within = h.inputs_within;
      outputs = h.outputs;
      outputs_some = outputs_there t.end.outputs t.outputs;
      outputs_within = h.outputs_within;
      outputs_differ = h.outputs_differ;
      covers = h.covers;
      signals_within = h.signals_within;
      signals_differ = h.signals_differ;
      rows_within = omega (arith, rows-within_text text t.end t.follows, t.short);
    })
