-- What is read line after line, and what the lines lead to.
use Rattle.std.proofs.Common.{◌≡◌, ℕ, ◌<◌, ◌≤◌, ◌≢◌, Bool, true, false, cond, List, [], ◌∷◌, ◌++◌, length, Result, Ok, Err, refl, sym, ap, subst, ◌∙◌, arith, ⊎_elim, inl, inr}
use Rattle.std.specs.Prelude.{◌==◌, nat_le}
use Rattle.std.proofs.lemmas.Bool.Decides.{nat_tests}
use Rattle.blif_defs.specs.declared.mark.TheConstants.{MAX_BYTES}
use Rattle.blif_defs.specs.declared.error.BlifError.{BlifError}
use Rattle.blif_defs.specs.declared.error.BlifError.TheVariants.{TooLong, NoOutputs}
use Rattle.text_defs.specs.Steps.{◌>>=◌}
use Rattle.text_defs.proofs.StepLemmas.{bind_ok, unless_ok}
use Rattle.blif_defs.specs.Values.{BlifValue}
use Rattle.blif_defs.specs.Drafts.{Draft, start, value_of}
use Rattle.blif_defs.specs.Grammar.{Statement, statements, with_words, with_statements, finished, reading}
use Rattle.blif_defs.specs.Texts.{Follows, BlifText, IsFirstFaultyLine, LacksOutputs, BlifFault}

-- a test that let a value through
pub passed : {A : Type 0} (b : Bool) (d : BlifError) (r : Result A BlifError) (y : A) → cond b r (Err d) ≡ Ok y → (b ≡ true) × (r ≡ Ok y)
passed true d r y e = (refl, e)
passed false d r y e = absurd cc

-- a result that is a value
abbrev pub ok : {A : Type 0} → A → Result A BlifError
ok x = Ok x

-- equal results have equal values
pub ok_is : {A : Type 0} (x y : A) → ok x ≡ ok y → x ≡ y
ok_is x y e = cc

-- a result that is a fault
abbrev pub err : {A : Type 0} → BlifError → Result A BlifError
err f = Err f

-- ---- lines without a fault

-- where the lines lead on, reading them gives where they lead
pub with_statements-Follows : (d : Draft) (ss : List Statement) (e : Draft) → Follows d ss e → with_statements d ss ≡ Ok e
with_statements-Follows d [] e h = ap ok h
with_statements-Follows d (s ∷ ss) e h = rw h.1 (with_statements-Follows h.0 ss e h.2)

-- what reading gives is where the lines lead
pub Follows-with_statements : (d : Draft) (ss : List Statement) (e : Draft) → with_statements d ss ≡ Ok e → Follows d ss e
Follows-with_statements d [] e h = ok_is d e h
Follows-with_statements d (s ∷ ss) e h =
    let b = bind_ok (with_words s.at d s.words) (λ n. with_statements n ss) e h in
    (b.0, b.1, Follows-with_statements b.0 ss e b.2)

-- ---- the first faulty line

-- the lines d leads along up to a faulty one
pub record Stops (d : Draft) (ss : List Statement) (fault : BlifError) : Type 0 where
  pub before : List Statement
  pub line : Statement
  pub after : List Statement
  pub parts : ss ≡ before ++ line ∷ after
  pub draft : Draft
  pub follows : Follows d before draft
  pub faulty : with_words line.at draft line.words ≡ Err fault

-- reading stops at a faulty line
pub with_statements-stops : (d : Draft) (before : List Statement) (line : Statement) (after : List Statement) (draft : Draft) (fault : BlifError)
    → Follows d before draft → with_words line.at draft line.words ≡ Err fault → with_statements d (before ++ line ∷ after) ≡ Err fault
with_statements-stops d [] line after draft fault h f =
    let f : with_words line.at d line.words ≡ Err fault = subst (λ (x : Draft). with_words line.at x line.words ≡ Err fault) (sym h) f in
    rw f refl
with_statements-stops d (s ∷ before) line after draft fault h f = rw h.1 (with_statements-stops h.0 before line after draft fault h.2 f)

-- where a step goes on or fails
stops_by : (r : Result Draft BlifError) (d : Draft) (s : Statement) (ss : List Statement) (fault : BlifError) → with_words s.at d s.words ≡ r
    → (r >>= λ n. with_statements n ss) ≡ Err fault → ((n : Draft) → with_statements n ss ≡ Err fault → Stops n ss fault) → Stops d (s ∷ ss) fault
stops_by (Ok n) d s ss fault is e ih =
    let t = ih n e in
    record {
      before = s ∷ t.before;
      line = t.line;
      after = t.after;
      parts = ap (λ (more : List Statement). s ∷ more) t.parts;
      draft = t.draft;
      follows = (n, is, t.follows);
      faulty = t.faulty;
    }
stops_by (Err f) d s ss fault is e ih =
    let faulty : with_words s.at d s.words ≡ Err fault = cc in
    record { before = []; line = s; after = ss; parts = refl; draft = d; follows = refl; faulty = faulty }

-- a fault is that of a line before which none is faulty
pub stops : (d : Draft) (ss : List Statement) (fault : BlifError) → with_statements d ss ≡ Err fault → Stops d ss fault
stops d [] fault e = absurd cc
stops d (s ∷ ss) fault e = stops_by (with_words s.at d s.words) d s ss fault refl e (λ n h. stops n ss fault h)

-- ---- whole texts

-- a text that isn't too long is read line by line, and then finished
reading-short : (text : List ℕ) → length text ≤ MAX_BYTES → reading text ≡ (with_statements start (statements text) >>= λ d. finished d)
reading-short text h =
    let short : nat_le (length text) MAX_BYTES ≡ true = grind (arith, nat_tests) in
    rw short refl

-- a text that is too long is read as that fault
reading-long : (text : List ℕ) → MAX_BYTES < length text → reading text ≡ Err TooLong
reading-long text h =
    let long : nat_le (length text) MAX_BYTES ≡ false = grind (arith, nat_tests) in
    rw long refl

-- a draft with outputs is finished as its value
finished-some : (d : Draft) → d.outputs ≢ [] → finished d ≡ Ok (value_of d)
finished-some d h = by d.outputs h
  where
    by : (outputs : List (List ℕ)) → outputs ≢ [] → cond (length outputs == 0) (Err NoOutputs) (Ok (value_of d)) ≡ ok (value_of d)
    by [] h = absurd (h refl)
    by (o ∷ os) h =
        let some : (length (o ∷ os) == 0) ≡ false = grind (arith, nat_tests) in
        rw some refl

-- one without outputs lacks them
finished-none : (d : Draft) → d.outputs ≡ [] → finished d ≡ Err NoOutputs
finished-none d h = ap (λ (outputs : List (List ℕ)). cond (length outputs == 0) (Err NoOutputs) (ok (value_of d))) h

-- no test comes out both ways
apart : (b : Bool) → b ≡ true → b ≡ false → ⊥
apart b e f = cc

-- what an answer of `finished` says
some_outputs : (d : Draft) (m : BlifValue) → finished d ≡ Ok m → (d.outputs ≢ []) × (value_of d ≡ m)
some_outputs d m h =
    let k = unless_ok (length d.outputs == 0) NoOutputs (Ok (value_of d)) m h in
    (λ (e : d.outputs ≡ []). apart (length d.outputs == 0) (ap (λ (outputs : List (List ℕ)). length outputs == 0) e) k.0, ok_is (value_of d) m k.1)

-- what lacks outputs has none, and has no other fault
no_outputs_by : (outputs : List (List ℕ)) (m : BlifValue) (fault : BlifError) → cond (length outputs == 0) (Err NoOutputs) (ok m) ≡ Err fault → (outputs ≡ []) × (fault ≡ NoOutputs)
no_outputs_by [] m fault e = (refl, cc)
no_outputs_by (o ∷ os) m fault e =
    let some : (length (o ∷ os) == 0) ≡ false = grind (arith, nat_tests) in
    let e = rw some at e in
    absurd cc

-- the value of a text is read
pub read_value : (text : List ℕ) (m : BlifValue) → BlifText text m → reading text ≡ Ok m
read_value text m h =
    reading-short text h.short
    ∙ ap (λ (r : Result Draft BlifError). r >>= λ d. finished d) (with_statements-Follows start (statements text) h.end h.follows)
    ∙ finished-some h.end h.outputs ∙ ap ok h.value

-- what is read is the value of the text
pub value_read : (text : List ℕ) (m : BlifValue) → reading text ≡ Ok m → BlifText text m
value_read text m h =
    let p = passed (nat_le (length text) MAX_BYTES) TooLong (with_statements start (statements text) >>= λ d. finished d) m h in
    let b = bind_ok (with_statements start (statements text)) (λ d. finished d) m p.1 in
    let o = some_outputs b.0 m b.2 in
    let lt : length text ≤ MAX_BYTES = within (length text) p.0 in
    record { short = lt; end = b.0; follows = Follows-with_statements start (statements text) b.0 b.1; outputs = o.0; value = o.1 }
  where
    within : (n : ℕ) → nat_le n MAX_BYTES ≡ true → n ≤ MAX_BYTES
    within n e = grind (arith, nat_tests)

-- the first fault of a text is answered
pub read_fault : (text : List ℕ) (fault : BlifError) → BlifFault text fault → reading text ≡ Err fault
read_fault text fault h =
    ⊎_elim (λ (long : (MAX_BYTES < length text) × (fault ≡ TooLong)). reading-long text long.0 ∙ ap err (sym long.1))
    (λ rest. ⊎_elim (by_line text fault) (by_outputs text fault) rest) h
  where
    by_line : (text : List ℕ) (fault : BlifError) → IsFirstFaultyLine text fault → reading text ≡ Err fault
    by_line text fault l =
        reading-short text l.short
        ∙ ap (λ (ss : List Statement). with_statements start ss >>= λ d. finished d) l.parts
        ∙ ap (λ (r : Result Draft BlifError). r >>= λ d. finished d) (with_statements-stops start l.before l.line l.after l.draft fault l.follows l.faulty)

    by_outputs : (text : List ℕ) (fault : BlifError) → LacksOutputs text × (fault ≡ NoOutputs) → reading text ≡ Err fault
    by_outputs text fault l =
        reading-short text l.0.short
        ∙ ap (λ (r : Result Draft BlifError). r >>= λ d. finished d) (with_statements-Follows start (statements text) l.0.end l.0.follows)
        ∙ finished-none l.0.end l.0.outputs ∙ ap err (sym l.1)

-- what is answered is the first fault of the text
pub fault_read : (text : List ℕ) (fault : BlifError) → reading text ≡ Err fault → BlifFault text fault
fault_read text fault h = by (nat_le (length text) MAX_BYTES) refl h
  where
    after : (r : Result Draft BlifError) → with_statements start (statements text) ≡ r → length text ≤ MAX_BYTES → (r >>= λ d. finished d) ≡ Err fault → BlifFault text fault
    after (Ok d) is short e =
        let n = no_outputs_by d.outputs (value_of d) fault e in
        inr (inr (record { short = short; end = d; follows = Follows-with_statements start (statements text) d is; outputs = n.0 }, n.1))
    after (Err f) is short e =
        let same : f ≡ fault = cc in
        let t = stops start (statements text) fault (is ∙ ap err same) in
        inr (inl (record { short = short; before = t.before; line = t.line; after = t.after; parts = t.parts; draft = t.draft; follows = t.follows; faulty = t.faulty }))

    by : (short : Bool) → nat_le (length text) MAX_BYTES ≡ short → cond short (with_statements start (statements text) >>= λ d. finished d) (Err TooLong) ≡ Err fault → BlifFault text fault
    by true is e = after (with_statements start (statements text)) refl (grind (arith, nat_tests)) e
    by false is e = inl (grind (arith, nat_tests), cc)
