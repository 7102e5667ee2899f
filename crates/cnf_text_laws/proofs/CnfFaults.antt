-- The fault that is computed of a text is the one that it has.
use Rattle.std.proofs.Common.{◌≡◌, ◌≢◌, ℕ, ◌⊎◌, inl, inr, ◌==◌, true, false, nat_lt, List, [], ◌∷◌, ◌++◌, length, Result, Err, refl, sym, ap, subst, ◌∙◌}
use Rattle.std.proofs.lemmas.Bool.{cases_Bool, cases_lt, cases_eq, ne_eqb, ltb-true, ltb-false, false_from_ne_true}
use Rattle.clause_defs.specs.Clauses.{Lits}
use Rattle.text_defs.specs.Tokens.{Token}
use Rattle.sat_text_defs.specs.declared.limits.TheConstants.{MAX_CNF_BYTES}
use Rattle.sat_text_defs.specs.declared.errors.CnfError.{CnfError}
use Rattle.sat_text_defs.specs.declared.errors.CnfError.TheVariants.{TooLong, Syntax, VarRange, Count, NoMemory}
use Rattle.sat_text_defs.specs.Words.{words_of}
use Rattle.sat_text_defs.specs.CnfText.{ends_in_zero}
use Rattle.text_defs.specs.Steps.{◌>>=◌}
use Rattle.sat_text_defs.specs.CnfText.{tokens_of}
use Rattle.clause_defs.specs.Formulas.{Formula}
use Rattle.sat_text_defs.specs.CnfReading.{clauses_from, counted, cnf_from, cnf_in}
use Rattle.sat_text_defs.specs.CnfText.{IsClauseWord, CanStand, IsOutOfRange, EachRight, IsWhole, Counts, FaultOf, header_end, CnfTextFault}
use Rattle.cnf_text_laws.proofs.ClauseTokens.{Outside, AllRight, BodyFault, judged_body, fault_body, whole_body, open_body}
use Rattle.cnf_text_laws.proofs.HeaderTokens.{Headed, first_stops, second_stops, third_stops, fourth_stops, ends_behind_first, ends_behind_second, ends_behind_third, headed_alone, headed_not_alone}
use Rattle.cnf_text_laws.proofs.RightTokens.{first_stands, second_stands, third_stands, headed_of_each, alone_of_each, all_of_each, outside_of, each_of_parts}
use Rattle.cnf_text_laws.proofs.TokenOrder.{InOrder, BeginsBehind, AllBehind, tokens_in_order, all_behind, begins_behind, behind_before, behind_next}
use Rattle.cnf_text_laws.proofs.HeaderOrNot.{answer}
use Rattle.cnf_text_laws.proofs.CnfsRead.{cnf_from-good, cnf_from-stops, counted-same, cnf_in-short, cnf_in-long}

-- another number of clauses than the header says is a fault
counted-other : (v : ℕ) (fs : List Lits) (k : ℕ) → (length fs ≡ k → ⊥) → counted v k fs ≡ Err (Count k (length fs))
counted-other v fs k h = let test : (length fs == k) ≡ false = ne_eqb (length fs) k h in rw test refl

-- what the clauses of a text with this header give
cnf_from-headed : (end line : ℕ) (p c d n : Token) (body : List Token) (v k : ℕ) → Headed line p c d n v k → BeginsBehind line body
    → cnf_from end line (p ∷ c ∷ d ∷ n ∷ body) ≡ (clauses_from v end body [] [] >>= λ fs. counted v k fs)
cnf_from-headed end line p c d n body v k h b =
    cnf_from-good end line (p ∷ c ∷ d ∷ n ∷ body) v k body (headed_alone end line p c d n body v k h b)

-- a fault of the clauses is the fault of the text
headed_fault : (end line : ℕ) (p c d n : Token) (body : List Token) (v k : ℕ) (e : CnfError) → Headed line p c d n v k → BeginsBehind line body
    → clauses_from v end body [] [] ≡ Err e → cnf_from end line (p ∷ c ∷ d ∷ n ∷ body) ≡ Err e
headed_fault end line p c d n body v k e h b f =
    cnf_from-headed end line p c d n body v k h b ∙ ap {B = Result Formula CnfError} (λ r. r >>= λ fs. counted v k fs) f

-- ---- from what is computed

-- a token of the clauses stands in the text behind the header and those before it
body_parts : (p c d n : Token) (body before : List Token) (t : Token) (after : List Token) → body ≡ before ++ (t ∷ after)
    → p ∷ c ∷ d ∷ n ∷ body ≡ (p ∷ c ∷ d ∷ n ∷ before) ++ (t ∷ after)
body_parts p c d n body before t after e = ap (λ (us : List Token). p ∷ c ∷ d ∷ n ∷ us) e

-- a fault of the clauses that is read is the text's by definition
fault_in_body : (end line : ℕ) (p c d n : Token) (body : List Token) (v k : ℕ) (e : CnfError) → Headed line p c d n v k → AllBehind line body
    → BodyFault v end body e → FaultOf end line (p ∷ c ∷ d ∷ n ∷ body) e
fault_in_body end line p c d n body v k e h b f =
    let behind : AllBehind line (f.before ++ (f.token ∷ f.after)) = subst (λ (x : List Token). AllBehind line x) f.parts b in
    let each = each_of_parts line p c d n f.before v k h (behind_before line f.before (f.token ∷ f.after) behind) f.right in
    let parts = body_parts p c d n body f.before f.token f.after f.parts in
    elim f.fault [
      | inl bad ↦
          subst (λ (x : CnfError). FaultOf end line (p ∷ c ∷ d ∷ n ∷ body) x) (sym bad.1)
          (inl (
            f.token,
            record {
              before = p ∷ c ∷ d ∷ n ∷ f.before;
              after = f.after;
              parts = parts;
              each_before = each;
              cannot = λ s. bad.0 s.1;
            },
            refl,
          ))
      | inr out ↦
          subst (λ (x : CnfError). FaultOf end line (p ∷ c ∷ d ∷ n ∷ body) x) (sym out.1) (
            f.token,
            record {
              before = p ∷ c ∷ d ∷ n ∷ f.before;
              after = f.after;
              parts = parts;
              each_before = each;
              stands = (behind_next line f.before f.token f.after behind, inr (out.0.0, out.0.1));
              out = (v, h.third.1, out.0);
            },
            refl,
          )
    ]

-- where the clauses are whole, the fault is their number
fault_of_count : (end line : ℕ) (p c d n : Token) (body : List Token) (v k : ℕ) (e : CnfError) → Headed line p c d n v k → AllBehind line body
    → AllRight v body → ends_in_zero true (words_of body) ≡ true → cnf_from end line (p ∷ c ∷ d ∷ n ∷ body) ≡ Err e
    → FaultOf end line (p ∷ c ∷ d ∷ n ∷ body) e
fault_of_count end line p c d n body v k e h b a whole f =
    let w = whole_body v end body a whole in
    let computes = cnf_from-headed end line p c d n body v k h (begins_behind line body b) ∙ ap {B = Result Formula CnfError} (λ r. r >>= λ fs. counted v k fs) w.1 in
    elim (cases_eq (length w.0) k) [
      | inl same ↦ absurd (let good = counted-same v w.0 k same in cc)
      | inr other ↦
          let wrong = counted-other v w.0 k other in
          let fault : Count k (length w.0) ≡ e = cc in
          subst (λ (x : CnfError). FaultOf end line (p ∷ c ∷ d ∷ n ∷ body) x) fault
          (each_of_parts line p c d n body v k h b a, whole, (h.fourth.1, w.2), λ s. other (sym s))
    ]

-- where a clause is open at the end, the fault is the end
fault_of_end : (end line : ℕ) (p c d n : Token) (body : List Token) (v k : ℕ) (e : CnfError) → Headed line p c d n v k → AllBehind line body
    → AllRight v body → ends_in_zero true (words_of body) ≡ false → cnf_from end line (p ∷ c ∷ d ∷ n ∷ body) ≡ Err e
    → FaultOf end line (p ∷ c ∷ d ∷ n ∷ body) e
fault_of_end end line p c d n body v k e h b a open_clause f =
    let computes = headed_fault end line p c d n body v k (Syntax end) h (begins_behind line body b) (open_body v end body a open_clause) in
    let fault : Syntax end ≡ e = cc in
    subst (λ (x : CnfError). FaultOf end line (p ∷ c ∷ d ∷ n ∷ body) x) fault
    (inr (each_of_parts line p c d n body v k h b a, λ w. (let whole : ends_in_zero true (words_of body) ≡ true = w in cc), refl))

-- the fault that is read behind the header is the text's
fault_behind : (end line : ℕ) (p c d n : Token) (body : List Token) (v k : ℕ) (e : CnfError) → Headed line p c d n v k → AllBehind line body
    → cnf_from end line (p ∷ c ∷ d ∷ n ∷ body) ≡ Err e → FaultOf end line (p ∷ c ∷ d ∷ n ∷ body) e
fault_behind end line p c d n body v k e h b f = elim (judged_body v end body [] []) [
  | inl a ↦ elim (cases_Bool (ends_in_zero true (words_of body))) [
    | inl whole ↦ fault_of_count end line p c d n body v k e h b a whole f
    | inr open_clause ↦ fault_of_end end line p c d n body v k e h b a open_clause f
  ]
  | inr j ↦
      let computes = headed_fault end line p c d n body v k j.0 h (begins_behind line body b) j.2 in
      let fault : j.0 ≡ e = cc in
      subst (λ (x : CnfError). FaultOf end line (p ∷ c ∷ d ∷ n ∷ body) x) fault (fault_in_body end line p c d n body v k j.0 h b j.1)
]

-- the fault that is computed of the tokens is theirs
fault_computed : (end line : ℕ) (ts : List Token) (e : CnfError) → InOrder ts → cnf_from end line ts ≡ Err e → FaultOf end line ts e
fault_computed end line ts e o f = elim (answer end line ts) [
  | inl g ↦
      subst (λ (x : List Token). FaultOf end line x e) (sym g.parts)
      (fault_behind end line g.p g.c g.d g.n g.body g.variables g.clauses e g.headed
      (all_behind line g.body (subst (λ (x : List Token). InOrder x) g.parts o).1.1.1.1 g.alone)
      (ap (λ (x : List Token). cnf_from end line x) (sym g.parts) ∙ f))
  | inr stops ↦ elim stops [
    | inl bad ↦
        let computes = cnf_from-stops end line ts (Syntax bad.0.at) bad.2 in
        let fault : Syntax bad.0.at ≡ e = cc in
        subst (λ (x : CnfError). FaultOf end line ts x) fault (inl (bad.0, bad.1, refl))
    | inr short ↦
        let computes = cnf_from-stops end line ts (Syntax end) short.2 in
        let fault : Syntax end ≡ e = cc in
        subst (λ (x : CnfError). FaultOf end line ts x) fault (inr (short.0, short.1, refl))
  ]
]

-- ---- to what is computed

-- the first token behind the header that can't stand or is out of range is the fault that is read
bad_behind : (end line : ℕ) (p c d n : Token) (us : List Token) (t : Token) (after : List Token) (v k : ℕ) (e : CnfError) → Headed line p c d n v k
    → BeginsBehind line (us ++ (t ∷ after)) → AllRight v us
    → ((IsClauseWord t.bytes → ⊥) × (e ≡ Syntax t.at)) ⊎ (Outside v t.bytes × (e ≡ VarRange t.at))
    → cnf_from end line (p ∷ c ∷ d ∷ n ∷ (us ++ (t ∷ after))) ≡ Err e
bad_behind end line p c d n us t after v k e h b a f =
    headed_fault end line p c d n (us ++ (t ∷ after)) v k e h b
    (fault_body v end (us ++ (t ∷ after)) e [] []
    (record { before = us; token = t; after = after; parts = refl; right = a; fault = f }))

-- the first token that can't stand is the fault that is read
computed_bad : (end line : ℕ) (before : List Token) (t : Token) (after : List Token) → InOrder (before ++ (t ∷ after)) → EachRight line before → (CanStand line before t → ⊥)
    → cnf_from end line (before ++ (t ∷ after)) ≡ Err (Syntax t.at)
computed_bad end line [] t after o h k = cnf_from-stops end line (t ∷ after) (Syntax t.at) (first_stops end line t after k)
computed_bad end line (p ∷ []) t after o h k =
    cnf_from-stops end line (p ∷ t ∷ after) (Syntax t.at) (second_stops end line p t after (first_stands line p [] h) k)
computed_bad end line (p ∷ c ∷ []) t after o h k =
    cnf_from-stops end line (p ∷ c ∷ t ∷ after) (Syntax t.at) (third_stops end line p c t after (first_stands line p (c ∷ []) h) (second_stands line p c [] h) k)
computed_bad end line (p ∷ c ∷ d ∷ []) t after o h k =
    cnf_from-stops end line (p ∷ c ∷ d ∷ t ∷ after) (Syntax t.at)
    (fourth_stops end line p c d t after (first_stands line p (c ∷ d ∷ []) h) (second_stands line p c (d ∷ []) h) (third_stands line p c d [] h) k)
computed_bad end line (p ∷ c ∷ d ∷ n ∷ []) t after o h k =
    let head = headed_of_each line p c d n [] h in
    elim (cases_lt t.at line) [
      | inl lt ↦ cnf_from-stops end line (p ∷ c ∷ d ∷ n ∷ t ∷ after) (Syntax t.at) (headed_not_alone end line p c d n t after head.0 head.1 head.2 lt)
      | inr le ↦ bad_behind end line p c d n [] t after head.0 head.1 (Syntax t.at) head.2 le tt (inl (λ w. k (le, w), refl))
    ]
computed_bad end line (p ∷ c ∷ d ∷ n ∷ u ∷ us) t after o h k =
    let head = headed_of_each line p c d n (u ∷ us) h in
    bad_behind end line p c d n (u ∷ us) t after head.0 head.1 (Syntax t.at) head.2 (alone_of_each line p c d n (u ∷ us) h)
    (all_of_each line p c d n (u ∷ us) head.0 head.2.third.1 h)
    (inl (λ w. k (behind_next line (u ∷ us) t after (all_behind line (u ∷ us ++ t ∷ after) o.1.1.1.1 (alone_of_each line p c d n (u ∷ us) h)), w), refl))

-- where a token can stand behind the header, the header is alone on its line
alone_out : (line : ℕ) (p c d n : Token) (us : List Token) (t : Token) (after : List Token) → EachRight line (p ∷ c ∷ d ∷ n ∷ us) → CanStand line (p ∷ c ∷ d ∷ n ∷ us) t
    → BeginsBehind line (us ++ (t ∷ after))
alone_out line p c d n [] t after h s = s.0
alone_out line p c d n (u ∷ us) t after h s = alone_of_each line p c d n (u ∷ us) h

-- the first literal of a greater variable is the fault that is read
computed_out : (end line : ℕ) (before : List Token) (t : Token) (after : List Token) → EachRight line before → CanStand line before t → IsOutOfRange before t
    → cnf_from end line (before ++ (t ∷ after)) ≡ Err (VarRange t.at)
computed_out end line [] t after h s o = absurd o
computed_out end line (p ∷ []) t after h s o = absurd o
computed_out end line (p ∷ c ∷ []) t after h s o = absurd o
computed_out end line (p ∷ c ∷ d ∷ []) t after h s o = absurd o
computed_out end line (p ∷ c ∷ d ∷ n ∷ us) t after h s o =
    let head = headed_of_each line p c d n us h in
    bad_behind end line p c d n us t after head.0 head.1 (VarRange t.at) head.2 (alone_out line p c d n us t after h s)
    (all_of_each line p c d n us head.0 head.2.third.1 h) (inr (outside_of p c d n us t head.0 head.2.third.1 o, refl))

-- the end of a text that isn't whole is the fault that is read
computed_short : (end line : ℕ) (ts : List Token) → EachRight line ts → (IsWhole ts → ⊥) → cnf_from end line ts ≡ Err (Syntax end)
computed_short end line [] h w = refl
computed_short end line (p ∷ []) h w = cnf_from-stops end line (p ∷ []) (Syntax end) (ends_behind_first end line p (first_stands line p [] h))
computed_short end line (p ∷ c ∷ []) h w =
    cnf_from-stops end line (p ∷ c ∷ []) (Syntax end) (ends_behind_second end line p c (first_stands line p (c ∷ []) h) (second_stands line p c [] h))
computed_short end line (p ∷ c ∷ d ∷ []) h w =
    cnf_from-stops end line (p ∷ c ∷ d ∷ []) (Syntax end)
    (ends_behind_third end line p c d (first_stands line p (c ∷ d ∷ []) h) (second_stands line p c (d ∷ []) h) (third_stands line p c d [] h))
computed_short end line (p ∷ c ∷ d ∷ n ∷ us) h w =
    let head = headed_of_each line p c d n us h in
    headed_fault end line p c d n us head.0 head.1 (Syntax end) head.2 (alone_of_each line p c d n us h)
    (open_body head.0 end us (all_of_each line p c d n us head.0 head.2.third.1 h) (false_from_ne_true (ends_in_zero true (words_of us)) w))

-- another number of clauses than the header says is the fault that is read
computed_count : (end line : ℕ) (ts : List Token) (said found : ℕ) → EachRight line ts → IsWhole ts → Counts ts said found → said ≢ found
    → cnf_from end line ts ≡ Err (Count said found)
computed_count end line [] said found h w k o = absurd w
computed_count end line (p ∷ []) said found h w k o = absurd w
computed_count end line (p ∷ c ∷ []) said found h w k o = absurd w
computed_count end line (p ∷ c ∷ d ∷ []) said found h w k o = absurd w
computed_count end line (p ∷ c ∷ d ∷ n ∷ us) said found h w k o =
    let head = headed_of_each line p c d n us h in
    let headed : Headed line p c d n head.0 said =
    record { first = head.2.first; second = head.2.second; third = head.2.third; fourth = (head.2.fourth.0, k.0) } in
    let body = whole_body head.0 end us (all_of_each line p c d n us head.0 head.2.third.1 h) w in
    let number : length body.0 ≡ found = body.2 ∙ sym k.1 in
    cnf_from-headed end line p c d n us head.0 said headed (alone_of_each line p c d n us h)
    ∙ ap {B = Result Formula CnfError} (λ r. r >>= λ fs. counted head.0 said fs) body.1
    ∙ counted-other head.0 body.0 said (λ e. o (sym e ∙ number))
    ∙ ap {B = Result Formula CnfError} (λ (x : ℕ). Err (Count said x)) number

-- the fault of the tokens is the one that is read
computed_fault : (end line : ℕ) (ts : List Token) (e : CnfError) → InOrder ts → FaultOf end line ts e → cnf_from end line ts ≡ Err e
computed_fault end line ts TooLong o h = absurd h
computed_fault end line ts (Syntax at) o (inl h) =
    ap (λ (x : List Token). cnf_from end line x) h.1.parts
    ∙ computed_bad end line h.1.before h.0 h.1.after (subst (λ (x : List Token). InOrder x) h.1.parts o) h.1.each_before h.1.cannot
    ∙ ap {B = Result Formula CnfError} (λ (x : ℕ). Err (Syntax x)) (sym h.2)
computed_fault end line ts (Syntax at) o (inr h) =
    computed_short end line ts h.0 h.1 ∙ ap {B = Result Formula CnfError} (λ (x : ℕ). Err (Syntax x)) (sym h.2)
computed_fault end line ts (VarRange at) o h =
    ap (λ (x : List Token). cnf_from end line x) h.1.parts
    ∙ computed_out end line h.1.before h.0 h.1.after h.1.each_before h.1.stands h.1.out
    ∙ ap {B = Result Formula CnfError} (λ (x : ℕ). Err (VarRange x)) (sym h.2)
computed_fault end line ts (Count said found) o h = computed_count end line ts said found h.0 h.1 h.2 h.3
computed_fault end line ts NoMemory o h = absurd h

-- ---- texts

-- a fault that is computed of a text is the one that the text has
pub fault_of_cnf_in : (text : List ℕ) (e : CnfError) → cnf_in text ≡ Err e → CnfTextFault text e
fault_of_cnf_in text e f = elim (cases_Bool (nat_lt MAX_CNF_BYTES (length text))) [
  | inl test ↦
      let long = ltb-true MAX_CNF_BYTES (length text) test in
      let computes = cnf_in-long text long in
      inl (long, (let same : e ≡ TooLong = cc in same))
  | inr test ↦
      let short = ltb-false MAX_CNF_BYTES (length text) test in
      inr (short, fault_computed (length text) (header_end text (tokens_of text)) (tokens_of text) e (tokens_in_order text) (sym (cnf_in-short text short) ∙ f))
]

-- the fault that a text has is computed of it
pub cnf_in_of_fault : (text : List ℕ) (e : CnfError) → CnfTextFault text e → cnf_in text ≡ Err e
cnf_in_of_fault text e (inl h) = cnf_in-long text h.0 ∙ ap {B = Result Formula CnfError} (λ (x : CnfError). Err x) (sym h.1)
cnf_in_of_fault text e (inr h) =
    cnf_in-short text h.0 ∙ computed_fault (length text) (header_end text (tokens_of text)) (tokens_of text) e (tokens_in_order text) h.1
