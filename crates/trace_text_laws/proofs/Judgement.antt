-- The judgement of a whole clause: where its antecedents stand, and why it is judged faulty.
use Rattle.std.proofs.Common.{◌≡◌, ◌≢◌, ℕ, zero, suc, ◌+◌, ◌<◌, ◌==◌, ◌⊎◌, inl, inr, Bool, true, false, List, [], ◌∷◌, ◌++◌, length, map, Option, Some, None, is_some, ok_or, Result, Ok, Err, if◌then◌else◌, refl, sym, ap, subst, ◌∙◌, arith}
use Rattle.std.proofs.lemmas.Bool.{eq-eqb, ne_eqb, eqb-true}
use Rattle.std.proofs.lemmas.List.{append-nil, append_assoc, map-append}
use Rattle.clause_defs.specs.Clauses.{Has}
use Rattle.clause_defs.specs.Traces.{Entry, index_at, place_from, place_of}
use Rattle.clause_laws.proofs.TraceLemmas.{Has-snoc, AreWithin}
use Rattle.text_defs.specs.Steps.{◌>>=◌}
use Rattle.text_defs.proofs.StepLemmas.{bind_ok, bind_err, ok_or_ok, ok_or_err, unless_ok}
use Rattle.sat_text_defs.specs.declared.errors.TraceError.{TraceError}
use Rattle.sat_text_defs.specs.declared.errors.TraceError.TheVariants.{Repeated, Unknown}
use Rattle.sat_text_defs.specs.TraceText.{Spelled, HasIndex, FirstUnknown}
use Rattle.sat_text_defs.specs.TraceReading.{places_from, indices_of, entry_of, with_places, judged}

-- ---- the place of one index

-- p is the first place where the index stands
pub place_from-found : (k p : ℕ) (es : List Entry) (x : ℕ) → p < length es → index_at es p ≡ x → ((j : ℕ) → j < p → index_at es j ≢ x)
    → place_from k (indices_of es) x ≡ Some (k + p)
place_from-found k p [] x lt e first = absurd (omega arith)
place_from-found k zero (d ∷ es) x lt e first = rw (eq-eqb d.index x e) (ap Some (omega arith))
place_from-found k (suc p) (d ∷ es) x lt e first =
    let other : (d.index == x) ≡ false = ne_eqb d.index x (first 0 (omega arith)) in
    let rest = place_from-found (k + 1) p es x (omega arith) e (λ j below. first (suc j) (omega arith)) in
    let same : k + 1 + p ≡ k + suc p = omega arith in
    rw other (rest ∙ ap Some same)

-- an index that no clause has has no place
pub place_from-none : (k : ℕ) (es : List Entry) (x : ℕ) → ((j : ℕ) → j < length es → index_at es j ≢ x) → place_from k (indices_of es) x ≡ None
place_from-none k [] x none = refl
place_from-none k (d ∷ es) x none =
    let other : (d.index == x) ≡ false = ne_eqb d.index x (none 0 (omega arith)) in
    rw other (place_from-none (k + 1) es x (λ j below. none (suc j) (omega arith)))

-- an index that is found from the first clause on has its place there or among the later clauses
found_at : (k q : ℕ) (d : Entry) (es : List Entry) (x : ℕ) (t : Bool) → (d.index == x) ≡ t
    → (if t then Some k else place_from (k + 1) (indices_of es) x) ≡ Some q
    → (place_from (k + 1) (indices_of es) x ≡ Some q → (p : ℕ) × (q ≡ k + 1 + p) × (p < length es) × (index_at es p ≡ x))
    → (p : ℕ) × (q ≡ k + p) × (p < length (d ∷ es)) × (index_at (d ∷ es) p ≡ x)
found_at k q d es x true e h rest = let same : k ≡ q = cc in (0, omega arith, omega arith, eqb-true d.index x e)
found_at k q d es x false e h rest =
    let found = rest h in
    let at : q ≡ k + 1 + found.0 = found.1 in
    let within : found.0 < length es = found.2 in
    (suc found.0, omega arith, omega arith, found.3)

-- an index that has a place stands there
pub place_from-some : (k q : ℕ) (es : List Entry) (x : ℕ) → place_from k (indices_of es) x ≡ Some q
    → (p : ℕ) × (q ≡ k + p) × (p < length es) × (index_at es p ≡ x)
place_from-some k q [] x h = absurd (cc)
place_from-some k q (d ∷ es) x h = found_at k q d es x (d.index == x) refl h (place_from-some (k + 1) q es x)

-- an index that isn't found from the first clause on is neither its nor a later one's
none_at : (k : ℕ) (d : Entry) (es : List Entry) (x : ℕ) (t : Bool) → (d.index == x) ≡ t
    → (if t then Some k else place_from (k + 1) (indices_of es) x) ≡ None → (t ≡ false) × (place_from (k + 1) (indices_of es) x ≡ None)
none_at k d es x true e h = absurd (cc)
none_at k d es x false e h = (refl, h)

-- numbers that a test tells apart are two
not_equal : (a b : ℕ) → (a == b) ≡ false → a ≢ b
not_equal a b h e = let t : (a == b) ≡ true = eq-eqb a b e in cc

-- an index that has no place stands nowhere
pub place_from-nowhere : (k : ℕ) (es : List Entry) (x : ℕ) → place_from k (indices_of es) x ≡ None → (j : ℕ) → j < length es → index_at es j ≢ x
place_from-nowhere k [] x h j lt = absurd (omega arith)
place_from-nowhere k (d ∷ es) x h zero lt = not_equal d.index x (none_at k d es x (d.index == x) refl h).0
place_from-nowhere k (d ∷ es) x h (suc j) lt = place_from-nowhere (k + 1) es x (none_at k d es x (d.index == x) refl h).1 j (omega arith)

-- the place of an index is one where it stands
pub place_of-some : (es : List Entry) (x q : ℕ) → place_of (indices_of es) x ≡ Some q → (q < length es) × (index_at es q ≡ x)
place_of-some es x q h =
    let found = place_from-some 0 q es x h in
    let same : q ≡ found.0 = let at : q ≡ 0 + found.0 = found.1 in omega arith in
    let within : found.0 < length es = found.2 in
    (omega arith, ap (index_at es) same ∙ found.3)

-- ---- the places of several

-- places within a trace with one more are within it
within-snoc : (t : List Entry) (ps : List ℕ) (q : ℕ) → AreWithin t ps → q < length t → AreWithin t (ps ++ q ∷ [])
within-snoc t ps q h lt p i = elim (Has-snoc ps q p i) [ inl j ↦ h p j | inr e ↦ subst (λ n. n < length t) e lt ]

-- the places of several indices are places where they stand
pub places_from-ok : (t : List Entry) (ps xs qs : List ℕ) → AreWithin t ps → places_from (indices_of t) ps xs ≡ Ok qs
    → AreWithin t qs × (map (index_at t) qs ≡ map (index_at t) ps ++ xs)
places_from-ok t ps [] qs h e =
    let same : ps ≡ qs = cc in
    (subst (AreWithin t) same h, ap (map (index_at t)) (sym same) ∙ sym (append-nil (map (index_at t) ps)))
places_from-ok t ps (x ∷ xs) qs h e =
    let b = bind_ok (ok_or (place_of (indices_of t) x) x) (λ p. places_from (indices_of t) (ps ++ p ∷ []) xs) qs e in
    let one = place_of-some t x b.0 (ok_or_ok (place_of (indices_of t) x) x b.0 b.1) in
    let rest = places_from-ok t (ps ++ b.0 ∷ []) xs qs (within-snoc t ps b.0 h one.0) b.2 in (
      rest.0,
      rest.1
          ∙ ap (λ ys. ys ++ xs) (map-append (index_at t) ps (b.0 ∷ []))
          ∙ append_assoc (map (index_at t) ps) (index_at t b.0 ∷ []) xs
          ∙ ap (λ (y : ℕ). map (index_at t) ps ++ (y ∷ xs)) one.1,
    )

-- ---- what is judged right

-- a clause that was placed has places for all its antecedents
placed : (t : List Entry) (s : Spelled) (r : Result (List ℕ) ℕ) (u : List Entry) → with_places t s r ≡ Ok u
    → (ps : List ℕ) × (r ≡ Ok ps) × (u ≡ t ++ entry_of s ps ∷ [])
placed t s (Ok ps) u e = (ps, refl, cc)
placed t s (Err x) u e = absurd (cc)

-- the new clause has an index of its own, and its antecedents are places in the trace
pub record IsPlaced (t : List Entry) (s : Spelled) (u : List Entry) : Type 0 where
  pub places : List ℕ
  pub one_more : u ≡ t ++ entry_of s places ∷ []
  pub other : (k : ℕ) → k < length t → index_at t k ≢ s.index
  pub within : AreWithin t places
  pub antecedents : map (index_at t) places ≡ s.antecedents

-- where no place is found, there is none
no_place : (o : Option ℕ) → is_some o ≡ false → o ≡ None
no_place None e = refl
no_place (Some q) e = absurd (cc)

-- a clause that is judged right is placed behind the others
pub judged-ok : (t : List Entry) (s : Spelled) (u : List Entry) → judged t s ≡ Ok u → IsPlaced t s u
judged-ok t s u e =
    let first = unless_ok (is_some (place_of (indices_of t) s.index)) (Repeated s.index) (with_places t s (places_from (indices_of t) [] s.antecedents)) u e in
    let second = placed t s (places_from (indices_of t) [] s.antecedents) u first.1 in
    let third = places_from-ok t [] s.antecedents second.0 (λ p h. absurd h) second.1 in
    record {
      places = second.0;
      one_more = second.2;
      other = place_from-nowhere 0 t s.index (no_place (place_of (indices_of t) s.index) first.0);
      within = third.0;
      antecedents = third.1;
    }

-- ---- clauses by index

-- an index that stands at a place is there
pub HasIndex-at : (es : List Entry) (p x : ℕ) → p < length es → index_at es p ≡ x → HasIndex es x
HasIndex-at [] p x lt e = absurd (omega arith)
HasIndex-at (d ∷ es) zero x lt e = (d, inl refl, e)
HasIndex-at (d ∷ es) (suc p) x lt e = let more = HasIndex-at es p x (omega arith) e in (more.0, inr more.1, more.2)

-- a clause of the trace with an index stands at some place
at_place : (es : List Entry) (e : Entry) (x : ℕ) → Has es e → e.index ≡ x → (p : ℕ) × (p < length es) × (index_at es p ≡ x)
at_place [] e x h same = absurd h
at_place (d ∷ es) e x (inl k) same = (0, omega arith, ap (λ (c : Entry). c.index) k ∙ same)
at_place (d ∷ es) e x (inr h) same =
    let more = at_place es e x h same in
    let below : more.0 < length es = more.1 in
    (suc more.0, omega arith, more.2)

-- no clause has an index that has no place
pub none_has : (t : List Entry) (x : ℕ) → place_of (indices_of t) x ≡ None → HasIndex t x → ⊥
none_has t x e h = let found = at_place t h.0 x h.1 h.2 in place_from-nowhere 0 t x e found.0 found.1 found.2

-- some clause has an index that has a place
pub some_has : (t : List Entry) (x q : ℕ) → place_of (indices_of t) x ≡ Some q → HasIndex t x
some_has t x q e = let found = place_of-some t x q e in HasIndex-at t q x found.0 found.1

-- one more known index in front leaves all of them known
known_more : (t : List Entry) (y : ℕ) (known : List ℕ) → HasIndex t y → ((z : ℕ) → Has known z → HasIndex t z) → (z : ℕ) → Has (y ∷ known) z → HasIndex t z
known_more t y known one h z (inl e) = (one.0, one.1, one.2 ∙ e)
known_more t y known one h z (inr i) = h z i

-- why the places of several indices are wanting
pub places_from-err : (t : List Entry) (ps xs : List ℕ) (x : ℕ) → places_from (indices_of t) ps xs ≡ Err x → FirstUnknown t xs x
places_from-err t ps [] x e = absurd (cc)
places_from-err t ps (y ∷ ys) x e = elim (bind_err (ok_or (place_of (indices_of t) y) y) (λ p. places_from (indices_of t) (ps ++ p ∷ []) ys) x e) [
  | inl one ↦
      let none = ok_or_err (place_of (indices_of t) y) y x one in
      record {
        known = [];
        after = ys;
        parts = ap (λ (n : ℕ). n ∷ ys) none.1;
        each_known = λ z i. absurd i;
        unknown = λ h. none_has t y none.0 (h.0, h.1, h.2 ∙ sym none.1);
      }
  | inr more ↦
      let rest = places_from-err t (ps ++ more.0 ∷ []) ys x more.2 in
      record {
        known = y ∷ rest.known;
        after = rest.after;
        parts = ap (λ (ns : List ℕ). y ∷ ns) rest.parts;
        each_known = known_more t y rest.known (some_has t y more.0 (ok_or_ok (place_of (indices_of t) y) y more.0 more.1)) rest.each_known;
        unknown = rest.unknown;
      }
]

-- ---- what is judged faulty

-- the clause has an index that is there already, or else an antecedent that isn't
abbrev pub IsJudged : List Entry → Spelled → TraceError → Type 0
IsJudged t s f =
    (HasIndex t s.index × (f ≡ Repeated s.index))
    ⊎ ((x : ℕ) × (HasIndex t s.index → ⊥) × FirstUnknown t s.antecedents x × (f ≡ Unknown s.index x))

-- a clause that wasn't placed has an unknown antecedent, which is its fault
not_placed : (t : List Entry) (s : Spelled) (r : Result (List ℕ) ℕ) (f : TraceError) → with_places t s r ≡ Err f → (x : ℕ) × (r ≡ Err x) × (f ≡ Unknown s.index x)
not_placed t s (Ok ps) f e = absurd (cc)
not_placed t s (Err x) f e = (x, refl, cc)

-- a clause that is refused was given its fault by its index or its antecedents
judged_by : (t : List Entry) (s : Spelled) (f : TraceError) (o : Option ℕ) → place_of (indices_of t) s.index ≡ o
    → (if is_some o then Err (Repeated s.index) else with_places t s (places_from (indices_of t) [] s.antecedents)) ≡ Err f → IsJudged t s f
judged_by t s f (Some q) e h = inl (some_has t s.index q e, cc)
judged_by t s f None e h =
    let found = not_placed t s (places_from (indices_of t) [] s.antecedents) f h in
    inr (found.0, none_has t s.index e, places_from-err t [] s.antecedents found.0 found.1, found.2)

-- why a clause is judged faulty
pub judged-err : (t : List Entry) (s : Spelled) (f : TraceError) → judged t s ≡ Err f → IsJudged t s f
judged-err t s f e = judged_by t s f (place_of (indices_of t) s.index) refl e

-- a clause is judged by whether its index has a place already
judged_when : (t : List Entry) (s : Spelled) (o : Option ℕ) → place_of (indices_of t) s.index ≡ o
    → judged t s ≡ (if is_some o then Err (Repeated s.index) else with_places t s (places_from (indices_of t) [] s.antecedents))
judged_when t s o e = ap (λ (p : Option ℕ). if is_some p then Err (Repeated s.index) else with_places t s (places_from (indices_of t) [] s.antecedents)) e

-- a clause whose index the trace has is refused as a repeated one
judged_twice : (t : List Entry) (s : Spelled) (o : Option ℕ) → place_of (indices_of t) s.index ≡ o → HasIndex t s.index → judged t s ≡ Err (Repeated s.index)
judged_twice t s None e h = absurd (none_has t s.index e h)
judged_twice t s (Some q) e h = judged_when t s (Some q) e

-- an index that the trace doesn't have has no place
place_none : (t : List Entry) (x : ℕ) (o : Option ℕ) → place_of (indices_of t) x ≡ o → (HasIndex t x → ⊥) → place_of (indices_of t) x ≡ None
place_none t x None e h = e
place_none t x (Some q) e h = absurd (h (some_has t x q e))

-- an index that the trace has has a place
place_some : (t : List Entry) (x : ℕ) (o : Option ℕ) → place_of (indices_of t) x ≡ o → HasIndex t x → (q : ℕ) × (place_of (indices_of t) x ≡ Some q)
place_some t x None e h = absurd (none_has t x e h)
place_some t x (Some q) e h = (q, e)

-- the first antecedent that the trace doesn't have is the one that is refused
places_unknown : (t : List Entry) (ps known after : List ℕ) (x : ℕ) → ((y : ℕ) → Has known y → HasIndex t y) → (HasIndex t x → ⊥)
    → places_from (indices_of t) ps (known ++ (x ∷ after)) ≡ Err x
places_unknown t ps [] after x h none =
    ap (λ (o : Option ℕ). ok_or o x >>= λ p. places_from (indices_of t) (ps ++ p ∷ []) after) (place_none t x (place_of (indices_of t) x) refl none)
places_unknown t ps (y ∷ known) after x h none =
    let one = place_some t y (place_of (indices_of t) y) refl (h y (inl refl)) in
    ap (λ (o : Option ℕ). ok_or o y >>= λ p. places_from (indices_of t) (ps ++ p ∷ []) (known ++ (x ∷ after))) one.1
    ∙ places_unknown t (ps ++ one.0 ∷ []) known after x (λ z i. h z (inr i)) none

-- a clause whose index is there already is judged so
pub judged-repeated : (t : List Entry) (s : Spelled) → HasIndex t s.index → judged t s ≡ Err (Repeated s.index)
judged-repeated t s h = judged_twice t s (place_of (indices_of t) s.index) refl h

-- a clause with an antecedent that isn't there is judged so
pub judged-unknown : (t : List Entry) (s : Spelled) (x : ℕ) → (HasIndex t s.index → ⊥) → FirstUnknown t s.antecedents x → judged t s ≡ Err (Unknown s.index x)
judged-unknown t s x none h =
    judged_when t s None (place_none t s.index (place_of (indices_of t) s.index) refl none)
    ∙ ap (with_places t s) (ap (places_from (indices_of t) []) h.parts ∙ places_unknown t [] h.known h.after x h.each_known h.unknown)
