-- An index of names, one more name at a time.
use Rattle.std.proofs.Common.{◌≡◌, ℕ, ◌+◌, ⊎_elim, Bool, true, false, cond, List, [], ◌∷◌, ◌++◌, length, map, Option, Some, None, MatchOption, Contains, slice_get, refl, ap, sym, subst, ◌∙◌, arith}
use Rattle.std.proofs.lemmas.List.{get_or_append_left, get_or_push, length_push, length-append, length-map, map_push, append_assoc}
use Rattle.std.proofs.lemmas.List.Elements.{Contains-push_cases}
use Rattle.std.proofs.lemmas.Option.{slice_get_within, slice_get-get_or, get_or_from_slice_get}
use Rattle.std.proofs.lemmas.Slice.Eq.{bytes_eq-Decides}
use Rattle.std.specs.Str.{bytes_eq}
use Rattle.blif_defs.specs.Values.{CoverValue, signals_of}
use Rattle.netlist.specs.Index.{found, IsIndexOf, PutsName}
use Rattle.netlist.specs.declared.index.NameIndex.{NameIndex}

-- what stands in a list stands in a longer one
pub slice_get-append_left : {X : Type 0} (xs ys : List X) (i : ℕ) (x : X) → slice_get xs i ≡ Some x → slice_get (xs ++ ys) i ≡ Some x
slice_get-append_left xs ys i x h =
    let lt = slice_get_within xs i x h in
    slice_get-get_or (xs ++ ys) i x (omega (arith, length-append xs ys))
    ∙ ap Some (get_or_append_left xs ys x i lt ∙ get_or_from_slice_get xs i x x h)

-- the last element stands at the end
pub slice_get-push : {X : Type 0} (xs : List X) (y : X) → slice_get (xs ++ y ∷ []) (length xs) ≡ Some y
slice_get-push xs y =
    slice_get-get_or (xs ++ y ∷ []) (length xs) y (omega (arith, length_push xs y)) ∙ ap Some (get_or_push xs y y (length xs) refl)

-- the answer of an index at a name
Finds : List (List ℕ) → List ℕ → Option ℕ → Type 0
Finds names q answer = MatchOption answer (¬ Contains names q) (λ s. slice_get names s ≡ Some q)

-- a new name is found at the end
finds_new : (names : List (List ℕ)) (y q : List ℕ) → y ≡ q → Finds (names ++ y ∷ []) q (Some (length names))
unfolding Finds
finds_new names y q e = slice_get-push names y ∙ ap Some e

-- other names are found where they were
finds_other : (names : List (List ℕ)) (y q : List ℕ) (answer : Option ℕ) → (y ≡ q → ⊥) → Finds names q answer → Finds (names ++ y ∷ []) q answer
unfolding Finds
finds_other names y q None ne h = λ c. ⊎_elim h ne (Contains-push_cases names y q c)
finds_other names y q (Some s) ne h = slice_get-append_left names (y ∷ []) s q h

-- so each name is found after one more was put in
finds_next : (names : List (List ℕ)) (y q : List ℕ) (answer : Option ℕ) (b : Bool) → bytes_eq y q ≡ b → Finds names q answer
    → Finds (names ++ y ∷ []) q (cond b (Some (length names)) answer)
finds_next names y q answer true is h = finds_new names y q ((bytes_eq-Decides y q).0 is)
finds_next names y q answer false is h =
    finds_other names y q answer (λ e. let yes : bytes_eq y q ≡ true = (bytes_eq-Decides y q).1 e in absurd cc) h

-- an index with one name more
pub IsIndexOf-push : (old new : NameIndex) (names : List (List ℕ)) (y : List ℕ) (n : ℕ) → length names ≡ n → IsIndexOf old names → PutsName old new y n
    → IsIndexOf new (names ++ y ∷ [])
unfolding Finds
IsIndexOf-push old new names y n size h puts q =
    let P : Option ℕ → Type 0 = λ a. MatchOption a (¬ Contains (names ++ y ∷ []) q) (λ s. slice_get (names ++ y ∷ []) s ≡ Some q) in
    let Q : ℕ → Type 0 = λ m. P (cond (bytes_eq y q) (Some m) (found old q)) in
    subst P (sym (puts q)) (subst Q size (finds_next names y q (found old q) (bytes_eq y q) refl (h q)))

-- one more cover
pub signals_of-push : (inputs : List (List ℕ)) (covers : List CoverValue) (c : CoverValue)
    → signals_of inputs (covers ++ c ∷ []) ≡ signals_of inputs covers ++ c.out ∷ []
signals_of-push inputs covers c =
    ap (λ l. inputs ++ l) (map_push (λ (d : CoverValue). d.out) covers c)
    ∙ sym (append_assoc inputs (map (λ (d : CoverValue). d.out) covers) (c.out ∷ []))

-- there are as many signals as inputs and covers
pub length-signals_of : (inputs : List (List ℕ)) (covers : List CoverValue) → length (signals_of inputs covers) ≡ length inputs + length covers
length-signals_of inputs covers =
    length-append inputs _ ∙ ap (λ n. length inputs + n) (length-map covers (λ (d : CoverValue). d.out))
