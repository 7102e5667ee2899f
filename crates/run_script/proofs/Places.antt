-- The numbers of files when one more is mentioned.
use Rattle.std.proofs.Common.{◌≡◌, ℕ, ◌+◌, ◌<◌, Bool, true, false, cond, ◌&&◌, ◌||◌, List, [], ◌∷◌, ◌++◌, length, Option, Some, None, Result, Ok, Err, refl, sym, ap, ◌∙◌, ⊎_elim, arith, eqb}
use Rattle.std.specs.List.{list_any, position_or_len}
use Rattle.std.specs.Prelude.{IfOk}
use Rattle.std.specs.Str.{bytes_eq}
use Rattle.std.proofs.lemmas.Bool.{cases_Bool}
use Rattle.std.proofs.lemmas.Bool.Decides.{nat_tests}
use Rattle.std.proofs.lemmas.List.Folds.{list_any-append, position_or_len_push}
use Rattle.std.proofs.lemmas.Slice.Eq.{bytes_eq-Decides}
use Rattle.blif_laws.proofs.Sets.{bytes_eq_comm}
use Rattle.script_defs.specs.declared.command.Kind.{Kind}
use Rattle.script_defs.specs.declared.command.Kind.TheVariants.{Spec, Bundle}
use Rattle.script_defs.specs.declared.command.FileUse.{FileUse}
use Rattle.script_defs.specs.Scripts.{same_kind, same_use}
use Rattle.script_defs.specs.Reading.{file_number}
use Rattle.script_laws.proofs.Drafts.{found_within, none_found, same_use_equiv}
use Rattle.run_script.specs.Files.{use_of, place_in}

-- the place in a list, by whether some element passes
placed : {X : Type 0} (p : X → Bool) (xs : List X) (b : Bool) → list_any p xs ≡ b → place_in p xs ≡ cond b (Some (position_or_len p xs)) None
placed p xs b e = ap (λ (t : Bool). cond t (Some (position_or_len p xs)) None) e

-- one more element, where another passed before
placed_before : {X : Type 0} (p : X → Bool) (xs : List X) (y : X) → list_any p xs ≡ true → place_in p (xs ++ y ∷ []) ≡ place_in p xs
placed_before p xs y e =
    let any : list_any p (xs ++ y ∷ []) ≡ true = list_any-append p xs (y ∷ []) ∙ ap (λ (t : Bool). t || list_any p (y ∷ [])) e in
    let apart : eqb (position_or_len p xs) (length xs) ≡ false = lesser (position_or_len p xs) (length xs) (found_within p xs e) in
    let same : position_or_len p (xs ++ y ∷ []) ≡ position_or_len p xs =
    position_or_len_push p xs y ∙ ap (λ (t : Bool). cond t (length xs + cond (p y) 0 1) (position_or_len p xs)) apart in
    placed p (xs ++ y ∷ []) true any ∙ ap Some same ∙ sym (placed p xs true e)
  where
    lesser : (m n : ℕ) → m < n → eqb m n ≡ false
    lesser m n lt = grind (arith, nat_tests)

-- one more element that doesn't pass
placed_other : {X : Type 0} (p : X → Bool) (xs : List X) (y : X) → p y ≡ false → place_in p (xs ++ y ∷ []) ≡ place_in p xs
placed_other p xs y other = ⊎_elim (λ e. placed_before p xs y e) none (cases_Bool (list_any p xs))
  where
    none : list_any p xs ≡ false → place_in p (xs ++ y ∷ []) ≡ place_in p xs
    none e =
        let any : list_any p (xs ++ y ∷ []) ≡ false =
        list_any-append p xs (y ∷ []) ∙ ap (λ (t : Bool). t || list_any p (y ∷ [])) e ∙ ap (λ (t : Bool). t || false) other in
        placed p (xs ++ y ∷ []) false any ∙ sym (placed p xs false e)

-- one more element that is the first to pass
placed_new : {X : Type 0} (p : X → Bool) (xs : List X) (y : X) → p y ≡ true → list_any p xs ≡ false → place_in p (xs ++ y ∷ []) ≡ Some (length xs)
placed_new p xs y passes e =
    let any : list_any p (xs ++ y ∷ []) ≡ true =
    list_any-append p xs (y ∷ []) ∙ ap (λ (t : Bool). t || list_any p (y ∷ [])) e ∙ ap (λ (t : Bool). t || false) passes in
    let behind : eqb (position_or_len p xs) (length xs) ≡ true = equal (position_or_len p xs) (length xs) (none_found p xs e) in
    let same : position_or_len p (xs ++ y ∷ []) ≡ length xs + cond (p y) 0 1 =
    position_or_len_push p xs y ∙ ap (λ (t : Bool). cond t (length xs + cond (p y) 0 1) (position_or_len p xs)) behind in
    let last : length xs + cond (p y) 0 1 ≡ length xs = ap (λ (t : Bool). length xs + cond t 0 1) passes ∙ (let z : length xs + 0 ≡ length xs = omega arith in z) in
    placed p (xs ++ y ∷ []) true any ∙ ap Some (same ∙ last)
  where
    equal : (m n : ℕ) → m ≡ n → eqb m n ≡ true
    equal m n e = grind (arith, nat_tests)

-- a conjunction fails where its second part fails
fails : (a b : Bool) → b ≡ false → (a && b) ≡ false
fails true b e = e
fails false b e = refl

-- what a map has for each name
abbrev Places : Type 0
Places = List ℕ → Option ℕ

-- the files of another kind keep their places
pub other_kind : (kind : Kind) (has : Places) (files : List FileUse) (u : FileUse) → same_kind kind u.kind ≡ false
    → ((q : List ℕ) → has q ≡ place_in (same_use (use_of kind q)) files)
    → (q : List ℕ) → has q ≡ place_in (same_use (use_of kind q)) (files ++ u ∷ [])
other_kind kind has files u apart h q =
    h q ∙ sym (placed_other (same_use (use_of kind q)) files u (ap (λ (t : Bool). t && bytes_eq q u.name) apart))

-- a new file of the kind has the next place, and the others keep theirs
pub same_kind_more : (kind : Kind) (old new : Places) (files : List FileUse) (name : List ℕ) (n : ℕ) → n ≡ length files
    → list_any (same_use (use_of kind name)) files ≡ false
    → ((q : List ℕ) → new q ≡ cond (bytes_eq name q) (Some n) (old q))
    → ((q : List ℕ) → old q ≡ place_in (same_use (use_of kind q)) files)
    → (q : List ℕ) → new q ≡ place_in (same_use (use_of kind q)) (files ++ use_of kind name ∷ [])
same_kind_more kind old new files name n size fresh puts h q = ⊎_elim same other (cases_Bool (bytes_eq name q))
  where
    same : bytes_eq name q ≡ true → new q ≡ place_in (same_use (use_of kind q)) (files ++ use_of kind name ∷ [])
    same e =
        let is : name ≡ q = (bytes_eq-Decides name q).0 e in
        let here : place_in (same_use (use_of kind name)) (files ++ use_of kind name ∷ []) ≡ Some (length files) =
        placed_new (same_use (use_of kind name)) files (use_of kind name) (same_use_equiv.refl (use_of kind name)) fresh in
        puts q ∙ ap (λ (t : Bool). cond t (Some n) (old q)) e ∙ ap Some size ∙ sym here
        ∙ ap (λ (m : List ℕ). place_in (same_use (use_of kind m)) (files ++ use_of kind name ∷ [])) is

    other : bytes_eq name q ≡ false → new q ≡ place_in (same_use (use_of kind q)) (files ++ use_of kind name ∷ [])
    other e =
        let apart : (same_kind kind kind && bytes_eq q name) ≡ false = fails (same_kind kind kind) (bytes_eq q name) (bytes_eq_comm q name ∙ e) in
        puts q ∙ ap (λ (t : Bool). cond t (Some n) (old q)) e ∙ h q ∙ sym (placed_other (same_use (use_of kind q)) files (use_of kind name) apart)

-- the maps have the places of the files with one more, whose name got the next number in the map of its kind
pub more_places : (kind put_kind : Kind) (old new : Places) (files : List FileUse) (name : List ℕ) (n : ℕ) → n ≡ length files
    → list_any (same_use (use_of put_kind name)) files ≡ false
    → ((q : List ℕ) → new q ≡ cond (same_kind kind put_kind && bytes_eq name q) (Some n) (old q))
    → ((q : List ℕ) → old q ≡ place_in (same_use (use_of kind q)) files)
    → (q : List ℕ) → new q ≡ place_in (same_use (use_of kind q)) (files ++ use_of put_kind name ∷ [])
more_places Spec Spec old new files name n size fresh puts h = same_kind_more Spec old new files name n size fresh puts h
more_places Bundle Bundle old new files name n size fresh puts h = same_kind_more Bundle old new files name n size fresh puts h
more_places Spec Bundle old new files name n size fresh puts h =
    other_kind Spec new files (use_of Bundle name) refl (λ q. puts q ∙ h q)
more_places Bundle Spec old new files name n size fresh puts h =
    other_kind Bundle new files (use_of Spec name) refl (λ q. puts q ∙ h q)

-- where no place is found no element passes
absent : {X : Type 0} (p : X → Bool) (xs : List X) → None ≡ place_in p xs → list_any p xs ≡ false
absent p xs h = by (list_any p xs) refl h
  where
    by : (t : Bool) → list_any p xs ≡ t → None ≡ cond t (Some (position_or_len p xs)) None → list_any p xs ≡ false
    by true e h = absurd cc
    by false e h = e

-- the number of a file that wasn't mentioned is the next one
pub next_number : {E : Type 0} (files : List FileUse) (u : FileUse) (r : Result ℕ E) → None ≡ place_in (same_use u) files
    → IfOk r (λ n. n ≡ length files) → IfOk r (λ n. n ≡ file_number files u)
next_number files u (Ok n) h is = is ∙ sym (none_found (same_use u) files (absent (same_use u) files h))
next_number files u (Err e) h is = tt
