-- The set of known names when a signal more comes.
use Rattle.std.proofs.Common.{◌≡◌, ℕ, ◌+◌, Bool, true, false, ◌||◌, cond, List, [], ◌∷◌, ◌++◌, length, map, Option, None, refl, sym, ap, ◌∙◌, append_assoc, Bor, arith, ◌<◌, ◌≤◌, length-append}
use Rattle.std.specs.Option.{option_to_list}
use Rattle.std.specs.Str.{bytes_eq}
use Rattle.std.specs.HashSet.{HashSet, contains_by, Updates}
use Rattle.std.proofs.lemmas.List.{map_push, append-nil}
use Rattle.std.proofs.lemmas.List.Folds.{list_any-append}
use Rattle.blif_defs.specs.Values.{CoverValue, signals_of}
use Rattle.blif_defs.specs.Drafts.{is_among}
use Rattle.blif_laws.proofs.Sets.{bytes_eq_comm}

-- two words with the same bytes
abbrev pub same_word : Bor (List ℕ) → Bor (List ℕ) → Bool
same_word a b = bytes_eq a.now b.now

-- a set into which a name was put
pub known_more : {S : Type 0} (old new : HashSet (Bor (List ℕ)) S) (name : Bor (List ℕ)) → Updates same_word old new name true → (q : List ℕ)
    → contains_by (λ k. bytes_eq q k.now) new ≡ cond (bytes_eq name.now q) true (contains_by (λ k. bytes_eq q k.now) old)
known_more old new name u q = u.0 (record { ref_ptr = (0, 0); now = q })

-- a test with another before it may ask that one first
either_way : (a e c : Bool) → ((a || (e || false)) || c) ≡ cond e true (a || c)
either_way true true c = refl
either_way true false c = refl
either_way false true c = refl
either_way false false c = refl

-- one name more among names
pub is_among_more : (q : List ℕ) (before : List (List ℕ)) (name : List ℕ) (after : List (List ℕ))
    → is_among q ((before ++ name ∷ []) ++ after) ≡ cond (bytes_eq name q) true (is_among q (before ++ after))
is_among_more q before name after =
    rw (list_any-append (bytes_eq q) (before ++ name ∷ []) after, list_any-append (bytes_eq q) before (name ∷ []), list_any-append (bytes_eq q) before after, bytes_eq_comm name q)
    (either_way (is_among q before) (bytes_eq q name) (is_among q after))

-- a cover more, where none is open
pub is_among_cover : (q : List ℕ) (inputs : List (List ℕ)) (covers : List CoverValue) (c : CoverValue) (current : Option CoverValue) (name : List ℕ) → current ≡ None → c.out ≡ name
    → cond (bytes_eq name q) true (is_among q (signals_of inputs (covers ++ option_to_list current))) ≡ is_among q (signals_of inputs (covers ++ c ∷ []))
is_among_cover q inputs covers c current name none out =
    let e : signals_of inputs (covers ++ c ∷ []) ≡ ((inputs ++ map (λ d. d.out) covers) ++ name ∷ []) ++ [] =
    ap (λ (ns : List (List ℕ)). inputs ++ ns) (map_push (λ d. d.out) covers c) ∙ sym (append_assoc inputs (map (λ d. d.out) covers) (c.out ∷ []))
    ∙ ap (λ (n : List ℕ). (inputs ++ map (λ d. d.out) covers) ++ n ∷ []) out ∙ sym (append-nil _) in
    let f : signals_of inputs (covers ++ option_to_list current) ≡ (inputs ++ map (λ d. d.out) covers) ++ [] =
    ap (λ (cs : List CoverValue). signals_of inputs cs) (ap (λ (o : Option CoverValue). covers ++ option_to_list o) none ∙ append-nil covers) ∙ sym (append-nil _) in
    ap (λ (ns : List (List ℕ)). cond (bytes_eq name q) true (is_among q ns)) f
    ∙ sym (ap (is_among q) e ∙ is_among_more q (inputs ++ map (λ d. d.out) covers) name [])

-- an input more
pub is_among_input : (q : List ℕ) (inputs more : List (List ℕ)) (name pushed : List ℕ) (covers : List CoverValue) → more ≡ inputs ++ pushed ∷ [] → pushed ≡ name
    → cond (bytes_eq name q) true (is_among q (signals_of inputs covers)) ≡ is_among q (signals_of more covers)
is_among_input q inputs more name pushed covers e f =
    sym (ap (λ (ns : List (List ℕ)). is_among q (signals_of ns covers)) (e ∙ ap (λ (n : List ℕ). inputs ++ n ∷ []) f)
    ∙ is_among_more q inputs name (map (λ d. d.out) covers))

-- an input more is within the limit
pub few_inputs : (inputs more : List (List ℕ)) (name : List ℕ) (covers : List CoverValue) (count limit : ℕ) → more ≡ inputs ++ name ∷ []
    → count ≡ length inputs + length covers → count < limit → length more + length covers ≤ limit
few_inputs inputs more name covers count limit e count-is lt = omega (arith, ap length e, length-append inputs (name ∷ []))

-- and a cover more
pub few_covers : (inputs : List (List ℕ)) (covers : List CoverValue) (c : CoverValue) (current : Option CoverValue) (count limit : ℕ) → current ≡ None
    → count ≡ length inputs + length (covers ++ option_to_list current) → count < limit → length inputs + length (covers ++ c ∷ []) ≤ limit
few_covers inputs covers c current count limit none count-is lt =
    let e : length (covers ++ option_to_list current) ≡ length covers =
    ap (λ (o : Option CoverValue). length (covers ++ option_to_list o)) none ∙ ap length (append-nil covers) in
    omega (arith, e, length-append covers (c ∷ []))
