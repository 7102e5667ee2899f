-- Pairings by names: there is one answer, and it pairs each place.
use Rattle.std.proofs.Common.{◌≡◌, ℕ, suc, ◌<◌, ◌⊎◌, inl, inr, ⊎_elim, List, [], ◌∷◌, length, take, get_or, All, Contains, Some, Result, Ok, Err, slice_get, refl, ap, sym, subst, ◌∙◌, arith}
use Rattle.std.proofs.lemmas.Bool.{both_ways, cases_Bool, cases_order}
use Rattle.std.proofs.lemmas.Bool.Decides.{same_from_decides}
use Rattle.std.proofs.lemmas.Cmp.{nat_list_eq_equiv}
use Rattle.std.proofs.lemmas.List.{get_or-take, length-map, length-take-le}
use Rattle.std.proofs.lemmas.List.Elements.{All-nil, All-cons, All-contains}
use Rattle.std.proofs.lemmas.Map.Made.{is_member-Decides, length-from_same_keys}
use Rattle.std.proofs.lemmas.Option.{same_Some, slice_get_within, slice_get-get_or}
use Rattle.std.proofs.lemmas.Slice.Eq.{bytes_eq-Decides}
use Rattle.std.specs.List.{IsDistinct}
use Rattle.std.specs.Set.{is_member}
use Rattle.std.specs.Str.{bytes_eq}
use Rattle.net_defs.specs.Names.{IsFirstMissing}
use Rattle.net_defs.specs.Networks.{Output, Network}
use Rattle.net_defs.specs.Nets.{output_names, IsNet}
use Rattle.net_defs.specs.Interfaces.{PlacePairs, StandAt, HaveTheSameNames, IsPairing, InterfaceOf, IsRearrangement, Pairs}
use Rattle.net_defs.specs.declared.interface.Side.TheVariants.{Spec, Design}
use Rattle.net_defs.specs.declared.interface.InterfaceError.{InterfaceError}
use Rattle.net_defs.specs.declared.interface.InterfaceError.TheVariants.{Input, Output as OutputError, NoMemory}
use Rattle.net_laws.proofs.PlaceLemmas.{stands_at, StandAt-length, All-standing, names_apart, same_place}

-- a name is missing or not
name_cases : (names : List (List ℕ)) (x : List ℕ) → Contains names x ⊎ (Contains names x → ⊥)
name_cases names x =
    let d = is_member-Decides bytes_eq-Decides names x in
    ⊎_elim (λ yes. inl (d.0 yes)) (λ no. inr (λ c. both_ways (is_member bytes_eq names x) no (d.1 c))) (cases_Bool (is_member bytes_eq names x))

-- a name that isn't there is missing at once
first_is_missing : (names wanted : List (List ℕ)) (x : List ℕ) → (Contains names x → ⊥) → IsFirstMissing names (x ∷ wanted) 0
first_is_missing names wanted x none = record { within = omega arith; earlier = All-nil (Contains names); here = none }

-- where the first name is there, the first missing one is among the others
later_is_missing : (names wanted : List (List ℕ)) (x : List ℕ) (place : ℕ) → Contains names x → IsFirstMissing names wanted place
    → IsFirstMissing names (x ∷ wanted) (suc place)
later_is_missing names wanted x place there h = record {
  within = omega (arith, h.within);
  earlier = All-cons (Contains names) x (take place wanted) there h.earlier;
  here = h.here;
}

-- some name is the first that is missing, or all have places
pub places_or_missing : (names wanted : List (List ℕ))
    → ((place : ℕ) × IsFirstMissing names wanted place) ⊎ ((places : List ℕ) × StandAt names places wanted)
places_or_missing names [] = inr ([], tt)
places_or_missing names (x ∷ wanted) =
    ⊎_elim
    (λ there. ⊎_elim (λ later. inl (suc later.0, later_is_missing names wanted x later.0 there later.1))
    (λ found. inr (there.0 ∷ found.0, (slice_get-get_or names there.0 x there.1 ∙ ap Some there.2, found.1)))
    (places_or_missing names wanted))
    (λ none. inl (0, first_is_missing names wanted x none))
    (name_cases names x)

-- a name that is missing isn't there
pub missing_not_all : (names wanted : List (List ℕ)) (place : ℕ) → IsFirstMissing names wanted place → All (Contains names) wanted → ⊥
missing_not_all names wanted place h all = h.here (all place [] h.within)

-- of two first missing names neither is earlier
missing_not_earlier : (names wanted : List (List ℕ)) (p q : ℕ) → IsFirstMissing names wanted p → IsFirstMissing names wanted q → p < q → ⊥
missing_not_earlier names wanted p q h k below =
    let size = length-take-le q wanted (omega (arith, k.within)) in
    let P : List ℕ → Type 0 = λ x. Contains names x in
    h.here (subst P (get_or-take q wanted p [] below) (k.earlier p [] (omega (arith, size))))

-- one name is the first that is missing
pub missing_unique : (names wanted : List (List ℕ)) (p q : ℕ) → IsFirstMissing names wanted p → IsFirstMissing names wanted q → p ≡ q
missing_unique names wanted p q h k =
    ⊎_elim (λ e. e)
    (λ apart. ⊎_elim (λ below. absurd (missing_not_earlier names wanted p q h k below)) (λ above. absurd (missing_not_earlier names wanted q p k h above)) apart)
    (cases_order p q)

-- among distinct names each wanted one stands at one place
places_unique : (names : List (List ℕ)) (p q : List ℕ) (wanted : List (List ℕ)) → IsDistinct bytes_eq names → StandAt names p wanted → StandAt names q wanted
    → p ≡ q
places_unique names [] [] wanted h a b = refl
places_unique names [] (j ∷ q) [] h a b = absurd b
places_unique names [] (j ∷ q) (x ∷ wanted) h a b = absurd a
places_unique names (i ∷ p) q [] h a b = absurd a
places_unique names (i ∷ p) [] (x ∷ wanted) h a b = absurd b
places_unique names (i ∷ p) (j ∷ q) (x ∷ wanted) h a b =
    ap (λ l. i ∷ l) (places_unique names p q wanted h a.1 b.1) ∙ ap (λ k. k ∷ q) (same_place names x i j h a.0 b.0)

-- lists of distinct names with the same names are equally long
same_count : (names others : List (List ℕ)) → IsDistinct bytes_eq names → IsDistinct bytes_eq others → All (Contains others) names → All (Contains names) others
    → length names ≡ length others
same_count names others d e forth back =
    length-from_same_keys nat_list_eq_equiv names others d e
    (λ q. let m = is_member-Decides bytes_eq-Decides names q in
    let n = is_member-Decides bytes_eq-Decides others q in
    same_from_decides (is_member bytes_eq names q) (is_member bytes_eq others q) m
    (λ yes. All-contains (Contains names) others q back (n.0 yes), λ c. n.1 (All-contains (Contains others) names q forth c)))

-- one name stands at one place
same_name : (names : List (List ℕ)) (i j : ℕ) (x y : List ℕ) → i ≡ j → slice_get names i ≡ Some x → slice_get names j ≡ Some y → x ≡ y
same_name names i j x y same at_i at_j = same_Some x y (sym at_i ∙ ap (slice_get names) same ∙ at_j)

-- each output has a name
length-output_names : (net : Network) → length (output_names net) ≡ length net.outputs
length-output_names net = length-map net.outputs (λ (o : Output). o.name)

-- the places of distinct names in a list of just these are all places, each once
IsRearrangement-paired : (names others : List (List ℕ)) (places : List ℕ) → IsDistinct bytes_eq names → IsDistinct bytes_eq others
    → StandAt others places names → All (Contains names) others → IsRearrangement (length others) places
IsRearrangement-paired names others places d e s all =
    let size = StandAt-length others places names s in
    let count = same_count names others d e (All-standing others places names s) all in
    record {
      as_many = sym size ∙ count;
      within = λ i k lt. slice_get_within others (get_or places i k) (get_or names i []) (stands_at others places names i k [] s lt);
      distinct = λ i j below lt same.
          let at_j : slice_get others (get_or places j 0) ≡ Some (get_or names j []) = stands_at others places names j 0 [] s (omega arith) in
          let at_i : slice_get others (get_or places i 0) ≡ Some (get_or names i []) = stands_at others places names i 0 [] s (omega arith) in
          let one : get_or names i [] ≡ get_or names j [] = same_name others (get_or places i 0) (get_or places j 0) (get_or names i []) (get_or names j []) same at_i at_j in
          names_apart names (get_or names j []) i j d
          (slice_get-get_or names i [] (omega arith) ∙ ap Some one) (slice_get-get_or names j [] (omega arith)) below;
      complete = λ k lt.
          let x = get_or others k [] in
          let c = all k [] lt in
          let i : ℕ = c.0 in (
            i,
            omega (arith, c.1, size),
            same_place others x (get_or places i k) k e (stands_at others places names i k x s (omega (arith, c.1, size)) ∙ ap Some c.2) (slice_get-get_or others k [] lt),
          );
    }

-- in a pairing of two nets each place of the design is the partner of one
pub Pairs-paired : (spec design : Network) (p : PlacePairs) → IsNet spec → IsNet design → IsPairing spec design p → Pairs design p
Pairs-paired spec design p s d h =
    let outputs : IsRearrangement (length (output_names design)) p.outputs =
    IsRearrangement-paired (output_names spec) (output_names design) p.outputs s.outputs_differ d.outputs_differ h.outputs h.all_outputs in
    let P : ℕ → Type 0 = λ n. IsRearrangement n p.outputs in
    record {
      inputs = IsRearrangement-paired spec.inputs design.inputs p.inputs s.inputs_differ d.inputs_differ h.inputs h.all_inputs;
      outputs = subst P (length-output_names design) outputs;
    }

-- each two networks have an answer: the inputs first, and the specification's names before the design's
paired_outputs : (spec design : Network) (inputs others : List ℕ) → StandAt design.inputs inputs spec.inputs → StandAt spec.inputs others design.inputs
    → (answer : Result PlacePairs InterfaceError) × InterfaceOf spec design answer
paired_outputs spec design inputs others h k =
    let same : HaveTheSameNames spec.inputs design.inputs = (All-standing design.inputs inputs spec.inputs h, All-standing spec.inputs others design.inputs k) in
    ⊎_elim
    (λ missing. (Err (OutputError Spec missing.0), (same, missing.1)))
    (λ found. ⊎_elim
    (λ missing. (Err (OutputError Design missing.0), (same, All-standing (output_names design) found.0 (output_names spec) found.1, missing.1)))
    (λ back. (
      Ok (record { inputs = inputs; outputs = found.0 }),
      record {
        inputs = h;
        outputs = found.1;
        all_inputs = same.1;
        all_outputs = All-standing (output_names spec) back.0 (output_names design) back.1;
      },
    ))
    (places_or_missing (output_names spec) (output_names design)))
    (places_or_missing (output_names design) (output_names spec))

-- two networks pair, or a name is the first without a partner
pub interface_exists : (spec design : Network) → (answer : Result PlacePairs InterfaceError) × InterfaceOf spec design answer
interface_exists spec design =
    ⊎_elim
    (λ missing. (Err (Input Spec missing.0), missing.1))
    (λ found. ⊎_elim
    (λ missing. (Err (Input Design missing.0), (All-standing design.inputs found.0 spec.inputs found.1, missing.1)))
    (λ back. paired_outputs spec design found.0 back.0 found.1 back.1)
    (places_or_missing spec.inputs design.inputs))
    (places_or_missing design.inputs spec.inputs)

-- what an answer says of the names that come before its fault
no_spec_input : (spec design : Network) (p : PlacePairs) → IsPairing spec design p → All (Contains design.inputs) spec.inputs
no_spec_input spec design p h = All-standing design.inputs p.inputs spec.inputs h.inputs

-- where nets pair, no output of the specification is missing
no_spec_output : (spec design : Network) (p : PlacePairs) → IsPairing spec design p → All (Contains (output_names design)) (output_names spec)
no_spec_output spec design p h = All-standing (output_names design) p.outputs (output_names spec) h.outputs

-- pairs of the same places are the same
same_pairs : (p q : PlacePairs) → p.inputs ≡ q.inputs → p.outputs ≡ q.outputs → p ≡ q
same_pairs p q d e =
    let pairs : List ℕ → List ℕ → PlacePairs = λ inputs outputs. record { inputs = inputs; outputs = outputs } in
    ap (λ i. pairs i p.outputs) d ∙ ap (λ o. pairs q.inputs o) e

-- and no two
pub interface_is_unique : (spec design : Network) (a b : Result PlacePairs InterfaceError) → IsNet design → InterfaceOf spec design a → InterfaceOf spec design b
    → a ≡ b
interface_is_unique spec design (Ok p) (Ok q) d h k =
    ap Ok (same_pairs p q (places_unique design.inputs p.inputs q.inputs spec.inputs d.inputs_differ h.inputs k.inputs)
    (places_unique (output_names design) p.outputs q.outputs (output_names spec) d.outputs_differ h.outputs k.outputs))
interface_is_unique spec design (Ok p) (Err (Input Spec t)) d h k = absurd (missing_not_all design.inputs spec.inputs t k (no_spec_input spec design p h))
interface_is_unique spec design (Ok p) (Err (Input Design t)) d h k = absurd (missing_not_all spec.inputs design.inputs t k.1 h.all_inputs)
interface_is_unique spec design (Ok p) (Err (OutputError Spec t)) d h k =
    absurd (missing_not_all (output_names design) (output_names spec) t k.1 (no_spec_output spec design p h))
interface_is_unique spec design (Ok p) (Err (OutputError Design t)) d h k = absurd (missing_not_all (output_names spec) (output_names design) t k.2 h.all_outputs)
interface_is_unique spec design (Ok p) (Err NoMemory) d h k = absurd k
interface_is_unique spec design (Err (Input Spec s)) (Ok q) d h k = absurd (missing_not_all design.inputs spec.inputs s h (no_spec_input spec design q k))
interface_is_unique spec design (Err (Input Spec s)) (Err (Input Spec t)) d h k =
    ap (λ n. Err (Input Spec n)) (missing_unique design.inputs spec.inputs s t h k)
interface_is_unique spec design (Err (Input Spec s)) (Err (Input Design t)) d h k = absurd (missing_not_all design.inputs spec.inputs s h k.0)
interface_is_unique spec design (Err (Input Spec s)) (Err (OutputError Spec t)) d h k = absurd (missing_not_all design.inputs spec.inputs s h k.0.0)
interface_is_unique spec design (Err (Input Spec s)) (Err (OutputError Design t)) d h k = absurd (missing_not_all design.inputs spec.inputs s h k.0.0)
interface_is_unique spec design (Err (Input Spec s)) (Err NoMemory) d h k = absurd k
interface_is_unique spec design (Err (Input Design s)) (Ok q) d h k = absurd (missing_not_all spec.inputs design.inputs s h.1 k.all_inputs)
interface_is_unique spec design (Err (Input Design s)) (Err (Input Spec t)) d h k = absurd (missing_not_all design.inputs spec.inputs t k h.0)
interface_is_unique spec design (Err (Input Design s)) (Err (Input Design t)) d h k =
    ap (λ n. Err (Input Design n)) (missing_unique spec.inputs design.inputs s t h.1 k.1)
interface_is_unique spec design (Err (Input Design s)) (Err (OutputError Spec t)) d h k = absurd (missing_not_all spec.inputs design.inputs s h.1 k.0.1)
interface_is_unique spec design (Err (Input Design s)) (Err (OutputError Design t)) d h k = absurd (missing_not_all spec.inputs design.inputs s h.1 k.0.1)
interface_is_unique spec design (Err (Input Design s)) (Err NoMemory) d h k = absurd k
interface_is_unique spec design (Err (OutputError Spec s)) (Ok q) d h k =
    absurd (missing_not_all (output_names design) (output_names spec) s h.1 (no_spec_output spec design q k))
interface_is_unique spec design (Err (OutputError Spec s)) (Err (Input Spec t)) d h k = absurd (missing_not_all design.inputs spec.inputs t k h.0.0)
interface_is_unique spec design (Err (OutputError Spec s)) (Err (Input Design t)) d h k = absurd (missing_not_all spec.inputs design.inputs t k.1 h.0.1)
interface_is_unique spec design (Err (OutputError Spec s)) (Err (OutputError Spec t)) d h k =
    ap (λ n. Err (OutputError Spec n)) (missing_unique (output_names design) (output_names spec) s t h.1 k.1)
interface_is_unique spec design (Err (OutputError Spec s)) (Err (OutputError Design t)) d h k =
    absurd (missing_not_all (output_names design) (output_names spec) s h.1 k.1)
interface_is_unique spec design (Err (OutputError Spec s)) (Err NoMemory) d h k = absurd k
interface_is_unique spec design (Err (OutputError Design s)) (Ok q) d h k = absurd (missing_not_all (output_names spec) (output_names design) s h.2 k.all_outputs)
interface_is_unique spec design (Err (OutputError Design s)) (Err (Input Spec t)) d h k = absurd (missing_not_all design.inputs spec.inputs t k h.0.0)
interface_is_unique spec design (Err (OutputError Design s)) (Err (Input Design t)) d h k = absurd (missing_not_all spec.inputs design.inputs t k.1 h.0.1)
interface_is_unique spec design (Err (OutputError Design s)) (Err (OutputError Spec t)) d h k =
    absurd (missing_not_all (output_names design) (output_names spec) t k.1 h.1)
interface_is_unique spec design (Err (OutputError Design s)) (Err (OutputError Design t)) d h k =
    ap (λ n. Err (OutputError Design n)) (missing_unique (output_names spec) (output_names design) s t h.2 k.2)
interface_is_unique spec design (Err (OutputError Design s)) (Err NoMemory) d h k = absurd k
interface_is_unique spec design (Err NoMemory) b d h k = absurd h
