-- Names that are resolved one after another.
use Rattle.std.proofs.Common.{◌≡◌, ℕ, ◌+◌, ◌<◌, true, List, [], ◌∷◌, ◌++◌, length, take, get_or, All, Option, Some, None, is_some, MatchOption, refl, Contains, slice_get, ap, sym, subst, ◌∙◌, arith, Err, ⊎_elim, inl, inr}
use Rattle.std.proofs.lemmas.List.{take_more, length-take-le}
use Rattle.std.specs.List.{AllZip}
use Rattle.blif_defs.specs.Values.{CoverValue, BlifValue, signals_of}
use Rattle.net_defs.specs.Networks.{Node}
use Rattle.net_defs.specs.Names.{IsFirstMissing}
use Rattle.net_defs.specs.NetOf.{signal_names, no_cover, HasDrivenPins, IsNodeOf}
use Rattle.net_defs.specs.declared.faults.NetError.{NetError}
use Rattle.net_defs.specs.declared.faults.NetError.TheVariants.{UndrivenPin, NoMemory}
use Rattle.netlist.specs.Index.{found, IsIndexOf, PutsName}
use Rattle.text_defs.specs.Memory.{OrMemory}
use Rattle.netlist.specs.Resolving.{NodeOf, NodesOf}
use Rattle.net_laws.proofs.PlaceLemmas.{Contains-standing}
use Rattle.net_laws.proofs.NetworkLemmas.{nodes_driven}
use Rattle.netlist.specs.declared.index.NameIndex.{NameIndex}
use Rattle.netlist.proofs.IndexLemmas.{IsIndexOf-push, signals_of-push, length-signals_of}

-- a name that an index finds stands where it says
pub name_found : (index : NameIndex) (names : List (List ℕ)) (q : List ℕ) (s : ℕ) → IsIndexOf index names → found index q ≡ Some s
    → slice_get names s ≡ Some q
name_found index names q s h e =
    let P : Option ℕ → Type 0 = λ a. MatchOption a (¬ Contains names q) (λ s. slice_get names s ≡ Some q) in subst P e (h q)

-- a name that the index finds is among the names
pub name_there : (index : NameIndex) (names : List (List ℕ)) (q : List ℕ) → IsIndexOf index names → is_some (found index q) ≡ true
    → Contains names q
name_there index names q h there = by (found index q) refl there
  where
    by : (o : Option ℕ) → found index q ≡ o → is_some o ≡ true → Contains names q
    by None is e = absurd cc
    by (Some s) is e = Contains-standing names s q (name_found index names q s h is)

-- a name that an index doesn't find isn't there
pub name_missing : (index : NameIndex) (names : List (List ℕ)) (q : List ℕ) → IsIndexOf index names → found index q ≡ None
    → Contains names q → ⊥
name_missing index names q h e =
    let P : Option ℕ → Type 0 = λ a. MatchOption a (¬ Contains names q) (λ s. slice_get names s ≡ Some q) in subst P e (h q)

-- the first name that isn't found
pub first_missing : (names xs : List (List ℕ)) (i : ℕ) (q : List ℕ) → All (Contains names) (take i xs) → i < length xs → q ≡ get_or xs i []
    → (Contains names q → ⊥) → IsFirstMissing names xs i
first_missing names xs i q h lt at none = record {
  within = lt;
  earlier = h;
  here = let P : List ℕ → Type 0 = λ x. Contains names x → ⊥ in subst P at none;
}

-- one more name is indexed
pub index_names-more : (old new : NameIndex) (names : List (List ℕ)) (i : ℕ) (y : List ℕ) → i < length names → y ≡ get_or names i []
    → IsIndexOf old (take i names) → PutsName old new y i → IsIndexOf new (take (i + 1) names)
index_names-more old new names i y lt at h puts =
    let P : List (List ℕ) → Type 0 = λ l. IsIndexOf new l in
    subst P (ap (λ x. take i names ++ x ∷ []) at ∙ sym (take_more names i [] lt))
    (IsIndexOf-push old new (take i names) y i (length-take-le i names (omega arith)) h puts)

-- one more cover's output is indexed
pub index_signals-more : (old new : NameIndex) (inputs : List (List ℕ)) (covers : List CoverValue) (v : ℕ) (y : List ℕ) → v < length covers
    → y ≡ (get_or covers v no_cover).out → IsIndexOf old (signals_of inputs (take v covers)) → PutsName old new y (length inputs + v)
    → IsIndexOf new (signals_of inputs (take (v + 1) covers))
index_signals-more old new inputs covers v y lt at h puts =
    let P : List (List ℕ) → Type 0 = λ l. IsIndexOf new l in
    let size : length (signals_of inputs (take v covers)) ≡ length inputs + v =
    length-signals_of inputs (take v covers) ∙ ap (λ n. length inputs + n) (length-take-le v covers (omega arith)) in
    subst P
    (ap (λ x. signals_of inputs (take v covers) ++ x ∷ []) at
    ∙ sym (signals_of-push inputs (take v covers) (get_or covers v no_cover))
    ∙ ap (λ l. signals_of inputs l) (sym (take_more covers v no_cover lt)))
    (IsIndexOf-push old new (signals_of inputs (take v covers)) y (length inputs + v) size h puts)

-- the fault of a cover after right ones
pub NodesOf-err : (b : BlifValue) (covers : List CoverValue) (v : ℕ) (cover : CoverValue) (nodes : List Node) (e : NetError) → b.covers ≡ covers
    → v < length covers → AllZip (IsNodeOf b) (take v covers) nodes → cover ≡ get_or covers v no_cover → OrMemory NoMemory (NodeOf b cover v) (Err e)
    → OrMemory NoMemory (NodesOf b) (Err e)
NodesOf-err b covers v cover nodes e same lt h at g =
    let Pc : List CoverValue → Type 0 = λ l. All (HasDrivenPins b) (take v l) in
    let Q : CoverValue → Type 0 = λ c. (pin : ℕ) × (e ≡ UndrivenPin v pin) × IsFirstMissing (signal_names b) c.ins pin in
    ⊎_elim (λ memory. inl memory)
    (λ fault.
    let there : (pin : ℕ) × (e ≡ UndrivenPin v pin) × IsFirstMissing (signal_names b) (get_or b.covers v no_cover).ins pin =
    subst Q (at ∙ ap (λ l. get_or l v no_cover) (sym same)) fault in
    inr (
      v,
      there.0,
      there.1,
      record { within = omega (arith, ap length same); earlier = subst Pc (sym same) (nodes_driven b (take v covers) nodes h); here = there.2 },
    ))
    g
