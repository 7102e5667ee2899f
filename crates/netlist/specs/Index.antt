-- The places of names, looked up by their bytes.
use Rattle.std.specs.Prelude.{◌≡◌, ℕ, List, Option, MatchOption, Some, if◌then◌else◌, Contains, slice_get}
use Rattle.std.specs.BTreeMap.{get_by}
use Rattle.std.specs.Cmp.Lexicographic.{slice_cmp}
use Rattle.std.specs.Ordering.{nat_cmp}
use Rattle.std.specs.Str.{bytes_eq}
use Rattle.netlist.specs.declared.index.NameIndex.{NameIndex}

-- what the index has for a name
abbrev pub found : NameIndex → List ℕ → Option ℕ
found index name = get_by (λ k. slice_cmp nat_cmp name k.now) index.places

-- the index has a place for exactly the names of the list, and the name stands there
abbrev pub IsIndexOf : NameIndex → List (List ℕ) → Type 0
IsIndexOf index names =
    (q : List ℕ) → MatchOption (found index q) (¬ Contains names q) (λ s. slice_get names s ≡ Some q)

-- the name has this place now, and nothing else has changed
abbrev pub PutsName : NameIndex → NameIndex → List ℕ → ℕ → Type 0
PutsName old new name place =
    (q : List ℕ) → found new q ≡ (if bytes_eq name q then Some place else found old q)
