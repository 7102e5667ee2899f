-- The numbers of files, looked up by their names.
use Rattle.std.specs.Prelude.{◌≡◌, ℕ, Bool, ◌&&◌, List, Option, Some, None, if◌then◌else◌}
use Rattle.std.specs.Borrow.{Bor}
use Rattle.std.specs.BTreeMap.{BTreeMap, get_by}
use Rattle.std.specs.Cmp.Lexicographic.{slice_cmp}
use Rattle.std.specs.List.{list_any, position_or_len}
use Rattle.std.specs.Ordering.{nat_cmp}
use Rattle.std.specs.Str.{bytes_eq}
use Rattle.script_defs.specs.declared.command.Kind.{Kind}
use Rattle.script_defs.specs.declared.command.Kind.TheVariants.{Spec, Bundle}
use Rattle.script_defs.specs.declared.command.FileUse.{FileUse}
use Rattle.script_defs.specs.Scripts.{same_use}
use Rattle.run_script.specs.declared.files.FileTable.{FileTable}

-- the file of this name, read as this kind
abbrev pub use_of : Kind → List ℕ → FileUse
use_of kind name = record { kind = kind; name = name }

-- the place of the first element that passes, where one does
abbrev pub place_in : {X : Type 0} → (X → Bool) → List X → Option ℕ
place_in p xs = if list_any p xs then Some (position_or_len p xs) else None

-- what a map has for a name
abbrev pub found : BTreeMap (Bor (List ℕ)) ℕ → List ℕ → Option ℕ
found map name = get_by (λ k. slice_cmp nat_cmp name k.now) map

-- the map has the place of each file that is read as this kind, and no other name
abbrev pub HasPlaces : Kind → BTreeMap (Bor (List ℕ)) ℕ → List FileUse → Type 0
HasPlaces kind map files = (name : List ℕ) → found map name ≡ place_in (same_use (use_of kind name)) files

-- the name has this number now, if the test holds, and nothing else has changed
abbrev pub PutsName : Bool → List ℕ → ℕ → (old new : BTreeMap (Bor (List ℕ)) ℕ) → Type 0
PutsName changes name number old new =
    (q : List ℕ) → found new q ≡ (if changes && bytes_eq name q then Some number else found old q)

-- the maps of the table have the places of its files
pub record IsIndexed (t : FileTable) : Type 0 where
  pub specs : HasPlaces Spec t.specs t.list.items
  pub bundles : HasPlaces Bundle t.bundles t.list.items
