-- The files that a command names are loaded.
use Rattle.std.proofs.Common.{◌≡◌, ℕ, ◌+◌, ◌≤◌, List, [], ◌∷◌, ◌++◌, length, map, take, All, Option, None, Some, refl, sym, ap, subst, ◌∙◌}
use Rattle.std.specs.List.{slice_get, AllZip}
use Rattle.std.specs.Option.{MatchOption, IsSomeAnd, option_map}
use Rattle.std.proofs.lemmas.List.{map-append, take_all}
use Rattle.std.proofs.lemmas.Option.{slice_get-map}
use Rattle.std.proofs.lemmas.List.Elements.{All-weaker}
use Rattle.std.proofs.lemmas.Slice.Zip.{AllZip-left, all_zipped_more}
use Rattle.fabric_defs.specs.Geometries.{GeometryValue}
use Rattle.script_defs.specs.declared.command.Kind.{Kind}
use Rattle.script_defs.specs.declared.command.Kind.TheVariants.{Spec as SpecFile, Bundle as BundleFile}
use Rattle.script_defs.specs.declared.command.FileUse.{FileUse}
use Rattle.script_defs.specs.declared.command.Command.{Command}
use Rattle.script_defs.specs.declared.command.Command.TheVariants.{Agree, Deliver, Evict, Cycle, Sweep}
use Rattle.script_defs.specs.Scripts.{IsFileOf, IsCommand}
use Rattle.session_defs.specs.Files.{Contents, specification, delivery}
use Rattle.run_actors.specs.declared.loaded.Loaded.{Loaded}
use Rattle.run_actors.specs.Loading.{contents_of, IsOfKind, AreOfKinds, IsSpec, IsBundle, CanRun}
use Rattle.lane_laws.proofs.Turns.{take-next}

-- the file of a use is loaded as what it is used as
loaded-at : (uses : List FileUse) (files : List Contents) (file : ℕ) (u : FileUse) (o : Option FileUse)
    → o ≡ Some u → MatchOption o (Unit {0}) (λ v. IsSomeAnd (slice_get files file) (IsOfKind v.kind))
    → IsSomeAnd (slice_get files file) (IsOfKind u.kind)
loaded-at uses files file u o is found =
    subst (λ p. MatchOption p (Unit {0}) (λ v. IsSomeAnd (slice_get files file) (IsOfKind v.kind))) is found

-- a file that is there and is of the kind of specifications describes some network
is_spec : (files : List Contents) (file : ℕ) (o : Option Contents) → slice_get files file ≡ o
    → IsSomeAnd o (IsOfKind SpecFile) → IsSpec files file
is_spec files file None is found = absurd found
is_spec files file (Some (specification net)) is found = (net, is)
is_spec files file (Some (delivery bytes)) is found = absurd found

-- and one of the kind of bundles has some bytes
is_bundle : (files : List Contents) (file : ℕ) (o : Option Contents) → slice_get files file ≡ o
    → IsSomeAnd o (IsOfKind BundleFile) → IsBundle files file
is_bundle files file None is found = absurd found
is_bundle files file (Some (specification net)) is found = absurd found
is_bundle files file (Some (delivery bytes)) is found = (bytes, is)

-- a file that is used as a kind is loaded as that kind
of-kind : (uses : List FileUse) (files : List Contents) (kind : Kind) (file : ℕ) → AreOfKinds uses files
    → IsFileOf uses kind file → IsSomeAnd (slice_get files file) (IsOfKind kind)
of-kind uses files kind file loaded used =
    subst (λ k. IsSomeAnd (slice_get files file) (IsOfKind k)) used.2
    (loaded-at uses files file used.0 (slice_get uses file) used.1
    (AllZip-left (λ (u : FileUse) c. IsOfKind u.kind c) uses files loaded file))

-- so each command of a script can run
pub can-run : (g : GeometryValue) (slots : ℕ) (uses : List FileUse) (files : List Contents) → AreOfKinds uses files
    → (c : Command) → IsCommand g slots uses c → CanRun g slots files c
can-run g slots uses files loaded (Agree slot file) is =
    (is.0, is_spec files file (slice_get files file) refl (of-kind uses files SpecFile file loaded is.1))
can-run g slots uses files loaded (Deliver slot file) is =
    (is.0, is_bundle files file (slice_get files file) refl (of-kind uses files BundleFile file loaded is.1))
can-run g slots uses files loaded (Evict slot) is = is
can-run g slots uses files loaded (Cycle slot bits probe) is = (is.0, is.3)
can-run g slots uses files loaded (Sweep slot first count) is = is.0

-- and all commands of a lane
pub all-can_run : (g : GeometryValue) (slots : ℕ) (uses : List FileUse) (files : List Contents) → AreOfKinds uses files
    → (cs : List Command) → All (IsCommand g slots uses) cs → All (CanRun g slots files) cs
all-can_run g slots uses files loaded cs all =
    All-weaker (IsCommand g slots uses) (CanRun g slots files) (can-run g slots uses files loaded) cs all

-- ---- a test of the loaded files

-- each file is of the kind that it is used as
pub kind-at : (uses : List FileUse) (files : List Loaded) (i : ℕ) (u : FileUse) (f : Loaded)
    → AreOfKinds uses (map contents_of files) → slice_get uses i ≡ Some u → slice_get files i ≡ Some f
    → IsOfKind u.kind (contents_of f)
kind-at uses files i u f loaded is_use is_file =
    subst (λ o. IsSomeAnd o (IsOfKind u.kind)) (slice_get-map contents_of files i ∙ ap (option_map contents_of) is_file)
    (loaded-at uses (map contents_of files) i u (slice_get uses i) is_use
    (AllZip-left (λ (u : FileUse) c. IsOfKind u.kind c) uses (map contents_of files) loaded i))

-- one file more
pub loaded-more : (uses : List FileUse) (files : List Loaded) (i : ℕ) (u : FileUse) (f : Loaded)
    → slice_get uses i ≡ Some u → slice_get files i ≡ Some f
    → AreOfKinds (take i uses) (map contents_of (take i files)) → IsOfKind u.kind (contents_of f)
    → AreOfKinds (take (i + 1) uses) (map contents_of (take (i + 1) files))
loaded-more uses files i u f is_use is_file loaded kind =
    let R : FileUse → Contents → Type 0 = λ u c. IsOfKind u.kind c in
    subst (λ us. AllZip R us (map contents_of (take (i + 1) files))) (sym (take-next uses i u is_use))
    (subst (λ fs. AllZip R (take i uses ++ u ∷ []) fs)
    (sym (ap (map contents_of) (take-next files i f is_file) ∙ map-append contents_of (take i files) (f ∷ [])))
    (all_zipped_more R (take i uses) (map contents_of (take i files)) u (contents_of f) loaded kind))

-- all of them
pub loaded-whole : (uses : List FileUse) (files : List Loaded) (n : ℕ) → length uses ≤ n → length files ≤ n
    → AreOfKinds (take n uses) (map contents_of (take n files)) → AreOfKinds uses (map contents_of files)
loaded-whole uses files n all_uses all_files loaded =
    subst (λ us. AreOfKinds us (map contents_of files)) (take_all n uses all_uses)
    (subst (λ fs. AreOfKinds (take n uses) (map contents_of fs)) (take_all n files all_files) loaded)
