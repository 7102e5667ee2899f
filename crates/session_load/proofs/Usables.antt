-- One file more that can be used.
use Rattle.std.proofs.Common.{◌≡◌, ℕ, suc, ◌+◌, ◌<◌, ◌≤◌, List, [], ◌∷◌, ◌++◌, length, map, drop, get_or, Option, Some, sym, ap, subst, ◌∙◌, append_assoc, drop-cons, arith}
use Rattle.std.specs.List.{slice_get}
use Rattle.std.proofs.Math.ListN.{drop_of_length-le}
use Rattle.std.proofs.lemmas.List.{map-append, append-nil}
use Rattle.std.proofs.lemmas.Option.{slice_get_within, get_or_from_slice_get}
use Rattle.pch_io.specs.Outside.{Files}
use Rattle.script_defs.specs.declared.command.FileUse.{FileUse}
use Rattle.script_defs.specs.declared.command.Kind.{Kind}
use Rattle.script_defs.specs.declared.command.Kind.TheVariants.{Spec, Bundle}
use Rattle.session_defs.specs.Files.{Contents, specification, delivery}
use Rattle.run_actors.specs.declared.loaded.Loaded.{Loaded}
use Rattle.run_actors.specs.Loading.{contents_of, IsOfKind, AreOfKinds}
use Rattle.session_load.specs.declared.fault.FileFault.{FileFault}
use Rattle.session_load.specs.Usable.{IsContentOf, IsOfSize, AreUsable, FileCause, StopsAt}

-- the elements that are left
drop-next : {X : Type 0} (xs : List X) (i : ℕ) (x : X) → slice_get xs i ≡ Some x → drop i xs ≡ x ∷ drop (i + 1) xs
drop-next xs i x found =
    let lt : i < length xs = slice_get_within xs i x found in
    let here : get_or xs i x ≡ x = get_or_from_slice_get xs i x x found in
    grind (arith, drop-cons, lt, here)

-- what is left, with the files before it, are all files
abbrev pub Completes : Option Files → ℕ → List FileUse → List FileUse → List Contents → Type 0
Completes told used left uses done =
    (rest : List Contents) → AreUsable told used left rest → AreUsable told 0 uses (done ++ rest)

-- a file at which what is left stops is one at which all files stop
abbrev pub Stops : Option Files → ℕ → List FileUse → List FileUse → ℕ → Type 0
Stops told used left uses i =
    (before now n : ℕ) (fault : FileFault) → StopsAt told before now used left n fault
    → StopsAt told before now 0 uses (i + n) fault

-- one usable file more, so what is left begins one place later, behind that many more bytes
pub completes-next : (told : Option Files) (used size i : ℕ) (uses : List FileUse) (u : FileUse) (files : List Loaded)
    (loaded : Loaded) → slice_get uses i ≡ Some u → IsOfSize told used u (contents_of loaded) size
    → Completes told used (drop i uses) uses (map contents_of files)
    → (more : List Loaded) → more ≡ files ++ loaded ∷ []
    → Completes told (used + size) (drop (i + 1) uses) uses (map contents_of more)
completes-next told used size i uses u files loaded found usable so_far more longer rest later =
    let left : drop i uses ≡ u ∷ drop (i + 1) uses = drop-next uses i u found in
    let done : List Contents = map contents_of files in
    let joined : done ++ (contents_of loaded ∷ rest) ≡ map contents_of more ++ rest =
    sym (ap (λ ls. map contents_of ls ++ rest) longer ∙ ap (λ cs. cs ++ rest) (map-append contents_of files (loaded ∷ []))
    ∙ append_assoc done (contents_of loaded ∷ []) rest) in
    subst (AreUsable told 0 uses) joined
    (so_far (contents_of loaded ∷ rest)
    (subst (λ us. AreUsable told used us (contents_of loaded ∷ rest)) (sym left)
    (usable.0, usable.1, subst (λ n. AreUsable told (used + n) (drop (i + 1) uses) rest) usable.2 later)))

-- and a file at which the rest stops is counted from one place later
pub stops-next : (told : Option Files) (used size i : ℕ) (uses : List FileUse) (u : FileUse) (c : Contents)
    → slice_get uses i ≡ Some u → IsOfSize told used u c size → Stops told used (drop i uses) uses i
    → Stops told (used + size) (drop (i + 1) uses) uses (i + 1)
stops-next told used size i uses u c found usable so_far before now n fault later =
    let left : drop i uses ≡ u ∷ drop (i + 1) uses = drop-next uses i u found in
    let count : i + suc n ≡ i + 1 + n = omega arith in
    subst (λ k. StopsAt told before now 0 uses k fault) count
    (so_far before now (suc n) fault
    (subst (λ us. StopsAt told before now used us (suc n) fault) (sym left)
    (c, usable.0, usable.1, subst (λ k. StopsAt told before now (used + k) (drop (i + 1) uses) n fault) usable.2 later)))

-- the next file can't be used
pub stops-here : (told : Option Files) (before now used i : ℕ) (uses : List FileUse) (u : FileUse) (fault : FileFault)
    → slice_get uses i ≡ Some u → Stops told used (drop i uses) uses i → FileCause told before now used u fault
    → StopsAt told before now 0 uses i fault
stops-here told before now used i uses u fault found so_far cause =
    let left : drop i uses ≡ u ∷ drop (i + 1) uses = drop-next uses i u found in
    let count : i + 0 ≡ i = omega arith in
    subst (λ k. StopsAt told before now 0 uses k fault) count
    (so_far before now 0 fault (subst (λ us. StopsAt told before now used us 0 fault) (sym left) cause))

-- no file is left
pub completes-all : (told : Option Files) (used i : ℕ) (uses : List FileUse) (files : List Loaded) → length uses ≤ i
    → Completes told used (drop i uses) uses (map contents_of files) → AreUsable told 0 uses (map contents_of files)
completes-all told used i uses files past so_far =
    subst (AreUsable told 0 uses) (append-nil (map contents_of files))
    (so_far [] (subst (λ us. AreUsable told used us []) (sym (drop_of_length-le uses past)) tt))

-- ---- kinds

-- what is used as a kind is of that kind
held-kind : (kind : Kind) (bytes : List ℕ) (c : Contents) → IsContentOf kind bytes c → IsOfKind kind c
held-kind Spec bytes (specification net) held = tt
held-kind Spec bytes (delivery delivered) held = held
held-kind Bundle bytes (specification net) held = held
held-kind Bundle bytes (delivery delivered) held = tt

-- so all files are loaded as what they are used as
pub usable-loaded : (told : Option Files) (used : ℕ) (uses : List FileUse) (files : List Contents)
    → AreUsable told used uses files → AreOfKinds uses files
usable-loaded told used [] [] usable = tt
usable-loaded told used [] (c ∷ files) usable = usable
usable-loaded told used (u ∷ uses) [] usable = usable
usable-loaded told used (u ∷ uses) (c ∷ files) usable = (
  held-kind u.kind usable.0 c usable.1.holds,
  usable-loaded told (used + length usable.0) uses files usable.2,
)
