-- The files that were loaded so far, and those that are left.
use Rattle.std.proofs.Common.{◌≡◌, ℕ, ◌≤◌, suc, List, [], ◌∷◌, ◌++◌, length, drop, map, Option, ap, refl, sym, subst}
use Rattle.std.proofs.Math.ListN.{drop_of_length-le}
use Rattle.std.proofs.lemmas.List.{append-nil}
use Rattle.pch_io.specs.Outside.{Files}
use Rattle.pch_lines.specs.Commands.{file_seen}
use Rattle.pch_lines.specs.Files.{FileValue}
use Rattle.pch_lines.specs.declared.command.NamedFile.{NamedFile}
use Rattle.pch_shell.specs.Loading.{AreLoaded}

-- those that were loaded are as many as the files
pub length-loaded : (told : Option Files) (fs : List FileValue) (bs : List (List ℕ)) → AreLoaded told fs bs
    → length bs ≡ length fs
length-loaded told [] [] h = refl
length-loaded told [] (b ∷ bs) h = absurd h
length-loaded told (f ∷ fs) [] h = absurd h
length-loaded told (f ∷ fs) (b ∷ bs) h = ap suc (length-loaded told fs bs h.1)

-- where none is left, all were loaded
pub all_loaded : (told : Option Files) (files : List NamedFile) (i : ℕ) (bs : List (List ℕ)) → length files ≤ i
    → ((cs : List (List ℕ)) → AreLoaded told (map file_seen (drop i files)) cs → AreLoaded told (map file_seen files) (bs ++ cs))
    → AreLoaded told (map file_seen files) bs
all_loaded told files i bs past h =
    subst (AreLoaded told (map file_seen files)) (append-nil bs)
    (h [] (subst (λ (left : List NamedFile). AreLoaded told (map file_seen left) []) (sym (drop_of_length-le files past)) tt))
