-- A file that is put at the place of its name, or at the end where the name is new, is found there.
use Rattle.std.proofs.Common.{◌≡◌, ◌≢◌, ℕ, ◌<◌, ◌≤◌, inl, inr, true, false, List, [], ◌∷◌, ◌++◌, length, Some, Vec, refl, arith, ap, if◌then◌else◌, ◌∙◌, sym}
use Rattle.std.proofs.Math.ListN.{set}
use Rattle.std.specs.Str.{bytes_eq}
use Rattle.std.proofs.lemmas.Bool.{cases_Bool}
use Rattle.std.proofs.lemmas.Slice.Eq.{bytes_eq-Decides}
use Rattle.std.proofs.lemmas.List.{map-set, map-append, length-map}
use Rattle.std.specs.declared.alloc.Global.{Global}
use Rattle.pch_io.specs.Memory.{File, bytes_of, place_of, files_in}
use Rattle.pch_io.specs.Outside.{Saves}

-- a name is found equal to itself
same_name : (name : List ℕ) → bytes_eq name name ≡ true
same_name name = (bytes_eq-Decides name name).1 refl

-- another name is found unequal
other_name : (name other : List ℕ) → other ≢ name → bytes_eq name other ≡ false
other_name name other ne =
    elim (cases_Bool (bytes_eq name other)) [
      | inl same ↦ absurd (ne (sym ((bytes_eq-Decides name other).0 same)))
      | inr differ ↦ differ
    ]

-- a file that was put in place of one with its name has the new bytes
bytes_of-set_same : (fs : List File) (name bytes : List ℕ) → place_of fs name < length fs
    → bytes_of (set fs (place_of fs name) (record { name = name; bytes = bytes })) name ≡ Some bytes
bytes_of-set_same [] name bytes within = absurd (omega arith)
bytes_of-set_same (f ∷ fs) name bytes within =
    elim (cases_Bool (bytes_eq f.name name)) [
      | inl same ↦ rw (same, same_name name) refl
      | inr differ ↦ rw differ (rw differ (bytes_of-set_same fs name bytes (let w : place_of fs name < length fs = omega (arith, rw differ at within) in w)))
    ]

-- a file that was put in place of one with its name leaves the others as they were
bytes_of-set_other : (fs : List File) (name bytes other : List ℕ) → place_of fs name < length fs → other ≢ name
    → bytes_of (set fs (place_of fs name) (record { name = name; bytes = bytes })) other ≡ bytes_of fs other
bytes_of-set_other [] name bytes other within ne = absurd (omega arith)
bytes_of-set_other (f ∷ fs) name bytes other within ne =
    elim (cases_Bool (bytes_eq f.name name)) [
      | inl same ↦
          let hidden : bytes_eq f.name other ≡ false = ap (λ n. bytes_eq n other) ((bytes_eq-Decides f.name name).0 same) ∙ other_name name other ne in
          rw (same, other_name name other ne, hidden) refl
      | inr differ ↦
          rw differ (ap (λ found. if bytes_eq f.name other then Some f.bytes else found) (bytes_of-set_other fs name bytes other (omega (arith, rw differ at within)) ne))
    ]

-- a file that was put behind the others, whose name was new, has its bytes
bytes_of-append_same : (fs : List File) (name bytes : List ℕ) → length fs ≤ place_of fs name
    → bytes_of (fs ++ record { name = name; bytes = bytes } ∷ []) name ≡ Some bytes
bytes_of-append_same [] name bytes absent = rw (same_name name) refl
bytes_of-append_same (f ∷ fs) name bytes absent =
    elim (cases_Bool (bytes_eq f.name name)) [
      | inl same ↦ absurd (omega (arith, rw same at absent))
      | inr differ ↦ rw differ (bytes_of-append_same fs name bytes (omega (arith, rw differ at absent)))
    ]

-- a file that was put behind the others leaves them as they were
bytes_of-append_other : (fs : List File) (name bytes other : List ℕ) → other ≢ name
    → bytes_of (fs ++ record { name = name; bytes = bytes } ∷ []) other ≡ bytes_of fs other
bytes_of-append_other [] name bytes other ne = rw (other_name name other ne) refl
bytes_of-append_other (f ∷ fs) name bytes other ne =
    elim (cases_Bool (bytes_eq f.name other)) [
      | inl same ↦ rw same refl
      | inr differ ↦ rw differ (bytes_of-append_other fs name bytes other ne)
    ]

-- an entry with the name and the bytes is written over the one at the place of the name
pub set_saves : (es : List (List ℕ × Vec ℕ Global)) (fs : List File) (place : ℕ) (e : List ℕ × Vec ℕ Global) (name bytes : List ℕ)
    → files_in es ≡ fs → place ≡ place_of fs name → place < length es → e.0 ≡ name → e.1.items ≡ bytes
    → Saves (Some (bytes_of fs)) (Some (bytes_of (files_in (set es place e)))) name bytes
set_saves es fs place e name bytes are at within named has =
    let file : files_in (set es place e) ≡ set fs (place_of fs name) (record { name = name; bytes = bytes }) =
    map-set _ es place e ∙ ap (λ xs. set xs place (record { name = e.0; bytes = e.1.items })) are ∙ (cc) in
    let inside : place_of fs name < length fs = omega (arith, simp length-map at (ap length are)) in
    rw file (bytes_of-set_same fs name bytes inside, λ other ne. bytes_of-set_other fs name bytes other inside ne)

-- an entry with the name and the bytes is put at the end where the name is new
pub append_saves : (es : List (List ℕ × Vec ℕ Global)) (fs : List File) (place : ℕ) (e : List ℕ × Vec ℕ Global) (name bytes : List ℕ)
    → files_in es ≡ fs → place ≡ place_of fs name → length es ≤ place → e.0 ≡ name → e.1.items ≡ bytes
    → Saves (Some (bytes_of fs)) (Some (bytes_of (files_in (es ++ e ∷ [])))) name bytes
append_saves es fs place e name bytes are at past named has =
    let file : files_in (es ++ e ∷ []) ≡ fs ++ record { name = name; bytes = bytes } ∷ [] =
    map-append _ es (e ∷ []) ∙ (cc) in
    let absent : length fs ≤ place_of fs name = omega (arith, simp length-map at (ap length are)) in
    rw file (bytes_of-append_same fs name bytes absent, λ other ne. bytes_of-append_other fs name bytes other ne)
