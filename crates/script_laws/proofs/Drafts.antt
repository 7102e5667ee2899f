-- A script as far as it was read is within the limits.
use Rattle.std.proofs.Common.{◌≡◌, ℕ, ◌+◌, ◌<◌, ◌≤◌, Bool, true, false, cond, ◌&&◌, List, [], ◌∷◌, ◌++◌, length, get_or, Option, Some, None, refl, sym, ap, subst, ◌∙◌, ◌⊎◌, inl, inr, ⊎_elim, arith}
use Rattle.std.specs.Prelude.{nat_lt, ◌==◌, codes, All, slice_get, sum_by}
use Rattle.std.specs.Cmp.{IsEquivalence}
use Rattle.std.specs.List.{IsDistinct, list_all, list_any, position_or_len}
use Rattle.std.specs.Option.{option_map, option_to_list}
use Rattle.std.specs.Str.{bytes_eq}
use Rattle.std.proofs.lemmas.Bool.{cases_Bool}
use Rattle.std.proofs.lemmas.Bool.Decides.{nat_tests}
use Rattle.std.proofs.lemmas.List.{length-append, length_push, get_or_append_left, get_or_push}
use Rattle.std.proofs.lemmas.List.Elements.{All-push}
use Rattle.std.proofs.lemmas.List.Sums.{sum_by-append, passes_at_first}
use Rattle.std.proofs.lemmas.Map.Keys.{IsDistinct-push}
use Rattle.std.proofs.lemmas.Option.{slice_get_within, slice_get-get_or, get_or_from_slice_get}
use Rattle.std.proofs.lemmas.Slice.Eq.{bytes_eq-Decides}
use Rattle.fabric_defs.specs.declared.kind.CellKind.TheVariants.{FourInputs}
use Rattle.fabric_defs.specs.Geometries.{GeometryValue, cell_count}
use Rattle.script_defs.specs.declared.command.Kind.{Kind}
use Rattle.script_defs.specs.declared.command.Kind.TheVariants.{Spec, Bundle}
use Rattle.script_defs.specs.declared.command.FileUse.{FileUse}
use Rattle.script_defs.specs.declared.command.Command.{Command}
use Rattle.script_defs.specs.declared.command.Command.TheVariants.{Agree, Deliver, Evict, Cycle, Sweep}
use Rattle.script_defs.specs.declared.limits.TheConstants.{MAX_LANES, MAX_COMMANDS}
use Rattle.script_defs.specs.Scripts.{ScriptValue, same_kind, same_use, IsFileOf, IsCommand, IsScript}
use Rattle.script_defs.specs.Lines.{Statement, statements, is_plain}
use Rattle.script_defs.specs.Commands.{Said, plain, named, said_by}
use Rattle.script_defs.specs.Reading.{Head, nothing, to_fabric, to_slots, to_limit, whole, next_head, Draft, start, all_lanes, file_number, mentioned, file_command, with_command, with_said, with_command_line, with_lane, with_lane_line, with_line, with_words, value_with, value_of}
use Rattle.script_defs.specs.Texts.{Follows, ScriptText}
use Rattle.script_laws.proofs.Commands.{IsSaid, said_bounds, IsFour, IsHead, next_head-bounds}

-- ---- uses of files

-- kinds that pass the test are one
same_kind-is : (a b : Kind) → same_kind a b ≡ true → a ≡ b
same_kind-is Spec Spec e = refl
same_kind-is Spec Bundle e = absurd cc
same_kind-is Bundle Spec e = absurd cc
same_kind-is Bundle Bundle e = refl

-- and a kind passes it with itself
same_kind-refl : (a : Kind) → same_kind a a ≡ true
same_kind-refl Spec = refl
same_kind-refl Bundle = refl

-- a conjunction that holds has both its parts
both : (a b : Bool) → (a && b) ≡ true → (a ≡ true) × (b ≡ true)
both true b e = (refl, e)
both false b e = absurd cc

-- uses that are the same are equal
pub same_use-is : (a b : FileUse) → same_use a b ≡ true → a ≡ b
same_use-is a b e i =
    let p = both (same_kind a.kind b.kind) (bytes_eq a.name b.name) e in
    record { kind = same_kind-is a.kind b.kind p.0 i; name = (bytes_eq-Decides a.name b.name).0 p.1 i }

-- a use is the same as itself
same_use-refl : (a : FileUse) → same_use a a ≡ true
same_use-refl a = rw (same_kind-refl a.kind, (bytes_eq-Decides a.name a.name).1 refl) refl

-- of two uses either is the same as the other, or neither is
same_use-symm : (a b : FileUse) → same_use a b ≡ same_use b a
same_use-symm a b = ⊎_elim (λ e. one a b e) (λ e. ⊎_elim (λ f. sym (one b a f)) (λ f. e ∙ sym f) (cases_Bool (same_use b a))) (cases_Bool (same_use a b))
  where
    one : (a b : FileUse) → same_use a b ≡ true → same_use a b ≡ same_use b a
    one a b e = subst (λ (x : FileUse). same_use a x ≡ same_use x a) (same_use-is a b e) refl

-- it is an equivalence to be the same use
pub same_use_equiv : IsEquivalence same_use
same_use_equiv = record {
  refl = same_use-refl;
  symm = same_use-symm;
  congr = λ x y z e. ap (λ (u : FileUse). same_use u z) (same_use-is x y e);
}

-- ---- lists

-- what holds of all elements of two lists holds of those of the first
front : {X : Type 0} (P : X → Type 0) (xs ys : List X) → All P (xs ++ ys) → All P xs
front P xs ys h k d lt =
    subst P (get_or_append_left xs ys d k lt) (h k d (omega (arith, length-append xs ys)))

-- and of the last element
last : {X : Type 0} (P : X → Type 0) (xs : List X) (y : X) → All P (xs ++ y ∷ []) → P y
last P xs y h = subst P (get_or_push xs y y (length xs) refl) (h (length xs) y (omega (arith, length_push xs y)))

-- what follows from it holds of all elements, too
weaker : {X : Type 0} (P Q : X → Type 0) (xs : List X) → ((x : X) → P x → Q x) → All P xs → All Q xs
weaker P Q xs f h k d lt = f (get_or xs k d) (h k d lt)

-- what stands in a list stands in a longer one
longer : {X : Type 0} (xs ys : List X) (i : ℕ) (x : X) → slice_get xs i ≡ Some x → slice_get (xs ++ ys) i ≡ Some x
longer xs ys i x h =
    let lt = slice_get_within xs i x h in
    slice_get-get_or (xs ++ ys) i x (omega (arith, length-append xs ys))
    ∙ ap Some (get_or_append_left xs ys x i lt ∙ get_or_from_slice_get xs i x x h)

-- ---- files that were mentioned

-- the place of an element that passes is one of the list
pub found_within : {X : Type 0} (p : X → Bool) (xs : List X) → list_any p xs ≡ true → position_or_len p xs < length xs
found_within p [] e = absurd cc
found_within p (x ∷ xs) e = by (p x) refl (found_within p xs)
  where
    by : (b : Bool) → p x ≡ b → (list_any p xs ≡ true → position_or_len p xs < length xs) → position_or_len p (x ∷ xs) < length (x ∷ xs)
    by true is ih = rw is (omega arith)
    by false is ih =
        let e : list_any p xs ≡ true = rw is at e in
        let lt = ih e in
        rw is (omega (arith, lt))

-- without one that passes it is behind the list
pub none_found : {X : Type 0} (p : X → Bool) (xs : List X) → list_any p xs ≡ false → position_or_len p xs ≡ length xs
none_found p [] e = refl
none_found p (x ∷ xs) e = by (p x) refl (none_found p xs)
  where
    by : (b : Bool) → p x ≡ b → (list_any p xs ≡ false → position_or_len p xs ≡ length xs) → position_or_len p (x ∷ xs) ≡ length (x ∷ xs)
    by true is ih = absurd (let e : true ≡ false = rw is at e in cc)
    by false is ih =
        let e : list_any p xs ≡ false = rw is at e in
        let same : position_or_len p xs ≡ length xs = ih e in
        rw is (omega (arith, same))

-- files with one more that is mentioned: it has its number, the others keep theirs, and no two are the same
record IsMentioned (files : List FileUse) (u : FileUse) (more : List FileUse) : Type 0 where
  there : slice_get more (file_number files u) ≡ Some u
  kept : (i : ℕ) (x : FileUse) → slice_get files i ≡ Some x → slice_get more i ≡ Some x
  differ : IsDistinct same_use files → IsDistinct same_use more
  few : length more ≤ length files + 1

-- a file that was mentioned before keeps its number, and no file is added
mentioned_again : (files : List FileUse) (u : FileUse) → list_any (same_use u) files ≡ true → IsMentioned files u files
mentioned_again files u e =
    let lt = found_within (same_use u) files e in
    let at : u ≡ get_or files (file_number files u) u = same_use-is u (get_or files (file_number files u) u) (passes_at_first (same_use u) files u lt) in
    record {
      there = slice_get-get_or files (file_number files u) u lt ∙ ap Some (sym at);
      kept = λ i x h. h;
      differ = λ h. h;
      few = omega arith;
    }

-- a file that is mentioned for the first time comes behind the others
mentioned_first : (files : List FileUse) (u : FileUse) → list_any (same_use u) files ≡ false → IsMentioned files u (files ++ u ∷ [])
mentioned_first files u e =
    let n : file_number files u ≡ length files = none_found (same_use u) files e in
    let more : List FileUse = files ++ u ∷ [] in
    let at : slice_get more (length files) ≡ Some u =
    slice_get-get_or more (length files) u (omega (arith, length_push files u)) ∙ ap Some (get_or_push files u u (length files) refl) in
    record {
      there = ap (slice_get more) n ∙ at;
      kept = λ i x h. longer files (u ∷ []) i x h;
      differ = λ h. IsDistinct-push same_use_equiv files u h e;
      few = omega (arith, length_push files u);
    }

-- so are the files with one that is mentioned, whether it was mentioned before or not
is_mentioned : (files : List FileUse) (u : FileUse) → IsMentioned files u (mentioned files u)
is_mentioned files u = by (list_any (same_use u) files) refl
  where
    by : (b : Bool) → list_any (same_use u) files ≡ b → IsMentioned files u (cond b files (files ++ u ∷ []))
    by true is = mentioned_again files u is
    by false is = mentioned_first files u is

-- ---- commands

-- a file that is there stays there with more files
more_files : (files more : List FileUse) (kind : Kind) (file : ℕ) → ((i : ℕ) (x : FileUse) → slice_get files i ≡ Some x → slice_get more i ≡ Some x)
    → IsFileOf files kind file → IsFileOf more kind file
more_files files more kind file kept h = (h.0, kept file h.0 h.1, h.2)

-- a command stays within the bounds with more files
command_stays : (g : GeometryValue) (count : ℕ) (files more : List FileUse) → ((i : ℕ) (x : FileUse) → slice_get files i ≡ Some x → slice_get more i ≡ Some x)
    → (c : Command) → IsCommand g count files c → IsCommand g count more c
command_stays g count files more kept (Agree slot file) h = (h.0, more_files files more Spec file kept h.1)
command_stays g count files more kept (Deliver slot file) h = (h.0, more_files files more Bundle file kept h.1)
command_stays g count files more kept (Evict slot) h = h
command_stays g count files more kept (Cycle slot bits probe) h = h
command_stays g count files more kept (Sweep slot first size) h = h

-- the command that names a file is within the bounds, where the file is there
file_command_is : (g : GeometryValue) (count : ℕ) (files : List FileUse) (kind : Kind) (slot file : ℕ) → slot < count → IsFileOf files kind file
    → IsCommand g count files (file_command kind slot file)
file_command_is g count files Spec slot file lt h = (lt, h)
file_command_is g count files Bundle slot file lt h = (lt, h)

-- the command may stand behind this head: behind one that isn't whole none may
abbrev IsIn : Head → List FileUse → Command → Type 0
IsIn nothing files c = ⊥
IsIn (to_fabric g) files c = ⊥
IsIn (to_slots g s) files c = ⊥
IsIn (to_limit g s l) files c = ⊥
IsIn (whole g s l w) files c = IsCommand g s files c

-- ---- drafts

-- a draft is within the limits, and its commands within the bounds of its head
record IsSound (d : Draft) : Type 0 where
  head : IsHead d.head
  lanes_few : length (all_lanes d) ≤ MAX_LANES
  counted : d.commands ≡ sum_by length (all_lanes d)
  few : d.commands ≤ MAX_COMMANDS
  differ : IsDistinct same_use d.files
  files_few : length d.files ≤ d.commands
  commands : All (All (IsIn d.head d.files)) (all_lanes d)

-- before the first line the draft is within the limits
start_is_sound : IsSound start
unfolding IsDistinct
start_is_sound = record {
  head = tt;
  lanes_few = omega arith;
  counted = refl;
  few = omega arith;
  differ = tt;
  files_few = omega arith;
  commands = λ k d lt. absurd (omega arith);
}

-- a draft with another head, where no command may stand behind the former one
with_head_is : (d : Draft) (next : Head) → IsSound d → ((c : Command) → IsIn d.head d.files c → ⊥) → IsHead next → IsSound (record d { head = next })
with_head_is d next s none is = record {
  head = is;
  lanes_few = s.lanes_few;
  counted = s.counted;
  few = s.few;
  differ = s.differ;
  files_few = s.files_few;
  commands = weaker (All (IsIn d.head d.files)) (All (IsIn next d.files)) (all_lanes d)
      (λ lane h. weaker (IsIn d.head d.files) (IsIn next d.files) lane (λ c i. absurd (none c i)) h) s.commands;
}

-- a number that is tested to be less is less
less : (n m : ℕ) → nat_lt n m ≡ true → n < m
less n m e = grind (arith, nat_tests)

-- a test that let a value through
chosen : {X : Type 0} (b : Bool) (o : Option X) (x : X) → cond b o None ≡ Some x → (b ≡ true) × (o ≡ Some x)
chosen true o x h = (refl, h)
chosen false o x h = absurd cc

-- what two equal options hold is equal
some_is : {X : Type 0} (x y : X) → Some x ≡ Some y → x ≡ y
some_is x y e = cc

-- one lane more
with_lane_is : (d e : Draft) (more : List (List ℕ)) → IsSound d → with_lane d more ≡ Some e → IsSound e
with_lane_is d e (word ∷ more) s h = absurd cc
with_lane_is d e [] s h =
    let opened : Draft = record d { lanes = all_lanes d; current = Some [] } in
    let c = chosen (nat_lt (length (all_lanes d)) MAX_LANES) (Some opened) e h in
    let lt = less (length (all_lanes d)) MAX_LANES c.0 in
    subst IsSound (some_is opened e c.1) (record {
      head = s.head;
      lanes_few = omega (arith, length_push (all_lanes d) []);
      counted = s.counted ∙ (let e : sum_by length (all_lanes d) ≡ sum_by length (all_lanes d ++ [] ∷ []) = omega (arith, sum_by-append length (all_lanes d) ([] ∷ [])) in e);
      few = s.few;
      differ = s.differ;
      files_few = s.files_few;
      commands = All-push (All (IsIn d.head d.files)) (all_lanes d) [] s.commands (λ k x lt. absurd (omega arith));
    })

-- one command more in the open lane, with these files
command_more : (d : Draft) (lane : List Command) (c : Command) (files : List FileUse) → IsSound d → d.current ≡ Some lane → d.commands < MAX_COMMANDS
    → IsDistinct same_use files → length files ≤ length d.files + 1
    → ((b : Command) → IsIn d.head d.files b → IsIn d.head files b) → IsIn d.head files c
    → IsSound (with_command (record d { files = files }) lane c)
command_more d lane c files s open_is lt differ few stays is =
    let here : all_lanes d ≡ d.lanes ++ lane ∷ [] = ap (λ (o : Option (List Command)). d.lanes ++ option_to_list o) open_is in
    let before : All (All (IsIn d.head d.files)) (d.lanes ++ lane ∷ []) = subst (λ (ls : List (List Command)). All (All (IsIn d.head d.files)) ls) here s.commands in
    let commands : All (All (IsIn d.head files)) (d.lanes ++ lane ∷ []) =
    weaker (All (IsIn d.head d.files)) (All (IsIn d.head files)) (d.lanes ++ lane ∷ []) (λ l h. weaker (IsIn d.head d.files) (IsIn d.head files) l stays h) before in
    let lanes_few : length (d.lanes ++ lane ∷ []) ≤ MAX_LANES = subst (λ (ls : List (List Command)). length ls ≤ MAX_LANES) here s.lanes_few in
    let counted : d.commands ≡ sum_by length (d.lanes ++ lane ∷ []) = s.counted ∙ ap (sum_by length) here in
    let files_few = s.files_few in
    record {
      head = s.head;
      lanes_few = omega (arith, lanes_few, length_push d.lanes lane, length_push d.lanes (lane ++ c ∷ []));
      counted = omega (arith, counted, sum_by-append length d.lanes (lane ∷ []), sum_by-append length d.lanes ((lane ++ c ∷ []) ∷ []), length_push lane c);
      few = omega (arith, lt);
      differ = differ;
      files_few = omega (arith, files_few, few);
      commands = All-push (All (IsIn d.head files)) d.lanes (lane ++ c ∷ []) (front (All (IsIn d.head files)) d.lanes (lane ∷ []) commands)
          (All-push (IsIn d.head files) lane c (last (All (IsIn d.head files)) d.lanes lane commands) is);
    }

-- what a line says is done
with_said_is : (d : Draft) (g : GeometryValue) (s l w : ℕ) (lane : List Command) (said : Said) → IsSound d → d.head ≡ whole g s l w → d.current ≡ Some lane
    → d.commands < MAX_COMMANDS → IsSaid g s said → IsSound (with_said d lane said)
with_said_is d g s l w lane (plain c) sound head open_is lt is =
    command_more d lane c d.files sound open_is lt sound.differ (omega arith) (λ b h. h)
    (subst (λ (h : Head). IsIn h d.files c) (sym head) (is d.files))
with_said_is d g s l w lane (named kind slot name) sound head open_is lt is =
    let file : FileUse = record { kind = kind; name = name } in
    let number = file_number d.files file in
    let m = is_mentioned d.files file in
    let more = mentioned d.files file in
    let stays : (b : Command) → IsIn d.head d.files b → IsIn d.head more b =
    λ b h. subst (λ (x : Head). IsIn x more b) (sym head) (command_stays g s d.files more m.kept b (subst (λ (x : Head). IsIn x d.files b) head h)) in
    let here : IsIn d.head more (file_command kind slot number) =
    subst (λ (x : Head). IsIn x more (file_command kind slot number)) (sym head)
    (file_command_is g s more kind slot number is (file, m.there, refl)) in
    command_more d lane (file_command kind slot number) more sound open_is lt (m.differ sound.differ) m.few stays here

-- a line with a command leaves the draft within the limits
with_command_line_is : (d e : Draft) (g : GeometryValue) (s l w : ℕ) (current : Option (List Command)) (o : Option Said) → IsSound d → d.head ≡ whole g s l w → d.current ≡ current
    → ((said : Said) → o ≡ Some said → IsSaid g s said) → with_command_line d current o ≡ Some e → IsSound e
with_command_line_is d e g s l w None o sound head open_is is h = absurd cc
with_command_line_is d e g s l w (Some lane) None sound head open_is is h = absurd cc
with_command_line_is d e g s l w (Some lane) (Some said) sound head open_is is h =
    let c = chosen (nat_lt d.commands MAX_COMMANDS) (Some (with_said d lane said)) e h in
    subst IsSound (some_is (with_said d lane said) e c.1)
    (with_said_is d g s l w lane said sound head open_is (less d.commands MAX_COMMANDS c.0) (is said refl))

-- a value of one of two
either : {X : Type 0} (b : Bool) (o p : Option X) (x : X) → cond b o p ≡ Some x → (o ≡ Some x) ⊎ (p ≡ Some x)
either true o p x h = inl h
either false o p x h = inr h

-- a line in front of the lanes
with_next : (d e : Draft) (h : Head) (first : List ℕ) (more : List (List ℕ)) → d.head ≡ h → IsSound d → ((c : Command) → IsIn h d.files c → ⊥)
    → option_map (λ n. record d { head = n }) (next_head h first more) ≡ Some e → IsSound e
with_next d e h first more is sound none eq = by (next_head h first more) refl eq
  where
    by : (o : Option Head) → next_head h first more ≡ o → option_map (λ n. record d { head = n }) o ≡ Some e → IsSound e
    by None is_o eq = absurd cc
    by (Some n) is_o eq =
        let made : record d { head = n } ≡ e = cc in
        let fresh : (c : Command) → IsIn d.head d.files c → ⊥ = λ c i. none c (subst (λ (x : Head). IsIn x d.files c) is i) in
        subst IsSound made (with_head_is d n sound fresh (next_head-bounds h n first more (subst IsHead is sound.head) is_o))

-- a line with words leaves the draft within the limits, if it has no fault
with_line_is : (h : Head) (d e : Draft) (first : List ℕ) (more : List (List ℕ)) → d.head ≡ h → IsSound d → with_line h d first more ≡ Some e → IsSound e
with_line_is nothing d e first more is sound eq = with_next d e nothing first more is sound (λ c i. i) eq
with_line_is (to_fabric g) d e first more is sound eq = with_next d e (to_fabric g) first more is sound (λ c i. i) eq
with_line_is (to_slots g s) d e first more is sound eq = with_next d e (to_slots g s) first more is sound (λ c i. i) eq
with_line_is (to_limit g s l) d e first more is sound eq = with_next d e (to_limit g s l) first more is sound (λ c i. i) eq
with_line_is (whole g s l w) d e first more is sound eq =
    ⊎_elim (λ h. with_lane_is d e more sound h)
    (λ h. with_command_line_is d e g s l w d.current (said_by s (cell_count g) first more) sound is refl (λ said k. said_bounds g s first more said k) h)
    (either (bytes_eq first (codes "lane")) (with_lane d more) (with_command_line d d.current (said_by s (cell_count g) first more)) e eq)

-- and so does any line
with_words_is : (d e : Draft) (words : List (List ℕ)) → IsSound d → with_words d words ≡ Some e → IsSound e
with_words_is d e [] sound h = subst IsSound (some_is d e h) sound
with_words_is d e (first ∷ more) sound h =
    with_line_is d.head d e first more refl sound (chosen (list_all is_plain (first ∷ more)) (with_line d.head d first more) e h).1

-- where the lines lead is within the limits
follows_is : (d : Draft) (ss : List Statement) (e : Draft) → IsSound d → Follows d ss e → IsSound e
follows_is d [] e sound h = subst IsSound h sound
follows_is d (s ∷ ss) e sound h = follows_is h.0 ss e (with_words_is d h.0 s.words sound h.1) h.2

-- ---- values

-- the value of a draft within the limits
value_is : (h : Head) (d : Draft) (current : Option (List Command)) (s : ScriptValue) → d.head ≡ h → d.current ≡ current → IsSound d → value_with h d current ≡ Some s
    → IsScript s × (s.geometry.kind ≡ FourInputs)
value_is nothing d current s is open_is sound h = absurd cc
value_is (to_fabric g) d current s is open_is sound h = absurd cc
value_is (to_slots g n) d current s is open_is sound h = absurd cc
value_is (to_limit g n l) d current s is open_is sound h = absurd cc
value_is (whole g n l w) d None s is open_is sound h = absurd cc
value_is (whole g n l w) d (Some lane) s is open_is sound h =
    let v : ScriptValue = record { geometry = g; slots = n; limit = l; workers = w; files = d.files; lanes = d.lanes ++ lane ∷ [] } in
    let here : all_lanes d ≡ d.lanes ++ lane ∷ [] = ap (λ (o : Option (List Command)). d.lanes ++ option_to_list o) open_is in
    let head : IsHead (whole g n l w) = subst IsHead is sound.head in
    let counted : d.commands ≡ sum_by length (d.lanes ++ lane ∷ []) = sound.counted ∙ ap (sum_by length) here in
    let few = sound.few in
    let files_few = sound.files_few in
    let lanes_few : length (d.lanes ++ lane ∷ []) ≤ MAX_LANES = subst (λ (ls : List (List Command)). length ls ≤ MAX_LANES) here sound.lanes_few in
    let commands : All (All (IsCommand g n d.files)) (all_lanes d) = subst (λ (x : Head). All (All (IsIn x d.files)) (all_lanes d)) is sound.commands in
    let script : IsScript v = record {
      geometry = head.0.geometry;
      some_slots = head.1;
      slots = head.2;
      some_limit = head.3;
      limit = head.4;
      some_workers = head.5;
      workers = head.6;
      files_differ = sound.differ;
      files = omega (arith, files_few, few);
      some_lanes = omega (arith, length_push d.lanes lane);
      lanes = lanes_few;
      commands_within = omega (arith, counted, few);
      commands = subst (λ (ls : List (List Command)). All (All (IsCommand g n d.files)) ls) here commands;
    } in
    subst (λ (x : ScriptValue). IsScript x × (x.geometry.kind ≡ FourInputs)) (some_is v s h) (script, head.0.kind)

-- the value of a text is within the limits, and its cells have four inputs
both_of_text : (text : List ℕ) (s : ScriptValue) → ScriptText text s → IsScript s × (s.geometry.kind ≡ FourInputs)
both_of_text text s h =
    value_is h.end.head h.end h.end.current s refl refl (follows_is start (statements text) h.end start_is_sound h.follows) h.value

-- the value of a text is a script within the limits
pub script_of_text : (text : List ℕ) (s : ScriptValue) → ScriptText text s → IsScript s
script_of_text text s h = (both_of_text text s h).0

-- and its cells have four inputs
pub kind_of_text : (text : List ℕ) (s : ScriptValue) → ScriptText text s → s.geometry.kind ≡ FourInputs
kind_of_text text s h = (both_of_text text s h).1
