-- The names of a script's files are words of its text.
use Rattle.std.proofs.Common.{◌≡◌, ℕ, zero, suc, ◌<◌, Bool, true, false, cond, ◌&&◌, List, [], ◌∷◌, ◌++◌, length, Option, Some, None, All, refl, subst, ◌⊎◌, inl, inr, arith}
use Rattle.std.specs.Prelude.{nat_lt, nat_le, codes}
use Rattle.std.specs.List.{list_all, list_any}
use Rattle.std.specs.Option.{option_map}
use Rattle.std.specs.Str.{bytes_eq, IsAscii, IsUtf8}
use Rattle.std.proofs.lemmas.Bool.Decides.{nat_tests}
use Rattle.std.proofs.lemmas.Str.{IsUtf8-from_ascii}
use Rattle.blif_defs.specs.Words.{is_sign}
use Rattle.std.proofs.lemmas.List.Elements.{All-nil, All-push, All-weaker}
use Rattle.fabric_defs.specs.Geometries.{cell_count}
use Rattle.script_defs.specs.declared.command.Kind.{Kind}
use Rattle.script_defs.specs.declared.command.Kind.TheVariants.{Spec, Bundle}
use Rattle.script_defs.specs.declared.command.FileUse.{FileUse}
use Rattle.script_defs.specs.declared.command.Command.{Command}
use Rattle.script_defs.specs.declared.command.Command.TheVariants.{Evict, Cycle, Sweep}
use Rattle.script_defs.specs.declared.limits.TheConstants.{MAX_LANES, MAX_COMMANDS, MAX_SWEEP}
use Rattle.script_defs.specs.Scripts.{ScriptValue, same_use}
use Rattle.script_defs.specs.Lines.{Statement, statements, is_plain}
use Rattle.text_defs.specs.Numbers.{number_within, positive_within}
use Rattle.script_defs.specs.Commands.{number_below, max_long, bits_in, Said, plain, named, named_with, named_by, evict_by, cycle_with, cycle_by, sweep_with, sweep_by, plain_by, said_by}
use Rattle.script_defs.specs.Reading.{Head, nothing, to_fabric, to_slots, to_limit, whole, next_head, Draft, start, all_lanes, with_said, with_command_line, with_lane, with_line, with_words, value_with}
use Rattle.script_defs.specs.Texts.{Follows, ScriptText}

-- the name is a word
abbrev pub HasPlainName : FileUse → Type 0
HasPlainName u = is_plain u.name ≡ true

-- ---- choices

-- what two equal options hold is equal
some_is : {X : Type 0} (x y : X) → Some x ≡ Some y → x ≡ y
some_is x y e = cc

-- a conjunction that holds has both its parts
both : (a b : Bool) → (a && b) ≡ true → (a ≡ true) × (b ≡ true)
both true b e = (refl, e)
both false b e = absurd cc

-- a choice between something and nothing that gives something was of the first
chosen : {X : Type 0} (b : Bool) (o : Option X) (x : X) → cond b o None ≡ Some x → (b ≡ true) × (o ≡ Some x)
chosen true o x h = (refl, h)
chosen false o x h = absurd cc

-- a choice gives one of its two
either : {X : Type 0} (b : Bool) (o p : Option X) (x : X) → cond b o p ≡ Some x → (o ≡ Some x) ⊎ (p ≡ Some x)
either true o p x h = inl h
either false o p x h = inr h

-- ---- what a line says

-- where a file is named, its name is a word
abbrev SaysPlain : Said → Type 0
SaysPlain (plain c) = Unit {0}
SaysPlain (named kind slot name) = is_plain name ≡ true

-- the word behind the number of a slot is the name
named_with-plain : (kind : Kind) (o : Option ℕ) (name : List ℕ) (said : Said) → is_plain name ≡ true
    → named_with kind o name ≡ Some said → SaysPlain said
named_with-plain kind None name said word h = absurd cc
named_with-plain kind (Some slot) name said word h = subst SaysPlain (some_is (named kind slot name) said h) word

-- a line that names a file has exactly two words behind its first, and the second is the name
named-plain : (kind : Kind) (slots : ℕ) (more : List (List ℕ)) (said : Said) → list_all is_plain more ≡ true
    → named_by kind slots more ≡ Some said → SaysPlain said
named-plain kind slots [] said words h = absurd cc
named-plain kind slots (slot ∷ []) said words h = absurd cc
named-plain kind slots (slot ∷ name ∷ []) said words h =
    let rest = (both (is_plain slot) (is_plain name && true) words).1 in
    named_with-plain kind (number_below slots slot) name said (both (is_plain name) true rest).0 h
named-plain kind slots (slot ∷ name ∷ more ∷ rest) said words h = absurd cc

-- an eviction names no file
evict_with-plain : (o : Option ℕ) (said : Said) → option_map (λ s. plain (Evict s)) o ≡ Some said → SaysPlain said
evict_with-plain None said h = absurd cc
evict_with-plain (Some slot) said h = subst SaysPlain (some_is (plain (Evict slot)) said h) tt

-- nor does its line, however many words it has
evict-plain : (slots : ℕ) (more : List (List ℕ)) (said : Said) → evict_by slots more ≡ Some said → SaysPlain said
evict-plain slots [] said h = absurd cc
evict-plain slots (slot ∷ []) said h = evict_with-plain (number_below slots slot) said h
evict-plain slots (slot ∷ more ∷ rest) said h = absurd cc

-- a cycle names no file
cycle_with-plain : (a : Option ℕ) (b : Option (List ℕ)) (c : Option ℕ) (said : Said) → cycle_with a b c ≡ Some said
    → SaysPlain said
cycle_with-plain None b c said h = absurd cc
cycle_with-plain (Some slot) None c said h = absurd cc
cycle_with-plain (Some slot) (Some bits) None said h = absurd cc
cycle_with-plain (Some slot) (Some bits) (Some probe) said h =
    subst SaysPlain (some_is (plain (Cycle slot bits probe)) said h) tt

-- nor does its line
cycle-plain : (slots cells : ℕ) (more : List (List ℕ)) (said : Said) → cycle_by slots cells more ≡ Some said
    → SaysPlain said
cycle-plain slots cells [] said h = absurd cc
cycle-plain slots cells (slot ∷ []) said h = absurd cc
cycle-plain slots cells (slot ∷ bits ∷ []) said h = absurd cc
cycle-plain slots cells (slot ∷ bits ∷ probe ∷ []) said h =
    cycle_with-plain (number_below slots slot) (bits_in bits) (number_below cells probe) said h
cycle-plain slots cells (slot ∷ bits ∷ probe ∷ more ∷ rest) said h = absurd cc

-- a sweep names no file
sweep_with-plain : (a b c : Option ℕ) (said : Said) → sweep_with a b c ≡ Some said → SaysPlain said
sweep_with-plain None b c said h = absurd cc
sweep_with-plain (Some slot) None c said h = absurd cc
sweep_with-plain (Some slot) (Some first) None said h = absurd cc
sweep_with-plain (Some slot) (Some first) (Some count) said h =
    subst SaysPlain (some_is (plain (Sweep slot first count)) said h) tt

-- nor does its line
sweep-plain : (slots : ℕ) (more : List (List ℕ)) (said : Said) → sweep_by slots more ≡ Some said → SaysPlain said
sweep-plain slots [] said h = absurd cc
sweep-plain slots (slot ∷ []) said h = absurd cc
sweep-plain slots (slot ∷ first ∷ []) said h = absurd cc
sweep-plain slots (slot ∷ first ∷ count ∷ []) said h =
    sweep_with-plain (number_below slots slot) (number_within max_long first) (positive_within MAX_SWEEP count) said h
sweep-plain slots (slot ∷ first ∷ count ∷ more ∷ rest) said h = absurd cc

-- a line that names no file
plain_by-plain : (slots cells : ℕ) (first : List ℕ) (more : List (List ℕ)) (said : Said)
    → plain_by slots cells first more ≡ Some said → SaysPlain said
plain_by-plain slots cells first more said h =
    let sweeps : Option Said = cond (bytes_eq first (codes "sweep")) (sweep_by slots more) None in
    let cycles : Option Said = cond (bytes_eq first (codes "cycle")) (cycle_by slots cells more) sweeps in
    elim (either (bytes_eq first (codes "evict")) (evict_by slots more) cycles said h) [
      | inl e ↦ evict-plain slots more said e
      | inr c ↦
          elim (either (bytes_eq first (codes "cycle")) (cycle_by slots cells more) sweeps said c) [
            | inl k ↦ cycle-plain slots cells more said k
            | inr s ↦ sweep-plain slots more said (chosen (bytes_eq first (codes "sweep")) (sweep_by slots more) said s).1
          ]
    ]

-- only the lines of agreements and deliveries name files, by words of the line
said-plain : (slots cells : ℕ) (first : List ℕ) (more : List (List ℕ)) (said : Said) → list_all is_plain more ≡ true
    → said_by slots cells first more ≡ Some said → SaysPlain said
said-plain slots cells first more said words h =
    let others : Option Said = plain_by slots cells first more in
    let delivers : Option Said = cond (bytes_eq first (codes "deliver")) (named_by Bundle slots more) others in
    elim (either (bytes_eq first (codes "agree")) (named_by Spec slots more) delivers said h) [
      | inl a ↦ named-plain Spec slots more said words a
      | inr d ↦
          elim (either (bytes_eq first (codes "deliver")) (named_by Bundle slots more) others said d) [
            | inl b ↦ named-plain Bundle slots more said words b
            | inr p ↦ plain_by-plain slots cells first more said p
          ]
    ]

-- ---- drafts

-- each name of the draft's files is a word
abbrev NamesPlain : Draft → Type 0
NamesPlain d = All HasPlainName d.files

-- a file that is mentioned again isn't added, and one that is new has a word as its name
mentioned-plain : (files : List FileUse) (u : FileUse) (b : Bool) → All HasPlainName files → HasPlainName u
    → All HasPlainName (cond b files (files ++ u ∷ []))
mentioned-plain files u true all one = all
mentioned-plain files u false all one = All-push HasPlainName files u all one

-- what a line says adds at most its own file
with_said-plain : (d : Draft) (lane : List Command) (said : Said) → NamesPlain d → SaysPlain said
    → NamesPlain (with_said d lane said)
with_said-plain d lane (plain c) names word = names
with_said-plain d lane (named kind slot name) names word =
    let file : FileUse = record { kind = kind; name = name } in
    mentioned-plain d.files file (list_any (same_use file) d.files) names word

-- a line of a command keeps the names words
with_command_line-plain : (d e : Draft) (current : Option (List Command)) (o : Option Said) → NamesPlain d
    → ((said : Said) → o ≡ Some said → SaysPlain said) → with_command_line d current o ≡ Some e → NamesPlain e
with_command_line-plain d e None o names says h = absurd cc
with_command_line-plain d e (Some lane) None names says h = absurd cc
with_command_line-plain d e (Some lane) (Some said) names says h =
    let made = chosen (nat_lt d.commands MAX_COMMANDS) (Some (with_said d lane said)) e h in
    subst NamesPlain (some_is (with_said d lane said) e made.1) (with_said-plain d lane said names (says said refl))

-- a line that begins a lane adds no file
with_lane-plain : (d e : Draft) (more : List (List ℕ)) → NamesPlain d → with_lane d more ≡ Some e → NamesPlain e
with_lane-plain d e [] names h =
    let opened : Draft = record d { lanes = all_lanes d; current = Some [] } in
    let made = chosen (nat_lt (length (all_lanes d)) MAX_LANES) (Some opened) e h in
    subst NamesPlain (some_is opened e made.1) names
with_lane-plain d e (word ∷ more) names h = absurd cc

-- nor does a line of the head
with_head-plain : (d e : Draft) (o : Option Head) → NamesPlain d → option_map (λ h. record d { head = h }) o ≡ Some e
    → NamesPlain e
with_head-plain d e None names h = absurd cc
with_head-plain d e (Some head) names h =
    let next : Draft = record d { head = head } in
    subst NamesPlain (some_is next e h) names

-- so each line keeps the names words, whatever was read before it
with_line-plain : (h : Head) (d e : Draft) (first : List ℕ) (more : List (List ℕ)) → list_all is_plain more ≡ true
    → NamesPlain d → with_line h d first more ≡ Some e → NamesPlain e
with_line-plain nothing d e first more words names eq = with_head-plain d e (next_head nothing first more) names eq
with_line-plain (to_fabric g) d e first more words names eq =
    with_head-plain d e (next_head (to_fabric g) first more) names eq
with_line-plain (to_slots g s) d e first more words names eq =
    with_head-plain d e (next_head (to_slots g s) first more) names eq
with_line-plain (to_limit g s l) d e first more words names eq =
    with_head-plain d e (next_head (to_limit g s l) first more) names eq
with_line-plain (whole g s l w) d e first more words names eq =
    let commands : Option Draft = with_command_line d d.current (said_by s (cell_count g) first more) in
    elim (either (bytes_eq first (codes "lane")) (with_lane d more) commands e eq) [
      | inl lane ↦ with_lane-plain d e more names lane
      | inr command ↦
          with_command_line-plain d e d.current (said_by s (cell_count g) first more) names
          (λ said k. said-plain s (cell_count g) first more said words k) command
    ]

-- an empty line changes nothing
with_words-plain : (d e : Draft) (words : List (List ℕ)) → NamesPlain d → with_words d words ≡ Some e → NamesPlain e
with_words-plain d e [] names h = subst NamesPlain (some_is d e h) names
with_words-plain d e (first ∷ more) names h =
    let line = chosen (list_all is_plain (first ∷ more)) (with_line d.head d first more) e h in
    with_line-plain d.head d e first more (both (is_plain first) (list_all is_plain more) line.0).1 names line.1

-- from line to line the names stay words
follows-plain : (d : Draft) (ss : List Statement) (e : Draft) → NamesPlain d → Follows d ss e → NamesPlain e
follows-plain d [] e names h = subst NamesPlain h names
follows-plain d (s ∷ ss) e names h = follows-plain h.0 ss e (with_words-plain d h.0 s.words names h.1) h.2

-- the script has the files of the last draft
value-plain : (h : Head) (d : Draft) (current : Option (List Command)) (s : ScriptValue) → NamesPlain d
    → value_with h d current ≡ Some s → All HasPlainName s.files
value-plain nothing d current s names h = absurd cc
value-plain (to_fabric g) d current s names h = absurd cc
value-plain (to_slots g n) d current s names h = absurd cc
value-plain (to_limit g n l) d current s names h = absurd cc
value-plain (whole g n l w) d None s names h = absurd cc
value-plain (whole g n l w) d (Some lane) s names h =
    let v : ScriptValue = record { geometry = g; slots = n; limit = l; workers = w; files = d.files; lanes = d.lanes ++ lane ∷ [] } in
    subst (λ (x : ScriptValue). All HasPlainName x.files) (some_is v s h) names

-- a text begins with no file, so each name in its script is a word
pub text-plain : (text : List ℕ) (s : ScriptValue) → ScriptText text s → All HasPlainName s.files
text-plain text s t =
    value-plain t.end.head t.end t.end.current s
    (follows-plain start (statements text) t.end (All-nil HasPlainName) t.follows) t.value

-- ---- words as text

-- a printing byte is below 128
sign-small : (b : ℕ) → is_sign b ≡ true → b < 128
sign-small b sign = grind (arith, nat_tests, (both (nat_le 33 b) (nat_le b 126) sign).1)

-- so a word is ASCII
word-ascii : (word : List ℕ) → is_plain word ≡ true → IsAscii word
word-ascii [] plain_word i = omega arith
word-ascii (b ∷ bs) plain_word zero = sign-small b (both (is_sign b) (list_all is_sign bs) plain_word).0
word-ascii (b ∷ bs) plain_word (suc i) = word-ascii bs (both (is_sign b) (list_all is_sign bs) plain_word).1 i

-- each name is the UTF-8 of some text
pub names-utf8 : (text : List ℕ) (s : ScriptValue) → ScriptText text s → All (λ (u : FileUse). IsUtf8 u.name) s.files
names-utf8 text s t =
    All-weaker HasPlainName (λ (u : FileUse). IsUtf8 u.name)
    (λ u word. IsUtf8-from_ascii u.name (word-ascii u.name word)) s.files (text-plain text s t)
