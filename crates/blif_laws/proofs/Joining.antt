-- How the lines of a text are joined while they are read from the first on.
use Rattle.std.proofs.Common.{◌≡◌, ℕ, ◌+◌, Bool, true, false, not, cond, List, [], ◌∷◌, ◌++◌, map, refl, sym, ap, ◌∙◌, append_assoc}
use Rattle.text_defs.specs.Tokens.{begins_with_token}
use Rattle.blif_defs.specs.Words.{is_blank, words}
use Rattle.blif_defs.specs.Lines.{Line, joined, joined_to, joins, content}
use Rattle.blif_defs.specs.Grammar.{Statement, statement_of}
use Rattle.blif_laws.proofs.LineLemmas.{plain_words, words_by, words-is}

-- ---- words on both sides of a blank

-- a byte in front of a line goes to its first words, whatever words stand behind them
words_by-append : (blank starts : Bool) (b : ℕ) (ws vs : List (List ℕ)) → (starts ≡ true → (w : List ℕ) × (rest : List (List ℕ)) × (ws ≡ w ∷ rest))
    → words_by blank starts b (ws ++ vs) ≡ words_by blank starts b ws ++ vs
words_by-append true starts b ws vs some = refl
words_by-append false false b ws vs some = refl
words_by-append false true b ws vs some =
    let s = some refl in
    rw s.2 refl

-- what isn't blank is a sign
sign_of : (blank : Bool) → not blank ≡ true → blank ≡ false
sign_of true h = absurd cc
sign_of false h = refl

-- a byte that isn't blank begins a word
some_by : (b : ℕ) (starts : Bool) (ws : List (List ℕ)) → is_blank b ≡ false → (w : List ℕ) × (rest : List (List ℕ)) × (words_by (is_blank b) starts b ws ≡ w ∷ rest)
some_by b true [] e = (b ∷ [], [], ap (λ (blank : Bool). words_by blank true b []) e)
some_by b true (w ∷ ws) e = (b ∷ w, ws, ap (λ (blank : Bool). words_by blank true b (w ∷ ws)) e)
some_by b false ws e = (b ∷ [], ws, ap (λ (blank : Bool). words_by blank false b ws) e)

-- where a line begins with a word, it has one
plain_words-some : (line : List ℕ) → begins_with_token is_blank line ≡ true → (w : List ℕ) × (rest : List (List ℕ)) × (plain_words line ≡ w ∷ rest)
plain_words-some [] h = absurd cc
plain_words-some (b ∷ bs) h = some_by b (begins_with_token is_blank bs) (plain_words bs) (sign_of (is_blank b) h)

-- what stands behind a space doesn't change how the line begins
begins-append : (line more : List ℕ) → begins_with_token is_blank (line ++ 32 ∷ more) ≡ begins_with_token is_blank line
begins-append [] more = refl
begins-append (b ∷ bs) more = refl

-- a space between two lines parts their words
plain_words-append : (line more : List ℕ) → plain_words (line ++ 32 ∷ more) ≡ plain_words line ++ plain_words more
plain_words-append [] more = refl
plain_words-append (b ∷ bs) more =
    rw (plain_words-append bs more, begins-append bs more)
    (words_by-append (is_blank b) (begins_with_token is_blank bs) b (plain_words bs) (plain_words more) (plain_words-some bs))

-- a space parts words
pub words-append : (line more : List ℕ) → words (line ++ 32 ∷ more) ≡ words line ++ words more
words-append line more = words-is (line ++ 32 ∷ more) ∙ plain_words-append line more ∙ sym (ap (λ (ws : List (List ℕ)). ws ++ words more) (words-is line) ∙ ap (λ (ws : List (List ℕ)). plain_words line ++ ws) (words-is more))

-- ---- what is read so far of a joined line

-- the words of the lines that are joined to the first of these statements, which begin at line `first`
abbrev pub put_in_front : ℕ → List (List ℕ) → List Statement → List Statement
put_in_front first pending [] = record { at = first; words = pending } ∷ []
put_in_front first pending (s ∷ more) = record { at = first; words = pending ++ s.words } ∷ more

-- the statements of lines, of which the first has this number
abbrev pub from_line : ℕ → List (List ℕ) → List Statement
from_line at lines = map statement_of (joined at lines)

-- the joined lines from a line on, by whether it is joined to the next one
abbrev by_joins : Bool → ℕ → List ℕ → List Line → List Line
by_joins joins at bytes after = cond joins (joined_to at bytes after) (record { at = at; bytes = bytes } ∷ after)

-- the last line
last_by : (j : Bool) (first : ℕ) (pending : List (List ℕ)) (at : ℕ) (bytes : List ℕ)
    → put_in_front first pending (map statement_of (by_joins j at bytes [])) ≡ record { at = first; words = pending ++ words bytes } ∷ []
last_by true first pending at bytes = refl
last_by false first pending at bytes = refl

-- the last line ends what is pending
pub last_line : (first : ℕ) (pending : List (List ℕ)) (at : ℕ) (line : List ℕ)
    → put_in_front first pending (from_line at (line ∷ [])) ≡ record { at = first; words = pending ++ words (content line) } ∷ []
last_line first pending at line = last_by (joins line) first pending at (content line)

-- a line that isn't joined to the next one
pub single_line : (first : ℕ) (pending : List (List ℕ)) (at : ℕ) (line : List ℕ) (more : List (List ℕ)) → joins line ≡ false
    → put_in_front first pending (from_line at (line ∷ more)) ≡ record { at = first; words = pending ++ words (content line) } ∷ from_line (at + 1) more
single_line first pending at line more e =
    ap (λ (j : Bool). put_in_front first pending (map statement_of (by_joins j at (content line) (joined (at + 1) more)))) e

-- nothing is in front
nothing_by : (j : Bool) (at : ℕ) (bytes : List ℕ) (after : List Line)
    → put_in_front at [] (map statement_of (by_joins j at bytes after)) ≡ map statement_of (by_joins j at bytes after)
nothing_by true at bytes [] = refl
nothing_by true at bytes (n ∷ ns) = refl
nothing_by false at bytes after = refl

-- where nothing is pending, the lines are as they are
pub nothing_in_front : (at : ℕ) (line : List ℕ) (more : List (List ℕ)) → put_in_front at [] (from_line at (line ∷ more)) ≡ from_line at (line ∷ more)
nothing_in_front at line more = nothing_by (joins line) at (content line) (joined (at + 1) more)

-- there is a joined line where there is a line
joined_some_by : (j : Bool) (at : ℕ) (bytes : List ℕ) (after : List Line) → (n : Line) × (ns : List Line) × (by_joins j at bytes after ≡ n ∷ ns)
joined_some_by true at bytes [] = (record { at = at; bytes = bytes }, [], refl)
joined_some_by true at bytes (n ∷ ns) = (record { at = at; bytes = bytes ++ 32 ∷ n.bytes }, ns, refl)
joined_some_by false at bytes after = (record { at = at; bytes = bytes }, after, refl)

-- the words of a line that joins the next stand behind those that are pending
joined_by : (first : ℕ) (pending : List (List ℕ)) (at : ℕ) (bytes : List ℕ) (n : Line) (ns : List Line)
    → put_in_front first pending (map statement_of (joined_to at bytes (n ∷ ns))) ≡ put_in_front first (pending ++ words bytes) (map statement_of (n ∷ ns))
joined_by first pending at bytes n ns =
    let put : List (List ℕ) → List Statement = λ ws. record { at = first; words = ws } ∷ map statement_of ns in
    ap put (ap (λ (ws : List (List ℕ)). pending ++ ws) (words-append bytes n.bytes) ∙ sym (append_assoc pending (words bytes) (words n.bytes)))

-- a line that is joined to the next one
pub joined_line : (first : ℕ) (pending : List (List ℕ)) (at : ℕ) (line next : List ℕ) (more : List (List ℕ)) → joins line ≡ true
    → put_in_front first pending (from_line at (line ∷ next ∷ more)) ≡ put_in_front first (pending ++ words (content line)) (from_line (at + 1) (next ∷ more))
joined_line first pending at line next more e =
    let after = joined (at + 1) (next ∷ more) in
    let s = joined_some_by (joins next) (at + 1) (content next) (joined (at + 1 + 1) more) in
    ap (λ (j : Bool). put_in_front first pending (map statement_of (by_joins j at (content line) after))) e
    ∙ ap (λ (ls : List Line). put_in_front first pending (map statement_of (joined_to at (content line) ls))) s.2
    ∙ joined_by first pending at (content line) s.0 s.1
    ∙ sym (ap (λ (ls : List Line). put_in_front first (pending ++ words (content line)) (map statement_of ls)) s.2)
