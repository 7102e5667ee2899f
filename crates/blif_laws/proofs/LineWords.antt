-- The words of a line are not empty, and no `#` is in them.
use Rattle.std.proofs.Common.{◌≡◌, ◌≢◌, ℕ, zero, suc, ◌+◌, Bool, true, false, not, ◌&&◌, cond, List, [], ◌∷◌, take, map, refl, sym, subst, ◌∙◌, arith, ⊎_elim}
use Rattle.std.specs.Prelude.{◌==◌}
use Rattle.std.specs.List.{AllByRecursion, list_all, prefix_len}
use Rattle.std.proofs.lemmas.Bool.{cases_Bool}
use Rattle.std.proofs.lemmas.List.Folds.{list_all-append}
use Rattle.text_defs.specs.Tokens.{begins_with_token}
use Rattle.blif_defs.specs.Words.{is_blank}
use Rattle.blif_defs.specs.Lines.{Line, without_last, without_return, without_comment, trimmed, onto_trimmed, stripped, joins, content, joined, joined_to, lines_of}
use Rattle.blif_defs.specs.Grammar.{Statement, statement_of, statements}
use Rattle.blif_laws.proofs.LineLemmas.{plain_words, words_by, put_first, words-is}

-- the byte isn't `#`
abbrev pub plain : ℕ → Bool
plain b = not (b == 35)

-- bytes without the sign of a comment
abbrev pub ArePlain : List ℕ → Type 0
ArePlain bytes = list_all plain bytes ≡ true

-- a word as it stands on a line
pub record IsRaw (word : List ℕ) : Type 0 where
  pub some : word ≢ []
  pub plain_bytes : ArePlain word

-- both are true where their conjunction is
pub both : (a b : Bool) → (a && b) ≡ true → (a ≡ true) × (b ≡ true)
both true b e = (refl, e)
both false b e = absurd cc

-- and the conjunction where both are
pub and : (a b : Bool) → a ≡ true → b ≡ true → (a && b) ≡ true
and a b e f = rw (e, f) refl

-- the first bytes of plain ones are plain
plain-take : (n : ℕ) (bytes : List ℕ) → ArePlain bytes → ArePlain (take n bytes)
plain-take zero bytes h = refl
plain-take (suc n) [] h = refl
plain-take (suc n) (b ∷ bs) h =
    let p = both (plain b) (list_all plain bs) h in
    and (plain b) (list_all plain (take n bs)) p.0 (plain-take n bs p.1)

-- the bytes before the first that isn't plain
plain-before : (bytes : List ℕ) → ArePlain (take (prefix_len plain bytes) bytes)
plain-before [] = refl
plain-before (b ∷ bs) =
    ⊎_elim
    (λ (e : plain b ≡ true).
    let s : 1 + prefix_len plain bs ≡ suc (prefix_len plain bs) = omega arith in
    let n : prefix_len plain (b ∷ bs) ≡ suc (prefix_len plain bs) = rw e s in
    subst (λ (n : ℕ). ArePlain (take n (b ∷ bs))) (sym n) (and (plain b) (list_all plain (take (prefix_len plain bs) bs)) e (plain-before bs)))
    (λ (e : plain b ≡ false).
    let n : prefix_len plain (b ∷ bs) ≡ 0 = rw e refl in
    subst (λ (n : ℕ). ArePlain (take n (b ∷ bs))) (sym n) refl)
    (cases_Bool (plain b))

-- a plain byte in front of a trimmed line leaves it plain
plain-onto : (b : ℕ) (t : List ℕ) → plain b ≡ true → ArePlain t → ArePlain (onto_trimmed b t)
plain-onto b [] e h = by (is_blank b)
  where
    by : (blank : Bool) → ArePlain (cond blank [] (b ∷ []))
    by true = refl
    by false = and (plain b) true e refl
plain-onto b (c ∷ cs) e h = and (plain b) (list_all plain (c ∷ cs)) e h

-- a plain line stays plain where its blanks are taken off
plain-trimmed : (bytes : List ℕ) → ArePlain bytes → ArePlain (trimmed bytes)
plain-trimmed [] h = refl
plain-trimmed (b ∷ bs) h =
    let p = both (plain b) (list_all plain bs) h in
    plain-onto b (trimmed bs) p.0 (plain-trimmed bs p.1)

-- a line is plain where its comment is taken off
plain-stripped : (line : List ℕ) → ArePlain (stripped line)
unfolding stripped
plain-stripped line = plain-trimmed (without_comment (without_return line)) (plain-before (without_return line))

-- so is what counts of a line
plain-content : (line : List ℕ) → ArePlain (content line)
plain-content line = by (joins line)
  where
    by : (j : Bool) → ArePlain (cond j (without_last (stripped line)) (stripped line))
    by true = plain-take _ (stripped line) (plain-stripped line)
    by false = plain-stripped line

-- the bytes of the line are plain
abbrev HasPlainBytes : Line → Type 0
HasPlainBytes l = ArePlain l.bytes

-- plain bytes joined to plain lines are plain lines
plain-joined_to : (at : ℕ) (bytes : List ℕ) (ls : List Line) → ArePlain bytes → AllByRecursion HasPlainBytes ls → AllByRecursion HasPlainBytes (joined_to at bytes ls)
plain-joined_to at bytes [] h k = (h, tt)
plain-joined_to at bytes (n ∷ ns) h k =
    (list_all-append plain bytes (32 ∷ n.bytes) ∙ and (list_all plain bytes) (list_all plain n.bytes) h k.0, k.1)

-- whether a line joins the next or not, its lines are plain
plain-joined_by : (j : Bool) (at : ℕ) (bytes : List ℕ) (after : List Line) → ArePlain bytes → AllByRecursion HasPlainBytes after
    → AllByRecursion HasPlainBytes (cond j (joined_to at bytes after) (record { at = at; bytes = bytes } ∷ after))
plain-joined_by true at bytes after h k = plain-joined_to at bytes after h k
plain-joined_by false at bytes after h k = (h, k)

-- the joined lines of a text are plain
plain-joined : (at : ℕ) (lines : List (List ℕ)) → AllByRecursion HasPlainBytes (joined at lines)
plain-joined at [] = tt
plain-joined at (line ∷ more) = plain-joined_by (joins line) at (content line) (joined (at + 1) more) (plain-content line) (plain-joined (at + 1) more)

-- a plain byte in front of the first word leaves the words raw
raw-put_first : (b : ℕ) (ws : List (List ℕ)) → plain b ≡ true → AllByRecursion IsRaw ws → AllByRecursion IsRaw (put_first b ws)
raw-put_first b [] e h = (record { some = λ (k : (b ∷ []) ≡ []). cc; plain_bytes = and (plain b) true e refl }, tt)
raw-put_first b (w ∷ ws) e h = (record { some = λ (k : (b ∷ w) ≡ []). cc; plain_bytes = and (plain b) (list_all plain w) e h.0.plain_bytes }, h.1)

-- one plain byte more in front of a line leaves its words raw
raw-words_by : (blank starts : Bool) (b : ℕ) (ws : List (List ℕ)) → plain b ≡ true → AllByRecursion IsRaw ws → AllByRecursion IsRaw (words_by blank starts b ws)
raw-words_by true starts b ws e h = h
raw-words_by false true b ws e h = raw-put_first b ws e h
raw-words_by false false b ws e h = (record { some = λ (k : (b ∷ []) ≡ []). cc; plain_bytes = and (plain b) true e refl }, h)

-- the words of a plain line are raw
raw-plain_words : (bytes : List ℕ) → ArePlain bytes → AllByRecursion IsRaw (plain_words bytes)
raw-plain_words [] h = tt
raw-plain_words (b ∷ bs) h =
    let p = both (plain b) (list_all plain bs) h in
    raw-words_by (is_blank b) (begins_with_token is_blank bs) b (plain_words bs) p.0 (raw-plain_words bs p.1)

-- the words of the statement are raw
abbrev pub HasRawWords : Statement → Type 0
HasRawWords s = AllByRecursion IsRaw s.words

-- so are those of all plain lines
raw-lines : (ls : List Line) → AllByRecursion HasPlainBytes ls → AllByRecursion HasRawWords (map statement_of ls)
raw-lines [] h = tt
raw-lines (l ∷ ls) h = (subst (λ (ws : List (List ℕ)). AllByRecursion IsRaw ws) (sym (words-is l.bytes)) (raw-plain_words l.bytes h.0), raw-lines ls h.1)

-- the words of the lines of a text
pub raw-statements : (text : List ℕ) → AllByRecursion HasRawWords (statements text)
raw-statements text = raw-lines (lines_of text) (plain-joined 1 _)
