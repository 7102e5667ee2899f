-- The history of one `open`: an append-only list of entries, with a word that holds its length.
use Rattle.std.specs.Prelude.{◌≡◌, ℕ, ◌==◌, true, List, [], ◌∷◌, ◌++◌, length, MatchBool}
use Rattle.logbook.specs.Pages.{Cell, Step, View, Book, Named}
use Rattle.journal_defs.specs.Journals.{EntryValue}

-- the first word is the length of the history; a book has two words, of which the second stays 0
abbrev pub IsCounted : List Cell → List EntryValue → Type 0
IsCounted cells log = cells ≡ (length log, true) ∷ (0, true) ∷ []

-- the word that holds the length of the history
abbrev pub head_of : Book → Named
head_of b = record { tracked = true; key = 0; book = b }

-- where the word was as it was thought to be, the entry was added to all that had been seen
abbrev pub Adds : Step EntryValue → View EntryValue ℕ → ℕ → View EntryValue ℕ → Type 0
Adds s v found w = MatchBool (found == s.old) (w.0 ≡ v.0 ++ s.ask ∷ []) (Unit {0})
