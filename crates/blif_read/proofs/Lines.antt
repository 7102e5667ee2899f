-- A word of a line is pushed.
use Rattle.std.proofs.Common.{◌≡◌, ℕ, false, List, [], ◌∷◌, ◌++◌, length, get_or, take, drop, Bor}
use Rattle.std.specs.Prelude.{◌==◌}
use Rattle.std.specs.List.{position_or_len}
use Rattle.std.proofs.lemmas.List.{map_push}
use Rattle.blif_defs.specs.Words.{is_blank, words}
use Rattle.blif_laws.proofs.LineLemmas.{words_on, some_left}
use Rattle.blif_read.specs.Views.{texts}

-- a word is pushed
pub words_pushed : (items pushed : List (Bor (List ℕ))) (word : Bor (List ℕ)) (rest after : List ℕ) (n : ℕ) (all : List (List ℕ))
    → pushed ≡ items ++ word ∷ [] → word.now ≡ take n rest → after ≡ drop n rest → n ≡ position_or_len is_blank rest
    → false ≡ (length rest == 0) → is_blank (get_or rest 0 0) ≡ false → texts items ++ words rest ≡ all → texts pushed ++ words after ≡ all
words_pushed items pushed word rest after n all pushed-is word-is after-is n-is some sign so_far =
    rw (pushed-is, map_push (λ w. w.now) items word, word-is, after-is, n-is) (words_on (texts items) rest all (some_left (length rest) some) sign so_far)
