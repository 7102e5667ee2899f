-- Pieces of a text that are words with one separator behind each: which words the text has then, and how
-- long it is.
use Rattle.std.proofs.Common.{◌≡◌, ℕ, ◌+◌, false, inl, inr, List, [], ◌∷◌, ◌++◌, length, map, refl, sym, ap, ◌∙◌, append_assoc, length-append, arith}
use Rattle.std.specs.List.{flat_map}
use Rattle.clause_defs.specs.Clauses.{Has}
use Rattle.text_defs.specs.Tokens.{tokens, begins_with_token}
use Rattle.text_defs.proofs.TokenLemmas.{tokens-run}
use Rattle.sat_text_defs.specs.Words.{separates, words_of}
use Rattle.sat_print_laws.proofs.WordBytes.{IsWord}

-- ---- words

-- a word in front of a separator or of the text's end is a token
pub tokens-word : (at : ℕ) (w rest : List ℕ) → IsWord w → begins_with_token separates rest ≡ false
    → tokens separates at (w ++ rest) ≡ record { at = at; bytes = w } ∷ tokens separates (at + length w) rest
tokens-word at [] rest word ends = absurd (word.nonempty refl)
tokens-word at (b ∷ bs) rest word ends = tokens-run separates at b bs rest word.bytes ends

-- a word with a blank behind it is a token
pub tokens-blank : (at : ℕ) (w rest : List ℕ) → IsWord w
    → tokens separates at ((w ++ 32 ∷ []) ++ rest) ≡ record { at = at; bytes = w } ∷ tokens separates (at + length w + 1) rest
tokens-blank at w rest word = ap (tokens separates at) (append_assoc w (32 ∷ []) rest) ∙ tokens-word at w (32 ∷ rest) word refl

-- a word with a line feed behind it is a token
pub tokens-line_feed : (at : ℕ) (w rest : List ℕ) → IsWord w
    → tokens separates at ((w ++ 10 ∷ []) ++ rest) ≡ record { at = at; bytes = w } ∷ tokens separates (at + length w + 1) rest
tokens-line_feed at w rest word = ap (tokens separates at) (append_assoc w (10 ∷ []) rest) ∙ tokens-word at w (10 ∷ rest) word refl

-- ---- pieces

-- how many bytes words need, each with a separator behind it
abbrev pub room : List (List ℕ) → ℕ
room [] = 0
room (w ∷ ws) = length w + 1 + room ws

-- the words of a text from this offset on
abbrev pub words_at : ℕ → List ℕ → List (List ℕ)
words_at at text = words_of (tokens separates at text)

-- the piece has these words, whatever stands before and behind it, and is as long as they need
pub record Prints (p : List ℕ) (ws : List (List ℕ)) : Type 0 where
  pub size : length p ≡ room ws
  pub words : (at : ℕ) (rest : List ℕ) → words_at at (p ++ rest) ≡ ws ++ words_at (at + length p) rest

-- nothing has no words
pub Prints-nothing : Prints [] []
Prints-nothing = record { size = refl; words = λ at rest. ap (λ (n : ℕ). words_at n rest) (let e : at ≡ at + 0 = omega arith in e) }

-- what words need together
pub room-append : (ws vs : List (List ℕ)) → room (ws ++ vs) ≡ room ws + room vs
room-append [] vs = omega arith
room-append (w ∷ ws) vs = omega (arith, room-append ws vs)

-- one piece behind another
pub Prints-append : (p q : List ℕ) (ws vs : List (List ℕ)) → Prints p ws → Prints q vs → Prints (p ++ q) (ws ++ vs)
Prints-append p q ws vs h k = record {
  size = omega (arith, length-append p q, room-append ws vs, h.size, k.size);
  words = λ at rest.
      ap (words_at at) (append_assoc p q rest)
      ∙ h.words at (q ++ rest)
      ∙ ap (λ (us : List (List ℕ)). ws ++ us) (k.words (at + length p) rest)
      ∙ ap (λ (n : ℕ). ws ++ (vs ++ words_at n rest)) (let e : at + length p + length q ≡ at + length (p ++ q) = omega (arith, length-append p q) in e)
      ∙ sym (append_assoc ws vs (words_at (at + length (p ++ q)) rest));
}

-- a word with a separator is one byte longer
size_one : (w : List ℕ) (b : ℕ) → length (w ++ b ∷ []) ≡ length w + 1
size_one w b = length-append w (b ∷ [])

-- a word with a separator is as long as the word needs
size_room : (w : List ℕ) (b : ℕ) → length (w ++ b ∷ []) ≡ room (w ∷ [])
size_room w b = omega (arith, size_one w b)

-- behind a word and its separator the next place begins
place_behind : (at : ℕ) (w : List ℕ) (b : ℕ) → at + length w + 1 ≡ at + length (w ++ b ∷ [])
place_behind at w b = omega (arith, size_one w b)

-- a word and a blank
pub Prints-blank : (w : List ℕ) → IsWord w → Prints (w ++ 32 ∷ []) (w ∷ [])
Prints-blank w word = record {
  size = size_room w 32;
  words = λ at rest. ap words_of (tokens-blank at w rest word) ∙ ap (λ (n : ℕ). w ∷ words_at n rest) (place_behind at w 32);
}

-- a word and a line feed
pub Prints-line_feed : (w : List ℕ) → IsWord w → Prints (w ++ 10 ∷ []) (w ∷ [])
Prints-line_feed w word = record {
  size = size_room w 10;
  words = λ at rest. ap words_of (tokens-line_feed at w rest word) ∙ ap (λ (n : ℕ). w ∷ words_at n rest) (place_behind at w 10);
}

-- pieces of one word each
pub Prints-map : {X : Type 0} (text : X → List ℕ) (word : X → List ℕ) (xs : List X) → ((x : X) → Has xs x → Prints (text x) (word x ∷ []))
    → Prints (flat_map text xs) (map word xs)
Prints-map text word [] h = Prints-nothing
Prints-map text word (x ∷ xs) h =
    Prints-append (text x) (flat_map text xs) (word x ∷ []) (map word xs) (h x (inl refl)) (Prints-map text word xs (λ y k. h y (inr k)))

-- pieces of several words each
pub Prints-flat_map : {X : Type 0} (text : X → List ℕ) (words : X → List (List ℕ)) (xs : List X) → ((x : X) → Has xs x → Prints (text x) (words x))
    → Prints (flat_map text xs) (flat_map words xs)
Prints-flat_map text words [] h = Prints-nothing
Prints-flat_map text words (x ∷ xs) h =
    Prints-append (text x) (flat_map text xs) (words x) (flat_map words xs) (h x (inl refl)) (Prints-flat_map text words xs (λ y k. h y (inr k)))

-- at the end of a text no more words come
words_to_end : (at : ℕ) (ws : List (List ℕ)) → ws ++ words_at at [] ≡ ws
words_to_end at [] = refl
words_to_end at (w ∷ ws) = ap (λ (us : List (List ℕ)). w ∷ us) (words_to_end at ws)

-- a piece is the same with nothing behind it
to_end : (p : List ℕ) → p ≡ p ++ []
to_end [] = refl
to_end (b ∷ p) = ap (λ (q : List ℕ). b ∷ q) (to_end p)

-- the words of a whole text
pub Prints-all : (at : ℕ) (p : List ℕ) (ws : List (List ℕ)) → Prints p ws → words_at at p ≡ ws
Prints-all at p ws h = ap (words_at at) (to_end p) ∙ h.words at [] ∙ words_to_end (at + length p) ws
