-- The lines of a printed design are lines of words.
use Rattle.std.proofs.Common.{◌≡◌, ℕ, zero, suc, ◌-◌, ◌⊎◌, Bool, true, false, not, ◌&&◌, List, [], ◌∷◌, length, map, get_or, refl, ap, ⊎_elim}
use Rattle.std.specs.Prelude.{◌==◌, nat_lt, codes}
use Rattle.std.specs.List.{AllByRecursion, list_all, flat_map}
use Rattle.blif_defs.specs.declared.mark.Mark.{Mark}
use Rattle.blif_defs.specs.declared.mark.Mark.TheVariants.{Zero, One, Any}
use Rattle.blif_defs.specs.Words.{is_sign, ends_with, IsWord}
use Rattle.blif_defs.specs.Values.{CoverValue, IsCover, BlifValue, IsBlif}
use Rattle.blif_defs.specs.Printing.{mark_byte, bit_word, row_words, cover_lines, model_lines, input_lines, blif_lines}
use Rattle.blif_laws.proofs.Sets.{All-append}
use Rattle.blif_laws.proofs.LineWords.{plain, and}
use Rattle.blif_laws.proofs.LineTexts.{IsLine}

-- `.model` is a word
pub model_word : IsWord (codes ".model")
model_word = record { some = λ (e : codes ".model" ≡ []). cc; sound = refl; uncommented = refl }

-- `.inputs` is a word
pub inputs_word : IsWord (codes ".inputs")
inputs_word = record { some = λ (e : codes ".inputs" ≡ []). cc; sound = refl; uncommented = refl }

-- `.outputs` is a word
pub outputs_word : IsWord (codes ".outputs")
outputs_word = record { some = λ (e : codes ".outputs" ≡ []). cc; sound = refl; uncommented = refl }

-- `.names` is a word
pub names_word : IsWord (codes ".names")
names_word = record { some = λ (e : codes ".names" ≡ []). cc; sound = refl; uncommented = refl }

-- `.end` is a word
pub end_word : IsWord (codes ".end")
end_word = record { some = λ (e : codes ".end" ≡ []). cc; sound = refl; uncommented = refl }

-- a printed bit is a word
pub bit_word-IsWord : (on : Bool) → IsWord (bit_word on)
bit_word-IsWord false = record { some = λ (e : bit_word false ≡ []). cc; sound = refl; uncommented = refl }
bit_word-IsWord true = record { some = λ (e : bit_word true ≡ []). cc; sound = refl; uncommented = refl }

-- the byte of a mark is a sign
mark_sign : (m : Mark) → is_sign (mark_byte m) ≡ true
mark_sign Zero = refl
mark_sign One = refl
mark_sign Any = refl

-- and begins no comment
mark_plain : (m : Mark) → plain (mark_byte m) ≡ true
mark_plain Zero = refl
mark_plain One = refl
mark_plain Any = refl

-- and joins no lines
mark_other : (m : Mark) → (mark_byte m == 92) ≡ false
mark_other Zero = refl
mark_other One = refl
mark_other Any = refl

-- the bytes of the marks of a row are signs
marks_sign : (ms : List Mark) → list_all is_sign (map mark_byte ms) ≡ true
marks_sign [] = refl
marks_sign (m ∷ ms) = and (is_sign (mark_byte m)) (list_all is_sign (map mark_byte ms)) (mark_sign m) (marks_sign ms)

-- and begin no comment
marks_plain : (ms : List Mark) → list_all plain (map mark_byte ms) ≡ true
marks_plain [] = refl
marks_plain (m ∷ ms) = and (plain (mark_byte m)) (list_all plain (map mark_byte ms)) (mark_plain m) (marks_plain ms)

-- and join no lines
marks_other : (ms : List Mark) (k : ℕ) → (get_or (map mark_byte ms) k 0 == 92) ≡ false
marks_other [] k = refl
marks_other (m ∷ ms) zero = mark_other m
marks_other (m ∷ ms) (suc k) = marks_other ms k

-- of two tests of which the second fails not both hold
no_end : (a b : Bool) → b ≡ false → not (a && b) ≡ true
no_end true b e = ap not e
no_end false b e = refl

-- printed marks are a word
pub marks_word : (m : Mark) (ms : List Mark) → IsWord (map mark_byte (m ∷ ms))
marks_word m ms = record {
  some = λ (e : map mark_byte (m ∷ ms) ≡ []). cc;
  sound = and (list_all is_sign (map mark_byte (m ∷ ms))) (not (ends_with 92 (map mark_byte (m ∷ ms)))) (marks_sign (m ∷ ms))
      (no_end (nat_lt 0 (length (map mark_byte (m ∷ ms)))) _ (marks_other (m ∷ ms) (length (map mark_byte (m ∷ ms)) - 1)));
  uncommented = marks_plain (m ∷ ms);
}

-- a row is printed as a line of words
row-IsLine : (on : Bool) (row : List Mark) → IsLine (row_words on row)
row-IsLine on [] = (bit_word-IsWord on, tt)
row-IsLine on (m ∷ ms) = (marks_word m ms, (bit_word-IsWord on, tt))

-- a row is printed as words
pub row_words-all : (on : Bool) (row : List Mark) → AllByRecursion IsWord (row_words on row)
row_words-all on [] = (bit_word-IsWord on, tt)
row_words-all on (m ∷ ms) = (marks_word m ms, (bit_word-IsWord on, tt))

-- so are the rows of a cover
rows-IsLine : (on : Bool) (rows : List (List Mark)) → AllByRecursion IsLine (map (row_words on) rows)
rows-IsLine on [] = tt
rows-IsLine on (row ∷ rows) = (row-IsLine on row, rows-IsLine on rows)

-- so are covers
covers-IsLine : (covers : List CoverValue) → AllByRecursion IsCover covers → AllByRecursion IsLine (flat_map cover_lines covers)
covers-IsLine [] h = tt
covers-IsLine (c ∷ cs) h =
    All-append IsLine (cover_lines c) (flat_map cover_lines cs)
    ((names_word, All-append IsWord c.ins (c.out ∷ []) h.0.ins (h.0.out, tt)), rows-IsLine c.on c.rows) (covers-IsLine cs h.1)

-- so is the model's name, if it has one
model-IsLine : (model : List ℕ) → (model ≡ []) ⊎ IsWord model → AllByRecursion IsLine (model_lines model)
model-IsLine [] h = tt
model-IsLine (b ∷ bs) h = ((model_word, (⊎_elim (λ (e : (b ∷ bs) ≡ []). absurd (never e)) (λ w. w) h, tt)), tt)
  where
    never : (b ∷ bs) ≡ [] → ⊥
    never e = cc

-- so are the inputs
inputs-IsLine : (names : List (List ℕ)) → AllByRecursion IsWord names → AllByRecursion IsLine (input_lines names)
inputs-IsLine [] h = tt
inputs-IsLine (n ∷ ns) h = ((inputs_word, h), tt)

-- a design is printed as lines of words
pub blif_lines-IsLine : (m : BlifValue) → IsBlif m → AllByRecursion IsLine (blif_lines m)
blif_lines-IsLine m h =
    All-append IsLine (model_lines m.model) _ (model-IsLine m.model h.model)
    (All-append IsLine (input_lines m.inputs) _ (inputs-IsLine m.inputs h.inputs)
    ((outputs_word, h.outputs), All-append IsLine (flat_map cover_lines m.covers) ((codes ".end" ∷ []) ∷ []) (covers-IsLine m.covers h.covers) ((end_word, tt), tt)))
