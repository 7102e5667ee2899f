-- The words of a BLIF text: what names and rows are made of.
use Rattle.std.specs.Prelude.{◌≡◌, ◌≢◌, ℕ, ◌-◌, Bool, true, not, ◌&&◌, ◌||◌, ◌==◌, nat_lt, nat_le, List, [], length, map, slice_index}
use Rattle.std.specs.List.{list_all}
use Rattle.text_defs.specs.Tokens.{tokens}

-- a space or a tab
abbrev pub is_blank : ℕ → Bool
is_blank b = (b == 32) || (b == 9)

-- a byte that may stand in a word: a sign of ASCII that isn't a blank
abbrev pub is_sign : ℕ → Bool
is_sign b = nat_le 33 b && nat_le b 126

-- the last byte of the list is c
abbrev pub ends_with : ℕ → List ℕ → Bool
ends_with c bytes = nat_lt 0 (length bytes) && (slice_index bytes (length bytes - 1) == c)

-- each byte is a sign, and the last one isn't `\`
abbrev pub is_sound : List ℕ → Bool
is_sound word = list_all is_sign word && not (ends_with 92 word)

-- a word that may stand on a line: it isn't empty, it is sound, and no `#` is in it
pub record IsWord (word : List ℕ) : Type 0 where
  pub some : word ≢ []
  pub sound : is_sound word ≡ true
  pub uncommented : list_all (λ b. not (b == 35)) word ≡ true

-- the words of a line: the longest runs of bytes that aren't blanks
abbrev pub words : List ℕ → List (List ℕ)
words line = map (λ t. t.bytes) (tokens is_blank 0 line)
