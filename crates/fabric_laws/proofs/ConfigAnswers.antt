-- Words are a configuration or have a first one above its limit, never both.
use Rattle.std.proofs.Common.{◌≡◌, ℕ, zero, suc, ◌*◌, ◌/◌, ◌<◌, ◌≤◌, ◌⊎◌, inl, inr, List, [], ◌∷◌, length, get_or, Result, Ok, Err, refl, sym, ap, subst, ◌∙◌, arith}
use Rattle.std.specs.List.{AllZip}
use Rattle.std.proofs.lemmas.Bool.{cases_lt, cases_eq, cases_order}
use Rattle.std.proofs.lemmas.List.Elements.{AllZip-get_or}
use Rattle.fabric_defs.specs.Geometries.{GeometryValue, IsGeometry}
use Rattle.fabric_defs.specs.Layout.{word_count, limits}
use Rattle.fabric_defs.specs.Configurations.{ConfigValue, IsConfig, IsFirstAbove, ConfigOf}
use Rattle.fabric_defs.specs.Spelling.{words_in, word_at}
use Rattle.fabric_defs.specs.declared.faults.ConfigError.{ConfigError}
use Rattle.fabric_defs.specs.declared.faults.ConfigError.TheVariants.{Length, Selector, NoMemory}
use Rattle.fabric_laws.proofs.NumberedLemmas.{length-list_of}
use Rattle.fabric_laws.proofs.LimitLemmas.{length-limits}

-- the word is at most its limit
abbrev IsWithin : ℕ → ℕ → Type 0
IsWithin limit word = word ≤ limit

-- the words before it are within their limits
earlier_behind : (limit word place : ℕ) (most words : List ℕ) → word ≤ limit → IsFirstAbove most words place
    → (i : ℕ) → i < suc place → get_or (word ∷ words) i 0 ≤ get_or (limit ∷ most) i 0
earlier_behind limit word place most words le first zero lt = le
earlier_behind limit word place most words le first (suc i) lt = first.earlier i (omega arith)

-- the first word above its limit behind one that isn't
first_behind : (limit word place : ℕ) (most words : List ℕ) → word ≤ limit → IsFirstAbove most words place
    → IsFirstAbove (limit ∷ most) (word ∷ words) (suc place)
first_behind limit word place most words le first = record {
  within = omega (arith, first.within);
  here = first.here;
  earlier = earlier_behind limit word place most words le first;
}

-- each word is within its limit, or there is a first one that isn't
all_or_first : (most words : List ℕ) → length most ≡ length words
    → AllZip IsWithin most words ⊎ ((place : ℕ) × IsFirstAbove most words place)
all_or_first [] [] e = inl tt
all_or_first [] (w ∷ ws) e = absurd (omega arith)
all_or_first (m ∷ ms) [] e = absurd (omega arith)
all_or_first (m ∷ ms) (w ∷ ws) e =
    elim (cases_lt m w) [
      | inl above ↦ inr (zero, record { within = omega arith; here = above; earlier = λ i lt. absurd (omega arith) })
      | inr le ↦ elim (all_or_first ms ws (omega arith)) [
        | inl all ↦ inl (le, all)
        | inr first ↦ inr (suc first.0, first_behind m w first.0 ms ws le first.1)
      ]
    ]

-- words of the right length are a configuration or have a first fault
right_length : (g : GeometryValue) (bytes : ℕ) (words : List ℕ) → IsGeometry g → bytes ≡ 2 * word_count g
    → length words ≡ word_count g → (answer : Result ConfigValue ConfigError) × ConfigOf g bytes words answer
right_length g bytes words within e count =
    elim (all_or_first (limits g) words (length-limits g ∙ sym count)) [
      | inl all ↦ (Ok (record { geometry = g; words = words }), (e, record { geometry = within; words = all }, refl))
      | inr first ↦ (Err (Selector (2 * first.0)), (e, first.0, refl, first.1))
    ]

-- so are words that two bytes spell each
pub answer_exists : (g : GeometryValue) (bytes : List ℕ) → IsGeometry g
    → (answer : Result ConfigValue ConfigError) × ConfigOf g (length bytes) (words_in bytes) answer
answer_exists g bytes within =
    elim (cases_eq (length bytes) (2 * word_count g)) [
      | inr other ↦ (Err (Length (2 * word_count g) (length bytes)), (other, refl, refl))
      | inl e ↦ right_length g (length bytes) (words_in bytes) within e
          (length-list_of (length bytes / 2) (word_at bytes) ∙ omega arith)
    ]

-- a configuration has no word above its limit
config_against_first : (g : GeometryValue) (words : List ℕ) (place : ℕ) → AllZip IsWithin (limits g) words
    → IsFirstAbove (limits g) words place → ⊥
config_against_first g words place all first =
    let within : get_or words place 0 ≤ get_or (limits g) place 0 = AllZip-get_or IsWithin (limits g) words place 0 0 all first.within in
    let above : get_or (limits g) place 0 < get_or words place 0 = first.here in
    omega arith

-- the first word above its limit is one
first_unique : (most words : List ℕ) (p q : ℕ) → IsFirstAbove most words p → IsFirstAbove most words q → p ≡ q
first_unique most words p q a b =
    elim (cases_order p q) [
      | inl e ↦ e
      | inr other ↦ elim other [
        | inl below ↦ absurd (let le : get_or words p 0 ≤ get_or most p 0 = b.earlier p below in let lt : get_or most p 0 < get_or words p 0 = a.here in omega arith)
        | inr above ↦ absurd (let le : get_or words q 0 ≤ get_or most q 0 = a.earlier q above in let lt : get_or most q 0 < get_or words q 0 = b.here in omega arith)
      ]
    ]

-- a configuration has its words
config_words : (g : GeometryValue) (words : List ℕ) (k : ConfigValue) → IsConfig k → k ≡ record { geometry = g; words = words }
    → AllZip IsWithin (limits g) words
config_words g words k is e =
    let P : ConfigValue → Type 0 = λ c. AllZip IsWithin (limits c.geometry) c.words in subst P e is.words

-- words give one answer
pub answer_unique : (g : GeometryValue) (bytes : ℕ) (words : List ℕ) (a b : Result ConfigValue ConfigError)
    → ConfigOf g bytes words a → ConfigOf g bytes words b → a ≡ b
answer_unique g bytes words (Ok k) (Ok l) h i = ap Ok (h.2 ∙ sym i.2)
answer_unique g bytes words (Ok k) (Err (Length want found)) h i = absurd (i.0 h.0)
answer_unique g bytes words (Ok k) (Err (Selector at)) h i = absurd (config_against_first g words i.1 (config_words g words k h.1 h.2) i.3)
answer_unique g bytes words (Ok k) (Err NoMemory) h i = absurd i
answer_unique g bytes words (Err (Length want found)) (Ok l) h i = absurd (h.0 i.0)
answer_unique g bytes words (Err (Length want found)) (Err (Length other size)) h i =
    let e : want ≡ other = h.1 ∙ sym i.1 in let d : found ≡ size = h.2 ∙ sym i.2 in cc
answer_unique g bytes words (Err (Length want found)) (Err (Selector at)) h i = absurd (h.0 i.0)
answer_unique g bytes words (Err (Length want found)) (Err NoMemory) h i = absurd i
answer_unique g bytes words (Err (Selector at)) (Ok l) h i = absurd (config_against_first g words h.1 (config_words g words l i.1 i.2) h.3)
answer_unique g bytes words (Err (Selector at)) (Err (Length want found)) h i = absurd (i.0 h.0)
answer_unique g bytes words (Err (Selector at)) (Err (Selector to)) h i =
    let p : h.1 ≡ i.1 = first_unique (limits g) words h.1 i.1 h.3 i.3 in
    let e : at ≡ to = h.2 ∙ ap (λ n. 2 * n) p ∙ sym i.2 in cc
answer_unique g bytes words (Err (Selector at)) (Err NoMemory) h i = absurd i
answer_unique g bytes words (Err NoMemory) b h i = absurd h
