-- Words and the bytes that spell them.
use Rattle.std.proofs.Common.{◌≡◌, ℕ, zero, suc, ◌+◌, ◌*◌, ◌/◌, ◌%◌, ◌<◌, List, [], ◌∷◌, length, get_or, Result, Ok, Err, refl, ap, sym, ◌∙◌, subst, inr, arith}
use Rattle.std.specs.Result.{IfOk}
use Rattle.std.proofs.lemmas.List.{ext_get_or}
use Rattle.fabric_defs.specs.Geometries.{GeometryValue}
use Rattle.text_defs.specs.Memory.{OrMemory}
use Rattle.fabric_defs.specs.Configurations.{ConfigValue, IsConfig, ConfigOf}
use Rattle.fabric_defs.specs.Spelling.{word_at, words_in, bytes_of}
use Rattle.fabric_defs.specs.declared.faults.ConfigError.{ConfigError}
use Rattle.fabric_defs.specs.declared.faults.ConfigError.TheVariants.{NoMemory}
use Rattle.fabric_laws.proofs.NumberedLemmas.{length-list_of, get_or-list_of, list_of_elements, length-joined, get_or-joined, place_splits}
use Rattle.fabric_laws.proofs.LimitLemmas.{length-words}

-- the two bytes of a word
abbrev pub pair_of : ℕ → List ℕ
pair_of w = w / 256 ∷ w % 256 ∷ []

-- there are two bytes for each word
pub length-bytes_of : (words : List ℕ) → length (bytes_of words) ≡ length words * 2
length-bytes_of words = length-joined (length words) 2 (λ j. pair_of (get_or words j 0)) (λ j lt. refl)

-- each byte is one of its word's two
get_or-bytes_of : (words : List ℕ) (i j : ℕ) → i < length words → j < 2
    → get_or (bytes_of words) (i * 2 + j) 0 ≡ get_or (pair_of (get_or words i 0)) j 0
get_or-bytes_of words i j lt within =
    get_or-joined (length words) 2 (λ j. pair_of (get_or words j 0)) i j 0 (λ j lt. refl) lt within

-- words that were spelled are read again
pub words_in-bytes_of : (words : List ℕ) → words_in (bytes_of words) ≡ words
words_in-bytes_of words =
    let bytes : List ℕ = bytes_of words in
    let long : length words ≡ length bytes / 2 = omega (arith, length-bytes_of words) in
    sym (list_of_elements (length bytes / 2) (word_at bytes) words 0 long
    (λ i lt. let within : i < length words = omega arith in
    let high : get_or bytes (2 * i) 0 ≡ get_or words i 0 / 256 =
    ap (λ m. get_or bytes m 0) (let e : 2 * i ≡ i * 2 + 0 = omega arith in e) ∙ get_or-bytes_of words i 0 within (omega arith) in
    let low : get_or bytes (2 * i + 1) 0 ≡ get_or words i 0 % 256 =
    ap (λ m. get_or bytes m 0) (let e : 2 * i + 1 ≡ i * 2 + 1 = omega arith in e) ∙ get_or-bytes_of words i 1 within (omega arith) in
    omega arith))

-- the two bytes of a word that was read are those that spelled it
pair_at : (bytes : List ℕ) (i j : ℕ) → ((k : ℕ) → get_or bytes k 0 < 256) → j < 2
    → get_or (pair_of (word_at bytes i)) j 0 ≡ get_or bytes (2 * i + j) 0
pair_at bytes i zero small lt =
    let low : get_or bytes (2 * i + 1) 0 < 256 = small (2 * i + 1) in
    let value : (256 * get_or bytes (2 * i) 0 + get_or bytes (2 * i + 1) 0) / 256 ≡ get_or bytes (2 * i) 0 = omega arith in
    value ∙ ap (λ m. get_or bytes m 0) (let e : 2 * i ≡ 2 * i + 0 = omega arith in e)
pair_at bytes i (suc zero) small lt =
    let low : get_or bytes (2 * i + 1) 0 < 256 = small (2 * i + 1) in
    omega arith
pair_at bytes i (suc (suc j)) small lt = absurd (omega arith)

-- there is a word for each two bytes
pub length-words_in : (bytes : List ℕ) (count : ℕ) → length bytes ≡ 2 * count → length (words_in bytes) ≡ count
length-words_in bytes count even = length-list_of (length bytes / 2) (word_at bytes) ∙ omega arith

-- bytes that were read as words are spelled again
pub bytes_of-words_in : (bytes : List ℕ) (count : ℕ) → length bytes ≡ 2 * count → ((k : ℕ) → get_or bytes k 0 < 256)
    → bytes_of (words_in bytes) ≡ bytes
bytes_of-words_in bytes count even small =
    let words : List ℕ = words_in bytes in
    let half : length bytes / 2 ≡ count = omega arith in
    let long : length words ≡ count = length-words_in bytes count even in
    ext_get_or 0 (bytes_of words) bytes (omega (arith, length-bytes_of words))
    (λ place lt. let inside : place < count * 2 = omega (arith, length-bytes_of words) in
    let at = place_splits count 2 place inside in
    let i : ℕ = at.0 in
    let j : ℕ = at.1 in
    let i_lt : i < length words = omega (arith, at.2) in
    let same : place ≡ i * 2 + j = at.4 in
    let turned : 2 * i + j ≡ place = omega arith in
    ap (λ m. get_or (bytes_of words) m 0) same
    ∙ get_or-bytes_of words i j i_lt at.3
    ∙ ap (λ w. get_or (pair_of w) j 0) (get_or-list_of (length bytes / 2) (word_at bytes) i 0 (omega (arith, at.2)))
    ∙ pair_at bytes i j small at.3
    ∙ ap (λ m. get_or bytes m 0) turned)

-- what takes no memory is right where memory may be wanting, too
pub OrMemory-exact : (g : GeometryValue) (bytes : ℕ) (words : List ℕ) (r : Result ConfigValue ConfigError)
    → ConfigOf g bytes words r → OrMemory NoMemory (ConfigOf g bytes words) r
OrMemory-exact g bytes words (Ok config) h = h
OrMemory-exact g bytes words (Err error) h = inr h

-- the words of what is given are the words
pub words_of_given : (g : GeometryValue) (bytes : ℕ) (words spelled : List ℕ) (r : Result ConfigValue ConfigError)
    → ConfigOf g bytes words r → bytes_of words ≡ spelled → IfOk r (λ config. bytes_of config.words ≡ spelled)
words_of_given g bytes words spelled (Ok config) h e = ap (λ (v : ConfigValue). bytes_of v.words) h.2 ∙ e
words_of_given g bytes words spelled (Err x) h e = tt

-- what was printed of a configuration gives it again
pub ConfigOf-printed : (config : ConfigValue) (bytes : List ℕ) → IsConfig config → bytes ≡ bytes_of config.words
    → ConfigOf config.geometry (length bytes) (words_in bytes) (Ok config)
ConfigOf-printed config bytes h is =
    let words : words_in bytes ≡ config.words = ap words_in is ∙ words_in-bytes_of config.words in
    let make : List ℕ → ConfigValue = λ ws. record { geometry = config.geometry; words = ws } in (
      omega (arith, ap length is, length-bytes_of config.words, length-words config h),
      h,
      ap make (sym words),
    )

-- what is given for the same number of bytes and the same words is the same
pub ConfigOf-same : (g : GeometryValue) (m n : ℕ) (words spelled : List ℕ) (r : Result ConfigValue ConfigError)
    → m ≡ n → words ≡ spelled → ConfigOf g m words r → ConfigOf g n spelled r
ConfigOf-same g m n words spelled r count same h =
    let P : ℕ → Type 0 = λ b. ConfigOf g b spelled r in
    let Q : List ℕ → Type 0 = λ l. ConfigOf g m l r in
    subst P count (subst Q same h)
