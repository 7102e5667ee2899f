-- Lists that a function of the place gives: their lengths and elements.
use Rattle.std.proofs.Common.{◌≡◌, ℕ, zero, suc, ◌+◌, ◌*◌, ◌/◌, ◌%◌, ◌<◌, ⊎_elim, List, [], ◌∷◌, ◌++◌, length, map, get_or, All, refl, ap, sym, ◌∙◌, arith, length-append}
use Rattle.std.proofs.lemmas.List.{length_push, get_or_push, get_or_append_left, get_or-append-add, get_or_default, same_lists, ext_get_or, map_push}
use Rattle.std.proofs.lemmas.Nat.{mul-add-lt, div_below, div-add-mod'}
use Rattle.std.proofs.Math.Nat.{mul_comm}
use Rattle.std.proofs.lemmas.List.Elements.{All-push, All-append, All-nil}
use Rattle.std.proofs.lemmas.Bool.{cases_lt}
use Rattle.fabric_defs.specs.Numbered.{list_of, joined}

-- there are as many elements as places
pub length-list_of : {X : Type 0} (n : ℕ) (f : ℕ → X) → length (list_of n f) ≡ n
length-list_of zero f = refl
length-list_of (suc n) f = length_push (list_of n f) (f n) ∙ omega (arith, length-list_of n f)

-- the element at a place is the function's value there
pub get_or-list_of : {X : Type 0} (n : ℕ) (f : ℕ → X) (i : ℕ) (d : X) → i < n → get_or (list_of n f) i d ≡ f i
get_or-list_of zero f i d lt = absurd (omega arith)
get_or-list_of (suc n) f i d lt =
    ⊎_elim (λ here. get_or_append_left (list_of n f) (f n ∷ []) d i (omega (arith, length-list_of n f))
    ∙ get_or-list_of n f i d here)
    (λ past. let e : i ≡ n = omega arith in
    get_or_push (list_of n f) (f n) d i (length-list_of n f ∙ sym e) ∙ ap f (sym e))
    (cases_lt i n)

-- one more element
pub list_of-more : {X : Type 0} (n : ℕ) (f : ℕ → X) → list_of (n + 1) f ≡ list_of n f ++ f n ∷ []
list_of-more n f = ap (λ m. list_of m f) (let e : n + 1 ≡ suc n = omega arith in e)

-- functions that agree below n give the same list
pub list_of-agree : {X : Type 0} (n : ℕ) (f g : ℕ → X) → ((i : ℕ) → i < n → f i ≡ g i) → list_of n f ≡ list_of n g
list_of-agree n f g h =
    same_lists (list_of n f) (list_of n g)
    (length-list_of n f ∙ sym (length-list_of n g))
    (λ i d lt. let within : i < n = omega (arith, length-list_of n f) in
    get_or-list_of n f i d within ∙ h i within ∙ sym (get_or-list_of n g i d within))

-- a list of n elements is the list of them
pub list_of-get_or : {X : Type 0} (n : ℕ) (xs : List X) (d : X) → length xs ≡ n → list_of n (λ i. get_or xs i d) ≡ xs
list_of-get_or n xs d e =
    same_lists (list_of n (λ i. get_or xs i d)) xs
    (length-list_of n (λ i. get_or xs i d) ∙ sym e)
    (λ i c lt. let within : i < n = omega (arith, length-list_of n (λ i. get_or xs i d)) in
    get_or-list_of n (λ i. get_or xs i d) i c within ∙ get_or_default xs i d c (omega arith))

-- what holds of each value of the function below n holds of all elements
pub All-list_of : {X : Type 0} (P : X → Type 0) (n : ℕ) (f : ℕ → X) → ((i : ℕ) → i < n → P (f i)) → All P (list_of n f)
All-list_of P zero f h = All-nil P
All-list_of P (suc n) f h =
    All-push P (list_of n f) (f n) (All-list_of P n f (λ i lt. h i (omega arith))) (h n (omega arith))

-- a function of each element of such a list
pub map-list_of : {X Y : Type 0} (f : X → Y) (n : ℕ) (g : ℕ → X) → map f (list_of n g) ≡ list_of n (λ i. f (g i))
map-list_of f zero g = refl
map-list_of f (suc n) g = map_push f (list_of n g) (g n) ∙ ap (λ l. l ++ f (g n) ∷ []) (map-list_of f n g)

-- n parts of one size have n times that length
pub length-joined : {X : Type 0} (n size : ℕ) (f : ℕ → List X) → ((i : ℕ) → i < n → length (f i) ≡ size)
    → length (joined n f) ≡ n * size
length-joined zero size f h = omega arith
length-joined (suc n) size f h =
    length-append (joined n f) (f n)
    ∙ omega (arith, length-joined n size f (λ i lt. h i (omega arith)), h n (omega arith))

-- element j of part i stands at i * size + j
pub get_or-joined : {X : Type 0} (n size : ℕ) (f : ℕ → List X) (i j : ℕ) (d : X)
    → ((i : ℕ) → i < n → length (f i) ≡ size) → i < n → j < size
    → get_or (joined n f) (i * size + j) d ≡ get_or (f i) j d
get_or-joined zero size f i j d h lt within = absurd (omega arith)
get_or-joined (suc n) size f i j d h lt within =
    let earlier = λ (p : ℕ) (below : p < n). h p (omega arith) in
    let front : length (joined n f) ≡ n * size = length-joined n size f earlier in
    ⊎_elim
    (λ here. let inside : i * size + j < n * size = omega (arith, mul-add-lt i size j n here within, mul_comm size n) in
    get_or_append_left (joined n f) (f n) d (i * size + j) (omega arith)
    ∙ get_or-joined n size f i j d earlier here within)
    (λ past. let e : i ≡ n = omega arith in
    let place : i * size + j ≡ length (joined n f) + j = omega (arith, ap (λ m. m * size) e) in
    ap (λ m. get_or (joined n f ++ f n) m d) place
    ∙ get_or-append-add (joined n f) (f n) j d
    ∙ ap (λ m. get_or (f m) j d) (sym e))
    (cases_lt i n)

-- one more part
pub joined-more : {X : Type 0} (n : ℕ) (f : ℕ → List X) → joined (n + 1) f ≡ joined n f ++ f n
joined-more n f = ap (λ m. joined m f) (let e : n + 1 ≡ suc n = omega arith in e)

-- what holds of all elements of each part holds of all elements
pub All-joined : {X : Type 0} (P : X → Type 0) (n : ℕ) (f : ℕ → List X) → ((i : ℕ) → i < n → All P (f i)) → All P (joined n f)
All-joined P zero f h = All-nil P
All-joined P (suc n) f h =
    All-append P (joined n f) (f n) (All-joined P n f (λ i lt. h i (omega arith))) (h n (omega arith))

-- a list with these elements is the list of the function
pub list_of_elements : {X : Type 0} (n : ℕ) (f : ℕ → X) (xs : List X) (d : X) → length xs ≡ n
    → ((i : ℕ) → i < n → get_or xs i d ≡ f i) → xs ≡ list_of n f
list_of_elements n f xs d e h =
    ext_get_or d xs (list_of n f)
    (e ∙ sym (length-list_of n f))
    (λ i lt. let within : i < n = omega arith in
    h i within ∙ sym (get_or-list_of n f i d within))

-- element j of row i, where each row is a list of `size` elements
pub get_or-rows : {X : Type 0} (n size : ℕ) (f : ℕ → ℕ → X) (i j : ℕ) (d : X) → i < n → j < size
    → get_or (joined n (λ row. list_of size (f row))) (i * size + j) d ≡ f i j
get_or-rows n size f i j d lt within =
    get_or-joined n size (λ row. list_of size (f row)) i j d (λ row below. length-list_of size (f row)) lt within
    ∙ get_or-list_of size (f i) j d within

-- the rows have `size` elements each
pub length-rows : {X : Type 0} (n size : ℕ) (f : ℕ → ℕ → X) → length (joined n (λ row. list_of size (f row))) ≡ n * size
length-rows n size f = length-joined n size (λ row. list_of size (f row)) (λ row below. length-list_of size (f row))

-- a place below n * size is that of an element of a row
pub place_splits : (n size place : ℕ) → place < n * size
    → (i : ℕ) × (j : ℕ) × (i < n) × (j < size) × (place ≡ i * size + j)
place_splits n zero place lt = absurd (omega arith)
place_splits n (suc m) place lt =
    let some : 0 < suc m = omega arith in
    let split : place / suc m * suc m + place % suc m ≡ place = div-add-mod' place (suc m) in
    (place / suc m, place % suc m, div_below place (suc m) n some lt, omega arith, sym split)

-- a list with these elements is the rows of the function
pub rows_elements : {X : Type 0} (n size : ℕ) (f : ℕ → ℕ → X) (xs : List X) (d : X) → length xs ≡ n * size
    → ((i j : ℕ) → i < n → j < size → get_or xs (i * size + j) d ≡ f i j)
    → xs ≡ joined n (λ row. list_of size (f row))
rows_elements n size f xs d e h =
    ext_get_or d xs (joined n (λ row. list_of size (f row)))
    (e ∙ sym (length-rows n size f))
    (λ place lt. let below : place < n * size = omega arith in
    let at = place_splits n size place below in
    ap (λ p. get_or xs p d) at.4
    ∙ h at.0 at.1 at.2 at.3
    ∙ sym (get_or-rows n size f at.0 at.1 d at.2 at.3)
    ∙ ap (λ p. get_or (joined n (λ row. list_of size (f row))) p d) (sym at.4))
