-- Sums over two lists that are alike.
use Rattle.std.proofs.Common.{◌≡◌, ◌≢◌, ℕ, zero, suc, ◌+◌, ◌<◌, List, [], ◌∷◌, length, map, get_or, replicate, sum_by, refl, sym, ap, ◌∙◌, arith}
use Rattle.std.proofs.lemmas.List.Sums.{sum_by-cons}

-- lists of one length have one sum where their weights are equal place by place
pub sum_same : {X Y : Type 0} (f : X → ℕ) (g : Y → ℕ) (xs : List X) (ys : List Y) (d : X) (e : Y) → length ys ≡ length xs
    → ((m : ℕ) → m < length xs → g (get_or ys m e) ≡ f (get_or xs m d)) → sum_by g ys ≡ sum_by f xs
sum_same f g [] [] d e len same = refl
sum_same f g [] (y ∷ ys) d e len same = absurd (omega arith)
sum_same f g (x ∷ xs) [] d e len same = absurd (omega arith)
sum_same f g (x ∷ xs) (y ∷ ys) d e len same =
    let first : g y ≡ f x = same 0 (omega arith) in
    let rest : sum_by g ys ≡ sum_by f xs = sum_same f g xs ys d e (omega arith) (λ m lt. same (suc m) (omega arith)) in
    sum_by-cons g y ys ∙ ap (λ n. n + sum_by g ys) first ∙ ap (λ n. f x + n) rest ∙ sym (sum_by-cons f x xs)

-- lists that are alike but at place n: their sums differ by the weights there
pub sum_changed : {X : Type 0} (f g : X → ℕ) (xs ys : List X) (n : ℕ) (d : X) → length ys ≡ length xs → n < length xs
    → ((m : ℕ) → m ≢ n → g (get_or ys m d) ≡ f (get_or xs m d))
    → sum_by g ys + f (get_or xs n d) ≡ sum_by f xs + g (get_or ys n d)
sum_changed f g [] ys n d len lt same = absurd (omega arith)
sum_changed f g (x ∷ xs) [] n d len lt same = absurd (omega arith)
sum_changed f g (x ∷ xs) (y ∷ ys) zero d len lt same =
    let rest : sum_by g ys ≡ sum_by f xs = sum_same f g xs ys d d (omega arith) (λ m _. same (suc m) (λ e. absurd (omega arith))) in
    let a : sum_by g (y ∷ ys) ≡ g y + sum_by g ys = sum_by-cons g y ys in
    let b : sum_by f (x ∷ xs) ≡ f x + sum_by f xs = sum_by-cons f x xs in
    omega arith
sum_changed f g (x ∷ xs) (y ∷ ys) (suc n) d len lt same =
    let first : g y ≡ f x = same 0 (λ e. absurd (omega arith)) in
    let rest : sum_by g ys + f (get_or xs n d) ≡ sum_by f xs + g (get_or ys n d) =
    sum_changed f g xs ys n d (omega arith) (omega arith) (λ m ne. same (suc m) (λ e. ne (omega arith))) in
    let a : sum_by g (y ∷ ys) ≡ g y + sum_by g ys = sum_by-cons g y ys in
    let b : sum_by f (x ∷ xs) ≡ f x + sum_by f xs = sum_by-cons f x xs in
    omega arith

-- a sum of weights that are 0
pub sum_nothing : {X : Type 0} (f : X → ℕ) (xs : List X) → ((x : X) → f x ≡ 0) → sum_by f xs ≡ 0
sum_nothing f [] none = refl
sum_nothing f (x ∷ xs) none =
    let a : sum_by f (x ∷ xs) ≡ f x + sum_by f xs = sum_by-cons f x xs in
    let b = none x in
    let c = sum_nothing f xs none in
    omega arith

-- the sum over n copies of something without weight
pub sum-replicate : {X : Type 0} (f : X → ℕ) (n : ℕ) (x : X) → f x ≡ 0 → sum_by f (replicate n x) ≡ 0
sum-replicate f zero x none = refl
sum-replicate f (suc n) x none =
    let a : sum_by f (x ∷ replicate n x) ≡ f x + sum_by f (replicate n x) = sum_by-cons f x (replicate n x) in
    let c = sum-replicate f n x none in
    omega arith

-- copies give copies
pub map-replicate : {X Y : Type 0} (f : X → Y) (n : ℕ) (x : X) → map f (replicate n x) ≡ replicate n (f x)
map-replicate f zero x = refl
map-replicate f (suc n) x = ap (λ ys. f x ∷ ys) (map-replicate f n x)

-- a list of copies of the default reads as it everywhere
pub get_or-copies : {X : Type 0} (n : ℕ) (d : X) (m : ℕ) → get_or (replicate n d) m d ≡ d
get_or-copies zero d m = refl
get_or-copies (suc n) d zero = refl
get_or-copies (suc n) d (suc m) = get_or-copies n d m
