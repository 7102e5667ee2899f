-- What the value or the fault of steps one after the other says of each step.
use Rattle.std.proofs.Common.{◌≡◌, ◌⊎◌, inl, inr, Bool, true, false, if◌then◌else◌, Option, Some, None, ok_or, Result, Ok, Err, refl, ap}
use Rattle.text_defs.specs.Steps.{◌>>=◌}

-- both steps gave a value
pub bind_ok : {A B F : Type 0} (r : Result A F) (f : A → Result B F) (y : B) → (r >>= f) ≡ Ok y → (x : A) × (r ≡ Ok x) × (f x ≡ Ok y)
bind_ok (Ok x) f y e = (x, refl, e)
bind_ok (Err d) f y e = absurd (cc)

-- the first step failed, or the second one
pub bind_err : {A B F : Type 0} (r : Result A F) (f : A → Result B F) (d : F) → (r >>= f) ≡ Err d → (r ≡ Err d) ⊎ ((x : A) × (r ≡ Ok x) × (f x ≡ Err d))
bind_err (Ok x) f d e = inr (x, refl, e)
bind_err (Err c) f d e = let same : c ≡ d = cc in inl (ap Err same)

-- the value was there
pub ok_or_ok : {A F : Type 0} (o : Option A) (d : F) (x : A) → ok_or o d ≡ Ok x → o ≡ Some x
ok_or_ok None d x e = absurd (cc)
ok_or_ok (Some y) d x e = cc

-- the value was wanting
pub ok_or_err : {A F : Type 0} (o : Option A) (c d : F) → ok_or o c ≡ Err d → (o ≡ None) × (c ≡ d)
ok_or_err None c d e = (refl, cc)
ok_or_err (Some y) c d e = absurd (cc)

-- the test held
pub guard_ok : {A F : Type 0} (b : Bool) (x : A) (d : F) (y : A) → (if b then Ok x else Err d) ≡ Ok y → (b ≡ true) × (x ≡ y)
guard_ok true x d y e = (refl, cc)
guard_ok false x d y e = absurd (cc)

-- no fault was found by the test
pub unless_ok : {A F : Type 0} (b : Bool) (d : F) (r : Result A F) (y : A) → (if b then Err d else r) ≡ Ok y → (b ≡ false) × (r ≡ Ok y)
unless_ok true d r y e = absurd (cc)
unless_ok false d r y e = (refl, e)

-- the test found the fault, or the rest did
pub unless_err : {A F : Type 0} (b : Bool) (d : F) (r : Result A F) (f : F) → (if b then Err d else r) ≡ Err f → ((b ≡ true) × (d ≡ f)) ⊎ ((b ≡ false) × (r ≡ Err f))
unless_err true d r f e = inl (refl, cc)
unless_err false d r f e = inr (refl, e)

-- a result is a value or a fault
pub cases_Result : {A F : Type 0} (r : Result A F) → ((x : A) × (r ≡ Ok x)) ⊎ ((f : F) × (r ≡ Err f))
cases_Result (Ok x) = inl (x, refl)
cases_Result (Err f) = inr (f, refl)
