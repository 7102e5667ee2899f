-- Steps that may fail, one after the other.
use Rattle.std.specs.Prelude.{Result, Ok, Err}

-- the second step on what the first one gave; the first fault is the fault of both
infixl 10 ◌>>=◌
abbrev pub ◌>>=◌ : {A B F : Type 0} → Result A F → (A → Result B F) → Result B F
(Ok x) >>= f = f x
(Err e) >>= f = Err e
