-- Want of memory: the one answer that no text and no value ties to a cause, and that is always allowed.
use Rattle.std.specs.Prelude.{◌≡◌, ◌⊎◌, Result, Ok, Err}

-- what is said of a result holds of it, or it is the error that memory was wanting
abbrev pub OrMemory : {A E : Type 0} → E → (Result A E → Type 0) → Result A E → Type 0
OrMemory memory is (Ok x) = is (Ok x)
OrMemory memory is (Err e) = (e ≡ memory) ⊎ is (Err e)

-- the result, whose value is seen by the view, is the one that reading gives, or memory was wanting
abbrev pub Gives : {X Y E : Type 0} → E → (X → Y) → Result X E → Result Y E → Type 0
Gives memory view (Ok x) read = read ≡ Ok (view x)
Gives memory view (Err e) read = (e ≡ memory) ⊎ (read ≡ Err e)
