-- One more variable with a value.
use Rattle.std.specs.Prelude.{◌≡◌, ℕ, ◌+◌, ◌<◌, ◌≤◌, Bool, [], ◌∷◌, ◌++◌, length, set}
use Rattle.clause_defs.specs.declared.verdict.TheConstants.{MAX_VARIABLE}
use Rattle.clause_defs.specs.Clauses.{Has}
use Rattle.leaf_defs.specs.Evaluated.{Evaluated, variable_at}

-- the variable has no value yet
pub record IsWithout (e : Evaluated) (v : ℕ) : Type 0 where
  pub low : 1 ≤ v
  pub high : v < length e.values
  pub fresh : Has e.order v → ⊥

-- all variables with a value were chosen, and have lower numbers
pub record CanChoose (e : Evaluated) (v : ℕ) : Type 0 where
  pub without : IsWithout e v
  pub all_chosen : length e.order ≡ e.chosen
  pub lower : (u : ℕ) → Has e.order u → u < v

-- the variable was chosen
abbrev pub with_chosen : Evaluated → ℕ → Bool → Evaluated
with_chosen e v value = record {
  values = set e.values v value;
  order = e.order ++ v ∷ [];
  chosen = e.chosen + 1;
  reasons = e.reasons ++ 0 ∷ [];
}

-- the variable has a value that the clause with this index leaves
abbrev pub with_implied : Evaluated → ℕ → Bool → ℕ → Evaluated
with_implied e v value reason = record {
  values = set e.values v value;
  order = e.order ++ v ∷ [];
  chosen = e.chosen;
  reasons = e.reasons ++ reason ∷ [];
}

-- the variables are distinct and within the limits, and there is room for all of them
pub record HasPlaces (e : Evaluated) (order_room reason_room : ℕ) : Type 0 where
  pub some : 1 ≤ length e.values
  pub few : length e.values ≤ MAX_VARIABLE + 1
  pub within : (v : ℕ) → Has e.order v → (1 ≤ v) × (v < length e.values)
  pub distinct : (i j : ℕ) → i < j → j < length e.order → variable_at e.order i ≡ variable_at e.order j → ⊥
  pub as_many : length e.reasons ≡ length e.order
  pub chosen_first : e.chosen ≤ length e.order
  pub order_room_is : length e.values ≤ order_room + 1
  pub reason_room_is : length e.values ≤ reason_room + 1

-- fewer variables have a value than there are places, which are within the limits
pub record FitsVariables (e : Evaluated) : Type 0 where
  pub few : length e.order < length e.values
  pub small : length e.values ≤ MAX_VARIABLE + 1
