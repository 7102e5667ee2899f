-- Where the lists in one list end, and what they are.
use Rattle.std.specs.Prelude.{◌≡◌, ℕ, zero, suc, get_or, ◌-◌, ◌^◌, ◌<◌, ◌≤◌, List, [], ◌∷◌, length, take, drop}

-- the parts of the items that end at these places, the first of which begins at `from`
abbrev pub parts : {T : Type 0} → ℕ → List ℕ → List T → List (List T)
parts from [] items = []
parts from (e ∷ es) items = take (e - from) (drop from items) ∷ parts e es items

-- where part k begins, or the last part ends if there is none
abbrev pub begin_of : ℕ → List ℕ → ℕ → ℕ
begin_of from ends zero = from
begin_of from ends (suc k) = get_or ends k 0

-- the places come in order, and the last part ends at `end`
abbrev pub EndsInOrder : ℕ → List ℕ → ℕ → Type 0
EndsInOrder from [] end = from ≡ end
EndsInOrder from (e ∷ es) end = (from ≤ e) × EndsInOrder e es end

-- the parts are all of the items, and there are few enough to be counted in 32 bits
pub record IsFlat (ends : List ℕ) (items : ℕ) : Type 0 where
  pub ordered : EndsInOrder 0 ends items
  pub few_items : items < 2 ^ 32
  pub few_lists : length ends < 2 ^ 32
