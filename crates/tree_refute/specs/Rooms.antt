-- The room of a search.
use Rattle.std.specs.Prelude.{◌≡◌, ℕ, ◌+◌, length}
use Rattle.leaf_defs.specs.Evaluated.{Evaluated}
use Rattle.leaf_chain.specs.Marks.{Chaining}
use Rattle.miter_cnf.specs.Circuits.{Circuits, AreCircuits}
use Rattle.miter_defs.specs.Numberings.{variable_count}
use Rattle.miter_places.specs.Places.{number_of_last}

-- there is a place for each variable of the two circuits
pub record HasRoom (c : Circuits) (e : Evaluated) (k : Chaining) (inputs last : ℕ) : Type 0 where
  pub are : AreCircuits c.net c.cells
  pub places : length e.values ≡ variable_count c.net c.cells + 1
  pub marks : length k.marks ≡ variable_count c.net c.cells + 1
  pub inputs_are : inputs ≡ length c.net.inputs
  pub last_is : last ≡ number_of_last c.net c.cells
