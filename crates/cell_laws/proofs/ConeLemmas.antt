-- The cone stands beside the cells: what is said of sources stays where another one is put there.
use Rattle.std.proofs.Common.{◌≡◌, ℕ, Bool, List, length, sym, ◌∙◌}
use Rattle.fabric_defs.specs.Geometries.{cell_count}
use Rattle.fabric_defs.specs.Configurations.{ConfigValue}
use Rattle.cell_defs.specs.Cells.{CellsValue, AreCells}
use Rattle.cell_defs.specs.Cones.{in_cone, with_cone, IsClosed, IsCone}
use Rattle.cell_defs.specs.Sources.{AreSourcesOf, AreCellsOf}

-- the cells of a fabric
pub AreCells-with_cone : (cells : CellsValue) (cone : List Bool) → AreCells cells → AreCells (with_cone cells cone)
AreCells-with_cone cells cone h = record { geometry = h.geometry; count = h.count; each = h.each; pads = h.pads; outputs = h.outputs }

-- the sources of a configuration
pub AreSourcesOf-with_cone : (config : ConfigValue) (cells : CellsValue) (cone : List Bool) → AreSourcesOf config cells → AreSourcesOf config (with_cone cells cone)
AreSourcesOf-with_cone config cells cone h = record { geometry = h.geometry; count = h.count; each = h.each; outputs = h.outputs }

-- a closed set
pub IsClosed-with_cone : (cells : CellsValue) (cone : List Bool) (set : ℕ → Bool) → IsClosed cells set → IsClosed (with_cone cells cone) set
IsClosed-with_cone cells cone set h = record { outputs = h.outputs; pins = h.pins }

-- a set that is closed with another cone
pub IsClosed-from_cone : (cells : CellsValue) (cone : List Bool) (set : ℕ → Bool) → IsClosed (with_cone cells cone) set → IsClosed cells set
IsClosed-from_cone cells cone set h = record { outputs = h.outputs; pins = h.pins }

-- the least closed set
pub IsCone-with_cone : (cells : CellsValue) (cone : List Bool) (set : ℕ → Bool) → IsCone cells set → IsCone (with_cone cells cone) set
IsCone-with_cone cells cone set h = record {
  closed = IsClosed-with_cone cells cone set h.closed;
  least = λ other closed. h.least other (IsClosed-from_cone cells cone other closed);
}

-- sets with the same members are closed alike
pub IsClosed-agree : (cells : CellsValue) (s t : ℕ → Bool) → ((k : ℕ) → s k ≡ t k) → IsClosed cells s → IsClosed cells t
IsClosed-agree cells s t e h = record {
  outputs = λ k has. sym (e k) ∙ h.outputs k has;
  pins = λ m k lt member has. sym (e k) ∙ h.pins m k lt (e m ∙ member) has;
}

-- so one of them is the least where the other is
pub IsCone-agree : (cells : CellsValue) (s t : ℕ → Bool) → ((k : ℕ) → s k ≡ t k) → IsCone cells s → IsCone cells t
IsCone-agree cells s t e h = record {
  closed = IsClosed-agree cells s t e h.closed;
  least = λ other closed k member. h.least other closed k (e k ∙ member);
}

-- a mark for each cell, where the marks tell the least closed set, makes the sources the cells of a
-- configuration
pub AreCellsOf-with_cone : (config : ConfigValue) (cells : CellsValue) (cone : List Bool) → AreSourcesOf config cells → length cone ≡ cell_count cells.geometry
    → IsCone cells (in_cone (with_cone cells cone)) → AreCellsOf config (with_cone cells cone)
AreCellsOf-with_cone config cells cone of count is = record {
  sources = AreSourcesOf-with_cone config cells cone of;
  cone = record { count = count; cone = IsCone-with_cone cells cone (in_cone (with_cone cells cone)) is };
}
