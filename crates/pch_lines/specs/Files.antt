-- The files that each command loads, in their order, and the one that it saves.
use Rattle.std.specs.Prelude.{ℕ, List, [], ◌∷◌, Option, Some, None}
use Rattle.sat_text_defs.specs.declared.limits.TheConstants.{MAX_CNF_BYTES, MAX_TRACE_BYTES}
use Rattle.blif_defs.specs.declared.mark.TheConstants.{MAX_BYTES}
use Rattle.bundle_defs.specs.declared.limits.TheConstants.{MAX_BUNDLE_BYTES}
use Rattle.pch_lines.specs.Words.{Form, check, verify, cnf, compact, place, produce, demo}

-- a file that is to be loaded: its name, and the most bytes that it may have
pub record FileValue : Type 0 where
  pub name : List ℕ
  pub limit : ℕ

-- the files that are loaded
abbrev pub files_of : Form → List FileValue
files_of (check formula trace) =
    record { name = formula; limit = MAX_CNF_BYTES } ∷ record { name = trace; limit = MAX_TRACE_BYTES } ∷ []
files_of (verify spec bundle g workers) =
    record { name = spec; limit = MAX_BYTES } ∷ record { name = bundle; limit = MAX_BUNDLE_BYTES } ∷ []
files_of (cnf spec bundle) =
    record { name = spec; limit = MAX_BYTES } ∷ record { name = bundle; limit = MAX_BUNDLE_BYTES } ∷ []
files_of (compact bundle out) = record { name = bundle; limit = MAX_BUNDLE_BYTES } ∷ []
files_of (place design g out) = record { name = design; limit = MAX_BYTES } ∷ []
files_of (produce spec design g budget out) =
    record { name = spec; limit = MAX_BYTES } ∷ record { name = design; limit = MAX_BYTES } ∷ []
files_of (demo bits out) = []

-- the name of the file that is saved
abbrev pub out_of : Form → Option (List ℕ)
out_of (check formula trace) = None
out_of (verify spec bundle g workers) = None
out_of (cnf spec bundle) = None
out_of (compact bundle out) = Some out
out_of (place design g out) = Some out
out_of (produce spec design g budget out) = Some out
out_of (demo bits out) = Some out
