-- Designs as the plain records that definitions speak of.
use Rattle.std.specs.Prelude.{ℕ, List, map, Option, Some, None, Result, Ok, Err}
use Rattle.std.specs.Borrow.{Bor}
use Rattle.blif_defs.specs.Values.{CoverValue, BlifValue}
use Rattle.blif_defs.specs.declared.error.BlifError.{BlifError}
use Rattle.blif_defs.specs.Texts.{BlifText, BlifFault}
use Rattle.blif_read.specs.declared.cover.Cover.{Cover}
use Rattle.blif_read.specs.declared.blif.Blif.{Blif}

-- a cover as its plain record
abbrev pub cover_of : Cover → CoverValue
cover_of c = record { ins = c.ins; out = c.out; on = c.on; rows = c.rows }

-- a design as its plain record
abbrev pub blif_of : Blif → BlifValue
blif_of b = record { model = b.model; inputs = b.inputs; outputs = b.outputs; covers = map cover_of b.covers }

-- the bytes that borrowed words point to
abbrev pub texts : List (Bor (List ℕ)) → List (List ℕ)
texts words = map (λ w. w.now) words

-- the bytes of the two parts of a row
abbrev pub parts_of : Option (Bor (List ℕ) × Bor (List ℕ)) → Option (List ℕ × List ℕ)
parts_of None = None
parts_of (Some p) = Some (p.0.now, p.1.now)

-- the design is the value of the text, or the error is its first fault
abbrev pub IsReadFrom : List ℕ → Result Blif BlifError → Type 0
IsReadFrom text (Ok b) = BlifText text (blif_of b)
IsReadFrom text (Err fault) = BlifFault text fault
