-- The value of a BLIF text, and the first fault of a text that has no value.
use Rattle.std.specs.Prelude.{◌≡◌, ◌≢◌, ℕ, ◌<◌, ◌≤◌, ◌⊎◌, List, [], ◌∷◌, ◌++◌, length, Result, Ok, Err}
use Rattle.blif_defs.specs.declared.mark.TheConstants.{MAX_BYTES}
use Rattle.blif_defs.specs.declared.error.BlifError.{BlifError}
use Rattle.blif_defs.specs.declared.error.BlifError.TheVariants.{TooLong, NoOutputs}
use Rattle.blif_defs.specs.Values.{BlifValue}
use Rattle.blif_defs.specs.Drafts.{Draft, start, value_of}
use Rattle.blif_defs.specs.Grammar.{Statement, statements, with_words}

-- the lines lead from the one draft to the other, and none of them is faulty
abbrev pub Follows : Draft → List Statement → Draft → Type 0
Follows before [] after = before ≡ after
Follows before (s ∷ more) after = (next : Draft) × (with_words s.at before s.words ≡ Ok next) × Follows next more after

-- m is the value of the text: no line is faulty, and there is an output
pub record BlifText (text : List ℕ) (m : BlifValue) : Type 0 where
  pub short : length text ≤ MAX_BYTES
  pub end : Draft
  pub follows : Follows start (statements text) end
  pub outputs : end.outputs ≢ []
  pub value : value_of end ≡ m

-- fault is that of a line before which no line is faulty
pub record IsFirstFaultyLine (text : List ℕ) (fault : BlifError) : Type 0 where
  pub short : length text ≤ MAX_BYTES
  pub before : List Statement
  pub line : Statement
  pub after : List Statement
  pub parts : statements text ≡ before ++ line ∷ after
  pub draft : Draft
  pub follows : Follows start before draft
  pub faulty : with_words line.at draft line.words ≡ Err fault

-- no line is faulty, and there is no output
pub record LacksOutputs (text : List ℕ) : Type 0 where
  pub short : length text ≤ MAX_BYTES
  pub end : Draft
  pub follows : Follows start (statements text) end
  pub outputs : end.outputs ≡ []

-- fault is the first fault of the text: that it is too long, else that of its first faulty line, else
-- that it has no output
abbrev pub BlifFault : List ℕ → BlifError → Type 0
BlifFault text fault =
    ((MAX_BYTES < length text) × (fault ≡ TooLong))
    ⊎ (IsFirstFaultyLine text fault ⊎ (LacksOutputs text × (fault ≡ NoOutputs)))

-- the value of a text, or its first fault
abbrev pub BlifOf : List ℕ → Result BlifValue BlifError → Type 0
BlifOf text (Ok m) = BlifText text m
BlifOf text (Err fault) = BlifFault text fault
