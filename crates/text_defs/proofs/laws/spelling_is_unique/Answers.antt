use Rattle.std.proofs.Common.{◌∙◌, sym}
use Rattle.std.proofs.lemmas.Fmt.{decimal_injective}
use Rattle.text_defs.proofs.laws.spelling_is_unique.Goals as goal

pub returns : goal.returns
returns c text m n small_m small_n spells_m spells_n = decimal_injective m n small_m small_n (sym spells_m ∙ spells_n)
