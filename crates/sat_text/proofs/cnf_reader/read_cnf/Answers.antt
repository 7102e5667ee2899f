use Rattle.std.proofs.Common.{◌≤◌, length, Result, sym, subst, arith}
use Rattle.clause_defs.specs.Formulas.{Formula}
use Rattle.text_defs.specs.Memory.{Gives}
use Rattle.sat_text_defs.specs.declared.errors.CnfError.{CnfError}
use Rattle.sat_text_defs.specs.declared.errors.CnfError.TheVariants.{NoMemory}
use Rattle.sat_text_defs.specs.declared.limits.TheConstants.{MAX_CNF_BYTES}
use Rattle.sat_values.specs.CnfFormula.{formula_of}
use Rattle.sat_text.proofs.FirstWord.{cnf_in-from}
use Rattle.sat_text.proofs.cnf_reader.read_cnf.Goals as goal

-- what is read from the first word on is what is read of the text
pub returns : goal.returns
returns c =
    let short : length c.args.b.now ≤ MAX_CNF_BYTES = omega arith in
    record {
      exact = subst (λ (text : Result Formula CnfError). Gives NoMemory formula_of c.read_from.result text)
          (sym (cnf_in-from c.first_word.result c.args.b.now short c.first_word.ensures.stands c.first_word.ensures.tokens)) c.read_from.ensures.exact;
    }
