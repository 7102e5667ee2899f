-- The first token of a CNF.
use Rattle.std.proofs.Common.{◌≡◌, ℕ, ◌≤◌, List, length, drop, false, refl, sym, ap, ◌∙◌, inl, inr, nat_lt, arith}
use Rattle.std.proofs.lemmas.Bool.{cases_lt, le-ltb}
use Rattle.std.proofs.lemmas.List.{drop_all}
use Rattle.sat_text_defs.specs.declared.limits.TheConstants.{MAX_CNF_BYTES}
use Rattle.sat_text_defs.specs.CnfText.{tokens_of, line_end, header_end}
use Rattle.sat_text_defs.specs.CnfReading.{cnf_from, cnf_in}
use Rattle.sat_scan.specs.Scan.{cnf_tokens_from, IsAtCnfWord}

-- the line of the header ends where the line of its first word does
header_end-here : (at : ℕ) (text : List ℕ) → IsAtCnfWord at text → header_end text (cnf_tokens_from at text) ≡ line_end at (drop at text)
header_end-here at text stands = elim (cases_lt at (length text)) [
  | inl h ↦ ap (header_end text) (stands.word h)
  | inr h ↦
      let bound : at ≤ length text = stands.within in
      let at_end : length text ≡ at = omega arith in
      ap (header_end text) (stands.end h) ∙ at_end ∙ sym (ap (line_end at) (drop_all at text h))
]

-- the CNF of a text, from its first token on
pub cnf_in-from : (at : ℕ) (text : List ℕ) → length text ≤ MAX_CNF_BYTES → IsAtCnfWord at text → tokens_of text ≡ cnf_tokens_from at text
    → cnf_in text ≡ cnf_from (length text) (line_end at (drop at text)) (cnf_tokens_from at text)
cnf_in-from at text short stands e =
    let fits : nat_lt MAX_CNF_BYTES (length text) ≡ false = le-ltb MAX_CNF_BYTES (length text) short in
    let line : header_end text (tokens_of text) ≡ line_end at (drop at text) = ap (header_end text) e ∙ header_end-here at text stands in
    rw (fits, line, e) refl
