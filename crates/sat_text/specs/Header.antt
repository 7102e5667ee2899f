-- The header of a CNF that was read.
use Rattle.std.specs.Prelude.{ℕ, List}
use Rattle.sat_text_defs.specs.CnfReading.{Header}
use Rattle.sat_scan.specs.Scan.{cnf_tokens_from}
use Rattle.sat_text.specs.declared.cnf_header.HeaderEnd.{HeaderEnd}

-- the header that was read, with the tokens that are left behind it
abbrev pub header_at : HeaderEnd → List ℕ → Header
header_at h text = record { variables = h.variables; clauses = h.clauses; rest = cnf_tokens_from h.rest text }
