-- How many words a form has.
use Rattle.std.proofs.Common.{◌≡◌, ℕ, ◌<◌, ◌≤◌, List, [], ◌∷◌, length, get_or, None, String, string_bytes, refl, arith}
use Rattle.std.specs.declared.alloc.Global.{Global}
use Rattle.fabric_defs.specs.declared.kind.CellKind.{CellKind}
use Rattle.pch_lines.specs.Words.{words_in, verify_form, verify_with, place_form, produce_form, produce_with, fabric_form, fabric_in, count_in}
use Rattle.script_defs.specs.declared.limits.TheConstants.{MAX_WORKERS}
use Rattle.miter_size.specs.declared.limits.TheConstants.{MAX_BUDGET}

-- fewer than six words behind two files verify nothing
pub too_few : (kind : CellKind) (spec bundle : List ℕ) (ws : List (String Global)) → length ws < 6 → verify_form kind spec bundle (words_in ws) ≡ None
too_few kind spec bundle [] less = refl
too_few kind spec bundle (c ∷ []) less = refl
too_few kind spec bundle (c ∷ r ∷ []) less = refl
too_few kind spec bundle (c ∷ r ∷ t ∷ []) less = refl
too_few kind spec bundle (c ∷ r ∷ t ∷ i ∷ []) less = refl
too_few kind spec bundle (c ∷ r ∷ t ∷ i ∷ o ∷ []) less = refl
too_few kind spec bundle (c ∷ r ∷ t ∷ i ∷ o ∷ workers ∷ rest) less = absurd (omega (arith, less))

-- nor do more than six
pub too_many : (kind : CellKind) (spec bundle : List ℕ) (ws : List (String Global)) → 7 ≤ length ws → verify_form kind spec bundle (words_in ws) ≡ None
too_many kind spec bundle [] more = absurd (omega (arith, more))
too_many kind spec bundle (c ∷ []) more = absurd (omega (arith, more))
too_many kind spec bundle (c ∷ r ∷ []) more = absurd (omega (arith, more))
too_many kind spec bundle (c ∷ r ∷ t ∷ []) more = absurd (omega (arith, more))
too_many kind spec bundle (c ∷ r ∷ t ∷ i ∷ []) more = absurd (omega (arith, more))
too_many kind spec bundle (c ∷ r ∷ t ∷ i ∷ o ∷ []) more = absurd (omega (arith, more))
too_many kind spec bundle (c ∷ r ∷ t ∷ i ∷ o ∷ workers ∷ []) more = absurd (omega (arith, more))
too_many kind spec bundle (c ∷ r ∷ t ∷ i ∷ o ∷ workers ∷ word ∷ rest) more = refl

-- the form of six words, which are these
pub six_words : (kind : CellKind) (spec bundle : List ℕ) (ws : List (String Global)) (c r t i o n : String Global) → 6 ≤ length ws → length ws < 7
    → c ≡ get_or ws 0 c → r ≡ get_or ws 1 r → t ≡ get_or ws 2 t → i ≡ get_or ws 3 i → o ≡ get_or ws 4 o → n ≡ get_or ws 5 n
    → verify_with spec bundle (fabric_in kind (string_bytes c) (string_bytes r) (string_bytes t) (string_bytes i) (string_bytes o))
    (count_in MAX_WORKERS (string_bytes n)) ≡ verify_form kind spec bundle (words_in ws)
six_words kind spec bundle [] c r t i o n least below e0 e1 e2 e3 e4 e5 = absurd (omega (arith, least))
six_words kind spec bundle (a ∷ []) c r t i o n least below e0 e1 e2 e3 e4 e5 = absurd (omega (arith, least))
six_words kind spec bundle (a ∷ b ∷ []) c r t i o n least below e0 e1 e2 e3 e4 e5 = absurd (omega (arith, least))
six_words kind spec bundle (a ∷ b ∷ d ∷ []) c r t i o n least below e0 e1 e2 e3 e4 e5 = absurd (omega (arith, least))
six_words kind spec bundle (a ∷ b ∷ d ∷ e ∷ []) c r t i o n least below e0 e1 e2 e3 e4 e5 = absurd (omega (arith, least))
six_words kind spec bundle (a ∷ b ∷ d ∷ e ∷ f ∷ []) c r t i o n least below e0 e1 e2 e3 e4 e5 = absurd (omega (arith, least))
six_words kind spec bundle (a ∷ b ∷ d ∷ e ∷ f ∷ g ∷ []) c r t i o n least below e0 e1 e2 e3 e4 e5 = rw (e0, e1, e2, e3, e4, e5) refl
six_words kind spec bundle (a ∷ b ∷ d ∷ e ∷ f ∷ g ∷ h ∷ rest) c r t i o n least below e0 e1 e2 e3 e4 e5 = absurd (omega (arith, below))

-- fewer than five words behind a file and a number place nothing
pub few_place : (kind : CellKind) (design c : List ℕ) (ws : List (String Global)) → length ws < 5 → place_form kind design c (words_in ws) ≡ None
few_place kind design c [] less = refl
few_place kind design c (r ∷ []) less = refl
few_place kind design c (r ∷ t ∷ []) less = refl
few_place kind design c (r ∷ t ∷ i ∷ []) less = refl
few_place kind design c (r ∷ t ∷ i ∷ o ∷ []) less = refl
few_place kind design c (r ∷ t ∷ i ∷ o ∷ out ∷ rest) less = absurd (omega (arith, less))

-- nor do more than five
pub many_place : (kind : CellKind) (design c : List ℕ) (ws : List (String Global)) → 6 ≤ length ws → place_form kind design c (words_in ws) ≡ None
many_place kind design c [] more = absurd (omega (arith, more))
many_place kind design c (r ∷ []) more = absurd (omega (arith, more))
many_place kind design c (r ∷ t ∷ []) more = absurd (omega (arith, more))
many_place kind design c (r ∷ t ∷ i ∷ []) more = absurd (omega (arith, more))
many_place kind design c (r ∷ t ∷ i ∷ o ∷ []) more = absurd (omega (arith, more))
many_place kind design c (r ∷ t ∷ i ∷ o ∷ out ∷ []) more = absurd (omega (arith, more))
many_place kind design c (r ∷ t ∷ i ∷ o ∷ out ∷ word ∷ rest) more = refl

-- fewer than seven words behind two files produce nothing
pub few_produce : (kind : CellKind) (spec design : List ℕ) (ws : List (String Global)) → length ws < 7 → produce_form kind spec design (words_in ws) ≡ None
few_produce kind spec design [] less = refl
few_produce kind spec design (c ∷ []) less = refl
few_produce kind spec design (c ∷ r ∷ []) less = refl
few_produce kind spec design (c ∷ r ∷ t ∷ []) less = refl
few_produce kind spec design (c ∷ r ∷ t ∷ i ∷ []) less = refl
few_produce kind spec design (c ∷ r ∷ t ∷ i ∷ o ∷ []) less = refl
few_produce kind spec design (c ∷ r ∷ t ∷ i ∷ o ∷ budget ∷ []) less = refl
few_produce kind spec design (c ∷ r ∷ t ∷ i ∷ o ∷ budget ∷ out ∷ rest) less = absurd (omega (arith, less))

-- nor do more than seven
pub many_produce : (kind : CellKind) (spec design : List ℕ) (ws : List (String Global)) → 8 ≤ length ws → produce_form kind spec design (words_in ws) ≡ None
many_produce kind spec design [] more = absurd (omega (arith, more))
many_produce kind spec design (c ∷ []) more = absurd (omega (arith, more))
many_produce kind spec design (c ∷ r ∷ []) more = absurd (omega (arith, more))
many_produce kind spec design (c ∷ r ∷ t ∷ []) more = absurd (omega (arith, more))
many_produce kind spec design (c ∷ r ∷ t ∷ i ∷ []) more = absurd (omega (arith, more))
many_produce kind spec design (c ∷ r ∷ t ∷ i ∷ o ∷ []) more = absurd (omega (arith, more))
many_produce kind spec design (c ∷ r ∷ t ∷ i ∷ o ∷ budget ∷ []) more = absurd (omega (arith, more))
many_produce kind spec design (c ∷ r ∷ t ∷ i ∷ o ∷ budget ∷ out ∷ []) more = absurd (omega (arith, more))
many_produce kind spec design (c ∷ r ∷ t ∷ i ∷ o ∷ budget ∷ out ∷ word ∷ rest) more = refl

-- the form of seven words, which are these
pub seven_words : (kind : CellKind) (spec design : List ℕ) (ws : List (String Global)) (c r t i o n out : String Global) → 7 ≤ length ws → length ws < 8
    → c ≡ get_or ws 0 c → r ≡ get_or ws 1 r → t ≡ get_or ws 2 t → i ≡ get_or ws 3 i → o ≡ get_or ws 4 o → n ≡ get_or ws 5 n → out ≡ get_or ws 6 out
    → produce_with spec design (fabric_in kind (string_bytes c) (string_bytes r) (string_bytes t) (string_bytes i) (string_bytes o))
    (count_in MAX_BUDGET (string_bytes n)) (string_bytes out) ≡ produce_form kind spec design (words_in ws)
seven_words kind spec design [] c r t i o n out least below e0 e1 e2 e3 e4 e5 e6 = absurd (omega (arith, least))
seven_words kind spec design (a ∷ []) c r t i o n out least below e0 e1 e2 e3 e4 e5 e6 = absurd (omega (arith, least))
seven_words kind spec design (a ∷ b ∷ []) c r t i o n out least below e0 e1 e2 e3 e4 e5 e6 = absurd (omega (arith, least))
seven_words kind spec design (a ∷ b ∷ d ∷ []) c r t i o n out least below e0 e1 e2 e3 e4 e5 e6 = absurd (omega (arith, least))
seven_words kind spec design (a ∷ b ∷ d ∷ e ∷ []) c r t i o n out least below e0 e1 e2 e3 e4 e5 e6 = absurd (omega (arith, least))
seven_words kind spec design (a ∷ b ∷ d ∷ e ∷ f ∷ []) c r t i o n out least below e0 e1 e2 e3 e4 e5 e6 = absurd (omega (arith, least))
seven_words kind spec design (a ∷ b ∷ d ∷ e ∷ f ∷ g ∷ []) c r t i o n out least below e0 e1 e2 e3 e4 e5 e6 = absurd (omega (arith, least))
seven_words kind spec design (a ∷ b ∷ d ∷ e ∷ f ∷ g ∷ h ∷ []) c r t i o n out least below e0 e1 e2 e3 e4 e5 e6 = rw (e0, e1, e2, e3, e4, e5, e6) refl
seven_words kind spec design (a ∷ b ∷ d ∷ e ∷ f ∷ g ∷ h ∷ k ∷ rest) c r t i o n out least below e0 e1 e2 e3 e4 e5 e6 = absurd (omega (arith, below))

-- fewer than three words name no fabric
pub no_fabric : (kind : CellKind) (ws : List (String Global)) → length ws < 3 → fabric_form kind (words_in ws) ≡ None
no_fabric kind [] less = refl
no_fabric kind (a ∷ []) less = refl
no_fabric kind (a ∷ b ∷ []) less = refl
no_fabric kind (a ∷ b ∷ c ∷ rest) less = absurd (omega (arith, less))
