-- A text specifies one network or has one first fault, and never both.
use Rattle.std.proofs.Common.{◌≡◌, ℕ, List, Result, Ok, Err, ap, subst}
use Rattle.blif_defs.specs.Values.{BlifValue}
use Rattle.blif_defs.specs.Texts.{BlifText, BlifFault, BlifOf}
use Rattle.blif_defs.specs.declared.error.BlifError.{BlifError}
use Rattle.blif_laws.proofs.Reading.{reading_exists, reading_is_unique}
use Rattle.blif_laws.proofs.Designs.{design_of_text}
use Rattle.net_defs.specs.Networks.{Network}
use Rattle.net_defs.specs.NetOf.{NetOf}
use Rattle.net_defs.specs.Specifications.{SpecificationOf}
use Rattle.net_defs.specs.declared.faults.NetError.{NetError}
use Rattle.net_defs.specs.declared.specification.SpecError.{SpecError}
use Rattle.net_defs.specs.declared.specification.SpecError.TheVariants.{Text, Network as NetworkFault, NoMemory}
use Rattle.net_laws.proofs.NetworkLemmas.{net_exists, net_is_unique}

-- the design of a text, or its fault
abbrev Read : Type 0
Read = Result BlifValue BlifError

-- the network of a design, or its fault
abbrev Built : Type 0
Built = Result Network NetError

-- the network that a text specifies, or the fault
abbrev Specified : Type 0
Specified = Result Network SpecError

-- what a design gives is what its text gives
of_built : (text : List ℕ) (design : BlifValue) (r : Built) → BlifText text design → NetOf design r → (s : Specified) × SpecificationOf text s
of_built text design (Ok net) reads builds = (Ok net, record { design = design; reads = reads; builds = builds })
of_built text design (Err fault) reads builds = (Err (NetworkFault fault), (design, reads, builds))

-- where a text is read, it specifies a network or has a fault
of_read : (text : List ℕ) (r : Read) → BlifOf text r → (s : Specified) × SpecificationOf text s
of_read text (Ok design) h = let built = net_exists design in of_built text design built.0 h built.1
of_read text (Err fault) h = (Err (Text fault), h)

-- a text specifies a network, or has a first fault
pub specification_exists : (text : List ℕ) → (s : Specified) × SpecificationOf text s
specification_exists text = let read = reading_exists text in of_read text read.0 read.1

-- a text with this design
abbrev read_ok : BlifValue → Read
read_ok m = Ok m

-- a text with this fault
abbrev read_err : BlifError → Read
read_err fault = Err fault

-- a design with this network
abbrev built_ok : Network → Built
built_ok net = Ok net

-- a design with this fault
abbrev built_err : NetError → Built
built_err fault = Err fault

-- one reading has one design
same_design : (m n : BlifValue) → read_ok m ≡ read_ok n → m ≡ n
same_design m n e = cc

-- or one fault
same_fault : (f g : BlifError) → read_err f ≡ read_err g → f ≡ g
same_fault f g e = cc

-- and not both
value_no_fault : (m : BlifValue) (f : BlifError) → read_ok m ≡ read_err f → ⊥
value_no_fault m f e = cc

-- one design has one network
same_net : (m n : Network) → built_ok m ≡ built_ok n → m ≡ n
same_net m n e = cc

-- or one fault
same_net_fault : (f g : NetError) → built_err f ≡ built_err g → f ≡ g
same_net_fault f g e = cc

-- and not both
net_no_fault : (net : Network) (f : NetError) → built_ok net ≡ built_err f → ⊥
net_no_fault net f e = cc

-- a text with a value has no fault
not_both : (text : List ℕ) (m : BlifValue) (f : BlifError) → BlifText text m → BlifFault text f → ⊥
not_both text m f h k = value_no_fault m f (reading_is_unique text (Ok m) (Err f) h k)

-- what two designs of one text give is the same
one_built : (text : List ℕ) (m n : BlifValue) (r s : Built) → BlifText text m → BlifText text n → NetOf m r → NetOf n s → r ≡ s
one_built text m n r s h k at_m at_n =
    let same : m ≡ n = same_design m n (reading_is_unique text (Ok m) (Ok n) h k) in
    let P : BlifValue → Type 0 = λ d. NetOf d r in
    net_is_unique n r s (design_of_text text n k) (subst P same at_m) at_n

-- and no two
pub specification_is_unique : (text : List ℕ) (r s : Specified) → SpecificationOf text r → SpecificationOf text s → r ≡ s
specification_is_unique text (Ok net) (Ok other) h k =
    ap Ok (same_net net other (one_built text h.design k.design (Ok net) (Ok other) h.reads k.reads h.builds k.builds))
specification_is_unique text (Ok net) (Err (Text f)) h k = absurd (not_both text h.design f h.reads k)
specification_is_unique text (Ok net) (Err (NetworkFault f)) h k =
    absurd (net_no_fault net f (one_built text h.design k.0 (Ok net) (Err f) h.reads k.1 h.builds k.2))
specification_is_unique text (Ok net) (Err NoMemory) h k = absurd k
specification_is_unique text (Err (Text f)) (Ok net) h k = absurd (not_both text k.design f k.reads h)
specification_is_unique text (Err (Text f)) (Err (Text g)) h k =
    ap (λ x. Err (Text x)) (same_fault f g (reading_is_unique text (Err f) (Err g) h k))
specification_is_unique text (Err (Text f)) (Err (NetworkFault g)) h k = absurd (not_both text k.0 f k.1 h)
specification_is_unique text (Err (Text f)) (Err NoMemory) h k = absurd k
specification_is_unique text (Err (NetworkFault f)) (Ok net) h k =
    absurd (net_no_fault net f (one_built text k.design h.0 (Ok net) (Err f) k.reads h.1 k.builds h.2))
specification_is_unique text (Err (NetworkFault f)) (Err (Text g)) h k = absurd (not_both text h.0 g h.1 k)
specification_is_unique text (Err (NetworkFault f)) (Err (NetworkFault g)) h k =
    ap (λ x. Err (NetworkFault x)) (same_net_fault f g (one_built text h.0 k.0 (Err f) (Err g) h.1 k.1 h.2 k.2))
specification_is_unique text (Err (NetworkFault f)) (Err NoMemory) h k = absurd k
specification_is_unique text (Err NoMemory) s h k = absurd h
