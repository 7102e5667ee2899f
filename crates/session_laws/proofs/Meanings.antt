-- What the entries of a transcript's journal are.
use Rattle.std.proofs.Common.{◌≡◌, ℕ, ◌+◌, ◌-◌, ◌<◌, List, [], take, Some, sym, ap, subst, ◌∙◌, arith}
use Rattle.std.proofs.lemmas.Option.{none-some, same_Some}
use Rattle.net_defs.specs.Networks.{Network}
use Rattle.net_defs.specs.Nets.{IsNet}
use Rattle.fabric_defs.specs.Geometries.{GeometryValue}
use Rattle.fabric_defs.specs.Configurations.{ConfigValue}
use Rattle.bundle_defs.specs.Bundles.{BundleValue}
use Rattle.verify_defs.specs.Acceptance.{HasConfigFor, AcceptsWith, Accepts}
use Rattle.verify_defs.specs.Deliveries.{HasConfig}
use Rattle.verify_laws.proofs.Parts.{bundle_unique, config_unique, equal_where_accepted}
use Rattle.journal_defs.specs.Journals.{Change, agreed, installed, EntryValue, network_in, spec_at}
use Rattle.journal_defs.specs.Legality.{IsInstallable}
use Rattle.script_defs.specs.declared.command.Command.{Command}
use Rattle.script_defs.specs.declared.command.Command.TheVariants.{Agree, Deliver, Evict, Cycle, Sweep}
use Rattle.script_defs.specs.declared.line.EntryKind.{EntryKind}
use Rattle.script_defs.specs.declared.line.EntryKind.TheVariants.{Agreed, Installed, Evicted}
use Rattle.script_defs.specs.declared.line.Line.{Line}
use Rattle.script_defs.specs.declared.command.FileUse.{FileUse}
use Rattle.script_defs.specs.Scripts.{ScriptValue, IsCommand}
use Rattle.session_defs.specs.Files.{Contents, specification, delivery, DescribesNet, IsDelivery}
use Rattle.session_defs.specs.Meant.{MeansChange, MeansEntry, Meant}
use Rattle.session_defs.specs.Replies.{IsAcceptedAfter, Meets}
use Rattle.session_defs.specs.Transcripts.{slot_of, made}
use Rattle.session_laws.specs.Nets.{DescribeNets}
use Rattle.session_laws.proofs.Places.{IsAgreedIn, place-same, agreed-in}

-- ---- agreed networks

-- an agreement is of a specification
agreed-described : (files : List Contents) (h : List EntryValue) (kind : EntryKind) (slot : ℕ) (command : Command)
    (c : Change) (net : Network) → MeansChange files h kind slot command c → c ≡ agreed net
    → (file : ℕ) × DescribesNet files file net
agreed-described files h Agreed slot command c net m is =
    let same : m.1 ≡ net = same_Some m.1 net (ap network_in (sym m.4 ∙ is)) in
    (m.0, subst (DescribesNet files m.0) same m.3)
agreed-described files h Installed slot command c net m is =
    absurd (none-some net (ap network_in (sym m.8 ∙ is)))
agreed-described files h Evicted slot command c net m is =
    absurd (none-some net (ap network_in (sym m.1 ∙ is)))

-- each agreed network is a net
pub agreed-is_net : (s : ScriptValue) (files : List Contents) (lines : List Line) (h : List EntryValue) (n slot : ℕ)
    (net : Network) → DescribeNets files → Meant s files lines h → spec_at (take n h) slot ≡ Some net → IsNet net
agreed-is_net s files lines h n slot net nets meant spec =
    let from : IsAgreedIn h net = agreed-in h slot net n spec in
    let line = place-same h lines from.0 from.1 meant.as_many from.2 in
    let means : MeansEntry s files (take from.0 h) line.0 from.1 = meant.entries from.0 line.0 from.1 line.1 from.2 in
    let file = agreed-described files (take from.0 h) line.0.kind line.0.slot means.command from.1.change net
    means.change from.3 in
    nets file.0 net file.1

-- ---- installed configurations

-- the bytes of what a file holds
abbrev bytes_of : Contents → List ℕ
bytes_of (specification net) = []
bytes_of (delivery bytes) = bytes

-- the file that a command names
abbrev file_of : Command → ℕ
file_of (Agree slot file) = file
file_of (Deliver slot file) = file
file_of (Evict slot) = 0
file_of (Cycle slot bits probe) = 0
file_of (Sweep slot first count) = 0

-- a bundle's own configuration is the one that was accepted
accepted-own : (g : GeometryValue) (net : Network) (bytes : List ℕ) (k l : ConfigValue) → HasConfig bytes k
    → AcceptsWith g net bytes l → l ≡ k
accepted-own g net bytes k l own accepted =
    let parts = accepted.parts in
    let one : own.bundle ≡ parts.bundle = bundle_unique bytes own.bundle parts.bundle own.text parts.is_bundle.text in
    let fabric : own.bundle.geometry ≡ g = ap (λ (b : BundleValue). b.geometry) one ∙ parts.is_bundle.geometry in
    let reads : HasConfigFor g parts.bundle k =
    subst (λ b. HasConfigFor g b k) one (subst (λ f. HasConfigFor f own.bundle k) fabric own.reads) in
    config_unique g parts.bundle.config l k parts.has_config reads

-- the configuration of an accepted bundle may be installed
installable : (g : GeometryValue) (net : Network) (bytes : List ℕ) (config : ConfigValue) (h : List EntryValue) (slot : ℕ)
    → IsNet net → HasConfig bytes config → Accepts g net bytes → spec_at h slot ≡ Some net
    → IsInstallable g h slot net config
installable g net bytes config h slot is_net own accepted spec =
    let same : accepted.0 ≡ config = accepted-own g net bytes config accepted.0 own accepted.1 in
    let with_own : AcceptsWith g net bytes config = subst (AcceptsWith g net bytes) same accepted.1 in
    record {
      same = spec;
      geometry = ap (λ (k : ConfigValue). k.geometry) with_own.parts.has_config.2;
      equal = equal_where_accepted g net bytes config is_net with_own;
    }

-- what was delivered is what was accepted for the agreed network
accepts-these : (g : GeometryValue) (files : List Contents) (h : List EntryValue) (slot file : ℕ) (net : Network)
    (bytes : List ℕ) → IsDelivery files file bytes → spec_at h slot ≡ Some net
    → ((other : Network) × (others : List ℕ) × (spec_at h slot ≡ Some other) × IsDelivery files file others × Accepts g other others)
    → Accepts g net bytes
accepts-these g files h slot file net bytes delivered spec accepted =
    let one_net : accepted.0 ≡ net = same_Some accepted.0 net (sym accepted.2 ∙ spec) in
    let one_text : accepted.1 ≡ bytes =
    ap bytes_of (same_Some (delivery accepted.1) (delivery bytes) (sym accepted.3 ∙ delivered)) in
    subst (Accepts g net) one_text (subst (λ n. Accepts g n accepted.1) one_net accepted.4)

-- an installed configuration is equal to the network, because its bundle was accepted for it at this place
pub installed-follows : (g : GeometryValue) (limit : ℕ) (files : List Contents) (h : List EntryValue) (p slot : ℕ)
    (command : Command) (c : Change)
    → ((net : Network) → spec_at (take p h) slot ≡ Some net → IsNet net)
    → MeansChange files (take p h) Installed slot command c
    → Meets g limit files h command (made Installed (p + 1))
    → (net : Network) × (config : ConfigValue) × (c ≡ installed net config) × IsInstallable g (take p h) slot net config
installed-follows g limit files h p slot command c nets m meets =
    let same_place : p + 1 - 1 ≡ p = omega arith in
    let met : IsAcceptedAfter g files h p slot m.0 =
    subst (λ n. IsAcceptedAfter g files h n slot m.0) same_place
    (subst (λ d. Meets g limit files h d (made Installed (p + 1))) m.4 meets) in
    let accepted : Accepts g m.2 m.1 = accepts-these g files (take p h) slot m.0 m.2 m.1 m.5 m.7 met in
    (m.2, m.3, m.8, installable g m.2 m.1 m.3 (take p h) slot (nets m.2 m.7) m.6 accepted m.7)

-- ---- slots

-- a command of a script names a slot that the device has
pub slot-within : (g : GeometryValue) (slots : ℕ) (uses : List FileUse) (c : Command) → IsCommand g slots uses c
    → slot_of c < slots
slot-within g slots uses (Agree slot file) is = is.0
slot-within g slots uses (Deliver slot file) is = is.0
slot-within g slots uses (Evict slot) is = is
slot-within g slots uses (Cycle slot bits probe) is = is.0
slot-within g slots uses (Sweep slot first count) is = is.0
