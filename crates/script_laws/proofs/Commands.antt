-- What a line says is within the bounds of the device.
use Rattle.std.proofs.Common.{◌≡◌, ℕ, ◌<◌, ◌≤◌, Bool, true, false, cond, ◌&&◌, List, [], ◌∷◌, length, map, Option, Some, None, refl, ap, subst, ◌∙◌, ◌⊎◌, inl, inr, ⊎_elim, arith}
use Rattle.std.specs.Prelude.{◌-◌, nat_lt, nat_le, ◌==◌, ◌^◌, codes}
use Rattle.std.specs.List.{list_all}
use Rattle.std.specs.Option.{option_map}
use Rattle.std.specs.Str.{bytes_eq}
use Rattle.std.proofs.lemmas.Bool.Decides.{nat_tests}
use Rattle.std.proofs.lemmas.List.{length-map}
use Rattle.clause_defs.specs.Clauses.{Has}
use Rattle.text_defs.specs.Numbers.{number_in, number_within, positive_within}
use Rattle.text_defs.proofs.NumberLemmas.{at_most-some, at_least_one-some}
use Rattle.fabric_defs.specs.Bits.{AreBits}
use Rattle.fabric_defs.specs.declared.kind.CellKind.TheVariants.{FourInputs}
use Rattle.fabric_defs.specs.declared.limits.TheConstants.{MAX_SIDE, MAX_TRACKS}
use Rattle.fabric_defs.specs.Geometries.{GeometryValue, IsGeometry, cell_count}
use Rattle.script_defs.specs.declared.command.Kind.{Kind}
use Rattle.script_defs.specs.declared.command.Kind.TheVariants.{Spec, Bundle}
use Rattle.script_defs.specs.declared.command.FileUse.{FileUse}
use Rattle.script_defs.specs.declared.command.Command.TheVariants.{Evict, Cycle, Sweep}
use Rattle.script_defs.specs.declared.limits.TheConstants.{MAX_SLOTS, MAX_JOURNAL, MAX_WORKERS, MAX_SWEEP}
use Rattle.script_defs.specs.Scripts.{IsCommand}
use Rattle.script_defs.specs.Commands.{below, number_below, max_long, is_bit_byte, bit_in, are_bits, bits_in, fabric_with, fabric_in, fabric_line, only_count, count_line, Said, plain, named, named_with, named_by, evict_by, cycle_with, cycle_by, sweep_with, sweep_by, said_by}
use Rattle.script_defs.specs.Reading.{Head, nothing, to_fabric, to_slots, to_limit, whole, next_head}

-- ---- tests and options

-- a test that let a value through
chosen : {X : Type 0} (b : Bool) (o : Option X) (x : X) → cond b o None ≡ Some x → (b ≡ true) × (o ≡ Some x)
chosen true o x h = (refl, h)
chosen false o x h = absurd cc

-- a value of one of two
either : {X : Type 0} (b : Bool) (o p : Option X) (x : X) → cond b o p ≡ Some x → (o ≡ Some x) ⊎ (p ≡ Some x)
either true o p x h = inl h
either false o p x h = inr h

-- a value that was mapped
mapped : {X Y : Type 0} (f : X → Y) (o : Option X) (y : Y) → option_map f o ≡ Some y → (x : X) × (o ≡ Some x) × (f x ≡ y)
mapped f None y h = absurd cc
mapped f (Some x) y h = (x, refl, cc)

-- what two equal options hold is equal
some_is : {X : Type 0} (x y : X) → Some x ≡ Some y → x ≡ y
some_is x y e = cc

-- a conjunction that holds has both its parts
both : (a b : Bool) → (a && b) ≡ true → (a ≡ true) × (b ≡ true)
both true b e = (refl, e)
both false b e = absurd cc

-- ---- numbers and bits

-- a number from 1 on is within its limit
positive_bounds : (max n : ℕ) (w : List ℕ) → positive_within max w ≡ Some n → (1 ≤ n) × (n ≤ max)
positive_bounds max n w h =
    let p = at_least_one-some n (number_within max w) h in
    let q = at_most-some max n (number_in w) p.0 in
    (p.1, q.1)

-- where there is a number below the bound, it is below it
below-some : (bound n : ℕ) (o : Option ℕ) → below bound o ≡ Some n → n < bound
below-some bound n None h = absurd cc
below-some bound n (Some m) h =
    let c = chosen (nat_lt m bound) (Some m) n h in
    let same : m ≡ n = some_is m n c.1 in
    lesser m n bound c.0 same
  where
    lesser : (m n bound : ℕ) → nat_lt m bound ≡ true → m ≡ n → n < bound
    lesser m n bound e same = grind (arith, nat_tests)

-- a number below a bound is below it
below_bound : (bound n : ℕ) (w : List ℕ) → number_below bound w ≡ Some n → n < bound
below_bound bound n w h = below-some bound n (number_in w) h

-- what a byte spells is at most 1
bit_in-le : (b : Bool) → cond b 1 0 ≤ 1
bit_in-le true = omega arith
bit_in-le false = omega arith

-- what bytes spell are bits
bits-map : (w : List ℕ) → AreBits (map bit_in w)
bits-map [] b h = absurd h
bits-map (c ∷ cs) b (inl e) = subst (λ (n : ℕ). n ≤ 1) e (bit_in-le (c == 49))
bits-map (c ∷ cs) b (inr h) = bits-map cs b h

-- where a word spells no bits, they are bits, and at most 64
bits-none : (bits : List ℕ) → Some [] ≡ Some bits → AreBits bits × (length bits ≤ 64)
bits-none bits e =
    let same : [] ≡ bits = some_is [] bits e in
    subst (λ (x : List ℕ). AreBits x × (length x ≤ 64)) same (λ b h. absurd h, omega arith)

-- where it spells some, they are bits, and at most 64
bits-some : (w bits : List ℕ) → cond (are_bits w) (Some (map bit_in w)) None ≡ Some bits → AreBits bits × (length bits ≤ 64)
bits-some w bits e =
    let c = chosen (are_bits w) (Some (map bit_in w)) bits e in
    let same : map bit_in w ≡ bits = some_is (map bit_in w) bits c.1 in
    let p = both (nat_le 1 (length w) && nat_le (length w) 64) (list_all is_bit_byte w) c.0 in
    let q = both (nat_le 1 (length w)) (nat_le (length w) 64) p.0 in
    let short : length w ≤ 64 = few (length w) q.1 in
    let size : length (map bit_in w) ≤ 64 = rw (length-map w bit_in) short in
    subst (λ (x : List ℕ). AreBits x × (length x ≤ 64)) same (bits-map w, size)
  where
    few : (n : ℕ) → nat_le n 64 ≡ true → n ≤ 64
    few n e = grind (arith, nat_tests)

-- a word of bits has at most 64
bits_bounds : (w bits : List ℕ) → bits_in w ≡ Some bits → AreBits bits × (length bits ≤ 64)
bits_bounds w bits h =
    ⊎_elim (bits-none bits) (bits-some w bits) (either (bytes_eq w (codes "-")) (Some []) (cond (are_bits w) (Some (map bit_in w)) None) bits h)

-- ---- what is said

-- what a line says names a slot of the device, and is within the other bounds
abbrev pub IsSaid : GeometryValue → ℕ → Said → Type 0
IsSaid g count (plain c) = (files : List FileUse) → IsCommand g count files c
IsSaid g count (named kind slot name) = slot < count

-- a line that names a file is within the bounds, if its slot is one of the device
named_with-bounds : (g : GeometryValue) (count : ℕ) (kind : Kind) (name : List ℕ) (o : Option ℕ) (said : Said) → ((n : ℕ) → o ≡ Some n → n < count)
    → named_with kind o name ≡ Some said → IsSaid g count said
named_with-bounds g count kind name None said slot h = absurd cc
named_with-bounds g count kind name (Some s) said slot h =
    subst (IsSaid g count) (some_is (named kind s name) said h) (slot s refl)

-- so what `SLOT FILE` says is within the bounds
named_bounds : (g : GeometryValue) (count : ℕ) (kind : Kind) (more : List (List ℕ)) (said : Said) → named_by kind count more ≡ Some said → IsSaid g count said
named_bounds g count kind [] said h = absurd cc
named_bounds g count kind (slot ∷ []) said h = absurd cc
named_bounds g count kind (slot ∷ name ∷ []) said h =
    named_with-bounds g count kind name (number_below count slot) said (λ n e. below_bound count n slot e) h
named_bounds g count kind (slot ∷ name ∷ more ∷ rest) said h = absurd cc

-- what `SLOT` says is within the bounds
evict_bounds : (g : GeometryValue) (count : ℕ) (more : List (List ℕ)) (said : Said) → evict_by count more ≡ Some said → IsSaid g count said
evict_bounds g count [] said h = absurd cc
evict_bounds g count (slot ∷ []) said h =
    let m = mapped (λ s. plain (Evict s)) (number_below count slot) said h in
    subst (IsSaid g count) m.2 (λ files. below_bound count m.0 slot m.1)
evict_bounds g count (slot ∷ more ∷ rest) said h = absurd cc

-- a cycle is within the bounds, if its slot, its bits and its probe are
cycle_with-bounds : (g : GeometryValue) (count : ℕ) (s : Option ℕ) (bits : Option (List ℕ)) (probe : Option ℕ) (said : Said)
    → ((n : ℕ) → s ≡ Some n → n < count) → ((b : List ℕ) → bits ≡ Some b → AreBits b × (length b ≤ 64)) → ((n : ℕ) → probe ≡ Some n → n < cell_count g)
    → cycle_with s bits probe ≡ Some said → IsSaid g count said
cycle_with-bounds g count None bits probe said hs hb hp h = absurd cc
cycle_with-bounds g count (Some s) None probe said hs hb hp h = absurd cc
cycle_with-bounds g count (Some s) (Some b) None said hs hb hp h = absurd cc
cycle_with-bounds g count (Some s) (Some b) (Some p) said hs hb hp h =
    let kb = hb b refl in
    subst (IsSaid g count) (some_is (plain (Cycle s b p)) said h) (λ files. (hs s refl, kb.0, kb.1, hp p refl))

-- so what `SLOT BITS PROBE` says is within the bounds
cycle_bounds : (g : GeometryValue) (count : ℕ) (more : List (List ℕ)) (said : Said) → cycle_by count (cell_count g) more ≡ Some said → IsSaid g count said
cycle_bounds g count [] said h = absurd cc
cycle_bounds g count (slot ∷ []) said h = absurd cc
cycle_bounds g count (slot ∷ bits ∷ []) said h = absurd cc
cycle_bounds g count (slot ∷ bits ∷ probe ∷ []) said h =
    cycle_with-bounds g count (number_below count slot) (bits_in bits) (number_below (cell_count g) probe) said
    (λ n e. below_bound count n slot e) (λ b e. bits_bounds bits b e) (λ n e. below_bound (cell_count g) n probe e) h
cycle_bounds g count (slot ∷ bits ∷ probe ∷ more ∷ rest) said h = absurd cc

-- a sweep is within the bounds, if its slot, its first value and its count are
sweep_with-bounds : (g : GeometryValue) (count : ℕ) (s first size : Option ℕ) (said : Said)
    → ((n : ℕ) → s ≡ Some n → n < count) → ((n : ℕ) → first ≡ Some n → n < 2 ^ 64) → ((n : ℕ) → size ≡ Some n → (1 ≤ n) × (n ≤ MAX_SWEEP))
    → sweep_with s first size ≡ Some said → IsSaid g count said
sweep_with-bounds g count None first size said hs hf hc h = absurd cc
sweep_with-bounds g count (Some s) None size said hs hf hc h = absurd cc
sweep_with-bounds g count (Some s) (Some f) None said hs hf hc h = absurd cc
sweep_with-bounds g count (Some s) (Some f) (Some c) said hs hf hc h =
    let kc = hc c refl in
    subst (IsSaid g count) (some_is (plain (Sweep s f c)) said h) (λ files. (hs s refl, hf f refl, kc.0, kc.1))

-- the greatest number of 64 bits is below 2 ^ 64
long_bound : (n : ℕ) (w : List ℕ) → number_within max_long w ≡ Some n → n < 2 ^ 64
long_bound n w h = let le : n ≤ 2 ^ 64 - 1 = (at_most-some max_long n (number_in w) h).1 in omega arith

-- so what `SLOT FIRST COUNT` says is within the bounds
sweep_bounds : (g : GeometryValue) (count : ℕ) (more : List (List ℕ)) (said : Said) → sweep_by count more ≡ Some said → IsSaid g count said
sweep_bounds g count [] said h = absurd cc
sweep_bounds g count (slot ∷ []) said h = absurd cc
sweep_bounds g count (slot ∷ first ∷ []) said h = absurd cc
sweep_bounds g count (slot ∷ first ∷ size ∷ []) said h =
    sweep_with-bounds g count (number_below count slot) (number_within max_long first) (positive_within MAX_SWEEP size) said
    (λ n e. below_bound count n slot e) (λ n e. long_bound n first e) (λ n e. positive_bounds MAX_SWEEP n size e) h
sweep_bounds g count (slot ∷ first ∷ size ∷ more ∷ rest) said h = absurd cc

-- what a line with a command says is within the bounds
pub said_bounds : (g : GeometryValue) (count : ℕ) (first : List ℕ) (more : List (List ℕ)) (said : Said) → said_by count (cell_count g) first more ≡ Some said
    → IsSaid g count said
said_bounds g count first more said h =
    let sweeps = cond (bytes_eq first (codes "sweep")) (sweep_by count more) None in
    let cycles = cond (bytes_eq first (codes "cycle")) (cycle_by count (cell_count g) more) sweeps in
    let evicts = cond (bytes_eq first (codes "evict")) (evict_by count more) cycles in
    let delivers = cond (bytes_eq first (codes "deliver")) (named_by Bundle count more) evicts in
    ⊎_elim (named_bounds g count Spec more said)
    (λ h. ⊎_elim (named_bounds g count Bundle more said)
    (λ h. ⊎_elim (evict_bounds g count more said)
    (λ h. ⊎_elim (cycle_bounds g count more said)
    (λ h. sweep_bounds g count more said (chosen (bytes_eq first (codes "sweep")) (sweep_by count more) said h).1)
    (either (bytes_eq first (codes "cycle")) (cycle_by count (cell_count g) more) sweeps said h))
    (either (bytes_eq first (codes "evict")) (evict_by count more) cycles said h))
    (either (bytes_eq first (codes "deliver")) (named_by Bundle count more) evicts said h))
    (either (bytes_eq first (codes "agree")) (named_by Spec count more) delivers said h)

-- ---- the lines in front of the lanes

-- a fabric whose cells have four inputs
pub record IsFour (g : GeometryValue) : Type 0 where
  pub geometry : IsGeometry g
  pub kind : g.kind ≡ FourInputs

-- what the lines in front of the lanes say is within the limits
abbrev pub IsHead : Head → Type 0
IsHead nothing = Unit {0}
IsHead (to_fabric g) = IsFour g
IsHead (to_slots g s) = IsFour g × (1 ≤ s) × (s ≤ MAX_SLOTS)
IsHead (to_limit g s l) = IsFour g × (1 ≤ s) × (s ≤ MAX_SLOTS) × (1 ≤ l) × (l ≤ MAX_JOURNAL)
IsHead (whole g s l w) =
    IsFour g × (1 ≤ s) × (s ≤ MAX_SLOTS) × (1 ≤ l) × (l ≤ MAX_JOURNAL) × (1 ≤ w) × (w ≤ MAX_WORKERS)

-- the number is there only within this limit
abbrev WithinLimit : ℕ → Option ℕ → Type 0
WithinLimit max o = (n : ℕ) → o ≡ Some n → (1 ≤ n) × (n ≤ max)

-- numbers within their limits give a fabric whose cells have four inputs
fabric_with-four : (c r t i o : Option ℕ) (g : GeometryValue) → WithinLimit MAX_SIDE c → WithinLimit MAX_SIDE r → WithinLimit MAX_TRACKS t → WithinLimit MAX_SIDE i → WithinLimit MAX_SIDE o
    → fabric_with c r t i o ≡ Some g → IsFour g
fabric_with-four None r t i o g hc hr ht hi ho h = absurd cc
fabric_with-four (Some c) None t i o g hc hr ht hi ho h = absurd cc
fabric_with-four (Some c) (Some r) None i o g hc hr ht hi ho h = absurd cc
fabric_with-four (Some c) (Some r) (Some t) None o g hc hr ht hi ho h = absurd cc
fabric_with-four (Some c) (Some r) (Some t) (Some i) None g hc hr ht hi ho h = absurd cc
fabric_with-four (Some c) (Some r) (Some t) (Some i) (Some o) g hc hr ht hi ho h =
    let value : GeometryValue = record { kind = FourInputs; columns = c; rows = r; tracks = t; input_pads = i; output_pads = o } in
    let kc = hc c refl in
    let kr = hr r refl in
    let kt = ht t refl in
    let ki = hi i refl in
    let ko = ho o refl in
    subst IsFour (some_is value g h) (record {
      geometry = record {
        some_columns = kc.0;
        columns = kc.1;
        some_rows = kr.0;
        rows = kr.1;
        some_tracks = kt.0;
        tracks = kt.1;
        some_input_pads = ki.0;
        input_pads = ki.1;
        some_output_pads = ko.0;
        output_pads = ko.1;
      };
      kind = refl;
    })

-- and so do words that spell such numbers
fabric_in-four : (words : List (List ℕ)) (g : GeometryValue) → fabric_in words ≡ Some g → IsFour g
fabric_in-four [] g h = absurd cc
fabric_in-four (c ∷ []) g h = absurd cc
fabric_in-four (c ∷ r ∷ []) g h = absurd cc
fabric_in-four (c ∷ r ∷ t ∷ []) g h = absurd cc
fabric_in-four (c ∷ r ∷ t ∷ i ∷ []) g h = absurd cc
fabric_in-four (c ∷ r ∷ t ∷ i ∷ o ∷ []) g h =
    fabric_with-four (positive_within MAX_SIDE c) (positive_within MAX_SIDE r) (positive_within MAX_TRACKS t) (positive_within MAX_SIDE i) (positive_within MAX_SIDE o) g
    (λ n e. positive_bounds MAX_SIDE n c e) (λ n e. positive_bounds MAX_SIDE n r e) (λ n e. positive_bounds MAX_TRACKS n t e)
    (λ n e. positive_bounds MAX_SIDE n i e) (λ n e. positive_bounds MAX_SIDE n o e) h
fabric_in-four (c ∷ r ∷ t ∷ i ∷ o ∷ more ∷ rest) g h = absurd cc

-- the number that an only word spells is from 1 to its limit
only_count-bounds : (max n : ℕ) (words : List (List ℕ)) → only_count max words ≡ Some n → (1 ≤ n) × (n ≤ max)
only_count-bounds max n [] h = absurd cc
only_count-bounds max n (word ∷ []) h = positive_bounds max n word h
only_count-bounds max n (word ∷ more ∷ rest) h = absurd cc

-- and so is the number that a line has behind its first word
count_bounds : (word : List ℕ) (max n : ℕ) (first : List ℕ) (more : List (List ℕ)) → count_line word max first more ≡ Some n → (1 ≤ n) × (n ≤ max)
count_bounds word max n first more h = only_count-bounds max n more (chosen (bytes_eq first word) (only_count max more) n h).1

-- the next of these lines is within the limits, too
pub next_head-bounds : (head next : Head) (first : List ℕ) (more : List (List ℕ)) → IsHead head → next_head head first more ≡ Some next → IsHead next
next_head-bounds nothing next first more is h =
    let m = mapped to_fabric (fabric_line first more) next h in
    subst IsHead m.2 (fabric_in-four more m.0 (chosen (bytes_eq first (codes "fabric")) (fabric_in more) m.0 m.1).1)
next_head-bounds (to_fabric g) next first more is h =
    let m = mapped (to_slots g) (count_line (codes "slots") MAX_SLOTS first more) next h in
    let b = count_bounds (codes "slots") MAX_SLOTS m.0 first more m.1 in
    subst IsHead m.2 (is, b.0, b.1)
next_head-bounds (to_slots g s) next first more is h =
    let m = mapped (to_limit g s) (count_line (codes "limit") MAX_JOURNAL first more) next h in
    let b = count_bounds (codes "limit") MAX_JOURNAL m.0 first more m.1 in
    subst IsHead m.2 (is.0, is.1, is.2, b.0, b.1)
next_head-bounds (to_limit g s l) next first more is h =
    let m = mapped (whole g s l) (count_line (codes "workers") MAX_WORKERS first more) next h in
    let b = count_bounds (codes "workers") MAX_WORKERS m.0 first more m.1 in
    subst IsHead m.2 (is.0, is.1, is.2, is.3, is.4, b.0, b.1)
next_head-bounds (whole g s l w) next first more is h = absurd cc
