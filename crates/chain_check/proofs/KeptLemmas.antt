-- How a write to one number, or a new number for the step, changes what the marks hold.
use Rattle.std.proofs.Common.{◌≡◌, ◌≢◌, ℕ, ◌+◌, ◌-◌, ◌*◌, ◌<◌, ◌≤◌, ◌↔◌, ◌⊎◌, inl, inr, Bool, true, false, if◌then◌else◌, List, [], length, get_or, set, replicate, refl, sym, ◌∙◌, ap, subst, arith, length-set, get_or-set_same, get_or-set_other}
use Rattle.std.proofs.lemmas.Bool.{cases_eq, cases_lt}
use Rattle.std.proofs.lemmas.Bool.Decides.{nat_tests}
use Rattle.std.proofs.lemmas.List.{length-replicate, get_or_read, get_or-replicate, get_or_past}
use Rattle.clause_defs.specs.Literals.{Literal, code}
use Rattle.clause_defs.specs.Clauses.{Lits, Has}
use Rattle.chain_check.specs.Marks.{literals_where, is_running, is_fresh, IsKept}
use Rattle.chain_check.proofs.MarkLemmas.{one_if, Has-literals_where, Has-set_passing, Has-set_failing, length-literals_set, literals_where-set_same, literals_where-none, length-literals_le, length-literals_add}

-- the marks have a number for each literal of their variables
code_within : (l : Literal) (variables : ℕ) → l.variable ≤ variables → code l < 2 * variables + 2
code_within l variables h = at_sign l.variable l.positive h
  where
    at_sign : (v : ℕ) (b : Bool) → v ≤ variables → 2 * v + (if b then 1 else 0) < 2 * variables + 2
    at_sign v true k = omega arith
    at_sign v false k = omega arith

-- a number from the chain's first one to before the step's marks a literal of the running clause
running_true : (first current n : ℕ) → first ≤ n → n < current → is_running first current n ≡ true
running_true first current n h k = grind (arith, nat_tests)

-- a literal of the running clause has a number from the chain's first one to before the step's
running_within : (first current n : ℕ) → is_running first current n ≡ true → (first ≤ n) × (n < current)
running_within first current n h = grind (arith, nat_tests)

-- a number from before the chain marks no literal of the running clause
running_below : (first current n : ℕ) → n < first → is_running first current n ≡ false
running_below first current n h = grind (arith, nat_tests)

-- the step's number marks no literal of the running clause
running_above : (first current n : ℕ) → current ≤ n → is_running first current n ≡ false
running_above first current n h = grind (arith, nat_tests)

-- the step's number marks a literal that the step adds
fresh_true : (current n : ℕ) → n ≡ current → is_fresh current n ≡ true
fresh_true current n h = grind (arith, nat_tests)

-- no other number marks a literal that the step adds
fresh_false : (current n : ℕ) → n ≢ current → is_fresh current n ≡ false
fresh_false current n h = grind (arith, nat_tests)

-- a literal that the step adds has the step's number
fresh_is : (current n : ℕ) → is_fresh current n ≡ true → n ≡ current
fresh_is current n h = grind (arith, nat_tests)

-- numbers of which none is later than the step's stay so
none_later_set : (ns : List ℕ) (place n current : ℕ) → n ≤ current → ((k : ℕ) → get_or ns k 0 ≤ current)
    → (k : ℕ) → get_or (set ns place n) k 0 ≤ current
none_later_set ns place n current small all k =
    elim (cases_eq k place) [
      | inr ne ↦ subst (λ m. m ≤ current) (sym (get_or-set_other ns place k n 0 ne)) (all k)
      | inl e ↦ elim (cases_lt k (length ns)) [
        | inl lt ↦ subst (λ m. m ≤ current) (sym (ap (λ j. get_or (set ns place n) j 0) e ∙ get_or-set_same ns place n 0 (omega arith))) small
        | inr past ↦ subst (λ m. m ≤ current) (sym (get_or_past (set ns place n) k 0 (let len = length-set ns place n in omega arith))) (omega arith)
      ]
    ]

module _ (variables : ℕ) (ns : List ℕ) (first current count : ℕ) (kept : IsKept variables ns first current count) where
  -- the next step's number makes the step's literals part of the running clause
  running_next : (n : ℕ) → one_if (is_running first (current + 1) n) ≡ one_if (is_running first current n) + one_if (is_fresh current n)
  running_next n =
      elim (cases_lt n first) [
        | inl low ↦ rw (running_below first (current + 1) n low, running_below first current n low, fresh_false current n (λ e. let o : first ≤ current = kept.in_order in absurd (omega arith))) refl
        | inr high ↦ elim (cases_lt n current) [
          | inl before ↦ rw (running_true first (current + 1) n high (omega arith), running_true first current n high before, fresh_false current n (λ e. absurd (omega arith))) refl
          | inr at_or_after ↦ elim (cases_eq n current) [
            | inl e ↦ rw (running_true first (current + 1) n high (omega arith), running_above first current n at_or_after, fresh_true current n e) refl
            | inr ne ↦ rw (running_above first (current + 1) n (omega arith), running_above first current n at_or_after, fresh_false current n ne) refl
          ]
        ]
      ]

  -- no number is the next one
  pub fresh_next : literals_where (is_fresh (current + 1)) 0 ns ≡ []
  fresh_next = literals_where-none (is_fresh (current + 1)) 0 ns (λ k lt. let small : get_or ns k 0 ≤ current = kept.none_later k in
      fresh_false (current + 1) (get_or ns k 0) (λ e. absurd (omega arith)))

  -- a chain that starts with the next number starts with nothing
  pub running_none : literals_where (is_running (current + 1) (current + 1)) 0 ns ≡ []
  running_none = literals_where-none (is_running (current + 1) (current + 1)) 0 ns (λ k lt. let small : get_or ns k 0 ≤ current = kept.none_later k in
      running_below (current + 1) (current + 1) (get_or ns k 0) (omega arith))

  -- a later first number takes all literals out
  pub kept_cleared : IsKept variables ns (current + 1) (current + 1) 0
  kept_cleared = record {
    size = kept.size;
    started = omega arith;
    in_order = omega arith;
    none_later = λ k. let small : get_or ns k 0 ≤ current = kept.none_later k in omega arith;
    counted = sym (ap length running_none);
  }

  module _ (r f : Lits) (is_r : literals_where (is_running first current) 0 ns ≡ r) (is_f : literals_where (is_fresh current) 0 ns ≡ f) where
    -- the literals that the step added count with those of the running clause
    settled_count : (added : ℕ) → added ≡ length f → count + added ≡ length (literals_where (is_running first (current + 1)) 0 ns)
    settled_count added e =
        let sum = length-literals_add (is_running first current) (is_fresh current) (is_running first (current + 1)) running_next 0 ns in
        let a : count ≡ length (literals_where (is_running first current) 0 ns) = kept.counted in
        let b : length (literals_where (is_fresh current) 0 ns) ≡ length f = ap length is_f in omega arith

    -- with the next number, what the step added stands in the running clause
    pub kept_settled : (added : ℕ) → added ≡ length f → IsKept variables ns first (current + 1) (count + added)
    kept_settled added e = record {
      size = kept.size;
      started = kept.started;
      in_order = let o : first ≤ current = kept.in_order in omega arith;
      none_later = λ k. let small : get_or ns k 0 ≤ current = kept.none_later k in omega arith;
      counted = settled_count added e;
    }

    -- the counts stay below the number of literals
    pub settled_bound : (added : ℕ) → added ≡ length f → count + added ≤ length ns
    settled_bound added e =
        let a = settled_count added e in
        let b = length-literals_le (is_running first (current + 1)) 0 ns in omega arith

    -- the running clause after the step has the literals that were there and those that the step added
    pub Has-settled : (x : Literal) → Has (literals_where (is_running first (current + 1)) 0 ns) x ↔ (Has r x ⊎ Has f x)
    Has-settled x = (
      λ h. let p = (Has-literals_where (is_running first (current + 1)) ns x).0 h in
          let w = running_within first (current + 1) (get_or ns (code x) 0) p.1 in
          elim (cases_eq (get_or ns (code x) 0) current) [
            | inl e ↦ inr (subst (λ c. Has c x) is_f ((Has-literals_where (is_fresh current) ns x).1 (p.0, fresh_true current (get_or ns (code x) 0) e)))
            | inr ne ↦ inl (subst (λ c. Has c x) is_r ((Has-literals_where (is_running first current) ns x).1 (p.0, running_true first current (get_or ns (code x) 0) w.0 (omega (arith, w.1)))))
          ],
      λ h. elim h [
        | inl k ↦ let p = (Has-literals_where (is_running first current) ns x).0 (subst (λ c. Has c x) (sym is_r) k) in
            let w = running_within first current (get_or ns (code x) 0) p.1 in
            (Has-literals_where (is_running first (current + 1)) ns x).1 (p.0, running_true first (current + 1) (get_or ns (code x) 0) w.0 (omega (arith, w.1)))
        | inr k ↦ let p = (Has-literals_where (is_fresh current) ns x).0 (subst (λ c. Has c x) (sym is_f) k) in
            let e = fresh_is current (get_or ns (code x) 0) p.1 in
            let o : first ≤ current = kept.in_order in
            (Has-literals_where (is_running first (current + 1)) ns x).1 (p.0, running_true first (current + 1) (get_or ns (code x) 0) (omega arith) (omega arith))
      ],
    )

    module _ (l : Literal) (within : l.variable ≤ variables) (place n : ℕ) (at : place ≡ code l) (read : n ≡ get_or ns place n) where
      -- the literal has a number
      inside : code l < length ns
      inside = let a = code_within l variables within in let b = kept.size in omega arith

      -- its number stands at the place of its code
      number_is : get_or ns (code l) 0 ≡ n
      number_is = sym (get_or_read ns place n (let i = inside in omega arith) read 0 ∙ ap (λ j. get_or ns j 0) at)

      -- its number is at most the step's
      pub number_small : n ≤ current
      number_small = subst (λ m. m ≤ current) number_is (kept.none_later (code l))

      -- the running clause has the literal where its number is in the chain's range
      pub Has-running : Has r l ↔ ((first ≤ n) × (n < current))
      Has-running = (
        λ h. running_within first current n (ap (is_running first current) (sym number_is) ∙ ((Has-literals_where (is_running first current) ns l).0 (subst (λ c. Has c l) (sym is_r) h)).1),
        λ h. subst (λ c. Has c l) is_r ((Has-literals_where (is_running first current) ns l).1 (inside, ap (is_running first current) number_is ∙ running_true first current n h.0 h.1)),
      )

      -- the step has added the literal where its number is the step's
      pub Has-fresh : n ≡ current → Has f l
      Has-fresh e = subst (λ c. Has c l) is_f ((Has-literals_where (is_fresh current) ns l).1 (inside, ap (is_fresh current) number_is ∙ fresh_true current n e))

      -- a literal with a number from before the chain is added
      pub kept_added : n < first → IsKept variables (set ns place current) first current count
      kept_added low = record {
        size = length-set ns place current ∙ kept.size;
        started = kept.started;
        in_order = kept.in_order;
        none_later = none_later_set ns place current current (omega arith) kept.none_later;
        counted = kept.counted ∙ ap length (sym (running_same low));
      }
        where
          -- a number that marks no literal of the running clause, exchanged for the step's, changes nothing in it
          running_same : n < first → literals_where (is_running first current) 0 (set ns place current) ≡ literals_where (is_running first current) 0 ns
          running_same low = literals_where-set_same (is_running first current) 0 ns place current
              (ap (λ j. is_running first current (get_or ns j 0)) at ∙ ap (is_running first current) number_is ∙ running_below first current n low ∙ sym (running_above first current current (omega arith)))

      -- so the running clause stays as it is where the step adds a literal
      pub running_added : n < first → literals_where (is_running first current) 0 (set ns place current) ≡ r
      running_added low = literals_where-set_same (is_running first current) 0 ns place current
          (ap (λ j. is_running first current (get_or ns j 0)) at ∙ ap (is_running first current) number_is ∙ running_below first current n low ∙ sym (running_above first current current (omega arith))) ∙ is_r

      -- a literal with an earlier number doesn't stand in the running clause
      pub not_running : n < first → Has r l → ⊥
      not_running low h = let w = Has-running.0 h in omega (arith, w.0)

      -- the step has added the literal, where it doesn't stand in the running clause
      pub Has-added : n < first → (x : Literal)
          → Has (literals_where (is_fresh current) 0 (set ns place current)) x ↔ (Has f x ⊎ ((x ≡ l) × (Has r x → ⊥)))
      Has-added low x =
          let split = Has-set_passing (is_fresh current) ns l current inside (fresh_true current current refl) x in
          let same : literals_where (is_fresh current) 0 (set ns place current) ≡ literals_where (is_fresh current) 0 (set ns (code l) current) =
          ap (λ j. literals_where (is_fresh current) 0 (set ns j current)) at in (
            λ h. elim (split.0 (subst (λ c. Has c x) same h)) [
              | inl k ↦ inl (subst (λ c. Has c x) is_f k)
              | inr e ↦ inr (e, λ k. not_running low (subst (Has r) e k))
            ],
            λ h. subst (λ c. Has c x) (sym same) (elim h [
              | inl k ↦ split.1 (inl (subst (λ c. Has c x) (sym is_f) k))
              | inr k ↦ split.1 (inr k.0)
            ]),
          )

      -- the step has added one literal more
      pub length-added : n < first → length (literals_where (is_fresh current) 0 (set ns place current)) ≡ length f + 1
      length-added low =
          let change = length-literals_set (is_fresh current) 0 ns (code l) current inside in
          let same : length (literals_where (is_fresh current) 0 (set ns place current)) ≡ length (literals_where (is_fresh current) 0 (set ns (code l) current)) =
          ap (λ j. length (literals_where (is_fresh current) 0 (set ns j current))) at in
          let old : one_if (is_fresh current (get_or ns (code l) 0)) ≡ 0 =
          ap (λ m. one_if (is_fresh current m)) number_is ∙ ap one_if (fresh_false current n (λ e. let o : first ≤ current = kept.in_order in absurd (omega arith))) in
          let new : one_if (is_fresh current current) ≡ 1 = ap one_if (fresh_true current current refl) in
          let e : length (literals_where (is_fresh current) 0 ns) ≡ length f = ap length is_f in omega arith

      -- one that is there already is not
      pub Has-there : first ≤ n → (x : Literal) → Has f x ↔ (Has f x ⊎ ((x ≡ l) × (Has r x → ⊥)))
      Has-there high x = (
        λ h. inl h,
        λ h. elim h [
          | inl k ↦ k
          | inr k ↦ elim (cases_eq n current) [
            | inl e ↦ subst (Has f) (sym k.0) (Has-fresh e)
            | inr ne ↦ absurd (k.1 (subst (Has r) (sym k.0) (Has-running.1 (high, let small = number_small in omega arith))))
          ]
        ],
      )

      -- between steps a literal is taken out by the number 0
      below_current : f ≡ [] → n < current
      below_current none =
          elim (cases_eq n current) [
            | inl e ↦ absurd (let h : Has [] l = subst (λ c. Has c l) none (Has-fresh e) in h)
            | inr ne ↦ let small = number_small in omega arith
          ]

      -- the number 0 marks no literal of the running clause
      zero_fails : is_running first current 0 ≡ false
      zero_fails = running_below first current 0 (let s : 1 ≤ first = kept.started in omega arith)

      -- a literal with a later number, between steps, stands in the running clause
      pub found : first ≤ n → f ≡ [] → Has r l
      found high none = Has-running.1 (high, below_current none)

      -- without the literal the running clause counts one less
      length_removed : first ≤ n → f ≡ [] → length (literals_where (is_running first current) 0 (set ns place 0)) + 1 ≡ count
      length_removed high none =
          let change = length-literals_set (is_running first current) 0 ns (code l) 0 inside in
          let same : length (literals_where (is_running first current) 0 (set ns place 0)) ≡ length (literals_where (is_running first current) 0 (set ns (code l) 0)) =
          ap (λ j. length (literals_where (is_running first current) 0 (set ns j 0))) at in
          let old : one_if (is_running first current (get_or ns (code l) 0)) ≡ 1 =
          ap (λ m. one_if (is_running first current m)) number_is ∙ ap one_if (running_true first current n high (below_current none)) in
          let new : one_if (is_running first current 0) ≡ 0 = ap one_if zero_fails in
          let e : count ≡ length (literals_where (is_running first current) 0 ns) = kept.counted in omega arith

      -- without the literal the running clause has one literal less
      pub length-removed : first ≤ n → f ≡ [] → length (literals_where (is_running first current) 0 (set ns place 0)) + 1 ≡ length r
      length-removed high none = let e = length_removed high none in let k : count ≡ length (literals_where (is_running first current) 0 ns) = kept.counted in let s : length (literals_where (is_running first current) 0 ns) ≡ length r = ap length is_r in omega arith

      -- a running clause in which a literal stands counts one at least
      pub some_counted : first ≤ n → f ≡ [] → 1 ≤ count
      some_counted high none = let e = length_removed high none in omega arith

      -- with the number 0 in the literal's place the marks are still right
      pub kept_removed : first ≤ n → f ≡ [] → IsKept variables (set ns place 0) first current (count - 1)
      kept_removed high none = record {
        size = length-set ns place 0 ∙ kept.size;
        started = kept.started;
        in_order = kept.in_order;
        none_later = none_later_set ns place 0 current (omega arith) kept.none_later;
        counted = let e = length_removed high none in omega arith;
      }

      -- the running clause without the literal has its other ones
      pub Has-removed : (x : Literal) → Has (literals_where (is_running first current) 0 (set ns place 0)) x ↔ (Has r x × (x ≢ l))
      Has-removed x =
          let split = Has-set_failing (is_running first current) ns l 0 inside zero_fails x in
          let same : literals_where (is_running first current) 0 (set ns place 0) ≡ literals_where (is_running first current) 0 (set ns (code l) 0) =
          ap (λ j. literals_where (is_running first current) 0 (set ns j 0)) at in (
            λ h. let k = split.0 (subst (λ c. Has c x) same h) in (subst (λ c. Has c x) is_r k.0, k.1),
            λ h. subst (λ c. Has c x) (sym same) (split.1 (subst (λ c. Has c x) (sym is_r) h.0, h.1)),
          )

      -- taking out a literal adds none
      pub fresh_removed : f ≡ [] → literals_where (is_fresh current) 0 (set ns place 0) ≡ []
      fresh_removed none =
          literals_where-set_same (is_fresh current) 0 ns place 0
          (ap (λ j. is_fresh current (get_or ns j 0)) at ∙ ap (is_fresh current) number_is
          ∙ fresh_false current n (λ e. let b = below_current none in absurd (omega arith))
          ∙ sym (fresh_false current 0 (λ e. let s : 1 ≤ first = kept.started in let o : first ≤ current = kept.in_order in absurd (omega arith)))) ∙ is_f ∙ none

      -- taking out what isn't there changes nothing
      pub Has-absent : n < first → (x : Literal) → Has r x ↔ (Has r x × (x ≢ l))
      Has-absent low x = (λ h. (h, λ e. not_running low (subst (Has r) e h)), λ h. h.0)

-- numbers that are all 0
abbrev pub zeros : ℕ → List ℕ
zeros size = replicate size 0

-- a list of zeros has 0 everywhere
zero_at : (size k : ℕ) → ◌≡◌ {A = ℕ} (get_or (zeros size) k 0) 0
zero_at size k =
    elim (cases_lt k size) [
      | inl lt ↦ get_or-replicate size k 0 0 lt
      | inr past ↦ get_or_past (zeros size) k 0 (let len : length (zeros size) ≡ size = length-replicate {A = ℕ} size 0 in omega arith)
    ]

-- marks that were never written have an empty running clause
pub running_zeros : (ns : List ℕ) (size : ℕ) → ns ≡ zeros size → literals_where (is_running 1 1) 0 ns ≡ []
running_zeros ns size e =
    literals_where-none (is_running 1 1) 0 ns (λ k lt. ap (λ ms. is_running 1 1 (get_or ms k 0)) e ∙ ap (is_running 1 1) (zero_at size k))

-- in marks that were never written no step adds a literal
pub fresh_zeros : (ns : List ℕ) (size : ℕ) → ns ≡ zeros size → literals_where (is_fresh 1) 0 ns ≡ []
fresh_zeros ns size e =
    literals_where-none (is_fresh 1) 0 ns (λ k lt. ap (λ ms. is_fresh 1 (get_or ms k 0)) e ∙ ap (is_fresh 1) (zero_at size k))

-- zeros for all literals are marks of an empty running clause
pub kept_zeros : (variables : ℕ) (ns : List ℕ) (size : ℕ) → ns ≡ zeros size → size ≡ 2 * variables + 2 → IsKept variables ns 1 1 0
kept_zeros variables ns size e enough = record {
  size = ap length e ∙ length-replicate {A = ℕ} size 0 ∙ enough;
  started = omega arith;
  in_order = omega arith;
  none_later = λ k. let z : get_or ns k 0 ≡ 0 = ap (λ ms. get_or ms k 0) e ∙ zero_at size k in omega arith;
  counted = sym (ap length (running_zeros ns size e));
}
