-- Resolving with reasons, from the last literal of the trail on.
use Rattle.std.proofs.Common.{◌≡◌, ◌≢◌, ℕ, ◌+◌, ◌<◌, ◌↔◌, ◌⊎◌, inl, inr, Bool, false, IsTrue, get_or, List, [], ◌∷◌, ◌++◌, length, map, take, sym, ◌∙◌, ap, subst}
use Rattle.std.proofs.lemmas.List.{map-append}
use Rattle.clause_defs.specs.Literals.{Literal, negation}
use Rattle.clause_defs.specs.Clauses.{Lits, Has, SameSet}
use Rattle.clause_defs.specs.Resolution.{Step, Resolves}
use Rattle.clause_laws.proofs.LiteralLemmas.{literal_cases, negation-negation}
use Rattle.chain_check.proofs.ClauseLists.{Has-take, Has-take_more, Has-snoc, Has-get, negation_swap, not_own_negation}
use Rattle.log_defs.specs.Logs.{LogValue, IsIndexOf, clause_of_log}
use Rattle.log_laws.proofs.ChainGrowth.{resolves_more}
use Rattle.trail_defs.specs.Assignments.{AreApart, IsAt, Implies, IsConflict}
use Rattle.conflict_chain.specs.Conflicts.{Chained, IsChain, IsSplit, ClashesOnce, AreOthersOf}

-- no literal is true with its negation
pub consistent : (t : Lits) (l : Literal) → AreApart t → Has t l → Has t (negation l) → ⊥
consistent [] l apart h k = h
consistent (m ∷ ms) l apart (inl e) (inl f) = not_own_negation l (sym e ∙ f)
consistent (m ∷ ms) l apart (inl e) (inr k) = apart.0 (negation l) k (ap (λ (x : Literal). x.variable) (sym e))
consistent (m ∷ ms) l apart (inr h) (inl f) = apart.0 l h (ap (λ (x : Literal). x.variable) (sym f))
consistent (m ∷ ms) l apart (inr h) (inr k) = consistent ms l apart.1 h k

-- the literal at a place is one of the list
pub at_has : (t : Lits) (i : ℕ) (l : Literal) → IsAt t i l → Has t l
at_has t i l at = Has-get t i l at.within at.read

-- one clause begins a chain
pub chain_one : (log : LogValue) (r : Chained) (index : ℕ) → IsIndexOf log index → r.antecedents ≡ index ∷ [] → SameSet r.lits (clause_of_log log index)
    → IsChain log r
chain_one log r index known ants same = record {
  resolves = subst (λ is. Resolves (map (clause_of_log log) is) r.lits) (sym ants) (λ l. ((same l).1, (same l).0));
  indices_are = λ i h. elim (subst (λ is. Has is i) ants h) [ inl e ↦ subst (IsIndexOf log) e known | inr none ↦ absurd none ];
}

-- a step with one more clause
pub chain_more : (log : LogValue) (r s : Chained) (index : ℕ) (l : Literal) → IsChain log r → IsIndexOf log index
    → ClashesOnce r.lits (clause_of_log log index) (negation l) → s.antecedents ≡ r.antecedents ++ index ∷ []
    → AreOthersOf r.lits (clause_of_log log index) l s.lits → IsChain log s
chain_more log r s index l chain known once ants others =
    let step : Step r.lits (clause_of_log log index) s.lits = record {
      pivot = negation l;
      clashes = once.clashes;
      only = once.only;
      resolvent = λ x. let own = others x in (
        λ h. elim (own.0 h) [ inl a ↦ inl a | inr b ↦ inr (b.0, λ e. b.1 (e ∙ negation-negation l)) ],
        λ h. own.1 (elim h [ inl a ↦ inl a | inr b ↦ inr (b.0, λ e. b.1 (e ∙ sym (negation-negation l))) ]),
      );
    } in
    record {
      resolves =
          subst (λ is. Resolves (map (clause_of_log log) is) s.lits) (sym ants)
          (subst (λ cs. Resolves cs s.lits) (sym (map-append (clause_of_log log) r.antecedents (index ∷ [])))
          (resolves_more (map (clause_of_log log) r.antecedents) r.lits (clause_of_log log index) s.lits chain.resolves step));
      indices_are = λ i h. elim ((Has-snoc r.antecedents index i).0 (subst (λ is. Has is i) ants h)) [
        | inl old ↦ chain.indices_are i old
        | inr same ↦ subst (IsIndexOf log) same known
      ];
    }

module _ (t : Lits) (i : ℕ) (l : Literal) (r c : Lits) (apart : AreApart t) (at : IsAt t i l) (reason : Implies (take i t) c l) (all_false : IsConflict t r) where
  -- the literal itself isn't false
  pub not_false : Has r l → ⊥
  not_false h = consistent t l apart (at_has t i l at) (all_false l h)

  -- its negation alone clashes with its reason
  pub clashes_once : Has r (negation l) → ClashesOnce r c (negation l)
  clashes_once there = record {
    clashes = (there, subst (Has c) (sym (negation-negation l)) reason.implied);
    only = λ x clash. elim (literal_cases (negation x) l) [
      | inl same ↦ negation_swap x l same
      | inr other ↦
          let before = subst (Has (take i t)) (negation-negation x) (reason.others (negation x) clash.1 other) in
          absurd (consistent t x apart (Has-take t i x before) (all_false x clash.0))
    ];
  }

  -- what the reason brings is false too
  pub still_false : (s : Lits) → AreOthersOf r c l s → IsConflict t s
  still_false s others x h = elim ((others x).0 h) [
    | inl old ↦ all_false x old.0
    | inr new ↦ Has-take t i (negation x) (reason.others x new.0 new.1)
  ]

-- one literal more, less or as before keeps the split by levels
pub split_set : (levels : List ℕ) (level : ℕ) (q s : Chained) (l : Literal) (running present : Bool) → IsSplit levels level q
    → (IsTrue present → IsTrue running) → (IsTrue running → (IsTrue present ↔ (get_or levels l.variable 0 ≡ level)))
    → ((x : Literal) → Has s.lits x ↔ ((Has q.lits x × (x ≢ l)) ⊎ (IsTrue running × (x ≡ l))))
    → ((x : Literal) → Has s.present x ↔ ((Has q.present x × (x ≢ l)) ⊎ (IsTrue present × (x ≡ l))))
    → IsSplit levels level s
split_set levels level q s l running present split within by_level lits presents = record {
  running = λ x h. elim ((presents x).0 h) [
    | inl old ↦ (lits x).1 (inl (split.running x old.0, old.1))
    | inr new ↦ (lits x).1 (inr (within new.0, new.1))
  ];
  by_level = λ x h. elim ((lits x).0 h) [
    | inl old ↦ let own = split.by_level x old.0 in (
      λ k. elim ((presents x).0 k) [ inl was ↦ own.0 was.0 | inr new ↦ absurd (old.1 new.1) ],
      λ e. (presents x).1 (inl (own.1 e, old.1)),
    )
    | inr new ↦ let own = by_level new.0 in (
      λ k. elim ((presents x).0 k) [ inl was ↦ absurd (was.1 new.1) | inr is ↦ subst (λ (y : Literal). get_or levels y.variable 0 ≡ level) (sym new.1) (own.0 is.0) ],
      λ e. (presents x).1 (inr (own.1 (subst (λ (y : Literal). get_or levels y.variable 0 ≡ level) new.1 e), new.1)),
    )
  ];
}

-- the literal that was marked last and those before
pub gathered_more : (a q s c : Lits) (i : ℕ) (l : Literal) (running : Bool) → i < length c → l ≡ get_or c i l → IsTrue running
    → ((x : Literal) → Has q x ↔ (Has a x ⊎ Has (take i c) x))
    → ((x : Literal) → Has s x ↔ ((Has q x × (x ≢ l)) ⊎ (IsTrue running × (x ≡ l))))
    → (x : Literal) → Has s x ↔ (Has a x ⊎ Has (take (i + 1) c) x)
gathered_more a q s c i l running lt read told before set x =
    let more = Has-take_more c i l x lt read in (
      λ h. elim ((set x).0 h) [
        | inl old ↦ elim ((before x).0 old.0) [ inl k ↦ inl k | inr k ↦ inr (more.1 (inl k)) ]
        | inr new ↦ inr (more.1 (inr (sym new.1)))
      ],
      λ h. elim (literal_cases x l) [
        | inl same ↦ (set x).1 (inr (told, same))
        | inr other ↦ (set x).1 (inl (
          (before x).1 (elim h [
            | inl k ↦ inl k
            | inr k ↦ elim (more.0 k) [ inl m ↦ inr m | inr e ↦ absurd (other (sym e)) ]
          ]),
          other,
        ))
      ],
    )

-- the pivot out, the clause in, and the literal out
pub resolved_lits : (r s1 s2 s3 c : Lits) (l : Literal) → (Has r l → ⊥)
    → ((x : Literal) → Has s1 x ↔ ((Has r x × (x ≢ negation l)) ⊎ (IsTrue false × (x ≡ negation l))))
    → ((x : Literal) → Has s2 x ↔ (Has s1 x ⊎ Has c x))
    → ((x : Literal) → Has s3 x ↔ ((Has s2 x × (x ≢ l)) ⊎ (IsTrue false × (x ≡ l))))
    → AreOthersOf r c l s3
resolved_lits r s1 s2 s3 c l fresh first second third x = (
  λ h. elim ((third x).0 h) [
    | inl k ↦ elim ((second x).0 k.0) [
      | inl m ↦ elim ((first x).0 m) [ inl old ↦ inl old | inr none ↦ absurd (never none.0) ]
      | inr m ↦ inr (m, k.1)
    ]
    | inr none ↦ absurd (never none.0)
  ],
  λ h. (third x).1 (elim h [
    | inl old ↦ inl ((second x).1 (inl ((first x).1 (inl old))), λ same. fresh (subst (Has r) same old.0))
    | inr new ↦ inl ((second x).1 (inr new.0), new.1)
  ]),
)
  where
    never : IsTrue false → ⊥
    never e = cc
