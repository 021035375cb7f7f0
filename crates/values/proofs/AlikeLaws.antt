-- Tables on which every call, kind and item has the same value, wherever the items of a choice are of their kinds: the same choices are full
-- there, and break the rule. Assumes nothing.
use mathlib.Core.Path.{◌≡◌, refl, ap, ap₂, ◌∙◌}
use mathlib.Core.Bool.{Bool, true, not, ◌&&◌}
use mathlib.Core.List.{List, []}
use mathlib.Core.Option.{Option, none, some}
use Prim.Native.Nat.{ℕ, zero, suc, ◌<◌}
use native.Mathlib.Omega.{arith}
use lib.Dec.{eqb}
use lib.ListN.{length, get_or}
use Rattle.words.specs.Words.{has, item_of, meet_of, less_of, size_of}
use Rattle.words.proofs.WordsLaws.{and-true, and_both}
use Rattle.tables.specs.Tables.{Tables}
use Rattle.tables.specs.Accepted.{Passes}
use Rattle.syntax.specs.Bytes.{Bytes}
use Rattle.syntax.specs.Term.{b_u, Fn, Fn2, calls, joins, Term, base, call, oe, ao, two, Choices}
use Rattle.syntax.specs.Rule.{Count, number, count, Test, member, alike, empty, sized, Clause, plain, when, Rule, last, also, rule_vars, rule_of}
use Rattle.syntax.proofs.PartLaws.{CountHas, TestHas, ClauseHas, RuleHas, rule-both}
use Rattle.syntax.proofs.Closed.{Known, sets-known, rule-known}
use Rattle.rules.specs.Kind.{Kind, base_kind, call_kind, others_kind, two_kind, row, with, kind}
use Rattle.rules.specs.Accept.{refusal}
use Rattle.rules.proofs.ChoiceLaws.{HasKind, some_with, accepted-kinds, accepted-choosable}
use Rattle.walks.specs.Choices.{variables, full_on}
use Rattle.values.specs.Values.{call_value, call2_value, two_value, op_value, item_in, one_value, value}
use Rattle.values.specs.Items.{sort_items, kind_items}
use Rattle.values.specs.Truth.{compared, signed, count_value, test_true, clause_true, rule_true}
use Rattle.values.specs.Sets.{set_of, in_set, breaks}
use Rattle.values.proofs.InsideLaws.{Among}
use Rattle.values.proofs.BoundLaws.{Ranged, call2-first, value-among, full-ranged}

-- Every call gives the same of items that may be there.
pub record Alike (T U : Tables) : Type 0 where
  pub items : (k : Kind) → kind_items U k ≡ kind_items T k
  pub ones : (k : Option Kind) (x : ℕ) → one_value U k x ≡ one_value T k x
  pub single : (f : Fn) (k : Option Kind) (w : ℕ) → call_value U f k w ≡ call_value T f k w
  pub double : (f : Fn2) (v w : ℕ) → Among (sort_items T (row f).first) v → call2_value U f v w ≡ call2_value T f v w

module _ {T U : Tables} (a : Alike T U) (pass : Passes T) (σ : Choices) (c : List ℕ) where
  -- A term has the same value,
  value-alike : (t : Term) (l : Kind) → kind t ≡ some l → Ranged T pass σ c t → value U σ c t ≡ value T σ c t
  unfolding value kind two_value two_kind
  value-alike (base b) l e r = a.items (base_kind b)
  value-alike (call f x) l e r =
      let q = some_with (kind x) (call_kind f) l e in
      a.single f (kind x) (value U σ c x) ∙ ap (call_value T f (kind x)) (value-alike x q.0 q.1 r)
  value-alike (oe x) l e r = a.ones (kind x) (item_in σ c x)
  value-alike (ao x) l e r =
      let q = some_with (kind x) others_kind l e in
      ap (λ (w : ℕ). less_of w (item_of (item_in σ c x))) (value-alike x q.0 q.1 r)
  value-alike (two (calls f) x y) l e r =
      let q = some_with (kind x) (λ k. with (kind y) (λ m. two_kind (calls f) k m)) l e in
      let p = some_with (kind y) (λ m. two_kind (calls f) q.0 m) l q.2 in
      let among : Among (sort_items T (row f).first) (value T σ c x) =
      rw (call2-first T (row f) q.0 p.0 l p.2) at (value-among T pass σ c x q.0 q.1 r.0) in
      ap₂ (call2_value U f) (value-alike x q.0 q.1 r.0) (value-alike y p.0 p.1 r.1) ∙ a.double f (value T σ c x) (value T σ c y) among
  value-alike (two (joins o) x y) l e r =
      let q = some_with (kind x) (λ k. with (kind y) (λ m. two_kind (joins o) k m)) l e in
      let p = some_with (kind y) (λ m. two_kind (joins o) q.0 m) l q.2 in
      ap₂ (op_value o) (value-alike x q.0 q.1 r.0) (value-alike y p.0 p.1 r.1)

module _ (T U : Tables) (σ : Choices) (c : List ℕ) where
  abbrev pub Same : Term → Type 0
  Same t = value U σ c t ≡ value T σ c t

  -- and a rule the same truth, where its terms have the same values.
  count-alike : (k : Count) → CountHas Same k → count_value U σ c k ≡ count_value T σ c k
  unfolding count_value
  count-alike (number n) h = refl
  count-alike (count x) h = ap size_of h

  test-alike : (p : Test) → TestHas Same p → test_true U σ c p ≡ test_true T σ c p
  unfolding test_true
  test-alike (member x y) h = ap₂ (λ (v w : ℕ). not (eqb (meet_of v w) 0)) h.0 h.1
  test-alike (alike g x y) h = ap₂ (λ (v w : ℕ). signed g (eqb v w)) h.0 h.1
  test-alike (empty g x) h = ap (λ (v : ℕ). signed g (eqb v 0)) h
  test-alike (sized d x k) h = ap₂ (λ (v w : ℕ). compared d (size_of v) w) h.0 (count-alike k h.1)

  clause-alike : (k : Clause) → ClauseHas Same k → clause_true U σ c k ≡ clause_true T σ c k
  unfolding clause_true
  clause-alike (plain p) h = test-alike p h
  clause-alike (when p q) h = ap₂ (λ (x y : Bool). not (x && not y)) (test-alike p h.0) (test-alike q h.1)

  pub rule-alike : (ρ : Rule) → RuleHas Same ρ → rule_true U σ c ρ ≡ rule_true T σ c ρ
  unfolding rule_true
  rule-alike (last k) h = clause-alike k h
  rule-alike (also k ρ) h = ap₂ (λ (x y : Bool). x && y) (clause-alike k h.0) (rule-alike ρ h.1)

-- Of an accepted rule: a choice that is full on the one tables is full on the others, and breaks the rule there as here.
full-alike : (s t : ℕ → List ℕ → ℕ → Bool) (c : List ℕ) (n : ℕ) → ((v : ℕ) → v < n → (x : ℕ) → t v c x ≡ s v c x)
    → full_on s (variables n) c ≡ true → full_on t (variables n) c ≡ true
unfolding full_on variables
full-alike s t c zero h e = refl
full-alike s t c (suc n) h e =
    let (p, q) = and-true (s n c (get_or c n 0)) (full_on s (variables n) c) e in
    and_both (h n (omega arith) (get_or c n 0) ∙ p) (full-alike s t c n (λ v l. h v (omega arith)) q)

module _ {T U : Tables} (a : Alike T U) (pass : Passes T) (s : Bytes) (ρ : Rule) (e : refusal s ≡ none) (h : rule_of s ≡ some ρ) (c : List ℕ)
    (full : full_on (in_set T (rule_vars [] ρ)) (variables (length (rule_vars [] ρ))) c ≡ true) where
  terms-alike : (t : Term) → HasKind t → Known (rule_vars [] ρ) t → value U (rule_vars [] ρ) c t ≡ value T (rule_vars [] ρ) c t
  terms-alike t (k, q) known = value-alike a pass (rule_vars [] ρ) c t k q (full-ranged T pass ρ c full t known)

  pub full-there : full_on (in_set U (rule_vars [] ρ)) (variables (length (rule_vars [] ρ))) c ≡ true
  full-there =
      full-alike (in_set T (rule_vars [] ρ)) (in_set U (rule_vars [] ρ)) c (length (rule_vars [] ρ))
      (λ v l x. let q = accepted-choosable s ρ e h v l in
      ap (λ (w : ℕ). has w x) (terms-alike (set_of (rule_vars [] ρ) v) (q.is, q.has) (sets-known ρ v l (base b_u))))
      full

  pub breaks-there : breaks U (rule_vars [] ρ) ρ c ≡ breaks T (rule_vars [] ρ) ρ c
  breaks-there = ap not (rule-alike T U (rule_vars [] ρ) c ρ (rule-both terms-alike ρ (accepted-kinds s ρ e h) (rule-known ρ)))
