-- A rule that mentions neither S nor `sessions` has no term that does, and no variable whose set does.
-- Assumes nothing.
use mathlib.Core.Path.{◌≡◌, refl, sym, ap, ◌∙◌}
use mathlib.Core.Bool.{Bool, true, false, ◌||◌, true≢false}
use mathlib.Core.List.{[], ◌∷◌, ◌++◌, append_assoc}
use mathlib.Core.Option.{Option, none, some}
use Prim.Native.Nat.{ℕ, zero, suc}
use lib.ListN.{get_or}
use Rattle.syntax.specs.Bytes.{Bytes, ascii, Read, fail, got, is_got, skip, begins}
use Rattle.syntax.specs.Term.{b_u, Term, base, Choices, digit_from, is_call, is_oe, is_ao, spell, opening, parting, oe_text, ao_text, text}
use Rattle.syntax.specs.Rule.{Count, number, count, Test, member, alike, empty, sized, Clause, plain, when, Rule, last, also}
use Rattle.syntax.specs.Rule.{spell_between, is_in, is_sign, spell_cmp, count_text, test_text, clause_text, rule_text, rule_vars, rule_of}
use Rattle.syntax.proofs.BytesLaws.{skip-gives, skip-own}
use Rattle.syntax.proofs.PartLaws.{All, CountHas, TestHas, ClauseHas, RuleHas, Passes, rule-both, rule-all}
use Rattle.syntax.proofs.RuleLaws.{rule-text}
use Rattle.rules.specs.Kind.{Kind, base_kind, call_kind, one_kind, others_kind, two_kind, with, kind}
use Rattle.rules.specs.Accept.{refusal}
use Rattle.rules.proofs.ChoiceLaws.{HasKind, some_with, accepted-kinds}
use Rattle.mentions.specs.Mention.{stands, mentions}

-- ---- texts: what stands in no text stands in no part of it

or-none : (a b : Bool) → (a || b) ≡ false → (a ≡ false) × (b ≡ false)
or-none true b e = absurd (true≢false e)
or-none false b e = (refl, e)

none_or : {a b : Bool} → a ≡ false → b ≡ false → (a || b) ≡ false
none_or p q = rw (p, q)

begins-front : (p a b : Bytes) → begins p (a ++ b) ≡ false → begins p a ≡ false
unfolding begins
begins-front p a b e = go (skip p a) refl
  where
    go : (r : Read (Unit {0})) → skip p a ≡ r → is_got r ≡ false
    go fail q = refl
    go (got u r) q =
        let more : skip p (a ++ b) ≡ got tt (r ++ b) = rw (skip-gives p a q, append_assoc p r b) (skip-own p (r ++ b)) in
        absurd (true≢false (sym (ap is_got more) ∙ e))

stands_parts : (p a b : Bytes) → stands p (a ++ b) ≡ false → (stands p a ≡ false) × (stands p b ≡ false)
unfolding stands
stands_parts p [] b e = (refl, e)
stands_parts p (x ∷ a) b e =
    let (here, later) = or-none (begins p (x ∷ (a ++ b))) (stands p (a ++ b)) e in
    let (front, behind) = stands_parts p a b later in
    (none_or (begins-front p (x ∷ a) b here) front, behind)

-- A text that mentions neither,
pub record Silent (s : Bytes) : Type 0 where
  pub silent : mentions s ≡ false

-- and its parts.
parts : (a b : Bytes) → Silent (a ++ b) → Silent a × Silent b
unfolding mentions
parts a b s =
    let (letter, word) = or-none (stands (ascii "S") (a ++ b)) (stands (ascii "sessions") (a ++ b)) s.silent in
    let (l, m) = stands_parts (ascii "S") a b letter in
    let (v, w) = stands_parts (ascii "sessions") a b word in
    (record { silent = none_or l v }, record { silent = none_or m w })

pub front : (a b : Bytes) → Silent (a ++ b) → Silent a
front a b s = (parts a b s).0

behind : (a b : Bytes) → Silent (a ++ b) → Silent b
behind a b s = (parts a b s).1

within : (a b c : Bytes) → Silent (a ++ (b ++ c)) → Silent b
within a b c s = front b c (behind a (b ++ c) s)

-- ---- terms

abbrev pub Quiet : Term → Type 0
Quiet t = Silent (text [] t)

-- A term that has a kind and mentions neither,
pub record Plain (t : Term) : Type 0 where
  pub kinded : HasKind t
  pub quiet : Quiet t

kinded-inside : (a : Term) (f : Kind → Option Kind) → (l : Kind) × (with (kind a) f ≡ some l) → HasKind a
kinded-inside a f (l, e) = let q = some_with (kind a) f l e in (q.0, q.1)

-- and so the terms inside it.
pub inside : Passes Plain Plain
unfolding kind text oe_text ao_text digit_from
inside =
    record {
      in_call = λ f a p. record { kinded = kinded-inside a (call_kind f) p.kinded; quiet = within (spell (is_call f)) (text [] a) _ p.quiet };
      in_oe = λ a p.
          let q : Plain a = record { kinded = kinded-inside a one_kind p.kinded; quiet = within (spell is_oe) (text [] a) _ p.quiet } in (q, q);
      in_ao = λ a p.
          let q : Plain a = record { kinded = kinded-inside a others_kind p.kinded; quiet = within (spell is_ao) (text [] a) _ p.quiet } in (q, q);
      in_two = λ o a b p.
          let q = some_with (kind a) (λ k. with (kind b) (two_kind o k)) p.kinded.0 p.kinded.1 in
          let s = behind (spell (opening o)) _ p.quiet in (
            record { kinded = (q.0, q.1); quiet = front (text [] a) _ s },
            record { kinded = kinded-inside b (two_kind o q.0) (p.kinded.0, q.2); quiet = within (parting o) (text [] b) _ (behind (text [] a) _ s) },
          );
    }

-- ---- rules

count-quiet : (k : Count) → Silent (count_text [] k) → CountHas Quiet k
unfolding count_text
count-quiet (number n) s = tt
count-quiet (count a) s = within (ascii "|") (text [] a) _ s

test-quiet : (p : Test) → Silent (test_text [] p) → TestHas Quiet p
unfolding test_text
test-quiet (member a b) s = (front (text [] a) _ s, behind (spell_between is_in) _ (behind (text [] a) _ s))
test-quiet (alike g a b) s = (front (text [] a) _ s, behind (spell_between (is_sign g)) _ (behind (text [] a) _ s))
test-quiet (empty g a) s = front (text [] a) _ s
test-quiet (sized c a k) s =
    let r = behind (ascii "|") _ s in
    (front (text [] a) _ r, count-quiet k (behind (spell_cmp c) _ (behind (ascii "|") _ (behind (text [] a) _ r))))

clause-quiet : (c : Clause) → Silent (clause_text [] c) → ClauseHas Quiet c
unfolding clause_text
clause-quiet (plain p) s = test-quiet p s
clause-quiet (when p q) s = (test-quiet p (front (test_text [] p) _ s), test-quiet q (behind (ascii "=>") _ (behind (test_text [] p) _ s)))

rule-quiet : (ρ : Rule) → Silent (rule_text [] ρ) → RuleHas Quiet ρ
unfolding rule_text
rule-quiet (last c) s = clause-quiet c s
rule-quiet (also c ρ) s = (clause-quiet c (front (clause_text [] c) _ s), rule-quiet ρ (behind (ascii "^") _ (behind (clause_text [] c) _ s)))

plain-U : Plain (base b_u)
unfolding kind text spell mentions stands begins skip
plain-U = record { kinded = (base_kind b_u, refl); quiet = record { silent = refl } }

all_plain : (σ : Choices) → All Plain σ → (v : ℕ) → Plain (get_or σ v (base b_u))
all_plain [] p v = plain-U
all_plain (x ∷ σ) p zero = p.0
all_plain (x ∷ σ) p (suc v) = all_plain σ p.1 v

-- THE THEOREM: "For a rule that mentions neither S nor `sessions`": nor do its terms, nor the sets of its variables.
module _ (rule : Bytes) (ρ : Rule) (ok : refusal rule ≡ none) (tree : rule_of rule ≡ some ρ) (quiet : mentions rule ≡ false) where
  pub terms-plain : RuleHas Plain ρ
  terms-plain =
      let own : mentions (rule_text [] ρ) ≡ false = ap mentions (sym (rule-text rule ρ tree).0) ∙ quiet in
      rule-both (λ t k q. record { kinded = k; quiet = q }) ρ (accepted-kinds rule ρ ok tree) (rule-quiet ρ (record { silent = own }))

  pub sets-plain : (v : ℕ) → Plain (get_or (rule_vars [] ρ) v (base b_u))
  sets-plain = all_plain (rule_vars [] ρ) (rule-all Plain Plain inside [] ρ tt terms-plain)
