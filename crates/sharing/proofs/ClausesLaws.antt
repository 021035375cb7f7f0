-- The clauses of rules as one list: each rule's stand together, from its start on.
-- Assumes nothing.
use mathlib.Core.Path.{◌≡◌, refl, ap, sym, ◌∙◌}
use mathlib.Core.List.{List, [], ◌∷◌, ◌++◌, append_assoc, append-nil}
use Prim.Native.Nat.{ℕ, zero, suc, ◌+◌, ◌<◌, ◌≤◌}
use native.Mathlib.Omega.{arith}
use lib.ListN.{length, get_or, length-append, get_or-append}
use lib.Seq.{get_or-append-add}
use Rattle.syntax.specs.Term.{Choices}
use Rattle.syntax.specs.Rule.{Clause, Rule, last, also, clause_vars, rule_vars}
use Rattle.syntax.specs.Code.Reading.{graft}
use Rattle.values.specs.Code.Clauses.{clause_count, clause_at}
use Rattle.sharing.specs.Code.Gathering.{clauses_of, all_clauses, start_of, clauses_vars}

-- One rule.

pub clauses-count : (κ : Rule) → length (clauses_of κ) ≡ clause_count κ
unfolding clauses_of clause_count
clauses-count (last k) = refl
clauses-count (also k κ) = ap suc (clauses-count κ)

pub count-some : (κ : Rule) → 1 ≤ clause_count κ
unfolding clause_count
count-some (last k) = omega arith
count-some (also k κ) = omega arith

pub clauses-at : (κ : Rule) (i : ℕ) (d : Clause) → i < clause_count κ → get_or (clauses_of κ) i d ≡ clause_at κ i
unfolding clauses_of clause_count clause_at
clauses-at (last k) zero d h = refl
clauses-at (last k) (suc i) d h = absurd (omega arith)
clauses-at (also k κ) zero d h = refl
clauses-at (also k κ) (suc i) d h = clauses-at κ i d (omega arith)

pub clauses-vars : (σ : Choices) (κ : Rule) → clauses_vars σ (clauses_of κ) ≡ rule_vars σ κ
unfolding clauses_of clauses_vars rule_vars
clauses-vars σ (last k) = refl
clauses-vars σ (also k κ) = clauses-vars (clause_vars σ k) κ

pub vars-more : (σ : Choices) (ks : List Clause) (k : Clause) → clauses_vars σ (ks ++ (k ∷ [])) ≡ clause_vars (clauses_vars σ ks) k
unfolding clauses_vars
vars-more σ [] k = refl
vars-more σ (x ∷ ks) k = vars-more (clause_vars σ x) ks k

-- A rule of clauses in front of a last one.

pub graft-clauses : (ks : List Clause) (k : Clause) → clauses_of (graft ks (last k)) ≡ ks ++ (k ∷ [])
unfolding graft clauses_of
graft-clauses [] k = refl
graft-clauses (x ∷ ks) k = ap (λ (r : List Clause). x ∷ r) (graft-clauses ks k)

pub last-at : (ks : List Clause) (k d : Clause) (i : ℕ) → i < length ks + 1 → get_or (ks ++ (k ∷ [])) i d ≡ get_or ks i k
last-at [] k d zero h = refl
last-at [] k d (suc i) h = absurd (omega arith)
last-at (x ∷ ks) k d zero h = refl
last-at (x ∷ ks) k d (suc i) h = last-at ks k d i (omega arith)

-- A list that is not empty has a last clause.
pub record Ended (ks : List Clause) : Type 0 where
  pub before : List Clause
  pub final : Clause
  pub is : ks ≡ before ++ (final ∷ [])

pub ended : (ks : List Clause) → 1 ≤ length ks → Ended ks
ended [] h = absurd (omega arith)
ended (k ∷ []) h = record { before = []; final = k; is = refl }
ended (k ∷ x ∷ ks) h = let e = ended (x ∷ ks) (omega arith) in record { before = k ∷ e.before; final = e.final; is = ap (λ (r : List Clause). k ∷ r) e.is }

-- Several rules.

pub all_more : (κs : List Rule) (κ : Rule) → all_clauses (κs ++ (κ ∷ [])) ≡ all_clauses κs ++ clauses_of κ
unfolding all_clauses
all_more [] κ = append-nil (clauses_of κ)
all_more (π ∷ κs) κ = ap (λ (r : List Clause). clauses_of π ++ r) (all_more κs κ) ∙ sym (append_assoc (clauses_of π) (all_clauses κs) (clauses_of κ))

-- Where the rules begin: the next one behind the clauses of the one before it, all among the clauses.

pub start-next : (κs : List Rule) (l : ℕ) (d : Rule) → l < length κs → start_of κs (l + 1) ≡ start_of κs l + clause_count (get_or κs l d)
unfolding start_of
start-next [] l d h = absurd (omega arith)
start-next (κ ∷ κs) zero d h = omega arith
start-next (κ ∷ κs) (suc l) d h =
    let z : suc l + 1 ≡ suc (l + 1) = omega arith in
    let y : clause_count κ + (start_of κs l + clause_count (get_or κs l d)) ≡ clause_count κ + start_of κs l + clause_count (get_or κs l d) = omega arith in
    ap (start_of (κ ∷ κs)) z ∙ ap (λ (n : ℕ). clause_count κ + n) (start-next κs l d (omega arith)) ∙ y

pub start-within : (κs : List Rule) (l : ℕ) → start_of κs l ≤ length (all_clauses κs)
unfolding start_of all_clauses
start-within κs zero = omega arith
start-within [] (suc l) = omega arith
start-within (κ ∷ κs) (suc l) = simp length-append (omega (arith, clauses-count κ, start-within κs l))

-- One rule more begins behind all, and the others where they began.

pub start-last : (κs : List Rule) → start_of κs (length κs) ≡ length (all_clauses κs)
unfolding start_of all_clauses
start-last [] = refl
start-last (κ ∷ κs) = simp length-append (omega (arith, clauses-count κ, start-last κs))

pub start-same : (κs πs : List Rule) (l : ℕ) → l ≤ length κs → start_of (κs ++ πs) l ≡ start_of κs l
unfolding start_of
start-same κs πs zero h = refl
start-same [] πs (suc l) h = absurd (omega arith)
start-same (κ ∷ κs) πs (suc l) h = ap (λ (n : ℕ). clause_count κ + n) (start-same κs πs l (omega arith))

-- The clauses of the rule of number l stand from its start on.
pub clauses-from : (κs : List Rule) (l : ℕ) (d : Rule) (i : ℕ) (x : Clause) → l < length κs → i < clause_count (get_or κs l d) → get_or (all_clauses κs) (start_of κs l + i) x ≡ get_or (clauses_of (get_or κs l d)) i x
unfolding start_of all_clauses
clauses-from [] l d i x h m = absurd (omega arith)
clauses-from (κ ∷ κs) zero d i x h m =
    let z : 0 + i ≡ i = omega arith in
    ap (λ (j : ℕ). get_or (clauses_of κ ++ all_clauses κs) j x) z ∙ get_or-append (clauses_of κ) (all_clauses κs) x i (omega (arith, clauses-count κ))
clauses-from (κ ∷ κs) (suc l) d i x h m =
    let z : clause_count κ + start_of κs l + i ≡ length (clauses_of κ) + (start_of κs l + i) = omega (arith, clauses-count κ) in
    ap (λ (j : ℕ). get_or (clauses_of κ ++ all_clauses κs) j x) z ∙ get_or-append-add (clauses_of κ) (all_clauses κs) (start_of κs l + i) x ∙ clauses-from κs l d i x (omega arith) m
