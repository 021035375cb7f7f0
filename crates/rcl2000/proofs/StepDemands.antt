-- Document 02, N4, of what the tracker sees of `rank_step`: the number r that it returns. Its contract says `GivesStep`.
-- Assumes nothing.
use mathlib.Core.Path.{◌≡◌, refl, sym, ap, ◌∙◌}
use mathlib.Core.Bool.{Bool, true, false, ◌&&◌}
use mathlib.Core.List.{List, []}
use mathlib.Core.Logic.{◌↔◌}
use Prim.Native.Nat.{ℕ, ◌*◌, ◌≤◌}
use native.Mathlib.Omega.{arith}
use lib.Dec.{eqb}
use lib.ListN.{length}
use borrow.Author.Tests.{eqb-true, eqb-false, ne_eqb}
use Rattle.answers.specs.Refusal.{number_of}
use Rattle.answers.specs.declared.Refusal.{Refusal}
use Rattle.answers.specs.declared.Refusal.TheVariants.{Rank}
use Rattle.tables.specs.Tables.{Tables}
use Rattle.tables.specs.Checks.{reflexive, transitive, antisymmetric, rank_step, ranked, late_checks, first_failing}
use Rattle.tables.specs.Reading.{took, next, refuse, sections, nothing_left, settle, whole, rejected, tables_of, reading_number}
use Rattle.tables.specs.Leavers.{LeaverRemains}
use Rattle.tables.proofs.CheckLaws.{clash}
use Rattle.tables.proofs.LeaverLaws.{none-gone}
use Rattle.tables.proofs.LoadLaws.{read-once}
use Rattle.tables.proofs.RankLaws.{step-one, step-two, step-three, step-none}
use Rattle.tables.proofs.StopLaws.{RankRefused, rank-refused, rank_step_lem, rank-number, rank-other}
use Rattle.syntax.specs.Bytes.{Bytes}
use Rattle.rules.proofs.AcceptLaws.{refused-early}
use Rattle.rcl2000.specs.Calls.{Judges, JudgeRefuses, tables_refused, judged_refused, order_refused, verdict_longer}
use Rattle.rcl2000.specs.Calls.{GivesStep, StepOf, RefusedRank, other, not_reflexive, not_transitive, not_antisymmetric}
use Rattle.rcl2000.proofs.Demands.{judge-refuses}

-- "All three still give 7": tables that have all their sections, nothing behind them, and nothing of a leaver, are refused 7 exactly where a step fails.
module _ (tables : Bytes) {T : Tables} (reads : sections tables ≡ took T []) where
  abbrev rows : List ℕ
  rows = T.role_rows

  steps-fail : (reflexive rows && (transitive rows && antisymmetric rows)) ≡ false → rank_step rows ≡ 0 → ⊥
  steps-fail h z = go (reflexive rows) (transitive rows) (antisymmetric rows) refl refl refl
    where
      go : (a b d : Bool) → reflexive rows ≡ a → transitive rows ≡ b → antisymmetric rows ≡ d → ⊥
      go false b d e f g = absurd (omega (arith, step-one rows e))
      go true false d e f g = absurd (omega (arith, step-two rows e f))
      go true true false e f g = absurd (omega (arith, step-three rows e f g))
      go true true true e f g = clash (rw (e, f, g) at h)

  pub step-seven : (LeaverRemains T → ⊥) → (tables_of tables ≡ rejected Rank) ↔ ((reflexive rows && (transitive rows && antisymmetric rows)) ≡ false)
  unfolding tables_of whole next nothing_left refuse settle late_checks first_failing ranked
  step-seven none = (
    λ q. go q (reflexive rows) (transitive rows) (antisymmetric rows) refl refl refl,
    λ h. rw (reads, none-gone T none, ne_eqb (rank_step rows) 0 (steps-fail h)),
  )
    where
      go : tables_of tables ≡ rejected Rank → (a b d : Bool) → reflexive rows ≡ a → transitive rows ≡ b → antisymmetric rows ≡ d → (a && (b && d)) ≡ false
      go q false b d e f g = refl
      go q true false d e f g = refl
      go q true true false e f g = refl
      go q true true true e f g =
          let w = rank-refused tables q in
          let same : w.tables ≡ T = read-once tables reads w.reads in
          absurd (w.fails (rw same (step-none rows e f g)))

module _ (tables : Bytes) (r : ℕ) (s : GivesStep tables r) where
  at-rank : tables_of tables ≡ rejected Rank → StepOf tables r
  at-rank q = go (reflexive rows) (transitive rows) (antisymmetric rows) refl refl refl
    where
      w : RankRefused tables
      w = rank-refused tables q

      rows : List ℕ
      rows = w.tables.role_rows

      refused : RefusedRank tables w.tables
      refused = record { number = q; bytes = w.reads }

      is : {k : ℕ} → rank_step rows ≡ k → r ≡ k
      is e = s ∙ rank_step_lem tables q w.reads ∙ e

      go : (a b d : Bool) → reflexive rows ≡ a → transitive rows ≡ b → antisymmetric rows ≡ d → StepOf tables r
      go false b d e f g = rw (is (step-one rows e)) (not_reflexive refused e)
      go true false d e f g = rw (is (step-two rows e f)) (not_transitive refused e f)
      go true true false e f g = rw (is (step-three rows e f g)) (not_antisymmetric refused e f g)
      go true true true e f g = absurd (w.fails (step-none rows e f g))

  -- "gives the first step that fails, 1, 2 or 3, where they are refused 7, and 0 for all others."
  pub step_given : StepOf tables r
  step_given = go (eqb (reading_number (tables_of tables)) (number_of Rank)) refl
    where
      go : (b : Bool) → eqb (reading_number (tables_of tables)) (number_of Rank) ≡ b → StepOf tables r
      go true e = at-rank (rank-number (tables_of tables) (eqb-true (reading_number (tables_of tables)) (number_of Rank) e))
      go false e =
          let h : tables_of tables ≡ rejected Rank → ⊥ = λ q. eqb-false (reading_number (tables_of tables)) (number_of Rank) e (ap reading_number q) in
          rw (s ∙ rank-other tables h) (other h)

  -- DEMAND 1. It finishes with an answer: it "refuses nothing".
  pub step-ends : r ≤ 3
  step-ends = go step_given
    where
      go : {k : ℕ} → StepOf tables k → k ≤ 3
      go (other h) = omega arith
      go (not_reflexive w a) = omega arith
      go (not_transitive w a b) = omega arith
      go (not_antisymmetric w a b d) = omega arith

  -- DEMAND 2. A step is given exactly where `judge`, whatever rule, order and sheet it is handed, refuses these tables by 7.
  pub step-judged : (rule order old new : Bytes) (r₂ : ℕ) → Judges tables rule order old new r₂ → (r ≡ 0 → ⊥) ↔ (r₂ ≡ 65536 * number_of Rank)
  step-judged rule order old new r₂ j = (
    λ some. refuses.1 (tables_refused (there step_given some)),
    λ number z. let q = back (refuses.0 number) refl in (rank-refused tables q).fails (sym (rank_step_lem tables q (rank-refused tables q).reads) ∙ sym s ∙ z),
  )
    where
      refuses : (r₂ ≡ 65536 * number_of Rank) ↔ JudgeRefuses tables rule order (length old) Rank
      refuses = judge-refuses tables rule order old new r₂ j Rank

      there : {k : ℕ} → StepOf tables k → (k ≡ 0 → ⊥) → tables_of tables ≡ rejected Rank
      there (other h) some = absurd (some refl)
      there (not_reflexive w a) some = w.number
      there (not_transitive w a b) some = w.number
      there (not_antisymmetric w a b d) some = w.number

      back : {e : Refusal} → JudgeRefuses tables rule order (length old) e → e ≡ Rank → tables_of tables ≡ rejected Rank
      back (tables_refused t) q = t ∙ ap rejected q
      back {e} (judged_refused t h) q = absurd (omega (arith, refused-early rule e h, ap number_of q))
      back (order_refused t h tree bad) q = absurd (omega (arith, ap number_of q))
      back (verdict_longer a l) q = absurd (omega (arith, ap number_of q))
