-- What a call answers that checks the tables, then the rule, and writes bytes of a known size, n bytes lent: where it refuses, and what it writes.
-- Assumes nothing.
use mathlib.Core.Path.{◌≡◌, ap, sym, ◌∙◌}
use mathlib.Core.Option.{some}
use mathlib.Core.Logic.{◌↔◌}
use Prim.Native.Nat.{ℕ, ◌≤◌, ◌<◌}
use native.Mathlib.Omega.{arith}
use lib.ListN.{length}
use Rattle.answers.specs.Answer.{Answer, refused, wrote, lent}
use Rattle.answers.specs.declared.Refusal.{Refusal}
use Rattle.answers.proofs.AnswerLaws.{lent_fits, lent-short, lent-wrote}
use Rattle.tables.specs.Tables.{Tables}
use Rattle.tables.specs.Reading.{rejected}
use Rattle.syntax.specs.Bytes.{Bytes}
use Rattle.syntax.specs.Rule.{Rule}
use Rattle.verdicts.specs.Both.{Given, Met, bad_tables, bad_rule, good, of_texts}
use Rattle.verdicts.proofs.BothLaws.{met, tables-refused, rule-refused, given-answers}
use Rattle.rcl2000.specs.Calls.{BothRefuses, both_tables, both_rule, both_longer}
use Rattle.rcl2000.proofs.CallLaws.{Short, lent-room}
use Rattle.rcl2000.proofs.FormulaLaws.{short-lent, stays-refused, same-refused, never-wrote}

-- What was written: the bytes of what was given, for which there is room.
pub record WroteBoth (f : Tables → Rule → Bytes) (tables rule : Bytes) (n : ℕ) (b : Bytes) : Type 0 where
  pub T : Tables
  pub ρ : Rule
  pub given : Given tables rule T ρ
  pub bytes : f T ρ ≡ b
  pub room : length b ≤ n

module _ (f : Tables → Rule → Bytes) (size : Tables → Rule → ℕ) (tables rule : Bytes) (long : (T : Tables) (ρ : Rule) → Given tables rule T ρ → length (f T ρ) ≡ size T ρ) where
  abbrev told : Tables → Rule → Answer
  told T ρ = wrote (f T ρ)

  abbrev answer : Answer
  answer = of_texts tables rule told

  pub both-written : (n : ℕ) (b : Bytes) → lent n answer ≡ wrote b → WroteBoth f tables rule n b
  both-written n b q = go (met tables rule)
    where
      go : Met tables rule → WroteBoth f tables rule n b
      go (bad_tables e t) = never-wrote n (tables-refused tables rule told t) q
      go (bad_rule T e t r) = never-wrote n (rule-refused tables rule told t r) q
      go (good T ρ g) =
          let same : f T ρ ≡ b = cc (given-answers tables rule told g, lent-wrote n answer b q) in
          record { T = T; ρ = ρ; given = g; bytes = same; room = lent-room n answer b q }

  pub both-short : ((T : Tables) (ρ : Rule) → Given tables rule T ρ → size T ρ < 65536) → Short answer
  both-short h w q =
      let x = both-written (length w) w (ap (lent (length w)) q ∙ lent_fits (length w) w (omega arith)) in
      omega (arith, ap length x.bytes, long x.T x.ρ x.given, h x.T x.ρ x.given)

  pub both-refused : (n : ℕ) (e : Refusal) → (lent n answer ≡ refused e) ↔ BothRefuses size tables rule n e
  both-refused n e = (λ q. there (met tables rule) q, λ x. back x)
    where
      there : Met tables rule → lent n answer ≡ refused e → BothRefuses size tables rule n e
      there (bad_tables d t) q = both_tables (t ∙ ap rejected (same-refused n (tables-refused tables rule told t) q))
      there (bad_rule T d t r) q = both_rule t (r ∙ ap some (same-refused n (rule-refused tables rule told t r) q))
      there (good T ρ g) q =
          let s = short-lent n (f T ρ) (sym (ap (lent n) (given-answers tables rule told g)) ∙ q) in
          rw (← s.0) (both_longer g (omega (arith, s.1, long T ρ g)))

      back : {e : Refusal} → BothRefuses size tables rule n e → lent n answer ≡ refused e
      back (both_tables t) = stays-refused n (tables-refused tables rule told t)
      back (both_rule t r) = stays-refused n (rule-refused tables rule told t r)
      back (both_longer {T} {ρ} g l) = ap (lent n) (given-answers tables rule told g) ∙ lent-short n (f T ρ) (omega (arith, long T ρ g))

  -- On every output that has room it is written.
  pub both-fits : {T : Tables} {ρ : Rule} → Given tables rule T ρ → (n : ℕ) → size T ρ ≤ n → lent n answer ≡ wrote (f T ρ)
  both-fits {T} {ρ} g n l = ap (lent n) (given-answers tables rule told g) ∙ lent_fits n (f T ρ) (omega (arith, long T ρ g))
