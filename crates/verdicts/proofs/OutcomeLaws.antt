-- The number, the word and the values of a verdict say which verdict it is; and what its word says of the counts.
-- Assumes nothing.
use mathlib.Core.Path.{◌≡◌, refl, ap}
use mathlib.Core.Bool.{Bool, true, false, cond}
use mathlib.Core.Logic.{◌↔◌}
use mathlib.Core.Option.{none}
use Prim.Native.Nat.{ℕ, zero, suc, ◌<◌, ◌≤◌}
use native.Mathlib.Omega.{arith}
use lib.Dec.{eqb, ltb}
use borrow.Author.Tests.{lt-ltb, le-ltb, eq-eqb, ne_eqb}
use Rattle.answers.specs.Answer.{wrote}
use Rattle.answers.specs.declared.Refusal.{Refusal}
use Rattle.answers.proofs.AnswerLaws.{same_number}
use Rattle.syntax.specs.Bytes.{Bytes}
use Rattle.verdicts.specs.declared.Outcome.{Outcome}
use Rattle.verdicts.specs.declared.Outcome.TheVariants.{Refused, Held, Idle, Broken}
use Rattle.verdicts.specs.declared.Verdict.{Verdict}
use Rattle.verdicts.specs.Verdict.{refusal_in, verdict_number, word_number, Gives, outcome_of, verdict_of}
use Rattle.verdicts.specs.Verdict.{written, answer_by, judged}

same_outcome : (a b : Outcome) → verdict_number a ≡ verdict_number b → word_number a ≡ word_number b → a ≡ b
same_outcome (Refused e) (Refused f) n w = ap Refused (same_number e f n)
same_outcome (Refused e) Held n w = absurd (omega arith)
same_outcome (Refused e) Idle n w = absurd (omega arith)
same_outcome (Refused e) Broken n w = absurd (omega arith)
same_outcome Held (Refused f) n w = absurd (omega arith)
same_outcome Held Held n w = refl
same_outcome Held Idle n w = absurd (omega arith)
same_outcome Held Broken n w = absurd (omega arith)
same_outcome Idle (Refused f) n w = absurd (omega arith)
same_outcome Idle Held n w = absurd (omega arith)
same_outcome Idle Idle n w = refl
same_outcome Idle Broken n w = absurd (omega arith)
same_outcome Broken (Refused f) n w = absurd (omega arith)
same_outcome Broken Held n w = absurd (omega arith)
same_outcome Broken Idle n w = absurd (omega arith)
same_outcome Broken Broken n w = refl

pub gives_same : {v r : Verdict} → Gives v r → r ≡ v
gives_same {v} {r} g =
    let o : r.outcome ≡ v.outcome = same_outcome r.outcome v.outcome g.number g.word in
    let same : ◌≡◌ {A = Verdict} (record { outcome = r.outcome; full = r.full; breaking = r.breaking; first = r.first; share = r.share })
    (record { outcome = v.outcome; full = v.full; breaking = v.breaking; first = v.first; share = v.share }) =
    rw (o, g.full, g.breaking, g.first, g.share) in
    same

pub same_gives : {v r : Verdict} → r ≡ v → Gives v r
same_gives e = rw e (record { number = refl; word = refl; full = refl; breaking = refl; first = refl; share = refl })

-- What judging answers, by the verdict's outcome.
pub judged-by : (b s order : Bytes) (v : Verdict) (o : Outcome) → Gives (verdict_of b s order) v → v.outcome ≡ o → answer_by o v ≡ judged b s order
unfolding judged
judged-by b s order v o is h = rw (← gives_same is, h)

-- Where it is no refusal, these are the bytes with its word.
pub answer-worded : (o : Outcome) (v : Verdict) → ((e : Refusal) → o ≡ Refused e → ⊥) → answer_by o v ≡ wrote (written (word_number o) v)
unfolding answer_by
answer-worded (Refused e) v n = absurd (n e refl)
answer-worded Held v n = refl
answer-worded Idle v n = refl
answer-worded Broken v n = refl

-- The verdict's word, by the counts.
abbrev word_of : ℕ → ℕ → ℕ
word_of full breaking = word_number (outcome_of full breaking)

is-broken : (full breaking : ℕ) → 0 < breaking → word_of full breaking ≡ 2
unfolding outcome_of
is-broken full breaking h = rw (lt-ltb 0 breaking h)

is-idle : (full breaking : ℕ) → breaking ≤ 0 → full ≡ 0 → word_of full breaking ≡ 1
unfolding outcome_of
is-idle full breaking h e = rw (le-ltb 0 breaking h, eq-eqb full 0 e)

is_held : (full breaking : ℕ) → breaking ≤ 0 → (full ≡ 0 → ⊥) → word_of full breaking ≡ 0
unfolding outcome_of
is_held full breaking h n = rw (le-ltb 0 breaking h, ne_eqb full 0 n)

-- Each pair of counts has one of the three words.
data Worded (full breaking : ℕ) : Type 0 where
  broken : 0 < breaking → word_of full breaking ≡ 2 → Worded full breaking
  idle : breaking ≤ 0 → full ≡ 0 → word_of full breaking ≡ 1 → Worded full breaking
  held : breaking ≤ 0 → 0 < full → word_of full breaking ≡ 0 → Worded full breaking

worded : (full breaking : ℕ) → Worded full breaking
worded zero zero = idle (omega arith) refl (is-idle 0 0 (omega arith) refl)
worded (suc f) zero = held (omega arith) (omega arith) (is_held (suc f) 0 (omega arith) (λ e. omega arith))
worded f (suc b) = broken (omega arith) (is-broken f (suc b) (omega arith))

module _ (full breaking : ℕ) where
  pub word-broken : (word_of full breaking ≡ 2) ↔ (0 < breaking)
  word-broken = (λ e. go (worded full breaking) e, is-broken full breaking)
    where
      go : Worded full breaking → word_of full breaking ≡ 2 → 0 < breaking
      go (broken h q) e = h
      go (idle h z q) e = omega (arith, e, q)
      go (held h z q) e = omega (arith, e, q)

  pub word-idle : breaking ≤ full → (word_of full breaking ≡ 1) ↔ (full ≡ 0)
  word-idle le = (λ e. go (worded full breaking) e, λ z. is-idle full breaking (omega arith) z)
    where
      go : Worded full breaking → word_of full breaking ≡ 1 → full ≡ 0
      go (broken h q) e = omega (arith, e, q)
      go (idle h z q) e = z
      go (held h z q) e = omega (arith, e, q)

  pub word_held : (word_of full breaking ≡ 0) ↔ ((0 < full) × (breaking ≡ 0))
  word_held = (λ e. go (worded full breaking) e, λ p. is_held full breaking (omega (arith, p.1)) (λ z. omega (arith, p.0)))
    where
      go : Worded full breaking → word_of full breaking ≡ 0 → (0 < full) × (breaking ≡ 0)
      go (broken h q) e = absurd (omega (arith, e, q))
      go (idle h z q) e = absurd (omega (arith, e, q))
      go (held h z q) e = (z, omega arith)

  -- An accepted input is no refusal.
  pub word-accepted : refusal_in (outcome_of full breaking) ≡ none
  unfolding outcome_of
  word-accepted = go (ltb 0 breaking) (eqb full 0)
    where
      go : (b f : Bool) → refusal_in (cond b Broken (cond f Idle Held)) ≡ none
      go true f = refl
      go false true = refl
      go false false = refl
