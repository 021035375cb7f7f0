-- What the start and the calls on a state answer where n bytes are lent: exactly where they refuse, by which numbers, and what they write.
-- Assumes nothing.
use mathlib.Core.Path.{◌≡◌, refl, ap, sym, ◌∙◌}
use mathlib.Core.Bool.{Bool, true, false, cond}
use mathlib.Core.List.{List, [], ◌∷◌}
use mathlib.Core.Logic.{◌↔◌, inl, inr}
use mathlib.Core.Option.{Option, none, some}
use Prim.Native.Nat.{ℕ, ◌≤◌}
use lib.Dec.{lit≤}
use native.Mathlib.Omega.{arith}
use lib.ListN.{length}
use Rattle.answers.specs.Refusal.{number_of}
use Rattle.answers.specs.Answer.{refused, wrote, lent}
use Rattle.answers.specs.declared.Refusal.{Refusal}
use Rattle.answers.specs.declared.Refusal.TheVariants.{CutShort}
use Rattle.answers.proofs.AnswerLaws.{lent_fits, lent-short, lent-wrote}
use Rattle.tables.specs.Tables.{Tables}
use Rattle.tables.specs.Checks.{Check}
use Rattle.tables.specs.Accepted.{Every}
use Rattle.tables.specs.Reading.{rejected, taken, tables_of}
use Rattle.syntax.specs.Bytes.{Bytes}
use Rattle.syntax.specs.Rule.{Rule}
use Rattle.rules.specs.Accept.{refusal}
use Rattle.verdicts.specs.Both.{Given, Met, bad_tables, bad_rule, good}
use Rattle.verdicts.proofs.BothLaws.{met, tables-refused, rule-refused}
use Rattle.changes.specs.declared.Change.{Change}
use Rattle.changes.specs.declared.Change.TheVariants.{Opening, Closing}
use Rattle.changes.specs.Change.{change_checks, first_due, change_refusal}
use Rattle.sessions.specs.State.{state_bytes, started, rule_in, tables_in, is_cut, changed_state, stepped}
use Rattle.sessions.proofs.SplitLaws.{step-whole}
use Rattle.sessions.proofs.StateLaws.{made-length, made-short, given-changed, next-answer, next_bytes, next-length}
use Rattle.rcl2000.specs.Calls.{state_size, StartRefuses, ChangeRefuses, state_cut, state_tables, state_rule, change_refused, next_longer, ChangeNumber, BothNumber}
use Rattle.rcl2000.proofs.CallLaws.{Short}
use Rattle.rcl2000.proofs.FormulaLaws.{short-lent, stays-refused, same-refused, never-wrote}
use Rattle.rcl2000.proofs.BothLaws.{WroteBoth, both-short, both-refused, both-written, both-fits}
use Rattle.rcl2000.proofs.RefusalLaws.{of-tables, of-rules}

-- ---- the start

module _ (tables rule : Bytes) where
  abbrev made : Tables → Rule → Bytes
  made T ρ = state_bytes T ρ rule

  abbrev size : Tables → Rule → ℕ
  size T ρ = state_size rule T

  long : (T : Tables) (ρ : Rule) → Given tables rule T ρ → length (made T ρ) ≡ size T ρ
  long T ρ g = made-length g

  pub start-short : Short (started tables rule)
  unfolding started
  start-short = both-short made size tables rule long (λ T ρ g. omega (arith, made-short g))

  pub start-refused : (n : ℕ) (e : Refusal) → (lent n (started tables rule) ≡ refused e) ↔ StartRefuses tables rule n e
  unfolding started
  start-refused = both-refused made size tables rule long

  pub start-written : (n : ℕ) (b : Bytes) → lent n (started tables rule) ≡ wrote b → WroteBoth made tables rule n b
  unfolding started
  start-written = both-written made size tables rule long

  pub start_fits : {T : Tables} {ρ : Rule} → Given tables rule T ρ → (n : ℕ) → state_size rule T ≤ n → lent n (started tables rule) ≡ wrote (state_bytes T ρ rule)
  unfolding started
  start_fits = both-fits made size tables rule long

-- ---- a call on a state

module _ (s : Bytes) (c : Change) where
  -- What is met first.
  data StepMet : Type 0 where
    cut : is_cut s ≡ true → StepMet
    bad_state : is_cut s ≡ false → (e : Refusal) → tables_of (tables_in s) ≡ rejected e → StepMet
    bad_text : is_cut s ≡ false → (T : Tables) (e : Refusal) → tables_of (tables_in s) ≡ taken T → refusal (rule_in s) ≡ some e → StepMet
    bad_change : is_cut s ≡ false → (T : Tables) (ρ : Rule) (e : Refusal) → Given (tables_in s) (rule_in s) T ρ → change_refusal T c ≡ some e → StepMet
    next : is_cut s ≡ false → (T : Tables) (ρ : Rule) → Given (tables_in s) (rule_in s) T ρ → change_refusal T c ≡ none → StepMet

  step-met : StepMet
  step-met = by-cut (is_cut s) refl
    where
      by-change : is_cut s ≡ false → (T : Tables) (ρ : Rule) → Given (tables_in s) (rule_in s) T ρ → (o : Option Refusal) → change_refusal T c ≡ o → StepMet
      by-change w T ρ g (some e) q = bad_change w T ρ e g q
      by-change w T ρ g none q = next w T ρ g q

      by_both : is_cut s ≡ false → Met (tables_in s) (rule_in s) → StepMet
      by_both w (bad_tables e t) = bad_state w e t
      by_both w (bad_rule T e t r) = bad_text w T e t r
      by_both w (good T ρ g) = by-change w T ρ g (change_refusal T c) refl

      by-cut : (b : Bool) → is_cut s ≡ b → StepMet
      by-cut true q = cut q
      by-cut false q = by_both q (met (tables_in s) (rule_in s))

  -- What is answered then.
  cut-answer : is_cut s ≡ true → stepped s c ≡ refused CutShort
  unfolding stepped
  cut-answer q = rw q

  tables-answer : is_cut s ≡ false → {e : Refusal} → tables_of (tables_in s) ≡ rejected e → stepped s c ≡ refused e
  tables-answer w t = step-whole s w c ∙ tables-refused (tables_in s) (rule_in s) _ t

  rule-answer : is_cut s ≡ false → {T : Tables} {e : Refusal} → tables_of (tables_in s) ≡ taken T → refusal (rule_in s) ≡ some e → stepped s c ≡ refused e
  rule-answer w t r = step-whole s w c ∙ rule-refused (tables_in s) (rule_in s) _ t r

  module _ (w : is_cut s ≡ false) {T : Tables} {ρ : Rule} (g : Given (tables_in s) (rule_in s) T ρ) where
    change-answer : {e : Refusal} → change_refusal T c ≡ some e → stepped s c ≡ refused e
    unfolding changed_state
    change-answer q = next-answer s c w g ∙ rw q

    pub step-answer : change_refusal T c ≡ none → stepped s c ≡ wrote (next_bytes s c w g)
    unfolding changed_state
    step-answer q = next-answer s c w g ∙ rw q

  -- What was written: the next state.
  record Next (n : ℕ) (b : Bytes) : Type 0 where
    T : Tables
    ρ : Rule
    whole : is_cut s ≡ false
    given : Given (tables_in s) (rule_in s) T ρ
    free : change_refusal T c ≡ none
    bytes : next_bytes s c whole given ≡ b

  step-written : (n : ℕ) (b : Bytes) → lent n (stepped s c) ≡ wrote b → Next n b
  step-written n b q = go step-met
    where
      go : StepMet → Next n b
      go (cut w) = never-wrote n (cut-answer w) q
      go (bad_state w e t) = never-wrote n (tables-answer w t) q
      go (bad_text w T e t r) = never-wrote n (rule-answer w t r) q
      go (bad_change w T ρ e g d) = never-wrote n (change-answer w g d) q
      go (next w T ρ g d) =
          let same : next_bytes s c w g ≡ b = cc (step-answer w g d, lent-wrote n (stepped s c) b q) in
          record { T = T; ρ = ρ; whole = w; given = g; free = d; bytes = same }

  pub step-short : Short (stepped s c)
  step-short b q =
      let x = step-written (length b) b (ap (lent (length b)) q ∙ lent_fits (length b) b (omega arith)) in
      omega (arith, ap length x.bytes, next-length s c x.whole x.given x.free, made-short (given-changed x.given c x.free))

  pub step-refused : (n : ℕ) (e : Refusal) → (lent n (stepped s c) ≡ refused e) ↔ ChangeRefuses s c n e
  step-refused n e = (λ q. there step-met q, λ x. back x)
    where
      there : StepMet → lent n (stepped s c) ≡ refused e → ChangeRefuses s c n e
      there (cut w) q = let x = same-refused n (cut-answer w) q in rw (← x) (state_cut w)
      there (bad_state w d t) q = state_tables w (t ∙ ap rejected (same-refused n (tables-answer w t) q))
      there (bad_text w T d t r) q = state_rule w t (r ∙ ap some (same-refused n (rule-answer w t r) q))
      there (bad_change w T ρ d g h) q = change_refused w g (h ∙ ap some (same-refused n (change-answer w g h) q))
      there (next w T ρ g h) q =
          let x = short-lent n (next_bytes s c w g) (sym (ap (lent n) (step-answer w g h)) ∙ q) in
          rw (← x.0) (next_longer w g h (omega (arith, x.1, next-length s c w g h)))

      back : {e : Refusal} → ChangeRefuses s c n e → lent n (stepped s c) ≡ refused e
      back (state_cut w) = stays-refused n (cut-answer w)
      back (state_tables w t) = stays-refused n (tables-answer w t)
      back (state_rule w t r) = stays-refused n (rule-answer w t r)
      back (change_refused w g h) = stays-refused n (change-answer w g h)
      back (next_longer w g h l) = ap (lent n) (step-answer w g h) ∙ lent-short n (next_bytes s c w g) (omega (arith, next-length s c w g h))

-- ---- by which numbers

-- The refusal of some check has what each check's has.
due-among : (P : Refusal → Type 0) (cs : List Check) → Every (λ c. P c.refusal) cs → {e : Refusal} → first_due cs ≡ some e → P e
unfolding first_due
due-among P [] h q = let z : ◌≡◌ {A = ℕ} 0 1 = cc in absurd (omega arith)
due-among P (c ∷ cs) h {e} q = go c.holds (λ r. due-among P cs h.1 r) q
  where
    go : (b : Bool) → (first_due cs ≡ some e → P e) → cond b (first_due cs) (some c.refusal) ≡ some e → P e
    go true rest q = rest q
    go false rest q = let x : c.refusal ≡ e = cc in rw (← x) h.0

change-own : (T : Tables) (c : Change) {e : Refusal} → change_refusal T c ≡ some e → ChangeNumber c (number_of e)
unfolding change_refusal change_checks
change-own T (Opening u w) =
    due-among (λ e. ChangeNumber (Opening u w) (number_of e)) (change_checks T (Opening u w))
    (inr refl, (item, (item, (inl (inl (inl (inr refl))), (inl (inl (inl (inl (lit≤ tt, lit≤ tt)))), tt)))))
  where
    item : ChangeNumber (Opening u w) 5
    item = inl (inl (inl (inl (lit≤ tt, lit≤ tt))))
change-own T (Closing k) = due-among (λ e. ChangeNumber (Closing k) (number_of e)) (change_checks T (Closing k)) (inr refl, tt)

-- Those of tables, of rules and 17 are among them, whatever the change.
common-own : (c : Change) {n : ℕ} → BothNumber n → ChangeNumber c n
common-own (Opening u w) h = inl h
common-own (Closing k) h = inl h

pub step-own : {s : Bytes} {c : Change} {n : ℕ} {e : Refusal} → ChangeRefuses s c n e → ChangeNumber c (number_of e)
step-own {c = c} (state_cut w) = common-own c (inl (inl (inl (lit≤ tt, lit≤ tt))))
step-own {s} {c} (state_tables w t) = common-own c (inl (inl (of-tables (tables_in s) t)))
step-own {s} {c} (state_rule w t r) = common-own c (inl (inr (of-rules (rule_in s) r)))
step-own {c = c} (change_refused {T} w g h) = change-own T c h
step-own {c = c} (next_longer w g h l) = common-own c (inr refl)
