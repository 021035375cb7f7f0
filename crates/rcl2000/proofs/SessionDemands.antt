-- The demands, and document 02's N9, of what the tracker sees of `sessions_start`, `session_open` and `session_close`: the number r that a call returns
-- and the lent bytes, old before it and new after it. The contracts say `Starts` and `Changes` of them. Assumes nothing.
use mathlib.Core.Path.{◌≡◌, refl, sym, ap, ◌∙◌}
use mathlib.Core.List.{List, [], ◌∷◌, ◌++◌}
use mathlib.Core.Logic.{◌↔◌}
use mathlib.Core.Option.{Option, none, some}
use Prim.Native.Nat.{ℕ, ◌*◌, ◌≤◌, ◌<◌}
use native.Mathlib.Omega.{arith}
use lib.ListN.{length, take}
use Rattle.answers.specs.Refusal.{number_of}
use Rattle.answers.specs.Answer.{refused, wrote, lent}
use Rattle.answers.specs.declared.Refusal.{Refusal}
use Rattle.answers.proofs.AnswerLaws.{number-some, lent-wrote, lent_fits, lent-short}
use Rattle.tables.specs.Tables.{Session, Tables, with_sessions}
use Rattle.tables.specs.Encode.{encode}
use Rattle.tables.specs.Reading.{taken, tables_of}
use Rattle.syntax.specs.Bytes.{Bytes}
use Rattle.syntax.specs.Rule.{Rule}
use Rattle.verdicts.specs.Verdict.{turn_order, unless_refused, verdict_bytes}
use Rattle.verdicts.specs.Report.{OrderOf, ReportsIn, Admitted}
use Rattle.verdicts.specs.Both.{Given}
use Rattle.verdicts.proofs.JudgedLaws.{admitted-wrote, bytes-length}
use Rattle.verdicts.proofs.ReportLaws.{bytes-report}
use Rattle.verdicts.proofs.GivenLaws.{turn-ordered, given-admitted}
use Rattle.changes.specs.declared.Change.{Change}
use Rattle.changes.specs.Change.{sessions_by, changed, change_refusal}
use Rattle.mentions.proofs.SameLaws.{bytes-unmentioned}
use Rattle.sessions.specs.State.{current_bytes, state_bytes, verdict_in, rule_in, tables_in, stepped}
use Rattle.sessions.proofs.StateLaws.{current-length, rule-short, given-encoded, given-changed, made-length, made-short, verdict-in, rule-in, tables-in, stepped-state}
use Rattle.rcl2000.specs.Calls.{Ends, answers, refuses, BothNumber, Judges, Starts, Changes, state_size, StartRefuses, ChangeRefuses, ChangeNumber}
use Rattle.rcl2000.specs.Day.{Day, morning, accepted, refused as refused_call, sessions_after, tables_after, full_in, breaking_in, Current, DayRefuses, day_change, day_longer}
use Rattle.rcl2000.proofs.CallLaws.{through, lent-room, sees-refused, sees-wrote, refuses-exactly, writes-exactly, call_ends}
use Rattle.rcl2000.proofs.FormulaLaws.{short-lent, stays-refused, same-refused, never-wrote}
use Rattle.rcl2000.proofs.RefusalLaws.{both_own}
use Rattle.rcl2000.proofs.JudgeLaws.{judged-short, admitted-reported}
use Rattle.rcl2000.proofs.SessionLaws.{start-short, start-refused, start-written, start_fits, step-short, step-refused, step-own}

-- DEMAND 1. "finishes with an answer or a numbered refusal; a refusal carries no result and changes no lent byte": also on every damaged state.
pub start-ends : (tables rule old new : Bytes) (r : ℕ) → Starts tables rule old new r → Ends BothNumber old new r
start-ends tables rule old new r s = call_ends s BothNumber (start-short tables rule) (λ e q. both_own ((start-refused tables rule (length old) e).0 q))

pub change-ends : (s : Bytes) (c : Change) (old new : Bytes) (r : ℕ) → Changes s c old new r → Ends (ChangeNumber c) old new r
change-ends s c old new r x = call_ends x (ChangeNumber c) (step-short s c) (λ e q. step-own ((step-refused s c (length old) e).0 q))

-- DEMAND 2. By each number exactly where it is due.
pub start-refuses : (tables rule old new : Bytes) (r : ℕ) → Starts tables rule old new r → (e : Refusal) → (r ≡ 65536 * number_of e) ↔ StartRefuses tables rule (length old) e
start-refuses tables rule old new r s e = through (refuses-exactly s (start-short tables rule) e) (start-refused tables rule (length old) e)

-- A number below 65,536 is returned exactly where both are accepted and the state has room; `day-current` says what was written.
pub start-accepts : (tables rule old new : Bytes) (r : ℕ) → Starts tables rule old new r
    → (r < 65536) ↔ ((T : Tables) × (ρ : Rule) × Given tables rule T ρ × (state_size rule T ≤ length old))
start-accepts tables rule old new r s = (
  λ l.
      let w = (writes-exactly s (start-short tables rule)).0 l in
      let b = start-written tables rule (length old) w.0 w.1 in
      (b.T, b.ρ, b.given, omega (arith, b.room, ap length b.bytes, made-length b.given)),
  λ (T, ρ, g, room). (writes-exactly s (start-short tables rule)).1 (state_bytes T ρ rule, start_fits tables rule g (length old) room),
)

pub change-refuses : (s : Bytes) (c : Change) (old new : Bytes) (r : ℕ) → Changes s c old new r → (e : Refusal) → (r ≡ 65536 * number_of e) ↔ ChangeRefuses s c (length old) e
change-refuses s c old new r x e = through (refuses-exactly x (step-short s c) e) (step-refused s c (length old) e)

-- "A refused call changes nothing."
pub change-keeps : (s : Bytes) (c : Change) (old new : Bytes) (r : ℕ) → Changes s c old new r → 65536 ≤ r → new ≡ old
change-keeps s c old new r x l = go (change-ends s c old new r x)
  where
    go : Ends (ChangeNumber c) old new r → new ≡ old
    go (answers w q) = absurd (omega (arith, q.below))
    go (refuses e n q) = q.kept

-- ---- a day of calls

-- The state of the tables S and a rule that are given.
record Made (S : Tables) (rule : Bytes) (ρ : Rule) (s : Bytes) : Type 0 where
  given : Given (encode S) rule S ρ
  state : s ≡ state_bytes S ρ rule

-- A call on it that returned a number below 65,536 wrote the state of the changed tables.
module _ {S : Tables} {rule s : Bytes} {ρ : Rule} (m : Made S rule ρ s) (c : Change) where
  answer : stepped s c ≡ unless_refused (change_refusal S c) (state_bytes (changed S c) ρ rule)
  answer = ap (λ (x : Bytes). stepped x c) m.state ∙ stepped-state m.given c

  change-answer : {e : Refusal} → change_refusal S c ≡ some e → stepped s c ≡ refused e
  change-answer q = answer ∙ rw q

  next-answer : change_refusal S c ≡ none → stepped s c ≡ wrote (state_bytes (changed S c) ρ rule)
  next-answer q = answer ∙ rw q

  record Onward (b : Bytes) : Type 0 where
    free : change_refusal S c ≡ none
    made : Made (changed S c) rule ρ b

  onward : (old new : Bytes) (r : ℕ) → Changes s c old new r → r < 65536 → Onward (take r new)
  onward old new r x l = go (change_refusal S c) refl
    where
      go : (o : Option Refusal) → change_refusal S c ≡ o → Onward (take r new)
      go (some e) q = absurd (omega (arith, (sees-refused x (stays-refused (length old) (change-answer q))).number, number-some e))
      go none q =
          let w = (writes-exactly x (step-short s c)).0 l in
          let v = sees-wrote x (step-short s c) w.1 in
          let same : state_bytes (changed S c) ρ rule ≡ w.0 = cc (next-answer q, lent-wrote (length old) (stepped s c) w.0 w.1) in
          record { free = q; made = record { given = given-changed m.given c q; state = v.front ∙ sym same } }

  made-refuses : (n : ℕ) (e : Refusal) → (lent n (stepped s c) ≡ refused e) ↔ DayRefuses S rule c n e
  made-refuses n e = (λ q. there (change_refusal S c) refl q, λ x. back x)
    where
      there : (o : Option Refusal) → change_refusal S c ≡ o → lent n (stepped s c) ≡ refused e → DayRefuses S rule c n e
      there (some d) h q = day_change (h ∙ ap some (same-refused n (change-answer h) q))
      there none h q =
          let x = short-lent n (state_bytes (changed S c) ρ rule) (sym (ap (lent n) (next-answer h)) ∙ q) in
          rw (← x.0) (day_longer h (omega (arith, x.1, made-length (given-changed m.given c h))))

      back : {e : Refusal} → DayRefuses S rule c n e → lent n (stepped s c) ≡ refused e
      back (day_change h) = stays-refused n (change-answer h)
      back (day_longer h l) =
          ap (lent n) (next-answer h) ∙ lent-short n (state_bytes (changed S c) ρ rule) (omega (arith, made-length (given-changed m.given c h)))

  made-accepts : (n : ℕ) → ((w : Bytes) × (lent n (stepped s c) ≡ wrote w)) ↔ ((change_refusal S c ≡ none) × (state_size rule (changed S c) ≤ n))
  made-accepts n = (λ x. there (change_refusal S c) refl x.1, λ x. (state_bytes (changed S c) ρ rule, back x.0 x.1))
    where
      there : (o : Option Refusal) → change_refusal S c ≡ o → {w : Bytes} → lent n (stepped s c) ≡ wrote w → (change_refusal S c ≡ none) × (state_size rule (changed S c) ≤ n)
      there (some e) h q = never-wrote n (change-answer h) q
      there none h {w} q =
          let same : state_bytes (changed S c) ρ rule ≡ w = cc (next-answer h, lent-wrote n (stepped s c) w q) in
          (h, omega (arith, lent-room n (stepped s c) w q, ap length same, made-length (given-changed m.given c h)))

      back : change_refusal S c ≡ none → state_size rule (changed S c) ≤ n → lent n (stepped s c) ≡ wrote (state_bytes (changed S c) ρ rule)
      back h l = ap (lent n) (next-answer h) ∙ lent_fits n (state_bytes (changed S c) ρ rule) (omega (arith, made-length (given-changed m.given c h)))

after_one : (cs : List Change) (c : Change) (ss : List Session) → sessions_after (cs ++ (c ∷ [])) ss ≡ sessions_by c (sessions_after cs ss)
unfolding sessions_after
after_one [] c ss = refl
after_one (d ∷ cs) c ss = after_one cs c (sessions_by d ss)

module _ {T : Tables} {rule first : Bytes} {ρ : Rule} (begun : Made T rule ρ first) where
  day-made : {s : Bytes} {cs : List Change} → Day first s cs → Made (tables_after T cs) rule ρ s
  unfolding sessions_after
  day-made morning = begun
  day-made (accepted {cs = cs} d c old new r x l) =
      let o = onward (day-made d) c old new r x l in
      rw (after_one cs c T.sessions) o.made
  day-made (refused_call d c old new r x l) = day-made d

-- What a made state says, by the sessions ss.
module _ {T : Tables} {rule first s : Bytes} {ρ : Rule} (begun : Made T rule ρ first) (ss : List Session) (m : Made (with_sessions T ss) rule ρ s) where
  abbrev S : Tables
  S = with_sessions T ss

  -- The verdict stands in front.
  in-front : {U : Tables} {x : Bytes} → Made U rule ρ x → verdict_in x ≡ current_bytes U ρ
  in-front {U} n = ap verdict_in n.state ∙ verdict-in (current_bytes U ρ) rule (encode U) (current-length n.given) (rule-short n.given)

  reports : ReportsIn S ρ (turn_order (some ρ)) s
  reports = rw m.state (bytes-report (given-admitted m.given) _)

  module _ (b order old new : Bytes) (r : ℕ) (t : tables_of b ≡ taken S) (o : OrderOf ρ order) (room : 26 ≤ length old) (j : Judges b rule order old new r) where
    admitted : Admitted b rule order S ρ
    admitted = record { reads = t; accepts = m.given.accepts; tree = m.given.tree; ordered = o }

    judged-same : (r ≡ 26) × (full_in s ≡ full_in new) × (breaking_in s ≡ breaking_in new)
    judged-same =
        let (n, told) = admitted-reported admitted j room in
        (n, reports.fulls ∙ sym told.reports.fulls, reports.breakings ∙ sym told.reports.breakings)

    judged-bytes : take 26 new ≡ verdict_bytes S ρ order
    judged-bytes =
        let w = sees-wrote j (judged-short b rule order) (ap (lent (length old)) (admitted-wrote admitted) ∙ lent_fits (length old) (verdict_bytes S ρ order) (omega (arith, bytes-length admitted))) in
        let n : r ≡ 26 = w.number ∙ bytes-length admitted in
        rw n at w.front

  made-current : Current S rule ρ first s
  made-current =
      record {
        tables = ap (λ (x : Bytes). tables_of (tables_in x)) m.state ∙ ap tables_of (tables-in (current_bytes S ρ) rule (encode S) (current-length m.given) (rule-short m.given)) ∙ m.given.reads;
        text = ap rule_in m.state ∙ rule-in (current_bytes S ρ) rule (encode S) (current-length m.given) (rule-short m.given);
        counts = judged-same;
        verdict = λ b old new r t room j. in-front m ∙ sym (judged-bytes b (turn_order (some ρ)) old new r t (turn-ordered ρ) room j);
        unmentioned = λ q. in-front m ∙ bytes-unmentioned rule ρ m.given.accepts m.given.tree q T ss (turn_order (some ρ)) ∙ sym (in-front begun);
        short = omega (arith, ap length m.state, made-length m.given, made-short m.given);
      }

-- The start is made of what was given.
start-made : (tables rule old new : Bytes) (r : ℕ) → Starts tables rule old new r → r < 65536
    → (T : Tables) × (ρ : Rule) × Given tables rule T ρ × Made T rule ρ (take r new)
start-made tables rule old new r x l =
    let w = (writes-exactly x (start-short tables rule)).0 l in
    let b = start-written tables rule (length old) w.0 w.1 in
    let v = sees-wrote x (start-short tables rule) w.1 in
    (b.T, b.ρ, b.given, record { given = given-encoded b.given; state = v.front ∙ sym b.bytes })

-- "Start from accepted tables and an accepted rule." A start that returned a number below 65,536 is of such, and for every list of opens and closes that
-- follow, each call on the state before it and with any lent output, the state is current: "the sessions are the starting list with the change of each
-- accepted call made in turn, and full and breaking equal those judged afresh on the tables with that list as section 3".
pub day-current : (tables rule old new : Bytes) (r : ℕ) → Starts tables rule old new r → r < 65536
    → (T : Tables) × (ρ : Rule) × Given tables rule T ρ
    × ((s : Bytes) (cs : List Change) → Day (take r new) s cs → Current (tables_after T cs) rule ρ (take r new) s)
day-current tables rule old new r x l =
    let (T, ρ, g, m) = start-made tables rule old new r x l in
    (T, ρ, g, λ s cs d. made-current m (sessions_after cs T.sessions) (day-made m d))

-- Which calls are refused, exactly, and that the others are accepted: on a state of such a day.
module _ (tables rule old new : Bytes) (r : ℕ) (x : Starts tables rule old new r) (l : r < 65536) (s : Bytes) (cs : List Change) (d : Day (take r new) s cs)
    (c : Change) (old₂ new₂ : Bytes) (r₂ : ℕ) (y : Changes s c old₂ new₂ r₂) where
  start : (T : Tables) → tables_of tables ≡ taken T → (ρ : Rule) × Made T rule ρ (take r new)
  start T t =
      let (U, ρ, g, m) = start-made tables rule old new r x l in
      let same : U ≡ T = cc (g.reads, t) in
      (ρ, rw same at m)

  pub day-refuses : (T : Tables) → tables_of tables ≡ taken T → (e : Refusal) → (r₂ ≡ 65536 * number_of e) ↔ DayRefuses (tables_after T cs) rule c (length old₂) e
  day-refuses T t e = through (refuses-exactly y (step-short s c) e) (made-refuses (day-made (start T t).1 d) c (length old₂) e)

  pub day-accepts : (T : Tables) → tables_of tables ≡ taken T
      → (r₂ < 65536) ↔ ((change_refusal (tables_after T cs) c ≡ none) × (state_size rule (changed (tables_after T cs) c) ≤ length old₂))
  day-accepts T t = through (writes-exactly y (step-short s c)) (made-accepts (day-made (start T t).1 d) c (length old₂))
