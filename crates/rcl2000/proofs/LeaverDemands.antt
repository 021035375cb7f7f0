-- Document 02, N6, of what the tracker sees of the calls that read tables: the number r that is returned and the lent bytes, old before and new
-- after; and of the functions and variables that verdicts rest on. Assumes nothing.
use mathlib.Core.Path.{◌≡◌, refl, ap, ◌∙◌}
use mathlib.Core.Bool.{true}
use mathlib.Core.List.{List, []}
use mathlib.Core.Logic.{◌↔◌}
use mathlib.Core.Option.{some}
use Prim.Native.Nat.{ℕ, ◌+◌, ◌*◌, ◌≤◌}
use native.Mathlib.Omega.{arith}
use lib.ListN.{length, get_elem?, take, drop}
use Rattle.answers.specs.Refusal.{number_of}
use Rattle.answers.specs.declared.Refusal.{Refusal}
use Rattle.answers.specs.declared.Refusal.TheVariants.{Rank, Left}
use Rattle.words.specs.Words.{has}
use Rattle.tables.specs.Tables.{Tables, is_present}
use Rattle.tables.specs.Functions.{user_of_sessions, user_of_roles}
use Rattle.tables.specs.Checks.{late_checks, first_failing}
use Rattle.tables.specs.Reading.{next, refuse, nothing_left, settle, whole, rejected, taken, tables_of}
use Rattle.tables.proofs.FitsLaws.{accepted-passes}
use Rattle.tables.proofs.PresentLaws.{present-is}
use Rattle.tables.proofs.LeaverLaws.{remains-fails}
use Rattle.tables.proofs.StopLaws.{left-refused, rank-other}
use Rattle.syntax.specs.Bytes.{Bytes}
use Rattle.syntax.specs.Rule.{Rule, rule_vars, rule_of}
use Rattle.rules.specs.Accept.{refusal}
use Rattle.rules.proofs.AcceptLaws.{refused-early}
use Rattle.walks.specs.Choices.{variables, full_on}
use Rattle.values.specs.Sets.{in_set, TakesPresent}
use Rattle.values.proofs.InsideLaws.{users-of-sessions, users-of-roles}
use Rattle.values.proofs.BoundLaws.{full-present}
use Rattle.texts.specs.Pieces.{lines}
use Rattle.verdicts.specs.Verdict.{turn_order}
use Rattle.verdicts.specs.Report.{Admitted, ReportsIn}
use Rattle.pages.specs.Met.{PageAdmitted}
use Rattle.rcl2000.specs.Calls.{LeftBehind, NamesPresent, Judges, JudgeRefuses, tables_refused, judged_refused, order_refused, verdict_longer}
use Rattle.rcl2000.specs.Calls.{Forecasts, ForecastRefuses, both_tables, both_rule, both_longer}
use Rattle.rcl2000.specs.Calls.{JudgesPage, page_size, PageRefuses, page_tables, page_unsized, page_line, page_longer, GivesStep}
use Rattle.rcl2000.proofs.CallLaws.{through}
use Rattle.rcl2000.proofs.Demands.{judge-refuses}
use Rattle.rcl2000.proofs.ForecastDemands.{forecast-refuses}
use Rattle.rcl2000.proofs.PageDemands.{page-refuses, page-line-reports}
use Rattle.rcl2000.proofs.JudgeLaws.{admitted-reported}

-- "Answers: 20 (left: ..) after 10 and before 7": tables are refused by it exactly there, whatever their hierarchy, sessions and collections are.
pub left-exactly : (tables : Bytes) → (tables_of tables ≡ rejected Left) ↔ LeftBehind tables
unfolding tables_of whole next nothing_left refuse settle late_checks first_failing
left-exactly tables = (
  λ q. let w = left-refused tables q in record { has = w.tables; reads = w.reads; remains = (remains-fails w.tables).0 w.fails },
  λ b. rw (b.reads, (remains-fails b.has).1 b.remains),
)

-- No rule and no call is refused by 20 itself.
rule-not : (rule : Bytes) {e : Refusal} {A : Type 0} → refusal rule ≡ some e → e ≡ Left → A
rule-not rule {e} h q = absurd (omega (arith, refused-early rule e h, ap number_of q))

own-not : {e : Refusal} {A : Type 0} → number_of e ≤ 19 → e ≡ Left → A
own-not l q = absurd (omega (arith, ap number_of q))

-- So each call that reads tables returns 65,536 × 20 exactly there, whatever else it is handed.
module _ (tables : Bytes) where
  pub left-judged : (rule order old new : Bytes) (r : ℕ) → Judges tables rule order old new r → (r ≡ 65536 * number_of Left) ↔ LeftBehind tables
  left-judged rule order old new r j = through (judge-refuses tables rule order old new r j Left) (λ h. (left-exactly tables).0 (back h refl), λ b. tables_refused ((left-exactly tables).1 b))
    where
      back : {e : Refusal} → JudgeRefuses tables rule order (length old) e → e ≡ Left → tables_of tables ≡ rejected Left
      back (tables_refused t) q = t ∙ ap rejected q
      back (judged_refused t h) q = rule-not rule h q
      back (order_refused t h tree bad) q = own-not (omega arith) q
      back (verdict_longer a l) q = own-not (omega arith) q

  pub left-foretold : (rule old new : Bytes) (r : ℕ) → Forecasts tables rule old new r → (r ≡ 65536 * number_of Left) ↔ LeftBehind tables
  left-foretold rule old new r f = through (forecast-refuses tables rule old new r f Left) (λ h. (left-exactly tables).0 (back h refl), λ b. both_tables ((left-exactly tables).1 b))
    where
      back : {e : Refusal} → ForecastRefuses tables rule (length old) e → e ≡ Left → tables_of tables ≡ rejected Left
      back (both_tables t) q = t ∙ ap rejected q
      back (both_rule t h) q = rule-not rule h q
      back (both_longer g l) q = own-not (omega arith) q

  -- Of a page it has position 0.
  pub left-paged : (page old new : Bytes) (r : ℕ) → JudgesPage tables page old new r → (r ≡ 65536 * number_of Left + 0) ↔ LeftBehind tables
  left-paged page old new r j = through (page-refuses tables page old new r j Left 0 (omega arith)) (λ h. (left-exactly tables).0 (back h refl refl), λ b. page_tables ((left-exactly tables).1 b))
    where
      back : {e : Refusal} {p : ℕ} → PageRefuses tables page (length old) e p → e ≡ Left → p ≡ 0 → tables_of tables ≡ rejected Left
      back (page_tables t) q z = t ∙ ap rejected q
      back (page_unsized t bad) q z = own-not (omega arith) q
      back (page_line t sized h) q z = absurd (omega arith)
      back (page_longer a l) q z = own-not (omega arith) q

  -- `rank_step`, which refuses nothing, gives no step there.
  pub left-stepped : (r : ℕ) → GivesStep tables r → LeftBehind tables → r ≡ 0
  left-stepped r s b = s ∙ rank-other tables (λ q. let x : Left ≡ Rank = cc (q, (left-exactly tables).1 b) in absurd (omega (arith, ap number_of x)))

-- "A user function never yields a leaver": on accepted tables, of whatever sessions or roles.
module _ (tables : Bytes) {T : Tables} (t : tables_of tables ≡ taken T) where
  pub user-of-sessions-present : (w u : ℕ) → has (user_of_sessions T w) u ≡ true → is_present T.users u ≡ true
  user-of-sessions-present w u h = present-is T.users u (users-of-sessions T (accepted-passes tables t) w u h)

  pub user-of-roles-present : (w u : ℕ) → has (user_of_roles T w) u ≡ true → is_present T.users u ≡ true
  user-of-roles-present w u h = present-is T.users u (users-of-roles T (accepted-passes tables t) w u h)

  -- A variable whose set is of users never takes a leaver: no full choice does, by which a rule is judged,
  pub choices-present : (ρ : Rule) (c : List ℕ) → full_on (in_set T (rule_vars [] ρ)) (variables (length (rule_vars [] ρ))) c ≡ true → TakesPresent T ρ c
  choices-present ρ c full = full-present T (accepted-passes tables t) ρ c full

  reported-present : (ρ : Rule) (order b : Bytes) → ReportsIn T ρ order b → NamesPresent T ρ b
  reported-present ρ order b told above = choices-present ρ (take 8 (drop 17 b)) (told.found above).full

-- and the breaking choice that is written names none: by `judge`,
pub judged-present : (tables rule order old new : Bytes) (r : ℕ) → Judges tables rule order old new r
    → {T : Tables} {ρ : Rule} → Admitted tables rule order T ρ → 26 ≤ length old → NamesPresent T ρ new
judged-present tables rule order old new r j {ρ = ρ} a room = reported-present tables a.reads ρ order new (admitted-reported a j room).1.reports

-- and of each line by `judge_page`.
pub paged-present : (tables page old new : Bytes) (r : ℕ) → JudgesPage tables page old new r
    → (T : Tables) → PageAdmitted tables page T → page_size (length (lines page)) ≤ length old → (j : ℕ) (w : Bytes) → get_elem? (lines page) j ≡ some w
    → (ρ : Rule) × Admitted tables w (turn_order (rule_of w)) T ρ × NamesPresent T ρ (drop (page_size j) new)
paged-present tables page old new r s T a room j w q =
    let (ρ, line, told) = page-line-reports tables page old new r s T a room j w q in
    (ρ, line, reported-present tables line.reads ρ (turn_order (rule_of w)) (drop (page_size j) new) told)
