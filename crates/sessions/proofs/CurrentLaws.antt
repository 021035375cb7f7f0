-- The verdict in front of a state: that of an accepted rule in the order 1, 2, ..
-- Assumes nothing.
use mathlib.Core.Path.{◌≡◌, sym, ap, ap₂, ◌∙◌}
use mathlib.Core.Bool.{Bool, true, false}
use mathlib.Core.List.{List}
use mathlib.Core.Option.{Option, some}
use Prim.Native.Nat.{ℕ}
use Rattle.syntax.specs.Bytes.{Bytes}
use Rattle.syntax.specs.Rule.{Rule}
use Rattle.rules.specs.declared.Parsed.{Parsed}
use Rattle.walks.specs.Order.{variables_of}
use Rattle.texts.specs.Code.Overwritten.{Overwritten}
use Rattle.verdicts.specs.declared.Verdict.{Verdict}
use Rattle.verdicts.specs.Verdict.{word_number, outcome_of, full_count, breaking_count, verdict_along, turn_order, written}
use Rattle.verdicts.specs.Code.Judging.{ParsedFrom, JudgesInTurn}
use Rattle.verdicts.proofs.TurnLaws.{judged-in-turn, outcome-in-turn}
use Rattle.mentions.specs.Mention.{mentions}
use Rattle.sessions.specs.State.{current_bytes, verdict_in, verdict_after}
use Rattle.sessions.specs.Code.Laying.{rule_of_front, PutsCurrent, PutsVerdict}

-- The verdict in turn, written with its own word, is the current one.
pub current-written : {ts : List ℕ} {p : Parsed} {r : Verdict} {word : ℕ} {old new : Bytes} {n : ℕ} (rule : Bytes) → ParsedFrom rule p → JudgesInTurn ts rule r
    → word ≡ word_number r.outcome → Overwritten (written word r) old new n → PutsCurrent ts rule old new n
current-written {r = r} rule P j q o T ρ a t =
    let ok = P.accepts in
    let v : r ≡ verdict_along T ρ (variables_of (turn_order (some ρ)))
    = j T a ∙ judged-in-turn T rule ok ρ t ∙ ap (λ (x : Option Rule). verdict_along T ρ (variables_of (turn_order x))) t in
    let u : r.outcome ≡ outcome_of (full_count T ρ) (breaking_count T ρ) = ap (λ (v : Verdict). v.outcome) (j T a) ∙ outcome-in-turn T rule ok ρ t in
    let b : written _ r ≡ current_bytes T ρ = ap₂ (λ (o : ℕ) (v : Verdict). written o v) (q ∙ ap word_number u) v in
    rw b at o

-- It is given afresh where the rule mentions sessions, and else copied.
pub verdict-afresh : {ts : List ℕ} (front : Bytes) {old new : Bytes} {n : ℕ} {m : Bool} → m ≡ mentions (rule_of_front front) → m ≡ true
    → PutsCurrent ts (rule_of_front front) old new n → PutsVerdict ts front old new n
unfolding verdict_after
verdict-afresh front e h p T ρ a t = let y : mentions (rule_of_front front) ≡ true = sym e ∙ h in rw y (p T ρ a t)

pub verdict-kept : {ts : List ℕ} (front : Bytes) {old new : Bytes} {n : ℕ} {m : Bool} → m ≡ mentions (rule_of_front front) → m ≡ false
    → Overwritten (verdict_in front) old new n → PutsVerdict ts front old new n
unfolding verdict_after
verdict-kept front e h o T ρ a t = let y : mentions (rule_of_front front) ≡ false = sym e ∙ h in rw y o
