-- The verdict of a rule that mentions neither S nor `sessions` is the same whatever the sessions are.
-- Assumes nothing.
use mathlib.Core.Path.{◌≡◌, ap, fun_ext}
use mathlib.Core.Bool.{false, not}
use mathlib.Core.List.{List, []}
use mathlib.Core.Option.{none, some}
use Prim.Native.Nat.{ℕ}
use Rattle.words.specs.Words.{has}
use Rattle.tables.specs.Tables.{Session, Tables, with_sessions}
use Rattle.syntax.specs.Bytes.{Bytes}
use Rattle.syntax.specs.Term.{Choices}
use Rattle.syntax.specs.Rule.{Rule, rule_vars, rule_of}
use Rattle.syntax.proofs.PartLaws.{RuleHas, rule-both}
use Rattle.rules.specs.Kind.{kind}
use Rattle.rules.specs.Accept.{refusal}
use Rattle.walks.specs.Order.{variables_of}
use Rattle.values.specs.Sets.{set_of, items_of, in_set, breaks}
use Rattle.verdicts.specs.Verdict.{full_count, breaking_count, first_breaking, verdict_along, verdict_bytes}
use Rattle.mentions.specs.Mention.{mentions}
use Rattle.mentions.proofs.MentionLaws.{Plain, terms-plain, sets-plain}
use Rattle.mentions.proofs.ApartLaws.{apart}
use Rattle.mentions.proofs.UnmentionedLaws.{items-same, value_same}
use Rattle.values.proofs.AlikeLaws.{rule-alike}

module _ (rule : Bytes) (ρ : Rule) (ok : refusal rule ≡ none) (tree : rule_of rule ≡ some ρ) (quiet : mentions rule ≡ false) (T : Tables) (ss : List Session) where
  abbrev σ : Choices
  σ = rule_vars [] ρ

  abbrev others : Tables
  others = with_sessions T ss

  -- The variables' items and sets are the same, and so are the choices that break the rule.
  set-plain : (v : ℕ) → Plain (set_of σ v)
  set-plain = sets-plain rule ρ ok tree quiet

  same-items : items_of others σ ≡ items_of T σ
  same-items = fun_ext (λ v. items-same T ss (kind (set_of σ v)) (apart (set_of σ v) (set-plain v)))

  same-sets : in_set others σ ≡ in_set T σ
  same-sets = fun_ext (λ v. fun_ext (λ c. fun_ext (λ x. ap (λ (w : ℕ). has w x) (value_same T ss σ c (set_of σ v) (set-plain v)))))

  same-breaks : breaks others σ ρ ≡ breaks T σ ρ
  same-breaks =
      let terms : RuleHas Plain ρ = terms-plain rule ρ ok tree quiet in
      fun_ext (λ c. ap not (rule-alike T others σ c ρ (rule-both (λ t p _. value_same T ss σ c t p) ρ terms terms)))

  -- THE THEOREM: "For a rule that mentions neither S nor `sessions`, both counts" are the same with any sessions, and so is the verdict along any order.
  pub full-unmentioned : full_count (with_sessions T ss) ρ ≡ full_count T ρ
  unfolding full_count
  full-unmentioned = rw (same-items, same-sets)

  pub breaking-unmentioned : breaking_count (with_sessions T ss) ρ ≡ breaking_count T ρ
  unfolding breaking_count
  breaking-unmentioned = rw (same-items, same-sets, same-breaks)

  pub unmentioned : (order : List ℕ) → verdict_along (with_sessions T ss) ρ order ≡ verdict_along T ρ order
  unfolding verdict_along first_breaking
  unmentioned order = rw (full-unmentioned, breaking-unmentioned, same-sets, same-breaks)

  pub bytes-unmentioned : (order : Bytes) → verdict_bytes (with_sessions T ss) ρ order ≡ verdict_bytes T ρ order
  bytes-unmentioned order = rw (full-unmentioned, breaking-unmentioned, unmentioned (variables_of order))
