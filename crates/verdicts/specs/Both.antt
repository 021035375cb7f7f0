-- Tables' bytes and a rule's text: what a call meets that checks the tables and then the rule, and what it answers (document 01, "Judging checks
-- tables, rule, order"; document 02, N5 and N9). Assumes nothing.
use Rattle.std.specs.Prelude.{◌≡◌}
use Rattle.std.proofs.Math.Option.{Option, none, some}
use Rattle.answers.specs.Answer.{Answer, refused}
use Rattle.answers.specs.declared.Refusal.{Refusal}
use Rattle.answers.specs.declared.Refusal.TheVariants.{NotARule}
use Rattle.tables.specs.Tables.{Tables}
use Rattle.tables.specs.Reading.{Reading, rejected, taken, tables_of}
use Rattle.syntax.specs.Bytes.{Bytes}
use Rattle.syntax.specs.Rule.{Rule, rule_of}
use Rattle.rules.specs.Accept.{refusal}

-- The tables are accepted as T, and the rule as ρ.
pub record Given (tables rule : Bytes) (T : Tables) (ρ : Rule) : Type 0 where
  pub reads : tables_of tables ≡ taken T
  pub accepts : refusal rule ≡ none
  pub tree : rule_of rule ≡ some ρ

-- What is met first: refused tables, a refused rule, or both are given.
pub data Met (tables rule : Bytes) : Type 0 where
  bad_tables : (e : Refusal) → tables_of tables ≡ rejected e → Met tables rule
  bad_rule : (T : Tables) (e : Refusal) → tables_of tables ≡ taken T → refusal rule ≡ some e → Met tables rule
  good : (T : Tables) (ρ : Rule) → Given tables rule T ρ → Met tables rule

-- The tables' refusal, the rule's, or what f answers of both. (An accepted text is a rule, so the 13 here is never given.)
unfoldable pub of_both : Reading → Option Refusal → Option Rule → (Tables → Rule → Answer) → Answer
of_both (rejected e) r tree f = refused e
of_both (taken T) (some e) tree f = refused e
of_both (taken T) none none f = refused NotARule
of_both (taken T) none (some ρ) f = f T ρ

abbrev pub of_texts : Bytes → Bytes → (Tables → Rule → Answer) → Answer
of_texts tables rule f = of_both (tables_of tables) (refusal rule) (rule_of rule) f
