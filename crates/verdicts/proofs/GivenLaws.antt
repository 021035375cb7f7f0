-- Tables and a rule that are given are admitted with the order 1, 2, .., and the verdict in it reports what there is to report.
-- Assumes nothing.
use mathlib.Core.Path.{◌≡◌}
use mathlib.Core.List.{[]}
use mathlib.Core.Option.{some}
use lib.ListN.{length}
use Rattle.tables.specs.Tables.{Tables}
use Rattle.syntax.specs.Bytes.{Bytes}
use Rattle.syntax.specs.Rule.{Rule, rule_vars}
use Rattle.walks.specs.Order.{variables_of, up_from}
use Rattle.walks.proofs.OrderLaws.{order-admissible}
use Rattle.values.specs.Sets.{names}
use Rattle.verdicts.specs.Verdict.{turn_order, turn_verdict, tables_verdict, verdict_of}
use Rattle.verdicts.specs.Report.{OrderOf, ReportsBy, Admitted}
use Rattle.verdicts.specs.Both.{Given}
use Rattle.verdicts.proofs.VerdictLaws.{turn-order}
use Rattle.verdicts.proofs.ReportLaws.{verdict-reports}

pub turn-ordered : (ρ : Rule) → OrderOf ρ (turn_order (some ρ))
unfolding turn_order
turn-ordered ρ = (order-admissible (names (rule_vars [] ρ)) (length (rule_vars [] ρ)) (variables_of (up_from 1 (length (rule_vars [] ρ))))).0 (turn-order ρ)

module _ {b rule : Bytes} {T : Tables} {ρ : Rule} (g : Given b rule T ρ) where
  pub given-admitted : Admitted b rule (turn_order (some ρ)) T ρ
  given-admitted = record { reads = g.reads; accepts = g.accepts; tree = g.tree; ordered = turn-ordered ρ }

  turn_is : turn_verdict T rule ≡ verdict_of b rule (turn_order (some ρ))
  unfolding turn_verdict verdict_of tables_verdict
  turn_is = rw (g.reads, g.tree)

  pub turn-reports : ReportsBy T ρ (up_from 1 (length (rule_vars [] ρ))) (turn_verdict T rule)
  unfolding turn_order
  turn-reports = rw turn_is (verdict-reports given-admitted)
