-- `values::plan::holds` meets its contract.
-- Assumes nothing.
use mathlib.Core.Path.{sym, ◌∙◌}
use lib.ListN.{drop}
use Rattle.values.specs.Code.Clauses.{clause_count}
use Rattle.values.specs.Code.Plan.{levels_from}
use Rattle.values.proofs.PlanLaws.{holds-all}
use Rattle.values.proofs.plan.holds.Goals as goal

pub returns : goal.returns
returns c =
    λ ns n ρ C T d K.
    sym (holds-all T ρ (drop levels_from c.args.plan.now) c.args.level d (clause_count ρ)) ∙ rw C.many at (c.holds_among.ensures ns n ρ C T d K)
