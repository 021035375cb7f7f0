-- `values::ceiling::count` meets its contract: sorts first, then collections.
-- Assumes nothing.
use mathlib.Core.Path.{ap, ◌∙◌}
use native.Mathlib.Omega.{arith}
use Rattle.words.specs.Words.{size_of}
use Rattle.words.proofs.WordsLaws.{size-le}
use Rattle.values.proofs.CeilingLaws.{count-sort, count-collection, count_none}
use Rattle.values.proofs.ceiling.count.Goals as goal

pub returns-then-kind-lt-FIRST_COLLECTION : goal.returns-then-kind-lt-FIRST_COLLECTION
returns-then-kind-lt-FIRST_COLLECTION c =
    record { value = λ T f e l. c.size.ensures ∙ ap size_of (c.base.ensures T e) ∙ count-sort T f c.args.kind c.if-kind-lt-FIRST_COLLECTION.true; upper_bound = omega (arith, c.size.ensures, size-le c.base.result) }

pub returns-then-kind-lt-NO_KIND : goal.returns-then-kind-lt-NO_KIND
returns-then-kind-lt-NO_KIND c =
    record { value = λ T f e l. c.size-then-kind-lt-NO_KIND.ensures ∙ ap size_of (c.base-then-kind-lt-NO_KIND.ensures T e) ∙ count-collection T f c.args.kind c.if-kind-lt-FIRST_COLLECTION.false c.if-kind-lt-NO_KIND.true; upper_bound = omega (arith, c.size-then-kind-lt-NO_KIND.ensures, size-le c.base-then-kind-lt-NO_KIND.result) }

pub returns : goal.returns
returns c =
    record { value = λ T f e l. count_none T c.args.kind (omega (arith, c.if-kind-lt-FIRST_COLLECTION.false, c.if-kind-lt-NO_KIND.false)); upper_bound = omega arith }
