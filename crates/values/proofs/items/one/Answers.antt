-- `values::items::one` meets its contract: elements and sets first, then the collections.
-- Assumes nothing.
use mathlib.Core.Path.{ap, ◌∙◌}
use mathlib.Core.List.{List}
use mathlib.Core.Logic.{inl, inr}
use Prim.Native.Nat.{ℕ, ◌-◌}
use native.Mathlib.Omega.{arith}
use lib.ListN.{get_or}
use Prim.Native.Nat.{◌+◌}
use Rattle.values.proofs.ItemLaws.{collection_places, one-item, one_none, one_word, one-far}
use Rattle.rules.specs.Code.Numbers.{first_collection}
use Rattle.values.proofs.items.one.Goals as goal

pub returns-then-kind-lt-FIRST_COLLECTION : goal.returns-then-kind-lt-FIRST_COLLECTION
returns-then-kind-lt-FIRST_COLLECTION c = λ T f e l. c.item.ensures ∙ one-item T c.args.x c.args.kind c.if-kind-lt-FIRST_COLLECTION.true

pub returns-then-kind-ge-NO_KIND : goal.returns-then-kind-ge-NO_KIND
returns-then-kind-ge-NO_KIND c = λ T f e l.
    elim c.then-kind-ge-NO_KIND.either [
      | inl h ↦ one_none T c.args.x c.args.kind (omega arith)
      | inr h ↦ one-far T c.args.x c.args.kind c.if-kind-lt-FIRST_COLLECTION.false h.0 f h.1
    ]

pub returns : goal.returns
returns c = λ T f e l.
    ap (λ (ts : List ℕ). get_or ts (get_or collection_places (c.args.kind - first_collection) 0 + c.args.x) 0) e
    ∙ one_word T c.args.x c.args.kind c.if-kind-lt-FIRST_COLLECTION.false c.if-kind-ge-NO_KIND.false c.if-x-ge-ROOM.false
