-- `values::items::base` meets its contract: the word of the users present, or as many items as are counted.
-- Assumes nothing.
use mathlib.Core.Path.{ap, ◌∙◌}
use mathlib.Core.List.{List}
use Prim.Native.Nat.{ℕ}
use lib.ListN.{get_or}
use Rattle.words.specs.Words.{all_of}
use Rattle.values.proofs.ItemLaws.{item_places, user-items, base-items}
use Rattle.values.proofs.items.base.Goals as goal

pub returns-then-op-eq-USERS : goal.returns-then-op-eq-USERS
returns-then-op-eq-USERS c = λ T e. user-items T c.args.op e c.if-op-eq-USERS.true

pub returns : goal.returns
returns c = λ T e.
    let o : ℕ = c.args.op in
    c.all.ensures ∙ ap (λ (l : List ℕ). all_of (get_or l (get_or item_places o 0) 0)) e ∙ base-items T o c.if-op-eq-USERS.false c.requires.1
