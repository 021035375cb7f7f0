-- `sharing::together::counts` meets its contract.
-- Assumes nothing.
use mathlib.Core.Path.{◌≡◌, refl, sym, ◌∙◌}
use native.Mathlib.Omega.{arith}
use lib.ListN.{length}
use Rattle.sharing.specs.Code.Together.{no, yes}
use Rattle.judging.proofs.WalkingLaws.{vars-long, tested}
use Rattle.sharing.proofs.TogetherLaws.{plotted, starting, counts_all}
use borrow.Author.Rules.{rules}
use Rattle.sharing.proofs.together.counts.Goals as goal

pub returns-then-not-ordered : goal.returns-then-not-ordered
returns-then-not-ordered c = no

pub lay_first-many_choices-requires : goal.lay_first-many_choices-requires
lay_first-many_choices-requires c =
    let vars-room : length c.args.parsed.vars ≡ 8 = search rules in
    (c.requires.lent_by.0, tested c.requires.lent_by.0 c.names-names.result _ c.names-names.ensures (rw (vars-long c.requires.lent_by.0 vars-room) (sym c.ordered.ensures ∙ c.if-not-ordered.false)), refl)

pub returns-then-many_choices-eq0 : goal.returns-then-many_choices-eq0
returns-then-many_choices-eq0 c = no

pub lay-requires : goal.lay-requires
lay-requires c =
    let vars-room : length c.args.parsed.vars ≡ 8 = search rules in
    (plotted c.requires.lent_by.0 c.lay_first-many_choices.ensures.lays (vars-long c.requires.lent_by.0 vars-room), c.requires.lent_by.3, c.requires.lent_by.1, refl)

pub all-requires : goal.all-requires
all-requires c =
    starting c.requires.lent_by.0 c.lay_first-many_choices.ensures.lays c.lay.ensures c.requires.lent_by.2 c.requires.lent_by.3 4608 (omega arith) c.requires.lent_by.4 c.requires.by_index

pub returns-then-many-count-le-FEW_SLOTS : goal.returns-then-many-count-le-FEW_SLOTS
returns-then-many-count-le-FEW_SLOTS c =
    yes c.all.ensures.long (counts_all c.requires.lent_by.0 c.lay_first-many_choices.ensures.lays c.lay.ensures c.requires.lent_by.2 c.all.ensures)

pub all-requires-2 : goal.all-requires-2
all-requires-2 c =
    starting c.requires.lent_by.0 c.lay_first-many_choices.ensures.lays c.lay.ensures c.requires.lent_by.2 c.requires.lent_by.3 15360 (omega arith) c.requires.lent_by.4 c.requires.by_index

pub returns : goal.returns
returns c =
    yes c.all-2.ensures.long (counts_all c.requires.lent_by.0 c.lay_first-many_choices.ensures.lays c.lay.ensures c.requires.lent_by.2 c.all-2.ensures)
