-- `verdicts::ruling::along` meets its contract.
-- Assumes nothing.
use mathlib.Core.Path.{◌≡◌, sym, ◌∙◌}
use mathlib.Core.List.{[]}
use borrow.Author.Rules.{rules}
use lib.ListN.{length, take}
use Rattle.syntax.specs.Rule.{rule_vars}
use Rattle.walks.specs.Order.{variables_of}
use Rattle.verdicts.proofs.RulingLaws.{other_length, no-order, counts-fit, order-ruled}
use Rattle.judging.proofs.WalkingLaws.{vars-long, tested}
use Rattle.verdicts.proofs.ruling.along.Goals as goal

pub returns-then-order-count : goal.returns-then-order-count
returns-then-order-count c =
    let vars-room : length c.args.parsed.vars ≡ 8 = search rules in
    λ T ρ C. c.refused.ensures ∙ other_length C c.requires.lent.few c.args.order.now (λ e. c.if-order-count.true (e ∙ vars-long c.requires vars-room))

pub whole-requires : goal.whole-requires
whole-requires c =
    let vars-room : length c.args.parsed.vars ≡ 8 = search rules in
    (c.requires, tested c.requires c.names-names.result (take c.args.parsed.count c.variables-all.result) c.names-names.ensures (rw (vars-long c.requires vars-room) (sym c.ordered.ensures ∙ c.if-ordered.true)))

pub ruled-requires : goal.ruled-requires
ruled-requires c =
    let vars-room : length c.args.parsed.vars ≡ 8 = search rules in
    let same-list : take c.args.parsed.count c.variables-all.result ≡ variables_of c.args.order.now = rw c.if-order-count.false at c.variables-all.ensures in
    counts-fit c.requires.lent.is_case c.requires.lent.few c.names-names.result c.args.order.now _ c.ordered.result (c.names-names.ensures (rule_vars [] c.requires.lent.rule) c.requires.lent.is_case.world.variables) same-list (rw (vars-long c.requires vars-room) c.ordered.ensures) c.if-ordered.true c.whole.result (c.whole.ensures c.requires.lent.tables c.requires.lent.rule c.requires.lent.is_case)

pub returns-then-ordered : goal.returns-then-ordered
returns-then-ordered c =
    let vars-room : length c.args.parsed.vars ≡ 8 = search rules in
    let same-list : take c.args.parsed.count c.variables-all.result ≡ variables_of c.args.order.now = rw c.if-order-count.false at c.variables-all.ensures in
    λ T ρ C. c.ruled.ensures ∙ order-ruled C c.requires.lent.few c.names-names.result c.args.order.now _ c.ordered.result (c.names-names.ensures (rule_vars [] ρ) C.world.variables) same-list (rw (vars-long c.requires vars-room) c.ordered.ensures) c.if-ordered.true c.whole.result (c.whole.ensures T ρ C)

pub returns : goal.returns
returns c =
    let vars-room : length c.args.parsed.vars ≡ 8 = search rules in
    let same-list : take c.args.parsed.count c.variables-all.result ≡ variables_of c.args.order.now = rw c.if-order-count.false at c.variables-all.ensures in
    λ T ρ C. c.refused-2.ensures ∙ no-order C c.requires.lent.few c.names-names.result c.args.order.now _ c.ordered.result (c.names-names.ensures (rule_vars [] ρ) C.world.variables) same-list (rw (vars-long c.requires vars-room) c.ordered.ensures) c.if-ordered.false
