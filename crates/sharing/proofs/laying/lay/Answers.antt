-- `sharing::laying::lay` meets its contract. The invariant: the words of the first l lines are laid.
-- Assumes nothing.
use mathlib.Core.Path.{◌≡◌, refl, ◌∙◌}
use native.Mathlib.Omega.{arith}
use lib.ListN.{length}
use Rattle.sharing.proofs.LayingLaws.{laid_more, clauses-low, order-in, chosen-long, chosen-below, lays-lines}
use borrow.Author.Rules.{rules}
use Rattle.sharing.proofs.laying.lay.Goals as goal

pub scopes-requires : goal.scopes-requires
scopes-requires c =
    let terms-room : length c.terms.new.found ≡ 256 = search rules in
    (c.requires.0.planned.long, omega (arith, c.requires.0.planned.clauses.many, c.requires.0.planned.clauses.few), refl, clauses-low c.requires.0.planned.clauses _ (omega (arith, c.requires.0.planned.small, terms-room)))

pub by_depth-sets-requires : goal.by_depth-sets-requires
by_depth-sets-requires c =
    let order-room : length c.order_of-order.result ≡ 8 = search rules in
    let I = order-in c.requires.0.planned in
    (search rules, omega (arith, chosen-long I c.order_of-order.result order-room, I.short), chosen-below I c.order_of-order.result order-room c.order_of-order.ensures)

pub loop-l-preserved : goal.loop-l-preserved
loop-l-preserved c = (c.line.ensures.long ∙ c.loop-l.invariant.0, laid_more c.args.starts.now _ refl refl c.line.ensures c.loop-l.invariant.1)

pub returns : goal.returns
returns c =
    lays-lines
    (record {
      terms = c.terms.new.found;
      words = c.sets-names.result;
      order = c.order_of-order.result;
      room = search rules;
      named = c.terms.ensures;
      scoped = c.scopes.ensures;
      ordered = c.order_of-order.ensures;
      in_sets = c.sets-names.ensures;
      depths = c.by_depth-sets.ensures;
    })
    c.args.starts.now c.args.many c.loop-l.lines c.loop-l.invariant.0 (λ k l. c.loop-l.invariant.1 k (omega (arith, c.loop-l-test.false)))
