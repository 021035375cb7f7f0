-- `judging::walking::Walk::lay` meets its contract: what was found is tested, and so the plan is laid along an order.
-- Assumes nothing.
use mathlib.Core.Path.{◌≡◌, refl, sym, ◌∙◌}
use native.Mathlib.Omega.{arith}
use lib.ListN.{length, take}
use lib.Seq.{length-take-le}
use mathlib.Core.List.{List}
use Prim.Native.Nat.{ℕ}
use Rattle.judging.specs.Code.Lent.{vars_of}
use Rattle.judging.specs.Code.Walking.{Ordered}
use Rattle.judging.proofs.WalkingLaws.{tested, own-length, laid-for, laid-along}
use borrow.Author.Rules.{rules}
use Rattle.judging.proofs.walking.Walk.lay.Goals as goal

pub begins_alike-requires : goal.begins_alike-requires
begins_alike-requires c =
    let found-room : length c.own-found.result ≡ 8 = search rules in
    let many : ℕ = length (vars_of c.args.self.now.parsed.now) in
    let own-long : length (take many c.own-found.result) ≡ many = length-take-le many c.own-found.result (omega (arith, c.requires.0.lent.lent.few, found-room)) in
    (omega (arith, c.requires.1, own-long, own-length c.requires.0.lent c.requires.0.ordered), c.requires.1)

pub lay_along-requires : goal.lay_along-requires
lay_along-requires c =
    let own : List ℕ = take (length (vars_of c.args.self.now.parsed.now)) c.own-found.result in
    let own-ordered : Ordered c.args.self.now.parsed.now own = tested c.requires.0.lent c.names-names.result own c.names-names.ensures (sym c.ordered.ensures ∙ c.if-ordered.true) in
    (laid-for c.requires.0.lent own-ordered, c.requires.0.lent.few, c.requires.2)

pub returns-then-begins_alike : goal.returns-then-begins_alike
returns-then-begins_alike c =
    let own : List ℕ = take (length (vars_of c.args.self.now.parsed.now)) c.own-found.result in
    let own-ordered : Ordered c.args.self.now.parsed.now own = tested c.requires.0.lent c.names-names.result own c.names-names.ensures (sym c.ordered.ensures ∙ c.if-ordered.true) in
    laid-along c.requires.0.lent own-ordered c.lay_along.ensures (c.begins_alike.ensures c.if-begins_alike.true)

pub returns-else-ordered : goal.returns-else-ordered
returns-else-ordered c = laid-along c.requires.0.lent c.requires.0.ordered c.lay_along-else-ordered.ensures refl
