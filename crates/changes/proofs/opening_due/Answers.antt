-- `changes::opening_due`: the five tests, one after the other.
-- Assumes nothing.
use native.Mathlib.Omega.{arith}
use Rattle.changes.proofs.CountLaws.{counts_of}
use Rattle.changes.proofs.DueLaws.{due-full, due-user, due-word, due-left, due-reach, due-none}
use Rattle.changes.proofs.opening_due.Goals as goal

pub bounds-t-3 : goal.bounds-t-3
bounds-t-3 c = omega (arith, (counts_of c.requires.holds).long)

pub returns-then-t : goal.returns-then-t
returns-then-t c = due-full _ _ c.if-t.true

pub bounds-t-1 : goal.bounds-t-1
bounds-t-1 c = omega (arith, (counts_of c.requires.holds).long)

pub returns-then-t-user : goal.returns-then-t-user
returns-then-t-user c = due-user _ _ c.if-t.false c.if-t-user.true

pub outside-requires : goal.outside-requires
outside-requires c =
    let k = counts_of c.requires.holds in
    omega (arith, k.roles, k.few_roles)

pub returns-then-outside : goal.returns-then-outside
returns-then-outside c =
    due-word _ _ c.if-t.false c.if-t-user.false c.outside.ensures c.if-outside.true

pub bounds-t-2 : goal.bounds-t-2
bounds-t-2 c = omega (arith, (counts_of c.requires.holds).long)

pub contains-requires : goal.contains-requires
contains-requires c =
    let k = counts_of c.requires.holds in
    omega (arith, k.users, k.few_users, c.if-t-user.false)

pub returns-then-not-contains : goal.returns-then-not-contains
returns-then-not-contains c =
    due-left _ _ c.if-t.false c.if-t-user.false c.outside.ensures c.if-outside.false c.contains.ensures c.if-not-contains.true

pub juniors_of_users-reach-requires : goal.juniors_of_users-reach-requires
juniors_of_users-reach-requires c =
    (counts_of c.requires.holds).long

pub returns-then-less-ne0 : goal.returns-then-less-ne0
returns-then-less-ne0 c =
    due-reach _ _ c.if-t.false c.if-t-user.false c.outside.ensures c.if-outside.false c.contains.ensures
    c.if-not-contains.false c.item.ensures c.juniors_of_users-reach.ensures c.less.ensures c.if-less-ne0.true

pub returns : goal.returns
returns c =
    due-none _ _ c.if-t.false c.if-t-user.false c.outside.ensures c.if-outside.false c.contains.ensures
    c.if-not-contains.false c.item.ensures c.juniors_of_users-reach.ensures c.less.ensures c.if-less-ne0.false
