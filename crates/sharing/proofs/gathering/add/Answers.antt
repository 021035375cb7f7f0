-- `add` lists the line's clauses behind those that are there; what it writes beside, the sheaf does not see.
-- Assumes nothing.
use mathlib.Core.Path.{◌≡◌, sym}
use Prim.Native.Nat.{ℕ, ◌≤◌}
use native.Mathlib.Omega.{arith}
use lib.ListN.{length}
use lib.Seq.{length-take-le}
use borrow.Author.Rules.{rules}
use Rattle.syntax.proofs.ClauseLaws.{as-listed, as-unlisted}
use Rattle.rules.proofs.AcceptLaws.{accepted-gives}
use Rattle.sharing.specs.Code.Gathering.{Room}
use Rattle.sharing.proofs.GatheringLaws.{rest-room, line_read, line-left, part-below, own-few, line_taken, copied-length, copied-front}
use Rattle.sharing.proofs.gathering.add.Goals as goal

pub clauses-requires : goal.clauses-requires
clauses-requires c =
    let R : Room _ _ _ _ _ _ = c.requires.room in
    let g = accepted-gives _ c.requires.line_value in
    (R.tidy, omega (arith, R.nodes, R.few, g.short), omega (arith, rest-room R, g.short))

pub returns-in_err-listed : goal.returns-in_err-listed
returns-in_err-listed c =
    let e = as-unlisted c.in_err-listed.ensures in
    let g = accepted-gives _ c.requires.line_value in
    λ κs S. let z : ◌≡◌ {A = ℕ} 0 1 = cc (e, g.reads) in absurd (omega arith)

pub overflow_add-c : goal.overflow_add-c
overflow_add-c c =
    let x = as-listed c.in_ok-listed.ensures in
    let R : Room _ _ _ _ _ _ = c.requires.room in
    omega (arith, R.few, x.count, (accepted-gives _ c.requires.line_value).short)

pub overflow_add-n : goal.overflow_add-n
overflow_add-n c =
    let x = as-listed c.in_ok-listed.ensures in
    let R : Room _ _ _ _ _ _ = c.requires.room in
    omega (arith, R.few, x.count, (accepted-gives _ c.requires.line_value).short)

pub returns-then-n-c-gt-RULE_LIMIT : goal.returns-then-n-c-gt-RULE_LIMIT
returns-then-n-c-gt-RULE_LIMIT c =
    let R : Room _ _ _ _ _ _ = c.requires.room in
    let x = as-listed c.in_ok-listed.ensures in
    λ κs S. line-left R (line_read R c.list-1.given.1 x) κs S

pub variables-count-requires : goal.variables-count-requires
variables-count-requires c =
    let R : Room _ _ _ _ _ _ = c.requires.room in
    let x = as-listed c.in_ok-listed.ensures in
    let y = line_read R c.list-1.given.1 x in
    record { tidy = x.tidy; by_index = part-below R y (omega (arith, c.if-n-c-gt-RULE_LIMIT.false)); vars_len = search rules }

pub returns-then-not-shared : goal.returns-then-not-shared
returns-then-not-shared c =
    let R : Room _ _ _ _ _ _ = c.requires.room in
    let x = as-listed c.in_ok-listed.ensures in
    λ κs S. line-left R (line_read R c.list-1.given.1 x) κs S

pub slice_bounds-copy_from_slice-end : goal.slice_bounds-copy_from_slice-end
slice_bounds-copy_from_slice-end c =
    let f = own-few c.requires.room c.list-1.given.1 (as-listed c.in_ok-listed.ensures) (omega (arith, c.if-n-c-gt-RULE_LIMIT.false)) c.requires.line_value c.variables-count.ensures in
    omega (arith, f, c.requires.room.vars)

pub slice_bounds-copy_from_slice-end-2 : goal.slice_bounds-copy_from_slice-end-2
slice_bounds-copy_from_slice-end-2 c =
    let f = own-few c.requires.room c.list-1.given.1 (as-listed c.in_ok-listed.ensures) (omega (arith, c.if-n-c-gt-RULE_LIMIT.false)) c.requires.line_value c.variables-count.ensures in
    sym (length-take-le _ _ (omega (arith, f, c.requires.room.vars)))

pub slice_bounds-own-end : goal.slice_bounds-own-end
slice_bounds-own-end c =
    let f = own-few c.requires.room c.list-1.given.1 (as-listed c.in_ok-listed.ensures) (omega (arith, c.if-n-c-gt-RULE_LIMIT.false)) c.requires.line_value c.variables-count.ensures in
    omega (arith, f, c.variables-count.ensures.size)

pub slice_bounds-copy_from_slice-end-3 : goal.slice_bounds-copy_from_slice-end-3
slice_bounds-copy_from_slice-end-3 c =
    let f = own-few c.requires.room c.list-1.given.1 (as-listed c.in_ok-listed.ensures) (omega (arith, c.if-n-c-gt-RULE_LIMIT.false)) c.requires.line_value c.variables-count.ensures in
    sym (length-take-le _ _ (omega (arith, f, c.variables-count.ensures.size)))

pub returns : goal.returns
returns c =
    let R : Room _ _ _ _ _ _ = c.requires.room in
    let x = as-listed c.in_ok-listed.ensures in
    let few = own-few R c.list-1.given.1 x (omega (arith, c.if-n-c-gt-RULE_LIMIT.false)) c.requires.line_value c.variables-count.ensures in
    let own : c.variables-count.result ≤ length c.variables-count.new.vars = omega (arith, few, c.variables-count.ensures.size) in
    line_taken R (line_read R c.list-1.given.1 x) (omega (arith, c.if-n-c-gt-RULE_LIMIT.false)) c.requires.line_value c.variables-count.ensures (omega (arith, c.if-n-c-gt-RULE_LIMIT.false)) c.shared.ensures c.if-not-shared.false
    (copied-length _ _ own R.vars few c.copy_from_slice.ensures.after) (copied-front _ _ own R.vars few c.copy_from_slice.ensures.after)
