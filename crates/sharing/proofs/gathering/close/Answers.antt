-- `close` joins the clauses in a tree of its own, and takes the rule only where its variables are the lines'.
-- Assumes nothing.
use Prim.Native.Nat.{ℕ, ◌≤◌}
use native.Mathlib.Omega.{arith}
use lib.ListN.{length, length-replicate}
use Rattle.rules.specs.Accept.{rule_limit}
use borrow.Author.Rules.{rules}
use Rattle.sharing.specs.Code.Gathering.{Room}
use Rattle.sharing.proofs.GatheringLaws.{copied-length, copied-front, close-joinable, sheaf-bound}
use Rattle.sharing.proofs.gathering.close.Goals as goal

pub join-whole-requires : goal.join-whole-requires
join-whole-requires c =
    let R : Room _ _ _ _ _ _ = c.requires in
    let own : c.args.size.n ≤ length c.args.nodes.now = omega (arith, R.nodes, R.few) in
    let few : c.args.size.n ≤ rule_limit = omega (arith, R.few) in
    let room = copied-length _ _ own (length-replicate {A = ℕ} 256 0) few c.copy_from_slice.ensures.after in
    let front = copied-front _ _ own (length-replicate {A = ℕ} 256 0) few c.copy_from_slice.ensures.after in
    close-joinable R room front (omega (arith, c.if-size-eq0.false))

pub check_tree-checked-requires : goal.check_tree-checked-requires
check_tree-checked-requires c =
    let R : Room _ _ _ _ _ _ = c.requires in
    let j = c.join-whole.ensures in
    record { tidy = j.tidy; root_lt_n = j.within; n_in_bounds = omega (arith, j.few, R.few); vars_len = search rules }

pub returns : goal.returns
returns c =
    let R : Room _ _ _ _ _ _ = c.requires in
    let own : c.args.size.n ≤ length c.args.nodes.now = omega (arith, R.nodes, R.few) in
    let few : c.args.size.n ≤ rule_limit = omega (arith, R.few) in
    let room = copied-length _ _ own (length-replicate {A = ℕ} 256 0) few c.copy_from_slice.ensures.after in
    let front = copied-front _ _ own (length-replicate {A = ℕ} 256 0) few c.copy_from_slice.ensures.after in
    λ κs S. sheaf-bound R room front S (omega (arith, c.if-size-eq0.false)) c.join-whole.ensures c.check_tree-checked.ensures c.in-Ok.is c.shared.ensures c.if-not-shared.false
