-- `cuts::keep`: of the words passed those of the reader's users are kept, and the others are left.
-- Assumes nothing.
use Rattle.std.proofs.Common.{rules}
use lib.ListN.{length-append}
use Rattle.cuts.proofs.KeepLaws.{keeping_none, kept-none, keeping-word, passing-word}
use Rattle.cuts.proofs.keep.Goals as goal

pub loop-user-init : goal.loop-user-init
loop-user-init c = record { keeping = keeping_none (kept-none _ _ _) c.requires.kept_value; users-left = search rules; column-left = search rules }

pub loop-user-preserved-then-meet-ne0 : goal.loop-user-preserved-then-meet-ne0
loop-user-preserved-then-meet-ne0 c =
    keeping-word c.loop-user.invariant c.in-Some.ensures.steps.0 c.in-Some.ensures.steps.1 c.meet.ensures (length-append c.loop-user.yielded _)
    c.requires.users_len_bound.0 c.if-meet-ne0.true

pub loop-user-preserved : goal.loop-user-preserved
loop-user-preserved c =
    passing-word c.loop-user.invariant c.in-Some.ensures.steps.0 c.in-Some.ensures.steps.1 c.meet.ensures (length-append c.loop-user.yielded _)
    c.if-meet-ne0.false
