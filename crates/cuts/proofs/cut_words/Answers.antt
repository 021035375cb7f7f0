-- `cuts::cut_words`: of the first i words those that are new are kept, cut.
-- Assumes nothing.
use native.Mathlib.Omega.{arith}
use Rattle.cuts.specs.Cut.{is_new}
use Rattle.cuts.proofs.KeepLaws.{keeping_none, keeping-in, keeping-out, keeping-front, first-none, first-in, first_out}
use Rattle.cuts.proofs.cut_words.Goals as goal
use Rattle.cuts.proofs.cut_words.Goals.{then-is_new, else-is_new}

pub loop-word-init : goal.loop-word-init
loop-word-init c = keeping_none (first-none _ _) c.requires.kept_value

pub loop-word-preserved : goal.loop-word-preserved
unfolding is_new
loop-word-preserved c =
    let front = keeping-front c.loop-word.invariant c.requires.words_len_bound in
    elim c.if-is_new.branch [
      | then-is_new w ↦ keeping-in c.loop-word.invariant _ c.requires.words_len_bound (omega arith) (first-in _ _ _ c.meet-word.ensures front c.is_new.ensures w.if-is_new.true) w.kept-is w.n-is
      | else-is_new w ↦ keeping-out c.loop-word.invariant (omega arith) (first_out _ _ _ c.meet-word.ensures front c.is_new.ensures w.if-is_new.false) w.kept-is w.n-is
    ]
