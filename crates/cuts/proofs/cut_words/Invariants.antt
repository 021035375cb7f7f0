-- `cuts::cut_words`: of the first i words those that are new are kept, cut.
-- Assumes nothing.
use lib.ListN.{length}
use Rattle.cuts.specs.Code.Cutting.{firsts_to}
use Rattle.cuts.proofs.KeepLaws.{Keeping}
use Rattle.cuts.proofs.cut_words.Given as goal

abbrev pub invariant-loop-word : goal.invariant-loop-word
invariant-loop-word l = Keeping (firsts_to l.reader l.words) (length l.words) l.kept l.n l.word-index
