-- What is left of the lent bytes where a verdict is written.
-- Internal: the entry points' contracts speak of `Answers`. Assumes nothing.
use Rattle.std.specs.Prelude.{List, ℕ, length}
use Rattle.answers.specs.Answer.{wrote, lent}
use Rattle.answers.specs.Written.{Written, Answers}
use Rattle.verdicts.specs.declared.Verdict.{Verdict}
use Rattle.verdicts.specs.Verdict.{written}

abbrev pub PutsVerdict : List ℕ → List ℕ → ℕ → Verdict → Written → Type 0
PutsVerdict old new word v r = Answers (lent (length old) (wrote (written word v))) old new r
