-- `first` passes the names that do not stand there.
-- Assumes nothing.
use lib.ListN.{drop}
use Rattle.syntax.specs.Code.Reading.{Spelt, entries, text_of}
use Rattle.syntax.proofs.NameLaws.{From}
use Rattle.syntax.proofs.names.first.Given as goal

abbrev pub invariant-loop-name : goal.invariant-loop-name
invariant-loop-name l = From text_of (entries l.names) (entries (drop l.name-index l.names)) l.s l.at × Spelt (entries (drop l.name-index l.names))
