-- `pages::parts::first_with` finds the first line with the part of line k.
-- Assumes nothing.
use native.Mathlib.Omega.{arith}
use mathlib.Core.Path.{◌∙◌}
use Rattle.std.proofs.Common.{rules}
use Rattle.std.proofs.iter.runs.Sources.{ranges}
use Rattle.pages.proofs.SortLaws.{FoundFirst, found-first}
use Rattle.pages.proofs.parts.first_with.Goals as goal

pub returns-clause-value : goal.returns-clause-value
returns-clause-value c =
    let found : FoundFirst c.args.page.now c.args.k c.find.result = search (rules, ranges) in
    c.unwrap_or.ensures ∙ found-first _ _ (omega (arith, c.requires.held.within)) c.find.result found
