-- `tables::rank_step`: the hierarchy test again, on the words that `load` left, where it refused by rank.
-- Assumes nothing.
use Rattle.std.proofs.Common.{rules}
use mathlib.Core.Path.{◌≡◌, sym, ap, ◌∙◌}
use Rattle.answers.specs.Outcome.{refuses}
use Rattle.tables.specs.Code.Reads.{reading_outcome, step_number}
use Rattle.tables.proofs.FitsLaws.{sections-sound}
use Rattle.tables.proofs.LoadLaws.{never, refused-one, refused_as}
use Rattle.tables.proofs.PartLaws.{counts-fit}
use Rattle.tables.proofs.StopLaws.{rank-refused, rank_step_lem, rank-other}
use Rattle.tables.proofs.rank_step.Goals as goal

pub returns-in_default : goal.returns-in_default
returns-in_default c = sym (rank-other c.args.bytes.now (λ q. never (sym (ap reading_outcome q) ∙ sym c.load.ensures.value ∙ c.in_default.is)))

pub returns-in_default-refusal : goal.returns-in_default-refusal
returns-in_default-refusal c =
    sym (rank-other c.args.bytes.now (λ q. c.in_default-refusal.not-Rank (refused-one (sym c.in-Err.is ∙ c.load.ensures.value ∙ ap reading_outcome q))))

pub failing_step-requires : goal.failing_step-requires
failing_step-requires c =
    let q = refused_as _ c.load.ensures.value (c.in-Err.is ∙ ap refuses c.in-Rank.is) in
    let w = rank-refused c.args.bytes.now q in
    counts-fit w.tables (sections-sound c.args.bytes.now w.reads).fits (c.load.ensures.words_after_2 w.tables w.reads)

pub returns-in-Rank : goal.returns-in-Rank
returns-in-Rank c =
    let q = refused_as _ c.load.ensures.value (c.in-Err.is ∙ ap refuses c.in-Rank.is) in
    let w = rank-refused c.args.bytes.now q in
    let s = sections-sound c.args.bytes.now w.reads in
    let n : c.map_or.result ≡ step_number c.failing_step.result = search rules in
    n ∙ (c.failing_step.ensures w.tables s.fits s.bounded (c.load.ensures.words_after_2 w.tables w.reads)
    ∙ sym (rank_step_lem c.args.bytes.now q w.reads))
