-- `pages::writing::write_from` writes the lines from line k on, and gives their word and counts. The measure is how many are left.
-- Assumes nothing.
use mathlib.Core.Path.{◌≡◌, ap}
use native.Mathlib.Omega.{arith}
use Prim.Native.Nat.{◌<◌, ◌+◌, ◌-◌, ◌*◌}
use lib.ListN.{length, get_or}
use borrow.Author.Rules.{rules}
use Rattle.texts.proofs.OverwrittenLaws.{rest-room}
use Rattle.verdicts.specs.declared.Verdict.{Verdict}
use Rattle.verdicts.proofs.SheetLaws.{length-written}
use Rattle.pages.proofs.WritingLaws.{no_lines, no-sums, one_line, one-sum}
use Rattle.pages.proofs.writing.+write_from.Goals as goal

pub returns-then-many-k : goal.returns-then-many-k
returns-then-many-k t c = record { overwritten = λ vs rows. no_lines rows _ _ c.if-many-k.true; summed = λ vs rows. no-sums rows _ c.if-many-k.true; full_bound = (omega arith, omega arith) }

pub write_from-rest-requires : goal.write_from-rest-requires
write_from-rest-requires t c =
    let eight : length c.verdict_of-verdict.result.first ≡ 8 = search rules in (
      omega (arith, c.decreases, c.if-many-k.false),
      (
        c.requires.lanes,
        (
          c.requires.many_le_page_limit,
          (
            c.requires.all_fit,
            rest-room (26 * (c.args.many - (c.args.k + 1))) c.write-n.ensures (omega (arith, c.requires.k_in_bounds, c.if-many-k.false, length-written c.word_of-word.result c.verdict_of-verdict.result eight)),
          ),
        ),
      ),
    )

pub returns : goal.returns
returns t c =
    let eight : length c.verdict_of-verdict.result.first ≡ 8 = search rules in
    let here : c.args.k < c.args.many = omega (arith, c.if-many-k.false) in
    let full : c.verdict_of-verdict.result.full ≡ get_or c.args.fulls.now c.args.k 0 = ap (λ (u : Verdict). u.full) c.verdict_of-verdict.ensures in
    let breaking : c.verdict_of-verdict.result.breaking ≡ get_or c.args.breakings.now c.args.k 0 = ap (λ (u : Verdict). u.breaking) c.verdict_of-verdict.ensures in
    let fits = c.requires.all_fit c.args.k here in record { overwritten = λ vs rows. one_line rows c.args.k c.verdict_of-verdict.ensures here c.word_of-word.ensures eight c.write-n.ensures (c.write_from-rest.ensures.overwritten vs rows); summed = λ vs rows. one-sum rows c.args.k c.verdict_of-verdict.ensures here c.word_of-word.ensures c.worse.ensures (c.write_from-rest.ensures.summed vs rows); full_bound = (omega (arith, fits.few, c.write_from-rest.ensures.full_bound.0), omega (arith, fits.part, fits.few, c.write_from-rest.ensures.full_bound.1)) }
