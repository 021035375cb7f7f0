-- `pages::parts::sort` sorts the lines by their quantifier parts. The invariant: the first k are sorted.
-- Assumes nothing.
use mathlib.Core.Path.{◌≡◌, ◌∙◌}
use Prim.Native.Nat.{◌<◌, ◌+◌}
use native.Mathlib.Omega.{arith}
use borrow.Author.Rules.{rules}
use lib.ListN.{length}
use Rattle.std.proofs.lemmas.Result.{err_from_is_err_and}
use Rattle.texts.specs.Pieces.{lines}
use Rattle.pages.specs.Code.Parts.{line_refused}
use Rattle.pages.proofs.SortLaws.{one-if, mapped-ok, mapped-err, slot-ends, sorting-refused, sorting-held, sorting-next, sorting-all, wide-next}
use Rattle.pages.proofs.parts.sort.Goals as goal

pub returns-in_err-n : goal.returns-in_err-n
returns-in_err-n c =
    let p = err_from_is_err_and c.from_residual.result c.from_residual.ensures.1 in
    let q = mapped-err _ c.slot_of.result c.map_err.ensures.cases c.in_err-n.was in
    let is : c.in_err-n.field-0.0 ≡ record { refusal = q.0; position = c.loop-k.k + 1 } = let h = q.2 in search rules in
    rw (p.1, p.2, is) (line_refused (sorting-refused c.loop-k.invariant.0 (omega (arith, c.requires.page_len, c.loop-k-test.true)) c.slot_of.ensures q.1) (omega (arith, c.requires.many_le_page_limit, c.loop-k-test.true)))

pub first_with-first-requires-clause-held : goal.first_with-first-requires-clause-held
first_with-first-requires-clause-held c =
    let within : c.loop-k.k < length (lines c.args.page.now) = omega (arith, c.requires.page_len, c.loop-k-test.true) in
    let room : c.loop-k.k < length c.loop-k.lens = omega (arith, c.requires.many_le_page_limit, c.loop-k-test.true, c.loop-k.invariant.1.wide_lens) in
    sorting-held c.loop-k.invariant.0 within c.slot_of.ensures (mapped-ok _ c.slot_of.result c.map_err.ensures.cases c.in_ok-n.was) room

pub loop-k-preserved : goal.loop-k-preserved
loop-k-preserved c =
    let within : c.loop-k.k < length (lines c.args.page.now) = omega (arith, c.requires.page_len, c.loop-k-test.true) in
    let room : c.loop-k.k < length c.loop-k.lens = omega (arith, c.requires.many_le_page_limit, c.loop-k-test.true, c.loop-k.invariant.1.wide_lens) in
    let ends = mapped-ok _ c.slot_of.result c.map_err.ensures.cases c.in_ok-n.was in (
      sorting-next c.loop-k.invariant.0 within c.slot_of.ensures ends room c.first_with-first.ensures.value c.first_with-first.ensures.upper_bound (c.from-walks.ensures ∙ one-if _)
          (omega (arith, c.loop-k.invariant.1.wide_groups, c.requires.many_le_page_limit, c.loop-k-test.true)),
      wide-next _ _ _ _ c.loop-k.invariant.1 (slot-ends c.slot_of.ensures ends).slot.same,
    )

pub returns : goal.returns
returns c = sorting-all c.loop-k.invariant.0 c.requires.page_len c.requires.many_le_page_limit c.loop-k-test.false
