-- `pages::tallies::tallied` judges line by line. The invariant: the first k lines are judged, and those known have their counts from k on.
-- Assumes nothing.
use mathlib.Core.Path.{◌≡◌, sym, ◌∙◌}
use Prim.Native.Nat.{◌<◌}
use native.Mathlib.Omega.{arith}
use lib.ListN.{length}
use Rattle.texts.proofs.SpansLaws.{lies}
use Rattle.verdicts.specs.Code.Judging.{JudgesInTurn}
use Rattle.pages.specs.Code.Parts.{line_at}
use Rattle.pages.proofs.LineLaws.{line-is, line-there}
use Rattle.pages.proofs.TallyLaws.{tallies-none, tallies-next, lanes_next}
use Rattle.pages.proofs.SheafLaws.{known_from, known-after, known-counts}
use borrow.Author.Rules.{rules}
use Rattle.pages.proofs.tallies.tallied.Goals as goal

pub loop-k-init : goal.loop-k-init
loop-k-init c =
    (record { for_fulls = c.known-known.ensures.for_fulls; for_breakings = c.known-known.ensures.for_breakings; for_firsts = c.requires.lanes.for_firsts }, tallies-none _ _ _ _ _, known_from c.known-known.ensures)

pub returns-in_default : goal.returns-in_default
returns-in_default c =
    line-there _ _ c.in_default.ensures (omega (arith, c.requires.ready.count, c.loop-k-test.true))

pub slice_bounds-verdict-count : goal.slice_bounds-verdict-count
slice_bounds-verdict-count c =
    (lies c.in-Some.ensures).low

pub slice_bounds-verdict-start : goal.slice_bounds-verdict-start
slice_bounds-verdict-start c =
    (lies c.in-Some.ensures).low

pub slice_bounds-verdict-end : goal.slice_bounds-verdict-end
slice_bounds-verdict-end c =
    (lies c.in-Some.ensures).high

pub verdict-judged-requires : goal.verdict-judged-requires
verdict-judged-requires c =
    let line = line-is _ _ c.in-Some.ensures in
    record { loaded = c.requires.loaded; known_counts = λ e. rw line at (known-counts c.loop-k.invariant.2 (sym c.contains-shared.ensures ∙ e)) }

pub loop-k-preserved : goal.loop-k-preserved
loop-k-preserved c =
    let eight : length c.verdict-judged.result.first ≡ 8 = search rules in
    let within : c.loop-k.k < 32 = omega (arith, c.requires.ready.few) in
    let ok = c.requires.ready.accepted c.loop-k.k c.loop-k-test.true in
    let judged : JudgesInTurn c.args.words.now (line_at c.args.page.now c.loop-k.k) c.verdict-judged.result = rw (line-is _ _ c.in-Some.ensures) c.verdict-judged.ensures in (
      lanes_next c.verdict-judged.result c.loop-k.invariant.0 within c.loop-k.invariant.1 judged ok eight c.put.ensures,
      tallies-next c.verdict-judged.result c.loop-k.invariant.0 within c.loop-k.invariant.1 judged ok eight c.put.ensures,
      known-after c.verdict-judged.result.full c.verdict-judged.result.breaking c.loop-k.invariant.2,
    )
