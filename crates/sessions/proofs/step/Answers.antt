-- `sessions::step`: a state that is cut short, one whose tables are refused, or its parts.
-- Assumes nothing.
use mathlib.Core.Path.{sym}
use native.Mathlib.Omega.{arith}
use lib.Seq.{length-take-le}
use Rattle.answers.specs.declared.Refusal.TheVariants.{CutShort}
use Rattle.answers.proofs.AnswerLaws.{exit-refused, kept-refused}
use Rattle.verdicts.proofs.LoadedLaws.{load-rejected, load-taken}
use Rattle.sessions.proofs.SplitLaws.{step_cut, end-in}
use Rattle.sessions.proofs.StepLaws.{bytes-known, took-holds, whole-refused, whole-taken, tables-known}
use Rattle.sessions.proofs.step.Goals as goal

pub returns-in_default : goal.returns-in_default
returns-in_default c =
    rw (step_cut c.args.state.now c.rule_end.ensures c.in_default.is c.args.change) (kept-refused _ _ CutShort)

pub slice_bounds-front-end : goal.slice_bounds-front-end
slice_bounds-front-end c =
    sym (length-take-le c.in-Some.end c.args.state.now (end-in c.args.state.now c.rule_end.ensures c.in-Some.is).1)

pub slice_bounds-tables-count : goal.slice_bounds-tables-count
slice_bounds-tables-count c = (end-in c.args.state.now c.rule_end.ensures c.in-Some.is).1

pub slice_bounds-tables-start : goal.slice_bounds-tables-start
slice_bounds-tables-start c = (end-in c.args.state.now c.rule_end.ensures c.in-Some.is).1

pub step_on-requires : goal.step_on-requires
step_on-requires c =
    let ends = end-in c.args.state.now c.rule_end.ensures c.in-Some.is in
    let q = load-taken _ c.load.ensures.value c.load.ensures.words_after c.in_ok-load.was in
    record { holds = took-holds q (tables-known c.args.state.now c.rule_end.ensures c.in-Some.is c.args.change (bytes-known c.args.state.now c.type_inv.state)); in_bounds = omega (arith, ends.0, length-take-le c.in-Some.end c.args.state.now ends.1) }

pub returns-in_err-load : goal.returns-in_err-load
returns-in_err-load c =
    rw (exit-refused c.from_residual.ensures.1) (whole-refused c.args.state.now c.rule_end.ensures c.in-Some.is c.args.change _ (load-rejected _ c.load.ensures.value c.in_err-load.was))

pub returns : goal.returns
returns c =
    let q = load-taken _ c.load.ensures.value c.load.ensures.words_after c.in_ok-load.was in
    whole-taken c.args.state.now c.rule_end.ensures c.in-Some.is c.args.change q c.step_on.ensures
