-- `judging::counting::enter` meets its contract.
-- Assumes nothing.
use native.Mathlib.Omega.{arith}
use Rattle.walks.specs.Code.Kept.{choice_of}
use Rattle.judging.proofs.CountingLaws.{clause-values, entered-lost, entered-held, entered-false}
use Rattle.judging.proofs.counting.enter.Goals as goal

pub returns-then-mode-eq0 : goal.returns-then-mode-eq0
returns-then-mode-eq0 c =
    record {
      modes = omega arith;
      room = c.settle.auto.cache;
      goes = λ y T ρ P S. (c.settle.ensures y.nodes y.n y.kinds y.vars y.order y.levels P.nodes P.level S, entered-lost P c.args.mode c.args.level c.args.choice c.if-mode-eq0.true);
    }

pub returns-then-holds : goal.returns-then-holds
returns-then-holds c =
    record {
      modes = omega arith;
      room = c.settle.auto.cache;
      goes = λ y T ρ P S.
          let now-stored = c.settle.ensures y.nodes y.n y.kinds y.vars y.order y.levels P.nodes P.level S in (
            now-stored,
            entered-held P c.args.mode c.args.level c.args.choice c.requires.4 c.if-mode-eq0.false c.holds.result
                (c.holds.ensures y.nodes y.n ρ P.clauses T (choice_of c.args.choice) (clause-values P c.args.choice c.args.level now-stored)) c.if-holds.true,
          );
    }

pub returns : goal.returns
returns c =
    record {
      modes = omega arith;
      room = c.settle.auto.cache;
      goes = λ y T ρ P S.
          let now-stored = c.settle.ensures y.nodes y.n y.kinds y.vars y.order y.levels P.nodes P.level S in (
            now-stored,
            entered-false P c.args.mode c.args.level c.args.choice c.holds.result
                (c.holds.ensures y.nodes y.n ρ P.clauses T (choice_of c.args.choice) (clause-values P c.args.choice c.args.level now-stored)) c.if-holds.false,
          );
    }
