-- `middle_at` tries `,` behind the name of a call of two terms, and otherwise the signs of a bracket.
-- Assumes nothing.
use mathlib.Core.Path.{refl, subst}
use mathlib.Core.List.{[], ◌∷◌}
use Prim.Native.Nat.{ℕ, ◌+◌}
use native.Mathlib.Omega.{arith}
use lib.ListN.{drop}
use Rattle.std.specs.Prelude.{Some}
use Rattle.syntax.specs.Bytes.{scan}
use Rattle.syntax.specs.Term.{meet, join, spell_middle, calls, joins, parting}
use Rattle.syntax.specs.Code.Arena.{two_op}
use Rattle.syntax.specs.Code.Reading.{Named, pair, away, joint_op, spell_joint, fn2_at, joints}
use Rattle.syntax.proofs.NameLaws.{from-these, past, here, nowhere, retold}
use Rattle.syntax.proofs.ReadingLaws.{joints-comma, joints-sign, fn2-number}
use Rattle.syntax.proofs.names.middle_at.Goals as goal

pub returns-then-op-ge-FIRST_JOIN : goal.returns-then-op-ge-FIRST_JOIN
unfolding spell_joint parting spell_middle joint_op two_op
returns-then-op-ge-FIRST_JOIN c =
    rw (joints-sign c.args.op c.if-op-ge-FIRST_JOIN.true) (retold spell_joint (pair (joins meet) ∷ pair (joins join) ∷ away ∷ []) refl c.first.ensures)

pub returns-then-not-stands : goal.returns-then-not-stands
unfolding spell_joint parting
returns-then-not-stands c = nowhere (past (pair (calls (fn2_at _))) [] (from-these (joints-comma _ c.if-op-ge-FIRST_JOIN.false) c.requires.at_in_bounds) c.stands.ensures c.if-not-stands.true)

pub returns : goal.returns
unfolding spell_joint parting
returns c =
    subst (λ (o : ℕ). Named joint_op c.args.s.now c.args.at (Some (record { number = o; next = c.args.at + 1 })) (scan spell_joint (joints c.args.op) (drop c.args.at c.args.s.now)))
    (fn2-number c.args.op c.requires.first_pair_le_op c.if-op-ge-FIRST_JOIN.false)
    (here (pair (calls (fn2_at c.args.op))) [] (from-these (joints-comma c.args.op c.if-op-ge-FIRST_JOIN.false) c.requires.at_in_bounds) c.stands.ensures c.if-not-stands.false (omega arith))
