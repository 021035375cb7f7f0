-- `judging::planning::plan` meets its contract: each part was filled in by its own function.
-- Assumes nothing.
use mathlib.Core.Path.{◌≡◌, refl, sym}
use native.Mathlib.Omega.{arith}
use lib.ListN.{length, take}
use lib.Seq.{length-take-le}
use Rattle.judging.proofs.PlanningLaws.{noted-then}
use Rattle.judging.proofs.PlannedLaws.{planned-by}
use borrow.Author.Rules.{rules}
use Rattle.judging.proofs.planning.plan.Goals as goal

pub chain-first-requires : goal.chain-first-requires
chain-first-requires c =
    let long : length c.levels-node_levels.result ≡ 256 = search rules in
    (c.requires.0.small, omega (arith, c.requires.0.small, long), refl, λ k l. omega (arith, (c.levels-node_levels.ensures _ _ c.terms.ensures).small k l, c.requires.0.short))

pub slice_bounds-note-end : goal.slice_bounds-note-end
slice_bounds-note-end c =
    let named-room : length c.scopes.new.found ≡ 256 = search rules in
    sym (length-take-le 64 c.scopes.new.found (omega (arith, named-room)))

pub note-requires : goal.note-requires
note-requires c =
    let named-room : length c.scopes.new.found ≡ 256 = search rules in
    let taken : length (take 64 c.scopes.new.found) ≡ 64 = length-take-le 64 c.scopes.new.found (omega arith) in
    let long : length c.masks.new.plan ≡ 1024 = search rules in
    (long, omega arith, omega arith)

pub returns : goal.returns
returns c =
    record {
      levels = c.levels-node_levels.result;
      level = c.levels-node_levels.ensures _ _ c.terms.ensures;
      planned = λ ts T ρ full W x after early.
          planned-by c.requires.0 (c.levels-node_levels.ensures _ _ c.terms.ensures) c.chain-first.ensures (c.sets-names.ensures _ _ c.terms.ensures c.requires.0.nodes) c.requires.1 c.steps.ensures c.starts.ensures c.clauses-many.ensures
          (c.scopes.ensures _ _ _ c.terms.ensures (record { firsts = λ i l. (c.clauses-many.ensures.filled.inside i l).low; seconds = λ i l. (c.clauses-many.ensures.filled.inside i l).low₂ }))
          c.clause_levels.ensures c.places.ensures c.sets.ensures c.contexts.ensures c.masks.ensures
          (noted-then c.note.ensures (noted-then c.note-2.ensures c.sorts.ensures)) ts T ρ full W x after early;
    }
