-- `values::names::sets` meets its contract. The invariant: the words of the first v variables are right.
-- Assumes nothing.
use mathlib.Core.Path.{◌≡◌, refl, subst, ◌∙◌}
use Prim.Native.Nat.{ℕ, ◌<◌}
use native.Mathlib.Omega.{arith}
use lib.ListN.{length, get_or, length-set}
use Rattle.values.specs.Sets.{set_of}
use Rattle.values.specs.Code.Nodes.{Named}
use Rattle.values.proofs.NamesLaws.{holds_at, named_none, named_more}
use Rattle.values.proofs.names.sets.Goals as goal

pub loop-v-init : goal.loop-v-init
loop-v-init c = (refl, λ ns n N small σ w. named_none _ σ)

pub loop-v-preserved : goal.loop-v-preserved
loop-v-preserved c =
    let v : ℕ = c.loop-v.v in
    let word : ℕ = get_or c.args.found.now (get_or c.args.vars.now v 0) 0 in
    let room : v < length c.loop-v.words = omega (arith, c.requires.0, c.loop-v.invariant.0) in (
      length-set c.loop-v.words v word ∙ c.loop-v.invariant.0,
      λ ns n N small σ w. named_more c.loop-v.words σ v word room (c.loop-v.invariant.1 ns n N small σ w)
          (λ u l. N _ (small v (omega arith)) σ w (set_of σ v) (holds_at ns c.args.vars.now σ w.holds v (omega arith) _) u l),
    )

pub returns : goal.returns
returns c =
    λ ns n N small σ w.
    let end : c.loop-v.v ≡ length c.args.vars.now = omega arith in
    subst (λ (i : ℕ). Named i c.loop-v.words σ) end (c.loop-v.invariant.1 ns n N small σ w)
