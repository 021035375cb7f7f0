-- `tables::sections::name_permissions`: the permissions below p are named.
-- Assumes nothing.
use Prim.Native.Nat.{◌+◌}
use mathlib.Core.Path.{◌∙◌}
use native.Mathlib.Omega.{arith}
use Rattle.tables.proofs.PutLaws.{names-none, names_more, names-long}
use Rattle.tables.proofs.sections.name_permissions.Goals as goal

pub loop-p-init : goal.loop-p-init
loop-p-init c = (omega arith, names-none c.args.words.now c.args.objects, c.requires.whole)

pub loop-p-preserved : goal.loop-p-preserved
loop-p-preserved c =
    let e = names_more c.args.words.now c.loop-p.p c.args.objects (omega (arith, c.requires)) c.item.ensures c.item-in-loop-p.ensures c.loop-p.invariant.1 in
    (omega arith, e, names-long c.args.words.now (c.loop-p.p + 1) c.args.objects e ∙ c.requires.whole)
