-- `cuts::replace`: the section stands over the words.
-- Assumes nothing.
use Prim.Native.Nat.{◌+◌, ◌-◌}
use mathlib.Core.Path.{◌≡◌}
use native.Mathlib.Omega.{arith}
use lib.ListN.{length}
use Rattle.cuts.proofs.ReplacingLaws.{put-over}
use Rattle.cuts.proofs.replace.Goals as goal

pub returns : goal.returns
returns c =
    let n : c.args.at + length c.args.section.now - c.args.at ≡ length c.args.section.now = omega arith in
    rw (c.copy_from_slice.ensures.after, n) (put-over c.args.words.now c.args.at c.args.section.now c.requires)
