-- `pages::sheaves::counted` meets its contract.
-- Assumes nothing.
use mathlib.Core.Path.{◌≡◌}
use Prim.Native.Nat.{ℕ}
use borrow.Author.Rules.{rules}
use lib.ListN.{length, length-replicate}
use Rattle.sharing.proofs.WalkLaws.{zeros-none}
use Rattle.pages.proofs.WholeLaws.{whole-lent, whole-starts, whole-ranges, as-counted, lines-uncounted, lines-counted}
use Rattle.pages.proofs.sheaves.counted.Goals as goal

pub counts-requires : goal.counts-requires
counts-requires c =
    let kinds-room : length c.args.parsed.kinds ≡ 256 = search rules in
    let vars-room : length c.args.parsed.vars ≡ 8 = search rules in
    record { lent_by = (whole-lent c.requires.loaded.1 c.requires.loaded.0 kinds-room vars-room, whole-starts c.requires.loaded.1, whole-ranges c.requires.loaded.1, c.requires.loaded.1.few, length-replicate {A = ℕ} 32 0); by_index = zeros-none }

pub returns-in_default : goal.returns-in_default
returns-in_default c = lines-uncounted _ _ _ _ _ _ _

pub returns : goal.returns
returns c =
    lines-counted c.spread.ensures (as-counted c.counts.ensures c.in-Some.is).1
