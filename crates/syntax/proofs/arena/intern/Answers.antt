-- `intern` gives an equal node, or puts the node behind the others.
-- Assumes nothing.
use mathlib.Core.Path.{refl, ◌∙◌}
use Prim.Native.Nat.{◌<◌, ◌≤◌, ◌-◌}
use native.Mathlib.Omega.{arith}
use lib.ListN.{length, length-set}
use lib.Seq.{get_or-set_same, get_or-set_other}
use Rattle.syntax.proofs.ArenaLaws.{tidy-more, sought-none}
use borrow.Author.Rules.{rules}
use Rattle.syntax.proofs.arena.intern.Goals as goal

-- The search begins among the nodes.

pub offset_bounds-nodes-from : goal.offset_bounds-nodes-from
offset_bounds-nodes-from c =
    let h : c.lowest-from.result ≤ c.args.n = c.lowest-from.ensures c.args.n c.requires.low in
    search rules

pub slice_bounds-seek-count : goal.slice_bounds-seek-count
slice_bounds-seek-count c =
    let h : c.lowest-from.result ≤ c.args.n = c.lowest-from.ensures c.args.n c.requires.low in
    search rules

pub slice_bounds-seek-start : goal.slice_bounds-seek-start
slice_bounds-seek-start c =
    let h : c.lowest-from.result ≤ c.args.n = c.lowest-from.ensures c.args.n c.requires.low in
    search rules

pub overflow_sub-n : goal.overflow_sub-n
overflow_sub-n c =
    c.lowest-from.ensures c.args.n c.requires.low

pub returns : goal.returns
returns c =
    let h : c.args.n < length c.args.nodes.now = c.requires.room in
    record {
      interned = record {
        within = search rules;
        few = search rules;
        at = get_or-set_same c.args.nodes.now c.args.n c.pack-node.result 0 h ∙ c.pack-node.ensures;
        stays = record { more = search rules; size = length-set c.args.nodes.now c.args.n c.pack-node.result; same = λ i l. get_or-set_other c.args.nodes.now c.args.n i c.pack-node.result 0 (omega arith) };
        tidy = tidy-more c.args.nodes.now c.args.n c.pack-node.result h c.requires.tidy (rw c.pack-node.ensures c.requires.low) (sought-none c.args.nodes.now c.lowest-from.result (length c.args.nodes.now - c.lowest-from.result) c.args.n (omega arith) c.seek.ensures c.requires.tidy.down (λ k l. c.lowest-from.ensures k (rw c.pack-node.ensures at l)) c.if-k-n.false);
      };
      behind = refl;
    }
