-- `sessions::change_on`: the output is too short, or the change is made and the parts of the next state are written.
-- Assumes nothing.
use mathlib.Core.Path.{ap}
use native.Mathlib.Omega.{arith}
use lib.ListN.{length}
use Rattle.sessions.proofs.LayLaws.{to_end}
use Rattle.sessions.proofs.StepLaws.{front_length, room-length, next-room, change-short, change-written, made-changed, made-loaded, next_fits}
use borrow.Author.Rules.{rules}
use Rattle.sessions.proofs.change_on.Goals as goal

pub next_length-requires : goal.next_length-requires
next_length-requires c = room-length c.requires.holds c.requires.front

pub returns-then-out-next_length : goal.returns-then-out-next_length
returns-then-out-next_length c =
    change-short c.requires.holds c.requires.front _ _ c.next_length.ensures c.if-out-next_length.true

pub put_verdict-a-requires : goal.put_verdict-a-requires
put_verdict-a-requires c =
    let apart = next-room c.requires.holds c.requires.front c.args.change in
    let long = front_length c.requires.holds c.requires.front in
    record { loaded = made-loaded c.requires.holds c.requires.front c.args.change c.requires.ready c.make.ensures; front = c.requires.front; in_bounds = search rules }

pub add_rule-b-requires : goal.add_rule-b-requires
add_rule-b-requires c =
    let apart = next-room c.requires.holds c.requires.front c.args.change in
    let long = front_length c.requires.holds c.requires.front in
    let same = ap length (to_end 28 c.args.front.now) in
    (search rules, omega (arith, same, long.1))

pub add_changed-requires : goal.add_changed-requires
add_changed-requires c =
    let rule = rw (to_end 28 c.args.front.now) at c.add_rule-b.ensures in
    record { changed = made-changed c.requires.holds c.requires.front c.args.change c.requires.ready c.make.ensures; tables_in_bounds = next_fits c.requires.holds c.requires.front c.args.change c.requires.ready c.make.ensures c.put_verdict-a.ensures.puts_verdict rule c.next_length.ensures c.if-out-next_length.false }

pub returns : goal.returns
returns c =
    change-written c.requires.holds c.requires.front c.args.change c.make.ensures c.put_verdict-a.ensures.puts_verdict (rw (to_end 28 c.args.front.now) at c.add_rule-b.ensures) c.add_changed.ensures
