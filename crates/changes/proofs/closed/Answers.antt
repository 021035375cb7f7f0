-- `changes::closed`: both sections of sessions closed up, and the count.
-- Assumes nothing.
use mathlib.Core.Path.{◌≡◌, ◌∙◌}
use Prim.Native.Nat.{◌<◌}
use native.Mathlib.Omega.{arith}
use lib.ListN.{length, get_or}
use Rattle.tables.specs.Flat.{room, whole_length}
use Rattle.tables.specs.Code.Layout.{session_count_at}
use Rattle.changes.proofs.PassesLaws.{closing-closes}
use Rattle.changes.proofs.CountLaws.{counts_of}
use Rattle.changes.proofs.MadeLaws.{closed-made}
use Rattle.changes.proofs.closed.Goals as goal

pub close_up-requires : goal.close_up-requires
close_up-requires c =
    let is_open : (c.args.number < room) × (length c.args.t.now ≡ whole_length) = let k = counts_of c.requires.holds in
    (omega (arith, k.few_sessions, closing-closes c.requires.tables _ c.requires.free), k.long) in
    let k = is_open in (omega (arith, k.0), omega (arith, k.1))

pub close_up-requires-2 : goal.close_up-requires-2
close_up-requires-2 c =
    let is_open : (c.args.number < room) × (length c.args.t.now ≡ whole_length) = let k = counts_of c.requires.holds in
    (omega (arith, k.few_sessions, closing-closes c.requires.tables _ c.requires.free), k.long) in
    let k = is_open in
    (omega (arith, k.0), omega (arith, k.1, c.close_up.ensures.same))

pub bounds-t-3 : goal.bounds-t-3
bounds-t-3 c =
    let both-kept : (length c.close_up-2.new.t ≡ whole_length) × (0 < get_or c.close_up-2.new.t session_count_at 0) = let k = counts_of c.requires.holds in
    let n = closing-closes c.requires.tables _ c.requires.free in
    let kept = c.close_up-2.ensures.before session_count_at (omega arith) ∙ c.close_up.ensures.before session_count_at (omega arith) ∙ k.sessions in
    (c.close_up-2.ensures.same ∙ c.close_up.ensures.same ∙ k.long, omega (arith, kept, n)) in
    let k = both-kept in omega (arith, k.0)

pub overflow_sub-t : goal.overflow_sub-t
overflow_sub-t c =
    let both-kept : (length c.close_up-2.new.t ≡ whole_length) × (0 < get_or c.close_up-2.new.t session_count_at 0) = let k = counts_of c.requires.holds in
    let n = closing-closes c.requires.tables _ c.requires.free in
    let kept = c.close_up-2.ensures.before session_count_at (omega arith) ∙ c.close_up.ensures.before session_count_at (omega arith) ∙ k.sessions in
    (c.close_up-2.ensures.same ∙ c.close_up.ensures.same ∙ k.long, omega (arith, kept, n)) in
    both-kept.1

pub bounds-t-3-2 : goal.bounds-t-3-2
bounds-t-3-2 c =
    let both-kept : (length c.close_up-2.new.t ≡ whole_length) × (0 < get_or c.close_up-2.new.t session_count_at 0) = let k = counts_of c.requires.holds in
    let n = closing-closes c.requires.tables _ c.requires.free in
    let kept = c.close_up-2.ensures.before session_count_at (omega arith) ∙ c.close_up.ensures.before session_count_at (omega arith) ∙ k.sessions in
    (c.close_up-2.ensures.same ∙ c.close_up.ensures.same ∙ k.long, omega (arith, kept, n)) in
    let k = both-kept in omega (arith, k.0)

pub returns : goal.returns
returns c =
    λ T a free. closed-made a _ free c.close_up.ensures c.close_up-2.ensures
