-- `changes::opened`: a word more in the two sections of sessions, and the count.
-- Assumes nothing.
use mathlib.Core.Path.{◌≡◌, refl}
use Prim.Native.Nat.{◌<◌}
use native.Mathlib.Omega.{arith}
use lib.ListN.{length, get_or, length-set}
use Rattle.tables.specs.Flat.{room, whole_length}
use Rattle.tables.specs.Code.Layout.{session_count_at}
use Rattle.changes.proofs.PassesLaws.{opening-opens}
use Rattle.changes.proofs.CountLaws.{counts_of}
use Rattle.changes.proofs.MadeLaws.{opened-made}
use borrow.Author.Rules.{rules}
use Rattle.changes.proofs.opened.Goals as goal

pub bounds-t-3 : goal.bounds-t-3
bounds-t-3 c =
    let vacant : (get_or c.args.t.now session_count_at 0 < room) × (length c.args.t.now ≡ whole_length) = let k = counts_of c.requires.holds in
    (omega (arith, k.sessions, (opening-opens c.requires.tables _ _ c.requires.free).room), k.long) in
    omega (arith, vacant.1)

pub overflow_add-t : goal.overflow_add-t
overflow_add-t c =
    let vacant : (get_or c.args.t.now session_count_at 0 < room) × (length c.args.t.now ≡ whole_length) = let k = counts_of c.requires.holds in
    (omega (arith, k.sessions, (opening-opens c.requires.tables _ _ c.requires.free).room), k.long) in
    let v = vacant in search rules

pub offset_bounds-t-n : goal.offset_bounds-t-n
offset_bounds-t-n c =
    let vacant : (get_or c.args.t.now session_count_at 0 < room) × (length c.args.t.now ≡ whole_length) = let k = counts_of c.requires.holds in
    (omega (arith, k.sessions, (opening-opens c.requires.tables _ _ c.requires.free).room), k.long) in
    let v = vacant in search rules

pub bounds-t-n : goal.bounds-t-n
bounds-t-n c =
    let vacant : (get_or c.args.t.now session_count_at 0 < room) × (length c.args.t.now ≡ whole_length) = let k = counts_of c.requires.holds in
    (omega (arith, k.sessions, (opening-opens c.requires.tables _ _ c.requires.free).room), k.long) in
    let v = vacant in omega (arith, v.0, v.1)

pub overflow_add-t-2 : goal.overflow_add-t-2
overflow_add-t-2 c =
    let vacant : (get_or c.args.t.now session_count_at 0 < room) × (length c.args.t.now ≡ whole_length) = let k = counts_of c.requires.holds in
    (omega (arith, k.sessions, (opening-opens c.requires.tables _ _ c.requires.free).room), k.long) in
    let v = vacant in search rules

pub offset_bounds-t-n-2 : goal.offset_bounds-t-n-2
offset_bounds-t-n-2 c =
    let vacant : (get_or c.args.t.now session_count_at 0 < room) × (length c.args.t.now ≡ whole_length) = let k = counts_of c.requires.holds in
    (omega (arith, k.sessions, (opening-opens c.requires.tables _ _ c.requires.free).room), k.long) in
    let v = vacant in search rules

pub bounds-t-n-2 : goal.bounds-t-n-2
bounds-t-n-2 c =
    let vacant : (get_or c.args.t.now session_count_at 0 < room) × (length c.args.t.now ≡ whole_length) = let k = counts_of c.requires.holds in
    (omega (arith, k.sessions, (opening-opens c.requires.tables _ _ c.requires.free).room), k.long) in
    let v = vacant in rw length-set (omega (arith, v.0, v.1))

pub overflow_add-t-3 : goal.overflow_add-t-3
overflow_add-t-3 c =
    let vacant : (get_or c.args.t.now session_count_at 0 < room) × (length c.args.t.now ≡ whole_length) = let k = counts_of c.requires.holds in
    (omega (arith, k.sessions, (opening-opens c.requires.tables _ _ c.requires.free).room), k.long) in
    let v = vacant in search rules

pub bounds-t-3-2 : goal.bounds-t-3-2
bounds-t-3-2 c =
    let vacant : (get_or c.args.t.now session_count_at 0 < room) × (length c.args.t.now ≡ whole_length) = let k = counts_of c.requires.holds in
    (omega (arith, k.sessions, (opening-opens c.requires.tables _ _ c.requires.free).room), k.long) in
    let v = vacant in rw (length-set, length-set) (omega (arith, v.1))

pub returns : goal.returns
returns c = λ T a free. opened-made a _ _ free c.item.ensures refl
