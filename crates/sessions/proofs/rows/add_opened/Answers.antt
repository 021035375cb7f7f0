-- `sessions::rows::add_opened`: the bytes up to the last row, the new row, and the bytes behind it.
-- Assumes nothing.
use mathlib.Core.Path.{◌≡◌}
use native.Mathlib.Omega.{arith}
use lib.ListN.{length}
use Rattle.changes.proofs.CountLaws.{counts_of}
use Rattle.sessions.proofs.RowLaws.{OpenedFits, opened-fits, rest-fits, opened-added}
use borrow.Author.Rules.{rules}
use Rattle.sessions.proofs.rows.add_opened.Goals as goal

pub bounds-words-3 : goal.bounds-words-3
bounds-words-3 c = omega (arith, (counts_of c.requires.changed.at).long)

pub overflow_sub-end : goal.overflow_sub-end
overflow_sub-end c =
    let sizes : OpenedFits c.args.words.now c.args.tables.now c.args.user c.rows_at-rows.result = opened-fits c.requires.changed.tables _ _ c.requires.changed.free c.requires.changed.at c.requires.changed.bytes c.rows_at-rows.ensures in
    sizes.some

pub overflow_mul-end : goal.overflow_mul-end
overflow_mul-end c =
    let sizes : OpenedFits c.args.words.now c.args.tables.now c.args.user c.rows_at-rows.result = opened-fits c.requires.changed.tables _ _ c.requires.changed.free c.requires.changed.at c.requires.changed.bytes c.rows_at-rows.ensures in
    let z = sizes in omega (arith, z.some, z.few)

pub overflow_add-end : goal.overflow_add-end
overflow_add-end c =
    let sizes : OpenedFits c.args.words.now c.args.tables.now c.args.user c.rows_at-rows.result = opened-fits c.requires.changed.tables _ _ c.requires.changed.free c.requires.changed.at c.requires.changed.bytes c.rows_at-rows.ensures in
    let z = sizes in omega (arith, z.some, z.few, z.low)

pub overflow_cast-user : goal.overflow_cast-user
overflow_cast-user c =
    let sizes : OpenedFits c.args.words.now c.args.tables.now c.args.user c.rows_at-rows.result = opened-fits c.requires.changed.tables _ _ c.requires.changed.free c.requires.changed.at c.requires.changed.bytes c.rows_at-rows.ensures in
    let z = sizes in omega (arith, z.user)

pub add_count-a-requires : goal.add_count-a-requires
add_count-a-requires c =
    let sizes : OpenedFits c.args.words.now c.args.tables.now c.args.user c.rows_at-rows.result = opened-fits c.requires.changed.tables _ _ c.requires.changed.free c.requires.changed.at c.requires.changed.bytes c.rows_at-rows.ensures in
    let z = sizes in
    record { loaded = record { tables = _; holds = c.requires.changed.at }; words_in_bounds = (omega (arith, z.at, z.last), search rules) }

pub slice_bounds-add-end : goal.slice_bounds-add-end
slice_bounds-add-end c =
    let sizes : OpenedFits c.args.words.now c.args.tables.now c.args.user c.rows_at-rows.result = opened-fits c.requires.changed.tables _ _ c.requires.changed.free c.requires.changed.at c.requires.changed.bytes c.rows_at-rows.ensures in
    let z = sizes in omega (arith, z.last)

pub add-c-requires : goal.add-c-requires
add-c-requires c =
    let sizes : OpenedFits c.args.words.now c.args.tables.now c.args.user c.rows_at-rows.result = opened-fits c.requires.changed.tables _ _ c.requires.changed.free c.requires.changed.at c.requires.changed.bytes c.rows_at-rows.ensures in
    let z = sizes in
    search rules

pub slice_bounds-add-count-2 : goal.slice_bounds-add-count-2
slice_bounds-add-count-2 c =
    let sizes : OpenedFits c.args.words.now c.args.tables.now c.args.user c.rows_at-rows.result = opened-fits c.requires.changed.tables _ _ c.requires.changed.free c.requires.changed.at c.requires.changed.bytes c.rows_at-rows.ensures in
    let z = sizes in omega (arith, z.last)

pub slice_bounds-add-start-2 : goal.slice_bounds-add-start-2
slice_bounds-add-start-2 c =
    let sizes : OpenedFits c.args.words.now c.args.tables.now c.args.user c.rows_at-rows.result = opened-fits c.requires.changed.tables _ _ c.requires.changed.free c.requires.changed.at c.requires.changed.bytes c.rows_at-rows.ensures in
    let z = sizes in omega (arith, z.last)

pub add-requires : goal.add-requires
add-requires c =
    let sizes : OpenedFits c.args.words.now c.args.tables.now c.args.user c.rows_at-rows.result = opened-fits c.requires.changed.tables _ _ c.requires.changed.free c.requires.changed.at c.requires.changed.bytes c.rows_at-rows.ensures in
    let nine : length c.row-one.result ≡ 9 = search rules in
    rest-fits sizes nine c.add_count-a.ensures c.add-b.ensures c.add-c.ensures c.requires.row_length_in_bounds

pub returns : goal.returns
returns c =
    λ T free a e.
    opened-added T _ _ free a e c.row-one.ensures c.add_count-a.ensures (rw c.rows_at-rows.ensures at c.add-b.ensures) c.add-c.ensures (rw c.rows_at-rows.ensures at c.add.ensures)
