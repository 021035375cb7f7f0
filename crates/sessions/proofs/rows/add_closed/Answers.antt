-- `sessions::rows::add_closed`: the bytes up to the row, and those behind it.
-- Assumes nothing.
use native.Mathlib.Omega.{arith}
use Rattle.sessions.proofs.RowLaws.{ClosedFits, closed-fits, closed-added}
use borrow.Author.Rules.{rules}
use Rattle.sessions.proofs.rows.add_closed.Goals as goal

pub overflow_add-row : goal.overflow_add-row
overflow_add-row c =
    let sizes : ClosedFits c.args.words.now c.args.tables.now c.args.k c.rows_at-rows.result = closed-fits c.requires.changed.tables _ c.requires.changed.free c.requires.changed.at c.requires.changed.bytes c.rows_at-rows.ensures in
    let z = sizes in omega (arith, z.few, z.low)

pub overflow_add-rest : goal.overflow_add-rest
overflow_add-rest c =
    let sizes : ClosedFits c.args.words.now c.args.tables.now c.args.k c.rows_at-rows.result = closed-fits c.requires.changed.tables _ c.requires.changed.free c.requires.changed.at c.requires.changed.bytes c.rows_at-rows.ensures in
    let z = sizes in omega (arith, z.few, z.low)

pub add_count-a-requires : goal.add_count-a-requires
add_count-a-requires c =
    let sizes : ClosedFits c.args.words.now c.args.tables.now c.args.k c.rows_at-rows.result = closed-fits c.requires.changed.tables _ c.requires.changed.free c.requires.changed.at c.requires.changed.bytes c.rows_at-rows.ensures in
    let z = sizes in
    record { loaded = record { tables = _; holds = c.requires.changed.at }; words_in_bounds = (omega (arith, z.at, z.last), search rules) }

pub slice_bounds-add-end : goal.slice_bounds-add-end
slice_bounds-add-end c =
    let sizes : ClosedFits c.args.words.now c.args.tables.now c.args.k c.rows_at-rows.result = closed-fits c.requires.changed.tables _ c.requires.changed.free c.requires.changed.at c.requires.changed.bytes c.rows_at-rows.ensures in
    let z = sizes in omega (arith, z.last)

pub add-b-requires : goal.add-b-requires
add-b-requires c =
    let sizes : ClosedFits c.args.words.now c.args.tables.now c.args.k c.rows_at-rows.result = closed-fits c.requires.changed.tables _ c.requires.changed.free c.requires.changed.at c.requires.changed.bytes c.rows_at-rows.ensures in
    let z = sizes in
    search rules

pub slice_bounds-add-count-2 : goal.slice_bounds-add-count-2
slice_bounds-add-count-2 c =
    let sizes : ClosedFits c.args.words.now c.args.tables.now c.args.k c.rows_at-rows.result = closed-fits c.requires.changed.tables _ c.requires.changed.free c.requires.changed.at c.requires.changed.bytes c.rows_at-rows.ensures in
    let z = sizes in omega (arith, z.last)

pub slice_bounds-add-start-2 : goal.slice_bounds-add-start-2
slice_bounds-add-start-2 c =
    let sizes : ClosedFits c.args.words.now c.args.tables.now c.args.k c.rows_at-rows.result = closed-fits c.requires.changed.tables _ c.requires.changed.free c.requires.changed.at c.requires.changed.bytes c.rows_at-rows.ensures in
    let z = sizes in omega (arith, z.last)

pub add-requires : goal.add-requires
add-requires c =
    let sizes : ClosedFits c.args.words.now c.args.tables.now c.args.k c.rows_at-rows.result = closed-fits c.requires.changed.tables _ c.requires.changed.free c.requires.changed.at c.requires.changed.bytes c.rows_at-rows.ensures in
    let z = sizes in
    search rules

pub returns : goal.returns
returns c =
    λ T free a e. closed-added T _ free a e c.add_count-a.ensures (rw c.rows_at-rows.ensures at c.add-b.ensures) (rw c.rows_at-rows.ensures at c.add.ensures)
