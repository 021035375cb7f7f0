-- `tables::rows::word` reads a word of eight bytes, lowest first.
-- Assumes nothing.
use Rattle.std.proofs.Common.{◌≡◌, ◌∙◌, ◌+◌, ◌-◌, length, take, drop, arith, length-drop}
use Rattle.std.proofs.lemmas.Result.{MatchResult-at_ok}
use lib.Seq.{length-take-le}
use Rattle.tables.proofs.ReadLaws.{word_lem}
use Rattle.tables.proofs.rows.word.Goals as goal

pub returns : goal.returns
returns c =
    let eight = MatchResult-at_ok _ _ _ c.unwrap-eight.ensures c.try_into.ensures.1 in
    let n : c.args.at + 8 - c.args.at ≡ 8 = omega arith in
    let long : length (take 8 (drop c.args.at c.args.bytes.now)) ≡ 8 = length-take-le 8 _ (rw length-drop (omega (arith, c.requires))) in
    c.from_le_bytes.ensures ∙ rw (eight.same, n) (word_lem _ long)
