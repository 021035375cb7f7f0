-- What a forecast says: its two words, and that no rule has more full choices than the ceiling.
-- Assumes nothing.
use mathlib.Core.Path.{◌≡◌, ap, ◌∙◌}
use mathlib.Core.List.{[], ◌++◌, append_assoc}
use Prim.Native.Nat.{ℕ, ◌^◌, ◌≤◌}
use native.Mathlib.Omega.{arith}
use lib.Dec.{lit≤}
use lib.ListN.{length, take, drop, length-append}
use lib.Seq.{take_at, drop_at}
use Rattle.answers.specs.Answer.{wrote}
use Rattle.tables.specs.Tables.{Tables}
use Rattle.tables.specs.Accepted.{Fits}
use Rattle.tables.specs.Bytes.{lowest_first, word_from}
use Rattle.tables.proofs.BytesLaws.{lowest-length, word-lowest}
use Rattle.tables.proofs.FitsLaws.{accepted-sound}
use Rattle.syntax.specs.Bytes.{Bytes}
use Rattle.syntax.specs.Rule.{Rule, rule_vars, formula}
use Rattle.rules.proofs.AcceptLaws.{accepted-gives, accepted-tree, tree-few, formula-within}
use Rattle.walks.specs.Choices.{nothing_chosen, each}
use Rattle.walks.proofs.CeilingLaws.{full-ceiling}
use Rattle.values.specs.Sets.{items_of, in_set}
use Rattle.values.specs.Ceiling.{ceiling_of}
use Rattle.values.proofs.CeilingLaws.{ceiling-items, ceiling-fits}
use Rattle.verdicts.specs.Verdict.{full_count}
use Rattle.verdicts.specs.Both.{Given}
use Rattle.verdicts.proofs.BothLaws.{given-answers}
use Rattle.forecasts.specs.Forecast.{forecast_size, two_words, forecast_bytes, forecast_of}

-- "Full is never above the ceiling."
pub full-below : (T : Tables) → Fits T → (ρ : Rule) → full_count T ρ ≤ ceiling_of T (rule_vars [] ρ)
unfolding full_count
full-below T f ρ =
    rw (ceiling-items T f (rule_vars [] ρ))
    (full-ceiling (items_of T (rule_vars [] ρ)) (in_set T (rule_vars [] ρ)) each (λ c. lit≤ tt) (length (rule_vars [] ρ)) nothing_chosen)

-- The two words, with any bytes behind them.
module _ (size most : ℕ) (rest : Bytes) where
  first_word : take 8 (two_words size most ++ rest) ≡ lowest_first 8 size
  first_word = rw append_assoc (take_at (lowest_first 8 size) (lowest_first 8 most ++ rest) 8 (lowest-length 8 size))

  second_word : take 8 (drop 8 (two_words size most ++ rest)) ≡ lowest_first 8 most
  second_word =
      rw (append_assoc, drop_at (lowest_first 8 size) (lowest_first 8 most ++ rest) 8 (lowest-length 8 size))
      (take_at (lowest_first 8 most) rest 8 (lowest-length 8 most))

module _ {tables rule : Bytes} {T : Tables} {ρ : Rule} (g : Given tables rule T ρ) where
  pub given-wrote : forecast_of tables rule ≡ wrote (forecast_bytes T ρ)
  unfolding forecast_of
  given-wrote = given-answers tables rule (λ T ρ. wrote (forecast_bytes T ρ)) g

  pub given-length : length (forecast_bytes T ρ) ≡ forecast_size
  given-length = rw (length-append, lowest-length 8 (length (formula ρ)), lowest-length 8 (ceiling_of T (rule_vars [] ρ)))

  pub given-fits : Fits T
  given-fits = (accepted-sound tables g.reads).fits

  -- It is at most 64 ^ 8, so that it fits a word.
  pub given-ceiling : ceiling_of T (rule_vars [] ρ) ≤ 64 ^ 8
  given-ceiling = ceiling-fits T given-fits (rule_vars [] ρ) (tree-few ρ (accepted-tree rule ρ g.accepts g.tree))

  -- Each word reads as it was written.
  pub told-length : (rest : Bytes) → word_from (take 8 (forecast_bytes T ρ ++ rest)) ≡ length (formula ρ)
  told-length rest =
      let a = accepted-gives rule g.accepts in
      let same : a.rule ≡ ρ = cc (a.reads, g.tree) in
      let short : length (formula ρ) ≤ 4096 = rw same at (formula-within a) in
      ap word_from (first_word (length (formula ρ)) (ceiling_of T (rule_vars [] ρ)) rest) ∙ word-lowest 8 (length (formula ρ)) (omega arith)

  pub told-ceiling : (rest : Bytes) → word_from (take 8 (drop 8 (forecast_bytes T ρ ++ rest))) ≡ ceiling_of T (rule_vars [] ρ)
  told-ceiling rest =
      ap word_from (second_word (length (formula ρ)) (ceiling_of T (rule_vars [] ρ)) rest)
      ∙ word-lowest 8 (ceiling_of T (rule_vars [] ρ)) (omega (arith, given-ceiling))
