-- From what the checks on a rule, the measure and the product say to the forecast.
-- Assumes nothing.
use mathlib.Core.Path.{◌≡◌, ◌∙◌}
use mathlib.Core.List.{List, [], append-nil}
use Prim.Native.Nat.{ℕ}
use native.Mathlib.Omega.{arith}
use lib.ListN.{length, take, drop_of_length-le}
use Rattle.answers.specs.Answer.{wrote, lent}
use Rattle.answers.specs.Written.{Answers}
use Rattle.answers.specs.declared.Refusal.{Refusal}
use Rattle.answers.specs.Written.{Written}
use Rattle.std.specs.declared.result.Result.TheVariants.{Ok, Err}
use Rattle.answers.proofs.AnswerLaws.{kept-refused}
use Rattle.tables.specs.Bytes.{lowest_first}
use Rattle.syntax.specs.Bytes.{Bytes}
use Rattle.syntax.specs.Rule.{rule_vars, formula}
use Rattle.std.specs.declared.result.Result.{Result}
use Rattle.rules.specs.declared.Tree.{Tree}
use Rattle.rules.specs.Code.Parsed.{RuleAt, Finds}
use Rattle.rules.specs.Code.Lengths.{FormulaIn}
use Rattle.rules.proofs.ParseLaws.{as-rejected, as-found, formula-exact}
use Rattle.values.specs.Ceiling.{ceiling_of}
use Rattle.values.specs.Code.Multiplied.{CeilingBy}
use Rattle.texts.specs.Code.Overwritten.{Behind}
use Rattle.texts.proofs.OverwrittenLaws.{none_written}
use Rattle.verdicts.specs.Both.{of_both}
use Rattle.forecasts.specs.Forecast.{forecast_size, two_words}
use Rattle.forecasts.specs.Code.Telling.{ForecastsOn}

-- 11 to 15.
pub told-rejected : {ts s ns ks vs : List ℕ} {f : Result Tree Refusal} {r : Refusal} (old : Bytes) → Finds s ns ks vs f → f ≡ Err r → ForecastsOn ts s old old (Err r)
unfolding of_both
told-rejected {r = r} old p e T t = rw (as-rejected p e) (kept-refused (length old) old r)

-- The two words are those of the rule that was found.
module _ {s ns ks vs : List ℕ} {f : Result Tree Refusal} {t : Tree} (p : Finds s ns ks vs f) (e : f ≡ Ok t) where
  abbrev at : RuleAt s ns t.n t.root ks vs t.count
  at = (as-found p e).1

  pub told-found : {ts : List ℕ} {size most : ℕ} → FormulaIn ns t.n (take t.count vs) t.root size → CeilingBy ts ks (take t.count vs) most → {old new : Bytes} {w : Written}
      → Answers (lent (length old) (wrote (two_words size most))) old new w → ForecastsOn ts s old new w
  unfolding of_both
  told-found {ts} {size} {most} x y {old} a T H =
      let long : size ≡ length (formula at.tree) = formula-exact (as-found p e).0 at x in
      let high : most ≡ ceiling_of T (rule_vars [] at.tree)
      = y T ns t.n (rule_vars [] at.tree) (record { fits = H.passes.sound.fits; words = H.words; kinds = at.kinds; variables = at.knows }) in
      rw ((as-found p e).0, at.reads, ← long, ← high) a

-- The two words one behind the other are all there is.
pub two-written : {zeros mid new : List ℕ} (size most : ℕ) → length zeros ≡ forecast_size → Behind 0 (lowest_first 8 size) zeros mid → Behind 8 (lowest_first 8 most) mid new
    → new ≡ two_words size most
unfolding lowest_first
two-written {zeros} size most e p q =
    (q (lowest_first 8 size) zeros (p [] zeros (none_written zeros))).bytes
    ∙ rw (drop_of_length-le zeros {i = 16} (omega arith), append-nil (two_words size most))
