-- Tables that are alike have the same day sheet, for every rules file.
-- Assumes nothing.
use mathlib.Core.Path.{◌≡◌, refl, ap₂}
use mathlib.Core.Bool.{Bool, true, false}
use mathlib.Core.List.{List, [], ◌∷◌}
use Prim.Native.Nat.{ℕ, suc, ◌+◌}
use lib.Dec.{leb}
use lib.ListN.{length}
use Rattle.syntax.specs.Bytes.{Bytes}
use Rattle.tables.specs.Tables.{Tables}
use Rattle.texts.specs.Pieces.{lines}
use Rattle.verdicts.specs.declared.Outcome.{Outcome}
use Rattle.verdicts.specs.declared.Verdict.{Verdict}
use Rattle.verdicts.proofs.AlikeLaws.{Twins, turn-alike}
use Rattle.sheets.specs.Line.{line_text}
use Rattle.sheets.specs.Total.{is_held, is_idle, is_broken, is_refused, one_if, how_many}
use Rattle.sheets.specs.Sheet.{judged_from, listed, rules_limit, unless_long, sheet_by, sheet_of}

module _ {b c : Bytes} {T U : Tables} (t : Twins b c T U) where
  judged-alike : (k : ℕ) (ws : List Bytes) → judged_from k U ws ≡ judged_from k T ws
  unfolding judged_from
  judged-alike k [] = refl
  judged-alike k (w ∷ ws) = ap₂ (λ (v : Verdict) (ls : List Bytes). line_text k v ∷ ls) (turn-alike t w) (judged-alike (suc k) ws)

  many-alike : (is : Outcome → Bool) (ws : List Bytes) → how_many is U ws ≡ how_many is T ws
  unfolding how_many
  many-alike is [] = refl
  many-alike is (w ∷ ws) = ap₂ (λ (v : Verdict) (n : ℕ). one_if (is v.outcome) + n) (turn-alike t w) (many-alike is ws)

  listed-alike : (ws : List Bytes) → listed U ws ≡ listed T ws
  listed-alike ws = rw (judged-alike 1 ws, many-alike is_held ws, many-alike is_idle ws, many-alike is_broken ws, many-alike is_refused ws)

  pub sheet-alike : (rules : Bytes) → sheet_of c rules ≡ sheet_of b rules
  unfolding sheet_of sheet_by
  sheet-alike rules = rw (t.reads, t.others) (unless (leb (length rules) rules_limit))
    where
      unless : (x : Bool) → unless_long x U rules ≡ unless_long x T rules
      unless true = listed-alike (lines rules)
      unless false = refl
