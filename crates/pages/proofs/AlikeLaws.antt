-- Tables that are alike have the same answer for every page.
-- Assumes nothing.
use mathlib.Core.Path.{◌≡◌, refl, ap, ap₂}
use mathlib.Core.List.{List, [], ◌∷◌}
use Rattle.tables.specs.Tables.{Tables}
use Rattle.texts.specs.Pieces.{lines}
use Rattle.syntax.specs.Bytes.{Bytes}
use Rattle.verdicts.specs.declared.Verdict.{Verdict}
use Rattle.verdicts.proofs.AlikeLaws.{Twins, turn-alike}
use Rattle.pages.specs.Page.{wrote, is_page, if_page, past_lines, walks_of, verdicts_on, page_bytes, accepted_page, page_by, page_of}

module _ {b c : Bytes} {T U : Tables} (t : Twins b c T U) where
  lines-alike : (ws : List Bytes) → verdicts_on U ws ≡ verdicts_on T ws
  unfolding verdicts_on
  lines-alike [] = refl
  lines-alike (w ∷ ws) = ap₂ (λ (v : Verdict) (vs : List Verdict). v ∷ vs) (turn-alike t w) (lines-alike ws)

  pub page-alike : (page : Bytes) → page_of c page ≡ page_of b page
  unfolding page_of page_by accepted_page
  page-alike page =
      let ws = lines page in
      rw (t.reads, t.others)
      (ap (λ (vs : List Verdict). if_page (is_page ws) (past_lines 1 ws (wrote (page_bytes (walks_of ws) vs)))) (lines-alike ws))
