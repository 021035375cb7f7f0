-- Laws of the line at a place: a sheet of one line, and the lines of the rules with their total.
-- Assumes nothing.
use mathlib.Core.Path.{◌≡◌, refl, sym, ap, ◌∙◌}
use mathlib.Core.Bool.{true}
use mathlib.Core.List.{List, [], ◌∷◌, ◌++◌}
use mathlib.Core.Option.{Option, none, some}
use Prim.Native.Nat.{ℕ, zero, suc, ◌+◌, ◌-◌, ◌≤◌, ◌<◌}
use native.Mathlib.Nat.{add-zero, add-suc, suc-add}
use native.Mathlib.Omega.{arith}
use borrow.Author.Tests.{eq-eqb, ne_eqb}
use lib.Dec.{eqb}
use lib.ListN.{length, get_elem?, length-append}
use Rattle.syntax.specs.Bytes.{Bytes}
use Rattle.tables.specs.Tables.{Tables}
use Rattle.std.specs.Prelude.{Option as Maybe, is_some}
use Rattle.texts.specs.declared.Span.{Span}
use Rattle.texts.specs.Pieces.{lines}
use Rattle.texts.specs.Code.Overwritten.{Overwritten}
use Rattle.texts.specs.Code.Spans.{Spans, no_piece, piece}
use Rattle.texts.proofs.OverwrittenLaws.{none_written}
use Rattle.texts.proofs.SpansLaws.{beyond}
use Rattle.verdicts.specs.Verdict.{turn_verdict}
use Rattle.sheets.specs.Line.{line_text}
use Rattle.sheets.specs.Total.{total_of, total_text}
use Rattle.sheets.specs.Sheet.{judged_from, only, listed, sheet_line}

pub first-line : (w : Bytes) (place : ℕ) → place ≡ 1 → sheet_line (only w) place ≡ w
unfolding sheet_line
first-line w zero e = absurd (omega arith)
first-line w (suc zero) e = refl
first-line w (suc (suc k)) e = absurd (omega arith)

pub no_line : (w : Bytes) (place : ℕ) → (place ≡ 1 → ⊥) → sheet_line (only w) place ≡ []
unfolding sheet_line
no_line w zero n = refl
no_line w (suc zero) n = absurd (n refl)
no_line w (suc (suc k)) n = refl

pub nothing-made : (w : Bytes) (place : ℕ) (old : List ℕ) → (place ≡ 1 → ⊥) → Overwritten (sheet_line (only w) place) old old 0
nothing-made w place old n = rw (no_line w place n) (none_written old)

pub one-made : {w : Bytes} {place : ℕ} {old new : List ℕ} {n : ℕ} → place ≡ 1 → Overwritten w old new n → Overwritten (sheet_line (only w) place) old new n
one-made {w} {place} e r = rw (first-line w place e) r

-- The line at a place of judged rules is that of the rule there.
abbrev line_of : ℕ → Tables → Option Bytes → Option Bytes
line_of k T none = none
line_of k T (some w) = some (line_text k (turn_verdict T w))

judged-at : (i : ℕ) (T : Tables) (ws : List Bytes) (k : ℕ) → get_elem? (judged_from i T ws) k ≡ line_of (i + k) T (get_elem? ws k)
unfolding judged_from
judged-at i T [] k = refl
judged-at i T (w ∷ ws) zero = ap (λ (n : ℕ). some (line_text n (turn_verdict T w))) (sym (add-zero i))
judged-at i T (w ∷ ws) (suc k) = judged-at (suc i) T ws k ∙ ap (λ (n : ℕ). line_of n T (get_elem? ws k)) (suc-add i k ∙ sym (add-suc i k))

pub judged-length : (i : ℕ) (T : Tables) (ws : List Bytes) → length (judged_from i T ws) ≡ length ws
unfolding judged_from
judged-length i T [] = refl
judged-length i T (w ∷ ws) = ap suc (judged-length (suc i) T ws)

-- A list and one line more: the lines of the list, then that one, then none.
at_front : (ls : List Bytes) (u : Bytes) {w : Bytes} (k : ℕ) → get_elem? ls k ≡ some w → get_elem? (ls ++ only u) k ≡ some w
at_front [] u k e = let z : ◌≡◌ {A = ℕ} 0 1 = cc in absurd (omega arith)
at_front (l ∷ ls) u zero e = e
at_front (l ∷ ls) u (suc k) e = at_front ls u k e

at-end : (ls : List Bytes) (u : Bytes) → get_elem? (ls ++ only u) (length ls) ≡ some u
at-end [] u = refl
at-end (l ∷ ls) u = at-end ls u

pub within : (ls : List Bytes) {w : Bytes} (k : ℕ) → get_elem? ls k ≡ some w → k < length ls
within [] k e = let z : ◌≡◌ {A = ℕ} 0 1 = cc in absurd (omega arith)
within (l ∷ ls) zero e = omega arith
within (l ∷ ls) (suc k) e = omega (arith, within ls k e)

pub past : (ls : List Bytes) (k : ℕ) → get_elem? ls k ≡ none → length ls ≤ k
past [] k e = omega arith
past (l ∷ ls) zero e = let z : ◌≡◌ {A = ℕ} 0 1 = cc in absurd (omega arith)
past (l ∷ ls) (suc k) e = omega (arith, past ls k e)

-- The sheet of rules that are listed: the line of each rule, the total behind them, nothing further.
module _ (T : Tables) (ws : List Bytes) where
  pub listed-some : (place : ℕ) (w : Bytes) → (place ≡ 0 → ⊥) → get_elem? ws (place - 1) ≡ some w → sheet_line (listed T ws) place ≡ line_text place (turn_verdict T w)
  unfolding sheet_line
  listed-some zero w n e = absurd (n refl)
  listed-some (suc k) w n e =
      let m : suc k - 1 ≡ k = omega arith in
      let p : 1 + k ≡ suc k = omega arith in
      let j : get_elem? (judged_from 1 T ws) k ≡ some (line_text (suc k) (turn_verdict T w)) = rw (judged-at 1 T ws k, rw m at e, p) in
      rw (at_front (judged_from 1 T ws) _ k j)

  pub listed-total : (place : ℕ) → place ≡ length ws + 1 → sheet_line (listed T ws) place ≡ total_text (total_of T ws)
  unfolding sheet_line
  listed-total zero e = absurd (omega arith)
  listed-total (suc k) e =
      let m : k ≡ length (judged_from 1 T ws) = omega (arith, judged-length 1 T ws) in
      rw (m, at-end (judged_from 1 T ws) (total_text (total_of T ws)))

  pub listed-none : (place : ℕ) → length ws + 1 < place → sheet_line (listed T ws) place ≡ []
  unfolding sheet_line
  listed-none zero h = absurd (omega arith)
  listed-none (suc k) h =
      let l : length (listed T ws) ≤ k = simp length-append (omega (arith, judged-length 1 T ws)) in
      rw (beyond (listed T ws) k l)

pub no_place : (ls : List Bytes) (place : ℕ) → place ≡ 0 → sheet_line ls place ≡ []
unfolding sheet_line
no_place ls zero e = refl
no_place ls (suc k) e = absurd (omega arith)

-- A place behind the lines is the one straight behind them where it is the first, or where there is a line before it.
module _ (rules : Bytes) (place : ℕ) (h : length (lines rules) < place) where
  pub first-foot : place ≡ 1 → true ≡ eqb place (length (lines rules) + 1)
  first-foot e = sym (eq-eqb place (length (lines rules) + 1) (omega arith))

  pub next-foot : {p : Maybe Span} → Spans rules (get_elem? (lines rules) (place - 2)) p → (place ≡ 1 → ⊥) → is_some p ≡ eqb place (length (lines rules) + 1)
  next-foot (piece a b w) one = sym (eq-eqb place (length (lines rules) + 1) (omega (arith, within (lines rules) (place - 2) w, one)))
  next-foot (no_piece n) one = sym (ne_eqb place (length (lines rules) + 1) (λ e. omega (arith, past (lines rules) (place - 2) n, one)))
