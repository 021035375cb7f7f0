-- Laws of a page's answer: which refusal comes first, and what is answered where none does.
-- Assumes nothing.
use mathlib.Core.Path.{◌≡◌, refl, sym, ap, ◌∙◌}
use mathlib.Core.Bool.{Bool, true, false}
use mathlib.Core.List.{List, [], ◌∷◌}
use mathlib.Core.Option.{none}
use Prim.Native.Nat.{ℕ, suc, ◌≤◌, ◌<◌}
use native.Mathlib.Omega.{arith}
use lib.Dec.{leb}
use lib.ListN.{length, get_or}
use borrow.Author.Tests.{lt-ltb, le-ltb, le-leb, lt-leb}
use Rattle.answers.specs.Answer.{wrote, if_room, lent, output_after}
use Rattle.answers.specs.Written.{Answers}
use Rattle.answers.specs.declared.Refusal.{Refusal}
use Rattle.answers.specs.declared.Refusal.TheVariants.{Page, ShortSheet}
use Rattle.answers.specs.Written.{Written}
use Rattle.answers.proofs.AnswerLaws.{written_of, answered-case}
use Rattle.tables.specs.Tables.{Tables}
use Rattle.tables.specs.Reading.{rejected, taken, tables_of}
use Rattle.texts.specs.Pieces.{lines}
use Rattle.syntax.specs.Bytes.{Bytes}
use Rattle.rules.specs.Accept.{refusal}
use Rattle.pages.specs.Page.{PageAnswer, refused_at, is_page, past_lines, walks_of, verdicts_on, page_bytes, accepted_page, page_by, page_of}
use Rattle.pages.specs.Page.{if_page_room, page_lent, page_after, of_no_line, PageAnswers}
use Rattle.pages.specs.Page.{wrote as wrote_page}
use Rattle.pages.specs.Code.Parts.{Counted}
use Rattle.std.specs.declared.result.Result.TheVariants.{Ok, Err}
use Rattle.pages.specs.declared.Refused.{Refused}

-- Bytes that are lent are the page's answer, with position 0 where they do not fit.
module _ (b : Bytes) {old new : Bytes} {w : Written} (a : Answers (lent (length old) (wrote b)) old new w) where
  pub placed-wrote : {n : ℕ} → w ≡ Ok n → PageAnswers (page_lent (length old) (wrote_page b)) old new (Ok n)
  unfolding lent output_after page_lent page_after
  placed-wrote {n} e = go (leb (length b) (length old)) (answered-case a) a.output
    where
      go : (x : Bool) → w ≡ written_of (if_room x b) → new ≡ output_after (if_room x b) old → PageAnswers (if_page_room x b) old new (Ok n)
      go true p q = let z : n ≡ length b = cc in record { says = ap Ok z; output = q }
      go false p q = let z : ◌≡◌ {A = ℕ} 0 1 = cc in absurd (omega arith)

  pub placed-refused : {d : Refusal} → w ≡ Err d → PageAnswers (page_lent (length old) (wrote_page b)) old new (Err (of_no_line d))
  unfolding lent output_after page_lent page_after
  placed-refused {d} e = go (leb (length b) (length old)) (answered-case a) a.output
    where
      go : (x : Bool) → w ≡ written_of (if_room x b) → new ≡ output_after (if_room x b) old → PageAnswers (if_page_room x b) old new (Err (of_no_line d))
      go true p q = let z : ◌≡◌ {A = ℕ} 0 1 = cc in absurd (omega arith)
      go false p q = let z : d ≡ ShortSheet = cc in record { says = ap (λ (r : Refusal). Err (of_no_line r)) z; output = q }

-- A refusal is answered, and keeps the lent bytes.
pub refusal-answers : {a : PageAnswer} {r : Refused} (n : ℕ) (old : Bytes) → a ≡ refused_at r.refusal r.position → PageAnswers (page_lent n a) old old (Err r)
unfolding page_lent page_after
refusal-answers n old q = rw q (record { says = refl; output = refl })

-- Accepted lines let the answer pass.
all_past : (k : ℕ) (ws : List Bytes) → ((j : ℕ) → j < length ws → refusal (get_or ws j []) ≡ none) → (a : PageAnswer) → past_lines k ws a ≡ a
unfolding past_lines
all_past k [] h a = refl
all_past k (w ∷ ws) h a = rw (h 0 (omega arith)) (all_past (suc k) ws (λ j l. h (suc j) (omega arith)) a)

-- 19 for another number of lines;
module _ (T : Tables) (ws : List Bytes) where
  no-page : is_page ws ≡ false → accepted_page T ws ≡ refused_at Page 0
  unfolding accepted_page
  no-page e = rw e

  pub none-refused : {n : ℕ} → Counted (length ws) n → n ≡ 0 → accepted_page T ws ≡ refused_at Page 0
  unfolding is_page
  none-refused c z =
      let empty : length ws ≡ 0 = sym (c.few (omega arith)) ∙ z in
      no-page (rw (le-ltb 0 (length ws) (omega arith)))

  pub many-refused : {n : ℕ} → Counted (length ws) n → 32 < n → accepted_page T ws ≡ refused_at Page 0
  unfolding is_page
  many-refused c h =
      let above : 32 < length ws = c.many h in
      no-page (rw (lt-ltb 0 (length ws) (omega arith), lt-leb (length ws) 32 above))

  -- else the lines are looked at,
  module _ {n : ℕ} (c : Counted (length ws) n) (some : n ≡ 0 → ⊥) (few : n ≤ 32) where
    page-lines : accepted_page T ws ≡ past_lines 1 ws (wrote_page (page_bytes (walks_of ws) (verdicts_on T ws)))
    unfolding accepted_page is_page
    page-lines =
        let is : n ≡ length ws = c.few few in
        rw (lt-ltb 0 (length ws) (omega (arith, some)), le-leb (length ws) 32 (omega arith))

    pub line-refused-page : {e : Refusal} {p : ℕ} → ((a : PageAnswer) → past_lines 1 ws a ≡ refused_at e p) → accepted_page T ws ≡ refused_at e p
    line-refused-page h = page-lines ∙ h _

    pub accepted-page : {walks : ℕ} → ((j : ℕ) → j < length ws → refusal (get_or ws j []) ≡ none) → walks ≡ walks_of ws
        → accepted_page T ws ≡ wrote_page (page_bytes walks (verdicts_on T ws))
    accepted-page h e = page-lines ∙ all_past 1 ws h _ ∙ rw e

-- The tables come first.
pub tables-refused : (tables page : Bytes) {e : Refusal} → tables_of tables ≡ rejected e → page_of tables page ≡ refused_at e 0
unfolding page_of page_by
tables-refused tables page h = rw h

pub tables-taken : (tables page : Bytes) {T : Tables} → tables_of tables ≡ taken T → page_of tables page ≡ accepted_page T (lines page)
unfolding page_of page_by
tables-taken tables page h = rw h
