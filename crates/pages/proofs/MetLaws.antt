-- What a page's answer is by what judging it meets: every page meets a refusal or is admitted.
-- Assumes nothing.
use mathlib.Core.Path.{◌≡◌, refl, ap, ◌∙◌}
use mathlib.Core.Bool.{Bool, true, false, ◌&&◌}
use mathlib.Core.List.{List, [], ◌∷◌}
use mathlib.Core.Option.{Option, none, some}
use Prim.Native.Nat.{ℕ, zero, suc, ◌+◌, ◌<◌}
use native.Mathlib.Omega.{arith}
use lib.Dec.{leb, ltb}
use lib.ListN.{length, get_elem?}
use borrow.Author.Tests.{ltb-true, leb-true, lt-ltb, le-leb}
use Rattle.answers.specs.declared.Refusal.{Refusal}
use Rattle.answers.specs.declared.Refusal.TheVariants.{Page}
use Rattle.texts.specs.Pieces.{lines}
use Rattle.tables.specs.Tables.{Tables}
use Rattle.tables.specs.Reading.{Reading, rejected, taken, tables_of}
use Rattle.syntax.specs.Bytes.{Bytes}
use Rattle.rules.specs.Accept.{refusal}
use Rattle.pages.specs.Page.{PageAnswer, refused_at, wrote, is_page, if_page, past_lines, walks_of, verdicts_on, page_bytes, accepted_page, page_of}
use Rattle.pages.specs.Met.{Sized, FirstRefused, PageAdmitted, PageMet, bad_tables, bad_size, bad_line, good}
use Rattle.pages.proofs.PageLaws.{tables-taken}

-- Lines looked at in turn: the first refused one, or none is.
data Scanned (ws : List Bytes) : Type 0 where
  found : (k : ℕ) (e : Refusal) → FirstRefused ws k e → Scanned ws
  clear : ((j : ℕ) (w : Bytes) → get_elem? ws j ≡ some w → refusal w ≡ none) → Scanned ws

scan : (ws : List Bytes) → Scanned ws
scan [] = clear (λ j w e. let z : ◌≡◌ {A = ℕ} 0 1 = cc in absurd (omega arith))
scan (u ∷ us) = go (refusal u) refl (scan us)
  where
    go : (o : Option Refusal) → refusal u ≡ o → Scanned us → Scanned (u ∷ us)
    go (some e) h s = found 0 e (record { line = u; there = refl; refused = h; before = λ j w l q. absurd (omega arith) })
    go none h (found k e f) = found (suc k) e (record { line = f.line; there = f.there; refused = f.refused; before = λ j w l q. earlier j w l q })
      where
        earlier : (j : ℕ) (w : Bytes) → j < suc k → get_elem? (u ∷ us) j ≡ some w → refusal w ≡ none
        earlier zero w l q = let s : u ≡ w = cc in rw (← s) h
        earlier (suc j) w l q = f.before j w (omega arith) q
    go none h (clear c) = clear (λ j w q. all j w q)
      where
        all : (j : ℕ) (w : Bytes) → get_elem? (u ∷ us) j ≡ some w → refusal w ≡ none
        all zero w q = let s : u ≡ w = cc in rw (← s) h
        all (suc j) w q = c j w q

-- The answer past the lines.
past-found : (i : ℕ) (ws : List Bytes) (k : ℕ) {e : Refusal} → FirstRefused ws k e → (a : PageAnswer) → past_lines i ws a ≡ refused_at e (i + k)
unfolding past_lines
past-found i [] k f a = let z : ◌≡◌ {A = ℕ} 0 1 = cc f.there in absurd (omega arith)
past-found i (u ∷ us) zero f a =
    let s : u ≡ f.line = cc f.there in
    let n : i ≡ i + zero = omega arith in
    rw (s, f.refused, ← n)
past-found i (u ∷ us) (suc k) {e} f a =
    let n : suc i + k ≡ i + suc k = omega arith in
    let rest : FirstRefused us k e = record { line = f.line; there = f.there; refused = f.refused; before = λ j w l q. f.before (suc j) w (omega arith) q } in
    rw (f.before 0 u (omega arith) refl) (past-found (suc i) us k rest a ∙ ap (refused_at e) n)

past-clear : (i : ℕ) (ws : List Bytes) → ((j : ℕ) (w : Bytes) → get_elem? ws j ≡ some w → refusal w ≡ none) → (a : PageAnswer) → past_lines i ws a ≡ a
unfolding past_lines
past-clear i [] h a = refl
past-clear i (u ∷ us) h a = rw (h 0 u refl) (past-clear (suc i) us (λ j w q. h (suc j) w q) a)

-- A page has 1 to 32 lines exactly where the test holds.
size-test : (ws : List Bytes) → Sized ws → is_page ws ≡ true
unfolding is_page
size-test ws s = rw (lt-ltb 0 (length ws) s.some_line, le-leb (length ws) 32 s.few)

test-size : (ws : List Bytes) → is_page ws ≡ true → Sized ws
unfolding is_page
test-size ws e = go (ltb 0 (length ws)) (leb (length ws) 32) refl refl e
  where
    go : (a b : Bool) → ltb 0 (length ws) ≡ a → leb (length ws) 32 ≡ b → (a && b) ≡ true → Sized ws
    go true true p q e = record { some_line = ltb-true 0 (length ws) p; few = leb-true (length ws) 32 q }
    go true false p q e = let z : ◌≡◌ {A = ℕ} 0 1 = cc in absurd (omega arith)
    go false b p q e = let z : ◌≡◌ {A = ℕ} 0 1 = cc in absurd (omega arith)

module _ (tables page : Bytes) {T : Tables} (t : tables_of tables ≡ taken T) where
  pub size-refused : (Sized (lines page) → ⊥) → page_of tables page ≡ refused_at Page 0
  unfolding accepted_page
  size-refused h = tables-taken tables page t ∙ go (is_page (lines page)) refl
    where
      go : (b : Bool) → is_page (lines page) ≡ b → if_page (is_page (lines page)) (past_lines 1 (lines page) (wrote (page_bytes (walks_of (lines page)) (verdicts_on T (lines page))))) ≡ refused_at Page 0
      go true e = absurd (h (test-size (lines page) e))
      go false e = rw e

  module _ (s : Sized (lines page)) where
    sized-page : page_of tables page ≡ past_lines 1 (lines page) (wrote (page_bytes (walks_of (lines page)) (verdicts_on T (lines page))))
    unfolding accepted_page
    sized-page = tables-taken tables page t ∙ rw (size-test (lines page) s)

    pub line-refused-at : {k : ℕ} {e : Refusal} → FirstRefused (lines page) k e → page_of tables page ≡ refused_at e (suc k)
    line-refused-at {k} {e} f =
        let n : 1 + k ≡ suc k = omega arith in
        sized-page ∙ past-found 1 (lines page) k f _ ∙ ap (refused_at e) n

pub page-admitted : {tables page : Bytes} {T : Tables} → PageAdmitted tables page T → page_of tables page ≡ wrote (page_bytes (walks_of (lines page)) (verdicts_on T (lines page)))
page-admitted {tables} {page} a = sized-page tables page a.reads a.sized ∙ past-clear 1 (lines page) a.accepts _

-- Every page meets one of these.
pub page-met : (tables page : Bytes) → PageMet tables page
page-met tables page = at-tables (tables_of tables) refl
  where
    at-lines : (T : Tables) → tables_of tables ≡ taken T → Sized (lines page) → Scanned (lines page) → PageMet tables page
    at-lines T t s (found k e f) = bad_line T k e t s f
    at-lines T t s (clear c) = good T (record { reads = t; sized = s; accepts = c })

    at_size : (T : Tables) → tables_of tables ≡ taken T → (b : Bool) → is_page (lines page) ≡ b → PageMet tables page
    at_size T t true e = at-lines T t (test-size (lines page) e) (scan (lines page))
    at_size T t false e = bad_size T t (λ s. let z : ◌≡◌ {A = ℕ} 0 1 = cc (size-test (lines page) s, e) in omega arith)

    at-tables : (q : Reading) → tables_of tables ≡ q → PageMet tables page
    at-tables (rejected e) t = bad_tables e t
    at-tables (taken T) t = at_size T t (is_page (lines page)) refl
