-- No line of a sheet has more than 96 bytes: a place of 5 digits, ` broken `, two counts of 15, a share of 3 and eight choices of 6 bytes each.
-- Assumes nothing.
use mathlib.Core.Path.{◌≡◌, refl, ap, ◌∙◌}
use mathlib.Core.Bool.{Bool, true, false, cond}
use mathlib.Core.List.{List, [], ◌∷◌, ◌++◌}
use mathlib.Core.Logic.{◌⊎◌, inl, inr}
use mathlib.Core.Option.{Option, none, some}
use Prim.Native.Nat.{ℕ, zero, suc, ◌+◌, ◌*◌, ◌/◌, ◌≤◌, ◌<◌}
use native.Mathlib.Decide.{dec_lt}
use native.Mathlib.Omega.{arith}
use lib.Dec.{eqb, leb, ltb}
use lib.ListN.{length, get_or, get_elem?, replicate, length-append}
use borrow.Author.Tests.{ltb-false, leb-true, eqb-false}
use Rattle.answers.specs.Refusal.{number_of}
use Rattle.answers.specs.declared.Refusal.{Refusal}
use Rattle.answers.proofs.AnswerLaws.{number-few}
use Rattle.syntax.specs.Bytes.{Bytes, ascii}
use Rattle.syntax.specs.Rule.{Rule, rule_vars}
use Rattle.tables.specs.Tables.{Tables}
use Rattle.tables.specs.Accepted.{Every}
use Rattle.tables.specs.Reading.{Reading, rejected, taken, tables_of}
use Rattle.texts.specs.Decimal.{last_digit, digits_to, decimal_of}
use Rattle.texts.specs.Pieces.{on_first, cut, split, lines}
use Rattle.walks.specs.Choices.{nothing_chosen}
use Rattle.walks.specs.Order.{variables_of}
use Rattle.walks.specs.Walk.{choice_bytes}
use Rattle.walks.specs.Share.{is_nearest, nearest_to, share_of}
use Rattle.walks.proofs.OnceLaws.{count-variables}
use Rattle.verdicts.specs.Verdict.{full_count, breaking_count, first_breaking, verdict_along, accepted_verdict, turn_order, turn_verdict}
use Rattle.verdicts.specs.Report.{FirstOf}
use Rattle.verdicts.specs.Both.{Given, Met, bad_tables, bad_rule, good}
use Rattle.verdicts.specs.declared.Outcome.{Outcome}
use Rattle.verdicts.specs.declared.Outcome.TheVariants.{Refused, Held, Idle, Broken}
use Rattle.verdicts.specs.declared.Verdict.{Verdict}
use Rattle.verdicts.proofs.BothLaws.{met}
use Rattle.verdicts.proofs.GivenLaws.{given-admitted}
use Rattle.verdicts.proofs.JudgedLaws.{few-variables, in-sorts, first-length}
use Rattle.verdicts.proofs.TurnLaws.{judged-in-turn}
use Rattle.verdicts.proofs.VerdictLaws.{breaking-le-full, full-fits, first-least}
use Rattle.sheets.specs.Line.{labelled, unless, choices_from, counts_of, shared_of, says_of, line_text}
use Rattle.sheets.specs.Total.{is_held, is_idle, is_broken, is_refused, how_many, one_if, total_of, total_text}
use Rattle.sheets.specs.Sheet.{judged_from, only, rules_limit, unless_long, sheet_by, sheet_of, text_or, sheet_line, longest_line}

-- ---- digits

-- 10 to the power of k.
abbrev tens : ℕ → ℕ
tens zero = 1
tens (suc k) = 10 * tens k

-- A number below 10 to the power of k has at most k digits, and one at least.
digits-below : (k n : ℕ) → n < tens (suc k) → (j : ℕ) → length (digits_to j n) ≤ suc k
unfolding digits_to
digits-below k n l zero = omega arith
digits-below k n l (suc j) = go k l (ltb n 10) refl (λ i m. digits-below i (n / 10) m j)
  where
    go : (k : ℕ) → n < tens (suc k) → (b : Bool) → ltb n 10 ≡ b → ((i : ℕ) → n / 10 < tens (suc i) → length (digits_to j (n / 10)) ≤ suc i)
        → length (last_digit b n (digits_to j (n / 10))) ≤ suc k
    go k l true e ih = omega arith
    go zero l false e ih = absurd (omega (arith, ltb-false n 10 e))
    go (suc k) l false e ih = simp length-append (omega (arith, ih k (omega arith)))

-- ---- the numbers of a verdict

-- An item that is chosen, or 255 where none is.
abbrev Chosen : ℕ → Type 0
Chosen x = (x ≡ 255) ⊎ (x < 100)

record Small (v : Verdict) : Type 0 where
  full : v.full < tens 15
  breaking : v.breaking < tens 15
  share : v.share < tens 3
  long : length v.first ≡ 8
  first : Every Chosen v.first

nearest-few : (k full breaking : ℕ) → nearest_to k full breaking ≤ k
unfolding nearest_to
nearest-few zero full breaking = omega arith
nearest-few (suc k) full breaking = go (is_nearest full breaking (suc k)) (nearest-few k full breaking)
  where
    go : (b : Bool) → nearest_to k full breaking ≤ k → cond b (suc k) (nearest_to k full breaking) ≤ suc k
    go true l = omega arith
    go false l = omega arith

share-few : (full breaking : ℕ) → share_of full breaking < tens 3
unfolding share_of
share-few full breaking = go (eqb full 0)
  where
    go : (b : Bool) → cond b 255 (nearest_to 100 full breaking) < tens 3
    go true = omega arith
    go false = omega (arith, nearest-few 100 full breaking)

-- Whoever is of each place is of each of the list.
every-at : (P : ℕ → Type 0) (xs : List ℕ) → ((i : ℕ) → i < length xs → P (get_or xs i 0)) → Every P xs
every-at P [] h = tt
every-at P (x ∷ xs) h = (h 0 (omega arith), every-at P xs (λ i l. h (suc i) (omega arith)))

none-at : (n u : ℕ) → u < n → get_or (replicate {A = ℕ} n 255) u 0 ≡ 255
none-at zero u l = absurd (omega arith)
none-at (suc n) zero l = refl
none-at (suc n) (suc u) l = none-at n u (omega arith)

none-chosen : Every Chosen nothing_chosen
none-chosen = every-at Chosen nothing_chosen (λ i l. inl (none-at 8 i l))

module _ {b rule : Bytes} {T : Tables} {ρ : Rule} (g : Given b rule T ρ) where
  abbrev order : Bytes
  order = turn_order (some ρ)

  -- A variable of the rule has an item below 64, and the others have none.
  items-chosen : (d : Bytes) → FirstOf T ρ order d → Every Chosen d
  items-chosen d x = every-at Chosen d (λ u l. at u (omega (arith, x.choice.long)) (dec_lt u (length (rule_vars [] ρ))))
    where
      at : (u : ℕ) → u < 8 → Dec (u < length (rule_vars [] ρ)) → Chosen (get_or d u 0)
      at u l (yes m) =
          let sorts = in-sorts (given-admitted g) in
          inr (omega (arith, sorts.few u (get_or d u 0) (sorts.full d x.full u m)))
      at u l (no m) = inl (x.choice.rest u ((count-variables (length (rule_vars [] ρ)) u).1 (omega arith)) ∙ none-at 8 u l)

  first-chosen : (o : Option (List ℕ)) → first_breaking T ρ (variables_of order) ≡ o → Every Chosen (choice_bytes o)
  first-chosen none q = none-chosen
  first-chosen (some d) q =
      let a = given-admitted g in
      items-chosen d (first-least T ρ (few-variables a) (in-sorts a) (variables_of order) d a.ordered q)

  given-small : Small (turn_verdict T rule)
  unfolding verdict_along
  given-small =
      let a = given-admitted g in
      let most = full-fits T ρ (few-variables a) (in-sorts a) in
      let is : turn_verdict T rule ≡ verdict_along T ρ (variables_of order) =
      judged-in-turn T rule g.accepts ρ g.tree ∙ ap (λ (o : Option Rule). verdict_along T ρ (variables_of (turn_order o))) g.tree in
      rw is (
      record {
        full = omega (arith, most);
        breaking = omega (arith, most, breaking-le-full T ρ (few-variables a) (in-sorts a));
        share = share-few (full_count T ρ) (breaking_count T ρ);
        long = first-length a;
        first = first-chosen (first_breaking T ρ (variables_of order)) refl;
      }
      )

turn_small : (b rule : Bytes) {T : Tables} → tables_of b ≡ taken T → Small (turn_verdict T rule)
unfolding turn_verdict accepted_verdict
turn_small b rule {T} t = go (met b rule)
  where
    go : Met b rule → Small (turn_verdict T rule)
    go (bad_tables e q) = let z : ◌≡◌ {A = ℕ} 0 1 = cc (q, t) in absurd (omega arith)
    go (bad_rule S e q r) = rw r (record { full = omega arith; breaking = omega arith; share = omega arith; long = refl; first = none-chosen })
    go (good S ρ g) = let z : S ≡ T = cc (g.reads, t) in rw z at (given-small g)

-- ---- the text of a line

choices-short : (i : ℕ) (xs : List ℕ) → i + length xs ≤ 9 → Every Chosen xs → length (choices_from i xs) ≤ 6 * length xs
unfolding choices_from
choices-short i [] l e = omega arith
choices-short i (x ∷ xs) l e = go (eqb x 255) refl (choices-short (suc i) xs (omega arith) e.1) e.0
  where
    go : (b : Bool) → eqb x 255 ≡ b → length (choices_from (suc i) xs) ≤ 6 * length xs → Chosen x
        → length (unless b ((labelled (ascii " v") i ++ labelled (ascii "=") x) ++ choices_from (suc i) xs)) ≤ 6 * suc (length xs)
    go true q h c = omega arith
    go false q h (inl c) = absurd (eqb-false x 255 q c)
    go false q h (inr c) = simp length-append (omega (arith, h, digits-below 0 i (omega arith) 20, digits-below 1 x c 20))

module _ (v : Verdict) (s : Small v) where
  counts-short : (w : Bytes) → length (counts_of w v) ≤ length w + 31
  unfolding counts_of
  counts-short w = simp length-append (omega (arith, digits-below 14 v.full s.full 20, digits-below 14 v.breaking s.breaking 20))

  shared-short : (w : Bytes) → length (shared_of w v) ≤ length w + 35
  unfolding shared_of
  shared-short w = simp length-append (omega (arith, counts-short w, digits-below 2 v.share s.share 20))

  says-short : (o : Outcome) → length (says_of o v) ≤ 91
  unfolding says_of
  says-short (Refused e) = simp length-append (omega (arith, digits-below 1 (number_of e) (omega (arith, number-few e)) 20))
  says-short Held = omega (arith, shared-short (ascii " held "))
  says-short Idle = simp length-append (omega (arith, counts-short (ascii " idle ")))
  says-short Broken =
      simp length-append (omega (arith, shared-short (ascii " broken "), choices-short 1 v.first (omega (arith, s.long)) s.first, s.long))

  line-short : (k : ℕ) → k ≤ rules_limit → length (line_text k v) ≤ longest_line
  line-short k l = simp length-append (omega (arith, digits-below 4 k (omega arith) 20, says-short v.outcome))

-- ---- the total

how-few : (is : Outcome → Bool) (T : Tables) (ws : List Bytes) → how_many is T ws ≤ length ws
unfolding how_many
how-few is T [] = omega arith
how-few is T (w ∷ ws) = go (is (turn_verdict T w).outcome) (how-few is T ws)
  where
    go : (b : Bool) → how_many is T ws ≤ length ws → one_if b + how_many is T ws ≤ suc (length ws)
    go true l = omega arith
    go false l = omega arith

total-short : (T : Tables) (ws : List Bytes) → length ws ≤ rules_limit → length (total_text (total_of T ws)) ≤ longest_line
unfolding total_text
total-short T ws l =
    let few : (is : Outcome → Bool) → length (decimal_of (how_many is T ws)) ≤ 5 = λ is. digits-below 4 (how_many is T ws) (omega (arith, how-few is T ws)) 20 in
    simp length-append (omega (arith, digits-below 4 (length ws) (omega arith) 20, few is_held, few is_idle, few is_broken, few is_refused))

-- ---- the lines of a sheet

-- There are no more lines than bytes.
lines-few : (s : Bytes) → length (lines s) ≤ length s
unfolding split
lines-few [] = omega arith
lines-few (x ∷ s) = go (eqb x 10) (lines s) (lines-few s)
  where
    first-few : (ws : List Bytes) → length ws ≤ length s → length (on_first x ws) ≤ suc (length s)
    first-few [] l = omega arith
    first-few (w ∷ ws) l = omega arith

    go : (b : Bool) (ws : List Bytes) → length ws ≤ length s → length (cut b x ws) ≤ suc (length s)
    go true ws l = omega arith
    go false ws l = first-few ws l

-- No line of these is longer.
abbrev ShortAt : List Bytes → Type 0
ShortAt ls = (k : ℕ) → length (text_or (get_elem? ls k)) ≤ longest_line

only-short : (w : Bytes) → length w ≤ longest_line → ShortAt (only w)
only-short w l zero = l
only-short w l (suc k) = omega arith

both-short : (ls : List Bytes) (u : Bytes) → ShortAt ls → length u ≤ longest_line → ShortAt (ls ++ only u)
both-short [] u s l k = only-short u l k
both-short (w ∷ ls) u s l zero = s 0
both-short (w ∷ ls) u s l (suc k) = both-short ls u (λ j. s (suc j)) l k

module _ (tables : Bytes) {T : Tables} (t : tables_of tables ≡ taken T) where
  judged-short : (i : ℕ) (ws : List Bytes) → i + length ws ≤ suc rules_limit → ShortAt (judged_from i T ws)
  unfolding judged_from
  judged-short i [] l k = omega arith
  judged-short i (w ∷ ws) l zero = line-short (turn_verdict T w) (turn_small tables w t) i (omega arith)
  judged-short i (w ∷ ws) l (suc k) = judged-short (suc i) ws (omega arith) k

  taken-short : (rules : Bytes) (b : Bool) → leb (length rules) rules_limit ≡ b → ShortAt (unless_long b T rules)
  taken-short rules true e =
      let few : length (lines rules) ≤ rules_limit = omega (arith, leb-true (length rules) rules_limit e, lines-few rules) in
      both-short (judged_from 1 T (lines rules)) _ (judged-short 1 (lines rules) (omega arith)) (total-short T (lines rules) few)
  taken-short rules false e = only-short (ascii "rules too long") (omega arith)

pub sheet-short : (tables rules : Bytes) (place : ℕ) → length (sheet_line (sheet_of tables rules) place) ≤ longest_line
unfolding sheet_line sheet_of sheet_by
sheet-short tables rules zero = omega arith
sheet-short tables rules (suc k) = go (tables_of tables) refl
  where
    refused-short : (e : Refusal) → length (labelled (ascii "tables refused ") (number_of e)) ≤ longest_line
    refused-short e = simp length-append (omega (arith, digits-below 1 (number_of e) (omega (arith, number-few e)) 20))

    go : (o : Reading) → tables_of tables ≡ o → length (text_or (get_elem? (sheet_by o rules) k)) ≤ longest_line
    go (rejected e) t = only-short (labelled (ascii "tables refused ") (number_of e)) (refused-short e) k
    go (taken T) t = taken-short tables t rules (leb (length rules) rules_limit) refl k
