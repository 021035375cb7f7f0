-- Laws of writing a page: the bytes in front, the lines one behind the other, the page's word and counts.
-- Assumes nothing.
use mathlib.Core.Path.{◌≡◌, refl, sym, ap, ◌∙◌}
use mathlib.Core.Bool.{Bool, true, false, cond, ◌||◌}
use mathlib.Core.List.{List, [], ◌∷◌, ◌++◌, append_assoc}
use mathlib.Core.Option.{some}
use Prim.Native.Nat.{ℕ, zero, suc, ◌+◌, ◌-◌, ◌*◌, ◌≤◌, ◌<◌}
use native.Mathlib.Numerals.{add-one}
use native.Mathlib.Omega.{arith}
use lib.Dec.{eqb, ltb}
use lib.ListN.{length, get_or, get_elem?, take, drop, set, drop_of_length-le}
use lib.Seq.{take_at, take-append-add, drop_at, length-take-le}
use borrow.Rule.Slice.PartMut.{mid_of, post_of, put_mid}
use Rattle.tables.specs.Bytes.{lowest_first}
use Rattle.texts.specs.Code.Overwritten.{Overwritten, Behind}
use Rattle.texts.proofs.OverwrittenLaws.{none_written, written_byte, written-rest}
use Rattle.verdicts.specs.declared.Outcome.TheVariants.{Held, Idle, Broken}
use Rattle.verdicts.specs.declared.Verdict.{Verdict}
use Rattle.verdicts.specs.Verdict.{word_number, outcome_of, written}
use Rattle.verdicts.specs.Code.Judging.{ruled_by}
use Rattle.verdicts.proofs.SheetLaws.{length-written}
use Rattle.pages.specs.Page.{some_line, page_outcome, full_sum, breaking_sum, line_bytes, page_bytes}
use Rattle.pages.specs.Code.Tallies.{tally_at, Rows, worse_of, Summed, head_room, head_bytes}
use Rattle.pages.specs.declared.writing.Sums.{Sums}

-- The word of an accepted line is 0, 1 or 2, and the page's word is the greatest of its lines'.
pub word_small : (full breaking : ℕ) → word_number (outcome_of full breaking) ≤ 2
unfolding outcome_of
word_small full breaking = go (ltb 0 breaking) (eqb full 0)
  where
    go : (b f : Bool) → word_number (cond b Broken (cond f Idle Held)) ≤ 2
    go true f = omega arith
    go false true = omega arith
    go false false = omega arith

worse-word : (w : ℕ) → w ≤ 2 → (b i : Bool) → word_number (cond (eqb w 2 || b) Broken (cond (eqb w 1 || i) Idle Held)) ≡ worse_of w (word_number (cond b Broken (cond i Idle Held)))
worse-word zero h true i = refl
worse-word zero h false true = refl
worse-word zero h false false = refl
worse-word (suc zero) h true i = refl
worse-word (suc zero) h false true = refl
worse-word (suc zero) h false false = refl
worse-word (suc (suc zero)) h true i = refl
worse-word (suc (suc zero)) h false true = refl
worse-word (suc (suc zero)) h false false = refl
worse-word (suc (suc (suc w))) h b i = absurd (omega arith)

pub summed-none : Summed [] (record { word = 0; full = 0; breaking = 0 })
unfolding page_outcome some_line full_sum breaking_sum
summed-none = record { word = refl; full = refl; breaking = refl }

pub summed-next : {vs : List Verdict} {s : Sums} {w : ℕ} (v : Verdict) → Summed vs s → word_number v.outcome ≤ 2 → w ≡ worse_of (word_number v.outcome) s.word
    → Summed (v ∷ vs) (record { word = w; full = v.full + s.full; breaking = v.breaking + s.breaking })
unfolding page_outcome some_line full_sum breaking_sum
summed-next {vs} v t small e = record {
  word = e ∙ rw t.word (sym (worse-word (word_number v.outcome) small (some_line Broken vs) (some_line Idle vs)));
  full = rw t.full;
  breaking = rw t.breaking;
}

-- The bytes in front of the lines.
pub head-written : {old d₁ d₂ : List ℕ} (s : Sums) (walks : ℕ) → head_room ≤ length old → Behind 1 (lowest_first 8 s.full) (set old 0 s.word) d₁
    → Behind 9 (lowest_first 8 s.breaking) d₁ d₂ → Overwritten (head_bytes s walks) old (set d₂ 17 walks) head_room
unfolding lowest_first
head-written {old} s walks room p₁ p₂ =
    let o = written_byte s.word (none_written old) (omega arith) in
    written_byte walks (p₂ _ old (p₁ _ old o)) (omega arith)

this-row : (us : List Verdict) (j : ℕ) {v : Verdict} → get_elem? us j ≡ some v → drop j us ≡ v ∷ drop (suc j) us
this-row [] j e = let z : ◌≡◌ {A = ℕ} 0 1 = cc in absurd (omega arith)
this-row (u ∷ us) zero {v} e = let s : u ≡ v = cc in ap (λ (x : Verdict). x ∷ us) s
this-row (u ∷ us) (suc j) e = this-row us j e

-- The lines from one on: no more, one more.
module _ {vs : List Verdict} {fulls breakings firsts : List ℕ} {many : ℕ} (rows : Rows vs fulls breakings firsts many) (k : ℕ) where
  none_left : many ≤ k → drop k vs ≡ []
  none_left h = drop_of_length-le vs {i = k} (omega (arith, rows.count))

  pub no_lines : (old : List ℕ) → many ≤ k → Overwritten (line_bytes (drop k vs)) old old (26 * (many - k))
  unfolding line_bytes
  no_lines old h =
      let z : 26 * (many - k) ≡ 0 = omega arith in
      rw (none_left h, z) (none_written old)

  pub no-sums : many ≤ k → Summed (drop k vs) (record { word = 0; full = 0; breaking = 0 })
  no-sums h = rw (none_left h) summed-none

  module _ {v : Verdict} (is : v ≡ ruled_by (tally_at fulls breakings firsts k)) (l : k < many) where
    here : drop k vs ≡ v ∷ drop (k + 1) vs
    here = rw add-one (this-row vs k (rows.row k l ∙ ap some (sym is)))

    pub one_line : {old mid tail : List ℕ} {w n : ℕ} → w ≡ word_number v.outcome → length v.first ≡ 8 → Overwritten (written w v) old mid n
        → Overwritten (line_bytes (drop (k + 1) vs)) (mid_of n (length mid - n) mid) tail (26 * (many - (k + 1)))
        → Overwritten (line_bytes (drop k vs)) old (put_mid n (length mid - n) mid tail) (26 * (many - k))
    unfolding line_bytes
    one_line {n = n} e eight a b =
        let long : n ≡ 26 = a.count ∙ length-written _ v eight in
        let size : 26 * (many - k) ≡ n + 26 * (many - (k + 1)) = omega arith in
        rw (here, size, ← e) (written-rest a b)

    pub one-sum : {s : Sums} {u w : ℕ} → u ≡ word_number v.outcome → w ≡ worse_of u s.word → Summed (drop (k + 1) vs) s
        → Summed (drop k vs) (record { word = w; full = v.full + s.full; breaking = v.breaking + s.breaking })
    one-sum {s} {u} e q t =
        let small : word_number v.outcome ≤ 2 = rw is (word_small (get_or fulls k 0) (get_or breakings k 0)) in
        rw here (summed-next v t small (q ∙ ap (λ (x : ℕ). worse_of x s.word) e))

-- The head and the lines behind it are the page.
pub page-written : {vs : List Verdict} (z : List ℕ) {tail text : List ℕ} {m : ℕ} (s : Sums) (walks : ℕ) → head_room ≤ length z → Summed vs s
    → Overwritten (line_bytes vs) (mid_of head_room (length z - head_room) z) tail m
    → Overwritten (head_bytes s walks) (put_mid head_room (length z - head_room) z tail) text head_room → take (head_room + m) text ≡ page_bytes walks vs
unfolding page_bytes lowest_first
page-written {vs} z {tail} {text} {m} s walks room t body head =
    let rest = post_of head_room (length z - head_room) z in
    let behind : drop head_room (put_mid head_room (length z - head_room) z tail) ≡ tail ++ rest =
    drop_at (take head_room z) _ head_room (length-take-le head_room z room) in
    let all : text ≡ head_bytes s walks ++ (tail ++ rest) = head.bytes ∙ ap (λ (l : List ℕ). head_bytes s walks ++ l) behind in
    let lines : take m (tail ++ rest) ≡ line_bytes vs = rw (body.bytes, append_assoc) (take_at (line_bytes vs) _ m (sym body.count)) in
    rw (all, take-append-add (head_bytes s walks) (tail ++ rest) m, lines, t.word, t.full, t.breaking)
