-- The bytes of an admitted page: its word, its counts, its walks, and each line's 26 bytes as `judge` writes them.
-- Assumes nothing.
use mathlib.Core.Path.{◌≡◌, refl, sym, ap, ◌∙◌}
use mathlib.Core.List.{List, [], ◌∷◌, ◌++◌, append_assoc}
use mathlib.Core.Option.{none, some}
use Prim.Native.Nat.{ℕ, zero, suc, ◌+◌, ◌*◌, ◌^◌, ◌≤◌}
use native.Mathlib.Omega.{arith}
use lib.ListN.{length, get_or, get_elem?, take, drop, length-append}
use lib.Seq.{drop-append-add}
use Rattle.answers.specs.Answer.{wrote}
use Rattle.texts.specs.Pieces.{lines}
use Rattle.tables.specs.Tables.{Tables}
use Rattle.tables.specs.Bytes.{lowest_first}
use Rattle.tables.specs.Reading.{taken, tables_of, word_from}
use Rattle.tables.proofs.BytesLaws.{word-lowest}
use Rattle.tables.proofs.FitsLaws.{accepted-passes}
use Rattle.syntax.specs.Bytes.{Bytes}
use Rattle.syntax.specs.Rule.{Rule, rule_vars, rule_of}
use Rattle.rules.specs.Accept.{refusal}
use Rattle.rules.proofs.AcceptLaws.{accepted-rule}
use Rattle.walks.proofs.OrderLaws.{order-admissible}
use Rattle.values.specs.Sets.{names}
use Rattle.verdicts.specs.declared.Verdict.{Verdict}
use Rattle.verdicts.specs.Verdict.{word_number, verdict_along, turn_order, turn_verdict, written, verdict_bytes, judged}
use Rattle.verdicts.specs.Report.{OrderOf, Admitted}
use Rattle.verdicts.proofs.VerdictLaws.{turn-order}
use Rattle.verdicts.proofs.TurnLaws.{judged-in-turn}
use Rattle.verdicts.proofs.JudgedLaws.{admitted-wrote, bytes-length}
use Rattle.pages.specs.Page.{verdicts_on, page_outcome, full_sum, breaking_sum, line_bytes, page_bytes}
use Rattle.pages.specs.Met.{PageAdmitted}
use Rattle.pages.proofs.TallyLaws.{turn-fits}

-- The bytes of a line.
abbrev pub line_of : Tables → Bytes → Bytes
line_of T w = written (word_number (turn_verdict T w).outcome) (turn_verdict T w)

-- An accepted line on accepted tables is admitted in the order 1, 2, ..,
module _ (tables : Bytes) {T : Tables} (t : tables_of tables ≡ taken T) (w : Bytes) (ok : refusal w ≡ none) where
  pub turn-admitted : (ρ : Rule) × Admitted tables w (turn_order (rule_of w)) T ρ
  unfolding turn_order
  turn-admitted =
      let (ρ, h, _) = accepted-rule w ok in
      let ordered : OrderOf ρ (turn_order (rule_of w)) = rw h ((order-admissible (names (rule_vars [] ρ)) (length (rule_vars [] ρ)) _).0 (turn-order ρ)) in
      (ρ, record { reads = t; accepts = ok; tree = h; ordered = ordered })

  -- and its bytes are those that judging it by itself writes.
  own-bytes : line_of T w ≡ verdict_bytes T turn-admitted.0 (turn_order (rule_of w))
  unfolding verdict_along
  own-bytes = rw (judged-in-turn T w ok turn-admitted.0 turn-admitted.1.tree)

  pub line-judged : judged tables w (turn_order (rule_of w)) ≡ wrote (line_of T w)
  line-judged = admitted-wrote turn-admitted.1 ∙ ap wrote (sym own-bytes)

  pub line-length : length (line_of T w) ≡ 26
  line-length = rw own-bytes (bytes-length turn-admitted.1)

-- The lines one behind the other.
abbrev Accepts : List Bytes → Type 0
Accepts ws = (j : ℕ) (w : Bytes) → get_elem? ws j ≡ some w → refusal w ≡ none

module _ (tables : Bytes) {T : Tables} (t : tables_of tables ≡ taken T) where
  lines-length : (ws : List Bytes) → Accepts ws → length (line_bytes (verdicts_on T ws)) ≡ 26 * length ws
  unfolding line_bytes verdicts_on
  lines-length [] h = refl
  lines-length (w ∷ ws) h =
      let one = line-length tables t w (h 0 w refl) in
      let rest = lines-length ws (λ j u q. h (suc j) u q) in
      length-append (line_of T w) (line_bytes (verdicts_on T ws)) ∙ omega arith

  lines_from : (tail : Bytes) (ws : List Bytes) → Accepts ws → (j : ℕ) (w : Bytes) → get_elem? ws j ≡ some w
      → (rest : Bytes) × (drop (26 * j) (line_bytes (verdicts_on T ws) ++ tail) ≡ line_of T w ++ rest)
  unfolding line_bytes verdicts_on
  lines_from tail [] h j w q = let z : ◌≡◌ {A = ℕ} 0 1 = cc in absurd (omega arith)
  lines_from tail (u ∷ us) h zero w q = let s : u ≡ w = cc in (line_bytes (verdicts_on T us) ++ tail, rw (← s, append_assoc))
  lines_from tail (u ∷ us) h (suc j) w q =
      let (rest, e) = lines_from tail us (λ i v p. h (suc i) v p) j w q in
      let n : 26 * suc j ≡ length (line_of T u) + 26 * j = omega (arith, line-length tables t u (h 0 u refl)) in
      (rest, rw (n, append_assoc) (drop-append-add (line_of T u) (line_bytes (verdicts_on T us) ++ tail) (26 * j) ∙ e))

  -- Their sums fit a word.
  sums-fit : (ws : List Bytes) → Accepts ws → (full_sum (verdicts_on T ws) ≤ 64 ^ 8 * length ws) × (breaking_sum (verdicts_on T ws) ≤ 64 ^ 8 * length ws)
  unfolding verdicts_on full_sum breaking_sum
  sums-fit [] h = (omega arith, omega arith)
  sums-fit (w ∷ ws) h =
      let one = turn-fits T w (h 0 w refl) (accepted-passes tables t) in
      let rest = sums-fit ws (λ j u q. h (suc j) u q) in
      (omega (arith, one.few, rest.0), omega (arith, one.part, one.few, rest.1))

-- The page's bytes, with any bytes behind them.
module _ {tables page : Bytes} {T : Tables} (a : PageAdmitted tables page T) (walks : ℕ) where
  abbrev verdicts : List Verdict
  verdicts = verdicts_on T (lines page)

  abbrev head : Bytes
  head = word_number (page_outcome verdicts) ∷ (lowest_first 8 (full_sum verdicts) ++ (lowest_first 8 (breaking_sum verdicts) ++ (walks ∷ [])))

  head-lines : page_bytes walks verdicts ≡ head ++ line_bytes verdicts
  unfolding page_bytes lowest_first
  head-lines = refl

  head-length : length head ≡ 18
  unfolding lowest_first
  head-length = refl

  pub page-length : length (page_bytes walks verdicts) ≡ 18 + 26 * length (lines page)
  page-length = rw head-lines (omega (arith, length-append head (line_bytes verdicts), head-length, lines-length tables a.reads (lines page) a.accepts))

  module _ (rest : Bytes) where
    pub page-word : get_or (page_bytes walks verdicts ++ rest) 0 255 ≡ word_number (page_outcome verdicts)
    unfolding page_bytes
    page-word = refl

    pub page-walks : get_or (page_bytes walks verdicts ++ rest) 17 255 ≡ walks
    unfolding page_bytes lowest_first
    page-walks = refl

    full-bytes : take 8 (drop 1 (page_bytes walks verdicts ++ rest)) ≡ lowest_first 8 (full_sum verdicts)
    unfolding page_bytes lowest_first
    full-bytes = refl

    breaking-bytes : take 8 (drop 9 (page_bytes walks verdicts ++ rest)) ≡ lowest_first 8 (breaking_sum verdicts)
    unfolding page_bytes lowest_first
    breaking-bytes = refl

    pub page-full : word_from (take 8 (drop 1 (page_bytes walks verdicts ++ rest))) ≡ full_sum verdicts
    page-full = rw full-bytes (word-lowest 8 (full_sum verdicts) (omega (arith, a.sized.few, (sums-fit tables a.reads (lines page) a.accepts).0)))

    pub page-breaking : word_from (take 8 (drop 9 (page_bytes walks verdicts ++ rest))) ≡ breaking_sum verdicts
    page-breaking = rw breaking-bytes (word-lowest 8 (breaking_sum verdicts) (omega (arith, a.sized.few, (sums-fit tables a.reads (lines page) a.accepts).1)))

    pub page-line : (j : ℕ) (w : Bytes) → get_elem? (lines page) j ≡ some w → (more : Bytes) × (drop (18 + 26 * j) (page_bytes walks verdicts ++ rest) ≡ line_of T w ++ more)
    page-line j w q =
        let (more, e) = lines_from tables a.reads rest (lines page) a.accepts j w q in
        let n : 18 + 26 * j ≡ length head + 26 * j = omega (arith, head-length) in
        (more, rw (head-lines, append_assoc, n) (drop-append-add head (line_bytes verdicts ++ rest) (26 * j) ∙ e))
