-- What verdicts report, for accepted tables, every accepted rule and every admissible order: of the fields, and of the 26 bytes.
-- Assumes nothing.
use mathlib.Core.Path.{◌≡◌, refl, sym, ap, ◌∙◌}
use mathlib.Core.Bool.{true≢false}
use mathlib.Core.List.{List, ◌∷◌, ◌++◌, append_assoc}
use mathlib.Core.Option.{Option, none, some}
use Prim.Native.Nat.{ℕ, zero, suc, ◌<◌}
use native.Mathlib.Omega.{arith}
use lib.Dec.{ltb}
use lib.ListN.{length, get_or, take, drop, length-append}
use lib.Seq.{take_at, drop_at, get_or-append_seam}
use borrow.Author.Tests.{lt-ltb}
use Rattle.answers.specs.Answer.{wrote, number_or_zero}
use Rattle.tables.specs.Tables.{Tables}
use Rattle.tables.specs.Bytes.{lowest_first}
use Rattle.tables.proofs.BytesLaws.{lowest-length, word-lowest}
use Rattle.tables.specs.Reading.{taken, tables_of, word_from}
use Rattle.syntax.specs.Bytes.{Bytes}
use Rattle.syntax.specs.Rule.{Rule, rule_of}
use Rattle.rules.specs.Accept.{refusal}
use Rattle.rules.proofs.AcceptLaws.{accepted-rule}
use Rattle.walks.specs.Choices.{nothing_chosen}
use Rattle.walks.specs.Walk.{choice_bytes}
use Rattle.walks.specs.Order.{variables_of}
use Rattle.walks.specs.Meaning.{there}
use Rattle.walks.specs.Share.{share_of}
use Rattle.walks.proofs.ShareLaws.{is_share, one-share}
use Rattle.walks.proofs.FirstLaws.{first_one}
use Rattle.verdicts.specs.Verdict.{word_number, outcome_of, full_count, breaking_count, first_breaking, verdict_along, verdict_of, written}
use Rattle.verdicts.specs.Verdict.{verdict_bytes, judged}
use Rattle.verdicts.specs.Report.{OrderOf, FirstOf, Reports, ReportsBy, ReportsIn, SharesIn, Told, Admitted}
use Rattle.verdicts.proofs.OutcomeLaws.{word-broken, word-idle, word_held, word-accepted}
use Rattle.verdicts.proofs.VerdictLaws.{first_above, first-least, breaking-le-full, full-fits}
use Rattle.verdicts.proofs.JudgedLaws.{admitted-verdict, few-variables, in-sorts, first-length, admitted-wrote, bytes-length}

module _ {tables rule order : Bytes} {T : Tables} {ρ : Rule} (a : Admitted tables rule order T ρ) where
  -- The first breaking choice is there where breaking is above 0, and nowhere else.
  above : there (first_breaking T ρ (variables_of order)) ≡ ltb 0 (breaking_count T ρ)
  above = first_above T ρ (few-variables a) (in-sorts a) (variables_of order) a.ordered

  first_found : 0 < breaking_count T ρ → FirstOf T ρ order (choice_bytes (first_breaking T ρ (variables_of order)))
  first_found h = go (first_breaking T ρ (variables_of order)) refl
    where
      go : (o : Option (List ℕ)) → first_breaking T ρ (variables_of order) ≡ o → FirstOf T ρ order (choice_bytes o)
      go none q = absurd (true≢false (sym (lt-ltb 0 (breaking_count T ρ) h) ∙ sym above ∙ ap there q))
      go (some d) q = first-least T ρ (few-variables a) (in-sorts a) (variables_of order) d a.ordered q

  first-none : breaking_count T ρ ≡ 0 → choice_bytes (first_breaking T ρ (variables_of order)) ≡ nothing_chosen
  first-none z = go (first_breaking T ρ (variables_of order)) refl
    where
      go : (o : Option (List ℕ)) → first_breaking T ρ (variables_of order) ≡ o → choice_bytes o ≡ nothing_chosen
      go none q = refl
      go (some d) q = absurd (true≢false (sym (ap there q) ∙ above ∙ ap (ltb 0) z))

  pub along-reports : Reports T ρ order (word_number (outcome_of (full_count T ρ) (breaking_count T ρ))) (full_count T ρ) (breaking_count T ρ)
      (choice_bytes (first_breaking T ρ (variables_of order))) (share_of (full_count T ρ) (breaking_count T ρ))
  along-reports = record {
    fulls = refl;
    breakings = refl;
    broken = word-broken (full_count T ρ) (breaking_count T ρ);
    idle = word-idle (full_count T ρ) (breaking_count T ρ) (breaking-le-full T ρ (few-variables a) (in-sorts a));
    held = word_held (full_count T ρ) (breaking_count T ρ);
    found = first_found;
    unfound = first-none;
    shared = is_share (full_count T ρ) (breaking_count T ρ) (breaking-le-full T ρ (few-variables a) (in-sorts a));
  }

  -- The fields of the verdict.
  pub verdict-reports : ReportsBy T ρ order (verdict_of tables rule order)
  unfolding verdict_along
  verdict-reports = rw (admitted-verdict a) (ap number_or_zero (word-accepted (full_count T ρ) (breaking_count T ρ)), along-reports)

-- The five parts of 26 bytes, with any bytes behind them.
module _ (word share : ℕ) (f b d rest : Bytes) (lf : length f ≡ 8) (lb : length b ≡ 8) (ld : length d ≡ 8) where
  abbrev parts : Bytes
  parts = word ∷ (f ++ (b ++ (d ++ (share ∷ rest))))

  part-full : take 8 (drop 1 parts) ≡ f
  part-full = take_at f (b ++ (d ++ (share ∷ rest))) 8 lf

  part-breaking : take 8 (drop 9 parts) ≡ b
  part-breaking = rw (drop_at f (b ++ (d ++ (share ∷ rest))) 8 lf) (take_at b (d ++ (share ∷ rest)) 8 lb)

  part-first : take 8 (drop 17 parts) ≡ d
  part-first =
      let both : drop 16 ((f ++ b) ++ (d ++ (share ∷ rest))) ≡ d ++ (share ∷ rest)
      = drop_at (f ++ b) (d ++ (share ∷ rest)) 16 (omega (arith, length-append f b)) in
      rw (rw append_assoc at both) (take_at d (share ∷ rest) 8 ld)

  part-share : get_or parts 25 0 ≡ share
  part-share =
      let front : Bytes = word ∷ ((f ++ b) ++ d) in
      let long : length front ≡ 25 = omega (arith, length-append (f ++ b) d, length-append f b) in
      let seam : get_or (front ++ (share ∷ rest)) 25 0 ≡ share = rw long at (get_or-append_seam front share rest 0) in
      simp append_assoc at seam

-- The 26 bytes, with any bytes behind them, read as they were written: the word, the two counts, the choice, the share.
module _ {tables rule order : Bytes} {T : Tables} {ρ : Rule} (a : Admitted tables rule order T ρ) (rest : Bytes) where
  full_back : word_from (lowest_first 8 (full_count T ρ)) ≡ full_count T ρ
  full_back = word-lowest 8 (full_count T ρ) (omega (arith, full-fits T ρ (few-variables a) (in-sorts a)))

  breaking-back : word_from (lowest_first 8 (breaking_count T ρ)) ≡ breaking_count T ρ
  breaking-back =
      word-lowest 8 (breaking_count T ρ)
      (omega (arith, full-fits T ρ (few-variables a) (in-sorts a), breaking-le-full T ρ (few-variables a) (in-sorts a)))

  pub bytes-report : ReportsIn T ρ order (verdict_bytes T ρ order ++ rest)
  unfolding written verdict_along
  bytes-report =
      let word : ℕ = word_number (outcome_of (full_count T ρ) (breaking_count T ρ)) in
      let f : Bytes = lowest_first 8 (full_count T ρ) in
      let b : Bytes = lowest_first 8 (breaking_count T ρ) in
      let d : Bytes = choice_bytes (first_breaking T ρ (variables_of order)) in
      let share : ℕ = share_of (full_count T ρ) (breaking_count T ρ) in
      let lf = lowest-length 8 (full_count T ρ) in
      let lb = lowest-length 8 (breaking_count T ρ) in
      let ld = first-length a in
      let whole : verdict_bytes T ρ order ++ rest ≡ parts word share f b d rest lf lb ld = simp append_assoc in
      rw (
        whole,
        part-full word share f b d rest lf lb ld,
        part-breaking word share f b d rest lf lb ld,
        part-first word share f b d rest lf lb ld,
        part-share word share f b d rest lf lb ld,
        full_back,
        breaking-back,
      ) (along-reports a)

-- THE THEOREM, of the fields: an accepted rule has a tree, and along every admissible order of its variables the verdict reports.
pub accepted-reports : (tables rule : Bytes) (T : Tables) → tables_of tables ≡ taken T → refusal rule ≡ none
    → (ρ : Rule) × (rule_of rule ≡ some ρ) × ((order : Bytes) → OrderOf ρ order → ReportsBy T ρ order (verdict_of tables rule order))
accepted-reports tables rule T t r =
    let (ρ, h, _) = accepted-rule rule r in
    (ρ, h, λ order o. verdict-reports (record { reads = t; accepts = r; tree = h; ordered = o }))

-- Judging answers with 26 bytes that report it.
pub judged-reports : {tables rule order : Bytes} {T : Tables} {ρ : Rule} → Admitted tables rule order T ρ
    → (b : Bytes) × (judged tables rule order ≡ wrote b) × Told T ρ order b
judged-reports {order = order} {T = T} {ρ = ρ} a =
    (verdict_bytes T ρ order, admitted-wrote a, record { long = bytes-length a; reports = λ rest. bytes-report a rest })

-- THE THEOREM, of the bytes.
pub accepted-judged : (tables rule : Bytes) (T : Tables) → tables_of tables ≡ taken T → refusal rule ≡ none
    → (ρ : Rule) × (rule_of rule ≡ some ρ)
    × ((order : Bytes) → OrderOf ρ order → (b : Bytes) × (judged tables rule order ≡ wrote b) × Told T ρ order b)
accepted-judged tables rule T t r =
    let (ρ, h, _) = accepted-rule rule r in
    (ρ, h, λ order o. judged-reports (record { reads = t; accepts = r; tree = h; ordered = o }))

-- Nothing is left free: along an order one word, two counts, one choice and one share only are reported.
module _ {T : Tables} {ρ : Rule} {order : Bytes} (o : OrderOf ρ order) {w f b s w' f' b' s' : ℕ} {d d' : Bytes} (p : Reports T ρ order w f b d s)
    (q : Reports T ρ order w' f' b' d' s') where
  same_full : f ≡ f'
  same_full = p.fulls ∙ sym q.fulls

  same-breaking : b ≡ b'
  same-breaking = p.breakings ∙ sym q.breakings

  same_word : w ≡ w'
  same_word = go b f refl refl
    where
      go : (k m : ℕ) → b ≡ k → f ≡ m → w ≡ w'
      go zero zero e h = p.idle.1 h ∙ sym (q.idle.1 (sym same_full ∙ h))
      go zero (suc m) e h = p.held.1 (omega arith, e) ∙ sym (q.held.1 (omega (arith, same_full), sym same-breaking ∙ e))
      go (suc k) m e h = p.broken.1 (omega arith) ∙ sym (q.broken.1 (omega (arith, same-breaking)))

  same_first : d ≡ d'
  same_first = go b refl
    where
      go : (k : ℕ) → b ≡ k → d ≡ d'
      go zero e = p.unfound e ∙ sym (q.unfound (sym same-breaking ∙ e))
      go (suc k) e = first_one o.once (p.found (omega arith)) (q.found (omega (arith, same-breaking)))

  pub reports-one : (w ≡ w') × (f ≡ f') × (b ≡ b') × (d ≡ d') × (s ≡ s')
  reports-one = (
    same_word,
    same_full,
    same-breaking,
    same_first,
    one-share p.shared (rw (same_full, same-breaking) q.shared),
  )

-- Of the bytes too: one share.
pub reported-share : {T : Tables} {ρ : Rule} {order : Bytes} (b : Bytes) → ReportsIn T ρ order b → SharesIn b
reported-share b told s = (λ p. one-share p told.shared, λ e. rw e told.shared)
