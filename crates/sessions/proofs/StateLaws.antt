-- States: they are taken apart as they were made, and a call on one is refused as its change is, or makes the next.
-- Assumes nothing.
use mathlib.Core.Path.{◌≡◌, refl, sym, ap, ap₂, ◌∙◌}
use mathlib.Core.Bool.{Bool, true, false, cond}
use mathlib.Core.List.{List, ◌++◌}
use mathlib.Core.Option.{none, some}
use Prim.Native.Nat.{ℕ, ◌+◌, ◌≤◌}
use native.Mathlib.Omega.{arith}
use lib.ListN.{length, take, drop}
use lib.Seq.{take_at, drop_at, drop-drop, length-take-le}
use borrow.Author.Tests.{le-ltb}
use Rattle.tables.specs.Tables.{Session, Tables, with_sessions}
use Rattle.tables.specs.Bytes.{word_from, lowest_first}
use Rattle.tables.specs.Encode.{encode}
use Rattle.tables.proofs.BytesLaws.{lowest-length, word-lowest}
use Rattle.tables.proofs.EncodeLaws.{passes-accepted}
use Rattle.tables.proofs.FitsLaws.{accepted-passes}
use Rattle.tables.proofs.LocalLaws.{accepted-short}
use Rattle.syntax.specs.Bytes.{Bytes}
use Rattle.syntax.specs.Rule.{Rule}
use Rattle.rules.proofs.AcceptLaws.{accepted-gives}
use Rattle.verdicts.specs.Verdict.{turn_order, unless_refused}
use Rattle.verdicts.specs.Both.{Given, of_texts}
use Rattle.verdicts.proofs.BothLaws.{given-answers}
use Rattle.verdicts.proofs.JudgedLaws.{bytes-length}
use Rattle.verdicts.proofs.GivenLaws.{given-admitted}
use Rattle.changes.specs.declared.Change.{Change}
use Rattle.changes.specs.Change.{sessions_by, changed, change_refusal}
use Rattle.changes.proofs.PassesLaws.{passes-changed}
use Rattle.mentions.specs.Mention.{mentions}
use Rattle.mentions.proofs.SameLaws.{bytes-unmentioned}
use Rattle.sessions.specs.State.{parts, current_bytes, state_bytes, verdict_in, rule_length, rule_in, tables_in, is_cut, verdict_after, changed_state, stepped}
use Rattle.sessions.proofs.LayLaws.{parts-length}
use Rattle.sessions.proofs.SplitLaws.{step-whole, whole_long}

-- ---- accepted tables, by their bytes, and an accepted rule

module _ {b rule : Bytes} {T : Tables} {ρ : Rule} (g : Given b rule T ρ) where
  pub current-length : length (current_bytes T ρ) ≡ 26
  current-length = bytes-length (given-admitted g)

  pub rule-short : length rule ≤ 256
  rule-short = (accepted-gives rule g.accepts).short

  -- The tables are given by their own bytes, too,
  pub given-encoded : Given (encode T) rule T ρ
  given-encoded = record { reads = passes-accepted T (accepted-passes b g.reads); accepts = g.accepts; tree = g.tree }

  -- 28 bytes, a rule and tables: no state is longer than 4,262 bytes.
  pub made-length : length (state_bytes T ρ rule) ≡ 28 + length rule + length (encode T)
  made-length = parts-length (current_bytes T ρ) rule (encode T) ∙ omega (arith, current-length)

  pub made-short : 28 + length rule + length (encode T) ≤ 4262
  made-short = omega (arith, rule-short, accepted-short (encode T) given-encoded.reads)

  -- and changed tables that nothing refuses are given.
  pub given-changed : (c : Change) → change_refusal T c ≡ none → Given (encode (changed T c)) rule (changed T c) ρ
  given-changed c free =
      record { reads = passes-accepted (changed T c) (passes-changed T c free (accepted-passes b g.reads)); accepts = g.accepts; tree = g.tree }

-- ---- the parts of a state

module _ (head rule tables : Bytes) (long : length head ≡ 26) (short : length rule ≤ 256) where
  abbrev state : Bytes
  state = parts head rule tables

  size-long : length (lowest_first 2 (length rule)) ≡ 2
  size-long = lowest-length 2 (length rule)

  behind-head : drop 26 state ≡ lowest_first 2 (length rule) ++ (rule ++ tables)
  behind-head = drop_at head _ 26 long

  behind-size : drop 28 state ≡ rule ++ tables
  behind-size = sym (drop-drop 2 26 state) ∙ ap (drop 2) behind-head ∙ drop_at (lowest_first 2 (length rule)) (rule ++ tables) 2 size-long

  pub verdict-in : verdict_in state ≡ head
  verdict-in = take_at head _ 26 long

  pub length-in : rule_length state ≡ length rule
  length-in =
      ap (λ (b : Bytes). word_from (take 2 b)) behind-head
      ∙ ap word_from (take_at (lowest_first 2 (length rule)) (rule ++ tables) 2 size-long)
      ∙ word-lowest 2 (length rule) (omega arith)

  pub rule-in : rule_in state ≡ rule
  rule-in = ap₂ (λ (n : ℕ) (b : Bytes). take n b) length-in behind-size ∙ take_at rule tables (length rule) refl

  pub tables-in : tables_in state ≡ tables
  tables-in =
      ap (λ (n : ℕ). drop (28 + n) state) length-in ∙ sym (drop-drop (length rule) 28 state) ∙ ap (drop (length rule)) behind-size
      ∙ drop_at rule tables (length rule) refl

  pub not-cut-in : is_cut state ≡ false
  unfolding is_cut
  not-cut-in =
      let n = parts-length head rule tables in
      let a : 28 ≤ length state = omega arith in
      let b : 28 + rule_length state ≤ length state = rw length-in (omega arith) in
      rw (le-ltb _ _ a, le-ltb _ _ b)

-- ---- calls on the state of given tables and a given rule

module _ {rule : Bytes} {T : Tables} {ρ : Rule} (g : Given (encode T) rule T ρ) where
  abbrev made : Bytes
  made = state_bytes T ρ rule

  verdict-after : (ss : List Session) → verdict_after (current_bytes T ρ) rule (with_sessions T ss) ρ ≡ current_bytes (with_sessions T ss) ρ
  unfolding verdict_after
  verdict-after ss = go (mentions rule) refl
    where
      go : (b : Bool) → mentions rule ≡ b → cond b (current_bytes (with_sessions T ss) ρ) (current_bytes T ρ) ≡ current_bytes (with_sessions T ss) ρ
      go true q = refl
      go false q = sym (bytes-unmentioned rule ρ g.accepts g.tree q T ss (turn_order (some ρ)))

  -- THE THEOREM: a call on a state is refused as the change is, or makes the state of the changed tables.
  pub stepped-state : (c : Change) → stepped made c ≡ unless_refused (change_refusal T c) (state_bytes (changed T c) ρ rule)
  unfolding changed_state
  stepped-state c =
      step-whole made (not-cut-in (current_bytes T ρ) rule (encode T) (current-length g) (rule-short g)) c
      ∙ ap₂ (λ (t r : Bytes). of_texts t r (λ T ρ. changed_state (verdict_in made) r c T ρ)) (tables-in (current_bytes T ρ) rule (encode T) (current-length g) (rule-short g))
      (rule-in (current_bytes T ρ) rule (encode T) (current-length g) (rule-short g))
      ∙ given-answers (encode T) rule (λ T ρ. changed_state (verdict_in made) rule c T ρ) g
      ∙ ap (λ (h : Bytes). changed_state h rule c T ρ) (verdict-in (current_bytes T ρ) rule (encode T) (current-length g) (rule-short g))
      ∙ ap (λ (h : Bytes). unless_refused (change_refusal T c) (parts h rule (encode (changed T c)))) (verdict-after (sessions_by c T.sessions))

-- ---- calls on any state that is not cut short

module _ (s : Bytes) (c : Change) {T : Tables} {ρ : Rule} (whole : is_cut s ≡ false) (g : Given (tables_in s) (rule_in s) T ρ) where
  pub next-answer : stepped s c ≡ changed_state (verdict_in s) (rule_in s) c T ρ
  next-answer = step-whole s whole c ∙ given-answers (tables_in s) (rule_in s) (λ T ρ. changed_state (verdict_in s) (rule_in s) c T ρ) g

  -- The next state, as long as any of its rule and tables.
  abbrev pub next_bytes : Bytes
  next_bytes = parts (verdict_after (verdict_in s) (rule_in s) (changed T c) ρ) (rule_in s) (encode (changed T c))

  pub next-length : change_refusal T c ≡ none → length next_bytes ≡ 28 + length (rule_in s) + length (encode (changed T c))
  unfolding verdict_after
  next-length free =
      parts-length (verdict_after (verdict_in s) (rule_in s) (changed T c) ρ) (rule_in s) (encode (changed T c)) ∙ omega (arith, go (mentions (rule_in s)))
    where
      go : (b : Bool) → length (cond b (current_bytes (changed T c) ρ) (verdict_in s)) ≡ 26
      go true = current-length (given-changed g c free)
      go false = length-take-le 26 s (omega (arith, whole_long s whole))
