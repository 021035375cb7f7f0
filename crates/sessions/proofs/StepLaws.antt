-- From what the parts of a call say to its answer.
-- Assumes nothing.
use mathlib.Core.Path.{◌≡◌, sym, ap, ◌∙◌}
use mathlib.Core.Bool.{Bool, true, false, cond}
use mathlib.Core.List.{List, ◌++◌}
use mathlib.Core.Option.{none, some}
use Rattle.std.specs.declared.option.Option.{Option}
use Rattle.std.specs.declared.option.Option.TheVariants.{Some}
use Rattle.rules.specs.Accept.{refusal}
use Prim.Native.Nat.{ℕ, ◌+◌, ◌-◌, ◌≤◌, ◌<◌}
use native.Mathlib.Omega.{arith}
use lib.ListN.{length, get_or, take, drop, length-drop}
use lib.Seq.{length-take-le, get_or-drop}
use mir.Val.{Fits as FitsIn}
use mir.Syntax.{w8}
use Rattle.answers.specs.Answer.{Answer, wrote, lent}
use Rattle.answers.specs.Written.{Answers}
use Rattle.answers.specs.declared.Refusal.{Refusal}
use Rattle.answers.specs.declared.Refusal.TheVariants.{ShortSheet}
use Rattle.answers.specs.Written.{Written}
use Rattle.std.specs.declared.result.Result.TheVariants.{Ok, Err}
use Rattle.answers.proofs.AnswerLaws.{kept-refused, kept-short}
use Rattle.tables.specs.Tables.{Tables}
use Rattle.tables.specs.Bytes.{AreBytes, lowest_first}
use Rattle.tables.specs.Encode.{encode}
use Rattle.tables.specs.Reading.{rejected, tables_of}
use Rattle.answers.specs.Outcome.{Outcome, passes}
use Rattle.tables.proofs.EncodeLaws.{accepted-bytes, passes-accepted}
use Rattle.tables.proofs.EncodedLaws.{encode-length}
use Rattle.tables.proofs.OneLaws.{tables-one}
use Rattle.tables.proofs.LocalLaws.{accepted-short}
use Rattle.syntax.specs.Bytes.{Bytes}
use Rattle.syntax.specs.Rule.{Rule, rule_of}
use Rattle.rules.specs.declared.Parsed.{Parsed}
use Rattle.rules.proofs.AcceptLaws.{accepted-gives}
use Rattle.texts.specs.Code.Overwritten.{Added}
use Rattle.texts.proofs.OverwrittenLaws.{written-length, add-more}
use Rattle.verdicts.specs.Both.{Given, of_both}
use Rattle.verdicts.specs.Code.Judging.{TablesAt, Loaded, ParsedFrom, AnswersOn}
use Rattle.verdicts.proofs.LoadedLaws.{Took}
use Rattle.verdicts.proofs.BothLaws.{both-refused, both-taken}
use Rattle.changes.specs.declared.Change.{Change}
use Rattle.changes.specs.declared.Change.TheVariants.{Opening, Closing}
use Rattle.changes.specs.Change.{changed, change_refusal}
use Rattle.changes.specs.Code.Made.{due_in, DueBy, Ready, Makes}
use Rattle.mentions.specs.Mention.{mentions}
use Rattle.sessions.specs.State.{parts, current_bytes, state_bytes, verdict_in, rule_in, tables_in, verdict_after, changed_state, stepped}
use Rattle.sessions.specs.Code.Laying.{next_length, rule_end, rule_of_front, Front, Holds, Changed, AddsChanged, PutsCurrent, PutsVerdict, ChangesOn, StepsOn}
use Rattle.sessions.proofs.LayLaws.{to_end, parts-written, parts-length, rule-length}
use Rattle.sessions.proofs.RowLaws.{changed-length}
use Rattle.sessions.proofs.SplitLaws.{step-whole, not-cut, tables-part, verdict-part, rule-part}
use Rattle.sessions.proofs.StateLaws.{current-length, given-changed, made-length}

-- What lies in a slice of bytes are bytes.
pub bytes-known : (b : Bytes) → ((i : ℕ) → FitsIn w8 (get_or b i 0)) → AreBytes b
unfolding AreBytes
bytes-known b h i = omega (arith, h i)

-- Tables that were read are held as words and as bytes.
pub took-holds : {b : Bytes} {ts : List ℕ} → Took b ts → AreBytes b → Holds ts b
took-holds {b} q h = record { tables = q.tables; at = q.holds; bytes = accepted-bytes b h q.is }

pub holds-loaded : {ts : List ℕ} {b : Bytes} → Holds ts b → Loaded ts
holds-loaded h = record { tables = h.tables; holds = h.at }

-- Whatever tables the words hold, the bytes are theirs.
pub held_bytes : {ts : List ℕ} {b : Bytes} → Holds ts b → {T : Tables} → TablesAt ts T → b ≡ encode T
held_bytes h {T} a = h.bytes ∙ ap encode (sym (tables-one T h.tables (sym a.words ∙ h.at.words) a.passes.sound.fits h.at.passes.sound))

pub holds-short : {ts : List ℕ} {b : Bytes} → Holds ts b → length b ≤ 3978
holds-short h = rw h.bytes (accepted-short (encode h.tables) (passes-accepted h.tables h.at.passes))

pub given-at : {ts : List ℕ} {T : Tables} {rule : Bytes} {p : Parsed} → TablesAt ts T → ParsedFrom rule p → {ρ : Rule} → rule_of rule ≡ some ρ
    → Given (encode T) rule T ρ
given-at {T = T} a P t = record { reads = passes-accepted T a.passes; accepts = P.accepts; tree = t }

pub parsed-short : {rule : Bytes} {p : Parsed} → ParsedFrom rule p → length rule ≤ 256
parsed-short {rule} P = (accepted-gives rule P.accepts).short

-- ---- a rule that is refused, and one that is accepted

pub on-refused : {ts : List ℕ} (rule : Bytes) {e : Refusal} (f : Tables → Rule → Answer) (old : Bytes) → refusal rule ≡ some e → AnswersOn ts rule f old old (Err e)
unfolding of_both
on-refused rule {e = e} f old h T a = rw h (kept-refused (length old) old e)

on-accepted : {ts : List ℕ} {rule : Bytes} {p : Parsed} (f : Tables → Rule → Answer) {old new : Bytes} {w : Written} → ParsedFrom rule p
    → ((T : Tables) (ρ : Rule) → TablesAt ts T → rule_of rule ≡ some ρ → Answers (lent (length old) (f T ρ)) old new w) → AnswersOn ts rule f old new w
unfolding of_both
on-accepted f P g T a = let t = P.rule.reads in rw (P.accepts, t) (g T P.rule.tree a t)

-- ---- the start

module _ {ts : List ℕ} {tables rule : Bytes} {p : Parsed} (H : Holds ts tables) (P : ParsedFrom rule p) where
  pub start-short : (old : Bytes) → length old < 28 + length rule + length tables
      → AnswersOn ts rule (λ T ρ. wrote (state_bytes T ρ rule)) old old (Err ShortSheet)
  start-short old l =
      on-accepted _ P (λ T ρ a t.
      kept-short (state_bytes T ρ rule) old (omega (arith, made-length (given-at a P t), ap length (held_bytes H a))))

  pub start-written : {old a b new : Bytes} {i j r : ℕ} → PutsCurrent ts rule old a i → Added i (lowest_first 2 (length rule) ++ rule) a b j → Added j tables b new r
      → AnswersOn ts rule (λ T ρ. wrote (state_bytes T ρ rule)) old new (Ok r)
  start-written x y z = on-accepted _ P (λ T ρ a t. parts-written rule (x T ρ a t) y (rw (held_bytes H a) at z))

-- ---- a change that nothing refuses

next-apart : (c : Change) (n m : ℕ) → 9 ≤ m → next_length c (n + m) ≡ n + next_length c m
next-apart (Opening u w) n m l = omega arith
next-apart (Closing k) n m l = omega arith

module _ {ts : List ℕ} {front tables : Bytes} {p : Parsed} (H : Holds ts tables) (F : Front front p) where
  abbrev rule : Bytes
  rule = rule_of_front front

  pub front_length : (28 + length rule ≡ length front) × (length rule ≤ 256)
  front_length = (omega (arith, F.long, length-drop 28 front), parsed-short F.parses)

  pub room-length : (9 ≤ length front + length tables) × (length front + length tables ≤ 65536)
  room-length = (omega (arith, F.long), omega (arith, front_length.0, front_length.1, holds-short H))

  module _ (c : Change) where
    pub next-room : next_length c (length front + length tables) ≡ length front + next_length c (length tables)
    next-room = next-apart c (length front) (length tables) (omega (arith, ap length H.bytes, encode-length H.tables))

    module _ {T : Tables} {ρ : Rule} (a : TablesAt ts T) (free : change_refusal T c ≡ none) (t : rule_of rule ≡ some ρ) where
      after-length : length (verdict_after (verdict_in front) rule (changed T c) ρ) ≡ 26
      unfolding verdict_after
      after-length = go (mentions rule)
        where
          go : (b : Bool) → length (cond b (current_bytes (changed T c) ρ) (verdict_in front)) ≡ 26
          go true = current-length (given-changed (given-at a F.parses t) c free)
          go false = length-take-le 26 front (omega (arith, F.long))

      next-state : length (parts (verdict_after (verdict_in front) rule (changed T c) ρ) rule (encode (changed T c))) ≡ next_length c (length front + length tables)
      next-state =
          let e : length (encode (changed T c)) ≡ next_length c (length tables) = changed-length T c free ∙ ap (λ (b : Bytes). next_length c (length b)) (sym (held_bytes H a)) in
          parts-length (verdict_after (verdict_in front) rule (changed T c) ρ) rule (encode (changed T c))
          ∙ omega (arith, after-length, e, front_length.0, next-room)

    pub change-short : (old : Bytes) {n : ℕ} → n ≡ next_length c (length front + length tables) → length old < n → ChangesOn ts front c old old (Err ShortSheet)
    change-short old q l T ρ a free t = kept-short _ old (omega (arith, next-state a free t))

    pub change-written : {ts' : List ℕ} {old x y new : Bytes} {i j r : ℕ} → Makes ts c ts' → PutsVerdict ts' front old x i
        → Added i (lowest_first 2 (length rule) ++ rule) x y j → AddsChanged ts' tables c j y new r → ChangesOn ts front c old new (Ok r)
    change-written m v q z T ρ a free t =
        let b = m T a free in
        parts-written rule (v (changed T c) ρ b t) q (z T free b (held_bytes H a))

    -- What the parts of the call ask: the words hold the changed tables, and there is room for their bytes.
    module _ (R : Ready ts c) {ts' : List ℕ} (m : Makes ts c ts') where
      pub next_fits : {old x y : Bytes} {i j n : ℕ} → PutsVerdict ts' front old x i → Added i (lowest_first 2 (length rule) ++ rule) x y j
          → n ≡ next_length c (length front + length tables) → n ≤ length old → j + next_length c (length tables) ≤ length y
      next_fits v q e l =
          let a = R.holds in
          let t = F.parses.rule.reads in
          let one = v (changed R.tables c) F.parses.rule.tree (m R.tables a R.free) t in
          let both = add-more one q in
          omega (arith, written-length both, one.count, after-length a R.free t, q.0, rule-length rule, front_length.0, next-room)

      pub made-changed : Changed ts' tables c
      made-changed = record { tables = R.tables; free = R.free; at = m R.tables R.holds R.free; bytes = held_bytes H R.holds }

      pub made-loaded : Loaded ts'
      made-loaded = record { tables = changed R.tables c; holds = m R.tables R.holds R.free }

-- ---- any change

module _ (ts front : Bytes) {p : Parsed} (c : Change) (o : Outcome) (P : ParsedFrom (rule_of_front front) p) (d : DueBy ts c o) where
  pub step-refused : {e : Refusal} (old : Bytes) → o ≡ Err e → StepsOn ts front c old old (Err e)
  unfolding changed_state
  step-refused {e} old q =
      on-accepted _ P (λ T ρ a t.
      let r : change_refusal T c ≡ some e = sym (d T a) ∙ ap due_in q in
      rw r (kept-refused (length old) old e))

  pub step-changed : o ≡ passes → {old new : Bytes} {w : Written} → ChangesOn ts front c old new w → StepsOn ts front c old new w
  unfolding changed_state
  step-changed q x =
      on-accepted _ P (λ T ρ a t.
      let r : change_refusal T c ≡ none = sym (d T a) ∙ ap due_in q in
      rw r (x T ρ a r t))

  pub step-ready : o ≡ passes → {tables : Bytes} → Holds ts tables → Ready ts c
  step-ready q H = record { tables = H.tables; holds = H.at; free = sym (d H.tables H.at) ∙ ap due_in q }

-- ---- a state that is not cut short

module _ (s : Bytes) {o : Option ℕ} {r : ℕ} (q : o ≡ rule_end s) (n : o ≡ Some r) (c : Change) where
  pub whole-refused : {e : Refusal} (old : Bytes) → tables_of (take (length s - r) (drop r s)) ≡ rejected e → Answers (lent (length old) (stepped s c)) old old (Err e)
  whole-refused old t =
      rw (step-whole s (not-cut s q n) c)
      (both-refused (tables_in s) (rule_in s) (λ T ρ. changed_state (verdict_in s) (rule_in s) c T ρ) old (rw (tables-part s q n) at t))

  pub whole-taken : {ts : List ℕ} {old new : Bytes} {w : Written} → Took (take (length s - r) (drop r s)) ts → StepsOn ts (take r s) c old new w
      → Answers (lent (length old) (stepped s c)) old new w
  whole-taken t x =
      rw (step-whole s (not-cut s q n) c)
      (both-taken (tables_in s) (rule_in s) (λ T ρ. changed_state (verdict_in s) (rule_in s) c T ρ) (rw (tables-part s q n) at t) (rw (verdict-part s q n, rule-part s q n) at x))

  pub tables-known : AreBytes s → AreBytes (take (length s - r) (drop r s))
  unfolding AreBytes
  tables-known h i = rw (to_end r s, get_or-drop r s i 0) (h (r + i))
