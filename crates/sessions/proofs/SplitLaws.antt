-- Where a state's rule ends, and the parts of a state that is not cut short.
-- Assumes nothing.
use mathlib.Core.Path.{◌≡◌, refl, sym, ap, ◌∙◌}
use mathlib.Core.Bool.{Bool, true, false, ◌||◌, cond, true≢false}
use mathlib.Core.List.{◌∷◌}
use Prim.Native.Nat.{ℕ, ◌+◌, ◌*◌, ◌-◌, ◌≤◌, ◌<◌}
use native.Mathlib.Omega.{arith}
use lib.Dec.{ltb}
use lib.ListN.{length, get_or, take, drop, length-drop}
use lib.Seq.{drop-cons, take_all, take-take, take-add, drop_at, length-take-le}
use borrow.Author.Tests.{lt-ltb, le-ltb, ltb-false}
use Rattle.answers.specs.Answer.{refused}
use Rattle.answers.specs.declared.Refusal.TheVariants.{CutShort}
use Rattle.tables.specs.Bytes.{word_from}
use Rattle.syntax.specs.Bytes.{Bytes}
use Rattle.verdicts.specs.Both.{of_texts}
use Rattle.changes.specs.declared.Change.{Change}
use Rattle.sessions.specs.State.{verdict_in, rule_length, rule_in, tables_in, is_cut, changed_state, stepped}
use Rattle.sessions.specs.Code.Laying.{rule_of_front, rule_end}
use Rattle.std.specs.declared.option.Option.{Option}
use Rattle.std.specs.declared.option.Option.TheVariants.{Some, None}

module _ (s : Bytes) where
  pub cut-front : length s < 28 → None ≡ rule_end s
  unfolding is_cut
  cut-front l = rw (lt-ltb (length s) 28 l)

  length-bytes : 28 ≤ length s → rule_length s ≡ get_or s 26 0 + 256 * get_or s 27 0
  unfolding word_from
  length-bytes l =
      let a : drop 26 s ≡ get_or s 26 0 ∷ drop 27 s = drop-cons s 26 0 (omega arith) in
      let b : drop 27 s ≡ get_or s 27 0 ∷ drop 28 s = drop-cons s 27 0 (omega arith) in
      rw (a, b) (omega arith)

  module _ {e : ℕ} (l : 28 ≤ length s) (q : e ≡ 28 + (get_or s 26 0 + 256 * get_or s 27 0)) where
    pub cut-rule : length s < e → None ≡ rule_end s
    unfolding is_cut
    cut-rule k =
        let m : length s < 28 + rule_length s = omega (arith, length-bytes l) in
        rw (le-ltb (length s) 28 l, lt-ltb (length s) (28 + rule_length s) m)

    pub whole-rule : e ≤ length s → Some e ≡ rule_end s
    unfolding is_cut
    whole-rule k =
        let m : 28 + rule_length s ≤ length s = omega (arith, length-bytes l) in
        rw (le-ltb (length s) 28 l, le-ltb (length s) (28 + rule_length s) m) (ap Some (omega (arith, length-bytes l)))

  -- A state that is not cut short has its 28 bytes and its rule, and is read as its three parts.
  pub whole_long : is_cut s ≡ false → 28 + rule_length s ≤ length s
  unfolding is_cut
  whole_long h = ltb-false (length s) (28 + rule_length s) (second (ltb (length s) 28) h)
    where
      second : (b : Bool) → (b || ltb (length s) (28 + rule_length s)) ≡ false → ltb (length s) (28 + rule_length s) ≡ false
      second true e = absurd (true≢false e)
      second false e = e

  pub step-whole : is_cut s ≡ false → (c : Change) → stepped s c ≡ of_texts (tables_in s) (rule_in s) (λ T ρ. changed_state (verdict_in s) (rule_in s) c T ρ)
  unfolding stepped
  step-whole h c = rw h

  -- What `rule_end` says.
  module _ {o : Option ℕ} (q : o ≡ rule_end s) where
    pub step_cut : o ≡ None → (c : Change) → stepped s c ≡ refused CutShort
    unfolding stepped
    step_cut z c = rw (go (is_cut s) q)
      where
        go : (b : Bool) → o ≡ cond b None (Some (28 + rule_length s)) → b ≡ true
        go true e = refl
        go false e = let y : ◌≡◌ {A = ℕ} 0 1 = cc in absurd (omega arith)

    module _ {r : ℕ} (n : o ≡ Some r) where
      pub not-cut : is_cut s ≡ false
      not-cut = go (is_cut s) refl q
        where
          go : (b : Bool) → is_cut s ≡ b → o ≡ cond b None (Some (28 + rule_length s)) → is_cut s ≡ false
          go true e h = let y : ◌≡◌ {A = ℕ} 0 1 = cc in absurd (omega arith)
          go false e h = e

      ends : r ≡ 28 + rule_length s
      ends = let e : Some r ≡ Some (28 + rule_length s) = sym n ∙ q ∙ rw not-cut in cc

      pub end-in : (28 ≤ r) × (r ≤ length s)
      end-in = (omega (arith, ends), rw ends (whole_long not-cut))

      pub tables-part : take (length s - r) (drop r s) ≡ tables_in s
      tables-part = take_all (length s - r) (drop r s) (omega (arith, length-drop r s)) ∙ ap (λ (m : ℕ). drop m s) ends

      pub verdict-part : verdict_in (take r s) ≡ verdict_in s
      verdict-part = take-take 26 r s (omega (arith, end-in.0))

      pub rule-part : rule_of_front (take r s) ≡ rule_in s
      rule-part =
          ap (λ (m : ℕ). drop 28 (take m s)) ends ∙ ap (drop 28) (take-add 28 (rule_length s) s)
          ∙ drop_at (take 28 s) (take (rule_length s) (drop 28 s)) 28 (length-take-le 28 s (omega (arith, end-in.0, end-in.1)))
