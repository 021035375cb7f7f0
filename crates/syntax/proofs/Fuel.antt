-- The bound of `term_within` does not matter once it is the number of bytes: any two such bounds read alike, so that the reader of terms reads the
-- terms inside by itself, with fewer bytes left. Assumes nothing.
use mathlib.Core.Path.{◌≡◌, refl, ap, sym}
use mathlib.Core.List.{[], ◌∷◌}
use mathlib.Core.Option.{Option, none, some}
use Prim.Native.Nat.{ℕ, suc, zero, ◌≤◌, ◌<◌}
use native.Mathlib.Omega.{arith}
use lib.ListN.{length, length-append}
use Rattle.syntax.specs.Bytes.{Bytes, ascii, Read, fail, got, Reader, next, skip, scan, either}
use Rattle.syntax.proofs.BytesLaws.{never, next-case, next_agree, skip-gives}
use Rattle.syntax.proofs.BytesLaws.{scan-gives}
use Rattle.syntax.specs.Term.{Term, Choices, named_from, Head, is_base, is_call, is_oe, is_ao, is_bracket, is_choice, spell}
use Rattle.syntax.specs.Term.{Middle, is_less, spell_middle, heads, collection_heads, call_heads, bracket_heads, middles, known, closed, second, inner, term_within, read_term, is_call2, is_op}
use Rattle.syntax.proofs.TermLaws.{head-long, no-head}

-- What is left is no longer than what was there.

skip-short : (p s : Bytes) {u : Unit {0}} {r : Bytes} → skip p s ≡ got u r → length r ≤ length s
skip-short p s {u} {r} e = rw (skip-gives p s e, length-append) (omega arith)

middle-short : (s : Bytes) {m : Middle} {r : Bytes} → scan spell_middle middles s ≡ got m r → length r ≤ length s
middle-short s {m} {r} e = rw (scan-gives spell_middle middles s e, length-append) (omega arith)

head-short : (s : Bytes) {h : Head} {r : Bytes} → scan spell heads s ≡ got h r → length r < length s
head-short s {h} {r} e = rw (scan-gives spell heads s e, length-append) (omega (arith, head-long h))

known-short : (σ : Choices) (s : Bytes) {a : Term} {r : Bytes} → known σ s ≡ got a r → length r ≤ length s
unfolding known
known-short σ [] e = never e
known-short σ (c ∷ s) {a} {r} e = go (named_from 49 σ c) e
  where
    go : (o : Option Term) → ◌≡◌ {A = Read Term} (elim o [ none ↦ fail | some a ↦ got a s ]) (got a r) → length r ≤ suc (length s)
    go none e = never e
    go (some b) e = let q : s ≡ r = cc in rw q (omega arith)

abbrev Shrinks : Reader Term → Type 0
Shrinks rd = (s : Bytes) (a : Term) (r : Bytes) → rd s ≡ got a r → length r ≤ length s

module _ (rd : Reader Term) (σ : Choices) (shr : Shrinks rd) where
  closed-short : (make : Term → Term) (s : Bytes) (t : Term) (r : Bytes) → closed rd make s ≡ got t r → length r ≤ length s
  unfolding closed
  closed-short make s t r e =
      next-case (rd s) _ e λ b s₁ e₁ e₂. next-case (skip (ascii ")") s₁) _ e₂ λ _ s₂ e₃ e₄.
      let q : r ≡ s₂ = cc in omega (arith, shr s b s₁ e₁, skip-short (ascii ")") s₁ e₃, ap length q)

  second_short : (a : Term) (m : Middle) (s : Bytes) (t : Term) (r : Bytes) → second rd σ a m s ≡ got t r → length r ≤ length s
  unfolding second
  second_short a (is_op o) s t r e = closed-short _ s t r e
  second_short a is_less s t r e =
      next-case (known σ s) _ e λ b s₁ e₁ e₂. next-case (skip (ascii "})") s₁) _ e₂ λ _ s₂ e₃ e₄.
      let q : r ≡ s₂ = cc in omega (arith, known-short σ s e₁, skip-short (ascii "})") s₁ e₃, ap length q)

  inner-short : (h : Head) (s : Bytes) (t : Term) (r : Bytes) → inner rd σ h s ≡ got t r → length r ≤ length s
  unfolding inner
  inner-short (is_base b) s t r e = let q : r ≡ s = cc in omega (arith, ap length q)
  inner-short (is_call f) s t r e = closed-short _ s t r e
  inner-short is_oe s t r e = closed-short _ s t r e
  inner-short is_ao s t r e = closed-short _ s t r e
  inner-short (is_call2 f) s t r e =
      next-case (rd s) _ e λ a s₁ e₁ e₂. next-case (skip (ascii ",") s₁) _ e₂ λ _ s₂ e₃ e₄.
      omega (arith, shr s a s₁ e₁, skip-short (ascii ",") s₁ e₃, closed-short _ s₂ t r e₄)
  inner-short is_bracket s t r e =
      next-case (rd s) _ e λ a s₁ e₁ e₂. next-case (scan spell_middle middles s₁) _ e₂ λ m s₂ e₃ e₄.
      omega (arith, shr s a s₁ e₁, middle-short s₁ e₃, second_short a m s₂ t r e₄)
  inner-short is_choice s t r e =
      next-case (known σ s) _ e λ a s₁ e₁ e₂. let q : r ≡ s₁ = cc in omega (arith, known-short σ s e₁, ap length q)

term-short : (n : ℕ) (σ : Choices) → Shrinks (term_within n σ)
unfolding term_within
term-short zero σ s t r e = never e
term-short (suc n) σ s t r e =
    next-case (scan spell heads s) _ e λ h s₁ e₁ e₂.
    omega (arith, head-short s e₁, inner-short (term_within n σ) σ (term-short n σ) h s₁ t r e₂)

-- Two readers of the terms inside that agree on texts of at most n bytes.
module _ (rd rd' : Reader Term) (σ : Choices) (n : ℕ) (shr : Shrinks rd) (same : (s : Bytes) → length s ≤ n → rd s ≡ rd' s) where
  closed-agree : (make : Term → Term) (s : Bytes) → length s ≤ n → closed rd make s ≡ closed rd' make s
  unfolding closed
  closed-agree make s h = rw (same s h)

  second-agree : (a : Term) (m : Middle) (s : Bytes) → length s ≤ n → second rd σ a m s ≡ second rd' σ a m s
  unfolding second
  second-agree a (is_op o) s h = closed-agree _ s h
  second-agree a is_less s h = refl

  inner-agree : (h : Head) (s : Bytes) → length s ≤ n → inner rd σ h s ≡ inner rd' σ h s
  unfolding inner
  inner-agree (is_base b) s h = refl
  inner-agree (is_call f) s h = closed-agree _ s h
  inner-agree is_oe s h = closed-agree _ s h
  inner-agree is_ao s h = closed-agree _ s h
  inner-agree (is_call2 f) s h =
      rw (← (same s h)) (next_agree (rd s) _ _ λ a s₁ e₁. next_agree (skip (ascii ",") s₁) _ _ λ _ s₂ e₂.
      closed-agree _ s₂ (omega (arith, shr s a s₁ e₁, skip-short (ascii ",") s₁ e₂)))
  inner-agree is_bracket s h =
      rw (← (same s h)) (next_agree (rd s) _ _ λ a s₁ e₁. next_agree (scan spell_middle middles s₁) _ _ λ m s₂ e₂.
      second-agree a m s₂ (omega (arith, shr s a s₁ e₁, middle-short s₁ e₂)))
  inner-agree is_choice s h = refl

empty-read : (n : ℕ) (σ : Choices) (s : Bytes) → length s ≤ 0 → term_within n σ s ≡ fail
unfolding spell heads collection_heads call_heads bracket_heads scan either skip
empty-read n σ [] h = no-head n σ [] refl
empty-read n σ (c ∷ s) h = absurd (omega arith)

fuel-agree : (n m : ℕ) (σ : Choices) (s : Bytes) → length s ≤ n → length s ≤ m → term_within n σ s ≡ term_within m σ s
unfolding term_within
fuel-agree zero m σ s h k = sym (empty-read m σ s h)
fuel-agree (suc n) zero σ s h k = empty-read (suc n) σ s k
fuel-agree (suc n) (suc m) σ s h k =
    next_agree (scan spell heads s) _ _ λ b s₁ e₁.
    let w : length s₁ < length s = head-short s e₁ in
    inner-agree (term_within n σ) (term_within m σ) σ (length s₁) (term-short n σ) (λ s₂ l. fuel-agree n m σ s₂ (omega arith) (omega arith)) b s₁ (omega arith)

-- The reader of terms calls itself with fewer bytes left.
pub term-step : (σ : Choices) (s : Bytes) → read_term σ s ≡ next (scan spell heads s) (inner (read_term σ) σ)
unfolding term_within read_term next spell heads collection_heads call_heads bracket_heads scan either skip
term-step σ [] = refl
term-step σ (c ∷ s) =
    next_agree (scan spell heads (c ∷ s)) _ _ λ h s₁ e.
    let w : length s₁ < length (c ∷ s) = head-short (c ∷ s) e in
    inner-agree (term_within (length s) σ) (read_term σ) σ (length s) (term-short (length s) σ) (λ s₂ l. fuel-agree (length s) (length s₂) σ s₂ l (omega arith)) h s₁ (omega arith)
