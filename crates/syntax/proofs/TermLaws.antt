-- What is written is read back, and what is read was so written: the laws of terms. Assumes nothing.
use mathlib.Core.Path.{◌≡◌, refl, ap, ◌∙◌}
use mathlib.Core.List.{[], ◌∷◌, ◌++◌, append_assoc}
use mathlib.Core.Option.{Option, none, some}
use Prim.Native.Nat.{ℕ, suc, zero, ◌≤◌}
use native.Mathlib.Omega.{arith}
use lib.ListN.{length, length-append}
use borrow.Author.Tests.{eq-eqb, ne_eqb}
use Rattle.syntax.specs.Bytes.{Bytes, ascii, Read, fail, got, Reader, next, skip, scan, either}
use Rattle.syntax.proofs.BytesLaws.{never, next-case, skip-gives}
use Rattle.syntax.proofs.BytesLaws.{scan-gives}
use Rattle.syntax.specs.Term.{b_u, b_r, b_op, b_obj, b_p, b_s, b_cr, b_cp, b_cu, user, roles, roles*, sessions, permissions, permissions*}
use Rattle.syntax.specs.Term.{object, operations, done, meet, join, Term, base, call, oe, ao, two, Term≟, Choices, digit_from, named_from}
use Rattle.syntax.specs.Term.{digit, Head, is_base, is_call, is_oe, is_ao, is_bracket, is_choice, spell, Middle}
use Rattle.syntax.specs.Term.{is_less, spell_middle, text, oe_text, ao_text, heads, collection_heads, call_heads, bracket_heads, middles, known, closed, second, inner}
use Rattle.syntax.specs.Term.{term_within, read_term, calls, joins, is_call2, is_op, opening, parting}

-- Each beginning is found again, whatever follows it.
pub scan-head : (h : Head) (s : Bytes) → scan spell heads (spell h ++ s) ≡ got h s
unfolding spell heads collection_heads call_heads bracket_heads scan either skip
scan-head (is_base b_u) s = refl
scan-head (is_base b_r) s = refl
scan-head (is_base b_op) s = refl
scan-head (is_base b_obj) s = refl
scan-head (is_base b_p) s = refl
scan-head (is_base b_s) s = refl
scan-head (is_base b_cr) s = refl
scan-head (is_base b_cp) s = refl
scan-head (is_base b_cu) s = refl
scan-head (is_call user) s = refl
scan-head (is_call roles) s = refl
scan-head (is_call roles*) s = refl
scan-head (is_call sessions) s = refl
scan-head (is_call permissions) s = refl
scan-head (is_call permissions*) s = refl
scan-head (is_call object) s = refl
scan-head is_oe s = refl
scan-head is_ao s = refl
scan-head (is_call2 operations) s = refl
scan-head (is_call2 done) s = refl
scan-head is_bracket s = refl
scan-head is_choice s = refl

pub scan-middle : (m : Middle) (s : Bytes) → scan spell_middle middles (spell_middle m ++ s) ≡ got m s
unfolding spell_middle middles scan either skip
scan-middle (is_op meet) s = refl
scan-middle (is_op join) s = refl
scan-middle is_less s = refl

-- A digit that stands for a choice names it.
digit-from : (d : ℕ) (σ : Choices) (a : Term) {c : ℕ} → digit_from d σ a ≡ some c → (d ≤ c) × (named_from d σ c ≡ some a)
unfolding digit_from named_from
digit-from d [] a {c} e = let z : ◌≡◌ {A = ℕ} 0 1 = cc in (omega arith, cc)
digit-from d (x ∷ σ) a {c} e = go (λ h. digit-from (suc d) σ a h) (Term≟ x a) e
  where
    go : (digit_from (suc d) σ a ≡ some c → (suc d ≤ c) × (named_from (suc d) σ c ≡ some a)) → (q : Dec (x ≡ a)) → (elim q as (λ _. Option ℕ) [ yes p ↦ some d | no n ↦ digit_from (suc d) σ a ]) ≡ some c → (d ≤ c) × (named_from d (x ∷ σ) c ≡ some a)
    go ih (yes p) e = let q : d ≡ c = cc in (omega arith, rw (eq-eqb d c q, named_from) (ap some p))
    go ih (no n) e = let q : suc d ≤ c = (ih e).0 in (omega arith, rw (ne_eqb d c (omega arith), named_from) (ih e).1)

pub digit-high : (σ : Choices) (a : Term) {d : ℕ} → digit σ a ≡ some d → 49 ≤ d
digit-high σ a e = (digit-from 49 σ a e).0

pub known-digit : (σ : Choices) (a : Term) (s : Bytes) {d : ℕ} → digit σ a ≡ some d → known σ (d ∷ s) ≡ got a s
unfolding known
known-digit σ a s {d} e = rw ((digit-from 49 σ a e).1, known)

-- No beginning is empty: the empty text has none.
pub head-long : (h : Head) → 1 ≤ length (spell h)
unfolding spell heads collection_heads call_heads bracket_heads scan either skip
head-long h = go (spell h) (scan-head h [])
  where
    go : (w : Bytes) → scan spell heads (w ++ []) ≡ got h [] → 1 ≤ length w
    go [] e = let z : ◌≡◌ {A = ℕ} 0 1 = cc in omega arith
    go (x ∷ w) e = omega arith

-- One step of reading back what is written, where the reader of the terms inside does so.
module _ (σ : Choices) (n : ℕ) (law : (a : Term) (r : Bytes) → length (text σ a) ≤ n → term_within n σ (text σ a ++ r) ≡ got a r) where
  step-oe : (a : Term) (r : Bytes) (o : Option ℕ) → digit σ a ≡ o → length (oe_text o (text σ a)) ≤ suc n → term_within (suc n) σ (oe_text o (text σ a) ++ r) ≡ got (oe a) r
  unfolding term_within oe_text inner second closed next skip
  step-oe a r none e h =
      let w : length (text σ a) ≤ n = omega (arith, head-long is_oe, simp length-append at h) in
      rw (append_assoc, scan-head, append_assoc, law a (41 ∷ r) w)
  step-oe a r (some d) e h = rw (append_assoc, scan-head, known-digit σ a r e)

  step-ao : (a : Term) (r : Bytes) (o : Option ℕ) → digit σ a ≡ o → length (ao_text o (text σ a)) ≤ suc n → term_within (suc n) σ (ao_text o (text σ a) ++ r) ≡ got (ao a) r
  unfolding term_within ao_text inner second closed next skip
  step-ao a r none e h =
      let w : length (text σ a) ≤ n = omega (arith, head-long is_ao, simp length-append at h) in
      rw (append_assoc, scan-head, append_assoc, law a (41 ∷ r) w)
  step-ao a r (some d) e h =
      let w : length (text σ a) ≤ n = omega (arith, head-long is_bracket, simp length-append at h) in
      rw (append_assoc, scan-head, append_assoc, law a _ w, append_assoc, scan-middle, known-digit σ a (125 ∷ 41 ∷ r) e)

  step : (t : Term) (r : Bytes) → length (text σ t) ≤ suc n → term_within (suc n) σ (text σ t ++ r) ≡ got t r
  unfolding term_within text opening parting inner second closed next skip
  step (base b) r h = rw scan-head
  step (call f a) r h =
      let w : length (text σ a) ≤ n = omega (arith, head-long (is_call f), simp length-append at h) in
      rw (append_assoc, scan-head, append_assoc, law a (41 ∷ r) w)
  step (oe a) r h = step-oe a r (digit σ a) refl h
  step (ao a) r h = step-ao a r (digit σ a) refl h
  step (two (calls f) a b) r h =
      let w : (length (text σ a) ≤ n) × (length (text σ b) ≤ n) = omega (arith, head-long (is_call2 f), simp length-append at h) in
      rw (append_assoc, scan-head, append_assoc, law a _ w.0, append_assoc, law b (41 ∷ r) w.1)
  step (two (joins o) a b) r h =
      let w : (length (text σ a) ≤ n) × (length (text σ b) ≤ n) = omega (arith, head-long is_bracket, simp length-append at h) in
      rw (append_assoc, scan-head, append_assoc, law a _ w.0, append_assoc, scan-middle, append_assoc, law b (41 ∷ r) w.1)

-- No term is written by the empty text.
pub text-long : (σ : Choices) (t : Term) → 1 ≤ length (text σ t)
unfolding text oe_text ao_text
text-long σ (base b) = head-long (is_base b)
text-long σ (call f a) = simp length-append (omega (arith, head-long (is_call f)))
text-long σ (oe a) = go (digit σ a)
  where
    go : (o : Option ℕ) → 1 ≤ length (oe_text o (text σ a))
    go none = simp length-append (omega arith)
    go (some d) = simp length-append (omega arith)
text-long σ (ao a) = go (digit σ a)
  where
    go : (o : Option ℕ) → 1 ≤ length (ao_text o (text σ a))
    go none = simp length-append (omega arith)
    go (some d) = simp length-append (omega arith)
text-long σ (two o a b) = simp length-append (omega arith)

-- What is written is read back, whatever follows it, with a bound of at least its length.
read-within : (n : ℕ) (σ : Choices) (t : Term) (r : Bytes) → length (text σ t) ≤ n → term_within n σ (text σ t ++ r) ≡ got t r
unfolding term_within
read-within zero σ t r h = let z : ◌≡◌ {A = ℕ} 0 1 = omega (arith, text-long σ t) in cc
read-within (suc n) σ t r h = step σ n (λ a r h. read-within n σ a r h) t r h

pub read-text : (σ : Choices) (t : Term) (r : Bytes) → read_term σ (text σ t ++ r) ≡ got t r
unfolding read_term
read-text σ t r = read-within (length (text σ t ++ r)) σ t r (simp length-append (omega arith))

-- So no term's text begins another's, and two terms that are written alike are one.

pub term-split : (σ : Choices) (a b : Term) (r s : Bytes) → text σ a ++ r ≡ text σ b ++ s → (a ≡ b) × (r ≡ s)
term-split σ a b r s e =
    let p : read_term σ (text σ a ++ r) ≡ got a r = read-text σ a r in
    let q : read_term σ (text σ b ++ s) ≡ got b s = read-text σ b s in
    (cc, cc)

pub term-one : (σ : Choices) (a b : Term) → text σ a ≡ text σ b → a ≡ b
term-one σ a b e = (term-split σ a b [] [] (rw e)).0

-- The other way: what is read, with no choices known, was so written.

none-known : (s : Bytes) {a : Term} {r : Bytes} → known [] s ≡ got a r → ⊥
unfolding known named_from
none-known [] e = never e
none-known (c ∷ s) e = never e

module _ (n : ℕ) (law : (s : Bytes) (a : Term) (r : Bytes) → term_within n [] s ≡ got a r → s ≡ text [] a ++ r) where
  abbrev rd : Reader Term
  rd s = term_within n [] s

  closed-case : {C : Type 0} (make : Term → Term) (s : Bytes) {t : Term} {r : Bytes} → closed rd make s ≡ got t r → ((a : Term) → s ≡ text [] a ++ (ascii ")" ++ r) → t ≡ make a → C) → C
  unfolding closed
  closed-case make s e k =
      next-case (rd s) _ e λ a s₁ e₁ e₂. next-case (skip (ascii ")") s₁) _ e₂ λ _ s₂ e₃ e₄.
      k a (cc (law s a s₁ e₁, skip-gives (ascii ")") s₁ e₃)) (cc)

  second-gives : (a : Term) (m : Middle) (s : Bytes) (t : Term) (r : Bytes) → second rd [] a m s ≡ got t r → spell is_bracket ++ (text [] a ++ (spell_middle m ++ s)) ≡ text [] t ++ r
  unfolding second text opening parting
  second-gives a (is_op o) s t r e = closed-case (two (joins o) a) s e λ b p q. rw (p, q) (simp append_assoc)
  second-gives a is_less s t r e = next-case (known [] s) _ e λ b s₁ e₁ e₂. absurd (none-known s e₁)

  inner-gives : (h : Head) (s : Bytes) (t : Term) (r : Bytes) → inner rd [] h s ≡ got t r → spell h ++ s ≡ text [] t ++ r
  unfolding inner text opening parting oe_text ao_text digit_from
  inner-gives (is_base b) s t r e = cc
  inner-gives (is_call f) s t r e = closed-case (call f) s e λ a p q. rw (p, q) (simp append_assoc)
  inner-gives is_oe s t r e = closed-case oe s e λ a p q. rw (p, q) (simp append_assoc)
  inner-gives is_ao s t r e = closed-case ao s e λ a p q. rw (p, q) (simp append_assoc)
  inner-gives (is_call2 f) s t r e =
      next-case (rd s) _ e λ a s₁ e₁ e₂. next-case (skip (ascii ",") s₁) _ e₂ λ _ s₂ e₃ e₄.
      closed-case (two (calls f) a) s₂ e₄ λ b p q.
      rw (law s a s₁ e₁, skip-gives (ascii ",") s₁ e₃, p, q) (simp append_assoc)
  inner-gives is_bracket s t r e =
      next-case (rd s) _ e λ a s₁ e₁ e₂. next-case (scan spell_middle middles s₁) _ e₂ λ m s₂ e₃ e₄.
      rw (law s a s₁ e₁, scan-gives spell_middle middles s₁ e₃) (second-gives a m s₂ t r e₄)
  inner-gives is_choice s t r e = next-case (known [] s) _ e λ a s₁ e₁ e₂. absurd (none-known s e₁)

-- What is read was so written.
text-within : (n : ℕ) (s : Bytes) (t : Term) (r : Bytes) → term_within n [] s ≡ got t r → s ≡ text [] t ++ r
unfolding term_within
text-within zero s t r e = never e
text-within (suc n) s t r e =
    next-case (scan spell heads s) _ e λ h s₁ e₁ e₂. scan-gives spell heads s e₁ ∙ inner-gives n (λ s a r h. text-within n s a r h) h s₁ t r e₂

pub text-read : (s : Bytes) (t : Term) (r : Bytes) → read_term [] s ≡ got t r → s ≡ text [] t ++ r
unfolding read_term
text-read s t r e = text-within (length s) s t r e

-- A text with which no term begins does not stand in front of a term.

pub no-head : (n : ℕ) (σ : Choices) (s : Bytes) → scan spell heads s ≡ fail → term_within n σ s ≡ fail
unfolding term_within next
no-head zero σ s e = refl
no-head (suc n) σ s e = rw e

no_start : (p : Bytes) → ((w : Bytes) → scan spell heads (p ++ w) ≡ fail) → (σ : Choices) (t : Term) (r : Bytes) → skip p (text σ t ++ r) ≡ fail
unfolding read_term
no_start p h σ t r = go (skip p (text σ t ++ r)) refl
  where
    go : (o : Read (Unit {0})) → skip p (text σ t ++ r) ≡ o → skip p (text σ t ++ r) ≡ fail
    go fail e = e
    go (got u w) e =
        let z : fail ≡ got t r = cc (skip-gives p (text σ t ++ r) e, no-head (length (p ++ w)) σ (p ++ w) (h w), read-text σ t r) in
        never z

pub bar-free : (σ : Choices) (t : Term) (r : Bytes) → skip (ascii "|") (text σ t ++ r) ≡ fail
unfolding spell heads collection_heads call_heads bracket_heads scan either skip
bar-free σ t r = no_start (ascii "|") (λ w. refl) σ t r

pub brace-free : (σ : Choices) (t : Term) (r : Bytes) → skip (ascii "{}") (text σ t ++ r) ≡ fail
unfolding spell heads collection_heads call_heads bracket_heads scan either skip
brace-free σ t r = no_start (ascii "{}") (λ w. refl) σ t r
