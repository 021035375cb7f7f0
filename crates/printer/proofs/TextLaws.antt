-- What is written for the term that a node holds, by the node's operation and its indexes.
-- Assumes nothing.
use mathlib.Core.Path.{◌≡◌, refl, ap, ◌∙◌}
use mathlib.Core.List.{List, [], ◌∷◌, ◌++◌}
use mathlib.Core.Option.{Option, none, some}
use Prim.Native.Nat.{ℕ, suc, zero, ◌+◌, ◌≤◌, ◌<◌}
use native.Mathlib.Omega.{arith}
use lib.ListN.{length, get_or}
use Rattle.syntax.specs.Bytes.{Bytes, ascii}
use Rattle.syntax.specs.Term.{Base, b_u, b_r, b_op, b_obj, b_p, b_s, b_cr, b_cp, b_cu, Fn, user, roles, roles*, sessions, permissions}
use Rattle.syntax.specs.Term.{permissions*, object, operations, done, meet, join, Term, base, call, oe, ao, two, Term≟, Choices, digit_from, digit}
use Rattle.syntax.specs.Term.{is_base, is_call, spell, oe_text, ao_text, text, calls, joins, parting}
use Rattle.syntax.specs.Code.Arena.{base_op, fn_op, two_op, One, Holds, HoldsAll, Apart}
use Rattle.syntax.specs.Code.Reading.{Sought}
use Rattle.syntax.specs.Code.Nodes.{first_call, oe_op, ao_op, first_pair, member_op, op_at, left_at, right_at, op_room}
use Rattle.printer.specs.Code.Signs.{signs, sign_of, cmp_signs, openings, open_of, variable}
use Rattle.printer.specs.Code.Printed.{Printable}
use Rattle.syntax.proofs.ArenaLaws.{base-small, fn-range, two-range, one-parts, both-parts, op_of, holds-op, holds-once, holds-one}

base-sign : (b : Base) → sign_of (base_op b) ≡ spell (is_base b)
unfolding signs spell base_op
base-sign b_u = refl
base-sign b_r = refl
base-sign b_op = refl
base-sign b_obj = refl
base-sign b_p = refl
base-sign b_s = refl
base-sign b_cr = refl
base-sign b_cp = refl
base-sign b_cu = refl

call-sign : (f : Fn) → sign_of (fn_op f) ≡ spell (is_call f)
unfolding signs spell fn_op
call-sign user = refl
call-sign roles = refl
call-sign roles* = refl
call-sign sessions = refl
call-sign permissions = refl
call-sign permissions* = refl
call-sign object = refl

-- A thing that is held, and a text that is made of it.
pub record Shown {A : Type 0} (holds : A → Type 0) (make : A → Bytes) (w : Bytes) : Type 0 where
  pub thing : A
  pub held : holds thing
  pub written : make thing ≡ w

-- Node k, its operation and its indexes: how the term that it holds is written.
module _ (ns : List ℕ) (k : ℕ) (σ : Choices) where
  abbrev o : ℕ
  o = op_at ns k

  abbrev i : ℕ
  i = left_at ns k

  abbrev j : ℕ
  j = right_at ns k

  pub text-leaf : (t : Term) → o < first_call → Holds ns k t → sign_of o ≡ text σ t
  unfolding text op_of
  text-leaf (base b) h x = ap sign_of (holds-op ns k (base b) x) ∙ base-sign b
  text-leaf (call f a) h x = absurd (omega (arith, holds-op ns k (call f a) x, (fn-range f).low))
  text-leaf (oe a) h x = absurd (omega (arith, holds-op ns k (oe a) x))
  text-leaf (ao a) h x = absurd (omega (arith, holds-op ns k (ao a) x))
  text-leaf (two p a b) h x = absurd (omega (arith, holds-op ns k (two p a b) x, (two-range p).low))

  abbrev named : Term → Bytes
  named a = sign_of o ++ (text σ a ++ ascii ")")

  one_holds : {p l : ℕ} (a : Term) → One ns k p l → p < op_room → Holds ns l a → Holds ns i a
  one_holds a x h y = rw (one-parts x h).left y

  pub text-call : (t : Term) → first_call ≤ o → o < oe_op → Holds ns k t → Shown (Holds ns i) named (text σ t)
  unfolding text op_of Holds
  text-call (base b) h l x = absurd (omega (arith, holds-op ns k (base b) x, base-small b))
  text-call (call f a) h l x =
      let e : sign_of o ≡ spell (is_call f) = ap sign_of (holds-op ns k (call f a) x) ∙ call-sign f in
      record { thing = a; held = one_holds a x.1 (omega (arith, (fn-range f).high)) x.2; written = rw e }
  text-call (oe a) h l x = absurd (omega (arith, holds-op ns k (oe a) x))
  text-call (ao a) h l x = absurd (omega (arith, holds-op ns k (ao a) x))
  text-call (two p a b) h l x = absurd (omega (arith, holds-op ns k (two p a b) x, (two-range p).low))

  -- An OE or AO whose choice is not known.
  pub text-new : (t : Term) → oe_op ≤ o → o < first_pair → ((a : Term) → Holds ns i a → digit σ a ≡ none) → Holds ns k t → Shown (Holds ns i) named (text σ t)
  unfolding text op_of Holds oe_text ao_text signs
  text-new (base b) h l d x = absurd (omega (arith, holds-op ns k (base b) x, base-small b))
  text-new (call f a) h l d x = absurd (omega (arith, holds-op ns k (call f a) x, (fn-range f).high))
  text-new (oe a) h l d x =
      let y = one_holds a x.1 (omega arith) x.2 in
      record { thing = a; held = y; written = rw (holds-op ns k (oe a) x, d a y) }
  text-new (ao a) h l d x =
      let y = one_holds a x.1 (omega arith) x.2 in
      record { thing = a; held = y; written = rw (holds-op ns k (ao a) x, d a y) }
  text-new (two p a b) h l d x = absurd (omega (arith, holds-op ns k (two p a b) x, (two-range p).low))

  module _ (c : ℕ) (d : (a : Term) → Holds ns i a → digit σ a ≡ some c) where
    pub text-choice : (t : Term) → o ≡ oe_op → Holds ns k t → variable c ≡ text σ t
    unfolding text op_of Holds oe_text spell
    text-choice (base b) h x = absurd (omega (arith, holds-op ns k (base b) x, base-small b))
    text-choice (call f a) h x = absurd (omega (arith, holds-op ns k (call f a) x, (fn-range f).high))
    text-choice (oe a) h x = rw (d a (one_holds a x.1 (omega arith) x.2))
    text-choice (ao a) h x = absurd (omega (arith, holds-op ns k (ao a) x))
    text-choice (two p a b) h x = absurd (omega (arith, holds-op ns k (two p a b) x, (two-range p).low))

    pub text-others : (t : Term) → ao_op ≤ o → o < first_pair → Holds ns k t → Shown (Holds ns i) (λ a. ao_text (some c) (text σ a)) (text σ t)
    unfolding text op_of Holds
    text-others (base b) h l x = absurd (omega (arith, holds-op ns k (base b) x, base-small b))
    text-others (call f a) h l x = absurd (omega (arith, holds-op ns k (call f a) x, (fn-range f).high))
    text-others (oe a) h l x = absurd (omega (arith, holds-op ns k (oe a) x))
    text-others (ao a) h l x =
        let y = one_holds a x.1 (omega arith) x.2 in
        record { thing = a; held = y; written = rw (d a y) }
    text-others (two p a b) h l x = absurd (omega (arith, holds-op ns k (two p a b) x, (two-range p).low))

  -- Things at both indexes.
  abbrev pub AtBoth : {A B : Type 0} → (ℕ → A → Type 0) → (ℕ → B → Type 0) → A × B → Type 0
  AtBoth H K p = H i p.0 × K j p.1

  abbrev paired : Term × Term → Bytes
  paired p = open_of o ++ (text σ p.0 ++ (sign_of o ++ (text σ p.1 ++ ascii ")")))

  pub text-two : (t : Term) → first_pair ≤ o → o < member_op → Holds ns k t → Shown (AtBoth (Holds ns) (Holds ns)) paired (text σ t)
  unfolding text parting op_of Holds signs cmp_signs openings two_op
  text-two (base b) h l x = absurd (omega (arith, holds-op ns k (base b) x, base-small b))
  text-two (call f a) h l x = absurd (omega (arith, holds-op ns k (call f a) x, (fn-range f).high))
  text-two (oe a) h l x = absurd (omega (arith, holds-op ns k (oe a) x))
  text-two (ao a) h l x = absurd (omega (arith, holds-op ns k (ao a) x))
  text-two (two (calls operations) a b) h l x =
      let y = both-parts x.2 (omega arith) in
      record { thing = (a, b); held = (rw y.left x.3, rw y.right x.4); written = rw y.op }
  text-two (two (calls done) a b) h l x =
      let y = both-parts x.2 (omega arith) in
      record { thing = (a, b); held = (rw y.left x.3, rw y.right x.4); written = rw y.op }
  text-two (two (joins meet) a b) h l x =
      let y = both-parts x.2 (omega arith) in
      record { thing = (a, b); held = (rw y.left x.3, rw y.right x.4); written = rw y.op }
  text-two (two (joins join) a b) h l x =
      let y = both-parts x.2 (omega arith) in
      record { thing = (a, b); held = (rw y.left x.3, rw y.right x.4); written = rw y.op }

-- The digit of a choice, by where its argument's node stands among those of the choices.
module _ (ns : List ℕ) (n i : ℕ) (apart : Apart ns n) (h : i < n) (a : Term) (x : Holds ns i a) where
  other : (v : ℕ) (b : Term) → v < n → (v ≡ i → ⊥) → Holds ns v b → b ≡ a → ⊥
  other v b l m y e = m (holds-once ns n apart v i a l h (rw e at y) x)

  digit-none : (c : ℕ) (vs : List ℕ) (σ : Choices) → HoldsAll ns vs σ → ((d : ℕ) → d < length vs → get_or vs d 0 < n)
      → ((d : ℕ) → d < length vs → get_or vs d 0 ≡ i → ⊥) → digit_from c σ a ≡ none
  unfolding digit_from
  digit-none c [] [] y l m = refl
  digit-none c [] (b ∷ σ) y l m = absurd y
  digit-none c (v ∷ vs) [] y l m = absurd y
  digit-none c (v ∷ vs) (b ∷ σ) y l m = go (Term≟ b a) (digit-none (suc c) vs σ y.1 (λ d k. l (suc d) (omega arith)) (λ d k. m (suc d) (omega arith)))
    where
      go : (q : Dec (b ≡ a)) → digit_from (suc c) σ a ≡ none → ◌≡◌ {A = Option ℕ} (elim q [ yes p ↦ some c | no n ↦ digit_from (suc c) σ a ]) none
      go (yes p) e = absurd (other v b (l 0 (omega arith)) (m 0 (omega arith)) y.0 p)
      go (no p) e = e

  digit-some : (c : ℕ) (vs : List ℕ) (σ : Choices) (d : ℕ) → HoldsAll ns vs σ → ((d : ℕ) → d < length vs → get_or vs d 0 < n)
      → d < length vs → get_or vs d 0 ≡ i → ((e : ℕ) → e < d → get_or vs e 0 ≡ i → ⊥) → digit_from c σ a ≡ some (c + d)
  unfolding digit_from
  digit-some c [] σ d y l k f m = absurd (omega arith)
  digit-some c (v ∷ vs) [] d y l k f m = absurd y
  digit-some c (v ∷ vs) (b ∷ σ) zero y l k f m = go (Term≟ b a)
    where
      go : (q : Dec (b ≡ a)) → ◌≡◌ {A = Option ℕ} (elim q [ yes p ↦ some c | no n ↦ digit_from (suc c) σ a ]) (some (c + 0))
      go (yes p) = ap some (omega arith)
      go (no p) = absurd (p (holds-one ns i b a (rw f at y.0) x))
  digit-some c (v ∷ vs) (b ∷ σ) (suc d) y l k f m =
      go (Term≟ b a) (digit-some (suc c) vs σ d y.1 (λ e g. l (suc e) (omega arith)) (omega arith) f (λ e g. m (suc e) (omega arith)))
    where
      go : (q : Dec (b ≡ a)) → digit_from (suc c) σ a ≡ some (suc c + d) → ◌≡◌ {A = Option ℕ} (elim q [ yes p ↦ some c | no n ↦ digit_from (suc c) σ a ]) (some (c + suc d))
      go (yes p) e = absurd (other v b (l 0 (omega arith)) (m 0 (omega arith)) y.0 p)
      go (no p) e = e ∙ ap some (omega arith)

-- The same of a node that was sought among those of the choices.
module _ {ns vs : List ℕ} {i d : ℕ} (r : Printable ns i vs) (s : Sought vs (length vs) i d) (σ : Choices) (y : HoldsAll ns vs σ) (a : Term) (x : Holds ns i a) where
  pub choice-none : length vs ≤ d → digit σ a ≡ none
  choice-none l = digit-none ns r.n i r.tidy.apart r.node a x 49 vs σ y r.below (λ e h. s.before e (omega arith))

  pub choice-some : d < length vs → digit σ a ≡ some (49 + d)
  choice-some l = digit-some ns r.n i r.tidy.apart r.node a x 49 vs σ d y r.below l (s.found l) s.before
