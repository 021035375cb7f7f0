-- Writers one after the other, and a writer's text as that of the thing that a node holds.
-- Assumes nothing.
use mathlib.Core.Path.{◌≡◌, refl, ap, ◌∙◌}
use mathlib.Core.Bool.{true}
use mathlib.Core.List.{List, ◌++◌, append_assoc}
use mathlib.Core.Option.{some}
use Prim.Native.Nat.{ℕ, ◌+◌, ◌≤◌, ◌<◌}
use native.Mathlib.Omega.{arith}
use lib.ListN.{length}
use Rattle.syntax.specs.Bytes.{Bytes, ascii}
use Rattle.syntax.specs.Term.{Term, base, call, oe, ao, two, Choices, text, ao_text, spell, spell_middle}
use Rattle.syntax.specs.Code.Arena.{Holds, HoldsAll, Down, has_two}
use Rattle.syntax.specs.Code.Reading.{Sought}
use Rattle.syntax.specs.Code.Nodes.{first_call, oe_op, ao_op, first_pair, member_op, op_at, left_at, right_at}
use Rattle.printer.specs.Code.Signs.{sign_of, open_of, variable, without}
use Rattle.printer.specs.Code.Printed.{Adds, Prints, Appends, Printable}
use Rattle.syntax.proofs.ArenaLaws.{base-small, fn-range, two-range, op_of, holds-op}
use Rattle.printer.specs.declared.sheet.Sheet.{Sheet}
use Rattle.printer.proofs.PrintedLaws.{adds-as, adds_then, adds-front}
use Rattle.printer.proofs.TextLaws.{Shown, text-leaf, text-call, text-new, text-choice, text-others, text-two}
use Rattle.printer.proofs.TextLaws.{choice-none, choice-some}

module _ {A B : Type 0} {ns vs : List ℕ} {H : A → Type 0} {K : B → Type 0} {f : Choices → A → Bytes} {g : Choices → B → Bytes} {old new : Sheet} where
  -- Where every text of the one is a text of the other.
  pub appends-as : ((σ : Choices) (b : B) → HoldsAll ns vs σ → K b → Shown H (f σ) (g σ b)) → Appends ns vs H f old new → Appends ns vs K g old new
  appends-as h p =
      record {
        same = p.same;
        size = p.size;
        shows = λ σ b y x. let w = h σ b y x in adds-as w.written (p.shows σ w.thing y w.held);
      }

  pub appends-then : {mid : Sheet} → Appends ns vs H f old mid → Appends ns vs K g mid new
      → Appends ns vs (λ (p : A × B). H p.0 × K p.1) (λ σ p. f σ p.0 ++ g σ p.1) old new
  appends-then p q =
      record {
        same = q.same ∙ p.same;
        size = q.size ∙ p.size;
        shows = λ σ a y x. adds_then (p.shows σ a.0 y x.0) (q.shows σ a.1 y x.1);
      }

module _ {A : Type 0} {ns vs : List ℕ} {H : A → Type 0} {f : Choices → A → Bytes} {w : Bytes} {old new : Sheet} where
  pub add-appends : {mid : Sheet} → Adds w old mid → Appends ns vs H f mid new → Appends ns vs H (λ σ a. w ++ f σ a) old new
  add-appends p q = record { same = q.same ∙ p.same; size = q.size ∙ p.size; shows = λ σ a y x. adds_then p (q.shows σ a y x) }

  pub appends-add : {mid : Sheet} → Appends ns vs H f old mid → Adds w mid new → Appends ns vs H (λ σ a. f σ a ++ w) old new
  appends-add p q = record { same = q.same ∙ p.same; size = q.size ∙ p.size; shows = λ σ a y x. adds_then (p.shows σ a y x) q }

  -- A text that does not depend on how the choices are written.
  pub appends-one : ((σ : Choices) (a : A) → HoldsAll ns vs σ → H a → w ≡ f σ a) → Adds w old new → Appends ns vs H f old new
  appends-one e p = record { same = p.same; size = p.size; shows = λ σ a y x. adds-as (e σ a y x) p }

module _ {A : Type 0} {ns vs : List ℕ} {H : A → Type 0} {f : Choices → A → Bytes} where
  -- Where a node holds no such thing, and onto a sheet that nothing was written on.

  pub appends-never : (old : Sheet) → ((a : A) → H a → ⊥) → Appends ns vs H f old old
  appends-never old h = record { same = refl; size = refl; shows = λ σ a y x. absurd (h a x) }

  pub appends-front : {bytes last : Bytes} {old new : Sheet} → old.out.now ≡ bytes → old.end ≡ 0 → last ≡ new.out.now
      → Appends ns vs H f old new → Prints ns vs H f bytes last new.end
  appends-front {bytes} {last} {old} {new} e z l p =
      let s : length new.out.now ≡ length bytes = p.size ∙ ap length e in
      record {
        room = record { within = omega (arith, new.within, s); size = ap length l ∙ s };
        shows = λ σ a y x. adds-front e z l (p.shows σ a y x);
      }

-- The nodes below a node are ready too.
module _ {ns vs : List ℕ} {k : ℕ} (r : Printable ns k vs) where
  pub ready-left : {l : ℕ} → l ≡ left_at ns k → first_call ≤ op_at ns k → Printable ns l vs × (l < k)
  unfolding Down
  ready-left {l} e h =
      let w : l < k = rw e ((r.tidy.down k r.node).left h) in
      (record { n = r.n; tidy = r.tidy; node = omega (arith, r.node); below = r.below; few = r.few }, w)

  pub ready-right : {l : ℕ} → l ≡ right_at ns k → has_two (op_at ns k) ≡ true → Printable ns l vs × (l < k)
  unfolding Down
  ready-right {l} e h =
      let w : l < k = rw e ((r.tidy.down k r.node).right h) in
      (record { n = r.n; tidy = r.tidy; node = omega (arith, r.node); below = r.below; few = r.few }, w)

-- The writer of terms, by the operation of its node.
module _ {ns vs : List ℕ} {k : ℕ} (w : Printable ns k vs) {op : ℕ} (e : op ≡ op_at ns k) {old new : Sheet} where
  pub term-leaf : op < first_call → Adds (sign_of op) old new → Appends ns vs (Holds ns k) text old new
  term-leaf h p = appends-one (λ σ t y x. ap sign_of e ∙ text-leaf ns k σ t (omega arith) x) p

  pub term-two : {l m : ℕ} → l ≡ left_at ns k → m ≡ right_at ns k → first_pair ≤ op → op < member_op
      → Appends ns vs (λ (p : Term × Term). Holds ns l p.0 × Holds ns m p.1) (λ σ p. (open_of op ++ text σ p.0) ++ (sign_of op ++ (text σ p.1 ++ ascii ")"))) old new
      → Appends ns vs (Holds ns k) text old new
  term-two q u h g p =
      appends-as
      (λ σ t y x.
      let z = text-two ns k σ t (omega arith) (omega arith) x in
      record { thing = z.thing; held = z.held; written = append_assoc (open_of (op_at ns k)) _ _ ∙ z.written })
      (rw e at (rw q at (rw u at p)))

  -- Below a call, an OE or an AO.
  module _ {l : ℕ} (q : l ≡ left_at ns k) where
    pub term-call : first_call ≤ op → op < oe_op → Appends ns vs (Holds ns l) (λ σ a. sign_of op ++ (text σ a ++ ascii ")")) old new → Appends ns vs (Holds ns k) text old new
    term-call h g p = appends-as (λ σ t y x. text-call ns k σ t (omega arith) (omega arith) x) (rw e at (rw q at p))

    module _ {d : ℕ} (b : oe_op ≤ op) (s : Sought vs (length vs) l d) where
      pub term-new : op < first_pair → length vs ≤ d → Appends ns vs (Holds ns l) (λ σ a. sign_of op ++ (text σ a ++ ascii ")")) old new → Appends ns vs (Holds ns k) text old new
      term-new g h p =
          let v = (ready-left w q (omega arith)).0 in
          appends-as
          (λ σ t y x. text-new ns k σ t (omega arith) (omega arith) (λ a z. choice-none v s σ y a (rw q z) h) x)
          (rw e at (rw q at p))

      pub term-choice : op ≡ oe_op → d < length vs → Adds (variable (49 + d)) old new → Appends ns vs (Holds ns k) text old new
      term-choice g h p =
          let v = (ready-left w q (omega arith)).0 in
          appends-one (λ σ t y x. text-choice ns k σ (49 + d) (λ a z. choice-some v s σ y a (rw q z) h) t (omega arith) x) p

      pub term-others : ao_op ≤ op → op < first_pair → d < length vs → Appends ns vs (Holds ns l) (λ σ a. ao_text (some (49 + d)) (text σ a)) old new → Appends ns vs (Holds ns k) text old new
      term-others f g h p =
          let v = (ready-left w q (omega arith)).0 in
          appends-as
          (λ σ t y x. text-others ns k σ (49 + d) (λ a z. choice-some v s σ y a (rw q z) h) t (omega arith) (omega arith) x)
          (rw q at p)

pub no-term : (ns : List ℕ) (k : ℕ) (t : Term) → member_op ≤ op_at ns k → Holds ns k t → ⊥
unfolding op_of
no-term ns k (base b) h x = omega (arith, holds-op ns k (base b) x, base-small b)
no-term ns k (call f a) h x = omega (arith, holds-op ns k (call f a) x, (fn-range f).high)
no-term ns k (oe a) h x = omega (arith, holds-op ns k (oe a) x)
no-term ns k (ao a) h x = omega (arith, holds-op ns k (ao a) x)
no-term ns k (two o a b) h x = omega (arith, holds-op ns k (two o a b) x, (two-range o).high)

-- The parts of `(X-{v})`, one after the other.
pub others-text : (c : ℕ) (w : Bytes) → (ascii "(" ++ w) ++ without c ≡ ao_text (some c) w
unfolding ao_text spell spell_middle
others-text c w = append_assoc (ascii "(") w (without c)
