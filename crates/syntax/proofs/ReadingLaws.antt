-- What each way out of the reader of terms gives: what was read, or that nothing is there, and what the nodes hold.
-- Assumes nothing.
use mathlib.Core.Path.{◌≡◌, refl, sym, ap, subst, ◌∙◌}
use mathlib.Core.Bool.{Bool, true, false, cond}
use mathlib.Core.List.{List, [], ◌∷◌}
use Prim.Native.Nat.{ℕ, ◌+◌, ◌<◌, ◌≤◌}
use native.Mathlib.Omega.{arith}
use borrow.Author.Tests.{lt-ltb, le-ltb, ltb-true, ltb-false, eqb-true, eqb-false}
use lib.Dec.{eqb, ltb}
use lib.ListN.{length, get_or, drop}
use Rattle.std.specs.Prelude.{Option as Maybe, Some, None as Nothing}
use Rattle.syntax.specs.Bytes.{Bytes, ascii, Read, fail, got, Reader, next, skip, either, scan}
use Rattle.syntax.specs.Term.{Base, Fn2, operations, done, meet, join, Term, base, call, oe, ao, two, Choices, Head, is_base, is_call, is_oe}
use Rattle.syntax.specs.Term.{is_ao, is_bracket, is_choice, spell, heads, spell_middle, middles}
use Rattle.syntax.specs.Term.{known, closed, second, inner, read_term, Pair, calls, joins, is_call2, parting}
use Rattle.syntax.specs.Code.Arena.{base_op, two_op, None, One, Numbered, Both, Holds, has_two, Down, Tidy}
use Rattle.syntax.specs.Code.Reading.{Signed, head_op, Choice, Arena, mk, Stays, Fresh, Interned, Put, Knows, Readable, Found, Agree, no_thing}
use Rattle.syntax.specs.Code.Reading.{some_thing, Makes, Joint, pair, away, joint_op, spell_joint, fn2_at, joints, choice, less, ending, paired}
use Rattle.syntax.specs.declared.arena.Place.{Place}
use Rattle.syntax.specs.Code.Nodes.{first_call, oe_op, ao_op, first_pair, first_join, ops_end, bracket_head, choice_head, operation_of, node_of, op_at, index_room}
use Rattle.syntax.proofs.BytesLaws.{next_agree}
use Rattle.syntax.proofs.ArenaLaws.{base-small, fn-range, two-range, two-less, stays-refl, stays-trans, holds_later, knows-later, parts}
use Rattle.syntax.proofs.NameLaws.{Hit, meant}
use Rattle.syntax.proofs.Fuel.{term-step}

-- What a reader answered.

pub as_none : {A : Type 0} {H : List ℕ → ℕ → A → Type 0} {s : Bytes} {at : ℕ} {a : Arena} {ns : List ℕ} {r : Read A} → Agree H s at a ns Nothing r → r ≡ fail
as_none (no_thing e) = e

pub as_some : {A : Type 0} {H : List ℕ → ℕ → A → Type 0} {s : Bytes} {at : ℕ} {a : Arena} {ns : List ℕ} {p : Place} {r : Read A} → Agree H s at a ns (Some p) r → Found H s at a (mk ns p.n) p.node p.next r
as_some (some_thing f) = f

-- For the way out of a `?`.
pub lost : {A : Type 0} {H : List ℕ → ℕ → A → Type 0} {s : Bytes} {at : ℕ} {a : Arena} {ns : List ℕ} {p : Maybe Place} {r : Read A} → p ≡ Nothing → r ≡ fail → Agree H s at a ns p r
lost q e = rw q (no_thing e)

-- An answer for what was read from at' on, seen from `at`.
pub agree-from : {A : Type 0} {H : List ℕ → ℕ → A → Type 0} {s : Bytes} {at at' : ℕ} {a b : Arena} {ns : List ℕ} {p : Maybe Place} {r : Read A} → Stays a b → b.n + at ≤ a.n + at' → Agree H s at' b ns p r → Agree H s at a ns p r
agree-from st l (no_thing e) = no_thing e
agree-from st l (some_thing {p = p} f) =
    some_thing {p = p} (record { thing = f.thing; reads = f.reads; holds = f.holds; within = f.within; count = omega (arith, f.count); end = f.end; stays = stays-trans st f.stays; tidy = f.tidy })

-- A node that was put behind what was read.
pub put-found : {A : Type 0} {H : List ℕ → ℕ → A → Type 0} {s : Bytes} {at e v : ℕ} {a b : Arena} {ns : List ℕ} {p : Place} {r : Read A} (t : A) → Put b v e ns p → Stays a b → b.n + at + 1 ≤ a.n + e → e ≤ length s → r ≡ got t (drop e s) → ((k n : ℕ) → Interned b v (mk ns n) k → H ns k t) → Agree H s at a ns (Some p) r
put-found {s = s} {p = p} t w st l f q h =
    let u = w.interned in
    some_thing {p = p} (record { thing = t; reads = q ∙ ap (λ (i : ℕ). got t (drop i s)) (sym w.behind); holds = h p.node p.n u; within = u.within; count = omega (arith, u.few, w.behind); end = omega (arith, f, w.behind); stays = stays-trans st u.stays; tidy = u.tidy })

-- Where the next reader starts.

pub ready_at : {s : Bytes} {at at' : ℕ} {vars : List ℕ} {a : Arena} → Readable s at vars a → at ≤ at' → at' ≤ length s → Readable s at' vars a
ready_at g l h = record { room = g.room; within = h; count = omega (arith, g.count); tidy = g.tidy; choices = g.choices; knows = g.knows }

pub ready_on : {A : Type 0} {H : List ℕ → ℕ → A → Type 0} {s : Bytes} {at at' k e : ℕ} {vars : List ℕ} {a b : Arena} {r : Read A} → Readable s at vars a → Found H s at a b k e r → e ≤ at' → at' ≤ length s → Readable s at' vars b
ready_on g f l h =
    record {
      room = omega (arith, g.room, f.stays.size);
      within = h;
      count = omega (arith, g.count, f.count, f.stays.size);
      tidy = f.tidy;
      choices = g.choices;
      knows = knows-later f.stays g.knows;
    }

-- A node may be put behind the others.

not-both : {b : Bool} → b ≡ false → b ≡ true → ⊥
not-both e q = let z : ◌≡◌ {A = ℕ} 0 1 = cc in omega arith

pub fresh-leaf : {a : Arena} {o : ℕ} → a.n < length a.nodes → Tidy a.nodes a.n → o < first_call → Fresh a o 0 0
fresh-leaf {a} {o} l d h =
    let v : operation_of (node_of o 0 0) ≡ o = omega arith in
    let few : has_two o ≡ false = two-less o (omega arith) in
    record {
      room = l;
      tidy = d;
      known = omega arith;
      left = omega arith;
      right = omega arith;
      low = record { op = omega arith; left = λ q. absurd (omega arith); right = λ q. absurd (not-both few (rw v at q)) };
    }

pub fresh-two : {a : Arena} {o i j : ℕ} → a.n < length a.nodes → Tidy a.nodes a.n → o < ops_end → i < a.n → j < a.n → Fresh a o i j
fresh-two {a} {o} {i} {j} l d h li lj =
    let m : a.n ≤ 4096 = omega (arith, d.size, d.fits) in
    let p = parts (node_of o i j) o i j refl (omega arith) (omega arith) in
    record {
      room = l;
      tidy = d;
      known = h;
      left = omega arith;
      right = omega arith;
      low = record { op = omega (arith, p.op); left = λ q. omega (arith, p.left); right = λ q. omega (arith, p.right) };
    }

pub fresh-number : {a : Arena} {o i m : ℕ} → a.n < length a.nodes → Tidy a.nodes a.n → o < ops_end → has_two o ≡ false → i < a.n → m ≤ 64 → Fresh a o i m
fresh-number {a} {o} {i} {m} l d h few li lm =
    let n : a.n ≤ 4096 = omega (arith, d.size, d.fits) in
    let p = parts (node_of o i m) o i m refl (omega arith) (omega arith) in
    record {
      room = l;
      tidy = d;
      known = h;
      left = omega arith;
      right = omega arith;
      low = record { op = omega (arith, p.op); left = λ q. omega (arith, p.left); right = λ q. absurd (not-both few (rw p.op at q)) };
    }

-- The parts of a node that was put stand below it.

pub leaf-node : {a b : Arena} {o k : ℕ} → Interned a (node_of o 0 0) b k → None b.nodes k o
leaf-node u = record { node = omega (arith, u.at) }

pub one-node : {a b : Arena} {o i k : ℕ} → Interned a (node_of o i 0) b k → first_call ≤ o → o < ops_end → i < index_room → One b.nodes k o i
unfolding Down
one-node {a} {b} {o} {i} {k} u lo hi li =
    let p = parts (get_or b.nodes k 0) o i 0 u.at (omega arith) li in
    let d = u.tidy.down k u.within in
    record { below = omega (arith, p.left, d.left (omega (arith, p.op))); small = li; node = omega (arith, u.at) }

pub both-node : {a b : Arena} {o i j k : ℕ} → Interned a (node_of o i j) b k → first_call ≤ o → o < ops_end → has_two o ≡ true → i < index_room → j < index_room → Both b.nodes k o i j
unfolding Down
both-node {a} {b} {o} {i} {j} {k} u lo hi has li lj =
    let p = parts (get_or b.nodes k 0) o i j u.at (omega arith) li in
    let d = u.tidy.down k u.within in
    let t : has_two (op_at b.nodes k) ≡ true = rw p.op has in
    record {
      below = omega (arith, p.left, d.left (omega (arith, p.op)));
      small = li;
      below₂ = omega (arith, p.right, d.right t);
      small₂ = lj;
      node = u.at;
    }

pub number-node : {a b : Arena} {o i m k : ℕ} → Interned a (node_of o i m) b k → first_call ≤ o → o < ops_end → i < index_room → m ≤ 64 → Numbered b.nodes k o i m
unfolding Down
number-node {a} {b} {o} {i} {m} {k} u lo hi li lm =
    let p = parts (get_or b.nodes k 0) o i m u.at (omega arith) li in
    let d = u.tidy.down k u.within in
    record { below = omega (arith, p.left, d.left (omega (arith, p.op))); small = li; few = lm; node = u.at }

has-pair : (o : Pair) → has_two (two_op o) ≡ true
unfolding has_two two_op
has-pair (calls operations) = refl
has-pair (calls done) = refl
has-pair (joins meet) = refl
has-pair (joins join) = refl

-- The beginnings by their numbers.

pub leaf-head : (h : Head) → head_op h < first_call → (b : Base) × (h ≡ is_base b)
unfolding head_op
leaf-head (is_base b) l = (b, refl)
leaf-head (is_call f) l = absurd (omega (arith, (fn-range f).low))
leaf-head is_oe l = absurd (omega arith)
leaf-head is_ao l = absurd (omega arith)
leaf-head (is_call2 operations) l = absurd (omega arith)
leaf-head (is_call2 done) l = absurd (omega arith)
leaf-head is_bracket l = absurd (omega arith)
leaf-head is_choice l = absurd (omega arith)

pub record OneHead (h : Head) : Type 0 where
  pub make : Term → Term
  pub makes : Makes (head_op h) make
  pub is : (rd : Reader Term) (σ : Choices) (s : Bytes) → inner rd σ h s ≡ closed rd make s

pub one-head : (h : Head) → first_call ≤ head_op h → head_op h < first_pair → OneHead h
unfolding head_op inner Holds
one-head (is_base b) l m = absurd (omega (arith, base-small b))
one-head (is_call f) l m = record { make = call f; makes = record { builds = λ ns k i a x y. (i, x, y) }; is = λ rd σ s. refl }
one-head is_oe l m = record { make = oe; makes = record { builds = λ ns k i a x y. (i, x, y) }; is = λ rd σ s. refl }
one-head is_ao l m = record { make = ao; makes = record { builds = λ ns k i a x y. (i, x, y) }; is = λ rd σ s. refl }
one-head (is_call2 operations) l m = absurd (omega arith)
one-head (is_call2 done) l m = absurd (omega arith)
one-head is_bracket l m = absurd (omega arith)
one-head is_choice l m = absurd (omega arith)

-- Behind a call of two terms stands the comma.
pub joints-comma : (op : ℕ) → op < first_join → joints op ≡ pair (calls (fn2_at op)) ∷ []
unfolding joints
joints-comma op h = rw (lt-ltb op first_join h)

comma-paired : (f : Fn2) (op : ℕ) → op < first_join → fn2_at op ≡ f → (rd : Reader Term) (σ : Choices) (s : Bytes) → inner rd σ (is_call2 f) s ≡ paired rd σ op s
unfolding inner paired scan either spell_joint parting next ending
comma-paired f op small is rd σ s = next_agree (rd s) _ _ (λ a r e. go a r (skip (ascii ",") r) refl)
  where
    go : (a : Term) (r : Bytes) (o : Read (Unit {0})) → skip (ascii ",") r ≡ o → next (skip (ascii ",") r) (λ _. closed rd (two (calls f) a)) ≡ next (scan spell_joint (joints op) r) (ending rd σ a)
    go a r fail q = rw (joints-comma op small, is, q)
    go a r (got u w) q = rw (joints-comma op small, is, q)

sign-paired : (rd : Reader Term) (σ : Choices) (s : Bytes) → inner rd σ is_bracket s ≡ paired rd σ bracket_head s
unfolding inner paired joints scan either spell_joint parting spell_middle middles second less next ending
sign-paired rd σ s = next_agree (rd s) _ _ (λ a r e. go a r (skip (ascii "&") r) refl (skip (ascii "+") r) refl (skip (ascii "-{v") r) refl)
  where
    go : (a : Term) (r : Bytes) (o : Read (Unit {0})) → skip (ascii "&") r ≡ o → (p : Read (Unit {0})) → skip (ascii "+") r ≡ p → (q : Read (Unit {0})) → skip (ascii "-{v") r ≡ q → next (scan spell_middle middles r) (second rd σ a) ≡ next (scan spell_joint (joints bracket_head) r) (ending rd σ a)
    go a r (got u w) e p e' q e'' = rw e
    go a r fail e (got u w) e' q e'' = rw (e, e')
    go a r fail e fail e' (got u w) e'' = rw (e, e', e'')
    go a r fail e fail e' fail e'' = rw (e, e', e'')

pub two-head : (h : Head) → first_pair ≤ head_op h → head_op h < choice_head → (rd : Reader Term) (σ : Choices) (s : Bytes) → inner rd σ h s ≡ paired rd σ (head_op h) s
unfolding head_op fn2_at
two-head (is_base b) l m rd σ s = absurd (omega (arith, base-small b))
two-head (is_call f) l m rd σ s = absurd (omega (arith, (fn-range f).high))
two-head is_oe l m rd σ s = absurd (omega arith)
two-head is_ao l m rd σ s = absurd (omega arith)
two-head (is_call2 operations) l m rd σ s = comma-paired operations first_pair (omega arith) refl rd σ s
two-head (is_call2 done) l m rd σ s = comma-paired done (first_pair + 1) (omega arith) refl rd σ s
two-head is_bracket l m rd σ s = sign-paired rd σ s
two-head is_choice l m rd σ s = absurd (omega arith)

pub choice-head : (h : Head) → choice_head ≤ head_op h → (rd : Reader Term) (σ : Choices) (s : Bytes) → inner rd σ h s ≡ choice σ s
unfolding head_op inner choice
choice-head (is_base b) l rd σ s = absurd (omega (arith, base-small b))
choice-head (is_call f) l rd σ s = absurd (omega (arith, (fn-range f).high))
choice-head is_oe l rd σ s = absurd (omega arith)
choice-head is_ao l rd σ s = absurd (omega arith)
choice-head (is_call2 operations) l rd σ s = absurd (omega arith)
choice-head (is_call2 done) l rd σ s = absurd (omega arith)
choice-head is_bracket l rd σ s = absurd (omega arith)
choice-head is_choice l rd σ s = refl

-- A term by its beginning.

-- What make is, where the number is that of a function, OE or AO.
pub record OneRead (σ : Choices) (s : Bytes) (at o e : ℕ) : Type 0 where
  pub make : Term → Term
  pub makes : Makes o make
  pub is : read_term σ (drop at s) ≡ closed (read_term σ) make (drop e s)

module _ (σ : Choices) (s : Bytes) (at : ℕ) where
  pub read-unknown : scan spell heads (drop at s) ≡ fail → read_term σ (drop at s) ≡ fail
  unfolding next
  read-unknown e = term-step σ (drop at s) ∙ rw e

  read_head : {o e : ℕ} (x : Signed head_op s at o e (scan spell heads (drop at s))) → read_term σ (drop at s) ≡ inner (read_term σ) σ x.thing (drop e s)
  unfolding next
  read_head x = term-step σ (drop at s) ∙ rw x.is

  pub read-leaf : {o e : ℕ} → Signed head_op s at o e (scan spell heads (drop at s)) → o < first_call → (b : Base) × (base_op b ≡ o) × (read_term σ (drop at s) ≡ got (base b) (drop e s))
  unfolding head_op inner
  read-leaf {o} {e} x l =
      let y = leaf-head x.thing (omega (arith, x.number_is)) in
      (y.0, ap head_op (sym y.1) ∙ x.number_is, read_head x ∙ ap (λ (g : Head). inner (read_term σ) σ g (drop e s)) y.1)

  pub read_one : {o e : ℕ} → Signed head_op s at o e (scan spell heads (drop at s)) → first_call ≤ o → o < first_pair → OneRead σ s at o e
  read_one {o} {e} x l m =
      let y = one-head x.thing (omega (arith, x.number_is)) (omega (arith, x.number_is)) in
      record { make = y.make; makes = subst (λ (p : ℕ). Makes p y.make) x.number_is y.makes; is = read_head x ∙ y.is (read_term σ) σ (drop e s) }

  pub read-pair : {o e : ℕ} → Signed head_op s at o e (scan spell heads (drop at s)) → first_pair ≤ o → o < choice_head → read_term σ (drop at s) ≡ paired (read_term σ) σ o (drop e s)
  read-pair {o} {e} x l m =
      read_head x ∙ two-head x.thing (omega (arith, x.number_is)) (omega (arith, x.number_is)) (read_term σ) σ (drop e s)
      ∙ ap (λ (p : ℕ). paired (read_term σ) σ p (drop e s)) x.number_is

  pub read_known : {o e : ℕ} → Signed head_op s at o e (scan spell heads (drop at s)) → choice_head ≤ o → read_term σ (drop at s) ≡ choice σ (drop e s)
  read_known {o} {e} x l = read_head x ∙ choice-head x.thing (omega (arith, x.number_is)) (read_term σ) σ (drop e s)

-- A term and its closing bracket.

module _ (rd : Reader Term) (make : Term → Term) (s : Bytes) where
  pub closed_none : rd s ≡ fail → closed rd make s ≡ fail
  unfolding closed next
  closed_none e = rw e

  pub closed-lost : {t : Term} {r : Bytes} → rd s ≡ got t r → skip (ascii ")") r ≡ fail → closed rd make s ≡ fail
  unfolding closed next
  closed-lost e q = rw (e, q)

  pub closed-got : {t : Term} {r w : Bytes} → rd s ≡ got t r → skip (ascii ")") r ≡ got tt w → closed rd make s ≡ got (make t) w
  unfolding closed next
  closed-got e q = rw (e, q)

-- A term, and then what is read behind it.

module _ (rd : Reader Term) (σ : Choices) (op : ℕ) (s : Bytes) where
  pub paired_none : rd s ≡ fail → paired rd σ op s ≡ fail
  unfolding paired next
  paired_none e = rw e

  pub paired-lost : {t : Term} {r : Bytes} → rd s ≡ got t r → scan spell_joint (joints op) r ≡ fail → paired rd σ op s ≡ fail
  unfolding paired next
  paired-lost e q = rw (e, q)

  pub paired-on : {t : Term} {r w : Bytes} {j : Joint} → rd s ≡ got t r → scan spell_joint (joints op) r ≡ got j w → paired rd σ op s ≡ ending rd σ t j w
  unfolding paired next
  paired-on e q = rw (e, q)

pub is-away : (j : Joint) → joint_op j ≡ ao_op → j ≡ away
unfolding joint_op
is-away (pair o) e = absurd (omega (arith, (two-range o).low))
is-away away e = refl

pub is-pair : (j : Joint) → (joint_op j ≡ ao_op → ⊥) → (o : Pair) × (j ≡ pair o)
unfolding joint_op
is-pair (pair o) h = (o, refl)
is-pair away h = absurd (h refl)

-- The names between two terms, by the number of what stands before.

pub joints-sign : (op : ℕ) → first_join ≤ op → joints op ≡ pair (joins meet) ∷ pair (joins join) ∷ away ∷ []
unfolding joints
joints-sign op h = rw (le-ltb op first_join h)

next-pair : (op : ℕ) → first_pair ≤ op → op < first_join → (op ≡ first_pair → ⊥) → op ≡ first_pair + 1
next-pair op l h n = go (ltb first_pair op) refl
  where
    go : (b : Bool) → ltb first_pair op ≡ b → op ≡ first_pair + 1
    go true e = omega (arith, ltb-true first_pair op e)
    go false e = absurd (n (omega (arith, ltb-false first_pair op e)))

pub fn2-number : (op : ℕ) → first_pair ≤ op → op < first_join → joint_op (pair (calls (fn2_at op))) ≡ op
unfolding joint_op two_op fn2_at
fn2-number op l h = go (eqb op first_pair) refl
  where
    go : (b : Bool) → eqb op first_pair ≡ b → two_op (calls (cond b operations done)) ≡ op
    go true e = sym (eqb-true op first_pair e)
    go false e = sym (next-pair op l h (eqb-false op first_pair e))

-- A node behind what was read, where one byte more is there.
pub fresh_on : {A : Type 0} {H : List ℕ → ℕ → A → Type 0} {s : Bytes} {at i e o j : ℕ} {vars : List ℕ} {a b : Arena} {r : Read A} → Readable s at vars a → Found H s at a b i e r → e + 1 ≤ length s → o < ops_end → j < b.n → Fresh b o i j
fresh_on g f l h lj =
    fresh-two (omega (arith, g.room, g.count, f.count, f.stays.size)) f.tidy h f.within lj

-- A node on two things that were read one after the other, with a byte between them.
pub fresh-pair : {A B : Type 0} {H : List ℕ → ℕ → A → Type 0} {H' : List ℕ → ℕ → B → Type 0} {s : Bytes} {at i e y j z o : ℕ} {vars : List ℕ} {a b d : Arena} {r : Read A} {r' : Read B} → Readable s at vars a → Found H s at a b i e r → Found H' s y b d j z r' → e + 1 ≤ y → o < ops_end → Fresh d o i j
fresh-pair g f f' l h =
    fresh-two (omega (arith, g.room, g.count, f.count, f'.count, f'.end, f.stays.size, f'.stays.size)) f'.tidy h (omega (arith, f.within, f'.stays.more)) f'.within

-- A choice, and a term without one.

pub choice-none : (σ : Choices) (s : Bytes) → known σ s ≡ fail → choice σ s ≡ fail
unfolding choice next
choice-none σ s e = rw e

pub less_none : (σ : Choices) (t : Term) (s : Bytes) → known σ s ≡ fail → less σ t s ≡ fail
unfolding less next
less_none σ t s e = rw e

module _ {s : Bytes} {at : ℕ} {vars : List ℕ} {a : Arena} {v e : ℕ} (g : Readable s at vars a) (x : Choice s at vars v e) where
  below : v < a.n
  below = omega (arith, x.node, g.knows.below x.index x.known)

  small : {i : ℕ} → i < a.n → i < index_room
  small l = omega (arith, g.tidy.size, g.tidy.fits)

  pub choice-fresh : Fresh a oe_op v 0
  choice-fresh =
      let l = below in
      fresh-two (omega (arith, g.count, g.room, x.fits)) g.tidy (omega arith) l (omega arith)

  pub choice-found : (σ : Choices) {ns : List ℕ} {p : Place} → Knows a vars σ → Put a (node_of oe_op v 0) e ns p → Agree Holds s at a ns (Some p) (choice σ (drop at s))
  unfolding choice next Holds
  choice-found σ w u =
      let m = meant a.nodes σ x w.holds in
      let q₀ : choice σ (drop at s) ≡ got (oe m.term) (drop (at + 1) s) = rw m.reads in
      let q : choice σ (drop at s) ≡ got (oe m.term) (drop e s) = q₀ ∙ ap (λ (i : ℕ). got (oe m.term) (drop i s)) (sym x.behind) in
      put-found (oe m.term) u (stays-refl a) (omega (arith, x.behind)) (omega (arith, x.behind, x.fits)) q
      (λ k n y. (v, one-node y (omega arith) (omega arith) (small below), holds_later a _ v m.term y.stays below m.holds))

  module _ (σ : Choices) (t : Term) (w : Knows a vars σ) where
    pub less-lost : skip (ascii "})") (drop e s) ≡ fail → less σ t (drop at s) ≡ fail
    unfolding less next
    less-lost q =
        let m = meant a.nodes σ x w.holds in
        rw (m.reads, ← x.behind, q)

    pub less-found : {i : ℕ} {ns : List ℕ} {p : Place} → i < a.n → Holds a.nodes i t → Hit s e (ascii "})") → Put a (node_of ao_op i 0) (e + 2) ns p → Agree Holds s at a ns (Some p) (less σ t (drop at s))
    unfolding less next Holds
    less-found {i} l y h u =
        let m = meant a.nodes σ x w.holds in
        let q : less σ t (drop at s) ≡ got (ao t) (drop (e + 2) s) = rw (m.reads, ← x.behind, h.skips) in
        put-found (ao t) u (stays-refl a) (omega (arith, x.behind)) h.fits q
        (λ k n z. (i, one-node z (omega arith) (omega arith) (small l), holds_later a _ i t z.stays l y))

-- A term in brackets behind a name.
pub call-found : {s : Bytes} {at i e o : ℕ} {a b : Arena} {ns : List ℕ} {p : Place} (rd : Reader Term) (make : Term → Term) → Makes o make → first_call ≤ o → o < ops_end → Found Holds s at a b i e (rd (drop at s)) → Hit s e (ascii ")") → Put b (node_of o i 0) (e + 1) ns p → Agree Holds s at a ns (Some p) (closed rd make (drop at s))
call-found {s} {at} {i} {e} {o} {a} {b} {ns} rd make k lo hi f h u =
    put-found (make f.thing) u f.stays (omega (arith, f.count)) h.fits (closed-got rd make (drop at s) f.reads h.skips)
    (λ l n y. k.builds ns l i f.thing (one-node y lo hi (omega (arith, f.within, f.tidy.size, f.tidy.fits))) (holds_later b _ i f.thing y.stays f.within f.holds))

-- Two terms in brackets, or a term without a choice.
module _ (rd : Reader Term) (σ : Choices) (op : ℕ) {s : Bytes} {at i e : ℕ} {a b : Arena} (f : Found Holds s at a b i e (rd (drop at s))) where
  pub two-lost : scan spell_joint (joints op) (drop e s) ≡ fail → paired rd σ op (drop at s) ≡ fail
  two-lost q = paired-lost rd σ op (drop at s) f.reads q

  module _ {o y : ℕ} (x : Signed joint_op s e o y (scan spell_joint (joints op) (drop e s))) where
    pub away-found : {ns : List ℕ} {p : Maybe Place} → o ≡ ao_op → Agree Holds s y b ns p (less σ f.thing (drop y s)) → Agree Holds s at a ns p (paired rd σ op (drop at s))
    unfolding ending
    away-found q u =
        let j = is-away x.thing (x.number_is ∙ q) in
        let z : paired rd σ op (drop at s) ≡ less σ f.thing (drop y s) = paired-on rd σ op (drop at s) f.reads x.is ∙ ap (λ (k : Joint). ending rd σ f.thing k (drop y s)) j in
        rw z (agree-from f.stays (omega (arith, f.count, x.more)) u)

    -- What the two terms make.
    pair-op : (o ≡ ao_op → ⊥) → (k : Pair) × (two_op k ≡ o) × (paired rd σ op (drop at s) ≡ closed rd (two k f.thing) (drop y s))
    unfolding ending joint_op
    pair-op n =
        let j = is-pair x.thing (λ q. n (sym x.number_is ∙ q)) in
        (j.0, ap joint_op (sym j.1) ∙ x.number_is, paired-on rd σ op (drop at s) f.reads x.is ∙ ap (λ (k : Joint). ending rd σ f.thing k (drop y s)) j.1)

    pub two_none : (o ≡ ao_op → ⊥) → rd (drop y s) ≡ fail → paired rd σ op (drop at s) ≡ fail
    two_none n q = let k = pair-op n in k.2 ∙ closed_none rd _ (drop y s) q

    module _ (n : o ≡ ao_op → ⊥) {d : Arena} {j z : ℕ} (f' : Found Holds s y b d j z (rd (drop y s))) where
      pub two-open : skip (ascii ")") (drop z s) ≡ fail → paired rd σ op (drop at s) ≡ fail
      two-open q = let k = pair-op n in k.2 ∙ closed-lost rd _ (drop y s) f'.reads q

      pub two-small : o < ops_end
      two-small = let k = pair-op n in omega (arith, k.1, (two-range k.0).high)

      pub two-found : {ns : List ℕ} {p : Place} → Hit s z (ascii ")") → Put d (node_of o i j) (z + 1) ns p → Agree Holds s at a ns (Some p) (paired rd σ op (drop at s))
      unfolding Holds
      two-found {ns} h u =
          let k = pair-op n in
          let hi : o < ops_end = two-small in
          let lo : first_call ≤ o = omega (arith, k.1, (two-range k.0).low) in
          let has : has_two o ≡ true = rw k.1 at (has-pair k.0) in
          put-found (two k.0 f.thing f'.thing) u (stays-trans f.stays f'.stays) (omega (arith, f.count, x.more, f'.count)) h.fits
          (k.2 ∙ closed-got rd _ (drop y s) f'.reads h.skips)
          (λ l m w. (
            i,
            j,
            subst (λ (c : ℕ). Both ns l c i j) (sym k.1) (both-node w lo hi has (omega (arith, f.within, f'.stays.more, f'.tidy.size, f'.tidy.fits)) (omega (arith, f'.within, f'.tidy.size, f'.tidy.fits))),
            holds_later b _ i f.thing (stays-trans f'.stays w.stays) f.within f.holds,
            holds_later d _ j f'.thing w.stays f'.within f'.holds,
          ))

-- A set or a collection.
pub leaf-found : {s : Bytes} {at o e : ℕ} {a : Arena} {ns : List ℕ} {p : Place} (σ : Choices) → Signed head_op s at o e (scan spell heads (drop at s)) → o < first_call → Put a (node_of o 0 0) e ns p → Agree Holds s at a ns (Some p) (read_term σ (drop at s))
unfolding Holds
leaf-found {s} {at} {o} {e} {a} {ns} σ x l u =
    let y = read-leaf σ s at x l in
    put-found (base y.0) u (stays-refl a) (omega (arith, x.more)) x.fits y.2 (λ k n w. subst (λ (c : ℕ). None ns k c) (sym y.1) (leaf-node w))
