-- What each way out of the readers of tests, clauses and rules gives.
-- Assumes nothing.
use mathlib.Core.Path.{◌≡◌, refl, sym, ap, subst, ◌∙◌}
use mathlib.Core.Bool.{Bool, true, false}
use mathlib.Core.List.{List}
use Prim.Native.Nat.{ℕ, suc, ◌+◌, ◌-◌, ◌<◌, ◌≤◌}
use native.Mathlib.Omega.{arith}
use lib.ListN.{length, drop}
use Rattle.std.specs.Prelude.{Option as Maybe, Some}
use Rattle.syntax.specs.Bytes.{Bytes, ascii, fail, got, next, skip, either, scan}
use Rattle.syntax.specs.Term.{Term, Choices, read_term}
use Rattle.syntax.specs.Rule.{Cmp, lt, le, gt, ge, eq, ne, Sign, is, isnt, number, count, Test, member, alike, empty, sized, plain}
use Rattle.syntax.specs.Rule.{when, last, also, Between, is_in, is_sign, spell_cmp, cmps, spell_between, betweens, read_number, read_count}
use Rattle.syntax.specs.Rule.{read_second, read_test, read_clause, read_rule}
use Rattle.syntax.specs.Code.Arena.{alike_op, empty_op, cmp_number, Both, Holds, HoldsTest, HoldsClause, has_two}
use Rattle.syntax.specs.Code.Reading.{Stands, Signed, itself, between_op, Arena, Fresh, Put, Readable, Found, Agree, counted, sized_test, related_test}
use Rattle.syntax.specs.declared.arena.Place.{Place}
use Rattle.syntax.specs.Code.Nodes.{member_op, first_alike, first_empty, first_numbered, first_counted, when_op, node_of, index_room}
use Rattle.syntax.proofs.ArenaLaws.{two_none, two-high, stays-refl, stays-trans, holds_later, test-later}
use Rattle.syntax.proofs.NameLaws.{Hit, hit, miss}
use Rattle.syntax.proofs.ReadingLaws.{put-found, agree-from, fresh-two, fresh-number, fresh-pair, one-node, both-node, number-node}
use Rattle.syntax.proofs.RuleLaws.{number_small}

-- The numbers of comparisons and signs.

pub cmp-small : (c : Cmp) → cmp_number c < 6
unfolding cmp_number
cmp-small lt = omega arith
cmp-small le = omega arith
cmp-small gt = omega arith
cmp-small ge = omega arith
cmp-small eq = omega arith
cmp-small ne = omega arith

pub alike-range : (g : Sign) → (first_alike ≤ alike_op g) × (alike_op g < first_empty)
unfolding alike_op
alike-range is = (omega arith, omega arith)
alike-range isnt = (omega arith, omega arith)

pub empty-range : (g : Sign) → (first_empty ≤ empty_op g) × (empty_op g < first_numbered)
unfolding empty_op
empty-range is = (omega arith, omega arith)
empty-range isnt = (omega arith, omega arith)

pub record BetweenRange (o : ℕ) : Type 0 where
  pub low : member_op ≤ o
  pub high : o < first_empty
  pub has : has_two o ≡ true

pub between-range : (m : Between) → BetweenRange (between_op m)
unfolding between_op alike_op has_two
between-range is_in = record { low = omega arith; high = omega arith; has = refl }
between-range (is_sign is) = record { low = omega arith; high = omega arith; has = refl }
between-range (is_sign isnt) = record { low = omega arith; high = omega arith; has = refl }

-- A number or a count behind a comparison.

small : {s : Bytes} {at i : ℕ} {vars : List ℕ} {a : Arena} → Readable s at vars a → i < a.n → i < index_room
small g l = omega (arith, g.tidy.size, g.tidy.fits)

pub count-lost : (σ : Choices) (o : Cmp) (t : Term) (w : Bytes) → skip (ascii "|") w ≡ fail → read_number w ≡ fail → counted σ o t w ≡ fail
unfolding counted read_count either next
count-lost σ o t w e q = rw (e, q)

module _ (σ : Choices) (o : Cmp) (t : Term) {s : Bytes} {at : ℕ} where
  pub number-found : {i c m e : ℕ} {vars : List ℕ} {a : Arena} {ns : List ℕ} {p : Place} → Readable s at vars a → i < a.n → c < 6 → cmp_number o ≡ c → Holds a.nodes i t → skip (ascii "|") (drop at s) ≡ fail → Signed itself s at m e (read_number (drop at s)) → Put a (node_of (first_numbered + c) i m) e ns p → Agree HoldsTest s at a ns (Some p) (counted σ o t (drop at s))
  unfolding counted read_count either next HoldsTest
  number-found {i} {c} {m} {e} {vars} {a} {ns} g l lc q y z x u =
      let w : read_number (drop at s) ≡ got m (drop e s) = x.is ∙ ap (λ (n : ℕ). got n (drop e s)) x.number_is in
      let r : counted σ o t (drop at s) ≡ got (sized o t (number m)) (drop e s) = rw (z, w) in
      let lm : m ≤ 64 = number_small 64 m (drop at s) (drop e s) w in
      put-found (sized o t (number m)) u (stays-refl a) (omega (arith, x.more)) x.fits r
      (λ k n v. (i, rw q (number-node v (omega arith) (omega arith) (small g l) lm), holds_later a _ i t v.stays l y))

  module _ (h : Hit s at (ascii "|")) where
    pub count_none : read_term σ (drop (at + 1) s) ≡ fail → counted σ o t (drop at s) ≡ fail
    unfolding counted read_count either next
    count_none e = rw (h.skips, e)

    module _ {a b : Arena} {j e : ℕ} (x : Found Holds s (at + 1) a b j e (read_term σ (drop (at + 1) s))) where
      pub count-open : skip (ascii "|") (drop e s) ≡ fail → counted σ o t (drop at s) ≡ fail
      unfolding counted read_count either next
      count-open q = rw (h.skips, x.reads, q)

      pub count-found : {i c : ℕ} {vars : List ℕ} {ns : List ℕ} {p : Place} → Readable s at vars a → i < a.n → c < 6 → cmp_number o ≡ c → Holds a.nodes i t → Hit s e (ascii "|") → Put b (node_of (first_counted + c) i j) (e + 1) ns p → Agree HoldsTest s at a ns (Some p) (counted σ o t (drop at s))
      unfolding counted read_count either next HoldsTest
      count-found {i} {c} {vars} {ns} g l lc q y h' u =
          let r : counted σ o t (drop at s) ≡ got (sized o t (count x.thing)) (drop (e + 1) s) = rw (h.skips, x.reads, h'.skips) in
          let lj : j < index_room = omega (arith, x.within, x.tidy.size, x.tidy.fits) in
          put-found (sized o t (count x.thing)) u x.stays (omega (arith, x.count)) h'.fits r
          (λ k n v. (
            i,
            j,
            rw q (both-node v (omega arith) (omega arith) (two-high (first_counted + c) (omega arith)) (small g l) lj),
            holds_later a _ i t (stays-trans x.stays v.stays) l y,
            holds_later b _ j x.thing v.stays x.within x.holds,
          ))

pub number-fresh : {s : Bytes} {at i c m e : ℕ} {vars : List ℕ} {a : Arena} → Readable s at vars a → i < a.n → c < 6 → Signed itself s at m e (read_number (drop at s)) → Fresh a (first_numbered + c) i m
number-fresh {s} {at} {m = m} {e = e} g l lc x =
    let w : read_number (drop at s) ≡ got m (drop e s) = x.is ∙ ap (λ (n : ℕ). got n (drop e s)) x.number_is in
    fresh-number (omega (arith, g.room, g.count, x.more, x.fits)) g.tidy (omega arith) (two_none _ (omega arith) (omega arith)) l (number_small 64 m (drop at s) (drop e s) w)

-- A test of a count.

pub sized-none : (σ : Choices) (w : Bytes) → read_term σ w ≡ fail → sized_test σ w ≡ fail
unfolding sized_test next
sized-none σ w e = rw e

module _ (σ : Choices) {s : Bytes} {at : ℕ} where
  module _ {a b : Arena} {i e : ℕ} (f : Found Holds s at a b i e (read_term σ (drop at s))) where
    pub sized-open : skip (ascii "|") (drop e s) ≡ fail → sized_test σ (drop at s) ≡ fail
    unfolding sized_test next
    sized-open q = rw (f.reads, q)

    module _ (h : Hit s e (ascii "|")) where
      pub sized-lost : scan spell_cmp cmps (drop (e + 1) s) ≡ fail → sized_test σ (drop at s) ≡ fail
      unfolding sized_test next
      sized-lost q = rw (f.reads, h.skips, q)

      pub sized-found : {c y : ℕ} {ns : List ℕ} {p : Maybe Place} (x : Signed cmp_number s (e + 1) c y (scan spell_cmp cmps (drop (e + 1) s))) → Agree HoldsTest s y b ns p (counted σ x.thing f.thing (drop y s)) → Agree HoldsTest s at a ns p (sized_test σ (drop at s))
      unfolding sized_test next
      sized-found {c} {y} x u =
          let r : sized_test σ (drop at s) ≡ counted σ x.thing f.thing (drop y s) = rw (f.reads, h.skips, x.is) in
          rw r (agree-from f.stays (omega (arith, f.count, x.more)) u)

-- A test of two terms.

-- The test that a sign makes of two terms.
abbrev tested : Between → Term → Term → Test
tested is_in a b = member a b
tested (is_sign g) a b = alike g a b

tested-holds : (m : Between) (a b : Term) {ns : List ℕ} {k i j : ℕ} → Both ns k (between_op m) i j → Holds ns i a → Holds ns j b → HoldsTest ns k (tested m a b)
unfolding HoldsTest between_op
tested-holds is_in a b {ns} {k} {i} {j} x y z = (i, j, x, y, z)
tested-holds (is_sign g) a b {ns} {k} {i} {j} x y z = (i, j, x, y, z)

-- Whether `{}` stands behind the sign.
abbrev Emptied : Bytes → ℕ → ℕ → Bool → Type 0
Emptied s at op r = (op < first_alike → r ≡ false) × (first_alike ≤ op → Stands s at (ascii "{}") r)

second-term : (σ : Choices) (m : Between) (a : Term) {s : Bytes} {at : ℕ} {r : Bool} → Emptied s at (between_op m) r → r ≡ false → read_second σ a m (drop at s) ≡ next (read_term σ (drop at s)) (λ b w. got (tested m a b) w)
unfolding read_second either between_op alike_op
second-term σ is_in a x e = refl
second-term σ (is_sign is) a x e = rw (miss (x.1 (omega arith)) e)
second-term σ (is_sign isnt) a x e = rw (miss (x.1 (omega arith)) e)

record Empty (σ : Choices) (m : Between) (a : Term) (s : Bytes) (at : ℕ) : Type 0 where
  sign : Sign
  op : empty_op sign ≡ between_op m + 2
  is : read_second σ a m (drop at s) ≡ got (empty sign a) (drop (at + 2) s)
  fits : at + 2 ≤ length s

second_empty : (σ : Choices) (m : Between) (a : Term) {s : Bytes} {at : ℕ} {r : Bool} → Emptied s at (between_op m) r → r ≡ true → at ≤ length s → Empty σ m a s at
unfolding read_second either between_op alike_op empty_op
second_empty σ is_in a x e l = let q = x.0 (omega arith) in let z : ◌≡◌ {A = ℕ} 0 1 = cc in absurd (omega arith)
second_empty σ (is_sign is) a x e l = let h = hit (x.1 (omega arith)) e l in record { sign = is; op = refl; is = rw h.skips; fits = h.fits }
second_empty σ (is_sign isnt) a x e l = let h = hit (x.1 (omega arith)) e l in record { sign = isnt; op = refl; is = rw h.skips; fits = h.fits }

pub related-none : (σ : Choices) (w : Bytes) → read_term σ w ≡ fail → related_test σ w ≡ fail
unfolding related_test next
related-none σ w e = rw e

module _ (σ : Choices) {s : Bytes} {at : ℕ} where
  module _ {a b : Arena} {i e : ℕ} (f : Found Holds s at a b i e (read_term σ (drop at s))) where
    pub related-lost : scan spell_between betweens (drop e s) ≡ fail → related_test σ (drop at s) ≡ fail
    unfolding related_test next
    related-lost q = rw (f.reads, q)

    module _ {o y : ℕ} {r : Bool} (x : Signed between_op s e o y (scan spell_between betweens (drop e s))) (z : Emptied s y o r) where
      range : BetweenRange o
      range = subst BetweenRange x.number_is (between-range x.thing)

      emptied : Emptied s y (between_op x.thing) r
      emptied = subst (λ (c : ℕ). Emptied s y c r) (sym x.number_is) z

      on : related_test σ (drop at s) ≡ read_second σ f.thing x.thing (drop y s)
      unfolding related_test next
      on = rw (f.reads, x.is)

      pub empty-fresh : {vars : List ℕ} → Readable s at vars a → Fresh b (o + 2) i 0
      empty-fresh g =
          let w = range in
          fresh-two (omega (arith, g.room, g.count, f.count, f.stays.size, x.more, x.fits)) f.tidy (omega (arith, w.high)) f.within (omega (arith, f.within))

      pub empty-found : {ns : List ℕ} {p : Place} → r ≡ true → Put b (node_of (o + 2) i 0) (y + 2) ns p → Agree HoldsTest s at a ns (Some p) (related_test σ (drop at s))
      unfolding HoldsTest
      empty-found {ns} e' u =
          let w = range in
          let v = second_empty σ x.thing f.thing emptied e' x.fits in
          let q : empty_op v.sign ≡ o + 2 = v.op ∙ ap (λ (c : ℕ). c + 2) x.number_is in
          put-found (empty v.sign f.thing) u f.stays (omega (arith, f.count, x.more)) v.fits (on ∙ v.is)
          (λ k m y'. (i, rw q (one-node y' (omega (arith, w.low)) (omega (arith, w.high)) (omega (arith, f.within, f.tidy.size, f.tidy.fits))), holds_later b _ i f.thing y'.stays f.within f.holds))

      pub related-empty : r ≡ false → read_term σ (drop y s) ≡ fail → related_test σ (drop at s) ≡ fail
      unfolding next
      related-empty e' q = on ∙ second-term σ x.thing f.thing emptied e' ∙ rw q

      module _ {d : Arena} {j g : ℕ} (f' : Found Holds s y b d j g (read_term σ (drop y s))) where
        pub related-fresh : {vars : List ℕ} → Readable s at vars a → Fresh d o i j
        related-fresh q = let w = range in fresh-pair q f f' x.more (omega (arith, w.high))

        pub related-found : {ns : List ℕ} {p : Place} → r ≡ false → Put d (node_of o i j) g ns p → Agree HoldsTest s at a ns (Some p) (related_test σ (drop at s))
        unfolding next
        related-found {ns} e' u =
            let w = range in
            let q : related_test σ (drop at s) ≡ got (tested x.thing f.thing f'.thing) (drop g s) = on ∙ second-term σ x.thing f.thing emptied e' ∙ rw f'.reads in
            put-found (tested x.thing f.thing f'.thing) u (stays-trans f.stays f'.stays) (omega (arith, f.count, x.more, f'.count)) f'.end q
            (λ k m v.
            tested-holds x.thing f.thing f'.thing
            (subst (λ (c : ℕ). Both ns k c i j) (sym x.number_is) (both-node v (omega (arith, w.low)) (omega (arith, w.high)) w.has (omega (arith, f.within, f'.stays.more, f'.tidy.size, f'.tidy.fits)) (omega (arith, f'.within, f'.tidy.size, f'.tidy.fits))))
            (holds_later b _ i f.thing (stays-trans f'.stays v.stays) f.within f.holds)
            (holds_later d _ j f'.thing v.stays f'.within f'.holds))

-- A test by its first byte.

module _ (σ : Choices) (s : Bytes) (at : ℕ) where
  pub test-sized : Hit s at (ascii "|") → read_test σ (drop at s) ≡ sized_test σ (drop (at + 1) s)
  unfolding read_test sized_test counted either
  test-sized h = rw h.skips

  pub test-related : skip (ascii "|") (drop at s) ≡ fail → read_test σ (drop at s) ≡ related_test σ (drop at s)
  unfolding read_test related_test either
  test-related e = rw e

-- A clause: a test, or two tests with `=>` between them.

module _ (σ : Choices) where
  pub clause-none : (w : Bytes) → read_test σ w ≡ fail → read_clause σ w ≡ fail
  unfolding read_clause next
  clause-none w e = rw e

  module _ {s : Bytes} {at i e : ℕ} {a b : Arena} (f : Found HoldsTest s at a b i e (read_test σ (drop at s))) where
    pub clause-plain : skip (ascii "=>") (drop e s) ≡ fail → Found HoldsClause s at a b i e (read_clause σ (drop at s))
    unfolding read_clause next either HoldsClause
    clause-plain q =
        record {
          thing = plain f.thing;
          reads = rw (f.reads, q);
          holds = f.holds;
          within = f.within;
          count = f.count;
          end = f.end;
          stays = f.stays;
          tidy = f.tidy;
        }

    module _ (h : Hit s e (ascii "=>")) where
      pub clause-lost : read_test σ (drop (e + 2) s) ≡ fail → read_clause σ (drop at s) ≡ fail
      unfolding read_clause next either
      clause-lost q = rw (f.reads, h.skips, q)

      pub clause-found : {d : Arena} {j z : ℕ} {ns : List ℕ} {p : Place} → Found HoldsTest s (e + 2) b d j z (read_test σ (drop (e + 2) s)) → Put d (node_of when_op i j) z ns p → Agree HoldsClause s at a ns (Some p) (read_clause σ (drop at s))
      unfolding read_clause next either HoldsClause has_two
      clause-found {d} {j} {z} f' u =
          let q : read_clause σ (drop at s) ≡ got (when f.thing f'.thing) (drop z s) = rw (f.reads, h.skips, f'.reads) in
          put-found (when f.thing f'.thing) u (stays-trans f.stays f'.stays) (omega (arith, f.count, f'.count)) f'.end q
          (λ k m v. (
            i,
            j,
            both-node v (omega arith) (omega arith) refl (omega (arith, f.within, f'.stays.more, f'.tidy.size, f'.tidy.fits)) (omega (arith, f'.within, f'.tidy.size, f'.tidy.fits)),
            test-later b _ i f.thing (stays-trans f'.stays v.stays) f.within f.holds,
            test-later d _ j f'.thing v.stays f'.within f'.holds,
          ))

  -- A rule by its first clause.

  pub rule-zero : (k : ℕ) (w : Bytes) → k ≡ 0 → read_rule σ k w ≡ fail
  unfolding read_rule
  rule-zero k w e = rw e

  module _ (k : ℕ) (more : k ≡ 0 → ⊥) where
    rule-is : (w : Bytes) → read_rule σ k w ≡ read_rule σ (suc (k - 1)) w
    rule-is w = let e : k ≡ suc (k - 1) = omega arith in ap (λ (m : ℕ). read_rule σ m w) e

    pub rule-none : (w : Bytes) → read_clause σ w ≡ fail → read_rule σ k w ≡ fail
    unfolding read_rule next
    rule-none w e = rule-is w ∙ rw e

    module _ {s : Bytes} {at i e : ℕ} {a b : Arena} (f : Found HoldsClause s at a b i e (read_clause σ (drop at s))) where
      pub rule-last : skip (ascii "^") (drop e s) ≡ fail → read_rule σ k (drop at s) ≡ got (last f.thing) (drop e s)
      unfolding read_rule next either
      rule-last q = rule-is (drop at s) ∙ rw (f.reads, q)

      pub rule-more : Hit s e (ascii "^") → read_rule σ k (drop at s) ≡ next (read_rule σ (k - 1) (drop (e + 1) s)) (λ ρ w. got (also f.thing ρ) w)
      unfolding read_rule next either
      rule-more h = rule-is (drop at s) ∙ rw (f.reads, h.skips)
