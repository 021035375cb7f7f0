-- The clauses of a rule, read one after the other into a list and joined from the last one on.
-- Assumes nothing.
use mathlib.Core.Path.{◌≡◌, refl, sym, ap, subst, ◌∙◌}
use mathlib.Core.List.{List, [], ◌∷◌, ◌++◌}
use mathlib.Core.Logic.{⊎_elim}
use mathlib.Core.Option.{Option, none, some}
use Prim.Native.Nat.{ℕ, suc, ◌+◌, ◌-◌, ◌<◌, ◌≤◌}
use native.Mathlib.Nat.{eq-or-lt_of_le}
use native.Mathlib.Omega.{arith}
use lib.ListN.{length, get_or, drop, set, length-set, length-append, drop_of_length-le, get_or-append, get_or-eq_default}
use lib.Seq.{drop-cons, get_or-set_same, get_or-set_other, get_or-append_seam}
use Rattle.std.specs.Prelude.{Option as Maybe, Some, None}
use Rattle.syntax.specs.Bytes.{Bytes, ascii, Read, fail, got, next, skip}
use Rattle.syntax.specs.Term.{Choices}
use Rattle.syntax.specs.Rule.{Clause, Rule, last, also, read_clause, read_rule, whole, rule_of}
use Rattle.syntax.specs.Code.Arena.{Both, HoldsClause, HoldsRule, has_two, Tidy}
use Rattle.syntax.specs.Code.Reading.{Arena, mk, Stays, Fresh, Interned, Knows, Readable, Found, Agree, some_thing, graft, ClauseList}
use Rattle.syntax.specs.Code.Reading.{Collected, Collects, no_clause, some_clauses, Joinable, JoinedAt, Joined, Listing, Lists, no_list, some_list}
use Rattle.syntax.specs.declared.arena.Place.{Place}
use Rattle.syntax.specs.declared.tests.Clauses.{Clauses}
use Rattle.syntax.specs.declared.Listed.{Listed}
use Rattle.syntax.specs.Code.Nodes.{also_op, node_of, index_room}
use Rattle.syntax.proofs.BytesLaws.{next_agree, next-next}
use Rattle.syntax.proofs.ArenaLaws.{stays-refl, stays-trans, clause-later, rule-later, knows-later}
use Rattle.syntax.proofs.NameLaws.{Hit}
use Rattle.syntax.proofs.RuleLaws.{rule-room}
use Rattle.syntax.proofs.ReadingLaws.{fresh-two, both-node}
use Rattle.syntax.proofs.TestLaws.{rule-zero, rule-none, rule-last, rule-more}

-- An index at most c is below it or is c.
by_index : (P : ℕ → Type 0) (c i : ℕ) → i < c + 1 → (i < c → P i) → P c → P i
by_index P c i l f x = ⊎_elim (λ (e : i ≡ c). subst P (sym e) x) f (eq-or-lt_of_le (at_most l))
  where
    at_most : i < c + 1 → i ≤ c
    at_most h = omega arith

graft-more : (cs : List Clause) (d : Clause) (ρ : Rule) → graft (cs ++ (d ∷ [])) ρ ≡ graft cs (also d ρ)
unfolding graft
graft-more [] d ρ = refl
graft-more (c ∷ cs) d ρ = ap (also c) (graft-more cs d ρ)

next-same : {A : Type 0} (m : Read A) → m ≡ next m (λ a w. got a w)
unfolding next
next-same fail = refl
next-same (got a w) = refl

-- The first c clauses, with a `^` behind each, were read from `start` to `at`.
pub record Passed (σ : Choices) (K : ℕ) (s : Bytes) (start : ℕ) (list : List ℕ) (a : Arena) (at c : ℕ) : Type 0 where
  pub before : List Clause
  pub size : length before ≡ c
  pub reads : read_rule σ K (drop start s) ≡ next (read_rule σ (K - c) (drop at s)) (λ ρ w. got (graft before ρ) w)
  pub each : (i : ℕ) → i < c → (d : Clause) → HoldsClause a.nodes (get_or list i 0) (get_or before i d)

pub record Passing (s : Bytes) (start : ℕ) (vars : List ℕ) (a₀ : Arena) (K : ℕ) (list : List ℕ) (a : Arena) (at c : ℕ) : Type 0 where
  pub few : c ≤ K
  pub size : length list ≡ K
  pub below : (i : ℕ) → i < c → get_or list i 0 < a.n
  pub within : at ≤ length s
  pub count : a.n + start + c ≤ a₀.n + at
  pub stays : Stays a₀ a
  pub tidy : Tidy a.nodes a.n
  pub passed : (σ : Choices) → Knows a₀ vars σ → Passed σ K s start list a at c

pub pass-start : {s : Bytes} {start : ℕ} {vars list : List ℕ} {a : Arena} → Readable s start vars a → Passing s start vars a (length list) list a start 0
unfolding graft
pass-start {s} {start} {vars} {list} {a} g =
    record {
      few = omega arith;
      size = refl;
      below = λ i h. absurd (omega arith);
      within = g.within;
      count = omega arith;
      stays = stays-refl a;
      tidy = g.tidy;
      passed = λ σ w. record { before = []; size = refl; reads = same σ ∙ next-same (read_rule σ (length list - 0) (drop start s)); each = λ i h d. absurd (omega arith) };
    }
  where
    same : (σ : Choices) → read_rule σ (length list) (drop start s) ≡ read_rule σ (length list - 0) (drop start s)
    same σ = let z : length list ≡ length list - 0 = omega arith in ap (λ (m : ℕ). read_rule σ m (drop start s)) z

module _ {s : Bytes} {start K at c : ℕ} {vars list : List ℕ} {a₀ a : Arena} (p : Passing s start vars a₀ K list a at c) where
  pub pass-ready : Readable s start vars a₀ → Readable s at vars a
  pass-ready g =
      record {
        room = omega (arith, g.room, p.stays.size);
        within = p.within;
        count = omega (arith, g.count, p.count, p.stays.size);
        tidy = p.tidy;
        choices = g.choices;
        knows = knows-later p.stays g.knows;
      }

  module _ (σ : Choices) (w : Knows a₀ vars σ) where
    pub pass-full : K ≤ c → read_rule σ K (drop start s) ≡ fail
    unfolding next
    pass-full l =
        let q = p.passed σ w in
        let z : K - c ≡ 0 = omega arith in
        q.reads ∙ rw (rule-zero σ (K - c) (drop at s) z)

    module _ (l : c < K) where
      more : K - c ≡ 0 → ⊥
      more e = omega arith

      pub pass-none : read_clause σ (drop at s) ≡ fail → read_rule σ K (drop start s) ≡ fail
      unfolding next
      pass-none e = let q = p.passed σ w in q.reads ∙ rw (rule-none σ (K - c) more (drop at s) e)

      module _ {b : Arena} {k e : ℕ} (f : Found HoldsClause s at a b k e (read_clause σ (drop at s))) where
        -- The clauses so far and the new one.
        each_more : (cs : List Clause) → length cs ≡ c → ((i : ℕ) → i < c → (d : Clause) → HoldsClause a.nodes (get_or list i 0) (get_or cs i d)) → (i : ℕ) → i < c → (d : Clause) → HoldsClause b.nodes (get_or (set list c k) i 0) (get_or cs i d)
        each_more cs n h i m d =
            rw (get_or-set_other list c i k 0 (omega arith)) (clause-later a b (get_or list i 0) (get_or cs i d) f.stays (p.below i m) (h i m d))

        here : get_or (set list c k) c 0 ≡ k
        here = get_or-set_same list c k 0 (omega (arith, p.size))

        below_more : (i : ℕ) → i < c + 1 → get_or (set list c k) i 0 < b.n
        below_more i m =
            by_index (λ (i : ℕ). get_or (set list c k) i 0 < b.n) c i m
            (λ n. rw (get_or-set_other list c i k 0 (omega arith)) (omega (arith, p.below i n, f.stays.more)))
            (rw here f.within)

        pub pass-last : skip (ascii "^") (drop e s) ≡ fail → Collected s start a₀ b (set list c k) (c + 1) e (read_rule σ K (drop start s))
        unfolding next
        pass-last z =
            let q = p.passed σ w in
            let d : Clause = f.thing in
            let final : get_or q.before c d ≡ d = get_or-eq_default q.before d (omega (arith, q.size)) in
            record {
              before = q.before;
              final = d;
              reads = q.reads ∙ rw (rule-last σ (K - c) more f z);
              listed = record { size = omega (arith, q.size); each = λ i m. by_index (λ (i : ℕ). HoldsClause b.nodes (get_or (set list c k) i 0) (get_or q.before i d)) c i m (λ n. each_more q.before q.size q.each i n d) (rw (here, final) f.holds) };
              below = below_more;
              many = omega (arith, length-set list c k, p.size);
              count = omega (arith, p.count, f.count);
              end = f.end;
              stays = stays-trans p.stays f.stays;
              tidy = f.tidy;
            }

        pass_on : Hit s e (ascii "^") → Passed σ K s start (set list c k) b (e + 1) (c + 1)
        unfolding next
        pass_on h =
            let q = p.passed σ w in
            let d : Clause = f.thing in
            let m : K - c - 1 ≡ K - (c + 1) = omega arith in
            let r : read_rule σ (K - c) (drop at s) ≡ next (read_rule σ (K - (c + 1)) (drop (e + 1) s)) (λ ρ v. got (also d ρ) v) = rule-more σ (K - c) more f h ∙ ap (λ (n : ℕ). next (read_rule σ n (drop (e + 1) s)) (λ ρ v. got (also d ρ) v)) m in
            record {
              before = q.before ++ (d ∷ []);
              size = simp length-append (omega (arith, q.size));
              reads =
                  q.reads ∙ rw r (next-next (read_rule σ (K - (c + 1)) (drop (e + 1) s)) _ _
                  ∙ next_agree (read_rule σ (K - (c + 1)) (drop (e + 1) s)) _ _ (λ ρ v _. ap (λ (x : Rule). got x v) (sym (graft-more q.before d ρ))));
              each = λ i n x. by_index (λ (i : ℕ). HoldsClause b.nodes (get_or (set list c k) i 0) (get_or (q.before ++ (d ∷ [])) i x)) c i n
                  (λ o. rw (get_or-append q.before (d ∷ []) x i (omega (arith, q.size))) (each_more q.before q.size q.each i o x))
                  (rw (here, ← q.size, get_or-append_seam q.before d [] x) f.holds);
            }

  pub pass-more : {b : Arena} {k e : ℕ} (σ₀ : Choices) (l : c < K) → Found HoldsClause s at a b k e (read_clause σ₀ (drop at s)) → Knows a₀ vars σ₀ → Hit s e (ascii "^") → ((σ : Choices) → Knows a₀ vars σ → Found HoldsClause s at a b k e (read_clause σ (drop at s))) → Passing s start vars a₀ K (set list c k) b (e + 1) (c + 1)
  pass-more {b} {k} σ₀ l f w₀ h fs =
      record {
        few = omega arith;
        size = length-set list c k ∙ p.size;
        below = below_more σ₀ w₀ l f;
        within = h.fits;
        count = omega (arith, p.count, f.count);
        stays = stays-trans p.stays f.stays;
        tidy = f.tidy;
        passed = λ σ w. pass_on σ w l (fs σ w) h;
      }

-- What was collected.

pub as-no-clause : {s : Bytes} {at : ℕ} {a : Arena} {ns list : List ℕ} {r : Read Rule} → Collects s at a ns list None r → r ≡ fail
as-no-clause (no_clause e) = e

pub uncollected : {s : Bytes} {at : ℕ} {a : Arena} {ns list : List ℕ} {p : Maybe Clauses} {r : Read Rule} → p ≡ None → r ≡ fail → Collects s at a ns list p r
uncollected q e = rw q (no_clause e)

pub as-clauses : {s : Bytes} {at : ℕ} {a : Arena} {ns list : List ℕ} {p : Clauses} {r : Read Rule} → Collects s at a ns list (Some p) r → Collected s at a (mk ns p.n) list p.count p.next r
as-clauses (some_clauses x) = x

module _ {s : Bytes} {at c e : ℕ} {a b : Arena} {list : List ℕ} {r : Read Rule} (x : Collected s at a b list c e r) where
  pub joinable : {vars : List ℕ} → Readable s at vars a → Joinable b list c e
  joinable g =
      record {
        some = omega (arith, x.listed.size);
        many = x.many;
        below = x.below;
        room = omega (arith, g.room, g.count, x.count, x.end, x.stays.size);
        tidy = x.tidy;
      }

  pub rule_found : {ns : List ℕ} {p : Place} → Joined b list c e ns p → Agree HoldsRule s at a ns (Some p) r
  rule_found {p = p} w =
      let y = w.rule in
      some_thing {p = p} (record {
        thing = graft x.before (last x.final);
        reads = x.reads ∙ ap (λ (i : ℕ). got (graft x.before (last x.final)) (drop i s)) (sym w.behind);
        holds = y.holds x.before x.final x.listed;
        within = y.within;
        count = omega (arith, x.count, y.few, w.behind);
        end = omega (arith, x.end, w.behind);
        stays = stays-trans x.stays y.stays;
        tidy = y.tidy;
      })

-- The rule of the clauses from k on is at a node.
pub record Joining (a : Arena) (list : List ℕ) (c : ℕ) (b : Arena) (k node : ℕ) : Type 0 where
  pub left : k < c
  pub within : node < b.n
  pub few : b.n + 1 + k ≤ a.n + c
  pub stays : Stays a b
  pub tidy : Tidy b.nodes b.n
  pub holds : (cs : List Clause) (d : Clause) → ClauseList a list c cs d → HoldsRule b.nodes node (graft (drop k cs) (last d))

module _ {a : Arena} {list : List ℕ} {c next : ℕ} (g : Joinable a list c next) where
  pub join-start : Joining a list c a (c - 1) (get_or list (c - 1) 0)
  unfolding graft HoldsRule
  join-start =
      record {
        left = omega (arith, g.some);
        within = g.below (c - 1) (omega (arith, g.some));
        few = omega (arith, g.some);
        stays = stays-refl a;
        tidy = g.tidy;
        holds = λ cs d x.
            let l : length cs ≤ c - 1 = omega (arith, x.size) in
            let h : HoldsClause a.nodes (get_or list (c - 1) 0) d = rw (get_or-eq_default cs d l) at (x.each (c - 1) (omega (arith, g.some))) in
            rw (drop_of_length-le cs l) h;
      }

  module _ {b : Arena} {k node : ℕ} (j : Joining a list c b k node) where
    pub join-end : k ≡ 0 → JoinedAt a list c b node
    join-end e =
        record {
          holds = λ cs d x. subst (λ (i : ℕ). HoldsRule b.nodes node (graft (drop i cs) (last d))) e (j.holds cs d x);
          within = j.within;
          few = omega (arith, j.few);
          stays = j.stays;
          tidy = j.tidy;
        }

    module _ (l : 0 < k) where
      item : get_or list (k - 1) 0 < b.n
      item = omega (arith, g.below (k - 1) (omega (arith, j.left)), j.stays.more)

      pub join-fresh : Fresh b also_op (get_or list (k - 1) 0) node
      join-fresh = fresh-two (omega (arith, g.room, j.few, j.stays.size)) j.tidy (omega arith) item j.within

      pub join-next : {d : Arena} {i : ℕ} → Interned b (node_of also_op (get_or list (k - 1) 0) node) d i → Joining a list c d (k - 1) i
      unfolding graft HoldsRule has_two
      join-next {d} {i} u =
          record {
            left = omega (arith, j.left);
            within = u.within;
            few = omega (arith, j.few, u.few);
            stays = stays-trans j.stays u.stays;
            tidy = u.tidy;
            holds = λ cs e x.
                let m : k - 1 < length cs = omega (arith, x.size, j.left) in
                let n : suc (k - 1) ≡ k = omega arith in
                let lim : b.n ≤ 4096 = omega (arith, j.tidy.size, j.tidy.fits) in
                let i₁ : get_or list (k - 1) 0 < index_room = omega (arith, item) in
                let i₂ : node < index_room = omega (arith, j.within) in
                let y : Both d.nodes i also_op (get_or list (k - 1) 0) node = both-node u (omega arith) (omega arith) refl i₁ i₂ in
                let o : get_or list (k - 1) 0 < a.n = g.below (k - 1) (omega (arith, j.left)) in
                let t : HoldsClause d.nodes (get_or list (k - 1) 0) (get_or cs (k - 1) e) = clause-later a d (get_or list (k - 1) 0) (get_or cs (k - 1) e) (stays-trans j.stays u.stays) o (x.each (k - 1) (omega (arith, j.left))) in
                let v : HoldsRule d.nodes node (graft (drop k cs) (last e)) = rule-later b d node (graft (drop k cs) (last e)) u.stays j.within (j.holds cs e x) in
                let q : drop (k - 1) cs ≡ get_or cs (k - 1) e ∷ drop k cs = drop-cons cs (k - 1) e m ∙ ap (λ (x : ℕ). get_or cs (k - 1) e ∷ drop x cs) n in
                subst (λ (x : List Clause). HoldsRule d.nodes i (graft x (last e))) (sym q) (get_or list (k - 1) 0, node, y, t, v);
          }

-- A whole text by its clauses.

pub listed-none : {s : Bytes} {a : Arena} {ns list : List ℕ} {k : ℕ} → length s ≤ k → read_rule [] k s ≡ fail → Lists s a ns list None (rule_of s)
unfolding whole
listed-none {s} {k = k} l e = no_list (sym (rule-room k s l) ∙ rw e)

module _ {s : Bytes} {c e k n : ℕ} {a : Arena} {ns list : List ℕ} (l : length s ≤ k) (x : Collected s 0 a (mk ns n) list c e (read_rule [] k s)) where
  pub listed-left : e < length s → Lists s a ns list None (rule_of s)
  unfolding whole
  listed-left h = no_list (sym (rule-room k s l) ∙ rw (x.reads, drop-cons s e 0 h))

  pub listed_here : length s ≤ e → Lists s a ns list (Some (record { count = c; n = n })) (rule_of s)
  unfolding whole
  listed_here h =
      let q : whole (read_rule [] k s) ≡ some (graft x.before (last x.final)) = rw (x.reads, drop_of_length-le s h) in
      some_list {w = record { count = c; n = n }} (record {
        before = x.before;
        final = x.final;
        is = sym (rule-room k s l) ∙ q;
        listed = x.listed;
        below = x.below;
        many = x.many;
        count = omega (arith, x.count, x.end);
        stays = x.stays;
        tidy = x.tidy;
      })

-- For those that call `clauses`.

pub as-listed : {s : Bytes} {a : Arena} {ns list : List ℕ} {w : Listed} {o : Option Rule} → Lists s a ns list (Some w) o → Listing s a (mk ns w.n) list w.count o
as-listed (some_list x) = x

pub as-unlisted : {s : Bytes} {a : Arena} {ns list : List ℕ} {o : Option Rule} → Lists s a ns list None o → o ≡ none
as-unlisted (no_list e) = e
