-- Laws of overreach: what the code asks of words, row by row, is what the definition asks of items.
-- Assumes nothing.
use mathlib.Core.Path.{◌≡◌, refl, sym, ap, ◌∙◌}
use mathlib.Core.Bool.{Bool, true, false, ◌&&◌, ◌||◌, not, and-true as and_yes}
use mathlib.Core.List.{List, map}
use Prim.Native.Nat.{ℕ, ◌<◌, ◌^◌}
use native.Mathlib.Omega.{arith}
use lib.ListN.{length, get_or, length-map}
use borrow.Author.Tests.{eq-eqb, ne_eqb}
use Rattle.words.specs.Words.{has, item_of, join_of, less_of, image_of}
use Rattle.words.proofs.WordsLaws.{word-ext, word_none, word-self, has-zero, has_in, has_join, has-less, and-true, and_both, any_here, any-witness}
use Rattle.words.proofs.LoopLaws.{image-turn, image-begin, image-end}
use Rattle.words.proofs.RelationLaws.{some_item, image-image, has-image}
use Rattle.tables.specs.Tables.{Tables, user_rows, session_users, session_roles}
use Rattle.tables.specs.Functions.{dominates, assigned, active, juniors_of_users}
use Rattle.tables.specs.Checks.{implies, reflexive, ranked, in_reach}
use Rattle.tables.specs.Accepted.{Fits, Below, Bounded}
use Rattle.tables.specs.Code.Reads.{covered_by, reach_at, reaching}
use Rattle.tables.proofs.FlatLaws.{map_at}
use Rattle.tables.proofs.FitsLaws.{active-below, users-below}
use Rattle.tables.proofs.AllLaws.{all-every, all-at, all-ext}
use Rattle.tables.proofs.CheckLaws.{less_zero}
use Rattle.tables.proofs.RankLaws.{ranked-self}

-- ---- the loop: what one role dominates is taken from the rest

not-or : (a b c : Bool) → ((a && not b) && not c) ≡ (a && not (b || c))
not-or true true c = refl
not-or true false c = refl
not-or false b c = refl

-- Without b and then without c is without both.
less-less : (a b c : ℕ) → less_of (less_of a b) c ≡ less_of a (join_of (join_of 0 b) c)
unfolding less_of
less-less a b c =
    word-ext 64 (λ i. has (less_of a b) i && not (has c i)) (λ i. has a i && not (has (join_of (join_of 0 b) c) i)) (λ i l.
    ap (λ (x : Bool). x && not (has c i)) (has-less a b i l) ∙ not-or (has a i) (has b i) (has c i)
    ∙ sym (ap (λ (x : Bool). has a i && not x) (has_join (join_of 0 b) c i l ∙ ap (λ (x : Bool). x || has c i) (has_join 0 b i l ∙ ap (λ (x : Bool). x || has b i) (has-zero i)))))

-- One role is taken from `left`, and what it dominates from the rest.
pub cover-turn : (rows : List ℕ) (rest left r : ℕ) → r < 64 → has left r ≡ true
    → less_of (less_of rest (get_or rows r 0)) (image_of rows (less_of left (item_of r))) ≡ less_of rest (image_of rows left)
cover-turn rows rest left r l h =
    less-less rest (get_or rows r 0) (image_of rows (less_of left (item_of r)))
    ∙ ap (less_of rest) (image-turn rows 0 left r l h ∙ image-begin rows left)

less-zero-left : (w : ℕ) → less_of 0 w ≡ 0
unfolding less_of
less-zero-left w = word_none 64 (λ i. has 0 i && not (has w i)) (λ i _. ap (λ (b : Bool). b && not (has w i)) (has-zero i))

less-zero-right : (w : ℕ) → w < 2 ^ 64 → less_of w 0 ≡ w
unfolding less_of
less-zero-right w l =
    word-ext 64 (λ i. has w i && not (has 0 i)) (has w) (λ i _. ap (λ (b : Bool). has w i && not b) (has-zero i) ∙ and_yes (has w i)) ∙ word-self 64 w l

module _ (rows : List ℕ) (own over left rest : ℕ) (so_far : less_of rest (image_of rows left) ≡ less_of over (image_of rows own)) where
  -- Nothing is left over: it is covered.
  pub cover-end : rest ≡ 0 → true ≡ covered_by rows own over
  cover-end e =
      sym (eq-eqb (less_of over (image_of rows own)) 0 (sym so_far ∙ ap (λ (w : ℕ). less_of w (image_of rows left)) e ∙ less-zero-left (image_of rows left)))

  -- No role is left to cover it.
  pub cover-none : left ≡ 0 → rest < 2 ^ 64 → (rest ≡ 0 → ⊥) → false ≡ covered_by rows own over
  cover-none e l ne =
      let none : image_of rows 0 ≡ 0 = sym (image-begin rows 0) ∙ image-end rows 0 (omega arith) in
      let is : rest ≡ less_of over (image_of rows own) =
      sym (less-zero-right rest l) ∙ ap (less_of rest) (sym none ∙ ap (image_of rows) (sym e)) ∙ so_far in
      sym (ne_eqb (less_of over (image_of rows own)) 0 (λ z. ne (is ∙ z)))

-- What the code finds of session s.
pub reach-found : (rows assigned users active : List ℕ) (s : ℕ) {own over : ℕ} {b : Bool} → own ≡ image_of assigned (get_or users s 0) → over ≡ less_of (get_or active s 0) own
    → b ≡ covered_by rows own over → b ≡ reach_at rows assigned users active s
reach-found rows assigned users active s {own} qo qv qb =
    qb ∙ ap (covered_by rows own) qv ∙ ap (λ (o : ℕ). covered_by rows o (less_of (get_or active s 0) o)) qo

-- ---- the definition

-- `roles*` of users is two steps forth.
pub juniors-words : (T : Tables) (w : ℕ) → image_of T.role_rows (image_of (user_rows T) w) ≡ juniors_of_users T w
unfolding juniors_of_users
juniors-words T w = image-image (user_rows T) T.role_rows w

-- What a user has been assigned is among what these roles dominate, since a role dominates itself.
module _ (T : Tables) (b : Bounded T) (self : reflexive T.role_rows ≡ true) (w : ℕ) where
  abbrev own : ℕ
  own = image_of (user_rows T) w

  own-dominated : (x : ℕ) → x < 64 → has own x ≡ true → has (image_of T.role_rows own) x ≡ true
  unfolding reflexive Below
  own-dominated x l h =
      let p = any-witness 64 (λ u. has w u && has (get_or (user_rows T) u 0) x) (sym (has-image (user_rows T) w x l) ∙ h) in
      let k = has_in (get_or (user_rows T) p.0 0) (length T.role_rows) x (b.users p.0) (and-true (has w p.0) (has (get_or (user_rows T) p.0 0) x) p.2).1 in
      has-image T.role_rows own x l
      ∙ any_here 64 (λ r. has own r && has (get_or T.role_rows r 0) x) x l
      (and_both h (all-at (length T.role_rows) (λ r. dominates T.role_rows r r) self x k))

  -- So it does not matter whether they are taken away before.
  less-own : (active : ℕ) → less_of (less_of active own) (image_of T.role_rows own) ≡ less_of active (image_of T.role_rows own)
  unfolding less_of
  less-own active =
      word-ext 64 _ _ (λ x l.
      ap (λ (a : Bool). a && not (has (image_of T.role_rows own) x)) (has-less active own x l)
      ∙ absorbed (has active x) (has own x) (has (image_of T.role_rows own) x) (own-dominated x l))
    where
      absorbed : (a o i : Bool) → (o ≡ true → i ≡ true) → ((a && not o) && not i) ≡ (a && not i)
      absorbed true true true h = refl
      absorbed true true false h = h refl
      absorbed true false i h = refl
      absorbed false o i h = refl

pub reach-words : (T : Tables) → Fits T → Bounded T → ranked T.role_rows ≡ true
    → reaching T.role_rows (user_rows T) (map item_of (session_users T)) (session_roles T) ≡ in_reach T
unfolding reaching in_reach Below
reach-words T f b ok =
    let R = length T.role_rows in
    let n = length-map T.sessions (λ s. s.active) in
    rw n
    (all-ext (length T.sessions) _ _
    (λ s l.
    let u = item_of (get_or (session_users T) s 0) in
    let k : s < length (session_users T) = omega (arith, length-map T.sessions (λ s. s.user)) in
    rw (map_at item_of (session_users T) s k, less-own T b (ranked-self T.role_rows ok) u (get_or (session_roles T) s 0), juniors-words T u)
    (less_zero R (get_or (session_roles T) s 0) (juniors_of_users T u) f.roles (active-below (length T.users) R T.sessions b.sessions s))))

-- Document 02, N2, moves no tables from accepted to 8: where each active role is assigned, as document 01 asked, no session overreaches.
pub assigned-reach : (T : Tables) → Fits T → Bounded T → ranked T.role_rows ≡ true
    → ((s r : ℕ) → s < length T.sessions → active T s r ≡ true → assigned T (get_or (session_users T) s 0) r ≡ true) → in_reach T ≡ true
unfolding in_reach
assigned-reach T f b ok direct =
    all-every (length T.sessions) _ (λ s l. all-every (length T.role_rows) _ (λ r k. at s l r k (active T s r) refl))
  where
    at : (s : ℕ) → s < length T.sessions → (r : ℕ) → r < length T.role_rows → (a : Bool) → active T s r ≡ a
        → implies a (has (juniors_of_users T (item_of (get_or (session_users T) s 0))) r) ≡ true
    at s l r k false e = refl
    at s l r k true e =
        let u = get_or (session_users T) s 0 in
        let lr : r < 64 = omega (arith, f.roles) in
        let lu : u < 64 = omega (arith, users-below (length T.users) (length T.role_rows) T.sessions b.sessions s l, f.users) in
        let h : has (image_of (user_rows T) (item_of u)) r ≡ true =
        has-image (user_rows T) (item_of u) r lr ∙ some_item u (λ i. has (get_or (user_rows T) i 0) r) lu ∙ direct s r l e in
        sym (ap (λ (w : ℕ). has w r) (juniors-words T (item_of u))) ∙ own-dominated T b (ranked-self T.role_rows ok) (item_of u) r lr h
