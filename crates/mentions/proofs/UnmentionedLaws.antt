-- A term that mentions neither S nor `sessions` has the same value whatever the sessions are.
-- Assumes nothing.
use mathlib.Core.Path.{◌≡◌, refl, sym, ap, ap₂, ◌∙◌}
use mathlib.Core.Bool.{Bool, true, false, true≢false}
use mathlib.Core.List.{List, [], ◌∷◌}
use mathlib.Core.Option.{Option, none, some}
use Prim.Native.Nat.{ℕ}
use native.Mathlib.Omega.{arith}
use Rattle.words.specs.Words.{item_of, less_of}
use Rattle.tables.specs.Tables.{Session, Tables, with_sessions}
use Rattle.tables.specs.Functions.{user_of_roles, roles_of_users, roles_of_permissions, juniors_of_users, seniors_of_permissions, permissions_of_roles}
use Rattle.tables.specs.Functions.{permissions_of_juniors, objects_of_permissions, operations_on, done_by}
use Rattle.syntax.specs.Bytes.{begins, skip}
use Rattle.syntax.specs.Term.{Fn, user, roles, roles*, sessions, permissions, permissions*, object, operations, done, Pair, calls, joins}
use Rattle.syntax.specs.Term.{Term, base, call, oe, ao, two, is_call, spell, text, Choices}
use Rattle.rules.specs.Kind.{Sort, Sort≟, s_u, s_r, s_op, s_obj, s_p, s_s, CR, CP, CU, Kind, element, set, collection, holds, one_of, base_kind, takes, call_kind, with, kind}
use Rattle.values.specs.Items.{sort_items, kind_items}
use Rattle.values.specs.Values.{of_sort, if, call_value, call2_value, two_value, item_in, one_value, value}
use Rattle.values.specs.Sets.{items_of_kind}
use Rattle.mentions.specs.Mention.{stands, mentions}
use Rattle.mentions.proofs.MentionLaws.{Silent, front, Plain, inside}
use Rattle.mentions.proofs.ApartLaws.{of_sessions, apart}

-- The second of two numbers is not looked at where the test holds.
if-same : (t : Bool) (a b c : ℕ) → (t ≡ false → b ≡ c) → if t a b ≡ if t a c
if-same true a b c h = refl
if-same false a b c h = h refl

-- A kind that was given has passed its test.
passed : (b : Bool) (k : Kind) {l : Kind} → (elim b as (λ _. Option Kind) [ true ↦ some k | false ↦ none ]) ≡ some l → b ≡ true
passed true k e = refl
passed false k e = cc

module _ (T : Tables) (ss : List Session) where
  abbrev others : Tables
  others = with_sessions T ss

  sort-same : (s : Sort) → of_sessions (some (set s)) ≡ false → sort_items others s ≡ sort_items T s
  unfolding sort_items of_sort
  sort-same s_u e = refl
  sort-same s_r e = refl
  sort-same s_op e = refl
  sort-same s_obj e = refl
  sort-same s_p e = refl
  sort-same s_s e = absurd (true≢false e)

  pub items-same : (o : Option Kind) → of_sessions o ≡ false → items_of_kind others o ≡ items_of_kind T o
  unfolding kind_items of_sort
  items-same none e = refl
  items-same (some (element s)) e = sort-same s e
  items-same (some (set s)) e = sort-same s e
  items-same (some (collection CU)) e = refl
  items-same (some (collection CR)) e = refl
  items-same (some (collection CP)) e = refl

  one_same : (o : Option Kind) (x : ℕ) → one_value others o x ≡ one_value T o x
  unfolding one_value
  one_same none x = refl
  one_same (some (element s)) x = refl
  one_same (some (set s)) x = refl
  one_same (some (collection CU)) x = refl
  one_same (some (collection CR)) x = refl
  one_same (some (collection CP)) x = refl

  two-same : (o : Pair) (v w : ℕ) → two_value others o v w ≡ two_value T o v w
  unfolding two_value call2_value operations_on done_by
  two-same (calls operations) v w = refl
  two-same (calls done) v w = refl
  two-same (joins o) v w = refl

  -- A function of a sort that it takes, but not of sessions: `user` is of roles then, and `roles` and `roles*` are of users or of permissions.
  module _ (s : Sort) (o : Option Kind) (is : (r : Sort) → of_sort r o ≡ holds (Sort≟ s r)) (e : of_sessions o ≡ false) where
    of-roles : one_of s (s_s ∷ s_r ∷ []) ≡ true → (a b c : ℕ) → if (of_sort s_r o) a b ≡ if (of_sort s_r o) a c
    unfolding one_of
    of-roles t a b c = if-same (of_sort s_r o) a b c (λ r. absurd (true≢false (sym (rw (← is s_s, e, ← is s_r, r) at t))))

    of_either : one_of s (s_u ∷ s_p ∷ s_s ∷ []) ≡ true → (a b c d : ℕ) → if (of_sort s_u o) a (if (of_sort s_p o) b c) ≡ if (of_sort s_u o) a (if (of_sort s_p o) b d)
    unfolding one_of
    of_either t a b c d =
        if-same (of_sort s_u o) a (if (of_sort s_p o) b c) (if (of_sort s_p o) b d) (λ u.
        if-same (of_sort s_p o) b c d (λ p. absurd (true≢false (sym (rw (← is s_u, u, ← is s_p, p, ← is s_s, e) at t)))))

    sort-call : (f : Fn) → Silent (spell (is_call f)) → one_of s (takes f) ≡ true → (w : ℕ) → call_value others f o w ≡ call_value T f o w
    unfolding call_value takes mentions stands begins skip spell user_of_roles roles_of_users roles_of_permissions juniors_of_users seniors_of_permissions permissions_of_roles permissions_of_juniors objects_of_permissions
    sort-call user q t w = of-roles t _ _ _
    sort-call roles q t w = of_either t _ _ _ _
    sort-call roles* q t w = of_either t _ _ _ _
    sort-call sessions q t w = absurd (true≢false q.silent)
    sort-call permissions q t w = refl
    sort-call permissions* q t w = refl
    sort-call object q t w = refl

  call_same : (f : Fn) → Silent (spell (is_call f)) → (o : Option Kind) → of_sessions o ≡ false → (l : Kind) × (with o (call_kind f) ≡ some l)
      → (w : ℕ) → call_value others f o w ≡ call_value T f o w
  unfolding call_kind of_sort
  call_same f q none e (l, h) w = let z : ◌≡◌ {A = ℕ} 0 1 = cc in absurd (omega arith)
  call_same f q (some (element s)) e (l, h) w = sort-call s (some (element s)) (λ r. refl) e f q (passed (one_of s (takes f)) _ h) w
  call_same f q (some (set s)) e (l, h) w = sort-call s (some (set s)) (λ r. refl) e f q (passed (one_of s (takes f)) _ h) w
  call_same f q (some (collection c)) e (l, h) w = let z : ◌≡◌ {A = ℕ} 0 1 = cc in absurd (omega arith)

  -- THE THEOREM: the value of a term that mentions neither does not depend on the sessions.
  pub value_same : (σ : Choices) (c : List ℕ) (t : Term) → Plain t → value others σ c t ≡ value T σ c t
  unfolding value kind text
  value_same σ c (base b) p = items-same (some (base_kind b)) (apart (base b) p)
  value_same σ c (call f a) p =
      let q = inside.in_call f a p in
      ap (call_value others f (kind a)) (value_same σ c a q)
      ∙ call_same f (front (spell (is_call f)) _ p.quiet) (kind a) (apart a q) p.kinded (value T σ c a)
  value_same σ c (oe a) p = one_same (kind a) (item_in σ c a)
  value_same σ c (ao a) p = ap (λ (w : ℕ). less_of w (item_of (item_in σ c a))) (value_same σ c a (inside.in_ao a p).0)
  value_same σ c (two o a b) p =
      let (q, r) = inside.in_two o a b p in
      ap₂ (two_value others o) (value_same σ c a q) (value_same σ c b r) ∙ two-same o (value T σ c a) (value T σ c b)
