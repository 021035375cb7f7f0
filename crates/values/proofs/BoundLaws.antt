-- Under a full choice every variable's item is an item of its sort, or a position of its collection: so counting among the items that
-- there are is counting among the 64 items of a word. Assumes nothing.
use mathlib.Core.Path.{◌≡◌, refl, sym, ap, ◌∙◌}
use mathlib.Core.Bool.{Bool, true, false, ◌&&◌, ◌||◌, not}
use mathlib.Core.List.{List, [], ◌∷◌, ◌++◌, append_assoc, append-nil}
use mathlib.Core.Logic.{⊎_elim}
use mathlib.Core.Option.{Option, none, some}
use Prim.Native.Nat.{ℕ, zero, suc, ◌+◌, ◌^◌, ◌<◌, ◌≤◌}
use native.Mathlib.Decide.{ℕ_discrete}
use native.Mathlib.Nat.{eq-or-lt_of_le}
use native.Mathlib.Omega.{arith}
use lib.Dec.{eqb, lit<}
use lib.ListN.{length, get_or, length-append}
use lib.Seq.{get_or-append_seam}
use borrow.Author.Tests.{eqb-true}
use Rattle.words.specs.Words.{has, all_of, item_of, meet_of, join_of, less_of}
use Rattle.words.proofs.WordsLaws.{has_in, and-true, all-lt, word_holds}
use Rattle.tables.specs.Tables.{Tables}
use Rattle.tables.specs.Accepted.{Below, Passes}
use Rattle.tables.proofs.PresentLaws.{present-is, present-lt, present-word}
use Rattle.tables.proofs.LeaverLaws.{named-present}
use Rattle.syntax.specs.Term.{b_u, Fn, user, roles, roles*, sessions, permissions, permissions*, object}
use Rattle.syntax.specs.Term.{meet, join, Term, base, call, oe, ao, two, Choices, Op, calls, joins}
use Rattle.syntax.specs.Bytes.{Bytes}
use Rattle.syntax.specs.Rule.{Rule, rule_vars, rule_of}
use Rattle.syntax.proofs.Closed.{Known, Ordered, rule-ordered}
use Rattle.rules.specs.Kind.{Sort, Sort≟, s_u, s_r, s_op, s_obj, s_p, s_s, CR, CP, CU, Kind, Kind≟, element, set, collection, base_kind, inside, takes, makes, Row, row, call2_kind, one_of, holds}
use Rattle.rules.specs.Kind.{of_element, call_kind, one_kind, others_kind, as_set, joined, two_kind, with, kind}
use Rattle.rules.specs.Accept.{refusal}
use Rattle.rules.proofs.ChoiceLaws.{some_with, accepted-choosable}
use Rattle.walks.specs.Choices.{variables, full_on}
use Rattle.walks.specs.Code.Among.{Within}
use Rattle.values.specs.Values.{op_value, two_value, variable_of, item_in, one_value, value}
use Rattle.values.specs.Items.{sort_items, kind_items}
use Rattle.values.specs.Sets.{set_of, items_of_kind, items_of, in_set, TakesPresent}
use Rattle.values.proofs.VariableLaws.{variable-digit, variable-at, variable-more}
use Rattle.values.proofs.InsideLaws.{Among, among-all, row_inside, permissions-few, call-among, call2-among}

-- Which items a word has by its making.
item-among : (u i : ℕ) → has u i ≡ true → Among u (item_of i)
unfolding item_of
item-among u i l x h = ap (has u) (eqb-true x i (word_holds 64 (λ j. eqb j i) x h)) ∙ l

less-among : (u v w : ℕ) → Among u v → Among u (less_of v w)
unfolding less_of
less-among u v w f x h = f x (and-true (has v x) (not (has w x)) (word_holds 64 (λ i. has v i && not (has w i)) x h)).0

meet-among : (u v w : ℕ) → Among u v → Among u (meet_of v w)
unfolding meet_of
meet-among u v w f x h = f x (and-true (has v x) (has w x) (word_holds 64 (λ i. has v i && has w i) x h)).0

join-among : (u v w : ℕ) → Among u v → Among u w → Among u (join_of v w)
unfolding join_of
join-among u v w f g x h = go (has v x) refl (word_holds 64 (λ i. has v i || has w i) x h)
  where
    go : (t : Bool) → has v x ≡ t → (t || has w x) ≡ true → has u x ≡ true
    go true e q = f x e
    go false e q = g x q

op-among : (o : Op) (u v w : ℕ) → Among u v → Among u w → Among u (op_value o v w)
unfolding op_value
op-among meet u v w f g = meet-among u v w f
op-among join u v w f g = join-among u v w f g

-- Which items each kind has.
module _ (T : Tables) where
  element-items : (f : Fn) (s : Sort) → kind_items T (of_element f s) ≡ sort_items T (makes f)
  unfolding kind_items of_element makes
  element-items user s = go (Sort≟ s s_s)
    where
      go : (q : Dec (s ≡ s_s)) → kind_items T (elim q [ yes p ↦ element s_u | no n ↦ set s_u ]) ≡ sort_items T s_u
      go (yes p) = refl
      go (no n) = refl
  element-items roles s = refl
  element-items roles* s = refl
  element-items sessions s = refl
  element-items permissions s = refl
  element-items permissions* s = refl
  element-items object s = refl

  call-items : (f : Fn) (k l : Kind) → call_kind f k ≡ some l → kind_items T l ≡ sort_items T (makes f)
  unfolding call_kind kind_items
  call-items f (element s) l e = go (one_of s (takes f)) e
    where
      go : (b : Bool) → ◌≡◌ {A = Option Kind} (elim b [ true ↦ some (of_element f s) | false ↦ none ]) (some l) → kind_items T l ≡ sort_items T (makes f)
      go true q = let p : of_element f s ≡ l = cc in rw (← p) (element-items f s)
      go false q = let z : ◌≡◌ {A = ℕ} 0 1 = cc in absurd (omega arith)
  call-items f (set s) l e = go (one_of s (takes f)) e
    where
      go : (b : Bool) → ◌≡◌ {A = Option Kind} (elim b [ true ↦ some (set (makes f)) | false ↦ none ]) (some l) → kind_items T l ≡ sort_items T (makes f)
      go true q = let p : set (makes f) ≡ l = cc in rw (← p)
      go false q = let z : ◌≡◌ {A = ℕ} 0 1 = cc in absurd (omega arith)
  call-items f (collection c) l e = let z : ◌≡◌ {A = ℕ} 0 1 = cc in absurd (omega arith)

  set-items : (k : Kind) → kind_items T (as_set k) ≡ kind_items T k
  unfolding as_set kind_items
  set-items (element s) = refl
  set-items (set s) = refl
  set-items (collection c) = refl

  -- Two terms that are joined, and what is made of them, have the same items.
  abbrev Alike : Kind → Kind → Kind → Type 0
  Alike k l m = (kind_items T k ≡ kind_items T m) × (kind_items T l ≡ kind_items T m)

  joined_items : (k l m : Kind) → joined k l ≡ some m → Alike k l m
  unfolding joined
  joined_items k l m e = go (Kind≟ (as_set k) (as_set l)) e
    where
      go : (q : Dec (as_set k ≡ as_set l)) → ◌≡◌ {A = Option Kind} (elim q [ yes p ↦ some (as_set k) | no n ↦ none ]) (some m) → Alike k l m
      go (yes p) q =
          let r : as_set k ≡ m = cc in
          (sym (set-items k) ∙ ap (kind_items T) r, sym (set-items l) ∙ ap (kind_items T) (sym p ∙ r))
      go (no n) q = let z : ◌≡◌ {A = ℕ} 0 1 = cc in absurd (omega arith)

  call2-items : (ρ : Row) (k l m : Kind) → call2_kind ρ k l ≡ some m → kind_items T m ≡ sort_items T ρ.gives
  unfolding call2_kind kind_items
  call2-items ρ k l m e = go (holds (Kind≟ (as_set k) (set ρ.first)) && holds (Kind≟ l (element ρ.second))) e
    where
      go : (b : Bool) → ◌≡◌ {A = Option Kind} (elim b [ true ↦ some (set ρ.gives) | false ↦ none ]) (some m) → kind_items T m ≡ sort_items T ρ.gives
      go true q = let p : set ρ.gives ≡ m = cc in rw (← p)
      go false q = let z : ◌≡◌ {A = ℕ} 0 1 = cc in absurd (omega arith)

  -- The first of the two terms of a call has items of the sort that it takes.
  pub call2-first : (ρ : Row) (k l m : Kind) → call2_kind ρ k l ≡ some m → kind_items T k ≡ sort_items T ρ.first
  unfolding call2_kind kind_items
  call2-first ρ k l m e = go (Kind≟ (as_set k) (set ρ.first)) e
    where
      go : (q : Dec (as_set k ≡ set ρ.first))
          → ◌≡◌ {A = Option Kind} (elim (holds q && holds (Kind≟ l (element ρ.second))) [ true ↦ some (set ρ.gives) | false ↦ none ]) (some m)
          → kind_items T k ≡ sort_items T ρ.first
      go (yes p) q = sym (set-items k) ∙ ap (kind_items T) p
      go (no n) q = let z : ◌≡◌ {A = ℕ} 0 1 = cc in absurd (omega arith)

-- The words of a collection have items of their sort.
words-among : (rows ws : List ℕ) → length rows ≤ 64 → Below (length rows) ws → (x : ℕ) → Among (all_of (length rows)) (get_or ws x 0)
words-among rows ws few b x = among-all (length rows) (get_or ws x 0) few (row_inside (length rows) ws b x)

module _ (T : Tables) (pass : Passes T) (σ : Choices) (c : List ℕ) where
  -- The items of the variables that a term names are of their kinds.
  abbrev pub Ranged : Term → Type 0
  Ranged (base b) = Unit {0}
  Ranged (call f a) = Ranged a
  Ranged (oe a) = (k : Kind) → kind a ≡ some k → has (kind_items T k) (item_in σ c a) ≡ true
  Ranged (ao a) = Ranged a
  Ranged (two o a b) = Ranged a × Ranged b

  one-among : (k l : Kind) → one_kind k ≡ some l → (x : ℕ) → has (kind_items T k) x ≡ true → Among (kind_items T l) (one_value T (some k) x)
  unfolding one_kind inside one_value kind_items sort_items
  one-among (element s) l e x h = let z : ◌≡◌ {A = ℕ} 0 1 = cc in absurd (omega arith)
  one-among (set s) l e x h = let p : element s ≡ l = cc in rw (← p) (item-among (sort_items T s) x h)
  one-among (collection CU) l e x h = let p : set s_u ≡ l = cc in rw (← p) (λ u has-it. present-word T.users u pass.sound.fits.users (named-present T pass u x has-it))
  one-among (collection CR) l e x h = let p : set s_r ≡ l = cc in rw (← p) (words-among T.role_rows T.cr pass.sound.fits.roles pass.sound.bounded.crs x)
  one-among (collection CP) l e x h =
      let p : set s_p ≡ l = cc in
      rw (← p) (words-among T.permission_rows T.cp (permissions-few T pass 0) pass.sound.bounded.cps x)

  others_same : (k l : Kind) → others_kind k ≡ some l → k ≡ l
  unfolding others_kind
  others_same (element s) l e = let z : ◌≡◌ {A = ℕ} 0 1 = cc in absurd (omega arith)
  others_same (set s) l e = cc
  others_same (collection c) l e = cc

  -- A term has only items of its kind.
  pub value-among : (t : Term) (l : Kind) → kind t ≡ some l → Ranged t → Among (kind_items T l) (value T σ c t)
  unfolding value kind two_value two_kind
  value-among (base b) l e r =
      let p : base_kind b ≡ l = cc in
      rw (← p) (λ x h. h)
  value-among (call f a) l e r =
      let q = some_with (kind a) (call_kind f) l e in
      rw (call-items T f q.0 l q.2) (call-among T pass (value T σ c a) f (kind a))
  value-among (oe a) l e r =
      let q = some_with (kind a) one_kind l e in
      rw q.1 (one-among q.0 l q.2 (item_in σ c a) (r q.0 q.1))
  value-among (ao a) l e r =
      let q = some_with (kind a) others_kind l e in
      less-among (kind_items T l) (value T σ c a) (item_of (item_in σ c a)) (value-among a l (q.1 ∙ ap some (others_same q.0 l q.2)) r)
  value-among (two (calls f) a b) l e r =
      let q = some_with (kind a) (λ k. with (kind b) (λ m. two_kind (calls f) k m)) l e in
      let p = some_with (kind b) (λ m. two_kind (calls f) q.0 m) l q.2 in
      rw (call2-items T (row f) q.0 p.0 l p.2) (call2-among T pass (value T σ c a) f (value T σ c b))
  value-among (two (joins o) a b) l e r =
      let q = some_with (kind a) (λ k. with (kind b) (λ m. two_kind (joins o) k m)) l e in
      let p = some_with (kind b) (λ m. two_kind (joins o) q.0 m) l q.2 in
      let n = joined_items T q.0 p.0 l p.2 in
      op-among o (kind_items T l) (value T σ c a) (value T σ c b)
      (rw n.0 at (value-among a q.0 q.1 r.0)) (rw n.1 at (value-among b p.0 p.1 r.1))

  -- The item of the variable v is of the kind of its set.
  abbrev pub Good : ℕ → Type 0
  Good v = (k : Kind) → kind (set_of σ v) ≡ some k → has (kind_items T k) (get_or c v 0) ≡ true

  -- A term whose variables are among the first ones, all good, is in range.
  known-ranged : (τ ys : Choices) → τ ++ ys ≡ σ → ((u : ℕ) → u < length τ → Good u) → (t : Term) → Known τ t → Ranged t
  known-ranged τ ys same g (base b) k = tt
  known-ranged τ ys same g (call f a) k = known-ranged τ ys same g a k
  known-ranged τ ys same g (oe a) k = λ m e.
      let l = variable-digit 49 τ a k.0.0 k.0.1 in
      let at : variable_of σ a ≡ variable_of τ a = ap (λ (υ : Choices). variable_of υ a) (sym same) ∙ variable-more τ ys a l in
      let here : length τ ≤ length σ = omega (arith, length-append τ ys, ap length same) in
      let is : set_of σ (variable_of σ a) ≡ a = variable-at σ a _ (omega (arith, at)) in
      g (variable_of σ a) (omega (arith, at)) m (ap kind is ∙ e)
  known-ranged τ ys same g (ao a) k = known-ranged τ ys same g a k.1
  known-ranged τ ys same g (two o a b) k = (known-ranged τ ys same g a k.0, known-ranged τ ys same g b k.1)

  module _ (full : (v : ℕ) → v < length σ → in_set T σ v c (get_or c v 0) ≡ true) where
    all-good : (τ xs : Choices) → τ ++ xs ≡ σ → Ordered τ xs → ((u : ℕ) → u < length τ → Good u) → (u : ℕ) → u < length σ → Good u
    all-good τ [] same o g u l = g u (omega (arith, ap length same, length-append τ []))
    all-good τ (x ∷ xs) same o g u l =
        all-good (τ ++ (x ∷ [])) xs (append_assoc τ (x ∷ []) xs ∙ same) o.1 more u l
      where
        there : length τ < length σ
        there = omega (arith, ap length same, length-append τ (x ∷ xs))

        is : set_of σ (length τ) ≡ x
        is = ap (λ (υ : Choices). get_or υ (length τ) (base b_u)) (sym same) ∙ get_or-append_seam τ x xs (base b_u)

        new : Good (length τ)
        new k e =
            value-among (set_of σ (length τ)) k e (rw is (known-ranged τ (x ∷ xs) same g x o.0)) (get_or c (length τ) 0) (full (length τ) there)

        at_most : (w : ℕ) → w < length τ + 1 → w ≤ length τ
        at_most w q = omega arith

        more : (w : ℕ) → w < length (τ ++ (x ∷ [])) → Good w
        more w m =
            ⊎_elim (λ (q : w ≡ length τ). rw q new) (λ (q : w < length τ). g w q) (eq-or-lt_of_le (at_most w (omega (arith, length-append τ (x ∷ [])))))

full_at : (s : ℕ → List ℕ → ℕ → Bool) (c : List ℕ) (n : ℕ) → full_on s (variables n) c ≡ true → (v : ℕ) → v < n → s v c (get_or c v 0) ≡ true
unfolding full_on variables
full_at s c zero h v l = absurd (omega arith)
full_at s c (suc n) h v l = go (ℕ_discrete v n) (full_at s c n (and-true (s n c (get_or c n 0)) _ h).1 v)
  where
    go : Dec (v ≡ n) → (v < n → s v c (get_or c v 0) ≡ true) → s v c (get_or c v 0) ≡ true
    go (yes e) ih = rw e (and-true (s n c (get_or c n 0)) _ h).0
    go (no e) ih = ih (omega arith)

-- Under a full choice of a rule's variables each item is one of its variable's kind.
full-items : (T : Tables) → Passes T → (ρ : Rule) (c : List ℕ)
    → full_on (in_set T (rule_vars [] ρ)) (variables (length (rule_vars [] ρ))) c ≡ true
    → (v : ℕ) → v < length (rule_vars [] ρ) → (k : Kind) → kind (set_of (rule_vars [] ρ) v) ≡ some k → has (kind_items T k) (get_or c v 0) ≡ true
full-items T pass ρ c h v l =
    all-good T pass (rule_vars [] ρ) c (full_at (in_set T (rule_vars [] ρ)) c (length (rule_vars [] ρ)) h) [] (rule_vars [] ρ) refl (rule-ordered [] ρ tt)
    (λ u m. absurd (omega arith)) v l

-- So a term whose choices are all among the rule's variables is in range.
pub full-ranged : (T : Tables) (pass : Passes T) (ρ : Rule) (c : List ℕ)
    → full_on (in_set T (rule_vars [] ρ)) (variables (length (rule_vars [] ρ))) c ≡ true
    → (t : Term) → Known (rule_vars [] ρ) t → Ranged T pass (rule_vars [] ρ) c t
full-ranged T pass ρ c h = known-ranged T pass (rule_vars [] ρ) c (rule_vars [] ρ) [] (append-nil (rule_vars [] ρ)) (full-items T pass ρ c h)

-- Document 02, N6: a variable whose set is of users never takes one who left.
pub full-present : (T : Tables) → Passes T → (ρ : Rule) (c : List ℕ)
    → full_on (in_set T (rule_vars [] ρ)) (variables (length (rule_vars [] ρ))) c ≡ true → TakesPresent T ρ c
unfolding kind_items sort_items
full-present T pass ρ c h v l k = present-is T.users (get_or c v 0) (full-items T pass ρ c h v l (set s_u) k)

-- The items of a kind are those of a word.
sort-lt : (T : Tables) (s : Sort) → sort_items T s < 2 ^ 64
unfolding sort_items
sort-lt T s_u = present-lt T.users
sort-lt T s_r = all-lt (length T.role_rows)
sort-lt T s_op = all-lt T.operation_count
sort-lt T s_obj = all-lt T.object_count
sort-lt T s_p = all-lt (length T.permission_rows)
sort-lt T s_s = all-lt (length T.sessions)

kind-lt : (T : Tables) (k : Kind) → kind_items T k < 2 ^ 64
unfolding kind_items
kind-lt T (element s) = sort-lt T s
kind-lt T (set s) = sort-lt T s
kind-lt T (collection CU) = all-lt (length T.cu)
kind-lt T (collection CR) = all-lt (length T.cr)
kind-lt T (collection CP) = all-lt (length T.cp)

items-lt : (T : Tables) (o : Option Kind) → items_of_kind T o < 2 ^ 64
items-lt T none = lit< tt
items-lt T (some k) = kind-lt T k

-- THE THEOREM: under a full choice every variable of an accepted rule has one of its items.
pub accepted-within : (T : Tables) → Passes T → (s : Bytes) (ρ : Rule) → refusal s ≡ none → rule_of s ≡ some ρ
    → Within (items_of T (rule_vars [] ρ)) (in_set T (rule_vars [] ρ)) (length (rule_vars [] ρ))
accepted-within T pass s ρ e h = record {
  full = λ c full v l.
      let q = accepted-choosable s ρ e h v l in
      ap (λ (o : Option Kind). has (items_of_kind T o) (get_or c v 0)) q.has ∙ full-items T pass ρ c full v l q.is q.has;
  few = λ v x q. has_in (items_of T (rule_vars [] ρ) v) 64 x (items-lt T (kind (set_of (rule_vars [] ρ) v))) q;
}
