-- Laws of leavers: what the code asks of words is what the definition asks of each leaver, and that as a sentence; of accepted tables, whoever
-- has a role or a session or stands in a word of CU is present. Assumes nothing.
use mathlib.Core.Path.{◌≡◌, refl, sym, ap, ◌∙◌}
use mathlib.Core.Bool.{Bool, true, false, ◌&&◌, ◌||◌, not, true≢false, and-true as and_yes}
use mathlib.Core.List.{List, map}
use mathlib.Core.Logic.{◌↔◌}
use Prim.Native.Nat.{ℕ, zero, suc, ◌^◌, ◌<◌, ◌≤◌}
use native.Mathlib.Decide.{dec_lt}
use native.Mathlib.Nat.{pow-le-pow_right}
use native.Mathlib.Omega.{arith}
use lib.Dec.{eqb, ltb}
use lib.ListN.{length, get_or, length-map, get_or-eq_default}
use borrow.Author.Tests.{ltb-true, lt-ltb, eq-eqb, ne_eqb, eqb-true, eqb-false, not-false}
use Rattle.words.specs.Words.{has, any_to, all_of, item_of, less_of, image_of, preimage_of}
use Rattle.words.proofs.WordsLaws.{word-self, has_join, has-item, has_all, has_in, has-out, has-zero, join-lt, any_word, any-ext, any_here, any-witness, and-true, and_both, both, eqb_comm}
use Rattle.words.proofs.RelationLaws.{has-image, has-preimage}
use Rattle.tables.specs.Tables.{Tables, user_rows, is_present, present_users, session_users}
use Rattle.tables.specs.Functions.{assigned, session_of}
use Rattle.tables.specs.Checks.{all_to, implies, withdrawn, leavers_gone, late_checks, first_failing}
use Rattle.tables.specs.Accepted.{Fits, Below, Bounded, Passes}
use Rattle.tables.specs.Leavers.{Remains, of_roles, of_session, of_word, LeaverRemains}
use Rattle.tables.specs.Code.Reads.{users_met}
use Rattle.tables.proofs.FlatLaws.{map_at}
use Rattle.tables.proofs.FitsLaws.{users-below}
use Rattle.tables.proofs.AllLaws.{all-every, all-at, all-ext}
use Rattle.tables.proofs.CheckLaws.{less_zero}
use Rattle.tables.proofs.PresentLaws.{has-present}

-- ---- the words

-- A row meets the word of all where it is not empty.
meets-all : (rows : List ℕ) (u : ℕ) → u < 64 → get_or rows u 0 < 2 ^ 64 → has (preimage_of rows (all_of 64)) u ≡ not (eqb (get_or rows u 0) 0)
meets-all rows u l h =
    let w = get_or rows u 0 in
    has-preimage rows (all_of 64) u l
    ∙ any-ext 64 (λ x. has w x && has (all_of 64) x) (has w) (λ x k. rw (has_all 64 x k, lt-ltb x 64 k) (and_yes (has w x)))
    ∙ any_word 64 (has w) ∙ ap (λ (v : ℕ). not (eqb v 0)) (word-self 64 w h)

-- Item x is in one of the words, or in none.
named_by : (ws : List ℕ) (x : ℕ) → length ws ≤ 64 → x < 64 → has (image_of ws (all_of (length ws))) x ≡ not (all_to (length ws) (λ i. not (has (get_or ws i 0) x)))
named_by ws x few l =
    has-image ws (all_of n) x l ∙ both (any_to 64 f) (not (all_to n g)) there back
  where
    n : ℕ
    n = length ws

    f : ℕ → Bool
    f i = has (all_of (length ws)) i && has (get_or ws i 0) x

    g : ℕ → Bool
    g i = not (has (get_or ws i 0) x)

    none : (b : Bool) → all_to n g ≡ b → (i : ℕ) → i < n → has (get_or ws i 0) x ≡ true → not b ≡ true
    none false e i k h = refl
    none true e i k h = let z : not (has (get_or ws i 0) x) ≡ true = all-at n g e i k in rw h at z

    there : any_to 64 f ≡ true → not (all_to n g) ≡ true
    there e =
        let q = any-witness 64 f e in
        let p = and-true (has (all_of n) q.0) (has (get_or ws q.0 0) x) q.2 in
        none (all_to n g) refl q.0 (ltb-true q.0 n (sym (has_all n q.0 q.1) ∙ p.0)) p.1

    back : not (all_to n g) ≡ true → any_to 64 f ≡ true
    back e = go (any_to 64 f) refl
      where
        clear : any_to 64 f ≡ false → (i : ℕ) → i < n → (b : Bool) → has (get_or ws i 0) x ≡ b → not b ≡ true
        clear z i k false h = refl
        clear z i k true h =
            absurd (true≢false (sym (any_here 64 f i (omega arith) (and_both (has_all n i (omega arith) ∙ lt-ltb i n k) h)) ∙ z))

        go : (b : Bool) → any_to 64 f ≡ b → any_to 64 f ≡ true
        go true z = z
        go false z =
            absurd (true≢false (sym e ∙ ap not (all-every n g (λ i k. clear z i k (has (get_or ws i 0) x) refl))))

clash : {a : Bool} → a ≡ true → not a ≡ true → ⊥
clash e n = true≢false (sym n ∙ ap not e)

not-and : (a b c : Bool) → (not a || (not b || not c)) ≡ not (a && (b && c))
not-and true true c = refl
not-and true false c = refl
not-and false b c = refl

module _ (T : Tables) (f : Fits T) (b : Bounded T) where
  abbrev met : ℕ
  met = users_met (user_rows T) (map item_of (session_users T)) T.cu

  row_fits : (u : ℕ) → get_or (user_rows T) u 0 < 2 ^ 64
  unfolding Below
  row_fits u =
      let q : 2 ^ length T.role_rows ≤ 2 ^ 64 = pow-le-pow_right {n = 2} (omega arith) {i = length T.role_rows} {j = 64} f.roles in
      omega (arith, b.users u)

  -- The user of session s, as a word.
  session-named : (u : ℕ) → u < 64 → has (image_of (map item_of (session_users T)) (all_of (length (map item_of (session_users T))))) u
      ≡ not (all_to (length T.sessions) (λ s. not (eqb (get_or (session_users T) s 0) u)))
  session-named u l =
      let ms = length-map T.sessions (λ s. s.user) in
      let m = length-map (session_users T) item_of ∙ ms in
      named_by (map item_of (session_users T)) u (omega (arith, f.sessions)) l
      ∙ rw m
      (ap not (all-ext (length T.sessions) _ _
      (λ s k.
      let i : s < length (session_users T) = omega arith in
      ap not (ap (λ (w : ℕ). has w u) (map_at item_of (session_users T) s i) ∙ has-item (get_or (session_users T) s 0) u l ∙ eqb_comm u (get_or (session_users T) s 0)))))

  -- Whoever is met is not withdrawn.
  met-user : (u : ℕ) → u < 64 → has met u ≡ not (withdrawn T u)
  unfolding users_met withdrawn
  met-user u l =
      has_join _ _ u l
      ∙ rw (has_join (image_of (map item_of (session_users T)) (all_of (length (map item_of (session_users T))))) (image_of T.cu (all_of (length T.cu))) u l)
      (rw (meets-all (user_rows T) u l (row_fits u), session-named u l, named_by T.cu u f.cus l)
      (not-and (eqb (get_or (user_rows T) u 0) 0) (all_to (length T.sessions) (λ s. not (eqb (get_or (session_users T) s 0) u)))
      (all_to (length T.cu) (λ i. not (has (get_or T.cu i 0) u)))))

  -- Who has no row has nothing.
  row_of : (u : ℕ) → u < 64 → has met u ≡ true → u < length T.users
  unfolding withdrawn Below
  row_of u l h = go (dec_lt u (length T.users))
    where
      no_row : length T.users ≤ u → get_or (user_rows T) u 0 ≡ 0
      no_row k = let past : length (user_rows T) ≤ u = omega (arith, length-map T.users (λ u. u.assigned)) in get_or-eq_default (user_rows T) 0 past

      not-his : length T.users ≤ u → (s : ℕ) → s < length T.sessions → not (eqb (get_or (session_users T) s 0) u) ≡ true
      not-his k s i = rw (ne_eqb (get_or (session_users T) s 0) u (omega (arith, users-below _ _ T.sessions b.sessions s i)))

      not_named : length T.users ≤ u → (i : ℕ) → not (has (get_or T.cu i 0) u) ≡ true
      not_named k i = rw (has-out (get_or T.cu i 0) (length T.users) u (b.cus i) k)

      gone : length T.users ≤ u → withdrawn T u ≡ true
      gone k =
          and_both (eq-eqb (get_or (user_rows T) u 0) 0 (no_row k))
          (and_both (all-every (length T.sessions) _ (not-his k)) (all-every (length T.cu) _ (λ i j. not_named k i)))

      go : Dec (u < length T.users) → u < length T.users
      go (yes k) = k
      go (no k) = absurd (true≢false (sym h ∙ met-user u l ∙ ap not (gone (omega arith))))

  pub leavers-words : eqb (less_of met (present_users T)) 0 ≡ leavers_gone T
  unfolding leavers_gone users_met
  leavers-words =
      less_zero 64 met (present_users T) (omega arith) (join-lt _ _)
      ∙ both (all_to 64 (λ u. implies (has met u) (has (present_users T) u))) (all_to (length T.users) (λ u. is_present T.users u || withdrawn T u))
      (λ e. all-every (length T.users) _ (λ u k. there u (omega (arith, f.users)) (all-at 64 _ e u (omega (arith, f.users)))))
      (λ e. all-every 64 _ (λ u l. back e u l (has met u) refl))
    where
      turn : (m w p : Bool) → m ≡ not w → implies m p ≡ true → (p || w) ≡ true
      turn m true true e h = refl
      turn m true false e h = refl
      turn m false true e h = refl
      turn m false false e h = rw e at h

      there : (u : ℕ) → u < 64 → implies (has met u) (has (present_users T) u) ≡ true → (is_present T.users u || withdrawn T u) ≡ true
      there u l h = turn (has met u) (withdrawn T u) (is_present T.users u) (met-user u l) (rw (has-present T.users u l) at h)

      turned : (w p : Bool) → not w ≡ true → (p || w) ≡ true → p ≡ true
      turned w true e h = refl
      turned true false e h = e
      turned false false e h = h

      back : all_to (length T.users) (λ u. is_present T.users u || withdrawn T u) ≡ true → (u : ℕ) → u < 64 → (m : Bool) → has met u ≡ m
          → implies m (has (present_users T) u) ≡ true
      back e u l false h = refl
      back e u l true h =
          let p = turned (withdrawn T u) (is_present T.users u) (sym (met-user u l) ∙ h) (all-at (length T.users) _ e u (row_of u l h)) in
          has-present T.users u l ∙ p

-- Where every user is present, nobody left.
pub all-present : (T : Tables) → Fits T → present_users T ≡ all_of (length T.users) → leavers_gone T ≡ true
unfolding leavers_gone
all-present T f e =
    all-every (length T.users) _
    (λ u l.
    let k : u < 64 = omega (arith, f.users) in
    let p = sym (has-present T.users u k) ∙ ap (λ (w : ℕ). has w u) e ∙ has_all (length T.users) u k ∙ lt-ltb u (length T.users) l in
    rw p)

-- ---- the sentences

-- A test that does not hold of all numbers below n fails of one.
not-all : (n : ℕ) (f : ℕ → Bool) → all_to n f ≡ false → (i : ℕ) × (i < n) × (f i ≡ false)
unfolding all_to
not-all zero f e = absurd (true≢false e)
not-all (suc n) f e = go (λ h. not-all n f h) (f n) refl
  where
    up : (i : ℕ) × (i < n) × (f i ≡ false) → (i : ℕ) × (i < suc n) × (f i ≡ false)
    up (i, l, h) = (i, omega arith, h)

    go : (all_to n f ≡ false → (i : ℕ) × (i < n) × (f i ≡ false)) → (b : Bool) → f n ≡ b → (i : ℕ) × (i < suc n) × (f i ≡ false)
    go below false h = (n, omega arith, h)
    go below true h = up (below (sym (and_yes (all_to n f)) ∙ ap (λ (b : Bool). all_to n f && b) (sym h) ∙ e))

module _ (T : Tables) (u : ℕ) where
  abbrev no_session : Bool
  no_session = all_to (length T.sessions) (λ s. not (eqb (get_or (session_users T) s 0) u))

  abbrev no_word : Bool
  no_word = all_to (length T.cu) (λ i. not (has (get_or T.cu i 0) u))

  not-withdrawn : withdrawn T u ≡ false → Remains T u
  unfolding withdrawn
  not-withdrawn e = go (eqb (get_or (user_rows T) u 0) 0) no_session no_word refl refl refl
    where
      go : (a b c : Bool) → eqb (get_or (user_rows T) u 0) 0 ≡ a → no_session ≡ b → no_word ≡ c → Remains T u
      go false b c p q r = of_roles (eqb-false (get_or (user_rows T) u 0) 0 p)
      go true false c p q r =
          let (s, l, h) = not-all (length T.sessions) (λ s. not (eqb (get_or (session_users T) s 0) u)) q in
          of_session s l (eqb-true (get_or (session_users T) s 0) u (not-false (eqb (get_or (session_users T) s 0) u) h))
      go true true false p q r =
          let (i, l, h) = not-all (length T.cu) (λ i. not (has (get_or T.cu i 0) u)) r in
          of_word i l (not-false (has (get_or T.cu i 0) u) h)
      go true true true p q r = absurd (true≢false (sym (and_both p (and_both q r)) ∙ e))

  withdrawn-clear : Remains T u → withdrawn T u ≡ true → ⊥
  unfolding withdrawn
  withdrawn-clear (of_roles h) w = h (eqb-true (get_or (user_rows T) u 0) 0 (and-true (eqb (get_or (user_rows T) u 0) 0) (no_session && no_word) w).0)
  withdrawn-clear (of_session s l e) w =
      let q = and-true no_session no_word (and-true (eqb (get_or (user_rows T) u 0) 0) (no_session && no_word) w).1 in
      clash (eq-eqb (get_or (session_users T) s 0) u e) (all-at (length T.sessions) (λ s. not (eqb (get_or (session_users T) s 0) u)) q.0 s l)
  withdrawn-clear (of_word i l h) w =
      let q = and-true no_session no_word (and-true (eqb (get_or (user_rows T) u 0) 0) (no_session && no_word) w).1 in
      clash h (all-at (length T.cu) (λ i. not (has (get_or T.cu i 0) u)) q.1 i l)

-- The check fails exactly where something of a leaver remains.
pub remains-fails : (T : Tables) → (leavers_gone T ≡ false) ↔ LeaverRemains T
unfolding leavers_gone
remains-fails T = (
  λ e.
      let (u, l, h) = not-all (length T.users) each e in
      let (p, w) = neither (is_present T.users u) (withdrawn T u) h in
      record { user = u; leaver = record { row = l; left = p }; remains = not-withdrawn T u w },
  λ r. none r (all_to (length T.users) each) refl,
)
  where
    each : ℕ → Bool
    each u = is_present T.users u || withdrawn T u

    neither : (a b : Bool) → (a || b) ≡ false → (a ≡ false) × (b ≡ false)
    neither true b e = absurd (true≢false e)
    neither false b e = (refl, e)

    none : LeaverRemains T → (b : Bool) → all_to (length T.users) each ≡ b → all_to (length T.users) each ≡ false
    none r false e = e
    none r true e =
        let u = r.user in
        let h = all-at (length T.users) each e u r.leaver.row in
        absurd (withdrawn-clear T u r.remains (sym (ap (λ (b : Bool). b || withdrawn T u) r.leaver.left) ∙ h))

pub none-gone : (T : Tables) → (LeaverRemains T → ⊥) → leavers_gone T ≡ true
none-gone T n = go (leavers_gone T) refl
  where
    go : (b : Bool) → leavers_gone T ≡ b → leavers_gone T ≡ true
    go true e = e
    go false e = absurd (n ((remains-fails T).0 e))

-- ---- accepted tables

-- In accepted tables nothing is left of those who left;
passes-gone : (T : Tables) → Passes T → leavers_gone T ≡ true
unfolding late_checks first_failing
passes-gone T p = go (leavers_gone T) refl
  where
    go : (b : Bool) → leavers_gone T ≡ b → leavers_gone T ≡ true
    go true k = k
    go false k = let z : ◌≡◌ {A = ℕ} 0 1 = cc (rw k at p.late) in absurd (omega arith)

-- so whoever has a role or a session or stands in a word of CU is present.
module _ (T : Tables) (pass : Passes T) (u : ℕ) where
  stays : u < length T.users → Remains T u → is_present T.users u ≡ true
  unfolding leavers_gone
  stays l r = go (is_present T.users u) (all-at (length T.users) (λ v. is_present T.users v || withdrawn T v) (passes-gone T pass) u l)
    where
      go : (p : Bool) → (p || withdrawn T u) ≡ true → p ≡ true
      go true e = refl
      go false e = absurd (withdrawn-clear T u r e)

  pub role-present : (r : ℕ) → assigned T u r ≡ true → is_present T.users u ≡ true
  role-present r h = stays (there (dec_lt u (length T.users))) (of_roles none)
    where
      none : get_or (user_rows T) u 0 ≡ 0 → ⊥
      none e = true≢false (sym h ∙ ap (λ (w : ℕ). has w r) e ∙ has-zero r)

      there : Dec (u < length T.users) → u < length T.users
      there (yes l) = l
      there (no l) =
          let past : length (user_rows T) ≤ u = omega (arith, length-map T.users (λ u. u.assigned)) in
          absurd (none (get_or-eq_default (user_rows T) 0 past))

  pub session-present : (s : ℕ) → session_of T s u ≡ true → is_present T.users u ≡ true
  session-present s h =
      let p = and-true (ltb s (length T.sessions)) (eqb (get_or (session_users T) s 0) u) h in
      let l = ltb-true s (length T.sessions) p.0 in
      let e = eqb-true (get_or (session_users T) s 0) u p.1 in
      stays (omega (arith, e, users-below _ _ T.sessions pass.sound.bounded.sessions s l)) (of_session s l e)

  pub named-present : (i : ℕ) → has (get_or T.cu i 0) u ≡ true → is_present T.users u ≡ true
  unfolding Below
  named-present i h = stays (has_in (get_or T.cu i 0) (length T.users) u (pass.sound.bounded.cus i) h) (of_word i (there (dec_lt i (length T.cu))) h)
    where
      there : Dec (i < length T.cu) → i < length T.cu
      there (yes l) = l
      there (no l) =
          let past : length T.cu ≤ i = omega arith in
          absurd (true≢false (sym h ∙ ap (λ (w : ℕ). has w u) (get_or-eq_default T.cu 0 past) ∙ has-zero u))
