-- Tables that a reader cannot tell apart are cut alike; the cut to all users is the tables themselves.
-- Assumes nothing.
use mathlib.Core.Path.{◌≡◌, refl, sym, ap, ◌∙◌}
use mathlib.Core.Bool.{Bool, true, false, not, ◌&&◌, true≢false, and-true as and_yes}
use mathlib.Core.List.{List, [], ◌∷◌, ◌++◌, map, append_assoc, append-nil}
use Prim.Native.Nat.{ℕ, suc, ◌^◌, ◌≤◌, ◌<◌}
use native.Mathlib.Omega.{arith}
use native.Mathlib.Nat.{zero-add}
use lib.Dec.{eqb}
use lib.ListN.{length, length-append, get_or-append}
use lib.Seq.{get_or-append_seam}
use borrow.Author.Tests.{lt-ltb, eq-eqb, eqb-true}
use Rattle.words.specs.Words.{has, all_of, meet_of}
use Rattle.words.proofs.WordsLaws.{word-ext, word_more, word-self, has_all, has-out, and-true}
use Rattle.tables.specs.Tables.{Tables}
use Rattle.tables.specs.Accepted.{Every, Passes}
use Rattle.tables.specs.Checks.{all_to, apart}
use Rattle.tables.proofs.AllLaws.{all-ext}
use Rattle.tables.proofs.EncodeLaws.{below-every}
use Rattle.tables.proofs.EveryLaws.{every_map}
use Rattle.tables.proofs.LateLaws.{late-each}
use Rattle.cuts.specs.Cut.{rows_from, keep_if, of_reader, sessions_for, done_for, is_new, firsts_behind, words_for, with_people, cut}
use Rattle.cuts.specs.Alike.{SameOwn, no_rows, same_row, other_here, other_there, OneOf, first_one, later_one, Once, no_words, new_word, seen_word, SameWords, SeenAlike}
use Rattle.cuts.proofs.FirstsLaws.{firsts_same}
use Rattle.cuts.proofs.CutLaws.{rows_same, rows_alike, own_same}

-- ---- rows that each have a user

pub own-alike : {A : Type 0} (user : A → ℕ) (w : ℕ) {xs ys : List A} → SameOwn user w xs ys → of_reader user w xs ≡ of_reader user w ys
unfolding of_reader
own-alike user w no_rows = refl
own-alike user w (same_row {x} s) = ap (keep_if (has w (user x)) x) (own-alike user w s)
own-alike user w (other_here e s) = rw e (own-alike user w s)
own-alike user w (other_there e s) = rw e (own-alike user w s)

-- ---- the words of CU

-- What is new behind words of which one more was added.
new-more : (ws : List ℕ) (x y : ℕ) → is_new (ws ++ (x ∷ [])) y ≡ (is_new ws y && not (eqb x y))
unfolding is_new all_to
new-more ws x y =
    let l : length (ws ++ (x ∷ [])) ≡ suc (length ws) = length-append ws (x ∷ []) ∙ omega arith in
    rw (l, get_or-append_seam ws x [] 0)
    (ap (λ (b : Bool). b && not (eqb x y)) (all-ext (length ws) _ _ (λ i k. ap (λ (v : ℕ). not (eqb v y)) (get_or-append ws (x ∷ []) 0 i k))))

-- The words seen are those that would not be new.
pub record Seen (seen ws : List ℕ) : Type 0 where
  pub known : (x : ℕ) → OneOf x seen → is_new ws x ≡ false
  pub back : (x : ℕ) → is_new ws x ≡ false → OneOf x seen

pub seen_none : Seen [] []
unfolding is_new all_to
seen_none = record { known = λ x. elim [ ]; back = λ x e. absurd (true≢false e) }

pub seen_more : {seen ws : List ℕ} (x : ℕ) → Seen seen ws → Seen (x ∷ seen) (ws ++ (x ∷ []))
seen_more {seen} {ws} x s = record { known = known; back = λ y e. back y (is_new ws y) refl (eqb x y) refl (sym (new-more ws x y) ∙ e) }
  where
    neither : (a b : Bool) → a ≡ false → (a && b) ≡ false
    neither a b e = rw e

    last : (a b : Bool) → b ≡ true → (a && not b) ≡ false
    last true b e = ap not e
    last false b e = refl

    known : (y : ℕ) → OneOf y (x ∷ seen) → is_new (ws ++ (x ∷ [])) y ≡ false
    known y first_one = new-more ws x y ∙ last (is_new ws y) (eqb x y) (eq-eqb x y refl)
    known y (later_one o) = new-more ws x y ∙ neither (is_new ws y) (not (eqb x y)) (s.known y o)

    back : (y : ℕ) (a : Bool) → is_new ws y ≡ a → (b : Bool) → eqb x y ≡ b → (a && not b) ≡ false → OneOf y (x ∷ seen)
    back y false p b q e = later_one (s.back y p)
    back y true p true q e = rw (eqb-true x y q) first_one
    back y true p false q e = absurd (true≢false e)

seen_other : {seen ws : List ℕ} → Seen seen ws → (x : ℕ) → (OneOf x seen → ⊥) → is_new ws x ≡ true
seen_other {seen} {ws} s x n = go (is_new ws x) refl
  where
    go : (b : Bool) → is_new ws x ≡ b → is_new ws x ≡ true
    go true e = e
    go false e = absurd (n (s.back x e))

pub once-firsts : {seen ws xs ys : List ℕ} → Seen seen ws → Once seen xs ys → firsts_behind ws xs ≡ ws ++ ys
unfolding firsts_behind
once-firsts {ws = ws} s no_words = sym (append-nil ws)
once-firsts {ws = ws} s (new_word {x = x} {ys = ys} n o) =
    rw (seen_other s x n) (once-firsts (seen_more x s) o ∙ append_assoc ws (x ∷ []) ys)
once-firsts s (seen_word {x = x} k o) = rw (s.known x k) (once-firsts s o)

words-alike : (w : ℕ) {cs ds : List ℕ} → SameWords w cs ds → words_for w cs ≡ words_for w ds
words-alike w s = once-firsts seen_none s.here ∙ sym (once-firsts seen_none s.there)

-- ---- the tables

-- THE THEOREM: tables that a reader cannot tell apart are one where the reader looks.
pub cut-alike : {w : ℕ} {T U : Tables} → SeenAlike w T U → cut w T ≡ cut w U
unfolding cut
cut-alike {w} {T} {U} s =
    let us = rows_alike w 0 T.users U.users s.user_count (λ i h. s.rows i (rw zero-add at h)) in
    let ss = own-alike _ w s.sessions in
    let ds = own-alike _ w s.done in
    rw (s.role_rows, us, ss, s.operations, s.objects, s.permissions, s.cr, words-alike w s.cu, s.cp, ds)

-- ---- the reader of all users

meet_all : (n x : ℕ) → n ≤ 64 → x < 2 ^ n → meet_of x (all_of n) ≡ x
unfolding meet_of
meet_all n x l h =
    word_more n 64 (λ i. has x i && has (all_of n) i) l (λ i p q. ap (λ (b : Bool). b && has (all_of n) i) (has-out x n i h p))
    ∙ word-ext n (λ i. has x i && has (all_of n) i) (has x) (λ i k. rw (has_all n i (omega arith), lt-ltb i n k) (and_yes (has x i)))
    ∙ word-self n x h

meets-all : (n : ℕ) (xs : List ℕ) → n ≤ 64 → Every (λ x. x < 2 ^ n) xs → map (λ x. meet_of x (all_of n)) xs ≡ xs
meets-all n [] l e = refl
meets-all n (x ∷ xs) l e = rw (meet_all n x l e.0, meets-all n xs l e.1)

pub whole-cut : (T : Tables) → Passes T → cut (all_of (length T.users)) T ≡ T
unfolding cut
whole-cut T pass =
    let n = length T.users in
    let f = pass.sound.fits in
    let b = pass.sound.bounded in
    let q = and-true (apart T.cr) (apart T.cu && apart T.cp) (late-each T pass.late).twin in
    let p = and-true (apart T.cu) (apart T.cp) q.1 in
    let us : rows_from (all_of n) 0 T.users ≡ T.users = rows_same (all_of n) 0 T.users (λ i l. rw zero-add (there i f.users l)) in
    let ss : sessions_for (all_of n) T.sessions ≡ T.sessions =
    own_same _ (all_of n) T.sessions (every_map _ _ T.sessions (λ s k. there s.user f.users k.user) b.sessions) in
    let ds : done_for (all_of n) T.done ≡ T.done =
    own_same _ (all_of n) T.done (every_map _ _ T.done (λ d k. there d.user f.users k.user) b.done) in
    let cs : words_for (all_of n) T.cu ≡ T.cu =
    ap (firsts_behind []) (meets-all n T.cu f.users (below-every n T.cu b.cus)) ∙ firsts_same [] T.cu p.0 in
    let same : cut (all_of n) T ≡ with_people T T.users T.sessions T.cu T.done = rw (us, ss, cs, ds) in
    same
  where
    there : (i : ℕ) → length T.users ≤ 64 → i < length T.users → has (all_of (length T.users)) i ≡ true
    there i few l = has_all (length T.users) i (omega arith) ∙ lt-ltb i (length T.users) l
