-- Document 01, "Tables": what the page says of reading besides its definitions, and small tables as examples.
-- Assumes nothing.
use mathlib.Core.Path.{◌≡◌, refl, sym, ◌∙◌}
use mathlib.Core.Bool.{Bool, true, false, ◌&&◌}
use mathlib.Core.List.{List, [], ◌∷◌, ◌++◌}
use Prim.Native.Nat.{ℕ, ◌≤◌, ◌<◌, ◌^◌}
use native.Mathlib.Omega.{arith}
use lib.Dec.{eqb, leb}
use lib.ListN.{length, get_or, take, drop, replicate}
use borrow.Author.Tests.{leb-true, leb-false, le-leb, lt-leb, le-ltb, ne_eqb}
use Rattle.answers.specs.declared.Refusal.{Refusal}
use Rattle.answers.specs.declared.Refusal.TheVariants.{CutShort, NotEntered, BadMark, NoSuchItem, Left}
use Rattle.words.specs.Words.{has, any_to}
use Rattle.words.proofs.WordsLaws.{has-out, word-self, word_more, any_here, any-witness, both, and-true, and_both, word_lt}
use Rattle.tables.specs.Tables.{User, Tables}
use Rattle.tables.specs.Checks.{all_to, withdrawn, leavers_gone, reflexive, transitive, antisymmetric, rank_steps, failing_from, rank_step, ranked, in_reach, apart, late_checks, first_failing}
use Rattle.tables.specs.Reading.{Bytes, stop, took, rejected, taken, tables_of, next, refuse, front, byte, count, word_from, word_within, word_row, MarkedRow, marked_row, user_row, permission_row, session_row, done_row, entered, left}
use Rattle.tables.specs.Reading.{rows, section, permissions, rights, collections, sections, nothing_left, settle, whole}
use Rattle.tables.proofs.ReadLaws.{nine, word-row-cut, marked-cut, session-cut, done-cut, done-no-user, done-no-operation, done-no-object, done-took, word_row_lem, marked-none, marked-bad, session-none, within-over, within-took}

-- "bit i stands for item i"; "bit .. at or above its count": a word of 64 bits is 2 ^ n or more exactly where it has a bit at or above n.
pub outside-bits : (n w : ℕ) → n ≤ 64 → w < 2 ^ 64 → leb (2 ^ n) w ≡ any_to 64 (λ i. leb n i && has w i)
outside-bits n w h l = both (leb (2 ^ n) w) (any_to 64 f) there back
  where
    f : ℕ → Bool
    f i = leb n i && has w i

    none : (b : Bool) → any_to 64 f ≡ b → 2 ^ n ≤ w → any_to 64 f ≡ true
    none true e k = e
    none false e k = absurd (omega (arith, small))
      where
        clear : (i : ℕ) → n ≤ i → i < 64 → has w i ≡ false
        clear i p q = go (has w i) refl
          where
            go : (c : Bool) → has w i ≡ c → has w i ≡ false
            go false z = z
            go true z = z ∙ sym (any_here 64 f i q (and_both (le-leb n i p) z)) ∙ e

        small : w < 2 ^ n
        small = rw (← word-self 64 w l, word_more n 64 (has w) h clear) (word_lt n (has w))

    there : leb (2 ^ n) w ≡ true → any_to 64 f ≡ true
    there e = none (any_to 64 f) refl (leb-true (2 ^ n) w e)

    back : any_to 64 f ≡ true → leb (2 ^ n) w ≡ true
    back e =
        let x = any-witness 64 f e in
        let p = and-true (leb n x.0) (has w x.0) x.2 in
        go (leb (2 ^ n) w) refl x.0 (leb-true n x.0 p.0) p.1
      where
        go : (c : Bool) → leb (2 ^ n) w ≡ c → (i : ℕ) → n ≤ i → has w i ≡ true → leb (2 ^ n) w ≡ true
        go true q i k g = q
        go false q i k g = q ∙ sym (has-out w n i (leb-false (2 ^ n) w q) k) ∙ g

-- Tables of roles and users alone.
abbrev small : List ℕ → List User → Tables
small rs us =
    record {
      role_rows = rs;
      users = us;
      sessions = [];
      operation_count = 0;
      object_count = 0;
      permission_rows = [];
      cr = [];
      cu = [];
      cp = [];
      done = [];
    }

-- Their bytes, with one role and one user whose mark and word's lowest byte are given.
abbrev one_user : ℕ → ℕ → Bytes
one_user mark low = 1 ∷ 1 ∷ replicate 7 0 ++ 1 ∷ mark ∷ low ∷ replicate 7 0 ++ replicate 8 0

-- Open the definitions of the checks, and all of reading.
checking : Unit {0}
unfolding late_checks first_failing leavers_gone withdrawn ranked rank_step rank_steps failing_from reflexive transitive antisymmetric in_reach apart all_to has nothing_left
checking = tt

everything : Unit {0}
unfolding checking tables_of whole settle sections section rows next refuse front byte count word_from word_within word_row marked_row user_row permission_row permissions rights collections
everything = tt

-- Document 02, N8: "ten zero bytes are the smallest tables", "Tables that stop after section 9 are cut short". Document 01: "An entered empty word is a person without roles; a mark 0 never is."
pub ten-zeros : tables_of (replicate 10 0) ≡ taken (small [] [])
unfolding everything
ten-zeros = refl

pub nine-zeros : tables_of (replicate 9 0) ≡ rejected CutShort
unfolding everything
nine-zeros = refl

pub person-without-roles : tables_of (one_user 1 0) ≡ taken (small (1 ∷ []) (record { present = true; assigned = 0 } ∷ []))
unfolding everything
person-without-roles = refl

pub never-entered : tables_of (one_user 0 0) ≡ rejected NotEntered
unfolding everything
never-entered = refl

-- Document 02, N6: "Mark 2 in a user row means left"; 20 where his word is not zero; "Bad mark (4) in a user row is now a mark above 2."
pub person-who-left : tables_of (one_user 2 0) ≡ taken (small (1 ∷ []) (record { present = false; assigned = 0 } ∷ []))
unfolding everything
person-who-left = refl

pub leaver-with-roles : tables_of (one_user 2 1) ≡ rejected Left
unfolding everything
leaver-with-roles = refl

pub mark-of-three : tables_of (one_user 3 0) ≡ rejected BadMark
unfolding everything
mark-of-three = refl

-- A user's row and a permission's stop where their mark or their word does, and take what these are.
module _ (n : ℕ) (s : Bytes) where
  pub user-stops : {e : Refusal} → marked_row left n s ≡ stop e → user_row n s ≡ stop e
  unfolding user_row next
  user-stops q = rw q

  pub user-takes : {m : MarkedRow} {t : Bytes} → marked_row left n s ≡ took m t → user_row n s ≡ took (record { present = eqb m.mark entered; assigned = m.word }) t
  unfolding user_row next
  user-takes q = rw q

  pub permission-stops : {e : Refusal} → marked_row entered n s ≡ stop e → permission_row n s ≡ stop e
  unfolding permission_row next
  permission-stops q = rw q

  pub permission-takes : {m : MarkedRow} {t : Bytes} → marked_row entered n s ≡ took m t → permission_row n s ≡ took m.word t
  unfolding permission_row next
  permission-takes q = rw q

-- "A row must be complete before it is examined": fewer bytes than the row has are 1, whatever they are.
module _ (s : Bytes) where
  pub cut-word-row : (n : ℕ) → length s < 8 → word_row n s ≡ stop CutShort
  cut-word-row n h = word-row-cut s 0 n (omega arith)

  pub cut-marked-row : (highest n : ℕ) → length s < 9 → marked_row highest n s ≡ stop CutShort
  cut-marked-row highest n h = marked-cut s 0 highest n (omega arith)

  pub cut-session-row : (users n : ℕ) → length s < 9 → session_row users n s ≡ stop CutShort
  cut-session-row users n h = session-cut s 0 users n (omega arith)

  pub cut-done-row : (users operations objects : ℕ) → length s < 3 → done_row users operations objects s ≡ stop CutShort
  cut-done-row users operations objects h = done-cut s 0 users operations objects (omega arith)

-- Document 02, N8, "rows of user, operation and object, a byte each. .. Numbers at or above their counts are 5": of a complete row, in that sequence.
module _ (s : Bytes) (whole : 3 ≤ length s) (users operations objects : ℕ) where
  pub doer-above : users ≤ get_or s 0 0 → done_row users operations objects s ≡ stop NoSuchItem
  doer-above = done-no-user s 0 users operations objects whole

  pub operation-above : get_or s 0 0 < users → operations ≤ get_or s 1 0 → done_row users operations objects s ≡ stop NoSuchItem
  operation-above = done-no-operation s 0 users operations objects whole

  pub object-above : get_or s 0 0 < users → get_or s 1 0 < operations → objects ≤ get_or s 2 0 → done_row users operations objects s ≡ stop NoSuchItem
  object-above = done-no-object s 0 users operations objects whole

  pub done-taken : get_or s 0 0 < users → get_or s 1 0 < operations → get_or s 2 0 < objects
      → done_row users operations objects s ≡ took (record { user = get_or s 0 0; operation = get_or s 1 0; object = get_or s 2 0 }) (drop 3 s)
  done-taken = done-took s 0 users operations objects whole

-- "mark, then user number, then word": of a complete row, whatever its later bytes are.
module _ (s : Bytes) (whole : 9 ≤ length s) where
  pub mark-zero : (highest n : ℕ) → get_or s 0 0 ≡ 0 → marked_row highest n s ≡ stop NotEntered
  mark-zero highest n e = marked-none s 0 highest n whole e

  pub mark-above : (highest n : ℕ) → highest < get_or s 0 0 → marked_row highest n s ≡ stop BadMark
  mark-above highest n l = marked-bad s 0 highest n whole l

  module _ (highest n : ℕ) (some : get_or s 0 0 ≡ 0 → ⊥) (few : get_or s 0 0 ≤ highest) where
    pub marked-over : 2 ^ n ≤ word_from (take 8 (drop 1 s)) → marked_row highest n s ≡ stop NoSuchItem
    unfolding marked_row next refuse
    marked-over l =
        rw (
          nine s 0 whole,
          ne_eqb (get_or s 0 0) 0 some,
          le-ltb highest (get_or s 0 0) few,
          within-over n (take 8 (drop 1 s)) (drop 9 s) refl refl (le-leb (2 ^ n) _ l),
        )

    pub marked-taken : word_from (take 8 (drop 1 s)) < 2 ^ n → marked_row highest n s ≡ took (record { mark = get_or s 0 0; word = word_from (take 8 (drop 1 s)) }) (drop 9 s)
    unfolding marked_row next refuse
    marked-taken l =
        rw (
          nine s 0 whole,
          ne_eqb (get_or s 0 0) 0 some,
          le-ltb highest (get_or s 0 0) few,
          within-took n (take 8 (drop 1 s)) (drop 9 s) refl refl (lt-leb (2 ^ n) _ l),
        )

  pub user-above : (users n : ℕ) → users ≤ get_or s 0 0 → session_row users n s ≡ stop NoSuchItem
  user-above users n l = session-none s 0 users n whole l

  pub session-over : (users n : ℕ) → get_or s 0 0 < users → 2 ^ n ≤ word_from (take 8 (drop 1 s)) → session_row users n s ≡ stop NoSuchItem
  unfolding session_row next refuse
  session-over users n h l = rw (nine s 0 whole, lt-leb users (get_or s 0 0) h, within-over n (take 8 (drop 1 s)) (drop 9 s) refl refl (le-leb (2 ^ n) _ l))

  pub session-taken : (users n : ℕ) → get_or s 0 0 < users → word_from (take 8 (drop 1 s)) < 2 ^ n → session_row users n s ≡ took (record { user = get_or s 0 0; active = word_from (take 8 (drop 1 s)) }) (drop 9 s)
  unfolding session_row next refuse
  session-taken users n h l = rw (nine s 0 whole, lt-leb users (get_or s 0 0) h, within-took n (take 8 (drop 1 s)) (drop 9 s) refl refl (lt-leb (2 ^ n) _ l))

module _ (s : Bytes) (whole : 8 ≤ length s) where
  pub word_over : (n : ℕ) → 2 ^ n ≤ word_from (take 8 s) → word_row n s ≡ stop NoSuchItem
  word_over n l = word_row_lem s 0 n whole ∙ within-over n (take 8 s) (drop 8 s) refl refl (le-leb (2 ^ n) _ l)

  pub word-taken : (n : ℕ) → word_from (take 8 s) < 2 ^ n → word_row n s ≡ took (word_from (take 8 s)) (drop 8 s)
  word-taken n l = word_row_lem s 0 n whole ∙ within-took n (take 8 s) (drop 8 s) refl refl (lt-leb (2 ^ n) _ l)
