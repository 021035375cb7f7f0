-- What refuses a change, test by test.
-- Assumes nothing.
use mathlib.Core.Path.{◌≡◌, refl, sym, ap, ◌∙◌}
use mathlib.Core.Bool.{Bool, true, false, cond}
use mathlib.Core.List.{List}
use mathlib.Core.Option.{none, some}
use Prim.Native.Nat.{ℕ, ◌^◌, ◌≤◌, ◌<◌}
use native.Mathlib.Omega.{arith}
use lib.Dec.{eqb, ltb, leb}
use lib.ListN.{length, get_or}
use borrow.Author.Tests.{lt-ltb, le-ltb, leb-true, leb-false, eq-eqb, ne_eqb}
use Rattle.words.specs.Words.{has, item_of, less_of}
use Rattle.answers.specs.declared.Refusal.TheVariants.{NoSuchItem, Overreach, Left, FullHouse, NotOpen}
use Rattle.tables.specs.Tables.{Tables, is_present}
use Rattle.tables.specs.Accepted.{Fits}
use Rattle.tables.specs.Flat.{room, flat}
use Rattle.tables.specs.Functions.{juniors_of_users}
use Rattle.tables.specs.Code.Layout.{role_count_at, user_count_at, present_at, session_count_at}
use Rattle.tables.specs.Code.Loaded.{TablesAt}
use Rattle.answers.specs.Outcome.{passes}
use Rattle.std.specs.declared.result.Result.TheVariants.{Err}
use Rattle.tables.proofs.CheckLaws.{less_zero}
use Rattle.tables.proofs.PresentLaws.{has-present}
use Rattle.changes.specs.declared.Change.TheVariants.{Opening, Closing}
use Rattle.changes.specs.Change.{new_session, reaches, change_checks, first_due, change_refusal}
use Rattle.changes.specs.Code.Made.{DueBy}
use Rattle.changes.proofs.CountLaws.{counts_of}

-- ---- closing

module _ {ts : List ℕ} (k : ℕ) where
  pub due-closed : get_or ts session_count_at 0 ≤ k → DueBy ts (Closing k) (Err NotOpen)
  unfolding change_refusal change_checks first_due
  due-closed l T a = let n = counts_of a in rw (le-ltb k (length T.sessions) (omega (arith, n.sessions)))

  pub due-open : k < get_or ts session_count_at 0 → DueBy ts (Closing k) passes
  unfolding change_refusal change_checks first_due
  due-open l T a = let n = counts_of a in rw (lt-ltb k (length T.sessions) (omega (arith, n.sessions)))

-- ---- opening

tests : (T : Tables) (u w : ℕ) {a b c d e : Bool} → ltb (length T.sessions) 64 ≡ a → ltb u (length T.users) ≡ b → ltb w (2 ^ length T.role_rows) ≡ c
    → is_present T.users u ≡ d → reaches T (new_session u w) ≡ e
    → change_refusal T (Opening u w)
    ≡ cond a (cond b (cond c (cond d (cond e none (some Overreach)) (some Left)) (some NoSuchItem)) (some NoSuchItem)) (some FullHouse)
unfolding change_refusal change_checks first_due
tests T u w p q r s t = rw (p, q, r, s, t)

module _ {ts : List ℕ} (u w : ℕ) where
  pub due-full : room ≤ get_or ts session_count_at 0 → DueBy ts (Opening u w) (Err FullHouse)
  due-full l T a = let k = counts_of a in sym (tests T u w (le-ltb (length T.sessions) 64 (omega (arith, k.sessions))) refl refl refl refl)

  module _ (l : get_or ts session_count_at 0 < room) where
    vacant : {T : Tables} → TablesAt ts T → ltb (length T.sessions) 64 ≡ true
    vacant {T} a = let k = counts_of a in lt-ltb (length T.sessions) 64 (omega (arith, k.sessions))

    pub due-user : get_or ts user_count_at 0 ≤ u → DueBy ts (Opening u w) (Err NoSuchItem)
    due-user m T a = let k = counts_of a in sym (tests T u w (vacant a) (le-ltb u (length T.users) (omega (arith, k.users))) refl refl refl)

    module _ (m : u < get_or ts user_count_at 0) {b : Bool} (e : b ≡ leb (2 ^ get_or ts role_count_at 0) w) where
      user : {T : Tables} → TablesAt ts T → ltb u (length T.users) ≡ true
      user {T} a = let k = counts_of a in lt-ltb u (length T.users) (omega (arith, k.users))

      pub due-word : b ≡ true → DueBy ts (Opening u w) (Err NoSuchItem)
      due-word h T a =
          let k = counts_of a in
          let o : 2 ^ length T.role_rows ≤ w = rw k.roles at (leb-true (2 ^ get_or ts role_count_at 0) w (sym e ∙ h)) in
          sym (tests T u w (vacant a) (user a) (le-ltb w (2 ^ length T.role_rows) o) refl refl)

      module _ (h : b ≡ false) {p : Bool} (q : p ≡ has (get_or ts present_at 0) u) where
        word : {T : Tables} → TablesAt ts T → w < 2 ^ length T.role_rows
        word {T} a = let k = counts_of a in rw k.roles at (leb-false (2 ^ get_or ts role_count_at 0) w (sym e ∙ h))

        inside : {T : Tables} → TablesAt ts T → ltb w (2 ^ length T.role_rows) ≡ true
        inside {T} a = lt-ltb w (2 ^ length T.role_rows) (word a)

        present : {T : Tables} → TablesAt ts T → is_present T.users u ≡ p
        present {T} a =
            let k = counts_of a in
            sym (q ∙ ap (λ (x : ℕ). has x u) k.present ∙ has-present T.users u (omega (arith, k.users, k.few_users)))

        pub due-left : p ≡ false → DueBy ts (Opening u w) (Err Left)
        due-left z T a = sym (tests T u w (vacant a) (user a) (inside a) (present a ∙ z) refl)

        -- The last test, on words.
        module _ (z : p ≡ true) {i v r : ℕ} (ei : i ≡ item_of u) (ev : (T : Tables) → Fits T → ts ≡ flat T → v ≡ juniors_of_users T i) (er : r ≡ less_of w v) where
          reached : {T : Tables} → TablesAt ts T → reaches T (new_session u w) ≡ eqb r 0
          unfolding reaches
          reached {T} a =
              let x : v ≡ juniors_of_users T (item_of u) = ev T a.passes.sound.fits a.words ∙ ap (juniors_of_users T) ei in
              sym (ap (λ (y : ℕ). eqb y 0) (er ∙ ap (less_of w) x) ∙ less_zero (length T.role_rows) w (juniors_of_users T (item_of u)) a.passes.sound.fits.roles (word a))

          pub due-reach : (r ≡ 0 → ⊥) → DueBy ts (Opening u w) (Err Overreach)
          due-reach n T a = sym (tests T u w (vacant a) (user a) (inside a) (present a ∙ z) (reached a ∙ ne_eqb r 0 n))

          pub due-none : r ≡ 0 → DueBy ts (Opening u w) passes
          due-none n T a = sym (tests T u w (vacant a) (user a) (inside a) (present a ∙ z) (reached a ∙ eq-eqb r 0 n))
