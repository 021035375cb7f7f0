-- Changed tables are accepted where nothing refuses the change.
-- Assumes nothing.
use mathlib.Core.Path.{◌≡◌, refl, sym, ap, ◌∙◌}
use mathlib.Core.Bool.{Bool, true, false, ◌||◌, not, cond, true≢false}
use mathlib.Core.List.{List, [], ◌∷◌, ◌++◌}
use mathlib.Core.Option.{Option, none, some}
use Prim.Native.Nat.{ℕ, zero, suc, ◌^◌, ◌<◌, ◌≤◌}
use native.Mathlib.Omega.{arith}
use lib.Dec.{eqb, ltb}
use lib.ListN.{length, take, drop, length-append}
use borrow.Author.Tests.{ltb-true, ne_eqb}
use Rattle.answers.specs.declared.Refusal.{Refusal}
use Rattle.tables.specs.Tables.{Session, Tables, is_present}
use Rattle.tables.specs.Functions.{juniors_of_users}
use Rattle.tables.specs.Checks.{withdrawn, leavers_gone, in_reach}
use Rattle.tables.specs.Accepted.{Known, Passes}
use Rattle.tables.proofs.AllLaws.{all-every, all-at}
use Rattle.tables.proofs.EveryLaws.{each_all, all-each}
use Rattle.tables.proofs.LateLaws.{is-withdrawn, of-withdrawn, late-each, each-late}
use Rattle.changes.specs.declared.Change.{Change}
use Rattle.changes.specs.declared.Change.TheVariants.{Opening, Closing}
use Rattle.changes.specs.Change.{new_session, sessions_by, changed, reaches, change_checks, first_due, change_refusal}
use Rattle.changes.proofs.EveryLaws.{NewHas, every-changed}

-- ---- what the checks said

due : (b : Bool) (o : Option Refusal) (e : Refusal) → cond b o (some e) ≡ none → (b ≡ true) × (o ≡ none)
due true o e q = (refl, q)
due false o e q = let z : ◌≡◌ {A = ℕ} 0 1 = cc in absurd (omega arith)

-- What is known of an opening, and of a closing, that nothing refuses.
pub record Opens (T : Tables) (u w : ℕ) : Type 0 where
  pub room : length T.sessions < 64
  pub user : u < length T.users
  pub word : w < 2 ^ length T.role_rows
  pub present : is_present T.users u ≡ true
  pub reach : reaches T (new_session u w) ≡ true

pub opening-opens : (T : Tables) (u w : ℕ) → change_refusal T (Opening u w) ≡ none → Opens T u w
unfolding change_refusal change_checks first_due
opening-opens T u w e =
    let a = due (ltb (length T.sessions) 64) _ _ e in
    let b = due (ltb u (length T.users)) _ _ a.1 in
    let c = due (ltb w (2 ^ length T.role_rows)) _ _ b.1 in
    let d = due (is_present T.users u) _ _ c.1 in
    let f = due (reaches T (new_session u w)) _ _ d.1 in
    record { room = ltb-true _ 64 a.0; user = ltb-true u _ b.0; word = ltb-true w _ c.0; present = d.0; reach = f.0 }

pub closing-closes : (T : Tables) (k : ℕ) → change_refusal T (Closing k) ≡ none → k < length T.sessions
unfolding change_refusal change_checks first_due
closing-closes T k e = ltb-true k _ (due (ltb k (length T.sessions)) _ _ e).0

-- ---- the changed tables

cut-length : (k : ℕ) (ss : List Session) → length (take k ss ++ drop (suc k) ss) ≤ length ss
cut-length zero [] = omega arith
cut-length zero (s ∷ ss) = omega arith
cut-length (suc k) [] = omega arith
cut-length (suc k) (s ∷ ss) = let h = cut-length k ss in omega arith

few-changed : (T : Tables) (c : Change) → length T.sessions ≤ 64 → change_refusal T c ≡ none → length (sessions_by c T.sessions) ≤ 64
unfolding sessions_by
few-changed T (Opening u w) l e = omega (arith, length-append T.sessions (new_session u w ∷ []), (opening-opens T u w e).room)
few-changed T (Closing k) l e = omega (arith, cut-length k T.sessions)

module _ (T : Tables) (c : Change) (e : change_refusal T c ≡ none) where
  known-new : (c : Change) → change_refusal T c ≡ none → NewHas (Known (length T.users) (length T.role_rows)) c
  known-new (Opening u w) e = let o = opening-opens T u w e in record { user = o.user; active = o.word }
  known-new (Closing k) e = tt

  reach-new : (c : Change) → change_refusal T c ≡ none → NewHas (λ s. reaches T s ≡ true) c
  reach-new (Opening u w) e = (opening-opens T u w e).reach
  reach-new (Closing k) e = tt

  -- The session of one who is present is no leaver's.
  other-new : (c : Change) → change_refusal T c ≡ none → (v : ℕ) → is_present T.users v ≡ false → NewHas (λ s. not (eqb s.user v) ≡ true) c
  other-new (Opening u w) e v h = ap not (ne_eqb u v (λ q. true≢false (sym (opening-opens T u w e).present ∙ ap (is_present T.users) q ∙ h)))
  other-new (Closing k) e v h = tt

  withdrawn-changed : (v : ℕ) → is_present T.users v ≡ false → withdrawn T v ≡ true → withdrawn (changed T c) v ≡ true
  withdrawn-changed v h q =
      let w = of-withdrawn T v q in
      let each = every-changed (λ s. not (eqb s.user v) ≡ true) c T.sessions (other-new c e v h) w.sessions in
      is-withdrawn (changed T c) v (record { row = w.row; sessions = each; words = w.words })

  gone-changed : leavers_gone T ≡ true → leavers_gone (changed T c) ≡ true
  unfolding leavers_gone
  gone-changed g = all-every (length T.users) _ (λ v l. go v (is_present T.users v) refl (all-at (length T.users) _ g v l))
    where
      go : (v : ℕ) (p : Bool) → is_present T.users v ≡ p → (p || withdrawn T v) ≡ true → (p || withdrawn (changed T c) v) ≡ true
      go v true h q = refl
      go v false h q = withdrawn-changed v h q

  reach-changed : in_reach T ≡ true → in_reach (changed T c) ≡ true
  unfolding in_reach reaches juniors_of_users
  reach-changed g =
      let f : ℕ → ℕ → Bool = λ x y. reaches T (new_session x y) in
      let each = every-changed (λ s. reaches T s ≡ true) c T.sessions (reach-new c e) (all-each f T.sessions g) in
      each_all f (sessions_by c T.sessions) each

  -- THE THEOREM: accepted tables with a change that nothing refuses are accepted.
  pub passes-changed : Passes T → Passes (changed T c)
  passes-changed p =
      let f = p.sound.fits in
      let b = p.sound.bounded in
      let l = late-each T p.late in
      record {
        sound = record {
          fits = record {
            roles = f.roles;
            users = f.users;
            sessions = few-changed T c f.sessions e;
            operations = f.operations;
            objects = f.objects;
            permissions = f.permissions;
            crs = f.crs;
            cus = f.cus;
            cps = f.cps;
            done = f.done;
          };
          bounded = record {
            roles = b.roles;
            users = b.users;
            sessions = every-changed _ c T.sessions (known-new c e) b.sessions;
            permissions = b.permissions;
            crs = b.crs;
            cus = b.cus;
            cps = b.cps;
            done = b.done;
          };
        };
        late = each-late (changed T c) (record { gone = gone-changed l.gone; rank = l.rank; reach = reach-changed l.reach; twin = l.twin });
      }
