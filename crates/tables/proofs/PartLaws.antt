-- Laws of taking a section out of the flat tables, by its count.
-- Assumes nothing.
use mathlib.Core.Path.{◌≡◌, refl, sym, ap, ◌∙◌}
use mathlib.Core.Bool.{true}
use mathlib.Core.List.{List, [], ◌∷◌, map}
use Prim.Native.Nat.{ℕ, zero, suc, ◌+◌, ◌*◌, ◌≤◌, ◌<◌}
use native.Mathlib.Omega.{arith}
use lib.Dec.{eqb}
use lib.ListN.{length, get_or, take, drop, length-map, length-drop}
use lib.Seq.{take-append-le, drop-append-add, length-take-le}
use Rattle.words.specs.Words.{all_of, item_of, less_of}
use Rattle.tables.specs.Tables.{Tables, user_rows, session_users, session_roles}
use Rattle.tables.specs.Checks.{leavers_gone, rank_step, ranked, in_reach}
use Rattle.tables.specs.Code.Layout.{Whole, role_count_at, user_count_at, present_at, session_count_at, cr_count_at, cu_count_at, cp_count_at, role_rows_at, user_rows_at}
use Rattle.tables.specs.Code.Layout.{session_users_at, session_roles_at, cr_at, cu_at, cp_at}
use Rattle.tables.specs.Flat.{whole_length, room, padded, counts, sections, laid, flat}
use Rattle.tables.specs.Accepted.{Fits, Below, Bounded}
use Rattle.tables.specs.Code.Reads.{reaching, users_met, CountsFit}
use Rattle.tables.proofs.FlatLaws.{length-padded, length-flat, count_at}
use Rattle.tables.proofs.ReachLaws.{reach-words}
use Rattle.tables.proofs.LeaverLaws.{leavers-words, all-present}

pub padded-front : (n : ℕ) (xs : List ℕ) → length xs ≤ n → take (length xs) (padded n xs) ≡ xs
unfolding padded
padded-front n [] l = refl
padded-front zero (x ∷ xs) l = absurd (omega arith)
padded-front (suc n) (x ∷ xs) l = ap (λ (r : List ℕ). x ∷ r) (padded-front n xs (omega arith))

pub part-laid : (ss : List (List ℕ)) (k : ℕ) → length (get_or ss k []) ≤ room → take (length (get_or ss k [])) (drop (room * k) (laid ss)) ≡ get_or ss k []
unfolding laid
part-laid [] k l = refl
part-laid (s ∷ ss) zero l =
    take-append-le (length s) (padded room s) (laid ss) (omega (arith, length-padded room s)) ∙ padded-front room s l
part-laid (s ∷ ss) (suc k) l =
    let e : room * suc k ≡ length (padded room s) + room * k = omega (arith, length-padded room s) in
    rw (e, drop-append-add) (part-laid ss k l)

pub part_length : (ws : List ℕ) (from n : ℕ) {p : List ℕ} → Whole ws → from + room ≤ whole_length → n ≤ room → p ≡ take n (drop from ws) → length p ≡ n
part_length ws from n h l m e = ap length e ∙ length-take-le n (drop from ws) (rw length-drop (omega arith))

module _ (T : Tables) (fits : Fits T) {ws : List ℕ} (e : ws ≡ flat T) where
  counts-here : (j : ℕ) → j < room → get_or ws j 0 ≡ get_or (counts T) j 0
  counts-here j l = rw e (count_at T j l)

  part_at : (j k : ℕ) → j < room → get_or (counts T) j 0 ≡ length (get_or (sections T) k []) → length (get_or (sections T) k []) ≤ room
      → take (get_or ws j 0) (drop (room * k) ws) ≡ get_or (sections T) k []
  unfolding flat
  part_at j k l q m = rw (counts-here j l ∙ q, e) (part-laid (sections T) k m)

  pub roles-part : {p : List ℕ} → p ≡ take (get_or ws role_count_at 0) (drop role_rows_at ws) → p ≡ T.role_rows
  unfolding sections counts
  roles-part q = q ∙ part_at role_count_at 1 (omega arith) refl fits.roles

  users-part : {p : List ℕ} → p ≡ take (get_or ws user_count_at 0) (drop user_rows_at ws) → p ≡ user_rows T
  unfolding sections counts
  users-part q =
      let l = length-map T.users (λ u. u.assigned) in
      q ∙ part_at user_count_at 2 (omega arith) (sym l) (omega (arith, fits.users))

  owners-part : {p : List ℕ} → p ≡ take (get_or ws session_count_at 0) (drop session_users_at ws) → p ≡ map item_of (session_users T)
  unfolding sections counts
  owners-part q =
      let l = length-map (session_users T) item_of ∙ length-map T.sessions (λ s. s.user) in
      q ∙ part_at session_count_at 3 (omega arith) (sym l) (omega (arith, fits.sessions))

  active-part : {p : List ℕ} → p ≡ take (get_or ws session_count_at 0) (drop session_roles_at ws) → p ≡ session_roles T
  unfolding sections counts
  active-part q =
      let l = length-map T.sessions (λ s. s.active) in
      q ∙ part_at session_count_at 4 (omega arith) (sym l) (omega (arith, fits.sessions))

  pub cr-part : {p : List ℕ} → p ≡ take (get_or ws cr_count_at 0) (drop cr_at ws) → p ≡ T.cr
  unfolding sections counts
  cr-part q = q ∙ part_at cr_count_at 6 (omega arith) refl fits.crs

  pub cu-part : {p : List ℕ} → p ≡ take (get_or ws cu_count_at 0) (drop cu_at ws) → p ≡ T.cu
  unfolding sections counts
  cu-part q = q ∙ part_at cu_count_at 7 (omega arith) refl fits.cus

  pub cp-part : {p : List ℕ} → p ≡ take (get_or ws cp_count_at 0) (drop cp_at ws) → p ≡ T.cp
  unfolding sections counts
  cp-part q = q ∙ part_at cp_count_at 8 (omega arith) refl fits.cps

  pub reach-part : Bounded T → ranked T.role_rows ≡ true → {r a o v : List ℕ} → r ≡ take (get_or ws role_count_at 0) (drop role_rows_at ws)
      → a ≡ take (get_or ws user_count_at 0) (drop user_rows_at ws) → o ≡ take (get_or ws session_count_at 0) (drop session_users_at ws)
      → v ≡ take (get_or ws session_count_at 0) (drop session_roles_at ws) → reaching r a o v ≡ in_reach T
  reach-part b ok qr qa qo qv = rw (roles-part qr, users-part qa, owners-part qo, active-part qv) (reach-words T fits b ok)

  pub present-part : get_or ws present_at 0 ≡ all_of (get_or ws user_count_at 0) → leavers_gone T ≡ true
  unfolding counts
  present-part q = all-present T fits (rw (counts-here present_at (omega arith), counts-here user_count_at (omega arith)) at q)

  -- What the code asks of the users, by the parts of the words and the word of those present.
  pub leavers-part : Bounded T → {r o c : List ℕ} {m : ℕ} → r ≡ take (get_or ws user_count_at 0) (drop user_rows_at ws)
      → o ≡ take (get_or ws session_count_at 0) (drop session_users_at ws) → c ≡ take (get_or ws cu_count_at 0) (drop cu_at ws)
      → m ≡ users_met r o c → eqb (less_of m (get_or ws present_at 0)) 0 ≡ leavers_gone T
  unfolding counts
  leavers-part b qr qo qc qm =
      rw (qm, users-part qr, owners-part qo, cu-part qc, counts-here present_at (omega arith)) (leavers-words T fits b)

  pub rank-part : Bounded T → {p : List ℕ} {r : ℕ} → p ≡ take (get_or ws role_count_at 0) (drop role_rows_at ws) → (Below (length p) p → r ≡ rank_step p)
      → r ≡ rank_step T.role_rows
  rank-part b q h = let d = roles-part q in rw d at (h (rw d b.roles))

  pub counts-fit : CountsFit ws
  unfolding counts
  counts-fit =
      record {
        whole = rw e (length-flat T);
        roles = rw (counts-here role_count_at (omega arith)) fits.roles;
        users = rw (counts-here user_count_at (omega arith)) fits.users;
        sessions = rw (counts-here session_count_at (omega arith)) fits.sessions;
        crs = rw (counts-here cr_count_at (omega arith)) fits.crs;
        cus = rw (counts-here cu_count_at (omega arith)) fits.cus;
        cps = rw (counts-here cp_count_at (omega arith)) fits.cps;
      }
