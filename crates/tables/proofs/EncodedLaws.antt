-- What encoded tables are: bytes, and as many as the counts say.
-- Assumes nothing.
use mathlib.Core.Path.{◌≡◌, refl, ap}
use mathlib.Core.Bool.{Bool, true, false}
use mathlib.Core.List.{List, [], ◌∷◌, map}
use Prim.Native.Nat.{ℕ, suc, ◌+◌, ◌*◌, ◌^◌, ◌≤◌, ◌<◌}
use native.Mathlib.Nat.{mul-suc}
use native.Mathlib.Omega.{arith}
use lib.ListN.{length, length-append}
use Rattle.tables.specs.Tables.{User, Session, Deed, Tables}
use Rattle.tables.specs.Bytes.{Bytes, AreBytes, lowest_first}
use Rattle.tables.specs.Accepted.{Known, KnownDeed, Every, Sound}
use Rattle.tables.specs.Encode.{word_bytes, mark_of, user_bytes, permission_bytes, session_bytes, deed_bytes, joined, counted, section_bytes, encode, bytes_of}
use Rattle.tables.proofs.SectionsLaws.{product-few}
use Rattle.tables.proofs.BytesLaws.{lowest-length, lowest-bytes, bytes-cons, bytes-append}
use Rattle.tables.proofs.EncodeLaws.{below-every, below-assigned}

-- Rows of k bytes each, after their count.
module _ {A : Type 0} (k : ℕ) (row : A → Bytes) (h : (x : A) → length (row x) ≡ k) where
  pub rows-length : (xs : List A) → length (joined (map row xs)) ≡ k * length xs
  unfolding joined
  rows-length [] = omega arith
  rows-length (x ∷ xs) = omega (arith, length-append (row x) (joined (map row xs)), h x, rows-length xs, mul-suc k (length xs))

  counted-length : (xs : List A) → length (counted row xs) ≡ 1 + k * length xs
  unfolding counted
  counted-length xs = omega (arith, rows-length xs)

pub words-length : (ws : List ℕ) → length (counted word_bytes ws) ≡ 1 + 8 * length ws
unfolding word_bytes
words-length ws = counted-length 8 word_bytes (λ w. lowest-length 8 w) ws

pub users-length : (us : List User) → length (counted user_bytes us) ≡ 1 + 9 * length us
unfolding user_bytes
users-length us = counted-length 9 user_bytes (λ u. ap suc (lowest-length 8 u.assigned)) us

permissions-length : (ws : List ℕ) → length (counted permission_bytes ws) ≡ 1 + 9 * length ws
unfolding permission_bytes
permissions-length ws = counted-length 9 permission_bytes (λ w. ap suc (lowest-length 8 w)) ws

sessions-length : (ss : List Session) → length (counted session_bytes ss) ≡ 1 + 9 * length ss
unfolding session_bytes
sessions-length ss = counted-length 9 session_bytes (λ s. ap suc (lowest-length 8 s.active)) ss

deeds-length : (ds : List Deed) → length (counted deed_bytes ds) ≡ 1 + 3 * length ds
unfolding deed_bytes
deeds-length ds = counted-length 3 deed_bytes (λ d. refl) ds

none-bytes : AreBytes []
unfolding AreBytes
none-bytes i = omega arith

-- Tables have the bytes that their counts say.
pub encode-length : (T : Tables) → length (encode T) ≡ bytes_of T
unfolding encode section_bytes joined
encode-length T =
    simp length-append
    (omega (
      arith,
      words-length T.role_rows,
      users-length T.users,
      sessions-length T.sessions,
      permissions-length T.permission_rows,
      words-length T.cr,
      words-length T.cu,
      words-length T.cp,
      deeds-length T.done,
    ))

-- The bytes of each row are bytes, where the rows have P.
module _ {A : Type 0} (P : A → Type 0) (row : A → Bytes) (h : (a : A) → P a → AreBytes (row a)) where
  rows-bytes : (xs : List A) → Every P xs → AreBytes (joined (map row xs))
  unfolding joined AreBytes
  rows-bytes [] e i = omega arith
  rows-bytes (x ∷ xs) e i = bytes-append (row x) (joined (map row xs)) (h x e.0) (rows-bytes xs e.1) i

  counted-bytes : (xs : List A) → length xs ≤ 64 → Every P xs → AreBytes (counted row xs)
  unfolding counted
  counted-bytes xs l e = bytes-cons (length xs) (joined (map row xs)) (omega arith) (rows-bytes xs e)

words-bytes : (n : ℕ) (ws : List ℕ) → length ws ≤ 64 → Every (λ w. w < 2 ^ n) ws → AreBytes (counted word_bytes ws)
unfolding word_bytes
words-bytes n ws l e = counted-bytes (λ w. w < 2 ^ n) word_bytes (λ w _. lowest-bytes 8 w) ws l e

mark-byte : (b : Bool) → mark_of b < 256
mark-byte true = omega arith
mark-byte false = omega arith

users-bytes : (n : ℕ) (us : List User) → length us ≤ 64 → Every (λ u. u.assigned < 2 ^ n) us → AreBytes (counted user_bytes us)
unfolding user_bytes
users-bytes n us l e =
    counted-bytes (λ u. u.assigned < 2 ^ n) user_bytes
    (λ u _. bytes-cons (mark_of u.present) (lowest_first 8 u.assigned) (mark-byte u.present) (lowest-bytes 8 u.assigned)) us l e

permissions-bytes : (n : ℕ) (ws : List ℕ) → length ws ≤ 64 → Every (λ w. w < 2 ^ n) ws → AreBytes (counted permission_bytes ws)
unfolding permission_bytes
permissions-bytes n ws l e = counted-bytes (λ w. w < 2 ^ n) permission_bytes (λ w _. bytes-cons 1 (lowest_first 8 w) (omega arith) (lowest-bytes 8 w)) ws l e

sessions-bytes : (users roles : ℕ) → users ≤ 64 → (ss : List Session) → length ss ≤ 64 → Every (Known users roles) ss → AreBytes (counted session_bytes ss)
unfolding session_bytes
sessions-bytes users roles few ss l e =
    counted-bytes (Known users roles) session_bytes
    (λ s k. bytes-cons s.user (lowest_first 8 s.active) (omega (arith, k.user)) (lowest-bytes 8 s.active)) ss l e

deeds-bytes : (users operations objects : ℕ) → users ≤ 64 → operations ≤ 8 → objects ≤ 8 → (ds : List Deed) → length ds ≤ 64
    → Every (KnownDeed users operations objects) ds → AreBytes (counted deed_bytes ds)
unfolding deed_bytes
deeds-bytes users operations objects lu la lb ds l e =
    counted-bytes (KnownDeed users operations objects) deed_bytes
    (λ d k. bytes-cons d.user (d.operation ∷ d.object ∷ []) (omega (arith, k.user))
    (bytes-cons d.operation (d.object ∷ []) (omega (arith, k.operation)) (bytes-cons d.object [] (omega (arith, k.object)) none-bytes))) ds l e

-- Encoded tables are bytes, such as `read` is lent.
pub encode-bytes : (T : Tables) → Sound T → AreBytes (encode T)
unfolding encode section_bytes joined
encode-bytes T sound =
    let f = sound.fits in
    let b = sound.bounded in
    let R = length T.role_rows in
    let U = length T.users in
    let held : length T.permission_rows ≤ 64 = rw f.permissions (product-few f.operations f.objects) in
    bytes-append (counted word_bytes T.role_rows) _ (words-bytes R T.role_rows f.roles (below-every R T.role_rows b.roles))
    (bytes-append (counted user_bytes T.users) _ (users-bytes R T.users f.users (below-assigned R T.users b.users))
    (bytes-append (counted session_bytes T.sessions) _ (sessions-bytes U R f.users T.sessions f.sessions b.sessions)
    (bytes-cons T.operation_count _ (omega (arith, f.operations))
    (bytes-cons T.object_count _ (omega (arith, f.objects))
    (bytes-append (counted permission_bytes T.permission_rows) _
    (permissions-bytes R T.permission_rows held (below-every R T.permission_rows b.permissions))
    (bytes-append (counted word_bytes T.cr) _ (words-bytes R T.cr f.crs (below-every R T.cr b.crs))
    (bytes-append (counted word_bytes T.cu) _ (words-bytes U T.cu f.cus (below-every U T.cu b.cus))
    (bytes-append (counted word_bytes T.cp) _ (words-bytes (length T.permission_rows) T.cp f.cps (below-every (length T.permission_rows) T.cp b.cps))
    (bytes-append (counted deed_bytes T.done) []
    (deeds-bytes U T.operation_count T.object_count f.users f.operations f.objects T.done f.done b.done) none-bytes)))))))))
