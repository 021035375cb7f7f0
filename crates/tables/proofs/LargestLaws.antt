-- Document 02, N8: "The largest tables take 3,978 bytes": how many bytes accepted tables have, and that tables of that length are accepted.
-- Assumes nothing.
use mathlib.Core.Path.{◌≡◌, refl, sym, ap, ◌∙◌}
use mathlib.Core.Bool.{true}
use mathlib.Core.List.{List, map}
use Prim.Native.Nat.{ℕ, zero, suc, ◌^◌, ◌≤◌, ◌<◌}
use native.Mathlib.Omega.{arith}
use lib.Dec.{eqb}
use lib.ListN.{length, get_or, replicate}
use lib.Pow.{pow_pos}
use borrow.Author.Tests.{eqb-true, eq-eqb, ne_eqb}
use Rattle.words.specs.Words.{has, item_of}
use Rattle.words.proofs.WordsLaws.{has-zero, has-item, item-lt}
use Rattle.tables.specs.Tables.{User, Session, Deed, Tables, is_present, session_roles}
use Rattle.tables.specs.Functions.{dominates}
use Rattle.tables.specs.Checks.{leavers_gone, rank_step, ranked, in_reach, apart, late_checks, first_failing}
use Rattle.tables.specs.Bytes.{Bytes, AreBytes}
use Rattle.tables.specs.Accepted.{Below, Known, KnownDeed, Every, Passes}
use Rattle.tables.specs.Reading.{taken, tables_of}
use Rattle.tables.specs.Flat.{tabulate}
use Rattle.tables.specs.Encode.{encode, bytes_of}
use Rattle.tables.proofs.FlatLaws.{length-tabulate, tabulate-at}
use Rattle.tables.proofs.AllLaws.{all-every}
use Rattle.tables.proofs.RankLaws.{reflexive-says, transitive-says, antisymmetric-says, step-none}
use Rattle.tables.proofs.EncodeLaws.{passes-accepted, accepted-bytes}
use Rattle.tables.proofs.EncodedLaws.{encode-length, encode-bytes}

-- Accepted tables have the bytes that their counts say.
pub accepted-size : (b : Bytes) → AreBytes b → {T : Tables} → tables_of b ≡ taken T → length b ≡ bytes_of T
accepted-size b h {T} q = ap length (accepted-bytes b h q) ∙ encode-length T

-- "ten zero bytes are the smallest tables" (document 02, N8): none have fewer.
pub accepted-long : (b : Bytes) → AreBytes b → {T : Tables} → tables_of b ≡ taken T → 10 ≤ length b
accepted-long b h q = omega (arith, accepted-size b h q)

-- Full sections: roles that dominate themselves alone, users, all present, and permissions without roles, 64 sessions of user 0, and the words 0 to 63.
abbrev alone : List ℕ
alone = tabulate 64 item_of

abbrev zeros : List ℕ
zeros = tabulate 64 (λ _. 0)

abbrev first : List ℕ
first = tabulate 64 (λ i. i)

abbrev nobody : User
nobody = record { present = true; assigned = 0 }

everybody : List User
everybody = replicate 64 nobody

abbrev idle : Session
idle = record { user = 0; active = 0 }

idlers : List Session
idlers = replicate 64 idle

-- 64 times what user 0 did.
abbrev deed : Deed
deed = record { user = 0; operation = 0; object = 0 }

deeds : List Deed
deeds = replicate 64 deed

full : Tables
full =
    record {
      role_rows = alone;
      users = everybody;
      sessions = idlers;
      operation_count = 8;
      object_count = 8;
      permission_rows = zeros;
      cr = first;
      cu = first;
      cp = first;
      done = deeds;
    }

-- What holds of each is so of the list.
tabulate-less : (b n : ℕ) (f : ℕ → ℕ) → 0 < b → ((i : ℕ) → i < n → f i < b) → (i : ℕ) → get_or (tabulate n f) i 0 < b
unfolding tabulate
tabulate-less b zero f p h i = p
tabulate-less b (suc n) f p h zero = h 0 (omega arith)
tabulate-less b (suc n) f p h (suc i) = tabulate-less b n (λ j. f (suc j)) p (λ j l. h (suc j) (omega arith)) i

-- Rows that are single items are ranked, and words that differ are apart.
single-ranked : (rows : List ℕ) → length rows ≤ 64 → ((r : ℕ) → r < length rows → get_or rows r 0 ≡ item_of r) → ranked rows ≡ true
unfolding ranked
single-ranked rows few h =
    eq-eqb (rank_step rows) 0
    (step-none rows ((reflexive-says rows).1 self) ((transitive-says rows).1 along) ((antisymmetric-says rows).1 not-both))
  where
    n : ℕ
    n = length rows

    is : (r q : ℕ) → r < n → q < n → dominates rows r q ≡ eqb q r
    is r q lr lq = ap (λ (w : ℕ). has w q) (h r lr) ∙ has-item r q (omega arith)

    self : (r : ℕ) → r < n → dominates rows r r ≡ true
    self r l = is r r l l ∙ eq-eqb r r refl

    along : (r q p : ℕ) → r < n → q < n → p < n → dominates rows r q ≡ true → dominates rows q p ≡ true → dominates rows r p ≡ true
    along r q p lr lq lp a b = is r p lr lp ∙ eq-eqb p r (eqb-true p q (sym (is q p lq lp) ∙ b) ∙ eqb-true q r (sym (is r q lr lq) ∙ a))

    not-both : (r q : ℕ) → r < n → q < n → dominates rows r q ≡ true → dominates rows q r ≡ true → r ≡ q
    not-both r q lr lq a b = eqb-true r q (sym (is q r lq lr) ∙ b)

differing-apart : (ws : List ℕ) → ((i : ℕ) → i < length ws → get_or ws i 0 ≡ i) → apart ws ≡ true
unfolding apart
differing-apart ws h = all-every (length ws) _ λ i l. all-every i _ λ j k. rw (h i l, h j (omega arith), ne_eqb j i (λ e. omega arith))

idle-reach : (T : Tables) → ((s : ℕ) → get_or (session_roles T) s 0 ≡ 0) → in_reach T ≡ true
unfolding in_reach
idle-reach T h = all-every (length T.sessions) _ λ s l. all-every (length T.role_rows) _ λ r k. rw (h s, has-zero r)

-- Users who are all present, without roles.
all_here : (n u : ℕ) → u < n → is_present (replicate n nobody) u ≡ true
all_here zero u l = absurd (omega arith)
all_here (suc n) zero l = refl
all_here (suc n) (suc u) l = all_here n u (omega arith)

nobody-left : (T : Tables) (n : ℕ) → T.users ≡ replicate n nobody → length T.users ≡ n → leavers_gone T ≡ true
unfolding leavers_gone
nobody-left T n e l = all-every (length T.users) _ λ u k. rw (e, all_here n u (omega arith))

no-roles : (n i : ℕ) → get_or (map (λ (u : User). u.assigned) (replicate n nobody)) i 0 ≡ 0
no-roles zero i = refl
no-roles (suc n) zero = refl
no-roles (suc n) (suc i) = no-roles n i

roleless : (roles n : ℕ) → Below roles (map (λ (u : User). u.assigned) (replicate n nobody))
unfolding Below
roleless roles n i = rw (no-roles n i) (pow_pos roles)

-- Sessions of user 0 without a role.
module _ (users roles : ℕ) (some : 0 < users) where
  idle-known : (n : ℕ) → Every (Known users roles) (replicate n idle)
  idle-known zero = tt
  idle-known (suc n) = (record { user = some; active = pow_pos roles }, idle-known n)

deeds-known : (users operations objects : ℕ) → 0 < users → 0 < operations → 0 < objects → (n : ℕ) → Every (KnownDeed users operations objects) (replicate n deed)
deeds-known users operations objects u a b zero = tt
deeds-known users operations objects u a b (suc n) = (record { user = u; operation = a; object = b }, deeds-known users operations objects u a b n)

idle-roles : (n s : ℕ) → get_or (map (λ (s : Session). s.active) (replicate n idle)) s 0 ≡ 0
idle-roles zero s = refl
idle-roles (suc n) zero = refl
idle-roles (suc n) (suc s) = idle-roles n s

-- Words of 64 bits, held against 64 items.
sixty-four : (n : ℕ) (f : ℕ → ℕ) (m : ℕ) → m ≡ 64 → ((i : ℕ) → i < n → f i < 2 ^ 64) → Below m (tabulate n f)
unfolding Below
sixty-four n f m e h = rw e (tabulate-less (2 ^ 64) n f (omega arith) h)

full-passes : Passes full
unfolding full everybody idlers deeds late_checks first_failing
full-passes =
    let la : length alone ≡ 64 = length-tabulate 64 item_of in
    let lz : length zeros ≡ 64 = length-tabulate 64 (λ _. 0) in
    let lf : length first ≡ 64 = length-tabulate 64 (λ i. i) in
    let none : Below (length alone) zeros = sixty-four 64 (λ _. 0) (length alone) la (λ i l. omega arith) in
    let users : length everybody ≡ 64 = refl in
    let gone : leavers_gone full ≡ true = nobody-left full 64 refl users in
    let rank : ranked alone ≡ true = single-ranked alone (omega arith) (λ r l. tabulate-at 64 item_of r (omega arith)) in
    let reach : in_reach full ≡ true = idle-reach full (idle-roles 64) in
    let apart : apart first ≡ true = differing-apart first (λ i l. tabulate-at 64 (λ i. i) i (omega arith)) in
    record {
      sound = record {
        fits = record {
          roles = omega arith;
          users = omega arith;
          sessions = omega arith;
          operations = omega arith;
          objects = omega arith;
          permissions = lz;
          crs = omega arith;
          cus = omega arith;
          cps = omega arith;
          done = omega arith;
        };
        bounded = record {
          roles = sixty-four 64 item_of (length alone) la (λ i l. item-lt i);
          users = roleless (length alone) 64;
          sessions = idle-known 64 (length alone) (omega arith) 64;
          permissions = none;
          crs = sixty-four 64 (λ i. i) (length alone) la (λ i l. omega arith);
          cus = sixty-four 64 (λ i. i) 64 refl (λ i l. omega arith);
          cps = sixty-four 64 (λ i. i) (length zeros) lz (λ i l. omega arith);
          done = deeds-known 64 8 8 (omega arith) (omega arith) (omega arith) 64;
        };
      };
      late = rw (gone, rank, reach, apart);
    }

-- "The largest tables take 3,978 bytes": that many bytes are accepted.
pub largest : (b : Bytes) × AreBytes b × (length b ≡ 3978) × (T : Tables) × (tables_of b ≡ taken T)
unfolding full everybody idlers deeds
largest = (
  encode full,
  encode-bytes full full-passes.sound,
  encode-length full ∙ rw (length-tabulate 64 item_of, length-tabulate 64 (λ _. 0), length-tabulate 64 (λ i. i)),
  full,
  passes-accepted full full-passes,
)
