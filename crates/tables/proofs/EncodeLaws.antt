-- Tables that pass are read back from their bytes, and bytes that are accepted are those of their tables.
-- Assumes nothing.
use mathlib.Core.Path.{◌≡◌, refl, sym, ap, ap₂, ◌∙◌}
use mathlib.Core.Bool.{Bool, true, false, cond}
use mathlib.Core.List.{List, [], ◌∷◌, ◌++◌, map, append_assoc}
use mathlib.Core.Logic.{◌↔◌}
use Prim.Native.Nat.{ℕ, zero, suc, ◌*◌, ◌^◌, ◌≤◌, ◌<◌}
use native.Mathlib.Nat.{pow-le-pow_right}
use native.Mathlib.Omega.{arith}
use lib.Dec.{eqb, ltb, leb}
use lib.ListN.{length, get_or, take, drop, length-append, length-drop, take-append-drop}
use lib.Seq.{take_at, drop_at, drop-cons, length-take-le}
use borrow.Author.Tests.{ltb-false, le-ltb, lt-leb, eq-eqb, ne_eqb, eqb-false}
use Rattle.answers.specs.declared.Refusal.TheVariants.{CutShort}
use Rattle.tables.specs.Tables.{User, Tables}
use Rattle.tables.specs.Bytes.{Bytes, AreBytes, word_from, lowest_first, entered, left}
use Rattle.tables.specs.Accepted.{Below, Known, KnownDeed, Every, Sound, Passes}
use Rattle.tables.specs.Reading.{Taken, Reader, stop, took, next, refuse, front, byte, count, word_within, word_row, MarkedRow, marked_row, user_row, permission_row, session_row, done_row}
use Rattle.tables.specs.Reading.{rows, section, permissions, Rights, rights, Collections, collections, sections, nothing_left, settle, whole}
use Rattle.tables.specs.Reading.{assembled, taken, tables_of}
use Rattle.tables.specs.Encode.{word_bytes, mark_of, user_bytes, permission_bytes, session_bytes, deed_bytes, joined, counted, section_bytes, encode}
use Rattle.tables.proofs.BytesLaws.{lowest-length, word-lowest, lowest-word, bytes-behind, bytes-before}
use Rattle.tables.proofs.FitsLaws.{next-case, refuse-case, count-few, rows_are, sections-sound, accepted-read, accepted-passes}
use Rattle.tables.proofs.SectionsLaws.{product-few}

-- The reader m reads back the bytes of each value that has P, and takes no other bytes for it.
record Coded {A : Type 0} (P : A → Type 0) (bytes : A → Bytes) (m : Reader A) : Type 0 where
  decodes : (a : A) → P a → (r : Bytes) → m (bytes a ++ r) ≡ took a r
  encodes : (s : Bytes) → AreBytes s → (a : A) (t : Bytes) → m s ≡ took a t → s ≡ bytes a ++ t

-- A first part of n bytes.
front_at : (b r : Bytes) (n : ℕ) → length b ≡ n → front n (b ++ r) ≡ took b r
unfolding front
front_at b r n e = rw (le-ltb (length (b ++ r)) n (omega (arith, length-append b r)), take_at b r n e, drop_at b r n e)

record Split (n : ℕ) (s b t : Bytes) : Type 0 where
  whole : s ≡ b ++ t
  size : length b ≡ n

front-split : (n : ℕ) (s : Bytes) {b t : Bytes} → front n s ≡ took b t → Split n s b t
unfolding front
front-split n s {b} {t} q = go (ltb (length s) n) refl q
  where
    go : (c : Bool) → ltb (length s) n ≡ c → cond c (stop CutShort) (took (take n s) (drop n s)) ≡ took b t → Split n s b t
    go true e k = let z : ◌≡◌ {A = ℕ} 0 1 = cc in absurd (omega arith)
    go false e k =
        let p : take n s ≡ b = cc in
        let d : drop n s ≡ t = cc in
        rw (← p, ← d) (record { whole = sym (take-append-drop n s); size = length-take-le n s (ltb-false (length s) n e) })

-- A word of items below n, at most 64.
module _ (n : ℕ) (few : n ≤ 64) where
  word_fits : (w : ℕ) → w < 2 ^ n → w < 256 ^ 8
  word_fits w h =
      let q : 2 ^ n ≤ 2 ^ 64 = pow-le-pow_right {n = 2} (omega arith) {i = n} {j = 64} few in
      omega arith

  within-decodes : (w : ℕ) → w < 2 ^ n → (r : Bytes) → word_within n (lowest_first 8 w) r ≡ took w r
  unfolding word_within next refuse
  within-decodes w h r = rw (word-lowest 8 w (word_fits w h), lt-leb (2 ^ n) w h)

within-encodes : (n : ℕ) (b s : Bytes) {w : ℕ} {t : Bytes} → length b ≡ 8 → AreBytes b → word_within n b s ≡ took w t → b ++ s ≡ lowest_first 8 w ++ t
unfolding word_within
within-encodes n b s {w} {t} l h q =
    refuse-case _ _ s _ q
    λ c k.
    let e : word_from b ≡ w = cc in
    let d : s ≡ t = cc in
    rw (← e, ← d, ← l) (ap (λ (x : Bytes). x ++ s) (sym (lowest-word b h)))

word-coded : (n : ℕ) → n ≤ 64 → Coded (λ w. w < 2 ^ n) word_bytes (word_row n)
unfolding word_row word_bytes next
word-coded n few =
    record {
      decodes = λ w h r. rw (front_at (lowest_first 8 w) r 8 (lowest-length 8 w)) (within-decodes n few w h r);
      encodes = λ s h w t q. next-case (front 8 s) _ q λ b u e k.
          let p = front-split 8 s e in
          p.whole ∙ within-encodes n b u p.size (bytes-before b u (rw p.whole at h)) k;
    }

-- A row of nine bytes: the first, and those of its word.
record Nine (s b t : Bytes) : Type 0 where
  split : s ≡ get_or b 0 0 ∷ (drop 1 b ++ t)
  eight : length (drop 1 b) ≡ 8
  bytes : AreBytes (drop 1 b)

nine : (s : Bytes) → AreBytes s → {b t : Bytes} → front 9 s ≡ took b t → Nine s b t
nine s h {b} {t} q =
    let p = front-split 9 s q in
    let c : b ≡ get_or b 0 0 ∷ drop 1 b = drop-cons b 0 0 (omega (arith, p.size)) in
    let w : s ≡ get_or b 0 0 ∷ (drop 1 b ++ t) = p.whole ∙ ap (λ (x : Bytes). x ++ t) c in
    record {
      split = w;
      eight = length-drop 1 b ∙ omega (arith, p.size);
      bytes = bytes-before (drop 1 b) t (bytes-behind (get_or b 0 0 ∷ []) (drop 1 b ++ t) (rw w at h));
    }

-- A mark and a word: what is read back, and which bytes and marks were read.
abbrev marked_bytes : ℕ → ℕ → Bytes
marked_bytes m w = m ∷ lowest_first 8 w

record Marking (highest : ℕ) (s t : Bytes) (m : MarkedRow) : Type 0 where
  whole : s ≡ marked_bytes m.mark m.word ++ t
  some : m.mark ≡ 0 → ⊥
  few : m.mark ≤ highest

module _ (highest n : ℕ) where
  marked-decodes : (m w : ℕ) → n ≤ 64 → (m ≡ 0 → ⊥) → m ≤ highest → w < 2 ^ n → (r : Bytes)
      → marked_row highest n (marked_bytes m w ++ r) ≡ took (record { mark = m; word = w }) r
  unfolding marked_row next refuse
  marked-decodes m w few z l h r =
      rw (
        front_at (marked_bytes m w) r 9 (ap suc (lowest-length 8 w)),
        ne_eqb m 0 z,
        le-ltb highest m l,
        within-decodes n few w h r,
      )

  marked-encodes : (s : Bytes) → AreBytes s → {m : MarkedRow} {t : Bytes} → marked_row highest n s ≡ took m t → Marking highest s t m
  unfolding marked_row
  marked-encodes s h {m} {t} q =
      next-case (front 9 s) _ q λ b u e k.
      refuse-case (eqb (get_or b 0 0) 0) _ u _ k λ c₀ k₀.
      refuse-case (ltb highest (get_or b 0 0)) _ u _ k₀ λ c₁ k₁.
      next-case (word_within n (drop 1 b) u) _ k₁ λ w v f l.
      let p = nine s h e in
      let d : record { mark = get_or b 0 0; word = w } ≡ m = cc in
      let z : v ≡ t = cc in
      rw (← d, ← z)
      (record {
        whole = p.split ∙ ap (λ (x : Bytes). get_or b 0 0 ∷ x) (within-encodes n (drop 1 b) u p.eight p.bytes f);
        some = eqb-false (get_or b 0 0) 0 c₀;
        few = ltb-false highest (get_or b 0 0) c₁;
      })

permission-coded : (n : ℕ) → n ≤ 64 → Coded (λ w. w < 2 ^ n) permission_bytes (permission_row n)
unfolding permission_row permission_bytes next
permission-coded n few =
    record {
      decodes = λ w h r. rw (marked-decodes entered n entered w few (λ z. absurd (omega arith)) (omega arith) h r);
      encodes = λ s h w t q. next-case (marked_row entered n s) _ q λ m u e k.
          let p = marked-encodes entered n s h e in
          let is : m.word ≡ w = cc in
          let z : u ≡ t = cc in
          rw (← is, ← z) (p.whole ∙ ap (λ (x : ℕ). x ∷ (lowest_first 8 m.word ++ u)) (only m.mark p.some p.few));
    }
  where
    only : (m : ℕ) → (m ≡ 0 → ⊥) → m ≤ entered → m ≡ entered
    only zero z l = absurd (z refl)
    only (suc m) z l = omega arith

-- Of a user the mark says whether present or left, and nothing else.
mark-present : (b : Bool) → eqb (mark_of b) entered ≡ b
mark-present true = refl
mark-present false = refl

mark-some : (b : Bool) → mark_of b ≡ 0 → ⊥
mark-some true z = absurd (omega arith)
mark-some false z = absurd (omega arith)

mark-few : (b : Bool) → mark_of b ≤ left
mark-few true = omega arith
mark-few false = omega arith

mark-told : (m : ℕ) → (m ≡ 0 → ⊥) → m ≤ left → m ≡ mark_of (eqb m entered)
mark-told zero z l = absurd (z refl)
mark-told (suc zero) z l = refl
mark-told (suc (suc m)) z l = let q : m ≡ 0 = omega arith in rw q

user-coded : (n : ℕ) → n ≤ 64 → Coded (λ u. u.assigned < 2 ^ n) user_bytes (user_row n)
unfolding user_row user_bytes next
user-coded n few =
    record {
      decodes = λ a h r.
          rw (
            marked-decodes left n (mark_of a.present) a.assigned few (mark-some a.present) (mark-few a.present) h r,
            mark-present a.present,
          );
      encodes = λ s h a t q. next-case (marked_row left n s) _ q λ m u e k.
          let p = marked-encodes left n s h e in
          let is : record { present = eqb m.mark entered; assigned = m.word } ≡ a = cc in
          let z : u ≡ t = cc in
          rw (← is, ← z) (p.whole ∙ ap (λ (x : ℕ). x ∷ (lowest_first 8 m.word ++ u)) (mark-told m.mark p.some p.few));
    }

session-coded : (users roles : ℕ) → roles ≤ 64 → Coded (Known users roles) session_bytes (session_row users roles)
unfolding session_row session_bytes next refuse
session-coded users roles few =
    record {
      decodes = λ a h r.
          rw (
            front_at (a.user ∷ lowest_first 8 a.active) r 9 (ap suc (lowest-length 8 a.active)),
            lt-leb users a.user h.user,
            within-decodes roles few a.active h.active r,
          );
      encodes = λ s h a t q. next-case (front 9 s) _ q λ b u e k.
          refuse-case (leb users (get_or b 0 0)) _ u _ k λ c₀ k₀.
          next-case (word_within roles (drop 1 b) u) _ k₀ λ w v f l.
          let p = nine s h e in
          let d : record { user = get_or b 0 0; active = w } ≡ a = cc in
          let z : v ≡ t = cc in
          rw (← d, ← z) (p.split ∙ ap (λ (x : Bytes). get_or b 0 0 ∷ x) (within-encodes roles (drop 1 b) u p.eight p.bytes f));
    }

-- A row of Done: three bytes.
deed-coded : (users operations objects : ℕ) → Coded (KnownDeed users operations objects) deed_bytes (done_row users operations objects)
unfolding done_row deed_bytes next refuse
deed-coded users operations objects =
    record {
      decodes = λ a h r.
          rw (
            front_at (a.user ∷ a.operation ∷ a.object ∷ []) r 3 refl,
            lt-leb users a.user h.user,
            lt-leb operations a.operation h.operation,
            lt-leb objects a.object h.object,
          );
      encodes = λ s h a t q. next-case (front 3 s) _ q λ b u e k.
          refuse-case (leb users (get_or b 0 0)) _ u _ k λ c₀ k₀.
          refuse-case (leb operations (get_or b 1 0)) _ u _ k₀ λ c₁ k₁.
          refuse-case (leb objects (get_or b 2 0)) _ u _ k₁ λ c₂ k₂.
          let p = front-split 3 s e in
          let d : record { user = get_or b 0 0; operation = get_or b 1 0; object = get_or b 2 0 } ≡ a = cc in
          let z : u ≡ t = cc in
          rw (← d, ← z) (p.whole ∙ ap (λ (x : Bytes). x ++ u) (three b p.size));
    }
  where
    three : (b : Bytes) → length b ≡ 3 → b ≡ get_or b 0 0 ∷ get_or b 1 0 ∷ get_or b 2 0 ∷ []
    three [] l = absurd (omega arith)
    three (x ∷ []) l = absurd (omega arith)
    three (x ∷ y ∷ []) l = absurd (omega arith)
    three (x ∷ y ∷ z ∷ []) l = refl
    three (x ∷ y ∷ z ∷ w ∷ b) l = absurd (omega arith)

-- A count.
byte-decodes : (n : ℕ) (r : Bytes) → byte (n ∷ r) ≡ took n r
unfolding byte next
byte-decodes n r = rw (front_at (n ∷ []) r 1 refl)

byte-encodes : (s : Bytes) {n : ℕ} {t : Bytes} → byte s ≡ took n t → s ≡ n ∷ t
unfolding byte
byte-encodes s {n} {t} q =
    next-case (front 1 s) _ q
    λ b u e k.
    let p = front-split 1 s e in
    let a : get_or b 0 0 ≡ n = cc in
    let d : u ≡ t = cc in
    rw (← a, ← d) (p.whole ∙ ap (λ (x : Bytes). x ++ u) (single b p.size))
  where
    single : (b : Bytes) → length b ≡ 1 → b ≡ get_or b 0 0 ∷ []
    single [] l = absurd (omega arith)
    single (x ∷ []) l = refl
    single (x ∷ y ∷ b) l = absurd (omega arith)

count-decodes : (limit n : ℕ) (r : Bytes) → n ≤ limit → count limit (n ∷ r) ≡ took n r
unfolding count next refuse
count-decodes limit n r h = rw (byte-decodes n r, le-ltb limit n h)

count-encodes : (limit : ℕ) (s : Bytes) {n : ℕ} {t : Bytes} → count limit s ≡ took n t → s ≡ n ∷ t
unfolding count
count-encodes limit s {n} {t} q =
    next-case (byte s) _ q
    λ a u e h. refuse-case _ _ u _ h
    λ c k.
    let x : a ≡ n = cc in
    let d : u ≡ t = cc in
    rw (← x, ← d) (byte-encodes s e)

-- Rows, one after another.
module _ {A : Type 0} (P : A → Type 0) (bytes : A → Bytes) (row : Reader A) (h : Coded P bytes row) where
  rows-decodes : (xs : List A) → Every P xs → (r : Bytes) → rows row (length xs) (joined (map bytes xs) ++ r) ≡ took xs r
  unfolding rows next joined
  rows-decodes [] e r = refl
  rows-decodes (x ∷ xs) e r =
      rw (append_assoc (bytes x) (joined (map bytes xs)) r, h.decodes x e.0 (joined (map bytes xs) ++ r), rows-decodes xs e.1 r)

  rows-encodes : (n : ℕ) (s : Bytes) → AreBytes s → {xs : List A} {t : Bytes} → rows row n s ≡ took xs t → s ≡ joined (map bytes xs) ++ t
  unfolding rows joined
  rows-encodes zero s b {xs} {t} q =
      let e : [] ≡ xs = cc in
      let d : s ≡ t = cc in
      rw (← e, d)
  rows-encodes (suc n) s b {xs} {t} q =
      next-case (row s) _ q
      λ a u e k. next-case (rows row n u) _ k
      λ ys v f l.
      let d : a ∷ ys ≡ xs = cc in
      let z : v ≡ t = cc in
      let p : s ≡ bytes a ++ u = h.encodes s b a u e in
      let i = rows-encodes n u (bytes-behind (bytes a) u (rw p at b)) f in
      rw (← d, ← z) (p ∙ ap (λ (x : Bytes). bytes a ++ x) i ∙ sym (append_assoc (bytes a) (joined (map bytes ys)) v))

  rows-count : (n : ℕ) (s : Bytes) {xs : List A} {t : Bytes} → rows row n s ≡ took xs t → length xs ≡ n
  rows-count n s q = (rows_are (λ _. Unit {0}) row (λ _ _ _ _. tt) n s q).size

-- At most 64 rows after their count.
section-coded : {A : Type 0} (P : ℕ → A → Type 0) (bytes : A → Bytes) (row : ℕ → Reader A) → ((n : ℕ) → n ≤ 64 → Coded (P n) bytes (row n))
    → Coded (λ xs. (length xs ≤ 64) × Every (P (length xs)) xs) (counted bytes) (section row)
unfolding section counted next
section-coded P bytes row h =
    record {
      decodes = λ xs p r.
          rw (
            count-decodes 64 (length xs) (joined (map bytes xs) ++ r) p.0,
            rows-decodes (P (length xs)) bytes (row (length xs)) (h (length xs) p.0) xs p.1 r,
          );
      encodes = λ s b xs t q. next-case (count 64 s) _ q λ n u e k.
          let f : s ≡ n ∷ u = count-encodes 64 s e in
          let c = h n (count-few 64 s e) in
          let l : length xs ≡ n = rows-count (P n) bytes (row n) c n u k in
          f ∙ ap₂ (λ (m : ℕ) (x : Bytes). m ∷ x) (sym l) (rows-encodes (P n) bytes (row n) c n u (bytes-behind (n ∷ []) u (rw f at b)) k);
    }

-- Sections 4 to 6.
permissions-decodes : (product roles : ℕ) → roles ≤ 64 → (xs : List ℕ) → length xs ≡ product → Every (λ w. w < 2 ^ roles) xs → (r : Bytes)
    → permissions product roles (counted permission_bytes xs ++ r) ≡ took xs r
unfolding permissions counted next refuse
permissions-decodes product roles few xs l e r =
    rw (
      byte-decodes (length xs) (joined (map permission_bytes xs) ++ r),
      eq-eqb (length xs) product l,
      rows-decodes (λ w. w < 2 ^ roles) permission_bytes (permission_row roles) (permission-coded roles few) xs e r,
    )

permissions-encodes : (product roles : ℕ) → roles ≤ 64 → (s : Bytes) → AreBytes s → {xs : List ℕ} {t : Bytes} → permissions product roles s ≡ took xs t
    → s ≡ counted permission_bytes xs ++ t
unfolding permissions counted
permissions-encodes product roles few s b {xs} {t} q =
    next-case (byte s) _ q
    λ n u e k. refuse-case _ _ u _ k
    λ c g.
    let f : s ≡ n ∷ u = byte-encodes s e in
    let P : ℕ → Type 0 = λ w. w < 2 ^ roles in
    let m = permission-coded roles few in
    let l : length xs ≡ n = rows-count P permission_bytes (permission_row roles) m n u g in
    f ∙ ap₂ (λ (k : ℕ) (x : Bytes). k ∷ x) (sym l) (rows-encodes P permission_bytes (permission_row roles) m n u (bytes-behind (n ∷ []) u (rw f at b)) g)

module _ (roles : ℕ) (few : roles ≤ 64) where
  rights-decodes : (q : Rights) → q.operation_count ≤ 8 → q.object_count ≤ 8 → length q.permission_rows ≡ q.operation_count * q.object_count
      → Every (λ w. w < 2 ^ roles) q.permission_rows → (r : Bytes)
      → rights roles (q.operation_count ∷ (q.object_count ∷ (counted permission_bytes q.permission_rows ++ r))) ≡ took q r
  unfolding rights next
  rights-decodes q la lb l e r =
      let ps = counted permission_bytes q.permission_rows ++ r in
      rw (
        count-decodes 8 q.operation_count (q.object_count ∷ ps) la,
        count-decodes 8 q.object_count ps lb,
        permissions-decodes (q.operation_count * q.object_count) roles few q.permission_rows l e r,
      )

  rights-encodes : (s : Bytes) → AreBytes s → {q : Rights} {t : Bytes} → rights roles s ≡ took q t
      → s ≡ q.operation_count ∷ (q.object_count ∷ (counted permission_bytes q.permission_rows ++ t))
  unfolding rights
  rights-encodes s h {q} {t} e =
      next-case (count 8 s) _ e
      λ a u ea k. next-case (count 8 u) _ k
      λ b v eb l. next-case (permissions (a * b) roles v) _ l
      λ ps w ep m.
      let fa : s ≡ a ∷ u = count-encodes 8 s ea in
      let fb : u ≡ b ∷ v = count-encodes 8 u eb in
      let hu = bytes-behind (a ∷ []) u (rw fa at h) in
      let hv = bytes-behind (b ∷ []) v (rw fb at hu) in
      let fp = permissions-encodes (a * b) roles few v hv ep in
      let d : record { operation_count = a; object_count = b; permission_rows = ps } ≡ q = cc in
      let z : w ≡ t = cc in
      rw (← d, ← z) (fa ∙ ap (λ (x : Bytes). a ∷ x) (fb ∙ ap (λ (x : Bytes). b ∷ x) fp))

-- Sections 7 to 9.
abbrev Held : ℕ → List ℕ → Type 0
Held n xs = (length xs ≤ 64) × Every (λ w. w < 2 ^ n) xs

words-coded : (n : ℕ) → n ≤ 64 → Coded (Held n) (counted word_bytes) (section (λ _. word_row n))
words-coded n few = section-coded (λ _ w. w < 2 ^ n) word_bytes (λ _. word_row n) (λ _ _. word-coded n few)

abbrev collection_bytes : Collections → Bytes → Bytes
collection_bytes c t = counted word_bytes c.cr ++ (counted word_bytes c.cu ++ (counted word_bytes c.cp ++ t))

module _ (r u p : ℕ) (lr : r ≤ 64) (lu : u ≤ 64) (lp : p ≤ 64) where
  collections-decodes : (c : Collections) → Held r c.cr → Held u c.cu → Held p c.cp → (t : Bytes) → collections r u p (collection_bytes c t) ≡ took c t
  unfolding collections next
  collections-decodes c hr hu hp t =
      rw (
        (words-coded r lr).decodes c.cr hr (counted word_bytes c.cu ++ (counted word_bytes c.cp ++ t)),
        (words-coded u lu).decodes c.cu hu (counted word_bytes c.cp ++ t),
        (words-coded p lp).decodes c.cp hp t,
      )

  collections-encodes : (s : Bytes) → AreBytes s → {c : Collections} {t : Bytes} → collections r u p s ≡ took c t → s ≡ collection_bytes c t
  unfolding collections
  collections-encodes s h {c} {t} e =
      next-case (section (λ _. word_row r) s) _ e
      λ x v ex k. next-case (section (λ _. word_row u) v) _ k
      λ y w ey l. next-case (section (λ _. word_row p) w) _ l
      λ z a ez m.
      let fx = (words-coded r lr).encodes s h x v ex in
      let hv = bytes-behind (counted word_bytes x) v (rw fx at h) in
      let fy = (words-coded u lu).encodes v hv y w ey in
      let hw = bytes-behind (counted word_bytes y) w (rw fy at hv) in
      let fz = (words-coded p lp).encodes w hw z a ez in
      let d : record { cr = x; cu = y; cp = z } ≡ c = cc in
      let f : a ≡ t = cc in
      rw (← d, ← f) (fx ∙ ap (λ (s : Bytes). counted word_bytes x ++ s) (fy ∙ ap (λ (s : Bytes). counted word_bytes y ++ s) fz))

-- Bounds of each word are bounds of every word.
pub below-every : (n : ℕ) (ws : List ℕ) → Below n ws → Every (λ w. w < 2 ^ n) ws
unfolding Below
below-every n [] h = tt
below-every n (w ∷ ws) h = (h 0, below-every n ws (λ i. h (suc i)))

pub below-assigned : (n : ℕ) (us : List User) → Below n (map (λ u. u.assigned) us) → Every (λ u. u.assigned < 2 ^ n) us
unfolding Below
below-assigned n [] h = tt
below-assigned n (u ∷ us) h = (h 0, below-assigned n us (λ i. h (suc i)))

-- The ten sections.
module _ {A B : Type 0} {P : A → Type 0} {bytes : A → Bytes} {m : Reader A} (h : Coded P bytes m) where
  then-decodes : (a : A) → P a → (r : Bytes) (f : A → Reader B) {x : Taken B} → f a r ≡ x → next (m (bytes a ++ r)) f ≡ x
  unfolding next
  then-decodes a p r f q = rw (h.decodes a p r) q

pub sections-decodes : (T : Tables) → Sound T → sections (encode T) ≡ took T []
unfolding sections encode section_bytes joined next
sections-decodes T sound =
    let f = sound.fits in
    let b = sound.bounded in
    let R = length T.role_rows in
    let U = length T.users in
    let held : length T.permission_rows ≤ 64 = rw f.permissions (product-few f.operations f.objects) in
    let q : Rights = record { operation_count = T.operation_count; object_count = T.object_count; permission_rows = T.permission_rows } in
    let c : Collections = record { cr = T.cr; cu = T.cu; cp = T.cp } in
    then-decodes (section-coded (λ n w. w < 2 ^ n) word_bytes (λ n. word_row n) word-coded) T.role_rows (f.roles, below-every R T.role_rows b.roles) _ _
    (then-decodes (section-coded (λ _ u. u.assigned < 2 ^ R) user_bytes (λ _. user_row R) (λ _ _. user-coded R f.roles)) T.users
    (f.users, below-assigned R T.users b.users) _ _
    (then-decodes (section-coded (λ _. Known U R) session_bytes (λ _. session_row U R) (λ _ _. session-coded U R f.roles)) T.sessions
    (f.sessions, b.sessions) _ _
    (rw (
      rights-decodes R f.roles q f.operations f.objects f.permissions (below-every R T.permission_rows b.permissions) (collection_bytes c (counted deed_bytes T.done ++ [])),
      collections-decodes R U (length T.permission_rows) f.roles f.users held c (f.crs, below-every R T.cr b.crs)
          (f.cus, below-every U T.cu b.cus) (f.cps, below-every (length T.permission_rows) T.cp b.cps) (counted deed_bytes T.done ++ []),
      (section-coded (λ _. KnownDeed U T.operation_count T.object_count) deed_bytes (λ _. done_row U T.operation_count T.object_count)
          (λ _ _. deed-coded U T.operation_count T.object_count)).decodes T.done (f.done, b.done) [],
    ))))

pub sections-encodes : (s : Bytes) → AreBytes s → {T : Tables} → sections s ≡ took T [] → s ≡ encode T
unfolding sections encode section_bytes joined
sections-encodes s h {T} e =
    next-case (section (λ n. word_row n) s) _ e
    λ rs s₁ e₁ k₁. next-case (section (λ _. user_row (length rs)) s₁) _ k₁
    λ us s₂ e₂ k₂. next-case (section (λ _. session_row (length us) (length rs)) s₂) _ k₂
    λ ss s₃ e₃ k₃. next-case (rights (length rs) s₃) _ k₃
    λ q s₄ e₄ k₄. next-case (collections (length rs) (length us) (length q.permission_rows) s₄) _ k₄
    λ c s₅ e₅ k₅. next-case (section (λ _. done_row (length us) q.operation_count q.object_count) s₅) _ k₅
    λ ds s₆ e₆ k₆.
    let d : assembled rs us ss q c ds ≡ T = cc in
    let none : s₆ ≡ [] = cc in
    let sound : Sound (assembled rs us ss q c ds) = rw (← d) at (sections-sound s e) in
    let fits = sound.fits in
    let held : length q.permission_rows ≤ 64 = rw fits.permissions (product-few fits.operations fits.objects) in
    let R = length rs in
    let U = length us in
    let f₁ = (section-coded (λ n w. w < 2 ^ n) word_bytes (λ n. word_row n) word-coded).encodes s h rs s₁ e₁ in
    let h₁ = bytes-behind (counted word_bytes rs) s₁ (rw f₁ at h) in
    let f₂ = (section-coded (λ _ u. u.assigned < 2 ^ R) user_bytes (λ _. user_row R) (λ _ _. user-coded R fits.roles)).encodes s₁ h₁ us s₂ e₂ in
    let h₂ = bytes-behind (counted user_bytes us) s₂ (rw f₂ at h₁) in
    let f₃ = (section-coded (λ _. Known U R) session_bytes (λ _. session_row U R) (λ _ _. session-coded U R fits.roles)).encodes s₂ h₂ ss s₃ e₃ in
    let h₃ = bytes-behind (counted session_bytes ss) s₃ (rw f₃ at h₂) in
    let f₄ = rights-encodes R fits.roles s₃ h₃ e₄ in
    let h₄ = bytes-behind (q.operation_count ∷ q.object_count ∷ counted permission_bytes q.permission_rows) s₄ (rw f₄ at h₃) in
    let f₅ = collections-encodes R U (length q.permission_rows) fits.roles fits.users held s₄ h₄ e₅ in
    let g₅ = bytes-behind (counted word_bytes c.cr) (counted word_bytes c.cu ++ (counted word_bytes c.cp ++ s₅)) (rw f₅ at h₄) in
    let i₅ = bytes-behind (counted word_bytes c.cu) (counted word_bytes c.cp ++ s₅) g₅ in
    let h₅ = bytes-behind (counted word_bytes c.cp) s₅ i₅ in
    let f₆ = (section-coded (λ _. KnownDeed U q.operation_count q.object_count) deed_bytes (λ _. done_row U q.operation_count q.object_count)
    (λ _ _. deed-coded U q.operation_count q.object_count)).encodes s₅ h₅ ds s₆ e₆ in
    rw (← d) (rw none at (rw f₆ at (rw f₅ at (rw f₄ at (rw f₃ at (rw f₂ at f₁))))))

-- "Tables are accepted when no check on them refuses": tables that pass are what is read from their bytes.
pub passes-accepted : (T : Tables) → Passes T → tables_of (encode T) ≡ taken T
unfolding tables_of whole next nothing_left refuse settle
passes-accepted T p = rw (sections-decodes T p.sound, p.late)

-- Accepted bytes are those of their tables, and of no others.
pub accepted-bytes : (b : Bytes) → AreBytes b → {T : Tables} → tables_of b ≡ taken T → b ≡ encode T
accepted-bytes b h q =
    let r = accepted-read b q in
    sections-encodes b h (rw (none_left r.rest r.none) at r.reads)
  where
    none_left : (s : Bytes) → length s ≤ 0 → s ≡ []
    none_left [] l = refl
    none_left (x ∷ s) l = absurd (omega arith)

-- Both ways at once: bytes are accepted for the tables T exactly where T passes the checks and they are T's bytes.
pub accepted-exactly : (b : Bytes) → AreBytes b → (T : Tables) → (tables_of b ≡ taken T) ↔ (Passes T × (b ≡ encode T))
accepted-exactly b h T = (λ q. (accepted-passes b q, accepted-bytes b h q), λ p. ap tables_of p.1 ∙ passes-accepted T p.0)
