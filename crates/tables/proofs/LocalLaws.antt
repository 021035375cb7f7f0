-- Document 01: "the first refusal met is the answer and nothing further is read", whatever bytes follow; "first 4,096 bytes suffice": reading
-- looks at no more than 3,978 bytes, and then for one that is left over.
-- Assumes nothing.
use mathlib.Core.Path.{◌≡◌, refl, sym, ap, ◌∙◌}
use mathlib.Core.Bool.{Bool, true, false, not, cond}
use mathlib.Core.List.{List, [], ◌∷◌, ◌++◌, append_assoc}
use Prim.Native.Nat.{ℕ, zero, suc, ◌+◌, ◌*◌, ◌≤◌, ◌<◌}
use native.Mathlib.Nat.{mul-suc, mul-le-mul_left}
use native.Mathlib.Omega.{arith}
use lib.Dec.{eqb, ltb}
use lib.ListN.{length, get_or, take, drop, length-append, length-drop, take-append-drop}
use lib.Seq.{take-append-le, drop-append-le, take_all, take_at, length-take-le}
use borrow.Author.Tests.{ltb-true, ltb-false, le-ltb, eqb-true, not-false}
use Rattle.answers.specs.declared.Refusal.{Refusal}
use Rattle.answers.specs.declared.Refusal.TheVariants.{CutShort, Overfull, NotEntered, BadMark, NoSuchItem, Miscounted}
use Rattle.answers.specs.Refusal.{number_of}
use Rattle.answers.proofs.AnswerLaws.{number-some, same_number}
use Rattle.tables.specs.Tables.{Tables}
use Rattle.tables.specs.Accepted.{Sound}
use Rattle.tables.specs.Encode.{deed_bytes, joined, counted, section_bytes, encode, nine_bytes}
use Rattle.tables.specs.Reading.{Bytes, Taken, Reader, stop, took, next, refuse, front, byte, count, word_from, word_within, word_row, marked_row, user_row, permission_row}
use Rattle.tables.specs.Reading.{session_row, done_row, rows, section, permissions, rights, collections, sections, rejected, taken, tables_of}
use Rattle.tables.proofs.SectionsLaws.{product-few}
use Rattle.tables.proofs.FitsLaws.{next-case, count-few, accepted-read}
use Rattle.tables.proofs.LoadLaws.{load-stop, left_over, late-refusal}
use Rattle.tables.proofs.EncodeLaws.{sections-decodes}

-- What is read of bytes with more behind them.
abbrev extend : {A : Type 0} → Bytes → Taken A → Taken A
extend x (stop e) = stop e
extend x (took a t) = took a (t ++ x)

-- A refusal that is not "cut short".
told : {A : Type 0} {e : Refusal} → 2 ≤ number_of e → ◌≡◌ {A = Taken A} (stop e) (stop CutShort) → ⊥
told {e = e} l q = let z : e ≡ CutShort = cc in absurd (omega (arith, ap number_of z))

not-cut : {A : Type 0} {a : A} {t : Bytes} → took a t ≡ stop CutShort → ⊥
not-cut q = let z : ◌≡◌ {A = ℕ} 0 1 = cc in absurd (omega arith)

-- A reader that is told no more by bytes behind, unless its own are cut short; it uses at most k bytes, and k bytes are not cut short.
record Local {A : Type 0} (k : ℕ) (m : Reader A) : Type 0 where
  same : (s x : Bytes) → (m s ≡ stop CutShort → ⊥) → m (s ++ x) ≡ extend x (m s)
  uses : (s : Bytes) (a : A) (t : Bytes) → m s ≡ took a t → length s ≤ k + length t
  enough : (s : Bytes) → k ≤ length s → m s ≡ stop CutShort → ⊥

weaken : {A : Type 0} {m : Reader A} (j k : ℕ) → j ≤ k → Local j m → Local k m
weaken j k l h = record { same = h.same; uses = λ s a t q. omega (arith, h.uses s a t q); enough = λ s p. h.enough s (omega arith) }

local-give : {A : Type 0} (a : A) → Local 0 (λ s. took a s)
local-give a =
    record { same = λ s x p. refl; uses = λ s b t q. let d : s ≡ t = cc in omega (arith, ap length d); enough = λ s p q. not-cut q }

local-front : (n : ℕ) → Local n (front n)
unfolding front
local-front n =
    record {
      same = λ s x p. keep s x p (ltb (length s) n) refl;
      uses = λ s b t q. go s t b (ltb (length s) n) refl q;
      enough = λ s p q. not-cut (rw (le-ltb (length s) n p) at q);
    }
  where
    go : (s t b : Bytes) (c : Bool) → ltb (length s) n ≡ c → cond c (stop CutShort) (took (take n s) (drop n s)) ≡ took b t → length s ≤ n + length t
    go s t b true e k = let z : ◌≡◌ {A = ℕ} 0 1 = cc in absurd (omega arith)
    go s t b false e k = let d : drop n s ≡ t = cc in omega (arith, sym (length-drop n s) ∙ ap length d)

    keep : (s x : Bytes) → (cond (ltb (length s) n) (stop CutShort) (took (take n s) (drop n s)) ≡ stop CutShort → ⊥) → (c : Bool) → ltb (length s) n ≡ c
        → cond (ltb (length (s ++ x)) n) (stop CutShort) (took (take n (s ++ x)) (drop n (s ++ x)))
        ≡ extend x (cond (ltb (length s) n) (stop CutShort) (took (take n s) (drop n s)))
    keep s x p true e = absurd (p (rw e))
    keep s x p false e =
        let l = ltb-false (length s) n e in
        rw (le-ltb (length (s ++ x)) n (omega (arith, length-append s x)), e, take-append-le n s x l, drop-append-le n s x l)

-- One reader behind another; P is what the first leaves.
module _ {A B : Type 0} (P : A → Type 0) {m : Reader A} {f : A → Reader B} (j k : ℕ) where
  local-next : ((s : Bytes) (a : A) (t : Bytes) → m s ≡ took a t → P a) → Local j m → ((a : A) → P a → Local k (f a)) → Local (j + k) (λ s. next (m s) f)
  unfolding next
  local-next p h g =
      record {
        same = λ s x c. go s x c (m s) refl;
        uses = λ s b t q. next-case (m s) f q λ a u e r. omega (arith, h.uses s a u e, (g a (p s a u e)).uses u b t r);
        enough = λ s l q. cut s l (m s) refl q;
      }
    where
      go : (s x : Bytes) → (next (m s) f ≡ stop CutShort → ⊥) → (r : Taken A) → m s ≡ r → next (m (s ++ x)) f ≡ extend x (next (m s) f)
      go s x c (stop e) q = rw (h.same s x (λ z. c (rw z)), q)
      go s x c (took a t) q = rw (h.same s x (λ z. not-cut (sym q ∙ z)), q) ((g a (p s a t q)).same t x (λ z. c (rw q z)))

      cut : (s : Bytes) → j + k ≤ length s → (r : Taken A) → m s ≡ r → next r f ≡ stop CutShort → ⊥
      cut s l (stop e) q z = let d : e ≡ CutShort = cc in h.enough s (omega arith) (rw d at q)
      cut s l (took a t) q z = (g a (p s a t q)).enough t (omega (arith, h.uses s a t q)) z

local-refuse : {B : Type 0} {f : Reader B} (c : Bool) (e : Refusal) (k : ℕ) → 2 ≤ number_of e → (c ≡ false → Local k f)
    → Local k (λ s. next (refuse c e s) (λ _. f))
unfolding next refuse
local-refuse true e k l h =
    record { same = λ s x p. refl; uses = λ s b t q. let z : ◌≡◌ {A = ℕ} 0 1 = cc in absurd (omega arith); enough = λ s p q. told l q }
local-refuse false e k l h = h refl

-- Whatever the first reader leaves.
abbrev Any : {A : Type 0} → A → Type 0
Any a = Unit {0}

local-byte : Local 1 byte
unfolding byte
local-byte = local-next Any 1 0 (λ s a t q. tt) (local-front 1) (λ b u. local-give (get_or b 0 0))

local-count : (limit : ℕ) → Local 1 (count limit)
unfolding count
local-count limit = local-next Any 1 0 (λ s a t q. tt) local-byte (λ n u. local-refuse (ltb limit n) Overfull 0 (omega arith) (λ c. local-give n))

local-within : (n : ℕ) (b : Bytes) → Local 0 (word_within n b)
unfolding word_within
local-within n b = local-refuse _ NoSuchItem 0 (omega arith) (λ c. local-give (word_from b))

local-word : (n : ℕ) → Local 8 (word_row n)
unfolding word_row
local-word n = local-next Any 8 0 (λ s a t q. tt) (local-front 8) (λ b u. local-within n b)

local-marked : (highest n : ℕ) → Local 9 (marked_row highest n)
unfolding marked_row
local-marked highest n =
    local-next Any 9 0 (λ s a t q. tt) (local-front 9)
    (λ b u. local-refuse _ NotEntered 0 (omega arith)
    (λ c. local-refuse _ BadMark 0 (omega arith)
    (λ d. local-next Any 0 0 (λ s a t q. tt) (local-within n (drop 1 b)) (λ w v. local-give _))))

local-user : (n : ℕ) → Local 9 (user_row n)
unfolding user_row
local-user n = local-next Any 9 0 (λ s a t q. tt) (local-marked _ n) (λ m v. local-give _)

local-permission : (n : ℕ) → Local 9 (permission_row n)
unfolding permission_row
local-permission n = local-next Any 9 0 (λ s a t q. tt) (local-marked _ n) (λ m v. local-give _)

local-session : (users roles : ℕ) → Local 9 (session_row users roles)
unfolding session_row
local-session users roles =
    local-next Any 9 0 (λ s a t q. tt) (local-front 9)
    (λ b u. local-refuse _ NoSuchItem 0 (omega arith) (λ c. local-next Any 0 0 (λ s a t q. tt) (local-within roles (drop 1 b)) (λ w v. local-give _)))

local-done : (users operations objects : ℕ) → Local 3 (done_row users operations objects)
unfolding done_row
local-done users operations objects =
    local-next Any 3 0 (λ s a t q. tt) (local-front 3)
    (λ b u. local-refuse _ NoSuchItem 0 (omega arith)
    (λ c. local-refuse _ NoSuchItem 0 (omega arith) (λ d. local-refuse _ NoSuchItem 0 (omega arith) (λ e. local-give _))))

module _ {A : Type 0} (k : ℕ) (row : Reader A) (h : Local k row) where
  local-rows : (n : ℕ) → Local (k * n) (rows row n)
  unfolding rows
  local-rows zero = weaken 0 (k * 0) (omega arith) (local-give [])
  local-rows (suc n) =
      weaken (k + (k * n + 0)) (k * suc n) (omega (arith, mul-suc k n))
      (local-next Any k (k * n + 0) (λ s a t q. tt) h
      (λ a u. local-next Any (k * n) 0 (λ s as' t q. tt) (local-rows n) (λ as' v. local-give (a ∷ as'))))

local-section : {A : Type 0} (k : ℕ) (row : ℕ → Reader A) → ((n : ℕ) → Local k (row n)) → Local (1 + k * 64) (section row)
unfolding section
local-section k row h =
    local-next (λ n. n ≤ 64) 1 (k * 64) (λ s n t q. count-few 64 s q) (local-count 64)
    (λ n l. weaken (k * n) (k * 64) (mul-le-mul_left k l) (local-rows k (row n) (h n) n))

local-permissions : (product roles : ℕ) → product ≤ 64 → Local (1 + 576) (permissions product roles)
unfolding permissions
local-permissions product roles l =
    local-next Any 1 576 (λ s a t q. tt) local-byte
    (λ n u. local-refuse (not (eqb n product)) Miscounted 576 (omega arith)
    (λ c.
    let e = eqb-true n product (not-false (eqb n product) c) in
    weaken (9 * n) 576 (omega arith) (local-rows 9 (permission_row roles) (local-permission roles) n)))

local-rights : (roles : ℕ) → Local (1 + (1 + (577 + 0))) (rights roles)
unfolding rights
local-rights roles =
    local-next (λ a. a ≤ 8) 1 (1 + (577 + 0)) (λ s n t q. count-few 8 s q) (local-count 8)
    (λ a la. local-next (λ b. b ≤ 8) 1 (577 + 0) (λ s n t q. count-few 8 s q) (local-count 8)
    (λ b lb. local-next Any 577 0 (λ s n t q. tt) (local-permissions (a * b) roles (product-few la lb)) (λ ps v. local-give _)))

local-collections : (r u p : ℕ) → Local (513 + (513 + (513 + 0))) (collections r u p)
unfolding collections
local-collections r u p =
    local-next Any 513 (513 + (513 + 0)) (λ s a t q. tt) (local-section 8 (λ _. word_row r) (λ n. local-word r))
    (λ x k. local-next Any 513 (513 + 0) (λ s a t q. tt) (local-section 8 (λ _. word_row u) (λ n. local-word u))
    (λ y l. local-next Any 513 0 (λ s a t q. tt) (local-section 8 (λ _. word_row p) (λ n. local-word p)) (λ z m. local-give _)))

local-sections : Local 3978 sections
unfolding sections
local-sections =
    local-next Any 513 3465 (λ s a t q. tt) (local-section 8 (λ n. word_row n) local-word)
    (λ rs i. local-next Any 577 2888 (λ s a t q. tt) (local-section 9 (λ _. user_row (length rs)) (λ n. local-user (length rs)))
    (λ us j. local-next Any 577 2311 (λ s a t q. tt) (local-section 9 (λ _. session_row (length us) (length rs)) (λ n. local-session (length us) (length rs)))
    (λ ss k. local-next Any 579 1732 (λ s a t q. tt) (local-rights (length rs))
    (λ q l. local-next Any 1539 193 (λ s a t q. tt) (local-collections _ _ _)
    (λ c m. local-next Any 193 0 (λ s a t q. tt) (local-section 3 (λ _. done_row _ _ _) (λ n. local-done _ _ _)) (λ ds n. local-give _))))))

-- "The largest tables take 3,978 bytes": no more are accepted.
pub accepted-short : (b : Bytes) {T : Tables} → tables_of b ≡ taken T → length b ≤ 3978
accepted-short b {T} q =
    let r = accepted-read b q in
    omega (arith, local-sections.uses b T r.rest r.reads, r.none)

-- "the first refusal met is the answer and nothing further is read": a refusal 2 to 6 is the answer whatever bytes follow.
pub first-refusal : (s x : Bytes) (e : Refusal) → sections s ≡ stop e → 2 ≤ number_of e → tables_of (s ++ x) ≡ rejected e
first-refusal s x e q l = load-stop (s ++ x) (local-sections.same s x (λ z. told l (sym q ∙ z)) ∙ ap (extend x) q)

pub refusal-stays : (s x : Bytes) (e : Refusal) → tables_of s ≡ rejected e → 2 ≤ number_of e → number_of e ≤ 6 → tables_of (s ++ x) ≡ rejected e
refusal-stays s x e h l k = go (sections s) refl
  where
    go : (r : Taken Tables) → sections s ≡ r → tables_of (s ++ x) ≡ rejected e
    go (stop f) q =
        let d : f ≡ e = cc (load-stop s q) in
        first-refusal s x e (rw d at q) l
    go (took T t) q = absurd (omega (arith, (late-refusal s q h).0))

-- 1: "bytes end where a count or row is due, or inside a row": bytes that have all sections, whatever is wrong with these, are cut short where they are cut anywhere;
pub cut-sections : (b : Bytes) {T : Tables} → sections b ≡ took T [] → (n : ℕ) → n < length b → tables_of (take n b) ≡ rejected CutShort
cut-sections b {T} q n l = go (sections s) refl
  where
    s : Bytes
    s = take n b

    x : Bytes
    x = drop n b

    again : s ++ x ≡ b
    again = take-append-drop n b

    go : (r : Taken Tables) → sections s ≡ r → tables_of s ≡ rejected CutShort
    go (took U t) p =
        let e = local-sections.same s x (λ z. not-cut (sym p ∙ z)) ∙ ap (extend x) p in
        let d : t ++ x ≡ [] = cc (rw again at e, q) in
        absurd (omega (arith, length-append t x, length-drop n b, ap length d))
    go (stop e) p = cases (ltb 1 (number_of e)) refl
      where
        cases : (c : Bool) → ltb 1 (number_of e) ≡ c → tables_of s ≡ rejected CutShort
        cases false z =
            let one : number_of e ≡ 1 = omega (arith, ltb-false 1 (number_of e) z, number-some e) in
            load-stop s (p ∙ ap stop (same_number e CutShort one))
        cases true z =
            let f = local-sections.same s x (λ y. told (ltb-true 1 (number_of e) z) (sym p ∙ y)) ∙ ap (extend x) p in
            let o : ◌≡◌ {A = ℕ} 0 1 = cc (rw again at f, q) in
            absurd (omega arith)

-- so are accepted tables,
pub cut-anywhere : (b : Bytes) {T : Tables} → tables_of b ≡ taken T → (n : ℕ) → n < length b → tables_of (take n b) ≡ rejected CutShort
cut-anywhere b {T} q n l =
    let r = accepted-read b q in
    cut-sections b (r.reads ∙ ap (took T) (none_left r.rest r.none)) n l
  where
    none_left : (t : Bytes) → length t ≤ 0 → t ≡ []
    none_left [] e = refl
    none_left (x ∷ t) e = absurd (omega arith)

-- (sections, one after another)
joined-append : (xs ys : List Bytes) → joined (xs ++ ys) ≡ joined xs ++ joined ys
unfolding joined
joined-append [] ys = refl
joined-append (x ∷ xs) ys = ap (λ (b : Bytes). x ++ b) (joined-append xs ys) ∙ sym (append_assoc x (joined xs) (joined ys))

and-the-tenth : (T : Tables) → encode T ≡ nine_bytes T ++ (counted deed_bytes T.done ++ [])
unfolding encode section_bytes nine_bytes joined
and-the-tenth T = joined-append (take 9 (section_bytes T)) (counted deed_bytes T.done ∷ [])

tenth-counts : (T : Tables) → 0 < length (counted deed_bytes T.done ++ [])
unfolding counted
tenth-counts T = omega arith

-- and, document 02, N8, "Tables that stop after section 9": the first nine sections of any tables whose sections can be read.
pub nine-sections : (T : Tables) → Sound T → tables_of (nine_bytes T) ≡ rejected CutShort
nine-sections T sound =
    let rest : Bytes = counted deed_bytes T.done ++ [] in
    let n : ℕ = length (nine_bytes T) in
    let more : n < length (encode T) = omega (arith, ap length (and-the-tenth T), length-append (nine_bytes T) rest, tenth-counts T) in
    ap tables_of (sym (take_at (nine_bytes T) rest n refl) ∙ ap (take n) (sym (and-the-tenth T))) ∙ cut-sections (encode T) (sections-decodes T sound) n more

-- Any first 3,979 bytes or more suffice.
pub more-behind : (s x : Bytes) → 3978 < length s → tables_of (s ++ x) ≡ tables_of s
more-behind s x l = go (sections s) refl
  where
    go : (r : Taken Tables) → sections s ≡ r → tables_of (s ++ x) ≡ tables_of s
    go (stop e) q = load-stop (s ++ x) (local-sections.same s x (local-sections.enough s (omega arith)) ∙ ap (extend x) q) ∙ sym (load-stop s q)
    go (took T t) q =
        let u = local-sections.uses s T t q in
        left_over (s ++ x) (local-sections.same s x (local-sections.enough s (omega arith)) ∙ ap (extend x) q) (omega (arith, length-append t x)) ∙ sym (left_over s q (omega arith))

pub first-suffice : (n : ℕ) (b : Bytes) → 3978 < n → tables_of (take n b) ≡ tables_of b
first-suffice n b l = go (ltb n (length b)) refl
  where
    go : (c : Bool) → ltb n (length b) ≡ c → tables_of (take n b) ≡ tables_of b
    go false e = ap tables_of (take_all n b (ltb-false n (length b) e))
    go true e =
        let h = ltb-true n (length b) e in
        let m = length-take-le n b (omega arith) in
        sym (more-behind (take n b) (drop n b) (omega arith)) ∙ ap tables_of (take-append-drop n b)
