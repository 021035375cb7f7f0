-- The bytes of changed tables: those before section 3, its count and rows, and those behind it.
-- Assumes nothing.
use mathlib.Core.Path.{◌≡◌, refl, sym, ap, ◌∙◌}
use mathlib.Core.List.{List, [], ◌∷◌, ◌++◌, map, append_assoc, append-nil}
use mathlib.Core.Option.{none}
use Prim.Native.Nat.{ℕ, suc, ◌+◌, ◌*◌, ◌-◌, ◌≤◌, ◌<◌}
use native.Mathlib.Omega.{arith}
use lib.ListN.{length, get_or, take, drop, length-append, length-drop, take-append-drop, drop_of_length-le}
use lib.Seq.{take_at, drop_at, drop-drop, length-take-le, take_all}
use Rattle.tables.specs.Tables.{Session, Tables, with_sessions}
use Rattle.tables.specs.Bytes.{lowest_first}
use Rattle.tables.specs.Encode.{word_bytes, user_bytes, session_bytes, joined, counted, section_bytes, encode}
use Rattle.tables.specs.Code.Layout.{session_count_at}
use Rattle.tables.specs.Code.Loaded.{TablesAt}
use Rattle.tables.proofs.BytesLaws.{lowest-length}
use Rattle.tables.proofs.EncodedLaws.{rows-length, words-length, users-length, encode-length}
use Rattle.syntax.specs.Bytes.{Bytes}
use Rattle.changes.specs.declared.Change.{Change}
use Rattle.changes.specs.declared.Change.TheVariants.{Opening, Closing}
use Rattle.changes.specs.Change.{new_session, sessions_by, changed, change_refusal}
use Rattle.changes.proofs.PassesLaws.{opening-opens, closing-closes}
use Rattle.changes.proofs.CountLaws.{counts_of}
use Rattle.texts.specs.Code.Overwritten.{Overwritten, Behind, Added}
use Rattle.sessions.specs.Code.Laying.{row_length, rows_in, next_length}
use Rattle.sessions.proofs.LayLaws.{to_end, part_length, add-then, added-length}

-- Rows of sessions.
abbrev rows : List Session → Bytes
rows ss = joined (map session_bytes ss)

sessions-length : (ss : List Session) → length (rows ss) ≡ 9 * length ss
unfolding session_bytes
sessions-length ss = rows-length 9 session_bytes (λ s. ap suc (lowest-length 8 s.active)) ss

rows_append : (xs ys : List Session) → rows (xs ++ ys) ≡ rows xs ++ rows ys
unfolding joined
rows_append [] ys = refl
rows_append (x ∷ xs) ys = ap (λ (r : Bytes). session_bytes x ++ r) (rows_append xs ys) ∙ sym (append_assoc (session_bytes x) (rows xs) (rows ys))

rows_split : (k : ℕ) (ss : List Session) → rows ss ≡ rows (take k ss) ++ rows (drop k ss)
rows_split k ss = ap rows (sym (take-append-drop k ss)) ∙ rows_append (take k ss) (drop k ss)

taken-length : (k : ℕ) (ss : List Session) → k ≤ length ss → length (rows (take k ss)) ≡ 9 * k
taken-length k ss l = sessions-length (take k ss) ∙ ap (λ (n : ℕ). 9 * n) (length-take-le k ss l)

-- k rows, and those behind them.
module _ (k : ℕ) (ss : List Session) (b : Bytes) (l : k ≤ length ss) where
  apart : rows ss ++ b ≡ rows (take k ss) ++ (rows (drop k ss) ++ b)
  apart = ap (λ (r : Bytes). r ++ b) (rows_split k ss) ∙ append_assoc (rows (take k ss)) (rows (drop k ss)) b

  rows_take : take (9 * k) (rows ss ++ b) ≡ rows (take k ss)
  rows_take = ap (take (9 * k)) apart ∙ take_at (rows (take k ss)) (rows (drop k ss) ++ b) (9 * k) (taken-length k ss l)

  rows_drop : drop (9 * k) (rows ss ++ b) ≡ rows (drop k ss) ++ b
  rows_drop = ap (drop (9 * k)) apart ∙ drop_at (rows (take k ss)) (rows (drop k ss) ++ b) (9 * k) (taken-length k ss l)

module _ (T : Tables) where
  before : Bytes
  before = counted word_bytes T.role_rows ++ counted user_bytes T.users

  behind : Bytes
  behind = joined (drop 3 (section_bytes T))

  encode-parts : (ss : List Session) → encode (with_sessions T ss) ≡ before ++ (length ss ∷ (rows ss ++ behind))
  unfolding before behind encode section_bytes joined counted
  encode-parts ss = sym (append_assoc (counted word_bytes T.role_rows) (counted user_bytes T.users) _)

  before-length : length before + 1 ≡ 3 + 8 * length T.role_rows + 9 * length T.users
  unfolding before
  before-length =
      omega (
        arith,
        length-append (counted word_bytes T.role_rows) (counted user_bytes T.users),
        words-length T.role_rows,
        users-length T.users,
      )

-- The bytes t of the tables T, and words that hold them changed.
module _ (T : Tables) (c : Change) {ts : List ℕ} {t : Bytes} (free : change_refusal T c ≡ none) (a : TablesAt ts (changed T c)) (e : t ≡ encode T) where
  abbrev ss : List Session
  ss = T.sessions

  abbrev at : ℕ
  at = rows_in ts

  place : length (before T) + 1 ≡ at
  place = let k = counts_of a in omega (arith, before-length T, k.roles, k.users)

  many : get_or ts session_count_at 0 ≡ length (sessions_by c ss)
  many = (counts_of a).sessions

  whole : t ≡ before T ++ (length ss ∷ (rows ss ++ behind T))
  whole = e ∙ encode-parts T ss

  front : take (at - 1) t ≡ before T
  front = ap (take (at - 1)) whole ∙ take_at (before T) _ (at - 1) (omega (arith, place))

  rest : drop at t ≡ rows ss ++ behind T
  rest =
      let q : at - 1 + 1 ≡ at = omega (arith, place) in
      ap (λ (n : ℕ). drop n t) (sym q) ∙ sym (drop-drop 1 (at - 1) t) ∙ ap (λ (b : Bytes). drop 1 (drop (at - 1) b)) whole
      ∙ ap (drop 1) (drop_at (before T) (length ss ∷ (rows ss ++ behind T)) (at - 1) (omega (arith, place)))

  further : (j : ℕ) → j ≤ length ss → drop (at + 9 * j) t ≡ rows (drop j ss) ++ behind T
  further j l = sym (drop-drop (9 * j) at t) ∙ ap (drop (9 * j)) rest ∙ rows_drop j ss (behind T) l

  upto : (j : ℕ) → j ≤ length ss → take (at + 9 * j - at) (drop at t) ≡ rows (take j ss)
  upto j l =
      let q : at + 9 * j - at ≡ 9 * j = omega arith in
      ap (λ (n : ℕ). take n (drop at t)) q ∙ ap (take (9 * j)) rest ∙ rows_take j ss (behind T) l

  pub rows-room : at + 9 * length ss ≤ length t
  rows-room =
      omega (
        arith,
        ap length whole,
        place,
        length-append (before T) (length ss ∷ (rows ss ++ behind T)),
        length-append (rows ss) (behind T),
        sessions-length ss,
      )

  -- Before, the count, rows, and what is behind, as they are added.
  joined-up : (xs ys : Bytes) → rows (sessions_by c ss) ≡ xs ++ ys
      → ((before T ++ (get_or ts session_count_at 0 ∷ [])) ++ xs) ++ (ys ++ behind T) ≡ encode (changed T c)
  joined-up xs ys q =
      append_assoc (before T ++ (get_or ts session_count_at 0 ∷ [])) xs (ys ++ behind T)
      ∙ append_assoc (before T) (get_or ts session_count_at 0 ∷ []) (xs ++ (ys ++ behind T))
      ∙ ap (λ (n : ℕ). before T ++ (n ∷ (xs ++ (ys ++ behind T)))) many
      ∙ ap (λ (r : Bytes). before T ++ (length (sessions_by c ss) ∷ r)) (sym (append_assoc xs ys (behind T)) ∙ ap (λ (r : Bytes). r ++ behind T) (sym q))
      ∙ sym (encode-parts T (sessions_by c ss))

-- ---- the pieces of changed tables, as they are added

-- A row: the user's number over the first of nine bytes, and the word behind it.
pub row_written : (u w : ℕ) {nine new : Bytes} → length nine ≡ 9 → take 1 nine ≡ u ∷ [] → Behind 1 (lowest_first 8 w) nine new → new ≡ u ∷ lowest_first 8 w
unfolding lowest_first
row_written u w {nine} long first b =
    let one : Overwritten (u ∷ []) nine nine 1
    = record { count = refl; bytes = sym (take-append-drop 1 nine) ∙ ap (λ (x : Bytes). x ++ drop 1 nine) first; fits = omega arith } in
    (b (u ∷ []) nine one).bytes ∙ rw (drop_of_length-le nine {i = 9} (omega arith), append-nil (u ∷ lowest_first 8 w))

module _ (T : Tables) {ts : List ℕ} {t : Bytes} where
  module _ (u w : ℕ) (free : change_refusal T (Opening u w) ≡ none) (a : TablesAt ts (changed T (Opening u w))) (e : t ≡ encode T) where
    abbrev last : ℕ
    last = rows_in ts + row_length * (get_or ts session_count_at 0 - 1)

    many_more : get_or ts session_count_at 0 - 1 ≡ length T.sessions
    unfolding sessions_by
    many_more = omega (arith, many T (Opening u w) free a e, length-append T.sessions (new_session u w ∷ []))

    pub opened-added : {one : Bytes} {n i j k r : ℕ} {old x y z new : Bytes} → one ≡ u ∷ lowest_first 8 w → Added n (take (rows_in ts - 1) t ++ (get_or ts session_count_at 0 ∷ [])) old x i
        → Added i (take (last - rows_in ts) (drop (rows_in ts) t)) x y j → Added j one y z k → Added k (take (length t - last) (drop last t)) z new r
        → Added n (encode (changed T (Opening u w))) old new r
    unfolding sessions_by joined session_bytes
    opened-added row p q x rest =
        let l : length T.sessions ≤ length T.sessions = omega arith in
        let m : last ≡ rows_in ts + 9 * length T.sessions = ap (λ (n : ℕ). rows_in ts + 9 * n) many_more in
        let all : take (last - rows_in ts) (drop (rows_in ts) t) ≡ rows T.sessions
        = rw m (upto T (Opening u w) free a e (length T.sessions) l ∙ ap rows (take_all (length T.sessions) T.sessions l)) in
        let none : take (length t - last) (drop last t) ≡ behind T
        = to_end last t ∙ rw m (further T (Opening u w) free a e (length T.sessions) l ∙ ap (λ (ss : List Session). rows ss ++ behind T) (drop_of_length-le T.sessions l)) in
        let more : rows (T.sessions ++ (new_session u w ∷ [])) ≡ rows T.sessions ++ (u ∷ lowest_first 8 w)
        = rows_append T.sessions (new_session u w ∷ []) ∙ ap (λ (b : Bytes). rows T.sessions ++ b) (append-nil (u ∷ lowest_first 8 w)) in
        let pieces = add-then (add-then (rw (front T (Opening u w) free a e) at p) (rw all at q)) (add-then (rw row at x) (rw none at rest)) in
        rw (joined-up T (Opening u w) free a e (rows T.sessions) (u ∷ lowest_first 8 w) more) at pieces

  module _ (k : ℕ) (free : change_refusal T (Closing k) ≡ none) (a : TablesAt ts (changed T (Closing k))) (e : t ≡ encode T) where
    abbrev row : ℕ
    row = rows_in ts + row_length * k

    pub closed-added : {n i j r : ℕ} {old x y new : Bytes} → Added n (take (rows_in ts - 1) t ++ (get_or ts session_count_at 0 ∷ [])) old x i
        → Added i (take (row - rows_in ts) (drop (rows_in ts) t)) x y j → Added j (take (length t - (row + row_length)) (drop (row + row_length) t)) y new r
        → Added n (encode (changed T (Closing k))) old new r
    unfolding sessions_by
    closed-added p q rest =
        let is_open = closing-closes T k free in
        let m : row + row_length ≡ rows_in ts + 9 * suc k = omega arith in
        let some : take (row - rows_in ts) (drop (rows_in ts) t) ≡ rows (take k T.sessions) = upto T (Closing k) free a e k (omega arith) in
        let others : take (length t - (row + row_length)) (drop (row + row_length) t) ≡ rows (drop (suc k) T.sessions) ++ behind T
        = to_end (row + row_length) t ∙ rw m (further T (Closing k) free a e (suc k) is_open) in
        let pieces = add-then (add-then (rw (front T (Closing k) free a e) at p) (rw some at q)) (rw others at rest) in
        rw (joined-up T (Closing k) free a e (rows (take k T.sessions)) (rows (drop (suc k) T.sessions)) (rows_append (take k T.sessions) (drop (suc k) T.sessions))) at pieces

cut-length : (k : ℕ) (ss : List Session) → k < length ss → length (take k ss ++ drop (suc k) ss) + 1 ≡ length ss
cut-length k ss l = omega (arith, length-append (take k ss) (drop (suc k) ss), length-take-le k ss (omega arith), length-drop (suc k) ss)

-- ---- what the code asks of the numbers, where the rows begin at r

module _ (T : Tables) (c : Change) {ts : List ℕ} {t : Bytes} (free : change_refusal T c ≡ none) (a : TablesAt ts (changed T c)) (e : t ≡ encode T) where
  count-length : length (take (rows_in ts - 1) t ++ (get_or ts session_count_at 0 ∷ [])) ≡ rows_in ts
  count-length =
      let k : rows_in ts - 1 ≤ length t = omega (arith, rows-room T c free a e) in
      length-append (take (rows_in ts - 1) t) (get_or ts session_count_at 0 ∷ []) ∙ omega (arith, length-take-le (rows_in ts - 1) t k)

  low : rows_in ts ≤ 1091
  low = let k = counts_of a in omega (arith, k.roles, k.users, k.few_roles, k.few_users)

pub record OpenedFits (ts : List ℕ) (t : Bytes) (u r : ℕ) : Type 0 where
  pub at : r ≡ rows_in ts
  pub low : r ≤ 1091
  pub front : length (take (rows_in ts - 1) t ++ (get_or ts session_count_at 0 ∷ [])) ≡ r
  pub some : 1 ≤ get_or ts session_count_at 0
  pub few : get_or ts session_count_at 0 ≤ 64
  pub last : r + row_length * (get_or ts session_count_at 0 - 1) ≤ length t
  pub rows : length (take (r + row_length * (get_or ts session_count_at 0 - 1) - r) (drop r t)) ≡ row_length * (get_or ts session_count_at 0 - 1)
  pub user : u < 64

pub opened-fits : (T : Tables) (u w : ℕ) {ts : List ℕ} {t : Bytes} {r : ℕ} → change_refusal T (Opening u w) ≡ none → TablesAt ts (changed T (Opening u w)) → t ≡ encode T
    → r ≡ rows_in ts → OpenedFits ts t u r
unfolding sessions_by
opened-fits T u w {ts} {t} {r} free a e q =
    let k = counts_of a in
    let n = length-append T.sessions (new_session u w ∷ []) in
    let last : r + row_length * (get_or ts session_count_at 0 - 1) ≤ length t = omega (arith, rows-room T (Opening u w) free a e, k.sessions, n) in
    record {
      at = q;
      low = omega (arith, low T (Opening u w) free a e);
      front = count-length T (Opening u w) free a e ∙ sym q;
      some = omega (arith, k.sessions, n);
      few = omega (arith, k.sessions, k.few_sessions);
      last = last;
      rows = part_length r (r + row_length * (get_or ts session_count_at 0 - 1) - r) t (omega arith) ∙ omega arith;
      user = omega (arith, (opening-opens T u w free).user, k.few_users);
    }

-- Behind the new row there is room for the rest.
pub rest-fits : {ts : List ℕ} {t : Bytes} {u at n i j k : ℕ} {one old x y z : Bytes} → OpenedFits ts t u at → length one ≡ row_length
    → Added n (take (rows_in ts - 1) t ++ (get_or ts session_count_at 0 ∷ [])) old x i
    → Added i (take (at + row_length * (get_or ts session_count_at 0 - 1) - at) (drop at t)) x y j → Added j one y z k → n + length t + row_length ≤ length old
    → k + length (take (length t - (at + row_length * (get_or ts session_count_at 0 - 1))) (drop (at + row_length * (get_or ts session_count_at 0 - 1)) t)) ≤ length z
rest-fits {ts} {t} {at = at} f nine p q s room =
    let last = at + row_length * (get_or ts session_count_at 0 - 1) in
    let rest : length (take (length t - last) (drop last t)) ≡ length t - last = ap length (to_end last t) ∙ length-drop last t in
    let x = added-length (omega arith) p in
    let y = added-length (omega (arith, p.0, f.front, f.last)) q in
    let z = added-length (omega (arith, p.0, q.0, f.front, f.rows, f.last)) s in
    omega (arith, p.0, q.0, s.0, f.front, f.rows, f.last)

pub record ClosedFits (ts : List ℕ) (t : Bytes) (k r : ℕ) : Type 0 where
  pub at : r ≡ rows_in ts
  pub low : r ≤ 1091
  pub front : length (take (rows_in ts - 1) t ++ (get_or ts session_count_at 0 ∷ [])) ≡ r
  pub few : k ≤ 64
  pub last : r + row_length * k + row_length ≤ length t
  pub rows : length (take (r + row_length * k - r) (drop r t)) ≡ row_length * k

pub closed-fits : (T : Tables) (k : ℕ) {ts : List ℕ} {t : Bytes} {r : ℕ} → change_refusal T (Closing k) ≡ none → TablesAt ts (changed T (Closing k)) → t ≡ encode T
    → r ≡ rows_in ts → ClosedFits ts t k r
unfolding sessions_by
closed-fits T k {t = t} {r} free a e q =
    let n = counts_of a in
    let is_open = closing-closes T k free in
    let m = cut-length k T.sessions is_open in
    let last : r + row_length * k + row_length ≤ length t = omega (arith, rows-room T (Closing k) free a e) in
    record {
      at = q;
      low = omega (arith, low T (Closing k) free a e);
      front = count-length T (Closing k) free a e ∙ sym q;
      few = omega (arith, n.few_sessions, m);
      last = last;
      rows = part_length r (r + row_length * k - r) t (omega arith) ∙ omega arith;
    }

-- ---- how long they are

pub changed-length : (T : Tables) (c : Change) → change_refusal T c ≡ none → length (encode (changed T c)) ≡ next_length c (length (encode T))
unfolding sessions_by
changed-length T (Opening u w) free =
    omega (arith, encode-length T, encode-length (changed T (Opening u w)), length-append T.sessions (new_session u w ∷ []))
changed-length T (Closing k) free =
    omega (arith, encode-length T, encode-length (changed T (Closing k)), cut-length k T.sessions (closing-closes T k free))
