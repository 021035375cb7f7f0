-- Putting texts into a sheet, one after the other.
-- Assumes nothing.
use mathlib.Core.Path.{◌≡◌, refl, ap, sym, ◌∙◌}
use mathlib.Core.List.{[], ◌++◌, append_assoc, append-nil}
use Prim.Native.Nat.{ℕ, ◌+◌, ◌-◌, ◌≤◌, ◌<◌, min}
use native.Mathlib.Omega.{arith}
use native.Mathlib.Decide.{dec_lt}
use lib.ListN.{length, take, drop, length-append, length-take, length-drop, drop_of_length-le}
use lib.Seq.{take_all, take-length, length-take-le, drop-nil, take-append_seam, drop-append_seam, take-append-add}
use lib.Seq.{take-append-le, drop-drop, take-nil, take_at}
use borrow.Rule.Slice.PartMut.{put_mid}
use Rattle.syntax.specs.Bytes.{Bytes}
use Rattle.printer.specs.Code.Printed.{Puts, Adds}
use Rattle.printer.specs.declared.sheet.Sheet.{Sheet}

past : (l : Bytes) (i : ℕ) → length l ≤ i → drop i l ≡ []
past l i h = drop_of_length-le l h

-- One text, and then another in the rest of the sheet.
pub puts-more : {w v old mid rest : Bytes} {r s : ℕ} → Puts w old mid r → Puts v (drop r mid) rest s → Puts (w ++ v) old (take r mid ++ rest) (r + s)
puts-more {w} {v} {old} {mid} {rest} {r} {s} p q = go (dec_lt (length old) (length w))
  where
    go : Dec (length old < length w) → Puts (w ++ v) old (take r mid ++ rest) (r + s)
    go (yes h) =
        let e : r ≡ length old = omega (arith, p.count) in
        let m : mid ≡ take (length old) w = p.bytes ∙ rw (past old (length w) (omega arith), append-nil) in
        let l : length mid ≡ length old = ap length m ∙ length-take-le (length old) w (omega arith) in
        let d : drop r mid ≡ [] = past mid r (omega arith) in
        let t : rest ≡ [] = q.bytes ∙ rw d (drop-nil (length v)) in
        record {
          bytes =
              rw (t, append-nil, take_all r mid (omega arith), m, take-append-le (length old) w v (omega arith))
              (rw (length-append, past old (length w + length v) (omega arith), append-nil));
          count = rw length-append (omega (arith, q.count, ap length d));
        }
    go (no h) =
        let e : r ≡ length w = omega (arith, p.count) in
        let m : mid ≡ w ++ drop (length w) old = p.bytes ∙ rw (take_all (length old) w (omega arith)) in
        let a : take r mid ≡ w = rw (e, m) (take-append_seam w _) in
        let d : drop r mid ≡ drop (length w) old = rw (e, m) (drop-append_seam w _) in
        let t : rest ≡ take (length old - length w) v ++ drop (length w + length v) old = q.bytes ∙ rw (d, length-drop, drop-drop) in
        let x : length old ≡ length w + (length old - length w) = omega arith in
        let u : take (length old) (w ++ v) ≡ w ++ take (length old - length w) v = ap (λ (n : ℕ). take n (w ++ v)) x ∙ take-append-add w v _ in
        record {
          bytes = rw (a, t, length-append, u) (sym (append_assoc w _ _));
          count = rw length-append (omega (arith, q.count, ap length d, length-drop (length w) old));
        }

-- Of two texts that are one.
pub puts-as : {w v old new : Bytes} {r : ℕ} → w ≡ v → Puts w old new r → Puts v old new r
puts-as e p = rw e at p

pub puts-empty : (old : Bytes) → Puts [] old old 0
puts-empty old = record { bytes = rw (take-nil (length old)); count = omega arith }

-- What was put stands in front, as far as it has room.
pub puts-front : {w old new : Bytes} {r : ℕ} → Puts w old new r → take r new ≡ take (length old) w
puts-front {w} {old} {new} {r} p = go (dec_lt (length old) (length w))
  where
    go : Dec (length old < length w) → take r new ≡ take (length old) w
    go (yes h) =
        let l : length (take (length old) w) ≡ r = length-take-le (length old) w (omega arith) ∙ omega (arith, p.count) in
        rw p.bytes (take_at (take (length old) w) _ r l)
    go (no h) =
        let e : take (length old) w ≡ w = take_all (length old) w (omega arith) in
        rw (p.bytes, e) (take_at w _ r (omega (arith, p.count)))

-- As much of a text as has room, in the part that it takes.

puts-part : {w rest : Bytes} {n : ℕ} → n ≡ min (length w) (length rest) → Puts w rest (take n w ++ drop n rest) n
puts-part {w} {rest} {n} c = record { bytes = go (dec_lt (length rest) (length w)); count = c }
  where
    go : Dec (length rest < length w) → take n w ++ drop n rest ≡ take (length rest) w ++ drop (length w) rest
    go (yes h) =
        let e : n ≡ length rest = omega arith in
        rw (e, past rest (length rest) (omega arith), past rest (length w) (omega arith))
    go (no h) =
        let e : n ≡ length w = omega arith in
        rw (e, take-length, take_all (length rest) w (omega arith))

pub adds-put : {w v : Bytes} {n m : ℕ} {old new : Sheet} → n ≡ min (length w) (length old.out.now - old.end) → m ≡ n → v ≡ take n w
    → new.out.ghost_name ≡ old.out.ghost_name → new.out.now ≡ put_mid old.end m old.out.now v → new.end ≡ old.end + n → Adds w old new
adds-put {w} {v} {n} {m} {old} {new} c e t g b r =
    let l : length v ≡ n = ap length t ∙ length-take-le n w (omega arith) in
    record {
      same = g;
      size = rw b (simp (length-append, length-take, length-drop) (omega (arith, old.within)));
      puts = λ u base p. rw (b, r, t, e) (puts-more p (puts-part {rest = drop old.end old.out.now} (c ∙ rw length-drop refl)));
    }

-- One text behind another.

pub adds-as : {w v : Bytes} {old new : Sheet} → w ≡ v → Adds w old new → Adds v old new
adds-as e p = rw e at p

pub adds_then : {w v : Bytes} {old mid new : Sheet} → Adds w old mid → Adds v mid new → Adds (w ++ v) old new
adds_then {w} {v} p q =
    record { same = q.same ∙ p.same; size = q.size ∙ p.size; puts = λ u base x. puts-as (append_assoc u w v) (q.puts (u ++ w) base (p.puts u base x)) }

pub adds-empty : (old : Sheet) → Adds [] old old
adds-empty old = record { same = refl; size = refl; puts = λ u base p. puts-as (sym (append-nil u)) p }

-- Onto a sheet that nothing was written on.
pub adds-front : {w bytes last : Bytes} {old new : Sheet} → old.out.now ≡ bytes → old.end ≡ 0 → last ≡ new.out.now → Adds w old new → Puts w bytes last new.end
adds-front {w} {bytes} e z l p = rw l (p.puts [] bytes (rw (e, z) (puts-empty bytes)))
