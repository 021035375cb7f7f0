-- Laws of the total: it adds up, and lines that are counted one after another come to it.
-- Assumes nothing.
use mathlib.Core.Path.{◌≡◌, refl}
use mathlib.Core.List.{List, [], ◌∷◌, ◌++◌, append_assoc}
use Prim.Native.Nat.{ℕ, ◌+◌, ◌<◌}
use native.Mathlib.Omega.{arith}
use lib.ListN.{length}
use Rattle.syntax.specs.Bytes.{Bytes}
use Rattle.tables.specs.Tables.{Tables}
use Rattle.verdicts.specs.Verdict.{turn_verdict}
use Rattle.verdicts.specs.declared.Outcome.{Outcome}
use Rattle.verdicts.specs.declared.Outcome.TheVariants.{Refused, Held, Idle, Broken}
use Rattle.sheets.specs.declared.total.Total.{Total}
use Rattle.sheets.specs.Total.{is_held, is_idle, is_broken, is_refused, one_if, how_many, total_of, total_text}
use Rattle.sheets.specs.Code.Turns.{no_lines, counted, front_text, others_text, Adds, Earlier}

-- "H + I + B + R equals L."
pub total-adds-up : (T : Tables) (ws : List Bytes) → how_many is_held T ws + how_many is_idle T ws + how_many is_broken T ws + how_many is_refused T ws ≡ length ws
unfolding how_many
total-adds-up T [] = refl
total-adds-up T (w ∷ ws) = go (turn_verdict T w).outcome (total-adds-up T ws)
  where
    go : (o : Outcome) → how_many is_held T ws + how_many is_idle T ws + how_many is_broken T ws + how_many is_refused T ws ≡ length ws
        → (one_if (is_held o) + how_many is_held T ws) + (one_if (is_idle o) + how_many is_idle T ws) + (one_if (is_broken o) + how_many is_broken T ws) + (one_if (is_refused o) + how_many is_refused T ws) ≡ length (w ∷ ws)
    go (Refused e) h = omega arith
    go Held h = omega arith
    go Idle h = omega arith
    go Broken h = omega arith

-- Lines that are counted one after another come to the total.
module _ (T : Tables) (all : List Bytes) where
  pub adds-first : Adds T all no_lines all
  adds-first = record { lines = omega arith; held = omega arith; idle = omega arith; broken = omega arith; refused = omega arith }

  pub adds-next : (w : Bytes) (ws : List Bytes) (t : Total) → Adds T (w ∷ ws) t all → Adds T ws (counted (turn_verdict T w).outcome t) all
  unfolding how_many counted
  adds-next w ws t a = go (turn_verdict T w).outcome a.lines a.held a.idle a.broken a.refused
    where
      go : (o : Outcome) → t.lines + length (w ∷ ws) ≡ length all → t.held + (one_if (is_held o) + how_many is_held T ws) ≡ how_many is_held T all
          → t.idle + (one_if (is_idle o) + how_many is_idle T ws) ≡ how_many is_idle T all → t.broken + (one_if (is_broken o) + how_many is_broken T ws) ≡ how_many is_broken T all
          → t.refused + (one_if (is_refused o) + how_many is_refused T ws) ≡ how_many is_refused T all → Adds T ws (counted o t) all
      go (Refused e) l h i b r = record { lines = omega arith; held = omega arith; idle = omega arith; broken = omega arith; refused = omega arith }
      go Held l h i b r = record { lines = omega arith; held = omega arith; idle = omega arith; broken = omega arith; refused = omega arith }
      go Idle l h i b r = record { lines = omega arith; held = omega arith; idle = omega arith; broken = omega arith; refused = omega arith }
      go Broken l h i b r = record { lines = omega arith; held = omega arith; idle = omega arith; broken = omega arith; refused = omega arith }

  pub adds-last : (t : Total) → Adds T [] t all → t ≡ total_of T all
  unfolding how_many
  adds-last t a =
      let l : t.lines ≡ length all = omega (arith, a.lines) in
      let h : t.held ≡ how_many is_held T all = omega (arith, a.held) in
      let i : t.idle ≡ how_many is_idle T all = omega (arith, a.idle) in
      let b : t.broken ≡ how_many is_broken T all = omega (arith, a.broken) in
      let r : t.refused ≡ how_many is_refused T all = omega (arith, a.refused) in
      rw (← l, ← h, ← i, ← b, ← r)

-- Each line begins behind those before it.
pub earlier-next : (o : Outcome) (t : Total) {at next : ℕ} → Earlier at t → at < next → Earlier next (counted o t)
unfolding counted
earlier-next (Refused e) t b h = record { few = omega (arith, b.few); sum = omega (arith, b.sum) }
earlier-next Held t b h = record { few = omega (arith, b.few); sum = omega (arith, b.sum) }
earlier-next Idle t b h = record { few = omega (arith, b.few); sum = omega (arith, b.sum) }
earlier-next Broken t b h = record { few = omega (arith, b.few); sum = omega (arith, b.sum) }

behind : (x a b d : List ℕ) → x ++ a ++ b ++ d ≡ x ++ ((a ++ b) ++ d)
behind x a b d = rw (append_assoc x a b, append_assoc x (a ++ b) d)

-- The two pieces in which the total is written.
pub total-pieces : (t : Total) → total_text t ≡ front_text t ++ others_text t
unfolding total_text
total-pieces t = behind (front_text t) _ _ _
