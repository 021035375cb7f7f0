-- Laws of the lines one after another: where they begin, what the next one is, and how far the total has come with it.
-- Assumes nothing.
use Rattle.std.specs.Prelude.{None}
use mathlib.Core.Path.{◌≡◌, refl, sym, ap, ◌∙◌}
use mathlib.Core.List.{List, [], ◌∷◌}
use mathlib.Core.Option.{some}
use Prim.Native.Nat.{ℕ, zero, suc, ◌+◌, ◌-◌, ◌≤◌, ◌<◌}
use native.Mathlib.Numerals.{add-one}
use native.Mathlib.Omega.{arith}
use lib.ListN.{length, take, drop, get_elem?, length-append, drop_of_length-le}
use Rattle.syntax.specs.Bytes.{Bytes}
use Rattle.tables.specs.Tables.{Tables}
use Rattle.texts.specs.Pieces.{split, lines}
use Rattle.texts.specs.Code.Overwritten.{Overwritten}
use Rattle.texts.specs.Code.Spans.{Sought}
use Rattle.texts.proofs.OverwrittenLaws.{written-length}
use Rattle.texts.proofs.SpansLaws.{next-line}
use Rattle.verdicts.specs.Verdict.{turn_verdict}
use Rattle.verdicts.specs.Code.Judging.{TablesAt}
use Rattle.verdicts.specs.declared.Outcome.{Outcome}
use Rattle.verdicts.specs.declared.Outcome.TheVariants.{Refused, Held, Idle, Broken}
use Rattle.verdicts.specs.declared.Verdict.{Verdict}
use Rattle.sheets.specs.declared.total.Total.{Total}
use Rattle.sheets.specs.Line.{line_text}
use Rattle.sheets.specs.Total.{total_of, total_text}
use Rattle.sheets.specs.Sheet.{listed, sheet_line}
use Rattle.sheets.specs.Code.Turns.{no_lines, counted, Sofar, SofarOn, Onward, WritesNext, Turns}
use Rattle.sheets.proofs.SheetLaws.{judged-length, listed-some, listed-total}
use Rattle.sheets.proofs.TotalLaws.{adds-first, adds-next, adds-last, earlier-next}

-- What is left from a place on: its first member is the one at that place.
left-some : (ws : List Bytes) (k : ℕ) {w : Bytes} {rest : List Bytes} → drop k ws ≡ w ∷ rest → get_elem? ws k ≡ some w
left-some [] zero e = let z : ◌≡◌ {A = ℕ} 0 1 = cc in absurd (omega arith)
left-some [] (suc k) e = let z : ◌≡◌ {A = ℕ} 0 1 = cc in absurd (omega arith)
left-some (x ∷ ws) zero e = cc
left-some (x ∷ ws) (suc k) e = left-some ws k e

left-next : (ws : List Bytes) (k : ℕ) {w : Bytes} {rest : List Bytes} → drop k ws ≡ w ∷ rest → drop (suc k) ws ≡ rest
left-next [] zero e = let z : ◌≡◌ {A = ℕ} 0 1 = cc in absurd (omega arith)
left-next [] (suc k) e = let z : ◌≡◌ {A = ℕ} 0 1 = cc in absurd (omega arith)
left-next (x ∷ ws) zero e = cc
left-next (x ∷ ws) (suc k) e = left-next ws k e

counted-lines : (o : Outcome) (t : Total) → (counted o t).lines ≡ suc t.lines
unfolding counted
counted-lines (Refused e) t = add-one t.lines
counted-lines Held t = add-one t.lines
counted-lines Idle t = add-one t.lines
counted-lines Broken t = add-one t.lines

pub none-sofar : (ts : List ℕ) (rules : Bytes) → length rules ≤ 32768 → SofarOn ts rules 0 no_lines
none-sofar ts rules h = record {
  short = h;
  earlier = record { few = omega arith; sum = omega arith };
  sofar = λ T H. record { rest = refl; adds = adds-first T (lines rules) };
}

-- The rule of the line at a byte, up to its byte 10, is judged and counted.
module _ {ts : List ℕ} {rules : Bytes} {at to : ℕ} {t : Total} (s : SofarOn ts rules at t) (f : Sought 10 rules at to) (within : at < length rules) where
  abbrev rule : Bytes
  rule = take (to - at) (drop at rules)

  left : (T : Tables) → TablesAt ts T → drop t.lines (lines rules) ≡ rule ∷ lines (drop (to + 1) rules)
  left T H = sym (s.sofar T H).rest ∙ next-line f within

  pub judged-next : (T : Tables) → TablesAt ts T → {v : Verdict} → v ≡ turn_verdict T rule → line_text (t.lines + 1) v ≡ sheet_line (listed T (lines rules)) (t.lines + 1)
  judged-next T H e =
      let m : t.lines + 1 - 1 ≡ t.lines = omega arith in
      let w : get_elem? (lines rules) (t.lines + 1 - 1) ≡ some rule = rw m (left-some (lines rules) t.lines (left T H)) in
      rw e (sym (listed-some T (lines rules) (t.lines + 1) rule (λ z. omega arith) w))

  counted-sofar : (T : Tables) → TablesAt ts T → Sofar T rules (to + 1) (counted (turn_verdict T rule).outcome t)
  counted-sofar T H = record {
    rest = rw (counted-lines (turn_verdict T rule).outcome t) (sym (left-next (lines rules) t.lines (left T H)));
    adds = adds-next T (lines rules) rule (lines (drop (to + 1) rules)) t (rw (next-line f within) at (s.sofar T H).adds);
  }

  pub judged-onward : {v : Verdict} {u : Total} → ((T : Tables) → TablesAt ts T → v ≡ turn_verdict T rule) → u ≡ counted v.outcome t → Onward ts rules at (to + 1) u
  judged-onward {v} {u} e q =
      let further : at < to + 1 = omega (arith, f.low) in
      let on : (T : Tables) → TablesAt ts T → Sofar T rules (to + 1) u = λ T H. rw (q, e T H) (counted-sofar T H) in
      record {
        within = within;
        further = further;
        on = record { short = s.short; earlier = rw q (earlier-next v.outcome t s.earlier further); sofar = on };
      }

-- At the rules' end the total is that of all lines.
module _ {ts : List ℕ} {rules : Bytes} {at : ℕ} {t : Total} (s : SofarOn ts rules at t) (end : length rules ≤ at) where
  pub total-whole : (T : Tables) → TablesAt ts T → t ≡ total_of T (lines rules)
  unfolding split
  total-whole T H = adds-last T (lines rules) t (rw (drop_of_length-le rules {i = at} end) at (s.sofar T H).adds)

  pub total-next : {old new : List ℕ} {n : ℕ} → Overwritten (total_text t) old new n → WritesNext ts rules t old new n
  total-next w T H =
      let q = total-whole T H in
      let l : t.lines + 1 ≡ length (lines rules) + 1 = ap (λ (x : Total). x.lines + 1) q in
      rw (listed-total T (lines rules) (t.lines + 1) l) (rw q at w)

  pub total-last : Turns ts rules at t None
  total-last T H = simp length-append (omega (arith, judged-length 1 T (lines rules), ap (λ (x : Total). x.lines) (total-whole T H)))

-- What a caller that goes from line to line needs: the line lies in the lent bytes.
pub line-within : {w old new : List ℕ} {n : ℕ} → Overwritten w old new n → n ≤ length new
line-within x = omega (arith, x.count, x.fits, written-length x)
