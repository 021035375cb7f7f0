-- Laws of the words on the sheet: each line carries its verdict's word as its second field, and the total counts the lines that carry it.
-- Assumes nothing.
use mathlib.Core.Path.{◌≡◌, refl, sym, ap, ◌∙◌}
use mathlib.Core.Bool.{Bool, true, false}
use mathlib.Core.List.{List, [], ◌∷◌, ◌++◌}
use mathlib.Core.Option.{some}
use Prim.Native.Nat.{ℕ, suc, ◌+◌}
use native.Mathlib.Omega.{arith}
use lib.Dec.{eqb}
use borrow.Author.Tests.{eqb-false}
use lib.ListN.{get_or, get_elem?}
use Rattle.syntax.specs.Bytes.{Bytes, ascii}
use Rattle.tables.specs.Tables.{Tables}
use Rattle.texts.specs.Decimal.{decimal_of}
use Rattle.texts.specs.Pieces.{fields}
use Rattle.texts.proofs.PiecesLaws.{free, split-free}
use Rattle.texts.proofs.DecimalLaws.{digits-free}
use Rattle.verdicts.specs.Verdict.{turn_verdict}
use Rattle.verdicts.specs.declared.Outcome.{Outcome}
use Rattle.verdicts.specs.declared.Outcome.TheVariants.{Refused, Held, Idle, Broken}
use Rattle.verdicts.specs.declared.Verdict.{Verdict}
use Rattle.sheets.specs.Line.{counts_of, shared_of, says_of, line_text}
use Rattle.sheets.specs.Total.{is_held, is_idle, is_broken, is_refused, one_if, how_many}
use Rattle.sheets.specs.Sheet.{judged_from}
use Rattle.sheets.specs.Promise.{Carrying, no_more, this_one, another}

abbrev pub word_text : Outcome → Bytes
word_text (Refused e) = ascii "refused"
word_text Held = ascii "held"
word_text Idle = ascii "idle"
word_text Broken = ascii "broken"

second-of : (a w r : Bytes) → free 32 a ≡ true → free 32 w ≡ true → get_elem? (fields (a ++ 32 ∷ (w ++ 32 ∷ r))) 1 ≡ some w
second-of a w r h k = rw (split-free 32 ([] ∷ []) a (w ++ 32 ∷ r) h, split-free 32 ([] ∷ []) w r k)

pub second-field : (place : ℕ) (o : Outcome) (v : Verdict) → get_elem? (fields (decimal_of place ++ says_of o v)) 1 ≡ some (word_text o)
unfolding says_of shared_of counts_of free
second-field place (Refused e) v = second-of (decimal_of place) (ascii "refused") _ (digits-free 32 20 place (omega arith)) refl
second-field place Held v = second-of (decimal_of place) (ascii "held") _ (digits-free 32 20 place (omega arith)) refl
second-field place Idle v = second-of (decimal_of place) (ascii "idle") _ (digits-free 32 20 place (omega arith)) refl
second-field place Broken v = second-of (decimal_of place) (ascii "broken") _ (digits-free 32 20 place (omega arith)) refl

-- Whether a word is the one looked for; the four differ in their first letters.
abbrev Told : Bytes → Bool → Bytes → Type 0
Told word true w = w ≡ word
Told word false w = eqb (get_or w 0 0) (get_or word 0 0) ≡ false

pub tells-held : (o : Outcome) → Told (ascii "held") (is_held o) (word_text o)
tells-held (Refused e) = refl
tells-held Held = refl
tells-held Idle = refl
tells-held Broken = refl

pub tells-idle : (o : Outcome) → Told (ascii "idle") (is_idle o) (word_text o)
tells-idle (Refused e) = refl
tells-idle Held = refl
tells-idle Idle = refl
tells-idle Broken = refl

pub tells-broken : (o : Outcome) → Told (ascii "broken") (is_broken o) (word_text o)
tells-broken (Refused e) = refl
tells-broken Held = refl
tells-broken Idle = refl
tells-broken Broken = refl

pub tells-refused : (o : Outcome) → Told (ascii "refused") (is_refused o) (word_text o)
tells-refused (Refused e) = refl
tells-refused Held = refl
tells-refused Idle = refl
tells-refused Broken = refl

pub carried : (word : Bytes) (is : Outcome → Bool) → ((o : Outcome) → Told word (is o) (word_text o)) → (k : ℕ) (T : Tables) (ws : List Bytes) → Carrying word (judged_from k T ws) (how_many is T ws)
unfolding judged_from how_many
carried word is tells k T [] = no_more
carried word is tells k T (w ∷ ws) = go (turn_verdict T w).outcome (is (turn_verdict T w).outcome) (tells (turn_verdict T w).outcome) (second-field k (turn_verdict T w).outcome (turn_verdict T w)) (carried word is tells (suc k) T ws)
  where
    other : (o : Outcome) → Told word false (word_text o) → some (word_text o) ≡ some word → ⊥
    other o t p =
        let e : word_text o ≡ word = cc in
        eqb-false _ _ t (ap (λ (l : Bytes). get_or l 0 0) e)

    go : (o : Outcome) (b : Bool) → Told word b (word_text o) → get_elem? (fields (line_text k (turn_verdict T w))) 1 ≡ some (word_text o) → Carrying word (judged_from (suc k) T ws) (how_many is T ws)
        → Carrying word (line_text k (turn_verdict T w) ∷ judged_from (suc k) T ws) (one_if b + how_many is T ws)
    go o true t f c =
        let n : 1 + how_many is T ws ≡ suc (how_many is T ws) = omega arith in
        rw n (this_one (f ∙ ap some t) c)
    go o false t f c =
        let n : 0 + how_many is T ws ≡ how_many is T ws = omega arith in
        rw n (another (λ q. other o t (sym f ∙ q)) c)
