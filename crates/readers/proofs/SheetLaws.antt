-- The reader's sheet is a day sheet, that of all users is the day sheet itself, and tables that a reader cannot tell apart have one sheet.
-- Assumes nothing.
use mathlib.Core.Path.{◌≡◌, refl, sym, ◌∙◌}
use mathlib.Core.Bool.{Bool, true, false, true≢false}
use Prim.Native.Nat.{ℕ, ◌^◌, ◌<◌}
use native.Mathlib.Omega.{arith}
use lib.ListN.{length}
use Rattle.answers.specs.Answer.{refused, wrote}
use Rattle.answers.specs.declared.Refusal.{Refusal}
use Rattle.answers.specs.declared.Refusal.TheVariants.{Reader}
use Rattle.words.specs.Words.{all_of}
use Rattle.words.proofs.WordsLaws.{has-out, all_ones}
use Rattle.syntax.specs.Bytes.{Bytes}
use Rattle.tables.specs.Tables.{Tables}
use Rattle.tables.specs.Accepted.{Passes}
use Rattle.tables.specs.Encode.{encode}
use Rattle.tables.specs.Reading.{rejected, taken, tables_of}
use Rattle.tables.proofs.EncodeLaws.{passes-accepted}
use Rattle.tables.proofs.FitsLaws.{accepted-passes}
use Rattle.sheets.specs.Sheet.{sheet_of, sheet_line}
use Rattle.cuts.specs.Cut.{cut}
use Rattle.cuts.specs.Alike.{SeenAlike}
use Rattle.cuts.proofs.PassLaws.{cut-passes}
use Rattle.cuts.proofs.AlikeLaws.{cut-alike, whole-cut}
use Rattle.readers.specs.Reader.{reader_sheet, Beyond, is_beyond, line_by, reader_line}
use Rattle.readers.proofs.BeyondLaws.{beyond-exactly}

-- The bytes of the tables as the reader sees them are accepted as these.
pub cut-accepted : (w : ℕ) {T : Tables} → Passes T → tables_of (encode (cut w T)) ≡ taken (cut w T)
cut-accepted w {T} p = passes-accepted (cut w T) (cut-passes w T p)

-- Their day sheet is the reader's.
pub reader-sheet : (w : ℕ) {T : Tables} → Passes T → (rules : Bytes) → reader_sheet w T rules ≡ sheet_of (encode (cut w T)) rules
unfolding reader_sheet sheet_of
reader-sheet w p rules = rw (cut-accepted w p)

module _ (tables : Bytes) (w : ℕ) (rules : Bytes) (place : ℕ) where
  pub line-rejects : {e : Refusal} → tables_of tables ≡ rejected e → reader_line tables w rules place ≡ refused e
  unfolding reader_line line_by
  line-rejects t = rw t

  module _ {T : Tables} (t : tables_of tables ≡ taken T) where
    pub line-strange : Beyond w T → reader_line tables w rules place ≡ refused Reader
    unfolding reader_line line_by
    line-strange x = rw (t, (beyond-exactly w T).1 x)

    pub line-written : (Beyond w T → ⊥) → reader_line tables w rules place ≡ wrote (sheet_line (reader_sheet w T rules) place)
    unfolding reader_line line_by
    line-written n = rw (t, not_beyond)
      where
        not_beyond : is_beyond w T ≡ false
        not_beyond = go (is_beyond w T) refl
          where
            go : (b : Bool) → is_beyond w T ≡ b → is_beyond w T ≡ false
            go true e = absurd (n ((beyond-exactly w T).0 e))
            go false e = e

-- Alike for the reader: the same answer.
pub lines-alike : (a b : Bytes) {w : ℕ} {T U : Tables} → tables_of a ≡ taken T → tables_of b ≡ taken U → SeenAlike w T U → (rules : Bytes) (place : ℕ)
    → reader_line a w rules place ≡ reader_line b w rules place
unfolding reader_line line_by reader_sheet is_beyond
lines-alike a b t u s rules place = rw (t, u, s.user_count, cut-alike s)

-- The reader of all users.
module _ (tables : Bytes) {T : Tables} (t : tables_of tables ≡ taken T) where
  pub none-beyond : Beyond (all_of (length T.users)) T → ⊥
  none-beyond x =
      let n = length T.users in
      let below : all_of n < 2 ^ n = omega (arith, all_ones n (accepted-passes tables t).sound.fits.users) in
      true≢false (sym x.held ∙ has-out (all_of n) n x.user below x.above)

  pub whole-sheet : (rules : Bytes) → reader_sheet (all_of (length T.users)) T rules ≡ sheet_of tables rules
  unfolding reader_sheet sheet_of
  whole-sheet rules = rw (t, whole-cut T (accepted-passes tables t))
