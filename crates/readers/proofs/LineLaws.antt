-- Laws that join what reading, cutting and lending say to the reader's line.
-- Assumes nothing.
use mathlib.Core.Path.{◌≡◌, sym, ap, ◌∙◌}
use mathlib.Core.Bool.{Bool, true, false}
use mathlib.Core.List.{List}
use Prim.Native.Nat.{ℕ, ◌^◌, ◌≤◌, ◌<◌}
use native.Mathlib.Omega.{arith}
use lib.Dec.{leb}
use lib.ListN.{length, get_or}
use Rattle.answers.specs.Answer.{lent}
use Rattle.answers.specs.Written.{Answers}
use Rattle.answers.specs.declared.Refusal.{Refusal}
use Rattle.answers.specs.declared.Refusal.TheVariants.{Reader}
use Rattle.answers.specs.Written.{Written}
use Rattle.std.specs.declared.result.Result.TheVariants.{Err}
use Rattle.answers.proofs.AnswerLaws.{kept-refused}
use Rattle.syntax.specs.Bytes.{Bytes}
use Rattle.tables.specs.Flat.{counts}
use Rattle.tables.specs.Reading.{rejected, tables_of}
use Rattle.tables.specs.Code.Layout.{user_count_at}
use Rattle.tables.specs.Code.Loaded.{TablesAt, Loaded}
use Rattle.tables.proofs.FlatLaws.{count_at}
use Rattle.verdicts.proofs.LoadedLaws.{Took}
use Rattle.cuts.specs.Cut.{cut}
use Rattle.cuts.specs.Code.Cutting.{Fitting, Turns}
use Rattle.cuts.proofs.PassLaws.{cut-passes}
use Rattle.readers.specs.Reader.{reader_sheet, is_beyond, line_by, reader_line}
use Rattle.readers.specs.Code.Lending.{LendsOn}
use Rattle.readers.proofs.BeyondLaws.{beyond-word}

-- What the call says, and makes of the lent bytes.
abbrev Lists : Bytes → ℕ → Bytes → ℕ → List ℕ → List ℕ → Written → Type 0
Lists a w rules place old new r = Answers (lent (length old) (reader_line a w rules place)) old new r

pub line-rejected : (a : Bytes) {e : Refusal} → tables_of a ≡ rejected e → (w : ℕ) (rules : Bytes) (place : ℕ) (old : List ℕ) → Lists a w rules place old old (Err e)
unfolding reader_line line_by
line-rejected a {e} q w rules place old = rw q (kept-refused (length old) old e)

module _ {a : Bytes} {ts : List ℕ} (q : Took a ts) where
  -- The words hold tables that fit, with their users' count.
  pub took-fits : Fitting ts
  took-fits = record { tables = q.tables; fits = q.holds.passes.sound.fits; words = q.holds.words }

  count-is : get_or ts user_count_at 0 ≡ length q.tables.users
  unfolding counts
  count-is = rw q.holds.words (count_at q.tables user_count_at (omega arith))

  pub count-few : get_or ts user_count_at 0 ≤ 64
  count-few = omega (arith, count-is, q.holds.passes.sound.fits.users)

  module _ (w : ℕ) where
    -- Cut, they hold the tables that the reader sees.
    cut_holds : {new : List ℕ} → Turns (cut w) ts new → TablesAt new (cut w q.tables)
    cut_holds t =
        record {
          passes = cut-passes w q.tables q.holds.passes;
          words = t q.tables q.holds.passes.sound.fits q.holds.words;
        }

    pub cut-loaded : {new : List ℕ} → Turns (cut w) ts new → Loaded new
    cut-loaded t = record { tables = cut w q.tables; holds = cut_holds t }

    module _ (h : w < 2 ^ 64) (rules : Bytes) (place : ℕ) {b : Bool} (e : b ≡ leb (2 ^ get_or ts user_count_at 0) w) where
      test-is : b ≡ is_beyond w q.tables
      test-is = e ∙ ap (λ (n : ℕ). leb (2 ^ n) w) count-is ∙ beyond-word w q.tables h q.holds.passes.sound.fits.users

      pub line-beyond : b ≡ true → (old : List ℕ) → Lists a w rules place old old (Err Reader)
      unfolding reader_line line_by
      line-beyond k old = let s : is_beyond w q.tables ≡ true = sym test-is ∙ k in rw (q.is, s) (kept-refused (length old) old Reader)

      pub line-lent : b ≡ false → {new old out : List ℕ} {r : Written} → Turns (cut w) ts new → LendsOn new rules place old out r → Lists a w rules place old out r
      unfolding reader_line line_by reader_sheet
      line-lent k t l =
          let s : is_beyond w q.tables ≡ false = sym test-is ∙ k in
          rw (q.is, s) (l (cut w q.tables) (cut_holds t))
