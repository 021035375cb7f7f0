-- Laws of a section: its count, then its rows, and what the words hold then.
-- Assumes nothing.
use Rattle.std.specs.Prelude.{Result}
use mathlib.Core.Path.{◌≡◌, sym, ◌∙◌}
use mathlib.Core.List.{List}
use Prim.Native.Nat.{ℕ, ◌≤◌}
use native.Mathlib.Omega.{arith}
use lib.ListN.{drop, set}
use borrow.Author.Tests.{eq-eqb, ne_eqb}
use Rattle.answers.specs.declared.Refusal.{Refusal}
use Rattle.answers.specs.declared.Refusal.TheVariants.{Miscounted}
use Rattle.tables.specs.declared.Piece.{Piece}
use Rattle.tables.specs.Flat.{room}
use Rattle.tables.specs.Reading.{Bytes, Reader, stop, next, refuse, byte, count, rows, section}
use Rattle.tables.specs.Reading.{permission_row, permissions}
use Rattle.tables.specs.Code.Reads.{Reads, Is, IsCount, RowsAt, SectionAt, with_count}
use Rattle.tables.proofs.ReadLaws.{Got, read-on}

module _ (s : Bytes) (at : ℕ) {A : Type 0} (row : ℕ → Reader A) where
  pub section-stop : {e : Refusal} → count 64 (drop at s) ≡ stop e → section row (drop at s) ≡ stop e
  unfolding section next
  section-stop q = rw q

  pub section-on : {Holds : List A → ℕ → Type 0} {c : Result Piece Refusal} {v n : ℕ} → Got s (IsCount 64) v n (count 64 (drop at s))
      → Reads s Holds c (rows (row v) v (drop n s)) → Reads s Holds c (section row (drop at s))
  unfolding section
  section-on {v = v} {n = n} g x = read-on (λ k. rows (row k) k) g (rw g.holds.is x)

module _ (s : Bytes) (at product roles : ℕ) where
  pub permissions-stop : {e : Refusal} → byte (drop at s) ≡ stop e → permissions product roles (drop at s) ≡ stop e
  unfolding permissions next
  permissions-stop q = rw q

  pub permissions-wrong : {v n : ℕ} → Got s Is v n (byte (drop at s)) → (v ≡ product → ⊥) → permissions product roles (drop at s) ≡ stop Miscounted
  unfolding permissions next refuse
  permissions-wrong {v} g h = rw (g.reads, g.holds, ne_eqb v product h)

  pub permissions-on : {Holds : List ℕ → ℕ → Type 0} {c : Result Piece Refusal} {v n : ℕ} → Got s Is v n (byte (drop at s)) → v ≡ product
      → Reads s Holds c (rows (permission_row roles) v (drop n s)) → Reads s Holds c (permissions product roles (drop at s))
  unfolding permissions next refuse
  permissions-on {v = v} g h x = rw (g.reads, g.holds, eq-eqb v product h) x

-- The count is stored before the rows.
pub counted : {A : Type 0} (write : List ℕ → List A → List ℕ) (old : List ℕ) {new : List ℕ} (place n : ℕ) {xs : List A} {v : ℕ} → n ≤ room
    → RowsAt write (set old place n) new n xs v → SectionAt write place old new xs v
unfolding with_count
counted write old place n h x =
    let e = sym x.all ∙ x.count in
    record { count = x.count; few = omega (arith, x.all); words = rw e at x.words }
