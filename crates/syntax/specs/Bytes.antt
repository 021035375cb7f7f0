-- Texts as lists of bytes, and reading from the front of one. Assumes nothing.
use Rattle.std.specs.Prelude.{List, [], ◌∷◌, Bool, true, false, ◌&&◌, cond, ℕ, suc, eqb}
use Prim.Native.Char.{code}
use Prim.Native.String.{String, [] as []ˢ, ◌∷◌ as ◌∷ˢ◌}

-- A text is a list of bytes.
abbrev pub Bytes : Type 0
Bytes = List ℕ

-- The bytes of a text in quotes.
abbrev pub ascii : String → Bytes
ascii []ˢ = []
ascii (c ∷ˢ s) = code c ∷ ascii s

-- What a reader of an A gives: nothing, or an A and the bytes that it left.
pub data Read (A : Type 0) : Type 0 where
  fail : Read A
  got : A → Bytes → Read A

abbrev pub Reader : Type 0 → Type 0
Reader A = Bytes → Read A

-- Go on with what was read and what is left; `do a ← m; f a` reads m, and then f a.
unfoldable pub next : {A B : Type 0} → Read A → (A → Reader B) → Read B
next fail f = fail
next (got a s) f = f a s

infixl 20 ◌>>=◌
abbrev pub ◌>>=◌ : {A B : Type 0} → Reader A → (A → Reader B) → Reader B
◌>>=◌ m f = λ s. next (m s) f

infixl 20 ◌>>◌
abbrev pub ◌>>◌ : {A B : Type 0} → Reader A → Reader B → Reader B
◌>>◌ m n = λ s. next (m s) (λ _. n)

-- Read nothing, and give a.
abbrev pub give : {A : Type 0} → A → Reader A
give a = λ s. got a s

-- Read with m, if the test holds.
abbrev pub only_if : {A : Type 0} → Bool → Reader A → Reader A
only_if true m s = m s
only_if false m s = fail

-- Read the fixed text p.
unfoldable pub skip : Bytes → Reader (Unit {0})
skip [] s = got tt s
skip (x ∷ p) [] = fail
skip (x ∷ p) (y ∷ s) = only_if (eqb x y) (skip p) s

-- Whether the fixed text p stands in front.
abbrev pub is_got : {A : Type 0} → Read A → Bool
is_got fail = false
is_got (got a s) = true

unfoldable pub begins : Bytes → Bytes → Bool
begins p s = is_got (skip p s)

-- The place, counted from k, of the first of a list of things whose spelling stands in front, or the place after the last.
unfoldable pub place : {A : Type 0} → (A → Bytes) → List A → ℕ → Bytes → ℕ
place sp [] k s = k
place sp (x ∷ xs) k s = cond (begins (sp x) s) k (place sp xs (suc k) s)

-- Where a fixed text was read, read on with m; elsewhere read n.
abbrev pub branch : {A : Type 0} → Read (Unit {0}) → Reader A → Reader A → Reader A
branch fail m n s = n s
branch (got _ r) m n s = m r

-- Where the fixed text p stands in front, read it and then m; elsewhere read n.
unfoldable pub either : {A : Type 0} → Bytes → Reader A → Reader A → Reader A
either p m n s = branch (skip p s) m n s

-- Read the first of a list of things whose spelling stands in front.
unfoldable pub scan : {A : Type 0} → (A → Bytes) → List A → Reader A
scan sp [] s = fail
scan sp (x ∷ xs) s = either (sp x) (give x) (scan sp xs) s

-- Whether two texts are equal byte for byte.
unfoldable pub same : Bytes → Bytes → Bool
same [] [] = true
same [] (y ∷ t) = false
same (x ∷ s) [] = false
same (x ∷ s) (y ∷ t) = eqb x y && same s t
