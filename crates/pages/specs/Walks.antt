-- The page's word and its number of walks said without computing: some line has a word; a list that has each quantifier part once.
-- Assumes nothing.
use Rattle.std.specs.Prelude.{◌≡◌, List, [], ◌∷◌, ℕ}
use Rattle.std.proofs.Math.Option.{some}
use Rattle.std.proofs.Math.ListN.{get_elem?}
use Rattle.syntax.specs.Bytes.{Bytes}
use Rattle.verdicts.specs.declared.Verdict.{Verdict}
use Rattle.verdicts.specs.Verdict.{word_number}

-- "some line is broken", "some line is idle"
pub record LineWith (word : ℕ) (vs : List Verdict) : Type 0 where
  pub place : ℕ
  pub verdict : Verdict
  pub is : get_elem? vs place ≡ some verdict
  pub says : word_number verdict.outcome ≡ word

-- p is one of these texts.
pub data In (p : Bytes) : List Bytes → Type 0 where
  here : {q : Bytes} {qs : List Bytes} → p ≡ q → In p (q ∷ qs)
  there : {q : Bytes} {qs : List Bytes} → In p qs → In p (q ∷ qs)

-- No two of them are equal.
pub data Apart : List Bytes → Type 0 where
  none_apart : Apart []
  one_apart : {p : Bytes} {ps : List Bytes} → (In p ps → ⊥) → Apart ps → Apart (p ∷ ps)

-- "different quantifier parts": ds has each of ps once, and no other.
pub record EachOnce (ps ds : List Bytes) : Type 0 where
  pub apart : Apart ds
  pub all : (p : Bytes) → In p ps → In p ds
  pub only : (p : Bytes) → In p ds → In p ps
