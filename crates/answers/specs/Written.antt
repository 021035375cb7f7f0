-- Document 01, "Turned back": what a call that writes says, and what it leaves in the output lent to it.
-- Assumes nothing.
use Rattle.std.specs.Prelude.{◌≡◌, List, ℕ, Result, Ok, Err}
use Rattle.answers.specs.Refusal.{number_of}
use Rattle.answers.specs.Answer.{Answer, answer_number, answer_length, output_after}
use Rattle.answers.specs.declared.Refusal.{Refusal}

-- What a call that writes says: the number of bytes written, or a refusal.
abbrev pub Written : Type 0
Written = Result ℕ Refusal

-- "When an answer is an enum, a definition gives this paper's number and values for each of its cases": the number and the length of each
-- case of `Written`.
abbrev pub number_in : Written → ℕ
number_in (Err r) = number_of r
number_in (Ok l) = 0

abbrev pub length_in : Written → ℕ
length_in (Err r) = 0
length_in (Ok l) = l

-- The call with the answer a says w and turns the output old into new.
pub record Answers (a : Answer) (old new : List ℕ) (w : Written) : Type 0 where
  pub number : number_in w ≡ answer_number a
  pub size : length_in w ≡ answer_length a
  pub output : new ≡ output_after a old
