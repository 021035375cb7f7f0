-- Internal: how the code names a piece of a text, by the places where it begins and ends.
-- Assumes nothing.
use Rattle.std.specs.Prelude.{Option as Maybe, Some, None, ◌≡◌, List, ℕ, ◌-◌, ◌≤◌, length, take, drop}
use Rattle.std.proofs.Math.Option.{Option, none, some}
use Rattle.std.proofs.Math.ListN.{get_elem?}
use Rattle.texts.specs.Scan.{index_of}
use Rattle.texts.specs.declared.Span.{Span}
use Rattle.texts.specs.Pieces.{split}

-- The piece w of s, if any.
pub data Spans (s : List ℕ) (w : Option (List ℕ)) : Maybe Span → Type 0 where
  no_piece : w ≡ none → Spans s w None
  piece : {p : Span} → p.start ≤ p.end → p.end ≤ length s → w ≡ some (take (p.end - p.start) (drop p.start s)) → Spans s w (Some p)

-- Piece k of s is the first one of what stands from a place on, however s ends.
pub data Starts (c k : ℕ) (s : List ℕ) : Maybe ℕ → Type 0 where
  no_start : ((final : List (List ℕ)) → length final ≤ 1 → get_elem? (split c final s) k ≡ none) → Starts c k s None
  start : {a : ℕ} → a ≤ length s → ((final : List (List ℕ)) → get_elem? (split c final s) k ≡ get_elem? (split c final (drop a s)) 0) → Starts c k s (Some a)

-- The first separator of s from `at` on is at e, or none is and e is the end.
pub record Sought (c : ℕ) (s : List ℕ) (at e : ℕ) : Type 0 where
  pub low : at ≤ e
  pub high : e ≤ length s
  pub rest : length (drop at s) ≡ length s - at
  pub place : index_of c (drop at s) ≡ e - at
