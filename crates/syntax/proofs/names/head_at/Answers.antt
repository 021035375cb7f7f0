-- `head_at`: its two tables have what a term begins with.
-- Assumes nothing.
use mathlib.Core.Path.{refl}
use mathlib.Core.List.{List, map}
use Prim.Native.Nat.{ℕ}
use Rattle.syntax.specs.Bytes.{Bytes}
use Rattle.syntax.specs.Term.{Head, spell, heads, collection_heads, call_heads, bracket_heads}
use Rattle.syntax.specs.Code.Arena.{base_op, fn_op}
use Rattle.syntax.specs.Code.Reading.{head_op}
use Rattle.syntax.proofs.NameLaws.{in-first, in-second, retold}
use Rattle.syntax.proofs.names.head_at.Goals as goal

abbrev calls : List (Bytes × ℕ)
calls = map (λ (h : Head). (spell h, head_op h)) call_heads

pub returns-in-Some : goal.returns-in-Some
unfolding heads collection_heads call_heads bracket_heads spell head_op base_op fn_op
returns-in-Some c = retold spell heads refl (in-first _ calls c.in-Some.ensures)

pub returns : goal.returns
unfolding heads collection_heads call_heads bracket_heads spell head_op base_op fn_op
returns c = retold spell heads refl (in-second _ _ c.in_default.ensures c.first-2.ensures)
