-- Document 01, "Rule text" and "Formula", for terms: what a term is, how it is written, how it is read.
-- Assumes nothing.
use Rattle.std.specs.Prelude.{List, [], ◌∷◌, ◌++◌, true, false, ℕ, suc, zero, eqb, length}
use Rattle.std.proofs.Math.Option.{Option, none, some}
use Rattle.syntax.specs.Bytes.{Bytes, ascii, fail, got, Reader, ◌>>=◌, ◌>>◌, give, skip, scan}

-- "Term: U R OP OBJ P S CR CP CU, a call, OE(term), AO(term), (term&term) (intersection), (term+term) (union)."

pub data Base : Type 0 where
  b_u b_r b_op b_obj b_p b_s b_cr b_cp b_cu : Base
  deriving Discrete as Base≟

-- "A call is a name and one term in brackets";
pub data Fn : Type 0 where
  user roles roles* sessions permissions permissions* object : Fn
  deriving Discrete as Fn≟

-- "operations alone has two, parted by a comma"; document 02, N8, of `done`: "Beside operations it is the only call with two terms."
pub data Fn2 : Type 0 where
  operations done : Fn2
  deriving Discrete as Fn2≟

-- "(term&term) (intersection), (term+term) (union)": meet and join.
pub data Op : Type 0 where
  meet join : Op
  deriving Discrete as Op≟

-- What makes one term of two.
pub data Pair : Type 0 where
  calls : Fn2 → Pair
  joins : Op → Pair
  deriving Discrete as Pair≟'

pub data Term : Type 0 where
  base : Base → Term
  call : Fn → Term → Term
  oe : Term → Term
  ao : Term → Term
  two : Pair → Term → Term → Term
  deriving Discrete as Term≟'

unfoldable pub Term≟ : Discrete Term
Term≟ = Term≟' Base≟ Fn≟ (Pair≟' Fn2≟ Op≟)

-- The choices known so far: v1, v2, .. in order, each with the argument of its OE and AO (document 01: "Equal argument texts choose
-- the same element; different texts choose separately"). The digit of v1 is the byte 49.
abbrev pub Choices : Type 0
Choices = List Term

-- The digit of the choice with argument a, where the first of σ has the digit d.
unfoldable pub digit_from : ℕ → Choices → Term → Option ℕ
digit_from d [] a = none
digit_from d (x ∷ σ) a = elim (Term≟ x a) [ yes p ↦ some d | no n ↦ digit_from (suc d) σ a ]

-- The argument of the choice with digit c, where the first of σ has the digit d.
unfoldable pub named_from : ℕ → Choices → ℕ → Option Term
named_from d [] c = none
named_from d (x ∷ σ) c = elim (eqb d c) [ true ↦ some x | false ↦ named_from (suc d) σ c ]

abbrev pub digit : Choices → Term → Option ℕ
digit σ a = digit_from 49 σ a

-- How a term is written. With no choices known this is the rule's text; with the rule's own choices it is the formula's:
-- "the rule, with OE(X) as its variable and AO(X) as (X-{v}), X itself so rewritten".

-- "Function names are spelled exactly as listed, longest match first": how a term begins. The bracket belongs to the name, so no
-- spelling begins another, and the longest match is the only one.
pub data Head : Type 0 where
  is_base : Base → Head
  is_call : Fn → Head
  is_call2 : Fn2 → Head
  is_oe is_ao is_bracket is_choice : Head

unfoldable pub spell : Head → Bytes
spell (is_base b_u) = ascii "U"
spell (is_base b_r) = ascii "R"
spell (is_base b_op) = ascii "OP"
spell (is_base b_obj) = ascii "OBJ"
spell (is_base b_p) = ascii "P"
spell (is_base b_s) = ascii "S"
spell (is_base b_cr) = ascii "CR"
spell (is_base b_cp) = ascii "CP"
spell (is_base b_cu) = ascii "CU"
spell (is_call user) = ascii "user("
spell (is_call roles) = ascii "roles("
spell (is_call roles*) = ascii "roles*("
spell (is_call sessions) = ascii "sessions("
spell (is_call permissions) = ascii "permissions("
spell (is_call permissions*) = ascii "permissions*("
spell (is_call object) = ascii "object("
spell is_oe = ascii "OE("
spell is_ao = ascii "AO("
spell (is_call2 operations) = ascii "operations("
spell (is_call2 done) = ascii "done("
spell is_bracket = ascii "("
spell is_choice = ascii "v"

-- What stands after the first term in a bracket.
pub data Middle : Type 0 where
  is_op : Op → Middle
  is_less : Middle

unfoldable pub spell_middle : Middle → Bytes
spell_middle (is_op meet) = ascii "&"
spell_middle (is_op join) = ascii "+"
spell_middle is_less = ascii "-{v"

-- How two terms begin, and what parts them.
unfoldable pub opening : Pair → Head
opening (calls f) = is_call2 f
opening (joins o) = is_bracket

unfoldable pub parting : Pair → Bytes
parting (calls f) = ascii ","
parting (joins o) = spell_middle (is_op o)

-- OE and AO of an argument that is written w: by the choice's digit where it is known.
unfoldable pub oe_text : Option ℕ → Bytes → Bytes
oe_text none w = spell is_oe ++ (w ++ ascii ")")
oe_text (some d) w = spell is_choice ++ (d ∷ [])

unfoldable pub ao_text : Option ℕ → Bytes → Bytes
ao_text none w = spell is_ao ++ (w ++ ascii ")")
ao_text (some d) w = spell is_bracket ++ (w ++ (spell_middle is_less ++ (d ∷ ascii "})")))

unfoldable pub text : Choices → Term → Bytes
text σ (base b) = spell (is_base b)
text σ (call f a) = spell (is_call f) ++ (text σ a ++ ascii ")")
text σ (oe a) = oe_text (digit σ a) (text σ a)
text σ (ao a) = ao_text (digit σ a) (text σ a)
text σ (two o a b) = spell (opening o) ++ (text σ a ++ (parting o ++ (text σ b ++ ascii ")")))

-- How a term is read. With no choices known the reader is the grammar of terms.

-- The names, the longest of those that begin alike first.
unfoldable pub bracket_heads : List Head
bracket_heads = is_call2 operations ∷ is_call2 done ∷ is_bracket ∷ is_choice ∷ []

unfoldable pub call_heads : List Head
call_heads =
    is_call user ∷ is_call roles* ∷ is_call roles ∷ is_call sessions ∷ is_call permissions* ∷ is_call permissions ∷ is_call object
    ∷ bracket_heads

unfoldable pub collection_heads : List Head
collection_heads = is_base b_cr ∷ is_base b_cp ∷ is_base b_cu ∷ is_oe ∷ is_ao ∷ call_heads

unfoldable pub heads : List Head
heads = is_base b_u ∷ is_base b_r ∷ is_base b_obj ∷ is_base b_op ∷ is_base b_p ∷ is_base b_s ∷ collection_heads

unfoldable pub middles : List Middle
middles = is_op meet ∷ is_op join ∷ is_less ∷ []

-- Read the digit of a known choice, and give its argument.
unfoldable pub known : Choices → Reader Term
known σ [] = fail
known σ (c ∷ s) = elim (named_from 49 σ c) [ none ↦ fail | some a ↦ got a s ]

-- Read a term and its closing bracket, and make a term of it.
unfoldable pub closed : Reader Term → (Term → Term) → Reader Term
closed rd make = do a ← rd; skip (ascii ")"); give (make a)

-- The rest of a bracket after its first term a and what stands between.
unfoldable pub second : Reader Term → Choices → Term → Middle → Reader Term
second rd σ a (is_op o) = closed rd (two (joins o) a)
second rd σ a is_less = do known σ; skip (ascii "})"); give (ao a)

-- The rest of a term after its beginning; rd reads the terms inside.
unfoldable pub inner : Reader Term → Choices → Head → Reader Term
inner rd σ (is_base b) = give (base b)
inner rd σ (is_call f) = closed rd (call f)
inner rd σ is_oe = closed rd oe
inner rd σ is_ao = closed rd ao
inner rd σ (is_call2 f) = do a ← rd; skip (ascii ","); closed rd (two (calls f) a)
inner rd σ is_bracket = do a ← rd; m ← scan spell_middle middles; second rd σ a m
inner rd σ is_choice = do a ← known σ; give (oe a)

-- Read a term whose brackets go less than n deep.
unfoldable pub term_within : ℕ → Choices → Reader Term
term_within zero σ = λ _. fail
term_within (suc n) σ = do h ← scan spell heads; inner (term_within n σ) σ h

-- Read a term. No more brackets open than there are bytes left.
unfoldable pub read_term : Choices → Reader Term
read_term σ s = term_within (length s) σ s
