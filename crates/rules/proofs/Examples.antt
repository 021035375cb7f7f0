-- Rule texts with document 01's number for each, 0 where they are accepted: one table, computed.
-- Assumes nothing.
use mathlib.Core.Bool.{Bool, true, ◌&&◌}
use mathlib.Core.List.{List, [], ◌∷◌}
use Prim.Native.Nat.{ℕ}
use lib.Dec.{T, eqb}
use Rattle.answers.specs.Answer.{number_or_zero}
use Rattle.syntax.specs.Bytes.{Bytes, ascii, next, skip, scan, either}
use Rattle.syntax.specs.Term.{Term≟, digit_from, named_from, spell, spell_middle, heads, collection_heads, call_heads, bracket_heads, middles, known, closed, second, inner, term_within, read_term}
use Rattle.syntax.specs.Rule.{spell_cmp, spell_between, digits, add, vars, count_vars, test_vars, clause_vars, rule_vars, cmps, betweens, down}
use Rattle.syntax.specs.Rule.{read_count, read_second, read_test, read_clause, read_rule, whole, rule_of}
use Rattle.rules.specs.Kind.{one_of, base_kind, takes, makes, of_element, call_kind, inside, one_kind, others_kind, as_set, joined, row, call2_kind, two_kind, kind}
use Rattle.rules.specs.Kind.{countable, is_member, count_kinds, test_kinds, clause_kinds, rule_kinds}
use Rattle.rules.specs.Accept.{deep, tree_refusal, refusal}

data Line : Type 0 where
  says : ℕ → Bytes → Line

right : Line → Bool
right (says n s) = eqb (number_or_zero (refusal s)) n

all_right : List Line → Bool
all_right [] = true
all_right (l ∷ ls) = right l && all_right ls

abbrev table : List Line
table =
    says 0 (ascii "|(roles(OE(U))&OE(CR))|<=1")
    ∷ says 0 (ascii "OE(OE(CR))@roles(OE(U))=>(AO(OE(CR))&roles(OE(U)))={}")
    ∷ says 0 (ascii "AO(U)={}")
    ∷ says 0 (ascii "|CR|=1")
    ∷ says 0 (ascii "|permissions*(R)|>=64^operations(OE(R),OE(OBJ))!=OP")
    ∷ says 13 (ascii "|roles(OE(U))")
    ∷ says 13 (ascii "|U|<65")
    ∷ says 13 (ascii "|U|<05")
    ∷ says 13 (ascii "v1=U")
    ∷ says 13 (ascii "(U-{v1})={}")
    ∷ says 13 (ascii "roles(U,U)=R")
    ∷ says 13 (ascii "U=U^")
    ∷ says 13 (ascii "U=>U")
    ∷ says 13 (ascii "|X|={}")
    ∷ says 13 (ascii "(U)=U")
    ∷ says 11 (ascii "")
    ∷ says 0 (ascii "((((((((((((((((((((((((((((((((U+U)+U)+U)+U)+U)+U)+U)+U)+U)+U)+U)+U)+U)+U)+U)+U)+U)+U)+U)+U)+U)+U)+U)+U)+U)+U)+U)+U)+U)+U)+U)+U)={}^U=U^U=U^U=U^U=U^U=U^U=U^U=U^U=U^U=U^U=U^U=U^U=U^U=U^U=U^U=U^U=U^U=U^U=U^U=U^U=U^U=U^U=U^U=U^U=U^U=U^U=U^U=U^U=U^|OBJ|<=|CR|")
    ∷ says 11 (ascii "((((((((((((((((((((((((((((((((U+U)+U)+U)+U)+U)+U)+U)+U)+U)+U)+U)+U)+U)+U)+U)+U)+U)+U)+U)+U)+U)+U)+U)+U)+U)+U)+U)+U)+U)+U)+U)+U)={}^U=U^U=U^U=U^U=U^U=U^U=U^U=U^U=U^U=U^U=U^U=U^U=U^U=U^U=U^U=U^U=U^U=U^U=U^U=U^U=U^U=U^U=U^U=U^U=U^U=U^U=U^U=U^U=U^|OBJ|<=|OBJ|")
    ∷ says 0 (ascii "((((((((((((((((((((((((((((((((U+U)+U)+U)+U)+U)+U)+U)+U)+U)+U)+U)+U)+U)+U)+U)+U)+U)+U)+U)+U)+U)+U)+U)+U)+U)+U)+U)+U)+U)+U)+U)+U)={}")
    ∷ says 12 (ascii "(((((((((((((((((((((((((((((((((U+U)+U)+U)+U)+U)+U)+U)+U)+U)+U)+U)+U)+U)+U)+U)+U)+U)+U)+U)+U)+U)+U)+U)+U)+U)+U)+U)+U)+U)+U)+U)+U)+U)={}")
    ∷ says 14 (ascii "OE(OE(U))=U")
    ∷ says 14 (ascii "AO(OE(U))={}")
    ∷ says 14 (ascii "OE(CR)@CR")
    ∷ says 14 (ascii "OE(U)=U")
    ∷ says 14 (ascii "|OE(U)|=1")
    ∷ says 14 (ascii "(CR&R)=R")
    ∷ says 14 (ascii "roles(CU)=R")
    ∷ says 0 (ascii "roles(OE(CU))=R")
    ∷ says 14 (ascii "user(OE(S))=U")
    ∷ says 0 (ascii "user(OE(S))@U")
    ∷ says 0 (ascii "user(OE(R))=U")
    ∷ says 14 (ascii "operations(R,object(P))=OP")
    ∷ says 0 (ascii "|done(OE(U),OE(OBJ))|<=1")
    ∷ says 0 (ascii "done(U,OE(OBJ))=OP")
    ∷ says 14 (ascii "done(U,OBJ)=OP")
    ∷ says 14 (ascii "done(R,OE(OBJ))=OP")
    ∷ says 13 (ascii "done(U)=OP")
    ∷ says 0 (ascii "(OE(U)&U)=(U+OE(U))")
    ∷ says 0 (ascii "OE(U)@U^OE(R)@R^OE(OP)@OP^OE(OBJ)@OBJ^OE(P)@P^OE(S)@S^|OE(CR)|>0^|OE(CP)|>0")
    ∷ says 15 (ascii "OE(U)@U^OE(R)@R^OE(OP)@OP^OE(OBJ)@OBJ^OE(P)@P^OE(S)@S^|OE(CR)|>0^|OE(CP)|>0^|OE(CU)|>0")
    ∷ []

examples : T (all_right table)
unfolding right all_right next skip scan either Term≟ digit_from named_from spell spell_middle heads collection_heads call_heads bracket_heads middles known closed second inner term_within read_term spell_cmp spell_between digits add vars count_vars test_vars clause_vars rule_vars cmps betweens down read_count read_second read_test read_clause read_rule whole rule_of one_of base_kind takes makes of_element call_kind inside one_kind others_kind as_set joined row call2_kind two_kind kind countable is_member count_kinds test_kinds clause_kinds rule_kinds deep tree_refusal refusal
examples = tt
