-- Document 01, "Proved examples": A to K, and the day sheet's third line, as one table.
-- Assumes nothing.
use Rattle.std.specs.Prelude.{◌≡◌, List, [], ◌∷◌, ◌++◌, ℕ, ◌-◌, length, replicate}
use Rattle.answers.specs.Answer.{Answer, refused, wrote}
use Rattle.answers.specs.declared.Refusal.TheVariants.{NoRulesFormula, NotAnOrder}
use Rattle.syntax.specs.Bytes.{Bytes, ascii}
use Rattle.formulas.specs.Formulas.{reduced, Rebuilds}
use Rattle.verdicts.specs.Verdict.{judged}

-- "Tables T, in hexadecimal (00×7 is seven zero bytes)":
-- `02, 01 00×7, 02 00×7, 02, 01 03 00×7, 01 01 00×7, 00, 00, 00, 00, 01, 03 00×7, 00, 00`
abbrev pub word : ℕ → Bytes
word w = w ∷ replicate 7 0

abbrev pub bytes_t : Bytes
bytes_t =
    2 ∷ (word 1 ++ (word 2 ++ (2 ∷ 1 ∷ (word 3 ++ (1 ∷ (word 1 ++ (0 ∷ 0 ∷ 0 ∷ 0 ∷ 1 ∷ (word 3 ++ (0 ∷ 0 ∷ 0 ∷ [])))))))))

-- A rule and its formula; bytes that are no rule's formula; a rule, an order and what judging them on T answers.
pub data Line : Type 0 where
  has : Bytes → Bytes → Line
  is_none : Bytes → Line
  gives : Bytes → Bytes → Answer → Line

abbrev pub Right : Line → Type 0
Right (has rule f) = (reduced rule ≡ wrote f) × Rebuilds f (wrote rule)
Right (is_none f) = Rebuilds f (refused NoRulesFormula)
Right (gives rule order a) = judged bytes_t rule order ≡ a

abbrev pub All : List Line → Type 0
All [] = Unit {0}
All (l ∷ ls) = Right l × All ls

-- The 26 bytes of a verdict: its word, full, breaking, the items of the first breaking choice, the share.
abbrev pub verdict : ℕ → ℕ → ℕ → Bytes → ℕ → Answer
verdict w full breaking first share = wrote (w ∷ (word full ++ (word breaking ++ (first ++ (replicate (8 - length first) 255 ++ (share ∷ []))))))

abbrev pub rule_a : Bytes
rule_a = ascii "|(roles(OE(U))&OE(CR))|<=1"

abbrev pub rule_b : Bytes
rule_b = ascii "OE(OE(CR))@roles(OE(U))=>(AO(OE(CR))&roles(OE(U)))={}"

abbrev pub rule_c : Bytes
rule_c = ascii "AO(U)={}"

abbrev pub rule_d : Bytes
rule_d = ascii "|CR|=1"

-- Document 02, N8: "The committee will write".
abbrev pub committees : Bytes
committees = ascii "|done(OE(U),OE(OBJ))|<=1"

abbrev pub table : List Line
table =
    has rule_a (ascii "[v1@U][v2@CR]:|(roles(v1)&v2)|<=1")  -- A
    ∷ has rule_b (ascii "[v1@CR][v2@v1][v3@U]:v2@roles(v3)=>((v1-{v2})&roles(v3))={}")  -- B
    ∷ has rule_c (ascii "[v1@U]:(U-{v1})={}")  -- C
    ∷ has rule_d (ascii ":|CR|=1")  -- D
    ∷ has committees (ascii "[v1@U][v2@OBJ]:|done(v1,v2)|<=1")  -- document 02, N8
    ∷ gives rule_a (1 ∷ 2 ∷ []) (verdict 2 2 1 (0 ∷ 0 ∷ []) 50)  -- E: A gives 2, 1
    ∷ gives rule_b (1 ∷ 2 ∷ 3 ∷ []) (verdict 2 4 2 (0 ∷ 0 ∷ 0 ∷ []) 50)  -- F: B gives 4, 2 in orders 1 2 3
    ∷ gives rule_b (3 ∷ 1 ∷ 2 ∷ []) (verdict 2 4 2 (0 ∷ 0 ∷ 0 ∷ []) 50)  -- and 3 1 2
    ∷ gives rule_c (1 ∷ []) (verdict 2 2 2 (0 ∷ []) 100)  -- G: C gives 2, 2
    ∷ gives (ascii "OE(U)=OE(U)") (1 ∷ []) (verdict 0 2 0 [] 0)  -- H: gives 2, 0
    ∷ gives (ascii "|(roles(OE(S))&OE(CR))|<=1") (1 ∷ 2 ∷ []) (verdict 1 0 0 [] 255)  -- I: line 2 gives 0, 0
    ∷ gives rule_b (2 ∷ 1 ∷ 3 ∷ []) (refused NotAnOrder)  -- J: order 2 1 3 for B is 18
    ∷ is_none (ascii "[v1@U]:U=U")  -- K: are 16
    ∷ is_none (ascii "[v1@U][v2@U]:v1=v2")
    ∷ gives rule_d [] (verdict 0 1 0 [] 0)  -- line 3 of the day sheet
    ∷ gives committees (1 ∷ 2 ∷ []) (verdict 1 0 0 [] 255)  -- T has no object: N8's rule meets nothing
    ∷ []
