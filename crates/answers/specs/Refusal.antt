-- Document 01, "Turned back", and document 02: the number of each refusal.
-- Assumes nothing.
use Rattle.std.specs.Prelude.{ℕ}
use Rattle.answers.specs.declared.Refusal.{Refusal}
use Rattle.answers.specs.declared.Refusal.TheVariants.{CutShort, Overfull, NotEntered, BadMark, NoSuchItem, Miscounted}
use Rattle.answers.specs.declared.Refusal.TheVariants.{Rank, Overreach, Twin, LeftOver, RuleLength, Deep, NotARule}
use Rattle.answers.specs.declared.Refusal.TheVariants.{KindMismatch, Choices, NoRulesFormula, ShortSheet, NotAnOrder, Page, Left, FullHouse, NotOpen, Reader}

-- "No.", with the table's word and condition beside each.
abbrev pub number_of : Refusal → ℕ
number_of CutShort = 1  -- cut short: bytes end where a count or row is due, or inside a row
number_of Overfull = 2  -- overfull: count above its limit
number_of NotEntered = 3  -- not entered: mark 0
number_of BadMark = 4  -- bad mark: mark above 1, in a user row above 2 (document 02, N6)
number_of NoSuchItem = 5  -- no such item: bit or user number at or above its count
number_of Miscounted = 6  -- miscounted: permissions not operations × objects
number_of Rank = 7  -- rank: role rows not reflexive, transitive, antisymmetric
number_of Overreach = 8  -- overreach: session role that is not in `roles*` of its user (document 02, N2; "not assigned" in document 01)
number_of Twin = 9  -- twin: equal words in one collection
number_of LeftOver = 10  -- left over: bytes after section 9
number_of RuleLength = 11  -- rule length: 0 or above 256 bytes
number_of Deep = 12  -- deep: the bracket surplus passes 32
number_of NotARule = 13  -- not a rule: outside the grammar
number_of KindMismatch = 14  -- kind: kinds do not fit
number_of Choices = 15  -- choices: more than 8 variables
number_of NoRulesFormula = 16  -- no rule's formula: no accepted rule has this formula
number_of ShortSheet = 17  -- short sheet: lent output shorter than L
number_of NotAnOrder = 18  -- order: not an order of the rule's variables
number_of Page = 19  -- page: no line or above 32 (document 02, N3)
number_of Left = 20  -- left: a row of mark 2 with a word not zero, a session of a leaver, or a CU word naming one (document 02, N6)
number_of FullHouse = 21  -- full house: opening with 64 open (document 02, N9)
number_of NotOpen = 22  -- not open: closing a number that is not open (document 02, N9)
number_of Reader = 23  -- reader: bit at or above the user count (document 02, N10)

-- No refusal has a higher number.
abbrev pub last_number : ℕ
last_number = 23
