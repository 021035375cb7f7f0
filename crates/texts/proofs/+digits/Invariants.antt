-- `texts::digits` writes the digits of `digits_to`: none, one, or those of n / 10 and the last one. The measure is how many may be needed.
-- Assumes nothing.
use Rattle.texts.proofs.+digits.Given as goal

abbrev pub decreases-digits : goal.decreases-digits
decreases-digits l = l.left
