-- The desk of the search for an order.
-- Internal: contracts of entry points do not speak of it. Assumes nothing.
use Rattle.std.specs.Prelude.{ℕ}

-- The highest number that it reckons with.
abbrev pub most : ℕ
most = 1099511627776
