-- The greatest numbers behind options.
use Rattle.std.specs.Prelude.{ℕ}

-- the most workers that there may be
abbrev pub most_workers : ℕ
most_workers = 64

-- the most items that a queue may be told to hold
abbrev pub most_cap : ℕ
most_cap = 65536

-- the greatest number with which picks may begin
abbrev pub most_start : ℕ
most_start = 999999999
