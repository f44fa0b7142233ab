-- How large a load and an accelerator's limit may be.
use Rattle.std.specs.Prelude.{ℕ}

abbrev pub most_load : ℕ
most_load = 1000000000

abbrev pub most_limit : ℕ
most_limit = 1000000000
