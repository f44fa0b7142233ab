-- The text of a load.
use Rattle.std.specs.Prelude.{ℕ, List, ◌++◌, codes, decimal}
use Rattle.device.specs.Loads.{PlainLoad}

abbrev pub spelled_load : PlainLoad → List ℕ
spelled_load x = codes "ticks " ++ (decimal x.ticks ++ (codes " link " ++ decimal x.link))
