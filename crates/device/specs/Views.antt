-- The plain values that a load and an answer stand for.
use Rattle.std.specs.Prelude.{Some, None, Option}
use Rattle.device.specs.declared.loads.Load.{Load}
use Rattle.device.specs.Loads.{PlainLoad}

abbrev pub load_of : Load → PlainLoad
load_of x = record { ticks = x.ticks; link = x.link }

abbrev pub answered : Option Load → Option PlainLoad
answered None = None
answered (Some x) = Some (load_of x)
