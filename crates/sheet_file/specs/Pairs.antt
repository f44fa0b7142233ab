-- The order of the edges in a file, and what is wrong with one of them.
--   comes_after q p       the pair p comes after the last one, if there is one: by from, and then by to
--   pair_outcome n q p    whether p can stand after the last pair among n operators, or why not
use Rattle.std.specs.Prelude.{ℕ, Bool, true, cond, ◌&&◌, ◌||◌, ◌==◌, nat_lt, Option, None, Some, Result, Ok, Err}
use Rattle.refusals.specs.declared.Reason.{Reason}
use Rattle.refusals.specs.declared.Reason.TheVariants.{NoOperator, NotUpward, NotAscending}
use Rattle.sheet_file.specs.declared.bodies.Pair.{Pair}

abbrev pub comes_after : Option Pair → Pair → Bool
comes_after None p = true
comes_after (Some q) p = nat_lt q.from p.from || (q.from == p.from && nat_lt q.to p.to)

abbrev pub pair_outcome : ℕ → Option Pair → Pair → Result (Unit {0}) Reason
pair_outcome n q p =
    cond (nat_lt p.from n && nat_lt p.to n) (cond (nat_lt p.from p.to) (cond (comes_after q p) (Ok tt) (Err NotAscending)) (Err NotUpward)) (Err NoOperator)
