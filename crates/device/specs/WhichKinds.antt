-- The numbers of the two device kinds.
--   kind_number w   the number that names a kind
--   kind_of c       the kind that a number names: none but for 1 and 2
--   NamesKind c r   r is the kind that c names, or tells c where it names none
use Rattle.std.specs.Prelude.{◌≡◌, ℕ, zero, suc, Some, None, Option, Result, MatchResult}
use Rattle.device.specs.declared.which_kinds.WhichKind.{WhichKind}
use Rattle.device.specs.declared.which_kinds.WhichKind.TheVariants.{First, Second}
use Rattle.device.specs.declared.which_kinds.UnknownKind.{UnknownKind}

abbrev pub kind_number : WhichKind → ℕ
kind_number First = 1
kind_number Second = 2

abbrev pub kind_of : ℕ → Option WhichKind
kind_of zero = None
kind_of (suc zero) = Some First
kind_of (suc (suc zero)) = Some Second
kind_of (suc (suc (suc c))) = None

abbrev pub NamesKind : ℕ → Result WhichKind UnknownKind → Type 0
NamesKind c r = MatchResult r (λ w. kind_of c ≡ Some w) (λ e. (kind_of c ≡ None) × (e.0 ≡ c))
