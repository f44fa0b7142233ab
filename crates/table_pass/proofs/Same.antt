-- Tables of which each is the one before but for its cells.
use Rattle.std.proofs.Common.{◌∙◌}
use Rattle.cells.specs.declared.tables.Tables.{Tables}
use Rattle.cells.specs.Tables.{SameTables}

pub same_tables : {R : Type 0} (t u v : Tables R) → SameTables t u → SameTables u v → SameTables t v
same_tables t u v a b = record {
  ratings = b.ratings ∙ a.ratings;
  choices = b.choices ∙ a.choices;
  ratings_length = b.ratings_length ∙ a.ratings_length;
  choices_length = b.choices_length ∙ a.choices_length;
}
