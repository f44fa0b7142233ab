use Rattle.sheet_layout.proofs.Accepted.{good_laid_out, laid_out_good}
use Rattle.sheet_layout.proofs.Unique.{laid_out_unique}
use Rattle.sheet_layout.proofs.Written.{written_laid_out}
use Rattle.sheet_layout.proofs.laws_stand.Goals as goal

pub returns : goal.returns
returns c f n = record {
  good = good_laid_out f;
  right = laid_out_good f n;
  one = λ m. laid_out_unique f m n;
  written = written_laid_out n;
}
