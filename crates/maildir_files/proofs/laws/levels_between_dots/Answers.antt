use Rattle.maildir_files.proofs.CutLemmas.{cut_spelled}
use Rattle.maildir_files.proofs.laws.levels_between_dots.Goals as goal

pub returns : goal.returns
returns c = cut_spelled
