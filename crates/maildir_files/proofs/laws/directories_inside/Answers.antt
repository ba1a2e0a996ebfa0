use Rattle.maildir_files.proofs.InsideLemmas.{directory_inside, length-digest}
use Rattle.maildir_files.proofs.laws.directories_inside.Goals as goal

pub returns-clause-inside : goal.returns-clause-inside
returns-clause-inside c = directory_inside

pub returns-clause-digest : goal.returns-clause-digest
returns-clause-digest c = length-digest
