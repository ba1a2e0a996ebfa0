use Rattle.maildir_files.proofs.SharingLemmas.{shared}
use Rattle.maildir_files.proofs.laws.directories_differ.Goals as goal

pub returns : goal.returns
returns c = shared
