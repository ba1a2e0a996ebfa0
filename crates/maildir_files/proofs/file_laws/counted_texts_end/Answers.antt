use Rattle.maildir_files.proofs.FileNameLemmas.{counted_ends}
use Rattle.maildir_files.proofs.file_laws.counted_texts_end.Goals as goal

pub returns : goal.returns
returns c = counted_ends
