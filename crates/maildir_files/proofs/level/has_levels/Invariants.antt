use Rattle.std.proofs.Common.{◌≡◌, drop}
use Rattle.maildir_files.specs.Levels.{has_levels}
use Rattle.maildir_files.proofs.LevelLemmas.{levels_from}
use Rattle.maildir_files.proofs.level.has_levels.Given as goal

abbrev pub invariant-loop-octet : goal.invariant-loop-octet
invariant-loop-octet l = has_levels l.separator l.name ≡ levels_from l.separator l.after_separator (drop l.octet-index l.name)
