-- The text so far and the lines that are left are all the lines.
use Rattle.std.proofs.Common.{◌≡◌, ◌++◌, drop, map}
use Rattle.store_accounts.specs.Tally.{folder_count}
use Rattle.cli_run.specs.Subcommands.{folder_line, folder_listing}
use Rattle.cli_run.proofs.listing.folder_lines.Given as goal

abbrev pub invariant-loop-folder : goal.invariant-loop-folder
invariant-loop-folder l = l.text ++ folder_listing folder_line (map folder_count (drop l.folder-index l.folders)) ≡ folder_listing folder_line (map folder_count l.folders)
