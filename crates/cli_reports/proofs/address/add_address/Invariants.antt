-- The text so far and what is left of the address are the text at first and the whole address.
use Rattle.std.proofs.Common.{◌≡◌, ◌++◌, drop}
use Rattle.cli_reports.specs.Addresses.{shown_address}
use Rattle.cli_reports.proofs.address.add_address.Given as goal

abbrev pub invariant-loop-octet : goal.invariant-loop-octet
invariant-loop-octet l = l.text ++ shown_address (drop l.octet-index l.address) ≡ l.initial.text ++ shown_address l.address
