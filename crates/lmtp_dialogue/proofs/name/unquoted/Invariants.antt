use Rattle.std.proofs.Common.{◌≡◌, ◌++◌, drop}
use Rattle.lmtp_dialogue.specs.Names.{unquoted_local}
use Rattle.lmtp_dialogue.specs.declared.path.Quoting.TheVariants.{Outside}
use Rattle.lmtp_dialogue.proofs.name.unquoted.Given as goal

abbrev pub invariant-loop-octet : goal.invariant-loop-octet
invariant-loop-octet l = l.text ++ unquoted_local l.quoting (drop l.octet-index l.local) ≡ unquoted_local Outside l.local
