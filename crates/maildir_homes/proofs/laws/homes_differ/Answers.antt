use Rattle.maildir_homes.proofs.HomeLemmas.{homes_differ}
use Rattle.maildir_homes.proofs.laws.homes_differ.Goals as goal

pub returns : goal.returns
returns c = homes_differ
