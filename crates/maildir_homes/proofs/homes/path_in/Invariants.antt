use Rattle.std.proofs.Common.{◌≡◌, ◌++◌, drop}
use Rattle.maildir_homes.specs.Homes as homes
use Rattle.maildir_homes.proofs.homes.path_in.Given as goal

abbrev pub invariant-loop-part : goal.invariant-loop-part
invariant-loop-part l = l.path ++ homes.parts_path (drop l.part-index l.parts) l.user ≡ homes.front_path l.dir l.parts l.user
