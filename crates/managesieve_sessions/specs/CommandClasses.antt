-- The commands by what they need, and which command of the protocol each is (RFC 5804, section 2).
use Rattle.std.specs.Prelude.{◌≡◌, ℕ, List, Option, Some}
use Rattle.managesieve_protocol.specs.declared.commands.ClientCommand.{ClientCommand}
use Rattle.managesieve_protocol.specs.declared.commands.ClientCommand.TheVariants as command
use Rattle.managesieve_sessions.specs.declared.command_class.FreeCommand.{FreeCommand}
use Rattle.managesieve_sessions.specs.declared.command_class.FreeCommand.TheVariants as free
use Rattle.managesieve_sessions.specs.declared.command_class.LoginCommand.{LoginCommand}
use Rattle.managesieve_sessions.specs.declared.command_class.LoginCommand.TheVariants as login
use Rattle.managesieve_sessions.specs.declared.command_class.NamedCommand.{NamedCommand}
use Rattle.managesieve_sessions.specs.declared.command_class.NamedCommand.TheVariants as named
use Rattle.managesieve_sessions.specs.declared.command_class.StoreCommand.{StoreCommand}
use Rattle.managesieve_sessions.specs.declared.command_class.StoreCommand.TheVariants as order
use Rattle.managesieve_sessions.specs.declared.command_class.ScriptCommand.{ScriptCommand}
use Rattle.managesieve_sessions.specs.declared.command_class.ScriptCommand.TheVariants as script
use Rattle.managesieve_sessions.specs.declared.command_class.CommandClass.{CommandClass}
use Rattle.managesieve_sessions.specs.declared.command_class.CommandClass.TheVariants as sort

-- a command that is answered without the store
abbrev pub of_free : FreeCommand → ClientCommand
of_free free.Capability = command.Capability
of_free (free.Noop tag) = command.Noop tag
of_free free.Logout = command.Logout
of_free free.Unauthenticate = command.Unauthenticate
of_free (free.CheckScript text) = command.CheckScript text

-- a command of a login's exchange
abbrev pub of_login : LoginCommand → ClientCommand
of_login (login.Authenticate mechanism response) = command.Authenticate mechanism response
of_login (login.Response text) = command.Response text

-- a command that is decided by the names of the user's scripts and by which one is active
abbrev pub of_named : NamedCommand → ClientCommand
of_named (named.HaveSpace name size) = command.HaveSpace name size
of_named (named.PutScript name script) = command.PutScript name script
of_named named.ListScripts = command.ListScripts
of_named (named.SetActive name) = command.SetActive name
of_named (named.DeleteScript name) = command.DeleteScript name
of_named (named.RenameScript old new) = command.RenameScript old new

-- a command about a user's scripts
abbrev pub of_script : ScriptCommand → ClientCommand
of_script (script.Get name) = command.GetScript name
of_script (script.Named named) = of_named named

-- the command that was classified like this
abbrev pub command_of_class : CommandClass → ClientCommand
command_of_class (sort.Free free) = of_free free
command_of_class (sort.Login login) = of_login login
command_of_class (sort.Script script) = of_script script

-- a command that is answered over the store
abbrev pub of_store_command : StoreCommand → ClientCommand
of_store_command (order.Login login) = of_login login
of_store_command (order.Script user script) = of_script script

-- the order is about the scripts of the user who is logged in
abbrev pub IsStoreCommandOf : Option (List ℕ) → StoreCommand → Type 0
IsStoreCommandOf user (order.Login login) = Unit {0}
IsStoreCommandOf user (order.Script owner script) = user ≡ Some owner
