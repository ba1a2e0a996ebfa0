-- At which token a fault of a script is, given the last one that was read.
use Rattle.std.specs.Prelude.{ℕ, suc, ◌+◌, ◌-◌, Bool, true, false, ◌==◌, not, is_some, List, [], ◌∷◌, length, drop, cond, position, count_by, Option, Some, None, option_map}
use Rattle.sieve_lex.specs.declared.fault.FaultKind.{FaultKind}
use Rattle.sieve_lex.specs.declared.fault.FaultKind.TheVariants as kind
use Rattle.sieve_lex.specs.declared.token.Content.{Content}
use Rattle.sieve_lex.specs.declared.token.Content.TheVariants as content
use Rattle.sieve_lex.specs.declared.token.Token.{Token}
use Rattle.sieve_syntax.specs.Capabilities.{capability_named}
use Rattle.sieve_places.specs.declared.pick.PickedToken.{PickedToken}
use Rattle.sieve_places.specs.declared.pick.TokenClass.{TokenClass}
use Rattle.sieve_places.specs.declared.pick.TokenClass.TheVariants.{Name, Tag, String}

abbrev pub content_is : TokenClass → Content → Bool
content_is Name (content.Identifier name) = true
content_is Tag (content.Tag name) = true
content_is String (content.Text value) = true
content_is class other = false

-- a token of this class
abbrev pub is_of_class : TokenClass → Token → Bool
is_of_class class t = content_is class t.content

-- the index of the last token of this class
abbrev pub or_here : Option ℕ → Bool → Option ℕ
or_here (Some later) here = Some later
or_here None here = cond here (Some 0) None

abbrev pub last_index : TokenClass → List Token → Option ℕ
last_index class [] = None
last_index class (t ∷ ts) = or_here (option_map suc (last_index class ts)) (is_of_class class t)

-- a string that names no capability
abbrev pub content_unknown : Content → Bool
content_unknown (content.Text name) = not (is_some (capability_named name))
content_unknown other = false

abbrev pub is_unknown_name : Token → Bool
is_unknown_name t = content_unknown t.content

abbrev pub picked : Bool → ℕ → PickedToken
picked exact index = record { index = index; is_exact = exact }

-- the argument of the command or test whose name has this index, if there is one; else the name
abbrev pub argument_or_name : ℕ → Option ℕ → PickedToken
argument_or_name name None = picked false name
argument_or_name name (Some index) = picked true (name + 1 + index)

-- the only tag among these tokens
abbrev pub only_tag : List Token → Option ℕ
only_tag args = cond (count_by (is_of_class Tag) args == 1) (position (is_of_class Tag) args) None

-- where a fault is, of these tokens that were read, the last of which is the last one that the check read:
-- an unknown word of a command or a test at its name; an unknown capability at the first string that names none; a bad mailbox or
-- an encoded character that doesn't exist at the last string; a tag at the only one that there is; a token that isn't allowed at
-- itself, if others follow it, since else the end may be what isn't; all else at the name of the command or test
unfoldable pub pick_at : FaultKind → List Token → Bool → Option PickedToken
pick_at kind.Unexpected read follows = Some (picked follows (length read - 1))
pick_at kind.UnknownCommand read follows = option_map (picked true) (last_index Name read)
pick_at kind.UnknownTest read follows = option_map (picked true) (last_index Name read)
pick_at kind.LateRequire read follows = option_map (picked true) (last_index Name read)
pick_at kind.StrayElse read follows = option_map (picked true) (last_index Name read)
pick_at kind.BadMailbox read follows = option_map (picked true) (last_index String read)
pick_at kind.BadCharacter read follows = option_map (picked true) (last_index String read)
pick_at kind.UnknownCapability read follows =
    option_map (λ name. argument_or_name name (position is_unknown_name (drop (name + 1) read))) (last_index Name read)
pick_at kind.UnknownTag read follows =
    option_map (λ name. argument_or_name name (only_tag (drop (name + 1) read))) (last_index Name read)
pick_at kind.DoubleTag read follows =
    option_map (λ name. argument_or_name name (only_tag (drop (name + 1) read))) (last_index Name read)
pick_at other read follows = option_map (picked false) (last_index Name read)
