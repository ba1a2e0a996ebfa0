-- The parts of a response, appended in turn.
use Rattle.std.proofs.Common.{◌≡◌, ℕ, Bool, true, false, ◌==◌, List, [], ◌∷◌, ◌++◌, length, sym, ap, ◌∙◌, subst}
use Rattle.std.specs.Prelude.{codes, Some, unwrap_or}
use Rattle.sieve_syntax.specs.declared.extension.vacation.VacationArgs.{VacationArgs}
use Rattle.sieve_syntax.specs.declared.extension.vacation.ReplyFrom.{ReplyFrom}
use Rattle.sieve_exec.specs.Mails.{MailSpec}
use Rattle.sieve_vacation.specs.Layout.{reply_line, body_text, in_reply_to, version, content_header, with_line_end, usable, display_of, IsDisplay, IsFromMailbox}
use Rattle.sieve_vacation.proofs.Appends.{glue5}

pub body_written : (args : VacationArgs) (mail : MailSpec) (old a b c d new : List ℕ) → a ≡ old ++ reply_line (codes "Auto-Submitted: auto-replied") [] → b ≡ a ++ in_reply_to mail
    → c ≡ b ++ version args → d ≡ c ++ content_header args.mime → new ≡ d ++ with_line_end args.reason → new ≡ old ++ body_text args mail
body_written args mail old a b c d new one two three four five =
    glue5 old (reply_line (codes "Auto-Submitted: auto-replied") []) a (in_reply_to mail) b (version args) c (content_header args.mime) d (with_line_end args.reason) new one two three four five

named_some : (display address shown value : List ℕ) (empty : Bool) → empty ≡ (length display == 0) → empty ≡ false → IsDisplay display shown
    → value ≡ shown ++ (codes " <" ++ (address ++ codes ">")) → IsFromMailbox display address value
named_some [] address shown value empty is other display written = let never : true ≡ false = sym is ∙ other in absurd (cc never)
named_some (octet ∷ rest) address shown value empty is other display written = (shown, (display, written))

-- a display and an address
pub named_is : (from : ReplyFrom) (text display address shown value : List ℕ) (empty : Bool) → text ≡ from.display → Some display ≡ usable (Some text) → empty ≡ (length display == 0) → empty ≡ false
    → IsDisplay display shown → value ≡ shown ++ (codes " <" ++ (address ++ codes ">")) → IsFromMailbox (display_of from) address value
named_is from text display address shown value empty same found is other shows written =
    let whole : display ≡ display_of from = ap (λ o. unwrap_or o []) found ∙ ap (λ t. unwrap_or (usable (Some t)) []) same in
    subst (λ (d : List ℕ). IsFromMailbox d address value) whole (named_some display address shown value empty is other shows written)
