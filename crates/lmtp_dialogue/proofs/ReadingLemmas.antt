-- A line can be read in one way.
use Rattle.std.proofs.Common.{◌≡◌, ℕ, Bool, if◌then◌else◌, List, [], ◌∷◌, ◌++◌, Option, None, Result, Ok, Err, map, inl, inr, refl, sym, ap, ◌∙◌, subst, codes}
use Rattle.std.proofs.lemmas.List.{append_cancel_left}
use Rattle.std.specs.Char.{to_ascii_lowercase}
use Rattle.std.specs.Cmp.Lexicographic.{pointwise}
use Rattle.std.specs.Prelude.{◌⊎◌, nat_eq}
use Rattle.octets.specs.Ascii.{trimmed}
use Rattle.lmtp_dialogue.specs.Arguments.{to_word, from_word, TakesSender, TakesRecipient, IsPathArgument, or_earlier, IsParameter, AreParameters, ReadsMail, ReadsRecipient, AnnouncedMail}
use Rattle.lmtp_dialogue.specs.Commands.{verb_word, is_unspaced, HasArgument, IsCommandLine}
use Rattle.lmtp_dialogue.specs.Dialogues.{DialoguePhase, Dialogue, Item, Command, LongLine, Message}
use Rattle.lmtp_dialogue.specs.ReadCommands.{Nothing, Something, ReadsLmtpCommand, ReadsName, ReadsSender, ReadsTarget, ReadsAlone}
use Rattle.lmtp_dialogue.specs.Paths.{IsPath, FollowsRoute}
use Rattle.lmtp_dialogue.specs.Turns.{LmtpTurn, says, hello_turn, mail_turn, rcpt_turn, command_turn, IsLineTurn, DialogueAnswers, AnswersStand, announced_size}
use Rattle.lmtp_dialogue.specs.declared.argument.ArgumentFault.{ArgumentFault}
use Rattle.lmtp_dialogue.specs.declared.argument.ArgumentFault.TheVariants.{Syntax, Address, Parameter}
use Rattle.lmtp_dialogue.specs.declared.command.LmtpCommand.{LmtpCommand}
use Rattle.lmtp_dialogue.specs.declared.command.LmtpCommand.TheVariants as command
use Rattle.lmtp_dialogue.specs.declared.reply.LmtpReply.TheVariants as reply
use Rattle.lmtp_dialogue.specs.declared.verb.LmtpVerb.{LmtpVerb}
use Rattle.lmtp_dialogue.specs.declared.verb.LmtpVerb.TheVariants as verb
use Rattle.lmtp_dialogue.proofs.ArgumentLemmas.{one_after, one_path}
use Rattle.lmtp_dialogue.proofs.CommandLemmas.{one_word}
use Rattle.lmtp_dialogue.proofs.DialogueLemmas.{one_item, line_stays, lookup_stays, outcome_stays}
use Rattle.lmtp_dialogue.proofs.FrontLemmas.{front_is, behind_is}
use Rattle.lmtp_dialogue.proofs.ParameterLemmas.{one_parameter, stopped, word_in, tail_in}
use Rattle.lmtp_dialogue.proofs.RouteLemmas.{one_bare}
use Rattle.lmtp_dialogue.proofs.TextLemmas.{same_others, not_none}

-- ---- a path and what stands behind it

one_rest : (text address rest other more : List ℕ) → IsPath text address rest → IsPath text other more → rest ≡ more
one_rest text address rest other more first second =
    let inner : first.inner ≡ second.inner = same_others 60 60 first.inner second.inner (sym first.opened ∙ second.opened) in
    let bare : first.bare ≡ second.bare =
    one_bare second.inner first.bare second.bare (subst (λ t. FollowsRoute t first.bare) inner first.follows) second.follows in
    let address_is : address ≡ other = one_path text address rest other more first second in
    let same : address ++ 62 ∷ rest ≡ address ++ 62 ∷ more =
    sym first.ends.written ∙ (bare ∙ (second.ends.written ∙ ap (λ a. a ++ 62 ∷ more) (sym address_is))) in
    same_others 62 62 rest more (append_cancel_left address (62 ∷ rest) (62 ∷ more) same)

one_addressed : (word : List ℕ) (Takes : List ℕ → Type 0) (argument a x b y : List ℕ) → IsPathArgument word Takes argument a x → IsPathArgument word Takes argument b y
    → (a ≡ b) × (x ≡ y)
one_addressed word Takes argument a x b y first second =
    let path : first.path ≡ second.path = one_after word argument first.path second.path first.after second.after in
    let here = subst (λ t. IsPath t a x) path first.is in
    (one_path second.path a x b y here second.is, one_rest second.path a x b y here second.is)

-- ---- parameters

one_parameters : (texts others : List (List ℕ)) (rest : List ℕ) (earlier size end : Option ℕ) → AreParameters texts rest earlier size → AreParameters others rest earlier end → size ≡ end
one_parameters [] [] rest earlier size end first second = first.1 ∙ sym second.1
one_parameters [] (u ∷ us) rest earlier size end first second = absurd (not_none 32 (u ++ second.0) (sym second.2 ∙ first.0))
one_parameters (t ∷ ts) [] rest earlier size end first second = absurd (not_none 32 (t ++ first.0) (sym first.2 ∙ second.0))
one_parameters (t ∷ ts) (u ∷ us) rest earlier size end first second =
    let same : t ++ first.0 ≡ u ++ second.0 = same_others 32 32 (t ++ first.0) (u ++ second.0) (sym first.2 ∙ second.2) in
    let stops = stopped first.0 first.4 in
    let ends = stopped second.0 second.4 in
    let word : t ≡ u = sym (front_is is_unspaced t first.0 first.3 stops) ∙ (ap word_in same ∙ front_is is_unspaced u second.0 second.3 ends) in
    let tail : first.0 ≡ second.0 = sym (behind_is is_unspaced t first.0 first.3 stops) ∙ (ap tail_in same ∙ behind_is is_unspaced u second.0 second.3 ends) in
    let here : first.1 ≡ second.1 = one_parameter t first.1 second.1 first.5 (subst (λ w. IsParameter w second.1) (sym word) second.5) in
    one_parameters ts us first.0 (or_earlier earlier first.1) size end first.6
    (subst (λ r. AreParameters us r (or_earlier earlier first.1) end) (sym tail) (subst (λ h. AreParameters us second.0 (or_earlier earlier h) end) (sym here) second.6))

-- ---- what MAIL and RCPT are about

same_mail : (a b : List ℕ) (x y : Option ℕ) → a ≡ b → x ≡ y → (let m : AnnouncedMail = record { from = a; size = x } in let r : Result AnnouncedMail ArgumentFault = Ok m in r) ≡ Ok (record { from = b; size = y })
same_mail a b x y from size = ap (λ f. Ok (record { from = f; size = x })) from ∙ ap (λ s. Ok (record { from = b; size = s })) size

one_mail : (argument : List ℕ) (r s : Result AnnouncedMail ArgumentFault) → ReadsMail argument r → ReadsMail argument s → r ≡ s
one_mail argument (Ok m) (Ok n) first second =
    let both = one_addressed from_word TakesSender argument m.from first.0 n.from second.0 first.1 second.1 in
    let there = subst (λ t. AreParameters second.2.0 t None n.size) (sym both.1) second.2.1 in
    same_mail m.from n.from m.size n.size both.0 (one_parameters first.2.0 second.2.0 first.0 None m.size n.size first.2.1 there)
one_mail argument (Ok m) (Err Syntax) first second = absurd (second first.1.path first.1.after)
one_mail argument (Ok m) (Err Address) first second = absurd (second.1 m.from first.0 first.1)
one_mail argument (Ok m) (Err Parameter) first second =
    let both = one_addressed from_word TakesSender argument m.from first.0 second.0 second.1 first.1 second.2 in
    absurd (second.3 first.2.0 m.size (subst (λ t. AreParameters first.2.0 t None m.size) both.1 first.2.1))
one_mail argument (Err Syntax) (Ok n) first second = absurd (first second.1.path second.1.after)
one_mail argument (Err Syntax) (Err Syntax) first second = refl
one_mail argument (Err Syntax) (Err Address) first second = absurd (first second.0.0 second.0.1)
one_mail argument (Err Syntax) (Err Parameter) first second = absurd (first second.2.path second.2.after)
one_mail argument (Err Address) (Ok n) first second = absurd (first.1 n.from second.0 second.1)
one_mail argument (Err Address) (Err Syntax) first second = absurd (second first.0.0 first.0.1)
one_mail argument (Err Address) (Err Address) first second = refl
one_mail argument (Err Address) (Err Parameter) first second = absurd (first.1 second.0 second.1 second.2)
one_mail argument (Err Parameter) (Ok n) first second =
    let both = one_addressed from_word TakesSender argument first.0 first.1 n.from second.0 first.2 second.1 in
    absurd (first.3 second.2.0 n.size (subst (λ t. AreParameters second.2.0 t None n.size) (sym both.1) second.2.1))
one_mail argument (Err Parameter) (Err Syntax) first second = absurd (second first.2.path first.2.after)
one_mail argument (Err Parameter) (Err Address) first second = absurd (second.1 first.0 first.1 first.2)
one_mail argument (Err Parameter) (Err Parameter) first second = refl

one_recipient : (argument : List ℕ) (r s : Result (List ℕ) ArgumentFault) → ReadsRecipient argument r → ReadsRecipient argument s → r ≡ s
one_recipient argument (Ok a) (Ok b) first second = ap Ok (one_addressed to_word TakesRecipient argument a [] b [] first second).0
one_recipient argument (Ok a) (Err Syntax) first second = absurd (second first.path first.after)
one_recipient argument (Ok a) (Err Address) first second = absurd (second.1 a [] first)
one_recipient argument (Ok a) (Err Parameter) first second = absurd (second.3 (sym (one_addressed to_word TakesRecipient argument a [] second.0 second.1 first second.2).1))
one_recipient argument (Err Syntax) (Ok b) first second = absurd (first second.path second.after)
one_recipient argument (Err Syntax) (Err Syntax) first second = refl
one_recipient argument (Err Syntax) (Err Address) first second = absurd (first second.0.0 second.0.1)
one_recipient argument (Err Syntax) (Err Parameter) first second = absurd (first second.2.path second.2.after)
one_recipient argument (Err Address) (Ok b) first second = absurd (first.1 b [] second)
one_recipient argument (Err Address) (Err Syntax) first second = absurd (second first.0.0 first.0.1)
one_recipient argument (Err Address) (Err Address) first second = refl
one_recipient argument (Err Address) (Err Parameter) first second = absurd (first.1 second.0 second.1 second.2)
one_recipient argument (Err Parameter) (Ok b) first second = absurd (first.3 (sym (one_addressed to_word TakesRecipient argument b [] first.0 first.1 second first.2).1))
one_recipient argument (Err Parameter) (Err Syntax) first second = absurd (second first.2.path first.2.after)
one_recipient argument (Err Parameter) (Err Address) first second = absurd (second.1 first.0 first.1 first.2)
one_recipient argument (Err Parameter) (Err Parameter) first second = refl

-- ---- a command's word

abbrev is_text : List ℕ → List ℕ → Bool
is_text word text = pointwise nat_eq word text

abbrev named : List ℕ → LmtpVerb
named text =
    if is_text (codes "lhlo") text then verb.Lhlo else (if is_text (codes "mail") text then verb.Mail else (if is_text (codes "rcpt") text then verb.Rcpt
    else (if is_text (codes "data") text then verb.Data else (if is_text (codes "rset") text then verb.Rset else (if is_text (codes "noop") text then verb.Noop
    else (if is_text (codes "vrfy") text then verb.Vrfy else (if is_text (codes "help") text then verb.Help else (if is_text (codes "quit") text then verb.Quit
    else (if is_text (codes "helo") text then verb.Helo else verb.Ehlo)))))))))

named_is : (word : LmtpVerb) → named (map to_ascii_lowercase (verb_word word)) ≡ word
named_is verb.Lhlo = refl
named_is verb.Mail = refl
named_is verb.Rcpt = refl
named_is verb.Data = refl
named_is verb.Rset = refl
named_is verb.Noop = refl
named_is verb.Vrfy = refl
named_is verb.Help = refl
named_is verb.Quit = refl
named_is verb.Helo = refl
named_is verb.Ehlo = refl

one_argument : (tail a b : List ℕ) → HasArgument tail a → HasArgument tail b → a ≡ b
one_argument tail a b (inl first) (inl second) = first.1 ∙ sym second.1
one_argument tail a b (inl first) (inr second) = absurd (not_none 32 second.0 (sym second.1 ∙ first.0))
one_argument tail a b (inr first) (inl second) = absurd (not_none 32 first.0 (sym first.1 ∙ second.0))
one_argument tail a b (inr first) (inr second) =
    first.2 ∙ (ap trimmed (same_others 32 32 first.0 second.0 (sym first.1 ∙ second.1)) ∙ sym second.2)

one_command : (line : List ℕ) (v w : LmtpVerb) (a b : List ℕ) → IsCommandLine line v a → IsCommandLine line w b → (v ≡ w) × (a ≡ b)
one_command line v w a b first second =
    let word : first.word ≡ second.word = sym (one_word line first.word a first.splits) ∙ one_word line second.word b second.splits in
    let lower : map to_ascii_lowercase (verb_word v) ≡ map to_ascii_lowercase (verb_word w) = sym first.is ∙ (ap (map to_ascii_lowercase) word ∙ second.is) in
    let tail : first.splits.tail ≡ second.splits.tail =
    append_cancel_left first.word first.splits.tail second.splits.tail
    (sym first.splits.written ∙ (second.splits.written ∙ ap (λ x. x ++ second.splits.tail) (sym word))) in (
      sym (named_is v) ∙ (ap named lower ∙ named_is w),
      one_argument second.splits.tail a b (subst (λ t. HasArgument t a) tail first.splits.argues) second.splits.argues,
    )

-- ---- what a line asks for, by its word

abbrev ReadsBy : LmtpVerb → List ℕ → LmtpCommand → Type 0
ReadsBy verb.Lhlo argument o = ReadsName argument o
ReadsBy verb.Mail argument o = ReadsSender argument o
ReadsBy verb.Rcpt argument o = ReadsTarget argument o
ReadsBy verb.Data argument o = ReadsAlone argument command.Data o
ReadsBy verb.Rset argument o = ReadsAlone argument command.Rset o
ReadsBy verb.Quit argument o = ReadsAlone argument command.Quit o
ReadsBy verb.Noop argument o = o ≡ command.Noop
ReadsBy verb.Vrfy argument o = o ≡ command.Vrfy
ReadsBy verb.Help argument o = o ≡ command.Help
ReadsBy verb.Helo argument o = o ≡ command.Refused reply.NotSmtp
ReadsBy verb.Ehlo argument o = o ≡ command.Refused reply.NotSmtp

record IsRead (line : List ℕ) (o : LmtpCommand) : Type 0 where
  word : LmtpVerb
  argument : List ℕ
  is : IsCommandLine line word argument
  reads : ReadsBy word argument o

abbrev Unread : List ℕ → LmtpCommand → Type 0
Unread line o = ((word : LmtpVerb) (argument : List ℕ) → IsCommandLine line word argument → ⊥) × (o ≡ command.Refused reply.UnknownCommand)

as_read : (line : List ℕ) (o : LmtpCommand) (word : LmtpVerb) (argument : List ℕ) → IsCommandLine line word argument → ReadsBy word argument o → Unread line o ⊎ IsRead line o
as_read line o word argument is reads = inr (record { word = word; argument = argument; is = is; reads = reads })

by_line : (line : List ℕ) (o : LmtpCommand) → ReadsLmtpCommand line o → Unread line o ⊎ IsRead line o
by_line line (command.Lhlo name) is = as_read line (command.Lhlo name) verb.Lhlo name.now is.0 (refl, is.1)
by_line line (command.Mail mail) is = as_read line (command.Mail mail) verb.Mail is.0 is.1 is.2
by_line line (command.Rcpt address) is = as_read line (command.Rcpt address) verb.Rcpt is.0 is.1 is.2
by_line line command.Data is = as_read line command.Data verb.Data is.0 is.1 (inl (is.2, refl))
by_line line command.Rset is = as_read line command.Rset verb.Rset is.0 is.1 (inl (is.2, refl))
by_line line command.Quit is = as_read line command.Quit verb.Quit is.0 is.1 (inl (is.2, refl))
by_line line command.Noop is = as_read line command.Noop verb.Noop is.0 is.1 refl
by_line line command.Vrfy is = as_read line command.Vrfy verb.Vrfy is.0 is.1 refl
by_line line command.Help is = as_read line command.Help verb.Help is.0 is.1 refl
by_line line (command.Refused reply.UnknownCommand) is = inl (is, refl)
by_line line (command.Refused reply.NotSmtp) (inl is) = as_read line (command.Refused reply.NotSmtp) verb.Helo is.0 is.1 refl
by_line line (command.Refused reply.NotSmtp) (inr is) = as_read line (command.Refused reply.NotSmtp) verb.Ehlo is.0 is.1 refl
by_line line (command.Refused reply.BadArgument) (inl is) = as_read line (command.Refused reply.BadArgument) verb.Lhlo is.0 is.1 is.2
by_line line (command.Refused reply.BadArgument) (inr (inl is)) = as_read line (command.Refused reply.BadArgument) verb.Data is.0 is.1 (inr (is.2, refl))
by_line line (command.Refused reply.BadArgument) (inr (inr (inl is))) = as_read line (command.Refused reply.BadArgument) verb.Rset is.0 is.1 (inr (is.2, refl))
by_line line (command.Refused reply.BadArgument) (inr (inr (inr (inl is)))) = as_read line (command.Refused reply.BadArgument) verb.Quit is.0 is.1 (inr (is.2, refl))
by_line line (command.Refused reply.BadArgument) (inr (inr (inr (inr (inl is))))) = as_read line (command.Refused reply.BadArgument) verb.Mail is.0 is.1 is.2
by_line line (command.Refused reply.BadArgument) (inr (inr (inr (inr (inr is))))) = as_read line (command.Refused reply.BadArgument) verb.Rcpt is.0 is.1 is.2
by_line line (command.Refused reply.BadSender) is = as_read line (command.Refused reply.BadSender) verb.Mail is.0 is.1 is.2
by_line line (command.Refused reply.BadRecipient) is = as_read line (command.Refused reply.BadRecipient) verb.Rcpt is.0 is.1 is.2
by_line line (command.Refused reply.BadParameter) (inl is) = as_read line (command.Refused reply.BadParameter) verb.Mail is.0 is.1 is.2
by_line line (command.Refused reply.BadParameter) (inr is) = as_read line (command.Refused reply.BadParameter) verb.Rcpt is.0 is.1 is.2
by_line line (command.Refused other) is = absurd is

-- ---- one turn

name_turn : (hello : List ℕ) (phase : DialoguePhase) (argument : List ℕ) (o : LmtpCommand) → ReadsName argument o
    → (Something argument × (command_turn hello phase o ≡ hello_turn hello)) ⊎ (Nothing argument × (command_turn hello phase o ≡ says reply.BadArgument phase))
name_turn hello phase argument (command.Lhlo name) is = inl (is.1, refl)
name_turn hello phase argument (command.Refused reply.BadArgument) is = inr (is, refl)
name_turn hello phase argument other is = absurd is

abbrev mail_by : DialoguePhase → Result AnnouncedMail ArgumentFault → LmtpTurn
mail_by phase (Ok mail) = mail_turn phase mail.from mail.size
mail_by phase (Err Syntax) = says reply.BadArgument phase
mail_by phase (Err Address) = says reply.BadSender phase
mail_by phase (Err Parameter) = says reply.BadParameter phase

sender_turn : (hello : List ℕ) (phase : DialoguePhase) (argument : List ℕ) (o : LmtpCommand) → ReadsSender argument o
    → (r : Result AnnouncedMail ArgumentFault) × ReadsMail argument r × (command_turn hello phase o ≡ mail_by phase r)
sender_turn hello phase argument (command.Mail mail) is = (Ok (record { from = mail.from.now; size = mail.size }), is, refl)
sender_turn hello phase argument (command.Refused reply.BadArgument) is = (Err Syntax, is, refl)
sender_turn hello phase argument (command.Refused reply.BadSender) is = (Err Address, is, refl)
sender_turn hello phase argument (command.Refused reply.BadParameter) is = (Err Parameter, is, refl)
sender_turn hello phase argument other is = absurd is

abbrev rcpt_by : DialoguePhase → Result (List ℕ) ArgumentFault → LmtpTurn
rcpt_by phase (Ok address) = rcpt_turn phase address
rcpt_by phase (Err Syntax) = says reply.BadArgument phase
rcpt_by phase (Err Address) = says reply.BadRecipient phase
rcpt_by phase (Err Parameter) = says reply.BadParameter phase

target_turn : (hello : List ℕ) (phase : DialoguePhase) (argument : List ℕ) (o : LmtpCommand) → ReadsTarget argument o
    → (r : Result (List ℕ) ArgumentFault) × ReadsRecipient argument r × (command_turn hello phase o ≡ rcpt_by phase r)
target_turn hello phase argument (command.Rcpt address) is = (Ok address.now, is, refl)
target_turn hello phase argument (command.Refused reply.BadArgument) is = (Err Syntax, is, refl)
target_turn hello phase argument (command.Refused reply.BadRecipient) is = (Err Address, is, refl)
target_turn hello phase argument (command.Refused reply.BadParameter) is = (Err Parameter, is, refl)
target_turn hello phase argument other is = absurd is

one_alone : (argument : List ℕ) (wanted o p : LmtpCommand) → ReadsAlone argument wanted o → ReadsAlone argument wanted p → o ≡ p
one_alone argument wanted o p (inl first) (inl second) = first.1 ∙ sym second.1
one_alone argument wanted o p (inl first) (inr second) = absurd (second.0 first.0)
one_alone argument wanted o p (inr first) (inl second) = absurd (first.0 second.0)
one_alone argument wanted o p (inr first) (inr second) = first.1 ∙ sym second.1

one_by_word : (hello : List ℕ) (phase : DialoguePhase) (word : LmtpVerb) (argument : List ℕ) (o p : LmtpCommand) → ReadsBy word argument o → ReadsBy word argument p
    → command_turn hello phase o ≡ command_turn hello phase p
one_by_word hello phase verb.Lhlo argument o p first second = elim (name_turn hello phase argument o first) [
  | inl a ↦ elim (name_turn hello phase argument p second) [ inl b ↦ a.1 ∙ sym b.1 | inr b ↦ absurd (a.0 b.0) ]
  | inr a ↦ elim (name_turn hello phase argument p second) [ inl b ↦ absurd (b.0 a.0) | inr b ↦ a.1 ∙ sym b.1 ]
]
one_by_word hello phase verb.Mail argument o p first second =
    let a = sender_turn hello phase argument o first in
    let b = sender_turn hello phase argument p second in
    a.2 ∙ (ap (mail_by phase) (one_mail argument a.0 b.0 a.1 b.1) ∙ sym b.2)
one_by_word hello phase verb.Rcpt argument o p first second =
    let a = target_turn hello phase argument o first in
    let b = target_turn hello phase argument p second in
    a.2 ∙ (ap (rcpt_by phase) (one_recipient argument a.0 b.0 a.1 b.1) ∙ sym b.2)
one_by_word hello phase verb.Data argument o p first second = ap (command_turn hello phase) (one_alone argument command.Data o p first second)
one_by_word hello phase verb.Rset argument o p first second = ap (command_turn hello phase) (one_alone argument command.Rset o p first second)
one_by_word hello phase verb.Quit argument o p first second = ap (command_turn hello phase) (one_alone argument command.Quit o p first second)
one_by_word hello phase verb.Noop argument o p first second = ap (command_turn hello phase) (first ∙ sym second)
one_by_word hello phase verb.Vrfy argument o p first second = ap (command_turn hello phase) (first ∙ sym second)
one_by_word hello phase verb.Help argument o p first second = ap (command_turn hello phase) (first ∙ sym second)
one_by_word hello phase verb.Helo argument o p first second = ap (command_turn hello phase) (first ∙ sym second)
one_by_word hello phase verb.Ehlo argument o p first second = ap (command_turn hello phase) (first ∙ sym second)

one_order : (hello : List ℕ) (phase : DialoguePhase) (line : List ℕ) (o p : LmtpCommand) → ReadsLmtpCommand line o → ReadsLmtpCommand line p → command_turn hello phase o ≡ command_turn hello phase p
one_order hello phase line o p first second = elim (by_line line o first) [
  | inl a ↦ elim (by_line line p second) [
    | inl b ↦ ap (command_turn hello phase) (a.1 ∙ sym b.1)
    | inr b ↦ absurd (a.0 b.word b.argument b.is)
  ]
  | inr a ↦ elim (by_line line p second) [
    | inl b ↦ absurd (b.0 a.word a.argument a.is)
    | inr b ↦
        let both = one_command line a.word b.word a.argument b.argument a.is b.is in
        one_by_word hello phase b.word b.argument o p
        (subst (λ x. ReadsBy b.word x o) both.1 (subst (λ w. ReadsBy w a.argument o) both.0 a.reads)) b.reads
  ]
]

-- ---- the size that is announced

abbrev size_in : Result AnnouncedMail ArgumentFault → Option ℕ
size_in (Ok mail) = mail.size
size_in (Err fault) = None

sender_size : (argument : List ℕ) (o : LmtpCommand) → ReadsSender argument o → (r : Result AnnouncedMail ArgumentFault) × ReadsMail argument r × (announced_size o ≡ size_in r)
sender_size argument (command.Mail mail) is = (Ok (record { from = mail.from.now; size = mail.size }), is, refl)
sender_size argument (command.Refused reply.BadArgument) is = (Err Syntax, is, refl)
sender_size argument (command.Refused reply.BadSender) is = (Err Address, is, refl)
sender_size argument (command.Refused reply.BadParameter) is = (Err Parameter, is, refl)
sender_size argument other is = absurd is

name_size : (argument : List ℕ) (o : LmtpCommand) → ReadsName argument o → announced_size o ≡ None
name_size argument (command.Lhlo name) is = refl
name_size argument (command.Refused reply.BadArgument) is = refl
name_size argument other is = absurd is

target_size : (argument : List ℕ) (o : LmtpCommand) → ReadsTarget argument o → announced_size o ≡ None
target_size argument (command.Rcpt address) is = refl
target_size argument (command.Refused reply.BadArgument) is = refl
target_size argument (command.Refused reply.BadRecipient) is = refl
target_size argument (command.Refused reply.BadParameter) is = refl
target_size argument other is = absurd is

size_by_word : (word : LmtpVerb) (argument : List ℕ) (o p : LmtpCommand) → ReadsBy word argument o → ReadsBy word argument p → announced_size o ≡ announced_size p
size_by_word verb.Lhlo argument o p first second = name_size argument o first ∙ sym (name_size argument p second)
size_by_word verb.Mail argument o p first second =
    let a = sender_size argument o first in
    let b = sender_size argument p second in
    a.2 ∙ (ap size_in (one_mail argument a.0 b.0 a.1 b.1) ∙ sym b.2)
size_by_word verb.Rcpt argument o p first second = target_size argument o first ∙ sym (target_size argument p second)
size_by_word verb.Data argument o p first second = ap announced_size (one_alone argument command.Data o p first second)
size_by_word verb.Rset argument o p first second = ap announced_size (one_alone argument command.Rset o p first second)
size_by_word verb.Quit argument o p first second = ap announced_size (one_alone argument command.Quit o p first second)
size_by_word verb.Noop argument o p first second = ap announced_size (first ∙ sym second)
size_by_word verb.Vrfy argument o p first second = ap announced_size (first ∙ sym second)
size_by_word verb.Help argument o p first second = ap announced_size (first ∙ sym second)
size_by_word verb.Helo argument o p first second = ap announced_size (first ∙ sym second)
size_by_word verb.Ehlo argument o p first second = ap announced_size (first ∙ sym second)

pub one_size : (line : List ℕ) (o p : LmtpCommand) → ReadsLmtpCommand line o → ReadsLmtpCommand line p → announced_size o ≡ announced_size p
one_size line o p first second = elim (by_line line o first) [
  | inl a ↦ elim (by_line line p second) [
    | inl b ↦ ap announced_size (a.1 ∙ sym b.1)
    | inr b ↦ absurd (a.0 b.word b.argument b.is)
  ]
  | inr a ↦ elim (by_line line p second) [
    | inl b ↦ absurd (b.0 a.word a.argument a.is)
    | inr b ↦
        let both = one_command line a.word b.word a.argument b.argument a.is b.is in
        size_by_word b.word b.argument o p (subst (λ x. ReadsBy b.word x o) both.1 (subst (λ w. ReadsBy w a.argument o) both.0 a.reads)) b.reads
  ]
]

one_turn : (hello : List ℕ) (phase : DialoguePhase) (item : Item) (s t : LmtpTurn) → IsLineTurn hello phase item s → IsLineTurn hello phase item t → s ≡ t
one_turn hello phase (Command line) s t first second = first.2 ∙ (one_order hello phase line first.0 second.0 first.1 second.1 ∙ sym second.2)
one_turn hello phase LongLine s t first second = first ∙ sym second
one_turn hello phase (Message text) s t first second = absurd first

pub one_answer : (hello : List ℕ) (d e f : Dialogue) (said other : List ℕ) → DialogueAnswers hello d said e → DialogueAnswers hello d other f → (said ≡ other) × (e ≡ f)
one_answer hello d e f said other first second =
    let item = one_item d first.item second.item first.rest second.rest first.first second.first in
    let turn : first.turn ≡ second.turn =
    one_turn hello d.phase second.item first.turn second.turn (subst (λ i. IsLineTurn hello d.phase i first.turn) item.0 first.takes) second.takes in (
      first.told ∙ (ap (λ x. (let t : LmtpTurn = x in t.said)) turn ∙ sym second.told),
      first.leaves ∙ (ap (λ x. (let t : LmtpTurn = x in let g : Dialogue = record { phase = t.phase; unread = first.rest } in g)) turn
          ∙ (ap (λ r. (let g : Dialogue = record { phase = second.turn.phase; unread = r } in g)) item.1 ∙ sym second.leaves)),
    )

pub answers_stand : AnswersStand
answers_stand = record { one = one_answer; line = line_stays; lookup = lookup_stays; outcome = outcome_stays }
