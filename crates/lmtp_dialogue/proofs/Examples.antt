-- What the definitions say of a few lines and texts, and of what is near them.
use Rattle.std.proofs.Common.{◌≡◌, true, false, [], ◌∷◌, ◌++◌, inl, inr, refl, codes, arith}
use Rattle.lmtp_dialogue.specs.Commands.{IsSameWord, verb_word, argument_in}
use Rattle.lmtp_dialogue.specs.Lines.{line_end}
use Rattle.lmtp_dialogue.specs.Paths.{IsPathAddress, is_unquoted_octet, is_quoted_octet}
use Rattle.lmtp_dialogue.specs.RecipientReplies.{recipient_lines}
use Rattle.lmtp_dialogue.specs.Texts.{text_state_after, text_after}
use Rattle.lmtp_dialogue.specs.declared.message_text.TextState.TheVariants.{Start, DotReturn, Inside, Ended}
use Rattle.lmtp_dialogue.specs.declared.recipient_reply.RecipientReply.TheVariants.{Delivered, Refused}
use Rattle.lmtp_dialogue.specs.declared.reply.LmtpReply.TheVariants.{NoSuchUser}
use Rattle.lmtp_dialogue.specs.declared.verb.LmtpVerb.TheVariants.{Lhlo}

-- ---- texts

-- `a` CRLF `.` CRLF ends, and is `a` CRLF
ends : text_state_after Start (97 ∷ 13 ∷ 10 ∷ 46 ∷ 13 ∷ 10 ∷ []) ≡ Ended
ends = refl

text : text_after Start (97 ∷ 13 ∷ 10 ∷ 46 ∷ 13 ∷ 10 ∷ []) ≡ 97 ∷ 13 ∷ 10 ∷ []
text = refl

-- its first CRLF may be that of DATA
empty : text_state_after Start (46 ∷ 13 ∷ 10 ∷ []) ≡ Ended
empty = refl

-- a dot in front of a line is taken off, one alone
dotted : text_after Start (46 ∷ 46 ∷ 120 ∷ 13 ∷ 10 ∷ 46 ∷ 13 ∷ 10 ∷ []) ≡ 46 ∷ 120 ∷ 13 ∷ 10 ∷ []
dotted = refl

-- near misses: a dot between LFs, behind an LF, before an LF, and a dot and a CR alone end nothing
between_feeds : text_state_after Start (97 ∷ 10 ∷ 46 ∷ 10 ∷ []) ≡ Inside
between_feeds = refl

behind_feed : text_state_after Start (97 ∷ 10 ∷ 46 ∷ 13 ∷ 10 ∷ []) ≡ Start
behind_feed = refl

before_feed : text_state_after Start (97 ∷ 13 ∷ 10 ∷ 46 ∷ 10 ∷ []) ≡ Inside
before_feed = refl

return_alone : text_state_after Start (46 ∷ 13 ∷ []) ≡ DotReturn
return_alone = refl

-- a CR behind such a dot is of the text, where no LF follows
kept_return : text_after Start (46 ∷ 13 ∷ 97 ∷ []) ≡ 13 ∷ 97 ∷ []
kept_return = refl

-- ---- words and arguments

any_case : IsSameWord (verb_word Lhlo) (codes "lHLo")
any_case = refl

another : IsSameWord (verb_word Lhlo) (codes "EHLO") → ⊥
another same = absurd (grind (arith, same))

argument : argument_in (codes "  FROM:<a@b> ") ≡ codes "FROM:<a@b>"
argument = refl

-- ---- addresses

bare : IsPathAddress (codes "a@b")
bare = inr (refl, inr (refl, inr (refl, tt)))

quoted : IsPathAddress (codes "\"a >\"@b")
quoted = inl (refl, inr (inr (refl, inr (inr (refl, inr (inr (refl, inl (refl, inr (refl, inr (refl, tt))))))))))

-- near misses: a space and a bracket outside quotation marks
space : is_unquoted_octet 32 ≡ false
space = refl

bracket : is_unquoted_octet 62 ≡ false
bracket = refl

-- an octet over 127 stands there, DEL doesn't
wide : is_unquoted_octet 195 ≡ true
wide = refl

delete : is_quoted_octet 127 ≡ false
delete = refl

-- ---- what a recipient is told

-- a report stands behind both codes, and a refusal is its fixed line
reported : recipient_lines (Delivered (codes "file INBOX")) ≡ codes "250 2.1.5 file INBOX" ++ line_end
reported = refl

refused : recipient_lines (Refused NoSuchUser) ≡ codes "550 5.1.1 No such user" ++ line_end
refused = refl

-- near miss: `a` CRLF `5` as a report makes no second line
no_second_line : recipient_lines (Delivered (97 ∷ 13 ∷ 10 ∷ 53 ∷ [])) ≡ codes "250 2.1.5 a??5" ++ line_end
no_second_line = refl
