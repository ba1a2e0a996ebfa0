-- Right cases of the definitions, and near misses.
use Rattle.std.proofs.Common.{◌≡◌, ◌∙◌, inl, inr, ℕ, ◌+◌, true, false, List, [], ◌∷◌, Option, Some, None, codes, refl, sym, arith}
use Rattle.mail_head.specs.Heads.{body_start}
use Rattle.lmtp_dialogue.specs.Dialogues.{Asking}
use Rattle.lmtp_dialogue.specs.Replies.{lmtp_line_of, first_octet}
use Rattle.lmtp_dialogue.specs.declared.name.Names.TheVariants.{Local}
use Rattle.lmtp_dialogue.specs.declared.receiver.Lookup.TheVariants.{Known, Unknown, Away}
use Rattle.lmtp_dialogue.specs.declared.reply.LmtpReply.TheVariants.{NoSuchUser, NoRoom, StoreAway}
use Rattle.lmtp_connections.specs.Connections.{LmtpState, LookupFinds, IsFinding, IsNewDelivery, IsDeliveryDue, IsReplyOwed, LmtpGoes, Gathered, BecomesWithoutStore, TooLarge, Lacked, Again, LongHeader, Circles, PutOff, IsDeliveryRequest, earlier, has_long_text_header, taken_with, next_form}
use Rattle.lmtp_connections.specs.Progress.{new_progress, MayAskStore, HasWaited, progress_done}
use Rattle.lmtp_connections.specs.declared.addressee.Addressee.{Addressee}
use Rattle.lmtp_dialogue.specs.declared.recipient_reply.RecipientReply.{RecipientReply}
use Rattle.lmtp_dialogue.specs.declared.recipient_reply.RecipientReply.TheVariants.{Refused}
use Rattle.lmtp_connections.specs.declared.demand.DeliveryRequest.{DeliveryRequest}
use Rattle.lmtp_connections.specs.declared.progress.LmtpProgress.{LmtpProgress}
use Rattle.lmtp_connections.specs.declared.progress.StoreWait.TheVariants.{Nothing, Store}

-- ---- the store's absence, in milliseconds

-- it was away for 40 seconds at one recipient, and is for 20 at the next
abbrev waiting : ℕ → LmtpProgress
waiting since = record { tried = 0; told = 1; waits = Store since (since + 5); spent = 40000; since = 0; claim_since = 0 }

put_off_then : HasWaited 120000 (waiting 100000)
put_off_then = omega arith

-- near misses: a moment before; and one who didn't wait for it
asked_for_before : MayAskStore 119999 (waiting 100000)
asked_for_before = omega arith

not_unasked : HasWaited 120000 (new_progress 0) → ⊥
not_unasked is = omega (arith, is)

-- ---- a recipient's account

abbrev asking : ℕ → LmtpState
asking tried = record {
  names = Local;
  hello = [];
  dialogue = record { phase = Asking (codes "s@x") [] (codes "Ann+b@x"); unread = [] };
  addressees = [];
  progress = record { tried = tried; told = 0; waits = Nothing; spent = 0; since = 0; claim_since = 0 };
}

-- where another form is left nothing is said
tried_on : (others : List (List ℕ)) → LookupFinds 7 (asking 0) (codes "Ann+b@x") (codes "Ann+b") (codes "ann+b" ∷ others) Unknown [] (record (asking 0) { progress = next_form (progress_done 7 (asking 0).progress) })
tried_on others = (refl, refl)

-- near misses: 550 where another form is left; the store's absence told as what was found
not_unknown_to_all : (p q : LmtpState) (address user next : List ℕ) (others : List (List ℕ)) → LookupFinds 7 p address user (next ∷ others) Unknown (lmtp_line_of NoSuchUser) q → ⊥
not_unknown_to_all p q address user next others is = let never : lmtp_line_of NoSuchUser ≡ [] = is.0 in cc

absence_is_no_finding : IsFinding Away → ⊥
absence_is_no_finding is = is

-- the account is the one of the name that was known
taken_by_that_name : taken_with Known (codes "ann") (codes "Ann+b@x") [] ≡ record { user = codes "ann"; address = codes "Ann+b@x"; became = None } ∷ []
taken_by_that_name = refl

-- ---- a reply behind the text

-- of a message that may be brought nothing becomes without the store, but for lack of memory: so no 250 is made up, and no 550
nothing_without_the_store : (now : ℕ) (p : LmtpState) (before : List Addressee) (it : Addressee) (text : List ℕ) (became : RecipientReply) → IsNewDelivery before it text → MayAskStore now p.progress
    → BecomesWithoutStore now p before it text became → became ≡ Refused NoRoom
nothing_without_the_store now p before it text became new may (TooLarge large is) = absurd (omega (arith, large, new.small))
nothing_without_the_store now p before it text became new may (Lacked is) = is
nothing_without_the_store now p before it text became new may (Again there) = absurd (let never : None ≡ Some became = sym new.once ∙ there in cc)
nothing_without_the_store now p before it text became new may (LongHeader large is) = absurd (let never : true ≡ false = sym large ∙ new.headed in cc)
nothing_without_the_store now p before it text became new may (Circles circles is) = absurd (let never : true ≡ false = sym circles ∙ new.straight in cc)
nothing_without_the_store now p before it text became new may (PutOff again has is) = absurd (omega (arith, has, may))

-- a header ends behind its empty line; without one all of the text is header
headers : (body_start (codes "a: b\r\n\r\nc") ≡ 8) × (body_start (codes "a: b\r\nc") ≡ 7)
headers = (refl, refl)

-- one of 1,046,376 octets is taken, and one more is too many
longest_header : (text : List ℕ) → body_start text ≡ 1046376 → has_long_text_header text ≡ false
longest_header text is = rw is refl

too_long_header : (text : List ℕ) → body_start text ≡ 1046377 → has_long_text_header text ≡ true
too_long_header text is = rw is refl

-- for the same account and address nothing is brought twice
not_twice : (p : LmtpState) (other it : Addressee) (after : List Addressee) (text : List ℕ) (request : DeliveryRequest) (became : RecipientReply) → earlier (other ∷ []) it ≡ Some became
    → IsDeliveryRequest p (other ∷ []) it after text request → ⊥
not_twice p other it after text request became there is = let never : None ≡ Some became = sym is.new.once ∙ there in cc

-- and once something became of it nothing is brought again, and that is what is told: no 452 for want of memory, though its text was dropped since
not_brought_again : (p : LmtpState) (before after : List Addressee) (it : Addressee) (sender text : List ℕ) (became : RecipientReply) → it.became ≡ Some became → IsDeliveryDue p before it after sender text → ⊥
not_brought_again p before after it sender text became there is = let never : None ≡ Some became = sym is.new.fresh ∙ there in cc

told_what_became : (now : ℕ) (p : LmtpState) (before : List Addressee) (it : Addressee) (text : List ℕ) (became told : RecipientReply) → it.became ≡ Some became → IsReplyOwed now p before it text told → told ≡ became
told_what_became now p before it text became told there (inl is) = let same : Some told ≡ Some became = sym is ∙ there in cc
told_what_became now p before it text became told there (inr other) = absurd (let never : None ≡ Some became = sym other.0 ∙ there in cc)

-- near miss: a reply in the step that gathers, so before the store was given the message
not_answered_first : (now : ℕ) (p q : LmtpState) (said : List ℕ) → LmtpGoes now p Gathered said q → said ≡ []
not_answered_first now p q said goes = goes.2

abbrev ann : Option RecipientReply → Addressee
ann became = record { user = codes "ann"; address = codes "ann@x"; became = became }

told_again : (became : RecipientReply) → earlier (ann (Some became) ∷ []) (ann None) ≡ Some became
told_again became = refl

-- near miss: another address of the same account is another recipient
not_the_same : (became : RecipientReply) → earlier (record { user = codes "ann"; address = codes "ann+b@x"; became = Some became } ∷ []) (ann None) ≡ None
not_the_same became = refl

-- near misses: brought to another form of the name; sender and recipient swapped
abbrev swapped : List ℕ → DeliveryRequest
swapped message = record { user = codes "ann"; sender = codes "ann@x"; recipient = codes "s@x"; message = message }

not_to_another : (p : LmtpState) (before after : List Addressee) (text : List ℕ) (request : DeliveryRequest) → IsDeliveryRequest p before (ann None) after text request → request.user ≡ codes "Ann" → ⊥
not_to_another p before after text request is user = let never : codes "ann" ≡ codes "Ann" = sym is.user ∙ user in cc

not_swapped : (p : LmtpState) (before after : List Addressee) (text message : List ℕ) → IsDeliveryRequest p before (ann None) after text (swapped message) → ⊥
not_swapped p before after text message is = let never : codes "s@x" ≡ codes "ann@x" = is.recipient in cc

-- a fault of the host is told so that the mail stays: its code begins with 4
put_off_is_no_refusal : first_octet (lmtp_line_of StoreAway) ≡ 52
put_off_is_no_refusal = refl
