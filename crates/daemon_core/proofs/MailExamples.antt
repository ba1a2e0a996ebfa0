-- Right cases of the definitions on clients of LMTP, and near misses.
use Rattle.std.proofs.Common.{◌≡◌, ◌+◌, ◌<◌, ◌≤◌, inl, inr, ℕ, List, [], ◌∷◌, Option, Some, None, IfSome, codes, refl, sym, ◌∙◌, ap, subst, arith}
use Rattle.std.specs.FinMap.{get}
use Rattle.lmtp_dialogue.specs.Receivers.{held_by}
use Rattle.lmtp_dialogue.specs.Replies.{lmtp_greeting}
use Rattle.lmtp_dialogue.specs.declared.name.Names.{Names}
use Rattle.lmtp_dialogue.specs.declared.receiver.Lookup.TheVariants.{Unknown}
use Rattle.lmtp_dialogue.specs.declared.reply.LmtpReply.TheVariants.{NoSuchUser, LocalFault, BadSender}
use Rattle.lmtp_connections.specs.Connections.{LmtpStep, Away, Declined}
use Rattle.lmtp_connections.specs.declared.connection.LmtpConnection.{LmtpConnection}
use Rattle.lmtp_dialogue.specs.declared.recipient_reply.RecipientReply.TheVariants.{Delivered, Refused}
use Rattle.store_accounts.specs.Account.{Account, known_one}
use Rattle.store_accounts.specs.declared.refusal.Refusal.TheVariants.{NoUser, Store, BadEnvelope}
use Rattle.store_engine.specs.World.{World, Runs}
use Rattle.store_engine.specs.declared.answer.Answer.{Answer}
use Rattle.store_engine.specs.declared.answer.Answer.TheVariants as answer
use Rattle.store_engine.specs.declared.event.Event.TheVariants.{Step, Deliver}
use Rattle.net_loop.specs.Life.{IsPrefixOf}
use Rattle.net_loop.specs.declared.act.Act.{Act}
use Rattle.net_loop.specs.declared.act.Act.TheVariants.{Came, Sent}
use Rattle.daemon_core.specs.Acts.{LeadsBy}
use Rattle.daemon_core.specs.Bounds.{unread_of, held, bound, own, unauthenticated_held, share, IsUnauthenticatedAt}
use Rattle.daemon_core.specs.MailRules.{lmtp_connection_at, HasOctetRoom, KeepsText, Fits, FitsAs}
use Rattle.daemon_core.specs.ClientStates.{client_at}
use Rattle.daemon_core.specs.declared.client_state.Fit.TheVariants as fit
use Rattle.daemon_core.proofs.SumLemmas.{full_connection}
use Rattle.daemon_core.specs.declared.mail.MailDaemon.{MailDaemon}
use Rattle.daemon_core.specs.LmtpSteps.{IsLmtpStep, IsDeliveryReply, one_line, refusal_reply}
use Rattle.daemon_core.specs.MailActs.{MailLine, new_mail, sent_more, TellsOn}
use Rattle.daemon_core.specs.declared.note.Note.{Note}
use Rattle.daemon_core.specs.declared.note.Note.TheVariants as note

-- ---- what a recipient is told

in_one_line : one_line (codes "file INBOX\nvacation quiet 8\n") ≡ codes "file INBOX, vacation quiet 8"
in_one_line = refl

put_off_for_a_fault : IsDeliveryReply [] (answer.Refused Store) (Refused LocalFault)
put_off_for_a_fault = refl

of_a_bad_sender : refusal_reply (codes "a\nb") BadEnvelope ≡ BadSender
of_a_bad_sender = refl

-- near misses: a delivery that was refused is told as made; one for which the host is to blame bounces
not_as_made : (report : List ℕ) → IsDeliveryReply [] (answer.Refused NoUser) (Delivered report) → ⊥
not_as_made report is = cc

not_bounced : IsDeliveryReply [] (answer.Refused Store) (Refused NoSuchUser) → ⊥
not_bounced is = let never : Refused NoSuchUser ≡ Refused LocalFault = is in cc

-- ---- what a note tells

away_is : IsLmtpStep note.Away Away
away_is = refl

-- near misses: the step of a session is no step for a client of LMTP, nor is an event that asks no store
not_a_step : (told : Answer) (lmtp_step : LmtpStep) → IsLmtpStep (note.Did [] (Step 1) told) lmtp_step → ⊥
not_a_step told lmtp_step is = let never : Step 1 ≡ Deliver is.0.user (record { from = is.0.sender; to = is.0.recipient }) is.0.message is.1 = is.3 in cc

not_freed : (told : Answer) (lmtp_step : LmtpStep) → IsLmtpStep (note.Freed (Step 1) told) lmtp_step → ⊥
not_freed told lmtp_step is = is

-- ---- what was found of an account

-- near misses: there is none, though there is one; there is one, though there is none
unknown_to_all : (w v : World) (user : List ℕ) (a : Account) → known_one (get w.accounts user) ≡ Some a → LeadsBy w (note.Asked [] user Unknown) v → ⊥
unknown_to_all w v user a there led = by led.told led.theirs
  where
    by : (told : List Answer) → Runs w [] told v → ⊥
    by [] run = let never : None ≡ Some a = sym led.found ∙ ap (λ (x : World). known_one (get x.accounts user)) run ∙ there in cc
    by (told ∷ more) run = run

-- ---- what is sent

abbrev first_of : List ℕ → ℕ
first_of [] = 0
first_of (octet ∷ octets) = octet

abbrev unasked : List (Act Note)
unasked = Came 1 1 ∷ Sent 1 (53 ∷ []) ∷ []

-- near miss: octets that nothing spells
not_unspelled : (names : Names) (host : List ℕ) (o : Option MailLine) → TellsOn names host 1 0 None unasked o → IfSome o (λ l. IsPrefixOf l.sent l.spelled) → ⊥
not_unspelled names host o told front = by told.0 told.1 told.2
  where
    by : (mid : Option MailLine) → mid ≡ Some (new_mail names host 0) → TellsOn names host 1 0 mid (Sent 1 (53 ∷ []) ∷ []) o → ⊥
    by None came then = let never : ◌≡◌ {A = Option MailLine} None (Some (new_mail names host 0)) = came in cc
    by (Some l) came then =
        let one : l ≡ new_mail names host 0 = cc in
        let is : o ≡ Some (sent_more (53 ∷ []) (new_mail names host 0)) = then.2 ∙ then.1.2 ∙ ap (λ (k : MailLine). Some k) (then.1.1 ∙ ap (sent_more (53 ∷ [])) one) in
        let sent : IsPrefixOf (53 ∷ []) (lmtp_greeting host) = subst (λ (x : Option MailLine). IfSome x (λ l. IsPrefixOf l.sent l.spelled)) is front in
        let first : 53 ≡ 50 = ap first_of sent.1 in omega (arith, first)

-- ---- room

-- where there is room for the octets that come no text is dropped for them
kept_where_it_fits : (d e : MailDaemon) (id count : ℕ) → held d + count ≤ bound d → KeepsText d id count e → e ≡ d
kept_where_it_fits d e id count fits (inl is) = is.1
kept_where_it_fits d e id count fits (inr is) = absurd (omega (arith, fits, is.0.all))

-- near misses: octets fit with which all hold more than they may, or all that aren't logged in, and their client more than each may
not_over : (d : MailDaemon) (id count : ℕ) → bound d < held d + count → own < unread_of (client_at d.daemon.clients.sessions id) + count → FitsAs d id count fit.Fits → ⊥
not_over d id count over more (inl keeps) = omega (arith, over, keeps.all)
not_over d id count over more (inr small) = omega (arith, more, small)

no_unauthenticated_over : (d : MailDaemon) (id count : ℕ) → IsUnauthenticatedAt d id → share d < unauthenticated_held d + count → own < unread_of (client_at d.daemon.clients.sessions id) + count → FitsAs d id count fit.Fits → ⊥
no_unauthenticated_over d id count unauthenticated over more (inl keeps) = omega (arith, over, keeps.unauthenticated_held unauthenticated)
no_unauthenticated_over d id count unauthenticated over more (inr small) = omega (arith, more, small)

no_text_over : (d e : MailDaemon) (id count : ℕ) (connection : LmtpConnection) → lmtp_connection_at e id ≡ Some connection → bound e < held e + count → own < held_by connection.receiver + count → Fits d id count e → ⊥
no_text_over d e id count connection at over more fits = by fits.room
  where
    by : HasOctetRoom e id count → ⊥
    by (inl room) = omega (arith, over, room)
    by (inr its) = omega (arith, more, its.2, ap full_connection (sym at ∙ its.1))

-- a MAIL is told as answered, and what it lacked is one number
refused_for : IsLmtpStep note.Answered (Declined 1000)
refused_for = inr (1000, refl)
