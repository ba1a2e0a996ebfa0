-- The definitions on small cases: what is right, and beside it what nearly is.
use Rattle.std.proofs.Common.{◌≡◌, ℕ, ◌≤◌, true, false, List, [], ◌∷◌, ◌++◌, codes, length, Option, Some, None, IsSome, refl, sym, ap, ◌∙◌, subst, inl, inr, arith}
use Rattle.std.specs.FinMap.{get, get-empty}
use Rattle.std.specs.Str.{chars}
use Rattle.std.proofs.lemmas.Bool.{false≢true}
use Rattle.managesieve_protocol.specs.declared.commands.ClientCommand.TheVariants.{Noop, Logout, Authenticate, Unauthenticate, HaveSpace, PutScript, ListScripts, SetActive, GetScript, DeleteScript}
use Rattle.managesieve_protocol.specs.declared.replies.ServerReply.{ServerReply}
use Rattle.managesieve_protocol.specs.declared.replies.DataLine.TheVariants as line
use Rattle.managesieve_protocol.specs.declared.replies.ReplyCode.TheVariants.{MaxSize, MaxScripts}
use Rattle.managesieve_protocol.specs.declared.replies.Status.TheVariants.{Ok, No}
use Rattle.managesieve_protocol.specs.Machine.{rows}
use Rattle.managesieve_protocol.specs.Replies.{reply_octets}
use Rattle.store_accounts.specs.Account.{bytes_cmp, Account, Accounts, no_accounts, new_account, keeps_script, closes, open_one, open_account_of}
use Rattle.managesieve_sessions.specs.declared.progress.Progress.TheVariants.{Need, Done, Close}
use Rattle.managesieve_sessions.specs.declared.command_outcome.SessionChange.TheVariants.{Fail, LogOut}
use Rattle.managesieve_sessions.specs.Clients.{Client, new_client, is_ready, client_given, shut, challenged, without_first, reach_in}
use Rattle.managesieve_sessions.specs.Counts.{SessionView, new_session, given_more, greatest, looked_in, scanned_past}
use Rattle.managesieve_sessions.specs.declared.command_class.NamedCommand.TheVariants as named
use Rattle.managesieve_sessions.specs.declared.command_class.StoreCommand.TheVariants as order
use Rattle.managesieve_sessions.specs.declared.command_class.ScriptCommand.TheVariants as script
use Rattle.managesieve_sessions.specs.declared.command_class.CommandClass.TheVariants as sort
use Rattle.managesieve_sessions.specs.Decisions.{change_made_if}
use Rattle.managesieve_sessions.specs.GivenUp.{text_given_up, client_given_up, progress_given_up}
use Rattle.managesieve_sessions.specs.Limits.{IsScriptName}
use Rattle.managesieve_sessions.specs.Logins.{checked_by, login_reply, login_client, is_plain_mechanism, is_star, authenticate_reply, response_reply}
use Rattle.managesieve_sessions.specs.Replies.{ok_reply, negative_reply, bye_reply, listed, challenge_reply, done_reply, noop_reply, try_later, is_ok, capability_reply, owner_line}
use Rattle.managesieve_sessions.specs.Scripts.{RepliesTo, HasScript, absent, too_large, get_reply, list_reply, obeyed}
use Rattle.managesieve_sessions.specs.CommandClasses.{command_of_class, of_store_command}
use Rattle.managesieve_sessions.specs.Steps.{IsStep, progress_of, may_fail, may_lack}
use Rattle.managesieve_sessions.specs.Table.{is_early, early_reply, RepliesOf, RepliesIn, asked_client, client_in}
use Rattle.managesieve_sessions.specs.CommandOutcomes.{login_text, client_after}
use Rattle.sieve_syntax.specs.Capabilities.{offered_names}

-- with CRLF after it
abbrev end : List ℕ → List ℕ
end text = text ++ 13 ∷ 10 ∷ []

-- ---- clients

-- a new session to which these octets came
abbrev after : List ℕ → Client
after octets = record new_client { unread = octets }

piece_joins : client_given (codes "OP") (after (codes "NO")) ≡ after (codes "NOOP")
piece_joins = refl

piece_too_late : client_given (codes "OP") (shut (after (codes "NO"))) ≡ shut (after (codes "NO"))
piece_too_late = refl

-- an item is whole at its LF, and not before; in a closed session none is
whole : is_ready (after (end (codes "NOOP"))) ≡ true
unfolding rows
whole = refl

not_whole : is_ready (after (codes "NOOP" ++ 13 ∷ [])) ≡ false
unfolding rows
not_whole = refl

not_closed : is_ready (shut (after (end (codes "NOOP")))) ≡ false
not_closed = refl

-- what stands after the first item stays
one_off : without_first false (reach_in (after (end (codes "NOOP") ++ codes "NO"))) (after (end (codes "NOOP") ++ codes "NO")) ≡ after (codes "NO")
unfolding rows
one_off = refl

none_off : without_first true (reach_in (after (codes "NO"))) (after (codes "NO")) ≡ after (codes "NO")
unfolding rows
none_off = refl

-- ---- counts

abbrev given_to : List ℕ → SessionView
given_to octets = record { client = after octets; given = length octets; scanned = 0 }

-- of `NOOP` CRLF `NO` six octets are looked at, and two more once the item is taken off
six_looked : looked_in (given_to (end (codes "NOOP") ++ codes "NO")) ≡ 6
unfolding rows
six_looked = refl

six_past : scanned_past (given_to (end (codes "NOOP") ++ codes "NO")) ≡ 6
unfolding rows
six_past = refl

none_past : scanned_past (given_to (codes "NO")) ≡ 0
unfolding rows
none_past = refl

counted : given_more (codes "ab") new_session ≡ 2
counted = refl

-- a count stays at the greatest number of 64 bits
counted_out : given_more (codes "ab") (record new_session { given = greatest }) ≡ greatest
counted_out = refl

-- ---- replies

done_line : reply_octets done_reply ≡ end (codes "OK \"Done.\"")
done_line = refl

tagged_line : reply_octets (noop_reply (Some (codes "t"))) ≡ end (codes "OK (TAG \"t\") \"Done.\"")
tagged_line = refl

challenge_line : reply_octets challenge_reply ≡ end (codes "\"\"")
challenge_line = refl

later_line : reply_octets try_later ≡ end (codes "NO (TRYLATER) \"Try later.\"")
later_line = refl

greeting : reply_octets (capability_reply None)
    ≡ end (codes "\"IMPLEMENTATION\" \"sieved 1\"") ++ end (codes "\"SASL\" \"PLAIN\"") ++ end (codes "\"SIEVE\" \"" ++ offered_names ++ codes "\"")
    ++ end (codes "\"MAXREDIRECTS\" \"16\"") ++ end (codes "\"UNAUTHENTICATE\"") ++ end (codes "\"VERSION\" \"1.0\"") ++ end (codes "OK")
greeting = refl

-- the owner is named once someone is logged in
no_owner : owner_line None ≡ []
no_owner = refl

accepted_ok : is_ok (ok_reply []).word ≡ true
accepted_ok = refl

challenge_not_ok : is_ok challenge_reply.word ≡ false
challenge_not_ok = refl

-- ---- names

name_right : IsScriptName (codes "e")
unfolding chars lib.Utf8.encode
name_right = record { utf8 = (codes "e", (refl, refl)); present = omega arith; short = omega arith; allowed = refl }

name_empty : IsScriptName [] → ⊥
unfolding chars
name_empty n = let none : 1 ≤ 0 = n.present in absurd (omega arith)

name_with_delete : IsScriptName (97 ∷ 127 ∷ []) → ⊥
unfolding chars
name_with_delete n = let forbidden : true ≡ false = n.allowed in cc

-- ---- scripts

abbrev fresh : Account
fresh = new_account (codes "alice@example.org") (record { salt = []; rounds = 1; digest = [] })

not_there : (name : List ℕ) → HasScript fresh name → ⊥
not_there name there = false≢true (subst (λ (o : Option (List ℕ)). IsSome o) (get-empty bytes_cmp name) there)

none_active : RepliesTo fresh (SetActive []) done_reply
none_active = inl (inl refl, refl)

absent_active : RepliesTo fresh (SetActive (codes "x")) done_reply → ⊥
absent_active (inl (inl h, e)) = let no : codes "x" ≡ [] = h in cc
absent_active (inl (inr h, e)) = not_there (codes "x") h
absent_active (inr h) = false≢true (sym (ap (λ (r : ServerReply). is_ok r.word) h.1))

absent_deleted : RepliesTo fresh (DeleteScript (codes "x")) absent
absent_deleted = inr (not_there (codes "x"), refl)

absent_deleted_not : RepliesTo fresh (DeleteScript (codes "x")) done_reply → ⊥
absent_deleted_not (inl h) = not_there (codes "x") h.0
absent_deleted_not (inr h) = false≢true (sym (ap (λ (r : ServerReply). is_ok r.word) h.1))

-- 262,145 octets are too many, and 262,144 aren't
space_too_large : RepliesTo fresh (HaveSpace (codes "e") 262145) too_large
space_too_large = inl (name_right, inr ((λ le. omega (arith, le)), refl))

space_fits : RepliesTo fresh (HaveSpace (codes "e") 262144) too_large → ⊥
space_fits (inl (named, inl (small, inl h))) = false≢true (ap (λ (r : ServerReply). is_ok r.word) h.1)
space_fits (inl (named, inl (small, inr h))) = let no : Some MaxSize ≡ Some MaxScripts = ap (λ (r : ServerReply). r.code) h.1 in cc
space_fits (inl (named, inr h)) = h.0 (omega arith)
space_fits (inr h) = let no : Some MaxSize ≡ None = ap (λ (r : ServerReply). r.code) h.1 in cc

text_sent : get_reply (Some (codes "keep;")) ≡ listed (line.Text (codes "keep;") ∷ [])
text_sent = refl

text_absent : get_reply None ≡ absent
text_absent = refl

-- a script is stored where the answer is OK, and not where it is NO
stored : obeyed (PutScript (codes "e") []) (Some Ok) fresh ≡ keeps_script (codes "e") [] fresh
stored = refl

not_stored : obeyed (PutScript (codes "e") []) (Some No) fresh ≡ fresh
not_stored = refl

-- ---- logins

unknown_user : checked_by (codes "carol", codes "secret") None ≡ None
unknown_user = refl

second_failure : login_reply None 1 ≡ negative_reply None (codes "Authentication failed.")
second_failure = refl

third_failure : login_reply None 2 ≡ bye_reply (codes "Too many failures.")
third_failure = refl

counted_failure : login_client None (record new_client { failures = 1 }) ≡ record new_client { failures = 2 }
counted_failure = refl

last_failure : login_client None (record new_client { failures = 2 }) ≡ shut (record new_client { failures = 2 })
last_failure = refl

logged_in : login_client (Some (codes "alice")) (record new_client { failures = 2 }) ≡ record new_client { user = Some (codes "alice") }
logged_in = refl

plain_in_any_case : is_plain_mechanism (codes "Plain") ≡ true
plain_in_any_case = refl

no_plain : is_plain_mechanism (codes "PLAIN ") ≡ false
no_plain = refl

-- who is logged in already is told so before the mechanism is looked at
logged_in_first : authenticate_reply no_accounts (record new_client { user = Some [] }) (codes "x") None ≡ negative_reply None (codes "Already logged in.")
logged_in_first = refl

mechanism_next : authenticate_reply no_accounts new_client (codes "x") None ≡ negative_reply None (codes "Unknown mechanism.")
mechanism_next = refl

cancelled : response_reply no_accounts new_client (codes "*") ≡ negative_reply None (codes "Cancelled.")
cancelled = refl

-- two stars cancel nothing
not_cancelled : is_star (codes "**") ≡ false
not_cancelled = refl

-- a text is looked at by PLAIN alone, and not once someone is logged in
looked_at : login_text None (Authenticate (codes "PLAIN") (Some (codes "x"))) ≡ Some (codes "x")
looked_at = refl

not_looked_at : login_text (Some []) (Authenticate (codes "PLAIN") (Some (codes "x"))) ≡ None
not_looked_at = refl

-- ---- the table

early : is_early new_client ListScripts ≡ true
early = refl

not_early : is_early new_client (Noop None) ≡ false
not_early = refl

told_first : RepliesIn no_accounts new_client ListScripts (negative_reply None (codes "Log in first."))
told_first = refl

-- of a user without an account nothing is listed: the command is early
no_account : RepliesIn no_accounts (record new_client { user = Some [] }) ListScripts (listed []) → ⊥
no_account h =
    let none : get no_accounts [] ≡ None = get-empty bytes_cmp [] in
    let told : listed [] ≡ early_reply = rw none at h in
    false≢true (sym (ap (λ (r : ServerReply). is_ok r.word) told))

-- ---- an account that was closed

abbrev alice : List ℕ
alice = codes "alice"

-- alice is logged in
abbrev alices : Client
alices = record new_client { user = Some alice }

module _ (accounts : Accounts) (a : Account) (has : get accounts alice ≡ Some (closes a)) where
  gone : open_account_of accounts alice ≡ None
  gone = ap open_one has

  -- a session still logged in is told so at its next command about scripts, and is logged out
  closed_told : RepliesIn accounts alices ListScripts early_reply
  closed_told = subst (λ o. RepliesOf o ListScripts early_reply) (sym gone) refl

  closed_left : client_in accounts ListScripts alices ≡ new_client
  closed_left = ap (λ o. asked_client o alices) gone

  -- near misses: its scripts are listed; it stays logged in
  closed_listed : RepliesIn accounts alices ListScripts (list_reply a) → ⊥
  closed_listed h =
      let told : list_reply a ≡ early_reply = subst (λ o. RepliesOf o ListScripts (list_reply a)) gone h in
      false≢true (sym (ap (λ (r : ServerReply). is_ok r.word) told))

  closed_stays : client_in accounts ListScripts alices ≡ alices → ⊥
  closed_stays h = let no : None ≡ Some alice = ap (λ (c : Client). c.user) (sym closed_left ∙ h) in cc

  -- what looks at no account is answered as ever
  closed_noop : client_in accounts (Noop None) alices ≡ alices
  closed_noop = refl

  -- no password logs in
  closed_out : (password : List ℕ) → checked_by (alice, password) (open_account_of accounts alice) ≡ None
  closed_out password = ap (checked_by (alice, password)) gone

logged_out : client_in no_accounts Unauthenticate (record new_client { user = Some []; failures = 1 }) ≡ new_client
logged_out = refl

-- before a login it is early, and changes nothing
logged_out_early : client_in no_accounts Unauthenticate (record new_client { failures = 1 }) ≡ record new_client { failures = 1 }
logged_out_early = refl

ended : client_in no_accounts Logout new_client ≡ shut new_client
ended = refl

-- ---- steps

noop_step : IsStep no_accounts (after (end (codes "NOOP"))) Done (end (codes "OK \"Done.\"")) new_client no_accounts
unfolding rows
noop_step = record { reply = done_reply; replies = refl; spelled = refl; session = refl; goes_on = refl; changed = refl }

-- an item isn't left to stand
not_need : IsStep no_accounts (after (end (codes "NOOP"))) Need [] (after (end (codes "NOOP"))) no_accounts → ⊥
unfolding rows
not_need h = let same : Need ≡ Done = h.goes_on ∙ ap progress_of h.session in cc

half_step : IsStep no_accounts (after (codes "NO")) Need [] (after (codes "NO")) no_accounts
unfolding rows
half_step = (refl, refl, refl, refl)

closed_step : IsStep no_accounts (shut new_client) Close [] (shut new_client) no_accounts
closed_step = (refl, refl, refl, refl)

-- a step without an item is never refused, and NOOP never by the store
never_lacks : may_lack (after (codes "NO")) ≡ false
unfolding rows
never_lacks = refl

never_fails : may_fail (after (end (codes "NOOP"))) ≡ false
unfolding rows
never_fails = refl

may_fail_logged_in : may_fail (record (after (end (codes "LISTSCRIPTS"))) { user = Some [] }) ≡ true
unfolding rows
may_fail_logged_in = refl

-- ---- giving up

item_dropped : client_given_up (challenged (after (end (codes "\"*\"") ++ codes "NO"))) ≡ after (codes "NO")
unfolding rows
item_dropped = refl

nothing_dropped : text_given_up (after (codes "NOOP")) ≡ []
unfolding rows
nothing_dropped = refl

too_much : progress_given_up (after (end (codes "PUTSCRIPT \"a\" {1048577+}"))) ≡ Close
unfolding rows
too_much = refl

-- ---- decisions and turns

changes_nothing : change_made_if None fresh ≡ fresh
changes_nothing = refl

deletes : command_of_class (sort.Script (script.Named (named.DeleteScript []))) ≡ DeleteScript []
deletes = refl

gets : of_store_command (order.Script [] (script.Get [])) ≡ GetScript []
gets = refl

third_fail : client_after Fail (record new_client { failures = 2 }) ≡ shut (record new_client { failures = 2 })
third_fail = refl

left_so : client_after LogOut (record new_client { user = Some [] }) ≡ new_client
left_so = refl
