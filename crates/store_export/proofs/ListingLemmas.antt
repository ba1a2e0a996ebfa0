-- What was listed of an account.
use Rattle.std.proofs.Common.{◌≡◌, ◌++◌, ◌∙◌, ℕ, true, List, [], map, None, Some, option_map, slice_get, append_assoc, ap, refl, sym, subst, Ok, Err, Result, IfOk, OnOk}
use Rattle.std.specs.FinMap.{keys}
use Rattle.sqlite.specs.Effect.{Database}
use Rattle.sqlite_keyed.proofs.ListLemmas.{map-map}
use Rattle.store_text.specs.Text.{IsHead}
use Rattle.store_text.specs.declared.head.AccountHead.{AccountHead as TextHead}
use Rattle.store_tables.specs.Rows.{Tables, HoldsTables}
use Rattle.store_tables.specs.Schema.{mail_schema}
use Rattle.store_accounts.specs.declared.account.Counters.{Counters}
use Rattle.store_accounts.specs.declared.filing.Filing.{Filing}
use Rattle.store_accounts.specs.declared.queued_envelope.QueuedEnvelope.{QueuedEnvelope}
use Rattle.store_accounts.specs.declared.profile.Profile.{Profile}
use Rattle.store_accounts.specs.declared.queue.QueuedMessage.{QueuedMessage}
use Rattle.store_accounts.specs.declared.refusal.Refusal.{Refusal}
use Rattle.store_accounts.specs.Account.{Account}
use Rattle.store_accounts.specs.AccountRows.{account_row, counter_cells, profile_of, shown_counters}
use Rattle.store_accounts.specs.HeadRows.{queued_envelope as queue_head_of}
use Rattle.store_accounts.specs.Listing.{AreCountersOf, AreFilingsOf, AreNoticeNumbersOf}
use Rattle.store_accounts.specs.ReplyRows.{reply_key_of}
use Rattle.store_accounts.specs.Shows.{rows_of, IsShown}
use Rattle.store_export.specs.declared.contents.Contents.{Contents}
use Rattle.store_export.specs.declared.place.PartPlace.{PartPlace}
use Rattle.store_export.specs.declared.place.PartPlace.TheVariants as place
use Rattle.store_export.specs.Parts.{head_by, account_head}
use Rattle.store_export.specs.Places.{copy_places, has_active_place, AreCopyPlaces, AreNoticePlaces, ArePlaces}
use Rattle.store_export.specs.Reading.{AreRead}

-- ---- the places of one kind join the others

abbrev pub HasScripts : List PartPlace → List PartPlace → Unit {0} → Database → Account → Type 0
HasScripts old new x db a = new ≡ old ++ map place.Script (keys a.scripts)

abbrev pub HasReplies : List PartPlace → List PartPlace → Unit {0} → Database → Account → Type 0
HasReplies old new x db a = new ≡ old ++ map place.Reply (map reply_key_of (keys a.replies))

abbrev pub HasCopies : List ℕ → List PartPlace → List PartPlace → Unit {0} → Database → Account → Type 0
HasCopies user old new x db a = AreCopyPlaces user old new db a

abbrev pub HasLetters : List PartPlace → List PartPlace → Unit {0} → Database → Account → Type 0
HasLetters old new x db a = new ≡ old ++ map (λ out. place.Letter out.id) a.queue

abbrev pub HasNotices : List ℕ → List PartPlace → List PartPlace → Unit {0} → Database → Account → Type 0
HasNotices user old new x db a = AreNoticePlaces user old new db a

module _ (user : List ℕ) (old new : List PartPlace) (db : Database) (a : Account) (q : Result (Unit {0}) Refusal) where
  pub copies_placed : (filings : List Filing) → ((tables : Tables) → HoldsTables mail_schema db tables → AreFilingsOf user filings (rows_of user tables)) → OnOk q (new ≡ old ++ copy_places None filings) → IfOk q (λ x. HasCopies user old new x db a)
  copies_placed filings told pushed = go q pushed
    where
      go : (o : Result (Unit {0}) Refusal) → OnOk o (new ≡ old ++ copy_places None filings) → IfOk o (λ x. HasCopies user old new x db a)
      go (Err e) h = tt
      go (Ok x) h = λ tables held s. h ∙ ap (λ fs. old ++ copy_places None fs) (told tables held a s)

  pub letters_placed : (heads : List QueuedEnvelope) → heads ≡ map queue_head_of a.queue → OnOk q (new ≡ old ++ map (λ head. place.Letter head.id) heads) → IfOk q (λ x. HasLetters old new x db a)
  letters_placed heads told pushed = go q pushed
    where
      go : (o : Result (Unit {0}) Refusal) → OnOk o (new ≡ old ++ map (λ head. place.Letter head.id) heads) → IfOk o (λ x. HasLetters old new x db a)
      go (Err e) h = tt
      go (Ok x) h = h ∙ ap (λ hs. old ++ map (λ (head : QueuedEnvelope). place.Letter head.id) hs) told ∙ ap (λ l. old ++ l) (map-map (λ (head : QueuedEnvelope). place.Letter head.id) queue_head_of a.queue)

  pub notices_placed : (numbers : List ℕ) → ((tables : Tables) → HoldsTables mail_schema db tables → AreNoticeNumbersOf user numbers (rows_of user tables)) → OnOk q (new ≡ old ++ map place.Notice numbers) → IfOk q (λ x. HasNotices user old new x db a)
  notices_placed numbers told pushed = go q pushed
    where
      go : (o : Result (Unit {0}) Refusal) → OnOk o (new ≡ old ++ map place.Notice numbers) → IfOk o (λ x. HasNotices user old new x db a)
      go (Err e) h = tt
      go (Ok x) h = λ tables held s. h ∙ ap (λ ns. old ++ map place.Notice ns) (told tables held a s)

-- ---- all of them

five_joined : {X : Type 0} (p0 p1 p2 p3 p4 p5 xs ys zs us vs : List X) → p0 ≡ [] → p1 ≡ p0 ++ xs → p2 ≡ p1 ++ ys → p3 ≡ p2 ++ zs → p4 ≡ p3 ++ us → p5 ≡ p4 ++ vs → p5 ≡ xs ++ (ys ++ (zs ++ (us ++ vs)))
five_joined p0 p1 p2 p3 p4 p5 xs ys zs us vs none one two three four five =
    let first : p1 ≡ xs = one ∙ ap (λ l. l ++ xs) none in
    five ∙ ap (λ l. l ++ vs) (four ∙ ap (λ l. l ++ us) (three ∙ ap (λ l. l ++ zs) (two ∙ ap (λ l. l ++ ys) first))) ∙ append_assoc ((xs ++ ys) ++ zs) us vs ∙ append_assoc (xs ++ ys) zs (us ++ vs) ∙ append_assoc xs ys (zs ++ (us ++ vs))

pub all_placed : (user : List ℕ) (p0 p1 p2 p3 p4 p5 : List PartPlace) (db : Database) (a : Account) → p0 ≡ [] → HasScripts p0 p1 tt db a → HasReplies p1 p2 tt db a → HasCopies user p2 p3 tt db a → HasLetters p3 p4 tt db a → HasNotices user p4 p5 tt db a → ArePlaces user p5 db a
all_placed user p0 p1 p2 p3 p4 p5 db a none one two three four five tables held s =
    five_joined p0 p1 p2 p3 p4 p5 (map place.Script (keys a.scripts)) (map place.Reply (map reply_key_of (keys a.replies))) _ (map (λ (out : QueuedMessage). place.Letter out.id) a.queue) _ none one two (three tables held s) four (five tables held s)

-- ---- what an account has once

head_shown : (user : List ℕ) (own : Tables) (a : Account) (s : IsShown user own a) (profile : Profile) (c : Counters) → profile ≡ profile_of a → AreCountersOf c own → head_by user profile c ≡ account_head user a s.next_copy s.next_notice
head_shown user own a s profile c is told =
    let row : Some (shown_counters (account_row user a s.next_copy s.next_notice)) ≡ Some (counter_cells c) = sym (ap (λ l. option_map shown_counters (slice_get l 0)) s.account_is) ∙ told in
    let copy : c.copy ≡ s.next_copy = cc in
    let out : c.out ≡ a.next_out = cc in
    let notice : c.notice ≡ s.next_notice = cc in
    ap (λ p. head_by user p c) is ∙ (λ i. record {
      owner = record { name = user; address = a.address; salt = a.password.salt; digest = a.password.digest; active = a.active };
      numbers = record { rounds = a.password.rounds; next_copy = copy i; next_out = out i; next_notice = notice i };
    })

pub begins_read : (user : List ℕ) (profile : Profile) (c : Counters) (places : List PartPlace) (head : TextHead) (db : Database) (a : Account) (q : Result Contents Refusal) → head ≡ head_by user profile c → ((tables : Tables) → HoldsTables mail_schema db tables → AreCountersOf c (rows_of user tables)) → ArePlaces user places db a
    → IfOk q (λ contents. contents ≡ record { head = head; places = places }) → IfOk q (λ contents. IsHead contents.head) → IfOk q (λ contents. has_active_place contents.head.owner.active contents.places ≡ true) → IfOk q (λ contents. profile ≡ profile_of a → AreRead contents [] db a)
begins_read user profile c places head db a (Err e) is counted placed made once active = tt
begins_read user profile c places head db a (Ok contents) is counted placed made once active = λ known.
    let whole : contents ≡ record { head = head_by user profile c; places = places } = made ∙ ap (λ h. record { head = h; places = places }) is in
    let begun : AreRead (record { head = head_by user profile c; places = places }) [] db a = record {
      listed = λ tables held s. record { head = head_shown user (rows_of user tables) a s profile c known (counted tables held); places = placed tables held s };
      first = λ tables held s. refl;
      head = subst (λ (x : Contents). IsHead x.head) whole once;
      active = subst (λ (x : Contents). has_active_place x.head.owner.active x.places ≡ true) whole active;
      fit = tt;
    } in
    subst (λ x. AreRead x [] db a) (sym whole) begun
