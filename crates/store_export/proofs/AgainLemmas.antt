-- The parts of an account make it again.
use Rattle.std.proofs.Common.{◌≡◌, ◌<◌, ◌==◌, ◌++◌, ℕ, Bool, true, false, cond, List, [], ◌∷◌, map, fold, append-nil, Option, Some, None, eqb-true, refl, sym, ap, ap₂, ◌∙◌, is_eq, true≢false, filter}
use Rattle.std.specs.List.{flat_map, AllByRecursion}
use Rattle.std.specs.FinMap.{empty, entries, get, get-empty, get-insert, insert}
use Rattle.std.proofs.lemmas.Bool.{false_from_ne_true}
use Rattle.std.proofs.lemmas.Cmp.{nat_list_cmp_total}
use Rattle.std.proofs.lemmas.Grind.{flat_map-append}
use Rattle.std.proofs.lemmas.List.Folds.{fold-map}
use Rattle.std.proofs.lemmas.List.Sums.{fold-append}
use Rattle.sqlite_trees.specs.Tree.{IsAscending}
use Rattle.sqlite_keyed.proofs.ListLemmas.{all_both, all_weaker}
use Rattle.sqlite_rules.specs.Lists.{Has}
use Rattle.store_text.specs.declared.part.Part.{Part}
use Rattle.store_text.specs.declared.part.Part.TheVariants.{Mail, Copy}
use Rattle.store_tables.specs.declared.queue.QueuedKind.{QueuedKind}
use Rattle.store_tables.specs.declared.queue.QueuedKind.TheVariants as kind
use Rattle.store_accounts.specs.declared.notice.Notice.{Notice as KeptNotice}
use Rattle.store_accounts.specs.declared.queue.QueuedMessage.{QueuedMessage}
use Rattle.store_accounts.specs.Account.{bytes_cmp, reply_cmp, Account, Folders, ReplyMoments, Scripts, filed, latest}
use Rattle.store_accounts.specs.CopyRows.{Copy as KeptCopy, filed_from, folders_from, flags_from, message_of}
use Rattle.store_accounts.specs.MessageRows.{Message, message_row}
use Rattle.store_accounts.specs.ScriptRows.{AreKeysApart}
use Rattle.store_accounts.specs.Whole.{scripts_with, replies_with, queued_kind, letters_in, notices_in, octets_after_part, copies_in_part, copies_of, whole}
use Rattle.store_accounts.proofs.AccountLemmas.{bytes_antisymmetric, reply_total, reply_antisymmetric}
use Rattle.store_accounts.proofs.MapLemmas.{tied}
use Rattle.store_accounts.proofs.NumberLemmas.{alone_at}
use Rattle.store_export.specs.declared.run.Run.{Run}
use Rattle.store_export.specs.Parts.{account_head, continues_run, first_in, run_with, script_part, reply_part, copy_parts, way_of, letter_part, notice_part, account_parts}
use Rattle.store_export.proofs.PutLemmas.{entries_apart, put_all, put_entries}

-- ---- what parts of one kind leave as it is

fold_kept : {A X : Type 0} (f : A → Part → A) (g : X → Part) → ((s : A) (x : X) → f s (g x) ≡ s) → (s : A) (xs : List X) → fold f s (map g xs) ≡ s
fold_kept f g same s [] = refl
fold_kept f g same s (x ∷ xs) = ap (λ t. fold f t (map g xs)) (same s x) ∙ fold_kept f g same s xs

fold_copies : {A : Type 0} (f : A → Part → A) → ((s : A) (n : ℕ) (folder message flags : List ℕ) → f s (Mail n folder message flags) ≡ s) → ((s : A) (n : ℕ) (folder : List ℕ) (first : ℕ) (flags : List ℕ) → f s (Copy n folder first flags) ≡ s)
    → (run : Option Run) (cs : List KeptCopy) (s : A) → fold f s (copy_parts run cs) ≡ s
fold_copies f mail copy run [] s = refl
fold_copies {A} f mail copy run (c ∷ cs) s = ap (λ t. fold f t (copy_parts (Some (run_with run c.n c.id)) cs)) (go (continues_run run c.id)) ∙ fold_copies f mail copy (Some (run_with run c.n c.id)) cs s
  where
    go : (b : Bool) → f s (cond b (Copy c.n c.folder (first_in run c.n c.id) c.flags) (Mail c.n c.folder c.message c.flags)) ≡ s
    go true = copy s c.n c.folder (first_in run c.n c.id) c.flags
    go false = mail s c.n c.folder c.message c.flags

none_in : {X Y : Type 0} (f : Part → List Y) (g : X → Part) → ((x : X) → f (g x) ≡ []) → (xs : List X) → flat_map f (map g xs) ≡ []
none_in f g none [] = refl
none_in f g none (x ∷ xs) = ap₂ ◌++◌ (none x) (none_in f g none xs)

one_in : {X : Type 0} (f : Part → List X) (g : X → Part) → ((x : X) → f (g x) ≡ x ∷ []) → (xs : List X) → flat_map f (map g xs) ≡ xs
one_in f g one [] = refl
one_in f g one (x ∷ xs) = ap₂ ◌++◌ (one x) (one_in f g one xs)

none_in_copies : {Y : Type 0} (f : Part → List Y) → ((n : ℕ) (folder message flags : List ℕ) → f (Mail n folder message flags) ≡ []) → ((n : ℕ) (folder : List ℕ) (first : ℕ) (flags : List ℕ) → f (Copy n folder first flags) ≡ [])
    → (run : Option Run) (cs : List KeptCopy) → flat_map f (copy_parts run cs) ≡ []
none_in_copies f mail copy run [] = refl
none_in_copies f mail copy run (c ∷ cs) = ap₂ ◌++◌ (go (continues_run run c.id)) (none_in_copies f mail copy (Some (run_with run c.n c.id)) cs)
  where
    go : (b : Bool) → f (cond b (Copy c.n c.folder (first_in run c.n c.id) c.flags) (Mail c.n c.folder c.message c.flags)) ≡ []
    go true = copy c.n c.folder (first_in run c.n c.id) c.flags
    go false = mail c.n c.folder c.message c.flags

-- ---- moments

-- a moment whose key is new stays as it is
later_free : (m : ReplyMoments) (e d : (List ℕ × List ℕ) × ℕ) → (e.0 ≡ d.0 → ⊥) → get m d.0 ≡ None → get (insert m e.0 e.1) d.0 ≡ None
later_free m e d apart none =
    let other = false_from_ne_true (is_eq (reply_cmp d.0 e.0)) (λ same. apart (sym (tied reply_cmp reply_total reply_antisymmetric d.0 e.0 same))) in
    get-insert reply_total m e.0 e.1 d.0 ∙ ap (λ b. cond b (Some e.1) (get m d.0)) other ∙ none

replies_put : (es : List ((List ℕ × List ℕ) × ℕ)) (m : ReplyMoments) → AreKeysApart es → AllByRecursion (λ e. get m e.0 ≡ None) es → fold replies_with m (map reply_part es) ≡ put_all reply_cmp reply_total reply_antisymmetric m es
replies_put [] m apart free = refl
replies_put (e ∷ es) m apart free =
    ap (λ n. fold replies_with n (map reply_part es)) (ap (λ o. insert m e.0 (latest o e.1)) free.0)
    ∙ replies_put es (insert m e.0 e.1) apart.1 (all_both (λ d. get m d.0 ≡ None) (λ d. e.0 ≡ d.0 → ⊥) (λ d. get (insert m e.0 e.1) d.0 ≡ None) (λ d none differ. later_free m e d differ none) es free.1 apart.0)

all_free : (es : List ((List ℕ × List ℕ) × ℕ)) → AllByRecursion (λ e. get (empty {X = ℕ} {R = reply_cmp}) e.0 ≡ None) es
all_free [] = tt
all_free (e ∷ es) = (get-empty reply_cmp e.0, all_free es)

-- ---- folders

-- where a copy is, its octets, and its flags
abbrev Said : Type 0
Said = List ℕ × List ℕ × List ℕ

abbrev said : KeptCopy → Said
said c = (c.folder, c.message, c.flags)

abbrev filed_by : (Said → List ℕ) → Folders → Said → Folders
filed_by what folders e = filed folders e.0 (what e)

filed_same : (what : Said → List ℕ) (xs ys : List KeptCopy) → map said xs ≡ map said ys → filed_from (λ c. what (said c)) xs ≡ filed_from (λ c. what (said c)) ys
filed_same what xs ys same = sym (fold-map (filed_by what) said empty xs) ∙ ap (fold (filed_by what) empty) same ∙ fold-map (filed_by what) said empty ys

-- copies of one message have the same octets
abbrev pub AreAlike : List KeptCopy → Type 0
AreAlike = IsAscending (λ x y. x.id ≡ y.id → x.message ≡ y.message)

one_message : (ms : List Message) → IsAscending (λ x y. x.id < y.id) ms → (m n : Message) → Has ms m → Has ms n → m.id ≡ n.id → m ≡ n
one_message ms rise m n here there same =
    let one = alone_at (λ (x : Message). x.id) (message_row []) ms rise m here in
    let two = alone_at (λ (x : Message). x.id) (message_row []) ms rise n there in
    let both : m ∷ [] ≡ n ∷ [] = sym one ∙ ap (λ i. filter (λ (y : Message). y.id == i) ms) same ∙ two in
    cc

pub alike : (ms : List Message) → IsAscending (λ x y. x.id < y.id) ms → (cs : List KeptCopy) → AllByRecursion (λ c. Has ms (message_of c)) cs → AreAlike cs
alike ms rise [] present = tt
alike ms rise (c ∷ cs) present = (
  all_weaker (λ d. Has ms (message_of d)) (λ d. c.id ≡ d.id → c.message ≡ d.message) (λ d there same. ap (λ (m : Message). m.bytes) (one_message ms rise (message_of c) (message_of d) present.0 there same)) cs present.1,
  alike ms rise cs present.1,
)

copies_again : (run : Option Run) (last : List ℕ) (cs : List KeptCopy) → AreAlike cs → AllByRecursion (λ d. continues_run run d.id ≡ true → d.message ≡ last) cs → map said (copies_of last (copy_parts run cs)) ≡ map said cs
copies_again run last [] same all = refl
copies_again run last (c ∷ cs) same all = go (continues_run run c.id) refl (λ l more. copies_again (Some (run_with run c.n c.id)) l cs same.1 more)
  where
    -- of those that go on with this one's run
    alike_to : (l : List ℕ) → c.message ≡ l → AllByRecursion (λ d. continues_run (Some (run_with run c.n c.id)) d.id ≡ true → d.message ≡ l) cs
    alike_to l is =
        all_weaker (λ d. c.id ≡ d.id → c.message ≡ d.message) (λ d. continues_run (Some (run_with run c.n c.id)) d.id ≡ true → d.message ≡ l) (λ d told on. sym (told (sym (eqb-true d.id c.id on))) ∙ is) cs same.0

    go : (b : Bool) → continues_run run c.id ≡ b → ((l : List ℕ) → AllByRecursion (λ d. continues_run (Some (run_with run c.n c.id)) d.id ≡ true → d.message ≡ l) cs → map said (copies_of l (copy_parts (Some (run_with run c.n c.id)) cs)) ≡ map said cs)
        → map said (copies_of last (cond b (Copy c.n c.folder (first_in run c.n c.id) c.flags) (Mail c.n c.folder c.message c.flags) ∷ copy_parts (Some (run_with run c.n c.id)) cs)) ≡ said c ∷ map said cs
    go true on more =
        let here : c.message ≡ last = all.0 on in
        ap₂ ◌∷◌ (ap (λ m. (c.folder, m, c.flags)) (sym here)) (more last (alike_to last here))
    go false off more = ap (λ l. said c ∷ l) (more c.message (alike_to c.message refl))

-- parts that are no copies
passed : {X : Type 0} (g : X → Part) → ((last : List ℕ) (x : X) → copies_in_part last (g x) ≡ []) → ((last : List ℕ) (x : X) → octets_after_part last (g x) ≡ last) → (last : List ℕ) (xs : List X) (rest : List Part)
    → copies_of last (map g xs ++ rest) ≡ copies_of last rest
passed g none still last [] rest = refl
passed g none still last (x ∷ xs) rest = ap₂ (λ front l. front ++ copies_of l (map g xs ++ rest)) (none last x) (still last x) ∙ passed g none still last xs rest

front_copies : (rest : List Part) → ((last : List ℕ) → copies_of last rest ≡ []) → (last : List ℕ) (ps : List Part) → copies_of last (ps ++ rest) ≡ copies_of last ps
front_copies rest none last [] = none last
front_copies rest none last (p ∷ ps) = ap (λ l. copies_in_part last p ++ l) (front_copies rest none (octets_after_part last p) ps)

kind_again : (k : QueuedKind) → queued_kind (way_of k) ≡ k
kind_again kind.Redirect = refl
kind_again kind.Reply = refl

module _ (a : Account) (copies : List KeptCopy) (notices : List (ℕ × KeptNotice)) where
  abbrev out : List Part
  out = map letter_part a.queue ++ map notice_part notices

  abbrev mail : List Part
  mail = copy_parts None copies ++ out

  abbrev moments : List Part
  moments = map reply_part (entries a.replies) ++ mail

  -- ---- scripts and moments

  scripts_again : fold scripts_with empty (account_parts a copies notices) ≡ a.scripts
  scripts_again =
      let m : Scripts = empty in
      fold-append scripts_with m (map script_part (entries a.scripts)) moments
      ∙ ap (λ s. fold scripts_with s moments) (fold-map scripts_with script_part m (entries a.scripts) ∙ put_entries bytes_cmp nat_list_cmp_total bytes_antisymmetric a.scripts)
      ∙ fold-append scripts_with a.scripts (map reply_part (entries a.replies)) mail
      ∙ ap (λ s. fold scripts_with s mail) (fold_kept scripts_with reply_part (λ s x. refl) a.scripts (entries a.replies))
      ∙ fold-append scripts_with a.scripts (copy_parts None copies) out
      ∙ ap (λ s. fold scripts_with s out) (fold_copies scripts_with (λ s n folder message flags. refl) (λ s n folder first flags. refl) None copies a.scripts)
      ∙ fold-append scripts_with a.scripts (map letter_part a.queue) (map notice_part notices)
      ∙ ap (λ s. fold scripts_with s (map notice_part notices)) (fold_kept scripts_with letter_part (λ s x. refl) a.scripts a.queue)
      ∙ fold_kept scripts_with notice_part (λ s x. refl) a.scripts notices

  replies_again : fold replies_with empty (account_parts a copies notices) ≡ a.replies
  replies_again =
      let m : ReplyMoments = empty in
      fold-append replies_with m (map script_part (entries a.scripts)) moments
      ∙ ap (λ s. fold replies_with s moments) (fold_kept replies_with script_part (λ s x. refl) m (entries a.scripts))
      ∙ fold-append replies_with m (map reply_part (entries a.replies)) mail
      ∙ ap (λ s. fold replies_with s mail) (replies_put (entries a.replies) m (entries_apart reply_cmp reply_total reply_antisymmetric a.replies) (all_free (entries a.replies)) ∙ put_entries reply_cmp reply_total reply_antisymmetric a.replies)
      ∙ fold-append replies_with a.replies (copy_parts None copies) out
      ∙ ap (λ s. fold replies_with s out) (fold_copies replies_with (λ s n folder message flags. refl) (λ s n folder first flags. refl) None copies a.replies)
      ∙ fold-append replies_with a.replies (map letter_part a.queue) (map notice_part notices)
      ∙ ap (λ s. fold replies_with s (map notice_part notices)) (fold_kept replies_with letter_part (λ s x. refl) a.replies a.queue)
      ∙ fold_kept replies_with notice_part (λ s x. refl) a.replies notices

  -- ---- the queue and the notices

  letter_again : (o : QueuedMessage) → letters_in (letter_part o) ≡ o ∷ []
  letter_again o = ap (λ k. (record { id = o.id; kind = k; sender = o.sender; target = o.target; message = o.message }) ∷ []) (kind_again o.kind)

  queue_again : flat_map letters_in (account_parts a copies notices) ≡ a.queue
  queue_again =
      flat_map-append letters_in (map script_part (entries a.scripts)) moments
      ∙ ap₂ ◌++◌ (none_in letters_in script_part (λ x. refl) (entries a.scripts)) (flat_map-append letters_in (map reply_part (entries a.replies)) mail
      ∙ ap₂ ◌++◌ (none_in letters_in reply_part (λ x. refl) (entries a.replies)) (flat_map-append letters_in (copy_parts None copies) out
      ∙ ap₂ ◌++◌ (none_in_copies letters_in (λ n folder message flags. refl) (λ n folder first flags. refl) None copies) (flat_map-append letters_in (map letter_part a.queue) (map notice_part notices)
      ∙ ap₂ ◌++◌ (one_in letters_in letter_part letter_again a.queue) (none_in letters_in notice_part (λ x. refl) notices) ∙ append-nil a.queue)))

  notices_again : flat_map notices_in (account_parts a copies notices) ≡ notices
  notices_again =
      flat_map-append notices_in (map script_part (entries a.scripts)) moments
      ∙ ap₂ ◌++◌ (none_in notices_in script_part (λ x. refl) (entries a.scripts)) (flat_map-append notices_in (map reply_part (entries a.replies)) mail
      ∙ ap₂ ◌++◌ (none_in notices_in reply_part (λ x. refl) (entries a.replies)) (flat_map-append notices_in (copy_parts None copies) out
      ∙ ap₂ ◌++◌ (none_in_copies notices_in (λ n folder message flags. refl) (λ n folder first flags. refl) None copies) (flat_map-append notices_in (map letter_part a.queue) (map notice_part notices)
      ∙ ap₂ ◌++◌ (none_in notices_in letter_part (λ x. refl) a.queue) (one_in notices_in notice_part (λ x. refl) notices))))

  -- ---- the folders

  no_copies : (last : List ℕ) → copies_of last out ≡ []
  no_copies last =
      passed letter_part (λ l x. refl) (λ l x. refl) last a.queue (map notice_part notices) ∙ ap (copies_of last) (sym (append-nil (map notice_part notices)))
      ∙ passed notice_part (λ l x. refl) (λ l x. refl) last notices []

  filed_again : (what : Said → List ℕ) → AreAlike copies → filed_from (λ c. what (said c)) (copies_of [] (account_parts a copies notices)) ≡ filed_from (λ c. what (said c)) copies
  filed_again what same =
      let only : copies_of [] (account_parts a copies notices) ≡ copies_of [] (copy_parts None copies) =
      passed script_part (λ l x. refl) (λ l x. refl) [] (entries a.scripts) moments ∙ passed reply_part (λ l x. refl) (λ l x. refl) [] (entries a.replies) mail ∙ front_copies out no_copies [] (copy_parts None copies) in
      ap (filed_from (λ c. what (said c))) only ∙ filed_same what (copies_of [] (copy_parts None copies)) copies (copies_again None [] copies same (never copies))
    where
      never : (cs : List KeptCopy) → AllByRecursion (λ d. continues_run None d.id ≡ true → d.message ≡ []) cs
      never [] = tt
      never (c ∷ cs) = ((λ no. absurd (true≢false (sym no))), never cs)

  -- ---- all of it

  pub account_again : (user : List ℕ) (next_copy next_notice : ℕ) → AreAlike copies → a.folders ≡ folders_from copies → a.flags ≡ flags_from copies → a.notices ≡ map (λ e. e.1) notices → whole (account_head user a next_copy next_notice) (account_parts a copies notices) empty ≡ a
  account_again user next_copy next_notice same folders flags kept =
      let scripts = scripts_again in
      let replies = replies_again in
      let queue = queue_again in
      let again = filed_again (λ e. e.1) same ∙ sym folders in
      let flagged = filed_again (λ e. e.2) same ∙ sym flags in
      let notes = ap (map (λ (e : ℕ × KeptNotice). e.1)) notices_again ∙ sym kept in
      λ i. record {
        address = a.address;
        password = a.password;
        scripts = scripts i;
        active = a.active;
        folders = again i;
        flags = flagged i;
        queue = queue i;
        replies = replies i;
        notices = notes i;
        next_out = a.next_out;
      }
