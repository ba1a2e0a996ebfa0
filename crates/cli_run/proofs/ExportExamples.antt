-- What `export` and `import` do, by example: right cases, and near misses.
use Rattle.std.proofs.Common.{None, ◌≡◌, ℕ, List, [], ◌∷◌, ◌++◌, take, drop, codes, Bool, true, false, Option, Some, Ok, Err, refl, sym, ap, ◌∙◌, subst, inl, inr, append_assoc, append-nil}
use Rattle.std.proofs.lemmas.List.{take-append-drop}
use Rattle.std.specs.List.{flat_map}
use Rattle.store_text.proofs.ReadLemmas.{texts_same}
use Rattle.store_text.specs.Netstring.{line, netstring}
use Rattle.store_text.specs.Text.{account_body, sum_line, account_text, IsAccount, IsAccountText}
use Rattle.store_text.specs.declared.account_file.AccountFile.{AccountFile}
use Rattle.store_text.specs.declared.head.AccountHead.{AccountHead}
use Rattle.store_text.specs.declared.part.Part.{Part}
use Rattle.store_accounts.specs.Account.{Accounts}
use Rattle.store_engine.specs.declared.answer.Answer.TheVariants as answer
use Rattle.store_engine.specs.declared.event.Event.TheVariants.{Import}
use Rattle.cli_reports.specs.Reports.{ended_line}
use Rattle.cli_run.specs.Subcommands.{IsImportEvent, Exports, HasExported, IsNoAccount, TellsEvent}
use Rattle.cli_run.specs.declared.fault.RunFault.{RunFault}

-- ---- texts

nil_right : (xs ys : List ℕ) → xs ++ ys ≡ [] → ys ≡ []
nil_right [] ys is = is
nil_right (x ∷ xs) ys is = absurd (let no = is in cc)

some_left : (x : ℕ) (xs : List ℕ) → x ∷ xs ≡ [] → ⊥
some_left x xs is = let no = is in cc

line_there : (fields : List (List ℕ)) → line fields ≡ [] → ⊥
unfolding line
line_there fields is = some_left 10 [] (nil_right (flat_map netstring fields) (10 ∷ []) is)

-- no text of an account is empty
text_there : (head : AccountHead) (parts : List Part) → account_text head parts ≡ [] → ⊥
text_there head parts is = line_there _ (nil_right (account_body head parts) (sum_line (account_body head parts)) is)

-- what broke off before its sum is the text of no account
cut_none : (head : AccountHead) (parts : List Part) → IsAccount head parts → (k : ℕ) → IsNoAccount (Some (take k (account_body head parts)))
cut_none head parts account k =
    let body = account_body head parts in
    let more = drop k body ++ sum_line body in
    let joined : take k body ++ more ≡ account_text head parts = sym (append_assoc (take k body) (drop k body) (sum_line body)) ∙ ap (λ l. l ++ sum_line body) (take-append-drop k body) in
    let whole : IsAccountText (take k body ++ more) head parts = record { account = account; spelled = joined } in
    (take k body, refl, λ h ps is. line_there _ (nil_right (drop k body) (sum_line body) (texts_same (take k body) more h head ps parts is whole).0))

-- near miss: the text of an account, told as that of none
text_refused : (text : List ℕ) (head : AccountHead) (parts : List Part) → IsAccountText text head parts → IsNoAccount (Some text) → ⊥
text_refused text head parts is none = none.2 head parts (subst (λ t. IsAccountText t head parts) (sym none.1) is)

-- ---- `import`

module _ (text : List ℕ) (file : AccountFile) (is : IsAccountText text file.head file.parts) where
  -- the account of what was read
  brought : IsImportEvent None (Some text) (Import file)
  brought = record { text = text; read = refl; written = file.head; file = file; spelled = is; named = refl; same = refl }

  -- near miss: another user's
  brought_other : (other : AccountFile) → (other.head.owner.name ≡ file.head.owner.name → ⊥) → IsImportEvent None (Some text) (Import other) → ⊥
  brought_other other differs h =
      let same : other ≡ h.file = let e = h.same in cc in
      let read : IsAccountText text h.written h.file.parts = subst (λ t. IsAccountText t h.written h.file.parts) h.read h.spelled in
      let one = (texts_same text [] file.head h.written file.parts h.file.parts is (subst (λ t. IsAccountText t h.written h.file.parts) (sym (append-nil text)) read)).1.0 in
      differs (ap (λ (f : AccountFile). f.head.owner.name) same ∙ ap (λ (g : AccountHead). g.owner.name) h.named ∙ ap (λ (g : AccountHead). g.owner.name) (sym one))

  -- near miss: under another name, and without the moments of replies, or anything else that the text has
  brought_without : (name : List ℕ) (other : AccountFile) → (other.parts ≡ file.parts → ⊥) → IsImportEvent (Some name) (Some text) (Import other) → ⊥
  brought_without name other differs h =
      let same : other ≡ h.file = let e = h.same in cc in
      let read : IsAccountText text h.written h.file.parts = subst (λ t. IsAccountText t h.written h.file.parts) h.read h.spelled in
      let one = (texts_same text [] file.head h.written file.parts h.file.parts is (subst (λ t. IsAccountText t h.written h.file.parts) (sym (append-nil text)) read)).1 in
      differs (ap (λ (f : AccountFile). f.parts) same ∙ sym one.1)

  -- it is told by its own name
  imported_told : TellsEvent (Import file) answer.Imported (ended_line (codes "imported " ++ file.head.owner.name))
  imported_told = refl

-- ---- `export`

module _ (user : List ℕ) (old new : Option (List ℕ)) (accounts later : Accounts) where
  -- near misses: closed after a fault, whatever it is; and where that isn't asked for
  closed_early : (fault : RunFault) → (later ≡ accounts → ⊥) → Exports true user old new (Err fault) accounts later → ⊥
  closed_early fault changed h = changed h.0

  closed_unasked : (later ≡ accounts → ⊥) → Exports false user old new (Ok tt) accounts later → ⊥
  closed_unasked changed h = changed h.1

-- near misses: done, and nothing is printed; done, and the sum lacks
printed_none : (user : List ℕ) (accounts : Accounts) → HasExported user (Some []) (Some []) accounts → ⊥
printed_none user accounts h =
    let copy = h.1.2 in
    let empty : h.0 ≡ [] = sym h.2.0 in
    text_there copy.head copy.parts (sym copy.spelled.spelled ∙ empty)

printed_cut : (user : List ℕ) (accounts : Accounts) (head : AccountHead) (parts : List Part) → IsAccount head parts → HasExported user (Some []) (Some (account_body head parts)) accounts → ⊥
printed_cut user accounts head parts account h =
    let copy = h.1.2 in
    let body = account_body head parts in
    let is : IsAccountText body copy.head copy.parts = subst (λ t. IsAccountText t copy.head copy.parts) (sym h.2.0) copy.spelled in
    line_there _ (texts_same body (sum_line body) copy.head head copy.parts parts is (record { account = account; spelled = refl })).0
