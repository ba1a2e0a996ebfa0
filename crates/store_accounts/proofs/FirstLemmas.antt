-- The first message of a folder, read by its number.
use Rattle.std.proofs.Common.{◌≡◌, ◌==◌, ℕ, zero, suc, ℤ, pos, List, [], ◌∷◌, map, filter, find, slice_get, Option, Some, None, option_map, refl, sym, ap, ◌∙◌, subst, inl, inr, IsPermutation}
use Rattle.std.proofs.lemmas.Option.{slice_get-map}
use Rattle.sqlite_value.specs.declared.value.Value.TheVariants.{Int, Blob}
use Rattle.sqlite_value.specs.Order.{Row, column}
use Rattle.sqlite_sql.specs.Term.{col}
use Rattle.sqlite_rules.specs.Lists.{Has}
use Rattle.sqlite_rules.proofs.ListLemmas.{all_has, has_filtered}
use Rattle.sqlite_keyed.proofs.ListLemmas.{filter-map, filter_same, filter-filter, slice_get-filter, IsPermutation-filter}
use Rattle.sqlite.specs.State.{State, Shown}
use Rattle.sqlite.proofs.Callers.{one_permutation}
use Rattle.store_tables.specs.Rows.{Tables, HoldsTables, has_key}
use Rattle.store_tables.proofs.AnswerLemmas.{cells_by_key, first_shown}
use Rattle.store_tables.proofs.ReadLemmas.{answered}
use Rattle.store_tables.proofs.ListLemmas.{owner_key}
use Rattle.store_accounts.specs.declared.filing.Filing.{Filing}
use Rattle.store_accounts.specs.declared.taking.NumberedMessage.{NumberedMessage}
use Rattle.store_tables.specs.Schema.{mail_schema}
use Rattle.store_accounts.specs.Account.{Account, messages_in, folder_flags}
use Rattle.store_tables.specs.MessageTable.{message, message_key, message_tree, bytes_column, select_message}
use Rattle.store_accounts.specs.MessageRows.{message_row}
use Rattle.store_accounts.specs.CopyRows.{Copy, message_of, is_in, filing_of, numbered_of, IsFirstIn, IsNthMessage}
use Rattle.store_accounts.specs.Shows.{rows_of, IsShown, IsNthFiling, AreOctetRows, HasMessageOctets, IsFirstOf, IsNthOf}
use Rattle.store_tables.proofs.SchemaFacts.{message_listed}
use Rattle.store_tables.proofs.TextFacts.{by_two, select_message_is, select_message_plain}
use Rattle.store_tables.proofs.StatementLemmas.{message_index, message_agrees}
use Rattle.store_accounts.proofs.AccountLemmas.{message_is}
use Rattle.store_accounts.proofs.KeyLemmas.{key_owned}
use Rattle.store_accounts.proofs.NumberLemmas.{alone_at}
use Rattle.store_accounts.proofs.OrderLemmas.{messages_are, flags_are}

-- ---- the octets of one message

module _ (old new : State) (rows : List Row) (tables : Tables) (h : HoldsTables mail_schema old.now tables) (owner : List ℕ) (id : ℤ) where
  pub octets_read : Shown select_message (message_key owner id) old new rows → AreOctetRows owner id rows (rows_of owner tables)
  octets_read shown =
      let key = message_key owner id in
      cells_by_key mail_schema message message_listed message_index (inr (inr (inr (inr (inr (inr (inl refl))))))) refl key (0 ∷ 1 ∷ []) (message_agrees owner id) old.now.trees h.fits (tables message_tree) (h.each message message_listed) by_two key (λ n cells. refl)
      (col 1 3 ∷ []) (λ c. column c bytes_column ∷ []) (λ n cells. refl) [] rows (answered mail_schema select_message key old new h.is select_message_plain.0 message_tree by_two (col 1 3 ∷ []) [] _ select_message_is select_message_plain.1 rows shown)
      ∙ ap (map (λ c. column c bytes_column ∷ [])) (sym (filter-filter (has_key key) (has_key (owner_key owner)) (key_owned owner (Int id ∷ [])) (tables message_tree)))

-- the text of the first row
pub octets_first : (octets : List ℕ) (rows all : List Row) → rows ≡ map (λ r. column r bytes_column ∷ []) all → Some (Blob octets) ≡ option_map (λ r. column r 0) (slice_get rows 0)
    → slice_get (map (λ r. column r bytes_column) all) 0 ≡ Some (Blob octets)
octets_first octets rows [] are told = absurd (let no = told ∙ ap (λ l. option_map (λ (r : Row). column r 0) (slice_get l 0)) are in cc)
octets_first octets rows (r ∷ all) are told = sym (told ∙ ap (λ l. option_map (λ (r : Row). column r 0) (slice_get l 0)) are)

-- ---- the first of a folder

-- a copy's message is the one row with its number
pub own_message : (user : List ℕ) (own : Tables) (a : Account) (s : IsShown user own a) (c : Copy) → Has s.copies.entries c → filter (has_key (message_key user (pos c.id))) (own message_tree) ≡ message_row user (message_of c) ∷ []
own_message user own a s c here =
    let key = has_key (message_key user (pos c.id)) in
    let messages = s.copies.messages in
    let there = all_has (λ x. Has messages (message_of x)) s.copies.entries c s.copies.kept.present here in
    let one : filter key (map (message_row user) messages) ≡ message_row user (message_of c) ∷ [] =
    filter-map key (message_row user) messages ∙ ap (map (message_row user)) (filter_same _ (λ m. m.id == c.id) (λ m. message_is user c.id m) messages ∙ alone_at (λ m. m.id) (message_row user) messages s.copies.stored.rise (message_of c) there) in
    one_permutation (message_row user (message_of c)) _ (subst (λ l. IsPermutation l (filter key (own message_tree))) one (IsPermutation-filter key _ _ s.copies.stored.rows_are))

has_nth : {X : Type 0} (xs : List X) (n : ℕ) (x : X) → slice_get xs n ≡ Some x → Has xs x
has_nth [] n x is = absurd (let no = is in cc)
has_nth (y ∷ xs) zero x is = let same : x ≡ y = cc in inl same
has_nth (y ∷ xs) (suc n) x is = inr (has_nth xs n x is)

module _ (user folder : List ℕ) (count : ℤ) (filing : Option Filing) (own : Tables) (is_nth : IsNthFiling user folder count filing own) where
  pub nth_none : filing ≡ None → IsNthOf user folder count None own
  nth_none none a s n given = go (slice_get (filter (is_in folder) s.copies.entries) n) (sym none ∙ is_nth a s n given)
    where
      go : (o : Option Copy) → None ≡ option_map filing_of o → None ≡ option_map numbered_of o
      go None e = refl
      go (Some c) e = absurd (let no = e in cc)

  pub nth_some : (f : Filing) (octets : List ℕ) → filing ≡ Some f → HasMessageOctets user f.id octets own → IsNthOf user folder count (Some (record { number = f.n; message = octets; flags = f.flags })) own
  nth_some f octets some has a s n given = go (slice_get (filter (is_in folder) s.copies.entries) n) refl (sym some ∙ is_nth a s n given)
    where
      go : (o : Option Copy) → slice_get (filter (is_in folder) s.copies.entries) n ≡ o → Some f ≡ option_map filing_of o → Some (record { number = f.n; message = octets; flags = f.flags }) ≡ option_map numbered_of o
      go None is e = absurd (let no = e in cc)
      go (Some c) is e =
          let same : f ≡ filing_of c = cc in
          let told = ap (λ (g : Filing). slice_get (map (λ r. column r bytes_column) (filter (has_key (message_key user (pos g.id))) (own message_tree))) 0) (sym same) ∙ has in
          let there : Has s.copies.entries c = (has_filtered (is_in folder) s.copies.entries c (has_nth (filter (is_in folder) s.copies.entries) n c is)).0 in
          let row = ap (λ l. slice_get (map (λ (r : Row). column r bytes_column) l) 0) (own_message user own a s c there) in
          let both : Some (Blob c.message) ≡ Some (Blob octets) = sym row ∙ told in
          let text : octets ≡ c.message = cc in
          λ i. Some (record { number = (same i).n; message = text i; flags = (same i).flags })

-- the one after none is the first
pub nth_first : (user folder : List ℕ) (message : Option NumberedMessage) (own : Tables) → IsNthOf user folder (pos 0) message own → IsFirstOf user folder message own
nth_first user folder message own is a s = is a s 0 refl ∙ ap (option_map numbered_of) (slice_get-filter (is_in folder) s.copies.entries)

mapped_twice : (o : Option Copy) → option_map (λ m. m.message) (option_map numbered_of o) ≡ option_map (λ c. c.message) o
mapped_twice None = refl
mapped_twice (Some c) = refl

flags_twice : (o : Option Copy) → option_map (λ m. m.flags) (option_map numbered_of o) ≡ option_map (λ c. c.flags) o
flags_twice None = refl
flags_twice (Some c) = refl

-- and it is the first of the account's messages there, with its flags
pub first_shows : (user folder : List ℕ) (first : Option NumberedMessage) (own : Tables) (a : Account) → IsShown user own a → IsFirstOf user folder first own → IsFirstIn folder first a
first_shows user folder first own a s is = record {
  message =
      ap (option_map (λ m. m.message)) (is a s) ∙ mapped_twice (find (is_in folder) s.copies.entries) ∙ sym (first_shown (λ c. c.message) (is_in folder) s.copies.entries)
      ∙ sym (ap (λ l. slice_get l 0) (ap (λ m. messages_in m folder) s.copies.shown ∙ messages_are s.copies.entries folder));
  flags =
      ap (option_map (λ m. m.flags)) (is a s) ∙ flags_twice (find (is_in folder) s.copies.entries) ∙ sym (first_shown (λ c. c.flags) (is_in folder) s.copies.entries)
      ∙ sym (ap (λ l. slice_get l 0) (ap (λ m. folder_flags m folder) s.copies.shown_flags ∙ flags_are s.copies.entries folder));
}

-- ---- the one after that many

-- and it is the account's message there
pub nth_shows : (user folder : List ℕ) (count : ℤ) (nth : Option NumberedMessage) (own : Tables) (a : Account) → IsShown user own a → IsNthOf user folder count nth own → IsNthMessage folder count (option_map (λ m. m.message) nth) a
nth_shows user folder count nth own a s is n given =
    let few = filter (is_in folder) s.copies.entries in
    ap (option_map (λ (m : NumberedMessage). m.message)) (is a s n given) ∙ mapped_twice (slice_get few n) ∙ sym (slice_get-map (λ c. c.message) few n)
    ∙ sym (ap (λ l. slice_get l n) (ap (λ m. messages_in m folder) s.copies.shown ∙ messages_are s.copies.entries folder))
