-- The first messages of a folder, read one after the other.
use Rattle.std.proofs.Common.{◌≡◌, ℕ, pos, ◌+◌, ◌-◌, ◌<◌, List, [], ◌∷◌, ◌++◌, length, take, slice_get, Option, Some, Result, Ok, IfOk, refl, sym, ◌∙◌, ap, subst, add-one, length-append, arith}
use Rattle.std.proofs.Math.Seq.{take-append_seam}
use Rattle.std.proofs.lemmas.List.Sums.{sum_by-append, sum_by-take-le}
use Rattle.std.proofs.lemmas.Option.{slice_get-map}
use Rattle.sqlite.specs.State.{State, HasCleanDisk}
use Rattle.store_tables.specs.Rows.{Tables, HoldsTables}
use Rattle.store_tables.specs.Schema.{mail_schema}
use Rattle.store_accounts.specs.CopyRows.{copies_in, numbered_of}
use Rattle.store_accounts.specs.Promises.{FindsAmong, KeepsTables, OverTables}
use Rattle.store_accounts.specs.Shows.{rows_of, OfCopies, IsNthOf}
use Rattle.store_accounts.specs.declared.taking.NumberedMessage.{NumberedMessage}
use Rattle.store_accounts.proofs.LeavingLemmas.{taken_next}
use Rattle.store_engine.specs.Takings.{mails_in}
use Rattle.maildir_moves.specs.Enduring.{OnlyReads}
use Rattle.maildir_moves.specs.Steps.{IsSmall, WereFolderFront, octets_of}
use Rattle.maildir_moves.proofs.EnduringLemmas.{held_behind, read_only, reads_then}

-- the first n messages are read, and these are they
pub record HasRead (user folder : List ℕ) (n : ℕ) (mails : List NumberedMessage) (a b : State) : Type 0 where
  pub reads : OnlyReads a b
  pub held : HasCleanDisk b → (tables : Tables) → HoldsTables mail_schema a.now tables → HoldsTables mail_schema b.now tables
  pub count : length mails ≡ n
  pub front : HasCleanDisk b → OverTables a (λ tables. OfCopies user (rows_of user tables) (λ copies. take n (mails_in folder copies) ≡ mails))

-- and have so many octets, less than 1 MiB
pub record IsReading (user folder : List ℕ) (n : ℕ) (mails : List NumberedMessage) (octets : ℕ) (a b : State) : Type 0 where
  pub read : HasRead user folder n mails a b
  pub octets_is : octets ≡ octets_of mails
  pub low : octets < 1048576

-- none yet
pub read_none : {X E : Type 0} (user folder : List ℕ) (a b : State) (r : Result X E) (x : X) → r ≡ Ok x → KeepsTables a b r → HasRead user folder 0 [] a b
read_none user folder a b r x was keeps = record {
  reads = read_only a b r keeps;
  held = held_behind a b r x was keeps;
  count = refl;
  front = λ clean tables held account shown. refl;
}

-- one more
module _ (user folder : List ℕ) (n : ℕ) (mails : List NumberedMessage) (a b c : State) (early : HasRead user folder n mails a b) where
  module _ {E : Type 0} (q : Result (Option NumberedMessage) E) (late : FindsAmong user (IsNthOf user folder (pos n)) b c q) where
    pub read_then : OnlyReads a c
    read_then = reads_then a b c early.reads (read_only b c q late.keeps)

    pub read_more : (mail : NumberedMessage) → q ≡ Ok (Some mail) → HasRead user folder (n + 1) (mails ++ mail ∷ []) a c
    read_more mail is = record {
      reads = read_then;
      held = λ clean tables held. held_behind b c q (Some mail) is late.keeps clean tables (early.held (mid clean) tables held);
      count = length-append mails (mail ∷ []) ∙ ap (λ k. k + 1) early.count;
      front = λ clean tables held account shown.
          let found = subst (λ o. IfOk o (λ x. IsNthOf user folder (pos n) x (rows_of user tables))) is (late.found clean tables (early.held (mid clean) tables held)) in
          let here : slice_get (mails_in folder shown.copies.entries) n ≡ Some mail = slice_get-map numbered_of (copies_in folder shown.copies.entries) n ∙ sym (found account shown n refl) in
          ap (λ k. take k (mails_in folder shown.copies.entries)) (add-one n) ∙ taken_next (mails_in folder shown.copies.entries) n mail here ∙ ap (λ l. l ++ mail ∷ []) (early.front (mid clean) tables held account shown);
    }
      where
        mid : HasCleanDisk c → HasCleanDisk b
        mid clean = (read_only b c q late.keeps clean).0

-- these are all that are read
pub read_front : (user folder : List ℕ) (n : ℕ) (mails : List NumberedMessage) (a b c : State) → HasRead user folder n mails a b → (HasCleanDisk c → HasCleanDisk b) → WereFolderFront user folder mails a c
read_front user folder n mails a b c read mid = λ clean tables held account shown.
    ap (λ k. take k (mails_in folder shown.copies.entries)) read.count ∙ read.front (mid clean) tables held account shown

-- ---- how large they are

pub more_octets : (mails : List NumberedMessage) (mail : NumberedMessage) → octets_of (mails ++ mail ∷ []) ≡ octets_of mails + length mail.message
more_octets mails mail = let sum = sum_by-append (λ (m : NumberedMessage). length m.message) mails (mail ∷ []) in omega (arith, sum)

pub small_all : (mails : List NumberedMessage) → octets_of mails < 1048576 → IsSmall mails
small_all mails few = let part = sum_by-take-le (λ (m : NumberedMessage). length m.message) mails (length mails - 1) in omega (arith, part, few)

pub small_last : (mails : List NumberedMessage) (mail : NumberedMessage) → octets_of mails < 1048576 → IsSmall (mails ++ mail ∷ [])
small_last mails mail few =
    let long : length (mails ++ mail ∷ []) - 1 ≡ length mails = omega (arith, length-append mails (mail ∷ [])) in
    subst (λ k. octets_of (take k (mails ++ mail ∷ [])) < 1048576) (sym long) (subst (λ l. octets_of l < 1048576) (sym (take-append_seam mails (mail ∷ []))) few)
