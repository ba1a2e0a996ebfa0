-- An account that comes whole: the tests, how an account of the name stands, and then the write.
use Rattle.std.proofs.Common.{◌≡◌, Bool, true, false, cond, is_some, List, Option, Some, None, option_map, Ok, Err, Result, MatchBool, OnOk, IfErr, IsSome, refl, sym, ap, ◌∙◌, subst, inl, inr}
use Rattle.std.specs.FinMap.{empty, get, insert}
use Rattle.sqlite.specs.State.{State, HasCleanDisk}
use Rattle.store_text.specs.declared.head.AccountHead.{AccountHead}
use Rattle.store_text.specs.declared.part.Part.{Part}
use Rattle.store_accounts.specs.declared.refusal.Refusal.{Refusal}
use Rattle.store_accounts.specs.declared.refusal.Refusal.TheVariants.{Memory, UserExists, UserHasMail, BadAccount}
use Rattle.store_accounts.specs.Account.{Account, Accounts, is_closed_account, has_mail, with_user}
use Rattle.store_accounts.specs.Promises.{HasUser, IsFree, WritesStore, WritesAccount}
use Rattle.store_accounts.specs.Refusals.{IsTransient}
use Rattle.store_accounts.specs.Shows.{Presents}
use Rattle.store_accounts.specs.Whole.{whole, takes_whole}
use Rattle.managesieve_sessions.proofs.ActLemmas.{no_glance, glanced, read_shows, acts_read}
use Rattle.store_engine.specs.declared.answer.Answer.{Answer}
use Rattle.store_engine.specs.declared.answer.Answer.TheVariants.{Imported, Refused}
use Rattle.store_engine.specs.declared.standing.Standing.{Standing}
use Rattle.store_engine.specs.AccountEvents.{MachineRefuses, IsImportable, Replaces, ImportsUnder, Importing}
use Rattle.store_engine.specs.Hosts.{TurnsBy, MayTurnBy, MayRefuseImport, RefusesImport, ActsImport}
use Rattle.store_engine.specs.Lookups.{standing_of, over_standing, ReadsStanding}
use Rattle.store_engine.proofs.UserLemmas.{over_named, standing_found, name_free, written_by}

pub import_over_refuses : (head : AccountHead) (parts : List Part) (o : Option Standing) (refusal : Refusal) → IsImportable head parts → over_standing o ≡ Some refusal → RefusesImport head parts refusal
import_over_refuses head parts o refusal fit is = over_named o refusal (RefusesImport head parts) (inr (inl (refl, fit))) (inr (inr (inl (refl, fit)))) is

-- the refusals of the write, and of what is read before it
pub import_transient : {X : Type 0} (head : AccountHead) (parts : List Part) (q : Result X Refusal) → IsImportable head parts → IfErr q IsTransient → IfErr q (RefusesImport head parts)
import_transient head parts (Ok x) fit transient = tt
import_transient head parts (Err e) fit (inl memory) = inr (inr (inr (inl memory)))
import_transient head parts (Err e) fit (inr store) = inr (inr (inr (inr (store, fit))))

module _ (head : AccountHead) (parts : List Part) where
  abbrev Row : Accounts → Answer → Accounts → Type 0
  Row accounts = Importing accounts head parts

  abbrev May : Refusal → Type 0
  May = MayRefuseImport head parts

  -- no account of the text may be kept
  pub import_bad : (a : State) → (IsImportable head parts → ⊥) → ActsImport head parts a a (Err BadAccount)
  import_bad a bad = acts_read a a (TurnsBy Row May (Refused BadAccount)) (MayTurnBy Row) (Err BadAccount) (λ clean open_before. tt) (no_glance a) (λ clean accounts shown. inl (inr (bad, record { refused = refl; stays = refl })))

  -- no memory for the tests
  pub import_lacks : (a : State) (q : Result (Unit {0}) Refusal) → OnOk q ⊥ → IfErr q (λ e. e ≡ Memory) → ActsImport head parts a a q
  import_lacks a (Ok done) undone lack = absurd undone
  import_lacks a (Err e) undone lack = acts_read a a (TurnsBy Row May (Refused e)) (MayTurnBy Row) (Err e) (λ clean open_before. tt) (no_glance a) (λ clean accounts shown. inr (e, inl lack, refl, refl))

  module _ (fit : IsImportable head parts) (a b : State) (r : Result (Option Standing) Refusal) (read : ReadsStanding head.owner.name a b r) where
    may : (e : Refusal) → IsTransient e → May e
    may e (inl memory) = inl memory
    may e (inr store) = inr (store, fit)

    transient_turn : (e : Refusal) (accounts : Accounts) → IsTransient e → TurnsBy Row May (Refused e) accounts accounts
    transient_turn e accounts transient = inr (e, may e transient, refl, refl)

    -- how the account stands couldn't be read
    pub import_unread : (q : Result (Unit {0}) Refusal) → OnOk q ⊥ → IfErr q IsTransient → ActsImport head parts a b q
    import_unread (Ok done) undone transient = absurd undone
    import_unread (Err e) undone transient = acts_read a b (TurnsBy Row May (Refused e)) (MayTurnBy Row) (Err e) (λ clean open_before. tt) (glanced a b r read.keeps) (λ clean accounts shown. transient_turn e accounts transient)

    module _ (o : Option Standing) (was : r ≡ Ok o) where
      -- the name has an account that stands against it
      over_turn : (refusal : Refusal) (accounts : Accounts) (has : Option Account) → over_standing (option_map standing_of has) ≡ Some refusal → ImportsUnder accounts head parts has (Refused refusal) accounts
      over_turn refusal accounts None is = absurd (let no = is in cc)
      over_turn refusal accounts (Some account) is = go (is_closed_account account) (has_mail account) is
        where
          go : (closed full : Bool) → cond closed (cond full (Some UserHasMail) None) (Some UserExists) ≡ Some refusal
              → MatchBool closed (MatchBool full (MachineRefuses UserHasMail accounts (Refused refusal) accounts) (Replaces accounts head parts (Refused refusal) accounts)) (MachineRefuses UserExists accounts (Refused refusal) accounts)
          go true true e = let same : UserHasMail ≡ refusal = cc in record { refused = ap Refused (sym same); stays = refl }
          go true false e = absurd (let no = e in cc)
          go false full e = let same : UserExists ≡ refusal = cc in record { refused = ap Refused (sym same); stays = refl }

      pub import_over : (refusal : Refusal) → over_standing o ≡ Some refusal → ActsImport head parts a b (Err refusal)
      import_over refusal is = acts_read a b (TurnsBy Row May (Refused refusal)) (MayTurnBy Row) (Err refusal) (λ clean open_before. tt) (glanced a b r read.keeps)
          (λ clean accounts shown.
          let p = (read_shows a b r o was read.keeps clean accounts shown).0 in
          inl (inl (fit, over_turn refusal accounts (get accounts head.owner.name) (sym (ap over_standing (standing_found head.owner.name a b r read o was clean accounts p)) ∙ is))))

      -- the name has no account
      abbrev added : Accounts → Accounts
      added all = insert all head.owner.name (whole head parts empty)

      pub import_added : is_some o ≡ false → (c : State) (w : Result (Unit {0}) Refusal) → WritesStore (IsFree head.owner.name) added b c w → ActsImport head parts a c w
      import_added none c w late = written_by Row May Imported transient_turn a b c r o was read.keeps (IsFree head.owner.name) added fits w late.made late.settled (λ clean tables. late.same clean) late.crash w refl late.named
        where
          fits : HasCleanDisk b → (accounts : Accounts) → Presents a.now accounts → IsFree head.owner.name accounts × Row accounts Imported (added accounts)
          fits clean accounts p =
              let is = name_free o none (get accounts head.owner.name) (standing_found head.owner.name a b r read o was clean accounts p) in
              (is, inl (fit, subst (λ h. ImportsUnder accounts head parts h Imported (added accounts)) (sym is) (record { imported = refl; changed = refl })))

      -- the name has a closed account without mail
      abbrev replaced : Accounts → Accounts
      replaced accounts = with_user accounts head.owner.name (takes_whole head parts)

      replace_turn : is_some o ≡ true → over_standing o ≡ None → (accounts : Accounts) (has : Option Account) → o ≡ option_map standing_of has → IsSome has × ImportsUnder accounts head parts has Imported (replaced accounts)
      replace_turn some clear accounts None is = absurd (let no : false ≡ true = sym (ap is_some is) ∙ some in cc)
      replace_turn some clear accounts (Some account) is = (refl, go (is_closed_account account) (has_mail account) (sym (ap over_standing is) ∙ clear))
        where
          go : (closed full : Bool) → cond closed (cond full (Some UserHasMail) None) (Some UserExists) ≡ None
              → MatchBool closed (MatchBool full (MachineRefuses UserHasMail accounts Imported (replaced accounts)) (Replaces accounts head parts Imported (replaced accounts))) (MachineRefuses UserExists accounts Imported (replaced accounts))
          go true true e = absurd (let no = e in cc)
          go true false e = record { imported = refl; changed = refl }
          go false full e = absurd (let no = e in cc)

      pub import_replaced : is_some o ≡ true → over_standing o ≡ None → (c : State) (w : Result (Unit {0}) Refusal) → WritesAccount head.owner.name (takes_whole head parts) b c w → IfErr w IsTransient → ActsImport head parts a c w
      import_replaced some clear c w late named = written_by Row May Imported transient_turn a b c r o was read.keeps (HasUser head.owner.name) replaced fits w late.made late.settled late.same late.crash w refl named
        where
          fits : HasCleanDisk b → (accounts : Accounts) → Presents a.now accounts → HasUser head.owner.name accounts × Row accounts Imported (replaced accounts)
          fits clean accounts p =
              let turn = replace_turn some clear accounts (get accounts head.owner.name) (standing_found head.owner.name a b r read o was clean accounts p) in
              (turn.0, inl (fit, turn.1))
