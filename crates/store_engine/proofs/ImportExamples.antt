-- An account that comes whole, on small cases: what is right, and beside it what nearly is.
use Rattle.std.proofs.Common.{◌≡◌, ℕ, true, false, cond, List, [], ◌∷◌, codes, replicate, Some, None, MatchBool, refl, sym, ap, ◌∙◌, subst, inl, inr, length, nat_le, ◌&&◌}
use Rattle.std.specs.Prelude.{unwrap_or}
use Rattle.std.specs.FinMap.{empty, get, insert, get-empty, get-insert}
use Rattle.std.specs.Ordering.{is_eq}
use Rattle.std.proofs.lemmas.Cmp.{nat_list_cmp_total}
use Rattle.store_text.specs.declared.head.AccountHead.{AccountHead}
use Rattle.store_text.specs.declared.part.Part.{Part}
use Rattle.store_text.specs.declared.part.Part.TheVariants.{Script, Reply, Mail, Copy}
use Rattle.store_accounts.specs.Account.{bytes_cmp, reply_cmp, Account, Accounts, no_accounts, latest, is_closed_account, has_mail, with_user}
use Rattle.store_accounts.specs.Whole.{whole, takes_whole, password_of}
use Rattle.store_accounts.specs.declared.refusal.Refusal.TheVariants.{UserExists, UserHasMail, BadAccount}
use Rattle.store_accounts.proofs.AccountLemmas.{reply_total}
use Rattle.managesieve_sessions.specs.Scripts.{IsValidScript}
use Rattle.store_engine.specs.AccountEvents.{MachineRefuses, IsImportable, Replaces, ImportsUnder, Importing}
use Rattle.store_engine.specs.Importable.{may_guard, have_short_flags}
use Rattle.store_engine.specs.Limits.{is_user_name}
use Rattle.store_engine.specs.declared.answer.Answer.{Answer}
use Rattle.store_engine.specs.declared.answer.Answer.TheVariants.{Imported, Refused}
use Rattle.store_engine.proofs.AloneLemmas.{put_own}

abbrev alice : List ℕ
alice = codes "alice"

-- the head of a text of alice's account, which has had nothing yet
abbrev her_head : AccountHead
her_head = record {
  owner = record { name = alice; address = codes "alice@example.org"; salt = codes "salt"; digest = codes "digest"; active = None };
  numbers = record { rounds = 10000; next_copy = 1; next_out = 1; next_notice = 1 };
}

-- ---- moments: under one handle for one sender the later one stays

abbrev place : List ℕ × List ℕ
place = (codes "key", codes "bob@example.net")

abbrev moment_at : ℕ → Part
moment_at moment = Reply (codes "key") (codes "bob@example.net") moment

-- what is kept after a text with this moment came over an account that kept that one
kept_after : (a : Account) (there came : ℕ) → get a.replies place ≡ Some there → get (takes_whole her_head (moment_at came ∷ []) a).replies place ≡ Some (latest (Some there) came)
kept_after a there came has =
    get-insert reply_total a.replies place (latest (get a.replies place) came) place
    ∙ (ap (λ b. cond b (Some (latest (get a.replies place) came)) (get a.replies place)) itself ∙ ap (λ o. Some (latest o came)) has)
  where
    itself : is_eq (reply_cmp place place) ≡ true
    itself = refl

later_came : (a : Account) → get a.replies place ≡ Some 5 → get (takes_whole her_head (moment_at 9 ∷ []) a).replies place ≡ Some 9
later_came a has = kept_after a 5 9 has

later_was_there : (a : Account) → get a.replies place ≡ Some 9 → get (takes_whole her_head (moment_at 5 ∷ []) a).replies place ≡ Some 9
later_was_there a has = kept_after a 9 5 has

-- near miss: the text's moment goes over a later one
earlier_wins : (a : Account) → get a.replies place ≡ Some 9 → get (takes_whole her_head (moment_at 5 ∷ []) a).replies place ≡ Some 5 → ⊥
earlier_wins a has is = let no : ◌≡◌ {A = ℕ} 9 5 = ap (λ o. unwrap_or o 0) (sym (later_was_there a has) ∙ is) in cc

module _ (parts : List Part) where
  -- ---- under a free name

  free_name : IsImportable her_head parts → Importing no_accounts her_head parts Imported (insert no_accounts alice (whole her_head parts empty))
  free_name fit = inl (fit, subst (λ o. ImportsUnder no_accounts her_head parts o Imported (insert no_accounts alice (whole her_head parts empty))) (sym (get-empty bytes_cmp alice)) (record { imported = refl; changed = refl }))

  -- near miss: it is refused as if somebody had the name
  free_name_refused : (later : Accounts) → IsImportable her_head parts → Importing no_accounts her_head parts (Refused UserExists) later → ⊥
  free_name_refused later fit (inl (same, made)) =
      let is = subst (λ o. ImportsUnder no_accounts her_head parts o (Refused UserExists) later) (get-empty bytes_cmp alice) made in
      let no : Refused UserExists ≡ Imported = is.imported in
      cc
  free_name_refused later fit (inr (bad, made)) = absurd (bad fit)

  module _ (a : Account) where
    -- one account, alice's
    one : Accounts
    one = insert no_accounts alice a

    has_alice : get one alice ≡ Some a
    unfolding one
    has_alice = put_own no_accounts alice a refl

    by_alice : (answer : Answer) (later : Accounts) → IsImportable her_head parts → Importing one her_head parts answer later
        → MatchBool (is_closed_account a) (MatchBool (has_mail a) (MachineRefuses UserHasMail one answer later) (Replaces one her_head parts answer later)) (MachineRefuses UserExists one answer later)
    by_alice answer later fit (inl (same, made)) = subst (λ o. ImportsUnder one her_head parts o answer later) has_alice made
    by_alice answer later fit (inr (bad, made)) = absurd (bad fit)

    -- over a closed account without mail
    over_closed : IsImportable her_head parts → is_closed_account a ≡ true → has_mail a ≡ false → Importing one her_head parts Imported (with_user one alice (takes_whole her_head parts))
    over_closed fit closed none =
        inl (
          fit,
          subst (λ o. ImportsUnder one her_head parts o Imported (with_user one alice (takes_whole her_head parts))) (sym has_alice)
              (subst (λ b. MatchBool b (MatchBool (has_mail a) (MachineRefuses UserHasMail one Imported (with_user one alice (takes_whole her_head parts))) (Replaces one her_head parts Imported (with_user one alice (takes_whole her_head parts))))
              (MachineRefuses UserExists one Imported (with_user one alice (takes_whole her_head parts)))) (sym closed)
              (subst (λ b. MatchBool b (MachineRefuses UserHasMail one Imported (with_user one alice (takes_whole her_head parts))) (Replaces one her_head parts Imported (with_user one alice (takes_whole her_head parts)))) (sym none)
              (record { imported = refl; changed = refl }))),
        )

    -- near misses: over one that is open, and over one that has mail
    over_open : (later : Accounts) → IsImportable her_head parts → is_closed_account a ≡ false → Importing one her_head parts Imported later → ⊥
    over_open later fit open_is made =
        let row = subst (λ b. MatchBool b (MatchBool (has_mail a) (MachineRefuses UserHasMail one Imported later) (Replaces one her_head parts Imported later)) (MachineRefuses UserExists one Imported later)) open_is (by_alice Imported later fit made) in
        let no : Imported ≡ Refused UserExists = row.refused in
        cc

    over_mail : (later : Accounts) → IsImportable her_head parts → is_closed_account a ≡ true → has_mail a ≡ true → Importing one her_head parts Imported later → ⊥
    over_mail later fit closed some made =
        let row = subst (λ b. MatchBool b (MatchBool (has_mail a) (MachineRefuses UserHasMail one Imported later) (Replaces one her_head parts Imported later)) (MachineRefuses UserExists one Imported later)) closed (by_alice Imported later fit made) in
        let mail = subst (λ b. MatchBool b (MachineRefuses UserHasMail one Imported later) (Replaces one her_head parts Imported later)) some row in
        let no : Imported ≡ Refused UserHasMail = mail.refused in
        cc

-- near miss: a script comes that means nothing
invalid_script : (text : List ℕ) (accounts later : Accounts) → (IsValidScript text → ⊥) → Importing accounts her_head (Script (codes "main") text ∷ []) Imported later → ⊥
invalid_script text accounts later wrong (inl (fit, made)) = wrong (fit.sound.scripts (codes "main") text there).valid
  where
    there : get (whole her_head (Script (codes "main") text ∷ []) empty).scripts (codes "main") ≡ Some text
    there = get-insert nat_list_cmp_total empty (codes "main") text (codes "main")
invalid_script text accounts later wrong (inr (bad, is)) = let no : Imported ≡ Refused BadAccount = is.refused in cc

-- near miss: the name has a blank
blank_name : (parts : List Part) (accounts later : Accounts) (head : AccountHead) → head.owner.name ≡ codes "a b" → Importing accounts head parts Imported later → ⊥
blank_name parts accounts later head is (inl (fit, made)) = let no : false ≡ true = subst (λ n. is_user_name n ≡ true) is fit.named in cc
blank_name parts accounts later head is (inr (bad, told)) = let no : Imported ≡ Refused BadAccount = told.refused in cc

-- ---- passwords

-- one that `adduser` makes, and that of a closed account
usual : may_guard (password_of her_head) ≡ true
usual = refl

closed_one : may_guard (record { salt = codes "salt"; rounds = 0; digest = codes "digest" }) ≡ true
closed_one = refl

-- near misses: a login would take a round more than others, or hash a longer salt; and an account without a digest is a removed one
a_round_more : may_guard (record { salt = codes "salt"; rounds = 10001; digest = codes "digest" }) ≡ false
a_round_more = refl

long_salt : may_guard (record { salt = replicate 65 0; rounds = 10000; digest = codes "digest" }) ≡ false
long_salt = refl

removed : may_guard (record { salt = codes "salt"; rounds = 0; digest = [] }) ≡ false
removed = refl

unguarded : (parts : List Part) (accounts later : Accounts) (head : AccountHead) → may_guard (password_of head) ≡ false → Importing accounts head parts Imported later → ⊥
unguarded parts accounts later head is (inl (fit, made)) = let no : false ≡ true = sym is ∙ fit.guarded in cc
unguarded parts accounts later head is (inr (bad, told)) = let no : Imported ≡ Refused BadAccount = told.refused in cc

-- ---- flags

-- as many octets as a hundred names of 128 have; near misses: one more, of a copy too
whole_flags : (flags : List ℕ) → length flags ≡ 12899 → have_short_flags (Mail 1 (codes "a") (codes "x") flags ∷ []) ≡ true
whole_flags flags is = ap (λ n. nat_le n 12899 && true) is

long_flags : (flags : List ℕ) → length flags ≡ 12900 → have_short_flags (Mail 1 (codes "a") (codes "x") flags ∷ []) ≡ false
long_flags flags is = ap (λ n. nat_le n 12899 && true) is

long_flags_of_a_copy : (flags : List ℕ) → length flags ≡ 12900 → have_short_flags (Copy 2 (codes "a") 1 flags ∷ []) ≡ false
long_flags_of_a_copy flags is = ap (λ n. nat_le n 12899 && true) is
