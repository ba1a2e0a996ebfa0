-- Answers of one user on two machines, where the account moved from the one to the other.
use Rattle.std.proofs.Common.{◌≡◌, ◌≤◌, ℕ, Bool, true, false, cond, List, [], ◌∷◌, fold, Option, Some, None, option_map, MatchBool, refl, sym, ap, ◌∙◌, subst, inl, inr, arith}
use Rattle.std.specs.FinMap.{empty, get, insert, get-empty, get-insert}
use Rattle.std.specs.Ordering.{is_eq}
use Rattle.sqlite_typed.proofs.TestLemmas.{bytes_eq_refl}
use Rattle.store_text.specs.declared.head.AccountHead.{AccountHead}
use Rattle.store_text.specs.declared.part.Part.{Part}
use Rattle.store_text.specs.declared.part.Part.TheVariants.{Script, Reply, Mail, Copy, Letter, Notice}
use Rattle.store_accounts.specs.Account.{reply_cmp, latest, Account, Accounts, ReplyMoments, is_closed_account, has_mail}
use Rattle.store_accounts.specs.Whole.{whole, takes_whole, replies_with}
use Rattle.store_accounts.specs.declared.refusal.Refusal.TheVariants.{UserExists, UserHasMail, BadAccount}
use Rattle.store_accounts.proofs.AccountLemmas.{reply_total}
use Rattle.sieve_vacation.specs.Handles.{handle_key_of}
use Rattle.store_engine.specs.AccountEvents.{MachineRefuses, Replaces, ImportsUnder, Importing}
use Rattle.store_engine.specs.Spacing.{Thread, SentReply, kept_in, kept_moment, IsAtLeast, AreMomentsKept, IsSpacing, IsMove, GoOn}
use Rattle.store_engine.specs.declared.answer.Answer.TheVariants.{Imported, Refused}
use Rattle.store_engine.proofs.AloneLemmas.{put_own, changed_own}
use Rattle.store_engine.proofs.CopyLemmas.{copy_named, copy_makes}
use Rattle.store_engine.proofs.SpacingLemmas.{IsNoSooner, no_sooner_same, at_least_after, follow_kept}

-- ---- the moments of a text, over any that are there

-- of two moments the later one of each and a third
latest_keeps : (o later : Option ℕ) (moment : ℕ) → IsNoSooner o later → latest o moment ≤ latest later moment
latest_keeps None None moment before = omega arith
latest_keeps None (Some y) moment before = omega arith
latest_keeps (Some x) None moment before = absurd before
latest_keeps (Some x) (Some y) moment before = omega arith

-- where no moment is sooner before a moment comes, none is after it
put_over : (one other : ReplyMoments) (k : List ℕ × List ℕ) (moment : ℕ) → ((key : List ℕ × List ℕ) → IsNoSooner (get one key) (get other key)) → (key : List ℕ × List ℕ)
    → IsNoSooner (get (insert one k (latest (get one k) moment)) key) (get (insert other k (latest (get other k) moment)) key)
put_over one other k moment before key =
    subst (λ o. IsNoSooner o (get (insert other k (latest (get other k) moment)) key)) (sym (get-insert reply_total one k (latest (get one k) moment) key))
    (subst (IsNoSooner (cond (is_eq (reply_cmp key k)) (Some (latest (get one k) moment)) (get one key))) (sym (get-insert reply_total other k (latest (get other k) moment) key))
    (go (is_eq (reply_cmp key k))))
  where
    go : (t : Bool) → IsNoSooner (cond t (Some (latest (get one k) moment)) (get one key)) (cond t (Some (latest (get other k) moment)) (get other key))
    go true = latest_keeps (get one k) (get other k) moment (before k)
    go false = before key

-- nor after all parts
parts_over : (parts : List Part) (one other : ReplyMoments) → ((key : List ℕ × List ℕ) → IsNoSooner (get one key) (get other key)) → (key : List ℕ × List ℕ)
    → IsNoSooner (get (fold replies_with one parts) key) (get (fold replies_with other parts) key)
parts_over [] one other before = before
parts_over (Script a b ∷ parts) one other before = parts_over parts one other before
parts_over (Reply a b c ∷ parts) one other before =
    parts_over parts (insert one (a, b) (latest (get one (a, b)) c)) (insert other (a, b) (latest (get other (a, b)) c)) (put_over one other (a, b) c before)
parts_over (Mail a b c d ∷ parts) one other before = parts_over parts one other before
parts_over (Copy a b c d ∷ parts) one other before = parts_over parts one other before
parts_over (Letter a b c d e ∷ parts) one other before = parts_over parts one other before
parts_over (Notice a b c ∷ parts) one other before = parts_over parts one other before

nothing_first : (other : ReplyMoments) (key : List ℕ × List ℕ) → IsNoSooner (get (let none : ReplyMoments = empty in none) key) (get other key)
nothing_first other key = subst (λ o. IsNoSooner o (get other key)) (sym (get-empty reply_cmp key)) tt

-- ---- an account that comes

module _ (head : AccountHead) (parts : List Part) (here came : Accounts) where
  -- under its name there is an account that keeps no moment sooner than the text's
  abbrev Comes : Type 0
  Comes = (a : Account) × (get came head.owner.name ≡ Some a) × ((thread : Thread) → IsNoSooner (kept_in (Some (whole head parts empty)) thread) (kept_in (Some a) thread))

  over_one : (b : Account) → get here head.owner.name ≡ Some b → Replaces here head parts Imported came → Comes
  over_one b has is = (
    takes_whole head parts b,
    ap (λ all. get all head.owner.name) is.changed ∙ (changed_own here head.owner.name (takes_whole head parts) (bytes_eq_refl head.owner.name) ∙ ap (option_map (takes_whole head parts)) has),
    λ thread. parts_over parts empty b.replies (nothing_first b.replies) (handle_key_of thread.handle, thread.sender),
  )

  comes : (o : Option Account) → get here head.owner.name ≡ o → ImportsUnder here head parts o Imported came → Comes
  comes None has is = (
    whole head parts empty,
    ap (λ all. get all head.owner.name) is.changed ∙ put_own here head.owner.name (whole head parts empty) (bytes_eq_refl head.owner.name),
    λ thread. no_sooner_same (kept_in (Some (whole head parts empty)) thread),
  )
  comes (Some b) has is = closed (is_closed_account b) is
    where
      mail : (m : Bool) → MatchBool m (MachineRefuses UserHasMail here Imported came) (Replaces here head parts Imported came) → Comes
      mail true is = absurd (let never : Imported ≡ Refused UserHasMail = is.refused in cc)
      mail false is = over_one b has is

      closed : (c : Bool) → MatchBool c (MatchBool (has_mail b) (MachineRefuses UserHasMail here Imported came) (Replaces here head parts Imported came)) (MachineRefuses UserExists here Imported came) → Comes
      closed true is = mail (has_mail b) is
      closed false is = absurd (let never : Imported ≡ Refused UserExists = is.refused in cc)

-- ---- a move

there : (head : AccountHead) (parts : List Part) (here came : Accounts) → Importing here head parts Imported came → Comes head parts here came
there head parts here came (inl (fit, is)) = comes head parts here came (get here head.owner.name) refl is
there head parts here came (inr (bad, is)) = absurd (let never : Imported ≡ Refused BadAccount = is.refused in cc)

-- what the first machine keeps of an answer the second one keeps too
kept_there : (user : List ℕ) (left here came : Accounts) → IsMove user left here came → (thread : Thread) (moment : ℕ) → thread.user ≡ user → IsAtLeast (kept_moment left thread) moment → IsAtLeast (kept_moment came thread) moment
kept_there user left here came move thread moment own held =
    let named : move.head.owner.name ≡ user = copy_named move.text user move.account move.head move.parts move.copied move.read in
    let makes : whole move.head move.parts empty ≡ move.account = copy_makes move.text user move.account move.head move.parts move.copied move.read in
    let (a, has, keeps) = there move.head move.parts here came move.imported in
    let before : IsAtLeast (kept_in (Some move.account) thread) moment = subst (λ o. IsAtLeast (kept_in o thread) moment) (ap (get left) own ∙ move.had) held in
    let said : IsAtLeast (kept_in (Some (whole move.head move.parts empty)) thread) moment = subst (λ b. IsAtLeast (kept_in (Some b) thread) moment) (sym makes) before in
    let after : IsAtLeast (kept_in (Some a) thread) moment = at_least_after (kept_in (Some (whole move.head move.parts empty)) thread) (kept_in (Some a) thread) moment (keeps thread) said in
    subst (λ o. IsAtLeast (kept_in o thread) moment) (sym (ap (get came) (own ∙ sym named) ∙ has)) after

go_on : (user : List ℕ) (left here came end : Accounts) → IsMove user left here came → (first second : List SentReply) → AreMomentsKept left first → IsSpacing came end second → GoOn user first second
go_on user left here came end move [] second held then = tt
go_on user left here came end move (entry ∷ more) second held then =
    (λ own. follow_kept came entry second (kept_there user left here came move entry.thread entry.moment own held.0) then.after_start, go_on user left here came end move more second held.1 then)

pub spaced_on : (user : List ℕ) (start left here came end : Accounts) (first second : List SentReply) → IsSpacing start left first → IsMove user left here came → IsSpacing came end second → GoOn user first second
spaced_on user start left here came end first second before move then = go_on user left here came end move first second before.kept_in_the_end then
