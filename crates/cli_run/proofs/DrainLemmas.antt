-- A folder that was drained: what tables show, and what the whole program leaves.
use Rattle.std.proofs.Common.{◌≡◌, ◌⊎◌, ℕ, suc, Bool, List, [], ◌++◌, take, arith, Option, Result, Ok, Err, is_ok, IfErr, IsTrue, refl, sym, ◌∙◌, ap, subst, inl, inr}
use Rattle.std.proofs.lemmas.List.{append-nil}
use Rattle.std.specs.Option.{option_copied}
use Rattle.sqlite.specs.Effect.{Database}
use Rattle.sqlite.specs.State.{State, HasCleanDisk}
use Rattle.maildir_files.specs.declared.kept.KeptMail.{KeptMail}
use Rattle.maildir_files.specs.declared.sink.SinkError.{SinkError}
use Rattle.maildir_files.specs.declared.sink.SinkError.TheVariants as sink
use Rattle.store_accounts.specs.Account.{Accounts}
use Rattle.store_accounts.specs.Promises.{HasNoOpen}
use Rattle.store_accounts.specs.Opening.{IsKnown}
use Rattle.store_accounts.specs.Shows.{OpensAs}
use Rattle.cli_run.specs.declared.fault.RunFault.{RunFault}
use Rattle.cli_run.specs.declared.fault.RunFault.TheVariants.{Stream, NoMaildir}
use Rattle.cli_subcommands.specs.declared.subcommand.drain.DrainArgs.{DrainArgs}
use Rattle.cli_run.specs.Faults.{no_user, status_of, sink_fault, IsPrinted, IsSudden, IsHindered}
use Rattle.cli_run.specs.Draining.{mail_in, GrowsBy, StoppedShort, MovesMail, BrokeOff, Drained, Drains, IsUnkept, TurnsTables, MovesTables, IsMost, StopsDraining, WordDrained, HasDrained, drained_line, sink_mails}
use Rattle.cli_run.specs.Values.{HasNoNumber}
use Rattle.cli_run.proofs.LeaveLemmas.{grown_none}
use Rattle.cli_run.proofs.WordLemmas.{carried_turned, stays_turned, turned_wider, no_memory, broken, denied, sudden_hinders, kept_same}
use Rattle.cli_run.specs.Transitions.{from_to}

-- ---- over tables

module _ (user folder : List ℕ) (Grew : List (List ℕ) → Type 0) where
  -- a store was taken, messages were moved, and it was handed back
  pub moves_turned : (answers_ok : Bool) (Became : Accounts → Accounts → Type 0) (held new : Database) (taken given : State) → OpensAs held taken.now → IsKnown held → HasCleanDisk given → IsTrue given.is_open → new ≡ given.now
      → MovesMail user folder Grew answers_ok Became taken given → TurnsTables Became held new
  moves_turned answers_ok Became held new taken given opens ours clean live back moves = carried_turned held new taken given opens ours clean live back Became moves.carries

  -- before anything moved
  pub nothing_drained : (most : ℕ) (fault : RunFault) (accounts : Accounts) → Grew [] → BrokeOff user folder Grew most fault accounts accounts
  nothing_drained most fault accounts same = (0, record { left = refl; kept = inl same }, omega arith, inl (refl, same))

  -- what a later step refuses, so that another try may help, leaves what moved
  pub drained_before : (most count : ℕ) (fault : RunFault) (accounts later : Accounts) → status_of fault ≡ 75 → Drained user folder Grew most (Ok count) accounts later → BrokeOff user folder Grew most fault accounts later
  drained_before most count fault accounts later transient h = (count, record { left = h.1.moved.left; kept = inl h.1.moved.kept }, h.1.at_most, inr transient)

-- why it wasn't drained to its end, by what the call over the store answered
stops : (Sunk : SinkError → Type 0) (Denied : RunFault → Type 0) (user : List ℕ) (q : Result ℕ RunFault) → IfErr q (λ fault. IsSudden (IsUnkept Sunk) fault ⊎ (fault ≡ no_user)) → (accounts : Accounts) → (q ≡ Err no_user → HasNoOpen user accounts)
    → IfErr q (λ fault. StopsDraining Sunk ⊥ Denied user fault accounts)
stops Sunk Denied user (Ok count) named accounts free = tt
stops Sunk Denied user (Err fault) named accounts free = elim named [
  | inl sudden ↦ inl (sudden_hinders (IsUnkept Sunk) ⊥ Denied fault sudden)
  | inr none ↦ inr (inr (none, free (ap Err none), λ no. no))
]

-- a store was taken for the word, drained, and handed back
pub drained_turned : (Sunk : SinkError → Type 0) (Denied : RunFault → Type 0) (asked : DrainArgs) (user folder : List ℕ) → user ≡ asked.user.now → folder ≡ asked.folder.now → (tells : Bool) (had has : List KeptMail) (most : ℕ) (q r : Result ℕ RunFault) → q ≡ r
    → IfErr q (λ fault. IsSudden (IsUnkept Sunk) fault ⊎ (fault ≡ no_user)) → (held new : Database) (taken given : State) → OpensAs held taken.now → IsKnown held → HasCleanDisk given → IsTrue given.is_open → new ≡ given.now
    → Drains user folder (sink_mails tells had has) most q taken given → MovesTables Sunk Denied asked (sink_mails tells had has) most r (from_to held new)
drained_turned Sunk Denied asked user folder user_is folder_is tells had has most q r same named held new taken given opens ours clean live back moves =
    let Grew = GrowsBy user folder tells had has in
    let Became : Accounts → Accounts → Type 0 = λ accounts later. Drained user folder Grew most q accounts later × (q ≡ Err no_user → HasNoOpen user accounts) in
    let Wider : List ℕ → List ℕ → Result ℕ RunFault → Accounts → Accounts → Type 0 = λ u f o accounts later. Drained u f (GrowsBy u f tells had has) most o accounts later × IfErr o (λ fault. StopsDraining Sunk ⊥ Denied u fault accounts) in
    let turned = turned_wider Became (Wider user folder q) held new (λ accounts later h. (h.0, stops Sunk Denied user q named accounts h.1)) (moves_turned user folder Grew (is_ok q) Became held new taken given opens ours clean live back moves) in
    subst (λ o. TurnsTables (Wider asked.user.now asked.folder.now o) held new) same
    (subst (λ u. TurnsTables (Wider u asked.folder.now q) held new) user_is (subst (λ f. TurnsTables (Wider user f q) held new) folder_is turned))

-- no store was given out
pub drained_denied : (Sunk : SinkError → Type 0) (Denied : RunFault → Type 0) (asked : DrainArgs) (tells : Bool) (kept : List KeptMail) (most : ℕ) (fault : RunFault) (r : Result ℕ RunFault) → r ≡ Err fault → Denied fault → (held new : Database) → new ≡ held
    → MovesTables Sunk Denied asked (sink_mails tells kept kept) most r (from_to held new)
drained_denied Sunk Denied asked tells kept most fault r is why held new same =
    subst (λ o. MovesTables Sunk Denied asked (sink_mails tells kept kept) most o (from_to held new)) (sym is)
    (stays_turned (λ accounts later. Drained asked.user.now asked.folder.now (GrowsBy asked.user.now asked.folder.now tells kept kept) most (Err fault) accounts later × StopsDraining Sunk ⊥ Denied asked.user.now fault accounts) held new same
    (λ accounts. (nothing_drained asked.user.now asked.folder.now (GrowsBy asked.user.now asked.folder.now tells kept kept) most fault accounts (grown_none asked.user.now asked.folder.now tells kept), inl (denied (IsUnkept Sunk) ⊥ Denied fault why (λ no. no)))))

-- a sink whose growth is told by another name
module _ (user folder : List ℕ) (One Other : List (List ℕ) → Type 0) (told_so : (messages : List (List ℕ)) → One messages → Other messages) where
  stopped_so : (count : ℕ) (accounts later : Accounts) → StoppedShort user folder One count accounts later → StoppedShort user folder Other count accounts later
  stopped_so count accounts later h = record {
    left = h.left;
    kept = elim h.kept [ inl g ↦ inl (told_so (take count (mail_in accounts user folder)) g) | inr g ↦ inr (told_so (take (suc count) (mail_in accounts user folder)) g) ];
  }

  pub drained_so : (most : ℕ) (q : Result ℕ RunFault) (accounts later : Accounts) → Drained user folder One most q accounts later → Drained user folder Other most q accounts later
  drained_so most (Ok count) accounts later h = (
    h.0,
    record {
      moved = record { left = h.1.moved.left; kept = told_so (take count (mail_in accounts user folder)) h.1.moved.kept };
      at_most = h.1.at_most;
      whole = h.1.whole;
    },
  )
  drained_so most (Err fault) accounts later h = (h.0, stopped_so h.0 accounts later h.1, h.2, elim h.3 [ inl none ↦ inl (none.0, told_so [] none.1) | inr transient ↦ inr transient ])

-- the word: the sink was opened, the store was drained, and the line was written
module _ (Sunk : SinkError → Type 0) (Denied : RunFault → Type 0) (asked : DrainArgs) (tells : Bool) (had opened has : List KeptMail) (same : IsTrue tells → opened ≡ had) (most : ℕ) (digits : IsMost (option_copied asked.most) most) (right : HasNoNumber (option_copied asked.most) → ⊥) (q : Result ℕ RunFault) (held new : Database)
    (drained : MovesTables Sunk Denied asked (sink_mails tells opened has) most q (from_to held new)) where
  abbrev Gained : List (List ℕ) → Type 0
  Gained = GrowsBy asked.user.now asked.folder.now tells had has

  abbrev NoMost : Type 0
  NoMost = HasNoNumber (option_copied asked.most)

  abbrev Did : Option (List ℕ) → Option (List ℕ) → Result (Unit {0}) RunFault → Database → Database → Type 0
  Did old out r held new = HasDrained Sunk Denied asked (sink_mails tells had has) (from_to old out) r (from_to held new)

  as_told : (messages : List (List ℕ)) → GrowsBy asked.user.now asked.folder.now tells opened has messages → Gained messages
  as_told messages h told = let g = h told in (g.0, g.1 ∙ ap (λ l. l ++ g.0) (same told), g.2)

  abbrev Became : Result ℕ RunFault → Accounts → Accounts → Type 0
  Became r accounts later = Drained asked.user.now asked.folder.now Gained most r accounts later × IfErr r (λ fault. StopsDraining Sunk ⊥ Denied asked.user.now fault accounts)

  as_drained : (r : Result ℕ RunFault) → q ≡ r → TurnsTables (Became r) held new
  as_drained r is = subst (λ o. TurnsTables (Became o) held new) is
      (turned_wider (λ accounts later. Drained asked.user.now asked.folder.now (GrowsBy asked.user.now asked.folder.now tells opened has) most q accounts later × IfErr q (λ fault. StopsDraining Sunk ⊥ Denied asked.user.now fault accounts)) (Became q) held new
      (λ accounts later h. (drained_so asked.user.now asked.folder.now (GrowsBy asked.user.now asked.folder.now tells opened has) Gained as_told most q accounts later h.0, h.1)) drained)

  still : (fault : RunFault) → IsHindered (IsUnkept Sunk) ⊥ Denied fault → IsHindered (IsUnkept Sunk) NoMost Denied fault
  still fault h = elim h [
    | inl e ↦ inl e
    | inr more ↦ elim more [
      | inl e ↦ inr (inl e)
      | inr more ↦ elim more [
        | inl e ↦ broken (IsUnkept Sunk) NoMost Denied fault e.0 e.1
        | inr more ↦ elim more [ inl none ↦ absurd none.1 | inr why ↦ denied (IsUnkept Sunk) NoMost Denied fault why.0 right ]
      ]
    ]
  ]

  stops_wider : (fault : RunFault) (accounts : Accounts) → StopsDraining Sunk ⊥ Denied asked.user.now fault accounts → StopsDraining Sunk NoMost Denied asked.user.now fault accounts
  stops_wider fault accounts h = elim h [
    | inl hindered ↦ inl (still fault hindered)
    | inr more ↦ elim more [ inl none ↦ inr (inl (none.0, none.1, right)) | inr free ↦ inr (inr (free.0, free.1, right)) ]
  ]

  pub word_broke_off : (out : Option (List ℕ)) (fault : RunFault) → q ≡ Err fault → Did out out (Err fault) held new
  word_broke_off out fault is =
      turned_wider (Became (Err fault)) (WordDrained Sunk Denied asked Gained out out (Err fault)) held new
      (λ accounts later h. (most, inl digits, h.0, inl (kept_same out, stops_wider fault accounts h.1))) (as_drained (Err fault) is)

  -- the line was printed, or a front of it
  pub word_printed : (old out : Option (List ℕ)) (count : ℕ) (r : Result (Unit {0}) RunFault) → q ≡ Ok count → IsPrinted r old out (drained_line count) → Did old out r held new
  unfolding drained_before
  word_printed old out count (Ok done) is printed =
      turned_wider (Became (Ok count)) (WordDrained Sunk Denied asked Gained old out (Ok done)) held new (λ accounts later h. (most, count, digits, h.0, printed)) (as_drained (Ok count) is)
  word_printed old out count (Err fault) is printed =
      turned_wider (Became (Ok count)) (WordDrained Sunk Denied asked Gained old out (Err fault)) held new
      (λ accounts later h. (most, inl digits, drained_before asked.user.now asked.folder.now Gained most count fault accounts later (ap status_of printed.0) h.0, inr printed)) (as_drained (Ok count) is)

-- before the store was taken
pub word_refused : (Sunk : SinkError → Type 0) (Denied : RunFault → Type 0) (asked : DrainArgs) (tells : Bool) (had has : List KeptMail) (same : IsTrue tells → has ≡ had) (fault : RunFault)
    → IsHindered (IsUnkept Sunk) (HasNoNumber (option_copied asked.most)) Denied fault ⊎ ((fault ≡ NoMaildir) × Sunk sink.NoMaildir × (HasNoNumber (option_copied asked.most) → ⊥))
    → (out : Option (List ℕ)) (held : Database) → HasDrained Sunk Denied asked (sink_mails tells had has) (from_to out out) (Err fault) (from_to held held)
word_refused Sunk Denied asked tells had has same fault cause out held =
    stays_turned (WordDrained Sunk Denied asked (GrowsBy asked.user.now asked.folder.now tells had has) out out (Err fault)) held held refl
    (λ accounts.
    let none = nothing_drained asked.user.now asked.folder.now (GrowsBy asked.user.now asked.folder.now tells had has) 0 fault accounts (λ told. ([], same told ∙ sym (append-nil had), tt)) in
    (0, inr refl, none, inl (kept_same out, elim cause [ inl hindered ↦ inl hindered | inr maildir ↦ inr (inl maildir) ])))

-- why the place for the messages couldn't be opened
pub sunk_cause : (Sunk : SinkError → Type 0) (Wrong : Type 0) (Denied : RunFault → Type 0) → (Wrong → ⊥) → (error : SinkError) → Sunk error
    → IsHindered (IsUnkept Sunk) Wrong Denied (sink_fault error) ⊎ ((sink_fault error ≡ NoMaildir) × Sunk sink.NoMaildir × (Wrong → ⊥))
sunk_cause Sunk Wrong Denied right sink.Memory why = inl (no_memory (IsUnkept Sunk) Wrong Denied)
sunk_cause Sunk Wrong Denied right sink.NoMaildir why = inr (refl, why, right)
sunk_cause Sunk Wrong Denied right sink.Failed why = inl (broken (IsUnkept Sunk) Wrong Denied Stream refl (sink.Failed, why))
