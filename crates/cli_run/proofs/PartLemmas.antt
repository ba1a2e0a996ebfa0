-- The parts of an account are put, one after the other.
use Rattle.std.proofs.Common.{◌≡◌, ◌+◌, ◌⊎◌, ℕ, List, [], ◌∷◌, ◌++◌, length, Option, Some, None, Result, Ok, Err, OnOk, IfOk, IfErr, IfSome, IsTrue, refl, sym, ap, ◌∙◌, subst, inl, inr, append_assoc, append-nil, arith}
use Rattle.std.proofs.lemmas.List.{length-append}
use Rattle.std.proofs.lemmas.List.Concat.{flat_map-append}
use Rattle.std.specs.FinMap.{get}
use Rattle.std.specs.Io.KnownBytes.{Appends}
use Rattle.std.specs.List.{flat_map}
use Rattle.store_text.specs.Text.{part_line}
use Rattle.store_text.specs.Writing.{HasWritten}
use Rattle.store_text.specs.declared.part.Part.{Part}
use Rattle.store_text.specs.declared.writing.Writer.{Writer}
use Rattle.store_export.specs.Reading.{AreRead, IsNextPart}
use Rattle.store_export.specs.declared.contents.Contents.{Contents}
use Rattle.sqlite.specs.State.{State, HasCleanDisk}
use Rattle.store_tables.proofs.ResultLemmas.{on_any}
use Rattle.store_tables.proofs.WriteLemmas.{clean_before}
use Rattle.store_accounts.specs.Account.{Account}
use Rattle.store_accounts.specs.Promises.{KeepsTables, ReadsEntered}
use Rattle.store_accounts.specs.Refusals.{IsTransient}
use Rattle.store_accounts.specs.declared.refusal.Refusal.{Refusal}
use Rattle.store_accounts.proofs.KeepLemmas.{keeps_ok, keeps_refused, keeps_then, mid_shows}
use Rattle.managesieve_sessions.proofs.ActLemmas.{no_glance}
use Rattle.cli_run.specs.Exports.{PartsGoOn, PutsParts, PutsSome}
use Rattle.cli_run.specs.Faults.{memory, IsTextPut, IsSudden}
use Rattle.cli_run.specs.declared.fault.RunFault.{RunFault}
use Rattle.cli_run.specs.declared.fault.RunFault.TheVariants.{Refused}
use Rattle.cli_run.proofs.StreamLemmas.{front_on, nothing_written, put_then, written_on}
use Rattle.cli_run.proofs.WordLemmas.{sudden_refusal}
use Rattle.cli_run.specs.Transitions.{from_to}

-- ---- texts

-- one after another
some_then : (a b c : Option (List ℕ)) (first text : List ℕ) (r : Result (Unit {0}) RunFault) → Appends a b first → PutsSome r b c text → PutsSome r a c (first ++ text)
some_then a b c first text (Ok done) one two = written_on a b c first text one two
some_then a b c first text (Err fault) one (inl sudden) = inl (sudden.0, front_on a b c first text one sudden.1)
some_then a b c first text (Err fault) one (inr cut) = inr (put_then a b c first text (Err fault) one cut)

-- of a text that was put, or cut
put_some : (a b : Option (List ℕ)) (text : List ℕ) (r : Result (Unit {0}) RunFault) → IsTextPut r a b text → PutsSome r a b text
put_some a b text (Ok done) put = put
put_some a b text (Err fault) put = inr put

-- nothing was put
none_put : (a : Option (List ℕ)) (fault : RunFault) (r : Result (Unit {0}) RunFault) → r ≡ Err fault → IsSudden ⊥ fault → PutsSome r a a []
none_put a fault r is sudden = subst (λ o. PutsSome o a a []) (sym is) (inl (sudden, (0, nothing_written a)))

-- ---- a part

module _ (contents : Contents) (at until : ℕ) (begun ended : Writer) (out : Option (List ℕ)) (old new : State) where
  -- of no part
  none_more : PartsGoOn contents at [] old
  none_more accounts p a has early first are = subst (λ l. AreRead contents l old.now a) (sym (append-nil early)) are

  none_parts : (r : Result (Unit {0}) RunFault) (fault : RunFault) → r ≡ Err fault → IsSudden ⊥ fault → KeepsTables old new r → PutsParts contents at until (from_to begun ended) (from_to out out) (from_to old new) r
  none_parts r fault is sudden keeps = record {
    keeps = keeps;
    parts = [];
    all = subst (λ o. OnOk o (at + 0 ≡ until)) (sym is) tt;
    read = λ clean. none_more;
    put = none_put out fault r is sudden;
    hashed = subst (λ o. OnOk o ((text : List ℕ) → HasWritten begun text → HasWritten ended (text ++ []))) (sym is) tt;
  }

  -- it couldn't be read
  pub part_unread : (user : List ℕ) (P : Part → Account → Type 0) (q : Result Part Refusal) (e : Refusal) → q ≡ Err e → ReadsEntered user P old new q → (r : Result (Unit {0}) RunFault) → r ≡ Err (Refused e) → PutsParts contents at until (from_to begun ended) (from_to out out) (from_to old new) r
  part_unread user P q e is reads r told =
      none_parts r (Refused e) told (sudden_refusal ⊥ e (subst (λ o. IfErr o IsTransient) is reads.named)) (keeps_refused old new q (Refused e) r told reads.keeps)

  -- there was no memory for its line
  pub part_unput : (user : List ℕ) (P : Part → Account → Type 0) (q : Result Part Refusal) (part : Part) → q ≡ Ok part → ReadsEntered user P old new q → (r : Result (Unit {0}) RunFault) → r ≡ Err memory → PutsParts contents at until (from_to begun ended) (from_to out out) (from_to old new) r
  part_unput user P q part is reads r told = none_parts r memory told (inl refl) (keeps_ok old new q part r is reads.keeps)

-- its line was put, or cut
module _ (contents : Contents) (at : ℕ) (begun ended : Writer) (out_old out_new : Option (List ℕ)) (old new : State) where
  pub part_put : (q : Result Part Refusal) (part : Part) → q ≡ Ok part → ReadsEntered contents.head.owner.name (λ p a. IsNextPart contents at p old.now a) old new q
      → (line : List ℕ) → line ≡ part_line part → ((text : List ℕ) → HasWritten begun text → HasWritten ended (text ++ part_line part))
      → (r : Result (Unit {0}) RunFault) → IsTextPut r out_old out_new line → PutsParts contents at (at + 1) (from_to begun ended) (from_to out_old out_new) (from_to old new) r
  part_put q part is reads line spelled hashed r put = record {
    keeps = keeps_ok old new q part r is reads.keeps;
    parts = part ∷ [];
    all = on_any r (at + 1 ≡ at + 1) refl;
    read = λ clean accounts p a has early first are.
        let found = subst (λ o. IfOk o (λ x. IfSome (get accounts contents.head.owner.name) (λ b. IsNextPart contents at x old.now b))) is (reads.found clean accounts p) in
        let next : IsNextPart contents at part old.now a = subst (λ o. IfSome o (λ b. IsNextPart contents at part old.now b)) has found in
        next early first are;
    put = put_some out_old out_new (flat_map part_line (part ∷ [])) r (subst (IsTextPut r out_old out_new) (spelled ∙ sym (append-nil (part_line part))) put);
    hashed = on_any r _ (λ text h. subst (λ l. HasWritten ended (text ++ l)) (sym (append-nil (part_line part))) (hashed text h));
  }

-- ---- parts in turn

module _ (contents : Contents) where
  -- none yet, over a connection that is open
  pub no_parts : (writer : Writer) (out : Option (List ℕ)) (s : State) → (HasCleanDisk s → IsTrue s.is_open) → PutsParts contents 0 0 (from_to writer writer) (from_to out out) (from_to s s) (Ok tt)
  no_parts writer out s live =
      let stays = no_glance s in
      record {
        keeps = record { same = stays.same; live = live; shut = stays.shut; crash = stays.crash };
        parts = [];
        all = refl;
        read = λ clean. none_more contents 0 0 writer writer out s s;
        put = nothing_written out;
        hashed = λ text h. subst (HasWritten writer) (sym (append-nil text)) h;
      }

  module _ (from mid until : ℕ) (w0 w1 w2 : Writer) (o0 o1 o2 : Option (List ℕ)) (s0 s1 s2 : State) (early : PutsParts contents from mid (from_to w0 w1) (from_to o0 o1) (from_to s0 s1) (Ok tt)) (r : Result (Unit {0}) RunFault) (late : PutsParts contents mid until (from_to w1 w2) (from_to o1 o2) (from_to s1 s2) r) where
    abbrev all_parts : List Part
    all_parts = early.parts ++ late.parts

    spelled : flat_map part_line early.parts ++ flat_map part_line late.parts ≡ flat_map part_line all_parts
    spelled = sym (flat_map-append part_line early.parts late.parts)

    counted : (q : Result (Unit {0}) RunFault) → OnOk q (mid + length late.parts ≡ until) → OnOk q (from + length all_parts ≡ until)
    counted (Ok done) is = omega (arith, is, length-append early.parts late.parts, early.all)
    counted (Err fault) is = tt

    hashes : (q : Result (Unit {0}) RunFault) → OnOk q ((text : List ℕ) → HasWritten w1 text → HasWritten w2 (text ++ flat_map part_line late.parts)) → OnOk q ((text : List ℕ) → HasWritten w0 text → HasWritten w2 (text ++ flat_map part_line all_parts))
    hashes (Ok done) two = λ text h.
        subst (HasWritten w2) (append_assoc text (flat_map part_line early.parts) (flat_map part_line late.parts) ∙ ap (λ l. text ++ l) spelled) (two (text ++ flat_map part_line early.parts) (early.hashed text h))
    hashes (Err fault) two = tt

    reads : HasCleanDisk s2 → PartsGoOn contents from all_parts s0
    reads clean accounts p a has first len are =
        let before = clean_before s1 s2 _ late.keeps.crash clean in
        let now = (early.keeps.same before (p.0, p.1)).now_is (early.keeps.live before) in
        let one = early.read before accounts p a has first len are in
        let count : length (first ++ early.parts) ≡ mid = length-append first early.parts ∙ ap (λ n. n + length early.parts) len ∙ early.all in
        let two = late.read clean accounts (mid_shows s0 s1 s2 (Ok tt) tt refl r early.keeps late.keeps clean accounts p) a has (first ++ early.parts) count (subst (λ db. AreRead contents (first ++ early.parts) db a) (sym now) one) in
        subst (λ l. AreRead contents l s0.now a) (append_assoc first early.parts late.parts) (subst (λ db. AreRead contents ((first ++ early.parts) ++ late.parts) db a) now two)

    -- more of them
    pub parts_then : PutsParts contents from until (from_to w0 w2) (from_to o0 o2) (from_to s0 s2) r
    parts_then = record {
      keeps = keeps_then s0 s1 s2 (Ok tt) tt refl r early.keeps late.keeps;
      parts = all_parts;
      all = counted r late.all;
      read = reads;
      put = subst (PutsSome r o0 o2) spelled (some_then o0 o1 o2 (flat_map part_line early.parts) (flat_map part_line late.parts) r early.put late.put);
      hashed = hashes r late.hashed;
    }

    -- it broke off there, wherever it was to end
    pub parts_stopped : (end : ℕ) (fault : RunFault) → r ≡ Err fault → (q : Result (Unit {0}) RunFault) → q ≡ Err fault → PutsParts contents from end (from_to w0 w2) (from_to o0 o2) (from_to s0 s2) q
    parts_stopped end fault is q told =
        let h = subst (PutsParts contents from until (from_to w0 w2) (from_to o0 o2) (from_to s0 s2)) is parts_then in
        subst (PutsParts contents from end (from_to w0 w2) (from_to o0 o2) (from_to s0 s2)) (sym told) (record { keeps = h.keeps; parts = h.parts; all = tt; read = h.read; put = h.put; hashed = tt })
