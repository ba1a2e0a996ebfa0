-- Which texts make accounts that may be kept, by their scripts.
use Rattle.std.proofs.Common.{◌≡◌, ◌≢◌, ◌⊎◌, ◌≤◌, ◌+◌, ℕ, Bool, true, false, cond, List, [], ◌∷◌, ◌++◌, fold, Option, Some, None, is_some, IsSome, IfSome, Ok, Err, Result, IfOk, MatchBool, append_assoc, refl, sym, ap, ◌∙◌, subst, inl, inr, arith}
use Rattle.std.specs.Prelude.{◌||◌}
use Rattle.std.specs.List.{AllByRecursion, list_any, count_by}
use Rattle.std.specs.declared.cmp.Ordering.TheVariants.{Equal}
use Rattle.std.specs.Ordering.{is_eq, is_lt, ordering_then}
use Rattle.std.specs.Cmp.Lexicographic.{same_text as texts_same}
use Rattle.std.specs.FinMap.{empty, get, insert, len, contains_key, get-empty, get-insert, len-empty, len-insert}
use Rattle.std.proofs.lemmas.Cmp.{nat_list_cmp_total}
use Rattle.std.proofs.lemmas.List.Sums.{fold-append, sum_by-cons}
use Rattle.sqlite_typed.proofs.TestLemmas.{bytes_eq_refl, same_bytes}
use Rattle.store_text.specs.Netstring.{same_text}
use Rattle.store_text.specs.Order.{are_chained, has_active, is_script}
use Rattle.store_text.specs.Text.{IsAccount}
use Rattle.store_text.specs.declared.head.AccountHead.{AccountHead}
use Rattle.store_text.specs.declared.part.Part.{Part}
use Rattle.store_text.specs.declared.part.Part.TheVariants.{Script, Reply, Mail, Copy, Letter, Notice}
use Rattle.store_text.proofs.OrderLemmas.{Before, all_before}
use Rattle.store_accounts.specs.Account.{bytes_cmp, Folders, Scripts, filed}
use Rattle.store_accounts.specs.CopyRows.{Copy as KeptCopy}
use Rattle.store_accounts.specs.Whole.{scripts_with, copies_of, password_of}
use Rattle.store_accounts.proofs.MapLemmas.{tied_is}
use Rattle.store_engine.specs.Limits.{IsOwnAddress, is_user_name}
use Rattle.store_engine.specs.AccountEvents.{IsImportable}
use Rattle.store_engine.specs.Importable.{IsSoundPart, is_a_script, HasSoundScripts, may_guard, have_short_flags}
use Rattle.store_engine.specs.Sound.{IsSoundScript}
use Rattle.store_engine.proofs.SoundLemmas.{inserted, still_there, filled_one}

-- ---- what the scripts of the parts make

-- what is kept under a name is that of a part, or was there
from_parts : (parts : List Part) (scripts : Scripts) → AllByRecursion IsSoundPart parts → ((name text : List ℕ) → get scripts name ≡ Some text → IsSoundScript name text)
    → (name text : List ℕ) → get (fold scripts_with scripts parts) name ≡ Some text → IsSoundScript name text
from_parts [] scripts all were = were
from_parts (Script n t ∷ parts) scripts all were = from_parts parts (insert scripts n t) all.1 (λ name text is. go name text (inserted scripts n t name text is))
  where
    go : (name text : List ℕ) → ((name ≡ n) × (t ≡ text)) ⊎ (get scripts name ≡ Some text) → IsSoundScript name text
    go name text (inl new) = subst (λ m. IsSoundScript m text) (sym new.0) (subst (IsSoundScript n) new.1 all.0)
    go name text (inr old) = were name text old
from_parts (Reply a b c ∷ parts) scripts all were = from_parts parts scripts all.1 were
from_parts (Mail a b c d ∷ parts) scripts all were = from_parts parts scripts all.1 were
from_parts (Copy a b c d ∷ parts) scripts all were = from_parts parts scripts all.1 were
from_parts (Letter a b c d e ∷ parts) scripts all were = from_parts parts scripts all.1 were
from_parts (Notice a b c ∷ parts) scripts all were = from_parts parts scripts all.1 were

-- a name that is there stays
stays : (parts : List Part) (scripts : Scripts) (name : List ℕ) → IsSome (get scripts name) → IsSome (get (fold scripts_with scripts parts) name)
stays [] scripts name there = there
stays (Script n t ∷ parts) scripts name there = stays parts (insert scripts n t) name (still_there scripts n t name there)
stays (Reply a b c ∷ parts) scripts name there = stays parts scripts name there
stays (Mail a b c d ∷ parts) scripts name there = stays parts scripts name there
stays (Copy a b c d ∷ parts) scripts name there = stays parts scripts name there
stays (Letter a b c d e ∷ parts) scripts name there = stays parts scripts name there
stays (Notice a b c ∷ parts) scripts name there = stays parts scripts name there

put_there : (scripts : Scripts) (name text : List ℕ) → get (insert scripts name text) name ≡ Some text
put_there scripts name text = get-insert nat_list_cmp_total scripts name text name ∙ ap (λ b. cond b (Some text) (get scripts name)) (bytes_eq_refl name)

-- the name of a part is there
named_there : (parts : List Part) (scripts : Scripts) (name : List ℕ) → list_any (is_script name) parts ≡ true → IsSome (get (fold scripts_with scripts parts) name)
named_there [] scripts name is = absurd (let never = is in cc)
named_there (Script n t ∷ parts) scripts name is = go (same_text name n) refl is (named_there parts (insert scripts n t) name)
  where
    go : (b : Bool) → same_text name n ≡ b → (b || list_any (is_script name) parts) ≡ true → (list_any (is_script name) parts ≡ true → IsSome (get (fold scripts_with (insert scripts n t) parts) name))
        → IsSome (get (fold scripts_with (insert scripts n t) parts) name)
    go true same h more = stays parts (insert scripts n t) name (subst IsSome (sym (ap (get (insert scripts n t)) (texts_same name n (sym same)) ∙ put_there scripts n t)) refl)
    go false apart h more = more h
named_there (Reply a b c ∷ parts) scripts name is = named_there parts scripts name is
named_there (Mail a b c d ∷ parts) scripts name is = named_there parts scripts name is
named_there (Copy a b c d ∷ parts) scripts name is = named_there parts scripts name is
named_there (Letter a b c d e ∷ parts) scripts name is = named_there parts scripts name is
named_there (Notice a b c ∷ parts) scripts name is = named_there parts scripts name is

counted : (part : Part) (parts : List Part) → count_by is_a_script (part ∷ parts) ≡ cond (is_a_script part) 1 0 + count_by is_a_script parts
counted part parts = sum_by-cons (λ p. cond (is_a_script p) 1 0) part parts

-- there are no more scripts than parts that are some
few_parts : (parts : List Part) (scripts : Scripts) → len (fold scripts_with scripts parts) ≤ len scripts + count_by is_a_script parts
few_parts [] scripts = omega arith
few_parts (Script n t ∷ parts) scripts = let more = few_parts parts (insert scripts n t) in let one = len_put scripts n t in let all = counted (Script n t) parts in omega (arith, more, one, all)
  where
    len_put : (m : Scripts) (k v : List ℕ) → len (insert m k v) ≤ len m + 1
    len_put m k v = subst (λ l. l ≤ len m + 1) (sym (len-insert nat_list_cmp_total m k v)) (go (contains_key m k))
      where
        go : (b : Bool) → cond b (len m) (len m + 1) ≤ len m + 1
        go true = omega arith
        go false = omega arith
few_parts (Reply a b c ∷ parts) scripts = let more = few_parts parts scripts in let all = counted (Reply a b c) parts in omega (arith, more, all)
few_parts (Mail a b c d ∷ parts) scripts = let more = few_parts parts scripts in let all = counted (Mail a b c d) parts in omega (arith, more, all)
few_parts (Copy a b c d ∷ parts) scripts = let more = few_parts parts scripts in let all = counted (Copy a b c d) parts in omega (arith, more, all)
few_parts (Letter a b c d e ∷ parts) scripts = let more = few_parts parts scripts in let all = counted (Letter a b c d e) parts in omega (arith, more, all)
few_parts (Notice a b c ∷ parts) scripts = let more = few_parts parts scripts in let all = counted (Notice a b c) parts in omega (arith, more, all)

-- ---- each script of a text has a name of its own

-- the names of the parts are new, one after the other
abbrev AreNew : Scripts → List Part → Type 0
AreNew scripts [] = Unit {0}
AreNew scripts (Script n t ∷ parts) = (get scripts n ≡ None) × AreNew (insert scripts n t) parts
AreNew scripts (part ∷ parts) = AreNew scripts parts

-- the part is no script of this name
abbrev IsOther : List ℕ → Part → Type 0
IsOther name (Script n t) = is_eq (bytes_cmp name n) ≡ false
IsOther name part = Unit {0}

before_script : (name text : List ℕ) (q : Part) → Before q (Script name text) → IsOther name q
before_script name text (Script n t) h = go (is_eq (bytes_cmp name n)) refl
  where
    go : (b : Bool) → is_eq (bytes_cmp name n) ≡ b → b ≡ false
    go false is = refl
    go true is =
        let same : name ≡ n = same_bytes name n is in
        let less : is_lt (ordering_then (bytes_cmp n n) Equal) ≡ true = subst (λ m. Before (Script n t) (Script m text)) same h in
        absurd (let never : false ≡ true = sym (ap (λ o. is_lt (ordering_then o Equal)) (tied_is (bytes_cmp n n) (bytes_eq_refl n))) ∙ less in cc)
before_script name text (Reply a b c) h = tt
before_script name text (Mail a b c d) h = tt
before_script name text (Copy a b c d) h = tt
before_script name text (Letter a b c d e) h = tt
before_script name text (Notice a b c) h = tt

before_scripts : (name text : List ℕ) (done : List Part) → AllByRecursion (λ q. Before q (Script name text)) done → AllByRecursion (IsOther name) done
before_scripts name text [] all = tt
before_scripts name text (q ∷ done) all = (before_script name text q all.0, before_scripts name text done all.1)

-- such parts leave what is kept under the name
kept_so_far : (name : List ℕ) (done : List Part) (scripts : Scripts) → AllByRecursion (IsOther name) done → get (fold scripts_with scripts done) name ≡ get scripts name
kept_so_far name [] scripts all = refl
kept_so_far name (Script n t ∷ done) scripts all =
    kept_so_far name done (insert scripts n t) all.1 ∙ (get-insert nat_list_cmp_total scripts n t name ∙ ap (λ b. cond b (Some t) (get scripts name)) all.0)
kept_so_far name (Reply a b c ∷ done) scripts all = kept_so_far name done scripts all.1
kept_so_far name (Mail a b c d ∷ done) scripts all = kept_so_far name done scripts all.1
kept_so_far name (Copy a b c d ∷ done) scripts all = kept_so_far name done scripts all.1
kept_so_far name (Letter a b c d e ∷ done) scripts all = kept_so_far name done scripts all.1
kept_so_far name (Notice a b c ∷ done) scripts all = kept_so_far name done scripts all.1

new_from : (done rest : List Part) → are_chained None (done ++ rest) ≡ true → AreNew (fold scripts_with empty done) rest
new_from done [] chained = tt
new_from done (p ∷ rest) chained =
    let same : (done ++ p ∷ []) ++ rest ≡ done ++ p ∷ rest = append_assoc done (p ∷ []) rest in
    go p (all_before None done p rest chained) (subst (λ m. AreNew m rest) (fold-append scripts_with empty done (p ∷ [])) (new_from (done ++ p ∷ []) rest (ap (are_chained None) same ∙ chained)))
  where
    go : (p : Part) → AllByRecursion (λ q. Before q p) done → AreNew (scripts_with (fold scripts_with empty done) p) rest → AreNew (fold scripts_with empty done) (p ∷ rest)
    go (Script n t) before more =
        (kept_so_far n done empty (before_scripts n t done before) ∙ get-empty bytes_cmp n, more)
    go (Reply a b c) before more = more
    go (Mail a b c d) before more = more
    go (Copy a b c d) before more = more
    go (Letter a b c d e) before more = more
    go (Notice a b c) before more = more

-- what is there under a name stays, where the parts' names are new
stays_so : (parts : List Part) (scripts : Scripts) (name text : List ℕ) → AreNew scripts parts → get scripts name ≡ Some text → get (fold scripts_with scripts parts) name ≡ Some text
stays_so [] scripts name text new is = is
stays_so (Script n t ∷ parts) scripts name text new is =
    stays_so parts (insert scripts n t) name text new.1 (get-insert nat_list_cmp_total scripts n t name ∙ (ap (λ b. cond b (Some t) (get scripts name)) (apart (is_eq (bytes_cmp name n)) refl) ∙ is))
  where
    apart : (b : Bool) → is_eq (bytes_cmp name n) ≡ b → is_eq (bytes_cmp name n) ≡ false
    apart false at = at
    apart true at = absurd (let never : None ≡ Some text = sym new.0 ∙ (ap (get scripts) (sym (same_bytes name n at)) ∙ is) in cc)
stays_so (Reply a b c ∷ parts) scripts name text new is = stays_so parts scripts name text new is
stays_so (Mail a b c d ∷ parts) scripts name text new is = stays_so parts scripts name text new is
stays_so (Copy a b c d ∷ parts) scripts name text new is = stays_so parts scripts name text new is
stays_so (Letter a b c d e ∷ parts) scripts name text new is = stays_so parts scripts name text new is
stays_so (Notice a b c ∷ parts) scripts name text new is = stays_so parts scripts name text new is

-- so each of them is among the scripts, and there are as many
each_sound : (parts : List Part) (scripts : Scripts) → AreNew scripts parts → ((name text : List ℕ) → get (fold scripts_with scripts parts) name ≡ Some text → IsSoundScript name text) → AllByRecursion IsSoundPart parts
each_sound [] scripts new sound = tt
each_sound (Script n t ∷ parts) scripts new sound =
    (sound n t (stays_so parts (insert scripts n t) n t new.1 (put_there scripts n t)), each_sound parts (insert scripts n t) new.1 sound)
each_sound (Reply a b c ∷ parts) scripts new sound = (tt, each_sound parts scripts new sound)
each_sound (Mail a b c d ∷ parts) scripts new sound = (tt, each_sound parts scripts new sound)
each_sound (Copy a b c d ∷ parts) scripts new sound = (tt, each_sound parts scripts new sound)
each_sound (Letter a b c d e ∷ parts) scripts new sound = (tt, each_sound parts scripts new sound)
each_sound (Notice a b c ∷ parts) scripts new sound = (tt, each_sound parts scripts new sound)

as_many : (parts : List Part) (scripts : Scripts) → AreNew scripts parts → len (fold scripts_with scripts parts) ≡ len scripts + count_by is_a_script parts
as_many [] scripts new = omega arith
as_many (Script n t ∷ parts) scripts new =
    let more = as_many parts (insert scripts n t) new.1 in
    let one : len (insert scripts n t) ≡ len scripts + 1 = len-insert nat_list_cmp_total scripts n t ∙ ap (λ b. cond b (len scripts) (len scripts + 1)) (ap is_some new.0) in
    let all = counted (Script n t) parts in
    omega (arith, more, one, all)
as_many (Reply a b c ∷ parts) scripts new = let more = as_many parts scripts new in let all = counted (Reply a b c) parts in omega (arith, more, all)
as_many (Mail a b c d ∷ parts) scripts new = let more = as_many parts scripts new in let all = counted (Mail a b c d) parts in omega (arith, more, all)
as_many (Copy a b c d ∷ parts) scripts new = let more = as_many parts scripts new in let all = counted (Copy a b c d) parts in omega (arith, more, all)
as_many (Letter a b c d e ∷ parts) scripts new = let more = as_many parts scripts new in let all = counted (Letter a b c d e) parts in omega (arith, more, all)
as_many (Notice a b c ∷ parts) scripts new = let more = as_many parts scripts new in let all = counted (Notice a b c) parts in omega (arith, more, all)

-- ---- the account

-- each copy fills its folder
all_filled : (copies : List KeptCopy) (folders : Folders) → ((f : List ℕ) → get folders f ≢ Some []) → (f : List ℕ) → get (fold (λ all copy. filed all copy.folder copy.message) folders copies) f ≢ Some []
all_filled [] folders full = full
all_filled (copy ∷ copies) folders full = all_filled copies (filed folders copy.folder copy.message) (filled_one folders copy.folder copy.message full)

module _ (head : AccountHead) (parts : List Part) (is : IsAccount head parts) where
  active_there : (o : Option (List ℕ)) → has_active o parts ≡ true → IfSome o (λ name. IsSome (get (fold scripts_with empty parts) name))
  active_there None h = tt
  active_there (Some name) h = named_there parts empty name h

  pub importable : is_user_name head.owner.name ≡ true → may_guard (password_of head) ≡ true → have_short_flags parts ≡ true → IsOwnAddress head.owner.address → HasSoundScripts parts → IsImportable head parts
  importable named guarded flagged addressed scripts = record {
    named = named;
    guarded = guarded;
    flagged = flagged;
    sound = record {
      address = addressed;
      scripts = from_parts parts empty scripts.each (λ name text there. absurd (let never : None ≡ Some text = sym (get-empty bytes_cmp name) ∙ there in cc));
      few = let most = few_parts parts empty in let none = len-empty bytes_cmp (List ℕ) in let few = scripts.few in omega (arith, most, none, few);
      active = active_there head.owner.active is.active;
      filled = all_filled (copies_of [] parts) empty (λ folder none. absurd (let never : None ≡ Some [] = sym (get-empty bytes_cmp folder) ∙ none in cc));
    };
  }

  pub sound_scripts : IsImportable head parts → HasSoundScripts parts
  sound_scripts importable =
      let new = new_from [] parts is.chained in
      let count = as_many parts empty new in
      let none = len-empty bytes_cmp (List ℕ) in
      let few = importable.sound.few in
      record { each = each_sound parts empty new importable.sound.scripts; few = omega (arith, count, none, few) }

  -- whether it may be kept, once its name, its password, its flags and its address are what they have to be
  pub tested : {E : Type 0} → is_user_name head.owner.name ≡ true → may_guard (password_of head) ≡ true → have_short_flags parts ≡ true → IsOwnAddress head.owner.address → (r : Result Bool E) → IfOk r (λ holds. MatchBool holds (HasSoundScripts parts) (HasSoundScripts parts → ⊥))
      → IfOk r (λ holds. MatchBool holds (IsImportable head parts) (IsImportable head parts → ⊥))
  tested named guarded flagged addressed (Err e) told = tt
  tested named guarded flagged addressed (Ok true) told = importable named guarded flagged addressed told
  tested named guarded flagged addressed (Ok false) told = λ fit. told (sound_scripts fit)
