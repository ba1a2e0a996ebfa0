-- Commands about scripts: from what the code tests to what the table says.
use Rattle.std.proofs.Common.{◌≡◌, ℕ, ◌<◌, ◌==◌, Bool, true, false, nat_eq, nat_lt, List, [], ◌∷◌, length, Option, Some, None, Result, Ok, Err, is_some, MatchBool, refl, sym, ◌∙◌, ap, subst, inl, inr}
use Rattle.std.specs.Prelude.{IfOk}
use Rattle.std.proofs.lemmas.Bool.{ltb-true, lt-ltb, false≢true}
use Rattle.std.proofs.lemmas.List.{length-map}
use Rattle.std.specs.List.{list_any}
use Rattle.std.specs.FinMap.{get, keys, len, len-entries, contains_key-keys, entries}
use Rattle.std.specs.Ordering.{eq_by_cmp}
use Rattle.std.specs.Cmp.Lexicographic.{pointwise, texts_ties, bytes_decides}
use Rattle.managesieve_protocol.specs.declared.commands.ClientCommand.{ClientCommand}
use Rattle.store_accounts.specs.Account.{Account, bytes_cmp}
use Rattle.managesieve_sessions.specs.Limits.{scripts_limit}
use Rattle.managesieve_sessions.specs.Scripts.{HasScript, HasRoom, CanActivate, is_active, active_name}
use Rattle.managesieve_sessions.specs.Decisions.{AreNames, IsDecision}
use Rattle.managesieve_sessions.specs.declared.decision.Decision.{Decision}

-- a decision that is this one, where this one is right
pub decided : {E : Type 0} (Fits : Account → Type 0) (command : ClientCommand) (right : Decision) (r : Result Decision E) → IfOk r (λ d. d ≡ right) → IsDecision Fits command right → IfOk r (IsDecision Fits command)
decided Fits command right (Ok d) is h = subst (IsDecision Fits command) (sym is) h
decided Fits command right (Err e) is h = tt

-- the same of a command that is this one, for accounts of which more is known
pub decided_by : {E : Type 0} (Fits Given : Account → Type 0) (command other : ClientCommand) (r : Result Decision E) → ((a : Account) → Fits a → Given a) → command ≡ other → IfOk r (IsDecision Given other) → IfOk r (IsDecision Fits command)
decided_by Fits Given command other (Ok d) more same h = subst (λ (c : ClientCommand). IsDecision Fits c d) (sym same) (record { replies = λ a fits. h.replies a (more a fits); changes = h.changes })
decided_by Fits Given command other (Err e) more same h = tt

pub two_texts : (make : List ℕ → List ℕ → ClientCommand) (a b c d : List ℕ) → a ≡ b → c ≡ d → make a c ≡ make b d
two_texts make a b c d one two = ap (λ (t : List ℕ). make t c) one ∙ ap (make b) two

-- ---- names

-- a name is among the names of the scripts where it is a script's
pub among_is : (a : Account) (names : List (List ℕ)) (name : List ℕ) → AreNames names a → list_any (pointwise nat_eq name) names ≡ is_some (get a.scripts name)
among_is a names name are =
    let ties : pointwise nat_eq name ≡ eq_by_cmp bytes_cmp name = λ i there. texts_ties name there i in
    ap (list_any (pointwise nat_eq name)) are ∙ ap (λ test. list_any test (keys a.scripts)) ties ∙ sym (contains_key-keys a.scripts name)

-- the test of the names tells whether there is such a script
pub there_is : (a : Account) (names : List (List ℕ)) (name : List ℕ) → AreNames names a → (b : Bool) → b ≡ list_any (pointwise nat_eq name) names → MatchBool b (HasScript a name) (HasScript a name → ⊥)
there_is a names name are true is = sym (among_is a names name are) ∙ sym is
there_is a names name are false is = λ there. false≢true (is ∙ among_is a names name are ∙ there)

-- there are as many names as scripts
names_count : (a : Account) (names : List (List ℕ)) → AreNames names a → length names ≡ len a.scripts
names_count a names are = ap length are ∙ length-map (entries a.scripts) (λ e. e.0) ∙ sym (len-entries a.scripts)

-- a new name has room where the scripts are few enough
pub room_few : (a : Account) (names : List (List ℕ)) (name : List ℕ) → AreNames names a → (HasScript a name → ⊥)
    → MatchBool (nat_lt (length names) scripts_limit) (HasRoom a name) (HasRoom a name → ⊥)
room_few a names name are absent = go (nat_lt (length names) scripts_limit) refl
  where
    count : length names ≡ len a.scripts
    count = names_count a names are

    full : nat_lt (length names) scripts_limit ≡ false → HasRoom a name → ⊥
    full is (inl there) = absurd (absent there)
    full is (inr few) = false≢true (sym is ∙ lt-ltb (length names) scripts_limit (subst (λ n. n < scripts_limit) (sym count) few))

    go : (b : Bool) → nat_lt (length names) scripts_limit ≡ b → MatchBool b (HasRoom a name) (HasRoom a name → ⊥)
    go true is = inr (subst (λ n. n < scripts_limit) count (ltb-true (length names) scripts_limit is))
    go false is = full is

-- an absent name that isn't empty can't be made active
pub cannot_activate : (a : Account) (name : List ℕ) → (length name == 0) ≡ false → (HasScript a name → ⊥) → CanActivate a name → ⊥
cannot_activate a name some absent (inl empty) = false≢true (sym some ∙ ap (λ (text : List ℕ). length text == 0) empty)
cannot_activate a name some absent (inr there) = absent there

-- ---- the active script

pub active_is : (active : Option (List ℕ)) (name : List ℕ) → is_active active name ≡ true → active ≡ Some name
active_is None name is = absurd (false≢true is)
active_is (Some there) name is = ap (λ (n : List ℕ). Some n) ((bytes_decides there name).0 is)

pub active_not : (active : Option (List ℕ)) (name : List ℕ) → is_active active name ≡ false → active ≡ Some name → ⊥
active_not active name is same =
    let self : is_active (Some name) name ≡ true = (bytes_decides name name).1 refl in
    false≢true (sym is ∙ ap (λ (o : Option (List ℕ)). is_active o name) same ∙ self)

pub active_name_some : (name : List ℕ) → (length name == 0) ≡ false → active_name name ≡ Some name
active_name_some [] some = absurd (false≢true (sym some))
active_name_some (octet ∷ rest) some = refl
