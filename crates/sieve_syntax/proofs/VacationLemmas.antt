-- Lemmas on the arguments of `vacation`.
use Rattle.std.proofs.Common.{◌≡◌, ℕ, List, [], ◌∷◌, ◌++◌, Option, Some, None, Ok, Err, refl, sym, ap, ◌∙◌, subst, inl, inr}
use Rattle.std.proofs.Common.{◌<◌, ◌+◌, length, take, get_or, add-one}
use Rattle.std.specs.Prelude.{Result, IfOk}
use Rattle.std.proofs.Math.Seq.{take-suc}
use Rattle.octets.proofs.Lists.{some_is, some_pair}
use Rattle.mail_address.specs.declared.address.Addr.{Addr}
use Rattle.mail_address.proofs.Outbounds.{outbound-again}
use Rattle.sieve_syntax.specs.declared.extension.vacation.VacationArgs.{VacationArgs}
use Rattle.sieve_syntax.specs.declared.extension.vacation.ReplyFrom.{ReplyFrom}
use Rattle.sieve_syntax.specs.declared.parser.argument.Argument.{Argument}
use Rattle.sieve_syntax.specs.declared.table.tag_group.TagValue.{TagValue}
use Rattle.sieve_syntax.specs.Extension.Vacation.{from_in, addresses_in, IsReplyFrom, IsGivenFrom, AreNamed, AddsNamed, SaysVacation, MayReply}
use Rattle.sieve_syntax.specs.declared.tree.action.Redirect.{Redirect}
use Rattle.std.proofs.Common.{◌||◌, Bool, true, false}
use Rattle.std.specs.Prelude.{is_some}
use Rattle.sieve_syntax.specs.declared.capability.Capability.TheVariants as C
use Rattle.sieve_syntax.specs.Capabilities.{Capabilities, IsWithin}
use Rattle.sieve_syntax.specs.Extension.VacationSeconds.{may_use_vacation}
use Rattle.sieve_syntax.proofs.GrowthLemmas.{permits_grow}
use Rattle.sieve_syntax.specs.Positional.{one_text}
use Rattle.sieve_syntax.specs.Table.{SaysRedirect}
use Rattle.sieve_syntax.specs.NamedAddresses.{IsNamedAs, Names}

-- a text names one address with one display
pub outbound_only : (text d e : List ℕ) (a b : Addr) → IsNamedAs text d a → IsNamedAs text e b → (d ≡ e) × (a ≡ b)
outbound_only text d e a b one two = some_pair (d, a) (e, b) (sym (outbound-again text d a one.1) ∙ outbound-again text e b two.1)

pub names_only : (text : List ℕ) (a b : Addr) → Names text a → Names text b → a ≡ b
names_only text a b one two = (outbound_only text one.0 two.0 a b one.1 two.1).1

-- one text more, which names an address or none
named_more : (texts : List (List ℕ)) (found : List Addr) (text : List ℕ) (address : Addr) → AreNamed texts found → Names text address → AreNamed (texts ++ text ∷ []) (found ++ address ∷ [])
named_more [] found text address are names = inl (address, (names, ([], (ap (λ l. l ++ address ∷ []) are, refl))))
named_more (first ∷ more) found text address are names = elim are [
  | inl one ↦ inl (one.0, (one.1.0, (one.1.1.0 ++ address ∷ [], (ap (λ l. l ++ address ∷ []) one.1.1.1.0, named_more more one.1.1.0 text address one.1.1.1.1 names))))
  | inr none ↦ inr (none.0, named_more more found text address none.1 names)
]

named_other : (texts : List (List ℕ)) (found : List Addr) (text : List ℕ) → AreNamed texts found → ((address : Addr) → Names text address → ⊥) → AreNamed (texts ++ text ∷ []) found
named_other [] found text are nobody = inr (nobody, are)
named_other (first ∷ more) found text are nobody = elim are [
  | inl one ↦ inl (one.0, (one.1.0, (one.1.1.0, (one.1.1.1.0, named_other more one.1.1.0 text one.1.1.1.1 nobody))))
  | inr none ↦ inr (none.0, named_other more found text none.1 nobody)
]

-- one text more of a list
pub named_step : (texts : List (List ℕ)) (i : ℕ) (text : List ℕ) (old new : List Addr) → i < length texts → text ≡ get_or texts i text → AreNamed (take i texts) old → AddsNamed text old new → AreNamed (take (i + 1) texts) new
named_step texts i text old new below is are adds =
    let front : take (i + 1) texts ≡ take i texts ++ text ∷ [] = rw add-one (take-suc texts i text below ∙ ap (λ t. take i texts ++ t ∷ []) (sym is)) in
    let all : AreNamed (take i texts ++ text ∷ []) new = elim adds [
      | inl one ↦ subst (AreNamed (take i texts ++ text ∷ [])) (sym one.1.1) (named_more (take i texts) old text one.0 are one.1.0)
      | inr none ↦ subst (AreNamed (take i texts ++ text ∷ [])) (sym none.1) (named_other (take i texts) old text are none.0)
    ] in
    subst (λ ts. AreNamed ts new) (sym front) all

-- there is one list of addresses
pub named_only : (texts : List (List ℕ)) (one two : List Addr) → AreNamed texts one → AreNamed texts two → two ≡ one
named_only [] one two are also = also ∙ sym are
named_only (text ∷ more) one two are also = elim are [
  | inl a ↦ elim also [
    | inl b ↦
        let first : b.0 ≡ a.0 = names_only text b.0 a.0 b.1.0 a.1.0 in
        let others = named_only more a.1.1.0 b.1.1.0 a.1.1.1.1 b.1.1.1.1 in
        b.1.1.1.0 ∙ ap (λ x. x ∷ b.1.1.0) first ∙ ap (λ xs. a.0 ∷ xs) others ∙ sym a.1.1.1.0
    | inr b ↦ absurd (b.0 a.0 a.1.0)
  ]
  | inr a ↦ elim also [
    | inl b ↦ absurd (a.0 b.0 b.1.0)
    | inr b ↦ named_only more one two a.1 b.1
  ]
]

pub reply_from_only : (text : List ℕ) (one two : ReplyFrom) → IsReplyFrom text one → IsReplyFrom text two → two ≡ one
reply_from_only text one two are also =
    let both = outbound_only text two.display one.display two.address one.address also.names are.names in
    let written : two.text ≡ one.text = also.written ∙ sym are.written in
    λ i. record { text = written i; display = both.0 i; address = both.1 i }

pub given_from_only : (text : Option (List ℕ)) (one two : Option ReplyFrom) → IsGivenFrom text one → IsGivenFrom text two → two ≡ one
given_from_only None None None are also = refl
given_from_only None None (Some two) are also = absurd also
given_from_only None (Some one) two are also = absurd are
given_from_only (Some text) None two are also = absurd are
given_from_only (Some text) (Some one) None are also = absurd also
given_from_only (Some text) (Some one) (Some two) are also = ap Some (reply_from_only text one two are also)

-- tags and positional arguments say one thing at most
pub vacation_same : (tag_values : List TagValue) (positional : List Argument) (x y : VacationArgs) → SaysVacation tag_values positional x → SaysVacation tag_values positional y → x ≡ y
vacation_same tag_values positional x y a b =
    let days : x.days ≡ y.days = a.days ∙ sym b.days in
    let seconds : x.seconds ≡ y.seconds = a.seconds ∙ sym b.seconds in
    let subject : x.subject ≡ y.subject = a.subject ∙ sym b.subject in
    let from : x.from ≡ y.from = given_from_only (from_in tag_values) y.from x.from b.from a.from in
    let addresses : x.addresses ≡ y.addresses = named_only (addresses_in tag_values) y.addresses x.addresses b.addresses a.addresses in
    let mime : x.mime ≡ y.mime = a.mime ∙ sym b.mime in
    let handle : x.handle ≡ y.handle = a.handle ∙ sym b.handle in
    let reason = some_is x.reason y.reason (sym a.reason ∙ b.reason) in
    λ i. record { days = days i; seconds = seconds i; subject = subject i; from = from i; addresses = addresses i; mime = mime i; handle = handle i; reason = reason i }

-- the arguments of `redirect`
module _ (tag_values : List TagValue) (positional : List Argument) where
  pub redirect_same : (x y : Redirect) → SaysRedirect tag_values positional x → SaysRedirect tag_values positional y → x ≡ y
  redirect_same x y a b =
      let text : a.text ≡ b.text = some_is a.text b.text (sym a.is_text ∙ b.is_text) in
      let target : x.target ≡ y.target = names_only b.text x.target y.target (subst (λ t. Names t x.target) text a.names) b.names in
      let copy : x.copy ≡ y.copy = a.copy ∙ sym b.copy in
      λ i. record { target = target i; copy = copy i }

  pub redirect_no_text : one_text positional ≡ None → (y : Redirect) → SaysRedirect tag_values positional y → ⊥
  redirect_no_text none y is = let e : None ≡ Some is.text = sym none ∙ is.is_text in absurd (cc e)

  pub redirect_no_address : (text : List ℕ) → one_text positional ≡ Some text → ((d : List ℕ) (a : Addr) → IsNamedAs text d a → ⊥) → (y : Redirect) → SaysRedirect tag_values positional y → ⊥
  redirect_no_address text is_text none y is = none is.names.0 y.target (subst (λ t. IsNamedAs t is.names.0 y.target) (some_is is.text text (sym is.is_text ∙ is_text)) is.names.1)

-- the value of a `:from` that is given
pub given_some : (o : Option (List ℕ)) (text : List ℕ) → Some text ≡ o → (r : ReplyFrom) → IsReplyFrom text r → IsGivenFrom o (Some r)
given_some o text same r is = subst (λ p. IsGivenFrom p (Some r)) same is

pub given_none : (o : Option (List ℕ)) (text : List ℕ) → Some text ≡ o → ((r : ReplyFrom) → IsReplyFrom text r → ⊥) → (y : Option ReplyFrom) → IsGivenFrom o y → ⊥
given_none o text same none y is = off y (subst (λ p. IsGivenFrom p y) (sym same) is)
  where
    off : (z : Option ReplyFrom) → IsGivenFrom (Some text) z → ⊥
    off None bad = bad
    off (Some r) is' = none r is'

-- what holds of a value holds of it where more is asked
pub if_ok_so : {X E : Type 0} (P Q : X → Type 0) → ((x : X) → P x → Q x) → (r : Result X E) → IfOk r P → IfOk r Q
if_ok_so P Q so (Ok x) p = so x p
if_ok_so P Q so (Err e) p = tt

-- no address
pub outbound_none : (text : List ℕ) (o : Option (List ℕ × Addr)) → ((d : List ℕ) (a : Addr) → IsNamedAs text d a → o ≡ Some (d, a)) → o ≡ None → (d : List ℕ) (a : Addr) → IsNamedAs text d a → ⊥
outbound_none text None only none d a is = absurd (cc (only d a is))
outbound_none text (Some found) only none d a is = absurd (cc none)

pub adds_none : (text : List ℕ) (old : List Addr) → ((d : List ℕ) (a : Addr) → IsNamedAs text d a → ⊥) → AddsNamed text old old
adds_none text old none = inr ((λ a names. none names.0 a names.1), refl)

pub reply_none : (text : List ℕ) → ((d : List ℕ) (a : Addr) → IsNamedAs text d a → ⊥) → (r : ReplyFrom) → IsReplyFrom text r → ⊥
reply_none text none r is = none r.display r.address is.names

-- where few are granted, and where more are
module _ (few more : Capabilities) (within : IsWithin few more) where
  vacation_grows : may_use_vacation few ≡ true → may_use_vacation more ≡ true
  vacation_grows is = step (few C.Vacation) (more C.Vacation) (few C.VacationSeconds) (more C.VacationSeconds) (within C.Vacation) (within C.VacationSeconds) is
    where
      step : (a b c d : Bool) → (a ≡ true → b ≡ true) → (c ≡ true → d ≡ true) → (a || c) ≡ true → (b || d) ≡ true
      step true true c d one two is = refl
      step true false c d one two is = let bad : false ≡ true = one refl in absurd (cc bad)
      step false true c d one two is = refl
      step false false c d one two is = two is

  pub reply_grows : (args : VacationArgs) → MayReply few args → MayReply more args
  reply_grows args may = (vacation_grows may.0, permits_grow few more within C.VacationSeconds (is_some args.seconds) may.1, may.2)
