-- Each stream has one first item.
use Rattle.std.proofs.Common.{◌≡◌, ℕ, ◌+◌, ◌≤◌, inl, inr, Bool, List, [], ◌∷◌, ◌++◌, length, take, Result, Ok, Err, refl, sym, ap, ◌∙◌, subst, arith, append_assoc}
use Rattle.std.specs.Prelude.{IfOk, OnErr, true}
use Rattle.std.proofs.lemmas.Bool.{cases_order}
use Rattle.std.proofs.lemmas.List.{take-append-le}
use Rattle.managesieve_protocol.specs.declared.commands.ClientCommand.{ClientCommand}
use Rattle.managesieve_protocol.specs.declared.items.ClientItem.{ClientItem}
use Rattle.managesieve_protocol.specs.declared.items.ClientItem.TheVariants as item
use Rattle.managesieve_protocol.specs.declared.items.ItemExtent.{ItemExtent}
use Rattle.managesieve_protocol.specs.declared.items.ItemExtent.TheVariants as reach
use Rattle.managesieve_protocol.specs.Commands.{IsSpelling, IsCommand}
use Rattle.managesieve_protocol.specs.Items.{IsBadLine, IsTooBig, IsItem, NoItem, IsFirstExtent, IsFirstItem}
use Rattle.managesieve_protocol.specs.Scanning.{extent_of}
use Rattle.managesieve_protocol.specs.Values.{command_in, has_string, item_at, item_of, takes_memory}
use Rattle.managesieve_protocol.proofs.Scans.{reaches, stays}
use Rattle.managesieve_protocol.proofs.Parsing.{spelling_back}

command_no_line : (pending : Bool) (text : List ℕ) → IsCommand pending text → IsBadLine pending text → ⊥
command_no_line pending text c l =
    l.fails (l.tail, subst (λ (t : List ℕ). IsCommand pending t) (l.written ∙ sym (append_assoc l.front (l.octet ∷ []) l.tail)) c)

-- two shortest fronts are one
least : (pending : Bool) (stream : List ℕ) (m n : ℕ) → NoItem pending m stream → IsItem pending (take m stream) → NoItem pending n stream → IsItem pending (take n stream) → m ≡ n
least pending stream m n a i b j =
    elim (cases_order m n) [
      | inl same ↦ same
      | inr (inl below) ↦ absurd (b m below i)
      | inr (inr above) ↦ absurd (a n above j)
    ]

none_at_all : (pending : Bool) (stream : List ℕ) (n : ℕ) → NoItem pending (length stream + 1) stream → n ≤ length stream → IsItem pending (take n stream) → ⊥
none_at_all pending stream n none le i = none n (omega arith) i

pub one_reach : (pending : Bool) (a b : ItemExtent) (stream : List ℕ) → IsFirstExtent pending a stream → IsFirstExtent pending b stream → a ≡ b
one_reach pending reach.Need reach.Need stream g h = refl
one_reach pending reach.Need (reach.Command n) stream g h = absurd (none_at_all pending stream n g h.0 (inl h.2))
one_reach pending reach.Need (reach.Bad n) stream g h = absurd (none_at_all pending stream n g h.0 (inr (inl h.2)))
one_reach pending reach.Need reach.TooBig stream g h = absurd (none_at_all pending stream h.0 g h.1 (inr (inr h.3)))
one_reach pending (reach.Command m) reach.Need stream g h = absurd (none_at_all pending stream m h g.0 (inl g.2))
one_reach pending (reach.Command m) (reach.Command n) stream g h = ap (λ (k : ℕ). reach.Command k) (least pending stream m n g.1 (inl g.2) h.1 (inl h.2))
one_reach pending (reach.Command m) (reach.Bad n) stream g h =
    let same = least pending stream m n g.1 (inl g.2) h.1 (inr (inl h.2)) in
    absurd (command_no_line pending (take n stream) (subst (λ (k : ℕ). IsCommand pending (take k stream)) same g.2) h.2)
one_reach pending (reach.Command m) reach.TooBig stream g h =
    let same = least pending stream m h.0 g.1 (inl g.2) h.2 (inr (inr h.3)) in
    absurd (g.3 (subst (λ (k : ℕ). IsTooBig pending (take k stream)) (sym same) h.3))
one_reach pending (reach.Bad m) reach.Need stream g h = absurd (none_at_all pending stream m h g.0 (inr (inl g.2)))
one_reach pending (reach.Bad m) (reach.Command n) stream g h =
    let same = least pending stream m n g.1 (inr (inl g.2)) h.1 (inl h.2) in
    absurd (command_no_line pending (take n stream) h.2 (subst (λ (k : ℕ). IsBadLine pending (take k stream)) same g.2))
one_reach pending (reach.Bad m) (reach.Bad n) stream g h = ap (λ (k : ℕ). reach.Bad k) (least pending stream m n g.1 (inr (inl g.2)) h.1 (inr (inl h.2)))
one_reach pending (reach.Bad m) reach.TooBig stream g h =
    let same = least pending stream m h.0 g.1 (inr (inl g.2)) h.2 (inr (inr h.3)) in
    absurd (g.3 (subst (λ (k : ℕ). IsTooBig pending (take k stream)) (sym same) h.3))
one_reach pending reach.TooBig reach.Need stream g h = absurd (none_at_all pending stream g.0 h g.1 (inr (inr g.3)))
one_reach pending reach.TooBig (reach.Command n) stream g h =
    let same = least pending stream g.0 n g.2 (inr (inr g.3)) h.1 (inl h.2) in
    absurd (h.3 (subst (λ (k : ℕ). IsTooBig pending (take k stream)) same g.3))
one_reach pending reach.TooBig (reach.Bad n) stream g h =
    let same = least pending stream g.0 n g.2 (inr (inr g.3)) h.1 (inr (inl h.2)) in
    absurd (h.3 (subst (λ (k : ℕ). IsTooBig pending (take k stream)) same g.3))
one_reach pending reach.TooBig reach.TooBig stream g h = refl

-- the function is the relation's only answer
pub reach_is : (pending : Bool) (r : ItemExtent) (stream : List ℕ) → IsFirstExtent pending r stream → r ≡ extent_of pending stream
reach_is pending r stream h = one_reach pending r (extent_of pending stream) stream h (reaches pending stream)

-- ---- with the command's value

-- what is read from a spelling is the command that it spells
pub read_spells : (pending : Bool) (text : List ℕ) → IsCommand pending text → IsSpelling pending (command_in pending text) text
read_spells pending text h = subst (λ (c : ClientCommand). IsSpelling pending c text) (sym (spelling_back pending h.0 text h.1)) h.1

pub at_gives : (pending : Bool) (stream : List ℕ) (r : ItemExtent) → IsFirstExtent pending r stream → IsFirstItem pending (item_at pending stream r) stream
at_gives pending stream reach.Need h = h
at_gives pending stream (reach.Command n) h = (h, read_spells pending (take n stream) h.2)
at_gives pending stream (reach.Bad n) h = h
at_gives pending stream reach.TooBig h = h

pub gives : (pending : Bool) (stream : List ℕ) → IsFirstItem pending (item_of pending stream) stream
gives pending stream = at_gives pending stream (extent_of pending stream) (reaches pending stream)

gives_at : (pending : Bool) (i : ClientItem) (stream : List ℕ) → IsFirstItem pending i stream → i ≡ item_of pending stream
gives_at pending item.Need stream h = ap (item_at pending stream) (reach_is pending reach.Need stream h)
gives_at pending (item.Command c n) stream h =
    ap (λ (d : ClientCommand). item.Command d n) (sym (spelling_back pending c (take n stream) h.1)) ∙ ap (item_at pending stream) (reach_is pending (reach.Command n) stream h.0)
gives_at pending (item.Bad n) stream h = ap (item_at pending stream) (reach_is pending (reach.Bad n) stream h)
gives_at pending item.TooBig stream h = ap (item_at pending stream) (reach_is pending reach.TooBig stream h)

pub one_item : (pending : Bool) (a b : ClientItem) (stream : List ℕ) → IsFirstItem pending a stream → IsFirstItem pending b stream → a ≡ b
one_item pending a b stream g h = gives_at pending a stream g ∙ sym (gives_at pending b stream h)

pub item_stays_on : (pending : Bool) (i : ClientItem) (stream more : List ℕ) → (i ≡ item.Need → ⊥) → IsFirstItem pending i stream → IsFirstItem pending i (stream ++ more)
item_stays_on pending item.Need stream more some h = absurd (some refl)
item_stays_on pending (item.Command c n) stream more some h =
    let same : take n (stream ++ more) ≡ take n stream = take-append-le n stream more h.0.0 in
    (stays pending (reach.Command n) stream more (λ i. cc) h.0, rw same h.1)
item_stays_on pending (item.Bad n) stream more some h = stays pending (reach.Bad n) stream more (λ i. cc) h
item_stays_on pending item.TooBig stream more some h = stays pending reach.TooBig stream more (λ i. cc) h

pub if_gives : {E : Type 0} (pending : Bool) (stream : List ℕ) (r : Result ClientItem E) → IfOk r (λ i. i ≡ item_of pending stream) → IfOk r (λ i. IsFirstItem pending i stream)
if_gives pending stream (Ok i) h = subst (λ (j : ClientItem). IsFirstItem pending j stream) (sym h) (gives pending stream)
if_gives pending stream (Err e) h = tt

pub read_item : {E : Type 0} (pending : Bool) (stream : List ℕ) (used : ℕ) (r : Result ClientCommand E) → IsFirstExtent pending (reach.Command used) stream
    → IfOk r (λ c. c ≡ command_in pending (take used stream)) → IfOk r (λ c. item_of pending stream ≡ item.Command c used)
read_item pending stream used (Ok c) h is =
    ap (item_at pending stream) (sym (reach_is pending (reach.Command used) stream h)) ∙ ap (λ (d : ClientCommand). item.Command d used) (sym is)
read_item pending stream used (Err e) h is = tt

pub read_lacks : {E : Type 0} (pending : Bool) (stream : List ℕ) (used : ℕ) (r : Result ClientCommand E) → IsFirstExtent pending (reach.Command used) stream
    → OnErr r (has_string (command_in pending (take used stream)) ≡ true) → OnErr r (takes_memory (item_of pending stream) ≡ true)
read_lacks pending stream used (Ok c) h has = tt
read_lacks pending stream used (Err e) h has =
    ap (λ (q : ItemExtent). takes_memory (item_at pending stream q)) (sym (reach_is pending (reach.Command used) stream h)) ∙ has
