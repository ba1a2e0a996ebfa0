-- What a text spells is read from it.
use Rattle.std.proofs.Common.{◌≡◌, ℕ, suc, ◌<◌, ◌^◌, inl, inr, Bool, true, false, not, ◌||◌, ◌==◌, List, [], ◌∷◌, ◌++◌, length, take, Option, Some, None, refl, sym, ap, ◌∙◌, subst, arith, append_assoc}
use Rattle.std.specs.Prelude.{map, fold, nat_lt}
use Rattle.std.specs.Char.{to_ascii_uppercase, is_ascii_digit}
use Rattle.std.proofs.lemmas.Bool.{ne_eqb, eq-eqb, lt-ltb, and_parts, or_parts, or_from, not-true, both_ways}
use Rattle.std.proofs.lemmas.List.{take_at, drop_at}
use Rattle.octets.specs.Decimal.{with_digit}
use Rattle.managesieve_protocol.specs.declared.commands.ClientCommand.{ClientCommand}
use Rattle.managesieve_protocol.specs.declared.commands.ClientCommand.TheVariants.{Capability, Noop, Logout, Authenticate, Unauthenticate, HaveSpace, PutScript, CheckScript, ListScripts, SetActive, GetScript, DeleteScript, RenameScript, Response}
use Rattle.managesieve_protocol.specs.Arguments.{LineArgument, inside, AreDigits, IsDecimalNumber, IsString, AreLineArguments}
use Rattle.managesieve_protocol.specs.Commands.{Form, Named, Alone, form_of, IsFormed, IsSpelling}
use Rattle.managesieve_protocol.specs.Machine.{Params, rows, params_in, command_names, command_named}
use Rattle.managesieve_protocol.specs.declared.command_name.CommandName.{CommandName}
use Rattle.managesieve_protocol.specs.Values.{Read, prepend_octet, quoted_in, digits_in, octets_in, literal_in, string_in, size_in, text_in, maybe_text_in, name_length, command_of, line_command, command_in}
use Rattle.managesieve_protocol.proofs.Runs.{fold_grows}
use Rattle.managesieve_protocol.proofs.Names.{Rows, lacks, rows_lack, params_step, filled, IsFilled}

-- ---- strings

quoted_back : (v rest : List ℕ) → quoted_in false (inside v ++ 34 ∷ rest) ≡ (v, rest)
quoted_back [] rest = refl
quoted_back (x ∷ v) rest = go (x == 34 || x == 92) refl (quoted_back v rest)
  where
    go : (b : Bool) → (x == 34 || x == 92) ≡ b → quoted_in false (inside v ++ 34 ∷ rest) ≡ (v, rest) → quoted_in false (inside (x ∷ v) ++ 34 ∷ rest) ≡ (x ∷ v, rest)
    go true e ih = rw e (ap (prepend_octet x) ih)
    go false e ih =
        let parts = or_parts (x == 34) (x == 92) e in
        rw (e, parts.0, parts.1) (ap (prepend_octet x) ih)

number_back : (ds : List ℕ) (n y : ℕ) (u : List ℕ) → AreDigits ds → fold with_digit n ds < 2 ^ 32 → is_ascii_digit y ≡ false → digits_in n (ds ++ y ∷ u) ≡ (fold with_digit n ds, y ∷ u)
number_back [] n y u are lt stop = rw stop refl
number_back (d ∷ ds) n y u are lt stop =
    let below : nat_lt (with_digit n d) (2 ^ 32) ≡ true = lt-ltb _ _ (omega (arith, fold_grows ds (with_digit n d))) in
    rw (are.0, below) (number_back ds (with_digit n d) y u are.1 lt stop)

numeral_back : (n : ℕ) (ds : List ℕ) (y : ℕ) (u : List ℕ) → IsDecimalNumber n ds → n < 2 ^ 32 → is_ascii_digit y ≡ false → digits_in 0 (ds ++ y ∷ u) ≡ (n, y ∷ u)
numeral_back n [] y u h lt stop = absurd h
numeral_back n (d ∷ ds) y u h lt stop =
    number_back (d ∷ ds) 0 y u h.0 (omega (arith, h.2, lt)) stop ∙ ap (λ (m : ℕ). (m, y ∷ u)) h.2

octets_back : (v rest : List ℕ) → octets_in (length v) (v ++ rest) ≡ (v, rest)
octets_back v rest = rw (take_at v rest (length v) refl, drop_at v rest (length v) refl) refl

pub string_back : (v first rest : List ℕ) → IsString v first → string_in (first ++ rest) ≡ (v, rest)
string_back v first rest (inl q) =
    ap (λ (t : List ℕ). string_in (t ++ rest)) q.written
    ∙ ap (quoted_in false) (append_assoc (inside v) (34 ∷ []) rest)
    ∙ quoted_back v rest
string_back v first rest (inr l) =
    ap (λ (t : List ℕ). string_in (t ++ rest)) l.written
    ∙ ap (λ (t : List ℕ). literal_in (digits_in 0 t)) (append_assoc l.digits (43 ∷ 125 ∷ 13 ∷ 10 ∷ v) rest)
    ∙ ap literal_in (numeral_back (length v) l.digits 43 (125 ∷ 13 ∷ 10 ∷ (v ++ rest)) l.numeral l.short refl)
    ∙ octets_back v rest

text_back : (v first rest t : List ℕ) → IsString v first → t ≡ 32 ∷ (first ++ rest) → text_in t ≡ (v, rest)
text_back v first rest t s e = ap text_in e ∙ string_back v first rest s

maybe_back : (v first rest t : List ℕ) → IsString v first → t ≡ 32 ∷ (first ++ rest) → maybe_text_in t ≡ Some v
maybe_back v first rest t s e = ap maybe_text_in e ∙ ap (λ (read : Read). Some read.0) (string_back v first rest s)

-- ---- arguments

-- what a row of verbs says of the command after its name
abbrev of_verb : Option CommandName → List ℕ → Option ClientCommand
of_verb None rest = None
of_verb (Some verb) rest = Some (command_of verb rest)

-- what stands after a command's name gives the command
abbrev IsRead : Form → ClientCommand → List ℕ → Type 0
IsRead (Named word arguments) command rest = AreLineArguments arguments rest → of_verb (command_named command_names word) rest ≡ Some command
IsRead (Alone value) command rest = Unit {0}

read_back : (c : ClientCommand) (rest : List ℕ) → IsRead (form_of c) c rest
read_back Capability rest = λ h. refl
read_back (Noop None) rest = λ h. rw h refl
read_back (Noop (Some tag)) rest = λ h. let e = maybe_back tag h.0 h.1 rest h.2 h.4 in rw e refl
read_back Logout rest = λ h. refl
read_back (Authenticate mechanism None) rest = λ h. let e = text_back mechanism h.0 h.1 rest h.2 h.4 in rw (e, h.3) refl
read_back (Authenticate mechanism (Some response)) rest = λ h.
    let e = text_back mechanism h.0 h.1 rest h.2 h.4 in
    let d = maybe_back response h.3.0 h.3.1 h.1 h.3.2 h.3.4 in
    rw (e, d) refl
read_back Unauthenticate rest = λ h. refl
read_back (HaveSpace name size) rest = λ h.
    let e = text_back name h.0 h.1 rest h.2 h.4 in
    let d : digits_in 0 (h.3.0 ++ 13 ∷ 10 ∷ []) ≡ (size, 13 ∷ 10 ∷ []) = numeral_back size h.3.0 13 (10 ∷ []) h.3.2.0 h.3.2.1 refl in
    let at : h.1 ≡ 32 ∷ (h.3.0 ++ 13 ∷ 10 ∷ []) = h.3.4 ∙ ap (λ (u : List ℕ). 32 ∷ (h.3.0 ++ u)) h.3.3 in
    rw e (ap (λ (t : List ℕ). Some (HaveSpace name (size_in t))) at ∙ ap (λ (p : ℕ × List ℕ). Some (HaveSpace name p.0)) d)
read_back (PutScript name script) rest = λ h.
    let e = text_back name h.0 h.1 rest h.2 h.4 in
    let d = text_back script h.3.0 h.3.1 h.1 h.3.2 h.3.4 in
    rw (e, d) refl
read_back (CheckScript script) rest = λ h. let e = text_back script h.0 h.1 rest h.2 h.4 in rw e refl
read_back ListScripts rest = λ h. refl
read_back (SetActive name) rest = λ h. let e = text_back name h.0 h.1 rest h.2 h.4 in rw e refl
read_back (GetScript name) rest = λ h. let e = text_back name h.0 h.1 rest h.2 h.4 in rw e refl
read_back (DeleteScript name) rest = λ h. let e = text_back name h.0 h.1 rest h.2 h.4 in rw e refl
read_back (RenameScript old new) rest = λ h.
    let e = text_back old h.0 h.1 rest h.2 h.4 in
    let d = text_back new h.3.0 h.3.1 h.1 h.3.2 h.3.4 in
    rw (e, d) refl
read_back (Response text) rest = tt

-- ---- names

word_lacks : (rs : Rows) (x : ℕ) (w : List ℕ) (s : Params) → rows_lack x rs ≡ true → params_in rs w ≡ Some s → lacks x w ≡ true
word_lacks [] x w s lack e = absurd cc
word_lacks (row ∷ rs) x w s lack e =
    let parts = and_parts (lacks x row.0) (rows_lack x rs) lack in
    elim (params_step (params_in rs w) row.0 w s row.1 e) [
      | inl h ↦ subst (λ (u : List ℕ). lacks x u ≡ true) h.0 parts.0
      | inr h ↦ word_lacks rs x w s parts.1 h
    ]

named_lacks_space : (w : List ℕ) (s : Params) → params_in rows w ≡ Some s → lacks 32 w ≡ true
unfolding rows
named_lacks_space w s e = word_lacks rows 32 w s refl e

named_lacks_return : (w : List ℕ) (s : Params) → params_in rows w ≡ Some s → lacks 13 w ≡ true
unfolding rows
named_lacks_return w s e = word_lacks rows 13 w s refl e

-- an octet that has no case is no letter's
other_case : (x y : ℕ) → to_ascii_uppercase x ≡ x → not (x == to_ascii_uppercase y) ≡ true → (y == x) ≡ false
other_case x y same e =
    ne_eqb y x (λ i. both_ways (x == to_ascii_uppercase y) (not-true (x == to_ascii_uppercase y) e) (eq-eqb x (to_ascii_uppercase y) (sym same ∙ ap to_ascii_uppercase (sym i))))

name_back : (name rest : List ℕ) → lacks 32 (map to_ascii_uppercase name) ≡ true → lacks 13 (map to_ascii_uppercase name) ≡ true → name_length rest ≡ 0 → name_length (name ++ rest) ≡ length name
name_back [] rest a b e = e
name_back (x ∷ name) rest a b e =
    let pa = and_parts (not (32 == to_ascii_uppercase x)) (lacks 32 (map to_ascii_uppercase name)) a in
    let pb = and_parts (not (13 == to_ascii_uppercase x)) (lacks 13 (map to_ascii_uppercase name)) b in
    let plain : (x == 32 || x == 13) ≡ false = or_from (x == 32) (x == 13) (other_case 32 x refl pa.0) (other_case 13 x refl pb.0) in
    rw plain (ap suc (name_back name rest pa.1 pb.1 e))

arguments_end : (arguments : List LineArgument) (rest : List ℕ) → AreLineArguments arguments rest → name_length rest ≡ 0
arguments_end [] rest h = rw h refl
arguments_end (a ∷ more) rest h = rw h.4 refl

-- ---- commands

-- the command of a line, by what its verb and what stands after the name give
line_back : (name rest text : List ℕ) (o : Option CommandName) (c : ClientCommand) → text ≡ name ++ rest → name_length text ≡ length name → of_verb o rest ≡ Some c → line_command o text ≡ c
line_back name rest text None c e stop back = absurd cc
line_back name rest text (Some verb) c e stop back =
    let same : command_of verb rest ≡ c = cc in
    rw stop (rw e (rw (drop_at name rest (length name) refl) same))

formed_back : (pending : Bool) (form : Form) (c : ClientCommand) (text : List ℕ) → form ≡ form_of c → IsFilled form → ((rest : List ℕ) → IsRead form c rest) → IsFormed pending form text → command_in pending text ≡ c
formed_back false (Named word arguments) c text e f back h =
    let named : params_in rows (map to_ascii_uppercase h.name) ≡ Some f.0 = ap (params_in rows) h.named ∙ f.1 in
    let stop : name_length (h.name ++ h.rest) ≡ length h.name =
    name_back h.name h.rest (named_lacks_space (map to_ascii_uppercase h.name) f.0 named) (named_lacks_return (map to_ascii_uppercase h.name) f.0 named) (arguments_end arguments h.rest h.filled) in
    let ends : name_length text ≡ length h.name = ap name_length h.written ∙ stop in
    let word_is : map to_ascii_uppercase (take (name_length text) text) ≡ word =
    ap (λ (n : ℕ). map to_ascii_uppercase (take n text)) ends
    ∙ ap (λ (t : List ℕ). map to_ascii_uppercase (take (length h.name) t)) h.written
    ∙ ap (map to_ascii_uppercase) (take_at h.name h.rest (length h.name) refl)
    ∙ h.named in
    ap (λ (w : List ℕ). line_command (command_named command_names w) text) word_is
    ∙ line_back h.name h.rest text (command_named command_names word) c h.written ends (back h.rest h.filled)
formed_back false (Alone value) c text e f back h = absurd h
formed_back true (Named word arguments) c text e f back h = absurd h
formed_back true (Alone value) (Response v) text e f back h =
    let same : value ≡ v = cc in
    let read = ap string_in h.written ∙ string_back value h.first (13 ∷ 10 ∷ []) h.string in
    rw read (ap (λ (u : List ℕ). Response u) same)
formed_back true (Alone value) (Noop None) text e f back h = absurd cc
formed_back true (Alone value) (Noop (Some tag)) text e f back h = absurd cc
formed_back true (Alone value) (Authenticate mechanism None) text e f back h = absurd cc
formed_back true (Alone value) (Authenticate mechanism (Some response)) text e f back h = absurd cc
formed_back true (Alone value) _ text e f back h = absurd cc

-- the command of a spelling is read from it
pub spelling_back : (pending : Bool) (c : ClientCommand) (text : List ℕ) → IsSpelling pending c text → command_in pending text ≡ c
spelling_back pending c text h = formed_back pending (form_of c) c text refl (filled c) (read_back c) h
