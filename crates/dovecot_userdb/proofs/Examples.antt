-- Right cases of the definitions, and near misses. What Dovecot 2.3.19 wrote stands in test_sends too, octet by octet.
use Rattle.std.proofs.Common.{◌≡◌, ◌≢◌, ℕ, ◌<◌, List, [], ◌∷◌, ◌++◌, codes, decimal, Option, Some, None, refl, ap, arith, zero, suc, true, get_or}
use Rattle.octets.specs.Ascii.{is_digit}
use Rattle.octets.specs.Decimal.{Writes}
use Rattle.dovecot_userdb.specs.Escapes.{tab_escaped}
use Rattle.dovecot_userdb.specs.Lines.{from_mark}
use Rattle.dovecot_userdb.specs.Answers.{IsNumberFirst, SaysMajor, SaysAnswer, LineSays}
use Rattle.dovecot_userdb.specs.Requests.{userdb_request, IsAskable}
use Rattle.dovecot_userdb.specs.Talks.{phase_ended}
use Rattle.dovecot_userdb.specs.Probes.{trust_by, probe_letters}
use Rattle.dovecot_userdb.specs.declared.answer.UserdbAnswer.{UserdbAnswer}
use Rattle.dovecot_userdb.specs.declared.answer.UserdbAnswer.TheVariants.{Found, NotFound, Failed}
use Rattle.dovecot_userdb.specs.declared.end.UserdbEnd.TheVariants as ends
use Rattle.dovecot_userdb.specs.declared.line.UserdbLine.{UserdbLine}
use Rattle.dovecot_userdb.specs.declared.line.UserdbLine.TheVariants.{Answer, Passed, Broken}
use Rattle.dovecot_userdb.specs.declared.probe.UserdbTrust.TheVariants.{FindsAnybody, Unknown}
use Rattle.dovecot_userdb.specs.declared.talk.UserdbPhase.TheVariants.{Greeting, Over}
use Rattle.dovecot_userdb.proofs.AnswerLemmas.{one_says, userdb_answers_stand}
use Rattle.dovecot_userdb.proofs.EscapeLemmas.{escaped_same}
use Rattle.dovecot_userdb.proofs.RequestLemmas.{none_by_test}

-- ---- a value

-- `a`, TAB, `b`
tab_is_marked : tab_escaped (97 ∷ 9 ∷ 98 ∷ []) ≡ 97 ∷ 1 ∷ 116 ∷ 98 ∷ []
tab_is_marked = refl

all_marks : tab_escaped (0 ∷ 1 ∷ 9 ∷ 13 ∷ 10 ∷ []) ≡ 1 ∷ 48 ∷ 1 ∷ 49 ∷ 1 ∷ 116 ∷ 1 ∷ 114 ∷ 1 ∷ 110 ∷ []
all_marks = refl

-- octets over 127 stand for themselves
wide_stays : tab_escaped (195 ∷ 182 ∷ []) ≡ 195 ∷ 182 ∷ []
wide_stays = refl

-- near miss: the octets that a TAB stands for are no TAB, and stand otherwise
not_tab : tab_escaped (9 ∷ []) ≢ tab_escaped (1 ∷ 116 ∷ [])
not_tab same = let never : ◌≡◌ {A = List ℕ} (9 ∷ []) (1 ∷ 116 ∷ []) = escaped_same (9 ∷ []) (1 ∷ 116 ∷ []) same in absurd (cc never)

-- ---- a request

asks_alice : userdb_request 7 (codes "alice") ≡ codes "USER" ++ 9 ∷ (decimal 7 ++ 9 ∷ (codes "alice" ++ 9 ∷ codes "service=sieved")) ++ 10 ∷ []
asks_alice = refl

-- a name with a NUL can't be asked for
no_nul : IsAskable (97 ∷ 0 ∷ []) → ⊥
no_nul askable = askable.no_nul.1.0 refl

-- ---- an answer

one_digits : (k d : ℕ) → k < 1 → is_digit (get_or (codes "1") k d) ≡ true
one_digits zero d k<1 = refl
one_digits (suc k) d k<1 = absurd (omega arith)

one_is_written : Writes (codes "1") 1
one_is_written = record { present = λ same. absurd (cc same); digits = one_digits; value = refl }

-- what follows a word: 1, and the fields behind it
one_first : (fields : List ℕ) (more : Option (List ℕ)) → fields ≡ codes "1" ++ from_mark 9 more → IsNumberFirst fields 1 more
one_first fields more is = record { text = codes "1"; cut = record { none = none_by_test 9 (codes "1") refl; written = is }; writes = one_is_written; small = omega arith }

-- what Dovecot answers for a user that is there
alice_is_found : SaysAnswer (codes "USER\t1\talice\tuid=5000\tgid=5000\thome=/var/mail/alice") 1 (Found (codes "alice"))
alice_is_found = (
  codes "alice\tuid=5000\tgid=5000\thome=/var/mail/alice",
  record {
    fields = codes "1\talice\tuid=5000\tgid=5000\thome=/var/mail/alice";
    cut = record { none = none_by_test 9 (codes "USER") refl; written = refl };
    first = one_first (codes "1\talice\tuid=5000\tgid=5000\thome=/var/mail/alice") (Some (codes "alice\tuid=5000\tgid=5000\thome=/var/mail/alice")) refl;
  },
  (Some (codes "uid=5000\tgid=5000\thome=/var/mail/alice"), record { none = none_by_test 9 (codes "alice") refl; written = refl }),
)

-- and for one that isn't, and if its own database is away
nobody_isnt : SaysAnswer (codes "NOTFOUND\t1") 1 NotFound
nobody_isnt = (None, record { fields = codes "1"; cut = record { none = none_by_test 9 (codes "NOTFOUND") refl; written = refl }; first = one_first (codes "1") None refl })

nobody_knows : SaysAnswer (codes "FAIL\t1") 1 Failed
nobody_knows = (None, record { fields = codes "1"; cut = record { none = none_by_test 9 (codes "FAIL") refl; written = refl }; first = one_first (codes "1") None refl })

abbrev id_said : UserdbLine → ℕ
id_said (Answer reply) = reply.id
id_said Passed = 0
id_said Broken = 0

abbrev answer_said : UserdbLine → Option UserdbAnswer
answer_said (Answer reply) = Some reply.answer
answer_said Passed = None
answer_said Broken = None

-- near misses: it is no answer to another request, and finds nobody else
not_to_two : (answer : UserdbAnswer) → SaysAnswer (codes "NOTFOUND\t1") 2 answer → ⊥
not_to_two answer says =
    let same : Answer (record { id = 1; answer = NotFound }) ≡ Answer (record { id = 2; answer = answer }) =
    one_says (codes "NOTFOUND\t1") (Answer (record { id = 1; answer = NotFound })) (Answer (record { id = 2; answer = answer })) nobody_isnt says in
    let ids : ◌≡◌ {A = ℕ} 1 2 = ap id_said same in
    omega (arith, ids)

not_found : (id : ℕ) (name : List ℕ) → SaysAnswer (codes "NOTFOUND\t1") id (Found name) → ⊥
not_found id name says =
    let same : Answer (record { id = 1; answer = NotFound }) ≡ Answer (record { id = id; answer = Found name }) =
    one_says (codes "NOTFOUND\t1") (Answer (record { id = 1; answer = NotFound })) (Answer (record { id = id; answer = Found name })) nobody_isnt says in
    let answers : Some NotFound ≡ Some (Found name) = ap answer_said same in
    cc (answers)

-- a line that is none of these is passed over
spid_is_passed : LineSays (codes "SPID\t17929") Passed
spid_is_passed = (
  codes "SPID",
  (
    Some (codes "17929"),
    record { none = none_by_test 9 (codes "SPID") refl; written = refl },
    ((λ same. let at : ◌≡◌ {A = ℕ} 83 85 = cc in omega (arith, at)), (λ same. let at : ◌≡◌ {A = ℕ} 83 78 = cc in omega (arith, at)), (λ same. let at : ◌≡◌ {A = ℕ} 83 70 = cc in omega (arith, at))),
  ),
)

-- near miss: no answer is
answer_isnt_passed : LineSays (codes "FAIL\t1") Passed → ⊥
answer_isnt_passed passed =
    let same : Answer (record { id = 1; answer = Failed }) ≡ Passed = one_says (codes "FAIL\t1") (Answer (record { id = 1; answer = Failed })) Passed nobody_knows passed in
    cc

-- ---- the version

version_one : SaysMajor (codes "VERSION\t1\t1") 1
version_one = (
  Some (codes "1"),
  record {
    fields = codes "1\t1";
    cut = record { none = none_by_test 9 (codes "VERSION") refl; written = refl };
    first = one_first (codes "1\t1") (Some (codes "1")) refl;
  },
)

-- near miss: that isn't version 2
not_version_two : SaysMajor (codes "VERSION\t1\t1") 2 → ⊥
not_version_two says = let same = userdb_answers_stand.major (codes "VERSION\t1\t1") 1 2 version_one says in omega (arith, same)

-- ---- its end

-- the first cause stays
first_cause : phase_ended ends.Late (Over ends.Version) ≡ Over ends.Version
first_cause = refl

any_other : phase_ended ends.Late Greeting ≡ Over ends.Late
any_other = refl

-- ---- the name of nobody

two_octets : probe_letters (0 ∷ 255 ∷ []) ≡ codes "aapp"
two_octets = refl

-- near misses: a userdb that can't tell isn't believed, and one that finds nobody's name is refused
failed_is_unknown : trust_by Failed ≡ Unknown
failed_is_unknown = refl

found_is_refused : (name : List ℕ) → trust_by (Found name) ≡ FindsAnybody
found_is_refused name = refl
