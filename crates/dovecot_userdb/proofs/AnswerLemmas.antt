-- Lemmas on what a line says.
use Rattle.std.proofs.Common.{◌≡◌, ◌≢◌, ℕ, ◌<◌, ◌^◌, ◌==◌, Bool, true, false, List, ◌∷◌, codes, Option, Some, None, refl, sym, ap, ◌∙◌, subst, arith, eq-eqb}
use Rattle.octets.specs.Decimal.{Writes}
use Rattle.dovecot_userdb.specs.Escapes.{tab_escaped}
use Rattle.dovecot_userdb.specs.Lines.{CutsAt, field_end}
use Rattle.dovecot_userdb.specs.Answers.{IsNumberFirst, BeginsNumbered, TellsVersion, SaysAnswer, IsWord, IsNoAnswerLine, IsBrokenAnswer, LineSays, FieldsBegin, TellsMajorOne, FieldsFind, SaysFound, SaysPlain, UserdbAnswersStand}
use Rattle.dovecot_userdb.specs.declared.answer.UserdbAnswer.{UserdbAnswer}
use Rattle.dovecot_userdb.specs.declared.answer.UserdbAnswer.TheVariants.{Found, NotFound, Failed}
use Rattle.dovecot_userdb.specs.declared.answer.UserdbReply.{UserdbReply}
use Rattle.dovecot_userdb.specs.declared.line.UserdbLine.{UserdbLine}
use Rattle.dovecot_userdb.specs.declared.line.UserdbLine.TheVariants.{Answer, Passed, Broken}
use Rattle.dovecot_userdb.specs.declared.line.UserdbWord.TheVariants.{Other}
use Rattle.dovecot_userdb.proofs.LineLemmas.{cut_same}
use Rattle.dovecot_userdb.proofs.EscapeLemmas.{escaped_same}

-- ---- the number

pub number_same : (fields : List ℕ) (n k : ℕ) (a b : Option (List ℕ)) → IsNumberFirst fields n a → IsNumberFirst fields k b → (n ≡ k) × (a ≡ b)
number_same fields n k a b one two =
    let it = cut_same field_end fields one.text two.text a b one.cut two.cut in
    (sym one.writes.value ∙ (subst (λ (t : List ℕ). Writes t k) (sym it.0) two.writes).value, it.1)

-- no other number than one that its text writes
pub no_number : (fields text : List ℕ) (rest : Option (List ℕ)) → CutsAt field_end fields text rest → ((n : ℕ) → n < 2 ^ 32 → Writes text n → ⊥) → (number : ℕ) (more : Option (List ℕ)) → FieldsBegin (Some fields) number more → ⊥
no_number fields text rest cut none number more first =
    let it = cut_same field_end fields text first.text rest more cut first.cut in
    none number first.small (subst (λ (t : List ℕ). Writes t number) (sym it.0) first.writes)

pub begin_same : (behind : Option (List ℕ)) (n k : ℕ) (a b : Option (List ℕ)) → FieldsBegin behind n a → FieldsBegin behind k b → (n ≡ k) × (a ≡ b)
begin_same None n k a b one two = absurd one
begin_same (Some fields) n k a b one two = number_same fields n k a b one two

-- ---- the word

pub begins : (word line : List ℕ) (behind : Option (List ℕ)) (n : ℕ) (more : Option (List ℕ)) → CutsAt field_end line word behind → FieldsBegin behind n more → BeginsNumbered word line n more
begins word line None n more cut first = absurd first
begins word line (Some fields) n more cut first = record { fields = fields; cut = cut; first = first }

pub begins_back : (word line : List ℕ) (behind : Option (List ℕ)) (n : ℕ) (more : Option (List ℕ)) → CutsAt field_end line word behind → BeginsNumbered word line n more → FieldsBegin behind n more
begins_back word line behind n more cut begun =
    let it = cut_same field_end line word word behind (Some begun.fields) cut begun.cut in
    subst (λ (o : Option (List ℕ)). FieldsBegin o n more) (sym it.1) begun.first

pub other_word : (word other line : List ℕ) (behind : Option (List ℕ)) (n : ℕ) (more : Option (List ℕ)) → CutsAt field_end line word behind → word ≢ other → BeginsNumbered other line n more → ⊥
other_word word other line behind n more cut differs begun = differs (cut_same field_end line word other behind (Some begun.fields) cut begun.cut).0

pub numbered_same : (word line : List ℕ) (n k : ℕ) (a b : Option (List ℕ)) → BeginsNumbered word line n a → BeginsNumbered word line k b → (n ≡ k) × (a ≡ b)
numbered_same word line n k a b one two = begin_same (Some one.fields) n k a b one.first (begins_back word line (Some one.fields) k b one.cut two)

heads : (x y : ℕ) (xs ys : List ℕ) → x ∷ xs ≡ y ∷ ys → x ≡ y
heads x y xs ys is = cc

pub user_not_none : codes "USER" ≢ codes "NOTFOUND"
user_not_none is = let same : ◌≡◌ {A = ℕ} 85 78 = heads _ _ _ _ is in omega (arith, same)

pub user_not_fail : codes "USER" ≢ codes "FAIL"
user_not_fail is = let same : ◌≡◌ {A = ℕ} 85 70 = heads _ _ _ _ is in omega (arith, same)

pub none_not_fail : codes "NOTFOUND" ≢ codes "FAIL"
none_not_fail is = let same : ◌≡◌ {A = ℕ} 78 70 = heads _ _ _ _ is in omega (arith, same)

-- ---- the version

pub tells_version : (line : List ℕ) (behind : Option (List ℕ)) (b : Bool) → CutsAt field_end line (codes "VERSION") behind → TellsMajorOne behind b → TellsVersion line b
tells_version line behind true cut tells = (tells.0, begins (codes "VERSION") line behind 1 tells.0 cut tells.1)
tells_version line behind false cut tells = λ says. tells says.0 (begins_back (codes "VERSION") line behind 1 says.0 cut says.1)

pub tells_no_version : (line word : List ℕ) (behind : Option (List ℕ)) → CutsAt field_end line word behind → word ≢ codes "VERSION" → TellsVersion line false
tells_no_version line word behind cut differs = λ says. other_word word (codes "VERSION") line behind 1 says.0 cut differs says.1

tells_by : (behind : Option (List ℕ)) (n : ℕ) (more : Option (List ℕ)) (b : Bool) → (n == 1) ≡ b → FieldsBegin behind n more → TellsMajorOne behind b
tells_by behind n more true is begin = (more, let one : n ≡ 1 = grind arith in subst (λ (k : ℕ). FieldsBegin behind k more) one begin)
tells_by behind n more false is begin = λ other first. let same = (begin_same behind n 1 more other begin first).0 in let one : (n == 1) ≡ true = eq-eqb n 1 same in cc

pub tells_one : (behind : Option (List ℕ)) (n : ℕ) (more : Option (List ℕ)) → FieldsBegin behind n more → TellsMajorOne behind (n == 1)
tells_one behind n more begin = tells_by behind n more (n == 1) refl begin

-- ---- a line of each word

no_other : (word other : List ℕ) → word ≡ other → IsWord word Other → (other ≡ codes "USER" → ⊥) × (other ≡ codes "NOTFOUND" → ⊥) × (other ≡ codes "FAIL" → ⊥)
no_other word other is none = ((λ same. none.0 (is ∙ same)), (λ same. none.1 (is ∙ same)), (λ same. none.2 (is ∙ same)))

found_none : (line word : List ℕ) (behind : Option (List ℕ)) → CutsAt field_end line word behind → word ≡ codes "USER" → ((id : ℕ) (name : List ℕ) → FieldsFind behind id name → ⊥) → (id : ℕ) (answer : UserdbAnswer) → SaysAnswer line id answer → ⊥
found_none line word behind cut is none id (Found name) says =
    none id name (says.0, begins_back word line behind id (Some says.0) cut (subst (λ (w : List ℕ). BeginsNumbered w line id (Some says.0)) (sym is) says.1), says.2)
found_none line word behind cut is none id NotFound says = other_word word (codes "NOTFOUND") line behind id says.0 cut (λ same. user_not_none (sym is ∙ same)) says.1
found_none line word behind cut is none id Failed says = other_word word (codes "FAIL") line behind id says.0 cut (λ same. user_not_fail (sym is ∙ same)) says.1

pub says_found : (line word : List ℕ) (behind : Option (List ℕ)) (said : UserdbLine) → CutsAt field_end line word behind → word ≡ codes "USER" → SaysFound behind said → LineSays line said
says_found line word behind (Answer reply) cut is says =
    let find = says.2 in
    let begun = subst (λ (w : List ℕ). BeginsNumbered w line reply.id (Some find.0)) is (begins word line behind reply.id (Some find.0) cut find.1) in
    subst (λ (a : UserdbAnswer). SaysAnswer line reply.id a) (sym says.1) (find.0, begun, find.2)
says_found line word behind Passed cut is says = absurd says
says_found line word behind Broken cut is says =
    record { word = word; rest = behind; cut = cut; is = λ none. (no_other word (codes "USER") is none).0 refl; none = found_none line word behind cut is says }

none_plain : (line word : List ℕ) (behind : Option (List ℕ)) → CutsAt field_end line word behind → word ≡ codes "NOTFOUND" → ((id : ℕ) (more : Option (List ℕ)) → FieldsBegin behind id more → ⊥) → (id : ℕ) (answer : UserdbAnswer) → SaysAnswer line id answer → ⊥
none_plain line word behind cut is none id (Found name) says = other_word word (codes "USER") line behind id (Some says.0) cut (λ same. user_not_none (sym same ∙ is)) says.1
none_plain line word behind cut is none id NotFound says = none id says.0 (begins_back word line behind id says.0 cut (subst (λ (w : List ℕ). BeginsNumbered w line id says.0) (sym is) says.1))
none_plain line word behind cut is none id Failed says = other_word word (codes "FAIL") line behind id says.0 cut (λ same. none_not_fail (sym is ∙ same)) says.1

pub says_none : (line word : List ℕ) (behind : Option (List ℕ)) (said : UserdbLine) → CutsAt field_end line word behind → word ≡ codes "NOTFOUND" → SaysPlain behind NotFound said → LineSays line said
says_none line word behind (Answer reply) cut is says =
    let begun = subst (λ (w : List ℕ). BeginsNumbered w line reply.id says.1.0) is (begins word line behind reply.id says.1.0 cut says.1.1) in
    subst (λ (a : UserdbAnswer). SaysAnswer line reply.id a) (sym says.0) (says.1.0, begun)
says_none line word behind Passed cut is says = absurd says
says_none line word behind Broken cut is says =
    record { word = word; rest = behind; cut = cut; is = λ none. (no_other word (codes "NOTFOUND") is none).1 refl; none = none_plain line word behind cut is says }

fail_plain : (line word : List ℕ) (behind : Option (List ℕ)) → CutsAt field_end line word behind → word ≡ codes "FAIL" → ((id : ℕ) (more : Option (List ℕ)) → FieldsBegin behind id more → ⊥) → (id : ℕ) (answer : UserdbAnswer) → SaysAnswer line id answer → ⊥
fail_plain line word behind cut is none id (Found name) says = other_word word (codes "USER") line behind id (Some says.0) cut (λ same. user_not_fail (sym same ∙ is)) says.1
fail_plain line word behind cut is none id NotFound says = other_word word (codes "NOTFOUND") line behind id says.0 cut (λ same. none_not_fail (sym same ∙ is)) says.1
fail_plain line word behind cut is none id Failed says = none id says.0 (begins_back word line behind id says.0 cut (subst (λ (w : List ℕ). BeginsNumbered w line id says.0) (sym is) says.1))

pub says_fail : (line word : List ℕ) (behind : Option (List ℕ)) (said : UserdbLine) → CutsAt field_end line word behind → word ≡ codes "FAIL" → SaysPlain behind Failed said → LineSays line said
says_fail line word behind (Answer reply) cut is says =
    let begun = subst (λ (w : List ℕ). BeginsNumbered w line reply.id says.1.0) is (begins word line behind reply.id says.1.0 cut says.1.1) in
    subst (λ (a : UserdbAnswer). SaysAnswer line reply.id a) (sym says.0) (says.1.0, begun)
says_fail line word behind Passed cut is says = absurd says
says_fail line word behind Broken cut is says =
    record { word = word; rest = behind; cut = cut; is = λ none. (no_other word (codes "FAIL") is none).2 refl; none = fail_plain line word behind cut is says }

-- ---- a name behind the number

-- what a text stands for is what its field stands for
pub no_name : (behind : Option (List ℕ)) (k : ℕ) (rest text : List ℕ) (besides : Option (List ℕ)) → FieldsBegin behind k (Some rest) → CutsAt field_end rest text besides → ((name : List ℕ) → text ≡ tab_escaped name → ⊥)
    → (id : ℕ) (name : List ℕ) → FieldsFind behind id name → ⊥
no_name behind k rest text besides begin cut none id name find =
    let it = begin_same behind k id (Some rest) (Some find.0) begin find.1 in
    let same : rest ≡ find.0 = cc (it.1) in
    let there = cut_same field_end rest text (tab_escaped name) besides find.2.0 cut (subst (λ (r : List ℕ). CutsAt field_end r (tab_escaped name) find.2.0) (sym same) find.2.1) in
    none name there.0

-- without a field behind the number there is no name
pub no_field : (behind : Option (List ℕ)) (k : ℕ) → FieldsBegin behind k None → (id : ℕ) (name : List ℕ) → FieldsFind behind id name → ⊥
no_field behind k begin id name find = let it = begin_same behind k id None (Some find.0) begin find.1 in let same : None ≡ Some find.0 = it.1 in cc

-- ---- each line says one thing

name_same : (line : List ℕ) (id : ℕ) (a b : List ℕ) → SaysAnswer line id (Found a) → SaysAnswer line id (Found b) → a ≡ b
name_same line id a b one two =
    let it = numbered_same (codes "USER") line id id (Some one.0) (Some two.0) one.1 two.1 in
    let same : one.0 ≡ two.0 = cc (it.1) in
    let texts = cut_same field_end one.0 (tab_escaped a) (tab_escaped b) one.2.0 two.2.0 one.2.1 (subst (λ (r : List ℕ). CutsAt field_end r (tab_escaped b) two.2.0) (sym same) two.2.1) in
    escaped_same a b texts.0

-- a line that begins with one word doesn't begin with another
two_words : (word other line : List ℕ) (n k : ℕ) (a b : Option (List ℕ)) → word ≢ other → BeginsNumbered word line n a → BeginsNumbered other line k b → ⊥
two_words word other line n k a b differs one two = other_word word other line (Some one.fields) k b one.cut differs two

id_same : (line : List ℕ) (i k : ℕ) (a b : UserdbAnswer) → SaysAnswer line i a → SaysAnswer line k b → i ≡ k
id_same line i k (Found a) (Found b) one two = (numbered_same (codes "USER") line i k (Some one.0) (Some two.0) one.1 two.1).0
id_same line i k (Found a) NotFound one two = absurd (two_words (codes "USER") (codes "NOTFOUND") line i k (Some one.0) two.0 user_not_none one.1 two.1)
id_same line i k (Found a) Failed one two = absurd (two_words (codes "USER") (codes "FAIL") line i k (Some one.0) two.0 user_not_fail one.1 two.1)
id_same line i k NotFound (Found b) one two = absurd (two_words (codes "USER") (codes "NOTFOUND") line k i (Some two.0) one.0 user_not_none two.1 one.1)
id_same line i k NotFound NotFound one two = (numbered_same (codes "NOTFOUND") line i k one.0 two.0 one.1 two.1).0
id_same line i k NotFound Failed one two = absurd (two_words (codes "NOTFOUND") (codes "FAIL") line i k one.0 two.0 none_not_fail one.1 two.1)
id_same line i k Failed (Found b) one two = absurd (two_words (codes "USER") (codes "FAIL") line k i (Some two.0) one.0 user_not_fail two.1 one.1)
id_same line i k Failed NotFound one two = absurd (two_words (codes "NOTFOUND") (codes "FAIL") line k i two.0 one.0 none_not_fail two.1 one.1)
id_same line i k Failed Failed one two = (numbered_same (codes "FAIL") line i k one.0 two.0 one.1 two.1).0

answer_same : (line : List ℕ) (i : ℕ) (a b : UserdbAnswer) → SaysAnswer line i a → SaysAnswer line i b → a ≡ b
answer_same line i (Found a) (Found b) one two = ap (λ (n : List ℕ). Found n) (name_same line i a b one two)
answer_same line i (Found a) NotFound one two = absurd (two_words (codes "USER") (codes "NOTFOUND") line i i (Some one.0) two.0 user_not_none one.1 two.1)
answer_same line i (Found a) Failed one two = absurd (two_words (codes "USER") (codes "FAIL") line i i (Some one.0) two.0 user_not_fail one.1 two.1)
answer_same line i NotFound (Found b) one two = absurd (two_words (codes "USER") (codes "NOTFOUND") line i i (Some two.0) one.0 user_not_none two.1 one.1)
answer_same line i NotFound NotFound one two = refl
answer_same line i NotFound Failed one two = absurd (two_words (codes "NOTFOUND") (codes "FAIL") line i i one.0 two.0 none_not_fail one.1 two.1)
answer_same line i Failed (Found b) one two = absurd (two_words (codes "USER") (codes "FAIL") line i i (Some two.0) one.0 user_not_fail two.1 one.1)
answer_same line i Failed NotFound one two = absurd (two_words (codes "NOTFOUND") (codes "FAIL") line i i two.0 one.0 none_not_fail two.1 one.1)
answer_same line i Failed Failed one two = refl

reply_same : (a b : UserdbReply) → a.id ≡ b.id → a.answer ≡ b.answer → a ≡ b
reply_same a b ids answers =
    ap (λ (i : ℕ). let r : UserdbReply = record { id = i; answer = a.answer } in r) ids ∙ ap (λ (x : UserdbAnswer). let r : UserdbReply = record { id = b.id; answer = x } in r) answers

replies_same : (line : List ℕ) (a b : UserdbReply) → SaysAnswer line a.id a.answer → SaysAnswer line b.id b.answer → a ≡ b
replies_same line a b one two =
    let ids = id_same line a.id b.id a.answer b.answer one two in
    reply_same a b ids (answer_same line a.id a.answer b.answer one (subst (λ (i : ℕ). SaysAnswer line i b.answer) (sym ids) two))

-- an answer's line begins with one of the words
word_said : (line word : List ℕ) (rest : Option (List ℕ)) (id : ℕ) (answer : UserdbAnswer) → CutsAt field_end line word rest → SaysAnswer line id answer → IsWord word Other → ⊥
word_said line word rest id (Found name) cut says none = other_word word (codes "USER") line rest id (Some says.0) cut none.0 says.1
word_said line word rest id NotFound cut says none = other_word word (codes "NOTFOUND") line rest id says.0 cut none.1 says.1
word_said line word rest id Failed cut says none = other_word word (codes "FAIL") line rest id says.0 cut none.2 says.1

passed_broken : (line : List ℕ) → IsNoAnswerLine line → IsBrokenAnswer line → ⊥
passed_broken line (word, (rest, cut, none)) broken =
    broken.is (subst (λ (w : List ℕ). IsWord w Other) (cut_same field_end line word broken.word rest broken.rest cut broken.cut).0 none)

pub one_says : (line : List ℕ) (a b : UserdbLine) → LineSays line a → LineSays line b → a ≡ b
one_says line (Answer a) (Answer b) one two = ap (λ (r : UserdbReply). Answer r) (replies_same line a b one two)
one_says line (Answer a) Passed one (word, (rest, cut, none)) = absurd (word_said line word rest a.id a.answer cut one none)
one_says line (Answer a) Broken one two = absurd (two.none a.id a.answer one)
one_says line Passed (Answer b) (word, (rest, cut, none)) two = absurd (word_said line word rest b.id b.answer cut two none)
one_says line Passed Passed one two = refl
one_says line Passed Broken one two = absurd (passed_broken line one two)
one_says line Broken (Answer b) one two = absurd (one.none b.id b.answer two)
one_says line Broken Passed one two = absurd (passed_broken line two one)
one_says line Broken Broken one two = refl

pub userdb_answers_stand : UserdbAnswersStand
userdb_answers_stand = record {
  one = λ line a b one two. one_says line a b one two;
  major = λ line a b one two. (numbered_same (codes "VERSION") line a b one.0 two.0 one.1 two.1).0;
}
