-- A text has one list of tokens at most.
use Rattle.std.proofs.Common.{◌≡◌, ℕ, ◌+◌, ◌-◌, ◌*◌, ◌≤◌, true, Some, List, [], ◌∷◌, ◌++◌, length, take, drop, refl, ap, sym, ◌∙◌, subst, inl, inr, arith, length-append, length-drop}
use Rattle.std.specs.List.{list_all, prefix_len, flat_map}
use Rattle.std.proofs.lemmas.Bool.{cases_lt}
use Rattle.std.proofs.lemmas.List.{take_at, drop_at, length-take-le}
use Rattle.octets.specs.Ascii.{is_digit}
use Rattle.octets.specs.Decimal.{number_of}
use Rattle.octets.proofs.Lists.{some_is, some_pair}
use Rattle.sieve_lex.specs.declared.token.Content.{Content}
use Rattle.sieve_lex.specs.declared.token.Content.TheVariants.{Identifier, Tag, Number, Text}
use Rattle.sieve_lex.specs.declared.token.Content.TheVariants as C
use Rattle.sieve_lex.specs.declared.token.Mark.{Mark}
use Rattle.sieve_lex.specs.declared.token.Token.{Token}
use Rattle.sieve_lex.specs.declared.quoted.Mode.TheVariants.{Inside}
use Rattle.sieve_lex.specs.Class.{is_name_start}
use Rattle.sieve_lex.specs.Inside.{string_from}
use Rattle.sieve_lex.specs.Shape.{IsName, IsNumberText, IsQuotedString, IsTokenShape, factor_of, spelling_of}
use Rattle.sieve_lex.specs.Spelling.{IsToken, IsNextToken, SpellsFrom, SpellsTokens}
use Rattle.sieve_lex.specs.Text.{line_ends}
use Rattle.sieve_lex.proofs.Named.{name_bound}
use Rattle.sieve_lex.proofs.Next.{next_start, next_inside, tail_no_next}
use Rattle.sieve_lex.proofs.Numbered.{letter_no_digit}
use Rattle.sieve_lex.proofs.Opening.{Opens, shape_opened, shape_at, quoted_shape}
use Rattle.sieve_lex.proofs.Opening.Opens.{Named, Worded, Numbered, Tagged, Quoted, Marked}
use Rattle.sieve_lex.proofs.Prefixes.{prefix_len-passed}
use Rattle.sieve_lex.proofs.Strings.{string_again}
use Rattle.sieve_lex.proofs.Worded.{short, word_is, word_len, multi_word, multi_again}

-- where both are spelled alike, they are of these kinds
data Alike (v w : Content) : Type 0 where
  Names : (a b : List ℕ) → v ≡ Identifier a → w ≡ Identifier b → Alike v w
  Tags : (a b : List ℕ) → v ≡ Tag a → w ≡ Tag b → Alike v w
  Numbers : (m n : ℕ) → v ≡ Number m → w ≡ Number n → Alike v w
  Texts : (a b : List ℕ) → v ≡ Text a → w ≡ Text b → Alike v w
  Marks : (m n : Mark) → m ≡ n → v ≡ C.Mark m → w ≡ C.Mark n → Alike v w
  NameText : (a b : List ℕ) → v ≡ Identifier a → w ≡ Text b → Alike v w
  TextName : (a b : List ℕ) → v ≡ Text a → w ≡ Identifier b → Alike v w

alike : (b : ℕ) (v w : Content) → Opens b v → Opens b w → Alike v w
alike b v w one two = elim one [
  | Named x s c ve ↦ elim two [
    | Named y t d we ↦ Names x y ve we
    | Worded y t d we ↦ NameText x y ve we
    | Numbered y t d we ↦ absurd (cc)
    | Tagged y t d we ↦ absurd (cc)
    | Quoted y t d we ↦ absurd (cc)
    | Marked n d we ↦ absurd (cc)
  ]
  | Worded x s c ve ↦ elim two [
    | Named y t d we ↦ TextName x y ve we
    | Worded y t d we ↦ Texts x y ve we
    | Numbered y t d we ↦ absurd (cc)
    | Tagged y t d we ↦ absurd (cc)
    | Quoted y t d we ↦ absurd (cc)
    | Marked n d we ↦ absurd (cc)
  ]
  | Numbered x s c ve ↦ elim two [
    | Named y t d we ↦ absurd (cc)
    | Worded y t d we ↦ absurd (cc)
    | Numbered y t d we ↦ Numbers x y ve we
    | Tagged y t d we ↦ absurd (cc)
    | Quoted y t d we ↦ absurd (cc)
    | Marked n d we ↦ absurd (cc)
  ]
  | Tagged x s c ve ↦ elim two [
    | Named y t d we ↦ absurd (cc)
    | Worded y t d we ↦ absurd (cc)
    | Numbered y t d we ↦ absurd (cc)
    | Tagged y t d we ↦ Tags x y ve we
    | Quoted y t d we ↦ absurd (cc)
    | Marked n d we ↦ absurd (cc)
  ]
  | Quoted x s c ve ↦ elim two [
    | Named y t d we ↦ absurd (cc)
    | Worded y t d we ↦ absurd (cc)
    | Numbered y t d we ↦ absurd (cc)
    | Tagged y t d we ↦ absurd (cc)
    | Quoted y t d we ↦ Texts x y ve we
    | Marked n d we ↦ absurd (cc)
  ]
  | Marked m c ve ↦ elim two [
    | Named y t d we ↦ absurd (cc)
    | Worded y t d we ↦ absurd (cc)
    | Numbered y t d we ↦ absurd (cc)
    | Tagged y t d we ↦ absurd (cc)
    | Quoted y t d we ↦ absurd (cc)
    | Marked n d we ↦ Marks m n (cc) ve we
  ]
]

shapes_alike : (s rest : List ℕ) (v w : Content) → IsTokenShape v s rest → IsTokenShape w s rest → Alike v w
shapes_alike s rest v w one two =
    let a = shape_opened v s rest one in
    let b = shape_opened w s rest two in
    let e : a.first ∷ a.more ≡ b.first ∷ b.more = sym a.spelled ∙ b.spelled in
    let same : a.first ≡ b.first = cc in
    alike b.first v w (subst (λ x. Opens x v) same a.opens) b.opens

-- a number has one value
digits_len : (digits letter : List ℕ) (f : ℕ) → list_all is_digit digits ≡ true → factor_of letter ≡ Some f → prefix_len is_digit (digits ++ letter) ≡ length digits
digits_len digits [] f all scaled = prefix_len-passed is_digit digits [] all ∙ omega arith
digits_len digits (c ∷ []) f all scaled =
    let no = letter_no_digit c f scaled in
    let none : prefix_len is_digit (c ∷ []) ≡ 0 = rw no refl in
    prefix_len-passed is_digit digits (c ∷ []) all ∙ (rw none (omega arith))
digits_len digits (c ∷ (d ∷ more)) f all scaled = absurd (cc)

number_only : (s : List ℕ) (m n : ℕ) → IsNumberText s m → IsNumberText s n → m ≡ n
number_only s m n one two =
    let a : prefix_len is_digit s ≡ length one.digits = ap (prefix_len is_digit) one.spelled ∙ digits_len one.digits one.letter one.factor one.decimal one.scaled in
    let b : prefix_len is_digit s ≡ length two.digits = ap (prefix_len is_digit) two.spelled ∙ digits_len two.digits two.letter two.factor two.decimal two.scaled in
    let len : length one.digits ≡ length two.digits = sym a ∙ b in
    let first : take (length one.digits) s ≡ one.digits = ap (take (length one.digits)) one.spelled ∙ take_at one.digits one.letter (length one.digits) refl in
    let second : take (length two.digits) s ≡ two.digits = ap (take (length two.digits)) two.spelled ∙ take_at two.digits two.letter (length two.digits) refl in
    let digits : one.digits ≡ two.digits = sym first ∙ (ap (λ i. take i s) len ∙ second) in
    let third : drop (length one.digits) s ≡ one.letter = ap (drop (length one.digits)) one.spelled ∙ drop_at one.digits one.letter (length one.digits) refl in
    let fourth : drop (length two.digits) s ≡ two.letter = ap (drop (length two.digits)) two.spelled ∙ drop_at two.digits two.letter (length two.digits) refl in
    let letter : one.letter ≡ two.letter = sym third ∙ (ap (λ i. drop i s) len ∙ fourth) in
    let factor : one.factor ≡ two.factor = some_is one.factor two.factor (sym one.scaled ∙ (ap factor_of letter ∙ two.scaled)) in
    one.valued ∙ ((λ i. number_of (digits i) * factor i) ∙ sym two.valued)

-- a quoted string has one value
quoted_value : (s value : List ℕ) → IsQuotedString s value → string_from Inside (drop 1 s) ≡ Some (value, [])
quoted_value s value q = ap (λ t. string_from Inside (drop 1 t)) q.spelled ∙ (string_again q.pieces [] q.each ∙ ap (λ x. Some (x, [])) (sym q.valued))

quoted_only : (s a b : List ℕ) → IsQuotedString s a → IsQuotedString s b → a ≡ b
quoted_only s a b one two = (some_pair (a, []) (b, []) (sym (quoted_value s a one) ∙ quoted_value s b two)).0

-- a string that begins as a quoted one is one
quoted_too : (s rest a b : List ℕ) → IsQuotedString s a → IsTokenShape (Text b) s rest → IsQuotedString s b
quoted_too s rest a b q shape =
    let P : List ℕ → Type 0 = λ t. IsTokenShape (Text b) t rest in
    let Q : List ℕ → Type 0 = λ t. IsQuotedString t b in
    subst Q (sym q.spelled) (quoted_shape b (flat_map spelling_of q.pieces ++ 34 ∷ []) rest (subst P q.spelled shape))

module _ (octets : List ℕ) (n : ℕ) where
  -- a string has one value
  text_only : (a b : List ℕ) → IsTokenShape (Text a) (take n octets) (drop n octets) → IsTokenShape (Text b) (take n octets) (drop n octets) → a ≡ b
  text_only a b (inl q) two = quoted_only (take n octets) a b q (quoted_too (take n octets) (drop n octets) a b q two)
  text_only a b (inr m) (inl q) = quoted_only (take n octets) a b (quoted_too (take n octets) (drop n octets) b a q (inr m)) q
  text_only a b (inr m) (inr l) = (some_pair (a, drop n octets) (b, drop n octets) (sym (multi_again octets a n m) ∙ multi_again octets b n l)).0

  -- no name is spelled as a string
  name_no_text : (a b : List ℕ) → n ≤ length octets → IsTokenShape (Identifier a) (take n octets) (drop n octets) → IsTokenShape (Text b) (take n octets) (drop n octets) → ⊥
  name_no_text a b within name (inl q) = absurd (first a (sym name.0 ∙ q.spelled) name.1) where
    first : (a : List ℕ) {more : List ℕ} → a ≡ 34 ∷ more → IsName a → ⊥
    first [] e is = is
    first (c ∷ a) e is = let same : c ≡ 34 = cc in let z = subst (λ x. is_name_start x ≡ true) same is.0 in cc
  name_no_text a b within name (inr m) =
      let four = word_len octets (word_is octets (multi_word octets b n m)) in
      let bound = name_bound octets n within (subst IsName (sym name.0) name.1) in
      let five = short m.word m.named in
      let long = ap length m.spelled ∙ length-append m.word _ in
      omega (arith, four, bound, five, long, length-take-le n octets within)

  -- what the same octets spell is one thing
  shape_only : (v w : Content) → n ≤ length octets → IsTokenShape v (take n octets) (drop n octets) → IsTokenShape w (take n octets) (drop n octets) → v ≡ w
  shape_only v w within one two = elim (shapes_alike (take n octets) (drop n octets) v w one two) [
    | Names a b ve we ↦
        let x = shape_at _ _ _ _ ve one in
        let y = shape_at _ _ _ _ we two in
        let same : a ≡ b = sym x.0 ∙ y.0 in
        ve ∙ (ap Identifier same ∙ sym we)
    | Tags a b ve we ↦
        let x = shape_at _ _ _ _ ve one in
        let y = shape_at _ _ _ _ we two in
        let e : 58 ∷ a ≡ 58 ∷ b = sym x.0 ∙ y.0 in
        let same : a ≡ b = cc in
        ve ∙ (ap Tag same ∙ sym we)
    | Numbers a b ve we ↦
        let x = shape_at _ _ _ _ ve one in
        let y = shape_at _ _ _ _ we two in
        ve ∙ (ap Number (number_only (take n octets) a b x y) ∙ sym we)
    | Texts a b ve we ↦
        let x = shape_at _ _ _ _ ve one in
        let y = shape_at _ _ _ _ we two in
        ve ∙ (ap Text (text_only a b x y) ∙ sym we)
    | Marks a b same ve we ↦ ve ∙ (ap C.Mark same ∙ sym we)
    | NameText a b ve we ↦ absurd (name_no_text a b within (shape_at _ _ _ _ ve one) (shape_at _ _ _ _ we two))
    | TextName a b ve we ↦ absurd (name_no_text b a within (shape_at _ _ _ _ we two) (shape_at _ _ _ _ ve one))
  ]

-- one token at most stands at a front
token_only : (octets : List ℕ) (v w : Content) (m n : ℕ) → IsToken octets v m → IsToken octets w n → (m ≡ n) × (v ≡ w)
token_only octets v w m n one two =
    let same : m ≡ n = same_len in
    let P : ℕ → Type 0 = λ i. IsTokenShape v (take i octets) (drop i octets) in
    (same, shape_only octets n v w two.within (subst P same one.shape) two.shape) where
      same_len : m ≡ n
      same_len = elim (cases_lt m n) [
        | inl less ↦ absurd (one.longest w n less two.within two.shape)
        | inr more ↦ elim (cases_lt n m) [
          | inl less ↦ absurd (two.longest v m less one.within one.shape)
          | inr other ↦ omega (arith, more, other)
        ]
      ]

-- one token at most comes next
next_same : (text : List ℕ) (at : ℕ) (t u : Token) → IsNextToken text at t → IsNextToken text at u → t ≡ u
next_same text at t u one two =
    let dropped : drop t.start text ≡ drop u.start text = some_is _ _ (sym (next_start text at t one) ∙ next_start text at u two) in
    let in_one = next_inside text at t one in
    let in_two = next_inside text at u two in
    let start : t.start ≡ u.start = omega (arith, in_one, in_two, ap length dropped, length-drop t.start text, length-drop u.start text) in
    let P : List ℕ → Type 0 = λ x. IsToken x t.content (t.end - t.start) in
    let same = token_only (drop u.start text) t.content u.content (t.end - t.start) (u.end - u.start) (subst P dropped one.token) two.token in
    let end : t.end ≡ u.end = omega (arith, same.0, start, one.forward, two.forward) in
    let line : t.line ≡ u.line = one.line ∙ (ap (λ i. 1 + line_ends (take i text)) start ∙ sym two.line) in
    λ i. record { content = same.1 i; start = start i; end = end i; line = line i }

rest_same : (text : List ℕ) (at : ℕ) (ts us : List Token) → SpellsFrom text at ts → SpellsFrom text at us → ts ≡ us
rest_same text at [] [] one two = refl
rest_same text at [] (u ∷ us) one two = absurd (tail_no_next text at u one two.0)
rest_same text at (t ∷ ts) [] one two = absurd (tail_no_next text at t two one.0)
rest_same text at (t ∷ ts) (u ∷ us) one two =
    let same = next_same text at t u one.0 two.0 in
    let P : Token → Type 0 = λ x. SpellsFrom text x.end us in
    let later = rest_same text t.end ts us one.1 (subst P (sym same) two.1) in
    ap (λ x. x ∷ ts) same ∙ ap (λ xs. u ∷ xs) later

-- a text has one list of tokens
pub tokens_only : (text : List ℕ) (ts us : List Token) → SpellsTokens text ts → SpellsTokens text us → ts ≡ us
tokens_only text ts us one two = rest_same text 0 ts us one.spelled two.spelled
