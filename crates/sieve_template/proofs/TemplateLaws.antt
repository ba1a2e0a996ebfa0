-- A text has one list of pieces at most.
use Rattle.std.proofs.Common.{refl, ◌≡◌, ◌⊎◌, ◌||◌, ◌==◌, ℕ, Bool, true, List, [], ◌∷◌, ◌++◌, sym, ap, subst, ◌∙◌, inl, inr, ⊎_elim, arith}
use Rattle.std.proofs.lemmas.Bool.{and_parts, and_from, or_left, false≢true}
use Rattle.std.proofs.lemmas.List.{append-nil}
use Rattle.std.proofs.lemmas.List.Folds.{list_all-append}
use Rattle.std.specs.List.{list_all}
use Rattle.sieve_template.specs.Templates.{is_variable_octet, IsIdentifier, dotted_names, AreVariableNames, IsNamespacedName, IsInBraces, BeginsWithReference, HasNoReference, BeginWithNoText, IsPieceOf, AreThePieces}
use Rattle.sieve_template.specs.declared.template.Piece.{Piece}
use Rattle.sieve_template.specs.declared.template.Piece.TheVariants.{Text, Variable, Match, Namespaced}
use Rattle.sieve_template.proofs.PathLemmas.{not_both, number_octets, identifier_octets, name_octets}

cons_nil : (x : ℕ) (l : List ℕ) → x ∷ l ≡ [] → ⊥
cons_nil x l e = cc

empty_text : (own after : List ℕ) → (own ≡ [] → ⊥) → [] ≡ own ++ after → ⊥
empty_text [] after some e = some refl
empty_text (x ∷ own) after some e = cons_nil x (own ++ after) (sym e)

brace_no_dollar : {x : ℕ} → 125 ≡ x → x ≡ 36 → ⊥
brace_no_dollar e same = omega (arith, e, same)

-- octets of names, and dots
in_braces : ℕ → Bool
in_braces x = is_variable_octet x || x == 46

named_in_braces : (l : List ℕ) → list_all is_variable_octet l ≡ true → list_all in_braces l ≡ true
unfolding in_braces
named_in_braces [] all = refl
named_in_braces (x ∷ l) all =
    let parts = and_parts (is_variable_octet x) (list_all is_variable_octet l) all in
    and_from (in_braces x) (list_all in_braces l) (or_left (is_variable_octet x) (x == 46) parts.0) (named_in_braces l parts.1)

joined_in_braces : (a b : List ℕ) → list_all in_braces a ≡ true → list_all in_braces b ≡ true → list_all in_braces (a ++ b) ≡ true
joined_in_braces a b all every = list_all-append in_braces a b ∙ and_from (list_all in_braces a) (list_all in_braces b) all every

dotted_in_braces : (names : List (List ℕ)) → AreVariableNames names → list_all in_braces (dotted_names names) ≡ true
unfolding dotted_names AreVariableNames in_braces
dotted_in_braces [] are = refl
dotted_in_braces (name ∷ names) are =
    joined_in_braces name (dotted_names names) (named_in_braces name (name_octets name are.0)) (dotted_in_braces names are.1)

path_in_braces_all : (path : List ℕ) → IsNamespacedName path → list_all in_braces path ≡ true
path_in_braces_all path n =
    subst (λ l. list_all in_braces l ≡ true) (sym n.spelled)
    (joined_in_braces n.space (dotted_names (n.name ∷ n.names)) (named_in_braces n.space (identifier_octets n.space n.space_is)) (dotted_in_braces (n.name ∷ n.names) n.names_are))

inside_octets : (piece : Piece) (inside : List ℕ) → IsInBraces piece inside → list_all in_braces inside ≡ true
unfolding IsInBraces
inside_octets (Text own) inside is = absurd is
inside_octets (Variable name) inside is = subst (λ l. list_all in_braces l ≡ true) (sym is.0) (named_in_braces name (identifier_octets name is.1))
inside_octets (Match number) inside is = named_in_braces inside (number_octets inside is.1)
inside_octets (Namespaced path) inside is = subst (λ l. list_all in_braces l ≡ true) (sym is.0) (path_in_braces_all path is.1)

-- no brace and no dollar is among them
brace_outside : in_braces 125 ≡ true → ⊥
unfolding in_braces
brace_outside e = false≢true e

dollar_outside : in_braces 36 ≡ true → ⊥
unfolding in_braces
dollar_outside e = false≢true e

same_heads : (x y : ℕ) (l m : List ℕ) → x ∷ l ≡ y ∷ m → (x ≡ y) × (l ≡ m)
same_heads x y l m e = let first : x ≡ y = cc in let rest : l ≡ m = cc in (first, rest)

-- what stands before the first brace
before_brace : (a b c d : List ℕ) → list_all in_braces a ≡ true → list_all in_braces b ≡ true → a ++ 125 ∷ c ≡ b ++ 125 ∷ d → (a ≡ b) × (c ≡ d)
before_brace [] [] c d all every same = (refl, (same_heads 125 125 c d same).1)
before_brace [] (y ∷ b) c d all every same =
    let first = (same_heads 125 y c (b ++ 125 ∷ d) same).0 in
    absurd (brace_outside (subst (λ x. in_braces x ≡ true) (sym first) (and_parts (in_braces y) (list_all in_braces b) every).0))
before_brace (x ∷ a) [] c d all every same =
    let first = (same_heads x 125 (a ++ 125 ∷ c) d same).0 in
    absurd (brace_outside (subst (λ y. in_braces y ≡ true) first (and_parts (in_braces x) (list_all in_braces a) all).0))
before_brace (x ∷ a) (y ∷ b) c d all every same =
    let parts = same_heads x y (a ++ 125 ∷ c) (b ++ 125 ∷ d) same in
    let rest = before_brace a b c d (and_parts (in_braces x) (list_all in_braces a) all).1 (and_parts (in_braces y) (list_all in_braces b) every).1 parts.1 in
    let first : x ≡ y = parts.0 in
    let others : a ≡ b = rest.0 in
    let whole : x ∷ a ≡ y ∷ b = cc in
    (whole, rest.1)

-- a path has a dot, names have none
dot_outside : (path : List ℕ) → IsNamespacedName path → list_all is_variable_octet path ≡ true → ⊥
unfolding dotted_names
dot_outside path n all =
    let rest : List ℕ = n.name ++ dotted_names n.names in
    let whole : list_all is_variable_octet (n.space ++ (46 ∷ rest)) ≡ true = subst (λ l. list_all is_variable_octet l ≡ true) n.spelled all in
    let parts = and_parts (list_all is_variable_octet n.space) (list_all is_variable_octet (46 ∷ rest)) (sym (list_all-append is_variable_octet n.space (46 ∷ rest)) ∙ whole) in
    false≢true parts.1

-- what is in braces is one piece
one_inside : (p q : Piece) (inside : List ℕ) → IsInBraces p inside → IsInBraces q inside → p ≡ q
unfolding IsInBraces
one_inside (Text own) q inside is other = absurd is
one_inside (Variable name) (Text own) inside is other = absurd other
one_inside (Match number) (Text own) inside is other = absurd other
one_inside (Namespaced path) (Text own) inside is other = absurd other
one_inside (Variable name) (Variable name') inside is other = ap (λ l. Variable l) (sym is.0 ∙ other.0)
one_inside (Variable name) (Match number) inside is other = absurd (not_both inside other.1 (subst IsIdentifier (sym is.0) is.1))
one_inside (Variable name) (Namespaced path) inside is other =
    absurd (dot_outside path other.1 (subst (λ l. list_all is_variable_octet l ≡ true) (sym is.0 ∙ other.0) (identifier_octets name is.1)))
one_inside (Match number) (Variable name) inside is other = absurd (not_both inside is.1 (subst IsIdentifier (sym other.0) other.1))
one_inside (Match number) (Match number') inside is other = ap (λ n. Match n) (is.0 ∙ sym other.0)
one_inside (Match number) (Namespaced path) inside is other =
    absurd (dot_outside path other.1 (subst (λ l. list_all is_variable_octet l ≡ true) other.0 (number_octets inside is.1)))
one_inside (Namespaced path) (Variable name) inside is other =
    absurd (dot_outside path is.1 (subst (λ l. list_all is_variable_octet l ≡ true) (sym other.0 ∙ is.0) (identifier_octets name other.1)))
one_inside (Namespaced path) (Match number) inside is other =
    absurd (dot_outside path is.1 (subst (λ l. list_all is_variable_octet l ≡ true) is.0 (number_octets inside other.1)))
one_inside (Namespaced path) (Namespaced path') inside is other = ap (λ l. Namespaced l) (sym is.0 ∙ other.0)

-- a text begins with one reference at most
one_reference : (p q : Piece) (text a b : List ℕ) → BeginsWithReference p text a → BeginsWithReference q text b → (p ≡ q) × (a ≡ b)
one_reference p q text a b one other =
    let whole : 36 ∷ 123 ∷ (one.inside ++ 125 ∷ a) ≡ 36 ∷ 123 ∷ (other.inside ++ 125 ∷ b) = sym one.spelled ∙ other.spelled in
    let behind : one.inside ++ 125 ∷ a ≡ other.inside ++ 125 ∷ b = cc in
    let parts = before_brace one.inside other.inside a b (inside_octets p one.inside one.is) (inside_octets q other.inside other.is) behind in
    (one_inside p q one.inside one.is (subst (IsInBraces q) (sym parts.0) other.is), parts.1)

-- a text is empty, or begins with a dollar
abbrev pub EndsOrDollar : List ℕ → Type 0
EndsOrDollar [] = Unit {0}
EndsOrDollar (x ∷ rest) = x ≡ 36

-- octets of a reference behind its dollar
behind_dollar : ℕ → Bool
behind_dollar x = in_braces x || x == 123

no_dollar_behind : (x : ℕ) → behind_dollar x ≡ true → x ≡ 36 → ⊥
unfolding behind_dollar in_braces
no_dollar_behind x is e = let at : behind_dollar 36 ≡ true = subst (λ y. behind_dollar y ≡ true) e is in false≢true at

inside_behind : (l : List ℕ) → list_all in_braces l ≡ true → list_all behind_dollar l ≡ true
unfolding behind_dollar
inside_behind [] all = refl
inside_behind (x ∷ l) all =
    let parts = and_parts (in_braces x) (list_all in_braces l) all in
    and_from (behind_dollar x) (list_all behind_dollar l) (or_left (in_braces x) (x == 123) parts.0) (inside_behind l parts.1)

-- these and the closing brace, cut in two before a dollar or the end: the brace is in the first part
brace_first : (body d after back : List ℕ) → list_all behind_dollar body ≡ true → body ++ 125 ∷ back ≡ d ++ after → EndsOrDollar after → (e : List ℕ) × (d ≡ body ++ 125 ∷ e)
brace_first [] [] [] back all same ends = absurd (cons_nil 125 back same)
brace_first [] [] (x ∷ after) back all same ends = absurd (brace_no_dollar (same_heads 125 x back after same).0 ends)
brace_first [] (y ∷ d) after back all same ends =
    let first = (same_heads 125 y back (d ++ after) same).0 in (d, ap (λ x. x ∷ d) (sym first))
brace_first (z ∷ body) [] [] back all same ends = absurd (cons_nil z (body ++ 125 ∷ back) same)
brace_first (z ∷ body) [] (x ∷ after) back all same ends =
    let first = (same_heads z x (body ++ 125 ∷ back) after same).0 in
    absurd (no_dollar_behind z (and_parts (behind_dollar z) (list_all behind_dollar body) all).0 (first ∙ ends))
brace_first (z ∷ body) (y ∷ d) after back all same ends =
    let parts = same_heads z y (body ++ 125 ∷ back) (d ++ after) same in
    let rest = brace_first body d after back (and_parts (behind_dollar z) (list_all behind_dollar body) all).1 parts.1 ends in
    (rest.0, ap (λ x. x ∷ d) (sym parts.0) ∙ ap (λ l. z ∷ l) rest.1)

-- so a reference that begins with a text which isn't empty and before a dollar or the end stands in that text
reference_first : (piece : Piece) (d after back : List ℕ) → (d ≡ [] → ⊥) → BeginsWithReference piece (d ++ after) back → EndsOrDollar after
    → ((other : Piece) (rest : List ℕ) → BeginsWithReference other d rest → ⊥) → ⊥
unfolding behind_dollar in_braces
reference_first piece [] after back some b ends none = some refl
reference_first piece (x ∷ d) after back some b ends none =
    let parts = same_heads x 36 (d ++ after) (123 ∷ (b.inside ++ 125 ∷ back)) b.spelled in
    let body : list_all behind_dollar (123 ∷ b.inside) ≡ true = inside_behind b.inside (inside_octets piece b.inside b.is) in
    let found = brace_first (123 ∷ b.inside) d after back body (sym parts.1) ends in
    none piece found.0 (record { inside = b.inside; spelled = ap (λ y. y ∷ d) parts.0 ∙ ap (λ l. 36 ∷ l) found.1; is = b.is })

-- a piece is a text or a reference
record IsTextPiece (piece : Piece) (others : List Piece) (text after : List ℕ) : Type 0 where
  pub own : List ℕ
  pub is : piece ≡ Text own
  pub spelled : text ≡ own ++ after
  pub some : own ≡ [] → ⊥
  pub plain : HasNoReference own
  pub first : BeginWithNoText others

sort_of : (piece : Piece) (others : List Piece) (text after : List ℕ) → IsPieceOf piece others text after → IsTextPiece piece others text after ⊎ BeginsWithReference piece text after
unfolding IsPieceOf
sort_of (Text own) others text after is = inl (record { own = own; is = refl; spelled = is.0; some = is.1; plain = is.2; first = is.3 })
sort_of (Variable name) others text after is = inr is
sort_of (Match number) others text after is = inr is
sort_of (Namespaced path) others text after is = inr is

-- behind a text there is a dollar or the end
dollar_or_end : (pieces : List Piece) (text : List ℕ) → AreThePieces pieces text → BeginWithNoText pieces → EndsOrDollar text
unfolding AreThePieces BeginWithNoText IsPieceOf
dollar_or_end [] text are first = subst EndsOrDollar (sym are) tt
dollar_or_end (Text own ∷ rest) text are first = absurd first
dollar_or_end (Variable name ∷ rest) text are first = subst EndsOrDollar (sym are.1.spelled) refl
dollar_or_end (Match number ∷ rest) text are first = subst EndsOrDollar (sym are.1.spelled) refl
dollar_or_end (Namespaced path ∷ rest) text are first = subst EndsOrDollar (sym are.1.spelled) refl

-- no reference begins a text in which none stands
none_begins : (own : List ℕ) → HasNoReference own → (piece : Piece) (rest : List ℕ) → BeginsWithReference piece own rest → ⊥
none_begins own plain piece rest b = plain [] own rest piece refl b

-- one of two beginnings of a text is a beginning of the other
data_split : (a b c d : List ℕ) → a ++ c ≡ b ++ d → ((e : List ℕ) × (b ≡ a ++ e) × (c ≡ e ++ d)) ⊎ ((e : List ℕ) × (a ≡ b ++ e) × (d ≡ e ++ c))
data_split [] b c d same = inl (b, refl, same)
data_split (x ∷ a) [] c d same = inr (x ∷ a, refl, sym same)
data_split (x ∷ a) (y ∷ b) c d same =
    let parts = same_heads x y (a ++ c) (b ++ d) same in
    ⊎_elim
    (λ left. inl (left.0, ap (λ z. z ∷ b) (sym parts.0) ∙ ap (λ l. x ∷ l) left.1, left.2))
    (λ right. inr (right.0, ap (λ z. z ∷ a) parts.0 ∙ ap (λ l. y ∷ l) right.1, right.2))
    (data_split a b c d parts.1)

-- a text that ends within another is followed by neither a dollar nor the end
longer_text : (a e after behind : List ℕ) (others : List Piece) → HasNoReference (a ++ e) → AreThePieces others behind → BeginWithNoText others → behind ≡ e ++ after → EndsOrDollar after → e ≡ []
unfolding AreThePieces IsPieceOf BeginWithNoText
longer_text a [] after behind others plain are first same ends = refl
longer_text a (x ∷ e) after behind [] plain are first same ends = absurd (cons_nil x (e ++ after) (sym same ∙ are))
longer_text a (x ∷ e) after behind (Text own ∷ rest) plain are first same ends = absurd first
longer_text a (x ∷ e) after behind (Variable name ∷ rest) plain are first same ends =
    absurd (reference_first (Variable name) (x ∷ e) after are.0 (λ n. cc) (subst (λ l. BeginsWithReference (Variable name) l are.0) same are.1) ends (λ other back b. plain a (x ∷ e) back other refl b))
longer_text a (x ∷ e) after behind (Match number ∷ rest) plain are first same ends =
    absurd (reference_first (Match number) (x ∷ e) after are.0 (λ n. cc) (subst (λ l. BeginsWithReference (Match number) l are.0) same are.1) ends (λ other back b. plain a (x ∷ e) back other refl b))
longer_text a (x ∷ e) after behind (Namespaced path ∷ rest) plain are first same ends =
    absurd (reference_first (Namespaced path) (x ∷ e) after are.0 (λ n. cc) (subst (λ l. BeginsWithReference (Namespaced path) l are.0) same are.1) ends (λ other back b. plain a (x ∷ e) back other refl b))

-- two texts that a text begins with, each followed by a reference or the end, are one
same_texts : (a b c d : List ℕ) (ps qs : List Piece) → HasNoReference a → HasNoReference b → AreThePieces ps c → AreThePieces qs d → BeginWithNoText ps → BeginWithNoText qs → a ++ c ≡ b ++ d
    → (a ≡ b) × (c ≡ d)
same_texts a b c d ps qs plain other are these first second same = ⊎_elim
    (λ left.
    let none : left.0 ≡ [] = longer_text a left.0 d c ps (subst HasNoReference left.1 other) are first left.2 (dollar_or_end qs d these second) in
    (sym (left.1 ∙ ap (λ l. a ++ l) none ∙ append-nil a), left.2 ∙ ap (λ l. l ++ d) none))
    (λ right.
    let none : right.0 ≡ [] = longer_text b right.0 c d qs (subst HasNoReference right.1 plain) these second right.2 (dollar_or_end ps c are first) in
    (right.1 ∙ ap (λ l. b ++ l) none ∙ append-nil b, sym (right.2 ∙ ap (λ l. l ++ c) none)))
    (data_split a b c d same)

-- no piece is of the empty text
no_piece : (piece : Piece) (others : List Piece) (after : List ℕ) → IsPieceOf piece others [] after → ⊥
no_piece piece others after is = ⊎_elim (λ t. empty_text t.own after t.some t.spelled) (λ b. cons_nil 36 (123 ∷ (b.inside ++ 125 ∷ after)) (sym b.spelled)) (sort_of piece others [] after is)

-- the pieces of a text are one list
pub pieces_one : (ps qs : List Piece) (text : List ℕ) → AreThePieces ps text → AreThePieces qs text → ps ≡ qs
unfolding AreThePieces
pieces_one [] [] text a b = refl
pieces_one [] (q ∷ qs) text a b = absurd (no_piece q qs b.0 (subst (λ l. IsPieceOf q qs l b.0) a b.1))
pieces_one (p ∷ ps) [] text a b = absurd (no_piece p ps a.0 (subst (λ l. IsPieceOf p ps l a.0) b a.1))
pieces_one (p ∷ ps) (q ∷ qs) text a b = ⊎_elim
    (λ one. ⊎_elim
    (λ other.
    let parts = same_texts one.own other.own a.0 b.0 ps qs one.plain other.plain a.2 b.2 one.first other.first (sym one.spelled ∙ other.spelled) in
    let rest : ps ≡ qs = pieces_one ps qs a.0 a.2 (subst (AreThePieces qs) (sym parts.1) b.2) in
    let head : p ≡ q = one.is ∙ ap (λ l. Text l) parts.0 ∙ sym other.is in
    cc)
    (λ other. absurd (reference_first q one.own a.0 b.0 one.some (subst (λ l. BeginsWithReference q l b.0) one.spelled other) (dollar_or_end ps a.0 a.2 one.first) (none_begins one.own one.plain)))
    (sort_of q qs text b.0 b.1))
    (λ one. ⊎_elim
    (λ other. absurd (reference_first p other.own b.0 a.0 other.some (subst (λ l. BeginsWithReference p l a.0) other.spelled one) (dollar_or_end qs b.0 b.2 other.first) (none_begins other.own other.plain)))
    (λ other.
    let parts = one_reference p q text a.0 b.0 one other in
    let rest : ps ≡ qs = pieces_one ps qs a.0 a.2 (subst (AreThePieces qs) (sym parts.1) b.2) in
    let head : p ≡ q = parts.0 in
    cc)
    (sort_of q qs text b.0 b.1))
    (sort_of p ps text a.0 a.1)
