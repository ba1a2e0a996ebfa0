-- A script with each token on a line of its own, so that the line of a fault tells the token.
use Rattle.std.specs.Prelude.{ℕ, ◌+◌, ◌-◌, ◌==◌, nat_le, List, [], ◌∷◌, ◌++◌, take, drop, cond, Option, Some, None}
use Rattle.sieve_lex.specs.Text.{line_ends}
use Rattle.sieve_lex.specs.declared.token.Token.{Token}

-- how a token is token_spelling in the text
abbrev pub token_spelling : List ℕ → Token → List ℕ
token_spelling text t = take (t.end - t.start) (drop t.start text)

-- each token after an LF, and nothing else: no comment, and no other white space between them
abbrev pub spread_text : List ℕ → List Token → List ℕ
spread_text text [] = []
spread_text text (t ∷ ts) = 10 ∷ (token_spelling text t ++ spread_text text ts)

-- which of these tokens begins on a line of the spread text, where this many lines begin before the first of them, whose index this is
abbrev pub token_from : List ℕ → ℕ → ℕ → ℕ → List Token → Option ℕ
token_from text line before index [] = None
token_from text line before index (t ∷ ts) =
    cond (nat_le line before) None
    (cond (before + 1 == line) (Some index)
    (token_from text line (before + 1 + line_ends (token_spelling text t)) (index + 1) ts))

abbrev pub token_on : List ℕ → ℕ → List Token → Option ℕ
token_on text line ts = token_from text line 1 0 ts
