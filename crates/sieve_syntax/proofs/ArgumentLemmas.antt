-- Lemmas on arguments.
use Rattle.std.proofs.Common.{◌≡◌, ℕ, List, [], ◌∷◌, ◌++◌, ◌<◌, ◌≤◌, length, refl, sym, ap, ◌∙◌, subst, arith}
use Rattle.sieve_lex.specs.declared.token.Mark.{Mark}
use Rattle.sieve_lex.specs.declared.token.Mark.TheVariants as K
use Rattle.sieve_syntax.specs.declared.parser.argument.Argument.{Argument}
use Rattle.sieve_syntax.specs.declared.parser.argument.Argument.TheVariants as A
use Rattle.sieve_syntax.specs.Chains.{Chain}
use Rattle.sieve_syntax.specs.Lexemes.{Lexeme, text, mark}
use Rattle.sieve_syntax.specs.Arguments.{IsOther, AreStrings, IsArgument, IsArgumentsEnd, AreArguments}
use Rattle.sieve_syntax.proofs.Chains.{IsSoFar, chain_more, chain_ends, chain_fails}

-- this mark stands at the front
abbrev pub IsMarked : Mark → List Lexeme → Type 0
IsMarked kind rest = (to : List Lexeme) × (rest ≡ mark kind ∷ to)

module _ (whole : List Lexeme) (so_far : List (List ℕ)) (rest : List Lexeme) (so : IsSoFar IsOther (IsMarked K.CloseBracket) whole so_far rest) where
  -- neither a comma nor the close bracket
  pub others_stop : ((to : List Lexeme) → rest ≡ mark K.Comma ∷ to → ⊥) → ((to : List Lexeme) → rest ≡ mark K.CloseBracket ∷ to → ⊥) → (more : List (List ℕ)) (to : List Lexeme) → Chain IsOther more whole (mark K.CloseBracket ∷ to) → ⊥
  others_stop no_comma no_close more to chain =
      chain_fails IsOther (IsMarked K.CloseBracket) whole so_far rest so (λ m. no_close m.0 m.1) (λ y end at. no_comma (text y ∷ end) at) more (mark K.CloseBracket ∷ to) chain (to, refl)

  -- a comma and no string
  pub others_lack : (next : List Lexeme) → rest ≡ mark K.Comma ∷ next → ((s : List ℕ) (to : List Lexeme) → next ≡ text s ∷ to → ⊥) → (more : List (List ℕ)) (to : List Lexeme) → Chain IsOther more whole (mark K.CloseBracket ∷ to) → ⊥
  others_lack next comma none more to chain =
      chain_fails IsOther (IsMarked K.CloseBracket) whole so_far rest so (λ m. let e = m.1 in cc) (λ y end at. none y end cc) more (mark K.CloseBracket ∷ to) chain (to, refl)

  -- a comma and a string
  pub others_grow : (next : List Lexeme) (s : List ℕ) (after : List Lexeme) → rest ≡ mark K.Comma ∷ next → next ≡ text s ∷ after → IsSoFar IsOther (IsMarked K.CloseBracket) whole (so_far ++ s ∷ []) after
  others_grow next s after comma string =
      chain_more IsOther (IsMarked K.CloseBracket) whole so_far rest s after so (comma ∙ ap (λ l. mark K.Comma ∷ l) string) (λ y to at. (cc, cc)) (λ m. let e = m.1 in cc)

  -- the close bracket
  pub others_end : (next : List Lexeme) → rest ≡ mark K.CloseBracket ∷ next → (more : List (List ℕ)) (to : List Lexeme) → Chain IsOther more whole (mark K.CloseBracket ∷ to) → (more ≡ so_far) × (to ≡ next)
  others_end next close more to chain =
      let found = chain_ends IsOther (IsMarked K.CloseBracket) whole so_far rest so (λ y end at. let e : ⊥ = cc in e) more (mark K.CloseBracket ∷ to) chain (to, refl) in
      let same : mark K.CloseBracket ∷ to ≡ rest = found.1 in
      (found.0, cc)

-- no argument stands where none begins
pub end_none : (from : List Lexeme) → IsArgumentsEnd from → (a : Argument) (to : List Lexeme) → IsArgument a from to → ⊥
end_none from end (A.Tag t) to at = subst IsArgumentsEnd at end
end_none from end (A.Number n) to at = subst IsArgumentsEnd at end
end_none from end (A.Text s) to at = subst IsArgumentsEnd at end
end_none from end (A.Strings xs) to at = subst IsArgumentsEnd at.1.0 end

-- strings are not empty
strings_longer : (xs : List (List ℕ)) (from to : List Lexeme) → AreStrings xs from to → length to < length from
strings_longer [] from to none = absurd none
strings_longer (s ∷ more) from to at = omega (arith, ap length at.1.0, chain_longer more at.0 (mark K.CloseBracket ∷ to) at.1.1)
  where
    chain_longer : (ys : List (List ℕ)) (l m : List Lexeme) → Chain IsOther ys l m → length m ≤ length l
    chain_longer [] l m same = omega (arith, ap length same)
    chain_longer (y ∷ ys) l m chain = omega (arith, ap length chain.1.0, chain_longer ys chain.0 m chain.1.1)

-- an argument is not empty
pub argument_longer : (a : Argument) (from to : List Lexeme) → IsArgument a from to → length to < length from
argument_longer (A.Tag t) from to at = omega (arith, ap length at)
argument_longer (A.Number n) from to at = omega (arith, ap length at)
argument_longer (A.Text s) from to at = omega (arith, ap length at)
argument_longer (A.Strings xs) from to at = omega (arith, ap length at.1.0, strings_longer xs at.0 to at.1.1)

module _ (whole : List Lexeme) (so_far : List Argument) (rest : List Lexeme) (so : IsSoFar IsArgument IsArgumentsEnd whole so_far rest) where
  -- neither an argument nor an end
  pub arguments_fail : (IsArgumentsEnd rest → ⊥) → ((a : Argument) (to : List Lexeme) → IsArgument a rest to → ⊥) → (args : List Argument) (to : List Lexeme) → AreArguments args whole to → ⊥
  arguments_fail begun none args to are = chain_fails IsArgument IsArgumentsEnd whole so_far rest so begun none args to are.spelled are.all

  -- the end
  pub arguments_end : (to : List Lexeme) → IsArgumentsEnd rest × (to ≡ rest) → AreArguments so_far whole to × ((args : List Argument) (end : List Lexeme) → AreArguments args whole end → (args ≡ so_far) × (end ≡ to))
  arguments_end to end = (
    record { spelled = subst (Chain IsArgument so_far whole) (sym end.1) so.joins; all = subst IsArgumentsEnd (sym end.1) end.0 },
    λ args last are. let found = chain_ends IsArgument IsArgumentsEnd whole so_far rest so (end_none rest end.0) args last are.spelled are.all in (found.0, found.1 ∙ sym end.1),
  )
