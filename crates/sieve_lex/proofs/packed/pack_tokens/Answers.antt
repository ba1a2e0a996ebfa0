use Rattle.std.proofs.Common.{◌≡◌, List, [], ◌∷◌, ◌++◌, Some, ap, sym, ◌∙◌, subst}
use Rattle.std.proofs.lemmas.List.{map-append}
use Rattle.sieve_lex.specs.declared.token.Token.{Token}
use Rattle.sieve_lex.specs.Spelling.{IsNextToken, placed}
use Rattle.sieve_lex.specs.declared.token.Content.{Content}
use Rattle.sieve_lex.specs.Contents.{contents_of, HoldsContents}
use Rattle.sieve_lex.proofs.Next.{next_further}
use Rattle.sieve_lex.proofs.Scanned.{IsFront, front_more, front_ends, front_only}
use Rattle.sieve_lex.proofs.Packing.{holds_contents}
use Rattle.sieve_lex.proofs.packed.pack_tokens.Goals as goal

pub tokens-preserved : goal.tokens-preserved
tokens-preserved c =
    let t : Token = placed c.args.text.now c.in-Some.piece in
    let here : IsNextToken c.args.text.now c.tokens.at t = rw c.in-Some.is at c.in_ok-piece.ensures.found in
    let one : (u : Token) → IsNextToken c.args.text.now c.tokens.at u → Some t ≡ Some u = rw c.in-Some.is at c.in_ok-piece.ensures.only in
    let front : (so_far : List Token) × (IsFront c.args.text.now so_far c.tokens.at × HoldsContents c.tokens.packed (contents_of so_far)) = c.tokens.invariant.front in
    let P : List Content → Type 0 = λ x. HoldsContents c.append.new.packed x in
    record {
      inside = (next_further _ _ t here).1;
      front = (
        front.0 ++ t ∷ [],
        (
          front_more _ c.tokens.at t _ front.1.0 here one,
          subst P (sym (map-append (λ t. t.content) front.0 (t ∷ []))) (c.in_ok-append.ensures (contents_of front.0) front.1.1),
        ),
      );
    }

pub returns-clause-found : goal.returns-clause-found
returns-clause-found c =
    let front : (so_far : List Token) × (IsFront c.args.text.now so_far c.tokens.at × HoldsContents c.tokens.packed (contents_of so_far)) = c.tokens.invariant.front in
    (front.0, (front_ends _ c.tokens.at _ front.1.0 (rw c.in_default.is at c.in_ok-piece.ensures.found), holds_contents _ _ front.1.1))

pub returns-clause-only : goal.returns-clause-only
returns-clause-only c = λ us s.
    let front : (so_far : List Token) × (IsFront c.args.text.now so_far c.tokens.at × HoldsContents c.tokens.packed (contents_of so_far)) = c.tokens.invariant.front in
    let none : (u : Token) → IsNextToken c.args.text.now c.tokens.at u → ⊥ = rw c.in_default.is at c.in_ok-piece.ensures.only in
    ap contents_of (front_only _ c.tokens.at _ front.1.0 none us s) ∙ sym (holds_contents _ _ front.1.1)
