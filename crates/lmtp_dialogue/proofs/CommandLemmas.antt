-- The first word of a line.
use Rattle.std.proofs.Common.{◌≡◌, ℕ, false, ◌-◌, length, List, [], ◌∷◌, take, drop, inl, inr, refl, sym, ap, ◌∙◌, subst, arith}
use Rattle.std.proofs.lemmas.List.{take-append-drop, take_rest}
use Rattle.std.specs.List.{prefix_len}
use Rattle.lmtp_dialogue.specs.Commands.{IsSameWord, verb_word, is_unspaced, HasArgument, Splits, IsCommandLine, argument_in}
use Rattle.lmtp_dialogue.specs.declared.verb.LmtpVerb.{LmtpVerb}
use Rattle.lmtp_dialogue.proofs.FrontLemmas.{Stops, all_front, stops_behind, front_is}

-- the first word of a line
abbrev pub word_in : List ℕ → List ℕ
word_in line = take (prefix_len is_unspaced line) line

abbrev pub tail_in : List ℕ → List ℕ
tail_in line = drop (prefix_len is_unspaced line) line

is_space : (octet : ℕ) → is_unspaced octet ≡ false → octet ≡ 32
is_space octet stops = grind (arith)

argues : (tail : List ℕ) → Stops is_unspaced tail → HasArgument tail (argument_in tail)
argues [] stops = inl (refl, refl)
argues (octet ∷ rest) stops = inr (rest, ap (λ o. o ∷ rest) (is_space octet stops), refl)

pub splits : (line : List ℕ) → Splits line (word_in line) (argument_in (tail_in line))
splits line = record {
  tail = tail_in line;
  written = sym (take-append-drop (prefix_len is_unspaced line) line);
  unspaced = all_front is_unspaced line;
  argues = argues (tail_in line) (stops_behind is_unspaced line);
}

stops_there : (tail argument : List ℕ) → HasArgument tail argument → Stops is_unspaced tail
stops_there tail argument is = elim is [
  | inl none ↦ subst (Stops is_unspaced) (sym none.0) tt
  | inr some ↦ subst (Stops is_unspaced) (sym some.1) refl
]

-- no other word stands there
pub one_word : (line word argument : List ℕ) → Splits line word argument → word_in line ≡ word
one_word line word argument is =
    ap (λ t. take (prefix_len is_unspaced t) t) is.written ∙ front_is is_unspaced word is.tail is.unspaced (stops_there is.tail argument is.argues)

pub no_command : (line : List ℕ) → ((verb : LmtpVerb) → IsSameWord (verb_word verb) (word_in line) → ⊥) → (verb : LmtpVerb) (argument : List ℕ) → IsCommandLine line verb argument → ⊥
no_command line none verb argument is = none verb (subst (IsSameWord (verb_word verb)) (sym (one_word line is.word argument is.splits)) is.is)

-- the same as the code has them: so many octets, and the others
pub command_at : (line : List ℕ) (count : ℕ) (verb : LmtpVerb) (argument : List ℕ) → count ≡ prefix_len is_unspaced line → IsSameWord (verb_word verb) (take count line)
    → argument ≡ argument_in (take (length line - count) (drop count line)) → IsCommandLine line verb argument
command_at line count verb argument same is argues =
    let all : argument ≡ argument_in (tail_in line) = argues ∙ (ap argument_in (take_rest line count) ∙ ap (λ n. argument_in (drop n line)) same) in
    record {
      word = word_in line;
      is = subst (λ n. IsSameWord (verb_word verb) (take n line)) same is;
      splits = subst (Splits line (word_in line)) (sym all) (splits line);
    }

pub no_command_at : (line : List ℕ) (count : ℕ) → count ≡ prefix_len is_unspaced line → ((verb : LmtpVerb) → IsSameWord (verb_word verb) (take count line) → ⊥)
    → (verb : LmtpVerb) (argument : List ℕ) → IsCommandLine line verb argument → ⊥
no_command_at line count same none = no_command line (λ verb is. none verb (subst (λ n. IsSameWord (verb_word verb) (take n line)) (sym same) is))
