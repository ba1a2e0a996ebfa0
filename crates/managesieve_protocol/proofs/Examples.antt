-- Each definition at work: what it takes, and one beside it that it doesn't.
use Rattle.std.proofs.Common.{◌≡◌, ℕ, zero, suc, inl, inr, true, false, List, [], ◌∷◌, ◌++◌, length, Some, None, refl, ap, subst, arith}
use Rattle.std.specs.Prelude.{codes, replicate}
use Rattle.std.specs.List.{prefix_len}
use Rattle.managesieve_protocol.specs.declared.commands.ClientCommand.TheVariants as command
use Rattle.managesieve_protocol.specs.declared.items.ClientItem.TheVariants as item
use Rattle.managesieve_protocol.specs.declared.items.ItemExtent.{ItemExtent}
use Rattle.managesieve_protocol.specs.declared.items.ItemExtent.TheVariants.{Need, Command, Bad, TooBig}
use Rattle.managesieve_protocol.specs.declared.replies.ReplyCode.TheVariants as code
use Rattle.managesieve_protocol.specs.declared.replies.DataLine.TheVariants as line
use Rattle.managesieve_protocol.specs.declared.replies.Status.TheVariants as status
use Rattle.managesieve_protocol.specs.Arguments.{inside, IsQuotedArgument, AreDigits, IsDecimalNumber, IsLiteralString, Figure, IsLineArgument, IsStringLine}
use Rattle.managesieve_protocol.specs.Commands.{IsSpelling, IsCommand, IsViable}
use Rattle.managesieve_protocol.specs.Items.{EndsAtFeed, IsBadLine, IsInLiteral, CountsOutside, IsLong, EndsInLargeHead, IsFirstExtent}
use Rattle.managesieve_protocol.specs.Machine.{LineEnd, Quoted, Dead, rows, start_state}
use Rattle.managesieve_protocol.specs.Scanning.{Open, extent_of, ScanView, new_scan, IsScanOf}
use Rattle.managesieve_protocol.specs.Values.{item_of}
use Rattle.managesieve_protocol.specs.Replies.{string_spelled, line_spelled, last_spelled, ExtendsText}
use Rattle.managesieve_protocol.specs.Shown.{is_plain_quoted, is_inside_line, letters_matched}
use Rattle.managesieve_protocol.proofs.Law.{spelling_whole, live_viable, viable_live}
use Rattle.managesieve_protocol.proofs.Outside.{literal_free, not_free, outside_from, counts, counts_only}
use Rattle.managesieve_protocol.proofs.Heads.{head_large}
use Rattle.managesieve_protocol.proofs.Scans.{reaches}
use Rattle.managesieve_protocol.proofs.Unique.{one_reach}

-- with CRLF after it
abbrev crlf : List ℕ → List ℕ
crlf text = text ++ 13 ∷ 10 ∷ []

-- ---- strings and numbers

-- `"a\""` is the text `a"`
quoted : IsQuotedArgument (codes "a\"") (codes "\"a\\\"\"")
quoted = record { written = refl; allowed = (refl, (refl, tt)); short = omega arith }

-- no quoted string has an LF in it
not_quoted : (text : List ℕ) → IsQuotedArgument (10 ∷ []) text → ⊥
not_quoted text q = let never : false ≡ true = q.allowed.0 in cc

-- nor one of 1,025 octets
not_short : (text : List ℕ) → IsQuotedArgument (replicate 1025 97) text → length (inside (replicate 1025 97)) ≡ 1025 → ⊥
not_short text q e = omega (arith, q.short, e)

-- 10 is written `10`, and not `010` or `1a`
numeral : IsDecimalNumber 10 (codes "10")
numeral = ((refl, (refl, tt)), (λ zero_is. absurd (omega (arith, zero_is))), refl)

not_numeral : IsDecimalNumber 10 (codes "010") → ⊥
not_numeral h = let digits : List ℕ = codes "10" in let never : digits ≡ [] = h.1 refl in absurd cc

not_digits : AreDigits (codes "1a") → ⊥
not_digits h = let never : false ≡ true = h.1.0 in cc

-- `{2+}` CRLF and two octets; `{02+}` CRLF and two octets are no literal
literal : IsLiteralString (0 ∷ 10 ∷ []) (crlf (codes "{2+}") ++ 0 ∷ 10 ∷ [])
literal = record { digits = codes "2"; numeral = ((refl, tt), (λ zero_is. refl), refl); written = refl; short = omega arith }

not_literal : IsLiteralString (0 ∷ 10 ∷ []) (crlf (codes "{02+}") ++ 0 ∷ 10 ∷ []) → ⊥
not_literal h =
    let answer : IsStringLine (0 ∷ 10 ∷ []) (crlf (crlf (codes "{02+}") ++ 0 ∷ 10 ∷ [])) = record { first = crlf (codes "{02+}") ++ 0 ∷ 10 ∷ []; string = inr h; written = refl } in
    let whole = spelling_whole true (command.Response (0 ∷ 10 ∷ [])) (crlf (crlf (codes "{02+}") ++ 0 ∷ 10 ∷ [])) answer in
    cc (whole)

-- 4,294,967,295 is a number of a command, and 4,294,967,296 none
figure : IsLineArgument (Figure 4294967295) (codes "4294967295")
figure = (((refl, (refl, (refl, (refl, (refl, (refl, (refl, (refl, (refl, (refl, tt)))))))))), (λ zero_is. absurd (omega (arith, zero_is))), refl), omega arith)

not_figure : (text : List ℕ) → IsLineArgument (Figure 4294967296) text → ⊥
not_figure text h = omega (arith, h.1)

-- ---- commands

-- `noOP "t"` CRLF is NOOP with the string `t`, and no answer to a challenge
noop : IsSpelling false (command.Noop (Some (codes "t"))) (crlf (codes "noOP \"t\""))
noop = record {
  name = codes "noOP";
  rest = crlf (codes " \"t\"");
  named = refl;
  filled = (codes "\"t\"", crlf [], inl (record { written = refl; allowed = (refl, tt); short = omega arith }), refl, refl);
  written = refl;
}

not_pending : IsSpelling true (command.Noop (Some (codes "t"))) (crlf (codes "noOP \"t\"")) → ⊥
not_pending h = h

-- `"*"` CRLF answers a challenge, and is no command beside one
star : IsSpelling true (command.Response (codes "*")) (crlf (codes "\"*\""))
star = record { first = codes "\"*\""; string = inl (record { written = refl; allowed = (refl, tt); short = omega arith }); written = refl }

not_star : IsCommand false (crlf (codes "\"*\"")) → ⊥
unfolding rows
not_star h = let whole = spelling_whole false h.0 (crlf (codes "\"*\"")) h.1 in cc (whole)

-- two spaces are one too many
not_command : IsCommand false (crlf (codes "NOOP  ")) → ⊥
unfolding rows
not_command h = let whole = spelling_whole false h.0 (crlf (codes "NOOP  ")) h.1 in cc (whole)

-- a command may go on from `no`, and none from `nx`
viable : IsViable false (codes "no")
unfolding rows
viable = live_viable false (codes "no") (λ dead. cc (dead))

not_viable : IsViable false (codes "nx") → ⊥
unfolding rows
not_viable h = viable_live false (codes "nx") h refl

-- ---- bad lines

ends : EndsAtFeed (13 ∷ 10 ∷ [])
ends = ((λ same. omega (arith, same)), refl)

-- two LFs are two ends
not_ends : EndsAtFeed (10 ∷ 10 ∷ []) → ⊥
not_ends h = h.0 refl

-- the LF of `NOOP` LF is the octet with which no command goes on
bad_line : IsBadLine false (codes "NOOP" ++ 10 ∷ [])
unfolding rows
bad_line = record {
  front = codes "NOOP";
  octet = 10;
  tail = [];
  viable = live_viable false (codes "NOOP") (λ dead. cc (dead));
  fails = λ h. viable_live false (codes "NOOP" ++ 10 ∷ []) h refl;
  line = refl;
  written = refl;
}

-- ---- inside literals, and outside

-- an octet is inside after `NOOP {1+}` CRLF, and outside before the LF
in_literal : IsInLiteral false (crlf (codes "NOOP {1+}"))
unfolding rows
in_literal = literal_free false (crlf (codes "NOOP {1+}")) refl

not_in_literal : IsInLiteral false (codes "NOOP {1+}" ++ 13 ∷ []) → ⊥
unfolding rows
not_in_literal = not_free false (codes "NOOP {1+}" ++ 13 ∷ []) refl

-- eleven octets of `NOOP {1+}` CRLF `a` are outside, and not twelve
counted : CountsOutside false [] (crlf (codes "NOOP {1+}") ++ codes "a") 11
unfolding rows outside_from
counted = counts false (crlf (codes "NOOP {1+}") ++ codes "a") []

not_counted : CountsOutside false [] (crlf (codes "NOOP {1+}") ++ codes "a") 12 → ⊥
unfolding rows outside_from
not_counted h = let same : 12 ≡ 11 = counts_only false (crlf (codes "NOOP {1+}") ++ codes "a") [] 12 h in omega (arith, same)

-- 8,193 letters `x` are too long, and 8,192 aren't
outside_x : (n : ℕ) → outside_from Dead (replicate n 120) ≡ n
unfolding outside_from
outside_x zero = refl
outside_x (suc n) = omega (arith, outside_x n)

outside_line : (n : ℕ) → outside_from (start_state false) (replicate n 120) ≡ n
unfolding outside_from rows
outside_line zero = refl
outside_line (suc n) = omega (arith, outside_x n)

long : IsLong false (replicate 8193 120)
long = (8193, subst (λ (n : ℕ). CountsOutside false [] (replicate 8193 120) n) (outside_line 8193) (counts false (replicate 8193 120) []), omega arith)

not_long : IsLong false (replicate 8192 120) → ⊥
not_long h = omega (arith, h.2, counts_only false (replicate 8192 120) [] h.0 h.1, outside_line 8192)

-- `NOOP {1048577+}` CRLF begins a literal that is too large, and `NOOP {1048576+}` CRLF doesn't
large : EndsInLargeHead false (crlf (codes "NOOP {1048577+}"))
unfolding rows
large = record {
  front = codes "NOOP ";
  digits = codes "1048577";
  size = 1048577;
  numeral = ((refl, (refl, (refl, (refl, (refl, (refl, (refl, tt))))))), (λ zero_is. absurd (omega (arith, zero_is))), refl);
  large = omega arith;
  fits = omega arith;
  outside = not_free false (codes "NOOP ") refl;
  opens = literal_free false (crlf (codes "NOOP {1048577+}")) refl;
  written = refl;
}

not_large : EndsInLargeHead false (crlf (codes "NOOP {1048576+}")) → ⊥
unfolding rows
not_large h = let never : false ≡ true = (head_large false (codes "NOOP {1048576+}" ++ 13 ∷ []) 10 h).0 in cc

-- ---- the first item

-- `NOOP` CRLF is a command; without the LF it isn't yet; without the CR it is a bad line
noop_first : extent_of false (crlf (codes "NOOP") ++ codes "N") ≡ Command 6
unfolding rows
noop_first = refl

noop_reached : IsFirstExtent false (Command 6) (crlf (codes "NOOP") ++ codes "N")
noop_reached = subst (λ (r : ItemExtent). IsFirstExtent false r (crlf (codes "NOOP") ++ codes "N")) noop_first (reaches false (crlf (codes "NOOP") ++ codes "N"))

noop_cut : extent_of false (codes "NOOP" ++ 13 ∷ []) ≡ Need
unfolding rows
noop_cut = refl

not_reached : IsFirstExtent false (Command 5) (codes "NOOP" ++ 13 ∷ []) → ⊥
not_reached h =
    let none : IsFirstExtent false Need (codes "NOOP" ++ 13 ∷ []) = subst (λ (r : ItemExtent). IsFirstExtent false r (codes "NOOP" ++ 13 ∷ [])) noop_cut (reaches false (codes "NOOP" ++ 13 ∷ [])) in
    let same : Need ≡ Command 5 = one_reach false Need (Command 5) (codes "NOOP" ++ 13 ∷ []) none h in
    cc

noop_bare : extent_of false (codes "NOOP" ++ 10 ∷ []) ≡ Bad 5
unfolding rows
noop_bare = refl

too_large : extent_of false (crlf (codes "NOOP {1048577+}")) ≡ TooBig
unfolding rows
too_large = refl

-- while a challenge is pending `"*"` CRLF is an item, and otherwise a bad line
star_pending : extent_of true (crlf (codes "\"*\"")) ≡ Command 5
star_pending = refl

star_alone : extent_of false (crlf (codes "\"*\"")) ≡ Bad 5
unfolding rows
star_alone = refl

-- the same with the command's value
noop_item : item_of false (crlf (codes "NOOP \"t\"")) ≡ item.Command (command.Noop (Some (codes "t"))) 10
unfolding rows
noop_item = refl

-- ---- octets that leave a line where it stands

plain_front : prefix_len is_plain_quoted (codes "ab\\\"") ≡ 2
plain_front = refl

inner_front : prefix_len is_inside_line (13 ∷ 10 ∷ []) ≡ 1
inner_front = refl

letters_front : letters_matched (codes "OOP") (codes "oOx") ≡ 2
letters_front = refl

-- ---- scans

-- while a challenge is pending a scan after `"` waits for the string's octets, and it took one octet, not none
scanned_mark : IsScanOf true (record { known = Open (Quoted 1024 LineEnd) 1 1; looked = 1 }) (codes "\"")
scanned_mark = refl

not_scanned : IsScanOf true (new_scan true) (codes "\"") → ⊥
not_scanned h = let none : 0 ≡ 1 = ap (λ (s : ScanView). s.looked) h in omega (arith, none)

-- ---- answers

-- a text with a NUL is spelled as a literal, one with a mark between marks
literal_spelled_so : string_spelled (0 ∷ []) ≡ crlf (codes "{1}") ++ 0 ∷ []
unfolding Rattle.std.specs.Fmt.digits
literal_spelled_so = refl

quoted_spelled_so : string_spelled (codes "a\"") ≡ codes "\"a\\\"\""
quoted_spelled_so = refl

-- a script's text is a literal, though it would fit between marks
text_spelled : line_spelled (line.Text (codes "stop;")) ≡ crlf (crlf (codes "{5}") ++ codes "stop;")
unfolding Rattle.std.specs.Fmt.digits
text_spelled = refl

active_spelled : line_spelled (line.Script (codes "a") true) ≡ crlf (codes "\"a\" ACTIVE")
active_spelled = refl

done_spelled : last_spelled (Some status.Ok) (Some (code.Tag (codes "t"))) (Some (codes "Done.")) ≡ crlf (codes "OK (TAG \"t\") \"Done.\"")
done_spelled = refl

-- without a word nothing is written, whatever the text
nothing_spelled : last_spelled None None (Some (codes "Done.")) ≡ []
nothing_spelled = refl

-- a part is appended, and what was there stays
extends : ExtendsText (codes "a") (codes "ab")
extends = record { more = codes "b"; written = refl }

not_extends : ExtendsText (codes "a") [] → ⊥
not_extends h = let same : [] ≡ codes "a" ++ h.more = h.written in cc
