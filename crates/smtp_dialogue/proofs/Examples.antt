-- What the definitions say of a few messages, and of what is near them.
use Rattle.std.proofs.Common.{◌≡◌, ◌++◌, ◌+◌, ◌≤◌, ◌==◌, ◌∙◌, ap, sym, not, ℕ, List, true, false, [], ◌∷◌, refl, inl, inr, arith, codes, Some, None, zero, suc, lit<}
use Rattle.std.specs.List.{list_all}
use Rattle.std.specs.Str.{IsAscii}
use Rattle.std.proofs.lemmas.Str.{IsUtf8-from_ascii, is_utf8-from_IsUtf8}
use Rattle.smtp_dialogue.specs.Dialogues.{smtp_turn_of}
use Rattle.smtp_dialogue.specs.Extensions.{extensions_of}
use Rattle.smtp_dialogue.specs.Addresses.{IsIpv6, groups_of, is_group, is_ipv4, some_groups_of}
use Rattle.smtp_dialogue.specs.Mailboxes.{IsInner, IsAddressLiteral, IsSmtpMailbox, TagSays, is_dot_string, is_domain, behind_quotes}
use Rattle.smtp_dialogue.specs.declared.dialogue.Ending.TheVariants.{Sent, Refused, Delayed, OutOfPlace}
use Rattle.smtp_dialogue.specs.declared.dialogue.SmtpStage.TheVariants.{Recipient, Data, Text}
use Rattle.smtp_dialogue.specs.declared.dialogue.NextStage.TheVariants.{Goes, Ends}
use Rattle.smtp_dialogue.specs.Replies.{IsReplyLine}
use Rattle.smtp_dialogue.proofs.AddressLemmas.{at_doubled, at_last, groups_doubled, no_mark}
use Rattle.smtp_dialogue.proofs.MailboxLemmas.{one_tagged}
use Rattle.smtp_dialogue.specs.Sent.{mended, chomped, is_folded, sent_from, text_from}
use Rattle.smtp_dialogue.specs.declared.sent.SentState.TheVariants.{Start}

-- nothing is sent as the end alone
nothing : sent_from Start [] ≡ 46 ∷ 13 ∷ 10 ∷ []
nothing = refl

-- `a` LF and `a` CRLF are sent alike, and `a` alone
feed : sent_from Start (97 ∷ 10 ∷ []) ≡ 97 ∷ 13 ∷ 10 ∷ 46 ∷ 13 ∷ 10 ∷ []
feed = refl

line_end : sent_from Start (97 ∷ 13 ∷ 10 ∷ []) ≡ 97 ∷ 13 ∷ 10 ∷ 46 ∷ 13 ∷ 10 ∷ []
line_end = refl

bare : sent_from Start (97 ∷ []) ≡ 97 ∷ 13 ∷ 10 ∷ 46 ∷ 13 ∷ 10 ∷ []
bare = refl

-- a dot that begins a line has one before it, behind an LF alone too; near miss: one in a line has none
dot : sent_from Start (10 ∷ 46 ∷ []) ≡ 13 ∷ 10 ∷ 46 ∷ 46 ∷ 13 ∷ 10 ∷ 46 ∷ 13 ∷ 10 ∷ []
dot = refl

dot_inside : sent_from Start (97 ∷ 46 ∷ []) ≡ 97 ∷ 46 ∷ 13 ∷ 10 ∷ 46 ∷ 13 ∷ 10 ∷ []
dot_inside = refl

-- and behind a CR alone it is in the line
dot_return : sent_from Start (97 ∷ 13 ∷ 46 ∷ 13 ∷ 10 ∷ []) ≡ 97 ∷ 32 ∷ 46 ∷ 13 ∷ 10 ∷ 46 ∷ 13 ∷ 10 ∷ []
dot_return = refl

-- the other side has the dots off
dot_text : text_from Start (46 ∷ 10 ∷ []) ≡ 46 ∷ 13 ∷ 10 ∷ []
dot_text = refl

-- a CR that begins a line is `?`, another one a space
front : sent_from Start (13 ∷ 97 ∷ 10 ∷ []) ≡ 63 ∷ 97 ∷ 13 ∷ 10 ∷ 46 ∷ 13 ∷ 10 ∷ []
front = refl

two : sent_from Start (13 ∷ 13 ∷ 10 ∷ []) ≡ 63 ∷ 13 ∷ 10 ∷ 46 ∷ 13 ∷ 10 ∷ []
two = refl

last : sent_from Start (97 ∷ 13 ∷ []) ≡ 97 ∷ 32 ∷ 13 ∷ 10 ∷ 46 ∷ 13 ∷ 10 ∷ []
last = refl

-- a line's CR at its end is its own; another one is not
own : chomped (97 ∷ 13 ∷ []) ≡ 97 ∷ []
own = refl

other : chomped (13 ∷ 97 ∷ []) ≡ 13 ∷ 97 ∷ []
other = refl

-- a CR in front makes no folded line
unfolded : is_folded (mended (13 ∷ 97 ∷ [])) ≡ false
unfolded = refl

folded : is_folded (mended (9 ∷ 13 ∷ [])) ≡ true
folded = refl

-- ---- replies

-- `250`, `250 a` and `250-a`; near misses: `250a`, `150 a`
bare_line : IsReplyLine (50 ∷ 53 ∷ 48 ∷ []) 250 true []
bare_line = record { first = 50; second = 53; third = 48; rest = []; written = refl; digits = record { class = (omega arith, omega arith); other = (omega arith, omega arith); last = (omega arith, omega arith); means = refl }; mark = inl (refl, refl) }

last_line : IsReplyLine (50 ∷ 53 ∷ 48 ∷ 32 ∷ 97 ∷ []) 250 true (97 ∷ [])
last_line = record { first = 50; second = 53; third = 48; rest = 32 ∷ 97 ∷ []; written = refl; digits = record { class = (omega arith, omega arith); other = (omega arith, omega arith); last = (omega arith, omega arith); means = refl }; mark = inr refl }

other_line : IsReplyLine (50 ∷ 53 ∷ 48 ∷ 45 ∷ 97 ∷ []) 250 false (97 ∷ [])
other_line = record { first = 50; second = 53; third = 48; rest = 45 ∷ 97 ∷ []; written = refl; digits = record { class = (omega arith, omega arith); other = (omega arith, omega arith); last = (omega arith, omega arith); means = refl }; mark = refl }

-- ---- mailboxes

-- `a.b` is a Dot-string; near misses: `a..b`, `.a`, `a.`, nothing, `a b`
dot_string : is_dot_string (97 ∷ 46 ∷ 98 ∷ []) ≡ true
dot_string = refl

two_dots : is_dot_string (97 ∷ 46 ∷ 46 ∷ 98 ∷ []) ≡ false
two_dots = refl

dot_first : is_dot_string (46 ∷ 97 ∷ []) ≡ false
dot_first = refl

dot_last : is_dot_string (97 ∷ 46 ∷ []) ≡ false
dot_last = refl

no_atom : is_dot_string [] ≡ false
no_atom = refl

spaced_atom : is_dot_string (97 ∷ 32 ∷ 98 ∷ []) ≡ false
spaced_atom = refl

-- `a-b.c` is a domain; near misses: `-a`, `a-`, `a_b`
domain : is_domain (97 ∷ 45 ∷ 98 ∷ 46 ∷ 99 ∷ []) ≡ true
domain = refl

hyphen_first : is_domain (45 ∷ 97 ∷ []) ≡ false
hyphen_first = refl

hyphen_last : is_domain (97 ∷ 45 ∷ []) ≡ false
hyphen_last = refl

underscore : is_domain (97 ∷ 95 ∷ 98 ∷ []) ≡ false
underscore = refl

-- `1.2.3.255` is four numbers; near misses: `1.2.3.256`, `1.2.3`
four : is_ipv4 (codes "1.2.3.255") ≡ true
four = refl

too_great : is_ipv4 (codes "1.2.3.256") ≡ false
too_great = refl

three : is_ipv4 (codes "1.2.3") ≡ false
three = refl

-- `ffFF` is a group of digits; near misses: `12345`, `g`, nothing
group : is_group (codes "ffFF") ≡ true
group = refl

long_group : is_group (codes "12345") ≡ false
long_group = refl

no_digit : is_group (codes "g") ≡ false
no_digit = refl

no_group : is_group [] ≡ false
no_group = refl

-- how many groups these are; near misses: `1::2`, `1:`, `:1`
three_groups : groups_of (codes "1:2:3") ≡ Some 3
three_groups = refl

doubled : groups_of (codes "1::2") ≡ None
doubled = refl

colon_last : groups_of (codes "1:") ≡ None
colon_last = refl

colon_first : groups_of (codes ":1") ≡ None
colon_first = refl

-- an IPv6 address of each form: eight groups; six and an IPv4 address; with `::` six at most; with that and an IPv4 address four at most
full : IsIpv6 (codes "1:2:3:4:5:6:7:8")
full = inl refl

full_ipv4 : IsIpv6 (codes "1:2:3:4:5:6:1.2.3.4")
full_ipv4 = inr (inr (inl (record { groups = codes "1:2:3:4:5:6"; address = codes "1.2.3.4"; written = refl; counted = refl; is = refl })))

compressed : IsIpv6 (codes "1:2:3::4:5:6")
compressed = inr (inl (record { front = codes "1:2:3"; rest = codes "4:5:6"; before = 3; behind = 3; written = refl; ahead = refl; after = refl; most = omega arith }))

nothing_else : IsIpv6 (codes "::")
nothing_else = inr (inl (record { front = []; rest = []; before = 0; behind = 0; written = refl; ahead = refl; after = refl; most = omega arith }))

compressed_ipv4 : IsIpv6 (codes "::ffff:1.2.3.4")
compressed_ipv4 = inr (inr (inr (record {
  front = [];
  rest = codes "ffff:1.2.3.4";
  before = 0;
  behind = 1;
  written = refl;
  ahead = refl;
  after = inr (record { groups = codes "ffff"; address = codes "1.2.3.4"; written = refl; counted = refl; is = refl });
  most = omega arith;
})))

-- near misses: `junk`; seven groups and `::`
junk_apart : (front rest : List ℕ) (before : ℕ) → codes "junk" ≡ front ++ 58 ∷ 58 ∷ rest → some_groups_of front ≡ Some before → ⊥
junk_apart front rest before written ahead =
    let at = at_doubled (codes "junk") front rest 4 refl (groups_doubled (codes "junk") front rest before written ahead) in
    let no = at.1 in cc

junk : IsIpv6 (codes "junk") → ⊥
junk (inl is) = let no = is in cc
junk (inr (inl is)) = junk_apart is.front is.rest is.before is.written is.ahead
junk (inr (inr (inl is))) = no_mark 58 is.groups is.address (ap (list_all (λ octet. not (octet == 58))) (sym is.written))
junk (inr (inr (inr is))) = junk_apart is.front is.rest is.before is.written is.ahead

seven_ahead : (front rest : List ℕ) (before behind : ℕ) → codes "1:2:3:4:5:6:7::" ≡ front ++ 58 ∷ 58 ∷ rest → some_groups_of front ≡ Some before → before + behind ≤ 6 → ⊥
seven_ahead front rest before behind written ahead most =
    let at = at_doubled (codes "1:2:3:4:5:6:7::") front rest 13 refl (groups_doubled (codes "1:2:3:4:5:6:7::") front rest before written ahead) in
    let counted : Some 7 ≡ Some before = ap some_groups_of at.0 ∙ ahead in
    let same : 7 ≡ before = (let h = counted in cc) in
    absurd (omega (arith, same, most))

seven : IsIpv6 (codes "1:2:3:4:5:6:7::") → ⊥
seven (inl is) = let no = is in cc
seven (inr (inl is)) = seven_ahead is.front is.rest is.before is.behind is.written is.ahead (omega (arith, is.most))
seven (inr (inr (inl is))) = let at = at_last (codes "1:2:3:4:5:6:7::") (codes "1:2:3:4:5:6:7:") [] 6 (record { written = refl; last = refl }) is in let no = at.0 in cc
seven (inr (inr (inr is))) = seven_ahead is.front is.rest is.before is.behind is.written is.ahead (omega (arith, is.most))

-- a literal with an address, and one with another tag; near miss: that of IPv6 with what is no address
literal : IsAddressLiteral (codes "[ipv6:::]")
literal = record { inner = codes "ipv6:::"; written = refl; is = inr (inl (record { tag = codes "ipv6"; address = codes "::"; written = refl; named = refl; is = nothing_else })) }

other_tag : IsAddressLiteral (codes "[x:junk]")
other_tag = record { inner = codes "x:junk"; written = refl; is = inr (inr (record { tag = codes "x"; content = codes "junk"; written = refl; other = refl; named = refl; each = refl })) }

no_tag : IsInner (codes "IPv6:junk") → ⊥
no_tag (inl is) = let no = is in cc
no_tag (inr is) = by_says (one_tagged (codes "IPv6:junk") (codes "IPv6") (codes "junk") (record { written = refl; first = refl }) is)
  where
    by_says : TagSays (codes "IPv6") (codes "junk") → ⊥
    by_says (inl says) = junk says.1
    by_says (inr says) = let no = says.0 in cc

-- `"a\""@b` and what stands behind its quoted string; near miss: one that isn't closed
closed : behind_quotes false (97 ∷ 92 ∷ 34 ∷ 34 ∷ 64 ∷ 98 ∷ []) ≡ Some (64 ∷ 98 ∷ [])
closed = refl

unclosed : behind_quotes false (97 ∷ 92 ∷ 34 ∷ []) ≡ None
unclosed = refl

ascii : IsAscii (97 ∷ 64 ∷ 98 ∷ [])
ascii zero = lit< tt
ascii (suc zero) = lit< tt
ascii (suc (suc zero)) = lit< tt
ascii (suc (suc (suc i))) = lit< tt

-- `a@b` is a mailbox
mailbox : IsSmtpMailbox (codes "a@b")
mailbox = record { host = codes "b"; cut = record { local = codes "a"; written = refl; is = inl refl }; is = inl refl; utf8 = is_utf8-from_IsUtf8 (97 ∷ 64 ∷ 98 ∷ []) (IsUtf8-from_ascii (97 ∷ 64 ∷ 98 ∷ []) ascii) }

-- ---- extensions

offers_size : extensions_of (codes "250-SIZE 100" ∷ codes "250 8bitmime" ∷ []) ≡ record { size = true; eight_bit_mime = true; smtputf8 = false }
offers_size = refl

-- near miss: a keyword that begins with it
offers_none : extensions_of (codes "250 SIZES" ∷ []) ≡ record { size = false; eight_bit_mime = false; smtputf8 = false }
offers_none = refl

-- ---- turns

-- a text is taken by 250; near misses: 251, 354, 451, 550
taken : smtp_turn_of Text 250 ≡ Ends Sent
taken = refl

forwarded : smtp_turn_of Text 251 ≡ Ends (OutOfPlace 251)
forwarded = refl

later : smtp_turn_of Text 451 ≡ Ends (Delayed 451)
later = refl

refused : smtp_turn_of Text 550 ≡ Ends (Refused 550)
refused = refl

-- RCPT is taken by 251 too, DATA by 354 and not by 250
recipient : smtp_turn_of Recipient 251 ≡ Goes Data
recipient = refl

too_early : smtp_turn_of Data 250 ≡ Ends (OutOfPlace 250)
too_early = refl
