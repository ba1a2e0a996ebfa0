-- A session's scan: what it says of the unread octets, and that it goes on with them.
use Rattle.std.proofs.Common.{◌≡◌, ℕ, zero, suc, ◌+◌, ◌-◌, ◌<◌, ◌≤◌, min, Bool, List, ◌++◌, length, take, drop, append_assoc, sym, ap, ◌∙◌, subst, arith}
use Rattle.std.specs.Prelude.{fold}
use Rattle.std.proofs.lemmas.List.{length-take-le, length-drop, length-append, take-append-le, append-nil, take-append-drop, take_at}
use Rattle.std.proofs.Math.Seq.{take-length}
use Rattle.managesieve_protocol.specs.declared.items.ItemExtent.TheVariants.{Need}
use Rattle.managesieve_protocol.specs.Scanning.{ScanView, IsScanOf, new_scan, fed, fed_until, reached, extent_of}
use Rattle.managesieve_protocol.specs.declared.items.ItemExtent.{ItemExtent}
use Rattle.managesieve_protocol.specs.Items.{IsFirstExtent}
use Rattle.managesieve_protocol.proofs.Scans.{reaches}
use Rattle.managesieve_protocol.proofs.Feeding.{fed_looked, needs_before, stands_more, stands_count, whole_reach, fed_until-append}
use Rattle.managesieve_sessions.specs.Counts.{IsScanned, greatest}

-- what the scan reached is what comes first in the unread octets
pub scan_reach : (pending : Bool) (scan : ScanView) (unread : List ℕ) (scanned given : ℕ) → IsScanned pending scan unread scanned given → reached scan ≡ extent_of pending unread
scan_reach pending scan unread scanned given i = whole_reach pending scan unread scan.looked i.stands i.waits

-- and so says the grammar
pub unread_reaches : (pending : Bool) (r : ItemExtent) (unread octets : List ℕ) → r ≡ extent_of pending unread → octets ≡ unread → IsFirstExtent pending r octets
unread_reaches pending r unread octets is same =
    subst (IsFirstExtent pending r) (sym same) (subst (λ (q : ItemExtent). IsFirstExtent pending q unread) (sym is) (reaches pending unread))

-- ---- a piece comes

-- the octets that a scan took, where a piece stands after them
front_on : (unread piece : List ℕ) (n : ℕ) → n ≤ length piece → take (length unread + n) (unread ++ piece) ≡ unread ++ take n piece
front_on unread piece n le =
    let parts : unread ++ piece ≡ (unread ++ take n piece) ++ drop n piece = ap (λ (p : List ℕ). unread ++ p) (sym (take-append-drop n piece)) ∙ sym (append_assoc unread (take n piece) (drop n piece)) in
    let count : length (unread ++ take n piece) ≡ length unread + n = omega (arith, length-append unread (take n piece), length-take-le n piece le) in
    ap (take (length unread + n)) parts ∙ take_at (unread ++ take n piece) (drop n piece) (length unread + n) count

-- the part of the unread octets that the scan stands for, with what it takes of the piece
stood : (scan : ScanView) (unread piece : List ℕ) (n : ℕ) → scan.looked ≤ length unread → (0 < n → scan.looked ≡ length unread) → n ≤ length piece
    → take scan.looked unread ++ take n piece ≡ take (scan.looked + n) (unread ++ piece)
stood scan unread piece zero seen waits le =
    let same : scan.looked + 0 ≡ scan.looked = omega arith in
    append-nil (take scan.looked unread) ∙ sym (ap (λ (m : ℕ). take m (unread ++ piece)) same ∙ take-append-le scan.looked unread piece seen)
stood scan unread piece (suc n) seen waits le =
    let all : scan.looked ≡ length unread = waits (omega arith) in
    ap (λ (m : ℕ). take m unread ++ take (suc n) piece) all
    ∙ ap (λ (u : List ℕ). u ++ take (suc n) piece) (take-length unread)
    ∙ sym (ap (λ (m : ℕ). take (m + suc n) (unread ++ piece)) all ∙ front_on unread piece (suc n) le)

pub piece_scanned : (pending : Bool) (scan new : ScanView) (unread piece after : List ℕ) (scanned given more n : ℕ) → IsScanned pending scan unread scanned given
    → new ≡ fed_until scan piece → n ≤ length piece → new ≡ fold fed scan (take n piece) → (reached new ≡ Need → n ≡ length piece) → (0 < n → reached scan ≡ Need)
    → after ≡ unread ++ piece → more ≡ min (given + length piece) greatest → IsScanned pending new after scanned more
piece_scanned pending scan new unread piece after scanned given more n i until le by whole before joins counts = record {
  until = until ∙ ap (λ (s : ScanView). fed_until s piece) i.until ∙ sym (fed_until-append (new_scan pending) unread piece) ∙ ap (fed_until (new_scan pending)) (sym joins);
  seen = omega (arith, looked, length_after, i.seen, le);
  stands = subst (IsScanOf pending new) (front ∙ ap (λ (m : ℕ). take m after) (sym looked)) (stands_more pending scan new (take scan.looked unread) (take n piece) by i.stands);
  waits = λ need. omega (arith, looked, length_after, whole need, all need);
  counted = omega (arith, length_after, i.counted, counts);
}
  where
    length_after : length after ≡ length unread + length piece
    length_after = ap length joins ∙ length-append unread piece

    looked : new.looked ≡ scan.looked + n
    looked = ap (λ (s : ScanView). s.looked) by ∙ fed_looked scan (take n piece) ∙ ap (λ (m : ℕ). scan.looked + m) (length-take-le n piece le)

    front : take scan.looked unread ++ take n piece ≡ take (scan.looked + n) after
    front = stood scan unread piece n i.seen (λ some. i.waits (before some)) le ∙ ap (take (scan.looked + n)) (sym joins)

    -- where nothing comes first after the piece, nothing did in front of it
    all : reached new ≡ Need → scan.looked ≡ length unread
    all need = i.waits (needs_before scan new piece n 0 by need (omega arith))

-- ---- an item is taken off

pub rest_scanned : (pending other : Bool) (scan new : ScanView) (unread rest : List ℕ) (scanned given later used n : ℕ) → IsScanned other scan unread scanned given
    → used ≡ scan.looked → rest ≡ drop used unread → later ≡ min (scanned + scan.looked) greatest
    → new ≡ fed_until (new_scan pending) rest → n ≤ length rest → new ≡ fold fed (new_scan pending) (take n rest) → (reached new ≡ Need → n ≡ length rest) → IsScanned pending new rest later given
rest_scanned pending other scan new unread rest scanned given later used n i ends off counts until le by whole = record {
  until = until;
  seen = omega (arith, looked, le);
  stands = by ∙ ap (λ (m : ℕ). fold fed (new_scan pending) (take m rest)) (sym looked);
  waits = λ need. looked ∙ whole need;
  counted = omega (arith, length_rest, i.seen, i.counted, counts, ends);
}
  where
    length_rest : length rest ≡ length unread - used
    length_rest = ap length off ∙ length-drop used unread

    looked : new.looked ≡ n
    looked = stands_count pending new (take n rest) by ∙ length-take-le n rest le
