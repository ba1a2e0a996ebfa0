-- A scan that takes a stream in pieces.
use Rattle.std.proofs.Common.{◌≡◌, ℕ, zero, suc, ◌+◌, ◌-◌, ◌<◌, ◌≤◌, inl, inr, Bool, true, false, cond, List, [], ◌∷◌, ◌++◌, length, take, drop, refl, sym, ap, ◌∙◌, subst, arith}
use Rattle.std.specs.Prelude.{fold}
use Rattle.std.proofs.lemmas.Grind.{fold-append}
use Rattle.std.proofs.lemmas.Bool.{cases_order}
use Rattle.std.proofs.lemmas.List.{length-drop, take-append-drop, nil_from_length}
use Rattle.std.proofs.Math.Seq.{take-add}
use Rattle.managesieve_protocol.specs.declared.items.ItemExtent.{ItemExtent}
use Rattle.managesieve_protocol.specs.declared.items.ItemExtent.TheVariants.{Need, Command, Bad, TooBig}
use Rattle.managesieve_protocol.specs.Items.{IsFirstExtent}
use Rattle.managesieve_protocol.specs.Scanning.{Scanned, Open, Found, scan_start, scan_step, found, extent_of, ScanView, new_scan, fed, fed_until, is_reached, reached, IsScanOf}
use Rattle.managesieve_protocol.proofs.Scans.{reaches}
use Rattle.managesieve_protocol.proofs.Turning.{found_stays}

-- a scan's two parts, after a text
pub fed_known : (scan : ScanView) (t : List ℕ) → (fold fed scan t).known ≡ fold scan_step scan.known t
fed_known scan [] = refl
fed_known scan (x ∷ t) = fed_known (fed scan x) t

pub fed_looked : (scan : ScanView) (t : List ℕ) → (fold fed scan t).looked ≡ scan.looked + length t
fed_looked scan [] = omega arith
fed_looked scan (x ∷ t) = let more = fed_looked (fed scan x) t in omega (arith, more)

same_view : (a b : ScanView) → a.known ≡ b.known → a.looked ≡ b.looked → a ≡ b
same_view a b known looked =
    ap (λ (k : Scanned). record { known = k; looked = a.looked }) known ∙ ap (λ (n : ℕ). record { known = b.known; looked = n }) looked

pub fed_is : (scan new : ScanView) (t : List ℕ) → new.known ≡ fold scan_step scan.known t → new.looked ≡ scan.looked + length t → new ≡ fold fed scan t
fed_is scan new t known looked = same_view new (fold fed scan t) (known ∙ sym (fed_known scan t)) (looked ∙ sym (fed_looked scan t))

-- ---- what a scan stands for

pub stands_more : (pending : Bool) (scan new : ScanView) (text more : List ℕ) → new ≡ fold fed scan more → IsScanOf pending scan text → IsScanOf pending new (text ++ more)
stands_more pending scan new text more by stands =
    by ∙ ap (λ (s : ScanView). fold fed s more) stands ∙ sym (fold-append fed (new_scan pending) text more)

pub stands_reach : (pending : Bool) (scan : ScanView) (text : List ℕ) → IsScanOf pending scan text → reached scan ≡ extent_of pending text
stands_reach pending scan text stands = ap (λ (s : ScanView). found s.known) stands ∙ ap found (fed_known (new_scan pending) text)

pub stands_reaches : (pending : Bool) (scan : ScanView) (r : ItemExtent) (text : List ℕ) → r ≡ reached scan → IsScanOf pending scan text → IsFirstExtent pending r text
stands_reaches pending scan r text is stands =
    subst (λ (q : ItemExtent). IsFirstExtent pending q text) (sym (is ∙ stands_reach pending scan text stands)) (reaches pending text)

pub stands_count : (pending : Bool) (scan : ScanView) (text : List ℕ) → IsScanOf pending scan text → scan.looked ≡ length text
stands_count pending scan text stands =
    let count : scan.looked ≡ 0 + length text = ap (λ (s : ScanView). s.looked) stands ∙ fed_looked (new_scan pending) text in
    omega (arith, count)

-- ---- one step of a scan

-- what a scan takes, by what is known of it after the octets and by their count
pub takes : (scan shown new : ScanView) (t : List ℕ) (count : ℕ) → shown ≡ scan → new.known ≡ fold scan_step scan.known t → new.looked ≡ shown.looked + count → length t ≡ count → new ≡ fold fed scan t
takes scan shown new t count is known looked len =
    fed_is scan new t known (looked ∙ ap (λ (s : ScanView). s.looked + count) is ∙ ap (λ (n : ℕ). scan.looked + n) (sym len))

-- where nothing came first after a text, nothing did in front of a part of it
need_back : (known : Scanned) (t : List ℕ) → found (fold scan_step known t) ≡ Need → found known ≡ Need
need_back (Open line outside used) t e = refl
need_back (Found reach) t e = sym (ap found (found_stays reach t)) ∙ e

front_of : (t : List ℕ) (k n : ℕ) → k ≤ n → take n t ≡ take k t ++ take (n - k) (drop k t)
front_of t k n le = let parts : k + (n - k) ≡ n = omega arith in ap (λ (m : ℕ). take m t) (sym parts) ∙ take-add k (n - k) t

pub needs_before : (scan new : ScanView) (t : List ℕ) (n k : ℕ) → new ≡ fold fed scan (take n t) → reached new ≡ Need → k ≤ n → reached (fold fed scan (take k t)) ≡ Need
needs_before scan new t n k by need le =
    ap found (fed_known scan (take k t))
    ∙ need_back (fold scan_step scan.known (take k t)) (take (n - k) (drop k t))
    (ap found (sym (fold-append scan_step scan.known (take k t) (take (n - k) (drop k t))) ∙ ap (fold scan_step scan.known) (sym (front_of t k n le)) ∙ sym (fed_known scan (take n t)) ∙ ap (λ (s : ScanView). s.known) (sym by)) ∙ need)

-- ---- a piece in several steps

-- a step after those so far
pub fed_on : (scan mid new : ScanView) (t : List ℕ) (n m : ℕ) → mid ≡ fold fed scan (take n t) → new ≡ fold fed mid (take m (drop n t)) → new ≡ fold fed scan (take (n + m) t)
fed_on scan mid new t n m one two =
    two ∙ ap (λ (s : ScanView). fold fed s (take m (drop n t))) one ∙ sym (fold-append fed scan (take n t) (take m (drop n t))) ∙ ap (fold fed scan) (sym (take-add n m t))

-- nothing came first before the octets that are taken last
abbrev pub NoneBefore : ScanView → List ℕ → ℕ → Type 0
NoneBefore scan t n = (k : ℕ) → k < n → reached (fold fed scan (take k t)) ≡ Need

pub none_before_on : (scan mid : ScanView) (t : List ℕ) (n m : ℕ) → mid ≡ fold fed scan (take n t) → NoneBefore scan t n → NoneBefore mid (drop n t) m → NoneBefore scan t (n + m)
none_before_on scan mid t n m one front rest k lt = elim (cases_order k n) [
  | inl same ↦ later (omega arith)
  | inr (inl below) ↦ front k below
  | inr (inr above) ↦ later (omega arith)
]
  where
    later : n ≤ k → reached (fold fed scan (take k t)) ≡ Need
    later le =
        let parts : n + (k - n) ≡ k = omega arith in
        ap reached (ap (λ (j : ℕ). fold fed scan (take j t)) (sym parts) ∙ sym (fed_on scan mid (fold fed mid (take (k - n) (drop n t))) t n (k - n) one refl))
        ∙ rest (k - n) (omega arith)

-- ---- octets are taken as long as nothing came first

reached_some : (r : ItemExtent) → (r ≡ Need → ⊥) → is_reached r ≡ true
reached_some Need some = absurd (some refl)
reached_some (Command count) some = refl
reached_some (Bad count) some = refl
reached_some TooBig some = refl

-- the octets up to which nothing came first, where that is all of them or something did after them
pub fed_up_to : (scan : ScanView) (t : List ℕ) (n : ℕ) → n ≤ length t → NoneBefore scan t n → (reached (fold fed scan (take n t)) ≡ Need → n ≡ length t) → fold fed scan (take n t) ≡ fed_until scan t
fed_up_to scan [] zero le before all = refl
fed_up_to scan [] (suc n) le before all = absurd (omega (arith, le))
fed_up_to scan (x ∷ t) zero le before all =
    let some : is_reached (reached scan) ≡ true = reached_some (reached scan) (λ need. omega (arith, all need)) in
    sym (ap (λ (b : Bool). cond b scan (fed_until (fed scan x) t)) some)
fed_up_to scan (x ∷ t) (suc n) le before all =
    let none : is_reached (reached scan) ≡ false = ap is_reached (before 0 (omega arith)) in
    fed_up_to (fed scan x) t n (omega (arith, le)) (λ k lt. before (suc k) (omega (arith, lt))) (λ need. omega (arith, all need))
    ∙ sym (ap (λ (b : Bool). cond b scan (fed_until (fed scan x) t)) none)

-- after two pieces
pub fed_until-append : (scan : ScanView) (t u : List ℕ) → fed_until scan (t ++ u) ≡ fed_until (fed_until scan t) u
fed_until-append scan [] u = refl
fed_until-append scan (x ∷ t) u = go (is_reached (reached scan)) refl (fed_until-append (fed scan x) t u)
  where
    stays : (u : List ℕ) → is_reached (reached scan) ≡ true → scan ≡ fed_until scan u
    stays [] some = refl
    stays (y ∷ u) some = sym (ap (λ (b : Bool). cond b scan (fed_until (fed scan y) u)) some)

    go : (b : Bool) → is_reached (reached scan) ≡ b → fed_until (fed scan x) (t ++ u) ≡ fed_until (fed_until (fed scan x) t) u
        → cond b scan (fed_until (fed scan x) (t ++ u)) ≡ fed_until (cond b scan (fed_until (fed scan x) t)) u
    go true is rest = stays u is
    go false is rest = rest

-- what came first stays where all that is left is nothing
settled : (known : Scanned) (rest : List ℕ) → (found known ≡ Need → length rest ≡ 0) → found known ≡ found (fold scan_step known rest)
settled (Open line outside used) rest none = ap (λ (t : List ℕ). found (fold scan_step (Open line outside used) t)) (sym (nil_from_length rest (none refl)))
settled (Found reach) rest none = ap found (sym (found_stays reach rest))

-- what came first in a whole buffer
pub whole_reach : (pending : Bool) (new : ScanView) (t : List ℕ) (n : ℕ) → new ≡ fold fed (new_scan pending) (take n t) → (reached new ≡ Need → n ≡ length t) → reached new ≡ extent_of pending t
whole_reach pending new t n by all =
    known_is
    ∙ settled (fold scan_step (scan_start pending) (take n t)) (drop n t) (λ need. omega (arith, length-drop n t, all (known_is ∙ need)))
    ∙ ap found (sym (fold-append scan_step (scan_start pending) (take n t) (drop n t)) ∙ ap (fold scan_step (scan_start pending)) (take-append-drop n t))
  where
    known_is : reached new ≡ found (fold scan_step (scan_start pending) (take n t))
    known_is = ap reached by ∙ ap found (fed_known (new_scan pending) (take n t))
