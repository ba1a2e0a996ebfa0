-- The parts of an account stand in the order of its text.
use Rattle.std.proofs.Common.{◌≡◌, ◌<◌, ◌++◌, ℕ, Bool, true, false, cond, List, [], ◌∷◌, map, Option, Some, None, eq-eqb, refl, sym, ap, ◌∙◌, arith, is_lt, Ordering, Less, Equal, true≢false}
use Rattle.std.specs.List.{AllByRecursion}
use Rattle.std.specs.Cmp.{nat_cmp_is}
use Rattle.std.specs.FinMap.{entries}
use Rattle.std.specs.Ordering.{nat_cmp, ordering_then}
use Rattle.std.proofs.lemmas.Bool.{and_from}
use Rattle.std.proofs.lemmas.Cmp.{nat_list_cmp_total}
use Rattle.sqlite_trees.specs.Tree.{IsAscending}
use Rattle.sqlite_keyed.proofs.ListLemmas.{all_weaker, all-append, all-map, ascending-append, ascending-map, ascending_weaker}
use Rattle.store_text.specs.Order.{part_rank, part_number, has_come, joins, comes_after, follows, are_chained}
use Rattle.store_text.specs.declared.part.Part.{Part}
use Rattle.store_text.specs.declared.part.Part.TheVariants.{Mail, Copy}
use Rattle.store_text.proofs.OrderLemmas.{Before}
use Rattle.store_accounts.specs.declared.notice.Notice.{Notice as KeptNotice}
use Rattle.store_accounts.specs.Account.{bytes_cmp, reply_cmp, Account}
use Rattle.store_accounts.specs.CopyRows.{Copy as KeptCopy}
use Rattle.store_accounts.proofs.AccountLemmas.{bytes_antisymmetric, reply_total, reply_antisymmetric}
use Rattle.store_accounts.proofs.MapLemmas.{entries_rise}
use Rattle.store_export.specs.declared.run.Run.{Run}
use Rattle.store_export.specs.Parts.{continues_run, first_in, run_with, script_part, reply_part, copy_part, copy_parts, letter_part, notice_part, account_parts}

-- ---- each comes after all before it

by_first : (o t : Ordering) → o ≡ Less → is_lt (ordering_then o t) ≡ true
by_first o t less = ap (λ x. is_lt (ordering_then x t)) less

by_later : (o t : Ordering) → o ≡ Equal → is_lt t ≡ true → is_lt (ordering_then o t) ≡ true
by_later o t tied less = ap (λ x. is_lt (ordering_then x t)) tied ∙ less

-- by kind
ranked : (p q : Part) → part_rank p < part_rank q → Before p q
ranked p q low = by_first (nat_cmp (part_rank p) (part_rank q)) _ (sym (nat_cmp_is (part_rank p) (part_rank q) Less low))

-- and of one kind by number
numbered : (p q : Part) → part_rank p ≡ part_rank q → part_number p < part_number q → Before p q
numbered p q same low =
    by_later (nat_cmp (part_rank p) (part_rank q)) _ (sym (nat_cmp_is (part_rank p) (part_rank q) Equal same)) (by_first (nat_cmp (part_number p) (part_number q)) _ (sym (nat_cmp_is (part_number p) (part_number q) Less low)))

scripts_rise : (x y : List ℕ × List ℕ) → bytes_cmp x.0 y.0 ≡ Less → Before (script_part x) (script_part y)
scripts_rise x y less = by_first (bytes_cmp x.0 y.0) _ less

replies_rise : (x y : (List ℕ × List ℕ) × ℕ) → reply_cmp x.0 y.0 ≡ Less → Before (reply_part x) (reply_part y)
replies_rise x y less = ap is_lt less

copy_rank : (run : Option Run) (c : KeptCopy) → part_rank (copy_part run c) ≡ 2
copy_rank run c = go (continues_run run c.id)
  where
    go : (b : Bool) → part_rank (cond b (Copy c.n c.folder (first_in run c.n c.id) c.flags) (Mail c.n c.folder c.message c.flags)) ≡ 2
    go true = refl
    go false = refl

copy_number : (run : Option Run) (c : KeptCopy) → part_number (copy_part run c) ≡ c.n
copy_number run c = go (continues_run run c.id)
  where
    go : (b : Bool) → part_number (cond b (Copy c.n c.folder (first_in run c.n c.id) c.flags) (Mail c.n c.folder c.message c.flags)) ≡ c.n
    go true = refl
    go false = refl

copies_later : (p : Part) → part_rank p ≡ 2 → (run : Option Run) (cs : List KeptCopy) → AllByRecursion (λ d. part_number p < d.n) cs → AllByRecursion (Before p) (copy_parts run cs)
copies_later p two run [] low = tt
copies_later p two run (c ∷ cs) low = (
  numbered p (copy_part run c) (two ∙ sym (copy_rank run c)) (let is = copy_number run c in let first = low.0 in omega (arith, is, first)),
  copies_later p two (Some (run_with run c.n c.id)) cs low.1,
)

copies_rise : (run : Option Run) (cs : List KeptCopy) → IsAscending (λ c d. c.n < d.n) cs → IsAscending Before (copy_parts run cs)
copies_rise run [] rise = tt
copies_rise run (c ∷ cs) rise = (
  copies_later (copy_part run c) (copy_rank run c) (Some (run_with run c.n c.id)) cs (all_weaker (λ d. c.n < d.n) (λ d. part_number (copy_part run c) < d.n) (λ d low. let is = copy_number run c in omega (arith, is, low)) cs rise.0),
  copies_rise (Some (run_with run c.n c.id)) cs rise.1,
)

copies_ranked : (run : Option Run) (cs : List KeptCopy) → AllByRecursion (λ p. part_rank p ≡ 2) (copy_parts run cs)
copies_ranked run [] = tt
copies_ranked run (c ∷ cs) = (copy_rank run c, copies_ranked (Some (run_with run c.n c.id)) cs)

-- parts of one kind before those of later ones
kinds_rise : (k : ℕ) (xs ys : List Part) → AllByRecursion (λ p. part_rank p ≡ k) xs → AllByRecursion (λ q. k < part_rank q) ys → IsAscending Before xs → IsAscending Before ys → IsAscending Before (xs ++ ys)
kinds_rise k xs ys ranks above one two =
    ascending-append Before xs ys one two
    (all_weaker (λ p. part_rank p ≡ k) (λ p. AllByRecursion (Before p) ys) (λ p is. all_weaker (λ q. k < part_rank q) (Before p) (λ q more. ranked p q (omega (arith, is, more))) ys above) xs ranks)

-- ---- each copy stands behind one of its message

abbrev Joined : Option Part → List Part → Type 0
Joined last [] = Unit {0}
Joined last (p ∷ ps) = (joins last p ≡ true) × Joined (Some p) ps

joined_kind : {X : Type 0} (g : X → Part) → ((last : Option Part) (x : X) → joins last (g x) ≡ true) → (rest : List Part) → ((last : Option Part) → Joined last rest) → (last : Option Part) (xs : List X) → Joined last (map g xs ++ rest)
joined_kind g each rest more last [] = more last
joined_kind g each rest more last (x ∷ xs) = (each last x, joined_kind g each rest more (Some (g x)) xs)

first_new : (run : Option Run) (n id : ℕ) → continues_run run id ≡ false → first_in run n id ≡ n
first_new None n id off = refl
first_new (Some run) n id off = ap (λ b. cond b run.first n) off

-- of a run the last part knows the first copy
abbrev IsRunOf : Option Run → Option Part → Type 0
IsRunOf run last = (n id : ℕ) → continues_run run id ≡ true → has_come (first_in run n id) last ≡ true

run_on : (r : Run) (last : Option Part) → has_come r.first last ≡ true → IsRunOf (Some r) last
run_on r last knows n id on = ap (λ b. has_come (cond b r.first n) last) on ∙ knows

joined_copies : (rest : List Part) → ((last : Option Part) → Joined last rest) → (run : Option Run) (last : Option Part) → IsRunOf run last → (cs : List KeptCopy) → Joined last (copy_parts run cs ++ rest)
joined_copies rest more run last knows [] = more last
joined_copies rest more run last knows (c ∷ cs) = go (continues_run run c.id) refl (λ p known. joined_copies rest more (Some (run_with run c.n c.id)) (Some p) known cs)
  where
    go : (b : Bool) → continues_run run c.id ≡ b → ((p : Part) → IsRunOf (Some (run_with run c.n c.id)) (Some p) → Joined (Some p) (copy_parts (Some (run_with run c.n c.id)) cs ++ rest))
        → Joined last (cond b (Copy c.n c.folder (first_in run c.n c.id) c.flags) (Mail c.n c.folder c.message c.flags) ∷ (copy_parts (Some (run_with run c.n c.id)) cs ++ rest))
    go true on later =
        let r = run_with run c.n c.id in
        let p = Copy c.n c.folder r.first c.flags in
        (knows c.n c.id on, later p (run_on r (Some p) (eq-eqb r.first r.first refl)))
    go false off later =
        let r = run_with run c.n c.id in
        let p = Mail c.n c.folder c.message c.flags in
        (refl, later p (run_on r (Some p) (eq-eqb c.n r.first (sym (first_new run c.n c.id off)))))

-- ---- all of it

chained : (last : Option Part) (ps : List Part) → AllByRecursion (λ p. comes_after last p ≡ true) ps → IsAscending Before ps → Joined last ps → are_chained last ps ≡ true
chained last [] after rise joined = refl
chained last (p ∷ ps) after rise joined = and_from (follows last p) (are_chained (Some p) ps) (and_from (comes_after last p) (joins last p) after.0 joined.0) (chained (Some p) ps rise.0 rise.1 joined.1)

module _ (a : Account) (copies : List KeptCopy) (notices : List (ℕ × KeptNotice)) where
  abbrev notes : List Part
  notes = map notice_part notices

  abbrev out : List Part
  out = map letter_part a.queue ++ notes

  abbrev mail : List Part
  mail = copy_parts None copies ++ out

  abbrev moments : List Part
  moments = map reply_part (entries a.replies) ++ mail

  parts_rise : IsAscending (λ c d. c.n < d.n) copies → IsAscending (λ x y. x.id < y.id) a.queue → IsAscending (λ x y. x.0 < y.0) notices → IsAscending Before (account_parts a copies notices)
  parts_rise by_copy by_letter by_notice =
      let last : IsAscending Before notes = ascending-map Before notice_part notices (ascending_weaker _ (λ x y. Before (notice_part x) (notice_part y)) (λ x y low. numbered (notice_part x) (notice_part y) refl low) notices by_notice) in
      let letters : IsAscending Before (map letter_part a.queue) =
      ascending-map Before letter_part a.queue (ascending_weaker _ (λ x y. Before (letter_part x) (letter_part y)) (λ x y low. numbered (letter_part x) (letter_part y) refl low) a.queue by_letter) in
      let five : AllByRecursion (λ q. 3 < part_rank q) notes = all-map (λ q. 3 < part_rank q) notice_part (λ x. omega arith) notices in
      let four : AllByRecursion (λ q. 2 < part_rank q) out =
      all-append (λ q. 2 < part_rank q) (map letter_part a.queue) notes (all-map (λ q. 2 < part_rank q) letter_part (λ x. omega arith) a.queue) (all_weaker (λ q. 3 < part_rank q) (λ q. 2 < part_rank q) (λ q more. omega (arith, more)) notes five) in
      let three : AllByRecursion (λ q. 1 < part_rank q) mail =
      all-append (λ q. 1 < part_rank q) (copy_parts None copies) out (all_weaker (λ q. part_rank q ≡ 2) (λ q. 1 < part_rank q) (λ q is. omega (arith, is)) (copy_parts None copies) (copies_ranked None copies))
      (all_weaker (λ q. 2 < part_rank q) (λ q. 1 < part_rank q) (λ q more. omega (arith, more)) out four) in
      let two : AllByRecursion (λ q. 0 < part_rank q) moments =
      all-append (λ q. 0 < part_rank q) (map reply_part (entries a.replies)) mail (all-map (λ q. 0 < part_rank q) reply_part (λ x. omega arith) (entries a.replies)) (all_weaker (λ q. 1 < part_rank q) (λ q. 0 < part_rank q) (λ q more. omega (arith, more)) mail three) in
      kinds_rise 0 (map script_part (entries a.scripts)) moments (all-map (λ p. part_rank p ≡ 0) script_part (λ x. refl) (entries a.scripts)) two
      (ascending-map Before script_part (entries a.scripts) (ascending_weaker _ (λ x y. Before (script_part x) (script_part y)) scripts_rise (entries a.scripts) (entries_rise bytes_cmp nat_list_cmp_total bytes_antisymmetric a.scripts)))
      (kinds_rise 1 (map reply_part (entries a.replies)) mail (all-map (λ p. part_rank p ≡ 1) reply_part (λ x. refl) (entries a.replies)) three
      (ascending-map Before reply_part (entries a.replies) (ascending_weaker _ (λ x y. Before (reply_part x) (reply_part y)) replies_rise (entries a.replies) (entries_rise reply_cmp reply_total reply_antisymmetric a.replies)))
      (kinds_rise 2 (copy_parts None copies) out (copies_ranked None copies) four (copies_rise None copies by_copy) (kinds_rise 3 (map letter_part a.queue) notes (all-map (λ p. part_rank p ≡ 3) letter_part (λ x. refl) a.queue) five letters last)))

  parts_join : Joined None (account_parts a copies notices)
  parts_join =
      joined_kind script_part (λ last x. refl) moments
      (λ one. joined_kind reply_part (λ last x. refl) mail (λ two. joined_copies out (λ three. joined_kind letter_part (λ last x. refl) notes noted three a.queue) None two (λ n id no. absurd (true≢false (sym no))) copies) one (entries a.replies))
      None (entries a.scripts)
    where
      noted : (last : Option Part) → Joined last notes
      noted last = go last notices
        where
          go : (last : Option Part) (xs : List (ℕ × KeptNotice)) → Joined last (map notice_part xs)
          go last [] = tt
          go last (x ∷ xs) = (refl, go (Some (notice_part x)) xs)

  pub parts_chained : IsAscending (λ c d. c.n < d.n) copies → IsAscending (λ x y. x.id < y.id) a.queue → IsAscending (λ x y. x.0 < y.0) notices → are_chained None (account_parts a copies notices) ≡ true
  parts_chained by_copy by_letter by_notice = chained None (account_parts a copies notices) (none_before (account_parts a copies notices)) (parts_rise by_copy by_letter by_notice) parts_join
    where
      none_before : (ps : List Part) → AllByRecursion (λ p. comes_after None p ≡ true) ps
      none_before [] = tt
      none_before (p ∷ ps) = (refl, none_before ps)
