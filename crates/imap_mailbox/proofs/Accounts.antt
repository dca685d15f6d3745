-- Each UID that was given is that of one message, there or gone.
use Rattle.std.proofs.Common.{◌≡◌, ℕ, ◌+◌, ◌<◌, ◌≤◌, eqb, not, Bool, true, false, cond, ◌||◌, List, [], ◌∷◌, ◌++◌, filter, refl, sym, ap, ◌∙◌, arith}
use Rattle.std.proofs.lemmas.Bool.{eqb-true}
use Rattle.std.proofs.lemmas.Bool.Decides.{nat_tests}
use Rattle.std.proofs.lemmas.List.{map-append}
use Rattle.imap_mailbox.specs.declared.message.GoneMessage.{GoneMessage}
use Rattle.imap_mailbox.specs.Rows.{Event, Added, FlagsSet, Expunged, Shared, IsGiven, IsPresent, is_among, uid_step, next_step}
use Rattle.imap_mailbox.proofs.Counts.{one, one_same, count_push, count_without, among_counts, given_more, given_most}
use Rattle.imap_mailbox.proofs.Rising.{rises_end}
use Rattle.imap_mailbox.specs.Summary.{Summary, step, gone_uids, count_of, given_once, Rises}

pub turned : (m n : ℕ) → eqb m n ≡ eqb n m
turned m n = grind (arith, nat_tests)

-- what is among numbers that rise lies between their bounds
pub among_rising : (q low high : ℕ) (us : List ℕ) → Rises low high us → is_among q us ≡ true → (low ≤ q) × (q < high)
among_rising q low high [] h e = absurd (cc e)
among_rising q low high (u ∷ us) h e = by (eqb u q) refl (among_rising q (u + 1) high us h.1)
  where
    by : (b : Bool) → eqb u q ≡ b → (is_among q us ≡ true → (u + 1 ≤ q) × (q < high)) → (low ≤ q) × (q < high)
    by true t later = let is = eqb-true u q t in let at : low ≤ u = h.0 in let end = rises_end (u + 1) high us h.1 in (omega (arith, is), omega (arith, is, end))
    by false t later =
        let rest = later (ap (λ b. b || is_among q us) (sym t) ∙ e) in
        let at : low ≤ u = h.0 in
        let low_is = rest.0 in
        (omega (arith, low_is), rest.1)

-- ---- one step

abbrev pub IsAccounted : (gone : List ℕ) (next : ℕ) (uids : List ℕ) → Type 0
IsAccounted gone next uids = (uid : ℕ) → count_of uid uids + count_of uid gone ≡ given_once next uid

abbrev pub gone_step : Event → List ℕ → List ℕ
gone_step (Added m) gone = gone
gone_step (FlagsSet uid flags) gone = gone
gone_step (Expunged uid) gone = gone ++ uid ∷ []

pub gone_after : (e : Event) (s : Summary) → gone_uids (step e s).gone ≡ gone_step e (gone_uids s.gone)
gone_after (Added m) s = refl
gone_after (FlagsSet uid flags) s = refl
gone_after (Expunged uid) s = map-append (λ (g : GoneMessage). g.uid) s.gone (record { uid = uid; place = s.shared } ∷ [])

pub accounted_step : (e : Event) (gone : List ℕ) (next : ℕ) (uids : List ℕ) → IsGiven next (Shared e) → IsPresent uids e → Rises 1 next uids
    → IsAccounted gone next uids → IsAccounted (gone_step e gone) (next_step e next) (uid_step e uids)
accounted_step (Added m) gone next uids given present rises h q =
    let is : m.uid ≡ next = given in
    let more = given_more next q (rises_end 1 next uids rises) in
    let same = ap (λ n. given_once (n + 1) q) is in
    let new = ap (λ n. one n q) is in
    omega (arith, count_push q m.uid uids, h q, more, same, new)
accounted_step (FlagsSet uid flags) gone next uids given present rises h q = h q
accounted_step (Expunged uid) gone next uids given present rises h q = by (eqb uid q) refl
  where
    rest : List ℕ
    rest = filter (λ u. not (eqb u uid)) uids

    left : (b : Bool) → eqb uid q ≡ b → count_of q rest ≡ cond b 0 (count_of q uids)
    left b t = count_without uid q uids ∙ ap (λ b. cond b 0 (count_of q uids)) t

    by : (b : Bool) → eqb uid q ≡ b → count_of q rest + count_of q (gone ++ uid ∷ []) ≡ given_once next q
    by true t =
        let is = eqb-true uid q t in
        let some = among_counts uid uids present in
        let one_of = ap (λ n. count_of n uids) is in
        let none = left true t in
        let most = given_most next q in
        let new = one_same uid q is in
        omega (arith, some, one_of, none, most, new, h q, count_push q uid gone)
    by false t =
        let same = left false t in
        let new : one uid q ≡ 0 = ap (λ b. cond b 1 0) t in
        omega (arith, same, h q, count_push q uid gone, new)
