-- What a session is told by what a walk found.
use Rattle.std.proofs.Common.{◌≡◌, ℕ, ◌+◌, ◌-◌, ◌<◌, ◌≤◌, ◌^◌, ltb, ◌&&◌, not, Bool, true, false, cond, List, [], ◌∷◌, ◌++◌, length, refl, sym, ap, subst, ◌∙◌, arith}
use Rattle.std.proofs.lemmas.Bool.{lt-ltb}
use Rattle.std.proofs.lemmas.List.{length-append, length-map, append_assoc}
use Rattle.imap_print.specs.declared.response.Response.{Response}
use Rattle.imap_print.specs.declared.response.Response.TheVariants as response
use Rattle.std.specs.List.{AllByRecursion}
use Rattle.imap_print.specs.Lines.{IsPrintable}
use Rattle.imap_print.specs.Sets.{rise_above}
use Rattle.imap_mailbox.specs.Rows.{Row, first_uid}
use Rattle.imap_mailbox.specs.Lent.{row_uids}
use Rattle.imap_mailbox.specs.Summary.{Rises, AreRising}
use Rattle.imap_mailbox.specs.Shown.{Content}
use Rattle.imap_mailbox.proofs.Rising.{rises_upper}
use Rattle.imap_session.specs.declared.options.NoticeOptions.{NoticeOptions}
use Rattle.imap_session.specs.declared.delta.Delta.{Delta}
use Rattle.imap_session.specs.declared.walk.Walk.{Walk}
use Rattle.imap_session.specs.Compared.{Comparison, Expunged, Present, comparisons, new_rows, uids_after, known_after}
use Rattle.imap_session.specs.Notices.{expunge_lines, expunged_uids, vanished_line, exists_line, expunge_notices, fetch_lines, notices}
use Rattle.imap_session.specs.Delta.{applied, IsDeltaOf, Brings}
use Rattle.imap_session.specs.Held.{UidsRise, uid_limit}
use Rattle.imap_session.specs.InStep.{IsInStep, NoneHeldBack}
use Rattle.imap_session.specs.Walked.{Findings, collected, by_uid, by_number, findings, found}
use Rattle.imap_session.proofs.Applying.{changes_are_applied, leavers_rise}
use Rattle.imap_session.proofs.ByUid.{uids_of}
use Rattle.imap_session.proofs.Kept.{notices_keep_in_step}
use Rattle.imap_session.proofs.Matching.{known_is}
use Rattle.imap_session.proofs.OneLines.{lines_are_printable}
use Rattle.imap_session.proofs.Quieting.{knows_all, none_gone, quiet_lines}

-- ---- numbers that fit

pub rises_length : (low high : ℕ) (ns : List ℕ) → Rises low high ns → low + length ns ≤ high
rises_length low high [] h = omega (arith, h)
rises_length low high (n ∷ ns) h = let first : low ≤ n = h.0 in let rest = rises_length (n + 1) high ns h.1 in omega (arith, rest)

pub length_fits : (uids : List ℕ) (next : ℕ) → Rises first_uid next uids → length uids + 1 ≤ next
length_fits uids next h = let most = rises_length first_uid next uids h in omega (arith, most)

pub rises_gone : (b low high : ℕ) (cs : List Comparison) → b < low → Rises low high (uids_after false cs) → rise_above b (expunged_uids cs) ≡ true
rises_gone b low high [] lt h = refl
rises_gone b low high (Expunged u ∷ cs) lt h = let first : low ≤ u = h.0 in (λ i. lt-ltb b u (omega arith) i && rise_above u (expunged_uids cs)) ∙ rises_gone u (u + 1) high cs (omega arith) h.1
rises_gone b low high (Present r ∷ cs) lt h = let first : low ≤ r.uid = h.0 in rises_gone b (r.uid + 1) high cs (omega arith) h.1

collected_rise : (b : Bool) (uids : List ℕ) → rise_above 0 uids ≡ true → rise_above 0 (collected b uids) ≡ true
collected_rise true uids h = h
collected_rise false uids h = refl

-- those that a session in step knows rise
pub step_rises : (up_to highest : ℕ) (uids : List ℕ) (rows : List Row) (c : Content) → IsInStep up_to highest uids rows c → UidsRise uids
step_rises up_to highest uids rows c h = rises_upper first_uid c.next uid_limit uids (omega (arith, h.few)) (uids_of up_to uids c h.brought)

-- ---- what a walk found

pub record IsTold (told : List ℕ) (o : NoticeOptions) (up_to : ℕ) (uids : List ℕ) (rows : List Row) (w : Walk) (new : List Row) : Type 0 where
  pub first : 0 < w.number
  pub rising : rise_above 0 w.vanished.items ≡ true
  pub count : (w.number - 1) + length new < 2 ^ 32
  pub lines : cond o.qresync (vanished_line w.vanished.items) w.expunges.items ++ (exists_line ((w.number - 1) + length new) new ++ w.fetches) ≡ notices o up_to told uids rows
  pub printable : AllByRecursion IsPrintable w.fetches
      → AllByRecursion IsPrintable (cond o.qresync (vanished_line w.vanished.items) w.expunges.items ++ (exists_line ((w.number - 1) + length new) new ++ w.fetches))

gone_chosen : (o : NoticeOptions) (cs : List Comparison)
    → cond o.qresync (vanished_line (collected (by_uid o) (expunged_uids cs))) (collected (by_number o) (expunge_lines 1 cs)) ≡ expunge_notices o cs
gone_chosen o cs = by o.expunges o.qresync
  where
    by : (b q : Bool) → cond q (vanished_line (collected (b && q) (expunged_uids cs))) (collected (b && not q) (expunge_lines 1 cs)) ≡ cond b (cond q (vanished_line (expunged_uids cs)) (expunge_lines 1 cs)) []
    by true true = refl
    by true false = refl
    by false true = refl
    by false false = refl

pub it_is_told : (told : List ℕ) (o : NoticeOptions) (up_to highest : ℕ) (uids : List ℕ) (rows : List Row) (c : Content) (w : Walk) (new : List Row)
    → IsInStep up_to highest uids rows c → found w new ≡ findings told o up_to uids rows → IsTold told o up_to uids rows w new
it_is_told told o up_to highest uids rows c w new h is = record {
  first = omega (arith, number);
  rising = ap (rise_above 0) vanished
      ∙ collected_rise (by_uid o) (expunged_uids (comparisons uids rows))
      (rises_gone 0 first_uid c.next (comparisons uids rows) (omega arith) (subst (Rises first_uid c.next) (sym (known_is uids rows)) (uids_of up_to uids c h.brought)));
  count = omega (arith, count_is, fits, h.few);
  lines =
      (λ j. cond o.qresync (vanished_line (vanished j)) (expunges j) ++ (exists_line (count_is j) (are_new j) ++ fetches j))
      ∙ (λ j. gone_chosen o (comparisons uids rows) j ++ (exists_line (length (known_after o.expunges uids rows)) (new_rows uids rows) ++ fetch_lines o up_to told 1 (comparisons uids rows)));
  printable = lines_are_printable o.qresync (by_number o) w.vanished.items w.expunges.items (comparisons uids rows) ((w.number - 1) + length new) new w.fetches expunges;
}
  where
    number : w.number ≡ 1 + length (uids_after o.expunges (comparisons uids rows))
    number = ap (λ (f : Findings). f.number) is

    vanished : w.vanished.items ≡ collected (by_uid o) (expunged_uids (comparisons uids rows))
    vanished = ap (λ (f : Findings). f.vanished) is

    expunges : w.expunges.items ≡ collected (by_number o) (expunge_lines 1 (comparisons uids rows))
    expunges = ap (λ (f : Findings). f.expunges) is

    fetches : w.fetches ≡ fetch_lines o up_to told 1 (comparisons uids rows)
    fetches = ap (λ (f : Findings). f.fetches) is

    are_new : new ≡ new_rows uids rows
    are_new = ap (λ (f : Findings). f.new) is

    count_is : (w.number - 1) + length new ≡ length (known_after o.expunges uids rows)
    count_is =
        let sum = length-append (uids_after o.expunges (comparisons uids rows)) (row_uids (new_rows uids rows)) in
        let len = length-map (new_rows uids rows) (λ (r : Row). r.uid) in
        let news = ap length are_new in
        omega (arith, number, sum, len, news)

    fits : length (known_after o.expunges uids rows) + 1 ≤ c.next
    fits = length_fits (known_after o.expunges uids rows) c.next (uids_of highest (known_after o.expunges uids rows) c (notices_keep_in_step o.expunges up_to highest uids rows c h).brought)

-- a test for new messages
pub exists_is : (count n : ℕ) (new : List Row) → n ≡ length new → cond (ltb 0 n) (response.Exists count ∷ []) [] ≡ exists_line count new
exists_is count n [] e = ap (λ m. cond (ltb 0 m) (response.Exists count ∷ []) []) e
exists_is count n (r ∷ new) e = ap (λ b. cond b (response.Exists count ∷ []) []) (lt-ltb 0 n (omega arith))

-- ---- the change

pub delta_brings : (o : NoticeOptions) (up_to highest : ℕ) (uids : List ℕ) (rows : List Row) (c : Content) (d : Delta)
    → IsInStep up_to highest uids rows c → IsDeltaOf o up_to uids rows d → Brings o uids rows d
delta_brings o up_to highest uids rows c d h is = record {
  change = record {
    leavers = subst AreRising (sym is.gone) (leavers_rise o.expunges uids rows rising);
    rising = subst UidsRise (sym list) (step_rises highest highest (known_after o.expunges uids rows) rows c (notices_keep_in_step o.expunges up_to highest uids rows c h));
  };
  list = list;
}
  where
    rising : UidsRise uids
    rising = step_rises up_to highest uids rows c h

    list : applied d.gone.items d.added.items uids ≡ known_after o.expunges uids rows
    list = (λ i. applied (is.gone i) (is.added i) uids) ∙ changes_are_applied o uids rows (first_uid, uid_limit, rising)

-- ---- nothing is told

pub record IsNothing (told : List ℕ) (o : NoticeOptions) (up_to : ℕ) (uids : List ℕ) (rows : List Row) : Type 0 where
  pub lines : notices o up_to told uids rows ≡ []
  pub delta : (d : Delta) → d.changed ≡ false → d.gone.items ≡ [] → d.added.items ≡ [] → IsDeltaOf o up_to uids rows d

nothing_leaves : (b : Bool) (cs : List Comparison) → (b ≡ true → expunged_uids cs ≡ []) → cond b (expunged_uids cs) [] ≡ []
nothing_leaves true cs h = h refl
nothing_leaves false cs h = refl

pub nothing_is : (told : List ℕ) (o : NoticeOptions) (up_to highest : ℕ) (uids : List ℕ) (rows : List Row) (c : Content)
    → IsInStep up_to highest uids rows c → highest ≤ up_to → NoneHeldBack o.expunges uids rows → IsNothing told o up_to uids rows
nothing_is told o up_to highest uids rows c h le quiet =
    let all = knows_all up_to highest uids rows c h le in
    let gone = none_gone o.expunges up_to uids rows all quiet in
    record {
      lines = quiet_lines o up_to told uids rows all.none_new all.all_known gone;
      delta = λ d changed leave added. record {
        changed = changed ∙ sym all.all_known;
        gone = leave ∙ sym (nothing_leaves o.expunges (comparisons uids rows) gone);
        added = added ∙ sym (ap row_uids all.none_new);
      };
    }

-- ---- lines that are put together

pub lines_joined : {front gone there exist : List Response} (back : List Response) → front ≡ gone → there ≡ exist → (front ++ there) ++ back ≡ gone ++ (exist ++ back)
lines_joined {front} {gone} {there} {exist} back a b = append_assoc front there back ∙ (λ i. a i ++ (b i ++ back))
