use Rattle.std.proofs.Common.{ℤ, Bool, IsTrue, ap, map, subst, sym, ◌∙◌, true≢false}
use Rattle.std.specs.Prelude.{◌↔◌, Contains}
use Rattle.std.specs.BTreeSet as sorted
use Rattle.std.specs.Ordering.{int_cmp}
use Rattle.imap_tables.specs.declared.stored.StoredEntry.{StoredEntry}
use Rattle.imap_tables.specs.declared.stored.StoredGone.{StoredGone}
use Rattle.imap_tables.specs.declared.stored.StoredMailbox.{StoredMailbox}
use Rattle.imap_tables.specs.declared.stored.StoredSeenFlag.{StoredSeenFlag}
use Rattle.imap_tables.specs.declared.stored.StoredMessage.{StoredMessage}
use Rattle.imap_restore.specs.Parts.{AreKnown}
use Rattle.imap_restore.proofs.Known.{below_known, known_below}
use Rattle.imap_restore.proofs.parts.have_mailboxes.Goals as goal

pub returns-then-not-are_known : goal.returns-then-not-are_known
returns-then-not-are_known c =
    let boxes = c.args.tables.now.mailboxes.items in
    let test : ℤ → Bool = λ id. sorted.contains int_cmp c.in_ok-ids-2.ids id in
    let tells : (id : ℤ) → IsTrue (test id) ↔ Contains (map (λ (it : StoredMailbox). it.id) boxes) id =
    λ id. subst (λ l. IsTrue (test id) ↔ Contains l id) (c.in_ok-ids.ensures ∙ ap (map (λ (it : StoredMailbox). it.id)) c.deref.ensures.value) (c.in_ok-ids-2.ensures id) in (
      λ h. absurd (true≢false (sym h)),
      λ have.
          let all = c.are_known.ensures.1 (subst (AreKnown (λ (r : StoredEntry). r.mailbox) test) (sym c.deref-2.ensures.value) (below_known boxes test tells (λ (r : StoredEntry). r.mailbox) c.args.tables.now.entries.items have.entries)) in
          absurd (true≢false (sym all ∙ c.if-not-are_known.true)),
    )

pub returns-then-not-are_known-2 : goal.returns-then-not-are_known-2
returns-then-not-are_known-2 c =
    let boxes = c.args.tables.now.mailboxes.items in
    let test : ℤ → Bool = λ id. sorted.contains int_cmp c.in_ok-ids-2.ids id in
    let tells : (id : ℤ) → IsTrue (test id) ↔ Contains (map (λ (it : StoredMailbox). it.id) boxes) id =
    λ id. subst (λ l. IsTrue (test id) ↔ Contains l id) (c.in_ok-ids.ensures ∙ ap (map (λ (it : StoredMailbox). it.id)) c.deref.ensures.value) (c.in_ok-ids-2.ensures id) in (
      λ h. absurd (true≢false (sym h)),
      λ have.
          let all = c.are_known-2.ensures.1 (subst (AreKnown (λ (r : StoredMessage). r.mailbox) test) (sym c.deref-3.ensures.value) (below_known boxes test tells (λ (r : StoredMessage). r.mailbox) c.args.tables.now.messages.items have.messages)) in
          absurd (true≢false (sym all ∙ c.if-not-are_known-2.true)),
    )

pub returns-then-not-are_known-3 : goal.returns-then-not-are_known-3
returns-then-not-are_known-3 c =
    let boxes = c.args.tables.now.mailboxes.items in
    let test : ℤ → Bool = λ id. sorted.contains int_cmp c.in_ok-ids-2.ids id in
    let tells : (id : ℤ) → IsTrue (test id) ↔ Contains (map (λ (it : StoredMailbox). it.id) boxes) id =
    λ id. subst (λ l. IsTrue (test id) ↔ Contains l id) (c.in_ok-ids.ensures ∙ ap (map (λ (it : StoredMailbox). it.id)) c.deref.ensures.value) (c.in_ok-ids-2.ensures id) in (
      λ h. absurd (true≢false (sym h)),
      λ have.
          let all = c.are_known-3.ensures.1 (subst (AreKnown (λ (r : StoredGone). r.mailbox) test) (sym c.deref-4.ensures.value) (below_known boxes test tells (λ (r : StoredGone). r.mailbox) c.args.tables.now.gone.items have.gone)) in
          absurd (true≢false (sym all ∙ c.if-not-are_known-3.true)),
    )

pub returns : goal.returns
returns c =
    let boxes = c.args.tables.now.mailboxes.items in
    let test : ℤ → Bool = λ id. sorted.contains int_cmp c.in_ok-ids-2.ids id in
    let tells : (id : ℤ) → IsTrue (test id) ↔ Contains (map (λ (it : StoredMailbox). it.id) boxes) id =
    λ id. subst (λ l. IsTrue (test id) ↔ Contains l id) (c.in_ok-ids.ensures ∙ ap (map (λ (it : StoredMailbox). it.id)) c.deref.ensures.value) (c.in_ok-ids-2.ensures id) in (
      λ h. record {
        entries = known_below boxes test tells (λ (r : StoredEntry). r.mailbox) c.args.tables.now.entries.items (subst (AreKnown (λ (r : StoredEntry). r.mailbox) test) c.deref-2.ensures.value (c.are_known.ensures.0 c.if-not-are_known.false));
        messages = known_below boxes test tells (λ (r : StoredMessage). r.mailbox) c.args.tables.now.messages.items (subst (AreKnown (λ (r : StoredMessage). r.mailbox) test) c.deref-3.ensures.value (c.are_known-2.ensures.0 c.if-not-are_known-2.false));
        gone = known_below boxes test tells (λ (r : StoredGone). r.mailbox) c.args.tables.now.gone.items (subst (AreKnown (λ (r : StoredGone). r.mailbox) test) c.deref-4.ensures.value (c.are_known-3.ensures.0 c.if-not-are_known-3.false));
        marks = known_below boxes test tells (λ (r : StoredSeenFlag). r.mailbox) c.args.tables.now.marks.items (subst (AreKnown (λ (r : StoredSeenFlag). r.mailbox) test) c.deref-5.ensures.value (c.are_known-4.ensures.0 h));
      },
      λ have. c.are_known-4.ensures.1 (subst (AreKnown (λ (r : StoredSeenFlag). r.mailbox) test) (sym c.deref-5.ensures.value) (below_known boxes test tells (λ (r : StoredSeenFlag). r.mailbox) c.args.tables.now.marks.items have.marks)),
    )
