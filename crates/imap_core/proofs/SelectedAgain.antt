-- Sessions that know the same are alike, whenever they were told so.
use Rattle.std.proofs.Common.{◌≡◌, inr, ℕ, ◌≤◌, Bool, true, false, not, nat_lt, List, [], ◌∷◌, Option, Some, None, refl, sym, ap, subst, ◌∙◌, arith}
use Rattle.std.specs.Prelude.{option_and_then}
use Rattle.std.specs.FinMap as map
use Rattle.std.proofs.lemmas.Bool.{ltb-true}
use Rattle.imap_answer.specs.Answer.{nothing_enabled}
use Rattle.imap_mailbox.proofs.BroughtUp.{shown_is_ordered}
use Rattle.imap_mailbox.specs.Order.{AreAtMost}
use Rattle.imap_mailbox.specs.Rows.{Row}
use Rattle.imap_mailbox.specs.Shown.{content_of}
use Rattle.imap_session.specs.Compared.{is_known}
use Rattle.imap_session.specs.Select.{selected_as}
use Rattle.imap_session.specs.State.{Selection, SessionState}
use Rattle.imap_session.specs.Told.{KnowsRows}
use Rattle.imap_sessions.proofs.Alike.{AreKnownAlike, alike_put, read_alike_here}
use Rattle.imap_sessions.proofs.Reading.{read_of}
use Rattle.imap_sessions.proofs.SameKnown.{known_by_both, one_list}
use Rattle.imap_sessions.specs.Alike.{AreBoth, AreOwnAlike, AreSelectionsAlike, AreSessionsAlike, KnowTheSame}
use Rattle.imap_sessions.specs.declared.sessions.SessionEffect.{SessionEffect}
use Rattle.imap_sessions.specs.declared.sessions.SessionEffect.TheVariants as session
use Rattle.imap_sessions.specs.InStep.{IsInStep, IsSelectedInStep}
use Rattle.imap_sessions.specs.Sessions.{Own, edited_if_open}
use Rattle.imap_view.specs.declared.readable.Readable.{Readable}
use Rattle.imap_world.specs.declared.site.Site.{Site}
use Rattle.imap_world.specs.Kept.{AreKept}
use Rattle.imap_world.specs.Mailbox.{Mailbox}
use Rattle.imap_world.specs.World.{World}
use Rattle.imap_core.specs.Machine.{own_in}
use Rattle.imap_core.specs.SameKnowledge.{KnownByOneList, SameKnowledgeIsAlike, SelectingAgainIsAlike, selected_again}
use Rattle.imap_core.proofs.InStep.{IsLeft, left_is, some_same}
use Rattle.imap_core.proofs.Steps.{accounts_after_here}

pub one_list_known : KnownByOneList
one_list_known up_to other c ordered = (
  λ h. let found = one_list up_to other c ordered h in (found.0, (found.1, found.2)),
  λ found. known_by_both up_to other found.0 c found.1.0 found.1.1,
)

pub known_is_alike : SameKnowledgeIsAlike
known_is_alike world user up_to s step other = (
  λ h m there same. read_alike_here world user up_to s h.known m there same,
  λ each. record {
    same = refl;
    known = inr (record {
      used = step.used;
      known = λ m there same. record {
        before = (step.brought m there same).brought.before;
        other_before = (other.brought m there same).brought.before;
        rows = each m there same;
      };
    });
  },
)

-- ---- a session that knows all

known_at : (n : ℕ) (r : Row) → r.number ≤ n → is_known n r ≡ true
known_at n r le = by (nat_lt n r.number) refl
  where
    by : (b : Bool) → nat_lt n r.number ≡ b → not b ≡ true
    by true is = let lt = ltb-true n r.number is in absurd (omega (arith, lt, le))
    by false is = refl

all_known : (m n : ℕ) (rows : List Row) → AreAtMost m rows → AreAtMost n rows → AreKnownAlike m n rows
all_known m n [] a b = tt
all_known m n (r ∷ rows) a b = (known_at m r a.0 ∙ sym (known_at n r b.0), all_known m n rows a.1 b.1)

module _ (site : Site) (user : List ℕ) (world : World) (kept : AreKept world.mailboxes) (s : Selection) (r : Readable) (left : IsLeft site user world kept s r) (step : IsSelectedInStep world user s) (knows : KnowsRows r.rows s) where
  selections_alike : AreSelectionsAlike world user s (selected_as s.name s.read_only r)
  selections_alike = record {
    same = λ i. record { name = s.name; validity = left.same i; read_only = s.read_only; known = sym knows.uids i; up_to = r.highest };
    known = inr (record { used = step.used; known = λ m there same. of_read m there });
  }
    where
      of_read : (m : Mailbox) → map.get world.mailboxes s.name ≡ Some m → KnowTheSame s.up_to r.highest (content_of user m.messages)
      of_read m there =
          let read = read_of site user world s.name r left.readable in
          let validity : r.validity ≡ read.mailbox.validity = ap (λ (r : Readable). r.validity) read.is in
          let content = content_of user read.mailbox.messages in
          let ordered = shown_is_ordered read.mailbox.messages user (kept.at s.name read.mailbox read.there) in
          let before = (step.brought read.mailbox read.there (sym validity ∙ left.same)).brought.before in
          let told : AreAtMost s.up_to content.rows = subst (λ (r : Readable). AreAtMost s.up_to r.rows) read.is knows.told in
          subst (λ (m : Mailbox). KnowTheSame s.up_to r.highest (content_of user m.messages)) (some_same read.mailbox m (sym read.there ∙ there))
          (subst (λ (r : Readable). KnowTheSame s.up_to r.highest content) (sym read.is) (record {
            before = before;
            other_before = omega arith;
            rows = all_known s.up_to _ content.rows told ordered.numbers;
          }))

  sessions_alike : (own : SessionState) → own.selected ≡ Some s → AreSessionsAlike world user own (record { selected = Some (selected_as s.name s.read_only r); enabled = own.enabled; idle = own.idle })
  sessions_alike own selected = record {
    selected = subst (λ (a : Option Selection). AreBoth (AreSelectionsAlike world user) a (Some (selected_as s.name s.read_only r))) (sym selected) selections_alike;
    enabled = refl;
    idle = refl;
  }

pub selected_again_alike : SelectingAgainIsAlike
selected_again_alike state who own s mailbox kept there selected left knows = record {
  views = refl;
  sessions = by (own_in state who.user) refl there;
  kept = kept.messages;
  kept_other = kept.messages;
}
  where
    change : SessionEffect
    change = session.Select nothing_enabled (Some (selected_as s.name s.read_only mailbox))

    step : IsSelectedInStep state.world who.user s
    step = subst (IsInStep state.world who.user) selected (kept.sessions.at who.user who.number own there)

    alike : AreSessionsAlike state.world who.user own (record { selected = Some (selected_as s.name s.read_only mailbox); enabled = own.enabled; idle = own.idle })
    alike = sessions_alike state.site who.user state.world kept.messages s mailbox (left_is state.site who.user state.world kept.messages own s mailbox selected left) step knows own selected

    put : (m : Own) → map.get m who.number ≡ Some own → AreOwnAlike state.world who.user m (edited_if_open who.number change m (map.get m who.number))
    put m at =
        subst (λ (found : Option SessionState). AreOwnAlike state.world who.user m (edited_if_open who.number change m found)) (sym at)
        (alike_put state.world who.user m who.number own _ at alike)

    by : (m : Option Own) → own_in state who.user ≡ m → option_and_then (λ own. map.get own who.number) m ≡ Some own
        → AreBoth (AreOwnAlike state.world who.user) (own_in state who.user) (own_in (selected_again state who s mailbox) who.user)
    by None is at = absurd (cc at)
    by (Some m) is at =
        subst (λ (a : Option Own). AreBoth (AreOwnAlike state.world who.user) a (own_in (selected_again state who s mailbox) who.user)) (sym is)
        (subst (λ (b : Option Own). AreBoth (AreOwnAlike state.world who.user) (Some m) b)
        (sym (accounts_after_here state.accounts who change (Some m) is)) (put m at))
