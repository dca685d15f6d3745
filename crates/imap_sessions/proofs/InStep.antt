-- Sessions stay in step while mailboxes change.
use Rattle.std.proofs.Common.{◌≡◌, inl, inr, ℕ, List, [], ◌∷◌, Option, Some, None, refl, ◌∙◌, arith}
use Rattle.std.specs.FinMap as map
use Rattle.imap_answer.specs.Alike.{effects_of}
use Rattle.imap_mailbox.specs.Shown.{content_of}
use Rattle.imap_session.proofs.ByUid.{later_by_uid}
use Rattle.imap_session.specs.ByUid.{IsBroughtByUid}
use Rattle.imap_session.specs.State.{Selection}
use Rattle.imap_world.specs.Kept.{AreKept}
use Rattle.imap_world.specs.Laws.{IsGrownFromSome, IsGrownOrNew, MessagesGrown}
use Rattle.imap_world.specs.Mailbox.{Mailbox}
use Rattle.imap_world.specs.World.{World}
use Rattle.imap_sessions.specs.InStep.{IsInStep, IsSelectedInStep}
use Rattle.imap_world.specs.declared.effect.Effect.{Effect}
use Rattle.imap_world.specs.Effects.{after_all}
use Rattle.imap_world.specs.Ready.{AreApart}
use Rattle.imap_world.proofs.Growing.{messages_grow}

pub one_is_apart : (asked : Option Effect) → AreApart (effects_of asked)
one_is_apart None = inl (omega arith)
one_is_apart (Some effect) = inl (omega arith)

pub grown_by : (world : World) → AreKept world.mailboxes → (asked : Option Effect) → MessagesGrown world (after_all (effects_of asked) world)
grown_by world kept asked = messages_grow world (effects_of asked ∷ []) (one_is_apart asked, tt) kept

module _ (old new : World) (grown : MessagesGrown old new) (user : List ℕ) where
  selected_stays : (s : Selection) → IsSelectedInStep old user s → IsSelectedInStep new user s
  selected_stays s h = record {
    used = let more = grown.epochs s.name in omega (arith, h.used, more);
    brought = λ m there same. by m same (grown.mailboxes s.name m there);
  }
    where
      of_old : (m : Mailbox) → m.validity ≡ s.validity → (before : Option Mailbox) → map.get old.mailboxes s.name ≡ before → IsGrownFromSome m before
          → IsBroughtByUid s.up_to s.known (content_of user m.messages)
      of_old m same None there g = absurd g
      of_old m same (Some before) there g =
          later_by_uid (content_of user before.messages) (content_of user m.messages) s.up_to s.known (g.messages.later user) (h.brought before there (g.validity ∙ same))

      by : (m : Mailbox) → m.validity ≡ s.validity → IsGrownOrNew old s.name m → IsBroughtByUid s.up_to s.known (content_of user m.messages)
      by m same (inl g) = of_old m same (map.get old.mailboxes s.name) refl g
      by m same (inr above) = absurd (omega (arith, h.used, above, same))

  pub stays : (selected : Option Selection) → IsInStep old user selected → IsInStep new user selected
  stays None h = tt
  stays (Some s) h = selected_stays s h
