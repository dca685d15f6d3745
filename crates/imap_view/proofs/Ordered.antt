-- What is shown of messages is in order.
use Rattle.std.proofs.Common.{◌≡◌, ℕ, List, Bool, true, false, Some, None, cond, subst}
use Rattle.imap_world.specs.Brought.{highest_in}
use Rattle.imap_world.specs.MailboxOrder.{AreGoneInOrder, AreRowsInOrder}
use Rattle.imap_world.specs.Shown.{Content, content_of}
use Rattle.imap_world.specs.Summary.{Summary, gone_of, highest_of, rows_of}

some_one : (c d : Content) → Some c ≡ Some d → c ≡ d
some_one c d e = cc e

module _ (user : List ℕ) (s : Summary) where
  pub rows_if_shown : AreRowsInOrder s.next (highest_of s user) (rows_of s user) → (b : Bool) (c : Content) → cond b (Some (content_of user s)) None ≡ Some c → AreRowsInOrder c.next (highest_in c) c.rows
  rows_if_shown h true c e = subst (λ k. AreRowsInOrder k.next (highest_in k) k.rows) (some_one (content_of user s) c e) h
  rows_if_shown h false c e = absurd (cc e)

  pub gone_if_shown : AreGoneInOrder s.next (highest_of s user) (gone_of s user) → (b : Bool) (c : Content) → cond b (Some (content_of user s)) None ≡ Some c → AreGoneInOrder c.next (highest_in c) c.gone
  gone_if_shown h true c e = subst (λ k. AreGoneInOrder k.next (highest_in k) k.gone) (some_one (content_of user s) c e) h
  gone_if_shown h false c e = absurd (cc e)
