-- Users who are admitted one after another.
use Rattle.std.proofs.Common.{◌≡◌, ℕ, ◌+◌, ◌<◌, List, ◌∷◌, length, get_or, drop, drop-cons, add-one, suc, sym, ap, ◌∙◌}
use Rattle.imap_world.specs.World.{World}
use Rattle.imap_core.specs.Opening.{Admission, with_user, with_users}

this_user : (users : List (List ℕ)) (i : ℕ) (user : List ℕ) → i < length users → user ≡ get_or users i user → drop i users ≡ user ∷ drop (i + 1) users
this_user users i user lt is = rw add-one (drop-cons users i user lt ∙ ap (λ x. x ∷ drop (suc i) users) (sym is))

pub admitted_on : (world : World) (users : List (List ℕ)) (i : ℕ) (user : List ℕ) (before after whole : Admission) → i < length users → user ≡ get_or users i user
    → after ≡ with_user world user before → with_users world (drop i users) before ≡ whole → with_users world (drop (i + 1) users) after ≡ whole
admitted_on world users i user before after whole lt is made so_far =
    ap (with_users world (drop (i + 1) users)) made ∙ sym (ap (λ rest. with_users world rest before) (this_user users i user lt is)) ∙ so_far
