-- Messages of a mailbox by their rows: what is added, gets flags and goes.
use Rattle.std.proofs.Common.{◌≡◌, ◌⊎◌, inl, inr, ℕ, ℤ, pos, negsuc, Bool, true, false, cond, not, List, [], ◌∷◌, ◌++◌, append_assoc, append-nil, map, refl, sym, ap, subst, ◌∙◌, eq-eqb}
use Rattle.std.specs.Prelude.{◌↔◌, ◌==◌}
use Rattle.sqlite.specs.declared.types.Value.TheVariants.{Int}
use Rattle.sqlite.specs.Order.{Row, column}
use Rattle.sqlite.specs.Tree.{Trees}
use Rattle.sqlite_rules.specs.Lists.{Has}
use Rattle.sqlite_rules.proofs.ListLemmas.{has_either, has_filtered, has_kept, has_left, has_right}
use Rattle.sqlite_rules.proofs.ProbeLemmas.{has_mapped, mapped_has}
use Rattle.imap_batch.specs.Entered.{FlagChange, with_flag_changes}
use Rattle.imap_mailbox.specs.declared.message.GoneMessage.{GoneMessage}
use Rattle.imap_mailbox.specs.declared.message.Message.{Message}
use Rattle.imap_mailbox.specs.Expunging.{without_all}
use Rattle.imap_mailbox.specs.Summary.{flags_in, without}
use Rattle.imap_mailbox.proofs.ExpungedAll.{all_stay, filter_twice}
use Rattle.imap_names.specs.Name.{Name}
use Rattle.imap_world.specs.World.{World}
use Rattle.imap_records.specs.Columns.{flag_bits, gone_values, keywords_text, message_values, place_value}
use Rattle.imap_records.specs.Standing.{IsGone, IsMessage, Kept}
use Rattle.imap_records.specs.Steps.{RemoveMessage, flag_step, gone_step, message_step}
use Rattle.imap_records.proofs.Beside.{IsBeside, IsFree, IsIt, alike, gone_added, message_added, message_flagged, message_removed, same_id, with_flags}
use Rattle.imap_records.proofs.Making.{MakesBelowAll}
use Rattle.std.proofs.lemmas.Bool.Decides.{Decides-eqb}

-- the rows of a longer list
message_more : (i : ℤ) (ms : List Message) (x : Message) (v : Row) → (IsMessage ms i v ⊎ (v ≡ message_values i x)) ↔ IsMessage (ms ++ x ∷ []) i v
message_more i ms x v = (to, from)
  where
    to : IsMessage ms i v ⊎ (v ≡ message_values i x) → IsMessage (ms ++ x ∷ []) i v
    to (inl h) = record { message = h.message; there = has_left ms (x ∷ []) h.message h.there; shown = h.shown }
    to (inr is) = record { message = x; there = has_right ms (x ∷ []) x (inl refl); shown = is }

    from : IsMessage (ms ++ x ∷ []) i v → IsMessage ms i v ⊎ (v ≡ message_values i x)
    from h = by (has_either ms (x ∷ []) h.message h.there)
      where
        by : Has ms h.message ⊎ Has (x ∷ []) h.message → IsMessage ms i v ⊎ (v ≡ message_values i x)
        by (inl there) = inl (record { message = h.message; there = there; shown = h.shown })
        by (inr (inl same)) = inr (h.shown ∙ ap (message_values i) same)
        by (inr (inr none)) = absurd none

gone_more : (i : ℤ) (gs : List GoneMessage) (x : GoneMessage) (v : Row) → (IsGone gs i v ⊎ (v ≡ gone_values i x)) ↔ IsGone (gs ++ x ∷ []) i v
gone_more i gs x v = (to, from)
  where
    to : IsGone gs i v ⊎ (v ≡ gone_values i x) → IsGone (gs ++ x ∷ []) i v
    to (inl h) = record { message = h.message; there = has_left gs (x ∷ []) h.message h.there; shown = h.shown }
    to (inr is) = record { message = x; there = has_right gs (x ∷ []) x (inl refl); shown = is }

    from : IsGone (gs ++ x ∷ []) i v → IsGone gs i v ⊎ (v ≡ gone_values i x)
    from h = by (has_either gs (x ∷ []) h.message h.there)
      where
        by : Has gs h.message ⊎ Has (x ∷ []) h.message → IsGone gs i v ⊎ (v ≡ gone_values i x)
        by (inl there) = inl (record { message = h.message; there = there; shown = h.shown })
        by (inr (inl same)) = inr (h.shown ∙ ap (gone_values i) same)
        by (inr (inr none)) = absurd none

abbrev natural : ℤ → ℕ
natural (pos n) = n
natural (negsuc n) = n

-- the row is of the message with the UID
same_uid : (a b : ℕ) → Int (pos a) ≡ Int (pos b) → a ≡ b
same_uid a b e = ap natural (same_id (pos a) (pos b) e)

it_is : (i : ℤ) (x : Message) (uid : ℕ) → (IsIt i uid (message_values i x)) → (x.uid == uid) ≡ true
it_is i x uid it = eq-eqb x.uid uid (same_uid x.uid uid it.1)

uid_equal : (a b : ℕ) → (a == b) ≡ true → a ≡ b
uid_equal a b e = (Decides-eqb a b).0 e

-- ---- other flags

-- the message, by whether it has the UID
flags_put : (c : FlagChange) (x : Message) (b : Bool) → (x.uid == c.uid) ≡ b
    → flags_in c.uid c.flags c.place x ≡ cond b (record { uid = x.uid; date = x.date; octets = x.octets; flags = c.flags; place = c.place }) x
flags_put c x b e = ap (λ b. cond b (record { uid = x.uid; date = x.date; octets = x.octets; flags = c.flags; place = c.place }) x) e

abbrev WithFlags : (i : ℤ) → FlagChange → List Message → Row → Type 0
WithFlags i c ms v =
    (IsMessage ms i v × ¬ IsIt i c.uid v)
    ⊎ ((u : Row) × IsMessage ms i u × IsIt i c.uid u × (v ≡ with_flags (flag_bits c.flags) (keywords_text c.flags.keywords) (place_value c.place) u))

flagged : (i : ℤ) (c : FlagChange) (ms : List Message) (v : Row) → WithFlags i c ms v ↔ IsMessage (map (flags_in c.uid c.flags c.place) ms) i v
flagged i c ms v = (to, from)
  where
    f : Message → Message
    f x = flags_in c.uid c.flags c.place x

    other : (h : IsMessage ms i v) → ¬ IsIt i c.uid v → (b : Bool) → (h.message.uid == c.uid) ≡ b → IsMessage (map (flags_in c.uid c.flags c.place) ms) i v
    other h not true e = absurd (not (ap (λ (w : Row). column w 0) h.shown, ap (λ (w : Row). column w 1) h.shown ∙ ap (λ n. Int (pos n)) (uid_equal h.message.uid c.uid e)))
    other h not false e = record {
      message = f h.message;
      there = mapped_has f ms h.message h.there;
      shown = h.shown ∙ ap (message_values i) (sym (flags_put c h.message false e));
    }

    to : WithFlags i c ms v → IsMessage (map (flags_in c.uid c.flags c.place) ms) i v
    to (inl (h, not)) = other h not (h.message.uid == c.uid) refl
    to (inr (u, h, it, is)) = record {
      message = f h.message;
      there = mapped_has f ms h.message h.there;
      shown =
          is ∙ ap (with_flags (flag_bits c.flags) (keywords_text c.flags.keywords) (place_value c.place)) h.shown
          ∙ ap (message_values i) (sym (flags_put c h.message true (it_is i h.message c.uid (subst (IsIt i c.uid) h.shown it))));
    }

    from : IsMessage (map (flags_in c.uid c.flags c.place) ms) i v → WithFlags i c ms v
    from h = by (has_mapped f ms h.message h.there)
      where
        by : (x : Message) × Has ms x × (h.message ≡ f x) → WithFlags i c ms v
        by (x, there, is) = at (x.uid == c.uid) refl
          where
            at : (b : Bool) → (x.uid == c.uid) ≡ b → WithFlags i c ms v
            at true e = inr (
              message_values i x,
              record { message = x; there = there; shown = refl },
              (refl, ap (λ n. Int (pos n)) (uid_equal x.uid c.uid e)),
              h.shown ∙ ap (message_values i) (is ∙ flags_put c x true e),
            )
            at false e =
                let plain : v ≡ message_values i x = h.shown ∙ ap (message_values i) (is ∙ flags_put c x false e) in
                inl (record { message = x; there = there; shown = plain }, λ it. no e (it_is i x c.uid (subst (IsIt i c.uid) plain it)))
              where
                no : (x.uid == c.uid) ≡ false → (x.uid == c.uid) ≡ true → ⊥
                no f t = cc (sym f ∙ t)

-- ---- messages that go

left : (i : ℤ) (uid : ℕ) (ms : List Message) (v : Row) → (IsMessage ms i v × ¬ IsIt i uid v) ↔ IsMessage (without uid ms) i v
left i uid ms v = (to, from)
  where
    p : Message → Bool
    p m = not (m.uid == uid)

    to : IsMessage ms i v × ¬ IsIt i uid v → IsMessage (without uid ms) i v
    to (h, not_it) = by (h.message.uid == uid) refl
      where
        by : (b : Bool) → (h.message.uid == uid) ≡ b → IsMessage (without uid ms) i v
        by true e = absurd (not_it (ap (λ (w : Row). column w 0) h.shown, ap (λ (w : Row). column w 1) h.shown ∙ ap (λ n. Int (pos n)) (uid_equal h.message.uid uid e)))
        by false e = record { message = h.message; there = has_kept p ms h.message h.there (ap not e); shown = h.shown }

    from : IsMessage (without uid ms) i v → IsMessage ms i v × ¬ IsIt i uid v
    from h =
        let k = has_filtered p ms h.message h.there in
        (record { message = h.message; there = k.0; shown = h.shown }, λ it. no k.1 (it_is i h.message uid (subst (IsIt i uid) h.shown it)))
      where
        no : not (h.message.uid == uid) ≡ true → (h.message.uid == uid) ≡ true → ⊥
        no kept e = cc (sym kept ∙ ap not e)

-- ---- lists of them

module _ (B : World) (id : Name → ℤ) (kept : Name → Kept) (i : ℤ) (free : IsFree B id i) (own : Row) (E : Row → Type 0) where
  abbrev Has4 : Trees → List Message → (G K : Row → Type 0) → Type 0
  Has4 db ms G K = IsBeside B id kept db own E (IsMessage ms i) G K

  there_alike : (db : Trees) (M : Row → Type 0) (ms : List Message) (G K : Row → Type 0) → ((v : Row) → M v ↔ IsMessage ms i v) → IsBeside B id kept db own E M G K → Has4 db ms G K
  there_alike db M ms G K iff b = alike B id kept db own E M G K b E (IsMessage ms i) G K (λ v. (λ h. h, λ h. h)) iff (λ v. (λ h. h, λ h. h)) (λ v. (λ h. h, λ h. h))

  pub all_added : (xs ms : List Message) (db new : Trees) (G K : Row → Type 0) → MakesBelowAll i (map message_step xs) db new → Has4 db ms G K → Has4 new (ms ++ xs) G K
  all_added [] ms db new G K made b = subst (λ l. Has4 new l G K) (sym (append-nil ms)) (subst (λ (d : Trees). Has4 d ms G K) (sym made) b)
  all_added (x ∷ xs) ms db new G K (mid, adds, rest) b =
      subst (λ l. Has4 new l G K) (append_assoc ms (x ∷ []) xs)
      (all_added xs (ms ++ x ∷ []) mid new G K rest
      (there_alike mid (λ v. IsMessage ms i v ⊎ (v ≡ message_values i x)) (ms ++ x ∷ []) G K (message_more i ms x) (message_added B id kept db mid own E (IsMessage ms i) G K b (message_values i x) adds)))

  pub all_flagged : (cs : List FlagChange) (ms : List Message) (db new : Trees) (G K : Row → Type 0) → MakesBelowAll i (map flag_step cs) db new → Has4 db ms G K → Has4 new (with_flag_changes cs ms) G K
  all_flagged [] ms db new G K made b = subst (λ (d : Trees). Has4 d ms G K) (sym made) b
  all_flagged (c ∷ cs) ms db new G K (mid, flags, rest) b =
      all_flagged cs (map (flags_in c.uid c.flags c.place) ms) mid new G K rest
      (there_alike mid (WithFlags i c ms) (map (flags_in c.uid c.flags c.place) ms) G K (flagged i c ms)
      (message_flagged B id kept db mid own E (IsMessage ms i) G K b i free c.uid (flag_bits c.flags) (keywords_text c.flags.keywords) (place_value c.place) flags))

  pub all_removed : (uids : List ℕ) (ms : List Message) (db new : Trees) (G K : Row → Type 0) → MakesBelowAll i (map RemoveMessage uids) db new → Has4 db ms G K → Has4 new (without_all uids ms) G K
  all_removed [] ms db new G K made b = subst (λ l. Has4 new l G K) (sym (all_stay ms)) (subst (λ (d : Trees). Has4 d ms G K) (sym made) b)
  all_removed (uid ∷ uids) ms db new G K (mid, removes, rest) b =
      subst (λ l. Has4 new l G K) (filter_twice uid uids ms)
      (all_removed uids (without uid ms) mid new G K rest
      (there_alike mid (λ v. IsMessage ms i v × ¬ IsIt i uid v) (without uid ms) G K (left i uid ms) (message_removed B id kept db mid own E (IsMessage ms i) G K b i free uid removes)))

  pub all_gone : (xs gs : List GoneMessage) (ms : List Message) (db new : Trees) (K : Row → Type 0) → MakesBelowAll i (map gone_step xs) db new → Has4 db ms (IsGone gs i) K → Has4 new ms (IsGone (gs ++ xs) i) K
  all_gone [] gs ms db new K made b = subst (λ l. Has4 new ms (IsGone l i) K) (sym (append-nil gs)) (subst (λ (d : Trees). Has4 d ms (IsGone gs i) K) (sym made) b)
  all_gone (x ∷ xs) gs ms db new K (mid, adds, rest) b =
      subst (λ l. Has4 new ms (IsGone l i) K) (append_assoc gs (x ∷ []) xs)
      (all_gone xs (gs ++ x ∷ []) ms mid new K rest
      (alike B id kept mid own E (IsMessage ms i) (λ v. IsGone gs i v ⊎ (v ≡ gone_values i x)) K (gone_added B id kept db mid own E (IsMessage ms i) (IsGone gs i) K b (gone_values i x) adds)
      E (IsMessage ms i) (IsGone (gs ++ x ∷ []) i) K (λ v. (λ h. h, λ h. h)) (λ v. (λ h. h, λ h. h)) (gone_more i gs x) (λ v. (λ h. h, λ h. h))))
