use Rattle.std.proofs.Common.{ℕ, List, sym, ap, ◌∙◌, ◌≡◌, ◌<◌, ◌≤◌, subst, arith, ◌⊎◌, true, length, length-append, ◌++◌, ◌∷◌, []}
use Rattle.std.specs.FinMap as map
use Rattle.imap_session.specs.State.{new_session}
use Rattle.imap_sessions.specs.Held.{HeldSession}
use Rattle.imap_sessions.specs.Sessions.{Own, are_apart, own_of, states_of}
use Rattle.imap_sessions.proofs.Numbered.{numbered-put, are_apart-put, fewer_others, others}
use Rattle.imap_sessions.proofs.Opened.{states_apart, states_length, states_others, states_push}
use Rattle.imap_sessions.proofs.Roomless.{held, own_entries, view_own}
use Rattle.imap_sessions.proofs.sessions.OwnSessions.open.Goals as goal

-- fewer are left than may be open
fewer : (es : List (ℕ × HeldSession)) (k : ℕ) (m : Own) → m ≡ map.from_entries (states_of es) → are_apart es ≡ true → length es ≤ 16 → (map.len m < 16) ⊎ (map.contains_key m k ≡ true) → length (others k es) < 16
fewer es k m is apart few room =
    let left = fewer_others (states_of es) k (states_apart es ∙ apart) (omega (arith, states_length es, few)) (subst (λ (m : Own). (map.len m < 16) ⊎ (map.contains_key m k ≡ true)) is room) in
    omega (arith, left, ap length (states_others es k), states_length (others k es))

pub push_reserved-requires : goal.push_reserved-requires
push_reserved-requires c =
    let left = fewer c.self.inside.entries.items c.args.number (own_of c.args.self.now) (sym (view_own c.self.inside.entries.items c.args.self.now c.self.view_is)) c.self.invariant.apart c.self.invariant.few c.requires in
    omega (arith, left, ap length c.take_out.ensures.items, c.take_out.ensures.capacity, c.self.invariant.room)

pub invariant_of-self : goal.invariant_of-self
invariant_of-self c = record {
  apart = rw (c.push_reserved.ensures.items, c.take_out.ensures.items) (are_apart-put c.self.inside.entries.items c.args.number c.new.result c.self.invariant.apart);
  few = let left = fewer c.self.inside.entries.items c.args.number (own_of c.args.self.now) (sym (view_own c.self.inside.entries.items c.args.self.now c.self.view_is)) c.self.invariant.apart c.self.invariant.few c.requires in omega (arith, left, simp length-append at (ap length c.push_reserved.ensures.items), ap length c.take_out.ensures.items);
  room = omega (arith, c.push_reserved.ensures.capacity, c.take_out.ensures.capacity, c.self.invariant.room);
}

pub returns : goal.returns
returns c =
    let es = c.self.inside.entries.items in
    let k = c.args.number in
    let opened : ℕ × HeldSession = (k, c.new.result) in
    ap (λ (l : List (ℕ × HeldSession)). own_of (held l)) (c.push_reserved.ensures.items ∙ ap (λ l. l ++ opened ∷ []) c.take_out.ensures.items)
    ∙ own_entries (others k es ++ opened ∷ [])
    ∙ ap map.from_entries (states_push (others k es) opened ∙ (λ i. states_others es k i ++ (k, c.new.ensures i) ∷ []))
    ∙ numbered-put (states_of es) k new_session ∙ ap (λ (m : Own). map.insert m k new_session) (view_own es c.args.self.now c.self.view_is)
