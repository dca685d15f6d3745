use Rattle.std.proofs.Common.{◌≡◌, Some, None, sym, ap, subst, ◌∙◌, arith, set, length-set}
use Rattle.std.specs.List.{position}
use Rattle.std.specs.FinMap as map
use Rattle.std.proofs.lemmas.List.Quantifiers.{position-Some}
use Rattle.imap_sessions.specs.Held.{HasKnownRoom, HeldSession}
use Rattle.imap_sessions.specs.Planned.{MayTell, room_needed}
use Rattle.imap_sessions.specs.Sessions.{HeldOwn, Own, edited_if_open, with_edit}
use Rattle.imap_sessions.proofs.Opened.{apart_set, get_at, get_nowhere, has_number, held_at, own_set}
use Rattle.imap_sessions.proofs.Roomless.{own_entries, stated, view_own}
use Rattle.imap_sessions.proofs.sessions.OwnSessions.edit.Goals as goal

pub edit_in-requires-clause-told : goal.edit_in-requires-clause-told
edit_in-requires-clause-told c =
    let k = c.args.number in
    let es = c.self.inside.entries.items in
    let at : position (has_number k) es ≡ Some c.in-Some.index = ap (position (has_number k)) (sym c.deref.ensures.value) ∙ sym c.index_of.ensures ∙ c.in-Some.is in
    subst (λ o. MayTell o c.args.effect)
    (ap (λ (own : Own). map.get own k) (sym (view_own es c.args.self.now c.self.view_is))
    ∙ get_at (λ (h : HeldSession). h.state) k es c.in-Some.index c.index_mut.result.now at c.index_mut.ensures.value)
    c.requires.told

pub edit_in-requires-clause-room : goal.edit_in-requires-clause-room
edit_in-requires-clause-room c =
    let k = c.args.number in
    let es = c.self.inside.entries.items in
    let at : position (has_number k) es ≡ Some c.in-Some.index = ap (position (has_number k)) (sym c.deref.ensures.value) ∙ sym c.index_of.ensures ∙ c.in-Some.is in
    subst (HasKnownRoom (room_needed c.args.effect))
    (ap (λ (own : HeldOwn). map.get own k) (sym c.self.view_is) ∙ held_at k es c.in-Some.index c.index_mut.result.now at c.index_mut.ensures.value)
    c.requires.room

pub invariant_of-self : goal.invariant_of-self
invariant_of-self c =
    let k = c.args.number in
    let es = c.self.inside.entries.items in
    let i = c.in-Some.index in
    let e = c.index_mut.result.now in
    let f = c.edit_in.new.entry in
    let at : position (has_number k) es ≡ Some i = ap (position (has_number k)) (sym c.deref.ensures.value) ∙ sym c.index_of.ensures ∙ c.in-Some.is in
    let first = position-Some (has_number k) es i e at in
    record {
      apart = apart_set es i e f first.0 c.index_mut.ensures.value c.edit_in.ensures.number ∙ c.self.invariant.apart;
      few = omega (arith, length-set es i f, c.self.invariant.few);
      room = c.self.invariant.room;
    }

pub returns-in-Some : goal.returns-in-Some
returns-in-Some c =
    let k = c.args.number in
    let es = c.self.inside.entries.items in
    let i = c.in-Some.index in
    let e = c.index_mut.result.now in
    let f = c.edit_in.new.entry in
    let own : Own = stated es in
    let state = λ (h : HeldSession). h.state in
    let at : position (has_number k) es ≡ Some i = ap (position (has_number k)) (sym c.deref.ensures.value) ∙ sym c.index_of.ensures ∙ c.in-Some.is in
    own_entries (set es i f) ∙ own_set state k es i e f at c.index_mut.ensures.value c.edit_in.ensures.number
    ∙ ap (map.insert own k) c.edit_in.ensures.state
    ∙ ap (edited_if_open k c.args.effect own) (sym (get_at state k es i e at c.index_mut.ensures.value))
    ∙ ap (with_edit k c.args.effect) (view_own es c.args.self.now c.self.view_is)

pub returns-in-None : goal.returns-in-None
returns-in-None c =
    let k = c.args.number in
    let es = c.self.inside.entries.items in
    let own : Own = stated es in
    let state = λ (h : HeldSession). h.state in
    let at : position (has_number k) es ≡ None = ap (position (has_number k)) (sym c.deref.ensures.value) ∙ sym c.index_of.ensures ∙ c.in-None.is in
    sym (view_own es c.args.self.now c.self.view_is) ∙ ap (edited_if_open k c.args.effect own) (sym (get_nowhere state k es at)) ∙ ap (with_edit k c.args.effect) (view_own es c.args.self.now c.self.view_is)
