use Rattle.std.proofs.Common.{◌≡◌, Some, None, sym, ap, subst, ◌∙◌, arith, set, length-set}
use Rattle.std.specs.List.{position}
use Rattle.std.specs.Prelude.{Option, OnOk}
use Rattle.std.specs.FinMap as map
use Rattle.std.proofs.lemmas.List.Quantifiers.{position-Some}
use Rattle.imap_sessions.specs.Held.{HasKnownRoom, HeldSession}
use Rattle.imap_sessions.specs.Sessions.{HeldOwn}
use Rattle.imap_sessions.proofs.Opened.{apart_set, has_number, held_at, held_nowhere, held_put, held_set, states_set}
use Rattle.imap_sessions.proofs.Roomless.{own_same, room_put}
use Rattle.imap_sessions.proofs.sessions.OwnSessions.reserve.Goals as goal

pub invariant_of-self : goal.invariant_of-self
invariant_of-self c =
    let k = c.args.number in
    let es = c.self.inside.entries.items in
    let i = c.in-Some.index in
    let e = c.index_mut.result.now in
    let f = c.reserve_in.new.entry in
    let at : position (has_number k) es ≡ Some i = ap (position (has_number k)) (sym c.deref.ensures.value) ∙ sym c.index_of.ensures ∙ c.in-Some.is in
    let first = position-Some (has_number k) es i e at in
    record {
      apart = apart_set es i e f first.0 c.index_mut.ensures.value c.reserve_in.ensures.number ∙ c.self.invariant.apart;
      few = omega (arith, length-set es i f, c.self.invariant.few);
      room = c.self.invariant.room;
    }

pub returns-in-Some-clause-unchanged : goal.returns-in-Some-clause-unchanged
returns-in-Some-clause-unchanged c =
    let k = c.args.number in
    let es = c.self.inside.entries.items in
    let i = c.in-Some.index in
    let e = c.index_mut.result.now in
    let f = c.reserve_in.new.entry in
    let at : position (has_number k) es ≡ Some i = ap (position (has_number k)) (sym c.deref.ensures.value) ∙ sym c.index_of.ensures ∙ c.in-Some.is in
    let first = position-Some (has_number k) es i e at in
    own_same (set es i f) es c.args.self.now (states_set es i e f first.0 c.index_mut.ensures.value c.reserve_in.ensures.number c.reserve_in.ensures.state) c.self.view_is

pub returns-in-Some-clause-ok : goal.returns-in-Some-clause-ok
returns-in-Some-clause-ok c =
    let k = c.args.number in
    let es = c.self.inside.entries.items in
    let i = c.in-Some.index in
    let e = c.index_mut.result.now in
    let f = c.reserve_in.new.entry in
    let at : position (has_number k) es ≡ Some i = ap (position (has_number k)) (sym c.deref.ensures.value) ∙ sym c.index_of.ensures ∙ c.in-Some.is in
    subst (λ (o : Option HeldSession). OnOk c.reserve_in.result (HasKnownRoom c.args.more o))
    (sym (held_put k es i e f at c.index_mut.ensures.value c.reserve_in.ensures.number)) c.reserve_in.ensures.ok

pub returns-in-Some-clause-room : goal.returns-in-Some-clause-room
returns-in-Some-clause-room c =
    let k = c.args.number in
    let es = c.self.inside.entries.items in
    let i = c.in-Some.index in
    let e = c.index_mut.result.now in
    let f = c.reserve_in.new.entry in
    let at : position (has_number k) es ≡ Some i = ap (position (has_number k)) (sym c.deref.ensures.value) ∙ sym c.index_of.ensures ∙ c.in-Some.is in
    room_put c.args.self.now _ k e.1 f.1 (ap (λ (own : HeldOwn). map.get own k) (sym c.self.view_is) ∙ held_at k es i e at c.index_mut.ensures.value) c.reserve_in.ensures.room
    (held_set k es i e f at c.index_mut.ensures.value c.reserve_in.ensures.number ∙ ap (λ (own : HeldOwn). map.insert own k f.1) c.self.view_is)

pub returns-in-None-clause-ok : goal.returns-in-None-clause-ok
returns-in-None-clause-ok c =
    let k = c.args.number in
    let es = c.self.inside.entries.items in
    let at : position (has_number k) es ≡ None = ap (position (has_number k)) (sym c.deref.ensures.value) ∙ sym c.index_of.ensures ∙ c.in-None.is in
    subst (λ (o : Option HeldSession). HasKnownRoom c.args.more o)
    (sym (ap (λ (own : HeldOwn). map.get own k) (sym c.self.view_is) ∙ held_nowhere k es at)) tt

pub returns-in-None-clause-room : goal.returns-in-None-clause-room
returns-in-None-clause-room c = λ other. omega arith
