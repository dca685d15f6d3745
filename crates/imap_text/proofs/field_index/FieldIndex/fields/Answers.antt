use Rattle.std.proofs.Common.{◌≡◌, ◌∙◌, ap, sym, List, ℕ, true, false, Bool}
use Rattle.std.specs.List.{concat}
use Rattle.std.proofs.lemmas.Result.{IfOk-weaker}
use Rattle.imap_text.specs.Fields.{fields}
use Rattle.imap_text.specs.Places.{all_at, others_from, places_named}
use Rattle.imap_text.proofs.AskedNames.{places_are}
use Rattle.imap_text.proofs.Bounds.{two_bounds, others_ready, others_found, named_ready, named_found}
use Rattle.imap_text.proofs.field_index.FieldIndex.fields.Goals as goal

pub unplaced_parts-requires : goal.unplaced_parts-requires
unplaced_parts-requires c =
    let octets = c.self.inside.octets.now in
    let names = c.args.names.now in
    let are : c.in_ok-places.places.items ≡ places_named names octets =
    places_are names octets c.self.inside.named c.in_ok-places.places.items c.in_ok-places.ensures.order c.in_ok-places.ensures.places c.self.invariant.named in
    others_ready names c.args.message.now octets c.as_slice-bounds.result.now c.as_slice.result.now (c.requires ∙ sym c.self.view_is) (c.as_slice-bounds.ensures.value ∙ c.self.invariant.bounds) (c.as_slice.ensures.value ∙ are)

pub returns-then-not : goal.returns-then-not
returns-then-not c =
    let octets = c.self.inside.octets.now in
    let names = c.args.names.now in
    let message = c.args.message.now in
    let bounds : List ℕ = c.as_slice-bounds.result.now in
    let places : List ℕ = c.as_slice.result.now in
    let are : c.in_ok-places.places.items ≡ places_named names octets =
    places_are names octets c.self.inside.named c.in_ok-places.places.items c.in_ok-places.ensures.order c.in_ok-places.ensures.places c.self.invariant.named in
    IfOk-weaker c.unplaced_parts.result (λ parts. concat parts ≡ others_from message bounds 0 places) (λ parts. concat parts ≡ fields names c.args.not c.args.self.now)
    (λ parts is. is ∙ others_found names message octets bounds places (c.requires ∙ sym c.self.view_is) (c.as_slice-bounds.ensures.value ∙ c.self.invariant.bounds) (c.as_slice.ensures.value ∙ are)
    ∙ ap (fields names true) c.self.view_is ∙ ap (λ (b : Bool). fields names b c.args.self.now) (sym c.if-not.true))
    c.unplaced_parts.ensures

pub overflow_sub-bounds : goal.overflow_sub-bounds
overflow_sub-bounds c = two_bounds c.self.inside.octets.now c.as_slice-bounds.result.now (c.as_slice-bounds.ensures.value ∙ c.self.invariant.bounds)

pub placed_parts-requires : goal.placed_parts-requires
placed_parts-requires c =
    let octets = c.self.inside.octets.now in
    let names = c.args.names.now in
    let are : c.in_ok-places.places.items ≡ places_named names octets =
    places_are names octets c.self.inside.named c.in_ok-places.places.items c.in_ok-places.ensures.order c.in_ok-places.ensures.places c.self.invariant.named in
    named_ready names c.args.message.now octets c.as_slice-bounds.result.now c.in_ok-places.places.items c.as_slice-2.result.now (c.requires ∙ sym c.self.view_is) (c.as_slice-bounds.ensures.value ∙ c.self.invariant.bounds) are
    (c.as_slice-2.ensures.value ∙ c.in_ok-push.ensures.items)

pub returns : goal.returns
returns c =
    let octets = c.self.inside.octets.now in
    let names = c.args.names.now in
    let message = c.args.message.now in
    let bounds : List ℕ = c.as_slice-bounds.result.now in
    let places : List ℕ = c.as_slice-2.result.now in
    let are : c.in_ok-places.places.items ≡ places_named names octets =
    places_are names octets c.self.inside.named c.in_ok-places.places.items c.in_ok-places.ensures.order c.in_ok-places.ensures.places c.self.invariant.named in
    IfOk-weaker c.placed_parts.result (λ parts. concat parts ≡ all_at message bounds places) (λ parts. concat parts ≡ fields names c.args.not c.args.self.now)
    (λ parts is. is ∙ named_found names message octets bounds c.in_ok-places.places.items places (c.requires ∙ sym c.self.view_is) (c.as_slice-bounds.ensures.value ∙ c.self.invariant.bounds) are
    (c.as_slice-2.ensures.value ∙ c.in_ok-push.ensures.items)
    ∙ ap (fields names false) c.self.view_is ∙ ap (λ (b : Bool). fields names b c.args.self.now) (sym c.if-not.false))
    c.placed_parts.ensures
