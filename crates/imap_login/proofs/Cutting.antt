-- A login by its octets, wherever they are cut.
use Rattle.std.proofs.Common.{◌≡◌, ℕ, Bool, true, false, List, [], ◌∷◌, ◌++◌, refl, sym, ap}
use Rattle.std.proofs.lemmas.List.{append_assoc}
use Rattle.imap_login.specs.Credentials.{Known}
use Rattle.imap_login.specs.Laws.{AnyCut, followed}
use Rattle.imap_login.specs.Login.{Heard, LoginState, heard, is_waiting, octet_answer, octet_state, unheard, with_text}

-- a client that has entered or is to leave is heard no more
ended : (known : Known) (state : LoginState) (octets : List ℕ) → is_waiting state.progress.stage ≡ false → heard known state octets ≡ unheard state octets
ended known state [] e = refl
ended known state (b ∷ octets) e = rw e refl

text_before : (known : Known) (text : List ℕ) (first : Heard) (octets : List ℕ) (v : Bool) → is_waiting first.state.progress.stage ≡ v → followed known (with_text text first) octets ≡ with_text text (followed known first octets)
text_before known text first octets true e = rw e (ap (λ t. record { text = t; state = (heard known first.state octets).state; unread = (heard known first.state octets).unread }) (append_assoc text first.text (heard known first.state octets).text))
text_before known text first octets false e = rw e refl

none_first : (known : Known) (state : LoginState) (second : List ℕ) (v : Bool) → is_waiting state.progress.stage ≡ v → heard known state second ≡ followed known (unheard state []) second
none_first known state second true e = rw e refl
none_first known state second false e = rw (e, ended known state second e) refl

some_first : (known : Known) (state : LoginState) (b : ℕ) (first second : List ℕ) (v : Bool) → is_waiting state.progress.stage ≡ v → heard known (octet_state known state b) (first ++ second) ≡ followed known (heard known (octet_state known state b) first) second → heard known state (b ∷ (first ++ second)) ≡ followed known (heard known state (b ∷ first)) second
some_first known state b first second true e later =
    let next = heard known (octet_state known state b) first in
    rw (e, later) (sym (text_before known (octet_answer known state b).text next second (is_waiting next.state.progress.stage) refl))
some_first known state b first second false e later = rw (e, e) refl

pub any_cut : AnyCut
any_cut known state [] second = none_first known state second (is_waiting state.progress.stage) refl
any_cut known state (b ∷ first) second =
    some_first known state b first second (is_waiting state.progress.stage) refl (any_cut known (octet_state known state b) first second)
