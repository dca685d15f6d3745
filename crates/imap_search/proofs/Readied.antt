-- Keys that were made ready find the messages that the keys of the command find.
use Rattle.std.proofs.Common.{rules, Vec, Global, ◌≡◌, ◌∙◌, ℕ, ◌&&◌, List, refl, sym, ap}
use Rattle.std.specs.List.{list_all}
use Rattle.imap_query.specs.Keys.{Key, group, keys_of, Token, all_tokens}
use Rattle.imap_search.specs.declared.ready_key.ReadyKey.{ReadyKey, Row_of-ReadyKey, end_of-ReadyKey, more_of-ReadyKey, items-the_row-ReadyKey}
use Rattle.imap_search.specs.declared.ready_key.ReadyKey.TheViews.{Group, the_lemmas}
use Rattle.imap_search.specs.Finds.{Candidate, finds}
use Rattle.imap_search.specs.Ready.{AreReady, AreReadyFor, IsReady, finds_ready, finds_row}
use Rattle.imap_search.specs.Search.{candidate_of}
use Rattle.imap_search.specs.Tokens.{finds_all}
use Rattle.imap_search.proofs.Finding.{each-all, tokens_find}

row_all : (c : Candidate) (n : _) (row : Row_of-ReadyKey n) → finds_row c row ≡ list_all (finds_ready c) (items-the_row-ReadyKey n row)
row_all c _ end_of-ReadyKey = refl
row_all c _ (more_of-ReadyKey key others) = ap (λ b. finds_ready c key && b) (row_all c _ others)

pub group_all : (c : Candidate) (keys : Vec ReadyKey Global) → finds_ready c (Group keys) ≡ list_all (finds_ready c) keys.items
group_all c keys = search (rules, the_lemmas, row_all)

pub group_ready : (last last_uid : ℕ) (ready : Vec ReadyKey Global) (keys : List Key) (key : Key) → key ≡ group (keys_of keys) → AreReady last last_uid ready.items keys
    → IsReady last last_uid (Group ready) key
group_ready last last_uid ready keys key is each number row =
    let c = candidate_of last last_uid number row in
    group_all c ready ∙ each number row ∙ sym (each-all c keys) ∙ ap (finds c) (sym is)

-- those of a whole command find what its tokens find
pub command_ready : (last last_uid : ℕ) (ready : List ReadyKey) (keys : List Key) (found : List Token) → all_tokens keys ≡ found → AreReady last last_uid ready keys
    → AreReadyFor found last last_uid ready
command_ready last last_uid ready keys found are each number row =
    let c = candidate_of last last_uid number row in
    each number row ∙ sym (tokens_find c keys) ∙ ap (finds_all c) are
