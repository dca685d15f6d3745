-- One more event at the end.
use Rattle.std.proofs.Common.{◌≡◌, ℕ, suc, ◌+◌, List, [], ◌∷◌, ◌++◌, length, refl, ap, ◌∙◌, arith}
use Rattle.imap_mailbox.specs.Rows.{Event, Entry, Row, row_step, rows_from, gone_step, gone_from, uid_step, uids_from, next_step, next_from}

shifted : (n k : ℕ) → n + 1 + k ≡ n + suc k
shifted n k = omega arith

pub rows_from-push : (n : ℕ) (es : List Entry) (e : Entry) (rows : List Row) → rows_from n (es ++ e ∷ []) rows ≡ row_step (n + length es) e (rows_from n es rows)
rows_from-push n [] e rows = ap (λ k. row_step k e rows) (let z : n ≡ n + 0 = omega arith in z)
rows_from-push n (x ∷ es) e rows = rows_from-push (n + 1) es e (row_step n x rows) ∙ ap (λ k. row_step k e (rows_from (n + 1) es (row_step n x rows))) (shifted n (length es))

pub gone_from-push : (n : ℕ) (es : List Entry) (e : Entry) (gone : List (ℕ × ℕ)) → gone_from n (es ++ e ∷ []) gone ≡ gone_step (n + length es) e (gone_from n es gone)
gone_from-push n [] e gone = ap (λ k. gone_step k e gone) (let z : n ≡ n + 0 = omega arith in z)
gone_from-push n (x ∷ es) e gone = gone_from-push (n + 1) es e (gone_step n x gone) ∙ ap (λ k. gone_step k e (gone_from (n + 1) es (gone_step n x gone))) (shifted n (length es))

pub uids_from-push : (es : List Event) (e : Event) (uids : List ℕ) → uids_from (es ++ e ∷ []) uids ≡ uid_step e (uids_from es uids)
uids_from-push [] e uids = refl
uids_from-push (x ∷ es) e uids = uids_from-push es e (uid_step x uids)

pub next_from-push : (es : List Event) (e : Event) (next : ℕ) → next_from (es ++ e ∷ []) next ≡ next_step e (next_from es next)
next_from-push [] e next = refl
next_from-push (x ∷ es) e next = next_from-push es e (next_step x next)

pub rows_from-append : (n k : ℕ) (a b : List Entry) (rows : List Row) → k ≡ n + length a → rows_from n (a ++ b) rows ≡ rows_from k b (rows_from n a rows)
rows_from-append n k [] b rows at = ap (λ m. rows_from m b rows) (let z : n ≡ k = omega arith in z)
rows_from-append n k (e ∷ a) b rows at = rows_from-append (n + 1) k a b (row_step n e rows) (omega arith)

pub gone_from-append : (n k : ℕ) (a b : List Entry) (gone : List (ℕ × ℕ)) → k ≡ n + length a → gone_from n (a ++ b) gone ≡ gone_from k b (gone_from n a gone)
gone_from-append n k [] b gone at = ap (λ m. gone_from m b gone) (let z : n ≡ k = omega arith in z)
gone_from-append n k (e ∷ a) b gone at = gone_from-append (n + 1) k a b (gone_step n e gone) (omega arith)
