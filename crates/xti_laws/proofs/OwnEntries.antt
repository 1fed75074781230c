-- A worker's own entries.
use Rattle.std.proofs.Common.{ℕ, Bool, true, false, List, [], ◌∷◌, cond}
use Rattle.xti_model.specs.declared.entry.Entry.{Entry}
use Rattle.xti_model.specs.History.{own, is_own}

-- what holds of a list of entries as of each of them holds of those of a worker
pub own-kept : (All : List Entry → Type 0) → ((e : Entry) (es : List Entry) → All (e ∷ es) → All es) → ((e : Entry) (es kept : List Entry) → All (e ∷ es) → All kept → All (e ∷ kept)) → All [] → (es : List Entry) (worker : ℕ) → All es → All (own es worker)
own-kept All rest more none [] worker a = none
own-kept All rest more none (e ∷ es) worker a = go (is_own worker e) (own-kept All rest more none es worker (rest e es a))
  where
    go : (b : Bool) → All (own es worker) → All (cond b (e ∷ own es worker) (own es worker))
    go true k = more e es (own es worker) a k
    go false k = k
