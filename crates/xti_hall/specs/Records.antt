-- What a journal has of its history.
use Rattle.std.specs.Prelude.{◌≡◌, ◌+◌, ◌<◌, ◌^◌, ◌∷◌, ◌++◌, [], true, List, Option, option_map, vec_len, vec_capacity, IfSome}
use Rattle.xti_model.specs.declared.entry.Entry.{Entry}
use Rattle.xti_hall_rule.specs.declared.view.Journal.{Journal}
use Rattle.xti_hall_rule.specs.Rule.{recorded}

-- the entries that it keeps
abbrev pub kept_in : Journal → Option (List Entry)
kept_in j = option_map (λ v. v.items) j.kept

-- there is room for one more entry, and the length can grow
abbrev pub HasRoom : Journal → Type 0
HasRoom j = (j.length + 1 < 2 ^ 64) × IfSome j.kept (λ v. vec_len v < vec_capacity v)

-- both have as much of a history
abbrev pub HasSameLog : Journal → Journal → Type 0
HasSameLog old new = (new.length ≡ old.length) × (kept_in new ≡ kept_in old)

-- where the one keeps the entries of a history, the other keeps this one too
abbrev pub KeepsMore : Journal → Entry → Journal → Type 0
KeepsMore old e new =
    (h : List Entry) → kept_in old ≡ recorded true h → kept_in new ≡ recorded true (h ++ e ∷ [])
