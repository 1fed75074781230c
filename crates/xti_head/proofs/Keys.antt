-- The keys of a table, and those of the members that it stands for.
use Rattle.std.proofs.Common.{◌≡◌, ℕ, Bool, List, [], ◌∷◌, ◌&&◌, refl, ap, String, Global, string_bytes}
use Rattle.std.specs.List.{list_all}
use Rattle.std.specs.Map.{keys_of}
use Rattle.toml.specs.View.{members_view}
use Rattle.toml.specs.declared.value.Value.{Value}
use Rattle.xti_head.specs.Head.{keys_pass}

pub keys_pass-entries : (p : List ℕ → Bool) (es : List (String Global × Value))
    → keys_pass p (members_view es) ≡ list_all (λ k. p (string_bytes k)) (keys_of es)
keys_pass-entries p [] = refl
keys_pass-entries p (e ∷ es) = ap (λ b. p (string_bytes e.0) && b) (keys_pass-entries p es)
