-- Worked heads.
use Rattle.std.proofs.Common.{◌≡◌, refl, true, Some, None, codes}
use Rattle.toml.proofs.OnLiterals.{toml_on_literals}
use Rattle.xti_base.specs.declared.limit.Limit.TheVariants.{At, Infinite}
use Rattle.xti_model.specs.Profile.{usual, usual_two}
use Rattle.xti_model.specs.declared.profile.Version.TheVariants.{One, Two}
use Rattle.xti_head.specs.Head.{head_of, providers_of, profile_of, profile_with}

nothing_set : head_of One (codes "") ≡ Some usual
unfolding toml_on_literals head_of providers_of profile_of profile_with
nothing_set = refl

without_limit : head_of One (codes "[ticots]\ntsdu = -1\nsame_addr = true\n") ≡ Some (record usual { ticots = record (usual.ticots) { tsdu = Infinite; same_addr = true } })
unfolding toml_on_literals head_of providers_of profile_of profile_with
without_limit = refl

-- the usual stream has no empty messages
stream_with_empty : head_of One (codes "[ticotsord]\nsendzero = true\n") ≡ None
unfolding toml_on_literals head_of providers_of profile_of profile_with
stream_with_empty = refl

messages_with_empty : head_of One (codes "[ticotsord]\nsendzero = true\ntsdu = 9\n") ≡ Some (record usual { ticotsord = record (usual.ticotsord) { tsdu = At 9; sendzero = true } })
unfolding toml_on_literals head_of providers_of profile_of profile_with
messages_with_empty = refl

no_listener : head_of One (codes "[ticlts]\nsame_addr = false\n") ≡ None
unfolding toml_on_literals head_of providers_of profile_of profile_with
no_listener = refl

unknown_key : head_of One (codes "[ticots]\nqlen = 8\n") ≡ None
unfolding toml_on_literals head_of providers_of profile_of profile_with
unknown_key = refl

-- what toml takes for a number and a table
other_forms : head_of One (codes "ticlts = { tsdu = 0x400 }\n") ≡ Some (record usual { ticlts = record (usual.ticlts) { tsdu = At 1024 } })
unfolding toml_on_literals head_of providers_of profile_of profile_with
other_forms = refl

-- version 2 alone tells of releases, of ticotsord alone
with_data : head_of Two (codes "[ticotsord]\nreldata = true\n") ≡ Some (record usual_two { ticotsord = record (usual_two.ticotsord) { reldata = true } })
unfolding toml_on_literals head_of providers_of profile_of profile_with
with_data = refl

without_data : head_of Two (codes "[ticots]\ntsdu = 9\n") ≡ Some (record usual_two { ticots = record (usual_two.ticots) { tsdu = At 9 } })
unfolding toml_on_literals head_of providers_of profile_of profile_with
without_data = refl

data_in_one : head_of One (codes "[ticotsord]\nreldata = false\n") ≡ None
unfolding toml_on_literals head_of providers_of profile_of profile_with
data_in_one = refl

data_of_another : head_of Two (codes "[ticots]\nreldata = false\n") ≡ None
unfolding toml_on_literals head_of providers_of profile_of profile_with
data_of_another = refl
