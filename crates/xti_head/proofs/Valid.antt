-- What a head gives is valid.
use Rattle.std.proofs.Common.{◌≡◌, ℕ, Bool, true, false, cond, List, Option, Some, None, refl}
use Rattle.std.specs.Prelude.{option_and_then}
use Rattle.toml.specs.Data.{Members}
use Rattle.toml.specs.Parse.{parse_document}
use Rattle.xti_model.specs.Profile.{usual_of, valid}
use Rattle.xti_model.specs.declared.profile.Providers.{Providers}
use Rattle.xti_model.specs.declared.profile.Version.{Version}
use Rattle.xti_words.specs.Texts.{is_ascii}
use Rattle.xti_head.specs.Head.{is_provider, keys_pass, set_over, valid_only, providers_of, head_of}

valid_one : (b : Bool) (q p : Providers) → valid q ≡ b → cond b (Some q) None ≡ Some p → valid p ≡ true
valid_one true q p v e = let s : q ≡ p = cc in rw (← s) v
valid_one false q p v e = absurd cc

valid_set : (o : Option Providers) (p : Providers) → option_and_then valid_only o ≡ Some p → valid p ≡ true
valid_set None p e = absurd cc
valid_set (Some q) p e = valid_one (valid q) q p refl e

pub tested : {A : Type 0} (b : Bool) (o : Option A) (p : A) → cond b o None ≡ Some p → o ≡ Some p
tested true o p e = e
tested false o p e = absurd cc

tables_valid : (version : Version) (o : Option Members) (p : Providers) → option_and_then (providers_of version) o ≡ Some p → valid p ≡ true
unfolding providers_of
tables_valid version None p e = absurd cc
tables_valid version (Some tables) p e = valid_set (set_over (usual_of version) tables) p (tested (keys_pass is_provider tables) _ p e)

pub head_valid : (version : Version) (text : List ℕ) (p : Providers) → head_of version text ≡ Some p → valid p ≡ true
unfolding head_of
head_valid version text p e = tables_valid version (parse_document text) p (tested (is_ascii text) _ p e)
