-- The words of calls are told apart.
use Rattle.std.proofs.Common.{◌≡◌, ℕ, Bool, true, false, cond, List, [], ◌∷◌, length, Option, Some, None, refl, ap, subst, ◌∙◌}
use Rattle.std.specs.Prelude.{option_and_then}
use Rattle.std.specs.Str.{bytes_eq}
use Rattle.std.proofs.lemmas.Slice.Eq.{bytes_eq-Decides}
use Rattle.xti_model.specs.declared.profile.Version.{Version}
use Rattle.xti_verbs.specs.declared.verb.Verb.{Verb}
use Rattle.xti_verbs.specs.declared.verb.Verb.TheVariants.{Open, Close, Bind, Unbind, Connect, RcvConnect, Listen, Accept, Snd, SndV, Rcv, RcvV, SndDis, RcvDis, SndRel, RcvRel, SndRelData, RcvRelData, SndUData, SndVUData, RcvUData, RcvVUData, RcvUDErr, Look, GetState, Sync, GetInfo, GetProtAddr, OptMgmt, SetMode}
use Rattle.xti_verbs.specs.Verbs.{is_in_texts, row_of, verb_word, verbs_of_length, verb_among, verb_with, verb_in}

-- the verb that is found is the one of the word
found_is : (word : List ℕ) (vs : List Verb) (v : Verb) → verb_among word vs ≡ Some v → word ≡ verb_word v
found_is word [] v e = absurd cc
found_is word (w ∷ ws) v e = found_or word w ws v (bytes_eq word (verb_word w)) refl (found_is word ws v) e
  where
    found_or : (word : List ℕ) (w : Verb) (ws : List Verb) (v : Verb) (b : Bool) → bytes_eq word (verb_word w) ≡ b → (verb_among word ws ≡ Some v → word ≡ verb_word v) → cond b (Some w) (verb_among word ws) ≡ Some v → word ≡ verb_word v
    found_or word w ws v true t later e = let s : w ≡ v = cc in (bytes_eq-Decides word (verb_word w)).0 t ∙ ap verb_word s
    found_or word w ws v false t later e = later e

-- a call that has a word has this one
with_is : (word : List ℕ) (v : Verb) → verb_with word ≡ Some v → word ≡ verb_word v
unfolding verb_with
with_is word v e = found_is word (verbs_of_length (length word)) v e

-- each call is found for its word
is_with : (v : Verb) → verb_with (verb_word v) ≡ Some v
unfolding verb_with verbs_of_length row_of
is_with Open = refl
is_with Close = refl
is_with Bind = refl
is_with Unbind = refl
is_with Connect = refl
is_with RcvConnect = refl
is_with Listen = refl
is_with Accept = refl
is_with Snd = refl
is_with SndV = refl
is_with Rcv = refl
is_with RcvV = refl
is_with SndDis = refl
is_with RcvDis = refl
is_with SndRel = refl
is_with RcvRel = refl
is_with SndRelData = refl
is_with RcvRelData = refl
is_with SndUData = refl
is_with SndVUData = refl
is_with RcvUData = refl
is_with RcvVUData = refl
is_with RcvUDErr = refl
is_with Look = refl
is_with GetState = refl
is_with Sync = refl
is_with GetInfo = refl
is_with GetProtAddr = refl
is_with OptMgmt = refl
is_with SetMode = refl

-- what is found for a word has it, and stands in the version's texts
found : (version : Version) (word : List ℕ) (v : Verb) (o : Option Verb) → verb_with word ≡ o → option_and_then (λ w. cond (is_in_texts version w) (Some w) None) o ≡ Some v → (word ≡ verb_word v) × (is_in_texts version v ≡ true)
found version word v None o e = absurd cc
found version word v (Some w) o e = kept (is_in_texts version w) refl e
  where
    kept : (b : Bool) → is_in_texts version w ≡ b → cond b (Some w) None ≡ Some v → (word ≡ verb_word v) × (is_in_texts version v ≡ true)
    kept true t k = let s : w ≡ v = cc in (with_is word w o ∙ ap verb_word s, subst (λ (x : Verb). is_in_texts version x ≡ true) s t)
    kept false t k = absurd cc

-- a word is a call's where the call is found for it
pub verb_is : (version : Version) (word : List ℕ) (v : Verb) → verb_in version word ≡ Some v → word ≡ verb_word v
verb_is version word v e = (found version word v (verb_with word) refl e).0

-- each call of texts is found for its word
pub is_verb : (version : Version) (v : Verb) → is_in_texts version v ≡ true → verb_in version (verb_word v) ≡ Some v
is_verb version v t =
    ap (option_and_then (λ w. cond (is_in_texts version w) (Some w) None)) (is_with v) ∙ ap (λ (b : Bool). cond b (Some v) None) t

-- only those are found
pub is_known : (version : Version) (word : List ℕ) (v : Verb) → verb_in version word ≡ Some v → is_in_texts version v ≡ true
is_known version word v e = (found version word v (verb_with word) refl e).1
