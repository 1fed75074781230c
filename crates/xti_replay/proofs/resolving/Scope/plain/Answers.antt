use Rattle.std.proofs.Common.{◌≡◌, List, ℕ, Some, None, true, sym, ap, ◌∙◌}
use Rattle.std.proofs.lemmas.Option.{none-some, same_Some}
use Rattle.xti_model.specs.declared.call.Call.{Call}
use Rattle.xti_model.specs.declared.script.NamedCall.{NamedCall}
use Rattle.xti_model.specs.declared.script.NamedCall.TheVariants as named
use Rattle.xti_model.specs.declared.entry.Act.{Act}
use Rattle.xti_model.specs.declared.entry.Act.TheVariants.{Begin}
use Rattle.xti_model.specs.Resolve.{Meanings, with_numbers}
use Rattle.xti_verbs.specs.declared.verb.Verb.{Verb}
use Rattle.xti_verbs.specs.Verbs.{is_plain, plain_call, plain_name, verb_of_named}
use Rattle.xti_replay.specs.Known.{meanings_in}
use Rattle.xti_replay.proofs.resolving.Scope.plain.Goals as goal

-- a call that names no more than an endpoint, with the endpoint's number
plain_numbered : (m : Meanings) (call : NamedCall) (name : List ℕ) (made : Call) → Some name ≡ plain_name call → Some made ≡ plain_call (verb_of_named call) (m.fd name) → made ≡ with_numbers m call
plain_numbered m (named.TClose fd) name made n e = same_Some _ _ e ∙ ap (λ x. with_numbers m (named.TClose x)) (same_Some _ _ n)
plain_numbered m (named.TUnbind fd) name made n e = same_Some _ _ e ∙ ap (λ x. with_numbers m (named.TUnbind x)) (same_Some _ _ n)
plain_numbered m (named.TSndRel fd) name made n e = same_Some _ _ e ∙ ap (λ x. with_numbers m (named.TSndRel x)) (same_Some _ _ n)
plain_numbered m (named.TRcvRel fd) name made n e = same_Some _ _ e ∙ ap (λ x. with_numbers m (named.TRcvRel x)) (same_Some _ _ n)
plain_numbered m (named.TLookAt fd) name made n e = same_Some _ _ e ∙ ap (λ x. with_numbers m (named.TLookAt x)) (same_Some _ _ n)
plain_numbered m (named.TGetState fd) name made n e = same_Some _ _ e ∙ ap (λ x. with_numbers m (named.TGetState x)) (same_Some _ _ n)
plain_numbered m (named.TSync fd) name made n e = same_Some _ _ e ∙ ap (λ x. with_numbers m (named.TSync x)) (same_Some _ _ n)
plain_numbered m (named.TGetInfo fd) name made n e = same_Some _ _ e ∙ ap (λ x. with_numbers m (named.TGetInfo x)) (same_Some _ _ n)
plain_numbered m other name made n e = absurd (none-some _ (sym n))

-- it has a name
plain_named : (call : NamedCall) → is_plain (verb_of_named call) ≡ true → None ≡ plain_name call → ⊥
plain_named (named.TClose fd) k n = none-some _ n
plain_named (named.TUnbind fd) k n = none-some _ n
plain_named (named.TSndRel fd) k n = none-some _ n
plain_named (named.TRcvRel fd) k n = none-some _ n
plain_named (named.TLookAt fd) k n = none-some _ n
plain_named (named.TGetState fd) k n = none-some _ n
plain_named (named.TSync fd) k n = none-some _ n
plain_named (named.TGetInfo fd) k n = none-some _ n
plain_named other k n = cc

-- and it is plain
begun-plain : (m : Meanings) (call : NamedCall) (name : List ℕ) (made : Call) (new : Act) → Some name ≡ plain_name call → Some made ≡ plain_call (verb_of_named call) (m.fd name) → new ≡ Begin made → new ≡ Begin (with_numbers m call)
begun-plain m call name made new n e b = b ∙ ap Begin (plain_numbered m call name made n e)

pub plain_call-requires : goal.plain_call-requires
plain_call-requires c = ap is_plain c.of_named.ensures ∙ c.requires.kind

pub set-requires : goal.set-requires
set-requires c = c.requires.none

pub unreachable-requires : goal.unreachable-requires
unreachable-requires c = plain_named c.args.call.now c.requires.kind c.in-None.ensures

pub returns : goal.returns
returns c =
    let m = meanings_in c.args.self.now in
    let v = verb_of_named c.args.call.now in
    begun-plain m c.args.call.now c.in-Some.name.now c.plain_call.result c.set.new.act c.in-Some.ensures
    (c.plain_call.ensures ∙ (ap (λ (u : Verb). plain_call u c.fd.result) c.of_named.ensures ∙ ap (plain_call v) c.fd.ensures)) c.set.ensures
